pub mod WordValues
