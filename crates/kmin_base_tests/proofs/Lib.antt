pub mod SumRows
