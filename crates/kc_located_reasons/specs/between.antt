pub mod PartsView
