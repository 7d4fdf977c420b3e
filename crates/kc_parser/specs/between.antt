pub mod EnclosingChoices
pub mod ListingView
pub mod MemoryFaults
pub mod SymbolTable
