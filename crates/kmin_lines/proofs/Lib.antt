pub mod Common
pub mod PieceLemmas
pub mod BagLemmas
pub mod Counted
pub mod LeftOver
pub mod LastLines
pub mod PathLemmas
pub mod SameLines
pub mod Words
mod WordRows
