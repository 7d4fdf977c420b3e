pub mod WriterLemmas
pub mod Lists
pub mod Results
pub mod Statuses
pub mod CycleLines
pub mod LastLines
pub mod FileNameLemmas
