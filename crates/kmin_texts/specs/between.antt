pub mod KeptDetails
pub mod NoticeDetails
pub mod Wordings
