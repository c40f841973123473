pub mod SetWords
mod Links
mod Closings
pub mod MeetRows
pub mod Orders
pub mod PartRanks
