pub mod LastMembers
pub mod RowBits
pub mod RidgeTests
pub mod Small
pub mod Appending
pub mod NewFacetTurns
pub mod MorePoints
pub mod Inside
pub mod SignTests
pub mod ValueLists
mod SegmentHull
