pub mod Diamonds
pub mod PieceSteps
pub mod SingleParts
pub mod SingleListings
pub mod SingleSteps
pub mod SearchSteps
pub mod ListingSteps
