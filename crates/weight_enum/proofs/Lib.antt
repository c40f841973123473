mod Ascending
mod PrimitiveParts
mod Sizes
mod InteriorPoints
mod Cutting
mod Listing
mod Places
mod Fronts
pub mod FirstSystems
mod TwiceTaken
mod LevelBeginnings
pub mod Refuting
