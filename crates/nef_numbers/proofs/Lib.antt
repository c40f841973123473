mod AlikeFaces
mod SameFaces
mod SameNumbers
mod ToldNumbers
mod LargeCoefficients
pub mod SingleNumbers
mod ConeSizes
mod RoomFacts
pub mod FoundParts
