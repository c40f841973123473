pub mod FacesBetween
pub mod LevelSums
pub mod PairNumbers
pub mod TurnedFaces
mod ExchangedNumbers
