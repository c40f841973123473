pub mod Summands
pub mod Pairs
pub mod ThirdFacets
pub mod OneMore
pub mod NewFacets
