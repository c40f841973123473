pub mod GrowthLists
pub mod Agreements
pub mod ReflexivePoints
pub mod NefWalks
pub mod ExampleSteps
