pub mod DilateCounts
pub mod Classes
pub mod Counters
pub mod KeptSteps
