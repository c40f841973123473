pub mod Numbers
pub mod RoomSteps
pub mod Laws
