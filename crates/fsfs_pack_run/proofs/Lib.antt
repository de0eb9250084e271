pub mod Keeping
pub mod FloorNow
pub mod Floors
pub mod Ending
pub mod Telling
