pub mod Finds
pub mod Open
