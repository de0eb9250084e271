pub mod Errors
pub mod Paths
pub mod Written
pub mod Walks
pub mod Revprops
