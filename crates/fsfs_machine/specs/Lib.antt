pub mod Codes
pub mod Disk
pub mod Machine
pub mod Kept
pub mod Lines
