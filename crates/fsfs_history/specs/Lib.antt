pub mod Points
pub mod Ends
pub mod Views
pub mod KeptDirs
