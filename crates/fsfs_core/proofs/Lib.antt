pub mod Reading
pub mod Along
pub mod Calling
