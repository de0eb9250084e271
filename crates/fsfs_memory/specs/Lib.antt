pub mod Memdisk
pub mod Streams
pub mod Patience
