-- Hash dumps: property lists, directories and revision property files.
pub mod Dump
pub mod Children
pub mod Reading
pub mod Fault
