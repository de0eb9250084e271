-- Representations: where the texts, property lists and directories of a revision stand, and how they are checked.
pub mod Seen
pub mod Headers
pub mod Frames
pub mod Faults
pub mod Reading
