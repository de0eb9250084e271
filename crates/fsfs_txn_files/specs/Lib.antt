pub mod ProtoRev
pub mod FileNames
pub mod Texts
pub mod Children
pub mod Changes
