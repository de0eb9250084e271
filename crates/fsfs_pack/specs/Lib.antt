pub mod Copies
pub mod Causes
pub mod Shards
pub mod Sections
pub mod Packs
