-- Edits of a transaction by path, each accepted or refused.
pub mod Mergeinfo
pub mod Making
pub mod Deleting
pub mod Sources
pub mod Copying
pub mod Texts
pub mod Properties
