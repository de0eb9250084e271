-- The transactions of a repository: which there are, and their removal.
pub mod Txns
pub mod Entries
pub mod Removals
