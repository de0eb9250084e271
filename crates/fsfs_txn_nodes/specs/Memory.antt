-- The own node-revisions of a transaction, held in memory and written into its bench.
pub mod Keys
pub mod Lists
pub mod KeySets
pub mod Views
pub mod Written
pub mod Texts
pub mod Merged
