-- Texts in a transaction's prototype revision file.
pub mod Causes
pub mod Sources
pub mod Reps
pub mod Views
pub mod Texts
pub mod Laws
