-- What edits, landings and merges mean on whole trees: definitions of the flat model, and the marks of a transaction.
pub mod Marks
pub mod Landing
pub mod Edits
pub mod Folding
pub mod Transactions
