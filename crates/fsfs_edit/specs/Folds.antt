-- The items of a transaction's `changes` file folded into the changed paths of a revision.
pub mod FoldedItems
pub mod Marks
pub mod Lasting
pub mod Views
