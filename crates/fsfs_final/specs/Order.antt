-- The own node-revisions of a transaction, in the order in which they are put into a new revision.
pub mod Orders
pub mod Children
