-- Edits of one directory or one node, over a transaction's own node-revisions: what stands in its tree becomes its own, and something
-- is put into one directory or taken away there.
pub mod Mutable
pub mod Made
pub mod Copied
pub mod Taken
