-- Nodes of a transaction that were opened: what was read of the revisions on the way to them is kept, so that a text or a property
-- is put there without reading anything.
pub mod Knowing
pub mod Reaching
pub mod Reached
pub mod Growing
pub mod Failing
pub mod Leading
pub mod Stepping
pub mod Texts
pub mod Properties
