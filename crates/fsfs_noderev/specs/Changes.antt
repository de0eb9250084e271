-- Changed-path data: the changed paths of a revision, and those that a transaction's edits wrote down.
pub mod Words
pub mod Items
pub mod Texts
pub mod Reading
