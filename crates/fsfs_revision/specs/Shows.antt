-- What the bytes of a repository's revisions show.
pub mod Reading
pub mod Damaged
pub mod Chains
pub mod Shown
pub mod IdRules
pub mod FirstRevision
pub mod ByTree
pub mod TreeLaw
