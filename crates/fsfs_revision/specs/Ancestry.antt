-- Where what stands at a path came from.
pub mod CopyRoots
pub mod Trees
pub mod Bounded
