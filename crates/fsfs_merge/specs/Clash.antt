-- The first clash of a merge: a walk over the base, the head and the transaction side by side that writes nothing.
pub mod Same
pub mod Sights
pub mod Dirs
pub mod Lists
pub mod Threes
pub mod Merging
pub mod Readings
pub mod Turning
pub mod Points
pub mod Walks
pub mod Plans
pub mod UnderWay
pub mod Weights
pub mod Merges
