-- A transaction that is committed: what a commit lands and writes.
pub mod Meaning
pub mod Pinned
pub mod Refusals
pub mod Findings
pub mod Dating
pub mod Folders
pub mod SeenLemmas
pub mod StayingLemmas
pub mod Laws
