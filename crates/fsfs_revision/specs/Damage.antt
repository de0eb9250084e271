-- What may be wrong with the bytes of revisions, and what a reading answers.
pub mod Damages
pub mod Readings
pub mod Checks
pub mod Causes
