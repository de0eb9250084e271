pub mod State
pub mod Commits
