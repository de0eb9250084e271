-- Job scripts, line by line: what a job is, and what the first line of a command says, or why it is refused.
pub mod Judging
pub mod Parts
pub mod Words
pub mod Verbs
pub mod Lines
pub mod Texts
pub mod Laws
