-- The edits of a job, done in a transaction one after another up to the first that is refused.
pub mod Answers
pub mod Editing
