-- The repository that runs, with one owner: opened, read, changed by transactions, and closed.
pub mod Alone
pub mod Readers
pub mod Crashes
pub mod Labels
