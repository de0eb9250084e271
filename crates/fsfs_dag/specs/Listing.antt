-- The entries of a directory by their names, of which one is changed without a copy of the others.
pub mod Lists
pub mod Targets
pub mod Trees
pub mod Views
