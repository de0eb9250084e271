-- What the files of a transaction's folder say of it: which changes of files go with which steps of an edit.
pub mod Folders
pub mod Telling
pub mod Written
