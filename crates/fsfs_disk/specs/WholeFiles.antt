-- Files read as a whole, through anything that gives parts of files.
pub mod FileFaults
pub mod DiskParts
pub mod FirstBytes
