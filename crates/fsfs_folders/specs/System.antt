-- The bare calls of the system on files and folders, with a record of what they did.
pub mod Paths
pub mod CallRecord
pub mod Listing
pub mod Named
pub mod Remains
