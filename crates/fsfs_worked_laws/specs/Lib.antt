pub mod FirstDirectory
