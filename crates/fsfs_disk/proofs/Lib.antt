pub mod TraceLemmas
pub mod CrashLemmas
pub mod LabelLemmas
pub mod LeftLemmas
pub mod BenchLemmas
pub mod ShortLemmas
pub mod WholeFiles
mod LastFile
pub mod PublishLemmas
mod Shortness
pub mod DiskLemmas
pub mod FirstBytesLemmas
pub mod TxnsParts
pub mod NameOrder
pub mod Listed
pub mod OneListing
pub mod InTurn
