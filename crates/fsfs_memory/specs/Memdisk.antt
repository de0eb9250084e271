-- Disks and their benches, kept in memory, and a host that has such disks.
pub mod MemFiles
pub mod BenchFiles
pub mod Stored
pub mod PickedImage
pub mod MemBench
pub mod MemDisk
pub mod MemHost
