pub mod Benches
pub mod Beginning
pub mod Steps
pub mod Faults
pub mod Drawing
pub mod Begun
pub mod Labels
pub mod Purged
