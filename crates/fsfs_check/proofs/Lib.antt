pub mod Floors
pub mod Findings
pub mod Openness
