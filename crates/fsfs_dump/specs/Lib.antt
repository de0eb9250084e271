pub mod Records
pub mod Flat
pub mod Readings
pub mod Texts
pub mod Laws
pub mod Views
