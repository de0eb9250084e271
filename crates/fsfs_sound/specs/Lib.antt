pub mod Written
pub mod Rules
pub mod Revisions
pub mod Damaged
pub mod OpenTexts
pub mod Laws
pub mod Parts
