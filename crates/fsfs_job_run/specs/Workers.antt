-- The jobs of a script beside each other: what the line of each says of the one history, whoever adds revisions between.
pub mod Beside
pub mod Lines
pub mod Passes
pub mod Laws
