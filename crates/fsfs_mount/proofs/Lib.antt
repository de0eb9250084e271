pub mod LastReads
pub mod PlaceLemmas
