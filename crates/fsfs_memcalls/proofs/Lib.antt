pub mod PlaceLemmas
pub mod StandingLemmas
pub mod EntryLemmas
pub mod ListLemmas
pub mod EmptyLemmas
pub mod LeftLemmas
pub mod FoundLemmas
pub mod NewParts
