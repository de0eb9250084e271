pub mod FileLemmas
pub mod ManifestLemmas
pub mod PackLemmas
pub mod DirectLemmas
pub mod FloorLemmas
pub mod TellingLemmas
pub mod PropsLemmas
pub mod OwnedLemmas
