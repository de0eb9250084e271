pub mod HistoryLemmas
pub mod HistoryTexts
mod PiecesRead
pub mod EndLemmas
pub mod ItemLemmas
pub mod TextKeys
pub mod KindLemmas
pub mod NameKeys
pub mod DirLemmas
pub mod LineLemmas
