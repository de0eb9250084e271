-- The properties of a revision, what `svnlook author`, `date`, `log` and `info` print of them, and the laws of these texts.
pub mod Files
pub mod Dates
pub mod Texts
pub mod Laws
