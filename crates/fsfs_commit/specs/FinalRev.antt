-- The bytes of a new revision of a whole draft: what follows the texts in its prototype file, and what comes of them.
pub mod FinalBytes
pub mod Items
pub mod Rooms
pub mod Texts
pub mod Next
