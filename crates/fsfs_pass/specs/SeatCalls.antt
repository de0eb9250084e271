-- The calls of a disk that passes share. Each takes the disk, makes one call, and gives the disk back: that is one step of the
-- machine.
pub mod Made
pub mod Tells
