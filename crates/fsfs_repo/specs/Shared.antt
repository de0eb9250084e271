-- A repository that passes share: opened, lent to its passes, and closed.
pub mod Left
pub mod FirstPass
