-- The jobs of a script one after another: what each does to what the pass of a repository knows, the laws of that, and what is told
-- of them.
pub mod Counts
pub mod Jobs
pub mod Laws
pub mod Trees
pub mod Clashes
pub mod Listed
