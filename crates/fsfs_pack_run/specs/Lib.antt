pub mod Runs
pub mod From
pub use Rattle.fsfs_repo.specs.PackCauses
pub use Rattle.fsfs_repo.specs.PackFault
pub use Rattle.fsfs_repo.specs.PackEnd
pub use Rattle.fsfs_repo.specs.Packs
