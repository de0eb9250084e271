pub use Rattle.fsfs_top.specs.Scenes
pub use Rattle.fsfs_top.specs.Scripts
pub use Rattle.fsfs_top.specs.declared.checked.JobsEnd
