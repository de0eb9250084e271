pub mod Txns
pub mod Owned
pub mod Shared
pub use Rattle.fsfs_begin.specs.Faults as BeginFaults
pub use Rattle.fsfs_begin.specs.Labels as BeginLabels
pub use Rattle.fsfs_begin.specs.Purged as BeginPurged
pub use Rattle.fsfs_begin.specs.Steps as BeginSteps
pub use Rattle.fsfs_begin.specs.declared.purge_fault.PurgeFault
pub use Rattle.fsfs_begin.specs.declared.begin_fault.BeginFault
pub use Rattle.fsfs_commit.specs.Transaction.Dating
pub use Rattle.fsfs_commit.specs.Transaction.Meaning
pub use Rattle.fsfs_commit.specs.Transaction.Pinned
pub use Rattle.fsfs_commit.specs.Transaction.Refusals
pub use Rattle.fsfs_commit.specs.Replies
pub use Rattle.fsfs_commit.specs.Transaction.SeenLemmas
pub use Rattle.fsfs_commit.specs.Transaction.StayingLemmas
pub use Rattle.fsfs_commit.specs.Works
pub use Rattle.fsfs_commit.specs.declared.transaction.standing.Standing
pub use Rattle.fsfs_create.specs.Known
pub use Rattle.fsfs_create.specs.OpenFaults
pub use Rattle.fsfs_pack.specs.Causes as PackCauses
pub use Rattle.fsfs_pack.specs.Packs
pub use Rattle.fsfs_pack.specs.declared.answers.PackDone
pub use Rattle.fsfs_pack.specs.declared.answers.PackEnd
pub use Rattle.fsfs_pack.specs.declared.answers.PackFault
pub use Rattle.fsfs_txn.specs.Standing as TxnStanding
