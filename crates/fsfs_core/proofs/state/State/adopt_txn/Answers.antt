-- A commit's first call uses its transaction up.
use Rattle.std.specs.Prelude.{slice_get}
use Rattle.fsfs_core.specs.State.{world_of}
use Rattle.fsfs_core.proofs.Calling.{next_within, adopts_none, adopts_some}
use Rattle.fsfs_core.proofs.state.State.adopt_txn.Goals as goal

pub use_txn-requires : goal.use_txn-requires
use_txn-requires c =
    next_within c.args.self.now.line c.args.p c.args.t c.args.self.now.txns.items c.args.properties c.in_ok-next_revision.field-0 c.in-Some.revision c.in-Some.is (c.in_ok-next_revision.ensures c.args.p)

pub returns-in-None : goal.returns-in-None
returns-in-None c =
    adopts_none (world_of c.args.self.now) c.args.p c.args.t c.args.properties c.args.bytes c.args.went (slice_get c.args.self.now.txns.items c.args.t) c.in_ok-next_revision.field-0 c.in-None.is (c.in_ok-next_revision.ensures c.args.p)

pub returns-in_ok-coming-in-Some : goal.returns-in_ok-coming-in-Some
returns-in_ok-coming-in-Some c =
    adopts_some c.put_rev.result (world_of c.args.self.now) (world_of c.use_txn.new.self) (world_of c.put_rev.new.self) c.args.p c.args.t c.args.properties c.args.bytes c.args.went
    (slice_get c.args.self.now.txns.items c.args.t) c.in_ok-next_revision.field-0 c.in-Some.revision c.in_ok-coming-in-Some.coming c.in-Some.is (c.in_ok-next_revision.ensures c.args.p) c.in_ok-coming-in-Some.ensures c.put_rev.ensures
