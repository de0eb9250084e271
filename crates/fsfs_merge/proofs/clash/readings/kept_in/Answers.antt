use Rattle.std.proofs.Common.{◌∙◌, Bool, None, ap}
use Rattle.std.specs.Prelude.{if◌then◌else◌}
use Rattle.fsfs_draft.specs.Steps.{kept_at}
use Rattle.fsfs_merge.proofs.clash.readings.kept_in.Goals as goal

pub returns-then-not-in_txn : goal.returns-then-not-in_txn
returns-then-not-in_txn g c = ap (λ (b : Bool). if b then kept_at (g.N.Own.folder c.args.own.now).nodes c.args.id.now else None) c.if-not-in_txn.ensures

pub returns : goal.returns
returns g c = c.kept.ensures ∙ ap (λ (b : Bool). if b then kept_at (g.N.Own.folder c.args.own.now).nodes c.args.id.now else None) c.if-not-in_txn.ensures
