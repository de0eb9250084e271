use Rattle.std.proofs.Common.{Bool, ap, subst, ◌∙◌, inl}
use Rattle.std.specs.Prelude.{Ok, is_some}
use Rattle.std.proofs.lemmas.Result.{err_from_is_err_and}
use Rattle.fsfs_base.specs.Paths.{Path}
use Rattle.fsfs_base.specs.declared.kind.Kind.{Kind}
use Rattle.fsfs_model.specs.Flat.Edits.{parent}
use Rattle.fsfs_draft.specs.Walks.{HasKind}
use Rattle.fsfs_txn.specs.declared.seeing.Seen.{Seen}
use Rattle.fsfs_txn.specs.Edits.Mergeinfo.{Counts}
use Rattle.fsfs_txn.specs.Seeing.{IsSeen}
use Rattle.fsfs_txn.proofs.edits.above.above_of.Goals as goal

pub returns-in-Absent-clause-sees : goal.returns-in-Absent-clause-sees
returns-in-Absent-clause-sees g c = λ look trees top base tree marks path knows shown le d dir_is path_is is.
    let First = d.0.shows.own in
    let at = subst (λ (p : Path). IsSeen look trees base First tree p (Ok c.args.seen)) dir_is is in
    subst (λ (s : Seen). IsSeen look trees base First tree (parent path) (Ok s)) c.in-Absent.is at

pub returns-in-File-clause-sees : goal.returns-in-File-clause-sees
returns-in-File-clause-sees g c = λ look trees top base tree marks path knows shown le d dir_is path_is is.
    let First = d.0.shows.own in
    let at = subst (λ (p : Path). IsSeen look trees base First tree p (Ok c.args.seen)) dir_is is in
    inl (subst (λ (s : Seen). IsSeen look trees base First tree (parent path) (Ok s)) c.in-File.is at)

pub returns-then-not-counted-clause-sees : goal.returns-then-not-counted-clause-sees
returns-then-not-counted-clause-sees g c = λ look trees top base tree marks path knows shown le d dir_is path_is is.
    let First = d.0.shows.own in
    let at = subst (λ (p : Path). IsSeen look trees base First tree p (Ok c.args.seen)) dir_is is in
    let node = subst (λ (s : Seen). IsSeen look trees base First tree (parent path) (Ok s)) c.in-Node.is at in
    (dir_is, subst (λ (k : Kind). HasKind (tree (parent path)) k) c.in-Dir.is node.1, node.0, subst (λ (b : Bool). Counts look trees base First (parent path) b) c.if-not-counted.true node.2)

pub returns-in_err-taken-in-Dir-clause-sees : goal.returns-in_err-taken-in-Dir-clause-sees
returns-in_err-taken-in-Dir-clause-sees g c = λ look trees top base tree marks path knows shown le d dir_is path_is is.
    let r = err_from_is_err_and c.from_residual.result c.from_residual.ensures.1 in
    let First = d.0.shows.own in
    let at = subst (λ (p : Path). IsSeen look trees base First tree p (Ok c.args.seen)) dir_is is in
    let node = subst (λ (s : Seen). IsSeen look trees base First tree (parent path) (Ok s)) c.in-Node.is at in
    let has = subst (λ (k : Kind). HasKind (tree (parent path)) k) c.in-Dir.is node.1 in
    rw (r.1, r.2) (c.in_err-taken-in-Dir.ensures.told look trees top base tree marks (parent path) knows shown le d node.0 has)

pub returns-clause-sees : goal.returns-clause-sees
returns-clause-sees g c = λ look trees top base tree marks path knows shown le d dir_is path_is is.
    let First = d.0.shows.own in
    let at = subst (λ (p : Path). IsSeen look trees base First tree p (Ok c.args.seen)) dir_is is in
    let node = subst (λ (s : Seen). IsSeen look trees base First tree (parent path) (Ok s)) c.in-Node.is at in
    let has = subst (λ (k : Kind). HasKind (tree (parent path)) k) c.in-Dir.is node.1 in
    let told = c.in_ok-taken-in-Dir.ensures.told look trees top base tree marks (parent path) knows shown le d node.0 has in
    (has, ap (λ (p : Path). is_some (tree p)) path_is ∙ told, subst (λ (b : Bool). Counts look trees base First (parent path) b) c.if-not-counted.false node.2)
