use Rattle.std.proofs.Common.{subst, inl, inr}
use Rattle.std.specs.Prelude.{Ok}
use Rattle.std.proofs.lemmas.Result.{err_from_is_err_and}
use Rattle.fsfs_base.specs.declared.kind.Kind.{Kind}
use Rattle.fsfs_base.specs.declared.kind.Kind.TheVariants.{Dir}
use Rattle.fsfs_revision.specs.Told.{Knows}
use Rattle.fsfs_revision.proofs.Keeping.{keeps_trans}
use Rattle.fsfs_draft.specs.Own.{draft_tree}
use Rattle.fsfs_draft.specs.Walks.{HasKind, IsFound}
use Rattle.fsfs_draft.specs.declared.walk.Found.{Found}
use Rattle.fsfs_draft.specs.declared.walk.Found.TheVariants as founds
use Rattle.fsfs_edit.proofs.way.target_at.Goals as goal

pub returns-in_err-depth-clause-draft : goal.returns-in_err-depth-clause-draft
returns-in_err-depth-clause-draft g c = λ look trees top base nodes v knows shown le draft here same dir.
    let r = err_from_is_err_and c.from_residual.result c.from_residual.ensures.1 in
    rw (r.1, r.2) (c.in_err-depth.ensures.draft look trees top base nodes v knows shown le draft here same dir)

pub returns-in-Absent-clause-draft : goal.returns-in-Absent-clause-draft
returns-in-Absent-clause-draft g c = λ look trees top base nodes v knows shown le draft here same dir.
    let told : IsFound look trees base nodes c.args.parent.now (Ok c.in_ok-depth.field-0) = c.in_ok-depth.ensures.draft look trees top base nodes v knows shown le draft here same dir in
    subst (λ (x : Found). IsFound look trees base nodes c.args.parent.now (Ok x)) c.in-Absent.is told

pub returns-in-File-clause-draft : goal.returns-in-File-clause-draft
returns-in-File-clause-draft g c = λ look trees top base nodes v knows shown le draft here same dir.
    let told : IsFound look trees base nodes c.args.parent.now (Ok c.in_ok-depth.field-0) = c.in_ok-depth.ensures.draft look trees top base nodes v knows shown le draft here same dir in
    inl (subst (λ (x : Found). IsFound look trees base nodes c.args.parent.now (Ok x)) c.in-File.is told)

pub returns-in-File-kind-clause-draft : goal.returns-in-File-kind-clause-draft
returns-in-File-kind-clause-draft g c = λ look trees top base nodes v knows shown le draft here same dir.
    let told : IsFound look trees base nodes c.args.parent.now (Ok c.in_ok-depth.field-0) = c.in_ok-depth.ensures.draft look trees top base nodes v knows shown le draft here same dir in
    let found : IsFound look trees base nodes c.args.parent.now (Ok (founds.Node c.in-Node.child)) = subst (λ (x : Found). IsFound look trees base nodes c.args.parent.now (Ok x)) c.in-Node.is told in
    inr (c.depth.ensures, subst (λ (k : Kind). HasKind (draft_tree trees nodes (trees base) c.args.parent.now) k) c.in-File-kind.is found.1)

pub returns-clause-draft : goal.returns-clause-draft
returns-clause-draft g c = λ look trees top base nodes v knows shown le draft here same dir.
    let told : IsFound look trees base nodes c.args.parent.now (Ok c.in_ok-depth.field-0) = c.in_ok-depth.ensures.draft look trees top base nodes v knows shown le draft here same dir in
    let found : IsFound look trees base nodes c.args.parent.now (Ok (founds.Node c.in-Node.child)) = subst (λ (x : Found). IsFound look trees base nodes c.args.parent.now (Ok x)) c.in-Node.is told in
    let has : HasKind (draft_tree trees nodes (trees base) c.args.parent.now) Dir = subst (λ (k : Kind). HasKind (draft_tree trees nodes (trees base) c.args.parent.now) k) c.in-Dir.is found.1 in
    let later : Knows (g.B.Book.told c.met.new.book).revs top look = λ n h. c.in_ok-depth.ensures.kept.revs n (look n) (knows n h) in
    c.beneath.ensures.draft look trees top base nodes c.args.parent.now later shown le draft found.0 has

pub returns-clause-kept : goal.returns-clause-kept
returns-clause-kept g c = keeps_trans _ _ _ c.in_ok-depth.ensures.kept c.beneath.ensures.kept
