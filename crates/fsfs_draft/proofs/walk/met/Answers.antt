use Rattle.std.proofs.Common.{◌≡◌, ◌+◌, Some, None, [], ◌∷◌, ◌++◌, drop, map, refl, sym, ap, subst, ◌∙◌, arith, append_assoc, append-nil}
use Rattle.std.specs.Prelude.{Option, Ok}
use Rattle.std.specs.String.{string_bytes}
use Rattle.std.proofs.lemmas.Result.{err_from_is_err_and}
use Rattle.fsfs_base.specs.Paths.{PathName, Path}
use Rattle.fsfs_base.specs.declared.kind.Kind.{Kind}
use Rattle.fsfs_base.specs.declared.kind.Kind.TheVariants.{File, Dir}
use Rattle.fsfs_revision.specs.Told.{Knows}
use Rattle.fsfs_revision.proofs.Keeping.{keeps_trans}
use Rattle.fsfs_dag.proofs.WalkLemmas.{names_step, names_end}
use Rattle.fsfs_draft.specs.Own.{draft_tree}
use Rattle.fsfs_draft.specs.Walks.{IsAt, HasKind, IsChild}
use Rattle.fsfs_draft.specs.declared.walk.Child.{Child}
use Rattle.fsfs_draft.proofs.Walking.{own_has, lacks_at, blocked_at, pushed}
use Rattle.fsfs_draft.proofs.walk.met.Goals as goal

pub loop-name-init : goal.loop-name-init
loop-name-init g c = record {
  deep = refl;
  later = omega arith;
  kept = record { revs = λ r read e. e; youngest = λ y e. e; below = refl };
  draft = λ look trees top base nodes v knows shown le draft here same dir. ([], c.names-name-items.ensures, refl, (v, here, same), own_has look top base trees shown le (g.N.Own.txn c.args.own.now) (g.N.Own.folder c.args.own.now) nodes draft [] v Dir here dir);
}

pub returns-in-File-clause-draft : goal.returns-in-File-clause-draft
returns-in-File-clause-draft g c = λ look trees top base nodes v knows shown le draft here same dir.
    let inv = c.loop-name.invariant in
    let i = c.loop-name.name-index in
    let items = c.names-name-items.result.now in
    let name = string_bytes c.name-item.result in
    let rest = map string_bytes (drop (i + 1) items) in
    let is = names_step string_bytes items i c.name-item.result c.loop-name-test.true c.name-item.is in
    let s = inv.draft look trees top base nodes v knows shown le draft here same dir in
    let front = s.0 in
    let parts : front ++ name ∷ rest ≡ c.args.path.now = ap (λ (t : Path). front ++ t) (sym is) ∙ s.1 in
    let has : HasKind (draft_tree trees nodes (trees base) front) File = subst (λ (k : Kind). HasKind (draft_tree trees nodes (trees base) front) k) c.in-File.is s.4 in
    blocked_at (draft_tree trees nodes (trees base)) front name rest c.args.path.now c.loop-name.depth parts s.2 has

pub returns-in_err-next-clause-draft : goal.returns-in_err-next-clause-draft
returns-in_err-next-clause-draft g c = λ look trees top base nodes v knows shown le draft here same dir.
    let r = err_from_is_err_and c.from_residual.result c.from_residual.ensures.1 in
    let inv = c.loop-name.invariant in
    let i = c.loop-name.name-index in
    let items = c.names-name-items.result.now in
    let name = string_bytes c.name-item.result in
    let rest = map string_bytes (drop (i + 1) items) in
    let is = names_step string_bytes items i c.name-item.result c.loop-name-test.true c.name-item.is in
    let s = inv.draft look trees top base nodes v knows shown le draft here same dir in
    let front = s.0 in
    let parts : front ++ name ∷ rest ≡ c.args.path.now = ap (λ (t : Path). front ++ t) (sym is) ∙ s.1 in
    let has : HasKind (draft_tree trees nodes (trees base) front) Dir = subst (λ (k : Kind). HasKind (draft_tree trees nodes (trees base) front) k) c.in-Dir.is s.4 in
    let later : Knows (g.B.Book.told c.loop-name.book).revs top look = λ n h. inv.kept.revs n (look n) (knows n h) in
    rw (r.1, r.2) (c.in_err-next.ensures.draft look trees top base nodes front later shown le draft s.3 has)

pub returns-in-None-clause-draft : goal.returns-in-None-clause-draft
returns-in-None-clause-draft g c = λ look trees top base nodes v knows shown le draft here same dir.
    let inv = c.loop-name.invariant in
    let i = c.loop-name.name-index in
    let items = c.names-name-items.result.now in
    let name = string_bytes c.name-item.result in
    let rest = map string_bytes (drop (i + 1) items) in
    let is = names_step string_bytes items i c.name-item.result c.loop-name-test.true c.name-item.is in
    let s = inv.draft look trees top base nodes v knows shown le draft here same dir in
    let front = s.0 in
    let parts : front ++ name ∷ rest ≡ c.args.path.now = ap (λ (t : Path). front ++ t) (sym is) ∙ s.1 in
    let has : HasKind (draft_tree trees nodes (trees base) front) Dir = subst (λ (k : Kind). HasKind (draft_tree trees nodes (trees base) front) k) c.in-Dir.is s.4 in
    let later : Knows (g.B.Book.told c.loop-name.book).revs top look = λ n h. inv.kept.revs n (look n) (knows n h) in
    let told : IsChild look trees base nodes (front ++ c.deref.result.now ∷ []) (Ok c.in_ok-next.field-0) = c.in_ok-next.ensures.draft look trees top base nodes front later shown le draft s.3 has in
    let none = subst (λ (t : PathName). IsChild look trees base nodes (front ++ t ∷ []) (Ok None)) c.deref.ensures (subst (λ (o : Option Child). IsChild look trees base nodes (front ++ c.deref.result.now ∷ []) (Ok o)) c.in-None.is told) in
    lacks_at (draft_tree trees nodes (trees base)) front name rest c.args.path.now c.loop-name.depth parts s.2 has none

pub loop-name-preserved : goal.loop-name-preserved
loop-name-preserved g c = record {
  deep = (let h = c.loop-name.invariant.deep in omega arith);
  later = omega (arith, c.loop-name.invariant.later, c.in_ok-next.ensures.cause.later);
  kept = keeps_trans _ _ _ c.loop-name.invariant.kept c.in_ok-next.ensures.kept;
  draft = λ look trees top base nodes v knows shown le draft here same dir.
      let inv = c.loop-name.invariant in
      let i = c.loop-name.name-index in
      let items = c.names-name-items.result.now in
      let name = string_bytes c.name-item.result in
      let rest = map string_bytes (drop (i + 1) items) in
      let is = names_step string_bytes items i c.name-item.result c.loop-name-test.true c.name-item.is in
      let s = inv.draft look trees top base nodes v knows shown le draft here same dir in
      let front = s.0 in
      let parts : front ++ name ∷ rest ≡ c.args.path.now = ap (λ (t : Path). front ++ t) (sym is) ∙ s.1 in
      let has : HasKind (draft_tree trees nodes (trees base) front) Dir = subst (λ (k : Kind). HasKind (draft_tree trees nodes (trees base) front) k) c.in-Dir.is s.4 in
      let later : Knows (g.B.Book.told c.loop-name.book).revs top look = λ n h. inv.kept.revs n (look n) (knows n h) in
      let told : IsChild look trees base nodes (front ++ c.deref.result.now ∷ []) (Ok c.in_ok-next.field-0) = c.in_ok-next.ensures.draft look trees top base nodes front later shown le draft s.3 has in
      let m = subst (λ (t : PathName). IsChild look trees base nodes (front ++ t ∷ []) (Ok (Some c.in-Some.child))) c.deref.ensures (subst (λ (o : Option Child). IsChild look trees base nodes (front ++ c.deref.result.now ∷ []) (Ok o)) c.in-Some.is told) in
      (front ++ name ∷ [], append_assoc front (name ∷ []) rest ∙ parts, pushed front name c.loop-name.depth s.2, m.0, m.1);
}

pub returns-clause-draft : goal.returns-clause-draft
returns-clause-draft g c = λ look trees top base nodes v knows shown le draft here same dir.
    let inv = c.loop-name.invariant in
    let i = c.loop-name.name-index in
    let items = c.names-name-items.result.now in
    let s = inv.draft look trees top base nodes v knows shown le draft here same dir in
    let none = names_end string_bytes items i (omega (arith, c.loop-name-test.false)) in
    let whole : s.0 ≡ c.args.path.now = sym (append-nil s.0) ∙ ap (λ (t : Path). s.0 ++ t) (sym none) ∙ s.1 in
    (subst (λ (t : Path). IsAt look trees base nodes t c.loop-name.at.step) whole s.3, subst (λ (t : Path). HasKind (draft_tree trees nodes (trees base) t) c.loop-name.at.kind) whole s.4)
