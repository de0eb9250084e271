use Rattle.std.proofs.Common.{◌≡◌, ◌+◌, true, Some, [], ◌∷◌, ◌++◌, drop, map, refl, sym, ap, subst, ◌∙◌, arith, append_assoc, append-nil}
use Rattle.std.specs.Prelude.{Option, is_some}
use Rattle.std.specs.String.{string_bytes}
use Rattle.std.proofs.lemmas.Result.{err_from_is_err_and}
use Rattle.fsfs_base.specs.Paths.{PathName, Path}
use Rattle.fsfs_tree.specs.Nodes.{Node}
use Rattle.fsfs_model.specs.Flat.Edits.{is_dir_node}
use Rattle.fsfs_base.specs.declared.fields.txn_name.TxnName.{TxnName}
use Rattle.fsfs_revision.specs.Told.{Knows}
use Rattle.fsfs_revision.proofs.Keeping.{keeps_trans}
use Rattle.fsfs_dag.proofs.WalkLemmas.{names_step, names_end}
use Rattle.fsfs_draft.specs.Own.{draft_tree}
use Rattle.fsfs_draft.specs.Drafts.{IsDraft}
use Rattle.fsfs_edit.specs.DagEdits.Mutable.{OpensTo}
use Rattle.fsfs_draft.proofs.OwnEntries.{own_dir}
use Rattle.fsfs_edit.proofs.dag_edits.path_mutable.bubble_up.Goals as goal

pub loop-name-init : goal.loop-name-init
loop-name-init g c = record {
  kept = record { revs = λ r read e. e; youngest = λ y e. e; below = refl };
  later = omega arith;
  bench = refl;
  proto = refl;
  settled = refl;
  name = refl;
  draft = λ look trees top base nodes v knows shown le draft here same leads. ([], c.names-name-items.ensures, nodes, (draft, λ q. refl), v, here, same, λ tree marks first o. o);
}

pub loop-name-preserved : goal.loop-name-preserved
loop-name-preserved g c = record {
  kept = keeps_trans _ _ _ c.loop-name.invariant.kept c.in_ok-id.ensures.kept;
  later = omega (arith, c.loop-name.invariant.later, c.in_ok-id.ensures.cause.later);
  bench = c.in_ok-id.ensures.bench.kept ∙ c.loop-name.invariant.bench;
  proto = c.in_ok-id.ensures.proto ∙ c.loop-name.invariant.proto;
  settled = c.in_ok-id.ensures.settled ∙ c.loop-name.invariant.settled;
  name = c.in_ok-id.ensures.name ∙ c.loop-name.invariant.name;
  draft = λ look trees top base nodes v knows shown le draft here same leads.
      let inv = c.loop-name.invariant in
      let i = c.loop-name.name-index in
      let items = c.names-name-items.result.now in
      let name = string_bytes c.name-item.result in
      let rest = map string_bytes (drop (i + 1) items) in
      let is = names_step string_bytes items i c.name-item.result c.loop-name-test.true c.name-item.is in
      let s = inv.draft look trees top base nodes v knows shown le draft here same leads in
      let front = s.0 in
      let now = s.2 in
      let w = s.4 in
      let parts : front ++ name ∷ rest ≡ c.args.path.now = ap (λ (t : Path). front ++ t) (sym is) ∙ s.1 in
      let lead = leads front name rest parts in
      let dir = own_dir look top base trees shown le (g.N.Own.txn c.args.own.now) (g.N.Own.folder c.loop-name.own) now s.3.0 front w s.5 (ap (λ (o : Option Node). is_dir_node o) (s.3.1 front) ∙ lead.0) in
      let some : is_some (draft_tree trees now (trees base) (front ++ name ∷ [])) ≡ true = ap (λ (o : Option Node). is_some o) (s.3.1 (front ++ name ∷ [])) ∙ lead.1 in
      let later : Knows (g.B.Book.told c.loop-name.book).revs top look = λ n h. inv.kept.revs n (look n) (knows n h) in
      let of_name : is_some (draft_tree trees now (trees base) (front ++ c.deref.result.now ∷ [])) ≡ true = subst (λ (t : PathName). is_some (draft_tree trees now (trees base) (front ++ t ∷ [])) ≡ true) (sym c.deref.ensures) some in
      let by_txn : IsDraft look top base (g.N.Own.txn c.loop-name.own) (g.N.Own.folder c.loop-name.own) now = subst (λ (t : TxnName). IsDraft look top base t (g.N.Own.folder c.loop-name.own) now) (sym inv.name) s.3.0 in
      let m = c.in_ok-id.ensures.draft look trees top base now front w later shown le by_txn s.5 s.6 dir of_name in (
        front ++ name ∷ [],
        append_assoc front (name ∷ []) rest ∙ parts,
        m.0,
        (subst (λ (t : TxnName). IsDraft look top base t (g.N.Own.folder c.make_mutable.new.own) m.0) inv.name m.1, λ q. m.2 q ∙ s.3.1 q),
        m.3,
        subst (λ (t : PathName). m.0 (front ++ t ∷ []) ≡ Some m.3) c.deref.ensures m.4,
        m.5,
        λ tree marks first o. (let more : OpensTo look trees top base (g.N.Own.txn c.args.own.now) (g.N.Own.folder c.loop-name.own) now front (g.N.Own.folder c.make_mutable.new.own) m.0 (front ++ name ∷ []) =
            subst (λ (t : PathName). OpensTo look trees top base (g.N.Own.txn c.args.own.now) (g.N.Own.folder c.loop-name.own) now front (g.N.Own.folder c.make_mutable.new.own) m.0 (front ++ t ∷ [])) c.deref.ensures
            (subst (λ (t : TxnName). OpensTo look trees top base t (g.N.Own.folder c.loop-name.own) now front (g.N.Own.folder c.make_mutable.new.own) m.0 (front ++ c.deref.result.now ∷ [])) inv.name m.6) in
            more tree marks first (s.7 tree marks first o)),
      );
}

pub returns-in_err-id-clause-draft : goal.returns-in_err-id-clause-draft
returns-in_err-id-clause-draft g c = λ look trees top base nodes v knows shown le draft here same leads.
    let r = err_from_is_err_and c.from_residual.result c.from_residual.ensures.1 in
    let inv = c.loop-name.invariant in
    let i = c.loop-name.name-index in
    let items = c.names-name-items.result.now in
    let name = string_bytes c.name-item.result in
    let rest = map string_bytes (drop (i + 1) items) in
    let is = names_step string_bytes items i c.name-item.result c.loop-name-test.true c.name-item.is in
    let s = inv.draft look trees top base nodes v knows shown le draft here same leads in
    let front = s.0 in
    let now = s.2 in
    let w = s.4 in
    let parts : front ++ name ∷ rest ≡ c.args.path.now = ap (λ (t : Path). front ++ t) (sym is) ∙ s.1 in
    let lead = leads front name rest parts in
    let dir = own_dir look top base trees shown le (g.N.Own.txn c.args.own.now) (g.N.Own.folder c.loop-name.own) now s.3.0 front w s.5 (ap (λ (o : Option Node). is_dir_node o) (s.3.1 front) ∙ lead.0) in
    let some : is_some (draft_tree trees now (trees base) (front ++ name ∷ [])) ≡ true = ap (λ (o : Option Node). is_some o) (s.3.1 (front ++ name ∷ [])) ∙ lead.1 in
    let later : Knows (g.B.Book.told c.loop-name.book).revs top look = λ n h. inv.kept.revs n (look n) (knows n h) in
    let of_name : is_some (draft_tree trees now (trees base) (front ++ c.deref.result.now ∷ [])) ≡ true = subst (λ (t : PathName). is_some (draft_tree trees now (trees base) (front ++ t ∷ [])) ≡ true) (sym c.deref.ensures) some in
    let by_txn : IsDraft look top base (g.N.Own.txn c.loop-name.own) (g.N.Own.folder c.loop-name.own) now = subst (λ (t : TxnName). IsDraft look top base t (g.N.Own.folder c.loop-name.own) now) (sym inv.name) s.3.0 in
    let m = c.in_err-id.ensures.draft look trees top base now front w later shown le by_txn s.5 s.6 dir of_name in
    rw (r.1, r.2) m

pub returns-clause-draft : goal.returns-clause-draft
returns-clause-draft g c = λ look trees top base nodes v knows shown le draft here same leads.
    let inv = c.loop-name.invariant in
    let i = c.loop-name.name-index in
    let items = c.names-name-items.result.now in
    let s = inv.draft look trees top base nodes v knows shown le draft here same leads in
    let none = names_end string_bytes items i (omega (arith, c.loop-name-test.false)) in
    let whole : s.0 ≡ c.args.path.now = sym (append-nil s.0) ∙ ap (λ (t : Path). s.0 ++ t) (sym none) ∙ s.1 in
    (s.2, s.3, s.4, subst (λ (t : Path). s.2 t ≡ Some s.4) whole s.5, s.6, subst (λ (t : Path). OpensTo look trees top base (g.N.Own.txn c.args.own.now) (g.N.Own.folder c.args.own.now) nodes [] (g.N.Own.folder c.loop-name.own) s.2 t) whole s.7)
