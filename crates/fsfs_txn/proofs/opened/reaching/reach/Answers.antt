use Rattle.std.proofs.Common.{◌≡◌, ◌+◌, Some, [], ◌∷◌, ◌++◌, drop, map, refl, sym, ap, subst, ◌∙◌, arith, append_assoc, append-nil}
use Rattle.std.specs.String.{string_bytes}
use Rattle.std.proofs.lemmas.Result.{err_from_is_err_and}
use Rattle.fsfs_base.specs.Paths.{PathName, Path}
use Rattle.fsfs_base.specs.declared.fields.txn_name.TxnName.{TxnName}
use Rattle.fsfs_dag.proofs.WalkLemmas.{names_step, names_end}
use Rattle.fsfs_draft.specs.Drafts.{IsDraft}
use Rattle.fsfs_edit.specs.DagEdits.Mutable.{OpensTo}
use Rattle.fsfs_txn.specs.Opened.Leading.{LeadsDown}
use Rattle.fsfs_txn.proofs.opened.reaching.reach.Goals as goal

pub loop-name-init : goal.loop-name-init
loop-name-init g c = record {
  bench = refl;
  proto = refl;
  settled = refl;
  name = refl;
  draft = λ look trees top base nodes v known shown le draft here same. ([], c.names-name-items.ensures, nodes, (draft, λ q. refl), v, here, same, λ tree marks first o. o);
  leads = λ look trees top base nodes v known shown le draft here same leads. subst (λ (t : Path). LeadsDown look (g.N.Own.folder c.args.own.now).nodes c.args.known.now t c.args.root.now) (sym c.names-name-items.ensures) leads;
  still = λ look trees top base nodes v known shown le draft here same all path at leads. leads;
}

pub loop-name-preserved : goal.loop-name-preserved
loop-name-preserved g c = record {
  bench = c.in_ok-id.ensures.bench.kept ∙ c.loop-name.invariant.bench;
  proto = c.in_ok-id.ensures.proto ∙ c.loop-name.invariant.proto;
  settled = c.in_ok-id.ensures.settled ∙ c.loop-name.invariant.settled;
  name = c.in_ok-id.ensures.name ∙ c.loop-name.invariant.name;
  draft = λ look trees top base nodes v known shown le draft here same.
      let inv = c.loop-name.invariant in
      let i = c.loop-name.name-index in
      let items = c.names-name-items.result.now in
      let name = string_bytes c.name-item.result in
      let rest = map string_bytes (drop (i + 1) items) in
      let is = names_step string_bytes items i c.name-item.result c.loop-name-test.true c.name-item.is in
      let s = inv.draft look trees top base nodes v known shown le draft here same in
      let front = s.0 in
      let now = s.2 in
      let w = s.4 in
      let parts : front ++ name ∷ rest ≡ c.args.path.now = ap (λ (t : Path). front ++ t) (sym is) ∙ s.1 in
      let by_txn : IsDraft look top base (g.N.Own.txn c.loop-name.own) (g.N.Own.folder c.loop-name.own) now = subst (λ (t : TxnName). IsDraft look top base t (g.N.Own.folder c.loop-name.own) now) (sym inv.name) s.3.0 in
      let m = c.in_ok-id.ensures.draft look trees top base now front w known shown le by_txn s.5 s.6 in (
        front ++ name ∷ [],
        append_assoc front (name ∷ []) rest ∙ parts,
        m.0,
        (subst (λ (t : TxnName). IsDraft look top base t (g.N.Own.folder c.child_at.new.own) m.0) inv.name m.1, λ q. m.2 q ∙ s.3.1 q),
        m.3,
        subst (λ (t : PathName). m.0 (front ++ t ∷ []) ≡ Some m.3) c.deref.ensures m.4,
        m.5,
        λ tree marks first o. (let more : OpensTo look trees top base (g.N.Own.txn c.args.own.now) (g.N.Own.folder c.loop-name.own) now front (g.N.Own.folder c.child_at.new.own) m.0 (front ++ name ∷ []) =
            subst (λ (t : PathName). OpensTo look trees top base (g.N.Own.txn c.args.own.now) (g.N.Own.folder c.loop-name.own) now front (g.N.Own.folder c.child_at.new.own) m.0 (front ++ t ∷ [])) c.deref.ensures
            (subst (λ (t : TxnName). OpensTo look trees top base t (g.N.Own.folder c.loop-name.own) now front (g.N.Own.folder c.child_at.new.own) m.0 (front ++ c.deref.result.now ∷ [])) inv.name m.6) in
            more tree marks first (s.7 tree marks first o)),
      );
  leads = λ look trees top base nodes v known shown le draft here same leads.
      let inv = c.loop-name.invariant in
      let i = c.loop-name.name-index in
      let items = c.names-name-items.result.now in
      let is = names_step string_bytes items i c.name-item.result c.loop-name-test.true c.name-item.is in
      let s = inv.draft look trees top base nodes v known shown le draft here same in
      let by_txn : IsDraft look top base (g.N.Own.txn c.loop-name.own) (g.N.Own.folder c.loop-name.own) s.2 = subst (λ (t : TxnName). IsDraft look top base t (g.N.Own.folder c.loop-name.own) s.2) (sym inv.name) s.3.0 in
      let rest = map string_bytes (drop (i + 1) items) in
      let on = subst (λ (t : Path). LeadsDown look (g.N.Own.folder c.loop-name.own).nodes c.args.known.now t c.loop-name.id) is (inv.leads look trees top base nodes v known shown le draft here same leads) in
      c.in_ok-id.ensures.leads look trees top base s.2 s.0 s.4 known shown le by_txn s.5 s.6 rest
      (subst (λ (t : PathName). LeadsDown look (g.N.Own.folder c.loop-name.own).nodes c.args.known.now (t ∷ rest) c.loop-name.id) (sym c.deref.ensures) on);
  still = λ look trees top base nodes v known shown le draft here same all path at leads.
      let inv = c.loop-name.invariant in
      let s = inv.draft look trees top base nodes v known shown le draft here same in
      let by_txn : IsDraft look top base (g.N.Own.txn c.loop-name.own) (g.N.Own.folder c.loop-name.own) s.2 = subst (λ (t : TxnName). IsDraft look top base t (g.N.Own.folder c.loop-name.own) s.2) (sym inv.name) s.3.0 in
      c.in_ok-id.ensures.still look trees top base s.2 s.0 s.4 known shown le by_txn s.5 s.6 all path at (inv.still look trees top base nodes v known shown le draft here same all path at leads);
}

pub returns-in_err-id-clause-draft : goal.returns-in_err-id-clause-draft
returns-in_err-id-clause-draft g c = λ look trees top base nodes v known shown le draft here same.
    let r = err_from_is_err_and c.from_residual.result c.from_residual.ensures.1 in
    let inv = c.loop-name.invariant in
    let s = inv.draft look trees top base nodes v known shown le draft here same in
    let by_txn : IsDraft look top base (g.N.Own.txn c.loop-name.own) (g.N.Own.folder c.loop-name.own) s.2 = subst (λ (t : TxnName). IsDraft look top base t (g.N.Own.folder c.loop-name.own) s.2) (sym inv.name) s.3.0 in
    rw (r.1, r.2) (c.in_err-id.ensures.draft look trees top base s.2 s.0 s.4 known shown le by_txn s.5 s.6)

pub returns-clause-draft : goal.returns-clause-draft
returns-clause-draft g c = λ look trees top base nodes v known shown le draft here same.
    let inv = c.loop-name.invariant in
    let i = c.loop-name.name-index in
    let items = c.names-name-items.result.now in
    let s = inv.draft look trees top base nodes v known shown le draft here same in
    let none = names_end string_bytes items i (omega (arith, c.loop-name-test.false)) in
    let whole : s.0 ≡ c.args.path.now = sym (append-nil s.0) ∙ ap (λ (t : Path). s.0 ++ t) (sym none) ∙ s.1 in
    (s.2, s.3, s.4, subst (λ (t : Path). s.2 t ≡ Some s.4) whole s.5, s.6, subst (λ (t : Path). OpensTo look trees top base (g.N.Own.txn c.args.own.now) (g.N.Own.folder c.args.own.now) nodes [] (g.N.Own.folder c.loop-name.own) s.2 t) whole s.7)

pub returns-in_err-id-clause-leads : goal.returns-in_err-id-clause-leads
returns-in_err-id-clause-leads g c = λ look trees top base nodes v known shown le draft here same leads.
    let r = err_from_is_err_and c.from_residual.result c.from_residual.ensures.1 in
    let inv = c.loop-name.invariant in
    let i = c.loop-name.name-index in
    let items = c.names-name-items.result.now in
    let is = names_step string_bytes items i c.name-item.result c.loop-name-test.true c.name-item.is in
    let s = inv.draft look trees top base nodes v known shown le draft here same in
    let by_txn : IsDraft look top base (g.N.Own.txn c.loop-name.own) (g.N.Own.folder c.loop-name.own) s.2 = subst (λ (t : TxnName). IsDraft look top base t (g.N.Own.folder c.loop-name.own) s.2) (sym inv.name) s.3.0 in
    let rest = map string_bytes (drop (i + 1) items) in
    let on = subst (λ (t : Path). LeadsDown look (g.N.Own.folder c.loop-name.own).nodes c.args.known.now t c.loop-name.id) is (inv.leads look trees top base nodes v known shown le draft here same leads) in
    rw (r.1, r.2) (c.in_err-id.ensures.leads look trees top base s.2 s.0 s.4 known shown le by_txn s.5 s.6 rest
    (subst (λ (t : PathName). LeadsDown look (g.N.Own.folder c.loop-name.own).nodes c.args.known.now (t ∷ rest) c.loop-name.id) (sym c.deref.ensures) on))

pub returns-in_err-id-clause-still : goal.returns-in_err-id-clause-still
returns-in_err-id-clause-still g c = λ look trees top base nodes v known shown le draft here same all path at leads.
    let r = err_from_is_err_and c.from_residual.result c.from_residual.ensures.1 in
    rw r.1 tt

pub returns-clause-leads : goal.returns-clause-leads
returns-clause-leads g c = λ look trees top base nodes v known shown le draft here same leads.
    let inv = c.loop-name.invariant in
    let none = names_end string_bytes c.names-name-items.result.now c.loop-name.name-index (omega (arith, c.loop-name-test.false)) in
    subst (λ (t : Path). LeadsDown look (g.N.Own.folder c.loop-name.own).nodes c.args.known.now t c.loop-name.id) none (inv.leads look trees top base nodes v known shown le draft here same leads)

pub returns-clause-still : goal.returns-clause-still
returns-clause-still g c = λ look trees top base nodes v known shown le draft here same all path at leads. c.loop-name.invariant.still look trees top base nodes v known shown le draft here same all path at leads
