use Rattle.std.proofs.Common.{◌≡◌, ◌+◌, List, Some, None, [], ◌∷◌, ◌++◌, drop, map, sym, ap, subst, ◌∙◌, arith, append_assoc}
use Rattle.std.specs.String.{string_bytes}
use Rattle.std.proofs.lemmas.List.Elements.{All-nil}
use Rattle.fsfs_base.specs.Paths.{PathName, Path}
use Rattle.fsfs_revision.specs.Told.{Knows}
use Rattle.fsfs_revision.proofs.Keeping.{keeps_refl, keeps_trans}
use Rattle.fsfs_dag.proofs.WalkLemmas.{names_step, names_end}
use Rattle.fsfs_noderev.specs.declared.node_id.NodeId.{NodeId}
use Rattle.fsfs_txn.specs.declared.opened.known.Known.{Known}
use Rattle.fsfs_txn.specs.Opened.Knowing.{IsKnownUpTo, AreKnown}
use Rattle.fsfs_txn.specs.Opened.Leading.{LeadsDown}
use Rattle.fsfs_txn.specs.Opened.Stepping.{OwnAt, IsIdAt, IsDirKnown, IsNext}
use Rattle.fsfs_txn.proofs.Walked.{step_down, dir_known, end_known, noted, leads_further, next_is, no_next}
use Rattle.fsfs_txn.proofs.opened.opening.known_to.Goals as goal

pub loop-name-init : goal.loop-name-init
loop-name-init g c = record {
  kept = keeps_refl _;
  later = omega arith;
  known = λ look top knows. subst (λ (ks : List Known). AreKnown look top ks) (sym c.new-known.ensures.items) (All-nil (λ (k : Known). IsKnownUpTo look top k));
  leads = λ look trees top base nodes v knows shown le draft here same leads_to. ([], c.names-name-items.ensures, OwnAt v here same, λ all rest more leads. leads);
}

pub loop-name-preserved : goal.loop-name-preserved
loop-name-preserved g c = record {
  kept = keeps_trans _ _ _ c.loop-name.invariant.kept c.in_ok-note.ensures.kept;
  later = omega (arith, c.loop-name.invariant.later, c.in_ok-note.ensures.cause.later);
  known = λ look top knows. c.in_ok-note.ensures.known look top (λ n h. c.loop-name.invariant.kept.revs n (look n) (knows n h)) (c.loop-name.invariant.known look top knows);
  leads = λ look trees top base nodes v knows shown le draft here same leads_to.
      let txn = g.N.Own.txn c.args.own.now in
      let f = g.N.Own.folder c.args.own.now in
      let inv = c.loop-name.invariant in
      let i = c.loop-name.name-index in
      let items = c.names-name-items.result.now in
      let name = string_bytes c.name-item.result in
      let rest = map string_bytes (drop (i + 1) items) in
      let is = names_step string_bytes items i c.name-item.result c.loop-name-test.true c.name-item.is in
      let s = inv.leads look trees top base nodes v knows shown le draft here same leads_to in
      let front = s.0 in
      let at = c.loop-name.at in
      let now = c.note.new.known.items in
      let parts : front ++ name ∷ rest ≡ c.args.path.now = ap (λ (t : Path). front ++ t) (sym is) ∙ s.1 in
      let down = leads_to front name rest parts in
      let later : Knows (g.B.Book.told c.loop-name.book).revs top look = λ n h. inv.kept.revs n (look n) (knows n h) in
      let source = c.source_above.result in
      let known = c.in_ok-note.ensures.known look top later (inv.known look top knows) in
      let dir = dir_known look top base trees shown le txn f nodes draft front at s.2 down.0 source now (noted {T = Unit {0}} look top at source now tt c.source_above.ensures.lasting (c.in_ok-note.ensures.becomes look top later)) c.source_above.ensures.own in
      let list = c.as_slice.result.now in
      let known_list = subst (λ (ks : List Known). AreKnown look top ks) (sym c.as_slice.ensures.value) known in
      let dir_list = subst (λ (ks : List Known). IsDirKnown top f.nodes ks at) (sym c.as_slice.ensures.value) dir in
      let next : IsNext look f.nodes now at name (Some c.in-Some.id) = subst (λ (ks : List Known). IsNext look f.nodes ks at name (Some c.in-Some.id)) c.as_slice.ensures.value (subst (λ (t : PathName). IsNext look f.nodes list at t (Some c.in-Some.id)) c.deref.ensures (c.in-Some.ensures look top known_list dir_list)) in
      let e = step_down look top base trees shown le txn f nodes draft front at s.2 down.0 now next.entries next.has name down.1 in
      let id = next_is next.entries name e.0 c.in-Some.id next.is e.1 in (
        front ++ name ∷ [],
        append_assoc front (name ∷ []) rest ∙ parts,
        subst (λ (x : NodeId). IsIdAt look trees base nodes (front ++ name ∷ []) x) id e.2,
        leads_further look f c.loop-name.known.items now front name c.args.root.now at c.in-Some.id next.entries e.0 c.in_ok-note.ensures.still next.has e.1 id s.3,
      );
}

pub returns-in_err-note-clause-kept : goal.returns-in_err-note-clause-kept
returns-in_err-note-clause-kept g c = keeps_trans _ _ _ c.loop-name.invariant.kept c.in_err-note.ensures.kept

pub returns-in_default-clause-known : goal.returns-in_default-clause-known
returns-in_default-clause-known g c = λ look top knows. c.in_ok-note.ensures.known look top (λ n h. c.loop-name.invariant.kept.revs n (look n) (knows n h)) (c.loop-name.invariant.known look top knows)

pub returns-in_default-clause-kept : goal.returns-in_default-clause-kept
returns-in_default-clause-kept g c = keeps_trans _ _ _ c.loop-name.invariant.kept c.in_ok-note.ensures.kept

pub returns-in_default-clause-leads : goal.returns-in_default-clause-leads
returns-in_default-clause-leads g c = λ look trees top base nodes v knows shown le draft here same leads_to.
    let txn = g.N.Own.txn c.args.own.now in
    let f = g.N.Own.folder c.args.own.now in
    let inv = c.loop-name.invariant in
    let i = c.loop-name.name-index in
    let items = c.names-name-items.result.now in
    let name = string_bytes c.name-item.result in
    let rest = map string_bytes (drop (i + 1) items) in
    let is = names_step string_bytes items i c.name-item.result c.loop-name-test.true c.name-item.is in
    let s = inv.leads look trees top base nodes v knows shown le draft here same leads_to in
    let front = s.0 in
    let at = c.loop-name.at in
    let now = c.note.new.known.items in
    let parts : front ++ name ∷ rest ≡ c.args.path.now = ap (λ (t : Path). front ++ t) (sym is) ∙ s.1 in
    let down = leads_to front name rest parts in
    let later : Knows (g.B.Book.told c.loop-name.book).revs top look = λ n h. inv.kept.revs n (look n) (knows n h) in
    let source = c.source_above.result in
    let known = c.in_ok-note.ensures.known look top later (inv.known look top knows) in
    let dir = dir_known look top base trees shown le txn f nodes draft front at s.2 down.0 source now (noted {T = Unit {0}} look top at source now tt c.source_above.ensures.lasting (c.in_ok-note.ensures.becomes look top later)) c.source_above.ensures.own in
    let list = c.as_slice.result.now in
    let known_list = subst (λ (ks : List Known). AreKnown look top ks) (sym c.as_slice.ensures.value) known in
    let dir_list = subst (λ (ks : List Known). IsDirKnown top f.nodes ks at) (sym c.as_slice.ensures.value) dir in
    let next : IsNext look f.nodes now at name None = subst (λ (ks : List Known). IsNext look f.nodes ks at name None) c.as_slice.ensures.value (subst (λ (t : PathName). IsNext look f.nodes list at t None) c.deref.ensures (c.in_default.ensures look top known_list dir_list)) in
    let e = step_down look top base trees shown le txn f nodes draft front at s.2 down.0 now next.entries next.has name down.1 in
    no_next next.entries name e.0 next.is e.1

pub returns-in_err-note-2-clause-kept : goal.returns-in_err-note-2-clause-kept
returns-in_err-note-2-clause-kept g c = keeps_trans _ _ _ c.loop-name.invariant.kept c.in_err-note-2.ensures.kept

pub returns-clause-known : goal.returns-clause-known
returns-clause-known g c = λ look top knows. c.in_ok-note-2.ensures.known look top (λ n h. c.loop-name.invariant.kept.revs n (look n) (knows n h)) (c.loop-name.invariant.known look top knows)

pub returns-clause-kept : goal.returns-clause-kept
returns-clause-kept g c = keeps_trans _ _ _ c.loop-name.invariant.kept c.in_ok-note-2.ensures.kept

pub returns-clause-leads : goal.returns-clause-leads
returns-clause-leads g c = λ look trees top base nodes v knows shown le draft here same leads_to.
    let txn = g.N.Own.txn c.args.own.now in
    let f = g.N.Own.folder c.args.own.now in
    let inv = c.loop-name.invariant in
    let i = c.loop-name.name-index in
    let items = c.names-name-items.result.now in
    let s = inv.leads look trees top base nodes v knows shown le draft here same leads_to in
    let front = s.0 in
    let at = c.loop-name.at in
    let now = c.note-2.new.known.items in
    let none = names_end string_bytes items i (omega (arith, c.loop-name-test.false)) in
    let whole : front ++ [] ≡ c.args.path.now = ap (λ (t : Path). front ++ t) (sym none) ∙ s.1 in
    let later : Knows (g.B.Book.told c.loop-name.book).revs top look = λ n h. inv.kept.revs n (look n) (knows n h) in
    let source = c.source_of.result in
    let end = end_known look top base trees shown le txn f nodes draft front at s.2 source now (noted {T = Unit {0}} look top at source now tt c.source_of.ensures.lasting (c.in_ok-note-2.ensures.becomes look top later)) c.source_of.ensures.own in
    subst (λ (t : Path). LeadsDown look f.nodes now t c.args.root.now) whole (s.3 now [] c.in_ok-note-2.ensures.still end)
