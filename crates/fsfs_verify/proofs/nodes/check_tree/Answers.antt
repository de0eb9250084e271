use Rattle.std.proofs.Common.{◌≡◌, ◌≤◌, ◌<◌, ◌+◌, ℕ, List, [], length, Ok, Err, inl, inr, refl, sym, ap, subst, ◌∙◌, arith}
use Rattle.std.specs.Prelude.{◌∷◌, Some, Option, option_map, slice_get}
use Rattle.std.specs.Borrow.{Bor}
use Rattle.std.proofs.lemmas.Option.{same_Some, slice_get_cases}
use Rattle.std.proofs.lemmas.Result.{err_from_is_err_and}
use Rattle.fsfs_noderev.specs.declared.node_rev.NodeRev.{NodeRev}
use Rattle.fsfs_revision.specs.Damage.Readings.{IfWrong}
use Rattle.fsfs_revision.specs.Shows.Reading.{RootOf}
use Rattle.fsfs_revision.specs.declared.damage.RevOffset.{RevOffset}
use Rattle.fsfs_revision.proofs.Keeping.{keeps_trans}
use Rattle.fsfs_revision.proofs.TreeLaw.{root_home}
use Rattle.fsfs_dag.specs.declared.node.PlacedNode.{PlacedNode}
use Rattle.fsfs_dag.specs.TreeWalks.{left, pending_value, total}
use Rattle.fsfs_dag.specs.Views.{home_of}
use Rattle.fsfs_sound.specs.Damaged.{IsDamaged}
use Rattle.fsfs_sound.specs.Revisions.{AreSoundBefore}
use Rattle.fsfs_verify.specs.declared.above.Above.{Above}
use Rattle.fsfs_verify.specs.Brought.{Brought}
use Rattle.fsfs_verify.specs.Preds.{IsWrongPred}
use Rattle.fsfs_verify.specs.Roots.{IsWrongRoot}
use Rattle.fsfs_verify.specs.Steps.{IsWrongNode, TakesNode}
use Rattle.fsfs_verify.specs.Walks.{HasWalk, CopiesStandOnce}
use Rattle.fsfs_verify.proofs.AllLemmas.{knows_upto}
use Rattle.fsfs_verify.proofs.Popped.{popped, IsStray}
use Rattle.fsfs_verify.proofs.Findings.{wrong_from}
use Rattle.fsfs_verify.proofs.NodeDamages.{root_damaged}
use Rattle.fsfs_verify.proofs.TreeLemmas.{no_root, root_pred_wrong, root_lasting, root_wrong, started, ended, first_is, copies_wrong}
use Rattle.fsfs_verify.proofs.nodes.check_tree.Goals as goal

pub returns-in_err-root-clause-told : goal.returns-in_err-root-clause-told
returns-in_err-root-clause-told g c = λ look props knows sound holds last.
    let rev = c.args.rev in
    let p = err_from_is_err_and c.from_residual.result c.from_residual.ensures.1 in
    rw (p.1, p.2) (wrong_from (λ w. RootOf look rev (Err w)) (IsDamaged look props rev) c.in_err-root.field-0.0 (λ w h. no_root look props rev w h) (c.in_err-root.ensures.told look knows))

pub returns-in_err-pred-clause-told : goal.returns-in_err-pred-clause-told
returns-in_err-pred-clause-told g c = λ look props knows sound holds last.
    let rev = c.args.rev in
    let root = c.in_ok-root.root.node in
    let is_root = c.in_ok-root.ensures.told look knows in
    let own = (root_home look rev root is_root).1 in
    let p = err_from_is_err_and c.from_residual-in_err-pred.result c.from_residual-in_err-pred.ensures.1 in
    rw (p.1, p.2) (wrong_from (IsWrongPred look root) (IsDamaged look props rev) c.in_err-pred.field-0.0 (λ w h. root_pred_wrong look props rev root is_root w h)
    (c.in_err-pred.ensures.told look (knows_upto _ _ look rev _ c.in_ok-root.ensures.kept (omega (arith, own)) knows)))

pub returns-in_err-check_root-clause-told : goal.returns-in_err-check_root-clause-told
returns-in_err-check_root-clause-told g c = λ look props knows sound holds last.
    let rev = c.args.rev in
    let root = c.in_ok-root.root.node in
    let is_root = c.in_ok-root.ensures.told look knows in
    let own = (root_home look rev root is_root).1 in
    let before = option_map (λ (v : Bor PlacedNode). v.now.node) c.args.last in
    let kept = keeps_trans _ _ _ c.in_ok-root.ensures.kept c.in_ok-pred.ensures.kept in
    let p = err_from_is_err_and c.from_residual-in_err-check_root.result c.from_residual-in_err-check_root.ensures.1 in
    rw (p.1, p.2) (wrong_from (IsWrongRoot look root before) (IsDamaged look props rev) c.in_err-check_root.field-0.0 (λ w h. root_damaged look props rev root is_root before last w h)
    (c.in_err-check_root.ensures.told look (knows_upto _ _ look rev _ kept (omega (arith, own)) knows)))

pub returns-in_err-take_node-clause-told : goal.returns-in_err-take_node-clause-told
returns-in_err-take_node-clause-told g c = λ look props knows sound holds last.
    let rev = c.args.rev in
    let root = c.in_ok-root.root.node in
    let is_root = c.in_ok-root.ensures.told look knows in
    let own = (root_home look rev root is_root).1 in
    let precedes = c.in_ok-pred.ensures.told look (knows_upto _ _ look rev _ c.in_ok-root.ensures.kept (omega (arith, own)) knows) in
    let kept = keeps_trans _ _ _ (keeps_trans _ _ _ c.in_ok-root.ensures.kept c.in_ok-pred.ensures.kept) c.in_ok-check_root.ensures.kept in
    let mine = c.in_ok-nodes.nodes.rev in
    let same : mine ≡ rev = c.in_ok-nodes.ensures.new.rev_is in
    let pred = option_map (λ (u : PlacedNode). u.node) c.in_ok-pred.pred in
    let p = err_from_is_err_and c.from_residual-in_err-take_node.result c.from_residual-in_err-take_node.ensures.1 in
    rw (p.1, p.2) (wrong_from (IsWrongNode look mine holds.begun holds.copied holds.drawn root pred) (IsDamaged look props rev) c.in_err-take_node.field-0.0
    (λ w q. root_wrong look props rev root is_root sound pred precedes c.args.parts.now holds w (subst (λ (n : ℕ). IsWrongNode look n holds.begun holds.copied holds.drawn root pred w) same q))
    (c.in_err-take_node.ensures.told look holds.begun holds.copied holds.drawn (knows_upto _ _ look rev mine kept (omega (arith, same)) knows) (own ∙ sym same) (root_lasting look props rev root is_root) precedes
    (subst (λ (n : ℕ). Brought n c.args.parts.now holds.begun holds.copied holds.drawn) (sym same) holds.held)))

pub entries-init : goal.entries-init
entries-init g c =
    let two = keeps_trans _ _ _ c.in_ok-root.ensures.kept c.in_ok-pred.ensures.kept in
    let kept = keeps_trans _ _ _ two c.in_ok-check_root.ensures.kept in
    let nodes = c.in_ok-nodes.nodes in
    let start = c.in_ok-nodes.ensures.new in
    let deeper = c.in_ok-take_node.ensures.dir c.in_ok-root.ensures.dir in
    let room = c.in_ok-nodes.ensures.room in
    let wide = c.in_ok-take_node.ensures.same.room in
    record {
      kept = keeps_trans _ _ _ kept c.in_ok-take_node.ensures.kept;
      later = omega (arith, c.in_ok-root.ensures.cause.later, c.in_ok-pred.ensures.cause.later, c.in_ok-check_root.ensures.cause.later, c.in_ok-take_node.ensures.cause.later);
      rev = c.in_ok-take_node.ensures.same.rev ∙ start.rev_is;
      room = omega (arith, room, wide);
      above = omega (arith, deeper);
      walk = λ look props knows sound holds last.
          let rev = c.args.rev in
          let root = c.in_ok-root.root.node in
          let is_root = c.in_ok-root.ensures.told look knows in
          let own = (root_home look rev root is_root).1 in
          let precedes = c.in_ok-pred.ensures.told look (knows_upto _ _ look rev _ c.in_ok-root.ensures.kept (omega (arith, own)) knows) in
          let behind = c.in_ok-check_root.ensures.told look (knows_upto _ _ look rev _ two (omega (arith, own)) knows) in
          let same : nodes.rev ≡ rev = start.rev_is in
          let pred = option_map (λ (u : PlacedNode). u.node) c.in_ok-pred.pred in
          let took = c.in_ok-take_node.ensures.told look holds.begun holds.copied holds.drawn (knows_upto _ _ look rev nodes.rev kept (omega (arith, same)) knows) (own ∙ sym same) (root_lasting look props rev root is_root) precedes
          (subst (λ (n : ℕ). Brought n c.args.parts.now holds.begun holds.copied holds.drawn) (sym same) holds.held) in (
            root,
            started look props rev root is_root sound pred precedes c.args.parts.now holds (option_map (λ (v : Bor PlacedNode). v.now.node) c.args.last) behind last nodes c.take_node.new.self c.take_node.new.parts start (c.in_ok-nodes.ensures.seen look)
                (subst (λ (n : ℕ). TakesNode look n (length nodes.above.items) holds.begun holds.copied holds.drawn root pred nodes c.take_node.new.self c.take_node.new.parts) same took)
                c.in_ok-take_node.ensures.same.rev c.in_ok-take_node.ensures.same.links,
          );
    }

pub returns-in_err-take-clause-told : goal.returns-in_err-take-clause-told
returns-in_err-take-clause-told g c = λ look props knows sound holds last.
    let rev = c.args.rev in
    let inv = c.entries.invariant in
    let nodes = c.entries.nodes in
    let w = inv.walk look props knows sound holds last in
    let next = pending_value c.in-Some.next in
    let h = popped look rev w.0 nodes c.pop.new.self c.entries.parts next c.in-Some.ensures.next c.pop.ensures.seen w.1 in
    let told = c.in_err-take.ensures.told look props w.0 (knows_upto _ _ look rev nodes.rev inv.kept (let e = inv.rev in omega (arith, e)) knows) (subst (λ (n : ℕ). AreSoundBefore look props n) (sym inv.rev) sound)
    (subst (λ (n : ℕ). HasWalk look n w.0 (next ∷ left c.pop.new.self) (record nodes { walk = c.pop.new.self }) c.entries.parts) (sym inv.rev) h) in
    let p = err_from_is_err_and c.from_residual-in_err-take.result c.from_residual-in_err-take.ensures.1 in
    rw (p.1, p.2) (subst (λ (n : ℕ). IfWrong (IsDamaged look props n) c.in_err-take.field-0.0) inv.rev told)

pub entries-preserved : goal.entries-preserved
entries-preserved g c =
    let rev = c.args.rev in
    let inv = c.entries.invariant in
    let nodes = c.entries.nodes in
    record {
      kept = keeps_trans _ _ _ inv.kept c.in_ok-take.ensures.kept;
      later = omega (arith, inv.later, c.in_ok-take.ensures.cause.later);
      rev = c.in_ok-take.ensures.rev ∙ inv.rev;
      room = c.in_ok-take.ensures.room;
      above = c.in_ok-take.ensures.above;
      walk = λ look props knows sound holds last.
          let w = inv.walk look props knows sound holds last in
          let next = pending_value c.in-Some.next in
          let h = popped look rev w.0 nodes c.pop.new.self c.entries.parts next c.in-Some.ensures.next c.pop.ensures.seen w.1 in
          let told = c.in_ok-take.ensures.told look props w.0 (knows_upto _ _ look rev nodes.rev inv.kept (let e = inv.rev in omega (arith, e)) knows) (subst (λ (n : ℕ). AreSoundBefore look props n) (sym inv.rev) sound)
          (subst (λ (n : ℕ). HasWalk look n w.0 (next ∷ left c.pop.new.self) (record nodes { walk = c.pop.new.self }) c.entries.parts) (sym inv.rev) h) in
          (w.0, subst (λ (n : ℕ). HasWalk look n w.0 (left c.take.new.self.walk) c.take.new.self c.take.new.parts) inv.rev told);
    }

pub returns-in_err-check_copies-clause-told : goal.returns-in_err-check_copies-clause-told
returns-in_err-check_copies-clause-told g c = λ look props knows sound holds last.
    let rev = c.args.rev in
    let root = c.in_ok-root.root.node in
    let is_root = c.in_ok-root.ensures.told look knows in
    let nodes = c.entries.nodes in
    let some = c.entries.invariant.walk look props knows sound holds last in
    let p = err_from_is_err_and c.from_residual-in_err-check_copies.result c.from_residual-in_err-check_copies.ensures.1 in
    rw (p.1, p.2) (wrong_from (IsStray nodes (home_of root).offset) (IsDamaged look props rev) c.in_err-check_copies.field-0.0
    (λ w q. copies_wrong look props rev root is_root nodes c.entries.parts some c.in_default.ensures.next w q)
    (subst (λ (at : RevOffset). IfWrong (IsStray nodes at.offset) c.in_err-check_copies.field-0.0) c.place-place.ensures c.in_err-check_copies.ensures.told))

pub returns-clause-told : goal.returns-clause-told
returns-clause-told g c = λ look props knows sound holds last.
    let rev = c.args.rev in
    let root = c.in_ok-root.root.node in
    let is_root = c.in_ok-root.ensures.told look knows in
    let own = (root_home look rev root is_root).1 in
    let two = keeps_trans _ _ _ c.in_ok-root.ensures.kept c.in_ok-pred.ensures.kept in
    let behind = c.in_ok-check_root.ensures.told look (knows_upto _ _ look rev _ two (omega (arith, own)) knows) in
    let nodes = c.entries.nodes in
    let parts = c.entries.parts in
    let some = c.entries.invariant.walk look props knows sound holds last in
    let none = c.in_default.ensures.next in
    let once = subst (λ (at : RevOffset). CopiesStandOnce nodes at.offset) c.place-place.ensures c.in_ok-check_copies.ensures.told in
    let end = ended look props rev root is_root nodes parts some none sound (option_map (λ (v : Bor PlacedNode). v.now.node) c.args.last) behind last once in
    let found = first_is look props rev root is_root nodes parts some none (Some c.in-Some-into_root.root.node) c.in-Some-into_root.ensures.root in
    let same : c.in-Some-into_root.root.node ≡ root = same_Some _ _ found in
    (end.0, subst (λ (x : NodeRev). RootOf look rev (Ok x)) (sym same) is_root, end.1)

pub unreachable-requires : goal.unreachable-requires
unreachable-requires g c =
    let above = c.entries.invariant.above in
    let none = c.in-None.ensures.root in
    elim (slice_get_cases c.entries.nodes.above.items 0).1 [
      | inl w ↦ (let e = none ∙ ap (λ (p : Option Above). option_map (λ (a : Above). a.dir.node) p) w.2 in cc)
      | inr w ↦ absurd (omega (arith, above, w.0))
    ]

pub returns-in_err-pred-clause-kept : goal.returns-in_err-pred-clause-kept
returns-in_err-pred-clause-kept g c = keeps_trans _ _ _ c.in_ok-root.ensures.kept c.in_err-pred.ensures.kept

pub returns-in_err-check_root-clause-kept : goal.returns-in_err-check_root-clause-kept
returns-in_err-check_root-clause-kept g c = keeps_trans _ _ _ (keeps_trans _ _ _ c.in_ok-root.ensures.kept c.in_ok-pred.ensures.kept) c.in_err-check_root.ensures.kept

pub returns-in_err-nodes-clause-kept : goal.returns-in_err-nodes-clause-kept
returns-in_err-nodes-clause-kept g c = keeps_trans _ _ _ (keeps_trans _ _ _ c.in_ok-root.ensures.kept c.in_ok-pred.ensures.kept) c.in_ok-check_root.ensures.kept

pub returns-in_err-take_node-clause-kept : goal.returns-in_err-take_node-clause-kept
returns-in_err-take_node-clause-kept g c = keeps_trans _ _ _ (keeps_trans _ _ _ (keeps_trans _ _ _ c.in_ok-root.ensures.kept c.in_ok-pred.ensures.kept) c.in_ok-check_root.ensures.kept) c.in_err-take_node.ensures.kept
