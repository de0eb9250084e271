use Rattle.std.proofs.Common.{◌≤◌, ℕ, List, ◌+◌, drop, map, Err, refl, subst, arith}
use Rattle.std.specs.Prelude.{option_map}
use Rattle.std.specs.String.{string_bytes}
use Rattle.std.proofs.lemmas.Result.{err_from_is_err_and}
use Rattle.fsfs_base.specs.Paths.{Path}
use Rattle.fsfs_revision.specs.Told.{Knows}
use Rattle.fsfs_revision.proofs.Keeping.{keeps_trans}
use Rattle.fsfs_revision.specs.Shows.Reading.{MetFrom, ChildOf}
use Rattle.fsfs_revision.specs.Damage.Readings.{Answers}
use Rattle.fsfs_dag.specs.declared.node.PlacedNode.{PlacedNode}
use Rattle.fsfs_dag.specs.Views.{home_of}
use Rattle.fsfs_history.specs.Points.{way_met, root_value}
use Rattle.fsfs_revision.specs.Ancestry.CopyRoots.{IsRootedFrom}
use Rattle.fsfs_history.proofs.HistoryLemmas.{rooted_from_root, rooted_down, rooted_end}
use Rattle.fsfs_dag.proofs.WalkLemmas.{names_step, names_end, from_root, walk_ends, walk_file, walk_down, walk_absent, walk_wrong}
use Rattle.fsfs_history.proofs.history.way_to.Goals as goal

pub loop-name-init : goal.loop-name-init
loop-name-init g c = record {
  depth = refl;
  kept = c.in_ok-node.ensures.kept;
  count = c.in_ok-node.ensures.cause.later;
  below = omega (arith, c.in_ok-node.ensures.rev);
  root = omega (arith, c.in_ok-root.ensures.before, c.in_ok-node.ensures.rev);
  rooted = λ look knows v last h. rooted_from_root look c.args.rev c.args.path.now c.in_ok-node.node.node (root_value c.in_ok-root.root) (c.in_ok-node.ensures.told look knows) c.in_ok-root.ensures.value v last
      (subst (λ (p : Path). IsRootedFrom look c.in_ok-node.node.node (root_value c.in_ok-root.root) p v last) c.names-name-items.ensures h);
  met = λ look knows r h. from_root look c.args.rev c.args.path.now c.in_ok-node.node.node (c.in_ok-node.ensures.told look knows) r (subst (λ (p : Path). MetFrom look c.in_ok-node.node.node 0 p r) c.names-name-items.ensures h);
}

pub loop-name-preserved : goal.loop-name-preserved
loop-name-preserved g c =
    let inv = c.loop-name.invariant in
    let v = c.loop-name.node.node in
    let i = c.loop-name.name-index in
    let items = c.names-name-items.result.now in
    let is = names_step string_bytes items i c.name-item.result c.loop-name-test.true c.name-item.is in
    record {
      depth = omega (arith, inv.depth);
      kept = keeps_trans _ _ _ inv.kept c.in_ok-child_named.ensures.kept;
      count = omega (arith, inv.count, c.in_ok-child_named.ensures.cause.later);
      below = (let under : (home_of c.in-Some.child.node).rev ≤ (home_of v).rev = rw c.in-Some.is at c.in_ok-child_named.ensures.below in omega (arith, inv.below, under));
      root = (let under : (home_of c.in-Some.child.node).rev ≤ (home_of v).rev = rw c.in-Some.is at c.in_ok-child_named.ensures.below in c.in_ok-root-in-Some.ensures.within c.args.rev inv.root (omega (arith, inv.below, under)));
      rooted = λ look knows w last h.
          let known : Knows (g.B.Book.told c.loop-name.book).revs (home_of v).rev look = λ n le. inv.kept.revs n (look n) (knows n (omega (arith, inv.below, le))) in
          let child = rw (c.deref.ensures, c.in-Some.is) at (c.in_ok-child_named.ensures.told look known) in
          inv.rooted look knows w last (rooted_down look v c.in-Some.child.node (root_value c.loop-name.root) (root_value c.in_ok-root-in-Some.root) (map string_bytes (drop i items)) (map string_bytes (drop (i + 1) items)) (string_bytes c.name-item.result) is c.in-Dir.is child c.in_ok-root-in-Some.ensures.value w last h);
      met = λ look knows r h.
          let later : Knows (g.B.Book.told c.loop-name.book).revs (home_of v).rev look = λ n le. inv.kept.revs n (look n) (knows n (omega (arith, inv.below, le))) in
          let child = rw (c.deref.ensures, c.in-Some.is) at (c.in_ok-child_named.ensures.told look later) in
          inv.met look knows r (walk_down look v c.loop-name.depth (map string_bytes (drop i items)) (map string_bytes (drop (i + 1) items)) (string_bytes c.name-item.result) is c.in-Dir.is c.in-Some.child.node child r h);
    }

pub returns-in-File-clause-told : goal.returns-in-File-clause-told
returns-in-File-clause-told g c = λ look knows.
    let inv = c.loop-name.invariant in
    let v = c.loop-name.node.node in
    let i = c.loop-name.name-index in
    let items = c.names-name-items.result.now in
    let is = names_step string_bytes items i c.name-item.result c.loop-name-test.true c.name-item.is in
    inv.met look knows _ (walk_file look v c.loop-name.depth (map string_bytes (drop i items)) (map string_bytes (drop (i + 1) items)) (string_bytes c.name-item.result) is c.in-File.is)

pub returns-in_err-child_named-clause-told : goal.returns-in_err-child_named-clause-told
returns-in_err-child_named-clause-told g c = λ look knows.
    let p = err_from_is_err_and c.from_residual-in_err-child_named.result c.from_residual-in_err-child_named.ensures.1 in
    let inv = c.loop-name.invariant in
    let v = c.loop-name.node.node in
    let i = c.loop-name.name-index in
    let items = c.names-name-items.result.now in
    let is = names_step string_bytes items i c.name-item.result c.loop-name-test.true c.name-item.is in
    let later : Knows (g.B.Book.told c.loop-name.book).revs (home_of v).rev look = λ n le. inv.kept.revs n (look n) (knows n (omega (arith, inv.below, le))) in
    let e = c.in_err-child_named.field-0.0 in
    let child = subst (λ (name : List ℕ). Answers (option_map (λ (found : PlacedNode). found.node)) (ChildOf look v name) (Err e)) c.deref.ensures (c.in_err-child_named.ensures.told look later) in
    rw (p.1, p.2) (walk_wrong look v c.loop-name.depth (map string_bytes (drop i items)) (map string_bytes (drop (i + 1) items)) (string_bytes c.name-item.result) is
    (option_map (λ (found : PlacedNode). found.node)) way_met c.args.rev c.args.path.now c.in_err-child_named.field-0.0 (inv.met look knows) c.in-Dir.is child)

pub returns-in_err-child_named-clause-kept : goal.returns-in_err-child_named-clause-kept
returns-in_err-child_named-clause-kept g c = keeps_trans _ _ _ c.loop-name.invariant.kept c.in_err-child_named.ensures.kept

pub returns-in-None-clause-told : goal.returns-in-None-clause-told
returns-in-None-clause-told g c = λ look knows.
    let inv = c.loop-name.invariant in
    let v = c.loop-name.node.node in
    let i = c.loop-name.name-index in
    let items = c.names-name-items.result.now in
    let is = names_step string_bytes items i c.name-item.result c.loop-name-test.true c.name-item.is in
    let later : Knows (g.B.Book.told c.loop-name.book).revs (home_of v).rev look = λ n le. inv.kept.revs n (look n) (knows n (omega (arith, inv.below, le))) in
    let child = rw (c.deref.ensures, c.in-None.is) at (c.in_ok-child_named.ensures.told look later) in
    inv.met look knows _ (walk_absent look v c.loop-name.depth (map string_bytes (drop i items)) (map string_bytes (drop (i + 1) items)) (string_bytes c.name-item.result) is c.in-Dir.is child)

pub returns-in-None-clause-kept : goal.returns-in-None-clause-kept
returns-in-None-clause-kept g c = keeps_trans _ _ _ c.loop-name.invariant.kept c.in_ok-child_named.ensures.kept

pub returns-clause-told : goal.returns-clause-told
returns-clause-told g c = λ look knows.
    let inv = c.loop-name.invariant in
    let v = c.loop-name.node.node in
    let i = c.loop-name.name-index in
    let items = c.names-name-items.result.now in
    inv.met look knows _ (walk_ends look v c.loop-name.depth (map string_bytes (drop i items)) (names_end string_bytes items i (omega (arith, c.loop-name-test.false))))

pub returns-in_err-root-in-Some-clause-kept : goal.returns-in_err-root-in-Some-clause-kept
returns-in_err-root-in-Some-clause-kept g c = keeps_trans _ _ _ c.loop-name.invariant.kept c.in_ok-child_named.ensures.kept

pub returns-clause-rooted : goal.returns-clause-rooted
returns-clause-rooted g c = λ look knows.
    let inv = c.loop-name.invariant in
    let v = c.loop-name.node.node in
    let i = c.loop-name.name-index in
    let items = c.names-name-items.result.now in
    (c.in_ok-path.ensures.cases, inv.rooted look knows v (root_value c.loop-name.root) (rooted_end look v (root_value c.loop-name.root) (map string_bytes (drop i items)) (names_end string_bytes items i (omega (arith, c.loop-name-test.false)))))
