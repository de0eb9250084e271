use Rattle.std.proofs.Common.{◌≡◌, ◌<◌, ◌+◌, ◌-◌, ℕ, true, false, refl, sym, ap, subst, ◌∙◌, arith}
use Rattle.std.specs.Prelude.{Option, Some, is_none, option_map, slice_get}
use Rattle.std.specs.Borrow.{Bor}
use Rattle.std.proofs.lemmas.Result.{err_from_is_err_and}
use Rattle.fsfs_base.specs.Paths.{PathName}
use Rattle.fsfs_revision.specs.declared.damage.RevOffset.{RevOffset}
use Rattle.fsfs_revision.specs.Shows.Reading.{DirEntry as EntryValue, OfEntry, offset_of}
use Rattle.fsfs_dag.specs.TreeWalks.{Left, left, total, weight}
use Rattle.fsfs_dag.specs.Views.{entry_value, home_of}
use Rattle.fsfs_dag.specs.declared.directory.DirEntry.{DirEntry}
use Rattle.fsfs_dag.specs.declared.node.PlacedNode.{PlacedNode}
use Rattle.fsfs_dag.proofs.TreeWalkLemmas.{weighs}
use Rattle.fsfs_history.specs.KeptDirs.{by_name}
use Rattle.fsfs_sound.specs.Damaged.{IsDamaged}
use Rattle.fsfs_revision.proofs.Keeping.{keeps_trans}
use Rattle.fsfs_verify.specs.Edges.{TakesEdge, IsWrongEdge}
use Rattle.fsfs_verify.specs.Preds.{IsWrongPred}
use Rattle.fsfs_verify.specs.declared.nodes.NewNodes.{NewNodes}
use Rattle.fsfs_verify.specs.Finds.{Finds}
use Rattle.fsfs_verify.specs.LinksUp.{link_at}
use Rattle.fsfs_verify.specs.Steps.{TakesNode, IsWrongNode}
use Rattle.fsfs_verify.proofs.AllLemmas.{knows_upto}
use Rattle.fsfs_verify.proofs.Findings.{wrong_from, wrong_as}
use Rattle.fsfs_verify.proofs.Linking.{IsPut}
use Rattle.fsfs_verify.proofs.StepLemmas.{took_again, node_found, next_place, read_wrong, pred_wrong, own, up_to, lasting, edge_wrong, precedes_as}
use Rattle.fsfs_verify.proofs.nodes.NewNodes.take_new.Goals as goal

pub returns-in_err-node-clause-told : goal.returns-in_err-node-clause-told
returns-in_err-node-clause-told g c = λ look props root knows sound since depth h.
    let rev = c.args.self.now.rev in
    let entry = entry_value c.args.next.entry in
    let level = c.args.next.level in
    let rest = left c.args.self.now.walk in
    let a = next_place look rev root level entry rest c.args.self.now c.args.parts.now h in
    let le = up_to look rev root level entry rest c.args.self.now c.args.parts.now h a.0 a.1 props sound in
    let p = err_from_is_err_and c.from_residual.result c.from_residual.ensures.1 in
    rw (p.1, p.2) (wrong_as (λ (found : PlacedNode). found.node) (OfEntry look entry) (IsDamaged look props rev) c.in_err-node.field-0.0 (λ w q. read_wrong look rev root level entry rest c.args.self.now c.args.parts.now h a.0 a.1 props sound w q)
    (c.in_err-node.ensures.told look (λ r lower. knows r (omega (arith, lower, le))) h.seen))

pub returns-in_err-pred-clause-told : goal.returns-in_err-pred-clause-told
returns-in_err-pred-clause-told g c = λ look props root knows sound since depth h.
    let rev = c.args.self.now.rev in
    let entry = entry_value c.args.next.entry in
    let level = c.args.next.level in
    let rest = left c.args.self.now.walk in
    let a = next_place look rev root level entry rest c.args.self.now c.args.parts.now h in
    let le = up_to look rev root level entry rest c.args.self.now c.args.parts.now h a.0 a.1 props sound in
    let of = c.in_ok-node.ensures.told look (λ r lower. knows r (omega (arith, lower, le))) h.seen in
    let v = c.in_ok-node.node.node in
    let mine = own look rev root level entry rest c.args.self.now c.args.parts.now h a.0 a.1 props sound since v of in
    let p = err_from_is_err_and c.from_residual-in_err-pred.result c.from_residual-in_err-pred.ensures.1 in
    rw (p.1, p.2) (wrong_from (IsWrongPred look v) (IsDamaged look props rev) c.in_err-pred.field-0.0 (λ w q. pred_wrong look rev root level entry rest c.args.self.now c.args.parts.now h a.0 a.1 props sound since v of w q)
    (c.in_err-pred.ensures.told look (knows_upto _ _ look rev _ c.in_ok-node.ensures.kept (omega (arith, mine)) knows)))

-- the last of the directories above, and its predecessor's entry of the name
pub returns-in_err-check_edge-clause-told : goal.returns-in_err-check_edge-clause-told
returns-in_err-check_edge-clause-told g c = λ look props root knows sound since depth h.
    let rev = c.args.self.now.rev in
    let entry = entry_value c.args.next.entry in
    let level = c.args.next.level in
    let rest = left c.args.self.now.walk in
    let b = next_place look rev root level entry rest c.args.self.now c.args.parts.now h in
    let le = up_to look rev root level entry rest c.args.self.now c.args.parts.now h b.0 b.1 props sound in
    let of = c.in_ok-node.ensures.told look (λ r lower. knows r (omega (arith, lower, le))) h.seen in
    let v = c.in_ok-node.node.node in
    let mine = own look rev root level entry rest c.args.self.now c.args.parts.now h b.0 b.1 props sound since v of in
    let precedes = c.in_ok-pred.ensures.told look (knows_upto _ _ look rev _ c.in_ok-node.ensures.kept (omega (arith, mine)) knows) in
    let kept = keeps_trans _ _ _ c.in_ok-node.ensures.kept c.in_ok-pred.ensures.kept in
    let a = c.in-Some.above.now in
    let value = rw c.deref.ensures.value at c.in-Some.ensures.value in
    let place : slice_get c.args.self.now.above.items (level - 1) ≡ Some a = ap (λ (n : ℕ). slice_get c.args.self.now.above.items (n - 1)) depth ∙ sym value in
    let lasts = lasting look rev root level entry rest c.args.self.now c.args.parts.now h b.0 b.1 props sound since v of in
    let before = option_map (λ (e : Bor DirEntry). entry_value e.now) c.get-before.result in
    let before_is = c.get-before.ensures ∙ ap (λ (n : PathName). by_name a.before n) c.as_str.ensures.value in
    let p = err_from_is_err_and c.from_residual-in_err-check_edge.result c.from_residual-in_err-check_edge.ensures.1 in
    rw (p.1, p.2) (wrong_from (IsWrongEdge look rev h.copied a.dir.node v before) (IsDamaged look props rev) c.in_err-check_edge.field-0.0
    (λ w q. edge_wrong look rev root level entry rest c.args.self.now c.args.parts.now h a place props sound since v of (option_map (λ (u : PlacedNode). u.node) c.in_ok-pred.pred) precedes w (subst (λ (o : Option EntryValue). IsWrongEdge look rev h.copied a.dir.node v o w) before_is q))
    (c.in_err-check_edge.ensures.told look h.begun h.copied h.drawn (knows_upto _ _ look rev rev kept (omega arith) knows) mine lasts.1 (precedes_as look v c.in_ok-pred.pred c.as_ref.result c.as_ref.ensures.value precedes) h.brought))

-- it is named for the first time, and checked by itself
pub returns-then-branch-clause-told : goal.returns-then-branch-clause-told
returns-then-branch-clause-told g c = λ look props root knows sound since depth h.
    let old = c.args.self.now in
    let parts = c.args.parts.now in
    let rev = old.rev in
    let entry = entry_value c.args.next.entry in
    let level = c.args.next.level in
    let rest = left old.walk in
    let b = next_place look rev root level entry rest old parts h in
    let le = up_to look rev root level entry rest old parts h b.0 b.1 props sound in
    let of = c.in_ok-node.ensures.told look (λ r lower. knows r (omega (arith, lower, le))) h.seen in
    let seen = c.in_ok-node.ensures.seen look (λ r lower. knows r (omega (arith, lower, le))) h.seen in
    let v = c.in_ok-node.node.node in
    let mine = own look rev root level entry rest old parts h b.0 b.1 props sound since v of in
    let lasts = lasting look rev root level entry rest old parts h b.0 b.1 props sound since v of in
    let precedes = c.in_ok-pred.ensures.told look (knows_upto _ _ look rev _ c.in_ok-node.ensures.kept (omega (arith, mine)) knows) in
    let kept = keeps_trans _ _ _ c.in_ok-node.ensures.kept c.in_ok-pred.ensures.kept in
    let a = c.in-Some.above.now in
    let value = rw c.deref.ensures.value at c.in-Some.ensures.value in
    let place : slice_get old.above.items (level - 1) ≡ Some a = ap (λ (n : ℕ). slice_get old.above.items (n - 1)) depth ∙ sym value in
    let told = c.in_ok-check_edge.ensures.told look h.begun h.copied h.drawn (knows_upto _ _ look rev rev kept (omega arith) knows) mine lasts.1 (precedes_as look v c.in_ok-pred.pred c.as_ref.result c.as_ref.ensures.value precedes) h.brought in
    let before_is = c.get-before.ensures ∙ ap (λ (n : PathName). by_name a.before n) c.as_str.ensures.value in
    let edge = subst (λ (o : Option EntryValue). TakesEdge look rev h.copied a.dir.node v o h.drawn told.0) before_is told.1 in
    let new : NewNodes = record old { walk = c.read.new.self; links = c.put.new.self } in
    let there = subst (λ (at : RevOffset). IsPut old.links new.links c.place.result.offset at.offset entry.name) c.place-dir.ensures c.in_ok-put.ensures.put in
    let put = subst (λ (at : RevOffset). IsPut old.links new.links at.offset (home_of a.dir.node).offset entry.name) c.place.ensures there in
    let first = subst (λ (at : RevOffset). is_none (link_at old.links at.offset) ≡ true) c.place.ensures (sym c.in_ok-put.ensures.first ∙ c.if-branch.true) in
    let pred = option_map (λ (u : PlacedNode). u.node) c.in_ok-pred.pred in
    let all = keeps_trans _ _ _ kept c.in_ok-check_edge.ensures.kept in
    let step = c.take_node.new.self in
    let found = subst (λ (n : ℕ). Finds (λ x. TakesNode look rev n h.begun h.copied told.0 v pred new step c.take_node.new.parts) (IsWrongNode look rev h.begun h.copied told.0 v pred) c.take_node.result) (sym depth)
    (c.take_node.ensures.told look h.begun h.copied told.0 (knows_upto _ _ look rev rev all (omega arith) knows) mine lasts precedes told.2) in
    node_found look rev root level entry rest old parts h a place props sound since v of told.0 edge new refl seen c.in_ok-node.ensures.left refl refl put first pred precedes step c.take_node.new.parts depth c.take_node.result c.take_node.ensures.same found

-- it is named again
pub returns-clause-told : goal.returns-clause-told
returns-clause-told g c = λ look props root knows sound since depth h.
    let old = c.args.self.now in
    let parts = c.args.parts.now in
    let rev = old.rev in
    let entry = entry_value c.args.next.entry in
    let level = c.args.next.level in
    let rest = left old.walk in
    let b = next_place look rev root level entry rest old parts h in
    let le = up_to look rev root level entry rest old parts h b.0 b.1 props sound in
    let of = c.in_ok-node.ensures.told look (λ r lower. knows r (omega (arith, lower, le))) h.seen in
    let seen = c.in_ok-node.ensures.seen look (λ r lower. knows r (omega (arith, lower, le))) h.seen in
    let v = c.in_ok-node.node.node in
    let mine = own look rev root level entry rest old parts h b.0 b.1 props sound since v of in
    let lasts = lasting look rev root level entry rest old parts h b.0 b.1 props sound since v of in
    let precedes = c.in_ok-pred.ensures.told look (knows_upto _ _ look rev _ c.in_ok-node.ensures.kept (omega (arith, mine)) knows) in
    let kept = keeps_trans _ _ _ c.in_ok-node.ensures.kept c.in_ok-pred.ensures.kept in
    let a = c.in-Some.above.now in
    let value = rw c.deref.ensures.value at c.in-Some.ensures.value in
    let place : slice_get old.above.items (level - 1) ≡ Some a = ap (λ (n : ℕ). slice_get old.above.items (n - 1)) depth ∙ sym value in
    let told = c.in_ok-check_edge.ensures.told look h.begun h.copied h.drawn (knows_upto _ _ look rev rev kept (omega arith) knows) mine lasts.1 (precedes_as look v c.in_ok-pred.pred c.as_ref.result c.as_ref.ensures.value precedes) h.brought in
    let before_is = c.get-before.ensures ∙ ap (λ (n : PathName). by_name a.before n) c.as_str.ensures.value in
    let edge = subst (λ (o : Option EntryValue). TakesEdge look rev h.copied a.dir.node v o h.drawn told.0) before_is told.1 in
    let new : NewNodes = record old { walk = c.read.new.self; links = c.put.new.self } in
    let there = subst (λ (at : RevOffset). IsPut old.links new.links c.place.result.offset at.offset entry.name) c.place-dir.ensures c.in_ok-put.ensures.put in
    let put = subst (λ (at : RevOffset). IsPut old.links new.links at.offset (home_of a.dir.node).offset entry.name) c.place.ensures there in
    let again = subst (λ (at : RevOffset). is_none (link_at old.links at.offset) ≡ false) c.place.ensures (sym c.in_ok-put.ensures.first ∙ c.if-branch.false) in
    took_again look rev root level entry rest old parts h a place props sound since v of told.0 edge new refl seen c.in_ok-node.ensures.left refl refl put c.check_edge.new.parts told.2 again

pub returns-clause-total : goal.returns-clause-total
returns-clause-total g c =
    let walk = c.args.self.now.walk in
    let home = offset_of c.args.next.entry.id.place in
    subst (λ (l : Left). total l < total (left walk) + weight home) (sym c.in_ok-node.ensures.left) (weighs (total (left walk)) home)

pub returns-in_err-pred-clause-kept : goal.returns-in_err-pred-clause-kept
returns-in_err-pred-clause-kept g c = keeps_trans _ _ _ c.in_ok-node.ensures.kept c.in_err-pred.ensures.kept

pub returns-in_err-check_edge-clause-kept : goal.returns-in_err-check_edge-clause-kept
returns-in_err-check_edge-clause-kept g c = keeps_trans _ _ _ (keeps_trans _ _ _ c.in_ok-node.ensures.kept c.in_ok-pred.ensures.kept) c.in_err-check_edge.ensures.kept

pub returns-in_err-put-clause-kept : goal.returns-in_err-put-clause-kept
returns-in_err-put-clause-kept g c = keeps_trans _ _ _ (keeps_trans _ _ _ c.in_ok-node.ensures.kept c.in_ok-pred.ensures.kept) c.in_ok-check_edge.ensures.kept

pub returns-then-branch-clause-kept : goal.returns-then-branch-clause-kept
returns-then-branch-clause-kept g c =
    keeps_trans _ _ _ (keeps_trans _ _ _ (keeps_trans _ _ _ c.in_ok-node.ensures.kept c.in_ok-pred.ensures.kept) c.in_ok-check_edge.ensures.kept) c.take_node.ensures.kept

pub returns-clause-kept : goal.returns-clause-kept
returns-clause-kept g c = keeps_trans _ _ _ (keeps_trans _ _ _ c.in_ok-node.ensures.kept c.in_ok-pred.ensures.kept) c.in_ok-check_edge.ensures.kept
