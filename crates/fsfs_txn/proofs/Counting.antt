-- Counts of mergeinfo on the way down a draft.
use Rattle.std.proofs.Common.{◌≡◌, ◌≤◌, ◌⊎◌, ◌+◌, ℕ, zero, suc, Bool, true, false, [], ◌∷◌, ◌++◌, length, take, refl, sym, ap, subst, ◌∙◌, inl, inr, append_assoc, arith}
use Rattle.std.specs.Prelude.{Option, Some, None, Ok, Err}
use Rattle.fsfs_base.specs.Paths.{PathName, Path}
use Rattle.fsfs_tree.specs.Nodes.{TreeFunction}
use Rattle.fsfs_base.specs.declared.fields.txn_name.TxnName.{TxnName}
use Rattle.fsfs_revision.specs.Told.{RevisionBytes}
use Rattle.fsfs_noderev.specs.Ids.{Old, part_value}
use Rattle.fsfs_noderev.specs.declared.node_id.NodeId.{NodeId}
use Rattle.fsfs_noderev.specs.declared.node_rev.CopySource.{CopySource}
use Rattle.fsfs_noderev.specs.declared.node_rev.NodeRev.{NodeRev}
use Rattle.fsfs_revision.specs.declared.wrong.ReadError.{ReadError}
use Rattle.fsfs_revision.specs.declared.wrong.ReadError.TheVariants as reads
use Rattle.fsfs_revision.specs.Damage.Readings.{Answers}
use Rattle.fsfs_revision.proofs.OneAnswer.{ok_same}
use Rattle.fsfs_revision.specs.Shows.Reading.{OfId, offset_of, StandsAt}
use Rattle.fsfs_revision.proofs.OneWalk.{of_id_one}
use Rattle.fsfs_revision.proofs.Walks.{take_front}
use Rattle.fsfs_draft.specs.Own.{OwnNode, Own}
use Rattle.fsfs_draft.specs.Rules.{at_top, ComesBy, Change, Copied, Made, stands_from}
use Rattle.fsfs_draft.specs.Drafts.{Folder, IsDraft, ShowTrees}
use Rattle.fsfs_draft.proofs.Here.{goes_from, rule_here, agrees_below}
use Rattle.fsfs_draft.specs.Errors.{of_read, IsFailure}
use Rattle.fsfs_draft.specs.Walks.{IsAt}
use Rattle.fsfs_draft.specs.declared.walk.Step.{Step}
use Rattle.fsfs_draft.specs.declared.walk.Step.TheVariants as steps
use Rattle.fsfs_draft.proofs.Walking.{pushed}
use Rattle.fsfs_txn.specs.Edits.Mergeinfo.{has_counts, RevisionHas, IsPlainAt, MeetsCountsTo, LacksCountsTo, CountsTo}
use Rattle.fsfs_txn.specs.Seeing.{counts_with}

-- ---- the base's root

module _ (look : RevisionBytes) (top base : ℕ) (trees : ℕ → TreeFunction) (shown : ShowTrees look top trees) (le : base ≤ top) (txn : TxnName) (f : Folder) (own : Own) (draft : IsDraft look top base txn f own)
    (v : OwnNode) (here : own [] ≡ Some v) where
  same_root : draft.root ≡ v
  same_root = let e = sym draft.root_is ∙ here in cc

  no_copy : v.node.copy_from ≡ None
  no_copy = subst (λ (x : OwnNode). x.node.copy_from ≡ None) same_root draft.root_id.2

  old_part : part_value v.node.id.node ≡ Old 0
  old_part = subst (λ (x : OwnNode). part_value x.node.id.node ≡ Old 0) same_root draft.root_id.0

  comes : ComesBy look top (StandsAt look base) at_top v
  comes = (rule_here look top base trees shown le txn f own draft [] v here).0

  -- a transaction's root goes on from something
  pub has_before : v.node.predecessor ≡ None → ⊥
  has_before none = by comes
    where
      by : ComesBy look top (StandsAt look base) at_top v → ⊥
      by (Change u at no_copy goes keeps root part) = let e = sym goes.predecessor ∙ none in cc
      by (Copied u from copy low at goes keeps root part) = let e = sym goes.predecessor ∙ none in cc
      by (Made no_copy no_before count root copy part) = let e = sym part.1 ∙ old_part in cc

  module _ (id : NodeId) (is : v.node.predecessor ≡ Some id) where
    pub record IsBaseRoot : Type 0 where
      pub u : NodeRev
      pub stands : StandsAt look base [] u
      pub read : OfId look id (Ok u)
      pub within : (offset_of id.place).rev ≤ top

    -- it is the base's root
    pub base_root : IsBaseRoot
    base_root =
        let agrees = agrees_below look top base trees shown le txn f own draft [] v here in
        let u = goes_from look top v at_top (StandsAt look base) id comes is in
        record {
          u = u.0;
          stands = subst (λ (o : Option NodeId). stands_from look None o (StandsAt look base) [] u.0) is (subst (λ (c : Option CopySource). stands_from look c v.node.predecessor (StandsAt look base) [] u.0) no_copy u.1);
          read = subst (λ (i : NodeId). OfId look i (Ok u.0)) u.2 (agrees.read [] u.0 u.1);
          within = subst (λ (i : NodeId). (offset_of i.place).rev ≤ top) u.2 (agrees.within [] u.0 u.1);
        }

    pub base_has : (w : NodeRev) → OfId look id (Ok w) → RevisionHas look base [] (has_counts w)
    base_has w read =
        let same : base_root.u ≡ w = ok_same base_root.u w (of_id_one look id (Ok base_root.u) (Ok w) base_root.read read) in
        (base_root.u, base_root.stands, ap (λ (x : NodeRev). has_counts x) same)

    pub base_fails : {A : Type 0} (view : A → NodeRev) (e : ReadError) → Answers view (OfId look id) (Err e) → IsFailure (of_read e)
    base_fails view reads.OutOfMemory h = tt
    base_fails view reads.DiskFault h = tt
    base_fails view (reads.Wrong w) h = let e = of_id_one look id (Ok base_root.u) (Err w) base_root.read h in cc

-- ---- step by step

last_or : (k n : ℕ) → k ≤ n + 1 → (k ≤ n) ⊎ (k ≡ suc n)
last_or zero n le = inl (omega arith)
last_or (suc k) zero le = inr (omega (arith, le))
last_or (suc k) (suc n) le = by (last_or k n (omega (arith, le)))
  where
    by : (k ≤ n) ⊎ (k ≡ suc n) → (suc k ≤ suc n) ⊎ (suc k ≡ suc (suc n))
    by (inl h) = inl (omega (arith, h))
    by (inr e) = inr (omega (arith, e))

-- the first names of a path, with one more
pub take_pushed : (front : Path) (name : PathName) (rest path : Path) (depth : ℕ) → front ++ name ∷ rest ≡ path → depth ≡ length front → take (depth + 1) path ≡ front ++ name ∷ []
take_pushed front name rest path depth parts deep =
    ap (λ (t : Path). take (depth + 1) t) (sym parts) ∙ ap (λ (k : ℕ). take k (front ++ name ∷ rest)) (pushed front name depth deep)
    ∙ ap (λ (t : Path). take (length (front ++ name ∷ [])) t) (sym (append_assoc front (name ∷ []) rest)) ∙ take_front (front ++ name ∷ []) rest

module _ (look : RevisionBytes) (trees : ℕ → TreeFunction) (base : ℕ) (own : Own) (path : Path) where
  pub counts_begin : (counted : Bool) → RevisionHas look base [] counted → (v : OwnNode) → own [] ≡ Some v → CountsTo look trees base own path 0 counted
  counts_begin true has v here = inl has
  counts_begin false has v here = (has, λ depth le. plain depth le)
    where
      plain : (depth : ℕ) → depth ≤ 0 → IsPlainAt look trees base own (take depth path)
      plain depth le = let none : depth ≡ 0 = omega (arith, le) in subst (λ (k : ℕ). IsPlainAt look trees base own (take k path)) (sym none) (inl (v, here))

  module _ (n : ℕ) where
    more : MeetsCountsTo look trees base own path n → MeetsCountsTo look trees base own path (n + 1)
    more (inl has) = inl has
    more (inr h) = inr (h.0, (let le = h.1 in omega (arith, le)), h.2)

    one_more : LacksCountsTo look trees base own path n → IsPlainAt look trees base own (take (n + 1) path) → LacksCountsTo look trees base own path (n + 1)
    one_more lacks plain = (lacks.0, λ depth le. by depth (last_or depth n le))
      where
        by : (depth : ℕ) → (depth ≤ n) ⊎ (depth ≡ suc n) → IsPlainAt look trees base own (take depth path)
        by depth (inl low) = lacks.1 depth low
        by depth (inr same) = let last : depth ≡ n + 1 = omega (arith, same) in subst (λ (k : ℕ). IsPlainAt look trees base own (take k path)) (sym last) plain

    -- one name more
    pub counts_more : (counted : Bool) (step : Step) → CountsTo look trees base own path n counted → IsAt look trees base own (take (n + 1) path) step → CountsTo look trees base own path (n + 1) (counts_with counted step)
    counts_more true (steps.Own id) h at = more h
    counts_more false (steps.Own id) h at = one_more h (inl (at.0, at.1))
    counts_more true (steps.Lasting found) h at = more h
    counts_more false (steps.Lasting found) h at = by (has_counts found.node) refl
      where
        by : (b : Bool) → has_counts found.node ≡ b → CountsTo look trees base own path (n + 1) b
        by true is = inr (n + 1, omega arith, (found.node, at, is))
        by false is = one_more h (inr (found.node, at, is))
