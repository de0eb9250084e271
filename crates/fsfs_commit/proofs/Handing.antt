-- The entry of a landed transaction adds the revision that the one handed in adds.
use Rattle.std.proofs.Common.{◌≡◌, ◌<◌, ◌≤◌, ℕ, suc, List, length, ⊎_elim, sym, ap, subst, ◌∙◌, arith}
use Rattle.std.specs.FinMap.{get}
use Rattle.fsfs_model.specs.declared.flat.mark.Mark.{Mark}
use Rattle.fsfs_base.specs.Paths.{Path}
use Rattle.fsfs_tree.specs.Nodes.{TreeFunction}
use Rattle.fsfs_model.specs.Flat.Folding.{fold}
use Rattle.fsfs_model.specs.Flat.Landing.{land, is_clash, NoClash}
use Rattle.fsfs_tree.specs.Histories.{AreRevisions, IsHistory}
use Rattle.fsfs_tree.specs.Revisions.{Revision, tree_of}
use Rattle.fsfs_model.specs.Flat.Transactions.{IsTransaction, IsNext}
use Rattle.fsfs_tree.specs.Dated.{last_of}
use Rattle.fsfs_model.proofs.TwoMergesLaw.{two_merges_are_one}
use Rattle.fsfs_machine.specs.declared.machine.Recorded.{Recorded}
use Rattle.fsfs_machine.specs.declared.machine.Txn.{Txn}
use Rattle.fsfs_machine.specs.Machine.{revisions, entry_of}
use Rattle.fsfs_turn.specs.Views.{Begins, IsTxnOver}
use Rattle.fsfs_turn.proofs.Longer.{tree_first, txn_later}
use Rattle.fsfs_commit.specs.Works.{LandedOn, Landings, Unmoved, Moved}

-- each of the landings is one over the whole
pub over_of : (h : List Recorded) (x y : Txn) → IsTxnOver h x → Landings h x y → IsTxnOver h y
over_of h x y over (Unmoved _) = over
over_of h x y over (Moved _ m _ head seen before begins landed) = txn_later seen h y begins (omega (arith, landed.there)) landed.over

-- one landing
step : (tree : ℕ → TreeFunction) (last n b head : ℕ) (t u : TreeFunction) (marks : List Mark) → AreRevisions tree last → IsTransaction tree last b t marks → b ≤ head → head ≤ last
    → NoClash b (tree b) (tree head) t marks → u ≡ land (tree b) (tree head) t marks head → NoClash head (tree head) (tree last) u marks
    → NoClash b (tree b) (tree last) t marks × ((p : Path) → land (tree head) (tree last) u marks n p ≡ land (tree b) (tree last) t marks n p)
step tree last n b head t u marks are is up in_range clear same none = (
  λ p. (law p).0 ∙ ap (λ z. is_clash head (tree head) (tree last) z marks p) (sym same) ∙ none p,
  λ p. ap (λ z. land (tree head) (tree last) z marks n p) same ∙ (law p).1,
)
  where
    law : (p : Path) → (is_clash b (tree b) (tree last) t marks p ≡ is_clash head (tree head) (tree last) (land (tree b) (tree head) t marks head) marks p)
        × (land (tree head) (tree last) (land (tree b) (tree head) t marks head) marks n p ≡ land (tree b) (tree last) t marks n p)
    law p = two_merges_are_one tree last b head last head n t marks are is up in_range (omega arith) clear p

-- ---- one landing, over a history that goes on

module _ (h : List Recorded) (m y : Txn) (head : ℕ) (seen : List Recorded) (hist : IsHistory (revisions h)) (begins : Begins h seen) (landed : LandedOn head seen m y) where
  last_is : last_of (revisions h) ≡ hist.last
  last_is = let c : length (revisions h) ≡ suc hist.last = hist.counted in omega (arith, c)

  pub whole_revisions : AreRevisions (tree_of (revisions h)) (last_of (revisions h))
  whole_revisions = subst (λ n. AreRevisions (tree_of (revisions h)) n) (sym last_is) hist.revisions

  base_same : tree_of (revisions seen) m.base ≡ tree_of (revisions h) m.base
  base_same = tree_first seen h m.base begins (omega (arith, landed.later, landed.there))

  head_same : tree_of (revisions seen) head ≡ tree_of (revisions h) head
  head_same = tree_first seen h head begins landed.there

  pub whole_clear : NoClash m.base (tree_of (revisions seen) m.base) (tree_of (revisions seen) head) (get m.tree) m.marks → NoClash m.base (tree_of (revisions h) m.base) (tree_of (revisions h) head) (get m.tree) m.marks
  whole_clear clear = subst (λ s. NoClash m.base (tree_of (revisions h) m.base) s (get m.tree) m.marks) head_same (subst (λ a. NoClash m.base a (tree_of (revisions seen) head) (get m.tree) m.marks) base_same clear)

  pub whole_tree : ((q : Path) → get y.tree q ≡ land (tree_of (revisions seen) m.base) (tree_of (revisions seen) head) (get m.tree) m.marks head q) → get y.tree ≡ land (tree_of (revisions h) m.base) (tree_of (revisions h) head) (get m.tree) m.marks head
  whole_tree trees = (λ i q. trees q i) ∙ ap (λ a. land a (tree_of (revisions seen) head) (get m.tree) m.marks head) base_same ∙ ap (λ s. land (tree_of (revisions h) m.base) s (get m.tree) m.marks head) head_same

-- ---- the entry

one_back : (h : List Recorded) (k : ℕ) (p : List (List ℕ × List ℕ)) (next : Revision) (m y : Txn) (head : ℕ) (seen : List Recorded) → IsHistory (revisions h) → IsTxnOver h m → Begins h seen → LandedOn head seen m y
    → IsNext (revisions h) (entry_of k y p) next → IsNext (revisions h) (entry_of k m p) next
one_back h k p next m y head seen hist over begins landed is = ⊎_elim (λ same. subst (λ z. IsNext (revisions h) (entry_of k z p) next) same is) (λ l. by_landing l.0 l.1) landed.lands
  where
    -- the landed transaction's parts
    clear_at : NoClash head (tree_of (revisions h) head) (tree_of (revisions h) (last_of (revisions h))) (get y.tree) m.marks
    clear_at =
        subst (λ c. NoClash head (tree_of (revisions h) head) (tree_of (revisions h) (last_of (revisions h))) (get y.tree) c) landed.marks
        (subst (λ b. NoClash b (tree_of (revisions h) b) (tree_of (revisions h) (last_of (revisions h))) (get y.tree) y.marks) landed.base is.clear)

    tree_at : (q : Path) → get next.tree q ≡ land (tree_of (revisions h) head) (tree_of (revisions h) (last_of (revisions h))) (get y.tree) m.marks (length (revisions h)) q
    tree_at q =
        subst (λ c. get next.tree q ≡ land (tree_of (revisions h) head) (tree_of (revisions h) (last_of (revisions h))) (get y.tree) c (length (revisions h)) q) landed.marks
        (subst (λ b. get next.tree q ≡ land (tree_of (revisions h) b) (tree_of (revisions h) (last_of (revisions h))) (get y.tree) y.marks (length (revisions h)) q) landed.base (is.tree q))

    by_landing : NoClash m.base (tree_of (revisions seen) m.base) (tree_of (revisions seen) head) (get m.tree) m.marks
        → ((q : Path) → get y.tree q ≡ land (tree_of (revisions seen) m.base) (tree_of (revisions seen) head) (get m.tree) m.marks head q) → IsNext (revisions h) (entry_of k m p) next
    by_landing clear trees =
        let c = whole_clear h m y head seen hist begins landed clear in
        let f = whole_tree h m y head seen hist begins landed trees in
        let base_in : y.base < length (revisions h) = is.based in
        let s = step (tree_of (revisions h)) (last_of (revisions h)) (length (revisions h)) m.base head (get m.tree) (get y.tree) m.marks (whole_revisions h m y head seen hist begins landed) over landed.later (omega (arith, base_in, landed.base)) c f clear_at in
        record {
          based = omega (arith, base_in, landed.base, landed.later);
          clear = s.0;
          limit = is.limit;
          tree = λ q. tree_at q ∙ s.1 q;
          changes = λ q. subst (λ c. get next.changes q ≡ fold c q) landed.marks (is.changes q);
          properties = is.properties;
        }

pub entry_back : (h : List Recorded) (k : ℕ) (p : List (List ℕ × List ℕ)) (next : Revision) (x y : Txn) → IsHistory (revisions h) → IsTxnOver h x → Landings h x y
    → IsNext (revisions h) (entry_of k y p) next → IsNext (revisions h) (entry_of k x p) next
entry_back h k p next x y hist over (Unmoved _) is = is
entry_back h k p next x y hist over (Moved _ m _ head seen before begins landed) is =
    entry_back h k p next x m hist over before (one_back h k p next m y head seen hist (over_of h x m over before) begins landed is)
