-- What clashes behind landings, clashed before them.
use Rattle.std.proofs.Common.{◌≡◌, ◌<◌, ◌≤◌, ℕ, List, length, ⊎_elim, sym, ap, subst, ◌∙◌, arith}
use Rattle.std.specs.FinMap.{get}
use Rattle.fsfs_model.specs.declared.flat.mark.Mark.{Mark}
use Rattle.fsfs_base.specs.Paths.{Path}
use Rattle.fsfs_tree.specs.Nodes.{TreeFunction}
use Rattle.fsfs_model.specs.Flat.Landing.{land, is_clash, NoClash, IsFirstClash}
use Rattle.fsfs_tree.specs.Histories.{AreRevisions, IsHistory}
use Rattle.fsfs_tree.specs.Revisions.{tree_of}
use Rattle.fsfs_model.specs.Flat.Transactions.{IsTransaction}
use Rattle.fsfs_tree.specs.Dated.{last_of}
use Rattle.fsfs_model.proofs.TwoMergesLaw.{two_merges_are_one}
use Rattle.fsfs_machine.specs.declared.machine.Recorded.{Recorded}
use Rattle.fsfs_machine.specs.declared.machine.Txn.{Txn}
use Rattle.fsfs_machine.specs.Machine.{revisions}
use Rattle.fsfs_machine.proofs.Growing.{revisions_length}
use Rattle.fsfs_turn.specs.Views.{Begins, IsTxnOver}
use Rattle.fsfs_repo.specs.Works.{LandedOn, Unmoved, Moved}
use Rattle.fsfs_repo.proofs.Handing.{over_of, whole_revisions, whole_clear, whole_tree}
use Rattle.fsfs_job_run.specs.Serial.Clashes.{ClashesFirst, LandedClashesAreClashes}

-- behind one landing
step : (tree : ℕ → TreeFunction) (last b mid head : ℕ) (t u : TreeFunction) (marks : List Mark) (path : Path) → AreRevisions tree last → IsTransaction tree last b t marks → b ≤ mid → mid ≤ head → head ≤ last
    → NoClash b (tree b) (tree mid) t marks → u ≡ land (tree b) (tree mid) t marks mid → IsFirstClash mid (tree mid) (tree head) u marks path → IsFirstClash b (tree b) (tree head) t marks path
step tree last b mid head t u marks path are is up more in_range clear same first = record {
  clashes = back path ∙ first.clashes;
  least = λ q less. back q ∙ first.least q less;
}
  where
    back : (q : Path) → is_clash b (tree b) (tree head) t marks q ≡ is_clash mid (tree mid) (tree head) u marks q
    back q = (two_merges_are_one tree last b mid head mid mid t marks are is up more in_range clear q).0 ∙ ap (λ z. is_clash mid (tree mid) (tree head) z marks q) (sym same)

one_back : (h : List Recorded) (m y : Txn) (mid : ℕ) (seen : List Recorded) (head : ℕ) (path : Path) → IsHistory (revisions h) → IsTxnOver h m → Begins h seen → LandedOn mid seen m y → y.base ≤ head → head < length h
    → ClashesFirst h y head path → ClashesFirst h m head path
one_back h m y mid seen head path hist over begins landed up there first = ⊎_elim (λ same. subst (λ (z : Txn). ClashesFirst h z head path) same first) (λ l. by_landing l.0 l.1) landed.lands
  where
    first_at : IsFirstClash mid (tree_of (revisions h) mid) (tree_of (revisions h) head) (get y.tree) m.marks path
    first_at =
        subst (λ (c : List Mark). IsFirstClash mid (tree_of (revisions h) mid) (tree_of (revisions h) head) (get y.tree) c path) landed.marks
        (subst (λ (b : ℕ). IsFirstClash b (tree_of (revisions h) b) (tree_of (revisions h) head) (get y.tree) y.marks path) landed.base first)

    by_landing : NoClash m.base (tree_of (revisions seen) m.base) (tree_of (revisions seen) mid) (get m.tree) m.marks
        → ((q : Path) → get y.tree q ≡ land (tree_of (revisions seen) m.base) (tree_of (revisions seen) mid) (get m.tree) m.marks mid q) → ClashesFirst h m head path
    by_landing clear trees =
        let c = whole_clear h m y mid seen hist begins landed clear in
        let f = whole_tree h m y mid seen hist begins landed trees in
        let on : y.base ≡ mid = landed.base in
        step (tree_of (revisions h)) (last_of (revisions h)) m.base mid head (get m.tree) (get y.tree) m.marks path (whole_revisions h m y mid seen hist begins landed) over landed.later (omega (arith, up, on)) (omega (arith, there, revisions_length h)) c f first_at

pub clash_back : LandedClashesAreClashes
clash_back h x y head path hist over (Unmoved _) up there first = first
clash_back h x y head path hist over (Moved _ m _ mid seen before begins landed) up there first =
    let on : y.base ≡ mid = landed.base in
    clash_back h x m head path hist over before (omega (arith, up, on, at_most mid landed)) there (one_back h m y mid seen head path hist (over_of h x m over before) begins landed up there first)
  where
    at_most : (k : ℕ) → LandedOn k seen m y → m.base ≤ k
    at_most k l = l.later
