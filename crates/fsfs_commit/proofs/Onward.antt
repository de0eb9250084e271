-- What a landing says of the revisions that a pass has seen stays, as it sees more.
use Rattle.std.proofs.Common.{◌≡◌, ◌<◌, ◌≤◌, ◌+◌, ℕ, List, length, inl, inr, ⊎_elim, ap, subst, ◌∙◌, arith, take}
use Rattle.std.specs.Prelude.{Option}
use Rattle.std.specs.FinMap.{get}
use Rattle.std.proofs.lemmas.List.{take-append-le}
use Rattle.fsfs_base.specs.declared.failed.Failed.{Failed}
use Rattle.fsfs_base.specs.declared.fields.txn_name.TxnName.{TxnName}
use Rattle.fsfs_tree.specs.Revisions.{tree_of}
use Rattle.fsfs_model.specs.Flat.Landing.{land, NoClash, IsFirstClash}
use Rattle.fsfs_draft.specs.Drafts.{Folder}
use Rattle.fsfs_machine.specs.declared.machine.Recorded.{Recorded}
use Rattle.fsfs_machine.specs.declared.machine.Txn.{Txn}
use Rattle.fsfs_machine.specs.Machine.{revisions}
use Rattle.fsfs_turn.specs.Views.{Begins}
use Rattle.fsfs_turn.proofs.Longer.{tree_first, txn_later}
use Rattle.fsfs_turn.proofs.Alone.{no_shorter}
use Rattle.fsfs_commit.specs.Works.{LandedOn}
use Rattle.fsfs_commit.specs.Transaction.Meaning.{Means}
use Rattle.fsfs_commit.specs.declared.transaction.refusal.CommitRefusal.{CommitRefusal}
use Rattle.fsfs_commit.specs.declared.transaction.refusal.CommitRefusal.TheVariants as refusals
use Rattle.fsfs_commit.specs.Transaction.Refusals.{Refuses}

-- the first part that ends with the head
pub part_same : (head : ℕ) (h g : List Recorded) → Begins g h → head < length h → take (head + 1) g ≡ take (head + 1) h
part_same head h g b less = ap (λ l. take (head + 1) l) b.1 ∙ take-append-le (head + 1) h b.0 (omega (arith, less))

pub means_over : (s : Option Failed) (h g : List Recorded) (n : TxnName) (b : ℕ) (f : Folder) (x : Txn) → g ≡ h → Means s g n b f x → Means s h n b f x
means_over s h g n b f x same means = subst (λ l. Means s l n b f x) same means

pub landed_more : (head : ℕ) (h g : List Recorded) (x y : Txn) → Begins g h → LandedOn head h x y → LandedOn head g x y
landed_more head h g x y b l = record {
  name = l.name;
  marks = l.marks;
  base = l.base;
  later = l.later;
  there = omega (arith, l.there, no_shorter h g b);
  over = txn_later h g y b (omega (arith, l.there)) l.over;
  lands = ⊎_elim (λ same. inl same) (λ w. inr (
    subst (λ a. NoClash x.base a (tree_of (revisions g) head) (get x.tree) x.marks) (same_at x.base l.later) (subst (λ t. NoClash x.base (tree_of (revisions h) x.base) t (get x.tree) x.marks) (same_at head (omega arith)) w.0),
    λ q. w.1 q ∙ (λ i. land (same_at x.base l.later i) (same_at head (omega arith) i) (get x.tree) x.marks head q),
  )) l.lands;
}
  where
    same_at : (r : ℕ) → r ≤ head → tree_of (revisions h) r ≡ tree_of (revisions g) r
    same_at r le = tree_first h g r b (omega (arith, le, l.there))

pub refuses_more : (why : CommitRefusal) (head : ℕ) (h g : List Recorded) (x : Txn) → Begins g h → Refuses why head h x → Refuses why head g x
refuses_more (refusals.Clash rev path) head h g x b says =
    let w = says.1 in
    let same_at : (r : ℕ) → r ≤ head → tree_of (revisions h) r ≡ tree_of (revisions g) r = λ r le. tree_first h g r b (omega (arith, le, w.there)) in (
      says.0,
      record {
        later = w.later;
        there = omega (arith, w.there, no_shorter h g b);
        first = subst (λ a. IsFirstClash x.base a (tree_of (revisions g) head) (get x.tree) x.marks path) (same_at x.base w.later) (subst (λ t. IsFirstClash x.base (tree_of (revisions h) x.base) t (get x.tree) x.marks path) (same_at head (omega arith)) w.first);
      },
    )
refuses_more refusals.Spent head h g x b says = tt
refuses_more refusals.Memory head h g x b says = tt
refuses_more refusals.DiskFault head h g x b says = tt
refuses_more refusals.BenchFault head h g x b says = tt
refuses_more (refusals.Wrong wrong) head h g x b says = says
refuses_more (refusals.PastLimit limit) head h g x b says = tt
refuses_more refusals.Lacking head h g x b says = says
