-- A transaction that was landed on a later revision is one of the machine's, landed there.
use Rattle.std.proofs.Common.{◌≡◌, ◌<◌, ◌≤◌, ◌+◌, ℕ, List, length, inl, inr, refl, sym, ap, subst, ◌∙◌, arith, take}
use Rattle.std.specs.Prelude.{Option, Some, None, slice_get}
use Rattle.std.specs.FinMap.{FinMap, get, get-empty}
use Rattle.std.proofs.lemmas.List.{length-take-le}
use Rattle.fsfs_base.specs.Paths.{Path, path_cmp}
use Rattle.fsfs_base.specs.declared.fields.txn_name.TxnName.{TxnName}
use Rattle.fsfs_tree.specs.Nodes.{Node, TreeFunction}
use Rattle.fsfs_tree.specs.Revisions.{Revision, node_in, tree_of}
use Rattle.fsfs_tree.specs.Dated.{last_of}
use Rattle.fsfs_model.specs.declared.flat.mark.Mark.{Mark}
use Rattle.fsfs_model.specs.Flat.Marks.{effects}
use Rattle.fsfs_model.specs.Flat.Landing.{land, landed_at, NoClash}
use Rattle.fsfs_model.specs.Flat.Transactions.{IsTransaction}
use Rattle.fsfs_draft.specs.Drafts.{Folder}
use Rattle.fsfs_txn.specs.Standing.{Stands}
use Rattle.fsfs_machine.specs.declared.machine.Recorded.{Recorded}
use Rattle.fsfs_machine.specs.declared.machine.Txn.{Txn}
use Rattle.fsfs_machine.specs.Machine.{revisions, tree_in, merged}
use Rattle.fsfs_machine.proofs.Growing.{revisions_length}
use Rattle.fsfs_turn.specs.Bytes.{bytes_of}
use Rattle.fsfs_turn.proofs.Longer.{tree_first, txn_later}
use Rattle.fsfs_turn.proofs.Moments.{begins_take}
use Rattle.fsfs_commit.specs.Works.{LandedOn}
use Rattle.fsfs_commit.specs.Transaction.Meaning.{IsTxnOf}
use Rattle.fsfs_commit.proofs.Filled.{landed_tree, landed_tree_is}

tree_in_is : (o : Option Revision) (q : Path) → get (tree_in o) q ≡ node_in o q
tree_in_is None q = get-empty path_cmp q
tree_in_is (Some x) q = refl

-- the landing of revisions' trees, as a map
pub landed_map : List Recorded → ℕ → ℕ → FinMap path_cmp Node → List Mark → ℕ → FinMap path_cmp Node
landed_map h base head t marks n = landed_tree (tree_in (slice_get (revisions h) base)) (tree_in (slice_get (revisions h) head)) t marks n

pub landed_map_is : (h : List Recorded) (base head : ℕ) (t : FinMap path_cmp Node) (marks : List Mark) (n : ℕ) (q : Path) → get (landed_map h base head t marks n) q ≡ land (tree_of (revisions h) base) (tree_of (revisions h) head) (get t) marks n q
unfolding landed_map
landed_map_is h base head t marks n q = landed_tree_is (tree_in (slice_get (revisions h) base)) (tree_in (slice_get (revisions h) head)) t marks n q
    ∙ (λ i. landed_at n (effects marks q) (tree_in_is (slice_get (revisions h) base) q i) (tree_in_is (slice_get (revisions h) head) q i) (get t q))

-- ---- the first part that ends with the head

pub part_long : (head : ℕ) (h : List Recorded) → head < length h → length (take (head + 1) h) ≡ head + 1
part_long head h less = length-take-le (head + 1) h (omega (arith, less))

pub part_last : (head : ℕ) (h : List Recorded) → head < length h → last_of (revisions (take (head + 1) h)) ≡ head
part_last head h less = let a = part_long head h less in let b : length (revisions (take (head + 1) h)) ≡ length (take (head + 1) h) = revisions_length (take (head + 1) h) in omega (arith, a, b)

-- ---- landed

module _ (head : ℕ) (h : List Recorded) (less : head < length h) (name : TxnName) (base : ℕ) (settled : Folder) (x : Txn) (low : base < head) (is : IsTxnOf (take (head + 1) h) name base settled x) where
  abbrev pub part : List Recorded
  part = take (head + 1) h

  abbrev pub tree : ℕ → TreeFunction
  tree r = tree_of (revisions part) r

  abbrev pub landed : Txn
  landed = merged (landed_map part base head x.tree x.marks head) head x

  module _ (after : Folder) (stands : (n : ℕ) → Stands (bytes_of part) (tree_of (revisions part)) head head name after (land (tree base) (tree head) (get x.tree) x.marks n) x.marks) (clear : NoClash base (tree base) (tree head) (get x.tree) x.marks) where
    same_tree : land (tree base) (tree head) (get x.tree) x.marks head ≡ get (landed_map part base head x.tree x.marks head)
    same_tree = λ i q. sym (landed_map_is part base head x.tree x.marks head q) i

    pub landed_means : IsTxnOf part name head after landed
    landed_means = record {
      numbered = is.numbered;
      on = refl;
      based = omega (arith, part_long head h less);
      stands = subst (λ top. Stands (bytes_of part) (tree_of (revisions part)) top head name after (get (landed_map part base head x.tree x.marks head)) x.marks) (sym (part_last head h less))
          (subst (λ t. Stands (bytes_of part) (tree_of (revisions part)) head head name after t x.marks) same_tree (stands head));
    }

    same_at : (r : ℕ) → r ≤ head → tree_of (revisions part) r ≡ tree_of (revisions h) r
    same_at r le = tree_first part h r (begins_take (head + 1) h) (omega (arith, le, part_long head h less))

    pub landed_on : LandedOn head h x landed
    landed_on = record {
      name = refl;
      marks = refl;
      base = refl;
      later = omega (arith, is.on, low);
      there = less;
      over = txn_later part h landed (begins_take (head + 1) h) (omega (arith, part_long head h less)) landed_means.stands.edits;
      lands = inr (
        subst (λ b. NoClash b (tree_of (revisions h) b) (tree_of (revisions h) head) (get x.tree) x.marks) (sym is.on)
            (subst (λ a. NoClash base a (tree_of (revisions h) head) (get x.tree) x.marks) (same_at base (omega (arith, low))) (subst (λ s. NoClash base (tree base) s (get x.tree) x.marks) (same_at head (omega arith)) clear)),
        λ q. landed_map_is part base head x.tree x.marks head q
            ∙ (λ i. landed_at head (effects x.marks q) (same_at base (omega (arith, low)) i q) (same_at head (omega arith) i q) (get x.tree q))
            ∙ ap (λ b. land (tree_of (revisions h) b) (tree_of (revisions h) head) (get x.tree) x.marks head q) (sym is.on),
      );
    }

-- where it stands on the head already
pub stays_on : (head : ℕ) (h : List Recorded) (name : TxnName) (base : ℕ) (settled : Folder) (x : Txn) → base ≡ head → IsTxnOf h name base settled x → LandedOn head h x x
stays_on head h name base settled x same is = record {
  name = refl;
  marks = refl;
  base = is.on ∙ same;
  later = omega (arith, is.on, same);
  there = omega (arith, is.based, same);
  over = subst (λ b. IsTransaction (tree_of (revisions h)) (last_of (revisions h)) b (get x.tree) x.marks) (sym is.on) is.stands.edits;
  lands = inl refl;
}
