-- Branches of a tree, by what lies on their two sides.
use Rattle.std.proofs.Common.{◌≡◌, Bool, true, false, not, ◌&&◌, List, ◌++◌, sym, ap, subst, ◌∙◌}
use Rattle.std.specs.Prelude.{Option}
use Rattle.std.proofs.lemmas.Bool.{and_parts}
use Rattle.fsfs_base.specs.Paths.{PathName}
use Rattle.fsfs_revision.specs.Shows.Reading.{DirEntry, named}
use Rattle.fsfs_dag.specs.declared.listing.tree.Tree.{Tree}
use Rattle.fsfs_dag.specs.Listing.Lists.{IsChangedList, IsSameList, kept_names, all_names, is_below, is_from}
use Rattle.fsfs_dag.specs.Listing.Trees.{values, is_sorted, sorted_sides, IsTreeOf}
use Rattle.fsfs_dag.proofs.Lists.{kept_is}
use Rattle.fsfs_dag.proofs.Changing.{same_parts, low_named, high_named, low_changed, high_changed}

-- what is asked of a branch with these sides
pub record Sides (middle : PathName) (low high : Tree) : Type 0 where
  pub lows : all_names (is_below middle) (values low) ≡ true
  pub highs : all_names (is_from middle) (values high) ≡ true
  pub low_sorted : is_sorted low ≡ true
  pub high_sorted : is_sorted high ≡ true

pub sides_of : (middle : PathName) (low high : Tree) → sorted_sides middle low high ≡ true → Sides middle low high
sides_of middle low high is =
    let both = and_parts (all_names (is_below middle) (values low) && all_names (is_from middle) (values high)) (is_sorted low && is_sorted high) is in
    let names = and_parts (all_names (is_below middle) (values low)) (all_names (is_from middle) (values high)) both.0 in
    let trees = and_parts (is_sorted low) (is_sorted high) both.1 in
    record { lows = names.0; highs = names.1; low_sorted = trees.0; high_sorted = trees.1 }

pub sides_sorted : (middle : PathName) (low high : Tree) → Sides middle low high → sorted_sides middle low high ≡ true
sides_sorted middle low high s = λ i. (s.lows i && s.highs i) && (s.low_sorted i && s.high_sorted i)

-- the two parts of a leaf
pub sides_split : (middle : PathName) (es : List DirEntry) (low high : Tree) → values low ≡ kept_names (is_below middle) es → values high ≡ kept_names (is_from middle) es → is_sorted low ≡ true → is_sorted high ≡ true → Sides middle low high
sides_split middle es low high lows highs low_sorted high_sorted = record {
  lows = ap (λ (l : List DirEntry). all_names (is_below middle) l) lows ∙ kept_is (is_below middle) es;
  highs = ap (λ (l : List DirEntry). all_names (is_from middle) l) highs ∙ kept_is (is_from middle) es;
  low_sorted = low_sorted;
  high_sorted = high_sorted;
}

pub same_split : (middle : PathName) (es : List DirEntry) (low high : Tree) → values low ≡ kept_names (is_below middle) es → values high ≡ kept_names (is_from middle) es → IsSameList es (values low ++ values high)
same_split middle es low high lows highs = subst (λ (l : List DirEntry). IsSameList es l) (sym (λ i. lows i ++ highs i)) (same_parts middle es)

module _ (middle : PathName) (low high : Tree) (s : Sides middle low high) where
  -- a look
  pub found_low : (name : PathName) (o : Option DirEntry) → is_below middle name ≡ true → o ≡ named name (values low) → o ≡ named name (values low ++ values high)
  found_low name o this is = is ∙ sym (low_named middle name (values low) (values high) s.highs this)

  pub found_high : (name : PathName) (o : Option DirEntry) → is_below middle name ≡ false → o ≡ named name (values high) → o ≡ named name (values low ++ values high)
  found_high name o this is = is ∙ sym (high_named middle name (values low) (values high) s.lows this)

  module _ (name : PathName) (e : Option DirEntry) (new : Tree) (sorted : is_sorted new ≡ true) where
    -- a change on the low side
    pub low_sides : is_below middle name ≡ true → IsChangedList (values low) (values new) name e → Sides middle new high
    low_sides this c = record { lows = c.keeps (is_below middle) s.lows this; highs = s.highs; low_sorted = sorted; high_sorted = s.high_sorted }

    pub low_side : is_below middle name ≡ true → IsChangedList (values low) (values new) name e → IsChangedList (values low ++ values high) (values new ++ values high) name e
    low_side this c = low_changed middle name (values low) (values high) e s.lows s.highs (values new) this c

    -- and on the high side
    pub high_sides : is_below middle name ≡ false → IsChangedList (values high) (values new) name e → Sides middle low new
    high_sides this c = record { lows = s.lows; highs = c.keeps (is_from middle) s.highs (ap (λ (b : Bool). not b) this); low_sorted = s.low_sorted; high_sorted = sorted }

    pub high_side : is_below middle name ≡ false → IsChangedList (values high) (values new) name e → IsChangedList (values low ++ values high) (values low ++ values new) name e
    high_side this c = high_changed middle name (values low) (values high) e s.lows s.highs (values new) this c

    -- the branch that is made of it
    pub low_branch : (left right : Tree) → left ≡ new → right ≡ high → is_below middle name ≡ true → IsChangedList (values low) (values new) name e
        → (sorted_sides middle left right ≡ true) × IsChangedList (values low ++ values high) (values left ++ values right) name e
    low_branch left right left_is right_is this c = (
      (λ i. sorted_sides middle (left_is i) (right_is i)) ∙ sides_sorted middle new high (low_sides this c),
      subst (λ (l : List DirEntry). IsChangedList (values low ++ values high) l name e) (sym (λ i. values (left_is i) ++ values (right_is i))) (low_side this c),
    )

    pub high_branch : (left right : Tree) → left ≡ low → right ≡ new → is_below middle name ≡ false → IsChangedList (values high) (values new) name e
        → (sorted_sides middle left right ≡ true) × IsChangedList (values low ++ values high) (values left ++ values right) name e
    high_branch left right left_is right_is this c = (
      (λ i. sorted_sides middle (left_is i) (right_is i)) ∙ sides_sorted middle low new (high_sides this c),
      subst (λ (l : List DirEntry). IsChangedList (values low ++ values high) l name e) (sym (λ i. values (left_is i) ++ values (right_is i))) (high_side this c),
    )

-- a tree of two parts of a list, the second of which begins with the name
pub over_sides : (middle : PathName) (es lows highs : List DirEntry) (low high : Tree) → lows ++ highs ≡ es → all_names (is_below middle) lows ≡ true → all_names (is_from middle) highs ≡ true → IsTreeOf lows low → IsTreeOf highs high
    → (sorted_sides middle low high ≡ true) × (values low ++ values high ≡ es)
over_sides middle es lows highs low high whole below from l h = (
  sides_sorted middle low high (record {
    lows = ap (λ (l : List DirEntry). all_names (is_below middle) l) l.all ∙ below;
    highs = ap (λ (l : List DirEntry). all_names (is_from middle) l) h.all ∙ from;
    low_sorted = l.sorted;
    high_sorted = h.sorted;
  }),
  (λ i. l.all i ++ h.all i) ∙ whole,
)
