-- The law of two merges, over a history and a transaction.
use Rattle.std.proofs.Common.{◌≡◌, ℕ, zero, suc, ◌≤◌, true, not, List, [], ◌∷◌, ◌++◌, refl, sym, ◌∙◌, ap, subst, inl, inr, arith}
use Rattle.std.proofs.lemmas.Option.{same_Some}
use Rattle.std.proofs.lemmas.Bool.{and_from, cases_Bool, both_ways}
use Rattle.std.specs.Prelude.{is_some}
use mathlib.Core.Bool.{false≢true}
use Rattle.fsfs_model.specs.declared.flat.mark.What.{What}
use Rattle.fsfs_model.specs.declared.flat.mark.What.TheVariants.{Make, Gone, Text, Prop}
use Rattle.fsfs_model.specs.declared.flat.mark.Mark.{Mark}
use Rattle.fsfs_base.specs.Paths.{covers}
use Rattle.fsfs_tree.specs.Nodes.{TreeFunction, empty_node}
use Rattle.fsfs_base.specs.declared.kind.Kind.TheVariants.{Dir}
use Rattle.fsfs_model.specs.Flat.Edits.{applied, mark_of}
use Rattle.fsfs_model.specs.Flat.Marks.{is_make, made, made_after}
use Rattle.fsfs_model.specs.Flat.Landing.{NoClash}
use Rattle.fsfs_tree.specs.Histories.{AreRevisions}
use Rattle.fsfs_tree.specs.Trees.{IsTree, IsOrdered, AreOrdered}
use Rattle.fsfs_model.specs.Flat.Transactions.{IsTransaction, Begun, Edited, Landed}
use Rattle.fsfs_base.proofs.PathLemmas.{covers-antisym}
use Rattle.fsfs_model.specs.Laws.{TwoMergesAreOne}
use Rattle.fsfs_model.proofs.Applied.{edit_changes}
use Rattle.fsfs_model.proofs.Bases.{IsClosed, DescribesBase, ChangesPaths}
use Rattle.fsfs_model.proofs.MergeWalk.{Premises}
use Rattle.fsfs_model.proofs.Later.{later}
use Rattle.fsfs_model.proofs.Owns.{taken, put, as_was}
use Rattle.fsfs_model.proofs.Landed.{landed_own, landed_closed}
use Rattle.fsfs_model.proofs.TwoMerges.{land_twice, clash_twice}

tree_closed : (t : TreeFunction) → IsTree t → IsClosed t
tree_closed t is q p c h = elim (cases_Bool (covers p q)) [
  | inl back ↦ subst (λ v. is_some (t v) ≡ true) (sym (covers-antisym q p c back)) h
  | inr apart ↦ (let n = is.above q p (and_from _ _ c (subst (λ b. not b ≡ true) (sym apart) refl)) h in ap is_some n.1)
]

first_closed : (tree : ℕ → TreeFunction) (last : ℕ) → AreRevisions tree last → IsClosed (tree 0)
first_closed tree last is [] p c h = ap is_some is.first
first_closed tree last is (x ∷ q) [] c h = absurd (false≢true c)
first_closed tree last is (x ∷ q) (y ∷ p) c h = absurd (both_ways _ (ap is_some (is.alone y p)) h)

pub closed : (tree : ℕ → TreeFunction) (last r : ℕ) → AreRevisions tree last → r ≤ last → IsClosed (tree r)
closed tree last zero is le = first_closed tree last is
closed tree last (suc r) is le = tree_closed (tree (suc r)) (is.next r (omega arith)).is_tree

pub rooted : (tree : ℕ → TreeFunction) (last r : ℕ) → AreRevisions tree last → r ≤ last → is_some (tree r []) ≡ true
rooted tree last zero is le = ap is_some is.first
rooted tree last (suc r) is le = ap is_some (is.next r (omega arith)).is_tree.root.1

first_ordered : (tree : ℕ → TreeFunction) (last : ℕ) → AreRevisions tree last → AreOrdered (tree 0)
first_ordered tree last is [] n e = subst IsOrdered (same_Some (empty_node Dir) n (sym is.first ∙ e)) (record { added = omega arith; props_changed = omega arith })
first_ordered tree last is (x ∷ q) n e = absurd (both_ways _ (ap is_some (is.alone x q)) (ap is_some e))

pub ordered : (tree : ℕ → TreeFunction) (last r : ℕ) → AreRevisions tree last → r ≤ last → AreOrdered (tree r)
ordered tree last zero is le = first_ordered tree last is
ordered tree last (suc r) is le = (is.next r (omega arith)).ordered

-- a transaction without marks
bare : (t : TreeFunction) → DescribesBase t t []
bare t = record {
  based = λ m i. absurd i;
  placed = λ m q i. absurd i;
  kept = λ q i. absurd i;
  new = λ q i. absurd i;
  top = λ q i. absurd i;
  own = λ p none h. absurd (both_ways _ none h);
  lost = λ p h none. absurd (both_ways _ none h);
}

edited : (base t u : TreeFunction) (marks : List Mark) (m : Mark) (k : What) → m.what ≡ k → IsClosed base → IsClosed t → DescribesBase base t marks → ChangesPaths k m.path t u → DescribesBase base u (marks ++ m ∷ [])
edited base t u marks m (Make src) e cb ct is ed = put base t u marks m cb ct is (ap is_make e) ed
edited base t u marks m Gone e cb ct is ed = taken base t u marks m cb ct is e ed
edited base t u marks m Text e cb ct is ed = as_was base t u marks m cb ct is (ap (λ k. made_after (made marks) k m.path) e) (λ h. text_is_not (sym (ap is_make e) ∙ h)) ed.0 ed.1
  where
    text_is_not : is_make Text ≡ true → ⊥
    text_is_not q = false≢true q
edited base t u marks m Prop e cb ct is ed = as_was base t u marks m cb ct is (ap (λ k. made_after (made marks) k m.path) e) (λ h. prop_is_not (sym (ap is_make e) ∙ h)) ed.0 ed.1
  where
    prop_is_not : is_make Prop ≡ true → ⊥
    prop_is_not q = false≢true q

-- what holds of each transaction
pub record IsSound (tree : ℕ → TreeFunction) (last b : ℕ) (t : TreeFunction) (marks : List Mark) : Type 0 where
  pub closed : IsClosed t
  pub own : DescribesBase (tree b) t marks
  pub known : b ≤ last

pub premises : (tree : ℕ → TreeFunction) (last b h : ℕ) (t : TreeFunction) (marks : List Mark) → AreRevisions tree last → IsSound tree last b t marks → b ≤ h → h ≤ last → NoClash b (tree b) (tree h) t marks → Premises b (tree b) (tree h) t marks
premises tree last b h t marks is so le ge clear = record {
  rooted = rooted tree last b is so.known;
  closed_base = closed tree last b is so.known;
  closed_head = closed tree last h is ge;
  closed_own = so.closed;
  ordered = ordered tree last h is ge;
  later = later tree last b h is le ge;
  own = so.own;
  clear = clear;
}

pub sound : (tree : ℕ → TreeFunction) (last b : ℕ) (t : TreeFunction) (marks : List Mark) → AreRevisions tree last → IsTransaction tree last b t marks → IsSound tree last b t marks
sound tree last _ _ _ is (Begun b le) = record { closed = closed tree last b is le; own = bare (tree b); known = le }
sound tree last _ _ _ is (Edited b t before edit was h) =
    let so = sound tree last b t before is was in
    let did = edit_changes edit tree last t so.closed (λ r le. closed tree last r is le) h in
    let m = mark_of edit tree t in
    record { closed = did.1; own = edited (tree b) t (applied edit tree t) before m m.what refl (closed tree last b is so.known) so.closed so.own did.0; known = so.known }
sound tree last _ _ _ is (Landed b h n before marks was le ge clear) =
    let so = sound tree last b before marks is was in
    let pre = premises tree last b h before marks is so le ge clear in
    record { closed = landed_closed b (tree b) (tree h) before marks pre n; own = landed_own b (tree b) (tree h) before marks pre n; known = ge }

pub two_merges_are_one : TwoMergesAreOne
two_merges_are_one tree last b h1 h2 m n t marks is was le1 le2 ge clear p =
    let so = sound tree last b t marks is was in
    let pre = premises tree last b h1 t marks is so le1 (omega arith) clear in (
      clash_twice b h1 (tree b) (tree h1) (tree h2) t marks m le1 pre (later tree last h1 h2 is le2 ge) (ordered tree last h2 is ge) p,
      land_twice b (tree b) (tree h1) (tree h2) t marks m n pre p,
    )
