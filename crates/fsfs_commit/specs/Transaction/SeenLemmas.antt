-- What more revisions leave of those that were there, and of what their bytes show.
use Rattle.std.proofs.Common.{◌≡◌, ◌<◌, ℕ, suc, zero, List, [], ◌∷◌, ◌++◌, length, refl, sym, ap, subst, ◌∙◌, arith}
use Rattle.std.specs.Prelude.{Result, Ok, Err, Some, None, slice_get, codes}
use Rattle.std.proofs.lemmas.Option.{slice_get_past, slice_get_within}
use Rattle.std.specs.FinMap.{get}
use Rattle.fsfs_revision.specs.declared.wrong.Refusal.{Refusal}
use Rattle.fsfs_revision.specs.declared.wrong.Refusal.TheVariants.{Missing}
use Rattle.fsfs_revision.specs.Told.{RevisionBytes}
use Rattle.fsfs_revision.specs.Shows.Shown.{Shows}
use Rattle.fsfs_tree.specs.Revisions.{tree_of}
use Rattle.fsfs_tree.specs.Dated.{last_of}
use Rattle.fsfs_revision.specs.Ancestry.Trees.{ShowTrees}
use Rattle.fsfs_draft.specs.Staying.{IsYoungest, IsLater}
use Rattle.fsfs_stands.specs.History.{ShowsRevision}
use Rattle.fsfs_stands.specs.Changes.{AreChangesOf}
use Rattle.fsfs_stands.proofs.Seen.{revision_same}
use Rattle.fsfs_machine.specs.declared.machine.Recorded.{Recorded}
use Rattle.fsfs_machine.specs.Machine.{revisions}
use Rattle.fsfs_machine.proofs.Growing.{revisions_length}
use Rattle.fsfs_turn.specs.Bytes.{bytes_beside, bytes_of, ShowsOne, BytesShow}
use Rattle.fsfs_turn.specs.Views.{Begins}
use Rattle.fsfs_turn.proofs.Longer.{tree_first}
use Rattle.fsfs_turn.proofs.Standings.{there_below}
use Rattle.fsfs_turn.proofs.Alone.{no_shorter}

got_first : (h more : List Recorded) (r : ℕ) → r < length h → slice_get (h ++ more) r ≡ slice_get h r
got_first [] more r less = absurd (omega (arith, less))
got_first (x ∷ h) more zero less = refl
got_first (x ∷ h) more (suc r) less = got_first h more r (omega (arith, less))

pub got_same : (h g : List Recorded) (r : ℕ) → Begins g h → r < length h → slice_get g r ≡ slice_get h r
got_same h g r b less = ap (λ l. slice_get l r) b.1 ∙ got_first h b.0 r less

pub bytes_same : (h g : List Recorded) (r : ℕ) → Begins g h → r < length h → bytes_of h r ≡ bytes_of g r
bytes_same h g r b less = ap (λ o. bytes_beside r o) (sym (got_same h g r b less))

pub is_youngest : (h : List Recorded) → IsYoungest (bytes_of h) (last_of (revisions h))
is_youngest h rev bytes above is =
    let long : length (revisions h) ≡ length h = revisions_length h in
    let none = slice_get_past h rev (omega (arith, above, long)) in
    let e : Err (Missing rev) ≡ Ok bytes = ap (λ o. bytes_beside rev o) (sym none) ∙ is in
    absurd cc

-- the bytes and the trees of more revisions are later ones
pub later : (h g : List Recorded) → 0 < length h → Begins g h → IsLater (bytes_of h) (bytes_of g) (tree_of (revisions h)) (tree_of (revisions g)) (last_of (revisions h)) (last_of (revisions g))
later h g some b = record {
  youngest = is_youngest h;
  above = omega (arith, here, there, no_shorter h g b);
  same = λ s le. bytes_same h g s b (omega (arith, le, here, some));
  same_trees = λ r le. tree_first h g r b (omega (arith, le, here, some));
}
  where
    here : length (revisions h) ≡ length h
    here = revisions_length h

    there : length (revisions g) ≡ length g
    there = revisions_length g

-- ---- what bytes show

ok_same : (e : Result (List ℕ) Refusal) (a b : List ℕ) → e ≡ Ok a → e ≡ Ok b → a ≡ b
ok_same e a b f g = let h : Ok a ≡ Ok b = sym f ∙ g in cc

ends : RevisionBytes
ends r = Ok (codes "END\n")

tree_at : (h : List Recorded) (r : ℕ) (x : Recorded) → slice_get h r ≡ Some x → tree_of (revisions h) r ≡ get x.revision.tree
tree_at [] r x e = let f : None ≡ Some x = e in absurd cc
tree_at (y ∷ h) zero x e = let same : y ≡ x = (let f : Some y ≡ Some x = e in cc) in ap (λ z. get z.revision.tree) same
tree_at (y ∷ h) (suc r) x e = tree_at h r x e

-- the trees of the revisions are shown
pub shown_trees : (h : List Recorded) → 0 < length h → BytesShow h → ShowTrees (bytes_of h) (last_of (revisions h)) (tree_of (revisions h))
shown_trees h some shown = record {
  each = λ r le.
      let x = there_below h r (omega (arith, le, revisions_length h, some)) in
      subst (λ t. Shows (bytes_of h) r t) (sym (tree_at h r x.0 x.1)) (shown.each r x.0 x.1).tree;
  ids = shown.ids;
}

-- a revision is shown by more bytes as it was
pub shown_still : (h g : List Recorded) (r : ℕ) (x : Recorded) → Begins g h → slice_get h r ≡ Some x → ShowsOne (bytes_of h) r x → ShowsOne (bytes_of g) r x
unfolding ends
shown_still h g r x b at one = record {
  tree = w.tree;
  changes = subst (λ bytes. AreChangesOf (bytes_of g) r bytes x.revision.changes) (ok_same (bytes_of g r) w.bytes x.bytes w.bytes_are (sym (bytes_same h g r b less) ∙ here)) w.changes;
  dated = one.dated;
}
  where
    less : r < length h
    less = slice_get_within h r x at

    here : bytes_of h r ≡ Ok x.bytes
    here = ap (λ o. bytes_beside r o) at

    -- what is shown beside its properties doesn't depend on them
    w : ShowsRevision (bytes_of g) ends r (record x.revision { properties = [] })
    w = revision_same r (bytes_of h) (bytes_of g) (λ s le. bytes_same h g s b (omega (arith, le, less))) ends ends (record x.revision { properties = [] }) refl (record {
      bytes = x.bytes;
      bytes_are = here;
      tree = one.tree;
      changes = one.changes;
      file = codes "END\n";
      file_is = refl;
      properties = record { inner = []; inner_is = (tt, refl); value_is = refl };
      dated = λ value e. (let f : None ≡ Some value = e in absurd cc);
    })
