-- What one more mark makes of what was said of a path.
use Rattle.std.proofs.Common.{◌≡◌, ◌∙◌, sym, ap, refl, subst, Some, None, Option, List, [], ◌∷◌, ◌++◌, Bool, true, false, cond, not}
use Rattle.std.specs.Prelude.{is_some, ℕ}
use mathlib.Core.Bool.{false≢true}
use Rattle.fsfs_base.specs.declared.kind.Kind.{Kind}
use Rattle.fsfs_model.specs.declared.flat.mark.Mark.{Mark}
use Rattle.fsfs_model.specs.declared.flat.mark.What.{What}
use Rattle.fsfs_model.specs.declared.flat.mark.What.TheVariants.{Make, Gone, Text, Prop}
use Rattle.fsfs_base.specs.declared.action.Action.{Action}
use Rattle.fsfs_base.specs.declared.action.Action.TheVariants.{Add, Delete, Replace, Modify}
use Rattle.fsfs_model.specs.declared.flat.folded.Folded.{Folded}
use Rattle.fsfs_base.specs.Paths.{Path, covers, same_path}
use Rattle.fsfs_base.proofs.PathLemmas.{same_path-refl}
use Rattle.fsfs_model.specs.Flat.Marks.{is_make}
use Rattle.fsfs_model.specs.Flat.Folding.{fold_from, fold_mark, joined, forgotten, begun, flagged, after_add, after_delete, after_modify, deletes}

-- the action of what is said passes the test
abbrev pub says : (Action → Bool) → Option Folded → Bool
says test None = false
says test (Some f) = test f.change.action

abbrev pub adds : Action → Bool
adds Add = true
adds Replace = false
adds Delete = false
adds Modify = false

abbrev pub makes : Action → Bool
makes Add = true
makes Replace = true
makes Delete = false
makes Modify = false

-- something was taken away
abbrev pub tells : Action → Bool
tells Delete = true
tells Replace = true
tells Add = false
tells Modify = false

abbrev pub modifies : What → Bool
modifies Text = true
modifies Prop = true
modifies Gone = false
modifies (Make src) = false

pub says_some : (test : Action → Bool) (o : Option Folded) → says test o ≡ true → is_some o ≡ true
says_some test None h = h
says_some test (Some f) h = refl

pub adds_makes : (o : Option Folded) → says adds o ≡ true → says makes o ≡ true
adds_makes None h = h
adds_makes (Some f) h = by f.change.action h
  where
    by : (a : Action) → adds a ≡ true → makes a ≡ true
    by Add h = refl
    by Replace h = refl
    by Delete h = h
    by Modify h = h

pub tells_not_adds : (o : Option Folded) → says tells o ≡ true → says adds o ≡ false
tells_not_adds None h = refl
tells_not_adds (Some f) h = by f.change.action h
  where
    by : (a : Action) → tells a ≡ true → adds a ≡ false
    by Add h = absurd (false≢true h)
    by Replace h = refl
    by Delete h = refl
    by Modify h = refl

-- what makes a path and tells of nothing added is a replace, which tells
pub deletes_tells : (o : Option Folded) → says deletes o ≡ true → says tells o ≡ true
deletes_tells None h = h
deletes_tells (Some f) h = by f.change.action h
  where
    by : (a : Action) → deletes a ≡ true → tells a ≡ true
    by Delete h = refl
    by Add h = h
    by Replace h = refl
    by Modify h = h

-- ---- an add

pub add_makes : (o : Option Folded) (k : Kind) (source : Option (ℕ × Path)) → says makes (joined o k (Make source)) ≡ true
add_makes None k source = refl
add_makes (Some f) k source = by f.change.action
  where
    by : (a : Action) → says makes (Some (after_add a k source f.was)) ≡ true
    by Add = refl
    by Replace = refl
    by Delete = refl
    by Modify = refl

pub add_adds : (o : Option Folded) (k : Kind) (source : Option (ℕ × Path)) → says deletes o ≡ false → says adds (joined o k (Make source)) ≡ true
add_adds None k source h = refl
add_adds (Some f) k source h = by f.change.action h
  where
    by : (a : Action) → deletes a ≡ false → says adds (Some (after_add a k source f.was)) ≡ true
    by Add h = refl
    by Replace h = refl
    by Delete h = absurd (false≢true (sym h))
    by Modify h = refl

pub add_tells : (o : Option Folded) (k : Kind) (source : Option (ℕ × Path)) → says tells o ≡ true → says makes o ≡ false → says tells (joined o k (Make source)) ≡ true
add_tells None k source h n = absurd (false≢true h)
add_tells (Some f) k source h n = by f.change.action h n
  where
    by : (a : Action) → tells a ≡ true → makes a ≡ false → says tells (Some (after_add a k source f.was)) ≡ true
    by Add h n = absurd (false≢true h)
    by Replace h n = absurd (false≢true (sym n))
    by Delete h n = refl
    by Modify h n = absurd (false≢true h)

pub add_not_deletes : (o : Option Folded) (k : Kind) (source : Option (ℕ × Path)) → says deletes (joined o k (Make source)) ≡ false
add_not_deletes None k source = refl
add_not_deletes (Some f) k source = by f.change.action
  where
    by : (a : Action) → says deletes (Some (after_add a k source f.was)) ≡ false
    by Add = refl
    by Replace = refl
    by Delete = refl
    by Modify = refl

-- ---- a delete

pub delete_undoes : (o : Option Folded) (k : Kind) → says adds o ≡ true → joined o k Gone ≡ None
delete_undoes None k h = absurd (false≢true h)
delete_undoes (Some f) k h = by f.change.action h
  where
    by : (a : Action) → adds a ≡ true → after_delete a k f.was ≡ None
    by Add h = refl
    by Replace h = absurd (false≢true h)
    by Delete h = absurd (false≢true h)
    by Modify h = absurd (false≢true h)

pub delete_deletes : (o : Option Folded) (k : Kind) → says adds o ≡ false → says deletes (joined o k Gone) ≡ true
delete_deletes None k h = refl
delete_deletes (Some f) k h = by f.change.action h
  where
    by : (a : Action) → adds a ≡ false → says deletes (after_delete a k f.was) ≡ true
    by Add h = absurd (false≢true (sym h))
    by Replace h = refl
    by Delete h = refl
    by Modify h = refl

pub delete_not_makes : (o : Option Folded) (k : Kind) → says makes (joined o k Gone) ≡ false
delete_not_makes None k = refl
delete_not_makes (Some f) k = by f.change.action
  where
    by : (a : Action) → says makes (after_delete a k f.was) ≡ false
    by Add = refl
    by Replace = refl
    by Delete = refl
    by Modify = refl

-- ---- a modify

module _ (f : Folded) (k : Kind) (test : Action → Bool) where
  text_keeps : (a : Action) → f.change.action ≡ a → (a ≡ Delete → ⊥) → test (after_modify a k Text f).change.action ≡ test f.change.action
  text_keeps Add e n = refl
  text_keeps Replace e n = refl
  text_keeps Modify e n = refl
  text_keeps Delete e n = absurd (n refl)

  prop_keeps : (a : Action) → f.change.action ≡ a → (a ≡ Delete → ⊥) → test (after_modify a k Prop f).change.action ≡ test f.change.action
  prop_keeps Add e n = refl
  prop_keeps Replace e n = refl
  prop_keeps Modify e n = refl
  prop_keeps Delete e n = absurd (n refl)

not_delete : (a : Action) → deletes a ≡ false → a ≡ Delete → ⊥
not_delete a h e = false≢true (sym h ∙ ap deletes e)

pub modify_some : (o : Option Folded) (k : Kind) (what : What) → modifies what ≡ true → is_some (joined o k what) ≡ true
modify_some None k what h = refl
modify_some (Some f) k Text h = refl
modify_some (Some f) k Prop h = refl
modify_some (Some f) k Gone h = absurd (false≢true h)
modify_some (Some f) k (Make src) h = absurd (false≢true h)

-- what is no delete keeps its action, and nothing becomes a modify
pub modify_keeps : (test : Action → Bool) (o : Option Folded) (k : Kind) (what : What) → modifies what ≡ true → test Modify ≡ false → says deletes o ≡ false → says test (joined o k what) ≡ says test o
modify_keeps test None k Text h n d = n
modify_keeps test None k Prop h n d = n
modify_keeps test (Some f) k Text h n d = text_keeps f k test f.change.action refl (not_delete f.change.action d)
modify_keeps test (Some f) k Prop h n d = prop_keeps f k test f.change.action refl (not_delete f.change.action d)
modify_keeps test o k Gone h n d = absurd (false≢true h)
modify_keeps test o k (Make src) h n d = absurd (false≢true h)

-- ---- at a path, and elsewhere

pub fold_push : (q : Path) (o : Option Folded) (ms : List Mark) (m : Mark) → fold_from q o (ms ++ m ∷ []) ≡ fold_mark q (fold_from q o ms) m
fold_push q o [] m = refl
fold_push q o (x ∷ ms) m = fold_push q (fold_mark q o x) ms m

pub fold_here : (o : Option Folded) (m : Mark) → fold_mark m.path o m ≡ joined o m.kind m.what
fold_here o m = ap (λ b. cond b (joined o m.kind m.what) (forgotten o m.what (covers m.path m.path))) (same_path-refl m.path)

pub fold_beside : (q : Path) (o : Option Folded) (m : Mark) → same_path m.path q ≡ false → covers m.path q ≡ false → fold_mark q o m ≡ o
fold_beside q o m h c = ap (λ b. cond b (joined o m.kind m.what) (forgotten o m.what (covers m.path q))) h ∙ by m.what
  where
    by : (k : What) → forgotten o k (covers m.path q) ≡ o
    by (Make src) = refl
    by Text = refl
    by Prop = refl
    by Gone = ap (λ b. cond b None o) c

-- a mark that takes nothing away says nothing of other paths
pub fold_other : (q : Path) (o : Option Folded) (m : Mark) → same_path m.path q ≡ false → (m.what ≡ Gone → ⊥) → fold_mark q o m ≡ o
fold_other q o m h n = ap (λ b. cond b (joined o m.kind m.what) (forgotten o m.what (covers m.path q))) h ∙ by m.what n
  where
    by : (k : What) → (k ≡ Gone → ⊥) → forgotten o k (covers m.path q) ≡ o
    by (Make src) n = refl
    by Text n = refl
    by Prop n = refl
    by Gone n = absurd (n refl)

pub fold_below : (q : Path) (o : Option Folded) (m : Mark) → same_path m.path q ≡ false → covers m.path q ≡ true → m.what ≡ Gone → fold_mark q o m ≡ None
fold_below q o m h c g = ap (λ b. cond b (joined o m.kind m.what) (forgotten o m.what (covers m.path q))) h ∙ ap (λ k. forgotten o k (covers m.path q)) g ∙ ap (λ b. cond b None o) c
