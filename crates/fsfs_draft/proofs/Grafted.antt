-- Which own node-revisions there are after a change of what is at and below a path.
use Rattle.std.proofs.Common.{◌≡◌, Bool, true, false, ◌&&◌, cond, [], ◌∷◌, ◌++◌, refl, sym, ◌∙◌, inl, inr}
use Rattle.std.specs.Prelude.{Some, None, ◌⊎◌}
use Rattle.fsfs_base.specs.Paths.{PathName, Path, same_name, covers}
use Rattle.fsfs_base.proofs.PathLemmas.{same_name-is}
use Rattle.fsfs_noderev.specs.Ids.{Old, part_value}
use Rattle.fsfs_draft.specs.Own.{OwnNode, Own, below, graft, with_child}

pub graft_some : (p : Path) (new own : Own) (q : Path) (a : OwnNode) → graft p new own q ≡ Some a → ((r : Path) × (q ≡ p ++ r) × (new r ≡ Some a)) ⊎ ((own q ≡ Some a) × (covers p q ≡ false))
graft_some [] new own q a h = inl (q, refl, h)
graft_some (x ∷ p) new own [] a h = inr (h, refl)
graft_some (x ∷ p) new own (y ∷ q) a h = by (same_name x y) refl (λ g. graft_some p new (below y own) q a g) h
  where
    Goal : Type 0
    Goal = ((r : Path) × (y ∷ q ≡ x ∷ (p ++ r)) × (new r ≡ Some a)) ⊎ ((own (y ∷ q) ≡ Some a) × ((same_name x y && covers p q) ≡ false))

    further : same_name x y ≡ true → ((r : Path) × (q ≡ p ++ r) × (new r ≡ Some a)) ⊎ ((own (y ∷ q) ≡ Some a) × (covers p q ≡ false)) → Goal
    further e (inl w) = inl (w.0, (λ i. sym (same_name-is x y e) i ∷ w.1 i), w.2)
    further e (inr w) = inr (w.0, rw e w.1)

    by : (b : Bool) → same_name x y ≡ b → (graft p new (below y own) q ≡ Some a → ((r : Path) × (q ≡ p ++ r) × (new r ≡ Some a)) ⊎ ((own (y ∷ q) ≡ Some a) × (covers p q ≡ false))) → cond b (graft p new (below y own) q) (own (y ∷ q)) ≡ Some a → Goal
    by true e rest g = further e (rest g)
    by false e rest g = inr (g, rw e refl)

abbrev pub IsOfChild : OwnNode → PathName → Own → Own → Path → OwnNode → Type 0
IsOfChild dir x child old r a = ((r ≡ []) × (dir ≡ a)) ⊎ (((s : Path) × (r ≡ x ∷ s) × (child s ≡ Some a)) ⊎ ((y : PathName) × (s : Path) × (r ≡ y ∷ s) × (old r ≡ Some a)))

pub child_some : (dir : OwnNode) (x : PathName) (child old : Own) (r : Path) (a : OwnNode) → with_child dir x child old r ≡ Some a → IsOfChild dir x child old r a
child_some dir x child old [] a h = inl (refl, (let e : dir ≡ a = cc in e))
child_some dir x child old (y ∷ s) a h = by (same_name x y) refl h
  where
    by : (b : Bool) → same_name x y ≡ b → cond b (child s) (old (y ∷ s)) ≡ Some a → IsOfChild dir x child old (y ∷ s) a
    by true e g = inr (inl (s, (λ i. sym (same_name-is x y e) i ∷ s), g))
    by false e g = inr (inr (y, s, refl, g))

pub longer_not : (p : Path) (y : PathName) (s : Path) → p ++ y ∷ s ≡ p → ⊥
longer_not [] y s e = absurd cc
longer_not (x ∷ p) y s e = longer_not p y s (let f : p ++ y ∷ s ≡ p = cc in f)

-- the root after a change
pub root_left : (p : Path) (new own : Own) (d dir root : OwnNode) → own p ≡ Some d → own [] ≡ Some root → new [] ≡ Some dir → (v : OwnNode) × (graft p new own [] ≡ Some v) × ((root ≡ v) ⊎ ((dir ≡ v) × (root ≡ d)))
root_left [] new own d dir root here root_is new_is = (dir, new_is, inr (refl, (let e = sym root_is ∙ here in cc)))
root_left (x ∷ p) new own d dir root here root_is new_is = (root, root_is, inl refl)

abbrev pub AreRootIds : OwnNode → Type 0
AreRootIds v = (part_value v.node.id.node ≡ Old 0) × (part_value v.node.id.copy ≡ Old 0) × (v.node.copy_from ≡ None)
