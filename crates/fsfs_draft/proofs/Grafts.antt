-- The tree that own node-revisions show, where everything at and below a path is replaced.
use Rattle.std.proofs.Common.{◌≡◌, ℕ, Bool, true, false, ◌&&◌, cond, [], ◌∷◌, refl, ap, subst, ◌∙◌}
use Rattle.std.specs.Prelude.{Option, Some, None}
use Rattle.fsfs_base.specs.Paths.{PathName, Path, same_name, covers}
use Rattle.fsfs_tree.specs.Nodes.{Node, TreeFunction}
use Rattle.fsfs_base.proofs.PathLemmas.{same_name-is}
use Rattle.fsfs_draft.specs.Own.{OwnNode, Own, below, shared_under, has_entry, in_own, draft_tree, graft, under, alone, nothing, lives_in, lives, shared_at, behind}
use Rattle.std.proofs.lemmas.Bool.{and_parts}

-- where nothing is the transaction's, what is shared stands
pub nothing_tree : (trees : ℕ → TreeFunction) (shared : TreeFunction) (q : Path) → draft_tree trees nothing shared q ≡ shared q
nothing_tree trees shared [] = refl
nothing_tree trees shared (x ∷ q) = refl

-- an own node-revision below which nothing is the transaction's
pub alone_tree : (trees : ℕ → TreeFunction) (v : OwnNode) (shared : TreeFunction) (x : PathName) (q : Path) → v.entries ≡ None → draft_tree trees (alone v) shared (x ∷ q) ≡ shared_under trees (Some v) shared (x ∷ q)
alone_tree trees v shared x q none = rw none (nothing_tree trees (below x (shared_under trees (Some v) shared)) q)

pub inner_lives : (o : Option OwnNode) (x : PathName) (inner : Bool) → lives_in o x inner ≡ true → inner ≡ true
inner_lives None x inner h = absurd cc
inner_lives (Some v) x inner h = (and_parts _ _ h).1

in_live : (o : Option OwnNode) (x : PathName) (inner : Bool) (s a b : Option Node) (c : Bool) → lives_in o x inner ≡ true → in_own o x s (cond c a b) ≡ cond c a (in_own o x s b)
in_live None x inner s a b c h = absurd cc
in_live (Some v) x inner s a b c h = rw (and_parts (has_entry v.entries x) inner h).0 refl

module _ (trees : ℕ → TreeFunction) where
  -- what is shown below the path is what the replacement shows there, and all else is as before
  pub graft_tree : (p : Path) (new own : Own) (shared : TreeFunction) (q : Path) → lives p own ≡ true
      → draft_tree trees (graft p new own) shared q ≡ cond (covers p q) (draft_tree trees new (shared_at trees p own shared) (behind p q)) (draft_tree trees own shared q)
  graft_tree [] new own shared q live = refl
  graft_tree (x ∷ p) new own shared [] live = refl
  graft_tree (x ∷ p) new own shared (y ∷ q) live = by (same_name x y) refl (graft_tree p new (below x own) (below x (shared_under trees (own []) shared)) q (inner_lives (own []) x (lives p (below x own)) live))
    where
      At : Bool → PathName → Type 0
      At b z = in_own (own []) z (shared (z ∷ q)) (draft_tree trees (λ r. cond b (graft p new (below z own) r) (own (z ∷ r))) (below z (shared_under trees (own []) shared)) q)
          ≡ cond (b && covers p q) (draft_tree trees new (shared_at trees (x ∷ p) own shared) (behind p q)) (draft_tree trees own shared (z ∷ q))

      Inner : Type 0
      Inner = draft_tree trees (graft p new (below x own)) (below x (shared_under trees (own []) shared)) q
          ≡ cond (covers p q) (draft_tree trees new (shared_at trees (x ∷ p) own shared) (behind p q)) (draft_tree trees (below x own) (below x (shared_under trees (own []) shared)) q)

      here : Inner → At true x
      here inner =
          ap (λ (n : Option Node). in_own (own []) x (shared (x ∷ q)) n) inner
          ∙ in_live (own []) x (lives p (below x own)) (shared (x ∷ q)) (draft_tree trees new (shared_at trees (x ∷ p) own shared) (behind p q)) (draft_tree trees (below x own) (below x (shared_under trees (own []) shared)) q) (covers p q) live

      by : (b : Bool) → same_name x y ≡ b → Inner → At b y
      by true e inner = subst (At true) (same_name-is x y e) (here inner)
      by false e inner = refl

-- what stands at and below the path, put back
pub graft_back : (p : Path) (own : Own) (q : Path) → graft p (under p own) own q ≡ own q
graft_back [] own q = refl
graft_back (x ∷ p) own [] = refl
graft_back (x ∷ p) own (y ∷ q) = by (same_name x y) refl (graft_back p (below x own) q)
  where
    by : (b : Bool) → same_name x y ≡ b → graft p (under p (below x own)) (below x own) q ≡ own (x ∷ q) → cond b (graft p (under p (below x own)) (below y own) q) (own (y ∷ q)) ≡ own (y ∷ q)
    by true e further = subst (λ (z : PathName). graft p (under p (below x own)) (below z own) q ≡ own (z ∷ q)) (same_name-is x y e) further
    by false e further = refl
