-- What the draft holds of its base, where something at and below one path is replaced.
use Rattle.std.proofs.Common.{◌≡◌, ◌+◌, ℕ, suc, not, Bool, true, false, ◌&&◌, cond, [], ◌∷◌, ◌++◌, length, refl, sym, ap, subst, ◌∙◌, arith}
use Rattle.std.specs.Prelude.{Option, Some, None, is_some}
use Rattle.std.proofs.lemmas.Bool.{and_from, and_parts, and_right}
use Rattle.std.proofs.lemmas.List.{length-append}
use mathlib.Core.Bool.{false≢true, true≢false}
use Rattle.fsfs_base.specs.Paths.{PathName, Path, same_name, covers, is_above}
use Rattle.fsfs_base.proofs.PathLemmas.{same_name-is, same_name-refl, covers-length, same_name-symm}
use Rattle.fsfs_tree.specs.Nodes.{Node, TreeFunction}
use Rattle.fsfs_noderev.specs.declared.node_id.NodeId.{NodeId}
use Rattle.fsfs_noderev.specs.declared.node_rev.CopySource.{CopySource}
use Rattle.fsfs_draft.specs.Own.{OwnNode, Own, below, shared_from, shared_under, graft, under, with_node, lives_in, lives, shared_at}
use Rattle.fsfs_draft.specs.Sides.{goes_on_here, has_here, held}
use Rattle.fsfs_draft.proofs.Grafts.{inner_lives}

-- ---- tests

pub and_if : (a b c : Bool) → (a ≡ true → b ≡ c) → (a && b) ≡ (a && c)
and_if true b c f = f refl
and_if false b c f = refl

pub lacks_some : (n : Option Node) → is_some n ≡ true → n ≡ None → ⊥
lacks_some n some none = false≢true (sym (ap (λ (o : Option Node). is_some o) none) ∙ some)

-- one node, or none
pub same_choice : (a b : Bool) (n : Option Node) → is_some n ≡ true → cond a n None ≡ cond b n None → a ≡ b
same_choice true true n some e = refl
same_choice false false n some e = refl
same_choice true false n some e = absurd (lacks_some n some e)
same_choice false true n some e = absurd (lacks_some n some (sym e))

-- ---- paths

pub covers_same : (p t u : Path) → covers (p ++ t) (p ++ u) ≡ covers t u
covers_same [] t u = refl
covers_same (z ∷ p) t u = ap (λ (b : Bool). b && covers (p ++ t) (p ++ u)) (same_name-refl z) ∙ covers_same p t u

pub above_more : (p : Path) (y w : PathName) (r : Path) → is_above (p ++ y ∷ []) (p ++ y ∷ w ∷ r) ≡ true
above_more [] y w r = subst (λ (b : Bool). (b && true) && not (b && false) ≡ true) (sym (same_name-refl y)) refl
above_more (z ∷ p) y w r =
    subst (λ (b : Bool). (b && covers (p ++ y ∷ []) (p ++ y ∷ w ∷ r)) && not (b && covers (p ++ y ∷ w ∷ r) (p ++ y ∷ [])) ≡ true) (sym (same_name-refl z)) (above_more p y w r)

-- at or above a directory is above what stands in it
pub above_child : (q p : Path) (x : PathName) → is_above q (p ++ x ∷ []) ≡ covers q p
above_child [] [] x = refl
above_child [] (y ∷ p) x = refl
above_child (z ∷ []) [] x = (λ i. (same_name z x && true) && not (same_name-symm x z i && true)) ∙ by (same_name z x)
  where
    by : (b : Bool) → ((b && true) && not (b && true)) ≡ false
    by true = refl
    by false = refl
above_child (z ∷ w ∷ q) [] x = by (same_name z x)
  where
    by : (b : Bool) → ((b && false) && not (same_name x z && true)) ≡ false
    by true = refl
    by false = refl
above_child (z ∷ q) (y ∷ p) x = (λ i. (same_name z y && covers q (p ++ x ∷ [])) && not (same_name-symm y z i && covers (p ++ x ∷ []) q)) ∙ by (same_name z y) (above_child q p x)
  where
    by : (b : Bool) → is_above q (p ++ x ∷ []) ≡ covers q p → ((b && covers q (p ++ x ∷ [])) && not (b && covers (p ++ x ∷ []) q)) ≡ (b && covers q p)
    by true e = e
    by false e = refl

pub longer_covers_not : (p : Path) (y : PathName) (r : Path) → covers (p ++ y ∷ r) p ≡ false
longer_covers_not p y r = by (covers (p ++ y ∷ r) p) refl
  where
    by : (b : Bool) → covers (p ++ y ∷ r) p ≡ b → covers (p ++ y ∷ r) p ≡ false
    by false e = e
    by true e = let h = covers-length (p ++ y ∷ r) p e in let l : length (p ++ y ∷ r) ≡ length p + suc (length r) = length-append p (y ∷ r) in absurd (omega (arith, h, l))

-- ---- what is held

pub held_goes : (p : Path) (own : Own) → held own p ≡ true → goes_on_here (own p) ≡ true
held_goes [] own h = h
held_goes (x ∷ p) own h = held_goes p (below x own) (and_parts _ _ (and_parts _ _ h).1).1

pub held_has : (p : Path) (own : Own) (x : PathName) (r : Path) → held own (p ++ x ∷ r) ≡ true → has_here (own p) x ≡ true
held_has [] own x r h = (and_parts _ _ (and_parts _ _ h).1).0
held_has (z ∷ p) own x r h = held_has p (below z own) x r (and_parts _ _ (and_parts _ _ h).1).1

pub goes_shared : (trees : ℕ → TreeFunction) (o : Option OwnNode) (S : TreeFunction) → goes_on_here o ≡ true → (q : Path) → shared_under trees o S q ≡ S q
goes_shared trees None S on q = refl
goes_shared trees (Some v) S on q = by v.node.copy_from v.node.predecessor on
  where
    by : (c : Option CopySource) (id : Option NodeId) → (not (is_some c) && is_some id) ≡ true → shared_from trees c id S q ≡ S q
    by None (Some id) g = refl
    by None None g = absurd (false≢true g)
    by (Some from) id g = absurd (false≢true g)

-- what is shared where the base is held is what the base has there
pub shared_held : (trees : ℕ → TreeFunction) (p : Path) (own : Own) (S : TreeFunction) → held own p ≡ true → (q : Path) → shared_at trees p own S q ≡ S (p ++ q)
shared_held trees [] own S h q = refl
shared_held trees (x ∷ p) own S h q =
    shared_held trees p (below x own) (below x (shared_under trees (own []) S)) (and_parts _ _ (and_parts _ _ h).1).1 q ∙ goes_shared trees (own []) S (and_parts _ _ h).0 (x ∷ (p ++ q))

-- all above what is the transaction's own is its own
pub live_above : (q p : Path) (own : Own) → covers q p ≡ true → lives p own ≡ true → is_some (own q) ≡ true
live_above [] [] own c h = h
live_above [] (y ∷ p) own c h = by (own []) h
  where
    by : (o : Option OwnNode) → lives_in o y (lives p (below y own)) ≡ true → is_some o ≡ true
    by None g = absurd (false≢true g)
    by (Some v) g = refl
live_above (x ∷ q) [] own c h = absurd (false≢true c)
live_above (x ∷ q) (y ∷ p) own c h =
    subst (λ (z : PathName). is_some (own (z ∷ q)) ≡ true) (sym (same_name-is x y (and_parts _ _ c).0)) (live_above q p (below y own) (and_parts _ _ c).1 (inner_lives (own []) y (lives p (below y own)) h))

-- what is replaced at a path is held as before, where it goes on as before, and so does what is below it
pub held_graft : (d : OwnNode) (p : Path) (own child : Own) (q : Path) → own p ≡ Some d → goes_on_here (child []) ≡ goes_on_here (Some d)
    → ((y : PathName) (r : Path) → q ≡ p ++ y ∷ r → held own p ≡ true → (has_here (child []) y && held (below y child) r) ≡ (has_here (Some d) y && held (below y (under p own)) r))
    → held (graft p child own) q ≡ held own q
held_graft d [] own child [] here goes inner = goes ∙ sym (ap goes_on_here here)
held_graft d [] own child (y ∷ r) here goes inner =
    ap (λ (b : Bool). b && (has_here (child []) y && held (below y child) r)) (goes ∙ sym (ap goes_on_here here))
    ∙ and_if (goes_on_here (own [])) (has_here (child []) y && held (below y child) r) (has_here (own []) y && held (below y own) r)
    (λ on. inner y r refl on ∙ ap (λ (o : Option OwnNode). has_here o y && held (below y own) r) (sym here))
held_graft d (z ∷ p) own child [] here goes inner = refl
held_graft d (z ∷ p) own child (y ∷ r) here goes inner = by (same_name z y) refl (λ f. held_graft d p (below z own) child r here goes f)
  where
    At : Bool → PathName → Type 0
    At b w = (goes_on_here (own []) && (has_here (own []) w && held (λ s. cond b (graft p child (below w own) s) (own (w ∷ s))) r)) ≡ (goes_on_here (own []) && (has_here (own []) w && held (below w own) r))

    Inner : Type 0
    Inner = (w : PathName) (s : Path) → r ≡ p ++ w ∷ s → held (below z own) p ≡ true → (has_here (child []) w && held (below w child) s) ≡ (has_here (Some d) w && held (below w (under p (below z own))) s)

    by : (b : Bool) → same_name z y ≡ b → (Inner → held (graft p child (below z own)) r ≡ held (below z own) r) → At b y
    by false e rest = refl
    by true e rest = subst (At true) (same_name-is z y e)
        (and_if (goes_on_here (own [])) (has_here (own []) z && held (graft p child (below z own)) r) (has_here (own []) z && held (below z own) r)
        (λ on. and_if (has_here (own []) z) (held (graft p child (below z own)) r) (held (below z own) r)
        (λ has. rest (λ w s is h. inner w s (λ i. sym (same_name-is z y e) i ∷ is i) (and_from (goes_on_here (own [])) (has_here (own []) z && held (below z own) p) on (and_from (has_here (own []) z) (held (below z own) p) has h))))))

-- what the replacement doesn't hold is not held
pub held_off : (p : Path) (own child : Own) (y : PathName) (r : Path) → (has_here (child []) y && held (below y child) r) ≡ false → held (graft p child own) (p ++ y ∷ r) ≡ false
held_off [] own child y r off = and_right (goes_on_here (child [])) (has_here (child []) y && held (below y child) r) off
held_off (z ∷ p) own child y r off =
    ap (λ (b : Bool). goes_on_here (own []) && (has_here (own []) z && held (λ s. cond b (graft p child (below z own) s) (own (z ∷ s))) (p ++ y ∷ r))) (same_name-refl z)
    ∙ and_right (goes_on_here (own [])) (has_here (own []) z && held (graft p child (below z own)) (p ++ y ∷ r))
    (and_right (has_here (own []) z) (held (graft p child (below z own)) (p ++ y ∷ r)) (held_off p (below z own) child y r off))

-- one node is changed, and no other
pub set_off : (p : Path) (w : OwnNode) (own : Own) (q : Path) → (covers p q && covers q p) ≡ false → graft p (with_node w (under p own)) own q ≡ own q
set_off [] w own [] apart = absurd (true≢false apart)
set_off [] w own (y ∷ r) apart = refl
set_off (z ∷ p) w own [] apart = refl
set_off (z ∷ p) w own (y ∷ r) apart = by (same_name z y) refl (λ off. set_off p w (below z own) r off)
  where
    Goal : PathName → Type 0
    Goal y = graft p (with_node w (under p (below z own))) (below y own) r ≡ own (y ∷ r)

    by : (b : Bool) → same_name z y ≡ b → ((covers p r && covers r p) ≡ false → Goal z) → cond b (graft p (with_node w (under p (below z own))) (below y own) r) (own (y ∷ r)) ≡ own (y ∷ r)
    by false e rest = refl
    by true e rest = subst Goal (same_name-is z y e) (rest ((λ i. (sym e i && covers p r) && (sym (same_name-symm y z ∙ e) i && covers r p)) ∙ apart))
