-- What is found at a path of a tree.
use Rattle.std.proofs.Common.{◌≡◌, ◌<◌, ◌≤◌, ℕ, zero, suc, true, false, [], ◌∷◌, ◌++◌, length, take, refl, sym, ap, subst, ◌∙◌, append_assoc, append-nil, arith}
use Rattle.std.proofs.lemmas.Bool.{and_from, false≢true}
use Rattle.std.proofs.lemmas.List.{length-append}
use Rattle.std.specs.Prelude.{Option, Some, None, is_some, not, Bool}
use Rattle.fsfs_base.specs.Paths.{PathName, Path, covers, is_above}
use Rattle.fsfs_base.specs.declared.kind.Kind.{Kind}
use Rattle.fsfs_base.specs.declared.kind.Kind.TheVariants.{File, Dir}
use Rattle.fsfs_base.proofs.PathLemmas.{covers-longer, covers-length}
use Rattle.fsfs_tree.specs.Nodes.{Node, TreeFunction}
use Rattle.fsfs_tree.specs.Trees.{IsTree}
use Rattle.fsfs_tree.specs.Answers.{Stands, Lacking, Blocked, through, found_from, found_at}
use Rattle.fsfs_revision.specs.Shows.ByTree.{LacksAt, IsBlockedAt}

-- ---- paths

pub above_longer : (q : Path) (x : PathName) (r : Path) → is_above q (q ++ x ∷ r) ≡ true
above_longer q x r = and_from _ _ (covers-longer q (x ∷ r)) (by (covers (q ++ x ∷ r) q) refl)
  where
    by : (b : Bool) → covers (q ++ x ∷ r) q ≡ b → not b ≡ true
    by false e = refl
    by true e = let long = covers-length (q ++ x ∷ r) q e in absurd (omega (arith, long, length-append q (x ∷ r)))

-- a path of more names than so many: those, the next one, and the rest
pub record Cut (p : Path) (n : ℕ) : Type 0 where
  pub name : PathName
  pub rest : Path
  pub whole : take n p ++ name ∷ rest ≡ p
  pub next : take (suc n) p ≡ take n p ++ name ∷ []

pub cut_path : (p : Path) (n : ℕ) → n < length p → Cut p n
cut_path [] n lt = absurd (omega (arith, lt))
cut_path (x ∷ p) zero lt = record { name = x; rest = p; whole = refl; next = refl }
cut_path (x ∷ p) (suc n) lt =
    let r = cut_path p n (omega (arith, lt)) in
    record { name = r.name; rest = r.rest; whole = ap (λ (q : Path). x ∷ q) r.whole; next = ap (λ (q : Path). x ∷ q) r.next }

-- ---- walks

some_of : (o : Option Node) (n : Node) → o ≡ Some n → is_some o ≡ true
some_of o n e = ap (λ (x : Option Node). is_some x) e

-- down directories
walk : (t : TreeFunction) → IsTree t → (front rest more : Path) → is_some (t (front ++ rest)) ≡ true → found_from t front (rest ++ more) (t front) ≡ found_from t (front ++ rest) more (t (front ++ rest))
walk t tree front [] more there = let same : front ≡ front ++ [] = sym (append-nil front) in λ i. found_from t (same i) more (t (same i))
walk t tree front (x ∷ rest) more there =
    let d = tree.above front (front ++ x ∷ rest) (above_longer front x rest) there in
    let same : (front ++ x ∷ []) ++ rest ≡ front ++ x ∷ rest = append_assoc front (x ∷ []) rest in
    let down = walk t tree (front ++ x ∷ []) rest more (ap (λ (p : Path). is_some (t p)) same ∙ there) in
    ap (found_from t front (x ∷ (rest ++ more))) d.1
    ∙ ap (λ (k : Kind). through k front (found_from t (front ++ x ∷ []) (rest ++ more) (t (front ++ x ∷ [])))) d.2
    ∙ down ∙ (λ i. found_from t (same i) more (t (same i)))

pub stands_found : (t : TreeFunction) → IsTree t → (p : Path) (n : Node) → t p ≡ Some n → found_at t p ≡ Stands n
stands_found t tree p n here =
    let w = walk t tree [] p [] (some_of (t p) n here) in
    ap (λ (q : Path). found_from t [] q (t [])) (sym (append-nil p)) ∙ w ∙ ap (found_from t p []) here

nothing_found : (t : TreeFunction) (at names : Path) → found_from t at names None ≡ Lacking at
nothing_found t at [] = refl
nothing_found t at (x ∷ names) = refl

pub lacks_found : (t : TreeFunction) → IsTree t → (p : Path) (depth : ℕ) → LacksAt t p depth → found_at t p ≡ Lacking (take depth p)
lacks_found t tree p depth l =
    let c = cut_path p l.above (omega (arith, l.depth_is, l.within)) in
    let front = take l.above p in
    let next : front ++ c.name ∷ [] ≡ take depth p = sym c.next ∙ ap (λ (k : ℕ). take k p) (sym l.depth_is) in
    let nothing : t (front ++ c.name ∷ []) ≡ None = ap t next ∙ l.nothing in
    let w = walk t tree [] front (c.name ∷ c.rest) (some_of (t front) l.dir l.dir_is) in
    ap (λ (q : Path). found_from t [] q (t [])) (sym c.whole) ∙ w
    ∙ ap (found_from t front (c.name ∷ c.rest)) l.dir_is
    ∙ ap (λ (k : Kind). through k front (found_from t (front ++ c.name ∷ []) c.rest (t (front ++ c.name ∷ [])))) l.kind
    ∙ ap (found_from t (front ++ c.name ∷ []) c.rest) nothing
    ∙ nothing_found t (front ++ c.name ∷ []) c.rest ∙ ap (λ (q : Path). Lacking q) next

pub blocked_found : (t : TreeFunction) → IsTree t → (p : Path) (depth : ℕ) → IsBlockedAt t p depth → found_at t p ≡ Blocked (take depth p)
blocked_found t tree p depth b =
    let c = cut_path p depth b.within in
    let front = take depth p in
    let w = walk t tree [] front (c.name ∷ c.rest) (some_of (t front) b.file b.file_is) in
    ap (λ (q : Path). found_from t [] q (t [])) (sym c.whole) ∙ w
    ∙ ap (found_from t front (c.name ∷ c.rest)) b.file_is
    ∙ ap (λ (k : Kind). through k front (found_from t (front ++ c.name ∷ []) c.rest (t (front ++ c.name ∷ [])))) b.kind

-- ---- nothing stands there

-- so many names are all of a path, or more follow
data Reaches (n : ℕ) (p : Path) : Type 0 where
  Whole : take n p ≡ p → Reaches n p
  Part : Cut p n → Reaches n p

cut_or_whole : (n : ℕ) (p : Path) → n ≤ length p → Reaches n p
cut_or_whole zero [] le = Whole refl
cut_or_whole zero (x ∷ p) le = Part (record { name = x; rest = p; whole = refl; next = refl })
cut_or_whole (suc n) [] le = absurd (omega (arith, le))
cut_or_whole (suc n) (x ∷ p) le = by (cut_or_whole n p (omega (arith, le)))
  where
    by : Reaches n p → Reaches (suc n) (x ∷ p)
    by (Whole e) = Whole (ap (λ (q : Path). x ∷ q) e)
    by (Part c) = Part (record { name = c.name; rest = c.rest; whole = ap (λ (q : Path). x ∷ q) c.whole; next = ap (λ (q : Path). x ∷ q) c.next })

none_or_some : (o : Option Node) → (is_some o ≡ true → ⊥) → o ≡ None
none_or_some None never = refl
none_or_some (Some n) never = absurd (never refl)

file_is_no_dir : (o : Option Node) (f d : Node) → o ≡ Some f → f.kind ≡ File → o ≡ Some d → d.kind ≡ Dir → ⊥
file_is_no_dir o f d a file b dir = let same : Some f ≡ Some d = sym a ∙ b in cc

pub lacks_nothing : (t : TreeFunction) → IsTree t → (p : Path) (depth : ℕ) → LacksAt t p depth → t p ≡ None
lacks_nothing t tree p depth l = none_or_some (t p) (λ there. by there (cut_or_whole depth p l.within))
  where
    by : is_some (t p) ≡ true → Reaches depth p → ⊥
    by there (Whole e) = let none : t p ≡ None = ap t (sym e) ∙ l.nothing in let bad : is_some (t p) ≡ false = ap (λ (o : Option Node). is_some o) none in false≢true (sym bad ∙ there)
    by there (Part c) =
        let d = tree.above (take depth p) p (subst (λ (q : Path). is_above (take depth p) q ≡ true) c.whole (above_longer (take depth p) c.name c.rest)) there in
        let bad : None ≡ Some d.0 = sym l.nothing ∙ d.1 in cc

pub blocked_nothing : (t : TreeFunction) → IsTree t → (p : Path) (depth : ℕ) → IsBlockedAt t p depth → t p ≡ None
blocked_nothing t tree p depth b = none_or_some (t p) (λ there.
    let c = cut_path p depth b.within in
    let d = tree.above (take depth p) p (subst (λ (q : Path). is_above (take depth p) q ≡ true) c.whole (above_longer (take depth p) c.name c.rest)) there in
    file_is_no_dir (t (take depth p)) b.file d.0 b.file_is b.kind d.1 d.2)
