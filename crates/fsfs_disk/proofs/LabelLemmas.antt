-- Which labels are kept after one was made or dropped.
use Rattle.std.proofs.Common.{◌≡◌, List, [], ◌∷◌, ◌++◌, Bool, true, false, cond, refl, sym, ap, ◌∙◌, eq-eqb}
use Rattle.std.specs.Prelude.{◌==◌, ◌&&◌, ◌||◌, not}
use Rattle.std.proofs.lemmas.Bool.{eqb-true, and_from, and_parts}
use Rattle.fsfs_disk.specs.Labels.{Label, Txn, Pack, HotCopy, same_label, has_label, without_label, with_label, AreLeft}
use Rattle.fsfs_disk.specs.Trace.{NameChange, Put, Adopt, Rename, Remove, FirmNames, KeepLabel, DropLabel, relabelled}
use Rattle.fsfs_disk.specs.Crash.{labels_amid}

pub same_label-itself : (l : Label) → same_label l l ≡ true
same_label-itself (Txn base number) = and_from (base == base) (number == number) (eq-eqb base base refl) (eq-eqb number number refl)
same_label-itself (Pack shard) = eq-eqb shard shard refl
same_label-itself HotCopy = refl

or_assoc : (a b c : Bool) → ((a || b) || c) ≡ (a || (b || c))
or_assoc true b c = refl
or_assoc false b c = refl

or_false : (a : Bool) → (a || false) ≡ a
or_false true = refl
or_false false = refl

or_true : (a : Bool) → (a || true) ≡ true
or_true true = refl
or_true false = refl

pub has-append : (l : Label) (xs ys : List Label) → has_label l (xs ++ ys) ≡ (has_label l xs || has_label l ys)
has-append l [] ys = refl
has-append l (k ∷ xs) ys = ap (λ b. same_label k l || b) (has-append l xs ys) ∙ sym (or_assoc (same_label k l) (has_label l xs) (has_label l ys))

-- a label that is dropped is gone
pub has-without : (l : Label) (ls : List Label) → has_label l (without_label l ls) ≡ false
has-without l [] = refl
has-without l (k ∷ ls) = by_test (same_label k l) (has-without l ls) refl where
  by_test : (b : Bool) → has_label l (without_label l ls) ≡ false → same_label k l ≡ b → has_label l (cond b (without_label l ls) (k ∷ without_label l ls)) ≡ false
  by_test true rest is = rest
  by_test false rest is = ap (λ b. b || has_label l (without_label l ls)) is ∙ rest

pub without_absent : (l : Label) (ls : List Label) → has_label l ls ≡ false → without_label l ls ≡ ls
without_absent l [] absent = refl
without_absent l (k ∷ ls) absent = by_head (same_label k l) (without_absent l ls) absent
  where
    by_head : (b : Bool) → (has_label l ls ≡ false → without_label l ls ≡ ls) → (b || has_label l ls) ≡ false → cond b (without_label l ls) (k ∷ without_label l ls) ≡ k ∷ ls
    by_head true rest none = cc
    by_head false rest none = ap (λ (x : List Label). k ∷ x) (rest none)

-- a label that is kept is there
pub has-with : (l : Label) (ls : List Label) → has_label l (with_label l ls) ≡ true
has-with l ls =
    has-append l (without_label l ls) (l ∷ [])
    ∙ ap (λ b. has_label l (without_label l ls) || (b || false)) (same_label-itself l)
    ∙ or_true (has_label l (without_label l ls))

pub same_label-same : (k l : Label) → same_label k l ≡ true → k ≡ l
same_label-same (Txn a m) (Txn b n) is = let both = and_parts (a == b) (m == n) is in λ i. Txn (eqb-true a b both.0 i) (eqb-true m n both.1 i)
same_label-same (Txn a m) (Pack b) is = cc
same_label-same (Txn a m) HotCopy is = cc
same_label-same (Pack a) (Txn b n) is = cc
same_label-same (Pack a) (Pack b) is = ap (λ n. Pack n) (eqb-true a b is)
same_label-same (Pack a) HotCopy is = cc
same_label-same HotCopy (Txn b n) is = cc
same_label-same HotCopy (Pack b) is = cc
same_label-same HotCopy HotCopy is = refl

-- ---- a label behind another, by whether the two are one

pub same_either : (b h : Bool) → (not b && h) ≡ (not b && (b || h))
same_either true h = refl
same_either false h = refl

pub other_either : (a b h : Bool) → (a ≡ true → b ≡ false) → (a || (not b && h)) ≡ (not b && (a || h))
other_either true b h apart = sym (ap (λ x. not x && true) (apart refl))
other_either false b h apart = refl

-- which labels are kept after one was dropped
pub has-without_label : (k l : Label) (ls : List Label) → has_label l (without_label k ls) ≡ (not (same_label k l) && has_label l ls)
has-without_label k l [] = by_test (same_label k l) where
  by_test : (b : Bool) → false ≡ (not b && false)
  by_test true = refl
  by_test false = refl
has-without_label k l (x ∷ ls) = by_test (same_label x k) (has-without_label k l ls) refl where
  false_from : (b : Bool) → (b ≡ true → ⊥) → b ≡ false
  false_from true no_way = absurd (no_way refl)
  false_from false no_way = refl

  by_test : (b : Bool) → has_label l (without_label k ls) ≡ (not (same_label k l) && has_label l ls) → same_label x k ≡ b
      → has_label l (cond b (without_label k ls) (x ∷ without_label k ls)) ≡ (not (same_label k l) && (same_label x l || has_label l ls))
  by_test true rest is =
      rest ∙ same_either (same_label k l) (has_label l ls)
      ∙ ap (λ y. not (same_label k l) && (same_label y l || has_label l ls)) (sym (same_label-same x k is))
  by_test false rest is =
      ap (λ b. same_label x l || b) rest
      ∙ other_either (same_label x l) (same_label k l) (has_label l ls)
      (λ e. false_from (same_label k l) (λ t. let h : true ≡ false = sym (same_label-itself k) ∙ ap (λ y. same_label y k) (same_label-same k l t ∙ sym (same_label-same x l e)) ∙ is in cc))

either_with : (b h : Bool) → ((not b && h) || (b || false)) ≡ (b || h)
either_with true h = refl
either_with false h = or_false h

-- and after one was made
pub has-with_label : (k l : Label) (ls : List Label) → has_label l (with_label k ls) ≡ (same_label k l || has_label l ls)
has-with_label k l ls =
    has-append l (without_label k ls) (k ∷ [])
    ∙ ap (λ b. b || (same_label k l || false)) (has-without_label k l ls)
    ∙ either_with (same_label k l) (has_label l ls)

some_left : (a b c : Bool) → (c ≡ true → b ≡ true) → (a || c) ≡ true → (a || b) ≡ true
some_left true b c h p = refl
some_left false b c h p = h p

-- what is left without one label was there
pub without-AreLeft : (k : Label) (ls : List Label) → AreLeft ls (without_label k ls)
without-AreLeft k [] l h = h
without-AreLeft k (x ∷ ls) l h = by_test (same_label x k) (without-AreLeft k ls l) h where
  by_test : (b : Bool) → (has_label l (without_label k ls) ≡ true → has_label l ls ≡ true) → has_label l (cond b (without_label k ls) (x ∷ without_label k ls)) ≡ true → (same_label x l || has_label l ls) ≡ true
  by_test true rest h = ap (λ b. same_label x l || b) (rest h) ∙ or_true (same_label x l)
  by_test false rest h = some_left (same_label x l) (has_label l ls) (has_label l (without_label k ls)) rest h

pub left_itself : (ls : List Label) → AreLeft ls ls
left_itself ls l h = h

pub left_then : (a b c : List Label) → AreLeft a b → AreLeft b c → AreLeft a c
left_then a b c f g l h = f l (g l h)

append_left : (a b c : Bool) → (a ≡ true → b ≡ true) → (a || c) ≡ true → (b || c) ≡ true
append_left true b c h p = ap (λ x. x || c) (h refl)
append_left false b c h p = ap (λ x. b || x) p ∙ or_true b

-- the labels after a change are among those in the middle of it
pub amid_after : (change : NameChange) (ls : List Label) → AreLeft (labels_amid change ls) (relabelled change ls)
amid_after (KeepLabel k) ls l h =
    has-append l ls (k ∷ []) ∙ append_left (has_label l (without_label k ls)) (has_label l ls) (has_label l (k ∷ [])) (without-AreLeft k ls l) (sym (has-append l (without_label k ls) (k ∷ [])) ∙ h)
amid_after (DropLabel k) ls l h = without-AreLeft k ls l h
amid_after (Put name bytes) ls l h = h
amid_after (Adopt name bytes) ls l h = h
amid_after (Rename from to) ls l h = h
amid_after (Remove name) ls l h = h
amid_after FirmNames ls l h = h

-- a label that came and went
pub without-with : (l : Label) (ls : List Label) → without_label l (with_label l ls) ≡ without_label l ls
without-with l [] = ap (λ b. cond b [] (l ∷ [])) (same_label-itself l)
without-with l (k ∷ ls) = by_test (same_label k l) (without-with l ls) refl where
  by_test : (b : Bool) → without_label l (with_label l ls) ≡ without_label l ls → same_label k l ≡ b
      → without_label l (cond b (without_label l ls) (k ∷ without_label l ls) ++ l ∷ []) ≡ cond b (without_label l ls) (k ∷ without_label l ls)
  by_test true rest is = rest
  by_test false rest is = ap (λ b. cond b (without_label l (with_label l ls)) (k ∷ without_label l (with_label l ls))) is ∙ ap (λ xs. k ∷ xs) rest
