-- Revisions with the bytes beside them.
use Rattle.std.proofs.Common.{◌≡◌, ◌+◌, ℕ, suc, zero, List, [], ◌∷◌, ◌++◌, length, refl, sym, ap, ◌∙◌, arith, length-append}
use Rattle.fsfs_tree.specs.Revisions.{Revision}
use Rattle.std.specs.Prelude.{Some, None, slice_get}
use Rattle.fsfs_machine.specs.declared.contents.Part.{Part}
use Rattle.fsfs_machine.specs.declared.machine.Recorded.{Recorded}
use Rattle.fsfs_machine.specs.Machine.{revisions, part_at}
use Rattle.fsfs_machine.specs.Lines.{recorded_with}

pub length_with : (h : List Revision) (b : List (List ℕ)) → length h ≡ length b → length (recorded_with h b) ≡ length h
length_with [] b e = refl
length_with (x ∷ h) [] e = absurd (omega (arith, e))
length_with (x ∷ h) (y ∷ b) e = ap (λ n. suc n) (length_with h b (omega (arith, e)))

pub revisions_with : (h : List Revision) (b : List (List ℕ)) → length h ≡ length b → revisions (recorded_with h b) ≡ h
revisions_with [] b e = refl
revisions_with (x ∷ h) [] e = absurd (omega (arith, e))
revisions_with (x ∷ h) (y ∷ b) e = ap (λ xs. x ∷ xs) (revisions_with h b (omega (arith, e)))

pub with_more : (h : List Revision) (b : List (List ℕ)) (x : Revision) (y : List ℕ) → length h ≡ length b → recorded_with (h ++ x ∷ []) (b ++ y ∷ []) ≡ recorded_with h b ++ record { revision = x; bytes = y } ∷ []
with_more [] [] x y e = refl
with_more [] (z ∷ b) x y e = absurd (omega (arith, e))
with_more (z ∷ h) [] x y e = absurd (omega (arith, e))
with_more (z ∷ h) (v ∷ b) x y e = ap (λ xs. record { revision = z; bytes = v } ∷ xs) (with_more h b x y (omega (arith, e)))

pub length_more : {A B : Type 0} (h : List A) (b : List B) (x : A) (y : B) → length h ≡ length b → length (h ++ x ∷ []) ≡ length (b ++ y ∷ [])
length_more h b x y e = length-append h (x ∷ []) ∙ ap (λ n. n + 1) e ∙ sym (length-append b (y ∷ []))

-- a revision with its bytes, as a part of a pack
found_part : (h : List Revision) (b : List (List ℕ)) (n : ℕ) (x : Revision) (y : List ℕ) → slice_get h n ≡ Some x → slice_get b n ≡ Some y → Some (record { tree = x.tree; changes = x.changes; bytes = y }) ≡ part_at (slice_get (recorded_with h b) n)
found_part [] b n x y e f = let g : None ≡ Some x = e in absurd cc
found_part (z ∷ h) [] n x y e f = let g : None ≡ Some y = f in absurd cc
found_part (z ∷ h) (v ∷ b) zero x y e f = let g : Some z ≡ Some x = e in let i : Some v ≡ Some y = f in let same : x ≡ z = cc in let bytes : y ≡ v = cc in λ k. Some (record { tree = (same k).tree; changes = (same k).changes; bytes = bytes k })
found_part (z ∷ h) (v ∷ b) (suc n) x y e f = found_part h b n x y e f

pub part_found : (h : List Revision) (b : List (List ℕ)) (n : ℕ) (x : Revision) (y : List ℕ) (line : List Recorded) (part : Part)
    → slice_get h n ≡ Some x → slice_get b n ≡ Some y → line ≡ recorded_with h b → part.tree ≡ x.tree → part.changes ≡ x.changes → part.bytes ≡ y → Some part ≡ part_at (slice_get line n)
part_found h b n x y line part e f whole tree changes bytes =
    (λ k. Some (record { tree = tree k; changes = changes k; bytes = bytes k })) ∙ found_part h b n x y e f ∙ ap (λ xs. part_at (slice_get xs n)) (sym whole)

pub no_revision : (h : List Revision) (b : List (List ℕ)) (n : ℕ) → slice_get h n ≡ None → None ≡ part_at (slice_get (recorded_with h b) n)
no_revision [] b n e = refl
no_revision (z ∷ h) [] n e = refl
no_revision (z ∷ h) (v ∷ b) zero e = let g : Some z ≡ None = e in absurd cc
no_revision (z ∷ h) (v ∷ b) (suc n) e = no_revision h b n e

pub no_bytes : (h : List Revision) (b : List (List ℕ)) (n : ℕ) → slice_get b n ≡ None → None ≡ part_at (slice_get (recorded_with h b) n)
no_bytes [] b n e = refl
no_bytes (z ∷ h) [] n e = refl
no_bytes (z ∷ h) (v ∷ b) zero e = let g : Some v ≡ None = e in absurd cc
no_bytes (z ∷ h) (v ∷ b) (suc n) e = no_bytes h b n e
