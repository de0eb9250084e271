-- A `children` file is read exactly.
use Rattle.std.proofs.Common.{ℕ, List, [], ◌∷◌, ◌++◌, length, Option, Some, None, refl, ap, arith, inl, inr}
use Rattle.std.proofs.lemmas.List.{length-append}
use Rattle.fsfs_base.proofs.Readers.{Reads, ReadsAll, next_all, mapped_reads, mapped_all, either_reads, many_reads, from_steps_all}
use Rattle.fsfs_layout.specs.Hash.Dump.{put_all}
use Rattle.fsfs_layout.specs.Hash.Children.{ChildrenChange, change_all, IsChildren, change_at, children_at}
use Rattle.fsfs_layout.proofs.Dumps.{field_reads, entry_reads, entries_reads}

change_reads : (n : ℕ) → Reads n ChildrenChange change_at
unfolding change_at
change_reads n = either_reads 68
    (λ t x w. rw (w.inner_is.parts, w.inner_is.first_is) refl)
    (λ t x w. (75, 32 ∷ (w.inner_is.first_is.second ++ w.inner_is.second), rw (w.inner_is.parts, w.inner_is.first_is.parts, w.inner_is.first_is.first_is) refl, refl))
    (mapped_reads (λ (key : List ℕ). let p : List ℕ × Option (List ℕ) = (key, None) in p) (field_reads 68 n))
    (mapped_reads (λ (e : List ℕ × List ℕ). let p : List ℕ × Option (List ℕ) = (e.0, Some e.1) in p) (entry_reads n))

change_filled : (x : List ℕ × Option (List ℕ)) → ¬ ChildrenChange [] x
change_filled x (inl w) = let e = ap length w.inner_is.parts in omega (arith, e, length-append w.inner_is.first w.inner_is.second, ap length w.inner_is.first_is)
change_filled x (inr w) =
    let f = w.inner_is.first_is in
    omega (arith, ap length w.inner_is.parts, length-append w.inner_is.first w.inner_is.second, ap length f.parts, length-append f.first f.second, ap length f.first_is)

pub children_reads : (n : ℕ) → ReadsAll n IsChildren children_at
unfolding children_at
children_reads = next_all entries_reads (λ es n. mapped_all (change_all (put_all [] es)) (from_steps_all (many_reads change_filled change_reads) n))
