-- A revision more is read; what is no revision file shows none.
use Rattle.std.proofs.Common.{◌≡◌, ◌<◌, ◌+◌, ◌-◌, ℕ, suc, zero, List, [], ◌∷◌, ◌++◌, refl, sym, ap, ◌∙◌, arith, add-one}
use Rattle.std.specs.Prelude.{Option, Some, None, true, false}
use Rattle.fsfs_machine.specs.declared.contents.FileName.TheVariants.{Props}
use Rattle.fsfs_machine.specs.declared.contents.Contents.{Contents}
use Rattle.fsfs_machine.specs.declared.contents.Contents.TheVariants.{RevFile}
use Rattle.fsfs_machine.specs.declared.machine.Outcome.{Outcome}
use Rattle.fsfs_machine.specs.declared.machine.Outcome.TheVariants as outcome
use Rattle.fsfs_machine.specs.declared.machine.Recorded.{Recorded}
use Rattle.fsfs_machine.specs.Disk.{Disk, found, shown, is_rev_file}
use Rattle.fsfs_machine.specs.Machine.{range_of, revision_in, read_one, read_back}

pub read_more : (size f : ℕ) (d : Disk) (n : ℕ) (h : List Recorded) (x : Recorded) → read_back size f d n ≡ Some h → Some x ≡ revision_in (shown size f d n) (found d (Props n)) → read_back size f d (n + 1) ≡ Some (h ++ x ∷ [])
read_more size f d n h x e g = ap (λ k. read_back size f d k) (add-one n) ∙ ap (λ o. read_one o (revision_in (shown size f d n) (found d (Props n)))) e ∙ ap (λ o. read_one (Some h) o) (sym g)

no_more : (o : Option (List Recorded)) (d : Option Recorded) → o ≡ None → read_one o d ≡ None
no_more o d e = ap (λ x. read_one x d) e

none_on : (size f : ℕ) (d : Disk) (n k : ℕ) → read_back size f d n ≡ None → read_back size f d (k + n) ≡ None
none_on size f d n zero e = let g : zero + n ≡ n = omega arith in ap (λ m. read_back size f d m) g ∙ e
none_on size f d n (suc k) e = let g : suc k + n ≡ suc (k + n) = omega arith in ap (λ m. read_back size f d m) g ∙ no_more (read_back size f d (k + n)) (revision_in (shown size f d (k + n)) (found d (Props (k + n)))) (none_on size f d n k e)

one_none : (o : Option (List Recorded)) → read_one o None ≡ None
one_none None = refl
one_none (Some h) = refl

pub read_none : (size f : ℕ) (d : Disk) (n m : ℕ) → None ≡ revision_in (shown size f d n) (found d (Props n)) → n < m → None ≡ read_back size f d m
read_none size f d n m e less =
    let here : read_back size f d (suc n) ≡ None = ap (λ o. read_one (read_back size f d n) o) (sym e) ∙ one_none (read_back size f d n) in
    let far : (m - suc n) + suc n ≡ m = omega (arith, less) in
    sym (sym (ap (λ k. read_back size f d k) far) ∙ none_on size f d (suc n) (m - suc n) here)

pub range_none : (offset size : ℕ) (o : Option Contents) → is_rev_file o ≡ false → ◌≡◌ {A = Outcome} outcome.Missing (range_of offset size o)
range_none offset size (Some (RevFile tree changes bytes)) none = let bad : true ≡ false = none in absurd cc
range_none offset size o none = refl

pub no_revision : (r p : Option Contents) → is_rev_file r ≡ false → None ≡ revision_in r p
no_revision (Some (RevFile tree changes bytes)) p none = let bad : true ≡ false = none in absurd cc
no_revision r p none = refl
