-- The machine's files are told apart by their names.
use Rattle.std.proofs.Common.{◌≡◌, ℕ, Bool, true, false, refl, sym, ap, ◌∙◌}
use Rattle.std.proofs.lemmas.Bool.{eqb-true, eq-eqb}
use Rattle.fsfs_layout.specs.FileNames.{file_name, FitsFile}
use Rattle.fsfs_layout.specs.declared.layout.Layout.{Layout}
use Rattle.fsfs_layout.specs.declared.only_file.OnlyFile.TheVariants as only
use Rattle.fsfs_layout.specs.declared.repository_file.RepositoryFile.{RepositoryFile}
use Rattle.fsfs_layout.specs.declared.repository_file.RepositoryFile.TheVariants as real
use Rattle.fsfs_layout.proofs.Apart.{names_apart}
use Rattle.fsfs_machine.specs.declared.contents.FileName.{FileName}
use Rattle.fsfs_machine.specs.declared.contents.FileName.TheVariants.{Current, CurrentNext, Counter, CounterNext, Floor, FloorNext, Rev, Props, Pack, Manifest}
use Rattle.fsfs_machine.specs.Disk.{same_name}
use Rattle.fsfs_images.specs.RealNames.{machine_file, AreMachineNames}
use Rattle.fsfs_images.specs.Shown.{Fits}

-- the machine's name of a file, for those that it has one of
abbrev back : RepositoryFile → FileName
back (real.Only only.CurrentNext) = CurrentNext
back (real.Only only.TxnCurrent) = Counter
back (real.Only only.TxnCurrentNext) = CounterNext
back (real.Only only.MinUnpackedRev) = Floor
back (real.Only only.MinUnpackedRevNext) = FloorNext
back (real.Revision r) = Rev r
back (real.Props r) = Props r
back (real.Pack k) = Pack k
back (real.Manifest k) = Manifest k
back f = Current

is_back : (n : FileName) → back (machine_file n) ≡ n
is_back Current = refl
is_back CurrentNext = refl
is_back Counter = refl
is_back CounterNext = refl
is_back Floor = refl
is_back FloorNext = refl
is_back (Rev r) = refl
is_back (Props r) = refl
is_back (Pack k) = refl
is_back (Manifest k) = refl

is_same : (n : FileName) → same_name n n ≡ true
is_same Current = refl
is_same CurrentNext = refl
is_same Counter = refl
is_same CounterNext = refl
is_same Floor = refl
is_same FloorNext = refl
is_same (Rev r) = eq-eqb r r refl
is_same (Props r) = eq-eqb r r refl
is_same (Pack k) = eq-eqb k k refl
is_same (Manifest k) = eq-eqb k k refl

same_files : (a b : FileName) → same_name a b ≡ true → machine_file a ≡ machine_file b
same_files Current Current e = refl
same_files CurrentNext CurrentNext e = refl
same_files Counter Counter e = refl
same_files CounterNext CounterNext e = refl
same_files Floor Floor e = refl
same_files FloorNext FloorNext e = refl
same_files (Rev r) (Rev s) e = ap (λ (n : ℕ). real.Revision n) (eqb-true r s e)
same_files (Props r) (Props s) e = ap (λ (n : ℕ). real.Props n) (eqb-true r s e)
same_files (Pack r) (Pack s) e = ap (λ (n : ℕ). real.Pack n) (eqb-true r s e)
same_files (Manifest r) (Manifest s) e = ap (λ (n : ℕ). real.Manifest n) (eqb-true r s e)
same_files a b e = absurd cc

-- names that test as the same are one
pub same_is : (a b : FileName) → same_name a b ≡ true → a ≡ b
same_is a b e = sym (is_back a) ∙ ap back (same_files a b e) ∙ is_back b

not_false : (b : Bool) → b ≡ true → b ≡ false → ⊥
not_false true e f = cc
not_false false e f = cc

-- a file of the machine is one that a repository of any layout may have
pub fits_in : (layout : Layout) (n : FileName) → Fits n → FitsFile layout (machine_file n)
fits_in layout Current fits = tt
fits_in layout CurrentNext fits = tt
fits_in layout Counter fits = tt
fits_in layout CounterNext fits = tt
fits_in layout Floor fits = tt
fits_in layout FloorNext fits = tt
fits_in layout (Rev r) fits = fits
fits_in layout (Props r) fits = fits
fits_in layout (Pack k) fits = fits
fits_in layout (Manifest k) fits = fits

pub machine_names_apart : (layout : Layout) → AreMachineNames layout
machine_names_apart k = record {
  same = λ a b e. ap (file_name k) (same_files a b e);
  apart = λ a b fa fb differ e.
      let file : machine_file b ≡ machine_file a = names_apart k (machine_file b) (machine_file a) fb fa e in
      let name : b ≡ a = sym (is_back b) ∙ ap back file ∙ is_back a in
      not_false (same_name a b) (ap (λ (n : FileName). same_name a n) name ∙ is_same a) differ;
}
