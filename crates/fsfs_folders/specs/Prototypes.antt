-- What a bench tells of which one file stands elsewhere: the prototype revision file of a transaction, in a folder with those of others.
use Rattle.std.proofs.Common.{◌≡◌, ℕ, List, Bool, true, false, cond, refl, sym, subst, ◌∙◌}
use Rattle.std.specs.Prelude.{codes, is_some, Option, Some, None, option_map, IfSome}
use Rattle.std.specs.FinMap.{get}
use Rattle.fsfs_base.specs.Files.{Files, same_text}
use Rattle.fsfs_disk.specs.Benches.{with_file, HasShortFiles}
use Rattle.fsfs_disk.proofs.ShortLemmas.{short_insert, short_remove}
use Rattle.fsfs_folders.specs.System.CallRecord.{CallRecord}
use Rattle.fsfs_folders.specs.BenchFiles.{bench_told, firm_held}

-- its name in the bench
abbrev pub proto_name : List ℕ
proto_name = codes "rev"

-- whether a file of a bench is the one that stands elsewhere, if one does
abbrev pub is_elsewhere : {A : Type 0} → Option A → List ℕ → Bool
is_elsewhere None file = false
is_elsewhere (Some there) file = same_text file proto_name

-- what is said of the files there, and the name that it has there
abbrev pub elsewhere : {A B : Type 0} → Option A → (A → B) → (A → List ℕ) → Option (B × List ℕ)
elsewhere None said name_of = None
elsewhere (Some there) said name_of = Some (said there, name_of there)

-- the files here, and with them that one
abbrev pub with_proto : Option Files → Option (Option Files × List ℕ) → Option Files
with_proto None there = None
with_proto (Some m) None = Some m
with_proto (Some m) (Some there) = option_map (λ n. with_file proto_name (get n there.1) m) there.0

-- how far each is firm
abbrev pub firm_with_proto : (List ℕ → ℕ) → Option ((List ℕ → ℕ) × List ℕ) → List ℕ → ℕ
firm_with_proto here None q = here q
firm_with_proto here (Some there) q = cond (same_text q proto_name) (there.0 there.1) (here q)

-- what the bench tells, by the calls on its folder, and on the other one
abbrev pub whole_told : {A : Type 0} → Option A → (A → Option CallRecord) → (A → List ℕ) → Option CallRecord → Option Files
whole_told there calls_of name_of here = with_proto (bench_told here) (elsewhere there (λ a. bench_told (calls_of a)) name_of)

abbrev pub whole_firm : {A : Type 0} → Option A → (A → Option CallRecord) → (A → List ℕ) → Option CallRecord → List ℕ → ℕ
whole_firm there calls_of name_of here q = firm_with_proto (firm_held here) (elsewhere there (λ a. firm_held (calls_of a)) name_of) q

-- ---- laws: no file is longer than 2^62 bytes, and where the disk tells the bench does

short_with : (n : Option Files) (name : List ℕ) (m : Files) → IfSome n HasShortFiles → HasShortFiles m → IfSome (option_map (λ k. with_file proto_name (get k name) m) n) HasShortFiles
short_with None name m there here = tt
short_with (Some n) name m there here = by_file (get n name) refl
  where
    by_file : (o : Option (List ℕ)) → get n name ≡ o → HasShortFiles (with_file proto_name (get n name) m)
    by_file None e = subst (λ o. HasShortFiles (with_file proto_name o m)) (sym e) (short_remove m proto_name here)
    by_file (Some bytes) e = subst (λ o. HasShortFiles (with_file proto_name o m)) (sym e) (short_insert m proto_name bytes here (there name bytes e))

pub whole_is_short : {A : Type 0} (there : Option A) (calls_of : A → Option CallRecord) (name_of : A → List ℕ) (here : Option CallRecord) → IfSome (bench_told here) HasShortFiles → ((a : A) → IfSome (bench_told (calls_of a)) HasShortFiles)
    → IfSome (whole_told there calls_of name_of here) HasShortFiles
whole_is_short there calls_of name_of None short each = tt
whole_is_short None calls_of name_of (Some r) short each = short
whole_is_short (Some a) calls_of name_of (Some r) short each = short_with (bench_told (calls_of a)) (name_of a) _ (each a) short

mapped_some : {X Y : Type 0} (f : X → Y) (o : Option X) → is_some (option_map f o) ≡ is_some o
mapped_some f None = refl
mapped_some f (Some x) = refl

pub whole_tells : {A T : Type 0} (there : Option A) (calls_of : A → Option CallRecord) (name_of : A → List ℕ) (here : Option CallRecord) (disk : Option T) → is_some (bench_told here) ≡ is_some disk → ((a : A) → is_some (bench_told (calls_of a)) ≡ is_some disk)
    → is_some (whole_told there calls_of name_of here) ≡ is_some disk
whole_tells there calls_of name_of None disk same each = same
whole_tells None calls_of name_of (Some r) disk same each = same
whole_tells (Some a) calls_of name_of (Some r) disk same each = mapped_some (λ n. with_file proto_name (get n (name_of a)) _) (bench_told (calls_of a)) ∙ each a
