-- Manifests, as they are read and kept.
use Rattle.std.proofs.Common.{◌≡◌, ◌≤◌, ◌+◌, ◌*◌, ℕ, List, [], ◌∷◌, length, take, refl, sym, ap, subst, ◌∙◌, Bool, true, false, cond, arith}
use Rattle.std.specs.Prelude.{Option, Some, None, Result, Ok, Err, ◌==◌, unwrap_or}
use Rattle.std.specs.List.{AllByRecursion, flat_map}
use Rattle.std.specs.Fmt.{decimal}
use Rattle.std.proofs.lemmas.List.{length-append, take_all}
use Rattle.std.proofs.lemmas.Fmt.{length-decimal-le}
use Rattle.std.proofs.lemmas.Bool.{eqb-true}
use Rattle.std.specs.Cmp.Lexicographic.{same_text, nat_list_eq_equiv}
use Rattle.fsfs_base.specs.Files.{Files}
use Rattle.fsfs_base.specs.declared.small_fault.SmallFile.TheVariants.{Manifest}
use Rattle.fsfs_base.specs.declared.small_fault.SmallFault.{SmallFault}
use Rattle.fsfs_revision.specs.declared.wrong.Refusal.TheVariants.{Small}
use Rattle.fsfs_base.specs.Grammar.Relations.{IsFaultAt}
use Rattle.fsfs_layout.specs.FileNames.{small_name}
use Rattle.fsfs_layout.specs.Manifest.{offset_line, IsManifest}
use Rattle.fsfs_layout.specs.Small.{IsFaultOf}
use Rattle.fsfs_disk.specs.WholeFiles.FirstBytes.{first_of, IsShorter}
use Rattle.fsfs_disk.proofs.FirstBytesLemmas.{text_of_first, first_of_text, fault_of_first}
use Rattle.fsfs_revision.proofs.ManifestLemmas.{manifest_ok, manifest_err}
use Rattle.fsfs_revision.specs.declared.book.BookFault.{BookFault}
use Rattle.fsfs_revision.specs.declared.book.BookFault.TheVariants.{Refused, Short, DiskFault, OutOfMemory}
use Rattle.fsfs_revision.specs.Told.{Gives}
use Rattle.fsfs_layout.specs.declared.layout.Layout.{Layout}
use Rattle.fsfs_layout.specs.Layouts.{shard_size, shard_of}
use Rattle.fsfs_fetch.specs.declared.manifests.KeptManifest.{KeptManifest}
use Rattle.fsfs_revision.specs.RevBytes.{manifest_of, manifest_in, manifest_file}
use Rattle.fsfs_fetch.specs.Views.{View}
use Rattle.fsfs_fetch.specs.Answers.{Stays, refused}
use Rattle.fsfs_fetch.specs.Kept.{IsPackedAt, fits, are_offsets, keeps_shard, kept_offsets}

-- the manifest and the pack of a packed revision stay
pub manifest_stays : {B : Type 0} (view : View B) (kept : Option KeptManifest) (rev : ℕ) (m : Files) (shard : ℕ) → IsPackedAt view kept rev m → shard_of view.layout rev ≡ shard → Stays view (small_name (Manifest shard)) (manifest_file m shard)
manifest_stays view kept rev m shard p e =
    let P : ℕ → Type 0 = λ k. Stays view (small_name (Manifest k)) (manifest_file m k) in
    subst P e (record { now = m; told = p.told; later = λ new f. f.manifest rev p.packed })

pub refused_ok : {X : Type 0} (r : Result X SmallFault) (x : X) → refused r ≡ Ok x → r ≡ Ok x
refused_ok (Ok y) x e = let same : y ≡ x = cc in ap (λ z. Ok z) same
refused_ok (Err f) x e = cc

pub same_offsets : (offsets : List ℕ) (r : Result (List ℕ) SmallFault) → r ≡ Ok offsets → are_offsets offsets r ≡ true
same_offsets offsets r e = ap (are_offsets offsets) e ∙ nat_list_eq_equiv.refl offsets

if_other : (b test : Bool) → (b ≡ true → test ≡ true) → cond b test true ≡ true
if_other true test f = f refl
if_other false test f = refl

-- a manifest that was read serves its shard
pub read_serves : (n : Layout) (m : Files) (rev shard : ℕ) (offsets : List ℕ) → (shard_of n rev ≡ shard → manifest_in n m shard ≡ Ok offsets) → cond (shard == shard_of n rev) (are_offsets offsets (manifest_in n m (shard_of n rev))) true ≡ true
read_serves n m rev shard offsets read =
    if_other (shard == shard_of n rev) (are_offsets offsets (manifest_in n m (shard_of n rev)))
    (λ e. let same : shard_of n rev ≡ shard = sym (eqb-true shard (shard_of n rev) e) in
    let Q : ℕ → Type 0 = λ k. manifest_in n m k ≡ Ok offsets in
    same_offsets offsets (manifest_in n m (shard_of n rev)) (subst Q (sym same) (read same)))

-- ---- the first bytes of a manifest

-- the first bytes of a file, or of nothing
pub first_or : (most : ℕ) (file : Option (List ℕ)) → unwrap_or (first_of most file) [] ≡ take most (unwrap_or file [])
first_or most None = sym (take_all most [] (omega arith))
first_or most (Some bytes) = refl

line_short : (n : ℕ) → n ≤ 18446744073709551615 → length (offset_line n) ≤ 21
line_short n fits = omega (arith, length-decimal-le 20 n (omega arith) (omega (arith, fits)) (omega (arith, fits)), length-append (decimal n) (10 ∷ []))

lines_short : (offsets : List ℕ) → AllByRecursion (λ n. n ≤ 18446744073709551615) offsets → length (flat_map offset_line offsets) ≤ length offsets * 21
lines_short [] fit = omega arith
lines_short (n ∷ ns) fit = omega (arith, line_short n fit.0, lines_short ns fit.1, length-append (offset_line n) (flat_map offset_line ns))

-- a manifest has no more bytes than its lines may have
manifest_short : (shard_size : ℕ) → IsShorter (shard_size * 21 + 1) (IsManifest shard_size)
manifest_short shard_size text offsets w = omega (arith, ap length w.lines, lines_short offsets w.fit, w.count)

-- what the first bytes say, the whole file says
pub manifest_told : (n m : Layout) (shard : ℕ) (bytes text file offsets : List ℕ) → n ≡ m → bytes ≡ text → text ≡ take ((shard_size n) * 21 + 1) file → IsManifest (shard_size n) bytes offsets
    → refused (manifest_of m shard file) ≡ Ok offsets
manifest_told n m shard bytes text file offsets e f h w =
    let first : IsManifest (shard_size n) (take ((shard_size n) * 21 + 1) file) offsets = subst (λ (t : List ℕ). IsManifest (shard_size n) t offsets) (f ∙ h) w in
    let is = text_of_first (IsManifest (shard_size n)) ((shard_size n) * 21 + 1) file offsets (manifest_short (shard_size n)) first in
    ap refused ((λ i. manifest_of (sym e i) shard file) ∙ manifest_ok n shard file offsets is)

pub manifest_fault : (n m : Layout) (shard : ℕ) (bytes text file : List ℕ) (fault : SmallFault) → n ≡ m → bytes ≡ text → text ≡ take ((shard_size n) * 21 + 1) file
    → IsFaultOf (Manifest shard) (IsManifest (shard_size n)) bytes fault → ((offsets : List ℕ) → IsManifest (shard_size n) bytes offsets → ⊥)
    → refused (manifest_of m shard file) ≡ Err (Refused (Small fault))
manifest_fault n m shard bytes text file fault e f h w none =
    let most : ℕ = (shard_size n) * 21 + 1 in
    let G : List ℕ → List ℕ → Type 0 = IsManifest (shard_size n) in
    let same : bytes ≡ take most file = f ∙ h in
    let at : IsFaultAt G (take most file) fault.at = subst (λ (t : List ℕ). IsFaultAt G t fault.at) same w.place in
    let of : IsFaultOf (Manifest shard) G file fault = record { names = w.names; place = fault_of_first G most file fault.at (manifest_short (shard_size n)) at } in
    let none_whole : (offsets : List ℕ) → G file offsets → ⊥ = (λ offsets g. none offsets (subst (λ (t : List ℕ). G t offsets) (sym same) (first_of_text G most file offsets (manifest_short (shard_size n)) g))) in
    ap refused ((λ i. manifest_of (sym e i) shard file) ∙ manifest_err n shard file fault of none_whole)

-- a failure tells the same whatever was wanted
pub gives_any : {X Y Z : Type 0} (view : X → Z) (other : Y → Z) (e : BookFault) (read : Result Z BookFault) → Gives view (Err e) read → Gives other (Err e) read
gives_any view other DiskFault read h = tt
gives_any view other OutOfMemory read h = tt
gives_any view other (Refused r) read h = h
gives_any view other (Short r o) read h = h
