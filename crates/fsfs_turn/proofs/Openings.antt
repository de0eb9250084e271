-- A store whose files stand for a history is known as it is opened.
use Rattle.std.proofs.Common.{◌≡◌, ◌⊎◌, ◌==◌, ◌<◌, ◌≤◌, ◌+◌, ◌-◌, ◌*◌, ◌/◌, ◌%◌, ℕ, suc, zero, List, [], ◌∷◌, ◌++◌, length, Bool, true, false, cond, inl, inr, ⊎_elim, refl, sym, ap, subst, ◌∙◌, arith, take, drop, mul-le-mul_right, suc-mul}
use Rattle.std.proofs.lemmas.Bool.{eq-eqb, both_ways}
use Rattle.std.proofs.lemmas.List.{take_all, length-take, length-drop, length-map}
use Rattle.std.proofs.lemmas.Nat.{div-add-mod', div-mul-add, mod-mul-add, div_below, mod_below}
use Rattle.std.proofs.lemmas.Option.{slice_get_within}
use Rattle.std.specs.Prelude.{Option, Some, None, Result, Ok, Err, unwrap_or, slice_get, nat_lt, min, if◌then◌else◌}
use Rattle.std.specs.Fmt.{decimal}
use Rattle.std.specs.List.{flat_map}
use Rattle.std.specs.Cmp.Lexicographic.{nat_list_eq_equiv}
use Rattle.std.specs.FinMap.{get}
use Rattle.fsfs_base.specs.Grammar.Numeral.{IsNumber}
use Rattle.fsfs_base.specs.Files.{Files}
use Rattle.fsfs_tree.specs.Dated.{last_of}
use Rattle.fsfs_tree.specs.Revisions.{Revision}
use Rattle.fsfs_layout.specs.Hash.Dump.{IsDump}
use Rattle.fsfs_layout.specs.FileNames.{only_name}
use Rattle.fsfs_layout.specs.Opening.{text_at}
use Rattle.fsfs_layout.specs.Small.{IsMinUnpackedRevIn, IsMinUnpackedRev}
use Rattle.fsfs_layout.specs.declared.format.Format.{Format}
use Rattle.fsfs_layout.specs.declared.format.Format.TheVariants.{Four}
use Rattle.fsfs_layout.specs.declared.layout.Layout.{Layout}
use Rattle.fsfs_layout.specs.declared.only_file.OnlyFile.TheVariants as only
use Rattle.fsfs_base.specs.declared.small_fault.SmallFault.{SmallFault}
use Rattle.fsfs_base.specs.declared.small_fault.SmallFile.TheVariants as small
use Rattle.fsfs_layout.specs.Layouts.{shard_size, shard_of, place_in_shard}
use Rattle.fsfs_layout.specs.Manifest.{offset_line, IsManifest}
use Rattle.fsfs_layout.proofs.Manifests.{size_some}
use Rattle.fsfs_revision.specs.declared.wrong.Refusal.{Refusal}
use Rattle.fsfs_revision.proofs.GrammarLemmas.{manifests_by_grammar}
use Rattle.fsfs_revision.specs.Told.{RevisionBytes}
use Rattle.fsfs_revision.specs.RevBytes.{text_in, floor_in, manifest_in, pack_in, section_at, section_of, cut, cut_from, packed_bytes, or_missing, by_floor, rev_file, rev_bytes, props_bytes}
use Rattle.fsfs_revision.proofs.FloorLemmas.{floor_is}
use Rattle.fsfs_revision.specs.Ancestry.Bounded.{AreSameUpTo}
use Rattle.fsfs_revision.proofs.BoundedIds.{ids_same}
use Rattle.fsfs_stands.specs.Changes.{AreChangesOf}
use Rattle.fsfs_stands.specs.History.{ShowsRevision}
use Rattle.fsfs_stands.specs.Files.{StandsFor}
use Rattle.fsfs_stands.proofs.Histories.{stood_for_history}
use Rattle.fsfs_stands.proofs.Seen.{revision_same}
use Rattle.fsfs_tree.specs.Histories.{IsHistory}
use Rattle.fsfs_disk.specs.Labels.{Label}
use Rattle.fsfs_disk.specs.Trace.{Trace, Operation, Done, files_after, ImageSince}
use Rattle.fsfs_disk.specs.Trace as real
use Rattle.fsfs_machine.specs.declared.contents.FileName.{FileName}
use Rattle.fsfs_machine.specs.declared.contents.FileName.TheVariants.{Current, Counter, Floor, Rev, Props, Pack, Manifest}
use Rattle.fsfs_machine.specs.declared.contents.Contents.{Contents}
use Rattle.fsfs_machine.specs.declared.contents.Contents.TheVariants.{PropsFile, Number, PackFile, ManifestFile, Junk}
use Rattle.fsfs_machine.specs.declared.contents.Part.{Part}
use Rattle.fsfs_machine.specs.declared.contents.NameChange.TheVariants.{Put, Firm}
use Rattle.fsfs_machine.specs.declared.machine.Lock.TheVariants.{Free}
use Rattle.fsfs_machine.specs.declared.machine.Recorded.{Recorded}
use Rattle.fsfs_machine.specs.Disk.{Disk, found, is_gone, same_name, as_file, part_in, packed, IsImage}
use Rattle.fsfs_machine.specs.Machine.{World, file_of, first_pass, revisions, part_of, parts_from}
use Rattle.fsfs_machine.specs.Kept.{Kept, HasFiles, StandsFor as MachineStands, FloorIs, AreLeft, CountsOn, AllBelow, AreGivenOnce}
use Rattle.fsfs_machine.proofs.Growing.{revisions_length}
use Rattle.fsfs_machine.proofs.Images.{each_firm}
use Rattle.fsfs_machine.proofs.Standing.{shard_part, part_of_shard, left_is}
use Rattle.fsfs_images.specs.RealNames.{machine_name}
use Rattle.fsfs_images.specs.Shown.{Fits, IsCut, AtName, AreRead, Opening}
use Rattle.fsfs_images.proofs.RealNaming.{same_is}
use Rattle.fsfs_images.proofs.Showing.{image_read}
use Rattle.fsfs_turn.specs.Bytes.{bytes_beside, bytes_of, ShowsOne, BytesShow, AllShow}
use Rattle.fsfs_turn.specs.Alone.{KnowsAlone}
use Rattle.fsfs_turn.specs.Views.{View, Sees}
use Rattle.fsfs_turn.specs.Standing.{no_others, IsStore}
use Rattle.fsfs_turn.specs.Opening.{StoreIsKnown, given_before, opened_at}
use Rattle.fsfs_turn.specs.Past.{IsWhole, Safe}
use Rattle.fsfs_turn.proofs.Beginning.{at_none, put_keeps, ok_is}
use Rattle.fsfs_turn.proofs.FirstParts.{ids_lower}
use Rattle.fsfs_turn.proofs.Moments.{stood_for}
use Rattle.fsfs_turn.proofs.OwnFiles.{own_from_opening}
use Rattle.fsfs_turn.proofs.SeenLemmas.{below_or_not}
use Rattle.fsfs_turn.proofs.Standings.{there_below, own_opened}
use Rattle.fsfs_turn.proofs.Stepping.{kept_bare, get_taken}

-- ---- a history with the bytes beside it

abbrev bytes_in : Result (List ℕ) Refusal → List ℕ
bytes_in (Ok bytes) = bytes
bytes_in (Err refusal) = []

abbrev with_bytes : RevisionBytes → List Revision → List Recorded
with_bytes look [] = []
with_bytes look (x ∷ xs) = record { revision = x; bytes = bytes_in (look 0) } ∷ with_bytes (λ r. look (suc r)) xs

revisions_with : (look : RevisionBytes) (xs : List Revision) → revisions (with_bytes look xs) ≡ xs
revisions_with look [] = refl
revisions_with look (x ∷ xs) = ap (λ l. x ∷ l) (revisions_with (λ r. look (suc r)) xs)

record IsAt (look : RevisionBytes) (r : ℕ) (xs : List Revision) (x : Recorded) : Type 0 where
  pub revision_is : slice_get xs r ≡ Some x.revision
  pub bytes_are : x.bytes ≡ bytes_in (look r)

at_with : (look : RevisionBytes) (r : ℕ) (xs : List Revision) (x : Recorded) → slice_get (with_bytes look xs) r ≡ Some x → IsAt look r xs x
at_with look r [] x e = let f : None ≡ Some x = e in absurd cc
at_with look zero (y ∷ ys) x e =
    let same : record { revision = y; bytes = bytes_in (look 0) } ≡ x = some_is (record { revision = y; bytes = bytes_in (look 0) }) x e in
    record { revision_is = ap {A = Recorded} (λ z. Some z.revision) same; bytes_are = sym (ap {A = Recorded} (λ z. z.bytes) same) }
  where
    some_is : (a b : Recorded) → Some a ≡ Some b → a ≡ b
    some_is a b e = cc
at_with look (suc r) (y ∷ ys) x e = let i = at_with (λ r. look (suc r)) r ys x e in record { revision_is = i.revision_is; bytes_are = i.bytes_are }

-- ---- a disk of files that have what their names say

abbrev disk_of : (FileName → Contents) → List FileName → Disk
disk_of content [] = []
disk_of content (n ∷ ns) = Put n (content n) ∷ disk_of content ns

abbrev is_listed : FileName → List FileName → Bool
is_listed q [] = false
is_listed q (n ∷ ns) = if same_name n q then true else is_listed q ns

found_listed : (content : FileName → Contents) (ns : List FileName) (q : FileName) → found (disk_of content ns) q ≡ (if is_listed q ns then Some (content q) else None)
found_listed content [] q = refl
found_listed content (n ∷ ns) q = elim (same_name n q) as (λ b. same_name n q ≡ b → cond b (Some (content n)) (found (disk_of content ns) q) ≡ (if (if b then true else is_listed q ns) then Some (content q) else None)) [
  | true ↦ λ e. ap (λ z. Some (content z)) (same_is n q e)
  | false ↦ λ e. found_listed content ns q
] refl

listed_found : (content : FileName → Contents) (ns : List FileName) (q : FileName) → is_listed q ns ≡ true → found (disk_of content ns) q ≡ Some (content q)
listed_found content ns q e = found_listed content ns q ∙ ap (λ b. cond b (Some (content q)) None) e

none_gone : (content : FileName → Contents) (ns : List FileName) (q : FileName) → is_gone (disk_of content ns) q ≡ false
none_gone content [] q = refl
none_gone content (n ∷ ns) q = put_keeps n (content n) (disk_of content ns) q (none_gone content ns q)

read_listed : (layout : Layout) (m : Files) (content : FileName → Contents) (ns : List FileName)
    → ((q : FileName) → Fits q → is_listed q ns ≡ true → AtName layout q (get m (machine_name layout q)) (Some (content q))) → AreRead layout m (disk_of content ns)
read_listed layout m content ns right = record {
  read = λ q fits. subst (λ o. AtName layout q (get m (machine_name layout q)) o) (sym (found_listed content ns q))
      (elim (is_listed q ns) as (λ b. is_listed q ns ≡ b → AtName layout q (get m (machine_name layout q)) (if b then Some (content q) else None)) [
        | true ↦ λ e. right q fits e
        | false ↦ λ e. at_none layout q (get m (machine_name layout q))
      ] refl);
  gone = λ q fits gone. absurd (both_ways (is_gone (disk_of content ns) q) (none_gone content ns q) gone);
}

-- ---- the names of a store's files

-- a number up to another is below it or the same
below_or : (r n : ℕ) → r < suc n → (r < n) ⊎ (r ≡ n)
below_or zero zero less = inr refl
below_or zero (suc n) less = inl (omega arith)
below_or (suc r) zero less = absurd (omega (arith, less))
below_or (suc r) (suc n) less = ⊎_elim (λ l. inl (omega (arith, l))) (λ e. inr (ap (λ k. suc k) e)) (below_or r n (omega (arith, less)))

to_floor : (r f : ℕ) → nat_lt r f ≡ true → r < f
to_floor r f below = ⊎_elim (λ less. less) (λ le. let above : nat_lt r f ≡ false = grind (arith, le) in absurd (both_ways (nat_lt r f) above below)) (below_or_not r f)

-- what isn't below a floor is at it or above
from_floor : (r f : ℕ) → nat_lt r f ≡ false → f ≤ r
from_floor r f above = ⊎_elim (λ less. let below : nat_lt r f ≡ true = grind (arith, less) in absurd (both_ways (nat_lt r f) above below)) (λ le. le) (below_or_not r f)

-- the own files of so many revisions from the floor on
abbrev own_names : ℕ → ℕ → List FileName
own_names f zero = []
own_names f (suc n) = Rev (f + n) ∷ own_names f n

abbrev props_names : ℕ → List FileName
props_names zero = []
props_names (suc n) = Props n ∷ props_names n

abbrev pack_names : ℕ → List FileName
pack_names zero = []
pack_names (suc n) = Pack n ∷ Manifest n ∷ pack_names n

abbrev store_names : ℕ → ℕ → ℕ → List FileName
store_names f n packs = Current ∷ Counter ∷ Floor ∷ own_names f (n - f) ++ (props_names n ++ pack_names packs)

listed_either : (a b : List FileName) (q : FileName) → is_listed q (a ++ b) ≡ true → (is_listed q a ≡ true) ⊎ (is_listed q b ≡ true)
listed_either [] b q e = inr e
listed_either (n ∷ a) b q e = elim (same_name n q) as (λ c. cond c true (is_listed q (a ++ b)) ≡ true → (cond c true (is_listed q a) ≡ true) ⊎ (is_listed q b ≡ true)) [
  | true ↦ λ e. inl refl
  | false ↦ λ e. listed_either a b q e
] e

listed_left : (a b : List FileName) (q : FileName) → is_listed q a ≡ true → is_listed q (a ++ b) ≡ true
listed_left [] b q e = absurd cc
listed_left (n ∷ a) b q e = elim (same_name n q) as (λ c. cond c true (is_listed q a) ≡ true → cond c true (is_listed q (a ++ b)) ≡ true) [
  | true ↦ λ e. refl
  | false ↦ λ e. listed_left a b q e
] e

listed_right : (a b : List FileName) (q : FileName) → is_listed q b ≡ true → is_listed q (a ++ b) ≡ true
listed_right [] b q e = e
listed_right (n ∷ a) b q e = elim (same_name n q) as (λ c. cond c true (is_listed q (a ++ b)) ≡ true) [
  | true ↦ refl
  | false ↦ listed_right a b q e
]

-- a number on the way down is met
below_other : (n r : ℕ) → r < suc n → (n == r) ≡ false → r < n
below_other n r less other = let apart : n ≡ r → ⊥ = (λ e. both_ways (n == r) other (eq-eqb n r e)) in ⊎_elim (λ l. l) (λ e. absurd (apart (sym e))) (below_or r n less)

own_listed : (f n r : ℕ) → f ≤ r → r < f + n → is_listed (Rev r) (own_names f n) ≡ true
own_listed f zero r le less = absurd (omega (arith, le, less))
own_listed f (suc n) r le less = elim (f + n == r) as (λ b. (f + n == r) ≡ b → cond b true (is_listed (Rev r) (own_names f n)) ≡ true) [
  | true ↦ λ e. refl
  | false ↦ λ e. own_listed f n r le (below_other (f + n) r (omega (arith, less)) e)
] refl

props_listed : (n r : ℕ) → r < n → is_listed (Props r) (props_names n) ≡ true
props_listed zero r less = absurd (omega (arith, less))
props_listed (suc n) r less = elim (n == r) as (λ b. (n == r) ≡ b → cond b true (is_listed (Props r) (props_names n)) ≡ true) [
  | true ↦ λ e. refl
  | false ↦ λ e. props_listed n r (below_other n r less e)
] refl

pack_listed : (n k : ℕ) → k < n → is_listed (Pack k) (pack_names n) ≡ true
pack_listed zero k less = absurd (omega (arith, less))
pack_listed (suc n) k less = elim (n == k) as (λ b. (n == k) ≡ b → cond b true (is_listed (Pack k) (pack_names n)) ≡ true) [
  | true ↦ λ e. refl
  | false ↦ λ e. pack_listed n k (below_other n k less e)
] refl

manifest_listed : (n k : ℕ) → k < n → is_listed (Manifest k) (pack_names n) ≡ true
manifest_listed zero k less = absurd (omega (arith, less))
manifest_listed (suc n) k less = elim (n == k) as (λ b. (n == k) ≡ b → cond b true (is_listed (Manifest k) (pack_names n)) ≡ true) [
  | true ↦ λ e. refl
  | false ↦ λ e. manifest_listed n k (below_other n k less e)
] refl

-- and nothing else is
own_only : (f n : ℕ) (q : FileName) → is_listed q (own_names f n) ≡ true → (r : ℕ) × (q ≡ Rev r) × (f ≤ r) × (r < f + n)
own_only f zero q e = absurd cc
own_only f (suc n) q e = elim (same_name (Rev (f + n)) q) as (λ b. same_name (Rev (f + n)) q ≡ b → cond b true (is_listed q (own_names f n)) ≡ true → (r : ℕ) × (q ≡ Rev r) × (f ≤ r) × (r < f + suc n)) [
  | true ↦ λ same e. (f + n, sym (same_is (Rev (f + n)) q same), omega arith, omega arith)
  | false ↦ λ same e. let more = own_only f n q e in (more.0, more.1, more.2, omega (arith, more.3))
] refl e

props_only : (n : ℕ) (q : FileName) → is_listed q (props_names n) ≡ true → (r : ℕ) × (q ≡ Props r) × (r < n)
props_only zero q e = absurd cc
props_only (suc n) q e = elim (same_name (Props n) q) as (λ b. same_name (Props n) q ≡ b → cond b true (is_listed q (props_names n)) ≡ true → (r : ℕ) × (q ≡ Props r) × (r < suc n)) [
  | true ↦ λ same e. (n, sym (same_is (Props n) q same), omega arith)
  | false ↦ λ same e. let more = props_only n q e in (more.0, more.1, omega (arith, more.2))
] refl e

packs_only : (n : ℕ) (q : FileName) → is_listed q (pack_names n) ≡ true → (k : ℕ) × ((q ≡ Pack k) ⊎ (q ≡ Manifest k)) × (k < n)
packs_only zero q e = absurd cc
packs_only (suc n) q e = elim (same_name (Pack n) q) as (λ b. same_name (Pack n) q ≡ b → cond b true (cond (same_name (Manifest n) q) true (is_listed q (pack_names n))) ≡ true → (k : ℕ) × ((q ≡ Pack k) ⊎ (q ≡ Manifest k)) × (k < suc n)) [
  | true ↦ λ same e. (n, inl (sym (same_is (Pack n) q same)), omega arith)
  | false ↦ λ other e. elim (same_name (Manifest n) q) as (λ b. same_name (Manifest n) q ≡ b → cond b true (is_listed q (pack_names n)) ≡ true → (k : ℕ) × ((q ≡ Pack k) ⊎ (q ≡ Manifest k)) × (k < suc n)) [
    | true ↦ λ same e. (n, inr (sym (same_is (Manifest n) q same)), omega arith)
    | false ↦ λ same e. let more = packs_only n q e in (more.0, more.1, omega (arith, more.2))
  ] refl e
] refl e

-- one of them, by what it is
data IsNamed (f n packs : ℕ) : FileName → Type 0 where
  IsCurrent : IsNamed f n packs Current
  IsCounter : IsNamed f n packs Counter
  IsFloorFile : IsNamed f n packs Floor
  IsRev : (r : ℕ) → f ≤ r → r < n → IsNamed f n packs (Rev r)
  IsProps : (r : ℕ) → r < n → IsNamed f n packs (Props r)
  IsPack : (k : ℕ) → k < packs → IsNamed f n packs (Pack k)
  IsManifestFile : (k : ℕ) → k < packs → IsNamed f n packs (Manifest k)

named : (f n packs : ℕ) → f ≤ n → (q : FileName) → is_listed q (store_names f n packs) ≡ true → IsNamed f n packs q
named f n packs le q e =
    elim (same_name Current q) as (λ b. same_name Current q ≡ b → cond b true (cond (same_name Counter q) true (cond (same_name Floor q) true (is_listed q rest))) ≡ true → IsNamed f n packs q) [
      | true ↦ λ same e. subst (λ z. IsNamed f n packs z) (same_is Current q same) IsCurrent
      | false ↦ λ other e. elim (same_name Counter q) as (λ b. same_name Counter q ≡ b → cond b true (cond (same_name Floor q) true (is_listed q rest)) ≡ true → IsNamed f n packs q) [
        | true ↦ λ same e. subst (λ z. IsNamed f n packs z) (same_is Counter q same) IsCounter
        | false ↦ λ other e. elim (same_name Floor q) as (λ b. same_name Floor q ≡ b → cond b true (is_listed q rest) ≡ true → IsNamed f n packs q) [
          | true ↦ λ same e. subst (λ z. IsNamed f n packs z) (same_is Floor q same) IsFloorFile
          | false ↦ λ other e. of_rest e
        ] refl e
      ] refl e
    ] refl e
  where
    rest : List FileName
    rest = own_names f (n - f) ++ (props_names n ++ pack_names packs)

    of_rest : is_listed q (own_names f (n - f) ++ (props_names n ++ pack_names packs)) ≡ true → IsNamed f n packs q
    of_rest e = ⊎_elim
        (λ own. let r = own_only f (n - f) q own in subst (λ z. IsNamed f n packs z) (sym r.1) (IsRev r.0 r.2 (omega (arith, r.3, le))))
        (λ more. ⊎_elim
        (λ props. let r = props_only n q props in subst (λ z. IsNamed f n packs z) (sym r.1) (IsProps r.0 r.2))
        (λ pack. let k = packs_only packs q pack in ⊎_elim (λ i. subst (λ z. IsNamed f n packs z) (sym i) (IsPack k.0 k.2)) (λ i. subst (λ z. IsNamed f n packs z) (sym i) (IsManifestFile k.0 k.2)) k.1)
        (listed_either (props_names n) (pack_names packs) q more))
        (listed_either (own_names f (n - f)) (props_names n ++ pack_names packs) q e)

-- ---- real files

no_end : (digits : List ℕ) (end : ℕ) → [] ≡ digits ++ end ∷ [] → ⊥
no_end [] end e = cc
no_end (c ∷ digits) end e = cc

number_there : (base top end k : ℕ) (o : Option (List ℕ)) → IsNumber base top end (unwrap_or o []) k → (bytes : List ℕ) × (o ≡ Some bytes) × IsNumber base top end bytes k
number_there base top end k None i = absurd (no_end i.digits end i.parts)
number_there base top end k (Some bytes) i = (bytes, refl, i)

not_missing : (r : ℕ) (o : Option (List ℕ)) (bytes : List ℕ) → or_missing r o ≡ Ok bytes → o ≡ Some bytes
not_missing r None bytes e = absurd cc
not_missing r (Some b) bytes e = ap (λ (l : List ℕ). Some l) (ok_is (Ok b) b bytes refl e)

-- a manifest of some lines isn't empty
no_line : (a b : List ℕ) (c : ℕ) → [] ≡ (a ++ c ∷ []) ++ b → ⊥
no_line [] b c e = cc
no_line (x ∷ a) b c e = cc

no_lines : (offsets : List ℕ) → 0 < length offsets → [] ≡ flat_map offset_line offsets → ⊥
no_lines [] some e = absurd (omega (arith, some))
no_lines (n ∷ offsets) some e = no_line (decimal n) (flat_map offset_line offsets) 10 e

-- the bytes of a revision that isn't packed stand in its own file, those of one that is are cut from its shard's pack
record IsCutOut (layout : Layout) (m : Files) (r : ℕ) (bytes : List ℕ) : Type 0 where
  pub offsets : List ℕ
  pub offsets_are : manifest_in layout m (shard_of layout r) ≡ Ok offsets
  pub pack : List ℕ
  pub pack_is : pack_in m (shard_of layout r) ≡ Some pack
  pub cut_is : cut (section_at offsets (place_in_shard layout r) (length pack)) pack ≡ bytes

cut_out : (layout : Layout) (m : Files) (r : ℕ) (bytes : List ℕ) (offsets : Result (List ℕ) SmallFault) (pack : Option (List ℕ)) → manifest_in layout m (shard_of layout r) ≡ offsets → pack_in m (shard_of layout r) ≡ pack
    → cut_from pack (section_of r (place_in_shard layout r) offsets pack) ≡ Ok bytes → IsCutOut layout m r bytes
cut_out layout m r bytes (Err fault) pack offsets_are pack_is e = absurd cc
cut_out layout m r bytes (Ok offsets) None offsets_are pack_is e = absurd cc
cut_out layout m r bytes (Ok offsets) (Some pack) offsets_are pack_is e = record {
  offsets = offsets;
  offsets_are = offsets_are;
  pack = pack;
  pack_is = pack_is;
  cut_is = ok_is (Ok bytes) (cut (section_at offsets (place_in_shard layout r) (length pack)) pack) bytes (sym e) refl;
}

of_pack : (layout : Layout) (m : Files) (r : ℕ) (bytes : List ℕ) → packed_bytes layout m r ≡ Ok bytes → IsCutOut layout m r bytes
unfolding packed_bytes
of_pack layout m r bytes e = cut_out layout m r bytes (manifest_in layout m (shard_of layout r)) (pack_in m (shard_of layout r)) refl refl e

below_floor : (layout : Layout) (f : ℕ) (m : Files) (r : ℕ) (bytes : List ℕ) → floor_in layout m ≡ Ok f → r < f → rev_bytes layout m r ≡ Ok bytes → packed_bytes layout m r ≡ Ok bytes
unfolding rev_bytes
below_floor layout f m r bytes floor less e =
    let is : nat_lt r f ≡ true = grind (arith, less) in
    sym (ap (by_floor layout m r) floor ∙ ap (λ b. cond b (packed_bytes layout m r) (or_missing r (rev_file layout m r))) is) ∙ e

above_floor : (layout : Layout) (f : ℕ) (m : Files) (r : ℕ) (bytes : List ℕ) → floor_in layout m ≡ Ok f → f ≤ r → rev_bytes layout m r ≡ Ok bytes → rev_file layout m r ≡ Some bytes
unfolding rev_bytes
above_floor layout f m r bytes floor le e =
    let is : nat_lt r f ≡ false = grind (arith, le) in
    not_missing r (rev_file layout m r) bytes (sym (ap (by_floor layout m r) floor ∙ ap (λ b. cond b (packed_bytes layout m r) (or_missing r (rev_file layout m r))) is) ∙ e)

offsets_in : Result (List ℕ) SmallFault → List ℕ
offsets_in (Ok offsets) = offsets
offsets_in (Err fault) = []

-- what a revision's files have
rev_content : Option Recorded → Contents
rev_content None = Junk
rev_content (Some x) = file_of x

props_content : Option Recorded → Contents
props_content None = Junk
props_content (Some x) = PropsFile x.revision.properties

all_below : (n : ℕ) → AllBelow n (given_before n)
all_below zero = tt
all_below (suc n) = (omega arith, tt)

given_once : (n : ℕ) → AreGivenOnce (given_before n)
given_once zero = tt
given_once (suc n) = (tt, tt)

module _ (first : Files) (labels : List Label) (before : List Operation) (h : List Revision) (s : StandsFor (files_after first before) h) where
  abbrev layout : Layout
  layout = s.opened.layout

  abbrev m : Files
  m = files_after first before

  abbrev look : RevisionBytes
  look = rev_bytes s.opened.layout (files_after first before)

  abbrev g : List Recorded
  g = with_bytes look h

  revisions_are : revisions g ≡ h
  revisions_are = revisions_with look h

  long : length g ≡ length h
  long = sym (revisions_length g) ∙ ap length revisions_are

  some : 0 < length g
  some = let c = s.count in omega (arith, long, c)

  abbrev f : ℕ
  f = s.opened.min_unpacked_rev

  floor_text : IsMinUnpackedRev layout (text_at m (only_name only.MinUnpackedRev)) f
  floor_text = s.small.behind.min_unpacked_rev

  floor : floor_in layout m ≡ Ok f
  floor = floor_is layout f m floor_text

  floor_parts : IsMinUnpackedRevIn Four layout (text_at m (only_name only.MinUnpackedRev)) f
  floor_parts = subst (λ (k : Format). IsMinUnpackedRevIn k layout (text_at m (only_name only.MinUnpackedRev)) f) s.small.packs.format floor_text

  whole : IsWhole layout f
  whole = record { packs = s.small.packs; place = floor_parts.1 }

  shows : (r : ℕ) (x : Recorded) → slice_get g r ≡ Some x → ShowsRevision look (props_bytes layout m) r x.revision
  shows r x at = s.history.each r x.revision (at_with look r h x at).revision_is

  look_is : (r : ℕ) (x : Recorded) → slice_get g r ≡ Some x → look r ≡ Ok x.bytes
  look_is r x at =
      let w = shows r x at in
      w.bytes_are ∙ ap (λ (b : List ℕ). Ok b) (sym ((at_with look r h x at).bytes_are ∙ ap bytes_in w.bytes_are))

  props_there : (r : ℕ) (x : Recorded) → slice_get g r ≡ Some x → (text : List ℕ) × (get m (machine_name layout (Props r)) ≡ Some text) × IsDump text x.revision.properties
  props_there r x at =
      let w = shows r x at in
      (w.file, not_missing r (get m (machine_name layout (Props r))) w.file w.file_is, w.properties)

  -- ---- the bytes show each first part

  module _ (n : ℕ) (part_some : 0 < n) where
    abbrev k : List Recorded
    k = take n g

    same_up : (r : ℕ) → r < length k → AreSameUpTo r look (bytes_of k)
    same_up r less q le =
        let y = there_below k q (omega (arith, less, le)) in
        look_is q y.0 (get_taken n q g y.0 y.1) ∙ sym (ap (λ o. bytes_beside q o) y.1)

    one : (r : ℕ) (x : Recorded) → slice_get k r ≡ Some x → ShowsOne (bytes_of k) r x
    one r x at =
        let here = get_taken n r g x at in
        let w = revision_same r look (bytes_of k) (same_up r (slice_get_within k r x at)) (props_bytes layout m) (props_bytes layout m) x.revision refl (shows r x here) in
        let bytes : w.bytes ≡ x.bytes = ok_is (bytes_of k r) w.bytes x.bytes w.bytes_are (ap (λ o. bytes_beside r o) at) in
        record { tree = w.tree; changes = subst (λ b. AreChangesOf (bytes_of k) r b x.revision.changes) bytes w.changes; dated = w.dated }

    part_long : length (revisions k) ≡ length k
    part_long = revisions_length k

    part_within : (0 < length k) × (length k ≤ length h)
    part_within = (omega (arith, length-take n g, part_some, some), omega (arith, length-take n g, long))

    part_shows : BytesShow k
    part_shows = record {
      each = one;
      ids = ids_same (last_of (revisions k)) look (bytes_of k) (same_up (last_of (revisions k)) (omega (arith, part_long, part_within.0)))
          (ids_lower look (last_of (revisions k)) (last_of h) (omega (arith, part_long, part_within.1)) s.history.ids);
    }

  all_show : AllShow g
  all_show n part_some = part_shows n part_some

  -- ---- the files are those of the machine

  abbrev size : ℕ
  size = shard_size layout

  abbrev shards : ℕ
  shards = f / size

  -- the floor is that of whole shards
  whole_shards : f ≡ shards * size
  whole_shards = let split : f / size * size + f % size ≡ f = div-add-mod' f size in let zero_is : f % size ≡ 0 = whole.place in omega (arith, split, zero_is)

  within_all : f ≤ length g
  within_all = let c = s.count in omega (arith, long, c, s.small.behind.within)

  abbrev offsets_of : ℕ → List ℕ
  offsets_of k = offsets_in (manifest_in layout m k)

  content : FileName → Contents
  content Current = Number s.opened.youngest
  content Counter = Number s.opened.next_txn.number
  content Floor = Number f
  content (Rev r) = rev_content (slice_get g r)
  content (Props r) = props_content (slice_get g r)
  content (Pack k) = PackFile (offsets_of k) (parts_from size (k * size) g)
  content (Manifest k) = ManifestFile (offsets_of k)
  content q = Junk

  names : List FileName
  names = store_names f (length g) shards

  abbrev disk : Disk
  disk = disk_of content names

  -- ---- a packed shard

  module _ (k : ℕ) (below : k < shards) where
    room : k * size + size ≤ f
    room =
        let next : suc k ≤ shards = omega (arith, below) in
        let up : suc k * size ≤ shards * size = mul-le-mul_right size next in
        let sum : suc k * size ≡ k * size + size = suc-mul k size in
        omega (arith, up, sum, whole_shards)

    shard_at : (i : ℕ) → i < size → shard_of layout (k * size + i) ≡ k
    shard_at i less = div-mul-add k size i less

    place_at : (i : ℕ) → i < size → place_in_shard layout (k * size + i) ≡ i
    place_at i less = mod-mul-add k size i less

    cut_at : (i : ℕ) (x : Recorded) → i < size → slice_get g (k * size + i) ≡ Some x → IsCutOut layout m (k * size + i) x.bytes
    cut_at i x less at = of_pack layout m (k * size + i) x.bytes (below_floor layout f m (k * size + i) x.bytes floor (omega (arith, less, room)) (look_is (k * size + i) x at))

    -- its first revision
    first_in : (x : Recorded) × (slice_get g (k * size + 0) ≡ Some x)
    first_in = there_below g (k * size + 0) (let some_size = size_some layout in omega (arith, room, within_all, some_size))

    first_cut : IsCutOut layout m (k * size + 0) first_in.0.bytes
    first_cut = cut_at 0 first_in.0 (size_some layout) first_in.1

    offsets_are : manifest_in layout m k ≡ Ok (offsets_of k)
    unfolding first_cut offsets_in
    offsets_are =
        let said : manifest_in layout m k ≡ Ok first_cut.offsets = ap (λ n. manifest_in layout m n) (sym (shard_at 0 (size_some layout))) ∙ first_cut.offsets_are in
        said ∙ ap (λ (l : List ℕ). Ok l) (sym (ap offsets_in said))

    manifest : IsManifest size (text_in m (small.Manifest k)) (offsets_of k)
    manifest = ((manifests_by_grammar layout m k).said (offsets_of k)).0 offsets_are

    pack_there : get m (machine_name layout (Pack k)) ≡ Some first_cut.pack
    pack_there = ap (λ n. pack_in m n) (sym (shard_at 0 (size_some layout))) ∙ first_cut.pack_is

    is_cut : IsCut (offsets_of k) first_cut.pack (parts_from size (k * size) g)
    is_cut = record {
      many = many;
      each = λ i y at. each i y (part_of_shard size (k * size) i g y at);
    }
      where
        many : length (parts_from size (k * size) g) ≡ length (offsets_of k)
        many = length-map (take size (drop (k * size) g)) part_of ∙ let a : length (take size (drop (k * size) g)) ≡ min size (length (drop (k * size) g)) = length-take size (drop (k * size) g) in let b : length (drop (k * size) g) ≡ length g - k * size = length-drop (k * size) g in omega (arith, a, b, room, within_all, manifest.count)

        some_of : (a b : List ℕ) → Some a ≡ Some b → a ≡ b
        some_of a b e = cc

        each : (i : ℕ) (y : Part) → (x : Recorded) × (slice_get g (k * size + i) ≡ Some x) × (part_of x ≡ y) × (i < size) → cut (section_at (offsets_of k) i (length first_cut.pack)) first_cut.pack ≡ y.bytes
        each i y x =
            let c = cut_at i x.0 x.3 x.1 in
            let offsets : c.offsets ≡ offsets_of k = ok_is (manifest_in layout m k) c.offsets (offsets_of k) (ap (λ n. manifest_in layout m n) (sym (shard_at i x.3)) ∙ c.offsets_are) offsets_are in
            let pack : c.pack ≡ first_cut.pack = some_of c.pack first_cut.pack (sym (ap (λ n. pack_in m n) (sym (shard_at i x.3)) ∙ c.pack_is) ∙ pack_there) in
            sym (ap (λ (l : List ℕ). cut (section_at l i (length first_cut.pack)) first_cut.pack) offsets)
            ∙ sym (ap (λ (b : List ℕ). cut (section_at c.offsets i (length b)) b) pack)
            ∙ sym (ap (λ n. cut (section_at c.offsets n (length c.pack)) c.pack) (place_at i x.3))
            ∙ c.cut_is ∙ ap (λ (z : Part). z.bytes) x.2

    manifest_there : (text : List ℕ) × (get m (machine_name layout (Manifest k)) ≡ Some text) × IsManifest size text (offsets_of k)
    manifest_there = by_file (get m (machine_name layout (Manifest k))) refl
      where
        by_file : (o : Option (List ℕ)) → get m (machine_name layout (Manifest k)) ≡ o → (text : List ℕ) × (get m (machine_name layout (Manifest k)) ≡ Some text) × IsManifest size text (offsets_of k)
        by_file (Some text) e = (text, e, subst (λ (o : Option (List ℕ)). IsManifest size (unwrap_or o []) (offsets_of k)) e manifest)
        by_file None e = absurd (no_lines (offsets_of k) (let some_size = size_some layout in omega (arith, manifest.count, some_size)) (sym (sym manifest.lines ∙ ap (λ (o : Option (List ℕ)). unwrap_or o []) e)))

  -- what each name has is what stands there
  right : (q : FileName) → Fits q → IsNamed f (length g) shards q → AtName layout q (get m (machine_name layout q)) (Some (content q))
  unfolding content rev_content props_content
  right _ fits IsCurrent =
      let t = number_there 10 2147483647 10 s.opened.youngest (get m (only_name only.Current)) s.small.behind.youngest in
      subst (λ o. AtName layout Current o (Some (Number s.opened.youngest))) (sym t.1) t.2
  right _ fits IsCounter =
      let t = number_there 36 170581728179578208255 10 s.opened.next_txn.number (get m (only_name only.TxnCurrent)) s.small.behind.next_txn in
      subst (λ o. AtName layout Counter o (Some (Number s.opened.next_txn.number))) (sym t.1) t.2
  right _ fits IsFloorFile =
      let t = number_there 10 2147483647 10 f (get m (only_name only.MinUnpackedRev)) floor_parts.0 in
      subst (λ o. AtName layout Floor o (Some (Number f))) (sym t.1) t.2
  right _ fits (IsRev r le less) =
      let x = there_below g r less in
      let bytes : get m (machine_name layout (Rev r)) ≡ Some x.0.bytes = above_floor layout f m r x.0.bytes floor le (look_is r x.0 x.1) in
      subst (λ o. AtName layout (Rev r) (get m (machine_name layout (Rev r))) (Some (rev_content o))) (sym x.1)
      (subst (λ o. AtName layout (Rev r) o (Some (file_of x.0))) (sym bytes) refl)
  right _ fits (IsProps r less) =
      let x = there_below g r less in
      let t = props_there r x.0 x.1 in
      subst (λ o. AtName layout (Props r) (get m (machine_name layout (Props r))) (Some (props_content o))) (sym x.1)
      (subst (λ o. AtName layout (Props r) o (Some (PropsFile x.0.revision.properties))) (sym t.1) t.2)
  right _ fits (IsPack k below) = subst (λ o. AtName layout (Pack k) o (Some (PackFile (offsets_of k) (parts_from size (k * size) g)))) (sym (pack_there k below)) (is_cut k below)
  right _ fits (IsManifestFile k below) =
      let t = manifest_there k below in
      subst (λ o. AtName layout (Manifest k) o (Some (ManifestFile (offsets_of k)))) (sym t.1) t.2

  read : AreRead layout m disk
  unfolding names
  read = read_listed layout m content names (λ q fits listed. right q fits (named f (length g) shards within_all q listed))

  -- ---- the machine's state

  own_found : (r : ℕ) (x : Recorded) → slice_get g r ≡ Some x → f ≤ r → found disk (Rev r) ≡ Some (file_of x)
  unfolding content names rev_content
  own_found r x at le =
      let less : r < length g = slice_get_within g r x at in
      listed_found content names (Rev r) (listed_left (own_names f (length g - f)) (props_names (length g) ++ pack_names shards) (Rev r) (own_listed f (length g - f) r le (omega (arith, less, le))))
      ∙ ap (λ o. Some (rev_content o)) at

  props_found : (r : ℕ) (x : Recorded) → slice_get g r ≡ Some x → found disk (Props r) ≡ Some (PropsFile x.revision.properties)
  unfolding content names props_content
  props_found r x at =
      listed_found content names (Props r) (listed_right (own_names f (length g - f)) (props_names (length g) ++ pack_names shards) (Props r) (listed_left (props_names (length g)) (pack_names shards) (Props r) (props_listed (length g) r (slice_get_within g r x at))))
      ∙ ap (λ o. Some (props_content o)) at

  pack_found : (k : ℕ) → k < shards → found disk (Pack k) ≡ Some (PackFile (offsets_of k) (parts_from size (k * size) g))
  unfolding content names
  pack_found k below = listed_found content names (Pack k) (listed_right (own_names f (length g - f)) (props_names (length g) ++ pack_names shards) (Pack k) (listed_right (props_names (length g)) (pack_names shards) (Pack k) (pack_listed shards k below)))

  manifest_found : (k : ℕ) → k < shards → found disk (Manifest k) ≡ Some (ManifestFile (offsets_of k))
  unfolding content names
  manifest_found k below = listed_found content names (Manifest k) (listed_right (own_names f (length g - f)) (props_names (length g) ++ pack_names shards) (Manifest k) (listed_right (props_names (length g)) (pack_names shards) (Manifest k) (manifest_listed shards k below)))

  packed_found : (r : ℕ) (x : Recorded) → slice_get g r ≡ Some x → r < f → packed size disk r ≡ Some (file_of x)
  packed_found r x at less =
      let k = r / size in
      let i = r % size in
      let split : r ≡ k * size + i = sym (div-add-mod' r size) in
      let below : k < shards = div_below r size shards (size_some layout) (omega (arith, less, whole_shards)) in
      let place : i < size = mod_below r size (size_some layout) in
      let here : slice_get g (k * size + i) ≡ Some x = ap (λ n. slice_get g n) (sym split) ∙ at in
      ap (λ o. part_in i o (found disk (Manifest k))) (pack_found k below)
      ∙ ap (λ o. part_in i (Some (PackFile (offsets_of k) (parts_from size (k * size) g))) o) (manifest_found k below)
      ∙ ap (λ b. cond b (as_file (slice_get (parts_from size (k * size) g) i)) None) (nat_list_eq_equiv.refl (offsets_of k))
      ∙ ap as_file (shard_part size (k * size) i g x place here)

  has_files : (r : ℕ) (x : Recorded) → slice_get g r ≡ Some x → HasFiles size f (Firm ∷ disk) r x
  has_files r x at = (by_test (nat_lt r f) refl, props_found r x at)
    where
      by_test : (b : Bool) → nat_lt r f ≡ b → cond b (packed size disk r) (found disk (Rev r)) ≡ Some (file_of x)
      by_test true is = packed_found r x at (to_floor r f is)
      by_test false is = own_found r x at (from_floor r f is)

  stands_for : MachineStands size f (Firm ∷ disk) g
  unfolding content names
  stands_for = (has_files, (s.opened.youngest, refl, (let c = s.count in omega (arith, long, c))))

  abbrev world : World
  world = record {
    disk = Firm ∷ disk;
    lock = Free;
    young = s.opened.youngest;
    history = g;
    opening = length g;
    since = [];
    size = size;
    low = f;
    floor = f;
    given = given_before s.opened.next_txn.number;
    labels = [];
    named = [];
    txns = [];
    spent = [];
    passes = first_pass (length g) f ∷ [];
  }

  kept : Kept world
  unfolding content names
  kept = record {
    young = λ up. (let c = s.count in omega (arith, long, c));
    seen = (record { seen = omega arith; least = omega (arith, some); mine = tt; least_floor = omega arith; floor = omega arith }, tt);
    history = subst (λ l. IsHistory l) (sym revisions_are) (stood_for_history m h s);
    transactions = tt;
    stands = each_firm disk (λ e. MachineStands size f e g) stands_for;
    floor = record { some = size_some layout; shards = shards; whole = whole_shards; most = within_all; next = λ full. absurd cc };
    floors = each_firm disk (FloorIs f) refl;
    left = each_firm disk (AreLeft f g) (λ r x at le. left_is (is_gone disk (Rev r)) (found disk (Rev r)) x (own_found r x at le));
    low = omega arith;
    counts = each_firm disk (CountsOn (given_before s.opened.next_txn.number)) (s.opened.next_txn.number, refl, all_below s.opened.next_txn.number);
    once = given_once s.opened.next_txn.number;
    labels = tt;
    named = tt;
    apart = λ n. (omega arith, λ less. absurd (omega (arith, less)));
    benches = λ up. tt;
    knows = tt;
    next = tt;
    whose = record { legal = ap revisions (take_all (length g) g (omega arith)); count = omega arith; carriers = tt; mine = (refl, tt) };
    holder = tt;
  }

  abbrev view : View
  view = record { layout = layout; since = opened_at first before; opened = length g; number = 0; pass = first_pass (length g) f; seen = g; section = None; sure = false; firm = None; left = None; given = given_before s.opened.next_txn.number; full = false }

  abbrev trace : Trace
  trace = record { first = first; labels = labels; operations = Done real.FirmNames ∷ before }

  store : IsStore layout f s.opened.youngest None trace world
  store = record { trace = Opening before disk read; size = refl; whole = whole; kept = kept_bare world kept; shown = all_show; coming = tt; low_is = refl; young_is = refl; stuck_is = refl }

  sees : Sees world view
  sees = record { pass = refl; seen = sym (take_all (length g) g (omega arith)); section = refl; up = refl; sure = λ e. absurd cc; whole = λ z e. absurd cc; given = λ q i. i; opened = omega arith; shown = all_show; names = record { full = λ e. absurd cc; drawing = λ z e. absurd cc }; firm = λ z f e is. absurd cc }

  safe : Safe layout (opened_at first before) trace (length g) g None
  safe z i =
      let r = image_read layout no_others first (Done real.FirmNames ∷ before) (Firm ∷ disk) (Opening before disk read) z (now i) in
      (r.0, r.2, stood_for layout (length g) world refl whole kept (omega arith) r.0 r.1)
    where
      now : ImageSince (length before + 1) first (Done real.FirmNames ∷ before) z → real.IsImage first (Done real.FirmNames ∷ before) z
      now i = ⊎_elim (λ a. a) (λ b. absurd (omega (arith, b.0))) i

  pub is_known : (v : View) × KnowsAlone layout f s.opened.youngest None (Some trace) v × (v.section ≡ None) × (v.pass ≡ first_pass (length h) s.opened.min_unpacked_rev) × (revisions v.seen ≡ h) × (v.since ≡ opened_at first before) × (v.given ≡ given_before s.opened.next_txn.number)
  is_known = (view, ((world, store, sees, refl, refl, safe, refl, refl), record { all = (let c = s.count in omega (arith, long, c)); own = omega arith; free = λ harmless. refl; sound = λ harmless. refl; found = λ harmless. refl }, own_from_opening layout first before (own_opened (files_after first before) h s)), refl, ap (λ n. first_pass n s.opened.min_unpacked_rev) long, revisions_are, refl, refl)

pub store_is_known : StoreIsKnown
store_is_known first labels before h s = is_known first labels before h s
