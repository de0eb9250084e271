-- Revisions in packs.
use Rattle.std.proofs.Common.{◌≡◌, ◌≤◌, ◌<◌, ℕ, ◌+◌, ◌-◌, List, ◌++◌, length, take, drop, min, refl, sym, ap, subst, ◌∙◌, arith, true, false, nat_lt}
use Rattle.std.specs.Prelude.{Option, Some, None, Result, Ok, Err, IfSome, codes}
use Rattle.std.proofs.lemmas.List.{length-take, length-drop, drop-take, drop-drop, take-take, take_min, take-append-le}
use Rattle.std.proofs.lemmas.Bool.Decides.{nat_tests}
use Rattle.std.specs.FinMap as map
use Rattle.fsfs_base.specs.Files.{Files}
use Rattle.fsfs_base.specs.declared.small_fault.SmallFault.{SmallFault}
use Rattle.fsfs_layout.specs.Names.{in_pack}
use Rattle.fsfs_disk.specs.Trace.{IsRead, IsSize}
use Rattle.fsfs_revision.specs.declared.wrong.Refusal.{Refusal}
use Rattle.fsfs_revision.specs.declared.wrong.Refusal.TheVariants.{Missing, Small}
use Rattle.fsfs_revision.specs.declared.book.BookFault.{BookFault}
use Rattle.fsfs_revision.specs.declared.book.BookFault.TheVariants.{Refused, Short, DiskFault, OutOfMemory}
use Rattle.fsfs_revision.specs.Told.{Gives, size_read, part_read}
use Rattle.fsfs_layout.specs.declared.layout.Layout.{Layout}
use Rattle.fsfs_layout.specs.Layouts.{shard_of, place_in_shard}
use Rattle.fsfs_fetch.specs.declared.manifests.KeptManifest.{KeptManifest}
use Rattle.fsfs_revision.specs.declared.section.Section.{Section}
use Rattle.fsfs_revision.specs.RevBytes.{manifest_in, pack_in, section_at, section_of, packed_section, packed_bytes, cut, cut_from}
use Rattle.fsfs_fetch.specs.Views.{View, Later}
use Rattle.fsfs_fetch.specs.Answers.{Stays, refused, as_book}
use Rattle.fsfs_fetch.specs.Kept.{IsPackedAt}
use Rattle.fsfs_disk.proofs.WholeFiles.{read_bytes}
use Rattle.fsfs_fetch.proofs.FileLemmas.{read_stays}
use Rattle.fsfs_fetch.specs.ViewLemmas.{stays_later}

pub pack_stays : {B : Type 0} (view : View B) (kept : Option KeptManifest) (rev : ℕ) (m : Files) → IsPackedAt view kept rev m → Stays view (in_pack (shard_of view.layout rev) (codes "/pack")) (pack_in m (shard_of view.layout rev))
pack_stays view kept rev m p = record { now = m; told = p.told; later = λ new f. f.pack rev p.packed }

-- a section of a pack of this size
section_ok : (rev i size : ℕ) (manifest : Result (List ℕ) SmallFault) (pack : Option (List ℕ)) (offsets : List ℕ) (found : Section) → refused manifest ≡ Ok offsets → IsSize pack (Some size) → found ≡ section_at offsets i size
    → as_book (section_of rev i manifest pack) ≡ Ok found
section_ok rev i size (Ok kept) None offsets found e is at = let h : ◌≡◌ {A = Option ℕ} (Some size) None = is in cc
section_ok rev i size (Err f) pack offsets found e is at = cc
section_ok rev i size (Ok kept) (Some bytes) offsets found e is at =
    let n : ◌≡◌ {A = Option ℕ} (Some size) (Some (length bytes)) = is in
    let same_size : length bytes ≡ size = cc in
    let same : kept ≡ offsets = cc in
    ap (λ (s : Section). Ok s) ((λ j. section_at (same j) i (same_size j)) ∙ sym at)

pub section_told : {B : Type 0} (v w : View B) (kept : Option KeptManifest) (rev size : ℕ) (m : Files) (offsets : List ℕ) (found : Section) → IsPackedAt v kept rev m → Later v w → refused (manifest_in v.layout m (shard_of v.layout rev)) ≡ Ok offsets
    → IfSome w.files (λ f. IsSize (map.get f (in_pack (shard_of v.layout rev) (codes "/pack"))) (Some size)) → found ≡ section_at offsets (place_in_shard v.layout rev) size → as_book (packed_section v.layout m rev) ≡ Ok found
section_told v w kept rev size m offsets found p e read h at =
    let P : Option (List ℕ) → Type 0 = λ f. IsSize f (Some size) in
    section_ok rev (place_in_shard v.layout rev) size (manifest_in v.layout m (shard_of v.layout rev)) (pack_in m (shard_of v.layout rev)) offsets found read
    (read_stays v w (in_pack (shard_of v.layout rev) (codes "/pack")) (pack_in m (shard_of v.layout rev)) P e (pack_stays v kept rev m p) h) at

no_section : (rev i : ℕ) (manifest : Result (List ℕ) SmallFault) (pack : Option (List ℕ)) (offsets : List ℕ) → refused manifest ≡ Ok offsets → IsSize pack None → as_book (section_of rev i manifest pack) ≡ Err (Refused (Missing rev))
no_section rev i (Ok kept) None offsets e is = refl
no_section rev i (Ok kept) (Some bytes) offsets e is = let h : ◌≡◌ {A = Option ℕ} None (Some (length bytes)) = is in cc
no_section rev i (Err f) pack offsets e is = cc

pub missing_told : {B : Type 0} (v w : View B) (kept : Option KeptManifest) (rev : ℕ) (m : Files) (offsets : List ℕ) → IsPackedAt v kept rev m → Later v w → refused (manifest_in v.layout m (shard_of v.layout rev)) ≡ Ok offsets
    → IfSome w.files (λ f. IsSize (map.get f (in_pack (shard_of v.layout rev) (codes "/pack"))) None) → as_book (packed_section v.layout m rev) ≡ Err (Refused (Missing rev))
missing_told v w kept rev m offsets p e read h =
    let P : Option (List ℕ) → Type 0 = λ f. IsSize f None in
    no_section rev (place_in_shard v.layout rev) (manifest_in v.layout m (shard_of v.layout rev)) (pack_in m (shard_of v.layout rev)) offsets read
    (read_stays v w (in_pack (shard_of v.layout rev) (codes "/pack")) (pack_in m (shard_of v.layout rev)) P e (pack_stays v kept rev m p) h)

-- what stops at the manifest stops at the section
pub section_err : {X : Type 0} (view : X → List ℕ) (rev i : ℕ) (manifest : Result (List ℕ) SmallFault) (pack : Option (List ℕ)) (e : BookFault) → Gives view (Err e) (refused manifest) → Gives (λ (s : Section). s) (Err e) (as_book (section_of rev i manifest pack))
section_err view rev i manifest pack DiskFault h = tt
section_err view rev i manifest pack OutOfMemory h = tt
section_err view rev i (Ok offsets) pack (Refused r) h = cc
section_err view rev i (Err f) pack (Refused r) h = let same : ◌≡◌ {A = Result (List ℕ) BookFault} (Err (Refused (Small f))) (Err (Refused r)) = h in let s : Small f ≡ r = cc in ap (λ (x : Refusal). Err (Refused x)) s
section_err view rev i (Ok offsets) pack (Short r o) h = cc
section_err view rev i (Err f) pack (Short r o) h = cc

-- what stops at the section stops at the bytes
pub bytes_err : (pack : Option (List ℕ)) (section : Result Section Refusal) (e : BookFault) → Gives (λ (s : Section). s) (Err e) (as_book section) → Gives (λ (n : ℕ). n) (Err e) (size_read (cut_from pack section))
bytes_err pack section DiskFault h = tt
bytes_err pack section OutOfMemory h = tt
bytes_err pack (Ok s) (Refused r) h = cc
bytes_err pack (Err f) (Refused r) h = let same : ◌≡◌ {A = Result Section BookFault} (Err (Refused f)) (Err (Refused r)) = h in let s : f ≡ r = cc in ap (λ (x : Refusal). Err (Refused x)) s
bytes_err pack (Ok s) (Short r o) h = cc
bytes_err pack (Err f) (Short r o) h = cc

pub part_err : {X : Type 0} (view : X → List ℕ) (rev offset count : ℕ) (pack : Option (List ℕ)) (section : Result Section Refusal) (e : BookFault) → Gives (λ (s : Section). s) (Err e) (as_book section) → Gives view (Err e) (part_read rev offset count (cut_from pack section))
part_err view rev offset count pack section DiskFault h = tt
part_err view rev offset count pack section OutOfMemory h = tt
part_err view rev offset count pack (Ok s) (Refused r) h = cc
part_err view rev offset count pack (Err f) (Refused r) h = let same : ◌≡◌ {A = Result Section BookFault} (Err (Refused f)) (Err (Refused r)) = h in let s : f ≡ r = cc in ap (λ (x : Refusal). Err (Refused x)) s
part_err view rev offset count pack (Ok s) (Short r o) h = cc
part_err view rev offset count pack (Err f) (Short r o) h = cc

-- the section that was found, and its pack
pub record IsSection (n : Layout) (m : Files) (rev : ℕ) (found : Section) : Type 0 where
  pub pack : List ℕ
  pub there : pack_in m (shard_of n rev) ≡ Some pack
  pub within : found.length ≤ length pack - found.start
  pub bytes : packed_bytes n m rev ≡ Ok (cut found pack)

section_parts : (rev i : ℕ) (manifest : Result (List ℕ) SmallFault) (pack : Option (List ℕ)) (found : Section) → as_book (section_of rev i manifest pack) ≡ Ok found → (bytes : List ℕ) × (pack ≡ Some bytes) × (found.length ≤ length bytes - found.start)
section_parts rev i (Err f) pack found e = cc
section_parts rev i (Ok offsets) None found e = cc
section_parts rev i (Ok offsets) (Some bytes) found e =
    let same : section_at offsets i (length bytes) ≡ found = cc in
    let P : Section → Type 0 = λ s. s.length ≤ length bytes - s.start in
    (bytes, refl, subst P same (omega arith))

as_book_ok : {X : Type 0} (r : Result X Refusal) (x : X) → as_book r ≡ Ok x → r ≡ Ok x
as_book_ok (Ok y) x e = let same : y ≡ x = cc in ap (λ z. Ok z) same
as_book_ok (Err f) x e = cc

pub is_section : (n : Layout) (m : Files) (rev : ℕ) (found : Section) → as_book (packed_section n m rev) ≡ Ok found → IsSection n m rev found
unfolding packed_bytes
is_section n m rev found e =
    let p = section_parts rev (place_in_shard n rev) (manifest_in n m (shard_of n rev)) (pack_in m (shard_of n rev)) found e in
    let s : packed_section n m rev ≡ Ok found = as_book_ok (packed_section n m rev) found e in
    record { pack = p.0; there = p.1; within = p.2; bytes = λ j. cut_from (p.1 j) (s j) }

pub len_told : (n : Layout) (m : Files) (rev : ℕ) (found : Section) → as_book (packed_section n m rev) ≡ Ok found → size_read (packed_bytes n m rev) ≡ Ok found.length
len_told n m rev found e =
    let s = is_section n m rev found e in
    let long : length (cut found s.pack) ≡ found.length = length-take found.length (drop found.start s.pack) ∙ omega (arith, length-drop found.start s.pack, s.within) in
    ap size_read s.bytes ∙ ap (λ (k : ℕ). Ok k) long

pub len_err : (n : Layout) (m : Files) (rev : ℕ) (e : BookFault) → Gives (λ (s : Section). s) (Err e) (as_book (packed_section n m rev)) → Gives (λ (k : ℕ). k) (Err e) (size_read (packed_bytes n m rev))
unfolding packed_bytes
len_err n m rev e h = bytes_err (pack_in m (shard_of n rev)) (packed_section n m rev) e h

pub part_stops : {X : Type 0} (view : X → List ℕ) (n : Layout) (m : Files) (rev offset count : ℕ) (e : BookFault) → Gives (λ (s : Section). s) (Err e) (as_book (packed_section n m rev)) → Gives view (Err e) (part_read rev offset count (packed_bytes n m rev))
unfolding packed_bytes
part_stops view n m rev offset count e h = part_err view rev offset count (pack_in m (shard_of n rev)) (packed_section n m rev) e h

-- an offset past the section
pub part_past : (n : Layout) (m : Files) (rev offset count : ℕ) (found : Section) → as_book (packed_section n m rev) ≡ Ok found → found.length < offset → part_read rev offset count (packed_bytes n m rev) ≡ Err (Short rev offset)
part_past n m rev offset count found e lt =
    let s = is_section n m rev found e in
    let long : length (cut found s.pack) ≡ found.length = length-take found.length (drop found.start s.pack) ∙ omega (arith, length-drop found.start s.pack, s.within) in
    let past : nat_lt (length (cut found s.pack)) offset ≡ true = grind (arith, nat_tests) in
    ap (part_read rev offset count) s.bytes ∙ rw past refl

-- ---- the same by the numbers that the code has

pub section_is : {B : Type 0} (v u w : View B) (kept : Option KeptManifest) (rev shard index size : ℕ) (m : Files) (offsets given name : List ℕ) (found : Section) → IsPackedAt v kept rev m → shard ≡ shard_of v.layout rev → index ≡ place_in_shard v.layout rev
    → Later v w → refused (manifest_in v.layout m shard) ≡ Ok offsets → name ≡ in_pack shard (codes "/pack") → IfSome w.files (λ f. IsSize (map.get f name) (Some size)) → given ≡ offsets → found ≡ section_at given index size
    → as_book (packed_section v.layout m rev) ≡ Ok found
section_is v u w kept rev shard index size m offsets given name found p e f later read named h same at =
    let P : ℕ → Type 0 = λ k. refused (manifest_in v.layout m k) ≡ Ok offsets in
    let Q : List ℕ → Type 0 = λ t. IfSome w.files (λ f. IsSize (map.get f t) (Some size)) in
    let there : name ≡ in_pack (shard_of v.layout rev) (codes "/pack") = named ∙ ap (λ k. in_pack k (codes "/pack")) e in
    let section : found ≡ section_at offsets (place_in_shard v.layout rev) size = at ∙ (λ i. section_at (same i) (f i) size) in
    section_told v w kept rev size m offsets found p later (subst P e read) (subst Q there h) section

pub missing_is : {B : Type 0} (v w : View B) (kept : Option KeptManifest) (rev shard : ℕ) (m : Files) (offsets name : List ℕ) → IsPackedAt v kept rev m → shard ≡ shard_of v.layout rev → Later v w
    → refused (manifest_in v.layout m shard) ≡ Ok offsets → name ≡ in_pack shard (codes "/pack") → IfSome w.files (λ f. IsSize (map.get f name) None) → as_book (packed_section v.layout m rev) ≡ Err (Refused (Missing rev))
missing_is v w kept rev shard m offsets name p e later read named h =
    let P : ℕ → Type 0 = λ k. refused (manifest_in v.layout m k) ≡ Ok offsets in
    let Q : List ℕ → Type 0 = λ t. IfSome w.files (λ f. IsSize (map.get f t) None) in
    let there : name ≡ in_pack (shard_of v.layout rev) (codes "/pack") = named ∙ ap (λ k. in_pack k (codes "/pack")) e in
    missing_told v w kept rev m offsets p later (subst P e read) (subst Q there h)

pub section_stops : (n : Layout) (m : Files) (rev shard : ℕ) (offsets : List ℕ) (e : BookFault) → shard ≡ shard_of n rev → Gives {X = Unit {0}} (λ _. offsets) (Err e) (refused (manifest_in n m shard)) → Gives (λ (s : Section). s) (Err e) (as_book (packed_section n m rev))
section_stops n m rev shard offsets e same h =
    let P : ℕ → Type 0 = λ k. Gives {X = Unit {0}} (λ _. offsets) (Err e) (refused (manifest_in n m k)) in
    section_err {X = Unit {0}} (λ _. offsets) rev (place_in_shard n rev) (manifest_in n m (shard_of n rev)) (pack_in m (shard_of n rev)) e (subst P same h)

pub pack_of : {B : Type 0} (v w : View B) (kept : Option KeptManifest) (rev : ℕ) (m : Files) (pack : List ℕ) → IsPackedAt v kept rev m → pack_in m (shard_of v.layout rev) ≡ Some pack → (e : Later v w) → Stays w (in_pack (shard_of w.layout rev) (codes "/pack")) (Some pack)
pack_of v w kept rev m pack p there e =
    let P : Option (List ℕ) → Type 0 = λ f. Stays v (in_pack (shard_of v.layout rev) (codes "/pack")) f in
    let Q : Layout → Type 0 = λ k. Stays w (in_pack (shard_of k rev) (codes "/pack")) (Some pack) in
    subst Q (sym e.layout) (stays_later v w (in_pack (shard_of v.layout rev) (codes "/pack")) (Some pack) e (subst P there (pack_stays v kept rev m p)))

pub part_whole : {X : Type 0} (view : X → List ℕ) (result : Result X BookFault) (rev offset count : ℕ) (whole read : Result (List ℕ) Refusal) → whole ≡ read → Gives view result (part_read rev offset count read) → Gives view result (part_read rev offset count whole)
part_whole view result rev offset count whole read e h = let P : Result (List ℕ) Refusal → Type 0 = λ r. Gives view result (part_read rev offset count r) in subst P (sym e) h

-- ---- a part of a section

part_of_cut : (pack : List ℕ) (start long offset room : ℕ) → offset ≤ long → long ≤ length pack - start → take room (drop offset (take long (drop start pack))) ≡ take (min (long - offset) room) (drop (start + offset) pack)
part_of_cut pack start long offset room le within =
    let k : ℕ = long - offset in
    let long_is : long ≡ offset + k = omega (arith, le) in
    let one : drop offset (take long (drop start pack)) ≡ take k (drop (start + offset) pack) =
    ap (λ j. drop offset (take j (drop start pack))) long_is ∙ drop-take offset k (drop start pack) ∙ ap (take k) (drop-drop offset start pack) in
    let size : length (take k (drop (start + offset) pack)) ≡ k = length-take k (drop (start + offset) pack) ∙ omega (arith, length-drop (start + offset) pack, le, within) in
    let two : take room (take k (drop (start + offset) pack)) ≡ take (min k room) (take k (drop (start + offset) pack)) = sym (take_min room (take k (drop (start + offset) pack))) ∙ ap (λ j. take j (take k (drop (start + offset) pack))) (omega (arith, size)) in
    ap (take room) one ∙ two ∙ take-take (min k room) k (drop (start + offset) pack) (omega arith)

-- what is read into the beginning of a buffer
front_read : (pack old sub new : List ℕ) (at count n : ℕ) → count ≤ length pack - at → length sub ≡ count → IsRead (Some pack) at sub new (Some n) → (n ≡ count) × (take n new ≡ take count (drop at pack))
front_read pack old sub new at count n le size read =
    let k : ℕ = min (length sub) (length pack - at) in
    let n_is : n ≡ k = let h : ◌≡◌ {A = Option ℕ} (Some n) (Some k) = read.0 in cc in
    let count_is : k ≡ count = omega (arith, size, le) in
    let got : take k new ≡ take k (drop at pack) = ap (take k) read.1 ∙ read_bytes pack sub at k (omega arith) in
    (n_is ∙ count_is, ap (λ j. take j new) n_is ∙ got ∙ ap (λ j. take j (drop at pack)) count_is)

pub section_part_ok : (pack buffer sub part new : List ℕ) (rev offset at count n : ℕ) (found : Section) → offset ≤ found.length → found.length ≤ length pack - found.start → at ≡ found.start + offset → count ≡ min (found.length - offset) (length buffer)
    → length sub ≡ count → IsRead (Some pack) at sub part (Some n) → length part ≡ length sub → new ≡ part ++ drop count buffer → part_read rev offset (length buffer) (Ok (cut found pack)) ≡ Ok (take n new)
section_part_ok pack buffer sub part new rev offset at count n found le within at_is count_is size read same_size new_is =
    let r = front_read pack buffer sub part at count n (omega (arith, count_is, at_is, within, le)) size read in
    let long : length (cut found pack) ≡ found.length = length-take found.length (drop found.start pack) ∙ omega (arith, length-drop found.start pack, within) in
    let not_past : nat_lt (length (cut found pack)) offset ≡ false = grind (arith, nat_tests) in
    let want : take (length buffer) (drop offset (cut found pack)) ≡ take count (drop at pack) = part_of_cut pack found.start found.length offset (length buffer) le within ∙ (ap (λ j. take j (drop (found.start + offset) pack)) (sym count_is) ∙ ap (λ j. take count (drop j pack)) (sym at_is)) in
    let front : take n new ≡ take n part = ap (take n) new_is ∙ take-append-le n part (drop count buffer) (omega (arith, r.0, size, same_size)) in
    rw not_past (ap (λ (xs : List ℕ). Ok xs) (want ∙ sym r.1 ∙ sym front))
