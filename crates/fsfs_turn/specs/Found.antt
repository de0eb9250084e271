-- What a pass has seen stands in the files now.
use Rattle.std.proofs.Common.{◌≡◌, ◌<◌, ◌≤◌, ◌+◌, ◌^◌, ℕ, zero, suc, List, [], ◌∷◌, length, take, Bool, true, false, cond, ⊎_elim, refl, sym, ap, subst, ◌∙◌, arith, length-append}
use Rattle.std.specs.Prelude.{Option, Some, None, Result, Ok, unwrap_or, slice_get, nat_lt, nat_eq}
use Rattle.std.specs.FinMap.{get}
use Rattle.std.specs.Cmp.Lexicographic.{nat_list_eq_equiv, pointwise, same_text}
use Rattle.std.proofs.lemmas.List.{length-take}
use Rattle.std.proofs.lemmas.Option.{slice_get_within}
use Rattle.std.proofs.lemmas.Nat.{div_below}
use native.Mathlib.Nat.{add-mod_right}
use Rattle.fsfs_base.specs.Files.{Files}
use Rattle.fsfs_layout.specs.Hash.Dump.{IsDump}
use Rattle.fsfs_layout.specs.FileNames.{only_name}
use Rattle.fsfs_layout.specs.Layouts.{shard_size, shard_of, place_in_shard}
use Rattle.fsfs_layout.specs.Manifest.{IsManifest}
use Rattle.fsfs_layout.specs.Opening.{text_at}
use Rattle.fsfs_layout.proofs.Manifests.{size_some}
use Rattle.fsfs_layout.specs.Small.{IsRevLine, IsMinUnpackedRevIn, IsMinUnpackedRev}
use Rattle.fsfs_layout.specs.declared.format.Format.{Format}
use Rattle.fsfs_layout.specs.declared.layout.Layout.{Layout}
use Rattle.fsfs_layout.specs.declared.only_file.OnlyFile.TheVariants as only
use Rattle.fsfs_revision.specs.declared.wrong.Refusal.{Refusal}
use Rattle.fsfs_revision.specs.RevBytes.{floor_in, manifest_in, section_of, cut_from, packed_bytes, or_missing, by_floor, rev_file, rev_bytes}
use Rattle.fsfs_revision.proofs.GrammarLemmas.{manifests_by_grammar}
use Rattle.fsfs_revision.proofs.FloorLemmas.{floor_is}
use Rattle.fsfs_fetch.specs.Kept.{agrees}
use Rattle.fsfs_fetch.specs.Views.{Reach, Ends, IsKnown, is_below, is_packed}
use Rattle.fsfs_base.specs.declared.small_fault.SmallFault.{SmallFault}
use Rattle.fsfs_disk.specs.Trace.{Trace, files_now}
use Rattle.fsfs_base.specs.declared.places.place.DiskPlace.{DiskPlace}
use Rattle.fsfs_machine.specs.declared.contents.Contents.{Contents}
use Rattle.fsfs_machine.specs.declared.contents.Contents.TheVariants.{PropsFile, Number, PackFile, ManifestFile}
use Rattle.fsfs_machine.specs.declared.contents.Part.{Part}
use Rattle.fsfs_machine.specs.declared.contents.FileName.{FileName}
use Rattle.fsfs_machine.specs.declared.contents.FileName.TheVariants.{Current, Floor, Rev, Props, Pack, Manifest}
use Rattle.fsfs_machine.specs.declared.machine.Recorded.{Recorded}
use Rattle.fsfs_machine.specs.declared.machine.Coming.{Coming}
use Rattle.fsfs_machine.specs.declared.machine.Section.{Section}
use Rattle.fsfs_machine.specs.declared.machine.Section.TheVariants.{RevFirm, CurrentPut, CurrentRenamed, CurrentFirm, Doubtful, PackFirm, FloorPut, FloorRenamed, FloorDoubtful}
use Rattle.fsfs_machine.specs.declared.machine.Lock.{Lock}
use Rattle.fsfs_machine.specs.declared.machine.Lock.TheVariants.{Free, Held, Stuck, Down, DownDoubtful, StuckFloor, DownFloor}
use Rattle.fsfs_machine.specs.Disk.{Disk, found, is_gone, as_file, part_in, packed, shown, IsImage}
use Rattle.fsfs_machine.specs.Machine.{World, file_of, with_next}
use Rattle.fsfs_machine.specs.Kept.{Kept, HasFiles, NamesLast, Stands, StandsIn, StandsForEither, FloorIs, IsLeft}
use Rattle.fsfs_machine.proofs.Answering.{has_all}
use Rattle.fsfs_machine.proofs.Floors.{floor_of_image}
use Rattle.fsfs_machine.proofs.Images.{read_is_image}
use Rattle.fsfs_images.specs.RealNames.{machine_name}
use Rattle.fsfs_images.specs.Shown.{AtName, AreRead, Reads, IsCut}
use Rattle.fsfs_images.proofs.Showing.{now_read}
use Rattle.fsfs_turn.specs.Views.{View, Sees, with_txns}
use Rattle.fsfs_turn.specs.Past.{IsWhole}
use Rattle.fsfs_turn.specs.Standing.{no_others, IsStore, Knows}
use Rattle.fsfs_turn.specs.Telling.{IsReadable, state_of, owned_view}

-- what stands at a name that is found
pub at_found : (layout : Layout) (n : FileName) (o : Option (List ℕ)) (f : Option Contents) (c : Contents) → f ≡ Some c → AtName layout n o f → (bytes : List ℕ) × (o ≡ Some bytes) × Reads layout n bytes c
at_found layout n None None c e at = absurd cc
at_found layout n (Some bytes) None c e at = absurd cc
at_found layout n None (Some z) c e at = absurd at
at_found layout n (Some bytes) (Some z) c e at = let same : z ≡ c = cc in (bytes, refl, subst (λ k. Reads layout n bytes k) same at)

-- what stands in a first part stands in the whole
pub get_taken : {A : Type 0} (n r : ℕ) (xs : List A) (x : A) → slice_get (take n xs) r ≡ Some x → slice_get xs r ≡ Some x
get_taken zero r xs x e = absurd cc
get_taken (suc n) r [] x e = e
get_taken (suc n) zero (y ∷ ys) x e = e
get_taken (suc n) (suc r) (y ∷ ys) x e = get_taken n r ys x e

pub seen_within : (w : World) (v : View) → Sees w v → length v.seen ≤ length w.history
seen_within w v sees = let e : length v.seen ≡ length (take v.pass.seen w.history) = ap length sees.seen in omega (arith, e, length-take v.pass.seen w.history)

-- a file that is there has its text
pub text_there : {X : Type 0} (m : Files) (name text : List ℕ) (G : List ℕ → X → Type 0) (x : X) → get m name ≡ Some text → G text x → G (text_at m name) x
text_there m name text G x there is = subst (λ (t : List ℕ). G t x) (sym (ap (λ (o : Option (List ℕ)). unwrap_or o []) there)) is

-- ---- a revision in a pack

-- what a part of a pack was found by
record FoundPart (i : ℕ) (pack manifest : Option Contents) (x : Recorded) : Type 0 where
  pub offsets : List ℕ
  pub parts : List Part
  pub pack_is : pack ≡ Some (PackFile offsets parts)
  pub manifest_is : manifest ≡ Some (ManifestFile offsets)
  pub part : Part
  pub there : slice_get parts i ≡ Some part
  pub bytes : part.bytes ≡ x.bytes

as_file_is : (o : Option Part) (x : Recorded) → as_file o ≡ Some (file_of x) → (part : Part) × (o ≡ Some part) × (part.bytes ≡ x.bytes)
as_file_is None x e = absurd cc
as_file_is (Some part) x e = (part, refl, let same : part.bytes ≡ x.bytes = cc in same)

part_found : (i : ℕ) (pack manifest : Option Contents) (x : Recorded) → part_in i pack manifest ≡ Some (file_of x) → FoundPart i pack manifest x
part_found i (Some (PackFile os xs)) (Some (ManifestFile ns)) x e = by_test (pointwise nat_eq os ns) refl e
  where
    by_test : (b : Bool) → pointwise nat_eq os ns ≡ b → cond b (as_file (slice_get xs i)) None ≡ Some (file_of x) → FoundPart i (Some (PackFile os xs)) (Some (ManifestFile ns)) x
    by_test true same e =
        let part = as_file_is (slice_get xs i) x e in
        record { offsets = os; parts = xs; pack_is = refl; manifest_is = ap (λ (l : List ℕ). Some (ManifestFile l)) (sym (same_text os ns (sym same))); part = part.0; there = part.1; bytes = part.2 }
    by_test false same e = absurd cc
part_found i pack manifest x e = absurd cc

module _ (layout : Layout) (f : ℕ) (m : Files) (d : Disk) (r : ℕ) (x : Recorded) (floor : floor_in layout m ≡ Ok f) (all : AreRead layout m d) (fits : r < 2 ^ 32) where
  shard_fits : shard_of layout r < 2 ^ 32
  shard_fits = div_below r (shard_size layout) (2 ^ 32) (size_some layout) (omega (arith, fits, size_some layout))

  -- the bytes of a revision in a pack
  packed_are : packed (shard_size layout) d r ≡ Some (file_of x) → packed_bytes layout m r ≡ Ok x.bytes
  unfolding packed_bytes
  packed_are e =
      ap (λ (o : Option (List ℕ)). cut_from o (section_of r (place_in_shard layout r) (manifest_in layout m (shard_of layout r)) o)) pack.1
      ∙ ap (λ (k : Result (List ℕ) SmallFault). cut_from (Some pack.0) (section_of r (place_in_shard layout r) k (Some pack.0))) offsets
      ∙ ap (λ (b : List ℕ). Ok b) (pack.2.each (place_in_shard layout r) part.part part.there ∙ part.bytes)
    where
      part : FoundPart (place_in_shard layout r) (found d (Pack (shard_of layout r))) (found d (Manifest (shard_of layout r))) x
      part = part_found (place_in_shard layout r) (found d (Pack (shard_of layout r))) (found d (Manifest (shard_of layout r))) x e

      pack : (bytes : List ℕ) × (get m (machine_name layout (Pack (shard_of layout r))) ≡ Some bytes) × IsCut part.offsets bytes part.parts
      pack = at_found layout (Pack (shard_of layout r)) (get m (machine_name layout (Pack (shard_of layout r)))) (found d (Pack (shard_of layout r))) (PackFile part.offsets part.parts) part.pack_is (all.read (Pack (shard_of layout r)) shard_fits)

      manifest : (text : List ℕ) × (get m (machine_name layout (Manifest (shard_of layout r))) ≡ Some text) × IsManifest (shard_size layout) text part.offsets
      manifest = at_found layout (Manifest (shard_of layout r)) (get m (machine_name layout (Manifest (shard_of layout r)))) (found d (Manifest (shard_of layout r))) (ManifestFile part.offsets) part.manifest_is (all.read (Manifest (shard_of layout r)) shard_fits)

      offsets : manifest_in layout m (shard_of layout r) ≡ Ok part.offsets
      offsets = ((manifests_by_grammar layout m (shard_of layout r)).said part.offsets).1 (text_there m (machine_name layout (Manifest (shard_of layout r))) manifest.0 (IsManifest (shard_size layout)) part.offsets manifest.1 manifest.2)

  -- and of one in its own file
  own_are : found d (Rev r) ≡ Some (file_of x) → rev_file layout m r ≡ Some x.bytes
  own_are e = let at = at_found layout (Rev r) (get m (machine_name layout (Rev r))) (found d (Rev r)) (file_of x) e (all.read (Rev r) fits) in at.1 ∙ ap (λ (b : List ℕ). Some b) at.2

  -- the bytes of a revision that the disk shows by this floor
  pub bytes_are : shown (shard_size layout) f d r ≡ Some (file_of x) → rev_bytes layout m r ≡ Ok x.bytes
  unfolding rev_bytes
  bytes_are there = ap (by_floor layout m r) floor ∙ by_test (nat_lt r f) there
    where
      by_test : (b : Bool) → cond b (packed (shard_size layout) d r) (found d (Rev r)) ≡ Some (file_of x) → cond b (packed_bytes layout m r) (or_missing r (rev_file layout m r)) ≡ Ok x.bytes
      by_test true e = packed_are e
      by_test false e = ap (or_missing r) (own_are e)

  -- its own file has them, where there is one that the machine knows or took away
  pub own_agrees : rev_bytes layout m r ≡ Ok x.bytes → IsLeft (is_gone d (Rev r)) (found d (Rev r)) x → agrees (rev_file layout m r) (rev_bytes layout m r) ≡ true
  own_agrees bytes left = ap (λ (b : Result (List ℕ) Refusal). agrees (rev_file layout m r) b) bytes ∙ by_file (found d (Rev r)) refl left
    where
      by_file : (o : Option Contents) → found d (Rev r) ≡ o → IsLeft (is_gone d (Rev r)) o x → agrees (rev_file layout m r) (Ok x.bytes) ≡ true
      by_file None e gone = ap (λ (b : Option (List ℕ)). agrees b (Ok x.bytes)) (all.gone (Rev r) fits gone)
      by_file (Some c) e same = ap (λ (b : Option (List ℕ)). agrees b (Ok x.bytes)) (own_are (e ∙ ap (λ (z : Contents). Some z) same)) ∙ nat_list_eq_equiv.refl x.bytes

  -- below the floor it is packed
  pub is_below_floor : r < f → is_packed layout m r ≡ true
  unfolding is_packed
  is_below_floor less = ap (λ (k : Result ℕ SmallFault). is_below r k) floor ∙ (let e : nat_lt r f ≡ true = grind (arith, less) in e)

-- the files show the floor
pub floor_read : (layout : Layout) (f : ℕ) (m : Files) (d : Disk) → AreRead layout m d → FloorIs f d → IsWhole layout f → IsMinUnpackedRev layout (text_at m (only_name only.MinUnpackedRev)) f
floor_read layout f m d all is whole =
    let at = at_found layout Floor (get m (machine_name layout Floor)) (found d Floor) (Number f) is (all.read Floor tt) in
    text_there m (only_name only.MinUnpackedRev) at.0 (IsMinUnpackedRev layout) f at.1 (subst (λ (k : Format). IsMinUnpackedRevIn k layout at.0 f) (sym whole.packs.format) (at.2, whole.place))

-- `current` names the last revision or the one to come
abbrev pub LastFrom : Disk → ℕ → Type 0
LastFrom m n = (k : ℕ) × (found m Current ≡ Some (Number k)) × (n ≤ k + 1)

last_of : (m : Disk) (n : ℕ) → NamesLast m n → LastFrom m n
last_of m n l = (l.0, l.1, omega (arith, l.2))

last_next : (m : Disk) (h : List Recorded) (x : Coming) → NamesLast m (length (with_next h x)) → LastFrom m (length h)
last_next m h x l = let more : length (with_next h x) ≡ length h + 1 = grind (arith, length-append) in (l.0, l.1, omega (arith, l.2, more))

last_either : (size f : ℕ) (m : Disk) (h : List Recorded) (x : Coming) → StandsForEither size f m h x → LastFrom m (length h)
last_either size f m h x e = ⊎_elim (λ a. last_of m (length h) a.1) (λ a. last_next m h x a.1) e

last_in : (size f : ℕ) (h : List Recorded) (s : Section) (m : Disk) → StandsIn size f h s m → LastFrom m (length h)
last_in size f h (RevFirm x) m s = last_of m (length h) s.0.1
last_in size f h (CurrentPut x) m s = last_of m (length h) s.0.1
last_in size f h (CurrentRenamed x) m s = last_either size f m h x s.0
last_in size f h (Doubtful place x) m s = last_either size f m h x s.0
last_in size f h (CurrentFirm x) m s = last_next m h x s.1
last_in size f h PackFirm m s = last_of m (length h) s.0.1
last_in size f h FloorPut m s = last_of m (length h) s.0.1
last_in size f h FloorRenamed m s = last_of m (length h) s.0.1
last_in size f h (FloorDoubtful place) m s = last_of m (length h) s.0.1
last_in size f h s m i = last_of m (length h) i.1

pub last_at : (size f : ℕ) (h : List Recorded) (lock : Lock) (m : Disk) → Stands size f h lock m → LastFrom m (length h)
last_at size f h (Held p s) m i = last_in size f h s m i
last_at size f h (Stuck place x) m i = last_either size f m h x i.0
last_at size f h (DownDoubtful x) m i = last_either size f m h x i
last_at size f h (StuckFloor place) m i = last_of m (length h) i.0.1
last_at size f h DownFloor m i = last_of m (length h) i.0.1
last_at size f h Free m i = last_of m (length h) i.1
last_at size f h Down m i = last_of m (length h) i.1

-- ---- images of a disk of which a state of the machine is known

-- the floor that an image shows, by which it has each revision of the history
pub record ShowsFloor (layout : Layout) (w : World) (e : Disk) : Type 0 where
  pub floor : ℕ
  pub is : FloorIs floor e
  pub whole : IsWhole layout floor
  pub low : w.low ≤ floor
  pub most : floor ≤ length w.history
  pub each : (r : ℕ) (x : Recorded) → slice_get w.history r ≡ Some x → HasFiles (shard_size layout) floor e r x

pub whole_raised : (layout : Layout) (w : World) → w.size ≡ shard_size layout → IsWhole layout w.floor → IsWhole layout (w.floor + w.size)
whole_raised layout w size_is whole = record { packs = whole.packs; place = ap (λ n. place_in_shard layout (w.floor + n)) size_is ∙ add-mod_right w.floor (shard_size layout) ∙ whole.place }

pub shows_floor : (layout : Layout) (w : World) → w.size ≡ shard_size layout → IsWhole layout w.floor → Kept w → (e : Disk) → IsImage w.disk e → ShowsFloor layout w e
shows_floor layout w size_is whole kept e image = ⊎_elim
    (λ is. record {
      floor = w.floor;
      is = is;
      whole = whole;
      low = kept.low;
      most = kept.floor.most;
      each = λ r x at. subst (λ n. HasFiles n w.floor e r x) size_is (has_all w.size w.floor w.history w.lock e (kept.stands e image) r x at);
    })
    (λ next. record {
      floor = w.floor + w.size;
      is = next.0;
      whole = whole_raised layout w size_is whole;
      low = omega (arith, kept.low);
      most = next.2;
      each = λ r x at. subst (λ n. HasFiles n (w.floor + w.size) e r x) size_is (next.1.0 r x at);
    }) (floor_of_image w kept e image)

-- ---- a disk of which a state of the machine is known

module _ (layout : Layout) (low young : ℕ) (stuck : Option DiskPlace) (t : Trace) (w : World) (store : IsStore layout low young stuck t w) where
  all_read : AreRead layout (files_now t) w.disk
  all_read = now_read layout no_others t.first t.operations w.disk store.trace

  pub shows_now : ShowsFloor layout (with_txns [] w) w.disk
  shows_now = shows_floor layout (with_txns [] w) store.size store.whole store.kept w.disk (read_is_image w.disk)

  pub floor_now : floor_in layout (files_now t) ≡ Ok shows_now.floor
  floor_now = floor_is layout shows_now.floor (files_now t) (floor_read layout shows_now.floor (files_now t) w.disk all_read shows_now.is shows_now.whole)

  pub all_fit : (r : ℕ) → r < length w.history → r < 2 ^ 32
  all_fit r some = omega (arith, some, last.2, current.2.fits)
    where
      last : LastFrom w.disk (length w.history)
      last = last_at w.size w.floor w.history w.lock w.disk (store.kept.stands w.disk (read_is_image w.disk))

      current : (text : List ℕ) × (get (files_now t) (machine_name layout Current) ≡ Some text) × IsRevLine text last.0
      current = at_found layout Current (get (files_now t) (machine_name layout Current)) (found w.disk Current) (Number last.0) last.1 (all_read.read Current tt)

  -- a revision of the history can be read
  pub history_reads : {L : Type 0} (reach : Reach) (told : Option Files) (below : L) (r : ℕ) (x : Recorded) → slice_get w.history r ≡ Some x → IsKnown reach r → IsReadable {Lasting = L} low (record { layout = layout; reach = reach; files = told; below = below }) (files_now t) r x
  history_reads reach told below r x here known = record {
    known = known;
    bytes = bytes;
    own = λ le. own_agrees layout shows_now.floor (files_now t) w.disk r x floor_now all_read fits bytes (store.kept.left w.disk (read_is_image w.disk) r x here (omega (arith, le, store.low_is)));
    packed = λ less. is_below_floor layout shows_now.floor (files_now t) w.disk r x floor_now all_read fits (omega (arith, less, shows_now.low, store.low_is));
    text = props.0;
    props = ap (or_missing r) props.1;
    dump = props.2;
  }
    where
      fits : r < 2 ^ 32
      fits = all_fit r (slice_get_within w.history r x here)

      has : HasFiles (shard_size layout) shows_now.floor w.disk r x
      has = shows_now.each r x here

      bytes : rev_bytes layout (files_now t) r ≡ Ok x.bytes
      bytes = bytes_are layout shows_now.floor (files_now t) w.disk r x floor_now all_read fits has.0

      props : (text : List ℕ) × (get (files_now t) (machine_name layout (Props r)) ≡ Some text) × IsDump text x.revision.properties
      props = at_found layout (Props r) (get (files_now t) (machine_name layout (Props r))) (found w.disk (Props r)) (PropsFile x.revision.properties) has.1 (all_read.read (Props r) fits)

-- a revision that the one pass of an owned store has seen can be read
pub readable : (layout : Layout) (low young : ℕ) (stuck : Option DiskPlace) (t : Trace) (v : View) (known : Knows layout low young stuck (Some t) v) (path : List ℕ) (benches r : ℕ) (x : Recorded) → slice_get v.seen r ≡ Some x
    → IsReadable low (owned_view (state_of layout low young stuck (Some t) path benches)) (files_now t) r x
readable layout low young stuck t v known path benches r x at =
    history_reads layout low young stuck t known.0 known.1 (Ends young) (Some (files_now t)) (state_of layout low young stuck (Some t) path benches) r x here
    (let up : known.0.young + 1 ≡ length known.0.history = known.1.kept.young known.2.up in omega (arith, slice_get_within v.seen r x at, seen_within known.0 v known.2, up, known.1.young_is))
  where
    here : slice_get known.0.history r ≡ Some x
    here = get_taken v.pass.seen r known.0.history x (ap (λ l. slice_get l r) (sym known.2.seen) ∙ at)
