-- Calls of a section leave what lasts: the files of the history, the floor and what is packed.
use Rattle.std.proofs.Common.{◌≡◌, ◌⊎◌, ◌<◌, ◌≤◌, ◌^◌, ◌+◌, ◌*◌, ◌/◌, ◌%◌, ℕ, List, length, Bool, true, false, cond, inl, inr, ⊎_elim, refl, sym, ap, subst, ◌∙◌, arith}
use Rattle.std.specs.Prelude.{Option, Some, None, Result, Ok, nat_lt}
use Rattle.std.specs.FinMap.{get, insert, remove, get-remove}
use Rattle.std.specs.Ordering.{nat_cmp, is_eq}
use Rattle.std.specs.Cmp.Lexicographic.{slice_cmp, nat_list_cmp_total}
use Rattle.std.proofs.lemmas.Nat.{div_below, div-add-mod'}
use Rattle.fsfs_base.specs.Files.{Files, renamed}
use Rattle.fsfs_base.specs.declared.small_fault.SmallFault.{SmallFault}
use Rattle.fsfs_base.proofs.FileLemmas.{get_kept, get_left}
use Rattle.fsfs_layout.specs.FileNames.{file_name, FitsFile}
use Rattle.fsfs_layout.specs.Layouts.{shard_size, shard_of, place_in_shard}
use Rattle.fsfs_layout.specs.declared.layout.Layout.{Layout}
use Rattle.fsfs_layout.specs.declared.only_file.OnlyFile.TheVariants as only
use Rattle.fsfs_layout.specs.declared.repository_file.RepositoryFile.{RepositoryFile}
use Rattle.fsfs_layout.specs.declared.repository_file.RepositoryFile.TheVariants as file
use Rattle.fsfs_layout.proofs.Apart.{names_apart}
use Rattle.fsfs_layout.proofs.Manifests.{size_some}
use Rattle.fsfs_revision.specs.RevBytes.{floor_in, rev_file, manifest_file, pack_in}
use Rattle.fsfs_revision.proofs.Roots.{is_less}
use Rattle.fsfs_fetch.specs.Views.{is_below, is_packed}
use Rattle.fsfs_disk.specs.Trace.{Trace, NameChange, Put, Adopt, Rename, Remove, FirmNames, KeepLabel, DropLabel, changed, files_now, add_operation, Done, Attempted, Performs, Attempts, FailsAt, FailsToPut}
use Rattle.fsfs_base.specs.declared.places.place.DiskPlace.{DiskPlace}
use Rattle.fsfs_base.specs.declared.places.place.DiskPlace.TheVariants.{Begin, Commit, Pack}
use Rattle.fsfs_base.specs.declared.places.place.BeginPlace.TheVariants as begin
use Rattle.fsfs_base.specs.declared.places.place.CommitPlace.TheVariants as commit
use Rattle.fsfs_base.specs.declared.places.place.PackPlace.TheVariants as pack
use Rattle.fsfs_machine.specs.declared.contents.Contents.{Contents}
use Rattle.fsfs_machine.specs.declared.contents.Contents.TheVariants.{Number}
use Rattle.fsfs_machine.specs.declared.contents.FileName.TheVariants.{Floor}
use Rattle.fsfs_machine.specs.declared.machine.Section.{Section}
use Rattle.fsfs_machine.specs.declared.machine.Section.TheVariants.{Begun, PackPut, Packed}
use Rattle.fsfs_machine.specs.declared.machine.Lock.TheVariants.{Held}
use Rattle.fsfs_machine.specs.Disk.{found}
use Rattle.fsfs_machine.specs.Machine.{World}
use Rattle.fsfs_machine.specs.Kept.{FloorIs, FloorBy, may_rise, rises}
use Rattle.fsfs_machine.proofs.Images.{read_is_image}
use Rattle.fsfs_turn.specs.Found.{floor_now, shows_now}
use Rattle.fsfs_turn.specs.Packing.{MayRemove}
use Rattle.fsfs_turn.specs.Standing.{IsStore}
use Rattle.fsfs_turn.specs.Views.{View, Sees, IsDue, rev_name}
use Rattle.fsfs_turn.proofs.Stepping.{lock_is}
use Rattle.fsfs_turn.proofs.TurnEnds.{IsAfter}
use Rattle.fsfs_pass.specs.Met.{Lasts}

-- by the floor in these files the shard is packed
abbrev pub IsPackedShard : Layout → Files → ℕ → Type 0
IsPackedShard layout m s = (r : ℕ) × (r < 2 ^ 32) × (is_packed layout m r ≡ true) × (shard_of layout r ≡ s)

-- of these files those of the first n revisions and those of packed shards last
abbrev pub IsLasting : Layout → ℕ → Files → RepositoryFile → Type 0
IsLasting layout n m (file.Revision r) = r < n
IsLasting layout n m (file.Manifest s) = IsPackedShard layout m s
IsLasting layout n m (file.Pack s) = IsPackedShard layout m s
IsLasting layout n m f = ⊥

-- those that a section puts: of revisions to come, of shards that aren't packed, and the small files that name the last revision, the next
-- transaction and the floor
abbrev pub IsPassing : Layout → ℕ → Files → RepositoryFile → Type 0
IsPassing layout n m (file.Revision r) = n ≤ r
IsPassing layout n m (file.Props r) = Unit {0}
IsPassing layout n m (file.Manifest s) = IsPackedShard layout m s → ⊥
IsPassing layout n m (file.Pack s) = IsPackedShard layout m s → ⊥
IsPassing layout n m (file.Only only.Current) = Unit {0}
IsPassing layout n m (file.Only only.CurrentNext) = Unit {0}
IsPassing layout n m (file.Only only.TxnCurrent) = Unit {0}
IsPassing layout n m (file.Only only.TxnCurrentNext) = Unit {0}
IsPassing layout n m (file.Only only.MinUnpackedRev) = Unit {0}
IsPassing layout n m (file.Only only.MinUnpackedRevNext) = Unit {0}
IsPassing layout n m f = ⊥

never_both : (layout : Layout) (n : ℕ) (m : Files) (f : RepositoryFile) → IsLasting layout n m f → IsPassing layout n m f → ⊥
never_both layout n m (file.Revision r) lasting passing = omega (arith, lasting, passing)
never_both layout n m (file.Manifest s) lasting passing = passing lasting
never_both layout n m (file.Pack s) lasting passing = passing lasting
never_both layout n m f lasting passing = absurd lasting

-- the name is of such a file
abbrev pub HasPassingName : Layout → ℕ → Files → List ℕ → Type 0
HasPassingName layout n m name = (f : RepositoryFile) × FitsFile layout f × IsPassing layout n m f × (name ≡ file_name layout f)

-- a change of such names alone; or a revision's own file goes
abbrev pub IsPassingChange : Layout → ℕ → Files → NameChange → Type 0
IsPassingChange layout n m (Put name bytes) = HasPassingName layout n m name
IsPassingChange layout n m (Adopt name bytes) = HasPassingName layout n m name
IsPassingChange layout n m (Rename from to) = HasPassingName layout n m from × HasPassingName layout n m to
IsPassingChange layout n m (Remove name) = (r : ℕ) × (r < 2 ^ 32) × (name ≡ file_name layout (file.Revision r))
IsPassingChange layout n m change = Unit {0}

-- what lasts beside the floor
pub record Remains (layout : Layout) (n : ℕ) (old new : Files) : Type 0 where
  pub own : (r : ℕ) → r < n → r < 2 ^ 32 → (rev_file layout new r ≡ rev_file layout old r) ⊎ (rev_file layout new r ≡ None)
  pub manifest : (r : ℕ) → r < 2 ^ 32 → is_packed layout old r ≡ true → manifest_file new (shard_of layout r) ≡ manifest_file old (shard_of layout r)
  pub pack : (r : ℕ) → r < 2 ^ 32 → is_packed layout old r ≡ true → pack_in new (shard_of layout r) ≡ pack_in old (shard_of layout r)

-- the floor doesn't fall
abbrev pub FloorRises : Layout → Files → Files → Type 0
FloorRises layout old new = (f : ℕ) → floor_in layout old ≡ Ok f → (g : ℕ) × (floor_in layout new ≡ Ok g) × (f ≤ g)

pub lasts_of : (layout : Layout) (n : ℕ) (old new : Files) → Remains layout n old new → FloorRises layout old new → Lasts layout n old new
lasts_of layout n old new r floor = record { own = r.own; floor = floor; manifest = r.manifest; pack = r.pack }

-- behind a removal a file is as it was, or gone
removed_or : (m : Files) (k q : List ℕ) → (get (remove m k) q ≡ get m q) ⊎ (get (remove m k) q ≡ None)
removed_or m k q = by_test (is_eq (slice_cmp nat_cmp q k)) (get-remove nat_list_cmp_total m k q)
  where
    by_test : (b : Bool) → get (remove m k) q ≡ cond b None (get m q) → (get (remove m k) q ≡ get m q) ⊎ (get (remove m k) q ≡ None)
    by_test true e = inr e
    by_test false e = inl e

module _ (layout : Layout) (n : ℕ) (m : Files) where
  shard_fits : (r : ℕ) → r < 2 ^ 32 → shard_of layout r < 2 ^ 32
  shard_fits r fits = div_below r (shard_size layout) (2 ^ 32) (size_some layout) (omega (arith, fits, size_some layout))

  remains_by : (new : Files) → ((f : RepositoryFile) → FitsFile layout f → IsLasting layout n m f → get new (file_name layout f) ≡ get m (file_name layout f)) → Remains layout n m new
  remains_by new same = record {
    own = λ r less fits. inl (same (file.Revision r) fits less);
    manifest = λ r fits packed. same (file.Manifest (shard_of layout r)) (shard_fits r fits) (r, fits, packed, refl);
    pack = λ r fits packed. same (file.Pack (shard_of layout r)) (shard_fits r fits) (r, fits, packed, refl);
  }

  pub remains_same : Remains layout n m m
  remains_same = remains_by m (λ f fits lasting. refl)

  away : (name : List ℕ) → HasPassingName layout n m name → (g : RepositoryFile) → FitsFile layout g → IsLasting layout n m g → file_name layout g ≡ name → ⊥
  away name p g fits lasting e = never_both layout n m g lasting (subst (λ h. IsPassing layout n m h) (sym (names_apart layout g p.0 fits p.1 (e ∙ p.3))) p.2)

  remains_put : (name bytes : List ℕ) → HasPassingName layout n m name → Remains layout n m (insert m name bytes)
  remains_put name bytes p = remains_by (insert m name bytes) (λ g fits lasting. get_kept m name bytes (file_name layout g) (away name p g fits lasting))

  remains_renamed : (from to : List ℕ) (held : Option (List ℕ)) → HasPassingName layout n m from → HasPassingName layout n m to → Remains layout n m (renamed m from to held)
  remains_renamed from to None p q = remains_by (remove (remove m from) to)
      (λ g fits lasting. get_left (remove m from) to (file_name layout g) (away to q g fits lasting) ∙ get_left m from (file_name layout g) (away from p g fits lasting))
  remains_renamed from to (Some bytes) p q = remains_by (insert (remove m from) to bytes)
      (λ g fits lasting. get_kept (remove m from) to bytes (file_name layout g) (away to q g fits lasting) ∙ get_left m from (file_name layout g) (away from p g fits lasting))

  remains_removed : (name : List ℕ) (r : ℕ) → r < 2 ^ 32 → name ≡ file_name layout (file.Revision r) → Remains layout n m (remove m name)
  remains_removed name r small named = record {
    own = λ k less fits. removed_or m name (file_name layout (file.Revision k));
    manifest = λ k fits packed. get_left m name (file_name layout (file.Manifest (shard_of layout k))) (λ e. let same : file.Manifest (shard_of layout k) ≡ file.Revision r = names_apart layout (file.Manifest (shard_of layout k)) (file.Revision r) (shard_fits k fits) small (e ∙ named) in absurd cc);
    pack = λ k fits packed. get_left m name (file_name layout (file.Pack (shard_of layout k))) (λ e. let same : file.Pack (shard_of layout k) ≡ file.Revision r = names_apart layout (file.Pack (shard_of layout k)) (file.Revision r) (shard_fits k fits) small (e ∙ named) in absurd cc);
  }

  pub remains_changed : (change : NameChange) → IsPassingChange layout n m change → Remains layout n m (changed change m)
  remains_changed (Put name bytes) p = remains_put name bytes p
  remains_changed (Adopt name bytes) p = remains_put name bytes p
  remains_changed (Rename from to) p = remains_renamed from to (get m from) p.0 p.1
  remains_changed (Remove name) p = remains_removed name p.0 p.1 p.2
  remains_changed FirmNames p = remains_same
  remains_changed (KeepLabel l) p = remains_same
  remains_changed (DropLabel l) p = remains_same

-- ---- behind a call

some_is : (a b : Trace) → Some a ≡ Some b → a ≡ b
some_is a b e = cc

module _ (layout : Layout) (n : ℕ) (t new : Trace) where
  abbrev Stays : Trace → Type 0
  Stays z = Remains layout n (files_now t) (files_now z)

  pub remains_behind : (change : NameChange) → IsPassingChange layout n (files_now t) change → Performs change (Some t) (Some new) → Stays new
  remains_behind change p done = subst (λ z. Stays z) (sym (some_is new (add_operation (Done change) t) done)) (remains_changed layout n (files_now t) change p)

  remains_tried : (change : NameChange) → Attempts change (Some t) (Some new) → Stays new
  remains_tried change tried = subst (λ z. Stays z) (sym (some_is new (add_operation (Attempted change) t) tried)) (remains_same layout n (files_now t))

  remains_unmoved : Some new ≡ Some t → Stays new
  remains_unmoved same = subst (λ z. Stays z) (sym (some_is new t same)) (remains_same layout n (files_now t))

  pub remains_failed : (change : NameChange) → IsPassingChange layout n (files_now t) change → FailsAt change (Some t) (Some new) → Stays new
  remains_failed change p failed = ⊎_elim (λ same. remains_unmoved same)
      (λ more. ⊎_elim (λ tried. remains_tried change tried) (λ done. remains_behind change p done) more) failed

  pub remains_torn : (name bytes : List ℕ) → HasPassingName layout n (files_now t) name → FailsToPut name bytes (Some t) (Some new) → Stays new
  remains_torn name bytes p failed = ⊎_elim (λ same. remains_unmoved same)
      (λ more. ⊎_elim (λ tried. remains_tried (Put name bytes) tried) (λ (torn : (any : List ℕ) × Performs (Put name any) (Some t) (Some new)). remains_behind (Put name torn.0) p torn.1) more) failed

-- ---- the floor

one_number : (a b : ℕ) (o : Option Contents) → o ≡ Some (Number a) → o ≡ Some (Number b) → a ≡ b
one_number a b o x y = cc

one_floor : (a b : ℕ) (o : Result ℕ SmallFault) → o ≡ Ok a → o ≡ Ok b → a ≡ b
one_floor a b o x y = cc

-- by the files of the machine in both states
pub lasts_rises : (layout : Layout) (low young : ℕ) (stuck : Option DiskPlace) (t new : Trace) (w : World) (v : View) (P : View → Type 0) → IsStore layout low young stuck t w → IsAfter layout low young stuck new w v P → FloorRises layout (files_now t) (files_now new)
lasts_rises layout low young stuck t new w v P store a f is =
    let was = shows_now layout low young stuck t w store in
    let now = shows_now layout low young stuck new a.world a.store in
    let grows : (g : ℕ) × FloorIs g a.world.disk × (was.floor ≤ g) = a.leaves.shown was.floor was.is in
    let same : f ≡ was.floor = one_floor f was.floor (floor_in layout (files_now t)) is (floor_now layout low young stuck t w store) in
    let risen : now.floor ≡ grows.0 = one_number now.floor grows.0 (found a.world.disk Floor) now.is grows.1 in
    (now.floor, floor_now layout low young stuck new a.world a.store, omega (arith, same, risen, grows.2))

-- ---- the calls that are due

-- what is below the first revision of a shard is of no such shard
below_shard : (r f size : ℕ) → 0 < size → f % size ≡ 0 → r < f → r / size ≡ f / size → ⊥
below_shard r f size some first less same =
    let split : f / size * size + f % size ≡ f = div-add-mod' f size in
    let below : r / size < f / size = div_below r size (f / size) some (omega (arith, split, first, less)) in
    omega (arith, below, same)

module _ (low young : ℕ) (stuck : Option DiskPlace) (t : Trace) (w : World) (v : View) (store : IsStore v.layout low young stuck t w) (sees : Sees w v) where
  -- while the floor doesn't rise the files show the firm one
  shows_firm : (s : Section) → v.section ≡ Some s → rises s ≡ false → floor_in v.layout (files_now t) ≡ Ok w.floor
  shows_firm s inside still =
      let held : w.lock ≡ Held v.number s = lock_is v.number w.lock s (sees.section ∙ inside) in
      let may : may_rise w.lock ≡ false = ap may_rise held ∙ still in
      let is : FloorIs w.floor w.disk = subst (λ b. FloorBy b w.size w.floor w.disk) may (store.kept.floors w.disk (read_is_image w.disk)) in
      let shows = shows_now v.layout low young stuck t w store in
      let same : shows.floor ≡ w.floor = one_number shows.floor w.floor (found w.disk Floor) shows.is is in
      floor_now v.layout low young stuck t w store ∙ ap (λ (n : ℕ). Ok n) same

  -- so the shard that is packed next isn't packed
  not_packed : (f : ℕ) (s : Section) → v.firm ≡ Some f → v.section ≡ Some s → rises s ≡ false → IsPackedShard v.layout (files_now t) (f / shard_size v.layout) → ⊥
  unfolding is_packed
  not_packed f s firm inside still p =
      let same : w.floor ≡ f = sees.firm s f inside firm in
      let below : nat_lt p.0 w.floor ≡ true = sym (ap (λ k. is_below p.0 k) (shows_firm s inside still)) ∙ p.2 in
      let less : p.0 < w.floor = is_less p.0 w.floor below in
      below_shard p.0 f (shard_size v.layout) (size_some v.layout) (ap (λ n. place_in_shard v.layout n) (sym same) ∙ store.whole.place) (omega (arith, less, same)) p.3

  next_fits : (f : ℕ) → f < 2 ^ 32 → f / shard_size v.layout < 2 ^ 32
  next_fits f fits = div_below f (shard_size v.layout) (2 ^ 32) (size_some v.layout) (omega (arith, fits, size_some v.layout))

  -- the call of a section that is due changes such names alone
  pub due_passes : (n : ℕ) (place : DiskPlace) (change : NameChange) → IsDue v place change → IsPassingChange v.layout n (files_now t) change
  due_passes n (Begin begin.Put) (Put name bytes) due = (file.Only only.TxnCurrentNext, tt, tt, due.2)
  due_passes n (Begin begin.Rename) (Rename from to) due = ((file.Only only.TxnCurrentNext, tt, tt, due.2), (file.Only only.TxnCurrent, tt, tt, due.3))
  due_passes n (Begin begin.Firm) FirmNames due = tt
  due_passes n (Commit commit.PutProps) (Put name bytes) due = (file.Props (length v.seen), due.4, tt, due.2)
  due_passes n (Commit commit.FirmRev) FirmNames due = tt
  due_passes n (Commit commit.PutCurrent) (Put name bytes) due = (file.Only only.CurrentNext, tt, tt, due.2)
  due_passes n (Commit commit.RenameCurrent) (Rename from to) due = ((file.Only only.CurrentNext, tt, tt, due.2), (file.Only only.Current, tt, tt, due.3))
  due_passes n (Commit commit.FirmCurrent) FirmNames due = tt
  due_passes n (Pack pack.AdoptPack) (Adopt name bytes) due = (
    file.Pack (due.0 / shard_size v.layout),
    next_fits due.0 due.1.fits,
    ⊎_elim (λ begun. not_packed due.0 Begun due.1.firm begun refl) (λ packed. not_packed due.0 Packed due.1.firm packed refl) due.2,
    due.3,
  )
  due_passes n (Pack pack.AdoptManifest) (Adopt name bytes) due = (file.Manifest (due.0 / shard_size v.layout), next_fits due.0 due.1.fits, not_packed due.0 PackPut due.1.firm due.2 refl, due.3)
  due_passes n (Pack pack.FirmPack) FirmNames due = tt
  due_passes n (Pack pack.PutFloor) (Put name bytes) due = (file.Only only.MinUnpackedRevNext, tt, tt, due.3)
  due_passes n (Pack pack.RenameFloor) (Rename from to) due = ((file.Only only.MinUnpackedRevNext, tt, tt, due.1), (file.Only only.MinUnpackedRev, tt, tt, due.2))
  due_passes n (Pack pack.FirmFloor) FirmNames due = tt
  due_passes n place change due = absurd due

-- the file of the revision to come
pub rev_passes : (n : ℕ) (m : Files) (v : View) → length v.seen < 2 ^ 32 → n ≤ length v.seen → HasPassingName v.layout n m (file_name v.layout (file.Revision (length v.seen)))
rev_passes n m v fits all = (file.Revision (length v.seen), fits, all, refl)

-- the own file of a packed revision goes
pub removal_passes : (n : ℕ) (m : Files) (v : View) (r : ℕ) (name : List ℕ) → MayRemove v r → name ≡ rev_name v r → IsPassingChange v.layout n m (Remove name)
removal_passes n m v r name may named = (r, may.fits, named)
