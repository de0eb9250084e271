-- The files that no turn changes are in their formats, and have their bytes, in each image of each moment.
use Rattle.std.proofs.Common.{◌≡◌, ◌+◌, ◌/◌, ◌<◌, ◌^◌, ℕ, List, [], ◌∷◌, length, true, false, ⊎_elim, refl, sym, ap, subst, ◌∙◌, arith}
use Rattle.std.specs.Prelude.{Bool, not, Option, Some, None, unwrap_or}
use Rattle.std.specs.FinMap.{get, insert, remove}
use Rattle.std.proofs.lemmas.Bool.{both_ways}
use Rattle.std.proofs.lemmas.Nat.{div_below}
use Rattle.fsfs_base.specs.Files.{Files, renamed}
use Rattle.fsfs_base.proofs.FileLemmas.{get_kept, get_left}
use Rattle.fsfs_tree.specs.Revisions.{Revision}
use Rattle.fsfs_layout.specs.FileNames.{only_name}
use Rattle.fsfs_layout.specs.Small.{IsUuid}
use Rattle.fsfs_layout.specs.declared.layout.Layout.{Layout}
use Rattle.fsfs_layout.specs.declared.only_file.OnlyFile.{OnlyFile}
use Rattle.fsfs_layout.specs.declared.only_file.OnlyFile.TheVariants as only
use Rattle.fsfs_layout.specs.declared.repository_file.RepositoryFile.{RepositoryFile}
use Rattle.fsfs_layout.specs.declared.repository_file.RepositoryFile.TheVariants as file
use Rattle.fsfs_layout.proofs.Apart.{names_apart}
use Rattle.fsfs_layout.specs.Layouts.{shard_size}
use Rattle.fsfs_layout.proofs.Manifests.{size_some}
use Rattle.fsfs_disk.specs.Trace.{Trace, NameChange, Operation, Done, Attempted, Put, Adopt, Rename, Remove, FirmNames, KeepLabel, DropLabel, change_of, files_after, files_now, IsImage, ImageAfter, TornBy, ImageSince}
use Rattle.fsfs_disk.proofs.CrashLemmas.{image_now, files_are_image}
use Rattle.fsfs_base.specs.declared.places.place.DiskPlace.{DiskPlace}
use Rattle.fsfs_base.specs.declared.places.place.DiskPlace.TheVariants.{Begin, Commit}
use Rattle.fsfs_base.specs.declared.places.place.BeginPlace.TheVariants as begin
use Rattle.fsfs_base.specs.declared.places.place.CommitPlace.TheVariants.{PutProps, FirmRev, PutCurrent, RenameCurrent, FirmCurrent}
use Rattle.fsfs_base.specs.declared.places.place.DiskPlace.TheVariants as disk
use Rattle.fsfs_base.specs.declared.places.place.PackPlace.TheVariants as pack
use Rattle.fsfs_machine.specs.declared.contents.FileName.{FileName}
use Rattle.fsfs_machine.specs.declared.contents.FileName.TheVariants.{Current, CurrentNext, Counter, CounterNext, Floor, FloorNext, Rev, Props, Pack, Manifest}
use Rattle.fsfs_machine.specs.declared.machine.Txn.{Txn}
use Rattle.fsfs_images.specs.RealNames.{machine_file, machine_name}
use Rattle.fsfs_images.specs.Shown.{Fits, IsBeside}
use Rattle.fsfs_images.proofs.RealNaming.{fits_in}
use Rattle.fsfs_turn.specs.declared.since.Since.{Since}
use Rattle.fsfs_turn.specs.Opening.{opened_at}
use Rattle.fsfs_turn.specs.Stands.{HasOwnFiles, KeepsOwnFiles, is_lasting}
use Rattle.fsfs_turn.specs.Views.{View, rev_name, IsFullShard, IsDue, MayAdopt}

abbrev pub is_own : RepositoryFile → Bool
is_own (file.Only only.Format) = true
is_own (file.Only only.FsType) = true
is_own (file.Only only.Uuid) = true
is_own f = false

not_own : (n : FileName) → is_own (machine_file n) ≡ false
not_own Current = refl
not_own CurrentNext = refl
not_own Counter = refl
not_own CounterNext = refl
not_own Floor = refl
not_own FloorNext = refl
not_own (Rev r) = refl
not_own (Props r) = refl
not_own (Pack k) = refl
not_own (Manifest k) = refl

pub own_beside : (layout : Layout) (f : OnlyFile) → is_own (file.Only f) ≡ true → IsBeside layout (only_name f)
own_beside layout f own n fits e =
    let same : machine_file n ≡ file.Only f = names_apart layout (machine_file n) (file.Only f) (fits_in layout n fits) tt e in
    both_ways (is_own (machine_file n)) (not_own n) (ap is_own same ∙ own)

-- where these are the same they are in their formats in both
pub own_moves : (a b : Files) (layout : Layout) → ((f : OnlyFile) → is_own (file.Only f) ≡ true → get b (only_name f) ≡ get a (only_name f)) → HasOwnFiles a layout → HasOwnFiles b layout
own_moves a b layout same own = record {
  format = (own.format.0, record { there = same only.Format refl ∙ own.format.1.there; fs_type = ap (λ (o : Option (List ℕ)). unwrap_or o []) (same only.FsType refl) ∙ own.format.1.fs_type }, own.format.2);
  uuid = (own.uuid.0, subst (λ (o : Option (List ℕ)). IsUuid (unwrap_or o []) own.uuid.0) (sym (same only.Uuid refl)) own.uuid.1);
}

-- they are among those that last
own_lasts : (packs : Bool) (f : OnlyFile) → is_own (file.Only f) ≡ true → is_lasting packs f ≡ true
own_lasts packs only.Format own = refl
own_lasts packs only.FsType own = refl
own_lasts packs only.Uuid own = refl
own_lasts packs f own = absurd cc

-- where those that last are the same, all that is known of them is
keeps_moves : (a b : Files) (layout : Layout) (first : Since) → ((f : OnlyFile) → is_lasting first.packs f ≡ true → get b (only_name f) ≡ get a (only_name f)) → KeepsOwnFiles layout first a → KeepsOwnFiles layout first b
keeps_moves a b layout first same keeps = (own_moves a b layout (λ f own. same f (own_lasts first.packs f own)) keeps.0, λ f lasts. same f lasts ∙ keeps.1 f lasts)

-- so the formats were those that they are
pub were_own : (layout : Layout) (since : Since) (files : Files) → KeepsOwnFiles layout since files → HasOwnFiles since.files layout
were_own layout since files keeps = own_moves files since.files layout (λ f own. sym (keeps.1 f (own_lasts since.packs f own))) keeps.0

-- ---- changes that spare them

-- none of them has this name
abbrev pub IsNotOwn : Bool → List ℕ → Type 0
IsNotOwn packs name = (f : OnlyFile) → is_lasting packs f ≡ true → only_name f ≡ name → ⊥

abbrev pub SparesOwn : Bool → NameChange → Type 0
SparesOwn packs (Put name bytes) = IsNotOwn packs name
SparesOwn packs (Adopt name bytes) = IsNotOwn packs name
SparesOwn packs (Rename from to) = IsNotOwn packs from × IsNotOwn packs to
SparesOwn packs (Remove name) = IsNotOwn packs name
SparesOwn packs FirmNames = Unit {0}
SparesOwn packs (KeepLabel l) = Unit {0}
SparesOwn packs (DropLabel l) = Unit {0}

abbrev lasts_as : Bool → RepositoryFile → Bool
lasts_as packs (file.Only f) = is_lasting packs f
lasts_as packs f = false

-- a name of the machine's is none of theirs
machine_spares : (packs : Bool) (layout : Layout) (n : FileName) → lasts_as packs (machine_file n) ≡ false → Fits n → (name : List ℕ) → name ≡ machine_name layout n → IsNotOwn packs name
machine_spares packs layout n changes fits name named f lasts e =
    let same : machine_file n ≡ file.Only f = names_apart layout (machine_file n) (file.Only f) (fits_in layout n fits) tt (sym (e ∙ named)) in
    both_ways (lasts_as packs (machine_file n)) changes (ap (lasts_as packs) same ∙ lasts)

shard_fits : (v : View) (f : ℕ) → IsFullShard v f → f / shard_size v.layout < 2 ^ 32
shard_fits v f full = div_below f (shard_size v.layout) (2 ^ 32) (size_some v.layout) (omega (arith, full.fits, size_some v.layout))

pub due_spares : (v : View) (place : DiskPlace) (change : NameChange) → IsDue v place change → SparesOwn v.since.packs change
due_spares v (Begin begin.Put) (Put name bytes) d = machine_spares v.since.packs v.layout CounterNext refl tt name d.2
due_spares v (Begin begin.Rename) (Rename from to) d = (machine_spares v.since.packs v.layout CounterNext refl tt from d.2, machine_spares v.since.packs v.layout Counter refl tt to d.3)
due_spares v (Begin begin.Firm) FirmNames d = tt
due_spares v (Commit PutProps) (Put name bytes) d = machine_spares v.since.packs v.layout (Props (length v.seen)) refl d.4 name d.2
due_spares v (Commit FirmRev) FirmNames d = tt
due_spares v (Commit PutCurrent) (Put name bytes) d = machine_spares v.since.packs v.layout CurrentNext refl tt name d.2
due_spares v (Commit RenameCurrent) (Rename from to) d = (machine_spares v.since.packs v.layout CurrentNext refl tt from d.2, machine_spares v.since.packs v.layout Current refl tt to d.3)
due_spares v (Commit FirmCurrent) FirmNames d = tt
due_spares v (disk.Pack pack.AdoptPack) (Adopt name bytes) d = machine_spares v.since.packs v.layout (Pack (d.0 / shard_size v.layout)) refl (shard_fits v d.0 d.1) name d.3
due_spares v (disk.Pack pack.AdoptManifest) (Adopt name bytes) d = machine_spares v.since.packs v.layout (Manifest (d.0 / shard_size v.layout)) refl (shard_fits v d.0 d.1) name d.3
due_spares v (disk.Pack pack.FirmPack) FirmNames d = tt
due_spares v (disk.Pack pack.PutFloor) (Put name bytes) d = machine_spares v.since.packs v.layout FloorNext refl tt name d.3
due_spares v (disk.Pack pack.RenameFloor) (Rename from to) d = (machine_spares v.since.packs v.layout FloorNext refl tt from d.1, machine_spares v.since.packs v.layout Floor (ap not d.3) tt to d.2)
due_spares v (disk.Pack pack.FirmFloor) FirmNames d = tt
due_spares v place change d = absurd d

-- nor is the own file of a packed revision
pub remove_spares : (v : View) (r : ℕ) → r < 2 ^ 32 → (name : List ℕ) → name ≡ rev_name v r → IsNotOwn v.since.packs name
remove_spares v r fits name named = machine_spares v.since.packs v.layout (Rev r) refl fits name named

-- nor is that of a commit's first file
pub adopt_spares : (v : View) (txn : Txn) (properties : List (List ℕ × List ℕ)) (next : Revision) (bytes : List ℕ) → MayAdopt v txn properties next bytes → (name : List ℕ) → name ≡ rev_name v (length v.seen) → IsNotOwn v.since.packs name
adopt_spares v txn properties next bytes may name named = machine_spares v.since.packs v.layout (Rev (length v.seen)) refl may.fits name named

-- ---- an operation more

moved : (name from to : List ℕ) (o : Option (List ℕ)) (m : Files) → (name ≡ from → ⊥) → (name ≡ to → ⊥) → get (renamed m from to o) name ≡ get m name
moved name from to None m not_from not_to = get_left (remove m from) to name not_to ∙ get_left m from name not_from
moved name from to (Some bytes) m not_from not_to = get_kept (remove m from) to bytes name not_to ∙ get_left m from name not_from

module _ (layout : Layout) (first : Since) (now : Files) (Before : Files → Type 0) (here : KeepsOwnFiles layout first now) (before : (m : Files) → Before m → KeepsOwnFiles layout first m) where
  put_beside : (name bytes : List ℕ) → IsNotOwn first.packs name → (m : Files) → (was : Files) × Before was × (m ≡ insert was name bytes) → KeepsOwnFiles layout first m
  put_beside name bytes spares m w = keeps_moves w.0 m layout first (λ f own. ap (λ z. get z (only_name f)) w.2 ∙ get_kept w.0 name bytes (only_name f) (spares f own)) (before w.0 w.1)

  own_after : (change : NameChange) → SparesOwn first.packs change → (m : Files) → ImageAfter change now Before m → KeepsOwnFiles layout first m
  own_after (Put name bytes) spares m i = ⊎_elim (before m) (put_beside name bytes spares m) i
  own_after (Adopt name bytes) spares m i = ⊎_elim (before m) (put_beside name bytes spares m) i
  own_after (Rename from to) spares m i = ⊎_elim (before m)
      (λ w. keeps_moves w.0 m layout first (λ f own. ap (λ z. get z (only_name f)) w.2 ∙ moved (only_name f) from to (get now from) w.0 (spares.0 f own) (spares.1 f own)) (before w.0 w.1)) i
  own_after (Remove name) spares m i = ⊎_elim (before m)
      (λ w. keeps_moves w.0 m layout first (λ f own. ap (λ z. get z (only_name f)) w.2 ∙ get_left w.0 name (only_name f) (spares f own)) (before w.0 w.1)) i
  own_after FirmNames spares m i = subst (λ z. KeepsOwnFiles layout first z) (sym i) here
  own_after (KeepLabel l) spares m i = before m i
  own_after (DropLabel l) spares m i = before m i

  own_torn : (change : NameChange) → SparesOwn first.packs change → (m : Files) → TornBy change Before m → KeepsOwnFiles layout first m
  own_torn (Put name bytes) spares m t = put_beside name t.0 spares m (t.1, t.2, t.3)
  own_torn (Adopt name bytes) spares m t = absurd t
  own_torn (Rename from to) spares m t = absurd t
  own_torn (Remove name) spares m t = absurd t
  own_torn FirmNames spares m t = absurd t
  own_torn (KeepLabel l) spares m t = absurd t
  own_torn (DropLabel l) spares m t = absurd t

-- one that spares them, torn or not
pub own_last : (layout : Layout) (since : Since) (t : Trace) (op : Operation) → SparesOwn since.packs (change_of op) → ((m : Files) → ImageSince since.operations t.first t.operations m → KeepsOwnFiles layout since m)
    → (m : Files) → ImageSince since.operations t.first (op ∷ t.operations) m → KeepsOwnFiles layout since m
own_last layout since t op spares all m i = ⊎_elim (now op spares)
    (λ b. ⊎_elim (own_after layout since (files_now t) (IsImage t.first t.operations) here before (change_of op) spares m)
    (λ c. ⊎_elim (own_torn layout since (files_now t) (IsImage t.first t.operations) here before (change_of op) spares m) (all m) c) b.1) i
  where
    before : (z : Files) → IsImage t.first t.operations z → KeepsOwnFiles layout since z
    before z is = all z (image_now since.operations t.first t.operations z is)

    here : KeepsOwnFiles layout since (files_now t)
    here = before (files_now t) (files_are_image t.first t.operations)

    now : (op : Operation) → SparesOwn since.packs (change_of op) → IsImage t.first (op ∷ t.operations) m → KeepsOwnFiles layout since m
    now (Done change) spares is = own_after layout since (files_now t) (IsImage t.first t.operations) here before change spares m is
    now (Attempted change) spares is = before m is

-- ---- the opening

-- from the firming of names on, with which a store is opened
pub own_from_opening : (layout : Layout) (first : Files) (before : List Operation) → HasOwnFiles (files_after first before) layout → (m : Files) → ImageSince (length before + 1) first (Done FirmNames ∷ before) m → KeepsOwnFiles layout (opened_at first before) m
own_from_opening layout first before own m i = ⊎_elim (λ is. subst (λ z. KeepsOwnFiles layout (opened_at first before) z) (sym is) (own, λ f lasts. refl)) (λ b. absurd (omega (arith, b.0))) i

-- the files now are one of the images
pub own_now : (layout : Layout) (since : Since) (t : Trace) → ((m : Files) → ImageSince since.operations t.first t.operations m → KeepsOwnFiles layout since m) → KeepsOwnFiles layout since (files_now t)
own_now layout since t all = all (files_now t) (image_now since.operations t.first t.operations (files_now t) (files_are_image t.first t.operations))
