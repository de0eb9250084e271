-- What one pass knows of the store, and what a turn is: one step of the machine.
use Rattle.std.specs.Prelude.{◌≡◌, ◌⊎◌, ◌+◌, ◌/◌, ◌<◌, ◌≤◌, ◌^◌, if◌then◌else◌, ℕ, List, [], ◌∷◌, ◌++◌, length, map, take, Bool, true, false, Option, Some, None, slice_get, Result, Ok, Err}
use Rattle.std.specs.FinMap.{get}
use Rattle.fsfs_tree.specs.Revisions.{Revision, tree_of}
use Rattle.fsfs_model.specs.Flat.Transactions.{IsTransaction, IsNext}
use Rattle.fsfs_tree.specs.Dated.{IsDated, last_of}
use Rattle.fsfs_layout.specs.FileNames.{file_name, only_name}
use Rattle.fsfs_layout.specs.Layouts.{shard_size}
use Rattle.fsfs_layout.specs.Manifest.{IsManifest}
use Rattle.fsfs_layout.specs.declared.layout.Layout.{Layout}
use Rattle.fsfs_layout.specs.declared.only_file.OnlyFile.TheVariants as only
use Rattle.fsfs_layout.specs.declared.repository_file.RepositoryFile.TheVariants as file
use Rattle.fsfs_layout.specs.Small.{IsRevLine, IsBase36Line}
use Rattle.fsfs_layout.specs.Hash.Dump.{IsDump}
use Rattle.fsfs_disk.specs.Trace as real
use Rattle.fsfs_machine.specs.declared.contents.Contents.TheVariants.{Number}
use Rattle.fsfs_machine.specs.declared.contents.FileName.TheVariants.{Counter}
use Rattle.fsfs_machine.specs.declared.contents.Part.{Part}
use Rattle.fsfs_machine.specs.Disk.{Disk, found}
use Rattle.fsfs_machine.specs.declared.machine.Recorded.{Recorded}
use Rattle.fsfs_machine.specs.declared.machine.Coming.{Coming}
use Rattle.fsfs_machine.specs.declared.machine.Drawn.{Drawn}
use Rattle.fsfs_machine.specs.declared.machine.Txn.{Txn}
use Rattle.fsfs_base.specs.declared.places.place.DiskPlace.{DiskPlace}
use Rattle.fsfs_base.specs.declared.places.place.DiskPlace.TheVariants.{Begin, Commit, Pack}
use Rattle.fsfs_base.specs.declared.places.place.BeginPlace.TheVariants as begin
use Rattle.fsfs_base.specs.declared.places.place.CommitPlace.TheVariants.{PutRev, PutProps, FirmRev, PutCurrent, RenameCurrent, FirmCurrent}
use Rattle.fsfs_base.specs.declared.places.place.PackPlace.TheVariants as pack
use Rattle.fsfs_machine.specs.declared.machine.Section.{Section}
use Rattle.fsfs_machine.specs.declared.machine.Section.TheVariants.{Begun, CountRead, CountPut, CountRenamed, RevPut, PropsPut, RevFirm, CurrentPut, CurrentRenamed, Doubtful, PackPut, ManifestPut, PackFirm, FloorPut, FloorRenamed, Packed, FloorDoubtful, Over}
use Rattle.fsfs_machine.specs.declared.machine.Pass.{Pass}
use Rattle.fsfs_machine.specs.declared.machine.Went.{Went}
use Rattle.fsfs_machine.specs.declared.machine.Went.TheVariants.{Fine}
use Rattle.fsfs_machine.specs.declared.machine.Outcome.{Outcome}
use Rattle.fsfs_machine.specs.declared.machine.Outcome.TheVariants as outcome
use Rattle.fsfs_machine.specs.declared.machine.Step.{Step}
use Rattle.fsfs_machine.specs.declared.machine.Step.TheVariants as step
use Rattle.fsfs_machine.specs.Machine.{World, Did, Happens, held_by, is_up, is_fine_in, is_quiet, either, answer, learns, reveals, after, spoiled, entry_of, revisions, with_next, last_name, parts_from, starts}
use Rattle.fsfs_machine.specs.Kept.{Kept, IsIn, coming_in, rises}
use Rattle.fsfs_images.specs.Shown.{IsCut}
use Rattle.fsfs_turn.specs.Bytes.{BytesShow, AllShow}
use Rattle.fsfs_turn.specs.declared.since.Since.{Since}

-- What a pass knows. Nothing here but `seen` of the history is more than a machine's pass has.
pub record View : Type 0 where
  -- how the files are laid out
  pub layout : Layout
  -- the moment from which images are spoken of, the opening or a later one: how many operations its disk had done, and the files then
  pub since : Since
  -- how many revisions there were then
  pub opened : ℕ
  -- its number
  pub number : ℕ
  -- how many revisions it has seen, what it was told of, its own revisions, its faults, where it found the lock stuck
  pub pass : Pass
  -- the revisions that it has seen, with the bytes beside each
  pub seen : List Recorded
  -- its section, where it holds the lock
  pub section : Option Section
  -- since it took the lock it was told the youngest number, and that is still the youngest
  pub sure : Bool
  -- the firm floor, where it holds the lock and was told since it took it
  pub firm : Option ℕ
  -- the revision that it left in doubt, with the lock stuck
  pub left : Option Coming
  -- transaction names that it knows to be given
  pub given : List ℕ
  -- it has met the last number that a name has digits for in `txn-current`
  pub full : Bool

abbrev pub coming_at : Option Section → Option Coming
coming_at None = None
coming_at (Some s) = coming_in s

abbrev pub is_held : Option Section → Bool
is_held None = false
is_held (Some s) = true

-- ---- what it knows of `txn-current`

-- the last number that a name has digits for stands there: no name is left
abbrev pub IsFull : Disk → Type 0
IsFull d = (n : ℕ) × (found d Counter ≡ Some (Number n)) × (last_name ≤ n)

-- the name for which a section has read the number there, while the next one hasn't taken its place
abbrev pub drawing_in : Section → Option Drawn
drawing_in (CountRead x) = Some x
drawing_in (CountPut x) = Some x
drawing_in s = None

abbrev pub drawing_at : Option Section → Option Drawn
drawing_at None = None
drawing_at (Some s) = drawing_in s

-- Where no name was left none is, since no step makes the number less. The number that its section has read stands there still.
pub record KnowsNames (met : Bool) (section : Option Section) (d : Disk) : Type 0 where
  pub full : met ≡ true → IsFull d
  pub drawing : (x : Drawn) → drawing_at section ≡ Some x → (found d Counter ≡ Some (Number x.name)) × (x.name < last_name)

-- this is what the pass knows of the store
pub record Sees (w : World) (v : View) : Type 0 where
  pub pass : slice_get w.passes v.number ≡ Some v.pass
  pub seen : v.seen ≡ take v.pass.seen w.history
  pub section : held_by v.number w.lock ≡ v.section
  pub up : is_up w.lock ≡ true
  pub sure : v.sure ≡ true → w.young ≡ v.pass.least
  -- from the first call of its commit on it has seen all
  pub whole : (x : Coming) → coming_at v.section ≡ Some x → v.seen ≡ w.history
  pub given : (k : ℕ) → IsIn k v.given → IsIn k w.given
  pub opened : v.opened ≤ length w.history
  -- the bytes beside what it has seen show it, and each first part of it
  pub shown : AllShow v.seen
  pub names : KnowsNames v.full v.section w.disk
  pub firm : (s : Section) (f : ℕ) → v.section ≡ Some s → v.firm ≡ Some f → w.floor ≡ f

abbrev pub txn_names : List Txn → List ℕ
txn_names xs = map (λ x. x.name) xs

-- The store with these transactions laid in, and no others. Transactions are their owners' alone: a turn says nothing of the others.
abbrev pub with_txns : List Txn → World → World
with_txns xs w = record w { txns = xs; named = []; spent = []; labels = txn_names xs }

-- A TURN IS ONE STEP of the machine: from a store that is kept, in which the pass knew v, to one that is kept, in which it knows u.
-- Between two turns of a pass others may step: these change nothing that it knows.
pub record Turned (txns : List Txn) (step : Step) (outcome : Outcome) (v u : View) : Type 0 where
  pub world : World
  pub kept : Kept (with_txns txns world)
  pub sees : Sees world v
  pub did : Did
  pub happens : Happens (with_txns txns world) step did
  pub answers : did.outcome ≡ outcome
  pub after : Kept (with_txns [] did.world)
  pub leaves : Sees did.world u

-- the names of a revision's two files
abbrev pub rev_name : View → ℕ → List ℕ
rev_name v r = file_name v.layout (file.Revision r)

abbrev pub props_name : View → ℕ → List ℕ
props_name v r = file_name v.layout (file.Props r)

-- ---- what is packed next

-- The pass may pack, and the shard at the firm floor is full, as far as it has seen.
pub record IsFullShard (v : View) (f : ℕ) : Type 0 where
  pub packs : v.since.packs ≡ true
  pub firm : v.firm ≡ Some f
  pub full : f + shard_size v.layout ≤ length v.seen
  pub fits : f < 2 ^ 32

-- its revisions, as they stand one behind another
abbrev pub shard_parts : View → ℕ → List Part
shard_parts v f = parts_from (shard_size v.layout) f v.seen

-- the names of its pack and of the manifest beside it
abbrev pub pack_name : View → ℕ → List ℕ
pack_name v f = file_name v.layout (file.Pack (f / shard_size v.layout))

abbrev pub manifest_name : View → ℕ → List ℕ
manifest_name v f = file_name v.layout (file.Manifest (f / shard_size v.layout))

-- a pack begins: the pass has just taken the lock, or the shard before is packed
abbrev pub MayPack : Option Section → Type 0
MayPack at = (at ≡ Some Begun) ⊎ (at ≡ Some Packed)

-- The call of the disk that is due in the pass's section, by its place: the table of a begin's section, of a commit's and of a pack's.
abbrev pub IsDue : View → DiskPlace → real.NameChange → Type 0
IsDue v (Begin begin.Put) (real.Put name bytes) = (x : Drawn) × (v.section ≡ Some (CountRead x)) × (name ≡ only_name only.TxnCurrentNext) × IsBase36Line bytes x.next
IsDue v (Begin begin.Rename) (real.Rename from to) = (x : Drawn) × (v.section ≡ Some (CountPut x)) × (from ≡ only_name only.TxnCurrentNext) × (to ≡ only_name only.TxnCurrent)
IsDue v (Begin begin.Firm) real.FirmNames = (x : Drawn) × (v.section ≡ Some (CountRenamed x))
IsDue v (Commit PutProps) (real.Put name bytes) = (x : Coming) × (v.section ≡ Some (RevPut x)) × (name ≡ props_name v (length v.seen)) × IsDump bytes x.revision.properties × (length v.seen < 2 ^ 32)
IsDue v (Commit FirmRev) real.FirmNames = (x : Coming) × (v.section ≡ Some (PropsPut x))
IsDue v (Commit PutCurrent) (real.Put name bytes) = (x : Coming) × (v.section ≡ Some (RevFirm x)) × (name ≡ only_name only.CurrentNext) × IsRevLine bytes (length v.seen)
IsDue v (Commit RenameCurrent) (real.Rename from to) = (x : Coming) × (v.section ≡ Some (CurrentPut x)) × (from ≡ only_name only.CurrentNext) × (to ≡ only_name only.Current)
IsDue v (Commit FirmCurrent) real.FirmNames = (x : Coming) × (v.section ≡ Some (CurrentRenamed x))
IsDue v (Pack pack.AdoptPack) (real.Adopt name bytes) = (f : ℕ) × IsFullShard v f × MayPack v.section × (name ≡ pack_name v f) × IsCut (starts 0 (shard_parts v f)) bytes (shard_parts v f)
IsDue v (Pack pack.AdoptManifest) (real.Adopt name bytes) = (f : ℕ) × IsFullShard v f × (v.section ≡ Some PackPut) × (name ≡ manifest_name v f) × IsManifest (shard_size v.layout) bytes (starts 0 (shard_parts v f))
IsDue v (Pack pack.FirmPack) real.FirmNames = v.section ≡ Some ManifestPut
IsDue v (Pack pack.PutFloor) (real.Put name bytes) = (f : ℕ) × (v.firm ≡ Some f) × (v.section ≡ Some PackFirm) × (name ≡ only_name only.MinUnpackedRevNext) × IsRevLine bytes (f + shard_size v.layout)
IsDue v (Pack pack.RenameFloor) (real.Rename from to) = (v.section ≡ Some FloorPut) × (from ≡ only_name only.MinUnpackedRevNext) × (to ≡ only_name only.MinUnpackedRev) × (v.since.packs ≡ true)
IsDue v (Pack pack.FirmFloor) real.FirmNames = v.section ≡ Some FloorRenamed
IsDue v place change = ⊥

-- the answer of a call says how it went
abbrev pub Answers : {X E : Type 0} → Result X E → Went → Type 0
Answers (Ok x) went = is_fine_in went ≡ true
Answers (Err e) went = is_fine_in went ≡ false

-- the names that a pass knows, after a call of its section
abbrev pub given_by : Section → Went → List ℕ → List ℕ
given_by (CountRenamed x) Fine given = x.name ∷ given
given_by s went given = given

-- the firm floor that a pass knows, after a call of its section: with the name of the floor's file firm the next is
abbrev pub firm_by : Section → Went → ℕ → Option ℕ → Option ℕ
firm_by FloorRenamed Fine size (Some f) = Some (f + size)
firm_by s went size firm = firm

-- after `min-unpacked-rev` was read: what stands there is firm, but where its renaming isn't
abbrev pub firm_read : Option Section → Went → ℕ → Option ℕ → Option ℕ
firm_read (Some s) Fine floor firm = if rises s then firm else Some floor
firm_read at went floor firm = firm

-- the pass after a call of its section s, by which it saw the history h
abbrev pub called_view : List Recorded → DiskPlace → Went → Section → View → View
called_view h place went s v = record v { pass = learns (length h) place went v.pass; seen = h; section = Some (either went (after s) (spoiled s)); firm = firm_by s went (shard_size v.layout) v.firm; given = given_by s went v.given }

-- the later history begins with the earlier
abbrev pub Begins : List Recorded → List Recorded → Type 0
Begins h g = (more : List Recorded) × (h ≡ g ++ more)

-- the call at this place of the pass's section was made, and went so
pub record Called (place : DiskPlace) (went : Went) (v u : View) : Type 0 where
  pub turned : Turned [] (step.Call v.number place went) (answer went) v u
  pub inside : Section
  pub was : v.section ≡ Some inside
  pub is : u ≡ called_view u.seen place went inside v
  pub grows : Begins u.seen v.seen
  -- while a revision is to come nobody else adds one
  pub same : (x : Coming) → coming_at v.section ≡ Some x → u.seen ≡ v.seen

-- a transaction is one over these revisions
abbrev pub IsTxnOver : List Recorded → Txn → Type 0
IsTxnOver h x = IsTransaction (tree_of (revisions h)) (last_of (revisions h)) x.base (get x.tree) x.marks

-- A commit may put its revision file: the pass has just taken the lock, was told the youngest number since, and has seen it; the
-- transaction is one over what it has seen, under a name that was given; and the next revision is the landing of its entry there,
-- with bytes that show it beside those before.
pub record MayAdopt (v : View) (txn : Txn) (properties : List (List ℕ × List ℕ)) (next : Revision) (bytes : List ℕ) : Type 0 where
  pub begun : v.section ≡ Some Begun
  pub sure : v.sure ≡ true
  pub seen : v.pass.least < length v.seen
  pub given : IsIn txn.name v.given
  pub over : IsTxnOver v.seen txn
  pub dated : IsDated properties
  pub next_is : IsNext (revisions v.seen) (entry_of v.number txn properties) next
  pub shows : BytesShow (v.seen ++ record { revision = next; bytes = bytes } ∷ [])
  pub fits : length v.seen < 2 ^ 32

-- the revision to come
abbrev pub coming_of : View → Txn → List (List ℕ × List ℕ) → Revision → List ℕ → Coming
coming_of v txn properties next bytes = record { entry = entry_of v.number txn properties; revision = next; bytes = bytes }

-- the pass after its first call of a commit
abbrev pub adopting_view : Went → Coming → View → View
adopting_view went x v = record v { pass = learns (length v.seen) (Commit PutRev) went v.pass; section = Some (either went (RevPut x) Over) }

-- the revision file was put, and the call went so; the transaction is used up
pub record Adopted (txn : Txn) (properties : List (List ℕ × List ℕ)) (next : Revision) (bytes : List ℕ) (went : Went) (v u : View) : Type 0 where
  pub turned : Turned (txn ∷ []) (step.AdoptRev v.number 0 properties bytes went) (answer went) v u
  pub is : u ≡ adopting_view went (coming_of v txn properties next bytes) v

-- the pass was told the youngest number; where it holds the lock, it is sure of it
pub record Looked (young : ℕ) (v u : View) : Type 0 where
  pub turned : Turned [] (step.Look v.number) (outcome.Youngest young) v u
  pub is : u ≡ record v { pass = record v.pass { least = young }; sure = is_held v.section }
  pub least : v.pass.least ≤ young
  pub seen : length v.seen ≤ young + 1

-- the pass has taken the lock
pub record LockTaken (v u : View) : Type 0 where
  pub turned : Turned [] (step.TakeLock v.number) outcome.Done v u
  pub is : u ≡ record v { section = Some Begun; sure = false; firm = None }

-- or found it stuck
pub record FoundStuck (place : DiskPlace) (v u : View) : Type 0 where
  pub turned : Turned [] (step.TakeLock v.number) (outcome.Stuck place) v u
  pub is : u ≡ record v { pass = record v.pass { stuck = Some place } }

-- the lock is to be left stuck at this place: `current` may name the revision to come, or `min-unpacked-rev` the next floor
abbrev pub MustStick : DiskPlace → View → Type 0
MustStick place v = ((x : Coming) × (v.section ≡ Some (Doubtful place x))) ⊎ (v.section ≡ Some (FloorDoubtful place))

-- the lock may be given
pub record MayGive (v : View) : Type 0 where
  pub inside : Section
  pub is : v.section ≡ Some inside
  pub quiet : is_quiet inside ≡ true

-- what is left in doubt behind a section: the revision of one that leaves the lock stuck
abbrev pub left_by : Option Section → Option Coming → Option Coming
left_by (Some (Doubtful place x)) left = Some x
left_by s left = left

-- the pass is in no section any more
abbrev pub outside : View → View
outside v = record v { section = None; sure = false; left = left_by v.section v.left }

pub record LockGiven (step : Step) (v u : View) : Type 0 where
  pub turned : Turned [] step outcome.Done v u
  pub is : u ≡ outside v

-- the revision is in the history
abbrev pub revealed_view : Coming → View → View
revealed_view x v = record v { pass = reveals (length v.seen) v.pass; seen = with_next v.seen x; section = Some Over; sure = false }

pub record Revealed (x : Coming) (v u : View) : Type 0 where
  pub turned : Turned [] (step.Reveal v.number) outcome.Done v u
  pub is : u ≡ revealed_view x v
