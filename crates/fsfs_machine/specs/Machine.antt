-- The machine: what each step makes of the state, and what it answers.
use Rattle.std.specs.Prelude.{◌≡◌, ◌⊎◌, ◌==◌, ◌+◌, ◌-◌, ◌/◌, ◌&&◌, ◌||◌, ◌^◌, not, nat_lt, nat_le, max, min, ℕ, suc, zero, List, [], ◌∷◌, ◌++◌, length, map, take, drop, Bool, true, false, Option, Some, None, if◌then◌else◌, slice_get}
use Rattle.std.specs.FinMap.{FinMap, get}
use Rattle.std.specs.FinMap as finmap
use Rattle.fsfs_model.specs.declared.flat.edit.Edit.{Edit}
use Rattle.fsfs_model.specs.declared.flat.mark.Mark.{Mark}
use Rattle.fsfs_base.specs.declared.kind.Kind.TheVariants.{Dir}
use Rattle.fsfs_base.specs.Paths.{Path, path_cmp}
use Rattle.fsfs_tree.specs.Nodes.{Node, empty_node}
use Rattle.fsfs_model.specs.Flat.Edits.{accepts, applied, mark_of, within_limits}
use Rattle.fsfs_model.specs.Flat.Landing.{land, NoClash, IsFirstClash}
use Rattle.fsfs_tree.specs.Revisions.{Revision, tree_of}
use Rattle.fsfs_model.specs.Flat.Transactions.{Entry, IsNext}
use Rattle.fsfs_tree.specs.Dated.{IsDated, last_of}
use Rattle.fsfs_machine.specs.declared.contents.FileName.{FileName}
use Rattle.fsfs_machine.specs.declared.contents.FileName.TheVariants.{Current, CurrentNext, Counter, CounterNext, Floor, FloorNext, Rev, Props, Pack, Manifest}
use Rattle.fsfs_machine.specs.declared.contents.Contents.{Contents}
use Rattle.fsfs_machine.specs.declared.contents.Contents.TheVariants.{RevFile, PropsFile, Number, PackFile, ManifestFile}
use Rattle.fsfs_machine.specs.declared.contents.Part.{Part}
use Rattle.fsfs_machine.specs.declared.contents.NameChange.{NameChange}
use Rattle.fsfs_machine.specs.declared.contents.NameChange.TheVariants.{Put, Rename, Remove, Firm}
use Rattle.fsfs_machine.specs.declared.machine.Recorded.{Recorded}
use Rattle.fsfs_machine.specs.declared.machine.Txn.{Txn}
use Rattle.fsfs_machine.specs.declared.machine.Coming.{Coming}
use Rattle.fsfs_machine.specs.declared.machine.Drawn.{Drawn}
use Rattle.fsfs_base.specs.declared.places.place.DiskPlace.{DiskPlace}
use Rattle.fsfs_base.specs.declared.places.place.DiskPlace.TheVariants.{Read, Begin, Commit}
use Rattle.fsfs_base.specs.declared.places.place.PackPlace.TheVariants as pack
use Rattle.fsfs_base.specs.declared.places.place.DiskPlace.TheVariants as place
use Rattle.fsfs_base.specs.declared.places.place.BeginPlace.TheVariants as begin
use Rattle.fsfs_base.specs.declared.places.place.CommitPlace.TheVariants.{PutRev, PutProps, FirmRev, PutCurrent, RenameCurrent, FirmCurrent}
use Rattle.fsfs_machine.specs.declared.machine.Section.{Section}
use Rattle.fsfs_machine.specs.declared.machine.Section.TheVariants.{Begun, CountRead, CountPut, CountRenamed, RevPut, PropsPut, RevFirm, CurrentPut, CurrentRenamed, CurrentFirm, Doubtful, PackPut, ManifestPut, PackFirm, FloorPut, FloorRenamed, Packed, FloorDoubtful, Over}
use Rattle.fsfs_machine.specs.declared.machine.Lock.{Lock}
use Rattle.fsfs_machine.specs.declared.machine.Lock.TheVariants.{Free, Held, Stuck, Down, DownDoubtful, StuckFloor, DownFloor}
use Rattle.fsfs_machine.specs.declared.machine.Pass.{Pass}
use Rattle.fsfs_machine.specs.declared.machine.Went.{Went}
use Rattle.fsfs_machine.specs.declared.machine.Went.TheVariants.{Fine, After, Torn}
use Rattle.fsfs_machine.specs.declared.machine.Outcome.{Outcome}
use Rattle.fsfs_machine.specs.declared.machine.Outcome.TheVariants as outcome
use Rattle.fsfs_machine.specs.declared.machine.Step.{Step}
use Rattle.fsfs_machine.specs.declared.machine.Step.TheVariants as step
use Rattle.fsfs_machine.specs.Disk.{Disk, found, shown, left, is_picked}

pub record World : Type 0 where
  pub disk : Disk
  pub lock : Lock
  pub young : ℕ
  -- each revision with the bytes beside it
  pub history : List Recorded
  -- how many revisions there were at the opening
  pub opening : ℕ
  -- the entries of the revisions since, in order
  pub since : List Entry
  -- how many revisions a shard has
  pub size : ℕ
  -- the `min-unpacked-rev` that the opening read
  pub low : ℕ
  -- the `min-unpacked-rev` that is firm
  pub floor : ℕ
  -- the numbers of the transaction names given, the newest first
  pub given : List ℕ
  -- the names of the transactions whose labels the disk keeps
  pub labels : List ℕ
  -- the names given whose transactions have no bench yet, with their bases
  pub named : List Drawn
  -- the transactions under way
  pub txns : List Txn
  -- the names of the transactions that are no more, and whose labels are to be dropped
  pub spent : List ℕ
  pub passes : List Pass

-- what a step leaves, and what it answers
pub record Did : Type 0 where
  pub world : World
  pub outcome : Outcome

abbrev pub did : World → Outcome → Did
did w o = record { world = w; outcome = o }

-- a step that isn't allowed changes nothing
abbrev pub barred : World → Did
barred w = did w outcome.Barred

-- the revisions without the bytes beside them
abbrev pub revisions : List Recorded → List Revision
revisions h = map (λ x. x.revision) h

abbrev pub recorded : Coming → Recorded
recorded x = record { revision = x.revision; bytes = x.bytes }

abbrev pub with_next : List Recorded → Coming → List Recorded
with_next h x = h ++ recorded x ∷ []

-- the revision file that shows a revision
abbrev pub file_of : Recorded → Contents
file_of x = RevFile x.revision.tree x.revision.changes x.bytes

-- the place of the call that comes next, with its test
abbrev pub is_due : Section → DiskPlace → Bool
is_due (CountRead x) (Begin begin.Put) = true
is_due (CountPut x) (Begin begin.Rename) = true
is_due (CountRenamed x) (Begin begin.Firm) = true
is_due (RevPut x) (Commit PutProps) = true
is_due (PropsPut x) (Commit FirmRev) = true
is_due (RevFirm x) (Commit PutCurrent) = true
is_due (CurrentPut x) (Commit RenameCurrent) = true
is_due (CurrentRenamed x) (Commit FirmCurrent) = true
is_due Begun (place.Pack pack.AdoptPack) = true
is_due PackPut (place.Pack pack.AdoptManifest) = true
is_due ManifestPut (place.Pack pack.FirmPack) = true
is_due PackFirm (place.Pack pack.PutFloor) = true
is_due FloorPut (place.Pack pack.RenameFloor) = true
is_due FloorRenamed (place.Pack pack.FirmFloor) = true
is_due Packed (place.Pack pack.AdoptPack) = true
is_due s place = false

-- the list with the element at a place changed
abbrev pub at_place : {A : Type 0} → List A → ℕ → (A → A) → List A
at_place [] p f = []
at_place (x ∷ xs) zero f = f x ∷ xs
at_place (x ∷ xs) (suc p) f = x ∷ at_place xs p f

-- the list without the element at a place
abbrev pub without_place : {A : Type 0} → List A → ℕ → List A
without_place xs p = take p xs ++ drop (p + 1) xs

-- How a call of the disk ends: a failed one leaves what was before, or what success leaves, or (a put) the name with anything.
abbrev pub comes : Went → NameChange → Option NameChange
comes Fine change = Some change
comes After change = Some change
comes (Torn any) (Put n c) = Some (Put n any)
comes went change = None

abbrev pub add : Option NameChange → Disk → Disk
add None d = d
add (Some change) d = change ∷ d

abbrev pub disk_after : Went → NameChange → Disk → Disk
disk_after went change d = add (comes went change) d

abbrev pub is_fine_in : Went → Bool
is_fine_in Fine = true
is_fine_in went = false

abbrev pub either : {A : Type 0} → Went → A → A → A
either went fine ill = if is_fine_in went then fine else ill

abbrev pub answer : Went → Outcome
answer went = either went outcome.Done outcome.Failed

-- whether a call takes effect, however it ends
abbrev pub takes_effect : Went → Bool
takes_effect Fine = true
takes_effect After = true
takes_effect went = false

abbrev pub without : ℕ → List ℕ → List ℕ
without k [] = []
without k (x ∷ xs) = if x == k then without k xs else x ∷ without k xs

-- the labels after one was to be made, or dropped; a failed call leaves it or not
abbrev pub labelled : Went → ℕ → List ℕ → List ℕ
labelled went name labels = if takes_effect went then name ∷ labels else labels

abbrev pub unlabelled : Went → ℕ → List ℕ → List ℕ
unlabelled went name labels = if takes_effect went then without name labels else labels

abbrev pub has_label : ℕ → List ℕ → Bool
has_label k [] = false
has_label k (x ∷ xs) = x == k || has_label k xs

abbrev pub label_where : Bool → ℕ → List ℕ → List ℕ
label_where true k ks = k ∷ ks
label_where false k ks = ks

-- a crash leaves each label or not
abbrev pub labels_left : List Bool → List ℕ → List ℕ
labels_left picks [] = []
labels_left picks (k ∷ ks) = label_where (is_picked picks) k (labels_left (drop 1 picks) ks)

-- a turn shows a pass the history, of n revisions; the place of its fault is kept
abbrev pub learns : ℕ → DiskPlace → Went → Pass → Pass
learns n place went x = record x { seen = n; faults = either went x.faults (x.faults ++ place ∷ []) }

-- the holder's call
abbrev pub ended : World → ℕ → DiskPlace → NameChange → Section → Went → World
ended w p place change section went =
    record w { disk = disk_after went change w.disk; lock = Held p section; passes = at_place w.passes p (learns (length w.history) place went) }

abbrev pub at_call : World → ℕ → DiskPlace → NameChange → Section → Section → Went → World
at_call w p place change after spoiled went = ended w p place change (either went after spoiled) went

-- the change that the call makes which is due; a rename moves the file that is there
abbrev pub rename_of : FileName → FileName → Option Contents → Option NameChange
rename_of from to None = None
rename_of from to (Some c) = Some (Rename from to c)

-- ---- packs

abbrev pub part_of : Recorded → Part
part_of x = record { tree = x.revision.tree; changes = x.revision.changes; bytes = x.bytes }

abbrev pub part_at : Option Recorded → Option Part
part_at None = None
part_at (Some x) = Some (part_of x)

-- the revisions of the shard that begins at this floor
abbrev pub parts_from : ℕ → ℕ → List Recorded → List Part
parts_from size floor h = map part_of (take size (drop floor h))

-- where each begins, one behind another
abbrev pub starts : ℕ → List Part → List ℕ
starts at [] = []
starts at (x ∷ xs) = at ∷ starts (at + length x.bytes) xs

-- the pack of these, and its manifest
abbrev pub pack_of : List Part → Contents
pack_of xs = PackFile (starts 0 xs) xs

abbrev pub manifest_of : List Part → Contents
manifest_of xs = ManifestFile (starts 0 xs)

-- the shard at the floor
abbrev pub next_parts : World → List Part
next_parts w = parts_from w.size w.floor w.history

-- a pack's first call, where that shard is full
abbrev pub first_of_pack : World → Option NameChange
first_of_pack w = if nat_le (w.floor + w.size) (length w.history) then Some (Put (Pack (w.floor / w.size)) (pack_of (next_parts w))) else None

abbrev pub due : World → Section → Option NameChange
due w (CountRead x) = Some (Put CounterNext (Number x.next))
due w (CountPut x) = rename_of CounterNext Counter (found w.disk CounterNext)
due w (CountRenamed x) = Some Firm
due w (RevPut x) = Some (Put (Props (length w.history)) (PropsFile x.revision.properties))
due w (PropsPut x) = Some Firm
due w (RevFirm x) = Some (Put CurrentNext (Number (length w.history)))
due w (CurrentPut x) = rename_of CurrentNext Current (found w.disk CurrentNext)
due w (CurrentRenamed x) = Some Firm
due w Begun = first_of_pack w
due w PackPut = Some (Put (Manifest (w.floor / w.size)) (manifest_of (next_parts w)))
due w ManifestPut = Some Firm
due w PackFirm = Some (Put FloorNext (Number (w.floor + w.size)))
due w FloorPut = rename_of FloorNext Floor (found w.disk FloorNext)
due w FloorRenamed = Some Firm
due w Packed = first_of_pack w
due w s = None

-- where the section is after it
abbrev pub after : Section → Section
after (CountRead x) = CountPut x
after (CountPut x) = CountRenamed x
after (RevPut x) = PropsPut x
after (PropsPut x) = RevFirm x
after (RevFirm x) = CurrentPut x
after (CurrentPut x) = CurrentRenamed x
after (CurrentRenamed x) = CurrentFirm x
after Begun = PackPut
after PackPut = ManifestPut
after ManifestPut = PackFirm
after PackFirm = FloorPut
after FloorPut = FloorRenamed
after FloorRenamed = Packed
after Packed = PackPut
after s = Over

-- and after a fault there
abbrev pub spoiled : Section → Section
spoiled (CurrentPut x) = Doubtful (Commit RenameCurrent) x
spoiled (CurrentRenamed x) = Doubtful (Commit FirmCurrent) x
spoiled FloorPut = FloorDoubtful (place.Pack pack.RenameFloor)
spoiled FloorRenamed = FloorDoubtful (place.Pack pack.FirmFloor)
spoiled s = Over

abbrev pub tree_in : Option Revision → FinMap path_cmp Node
tree_in None = finmap.empty
tree_in (Some x) = x.tree

-- a new transaction: the tree of its base, and no marks
abbrev pub begun_txn : List Recorded → Drawn → Txn
begun_txn h x = record { name = x.name; base = x.base; tree = tree_in (slice_get (revisions h) x.base); marks = []; landings = 0 }

-- the name that is given, or the floor that is raised, as the names are firm
abbrev pub gives : Section → Went → World → World
gives (CountRenamed x) Fine w = record w { given = x.name ∷ w.given; named = w.named ++ x ∷ [] }
gives FloorRenamed Fine w = record w { floor = w.floor + w.size }
gives s went w = w

abbrev pub called_by : World → ℕ → DiskPlace → Went → Section → Option NameChange → Did
called_by w p place went s None = barred w
called_by w p place went s (Some change) = did (at_call (gives s went w) p place change (after s) (spoiled s) went) (answer went)

abbrev pub called : World → ℕ → DiskPlace → Went → Section → Did
called w p place went s = if is_due s place then called_by w p place went s (due w s) else barred w

abbrev pub number_of : Option Contents → Option ℕ
number_of (Some (Number k)) = Some k
number_of o = None

-- TxnRead: a begin's first call
abbrev pub count_read : World → ℕ → ℕ → Went → ℕ → World
count_read w p b went k =
    record w {
      lock = Held p (either went (CountRead (record { name = k; next = k + 1; base = b })) Over);
      passes = at_place w.passes p (learns (length w.history) (Begin begin.Read) went);
    }

-- The last number that a transaction's name has digits for: thirteen in base 36. Behind it no number could come, so no name has it.
abbrev pub last_name : ℕ
last_name = 36 ^ 13 - 1

abbrev pub counted : World → ℕ → ℕ → Went → Option ℕ → Did
counted w p b went None = barred w
counted w p b went (Some k) = if nat_lt b (length w.history) && nat_lt k last_name then did (count_read w p b went k) (answer went) else barred w

abbrev pub drawn : World → ℕ → ℕ → Went → Section → Did
drawn w p b went Begun = counted w p b went (number_of (found w.disk Counter))
drawn w p b went s = barred w

-- the section of the pass, where it holds the lock
abbrev pub held_by : ℕ → Lock → Option Section
held_by p (Held q s) = if q == p then Some s else None
held_by p lock = None

abbrev pub inside : World → (Section → Did) → Option Section → Did
inside w f None = barred w
inside w f (Some s) = f s

-- the pass has just taken the lock
abbrev pub is_begun : Option Section → Bool
is_begun (Some Begun) = true
is_begun o = false

abbrev pub has_begun_by : ℕ → Lock → Bool
has_begun_by p lock = is_begun (held_by p lock)

-- the entry of a transaction that the pass commits
abbrev pub entry_of : ℕ → Txn → List (List ℕ × List ℕ) → Entry
entry_of p t properties = record { pass = p; base = t.base; tree = t.tree; marks = t.marks; properties = properties }

-- committing the entry adds this revision to the history
abbrev pub Adds : List Recorded → Entry → Revision → Type 0
Adds h e next = IsDated e.properties × IsNext (revisions h) e next

-- the revision that this commit adds to the history, with the bytes that the step brings
pub record IsComing (h : List Recorded) (e : Entry) (bytes : List ℕ) (x : Coming) : Type 0 where
  pub entry : x.entry ≡ e
  pub brought : x.bytes ≡ bytes
  pub adds : Adds h e x.revision

-- PutRev: a commit's first call; the transaction is used up, and its label is yet to be dropped
abbrev pub adopted : World → ℕ → ℕ → ℕ → Went → Coming → World
adopted w p t name went x = at_call (record w { txns = without_place w.txns t; spent = w.spent ++ name ∷ [] }) p (Commit PutRev) (Put (Rev (length w.history)) (file_of (recorded x))) (RevPut x) Over went

abbrev pub AdoptsOf : World → ℕ → ℕ → ℕ → Entry → List ℕ → Went → Did → Type 0
AdoptsOf w p t name e bytes went d =
    ((x : Coming) × IsComing w.history e bytes x × (d ≡ did (adopted w p t name went x) (answer went)))
    ⊎ (((next : Revision) → Adds w.history e next → ⊥) × (d ≡ barred w))

abbrev pub AdoptsTxn : World → ℕ → ℕ → List (List ℕ × List ℕ) → List ℕ → Went → Option Txn → Did → Type 0
AdoptsTxn w p t properties bytes went None d = d ≡ barred w
AdoptsTxn w p t properties bytes went (Some txn) d = AdoptsOf w p t txn.name (entry_of p txn properties) bytes went d

abbrev pub Adopts : World → ℕ → ℕ → List (List ℕ × List ℕ) → List ℕ → Went → Bool → Did → Type 0
Adopts w p t properties bytes went false d = d ≡ barred w
Adopts w p t properties bytes went true d = AdoptsTxn w p t properties bytes went (slice_get w.txns t) d

-- an accepted edit: the tree after it, and one mark more
abbrev pub edited : FinMap path_cmp Node → Mark → Txn → Txn
edited tree mark x = record x { tree = tree; marks = x.marks ++ mark ∷ [] }

abbrev pub EditsIf : World → ℕ → Edit → Txn → Bool → Did → Type 0
EditsIf w t edit x false d = d ≡ barred w
EditsIf w t edit x true d =
    (tree : FinMap path_cmp Node) × ((q : Path) → get tree q ≡ applied edit (tree_of (revisions w.history)) (get x.tree) q)
    × (d ≡ did (record w { txns = at_place w.txns t (edited tree (mark_of edit (tree_of (revisions w.history)) (get x.tree))) }) outcome.Done)

abbrev pub Edits : World → ℕ → Edit → Option Txn → Did → Type 0
Edits w t edit None d = d ≡ barred w
Edits w t edit (Some x) d = EditsIf w t edit x (accepts edit (tree_of (revisions w.history)) (last_of (revisions w.history)) (get x.tree) && within_limits edit x.tree) d

-- a merge without a clash: the transaction stands on the head, with the tree landed there
abbrev pub merged : FinMap path_cmp Node → ℕ → Txn → Txn
merged tree head x = record x { base = head; tree = tree; landings = min (x.landings + 1) (2 ^ 64 - 1) }

abbrev pub MergesIf : World → ℕ → ℕ → Txn → Bool → Did → Type 0
MergesIf w t head x false d = d ≡ barred w
MergesIf w t head x true d =
    (NoClash x.base (tree_of (revisions w.history) x.base) (tree_of (revisions w.history) head) (get x.tree) x.marks
    × (tree : FinMap path_cmp Node)
    × ((q : Path) → get tree q ≡ land (tree_of (revisions w.history) x.base) (tree_of (revisions w.history) head) (get x.tree) x.marks head q)
    × (d ≡ did (record w { txns = at_place w.txns t (merged tree head) }) outcome.Done))
    ⊎ ((q : Path) × IsFirstClash x.base (tree_of (revisions w.history) x.base) (tree_of (revisions w.history) head) (get x.tree) x.marks q
    × (d ≡ did w (outcome.Conflict q)))

abbrev pub Merges : World → ℕ → ℕ → Option Txn → Did → Type 0
Merges w t head None d = d ≡ barred w
Merges w t head (Some x) d = MergesIf w t head x (nat_le x.base head && nat_lt head (length w.history)) d

-- the lock is never given from `RenameCurrent`'s end to the reveal, nor from `RenameFloor`'s end to `FirmFloor`'s
abbrev pub is_quiet : Section → Bool
is_quiet (CurrentRenamed x) = false
is_quiet (CurrentFirm x) = false
is_quiet (Doubtful place x) = false
is_quiet FloorRenamed = false
is_quiet (FloorDoubtful place) = false
is_quiet s = true

abbrev pub let_go : World → Section → Did
let_go w s = if is_quiet s then did (record w { lock = Free }) outcome.Done else barred w

abbrev pub stuck_at : World → Section → Did
stuck_at w (Doubtful place x) = did (record w { lock = Stuck place x }) outcome.Done
stuck_at w (FloorDoubtful place) = did (record w { lock = StuckFloor place }) outcome.Done
stuck_at w s = barred w

-- a pass has revealed the revision that follows n others
abbrev pub reveals : ℕ → Pass → Pass
reveals n x = record x { seen = n + 1; mine = x.mine ++ n ∷ [] }

abbrev pub revealed : World → ℕ → Section → Did
revealed w p (CurrentFirm x) =
    did (record w {
      history = with_next w.history x;
      since = w.since ++ x.entry ∷ [];
      young = length w.history;
      lock = Held p Over;
      passes = at_place w.passes p (reveals (length w.history));
    }) outcome.Done
revealed w p s = barred w

abbrev pub taken : World → ℕ → Lock → Did
taken w p Free = did (record w { lock = Held p Begun }) outcome.Done
taken w p (Stuck place x) = did (record w { passes = at_place w.passes p (λ y. record y { stuck = Some place }) }) (outcome.Stuck place)
taken w p (StuckFloor place) = did (record w { passes = at_place w.passes p (λ y. record y { stuck = Some place }) }) (outcome.Stuck place)
taken w p lock = barred w

abbrev pub is_up : Lock → Bool
is_up Down = false
is_up (DownDoubtful x) = false
is_up DownFloor = false
is_up lock = true

-- a look tells the youngest revision
abbrev pub looked : World → ℕ → Did
looked w p = did (record w { passes = at_place w.passes p (λ x. record x { least = w.young }) }) (outcome.Youngest w.young)

-- the pass has seen revision r, or was told of it
abbrev pub is_known : Pass → ℕ → Bool
is_known x r = nat_lt r x.seen || nat_le r x.least

-- a range of a revision file
abbrev pub range_of : ℕ → ℕ → Option Contents → Outcome
range_of offset size (Some (RevFile tree changes bytes)) = outcome.Bytes (take size (drop offset bytes))
range_of offset size o = outcome.Missing

abbrev pub turned : World → ℕ → DiskPlace → Went → World
turned w p place went = record w { passes = at_place w.passes p (learns (length w.history) place went) }

abbrev pub has_read : World → ℕ → ℕ → ℕ → ℕ → Went → Option Pass → Did
has_read w p r offset size went None = barred w
has_read w p r offset size went (Some x) =
    if is_known x r then did (turned w p Read went) (either went (range_of offset size (shown w.size x.floor w.disk r)) outcome.Failed) else barred w

-- the properties in a file
abbrev pub properties_in : Option Contents → Outcome
properties_in (Some (PropsFile properties)) = outcome.Properties properties
properties_in o = outcome.Missing

abbrev pub has_read_props : World → ℕ → ℕ → Went → Option Pass → Did
has_read_props w p r went None = barred w
has_read_props w p r went (Some x) =
    if is_known x r then did (turned w p Read went) (either went (properties_in (found w.disk (Props r))) outcome.Failed) else barred w

abbrev pub floor_of : Option ℕ → Outcome
floor_of (Some k) = outcome.Floor k
floor_of None = outcome.Missing

abbrev pub raised : Option ℕ → ℕ → ℕ
raised (Some k) floor = max floor k
raised None floor = floor

abbrev pub sees_floor : ℕ → Went → Option ℕ → Pass → Pass
sees_floor n went o x = record x { seen = n; faults = either went x.faults (x.faults ++ Read ∷ []); floor = either went (raised o x.floor) x.floor }

abbrev pub floor_read : World → ℕ → Went → Option Pass → Did
floor_read w p went None = barred w
floor_read w p went (Some x) =
    did (record w { passes = at_place w.passes p (sees_floor (length w.history) went (number_of (found w.disk Floor))) })
    (either went (floor_of (number_of (found w.disk Floor))) outcome.Failed)

-- the own file of a revision that is packed goes
abbrev pub old_removed : World → ℕ → ℕ → Went → Section → Did
old_removed w p r went Packed = if nat_lt r w.floor then did (at_call w p place.Remove (Remove (Rev r)) Packed Packed went) (answer went) else barred w
old_removed w p r went s = barred w

-- the pass is in no section
abbrev pub is_outside : ℕ → Lock → Bool
is_outside p (Held q s) = not (q == p)
is_outside p lock = true

-- a begin's last call: the transaction has a bench now, or it is no more
abbrev pub made : World → ℕ → ℕ → Went → Option Drawn → Did
made w p n went None = barred w
made w p n went (Some x) =
    did (record w {
      labels = labelled went x.name w.labels;
      named = without_place w.named n;
      txns = either went (w.txns ++ begun_txn w.history x ∷ []) w.txns;
      spent = either went w.spent (w.spent ++ x.name ∷ []);
      passes = at_place w.passes p (learns (length w.history) place.MakeBench went);
    }) (answer went)

abbrev pub purged : World → ℕ → ℕ → Went → Option Txn → Did
purged w p t went None = barred w
purged w p t went (Some x) =
    did (record w {
      labels = unlabelled went x.name w.labels;
      txns = without_place w.txns t;
      passes = at_place w.passes p (learns (length w.history) place.Remove went);
    }) (answer went)

abbrev pub purged_spent : World → ℕ → ℕ → Went → Option ℕ → Did
purged_spent w p n went None = barred w
purged_spent w p n went (Some name) =
    did (record w {
      labels = unlabelled went name w.labels;
      spent = without_place w.spent n;
      passes = at_place w.passes p (learns (length w.history) place.Remove went);
    }) (answer went)

abbrev pub listed : World → Went → Outcome
listed w went = either went (outcome.Names w.labels) outcome.Failed

-- a label is dropped while no object has the disk
abbrev pub label_dropped : World → ℕ → Went → Did
label_dropped w name went =
    did (record w { labels = unlabelled went name w.labels }) (either went (if has_label name w.labels then outcome.Done else outcome.Missing) outcome.Failed)

-- the lock of an object that is no more
abbrev pub down : Lock → Lock
down (Held p (CurrentRenamed x)) = DownDoubtful x
down (Held p (CurrentFirm x)) = DownDoubtful x
down (Held p (Doubtful place x)) = DownDoubtful x
down (Stuck place x) = DownDoubtful x
down (DownDoubtful x) = DownDoubtful x
down (Held p FloorRenamed) = DownFloor
down (Held p (FloorDoubtful place)) = DownFloor
down (StuckFloor place) = DownFloor
down DownFloor = DownFloor
down lock = Down

abbrev pub ends : World → World
ends w = record w { lock = down w.lock; opening = length w.history; since = []; named = []; txns = []; spent = []; passes = [] }

-- the revision that two files show
abbrev pub revision_in : Option Contents → Option Contents → Option Recorded
revision_in (Some (RevFile tree changes bytes)) (Some (PropsFile properties)) = Some (record { revision = record { tree = tree; changes = changes; properties = properties }; bytes = bytes })
revision_in r p = None

abbrev pub read_one : Option (List Recorded) → Option Recorded → Option (List Recorded)
read_one (Some h) (Some x) = Some (h ++ x ∷ [])
read_one h x = None

-- the first n revisions, where the files show so many by this floor
abbrev pub read_back : ℕ → ℕ → Disk → ℕ → Option (List Recorded)
read_back size f d zero = Some []
read_back size f d (suc n) = read_one (read_back size f d n) (revision_in (shown size f d n) (found d (Props n)))

-- the pass of an opening, which has seen n revisions
abbrev pub first_pass : ℕ → ℕ → Pass
first_pass n floor = record { seen = n; least = n - 1; mine = []; floor = floor; faults = []; stuck = None }

abbrev pub opened : World → ℕ → ℕ → Option (List Recorded) → Did
opened w k floor None = did w outcome.Missing
opened w k floor (Some h) =
    did (record w { disk = Firm ∷ w.disk; lock = Free; young = k; history = h; opening = k + 1; since = []; low = floor; floor = floor; named = []; txns = []; spent = []; passes = first_pass (k + 1) floor ∷ [] }) outcome.Done

abbrev pub named : World → Option ℕ → Option ℕ → Did
named w (Some k) (Some floor) = if nat_lt k (2 ^ 64 - 1) then opened w k floor (read_back w.size floor w.disk (k + 1)) else did w outcome.Missing
named w k floor = did w outcome.Missing

abbrev pub open_at : World → Went → Did
open_at w Fine = named w (number_of (found w.disk Current)) (number_of (found w.disk Floor))
open_at w went = did (record w { disk = disk_after went Firm w.disk }) outcome.Failed

abbrev pub split_off : World → Option Pass → Did
split_off w None = barred w
split_off w (Some x) = did (record w { passes = w.passes ++ record x { mine = []; faults = [] } ∷ [] }) outcome.Done

-- where either of two passes found the lock stuck; it is stuck for good, so that place is one
abbrev pub either_place : Option DiskPlace → Option DiskPlace → Option DiskPlace
either_place (Some at) other = Some at
either_place None other = other

-- the longer of two views; both hold a prefix of one history
abbrev pub joined : Pass → Pass → Pass
joined y x = record x { seen = max x.seen y.seen; least = max x.least y.least; floor = max x.floor y.floor; faults = x.faults ++ y.faults; stuck = either_place x.stuck y.stuck }

abbrev pub join_with : World → ℕ → Option Pass → Did
join_with w p None = barred w
join_with w p (Some y) = did (record w { passes = at_place w.passes p (joined y) }) outcome.Done

abbrev pub is_there : World → ℕ → Bool
is_there w p = nat_lt p (length w.passes)

-- a repository of revision 0, open, all of it firm
abbrev pub first_revision : List (List ℕ × List ℕ) → List ℕ → Recorded
first_revision properties bytes = record { revision = record { tree = finmap.insert finmap.empty [] (empty_node Dir); changes = finmap.empty; properties = properties }; bytes = bytes }

abbrev pub created : ℕ → List (List ℕ × List ℕ) → List ℕ → World
created size properties bytes = record {
  disk = Firm ∷ Put Current (Number 0) ∷ Put (Rev 0) (file_of (first_revision properties bytes)) ∷ Put (Props 0) (PropsFile properties) ∷ Put Counter (Number 0) ∷ Put Floor (Number 0) ∷ [];
  lock = Free;
  young = 0;
  history = first_revision properties bytes ∷ [];
  opening = 1;
  since = [];
  size = size;
  low = 0;
  floor = 0;
  given = [];
  labels = [];
  named = [];
  txns = [];
  spent = [];
  passes = first_pass 1 0 ∷ [];
}

-- what a step may leave and answer
abbrev pub Happens : World → Step → Did → Type 0
Happens w (step.TakeLock p) d = d ≡ (if is_there w p then taken w p w.lock else barred w)
Happens w (step.GiveLock p) d = d ≡ inside w (let_go w) (held_by p w.lock)
Happens w (step.StickLock p) d = d ≡ inside w (stuck_at w) (held_by p w.lock)
Happens w (step.Draw p b went) d = d ≡ inside w (drawn w p b went) (held_by p w.lock)
Happens w (step.AdoptRev p t properties bytes went) d = Adopts w p t properties bytes went (has_begun_by p w.lock) d
Happens w (step.Call p place went) d = d ≡ inside w (called w p place went) (held_by p w.lock)
Happens w (step.RemoveOld p r went) d = d ≡ inside w (old_removed w p r went) (held_by p w.lock)
Happens w (step.Beside p place went) d = d ≡ (if is_there w p then did (turned w p place went) (answer went) else barred w)
Happens w (step.Reveal p) d = d ≡ inside w (revealed w p) (held_by p w.lock)
Happens w (step.Look p) d = d ≡ (if is_there w p && is_up w.lock then looked w p else barred w)
Happens w (step.Read p r offset size went) d = d ≡ has_read w p r offset size went (slice_get w.passes p)
Happens w (step.ReadProps p r went) d = d ≡ has_read_props w p r went (slice_get w.passes p)
Happens w (step.ReadFloor p went) d = d ≡ floor_read w p went (slice_get w.passes p)
Happens w (step.Split p) d = d ≡ split_off w (slice_get w.passes p)
Happens w (step.Join p q) d = d ≡ (if is_there w p && not (p == q) then join_with w p (slice_get w.passes q) else barred w)
Happens w (step.Edit t edit) d = Edits w t edit (slice_get w.txns t) d
Happens w (step.Merge t head) d = Merges w t head (slice_get w.txns t) d
Happens w (step.MakeBench p n went) d = d ≡ (if is_there w p && is_outside p w.lock then made w p n went (slice_get w.named n) else barred w)
Happens w (step.ListTxns p went) d = d ≡ (if is_there w p then did (turned w p place.List went) (listed w went) else barred w)
Happens w (step.Purge p t went) d = d ≡ (if is_there w p && is_outside p w.lock then purged w p t went (slice_get w.txns t) else barred w)
Happens w (step.PurgeSpent p n went) d = d ≡ (if is_there w p && is_outside p w.lock then purged_spent w p n went (slice_get w.spent n) else barred w)
Happens w (step.ListLabels went) d = d ≡ (if is_up w.lock then barred w else did w (listed w went))
Happens w (step.DropLabel name went) d = d ≡ (if is_up w.lock then barred w else label_dropped w name went)
Happens w step.Close d = d ≡ (if is_up w.lock then did (ends w) outcome.Done else barred w)
Happens w (step.Crash picks labels) d = d ≡ did (record (ends w) { disk = Firm ∷ left picks w.disk; labels = labels_left labels w.labels }) outcome.Done
Happens w (step.Open went) d = d ≡ (if is_up w.lock then barred w else open_at w went)

-- what a list of steps may leave and answer
abbrev pub Runs : World → List Step → List Outcome → World → Type 0
Runs w [] os v = (os ≡ []) × (w ≡ v)
Runs w (s ∷ steps) os v = (d : Did) × Happens w s d × (more : List Outcome) × (os ≡ d.outcome ∷ more) × Runs d.world steps more v

-- where the lock is stuck
abbrev pub stuck_place : Lock → Option DiskPlace
stuck_place (Stuck place x) = Some place
stuck_place (StuckFloor place) = Some place
stuck_place lock = None
