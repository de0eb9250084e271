-- What holds after each step.
use Rattle.std.specs.Prelude.{◌≡◌, ◌⊎◌, ◌<◌, ◌≤◌, ◌+◌, ◌*◌, ◌/◌, ◌==◌, if◌then◌else◌, ℕ, List, [], ◌∷◌, ◌++◌, length, take, drop, Bool, true, false, Option, Some, None, IfSome, slice_get}
use Rattle.std.specs.FinMap.{get}
use Rattle.fsfs_tree.specs.Revisions.{Revision, tree_of}
use Rattle.fsfs_tree.specs.Histories.{IsHistory}
use Rattle.fsfs_model.specs.Flat.Transactions.{Entry, IsTransaction, IsEntry, IsNext, IsLegal}
use Rattle.fsfs_tree.specs.Dated.{last_of}
use Rattle.fsfs_machine.specs.declared.contents.FileName.TheVariants.{Current, CurrentNext, Counter, CounterNext, Floor, FloorNext, Rev, Props, Pack, Manifest}
use Rattle.fsfs_machine.specs.declared.contents.Contents.{Contents}
use Rattle.fsfs_machine.specs.declared.contents.Contents.TheVariants.{PropsFile, Number}
use Rattle.fsfs_machine.specs.declared.machine.Recorded.{Recorded}
use Rattle.fsfs_machine.specs.declared.machine.Coming.{Coming}
use Rattle.fsfs_machine.specs.declared.machine.Drawn.{Drawn}
use Rattle.fsfs_machine.specs.declared.machine.Txn.{Txn}
use Rattle.fsfs_machine.specs.declared.machine.Section.{Section}
use Rattle.fsfs_machine.specs.declared.machine.Section.TheVariants.{CountRead, CountPut, CountRenamed, RevPut, PropsPut, RevFirm, CurrentPut, CurrentRenamed, CurrentFirm, Doubtful, PackPut, ManifestPut, PackFirm, FloorPut, FloorRenamed, FloorDoubtful}
use Rattle.fsfs_machine.specs.declared.machine.Lock.{Lock}
use Rattle.fsfs_machine.specs.declared.machine.Lock.TheVariants.{Held, Stuck, DownDoubtful, StuckFloor, DownFloor}
use Rattle.fsfs_machine.specs.declared.machine.Pass.{Pass}
use Rattle.fsfs_machine.specs.declared.machine.Outcome.{Outcome}
use Rattle.fsfs_machine.specs.declared.machine.Outcome.TheVariants as outcome
use Rattle.fsfs_machine.specs.declared.machine.Step.{Step}
use Rattle.fsfs_machine.specs.declared.machine.Step.TheVariants as step
use Rattle.fsfs_machine.specs.Disk.{Disk, found, is_gone, shown, IsImage}
use Rattle.fsfs_machine.specs.Machine.{World, Did, Happens, Runs, created, file_of, recorded, revisions, with_next, is_up, parts_from, pack_of, manifest_of}

-- the two files of revision r are those of x, where the revisions below f are in packs
abbrev pub HasFiles : ℕ → ℕ → Disk → ℕ → Recorded → Type 0
HasFiles size f m r x = (shown size f m r ≡ Some (file_of x)) × (found m (Props r) ≡ Some (PropsFile x.revision.properties))

-- each revision of the history has its files
abbrev pub HasAll : ℕ → ℕ → Disk → List Recorded → Type 0
HasAll size f m h = (r : ℕ) (x : Recorded) → slice_get h r ≡ Some x → HasFiles size f m r x

-- `current` names the last of n revisions
abbrev pub NamesLast : Disk → ℕ → Type 0
NamesLast m n = (k : ℕ) × (found m Current ≡ Some (Number k)) × (k + 1 ≡ n)

abbrev pub StandsFor : ℕ → ℕ → Disk → List Recorded → Type 0
StandsFor size f m h = HasAll size f m h × NamesLast m (length h)

-- the history, or the same with the revision to come
abbrev pub StandsForEither : ℕ → ℕ → Disk → List Recorded → Coming → Type 0
StandsForEither size f m h x = StandsFor size f m h ⊎ StandsFor size f m (with_next h x)

-- the shard at the floor has its pack and the manifest beside it
abbrev pub HasPack : ℕ → ℕ → Disk → List Recorded → Type 0
HasPack size f m h = (found m (Pack (f / size)) ≡ Some (pack_of (parts_from size f h))) × (found m (Manifest (f / size)) ≡ Some (manifest_of (parts_from size f h)))

-- What an image stands for while a section is under way. From `FirmRev`'s end it has the files of the revision to come, from `FirmPack`'s
-- end the pack of the shard at the floor: so it stands for the same by either floor.
abbrev pub StandsIn : ℕ → ℕ → List Recorded → Section → Disk → Type 0
StandsIn size f h (RevFirm x) m = StandsFor size f m h × HasFiles size f m (length h) (recorded x)
StandsIn size f h (CurrentPut x) m = StandsFor size f m h × HasFiles size f m (length h) (recorded x)
StandsIn size f h (CurrentRenamed x) m = StandsForEither size f m h x × HasFiles size f m (length h) (recorded x)
StandsIn size f h (Doubtful place x) m = StandsForEither size f m h x × HasFiles size f m (length h) (recorded x)
StandsIn size f h (CurrentFirm x) m = StandsFor size f m (with_next h x)
StandsIn size f h PackFirm m = StandsFor size f m h × HasPack size f m h
StandsIn size f h FloorPut m = StandsFor size f m h × HasPack size f m h
StandsIn size f h FloorRenamed m = StandsFor size f m h × HasPack size f m h
StandsIn size f h (FloorDoubtful place) m = StandsFor size f m h × HasPack size f m h
StandsIn size f h s m = StandsFor size f m h

abbrev pub Stands : ℕ → ℕ → List Recorded → Lock → Disk → Type 0
Stands size f h (Held p s) m = StandsIn size f h s m
Stands size f h (Stuck place x) m = StandsForEither size f m h x × HasFiles size f m (length h) (recorded x)
Stands size f h (DownDoubtful x) m = StandsForEither size f m h x
Stands size f h (StuckFloor place) m = StandsFor size f m h × HasPack size f m h
Stands size f h DownFloor m = StandsFor size f m h × HasPack size f m h
Stands size f h lock m = StandsFor size f m h

-- The own file of a revision has its bytes; where there is none it was taken away. So what is left of a packed one has the pack's.
abbrev pub IsLeft : Bool → Option Contents → Recorded → Type 0
IsLeft gone None x = gone ≡ true
IsLeft gone (Some c) x = c ≡ file_of x

-- those from the floor of the opening on: of others that lay there then nothing is claimed
abbrev pub AreLeft : ℕ → List Recorded → Disk → Type 0
AreLeft low h m = (r : ℕ) (x : Recorded) → slice_get h r ≡ Some x → low ≤ r → IsLeft (is_gone m (Rev r)) (found m (Rev r)) x

abbrev pub AllBelow : ℕ → List ℕ → Type 0
AllBelow k [] = Unit {0}
AllBelow k (g ∷ gs) = (g < k) × AllBelow k gs

-- each name given is below the counter
abbrev pub CountsOn : List ℕ → Disk → Type 0
CountsOn given m = (k : ℕ) × (found m Counter ≡ Some (Number k)) × AllBelow k given

-- each name is above all that were given before it
abbrev pub AreGivenOnce : List ℕ → Type 0
AreGivenOnce [] = Unit {0}
AreGivenOnce (g ∷ gs) = AllBelow g gs × AreGivenOnce gs

-- the number is in the list
abbrev pub IsIn : ℕ → List ℕ → Type 0
IsIn k [] = ⊥
IsIn k (x ∷ xs) = (x ≡ k) ⊎ IsIn k xs

-- no number stands there twice
abbrev pub AreOnce : List ℕ → Type 0
AreOnce [] = Unit {0}
AreOnce (x ∷ xs) = (IsIn x xs → ⊥) × AreOnce xs

-- each label is of a name that was given
abbrev pub AllGiven : List ℕ → List ℕ → Type 0
AllGiven given [] = Unit {0}
AllGiven given (k ∷ ks) = IsIn k given × AllGiven given ks

-- how often the name stands among these
abbrev pub one : ℕ → ℕ → ℕ
one a k = if a == k then 1 else 0

abbrev pub times : {A : Type 0} → (A → ℕ) → ℕ → List A → ℕ
times name k [] = 0
times name k (x ∷ xs) = one (name x) k + times name k xs

abbrev pub drawn_name : Drawn → ℕ
drawn_name x = x.name

abbrev pub txn_name : Txn → ℕ
txn_name x = x.name

abbrev pub itself : ℕ → ℕ
itself k = k

abbrev pub uses : ℕ → List Drawn → List Txn → List ℕ → ℕ
uses k named txns spent = times drawn_name k named + times txn_name k txns + times itself k spent

-- each name is used once at most, and only if it was given
abbrev pub AreApart : List ℕ → List Drawn → List Txn → List ℕ → Type 0
AreApart given named txns spent = (k : ℕ) → (uses k named txns spent ≤ 1) × (0 < uses k named txns spent → IsIn k given)

-- each transaction has its label
abbrev pub HaveLabels : List ℕ → List Txn → Type 0
HaveLabels labels [] = Unit {0}
HaveLabels labels (x ∷ xs) = IsIn x.name labels × HaveLabels labels xs

-- each name that has no bench yet was given, for a revision of a history of n
abbrev pub AreNamed : ℕ → List ℕ → List Drawn → Type 0
AreNamed n given [] = Unit {0}
AreNamed n given (x ∷ xs) = ((x.base < n) × IsIn x.name given) × AreNamed n given xs

-- what the section knows of the files as they are read
abbrev pub Knows : ℕ → ℕ → List Recorded → List ℕ → Section → Disk → Type 0
Knows size f h given (CountRead x) d = (x.base < length h) × AllBelow x.name given × (x.next ≡ x.name + 1)
Knows size f h given (CountPut x) d = (x.base < length h) × AllBelow x.name given × (x.next ≡ x.name + 1) × (found d CounterNext ≡ Some (Number x.next))
Knows size f h given (CountRenamed x) d = (x.base < length h) × AllBelow x.name given × (x.next ≡ x.name + 1) × (found d Counter ≡ Some (Number x.next))
Knows size f h given (RevPut x) d = shown size f d (length h) ≡ Some (file_of (recorded x))
Knows size f h given (PropsPut x) d = HasFiles size f d (length h) (recorded x)
Knows size f h given (CurrentPut x) d = found d CurrentNext ≡ Some (Number (length h))
Knows size f h given (CurrentRenamed x) d = found d Current ≡ Some (Number (length h))
Knows size f h given PackPut d = found d (Pack (f / size)) ≡ Some (pack_of (parts_from size f h))
Knows size f h given ManifestPut d = HasPack size f d h
Knows size f h given FloorPut d = found d FloorNext ≡ Some (Number (f + size))
Knows size f h given FloorRenamed d = found d Floor ≡ Some (Number (f + size))
Knows size f h given s d = Unit {0}

abbrev pub KnowsAt : ℕ → ℕ → List Recorded → List ℕ → Lock → Disk → Type 0
KnowsAt size f h given (Held p s) d = Knows size f h given s d
KnowsAt size f h given lock d = Unit {0}

-- the revision to come
abbrev pub coming_in : Section → Option Coming
coming_in (RevPut x) = Some x
coming_in (PropsPut x) = Some x
coming_in (RevFirm x) = Some x
coming_in (CurrentPut x) = Some x
coming_in (CurrentRenamed x) = Some x
coming_in (CurrentFirm x) = Some x
coming_in (Doubtful place x) = Some x
coming_in s = None

abbrev pub coming : Lock → Option Coming
coming (Held p s) = coming_in s
coming (Stuck place x) = Some x
coming (DownDoubtful x) = Some x
coming lock = None

-- the revision follows the history by the landing of its entry, which is of a transaction over it
abbrev pub Follows : List Recorded → Coming → Type 0
Follows h x = IsEntry (revisions h) x.entry × IsNext (revisions h) x.entry x.revision

-- what a pass knows is of this history of n revisions, and its floor is between these
pub record IsSeen (n low top : ℕ) (x : Pass) : Type 0 where
  pub seen : x.seen ≤ n
  pub least : x.least < n
  pub mine : AllBelow x.seen x.mine
  pub least_floor : low ≤ x.floor
  pub floor : x.floor ≤ top

abbrev pub AreSeen : ℕ → ℕ → ℕ → List Pass → Type 0
AreSeen n low top [] = Unit {0}
AreSeen n low top (x ∷ xs) = IsSeen n low top x × AreSeen n low top xs

-- the revisions, numbered from r on, whose entry carries the number of pass p
abbrev pub carried_by : ℕ → ℕ → List Entry → List ℕ
carried_by p r [] = []
carried_by p r (e ∷ es) = if e.pass == p then r ∷ carried_by p (r + 1) es else carried_by p (r + 1) es

-- the own revisions of each pass, numbered from k on, are those since the opening whose entry carries its number
abbrev pub AreMine : ℕ → List Entry → ℕ → List Pass → Type 0
AreMine opening es k [] = Unit {0}
AreMine opening es k (x ∷ xs) = (x.mine ≡ carried_by k opening es) × AreMine opening es (k + 1) xs

-- each entry carries the number of one of n passes
abbrev pub AreOfPasses : ℕ → List Entry → Type 0
AreOfPasses n [] = Unit {0}
AreOfPasses n (e ∷ es) = (e.pass < n) × AreOfPasses n es

-- whose entry each revision since the opening carries
pub record Whose (opening : ℕ) (h : List Recorded) (es : List Entry) (xs : List Pass) : Type 0 where
  -- the revisions since the opening came by the landings of these entries in turn
  pub legal : IsLegal (revisions (take opening h)) es (revisions h)
  pub count : opening + length es ≡ length h
  -- each carries the number of a pass
  pub carriers : AreOfPasses (length xs) es
  -- each pass's own revisions are all those, in order, whose entry carries its number
  pub mine : AreMine opening es 0 xs

-- the revision to come carries the number of the pass
abbrev pub Carries : ℕ → Section → Type 0
Carries p s = IfSome (coming_in s) (λ x. x.entry.pass ≡ p)

-- the lock is held by one of n passes, and the revision to come carries the number of that pass
abbrev pub IsHolder : ℕ → Lock → Type 0
IsHolder n (Held p s) = (p < n) × Carries p s
IsHolder n lock = Unit {0}

-- each transaction grew by accepted edits and landings without clash over these revisions
abbrev pub AreTransactions : List Revision → List Txn → Type 0
AreTransactions h [] = Unit {0}
AreTransactions h (x ∷ xs) = IsTransaction (tree_of h) (last_of h) x.base (get x.tree) x.marks × AreTransactions h xs

-- ---- floors

abbrev pub FloorIs : ℕ → Disk → Type 0
FloorIs f m = found m Floor ≡ Some (Number f)

-- an image may show the floor that is to come
abbrev pub rises : Section → Bool
rises FloorRenamed = true
rises (FloorDoubtful place) = true
rises s = false

abbrev pub may_rise : Lock → Bool
may_rise (Held p s) = rises s
may_rise (StuckFloor place) = true
may_rise DownFloor = true
may_rise lock = false

-- the floor of an image: that which is firm, or the one to come
abbrev pub FloorBy : Bool → ℕ → ℕ → Disk → Type 0
FloorBy true size f m = FloorIs f m ⊎ FloorIs (f + size) m
FloorBy false size f m = FloorIs f m

-- the greatest floor that a pass may have read
abbrev pub most_floor : Bool → ℕ → ℕ → ℕ
most_floor rises size f = if rises then f + size else f

-- a shard is being packed
abbrev pub packs : Section → Bool
packs PackPut = true
packs ManifestPut = true
packs PackFirm = true
packs FloorPut = true
packs FloorRenamed = true
packs (FloorDoubtful place) = true
packs s = false

abbrev pub is_packing : Lock → Bool
is_packing (Held p s) = packs s
is_packing (StuckFloor place) = true
is_packing DownFloor = true
is_packing lock = false

-- the floor is that of whole shards, and the shard that is packed is full
pub record IsFloor (size f n : ℕ) (full : Bool) : Type 0 where
  pub some : 0 < size
  pub shards : ℕ
  pub whole : f ≡ shards * size
  pub most : f ≤ n
  pub next : full ≡ true → f + size ≤ n

pub record Kept (w : World) : Type 0 where
  -- the youngest number is that of the history's last revision
  pub young : is_up w.lock ≡ true → w.young + 1 ≡ length w.history
  -- what each pass has seen is a first part of the history, and what it was told of is in it
  pub seen : AreSeen (length w.history) w.low (most_floor (may_rise w.lock) w.size w.floor) w.passes
  -- the history is one
  pub history : IsHistory (revisions w.history)
  -- each transaction under way is one over the history
  pub transactions : AreTransactions (revisions w.history) w.txns
  -- each image has the bytes beside each revision, and stands for the history; or, where `current` may name the revision to
  -- come, for the history with it; and from the last firming to the reveal for that alone
  pub stands : (m : Disk) → IsImage w.disk m → Stands w.size w.floor w.history w.lock m
  -- only whole shards of the history are in packs; the shard that a section packs is full
  pub floor : IsFloor w.size w.floor (length w.history) (is_packing w.lock)
  -- each image shows this floor; or, where `min-unpacked-rev` may have been renamed, the next one
  pub floors : (m : Disk) → IsImage w.disk m → FloorBy (may_rise w.lock) w.size w.floor m
  -- in each image the own files of revisions from the floor of the opening on have their bytes, or were taken away
  pub left : (m : Disk) → IsImage w.disk m → AreLeft w.low w.history m
  pub low : w.low ≤ w.floor
  -- in each image each transaction name given is below the counter
  pub counts : (m : Disk) → IsImage w.disk m → CountsOn w.given m
  -- no name was given twice
  pub once : AreGivenOnce w.given
  -- each label is of a transaction whose name was given
  pub labels : AllGiven w.given w.labels
  -- each name without a bench was given, and its base is in the history
  pub named : AreNamed (length w.history) w.given w.named
  -- no name is that of two transactions, be they without a bench yet, under way, or no more and with a label still to be dropped
  pub apart : AreApart w.given w.named w.txns w.spent
  -- while the repository is open, each transaction under way has its label
  pub benches : is_up w.lock ≡ true → HaveLabels w.labels w.txns
  -- the files that the section under way has put read as it put them
  pub knows : KnowsAt w.size w.floor w.history w.given w.lock w.disk
  -- the revision to come is the landing of its entry
  pub next : IfSome (coming w.lock) (Follows w.history)
  -- each pass's own revisions are those since the opening whose entry carries its number
  pub whose : Whose w.opening w.history w.since w.passes
  -- the lock is held by a pass that is there, and the revision to come carries its number
  pub holder : IsHolder (length w.passes) w.lock

-- the history is as before, or has one more revision, that of an entry
abbrev pub Grows : List Recorded → List Recorded → Type 0
Grows h new = (new ≡ h) ⊎ ((x : Coming) × Follows h x × (new ≡ with_next h x))

-- no name is given again or forgotten
abbrev pub Names : List ℕ → List ℕ → Type 0
Names given new = (new ≡ given) ⊎ ((k : ℕ) × AllBelow k given × (new ≡ k ∷ given))

-- Bytes that were read are those beside the revision. There is no such file only where the revision was packed since the pass read
-- the floor: its floor isn't above it, that of each image is.
abbrev pub GivesBytes : List Recorded → ℕ → Option Pass → ℕ → ℕ → ℕ → Outcome → Type 0
GivesBytes h f pass r offset size (outcome.Bytes bytes) = (x : Recorded) × (slice_get h r ≡ Some x) × (bytes ≡ take size (drop offset x.bytes))
GivesBytes h f pass r offset size outcome.Missing = IfSome pass (λ x. (x.floor ≤ r) × (r < f))
GivesBytes h f pass r offset size o = Unit {0}

-- the floor that was read is that of each image, or the next; so a revision that was missing is below it
abbrev pub GivesFloor : ℕ → Outcome → Type 0
GivesFloor f (outcome.Floor k) = f ≤ k
GivesFloor f outcome.Missing = ⊥
GivesFloor f o = Unit {0}

-- properties that were read are those of the revision
abbrev pub GivesProps : List Recorded → ℕ → Outcome → Type 0
GivesProps h r (outcome.Properties properties) = (x : Recorded) × (slice_get h r ≡ Some x) × (properties ≡ x.revision.properties)
GivesProps h r outcome.Missing = ⊥
GivesProps h r o = Unit {0}

-- names that were listed are names that were given
abbrev pub GivesNames : List ℕ → Outcome → Type 0
GivesNames given (outcome.Names names) = AllGiven given names
GivesNames given o = Unit {0}

-- where the answer is that it was done, the label is gone
abbrev pub IsPurged : ℕ → Did → Type 0
IsPurged name d = d.outcome ≡ outcome.Done → IsIn name d.world.labels → ⊥

-- a read answers by the history, and never that there is no such file; what is listed was given; what is purged is gone
abbrev pub Gives : World → Step → Did → Type 0
Gives w (step.Read p r offset size went) d = GivesBytes w.history w.floor (slice_get w.passes p) r offset size d.outcome
Gives w (step.ReadFloor p went) d = GivesFloor w.floor d.outcome
Gives w (step.ReadProps p r went) d = GivesProps w.history r d.outcome
Gives w (step.ListTxns p went) d = GivesNames w.given d.outcome
Gives w (step.ListLabels went) d = GivesNames w.given d.outcome
Gives w (step.Purge p t went) d = IfSome (slice_get w.txns t) (λ x. IsPurged x.name d)
Gives w (step.PurgeSpent p n went) d = IfSome (slice_get w.spent n) (λ name. IsPurged name d)
Gives w (step.DropLabel name went) d = IsPurged name d
Gives w s d = Unit {0}

-- a step from w
pub record Keeps (w : World) (s : Step) (d : Did) : Type 0 where
  pub kept : Kept d.world
  pub grows : Grows w.history d.world.history
  pub names : Names w.given d.world.given
  pub gives : Gives w s d

-- each step keeps it, adds at most one revision, gives at most one name, and answers by the history
abbrev pub StepsKeep : Type 0
StepsKeep = (w : World) (s : Step) (d : Did) → Happens w s d → Kept w → Keeps w s d

-- what any pass has seen is still there
abbrev pub SeenStays : World → World → Type 0
SeenStays w v = (p r : ℕ) (pass : Pass) → slice_get w.passes p ≡ Some pass → r < pass.seen
    → (x : Recorded) × (slice_get w.history r ≡ Some x) × (slice_get v.history r ≡ Some x)

-- a run from w to v
pub record RunKeeps (w v : World) : Type 0 where
  pub kept : Kept v
  -- the history grew by these entries in turn, each of a transaction over the history as it was
  pub entries : List Entry
  pub legal : IsLegal (revisions w.history) entries (revisions v.history)
  -- the earlier revisions are as before, with the bytes beside them
  pub more : List Recorded
  pub grown : v.history ≡ w.history ++ more
  pub seen : SeenStays w v
  -- no name is forgotten, and none is given twice
  pub names : List ℕ
  pub given : v.given ≡ names ++ w.given
  pub once : AreGivenOnce v.given

-- whatever happens, crashes and openings among it: the history goes on by legal entries
abbrev pub RunsKeep : Type 0
RunsKeep = (w v : World) (steps : List Step) (os : List Outcome) → Runs w steps os v → Kept w → RunKeeps w v

-- a new repository has it
abbrev pub CreatedIsKept : Type 0
CreatedIsKept = (size : ℕ) (properties : List (List ℕ × List ℕ)) (bytes : List ℕ) → 0 < size → Kept (created size properties bytes)

-- EACH IMAGE STANDS FOR THE HISTORY BY ITS OWN FLOOR, where no revision is in doubt; and each shard below that has its pack
abbrev pub StandsByItsFloor : Type 0
StandsByItsFloor = (w : World) → Kept w → coming w.lock ≡ None → (m : Disk) → IsImage w.disk m → (f : ℕ) × FloorIs f m × StandsFor w.size f m w.history
