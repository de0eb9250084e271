-- What is read of the bytes of all revisions: a node-revision, a root, a representation, a directory, a node at a path.
--
-- The libsvn_fs_fs structure file has the forms. The order of the checks is this project's profile: of a node-revision its form,
-- what it names, its id, its kind; of a representation its header, its end, its size, its MD5, its SHA-1, its dump, and then
-- entry by entry, in byte order of the names, the name, the value and the place. The last entry of a name counts.
use Rattle.std.specs.Prelude.{◌≡◌, ◌⊎◌, ℕ, suc, true, List, [], ◌∷◌, ◌++◌, drop, Option, Some, None, Result, Ok, Err, if◌then◌else◌, codes}
use Rattle.std.specs.Str.{IsUtf8}
use Rattle.fsfs_base.specs.Paths.{PathName, Path, same_name}
use Rattle.fsfs_base.specs.PathTexts.{IsName}
use Rattle.fsfs_base.specs.declared.kind.Kind.{Kind}
use Rattle.fsfs_base.specs.declared.kind.Kind.TheVariants.{File, Dir}
use Rattle.fsfs_revision.specs.declared.damage.RevOffset.{RevOffset}
use Rattle.fsfs_revision.specs.declared.damage.DamageKind.TheVariants as what
use Rattle.fsfs_revision.specs.declared.damage.RepWhat.TheVariants as repwhat
use Rattle.fsfs_revision.specs.declared.wrong.Wrong.{Wrong}
use Rattle.fsfs_revision.specs.Damage.Checks.{Check, must, Judged}
use Rattle.fsfs_revision.specs.Damage.Damages.{place_of, damaged}
use Rattle.fsfs_revision.specs.Damage.Readings.{AndThen}
use Rattle.fsfs_revision.specs.Told.{RevisionBytes, BytesOf}
use Rattle.fsfs_noderev.specs.Fields.{IsIdText}
use Rattle.fsfs_noderev.specs.declared.node_id.Place.{Place}
use Rattle.fsfs_noderev.specs.declared.node_id.Place.TheVariants as places
use Rattle.fsfs_noderev.specs.declared.node_id.NodeId.{NodeId}
use Rattle.fsfs_noderev.specs.declared.rep.Rep.{Rep}
use Rattle.fsfs_noderev.specs.declared.rep.Contents.{Contents}
use Rattle.fsfs_noderev.specs.declared.rep.Contents.TheVariants as contents
use Rattle.fsfs_noderev.specs.declared.node_rev.NodeRev.{NodeRev}
use Rattle.fsfs_layout.specs.Hash.Dump.{IsDump}
use Rattle.fsfs_revision.specs.Rep.Frames.{rev_of, bad_rep, RepIn}
use Rattle.fsfs_revision.specs.Damages.{NodeIn, RootIn}
use Rattle.fsfs_revision.specs.Nodes.{is_revision_id, place_before}

-- ---- a node-revision

-- the node-revision at this place
abbrev pub NodeAt : RevisionBytes → RevOffset → Result NodeRev Wrong → Type 0
NodeAt look at = AndThen (BytesOf look at.rev) (λ bytes. NodeIn at (drop at.offset bytes))

-- the root of a revision
abbrev pub RootOf : RevisionBytes → ℕ → Result NodeRev Wrong → Type 0
RootOf look rev = AndThen (BytesOf look rev) (RootIn rev)

-- where a node-revision stands by its id
abbrev pub offset_of : Place → RevOffset
offset_of (places.At rev offset) = place_of rev offset
offset_of (places.In txn) = place_of 0 0

-- ---- a representation

-- its text
abbrev pub RepAt : RevisionBytes → Rep → Result (List ℕ) Wrong → Type 0
RepAt look rep = AndThen (BytesOf look (rev_of rep)) (RepIn rep)

-- ---- a property list, and a directory's pairs of names and values

abbrev pub Pairs : Type 0
Pairs = List (List ℕ × List ℕ)

-- the pairs of a representation's text
abbrev pub hash_checks : Rep → List ℕ → List Check
hash_checks rep text = must ((pairs : Pairs) × IsDump text pairs) (bad_rep rep repwhat.Hash) ∷ []

abbrev pub PairsIn : Rep → List ℕ → Result Pairs Wrong → Type 0
PairsIn rep text = Judged (IsDump text) (hash_checks rep text)

abbrev pub PairsAt : RevisionBytes → Rep → Result Pairs Wrong → Type 0
PairsAt look rep = AndThen (RepAt look rep) (PairsIn rep)

-- where there is no representation, nothing is read. `-1`, for a transaction's own file, stands in no revision.
abbrev pub OfContents : {X : Type 0} → X → (Rep → Result X Wrong → Type 0) → Option Contents → Result X Wrong → Type 0
OfContents nothing R None r = r ≡ Ok nothing
OfContents nothing R (Some contents.Own) r = ⊥
OfContents nothing R (Some (contents.At rep)) r = R rep r

-- the text of a file, and the properties of any node-revision
abbrev pub TextOf : RevisionBytes → NodeRev → Result (List ℕ) Wrong → Type 0
TextOf look v = OfContents [] (RepAt look) v.text

abbrev pub PropsOf : RevisionBytes → NodeRev → Result Pairs Wrong → Type 0
PropsOf look v = OfContents [] (PairsAt look) v.props

-- ---- the entries of a directory

pub record DirEntry : Type 0 where
  pub name : PathName
  pub kind : Kind
  pub id : NodeId

abbrev pub kind_word : Kind → List ℕ
kind_word File = codes "file "
kind_word Dir = codes "dir "

-- a name that a path may have, in UTF-8
pub record IsEntryName (name : PathName) : Type 0 where
  pub name_is : IsName name
  pub utf8 : IsUtf8 name

-- `file <id>` or `dir <id>`, the id of a node-revision in a revision
pub record IsEntryValue (text : List ℕ) (kind : Kind) (id : NodeId) : Type 0 where
  pub id_text : List ℕ
  pub id_is : IsIdText id_text id
  pub parts : text ≡ kind_word kind ++ id_text
  pub lasting : is_revision_id id ≡ true

-- a pair of a dump is this entry of the directory whose node-revision stands at `home`
pub record IsEntry (home : RevOffset) (pair : List ℕ × List ℕ) (entry : DirEntry) : Type 0 where
  pub name : pair.0 ≡ entry.name
  pub name_is : IsEntryName entry.name
  pub value_is : IsEntryValue pair.1 entry.kind entry.id
  -- what stands in a directory stands before it
  pub before : place_before home entry.id.place ≡ true

-- what is checked of a pair, in this order: a name or a value is wrong at the representation, a place at the directory's
-- node-revision
abbrev pub pair_checks : RevOffset → Rep → List ℕ × List ℕ → List Check
pair_checks home rep pair =
    must (IsEntryName pair.0) (bad_rep rep repwhat.BadName)
    ∷ must ((kind : Kind) × (id : NodeId) × IsEntryValue pair.1 kind id) (bad_rep rep repwhat.EntryValue)
    ∷ must ((entry : DirEntry) × IsEntry home pair entry) (damaged home what.PlaceOrder)
    ∷ []

abbrev pub EntryIn : RevOffset → Rep → List ℕ × List ℕ → Result DirEntry Wrong → Type 0
EntryIn home rep pair = Judged (IsEntry home pair) (pair_checks home rep pair)

-- the pairs are these entries, one by one
abbrev pub AreEntries : RevOffset → Pairs → List DirEntry → Type 0
AreEntries home [] [] = Unit {0}
AreEntries home [] (entry ∷ entries) = ⊥
AreEntries home (pair ∷ pairs) [] = ⊥
AreEntries home (pair ∷ pairs) (entry ∷ entries) = IsEntry home pair entry × AreEntries home pairs entries

-- what is wrong with the first pair that is no entry
abbrev pub FirstPairFails : RevOffset → Rep → Pairs → Wrong → Type 0
FirstPairFails home rep [] w = ⊥
FirstPairFails home rep (pair ∷ pairs) w = EntryIn home rep pair (Err w) ⊎ ((entry : DirEntry) × IsEntry home pair entry × FirstPairFails home rep pairs w)

abbrev pub EntriesIn : RevOffset → Rep → Pairs → Result (List DirEntry) Wrong → Type 0
EntriesIn home rep pairs (Ok entries) = AreEntries home pairs entries
EntriesIn home rep pairs (Err w) = FirstPairFails home rep pairs w

abbrev pub EntriesAt : RevisionBytes → RevOffset → Rep → Result (List DirEntry) Wrong → Type 0
EntriesAt look home rep = AndThen (PairsAt look rep) (EntriesIn home rep)

-- the entries of a directory, in byte order of their names
abbrev pub EntriesOf : RevisionBytes → NodeRev → Result (List DirEntry) Wrong → Type 0
EntriesOf look v = OfContents [] (EntriesAt look (offset_of v.id.place)) v.text

-- ---- a node-revision that something names

-- it has the id that names it
abbrev pub id_checks : NodeId → NodeRev → List Check
id_checks id u = must (u.id ≡ id) (damaged (offset_of id.place) what.OtherId) ∷ []

abbrev pub HasId : NodeId → NodeRev → Result NodeRev Wrong → Type 0
HasId id u = Judged (λ v. (v ≡ u) × (u.id ≡ id)) (id_checks id u)

abbrev pub OfId : RevisionBytes → NodeId → Result NodeRev Wrong → Type 0
OfId look id = AndThen (NodeAt look (offset_of id.place)) (HasId id)

-- it is a file where the entry says so, and a directory where it says so
abbrev pub kind_checks : DirEntry → NodeRev → List Check
kind_checks entry u = must (u.kind ≡ entry.kind) (damaged (offset_of entry.id.place) what.EntryKind) ∷ []

abbrev pub HasKind : DirEntry → NodeRev → Result NodeRev Wrong → Type 0
HasKind entry u = Judged (λ v. (v ≡ u) × (u.kind ≡ entry.kind)) (kind_checks entry u)

abbrev pub OfEntry : RevisionBytes → DirEntry → Result NodeRev Wrong → Type 0
OfEntry look entry = AndThen (OfId look entry.id) (HasKind entry)

-- ---- a child, and a path

abbrev pub named : PathName → List DirEntry → Option DirEntry
named name [] = None
named name (entry ∷ entries) = if same_name entry.name name then Some entry else named name entries

abbrev pub OfNamed : RevisionBytes → Option DirEntry → Result (Option NodeRev) Wrong → Type 0
OfNamed look None r = r ≡ Ok None
OfNamed look (Some entry) (Ok None) = ⊥
OfNamed look (Some entry) (Ok (Some u)) = OfEntry look entry (Ok u)
OfNamed look (Some entry) (Err w) = OfEntry look entry (Err w)

-- the child of a name in a directory, if it has one
abbrev pub ChildOf : RevisionBytes → NodeRev → PathName → Result (Option NodeRev) Wrong → Type 0
ChildOf look v name = AndThen (EntriesOf look v) (λ entries. OfNamed look (named name entries))

-- what is met on the way down a path: a node-revision stands there; or the first so many names lead to nothing, or to a file that
-- further names follow
pub data Met : Type 0 where
  Stands : NodeRev → Met
  Lacking : ℕ → Met
  Blocked : ℕ → Met

abbrev pub OrLacking : ℕ → (NodeRev → Result Met Wrong → Type 0) → Option NodeRev → Result Met Wrong → Type 0
OrLacking depth R None r = r ≡ Ok (Lacking depth)
OrLacking depth R (Some v) r = R v r

abbrev pub InDirectory : Kind → ℕ → (Result (Option NodeRev) Wrong → Type 0) → (NodeRev → Result Met Wrong → Type 0) → Result Met Wrong → Type 0
InDirectory File depth R S r = r ≡ Ok (Blocked depth)
InDirectory Dir depth R S r = AndThen R (OrLacking (suc depth) S) r

-- from a node-revision that `depth` names lead to, down further names
abbrev pub MetFrom : RevisionBytes → NodeRev → ℕ → Path → Result Met Wrong → Type 0
MetFrom look v depth [] r = r ≡ Ok (Stands v)
MetFrom look v depth (name ∷ names) r = InDirectory v.kind depth (ChildOf look v name) (λ w. MetFrom look w (suc depth) names) r

-- from the root of a revision down a path
abbrev pub MetAt : RevisionBytes → ℕ → Path → Result Met Wrong → Type 0
MetAt look rev path = AndThen (RootOf look rev) (λ v. MetFrom look v 0 path)

-- a node-revision stands at the path
abbrev pub StandsAt : RevisionBytes → ℕ → Path → NodeRev → Type 0
StandsAt look rev path v = MetAt look rev path (Ok (Stands v))
