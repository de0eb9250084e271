-- The steps of the walk: what each changes.
use Rattle.std.specs.Prelude.{◌≡◌, ◌≢◌, ◌⊎◌, ◌++◌, ℕ, suc, true, List, [], ◌∷◌, length, Option, Some, None, Ok, Err}
use Rattle.fsfs_base.specs.declared.kind.Kind.TheVariants.{File, Dir}
use Rattle.fsfs_noderev.specs.declared.node_id.NodeId.{NodeId}
use Rattle.fsfs_noderev.specs.declared.node_id.Part.{Part}
use Rattle.fsfs_noderev.specs.declared.node_rev.CopySource.{CopySource}
use Rattle.fsfs_noderev.specs.declared.node_rev.NodeRev.{NodeRev}
use Rattle.fsfs_revision.specs.Nodes.{is_lasting_part}
use Rattle.fsfs_revision.specs.Told.{RevisionBytes}
use Rattle.fsfs_revision.specs.declared.damage.DamageKind.TheVariants as what
use Rattle.fsfs_revision.specs.declared.wrong.Wrong.{Wrong}
use Rattle.fsfs_revision.specs.Damage.Damages.{damaged}
use Rattle.fsfs_revision.specs.Shows.Reading.{DirEntry, EntriesOf, TextOf, offset_of}
use Rattle.fsfs_dag.specs.TreeWalks.{left, at_level}
use Rattle.fsfs_verify.specs.declared.above.Above.{Above}
use Rattle.fsfs_verify.specs.declared.nodes.Copied.{Copied}
use Rattle.fsfs_verify.specs.declared.nodes.NewNodes.{NewNodes}
use Rattle.fsfs_verify.specs.declared.parts.Parts.{Parts}
use Rattle.fsfs_verify.specs.Brought.{Brought, MayBegin}
use Rattle.fsfs_verify.specs.Copies.{IsCopy, IsWrongCopy}
use Rattle.fsfs_verify.specs.LinksUp.{link_at}
use Rattle.fsfs_verify.specs.Preds.{IsWrongProps}
use Rattle.fsfs_verify.specs.Walks.{HasListOf, IsWrongList, IsCopied}
use Rattle.fsfs_sound.specs.Rules.{HasText, HasProps}

-- both parts of an id are those of a revision
abbrev pub IsLasting : NodeId → Type 0
IsLasting id = (is_lasting_part id.node ≡ true) × (is_lasting_part id.copy ≡ true)

-- ---- what no step changes, and what some don't

pub record IsSameWalk (old new : NewNodes) : Type 0 where
  pub rev : new.rev ≡ old.rev
  pub room : length new.piece.items ≡ length old.piece.items
  pub links : new.links ≡ old.links

pub record IsSameStack (old new : NewNodes) : Type 0 where
  pub walk : new.walk ≡ old.walk
  pub above : new.above ≡ old.above

-- ---- at the beginning

pub record IsNewWalk (rev : ℕ) (nodes : NewNodes) : Type 0 where
  pub rev_is : nodes.rev ≡ rev
  pub left_is : left nodes.walk ≡ []
  pub above : nodes.above.items ≡ []
  pub links : (place : ℕ) → link_at nodes.links place ≡ None
  pub copies : nodes.copies.items ≡ []

-- ---- a directory is entered

-- its entries were put before what was left, and it stands above them, with the list of its predecessor
pub record IsEntered (look : RevisionBytes) (level : ℕ) (dir : NodeRev) (pred : Option NodeRev) (old new : NewNodes) : Type 0 where
  pub entries : List DirEntry
  pub entries_are : EntriesOf look dir (Ok entries)
  pub left_is : left new.walk ≡ at_level (suc level) entries ++ left old.walk
  pub seen : new.walk.seen ≡ old.walk.seen
  pub last : Above
  pub above : new.above.items ≡ old.above.items ++ last ∷ []
  pub dir_is : last.dir.node ≡ dir
  pub before : HasListOf look pred last.before

abbrev pub IsWrongEntering : RevisionBytes → NodeRev → Option NodeRev → Wrong → Type 0
IsWrongEntering look dir pred w = IsWrongList look pred w ⊎ EntriesOf look dir (Err w)

-- ---- a node-revision by itself

-- what begins brings up its node part
abbrev pub Begins : ℕ → NodeRev → List Part → List Part → Type 0
Begins rev v before begun = ((v.predecessor ≡ None) × MayBegin rev before v.id.node × (begun ≡ before ++ v.id.node ∷ [])) ⊎ ((v.predecessor ≢ None) × (begun ≡ before))

-- or it can't
abbrev pub IsWrongBeginning : ℕ → List Part → NodeRev → Wrong → Type 0
IsWrongBeginning rev begun v w = (v.predecessor ≡ None) × (MayBegin rev begun v.id.node → ⊥) × (w ≡ damaged (offset_of v.id.place) what.CopyId)

-- a copy brings up its copy part, and is among the copies
pub data TakesCopy (look : RevisionBytes) (rev : ℕ) (drawn : List Part) (v : NodeRev) (before copied : List Part) (old new : List Copied) : Type 0 where
  NoCopy : v.copy_from ≡ None → copied ≡ before → new ≡ old → TakesCopy look rev drawn v before copied old new
  ACopy : (from : CopySource) (c : Copied) → v.copy_from ≡ Some from → IsCopy look rev before drawn v from → copied ≡ before ++ v.id.copy ∷ [] → new ≡ old ++ c ∷ [] → IsCopied v c → TakesCopy look rev drawn v before copied old new

abbrev pub IsWrongCopyOf : RevisionBytes → ℕ → List Part → List Part → NodeRev → Wrong → Type 0
IsWrongCopyOf look rev copied drawn v w = (from : CopySource) × (v.copy_from ≡ Some from) × IsWrongCopy look rev copied drawn v from w

-- a directory is entered; a file is read
abbrev pub TakesContents : RevisionBytes → ℕ → NodeRev → Option NodeRev → NewNodes → NewNodes → Type 0
TakesContents look level v pred old new = ((v.kind ≡ Dir) × IsEntered look level v pred old new) ⊎ ((v.kind ≡ File) × HasText look v × IsSameStack old new)

-- its text isn't had, or neither are its entries and those of its predecessor
abbrev pub IsWrongContents : RevisionBytes → NodeRev → Option NodeRev → Wrong → Type 0
IsWrongContents look v pred w = ((v.kind ≡ File) × TextOf look v (Err w)) ⊎ ((v.kind ≡ Dir) × IsWrongEntering look v pred w)

pub record TakesNode (look : RevisionBytes) (rev level : ℕ) (begun copied drawn : List Part) (v : NodeRev) (pred : Option NodeRev) (old new : NewNodes) (parts : Parts) : Type 0 where
  pub begun_now : List Part
  pub copied_now : List Part
  pub brought : Brought rev parts begun_now copied_now drawn
  pub begins : Begins rev v begun begun_now
  pub copy : TakesCopy look rev drawn v copied copied_now old.copies.items new.copies.items
  pub props : HasProps look v
  pub contents : TakesContents look level v pred old new

-- what is wrong with one, in the order in which it is looked at
pub data IsWrongNode (look : RevisionBytes) (rev : ℕ) (begun copied drawn : List Part) (v : NodeRev) (pred : Option NodeRev) (w : Wrong) : Type 0 where
  Beginning : IsWrongBeginning rev begun v w → IsWrongNode look rev begun copied drawn v pred w
  Copying : IsWrongCopyOf look rev copied drawn v w → IsWrongNode look rev begun copied drawn v pred w
  WithProps : IsWrongProps look v w → IsWrongNode look rev begun copied drawn v pred w
  WithContents : IsWrongContents look v pred w → IsWrongNode look rev begun copied drawn v pred w
