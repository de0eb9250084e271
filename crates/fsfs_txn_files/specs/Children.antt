-- The `children` file of a directory: a whole dump of its entries, and behind it a record for each that was put or taken away since.
use Rattle.std.specs.Prelude.{◌≡◌, ℕ, List, ◌++◌}
use Rattle.fsfs_base.specs.Paths.{PathName}
use Rattle.fsfs_base.specs.declared.kind.Kind.{Kind}
use Rattle.fsfs_noderev.specs.declared.node_id.NodeId.{NodeId}
use Rattle.fsfs_layout.specs.Hash.Dump.{Field, Pair, IsDump, dump_text}
use Rattle.fsfs_layout.specs.Hash.Children.{IsChildren}
use Rattle.fsfs_revision.specs.Shows.Reading.{Pairs, DirEntry}
use Rattle.fsfs_dag.specs.Entries.{IsEntryText, LeadTo, HasPut, HasTaken}

-- ---- what is written

-- the dump of these entries, in byte order of their names, each name once
pub record IsWholeList (entries : List DirEntry) (text : List ℕ) : Type 0 where
  pub pairs : Pairs
  pub text_is : text ≡ dump_text pairs
  pub dump : IsDump text pairs
  pub lead : LeadTo entries pairs

-- `K <length>`, the name, `V <length>` and the entry's value
pub record IsPutRecord (name : PathName) (kind : Kind) (id : NodeId) (text : List ℕ) : Type 0 where
  pub value : List ℕ
  pub value_is : IsEntryText value kind id
  pub text_is : Pair text (name, value)

-- `D <length>` and the name
abbrev pub IsTakenRecord : PathName → List ℕ → Type 0
IsTakenRecord name text = Field 68 text name

-- ---- what a reader finds

-- read to its end, the file says these entries
pub record Tells (text : List ℕ) (entries : List DirEntry) : Type 0 where
  pub pairs : Pairs
  pub read : IsChildren text pairs
  pub lead : LeadTo entries pairs

pub record ChildrenTell : Type 0 where
  pub whole : (entries : List DirEntry) (text : List ℕ) → IsWholeList entries text → Tells text entries
  pub put : (before text : List ℕ) (old new : List DirEntry) (name : PathName) (kind : Kind) (id : NodeId) → Tells before old → IsPutRecord name kind id text → HasPut old name kind id new → Tells (before ++ text) new
  pub taken : (before text : List ℕ) (old new : List DirEntry) (name : PathName) → Tells before old → IsTakenRecord name text → HasTaken old name new → Tells (before ++ text) new
