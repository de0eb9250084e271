-- Own node-revisions that were put one after another.
use Rattle.std.specs.Prelude.{◌≡◌, ◌⊎◌, ℕ, List, [], ◌∷◌, Option, Some, None, map, if◌then◌else◌}
use Rattle.std.specs.Str.{IsUtf8}
use Rattle.fsfs_base.specs.Paths.{PathName, Path, same_path}
use Rattle.fsfs_noderev.specs.Writing.{HasText}
use Rattle.fsfs_noderev.specs.declared.node_rev.NodeRev.{NodeRev}
use Rattle.fsfs_revision.specs.Shows.Reading.{Pairs, DirEntry, named}
use Rattle.fsfs_draft.specs.Drafts.{Kept}
use Rattle.fsfs_noderev.specs.Limits.{IsNodePast}
use Rattle.fsfs_noderev.specs.declared.limits.limit.PathLimit.{PathLimit}
use Rattle.fsfs_final.specs.Pieces.Naming.{FinalIds, final_entry}
use Rattle.fsfs_final.specs.Pieces.Lists.{AreTextOf}
use Rattle.fsfs_final.specs.Pieces.Nodes.{IsNodePut}
use Rattle.fsfs_final.specs.Order.Orders.{path_of}
use Rattle.fsfs_dag.specs.Entries.{ListsEntries}

abbrev pub no_ids : FinalIds
no_ids p = None

abbrev pub AreUtf8 : List DirEntry → Type 0
AreUtf8 entries = (name : PathName) (e : DirEntry) → named name entries ≡ Some e → IsUtf8 name

-- the pairs of a list of entries in a directory, with their ids in the revision; there is no list without a file
abbrev pub AreFinalPairs : FinalIds → Path → Option (List DirEntry) → Option Pairs → Type 0
AreFinalPairs ids dir None None = Unit {0}
AreFinalPairs ids dir None (Some pairs) = ⊥
AreFinalPairs ids dir (Some entries) None = ⊥
AreFinalPairs ids dir (Some entries) (Some pairs) = ListsEntries (map (final_entry ids dir) entries) pairs × AreUtf8 entries

abbrev pub IsFinalList : FinalIds → Kept → Option Pairs → Type 0
IsFinalList ids k list = AreFinalPairs ids (path_of k) k.entries list

-- and its text
pub record IsFinalText (ids : FinalIds) (k : Kept) (text : Option (List ℕ)) : Type 0 where
  pub list : Option Pairs
  pub listed : IsFinalList ids k list
  pub texts : AreTextOf list text

-- one was put behind `old`, which begins at the offset `start` of revision n, and its id noted
pub record IsNextPut (n start : ℕ) (old new : List ℕ) (k : Kept) (ids now : FinalIds) : Type 0 where
  pub list : Option Pairs
  pub done : NodeRev
  -- its paths are within their limits
  pub within : HasText k.node
  pub listed : IsFinalList ids k list
  pub put : IsNodePut n start old new k.node list k.props done
  pub noted : (q : Path) → now q ≡ (if same_path (path_of k) q then Some done.id else ids q)

-- one after another
abbrev pub ArePut : (n start : ℕ) → List Kept → (old : List ℕ) → FinalIds → (new : List ℕ) → FinalIds → Type 0
ArePut n start [] old ids new now = (new ≡ old) × ((q : Path) → now q ≡ ids q)
ArePut n start (k ∷ ks) old ids new now = (mid : List ℕ) × (later : FinalIds) × IsNextPut n start old mid k ids later × ArePut n start ks mid later new now

-- a path of one of them is past this limit
abbrev pub IsOnePast : PathLimit → List Kept → Type 0
IsOnePast limit [] = ⊥
IsOnePast limit (k ∷ ks) = IsNodePast limit k.node ⊎ IsOnePast limit ks
