-- The files of a transaction whose merged directories were written.
use Rattle.std.specs.Prelude.{◌≡◌, false, List, Some}
use Rattle.std.specs.List.{AllByRecursion}
use Rattle.fsfs_base.specs.Paths.{PathName}
use Rattle.fsfs_noderev.specs.Ids.{PartValue, part_value}
use Rattle.fsfs_noderev.specs.declared.rep.Contents.TheVariants as contents
use Rattle.fsfs_revision.specs.Shows.Reading.{DirEntry, named}
use Rattle.fsfs_dag.specs.Views.{entry_values}
use Rattle.fsfs_draft.specs.Drafts.{Kept, Folder}
use Rattle.fsfs_draft.specs.Steps.{with_kept, kept_at}
use Rattle.fsfs_draft.specs.declared.error.EditError.{EditError}
use Rattle.fsfs_draft.specs.declared.error.EditError.TheVariants as errors
use Rattle.fsfs_merge.specs.declared.clash.merged.MergedDir.{MergedDir}
use Rattle.fsfs_merge.specs.Clash.Plans.{OneIs}

-- behind each name the entry that the merge found
abbrev pub IsListOf : MergedDir → List DirEntry → Type 0
IsListOf dir entries = (name : PathName) → named name entries ≡ named name (entry_values dir.entries.items)

-- a merged directory goes on from the head's, with these entries
abbrev pub relinked_kept : MergedDir → List DirEntry → Kept → Kept
relinked_kept dir entries k = record k { node = record k.node { predecessor = Some dir.link.head; count = dir.link.count; text = Some contents.Own; is_fresh_txn_root = false }; entries = Some entries }

-- the folder with this directory written
abbrev pub relinked : Folder → MergedDir → List DirEntry → Kept → Folder
relinked f dir entries k = record f { nodes = with_kept dir.link.own (relinked_kept dir entries k) f.nodes }

-- one directory was written, of which the folder had the files
pub record IsRelinked (before after : Folder) (dir : MergedDir) : Type 0 where
  pub k : Kept
  pub here : kept_at before.nodes dir.link.own ≡ Some k
  pub entries : List DirEntry
  pub listed : IsListOf dir entries
  pub after_is : after ≡ relinked before dir entries k

-- the directory's files have this node part and copy part
abbrev pub IsOfKey : PartValue → PartValue → MergedDir → Type 0
IsOfKey node copy dir = (part_value dir.link.own.node ≡ node) × (part_value dir.link.own.copy ≡ copy)

-- the files of one node-revision: those of a directory of the list are written, others are as before
pub data IsWritten (before after : Folder) (dirs : List MergedDir) (node copy : PartValue) : Type 0 where
  Merged : (dir : MergedDir) (entries : List DirEntry) (k : Kept) → OneIs (λ (d : MergedDir). d ≡ dir) dirs → IsOfKey node copy dir → IsListOf dir entries → before.nodes node copy ≡ Some k → after.nodes node copy ≡ Some (relinked_kept dir entries k)
      → IsWritten before after dirs node copy
  Same : (OneIs (IsOfKey node copy) dirs → ⊥) → after.nodes node copy ≡ before.nodes node copy → IsWritten before after dirs node copy

-- all directories of the list were written, and nothing else of the folder is changed
pub record AreRelinked (before after : Folder) (dirs : List MergedDir) : Type 0 where
  pub each : (node copy : PartValue) → IsWritten before after dirs node copy
  pub next_node : after.next_node ≡ before.next_node
  pub next_copy : after.next_copy ≡ before.next_copy
  pub items : after.items ≡ before.items
  pub proto : after.proto ≡ before.proto

-- the folder has each directory
abbrev pub AreHere : Folder → List MergedDir → Type 0
AreHere f = AllByRecursion (λ (dir : MergedDir). (k : Kept) × (kept_at f.nodes dir.link.own ≡ Some k))

-- why nothing was settled: memory ran out, or the folder lacks a directory; and then this stays. Where the bench failed nothing is known
abbrev pub IsUnwritten : EditError → Type 0 → Type 0 → Type 0
IsUnwritten errors.BenchFault Lacks Stays = Unit {0}
IsUnwritten errors.OutOfMemory Lacks Stays = Stays
IsUnwritten errors.DiskFault Lacks Stays = ⊥
IsUnwritten (errors.Wrong w) Lacks Stays = ⊥
IsUnwritten errors.Lacking Lacks Stays = Lacks × Stays
