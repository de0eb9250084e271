-- The list of a directory as it is written: a dump of its entries.
use Rattle.std.specs.Prelude.{◌≡◌, ◌≤◌, ℕ, true, List, length}
use Rattle.fsfs_base.specs.Grammar.Relations.{Appends}
use Rattle.fsfs_layout.specs.Hash.Dump.{Pair, Entries, IsDump, dump_text}
use Rattle.fsfs_revision.specs.Nodes.{is_revision_id}
use Rattle.fsfs_revision.specs.Shows.Reading.{Pairs, DirEntry, IsEntryValue}
use Rattle.fsfs_dag.specs.Entries.{IsEntryText, LeadTo, ListsEntries}

-- the dump of these entries, in byte order of their names, each name once
pub record IsListText (entries : List DirEntry) (text : List ℕ) : Type 0 where
  pub pairs : Pairs
  pub text_is : text ≡ dump_text pairs
  pub in_order : Entries text pairs
  pub dump : IsDump text pairs
  pub lead : LeadTo entries pairs
  pub lists : ListsEntries entries pairs

-- the entry's name and value were put at the end
pub record IsEntryAdded (old new : List ℕ) (entry : DirEntry) : Type 0 where
  pub value : List ℕ
  pub put : Appends Pair old new (entry.name, value)
  pub told : IsEntryText value entry.kind entry.id
  pub value_is : is_revision_id entry.id ≡ true → IsEntryValue value entry.kind entry.id
  pub short : length value ≤ 117
