use Rattle.std.proofs.Common.{◌≡◌, [], ◌∷◌, take}
use Rattle.std.specs.List.{list_any}
use Rattle.std.specs.String.{string_bytes}
use Rattle.std.specs.BTreeSet as set
use Rattle.fsfs_base.specs.Paths.{PathName, path_cmp, same_name}
use Rattle.fsfs_dag.specs.declared.directory.DirEntry.{DirEntry}
use Rattle.fsfs_draft.specs.Names.{CountsNames}
use Rattle.fsfs_draft.proofs.names.name_count.Given as goal

-- the names so far
abbrev pub invariant-loop-entry : goal.invariant-loop-entry
invariant-loop-entry l = record {
  counts : CountsNames (λ (x : PathName). set.contains path_cmp l.seen (x ∷ [])) (set.btree_set_len l.seen);
  told : (x : PathName) → set.contains path_cmp l.seen (x ∷ []) ≡ list_any (λ (e : DirEntry). same_name (string_bytes e.name) x) (take l.entry-index l.entries);
}
