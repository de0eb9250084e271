use Rattle.std.proofs.Common.{◌≡◌, ◌+◌, ◌<◌, ◌^◌, length}
use Rattle.std.specs.List.{filter}
use Rattle.fsfs_tree.specs.Entries.{is_entry, entry_count}
use Rattle.fsfs_tree.proofs.tree.Tree.entry_count.Given as goal

-- those counted, and those to come
abbrev pub invariant-loop-path : goal.invariant-loop-path
invariant-loop-path l = record {
  counts : l.count + length (filter (is_entry l.fn.directory) l.path-iterator) ≡ entry_count l.fn.self l.fn.directory;
  fits : l.count + length l.path-iterator < 2 ^ 63;
}
