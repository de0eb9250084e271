use Rattle.std.proofs.Common.{◌≡◌, ◌≤◌, true, List, [], ◌∷◌, length, refl, arith}
use Rattle.std.specs.Prelude.{nat_lt}
use Rattle.fsfs_dag.specs.declared.directory.DirEntry.{DirEntry}
use Rattle.fsfs_dag.specs.Views.{entry_values}
use Rattle.fsfs_draft.proofs.Counting.{names_in}
use Rattle.fsfs_draft.proofs.names.has_room.Goals as goal

same_length : (es : List DirEntry) → length (entry_values es) ≡ length es
same_length [] = refl
same_length (e ∷ es) = let h = same_length es in omega (arith, h)

pub returns-then-entries-lt-MOST_ENTRIES : goal.returns-then-entries-lt-MOST_ENTRIES
returns-then-entries-lt-MOST_ENTRIES c =
    let n = names_in (entry_values c.args.entries.now) in
    let le : n.0 ≤ length (entry_values c.args.entries.now) = n.2 in
    let same = same_length c.args.entries.now in
    (n.0, n.1, (let e : true ≡ nat_lt n.0 1048576 = grind (arith, le, same, c.if-entries-lt-MOST_ENTRIES.true) in e))
