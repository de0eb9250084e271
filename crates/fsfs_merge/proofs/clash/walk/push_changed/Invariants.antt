use Rattle.std.proofs.Common.{◌≡◌, ◌++◌, List, map}
use Rattle.fsfs_base.specs.Paths.{PathName}
use Rattle.fsfs_merge.specs.Clash.Lists.{names_in}
use Rattle.fsfs_merge.specs.Clash.Walks.{changed}
use Rattle.fsfs_merge.proofs.ListLemmas.{name_of}
use Rattle.fsfs_merge.proofs.clash.walk.push_changed.Given as goal

-- those of the first names were put
abbrev pub invariant-loop-name : goal.invariant-loop-name
invariant-loop-name l = (done : List PathName) × (names_in l.names ≡ done ++ map name_of l.name-iterator) × (l.todo.items ≡ l.fn.todo.items ++ changed l.which l.path l.sides done)
