use Rattle.std.proofs.Common.{◌≡◌, ◌++◌, map, take, Global}
use Rattle.std.specs.String.{string_bytes}
use Rattle.fsfs_base.specs.Paths.{names_text}
use Rattle.fsfs_base.proofs.paths.path.FsPath.put_text.Given as goal

abbrev pub invariant-loop-name : goal.invariant-loop-name
invariant-loop-name l = l.out.items ≡ l.initial.out.items ++ names_text (map (string_bytes {Z = Global}) (take l.name-index l.name-items))
