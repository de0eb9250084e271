use Rattle.std.proofs.Common.{◌≡◌, map, take, Global}
use Rattle.std.specs.String.{string_bytes}
use Rattle.fsfs_base.specs.Paths.{names_text}
use Rattle.fsfs_edit.proofs.folds.keys.key_of.Given as goal

-- the names so far
abbrev pub invariant-loop-name : goal.invariant-loop-name
invariant-loop-name l = string_bytes l.key ≡ names_text (take l.name-index (map (string_bytes {Z = Global}) l.name-items))
