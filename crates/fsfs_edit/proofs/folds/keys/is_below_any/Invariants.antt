use Rattle.std.proofs.Common.{◌≡◌, map, take, Global}
use Rattle.std.specs.String.{string_bytes}
use Rattle.indexmap.specs.IndexSet.{contains_text}
use Rattle.fsfs_base.specs.Paths.{names_text}
use Rattle.fsfs_edit.specs.Folds.Lasting.{any_above}
use Rattle.fsfs_edit.proofs.Above.{left_above}
use Rattle.fsfs_edit.proofs.folds.keys.is_below_any.Given as goal

-- none of the paths of fewer names is in the set
abbrev pub invariant-loop-name : goal.invariant-loop-name
invariant-loop-name l = record {
  above : string_bytes l.above ≡ names_text (take l.name-index (map (string_bytes {Z = Global}) l.name-items));
  left : left_above (λ q. contains_text l.paths (names_text q)) (map (string_bytes {Z = Global}) l.name-items) l.name-index ≡ any_above (λ q. contains_text l.paths (names_text q)) l.path;
}
