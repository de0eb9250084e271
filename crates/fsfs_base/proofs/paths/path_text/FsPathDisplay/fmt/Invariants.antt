use Rattle.std.proofs.Common.{map, take, Global}
use Rattle.std.specs.Fmt.{HasWritten, IsPlainFormatter}
use Rattle.std.specs.String.{string_bytes}
use Rattle.fsfs_base.specs.Paths.{names_text}
use Rattle.fsfs_base.proofs.paths.path_text.FsPathDisplay.fmt.Given as goal

abbrev pub invariant-loop-name : goal.invariant-loop-name
invariant-loop-name g l = IsPlainFormatter l.initial.f → HasWritten g.W.Write.write_str_gives l.initial.f (names_text (map (string_bytes {Z = Global}) (take l.name-index l.name-items))) l.f
