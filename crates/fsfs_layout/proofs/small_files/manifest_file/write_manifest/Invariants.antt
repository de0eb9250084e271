use Rattle.std.proofs.Common.{◌≡◌, take}
use Rattle.std.specs.List.{flat_map}
use Rattle.fsfs_layout.specs.Manifest.{offset_line}
use Rattle.fsfs_layout.proofs.small_files.manifest_file.write_manifest.Given as goal

abbrev pub invariant-loop-offset : goal.invariant-loop-offset
invariant-loop-offset l = l.out.items ≡ flat_map offset_line (take l.offset-index l.offsets)
