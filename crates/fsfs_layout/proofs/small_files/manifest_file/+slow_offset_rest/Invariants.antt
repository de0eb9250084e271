use Rattle.std.proofs.Common.{length}
use Rattle.fsfs_layout.proofs.small_files.manifest_file.+slow_offset_rest.Given as goal

abbrev pub decreases-slow_offset_rest : goal.decreases-slow_offset_rest
decreases-slow_offset_rest l = length l.bytes.now
