use Rattle.std.proofs.Common.{length}
use Rattle.fsfs_base.proofs.paths.path_text.+room_behind.Given as goal

abbrev pub decreases-room_behind : goal.decreases-room_behind
decreases-room_behind l = length l.names.now
