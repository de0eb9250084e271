use Rattle.std.proofs.Common.{ap, arith}
use Rattle.std.specs.Prelude.{length}
use Rattle.fsfs_folders.proofs.PathLemmas.{before_short}
use Rattle.fsfs_folders.proofs.system.path.Path.folder.Goals as goal

pub new-requires-else-is_empty : goal.new-requires-else-is_empty
new-requires-else-is_empty c =
    let same = ap length c.before_last_slash.ensures in
    let short = before_short c.as_str-else-is_empty.result.now in
    let fits = c.as_str-else-is_empty.ensures.fits in
    omega (arith, same, short, fits)
