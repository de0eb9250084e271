-- The three directories at a path.
use Rattle.std.specs.Prelude.{◌&&◌, Option, Some, None, if◌then◌else◌}
use Rattle.fsfs_model.specs.Flat.Edits.{is_dir}
use Rattle.fsfs_merge.specs.declared.clash.three.Target.{Target}
use Rattle.fsfs_merge.specs.declared.clash.three.Three.{Three}
use Rattle.fsfs_merge.specs.declared.clash.turn.Dirs.{Dirs}

abbrev pub dirs_of : Option Target → Option Target → Option Target → Option Dirs
dirs_of None y v = None
dirs_of (Some x) None v = None
dirs_of (Some x) (Some y) None = None
dirs_of (Some x) (Some y) (Some v) = if is_dir x.kind && is_dir y.kind && is_dir v.kind then Some (record { base = x.id; head = y.id; own = v.id }) else None

abbrev pub dirs_in : Three → Option Dirs
dirs_in t = dirs_of t.base t.head t.own
