-- The entry of a name, by what it names.
use Rattle.std.specs.Prelude.{Option, option_map}
use Rattle.fsfs_base.specs.Paths.{PathName}
use Rattle.fsfs_revision.specs.Shows.Reading.{DirEntry}
use Rattle.fsfs_dag.specs.declared.listing.target.Target.{Target}

abbrev pub entry_of : PathName → Target → DirEntry
entry_of name target = record { name = name; kind = target.kind; id = target.id }

abbrev pub target_entry : PathName → Option Target → Option DirEntry
target_entry name target = option_map (entry_of name) target
