-- That files are short has one proof at most.
use Rattle.std.specs.Prelude.{Option, Some, None, IfSome}
use Rattle.std.specs.Coded.{Unit-prop, le_prop}
use Rattle.fsfs_base.specs.Files.{Files}
use Rattle.fsfs_disk.specs.Benches.{HasShortFiles}

pub short_prop : (o : Option Files) → IsProp (IfSome o HasShortFiles)
short_prop None = Unit-prop
short_prop (Some m) = λ a b i name bytes at. le_prop (a name bytes at) (b name bytes at) i
