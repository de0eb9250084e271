-- What a mount for some access allows.
use Rattle.fsfs_disk.specs.declared.access.Access.{Access}
use Rattle.fsfs_disk.specs.declared.access.Access.TheVariants.{Read, Write, Create}

-- files may be changed
abbrev pub MayChange : Access → Type 0
MayChange Read = ⊥
MayChange Write = Unit {0}
MayChange Create = Unit {0}
