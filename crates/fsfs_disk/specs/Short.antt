-- No file is longer than 2^62 bytes.
use Rattle.std.specs.Prelude.{◌≤◌, ◌^◌, length}
use Rattle.fsfs_disk.specs.Trace.{NameChange, Put, Adopt, Rename, Remove, FirmNames, KeepLabel, DropLabel}

-- the bytes that a change brings are short
abbrev pub IsShortChange : NameChange → Type 0
IsShortChange (Put name bytes) = length bytes ≤ 2 ^ 62
IsShortChange (Adopt name bytes) = length bytes ≤ 2 ^ 62
IsShortChange (Rename from to) = Unit {0}
IsShortChange (Remove name) = Unit {0}
IsShortChange FirmNames = Unit {0}
IsShortChange (KeepLabel l) = Unit {0}
IsShortChange (DropLabel l) = Unit {0}
