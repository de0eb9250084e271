-- Files to be written.
use Rattle.fsfs_base.specs.Files.{NamedFile}
use Rattle.fsfs_create.specs.declared.initial.NewFile.{NewFile}

-- a file to be written, as its name and bytes
abbrev pub named : NewFile → NamedFile
named file = (file.name, file.bytes.items)
