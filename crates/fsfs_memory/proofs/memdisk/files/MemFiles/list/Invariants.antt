use Rattle.std.proofs.Common.{◌≡◌, ◌++◌, map}
use Rattle.fsfs_base.specs.Files.{NamedFile}
use Rattle.fsfs_memory.specs.Memdisk.MemFiles.{content, named_files}
use Rattle.fsfs_memory.proofs.memdisk.files.MemFiles.list.Given as goal

-- the files of the list, and those that are to come
abbrev pub invariant-loop-name : goal.invariant-loop-name
invariant-loop-name l =
    map {B = NamedFile} (λ file. (file.0.now, file.1.now)) l.files.items ++ named_files content l.name-iterator ≡ named_files content l.initial.name-iterator
