use Rattle.std.proofs.Common.{◌≡◌, ℕ, List}
use Rattle.std.specs.Prelude.{Option, IfOk, option_map}
use Rattle.fsfs_disk.specs.WholeFiles.FirstBytes.{first_of}
use Rattle.fsfs_disk.proofs.DiskLemmas.{file_told}
use Rattle.fsfs_create.proofs.small_files.read_first.Goals as goal

pub returns-clause-bytes : goal.returns-clause-bytes
returns-clause-bytes g c =
    let P : Option (List ℕ) → Type 0 = λ file. IfOk c.read_file.result (λ found. option_map (λ v. v.items) found ≡ first_of c.args.most file) in
    file_told (g.D.Disk.trace c.args.disk.now) c.args.name.now P c.read_file.ensures.bytes
