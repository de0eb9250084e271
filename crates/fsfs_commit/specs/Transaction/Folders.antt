-- The folders of a new shard.
use Rattle.std.specs.Prelude.{ℕ, List, Option, Some, None, ◌==◌, if◌then◌else◌}
use Rattle.fsfs_layout.specs.FileNames.{file_name}
use Rattle.fsfs_layout.specs.Layouts.{place_in_shard}
use Rattle.fsfs_layout.specs.declared.layout.Layout.{Layout}
use Rattle.fsfs_layout.specs.declared.repository_file.RepositoryFile.{RepositoryFile}

-- the name of the folder, where this revision is the first of its shard
abbrev pub new_shard : Layout → ℕ → RepositoryFile → Option (List ℕ)
new_shard layout rev folder = if place_in_shard layout rev == 0 then Some (file_name layout folder) else None
