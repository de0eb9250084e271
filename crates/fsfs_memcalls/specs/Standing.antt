-- What a listing is of.
use Rattle.std.specs.Prelude.{ℕ, List, Bool}
use Rattle.fsfs_folders.specs.System.CallRecord.{Standing}
use Rattle.fsfs_folders.specs.System.Listing.{has_file}
use Rattle.fsfs_memcalls.specs.declared.listing.Kind.{Kind}
use Rattle.fsfs_memcalls.specs.declared.listing.Kind.TheVariants.{Folder, File}

-- something of this kind stands at a path
abbrev pub stands_as : Kind → Standing → List ℕ → Bool
stands_as Folder names = names.folders
stands_as File names = has_file names
