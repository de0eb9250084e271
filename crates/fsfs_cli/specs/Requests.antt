-- What is asked for, as a value.
use Rattle.std.specs.Prelude.{◌≢◌, ℕ, List, [], ◌∷◌, Option, Some, None, unwrap_or}
use Rattle.fsfs_base.specs.Paths.{Path}
use Rattle.fsfs_cli.specs.declared.request.Printed.{Printed}
use Rattle.fsfs_cli.specs.declared.request.Printed.TheVariants.{Tree, Text, Author, Date, Log, Info, Changed, History}
use Rattle.fsfs_cli.specs.declared.request.Task.{Task}

-- the path in the repository, where one is looked at
abbrev pub path_in_it : Printed → Option Path
path_in_it (Tree show_ids path) = Some path
path_in_it (Text path) = Some path
path_in_it Author = None
path_in_it Date = None
path_in_it Log = None
path_in_it Info = None
path_in_it Changed = None
path_in_it (History path) = Some path

-- the same, and `/` where none is
abbrev pub printed_path : Printed → Path
printed_path printed = unwrap_or (path_in_it printed) []

-- the paths whose disks a task may touch: that of the repository that its words name, and today no other
abbrev pub paths_of : List ℕ → Task → List (List ℕ)
paths_of repos task = repos ∷ []

-- it is none of these paths
abbrev pub IsNoneOf : List (List ℕ) → List ℕ → Type 0
IsNoneOf [] path = Unit {0}
IsNoneOf (named ∷ paths) path = (path ≢ named) × IsNoneOf paths path
