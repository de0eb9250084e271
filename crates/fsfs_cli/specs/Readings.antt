-- What reading words gives, of what they ask for.
use Rattle.std.specs.Prelude.{◌≡◌, [], ℕ, List, Option, Some, None, Result, Ok, Err}
use Rattle.fsfs_base.specs.Paths.{Path}
use Rattle.fsfs_base.specs.PathTexts.{IsBadPath}
use Rattle.fsfs_cli.specs.Grammars.{path_meant, IsPathOf}
use Rattle.fsfs_cli.specs.Requests.{IsNoneOf, paths_of}
use Rattle.fsfs_cli.specs.Words.{Asked, asked}
use Rattle.fsfs_cli.specs.declared.faults.words_fault.WordsFault.{WordsFault}
use Rattle.fsfs_cli.specs.declared.faults.words_fault.WordsFault.TheVariants.{Usage, BadPath, Memory}
use Rattle.fsfs_base.specs.declared.paths.bad_path.BadPath.{BadPath as BadPathAt}
use Rattle.fsfs_cli.specs.declared.request.Request.{Request}
use Rattle.fsfs_cli.specs.declared.request.Task.{Task}
use Rattle.fsfs_cli.specs.declared.tool.Tool.{Tool}

-- the path that a word means; refused with the byte and the rule; want of memory apart
abbrev pub ReadsPath : List ℕ → Result Path WordsFault → Type 0
ReadsPath word (Ok path) = IsPathOf word path
ReadsPath word (Err Usage) = ⊥
ReadsPath word (Err (BadPath bad)) = IsBadPath (path_meant word) bad.at bad.why
ReadsPath word (Err Memory) = Unit {0}

-- a value as it is defined, and Usage exactly where none is; want of memory apart
abbrev pub Finds : {A B : Type 0} → Option B → (A → B) → Result A WordsFault → Type 0
Finds defined view (Ok value) = defined ≡ Some (view value)
Finds defined view (Err Usage) = defined ≡ None
Finds defined view (Err (BadPath bad)) = ⊥
Finds defined view (Err Memory) = Unit {0}

-- ---- requests

-- the path of a word, and `/` where it is left out
abbrev pub IsPathGiven : Option (List ℕ) → Path → Type 0
IsPathGiven None path = path ≡ []
IsPathGiven (Some word) path = IsPathOf word path

abbrev pub GivesPath : Option (List ℕ) → Result Path WordsFault → Type 0
GivesPath None (Ok path) = path ≡ []
GivesPath None (Err fault) = fault ≡ Memory
GivesPath (Some word) result = ReadsPath word result

-- what is asked for means this task, of the repository at this path
abbrev pub Means : Asked → List ℕ → Task → Type 0
Means a repos task = (repos ≡ a.repos) × ((path : Path) × IsPathGiven a.path path × (task ≡ a.task path))

abbrev pub AsksFor : Option Asked → List ℕ → Task → Type 0
AsksFor asked repos task = (a : Asked) × (asked ≡ Some a) × Means a repos task

-- a program's words ask for this task, of the repository at this path
abbrev pub Asks : Tool → List (List ℕ) → List ℕ → Task → Type 0
Asks tool words = AsksFor (asked tool words)

-- no task that they ask for touches this path
abbrev pub IsUnnamed : Tool → List (List ℕ) → List ℕ → Type 0
IsUnnamed tool words path = (repos : List ℕ) (task : Task) → Asks tool words repos task → IsNoneOf (paths_of repos task) path

-- the word for a path means none: at which byte of the path's text, and why
abbrev pub IsBadPathOf : Asked → BadPathAt → Type 0
IsBadPathOf a bad = (word : List ℕ) × (a.path ≡ Some word) × IsBadPath (path_meant word) bad.at bad.why

-- Usage exactly where the words ask for nothing; a path is refused with its cause; want of memory apart
abbrev pub Refuses : Option Asked → WordsFault → Type 0
Refuses asked Usage = asked ≡ None
Refuses asked (BadPath bad) = (a : Asked) × (asked ≡ Some a) × IsBadPathOf a bad
Refuses asked Memory = Unit {0}

-- reading words: what they ask for, or a refusal
abbrev pub Reads : Option Asked → Result Request WordsFault → Type 0
Reads asked (Ok request) = AsksFor asked request.repos.now request.task
Reads asked (Err fault) = Refuses asked fault
