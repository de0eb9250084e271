-- What the types of this crate are, apart from where they lie in memory.
use Rattle.std.specs.Prelude.{◌≡◌, ℕ, List, map, Option, Some, None, Result, Ok, Err}
use Rattle.fsfs_base.specs.Paths.{Path}
use Rattle.fsfs_base.specs.declared.kind.Kind.{Kind}
use Rattle.fsfs_noderev.specs.declared.node_rev.CopySource.{CopySource}
use Rattle.fsfs_revision.specs.declared.wrong.Wrong.{Wrong}
use Rattle.fsfs_revision.specs.Damage.Readings.{AndThen}
use Rattle.fsfs_revision.specs.Told.{RevisionBytes}
use Rattle.fsfs_look.specs.declared.look_error.LookError.{LookError}
use Rattle.fsfs_look.specs.declared.look_error.LookError.TheVariants as errors
use Rattle.fsfs_stands.specs.declared.look_fault.LookFault.TheVariants as faults
use Rattle.fsfs_tree.specs.ChangedTexts.{replaced_lines}
use Rattle.fsfs_stands.specs.ChangedTexts.{ByText, TakenKind}
use Rattle.fsfs_history.specs.declared.by_text.ItemsByText.{ItemsByText}

abbrev pub by_text_value : ItemsByText → ByText
by_text_value found = map (λ e. (e.0.items, e.1)) found.items.entries

abbrev pub source_place : CopySource → ℕ × Path
source_place s = (s.rev, s.path)

-- the lines of a replace
abbrev pub Replaced : RevisionBytes → ℕ → ByText → Path → Kind → Result (List ℕ) Wrong → Type 0
Replaced look rev found p kind = AndThen (TakenKind look rev found p kind) (λ taken r. r ≡ Ok (replaced_lines p taken kind))

-- a text ends so behind the lines of its items
abbrev pub EndsText : Option Wrong → Result (Unit {0}) LookError → Type 0
EndsText None result = result ≡ Ok tt
EndsText (Some w) result = result ≡ Err (errors.Fault (faults.Wrong w))
