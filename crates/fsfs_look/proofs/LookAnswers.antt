-- What a reading answered, as a look answers it.
use Rattle.std.proofs.Common.{◌≡◌, ℕ, ◌≤◌, ◌-◌, List, [], ◌∷◌, length, get_or, map, Result, Ok, Err, refl, subst, arith}
use Rattle.fsfs_base.specs.Paths.{PathName, Path}
use Rattle.fsfs_revision.specs.Told.{RevisionBytes}
use Rattle.fsfs_tree.specs.Answers.{last_name}
use Rattle.fsfs_revision.specs.declared.wrong.ReadError.{ReadError}
use Rattle.fsfs_revision.specs.declared.wrong.ReadError.TheVariants as reads
use Rattle.fsfs_revision.specs.Damage.Readings.{Answers}
use Rattle.fsfs_revision.specs.Shows.Reading.{MetAt}
use Rattle.fsfs_dag.specs.declared.node.PlacedNode.{PlacedNode}
use Rattle.fsfs_dag.specs.declared.walk.Met.{Met as Rust}
use Rattle.fsfs_dag.specs.declared.walk.Met.TheVariants as mets
use Rattle.fsfs_dag.specs.Views.{met_value}
use Rattle.fsfs_look.specs.declared.look_error.LookError.TheVariants as errors
use Rattle.fsfs_stands.specs.declared.look_fault.LookFault.TheVariants as faults
use native.Mathlib.Numerals.{unary_clauses}
use Rattle.fsfs_look.specs.Errors.{of_read}
use Rattle.fsfs_look.specs.Paths.{IsFound}

pub not_found : (look : RevisionBytes) (rev : ℕ) (path : Path) (e : ReadError) → Answers met_value (MetAt look rev path) (Err e) → IsFound look rev path (Err (of_read e))
not_found look rev path (reads.Wrong w) h = h
not_found look rev path reads.OutOfMemory h = tt
not_found look rev path reads.DiskFault h = tt

module _ (look : RevisionBytes) (rev : ℕ) (path : Path) (read : Result Rust ReadError) (met : Rust) (is : read ≡ Ok met) (told : Answers met_value (MetAt look rev path) read) where
  of_met : MetAt look rev path (Ok (met_value met))
  of_met = subst (λ r. Answers met_value (MetAt look rev path) r) is told

  pub node_met : (found : PlacedNode) → met ≡ mets.Node found → IsFound look rev path (Ok found)
  node_met found e = subst (λ m. MetAt look rev path (Ok (met_value m))) e of_met

  pub lacking_met : (names : ℕ) → met ≡ mets.Absent names → IsFound look rev path (Err (errors.Fault (faults.NotFound names)))
  lacking_met names e = subst (λ m. MetAt look rev path (Ok (met_value m))) e of_met

  pub blocked_met : (names : ℕ) → met ≡ mets.File names → IsFound look rev path (Err (errors.Fault (faults.NotDir names)))
  blocked_met names e = subst (λ m. MetAt look rev path (Ok (met_value m))) e of_met

-- the last of some names
pub last_of : {S : Type 0} (text : S → PathName) (items : List S) (item : S) → 1 ≤ length items → text (get_or items (length items - 1) item) ≡ last_name (map text items)
last_of text [] item some = absurd (omega arith)
last_of text (x ∷ []) item some = refl
last_of text (x ∷ y ∷ items) item some = simp unary_clauses (simp unary_clauses at (last_of text (y ∷ items) item (omega arith)))
