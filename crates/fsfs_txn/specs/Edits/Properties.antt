-- A property set or removed at what was opened: what is left, and when it is refused.
use Rattle.std.specs.Prelude.{◌≡◌, ◌≢◌, ◌≤◌, ℕ, Bool, true, false, ◌||◌, List, Option, Result, Ok, Err, Vec, codes}
use Rattle.std.specs.Global.{Global}
use Rattle.fsfs_base.specs.Paths.{same_name}
use Rattle.fsfs_tree.specs.Nodes.{TreeFunction}
use Rattle.fsfs_tree.specs.Histories.{AreRevisions}
use Rattle.fsfs_model.specs.Flat.Edits.{bytes_of, fits_value}
use Rattle.fsfs_model.specs.declared.flat.edit.Edit.TheVariants.{SetProp}
use Rattle.fsfs_model.specs.declared.flat.mark.Mark.{Mark}
use Rattle.fsfs_base.specs.declared.fields.txn_name.TxnName.{TxnName}
use Rattle.fsfs_revision.specs.Told.{RevisionBytes}
use Rattle.fsfs_draft.specs.Drafts.{Folder, ShowTrees}
use Rattle.fsfs_txn.specs.Opened.Knowing.{AreKnown}
use Rattle.fsfs_txn.specs.declared.opened.properties.PropertyPut.{PropertyPut}
use Rattle.fsfs_txn.specs.declared.opened.properties.PropertyPut.TheVariants as puts
use Rattle.fsfs_txn.specs.declared.opening.Opened.{Opened}
use Rattle.fsfs_txn.specs.declared.edits.properties.PropertySet.{PropertySet}
use Rattle.fsfs_txn.specs.declared.edits.properties.PropertySet.TheVariants as sets
use Rattle.fsfs_txn.specs.declared.txn_error.TxnError.{TxnError}
use Rattle.fsfs_txn.specs.Edits.Texts.{IfLeft}
use Rattle.fsfs_txn.specs.Standing.{Stands, IsEdited}

abbrev pub outcome_of : PropertyPut → PropertySet
outcome_of puts.Done = sets.Done
outcome_of puts.TooLong = sets.TooLong

-- the property that the counts are of
abbrev pub is_mergeinfo : List ℕ → Bool
is_mergeinfo name = same_name name (codes "svn:mergeinfo")

-- counts of mergeinfo would have to change
abbrev pub is_barred : Opened → List ℕ → Bool
is_barred o name = o.counted || is_mergeinfo name

-- each refusal has its cause, in this order: a move since, counts of mergeinfo, and the value
abbrev pub IsSettingProp : RevisionBytes → (ℕ → TreeFunction) → ℕ → ℕ → TxnName → TreeFunction → List Mark → ℕ → Opened → List ℕ → Option (Vec ℕ Global) → Folder → Folder → Result PropertySet TxnError → Type 0
IsSettingProp look trees top base txn tree marks moves o name value before after (Ok (sets.Stale opened now)) = (opened ≡ o.moves) × (now ≡ moves) × (opened ≢ now) × (after ≡ before)
IsSettingProp look trees top base txn tree marks moves o name value before after (Ok sets.Done) = (is_barred o name ≡ false) × (fits_value (bytes_of value) ≡ true) × IsEdited look trees top base txn tree marks (SetProp o.way.path name value) after
IsSettingProp look trees top base txn tree marks moves o name value before after (Ok sets.Mergeinfo) = (is_barred o name ≡ true) × (after ≡ before)
IsSettingProp look trees top base txn tree marks moves o name value before after (Ok sets.TooLong) = (is_barred o name ≡ false) × (fits_value (bytes_of value) ≡ false) × (after ≡ before)
IsSettingProp look trees top base txn tree marks moves o name value before after (Err e) = IfLeft e (after ≡ before)

-- over any history that the bytes show, and of which what was read is known, it is the flat model's edit, or its refusal
abbrev pub MeetsSettingProp : ℕ → ℕ → TxnName → Folder → Folder → Opened → List ℕ → Option (Vec ℕ Global) → Result PropertySet TxnError → Type 0
MeetsSettingProp base moves txn before after o name value result = (look : RevisionBytes) (trees : ℕ → TreeFunction) (top : ℕ) (tree : TreeFunction) (marks : List Mark) → AreKnown look top o.way.known.items → ShowTrees look top trees → AreRevisions trees top → base ≤ top
    → Stands look trees top base txn before tree marks → IsSettingProp look trees top base txn tree marks moves o name value before after result

-- where a node was made, copied or taken away since, or the transaction landed, that is told, and both counts
abbrev pub IsStaleProp : ℕ → ℕ → Result PropertySet TxnError → Type 0
IsStaleProp opened now result = opened ≢ now → result ≡ Ok (sets.Stale opened now)
