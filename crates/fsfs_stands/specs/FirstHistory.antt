-- What shows the history of a new repository.
use Rattle.std.specs.Prelude.{◌≡◌, ℕ, List, Ok}
use Rattle.jiff_core.specs.declared.civil.datetime.DateTime.{DateTime}
use Rattle.fsfs_base.specs.Fields.Dates.{IsDateText}
use Rattle.fsfs_tree.specs.Answers.{new_history}
use Rattle.fsfs_revision.specs.Told.{RevisionBytes}
use Rattle.fsfs_layout.specs.CreatedFiles.{date_properties}
use Rattle.fsfs_base.specs.FirstRevision.{first_bytes}
use Rattle.fsfs_stands.specs.History.{ShowsHistory}

-- the bytes of revision 0 and of its property file show this history
abbrev pub FirstHistoryIsShown : Type 0
FirstHistoryIsShown = (look props : RevisionBytes) (date : List ℕ) (dt : DateTime) → IsDateText date dt → look 0 ≡ Ok first_bytes → props 0 ≡ Ok (date_properties date) → ShowsHistory look props (new_history date)
