-- Where the property file of a revision shows properties, what is printed is of them.
use Rattle.std.proofs.Common.{◌≡◌, ◌∙◌, ℕ, ℤ, List, ◌++◌, Option, Some, None, refl, sym, ap, subst, inl, inr}
use Rattle.std.specs.Prelude.{Ok, codes}
use Rattle.jiff_core.specs.declared.civil.datetime.DateTime.{DateTime}
use Rattle.fsfs_base.specs.Fields.Dates.{IsDateText}
use Rattle.fsfs_base.proofs.DateReadings.{numbers_of, shown_as, numbers_again}
use Rattle.fsfs_tree.specs.PropTexts.{date_line}
use Rattle.fsfs_tree.specs.ShownDates.{printed_date, printed_numbers}
use Rattle.fsfs_tree.specs.Dated.{date_name}
use Rattle.fsfs_revision.specs.Told.{RevisionBytes}
use Rattle.fsfs_revision.specs.RevProps.{only}
use Rattle.fsfs_look.specs.Revprops.Files.{Pairs, RevPropsOf}
use Rattle.fsfs_look.specs.Revprops.Dates.{shown_date}
use Rattle.fsfs_stands.specs.Texts.{Whole}
use Rattle.fsfs_stands.specs.ByTree.{IsOf}
use Rattle.fsfs_stands.proofs.WholeTexts.{of_agree}
use Rattle.fsfs_look.specs.Revprops.Texts.{value_of, author_name, log_name, value_line, IsDateLine, info_lines}
use Rattle.fsfs_look.specs.Revprops.Laws.{ShowsProps, AuthorsAreByProps, LogsAreByProps, DatesAreByProps, InfosAreByProps}
use Rattle.fsfs_look.proofs.OneText.{authors_one, logs_one, dates_one, infos_one}

-- a date in the form of stored dates has a line
dated_line : (stored : Option (List ℕ)) → ((value : List ℕ) → stored ≡ Some value → (dt : DateTime) × IsDateText value dt) → (line : List ℕ) × IsDateLine stored line
dated_line None dated = (codes "\n", refl)
dated_line (Some text) dated = let d = dated text refl in (shown_date d.0 ++ codes "\n", (d.0, d.1, refl))

-- and that is the line of its numbers
line_is : (stored : Option (List ℕ)) (line : List ℕ) → IsDateLine stored line → line ≡ date_line stored
line_is None line e = e
line_is (Some text) line (dt, is, e) =
    let numbers = numbers_again text (numbers_of text dt is) (shown_as text dt is) in
    let year = ap (λ (y : ℤ). printed_date y dt.date.month dt.date.day dt.time.hour dt.time.minute dt.time.second) is.year_is in
    e ∙ ap (λ (t : List ℕ). t ++ codes "\n") (year ∙ sym (ap printed_numbers numbers))

module _ (files : RevisionBytes) (rev : ℕ) (pairs : Pairs) (shown : ShowsProps files rev pairs) where
  read : RevPropsOf (only files) rev (Ok pairs)
  read = (shown.file, shown.file_is, shown.dump)

  pub line : (line : List ℕ) × IsDateLine (value_of pairs date_name) line
  line = dated_line (value_of pairs date_name) shown.dated

pub authors_by : AuthorsAreByProps
authors_by files rev pairs shown text end h =
    let whole : List ℕ = value_line (value_of pairs author_name) in
    of_agree whole text end (authors_one files rev whole text Whole end (inr (inl ((pairs, read files rev pairs shown, refl), refl))) h)

pub logs_by : LogsAreByProps
logs_by files rev pairs shown text end h =
    let whole : List ℕ = value_line (value_of pairs log_name) in
    of_agree whole text end (logs_one files rev whole text Whole end (inr (inl ((pairs, read files rev pairs shown, refl), refl))) h)

pub dates_by : DatesAreByProps
dates_by files rev pairs shown text end h =
    let l = line files rev pairs shown in
    let printed = of_agree l.0 text end (dates_one files rev l.0 text Whole end (inr (inl ((pairs, read files rev pairs shown, l.1), refl))) h) in
    subst (λ (whole : List ℕ). IsOf whole text end) (line_is (value_of pairs date_name) l.0 l.1) printed

pub infos_by : InfosAreByProps
infos_by files rev pairs shown text end h =
    let l = line files rev pairs shown in
    let whole : List ℕ = info_lines pairs l.0 in
    let printed = of_agree whole text end (infos_one files rev whole text Whole end (inr (inl ((pairs, read files rev pairs shown, (l.0, l.1, refl)), refl))) h) in
    subst (λ (date : List ℕ). IsOf (info_lines pairs date) text end) (line_is (value_of pairs date_name) l.0 l.1) printed
