-- What is printed of a revision's properties is one text.
use Rattle.std.proofs.Common.{◌≡◌, ◌∙◌, ℕ, List, ◌++◌, Option, Some, None, sym, ap, inl, inr}
use Rattle.std.specs.Prelude.{Result, Ok, Err, codes}
use Rattle.std.proofs.lemmas.Option.{same_Some}
use Rattle.jiff_core.specs.declared.civil.datetime.DateTime.{DateTime}
use Rattle.fsfs_base.specs.Fields.Dates.{IsDateText}
use Rattle.fsfs_base.proofs.DateReadings.{numbers_of, shown_as, numbers_again, has_numbers, same_parts}
use Rattle.fsfs_tree.specs.Dated.{date_name}
use Rattle.fsfs_layout.specs.Hash.Dump.{IsDump}
use Rattle.fsfs_revision.specs.declared.wrong.Wrong.{Wrong}
use Rattle.fsfs_revision.specs.Damage.Checks.{AllPass}
use Rattle.fsfs_revision.specs.Damage.Readings.{AndThen, HasOneAnswer}
use Rattle.fsfs_revision.proofs.OneAnswer.{ok_same, ok_no_err, err_same, and_then_one, judged_one}
use Rattle.fsfs_revision.specs.Told.{RevisionBytes, BytesOf}
use Rattle.fsfs_revision.specs.RevProps.{only}
use Rattle.fsfs_revision.proofs.OneRep.{dump_one}
use Rattle.fsfs_revision.proofs.OneStep.{bytes_one}
use Rattle.fsfs_look.specs.Revprops.Files.{Pairs, file_checks, RevPropsIn, RevPropsOf}
use Rattle.fsfs_look.specs.Revprops.Dates.{shown_date}
use Rattle.fsfs_stands.specs.Agreeing.{HasOneText}
use Rattle.fsfs_stands.proofs.OneText.{stopped_first, stopped_second, wrong_same}
use Rattle.fsfs_look.specs.Revprops.Texts.{value_of, author_name, log_name, value_line, IsDateLine, info_lines, date_checks, DateLine, ReadText, PropText, AuthorText, DateText, LogText, InfoText}
use Rattle.fsfs_look.specs.Revprops.Laws.{HaveOneText}

-- ---- dates

-- a stored date shows one date and time of day
date_one : (text : List ℕ) (a b : DateTime) → IsDateText text a → IsDateText text b → a ≡ b
date_one text a b v w =
    let n = numbers_again text (numbers_of text a v) (shown_as text a v) in
    let m = numbers_again text (numbers_of text b w) (shown_as text b w) in
    let same : numbers_of text a v ≡ numbers_of text b w = same_Some (numbers_of text a v) (numbers_of text b w) (sym n ∙ m) in
    let h = has_numbers text b (numbers_of text a v) w same in
    same_parts a b (v.year_is ∙ sym h.year_is) (sym h.month_is) (sym h.day_is) (sym h.hour_is) (sym h.minute_is) (sym h.second_is) (v.micros_is ∙ sym h.micros_is)

line_one : (stored : Option (List ℕ)) (a b : List ℕ) → IsDateLine stored a → IsDateLine stored b → a ≡ b
line_one None a b g h = g ∙ sym h
line_one (Some text) a b (dt, is, e) (du, js, f) = e ∙ ap (λ (d : DateTime). shown_date d ++ codes "\n") (date_one text dt du is js) ∙ sym f

line_passes : (rev : ℕ) (stored : Option (List ℕ)) (line : List ℕ) → IsDateLine stored line → AllPass (date_checks rev stored)
line_passes rev None line h = tt
line_passes rev (Some text) line (dt, is, e) = ((dt, is), tt)

date_line_one : (rev : ℕ) (stored : Option (List ℕ)) → HasOneAnswer (DateLine rev stored)
date_line_one rev stored = judged_one (IsDateLine stored) (date_checks rev stored) (line_one stored) (line_passes rev stored)

-- ---- properties

rev_props_in_one : (rev : ℕ) (bytes : List ℕ) → HasOneAnswer (RevPropsIn rev bytes)
rev_props_in_one rev bytes = judged_one (IsDump bytes) (file_checks rev bytes) (dump_one bytes) (λ pairs a. ((pairs, a), tt))

pub rev_props_one : (files : RevisionBytes) (rev : ℕ) → HasOneAnswer (RevPropsOf (only files) rev)
rev_props_one files rev = and_then_one (BytesOf files rev) (RevPropsIn rev) (bytes_one files rev) (rev_props_in_one rev)

-- ---- texts

pub read_text_one : (R : Result (List ℕ) Wrong → Type 0) → HasOneAnswer R → HasOneText (ReadText R)
read_text_one R one a b e f (inl none) h = stopped_first a b e f none
read_text_one R one a b e f (inr g) (inl none) = stopped_second a b e f none
read_text_one R one a b e f (inr (inl g)) (inr (inl h)) = inl (ok_same a b (one (Ok a) (Ok b) g.0 h.0), g.1 ∙ sym h.1)
read_text_one R one a b e f (inr (inl g)) (inr (inr h)) = ok_no_err a h.0 (one (Ok a) (Err h.0) g.0 h.1)
read_text_one R one a b e f (inr (inr g)) (inr (inl h)) = ok_no_err b g.0 (one (Ok b) (Err g.0) h.0 g.1)
read_text_one R one a b e f (inr (inr g)) (inr (inr h)) =
    inl (g.2.0 ∙ sym h.2.0, g.2.1 ∙ wrong_same g.0 h.0 (err_same g.0 h.0 (one (Err g.0) (Err h.0) g.1 h.1)) ∙ sym h.2.1)

prop_text_one : (R : Pairs → Result (List ℕ) Wrong → Type 0) → ((pairs : Pairs) → HasOneAnswer (R pairs)) → HaveOneText (PropText R)
prop_text_one R one files rev = read_text_one (AndThen (RevPropsOf (only files) rev) R) (and_then_one (RevPropsOf (only files) rev) R (rev_props_one files rev) one)

pub authors_one : HaveOneText AuthorText
authors_one = prop_text_one (λ pairs r. r ≡ Ok (value_line (value_of pairs author_name))) (λ pairs a b g h. g ∙ sym h)

pub logs_one : HaveOneText LogText
logs_one = prop_text_one (λ pairs r. r ≡ Ok (value_line (value_of pairs log_name))) (λ pairs a b g h. g ∙ sym h)

pub dates_one : HaveOneText DateText
dates_one files rev = prop_text_one (λ pairs. DateLine rev (value_of pairs date_name)) (λ pairs. date_line_one rev (value_of pairs date_name)) files rev

abbrev info_in : ℕ → Pairs → Result (List ℕ) Wrong → Type 0
info_in rev pairs = AndThen (DateLine rev (value_of pairs date_name)) (λ line r. r ≡ Ok (info_lines pairs line))

info_in_one : (rev : ℕ) (pairs : Pairs) → HasOneAnswer (info_in rev pairs)
info_in_one rev pairs = and_then_one (DateLine rev (value_of pairs date_name)) (λ line r. r ≡ Ok (info_lines pairs line)) (date_line_one rev (value_of pairs date_name)) (λ line a b g h. g ∙ sym h)

pub infos_one : HaveOneText InfoText
infos_one files rev = prop_text_one (info_in rev) (info_in_one rev) files rev
