-- What is written is read.
use Rattle.std.proofs.Common.{◌≡◌, ◌≢◌, ◌<◌, ◌≤◌, ◌^◌, ℕ, Bool, true, false, not, eqb, ltb, cond, List, [], ◌∷◌, ◌++◌, length, Option, Some, None, refl, sym, ap, subst, ◌∙◌, arith}
use Rattle.std.proofs.lemmas.Bool.{ltb-true, and_parts}
use Rattle.std.proofs.lemmas.List.{append-nil}
use Rattle.std.proofs.lemmas.List.Elements.{All-nil, All-cons}
use Rattle.std.proofs.lemmas.Str.{is_utf8-from_IsUtf8, IsUtf8-from_ascii}
use Rattle.std.proofs.lemmas.Str.Ascii.{IsAscii-from_all}
use Rattle.std.specs.List.{list_all, All}
use Rattle.std.specs.Str.{is_utf8}
use Rattle.std.specs.Prelude.{Result, Ok, Err, decimal, codes}
use Rattle.fsfs_base.specs.Grammar.Cuts.{Lacks}
use Rattle.fsfs_base.specs.Fields.PropNames.{IsPropName}
use Rattle.fsfs_base.specs.Paths.{Path, path_text}
use Rattle.fsfs_script.specs.JobLines.Judging.{◌>>=◌, or_refusal}
use Rattle.fsfs_script.specs.JobLines.Words.{split, text_of, checked, end_at, number_at, length_at, path_at, name_at, author_at}
use Rattle.fsfs_script.specs.JobLines.Verbs.{edit_named, log_or_edit, command_named}
use Rattle.fsfs_script.specs.JobLines.Lines.{log_line_at, copy_line_at, put_line_at, set_line_at, remove_line_at, command_rest_at, command_line_at}
use Rattle.fsfs_script.specs.JobLines.Texts.{CanPath, CanAuthor, CanSay, MayStand, said_text}
use Rattle.fsfs_script.specs.declared.job_lines.edit.Edit.{Edit}
use Rattle.fsfs_script.specs.declared.job_lines.edit.Edit.TheVariants as edits
use Rattle.fsfs_script.specs.declared.job_lines.lines.CommandLine.{CommandLine}
use Rattle.fsfs_script.specs.declared.job_lines.lines.CommandLine.TheVariants as says
use Rattle.fsfs_script.specs.declared.job_lines.refusal.Refusal.{Refusal}
use Rattle.fsfs_script.specs.declared.job_lines.refusal.Refusal.TheVariants.{Bad, TextTooLong, PropTooLong}
use Rattle.fsfs_script.specs.declared.job_lines.verbs.Verb.{Verb}
use Rattle.fsfs_script.specs.declared.job_lines.verbs.Verb.TheVariants as verb
use Rattle.fsfs_script.specs.declared.job_lines.verbs.Stage.{Stage}
use Rattle.fsfs_script.specs.declared.job_lines.verbs.Stage.TheVariants.{AfterJob, AfterAuthor, InEdits}
use Rattle.fsfs_script.proofs.WordTexts.{tail, split_last, split_more, number_again, length_again, path_at_again, name_at_again, name_lacks, decimal_lacks}
use Rattle.fsfs_script.proofs.LineTexts.{verb_word}

-- ---- given words

pub lacking : (c : ℕ) (text : List ℕ) → list_all (λ b. not (eqb b c)) text ≡ true → Lacks c text
lacking c [] e = tt
lacking c (b ∷ bs) e = let p = and_parts (not (eqb b c)) (list_all (λ b. not (eqb b c)) bs) e in (other (eqb b c) p.0, lacking c bs p.1)
  where
    other : (t : Bool) → not t ≡ true → t ≡ false
    other true e = absurd cc
    other false e = refl

pub plain_utf8 : (text : List ℕ) → list_all (λ b. ltb b 128) text ≡ true → is_utf8 text ≡ true
plain_utf8 text e = is_utf8-from_IsUtf8 text (IsUtf8-from_ascii text (IsAscii-from_all text (go text e)))
  where
    go : (text : List ℕ) → list_all (λ b. ltb b 128) text ≡ true → All (λ b. b < 128) text
    go [] e = All-nil (λ b. b < 128)
    go (b ∷ bs) e = let p = and_parts (ltb b 128) (list_all (λ b. ltb b 128) bs) e in All-cons (λ b. b < 128) b bs (ltb-true b 128 p.0) (go bs p.1)

verb_plain : (v : Verb) → (list_all (λ b. not (eqb b 32)) (verb_word v) ≡ true) × (list_all (λ b. ltb b 128) (verb_word v) ≡ true)
verb_plain verb.Author = (refl, refl)
verb_plain verb.Log = (refl, refl)
verb_plain verb.MakeDir = (refl, refl)
verb_plain verb.MakeFile = (refl, refl)
verb_plain verb.Delete = (refl, refl)
verb_plain verb.Copy = (refl, refl)
verb_plain verb.Put = (refl, refl)
verb_plain verb.SetProp = (refl, refl)
verb_plain verb.RemoveProp = (refl, refl)
verb_plain verb.Commit = (refl, refl)

pub split_tail : (word : List ℕ) (rest : Option (List ℕ)) → Lacks 32 word → split (word ++ tail rest) ≡ (word, rest)
split_tail word None lacks = ap split (append-nil word) ∙ split_last word lacks
split_tail word (Some text) lacks = split_more word text lacks

-- a command's word stands before its rest
at_verb : (stage : Stage) (v : Verb) (rest : Option (List ℕ)) → command_named stage (verb_word v) ≡ Some v → command_line_at stage (verb_word v ++ tail rest) ≡ command_rest_at v rest
unfolding command_line_at
at_verb stage v rest named =
    let plain = verb_plain v in
    rw (split_tail (verb_word v) rest (lacking 32 (verb_word v) plain.0), plain_utf8 (verb_word v) plain.1, named) refl

everywhere : (stage : Stage) (v : Verb) → command_named AfterJob (verb_word v) ≡ Some v → command_named AfterAuthor (verb_word v) ≡ Some v → command_named InEdits (verb_word v) ≡ Some v → command_named stage (verb_word v) ≡ Some v
everywhere AfterJob v a b c = a
everywhere AfterAuthor v a b c = b
everywhere InEdits v a b c = c

log_stands : (stage : Stage) → stage ≢ InEdits → command_named stage (verb_word verb.Log) ≡ Some verb.Log
log_stands AfterJob other = refl
log_stands AfterAuthor other = refl
log_stands InEdits other = absurd (other refl)

-- ---- the lines

author_again : (name : List ℕ) → CanAuthor name → author_at name ≡ Ok name
unfolding author_at
author_again name can = rw (can.1, can.0) refl

path_again' : (v : Verb) (make : Path → Edit) (path : Path) → CanPath path → (path_at (path_text path) >>= λ p. Ok (says.Whole (make p))) ≡ Ok (says.Whole (make path))
path_again' v make path can = rw (path_at_again path can) refl

number_split : (n : ℕ) (rest : List ℕ) → n < 2 ^ 64 → split (decimal n ++ 32 ∷ rest) ≡ (decimal n, Some rest)
number_split n rest lt = split_more (decimal n) rest (decimal_lacks 32 n (omega arith) lt)

log_again : (n : ℕ) → n ≤ 1048576 → log_line_at (decimal n) ≡ Ok (says.Log n)
unfolding log_line_at
log_again n le =
    let lt : n < 2 ^ 64 = omega (arith, le) in
    rw (split_last (decimal n) (decimal_lacks 32 n (omega arith) lt), length_again 1048576 n PropTooLong le lt) refl

copy_again : (rev : ℕ) (from : Path) → rev < 2 ^ 64 → CanPath from → copy_line_at (decimal rev ++ 32 ∷ path_text from) ≡ Ok (says.Copy rev from)
unfolding copy_line_at
copy_again rev from lt can = rw (number_split rev (path_text from) lt, number_again rev lt, path_at_again from can) refl

put_again : (n : ℕ) (path : Path) → n ≤ 1073741824 → CanPath path → put_line_at (decimal n ++ 32 ∷ path_text path) ≡ Ok (says.Put n path)
unfolding put_line_at
put_again n path le can =
    let lt : n < 2 ^ 64 = omega (arith, le) in
    rw (number_split n (path_text path) lt, length_again 1073741824 n TextTooLong le lt, path_at_again path can) refl

set_again : (n : ℕ) (name : List ℕ) (path : Path) → n ≤ 1048576 → IsPropName name → CanPath path → set_line_at (decimal n ++ 32 ∷ (name ++ 32 ∷ path_text path)) ≡ Ok (says.SetProp n name path)
unfolding set_line_at
set_again n name path le is can =
    let lt : n < 2 ^ 64 = omega (arith, le) in
    rw (number_split n (name ++ 32 ∷ path_text path) lt, length_again 1048576 n PropTooLong le lt, split_more name (path_text path) (name_lacks 32 refl name is), name_at_again name is, path_at_again path can) refl

remove_again : (name : List ℕ) (path : Path) → IsPropName name → CanPath path → remove_line_at (name ++ 32 ∷ path_text path) ≡ Ok (says.Whole (edits.Prop (record { path = path; name = name; value = None })))
unfolding remove_line_at
remove_again name path is can = rw (split_more name (path_text path) (name_lacks 32 refl name is), name_at_again name is, path_at_again path can) refl

-- what is written so is said
pub line_again : (stage : Stage) (said : CommandLine) → CanSay said → MayStand stage said → command_line_at stage (said_text said) ≡ Ok said
unfolding command_rest_at
line_again stage (says.Author name) can may = subst (λ (s : Stage). command_line_at s (said_text (says.Author name)) ≡ Ok (says.Author name)) (sym may) (at_verb AfterJob verb.Author (Some name) refl ∙ rw (author_again name can) refl)
line_again stage (says.Log n) can may = at_verb stage verb.Log (Some (decimal n)) (log_stands stage may) ∙ log_again n can
line_again stage (says.Whole (edits.MakeDir path)) can may = at_verb stage verb.MakeDir (Some (path_text path)) (everywhere stage verb.MakeDir refl refl refl) ∙ path_again' verb.MakeDir edits.MakeDir path can
line_again stage (says.Whole (edits.MakeFile path)) can may = at_verb stage verb.MakeFile (Some (path_text path)) (everywhere stage verb.MakeFile refl refl refl) ∙ path_again' verb.MakeFile edits.MakeFile path can
line_again stage (says.Whole (edits.Delete path)) can may = at_verb stage verb.Delete (Some (path_text path)) (everywhere stage verb.Delete refl refl refl) ∙ path_again' verb.Delete edits.Delete path can
line_again stage (says.Whole (edits.Copy copy)) can may = absurd can
line_again stage (says.Whole (edits.Put put)) can may = absurd can
line_again stage (says.Whole (edits.Prop set)) can may = go set.value can.2
  where
    go : (value : Option (List ℕ)) → value ≡ None → command_line_at stage (said_text (says.Whole (edits.Prop (record { path = set.path; name = set.name; value = value })))) ≡ Ok (says.Whole (edits.Prop (record { path = set.path; name = set.name; value = value })))
    go None e = at_verb stage verb.RemoveProp (Some (set.name ++ 32 ∷ path_text set.path)) (everywhere stage verb.RemoveProp refl refl refl) ∙ remove_again set.name set.path can.1 can.0
    go (Some v) e = absurd cc
line_again stage (says.Copy rev from) can may = at_verb stage verb.Copy (Some (decimal rev ++ 32 ∷ path_text from)) (everywhere stage verb.Copy refl refl refl) ∙ copy_again rev from can.0 can.1
line_again stage (says.Put n path) can may = at_verb stage verb.Put (Some (decimal n ++ 32 ∷ path_text path)) (everywhere stage verb.Put refl refl refl) ∙ put_again n path can.0 can.1
line_again stage (says.SetProp n name path) can may = at_verb stage verb.SetProp (Some (decimal n ++ 32 ∷ (name ++ 32 ∷ path_text path))) (everywhere stage verb.SetProp refl refl refl) ∙ set_again n name path can.0 can.1 can.2
line_again stage says.Commit can may = at_verb stage verb.Commit None (everywhere stage verb.Commit refl refl refl)
