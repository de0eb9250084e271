-- First lines are read as they are written, and what is read was written so.
use Rattle.std.proofs.Common.{◌≡◌, ◌≢◌, ◌<◌, ◌≤◌, ◌^◌, ℕ, Bool, true, false, cond, List, [], ◌∷◌, ◌++◌, length, Option, Some, None, refl, sym, ap, subst, ◌∙◌, append_assoc, arith}
use Rattle.std.proofs.lemmas.Option.{same_Some}
use Rattle.std.proofs.lemmas.List.{append-nil}
use Rattle.std.proofs.lemmas.Slice.Eq.{bytes_eq-Decides}
use Rattle.std.specs.Prelude.{Result, Ok, Err, decimal, codes}
use Rattle.std.specs.Str.{bytes_eq}
use Rattle.fsfs_base.specs.Fields.PropNames.{IsPropName}
use Rattle.fsfs_base.specs.Paths.{Path, path_text}
use Rattle.fsfs_script.specs.JobLines.Parts.{is_author}
use Rattle.fsfs_script.specs.JobLines.Judging.{◌>>=◌, or_refusal}
use Rattle.fsfs_script.specs.JobLines.Words.{split, text_of, checked, end_at, number_at, length_at, path_at, name_at, author_at}
use Rattle.fsfs_script.specs.JobLines.Verbs.{edit_named, log_or_edit, command_named}
use Rattle.fsfs_script.specs.JobLines.Lines.{text_length_at, prop_length_at, named_at, path_line_at, log_line_at, copy_line_at, put_line_at, set_line_at, remove_line_at, command_rest_at, command_line_at}
use Rattle.fsfs_script.specs.JobLines.Texts.{CanPath, CanSay, MayStand, said_text}
use Rattle.fsfs_script.specs.declared.job_lines.edit.Edit.{Edit}
use Rattle.fsfs_script.specs.declared.job_lines.edit.Edit.TheVariants as edits
use Rattle.fsfs_script.specs.declared.job_lines.lines.CommandLine.{CommandLine}
use Rattle.fsfs_script.specs.declared.job_lines.lines.CommandLine.TheVariants as says
use Rattle.fsfs_script.specs.declared.job_lines.refusal.Refusal.{Refusal}
use Rattle.fsfs_script.specs.declared.job_lines.refusal.Refusal.TheVariants.{Bad, TextTooLong, PropTooLong}
use Rattle.fsfs_script.specs.declared.job_lines.refusal.Why.TheVariants as why
use Rattle.fsfs_script.specs.declared.job_lines.verbs.Verb.{Verb}
use Rattle.fsfs_script.specs.declared.job_lines.verbs.Verb.TheVariants as verb
use Rattle.fsfs_script.specs.declared.job_lines.verbs.Stage.{Stage}
use Rattle.fsfs_script.specs.declared.job_lines.verbs.Stage.TheVariants.{AfterJob, AfterAuthor, InEdits}
use Rattle.fsfs_script.proofs.WordTexts.{bound, ok_is, some_of, tail, split_found, rest_path, number_found, length_found, name_at_found, author_found, decimal_filled, longer}

-- ---- the words that name commands

abbrev pub verb_word : Verb → List ℕ
verb_word verb.Author = codes "author"
verb_word verb.Log = codes "log"
verb_word verb.MakeDir = codes "mkdir"
verb_word verb.MakeFile = codes "mkfile"
verb_word verb.Delete = codes "rm"
verb_word verb.Copy = codes "copy"
verb_word verb.Put = codes "put"
verb_word verb.SetProp = codes "prop"
verb_word verb.RemoveProp = codes "unprop"
verb_word verb.Commit = codes "commit"

-- one test more
tested : (word : List ℕ) (v w : Verb) (rest : Option Verb) → cond (bytes_eq word (verb_word w)) (Some w) rest ≡ Some v → (rest ≡ Some v → word ≡ verb_word v) → word ≡ verb_word v
tested word v w rest e other = by (bytes_eq word (verb_word w)) refl
  where
    by : (t : Bool) → bytes_eq word (verb_word w) ≡ t → word ≡ verb_word v
    by true is =
        let e' : (let o : Option Verb = Some w in o) ≡ Some v = rw is at e in
        (bytes_eq-Decides word (verb_word w)).0 is ∙ ap verb_word (same_Some w v e')
    by false is = other (rw is at e)

none_is : (v : Verb) (word : List ℕ) → (let o : Option Verb = None in o) ≡ Some v → word ≡ verb_word v
none_is v word e = absurd cc

edit_word : (word : List ℕ) (v : Verb) → edit_named word ≡ Some v → word ≡ verb_word v
edit_word word v e =
    tested word v verb.MakeDir _ e (λ e.
    tested word v verb.MakeFile _ e (λ e.
    tested word v verb.Delete _ e (λ e.
    tested word v verb.Copy _ e (λ e.
    tested word v verb.Put _ e (λ e.
    tested word v verb.SetProp _ e (λ e.
    tested word v verb.RemoveProp _ e (λ e.
    tested word v verb.Commit _ e (none_is v word))))))))

log_word : (word : List ℕ) (v : Verb) → log_or_edit word ≡ Some v → word ≡ verb_word v
log_word word v e = tested word v verb.Log _ e (edit_word word v)

pub named_word : (stage : Stage) (word : List ℕ) (v : Verb) → command_named stage word ≡ Some v → word ≡ verb_word v
named_word AfterJob word v e = tested word v verb.Author _ e (log_word word v)
named_word AfterAuthor word v e = log_word word v e
named_word InEdits word v e = edit_word word v e

-- ---- what stands behind them

pub end_is : (rest : Option (List ℕ)) (u : Unit {0}) → end_at rest ≡ Ok u → tail rest ≡ []
end_is None u e = refl
end_is (Some text) u e =
    let a = bound (checked (split text).0) _ u e in
    absurd (let bad = a.2 in cc)

-- what a line says, where it stands behind a word
abbrev Said : Verb → Option (List ℕ) → CommandLine → Type 0
Said v rest said = (verb_word v ++ tail rest ≡ said_text said) × CanSay said

path_said : (v : Verb) (make : Path → Edit) (rest : Option (List ℕ)) (said : CommandLine)
    → ((path : Path) → CanPath path → tail rest ≡ 32 ∷ path_text path → Said v rest (says.Whole (make path)))
    → path_line_at make (text_of rest) ≡ Ok said → Said v rest said
path_said v make rest said shows e =
    let a = bound (path_at (text_of rest)) (λ path. Ok (says.Whole (make path))) said e in
    let w = rest_path rest a.0 a.1 in
    subst (Said v rest) (ok_is (says.Whole (make a.0)) said a.2) (shows a.0 w.0 w.1)

-- a text that is not empty stands behind a space
pub behind_space : (rest : Option (List ℕ)) (text : List ℕ) → text_of rest ≡ text → text ≢ [] → tail rest ≡ 32 ∷ text
behind_space None text e some = absurd (some (sym e))
behind_space (Some t) text e some = ap (λ (s : List ℕ). 32 ∷ s) e

author_said : (rest : Option (List ℕ)) (said : CommandLine) → (author_at (text_of rest) >>= λ name. Ok (says.Author name)) ≡ Ok said → Said verb.Author rest said
author_said rest said e =
    let a = bound (author_at (text_of rest)) (λ name. Ok (says.Author name)) said e in
    let w = author_found (text_of rest) a.0 a.1 in
    let some : a.0 ≢ [] = λ none. not_empty (sym (ap is_author none) ∙ w.1.0) in
    subst (Said verb.Author rest) (ok_is (says.Author a.0) said a.2) (ap (λ (t : List ℕ). codes "author" ++ t) (behind_space rest a.0 w.0 some), w.1)
  where
    not_empty : is_author [] ≡ true → ⊥
    not_empty e = cc

log_said : (rest : Option (List ℕ)) (said : CommandLine) → log_line_at (text_of rest) ≡ Ok said → Said verb.Log rest said
unfolding log_line_at
log_said rest said e =
    let text = text_of rest in
    let a = bound (prop_length_at (split text).0) (λ n. end_at (split text).1 >>= λ u. Ok (says.Log n)) said e in
    let b = bound (end_at (split text).1) (λ u. Ok (says.Log a.0)) said a.2 in
    let n = length_found 1048576 a.0 PropTooLong (split text).0 a.1 in
    let whole : text ≡ decimal a.0 = split_found text ∙ ap (λ (t : List ℕ). (split text).0 ++ t) (end_is (split text).1 b.0 b.1) ∙ append-nil (split text).0 ∙ n.0 in
    let some : decimal a.0 ≢ [] = decimal_filled a.0 (omega (arith, n.1)) in
    subst (Said verb.Log rest) (ok_is (says.Log a.0) said b.2) (ap (λ (t : List ℕ). codes "log" ++ t) (behind_space rest (decimal a.0) whole some), n.1)

copy_said : (rest : Option (List ℕ)) (said : CommandLine) → copy_line_at (text_of rest) ≡ Ok said → Said verb.Copy rest said
unfolding copy_line_at
copy_said rest said e =
    let text = text_of rest in
    let a = bound (number_at (split text).0) (λ rev. path_at (text_of (split text).1) >>= λ from. Ok (says.Copy rev from)) said e in
    let b = bound (path_at (text_of (split text).1)) (λ from. Ok (says.Copy a.0 from)) said a.2 in
    let n = number_found (split text).0 a.0 a.1 in
    let w = rest_path (split text).1 b.0 b.1 in
    let whole : text ≡ decimal a.0 ++ 32 ∷ path_text b.0 = split_found text ∙ (λ i. n.0 i ++ w.1 i) in
    subst (Said verb.Copy rest) (ok_is (says.Copy a.0 b.0) said b.2) (ap (λ (t : List ℕ). codes "copy" ++ t) (behind_space rest (decimal a.0 ++ 32 ∷ path_text b.0) whole (longer (decimal a.0) (path_text b.0))), (n.1, w.0))

put_said : (rest : Option (List ℕ)) (said : CommandLine) → put_line_at (text_of rest) ≡ Ok said → Said verb.Put rest said
unfolding put_line_at
put_said rest said e =
    let text = text_of rest in
    let a = bound (text_length_at (split text).0) (λ n. path_at (text_of (split text).1) >>= λ path. Ok (says.Put n path)) said e in
    let b = bound (path_at (text_of (split text).1)) (λ path. Ok (says.Put a.0 path)) said a.2 in
    let n = length_found 1073741824 a.0 TextTooLong (split text).0 a.1 in
    let w = rest_path (split text).1 b.0 b.1 in
    let whole : text ≡ decimal a.0 ++ 32 ∷ path_text b.0 = split_found text ∙ (λ i. n.0 i ++ w.1 i) in
    subst (Said verb.Put rest) (ok_is (says.Put a.0 b.0) said b.2) (ap (λ (t : List ℕ). codes "put" ++ t) (behind_space rest (decimal a.0 ++ 32 ∷ path_text b.0) whole (longer (decimal a.0) (path_text b.0))), (n.1, w.0))

-- NAME PATH
named_found : (make : List ℕ → Path → CommandLine) (text : List ℕ) (said : CommandLine) → named_at make text ≡ Ok said
    → (name : List ℕ) × (path : Path) × (make name path ≡ said) × (text ≡ name ++ 32 ∷ path_text path) × IsPropName name × CanPath path
named_found make text said e =
    let a = bound (name_at (split text).0) (λ name. path_at (text_of (split text).1) >>= λ path. Ok (make name path)) said e in
    let b = bound (path_at (text_of (split text).1)) (λ path. Ok (make a.0 path)) said a.2 in
    let n = name_at_found (split text).0 a.0 a.1 in
    let w = rest_path (split text).1 b.0 b.1 in
    (a.0, b.0, ok_is (make a.0 b.0) said b.2, split_found text ∙ (λ i. n.0 i ++ w.1 i), n.1, w.0)

set_said : (rest : Option (List ℕ)) (said : CommandLine) → set_line_at (text_of rest) ≡ Ok said → Said verb.SetProp rest said
unfolding set_line_at
set_said rest said e =
    let text = text_of rest in
    let a = bound (prop_length_at (split text).0) (λ n. named_at (says.SetProp n) (text_of (split text).1)) said e in
    let n = length_found 1048576 a.0 PropTooLong (split text).0 a.1 in
    let w = named_found (says.SetProp a.0) (text_of (split text).1) said a.2 in
    let second : tail (split text).1 ≡ 32 ∷ (w.0 ++ 32 ∷ path_text w.1) = behind_space (split text).1 (w.0 ++ 32 ∷ path_text w.1) w.3 (longer w.0 (path_text w.1)) in
    let whole : text ≡ decimal a.0 ++ 32 ∷ (w.0 ++ 32 ∷ path_text w.1) = split_found text ∙ (λ i. n.0 i ++ second i) in
    subst (Said verb.SetProp rest) w.2 (ap (λ (t : List ℕ). codes "prop" ++ t) (behind_space rest (decimal a.0 ++ 32 ∷ (w.0 ++ 32 ∷ path_text w.1)) whole (longer (decimal a.0) (w.0 ++ 32 ∷ path_text w.1))), (n.1, w.4, w.5))

remove_said : (rest : Option (List ℕ)) (said : CommandLine) → remove_line_at (text_of rest) ≡ Ok said → Said verb.RemoveProp rest said
unfolding remove_line_at
remove_said rest said e =
    let w = named_found (λ name path. says.Whole (edits.Prop (record { path = path; name = name; value = None }))) (text_of rest) said e in
    subst (Said verb.RemoveProp rest) w.2 (ap (λ (t : List ℕ). codes "unprop" ++ t) (behind_space rest (w.0 ++ 32 ∷ path_text w.1) w.3 (longer w.0 (path_text w.1))), (w.5, w.4, refl))

commit_said : (rest : Option (List ℕ)) (said : CommandLine) → (end_at rest >>= λ u. Ok says.Commit) ≡ Ok said → Said verb.Commit rest said
commit_said rest said e =
    let a = bound (end_at rest) (λ u. Ok says.Commit) said e in
    subst (Said verb.Commit rest) (ok_is says.Commit said a.2) (ap (λ (t : List ℕ). codes "commit" ++ t) (end_is rest a.0 a.1), tt)

rest_said : (v : Verb) (rest : Option (List ℕ)) (said : CommandLine) → command_rest_at v rest ≡ Ok said → Said v rest said
unfolding command_rest_at
rest_said verb.Author rest said e = author_said rest said e
rest_said verb.Log rest said e = log_said rest said e
rest_said verb.MakeDir rest said e = path_said verb.MakeDir edits.MakeDir rest said (λ path can is. (ap (λ (t : List ℕ). codes "mkdir" ++ t) is, can)) e
rest_said verb.MakeFile rest said e = path_said verb.MakeFile edits.MakeFile rest said (λ path can is. (ap (λ (t : List ℕ). codes "mkfile" ++ t) is, can)) e
rest_said verb.Delete rest said e = path_said verb.Delete edits.Delete rest said (λ path can is. (ap (λ (t : List ℕ). codes "rm" ++ t) is, can)) e
rest_said verb.Copy rest said e = copy_said rest said e
rest_said verb.Put rest said e = put_said rest said e
rest_said verb.SetProp rest said e = set_said rest said e
rest_said verb.RemoveProp rest said e = remove_said rest said e
rest_said verb.Commit rest said e = commit_said rest said e

-- ---- whole lines

-- what is said was written so
pub line_found : (stage : Stage) (line : List ℕ) (said : CommandLine) → command_line_at stage line ≡ Ok said → (line ≡ said_text said) × CanSay said
unfolding command_line_at
line_found stage line said e =
    let word = (split line).0 in
    let rest = (split line).1 in
    let a = bound (checked word) (λ u. or_refusal (Bad why.Word) (command_named stage word) >>= λ v. command_rest_at v rest) said e in
    let b = bound (or_refusal (Bad why.Word) (command_named stage word)) (λ v. command_rest_at v rest) said a.2 in
    let named = named_word stage word b.0 (some_of (Bad why.Word) (command_named stage word) b.0 b.1) in
    let w = rest_said b.0 rest said b.2 in
    (split_found line ∙ ap (λ (t : List ℕ). t ++ tail rest) named ∙ w.0, w.1)
