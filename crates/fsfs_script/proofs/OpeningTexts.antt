-- First lines of jobs, and lines `to`, both ways.
use Rattle.std.proofs.Common.{◌≡◌, ◌≢◌, ◌<◌, ◌≤◌, ◌^◌, ℕ, Bool, true, false, cond, List, [], ◌∷◌, ◌++◌, Option, Some, None, refl, sym, ap, subst, ◌∙◌, arith}
use Rattle.std.proofs.lemmas.Option.{same_Some}
use Rattle.std.proofs.lemmas.List.{append-nil}
use Rattle.std.proofs.lemmas.Slice.Eq.{bytes_eq-Decides}
use Rattle.std.specs.Str.{bytes_eq, is_utf8}
use Rattle.std.specs.Prelude.{Result, Ok, Err, decimal, codes, option_map}
use Rattle.fsfs_base.specs.Grammar.Cuts.{Lacks}
use Rattle.fsfs_base.specs.Paths.{Path, path_text}
use Rattle.fsfs_script.specs.JobLines.Judging.{◌>>=◌, or_refusal}
use Rattle.fsfs_script.specs.JobLines.Parts.{number_of, base_of}
use Rattle.fsfs_script.specs.JobLines.Words.{split, text_of, checked, end_at, base_at, path_at}
use Rattle.fsfs_script.specs.JobLines.Verbs.{opening_named}
use Rattle.fsfs_script.specs.JobLines.Lines.{job_line_at, read_line_at, opening_rest_at, if_room, opening_line_at, to_line_at}
use Rattle.fsfs_script.specs.JobLines.Texts.{CanPath, CanBase, CanOpen, base_text, opening_text}
use Rattle.fsfs_script.specs.declared.job_lines.job.Base.{Base}
use Rattle.fsfs_script.specs.declared.job_lines.job.Base.TheVariants.{Youngest, Number}
use Rattle.fsfs_script.specs.declared.job_lines.lines.OpeningLine.{OpeningLine}
use Rattle.fsfs_script.specs.declared.job_lines.lines.OpeningLine.TheVariants as says
use Rattle.fsfs_script.specs.declared.job_lines.refusal.Refusal.{Refusal}
use Rattle.fsfs_script.specs.declared.job_lines.refusal.Refusal.TheVariants.{Bad, TooManyJobs}
use Rattle.fsfs_script.specs.declared.job_lines.refusal.Why.TheVariants as why
use Rattle.fsfs_script.specs.declared.job_lines.verbs.OpeningVerb.{OpeningVerb}
use Rattle.fsfs_script.specs.declared.job_lines.verbs.OpeningVerb.TheVariants as verb
use Rattle.fsfs_script.proofs.WordTexts.{bound, ok_is, some_of, taken, tail, split_found, split_last, split_more, rest_path, decimal_utf8, decimal_lacks, decimal_filled, path_at_again, longer, number_value, number_text, no_head}
use Rattle.fsfs_script.proofs.LineTexts.{end_is, behind_space}
use Rattle.fsfs_script.proofs.LinesAgain.{lacking, plain_utf8, split_tail}

-- ---- bases

base_filled : (base : Base) → CanBase base → base_text base ≢ []
base_filled Youngest can e = cc
base_filled (Number n) can e = decimal_filled n can e

base_lacks : (base : Base) → CanBase base → Lacks 32 (base_text base)
base_lacks Youngest can = lacking 32 (codes "head") refl
base_lacks (Number n) can = decimal_lacks 32 n (omega arith) can

base_again : (base : Base) → CanBase base → base_at (base_text base) ≡ Ok base
unfolding base_at
base_again Youngest can = rw (plain_utf8 (codes "head") refl) refl
base_again (Number n) can = rw (decimal_utf8 n can) (by (bytes_eq (decimal n) (codes "head")) refl)
  where
    by : (t : Bool) → bytes_eq (decimal n) (codes "head") ≡ t → or_refusal (Bad why.Number) (cond (bytes_eq (decimal n) (codes "head")) (Some Youngest) (option_map Number (number_of (decimal n)))) ≡ Ok (Number n)
    by true is = absurd (no_head n can ((bytes_eq-Decides (decimal n) (codes "head")).0 is))
    by false is = rw (is, number_value n can) refl

base_found : (word : List ℕ) (base : Base) → base_at word ≡ Ok base → (word ≡ base_text base) × CanBase base
unfolding base_at
base_found word base e =
    let t = taken word (Bad why.Number) (base_of word) base e in
    by (bytes_eq word (codes "head")) refl t.1
  where
    numbered : (o : Option ℕ) → number_of word ≡ o → option_map Number o ≡ Some base → (word ≡ base_text base) × CanBase base
    numbered None is e = absurd cc
    numbered (Some n) is e =
        let w = number_text word n is in
        subst (λ (b : Base). (word ≡ base_text b) × CanBase b) (same_Some (Number n) base e) (w.0, w.1)

    by : (t : Bool) → bytes_eq word (codes "head") ≡ t → cond (bytes_eq word (codes "head")) (Some Youngest) (option_map Number (number_of word)) ≡ Some base → (word ≡ base_text base) × CanBase base
    by true is e =
        let e' : (let o : Option Base = Some Youngest in o) ≡ Some base = rw is at e in
        subst (λ (b : Base). (word ≡ base_text b) × CanBase b) (same_Some Youngest base e') ((bytes_eq-Decides word (codes "head")).0 is, tt)
    by false is e = numbered (number_of word) refl (rw is at e)

-- ---- what stands behind `job` and `read`

abbrev opening_word : OpeningVerb → List ℕ
opening_word verb.Job = codes "job"
opening_word verb.Read = codes "read"

abbrev Says : OpeningVerb → Option (List ℕ) → OpeningLine → Type 0
Says v rest said = (opening_word v ++ tail rest ≡ opening_text said) × CanOpen said

job_said : (rest : Option (List ℕ)) (said : OpeningLine) → job_line_at (text_of rest) ≡ Ok said → Says verb.Job rest said
unfolding job_line_at
job_said rest said e =
    let text = text_of rest in
    let a = bound (base_at (split text).0) (λ base. end_at (split text).1 >>= λ u. Ok (says.Job base)) said e in
    let b = bound (end_at (split text).1) (λ u. Ok (says.Job a.0)) said a.2 in
    let n = base_found (split text).0 a.0 a.1 in
    let whole : text ≡ base_text a.0 = split_found text ∙ ap (λ (t : List ℕ). (split text).0 ++ t) (end_is (split text).1 b.0 b.1) ∙ append-nil (split text).0 ∙ n.0 in
    subst (Says verb.Job rest) (ok_is (says.Job a.0) said b.2) (ap (λ (t : List ℕ). codes "job" ++ t) (behind_space rest (base_text a.0) whole (base_filled a.0 n.1)), n.1)

read_said : (rest : Option (List ℕ)) (said : OpeningLine) → read_line_at (text_of rest) ≡ Ok said → Says verb.Read rest said
unfolding read_line_at
read_said rest said e =
    let text = text_of rest in
    let a = bound (base_at (split text).0) (λ base. path_at (text_of (split text).1) >>= λ path. Ok (says.Read base path)) said e in
    let b = bound (path_at (text_of (split text).1)) (λ path. Ok (says.Read a.0 path)) said a.2 in
    let n = base_found (split text).0 a.0 a.1 in
    let w = rest_path (split text).1 b.0 b.1 in
    let whole : text ≡ base_text a.0 ++ 32 ∷ path_text b.0 = split_found text ∙ (λ i. n.0 i ++ w.1 i) in
    subst (Says verb.Read rest) (ok_is (says.Read a.0 b.0) said b.2) (ap (λ (t : List ℕ). codes "read" ++ t) (behind_space rest (base_text a.0 ++ 32 ∷ path_text b.0) whole (longer (base_text a.0) (path_text b.0))), (n.1, w.0))

opened_word : (word : List ℕ) (v : OpeningVerb) → opening_named word ≡ Some v → word ≡ opening_word v
opened_word word v e = by (bytes_eq word (codes "job")) refl (bytes_eq word (codes "read")) refl
  where
    by : (s : Bool) → bytes_eq word (codes "job") ≡ s → (t : Bool) → bytes_eq word (codes "read") ≡ t → word ≡ opening_word v
    by true is t other =
        let e' : (let o : Option OpeningVerb = Some verb.Job in o) ≡ Some v = rw is at e in
        (bytes_eq-Decides word (codes "job")).0 is ∙ ap opening_word (same_Some verb.Job v e')
    by false is true other =
        let e' : (let o : Option OpeningVerb = Some verb.Read in o) ≡ Some v = rw (is, other) at e in
        (bytes_eq-Decides word (codes "read")).0 other ∙ ap opening_word (same_Some verb.Read v e')
    by false is false other = let e' : (let o : Option OpeningVerb = None in o) ≡ Some v = rw (is, other) at e in absurd cc

rest_said : (v : OpeningVerb) (rest : Option (List ℕ)) (said : OpeningLine) → opening_rest_at v (text_of rest) ≡ Ok said → Says v rest said
unfolding opening_rest_at
rest_said verb.Job rest said e = job_said rest said e
rest_said verb.Read rest said e = read_said rest said e

room_said : (is_full : Bool) (v : OpeningVerb) (rest : Option (List ℕ)) (said : OpeningLine) → if_room is_full rest v ≡ Ok said → Says v rest said
room_said true v rest said e = absurd cc
room_said false v rest said e = rest_said v rest said e

pub opening_found : (is_full : Bool) (line : List ℕ) (said : OpeningLine) → opening_line_at is_full line ≡ Ok said → (line ≡ opening_text said) × CanOpen said
unfolding opening_line_at
opening_found is_full line said e =
    let word = (split line).0 in
    let rest = (split line).1 in
    let a = bound (checked word) (λ u. or_refusal (Bad why.Word) (opening_named word) >>= λ v. if_room is_full rest v) said e in
    let b = bound (or_refusal (Bad why.Word) (opening_named word)) (λ v. if_room is_full rest v) said a.2 in
    let named = opened_word word b.0 (some_of (Bad why.Word) (opening_named word) b.0 b.1) in
    let w = room_said is_full b.0 rest said b.2 in
    (split_found line ∙ ap (λ (t : List ℕ). t ++ tail rest) named ∙ w.0, w.1)

opening_from : (v : OpeningVerb) (line : List ℕ) (rest : Option (List ℕ)) → split line ≡ (opening_word v, rest) → opening_line_at false line ≡ opening_rest_at v (text_of rest)
unfolding opening_line_at
opening_from verb.Job line rest e = rw (e, plain_utf8 (codes "job") refl) refl
opening_from verb.Read line rest e = rw (e, plain_utf8 (codes "read") refl) refl

at_word : (v : OpeningVerb) (rest : Option (List ℕ)) → Lacks 32 (opening_word v) → opening_line_at false (opening_word v ++ tail rest) ≡ opening_rest_at v (text_of rest)
at_word v rest lacks = opening_from v (opening_word v ++ tail rest) rest (split_tail (opening_word v) rest lacks)

job_again : (base : Base) → CanBase base → job_line_at (base_text base) ≡ Ok (says.Job base)
unfolding job_line_at
job_again base can = rw (split_last (base_text base) (base_lacks base can), base_again base can) refl

read_again : (base : Base) (path : Path) → CanBase base → CanPath path → read_line_at (base_text base ++ 32 ∷ path_text path) ≡ Ok (says.Read base path)
unfolding read_line_at
read_again base path can is = rw (split_more (base_text base) (path_text path) (base_lacks base can), base_again base can, path_at_again path is) refl

pub opening_again : (said : OpeningLine) → CanOpen said → opening_line_at false (opening_text said) ≡ Ok said
unfolding opening_rest_at
opening_again (says.Job base) can = at_word verb.Job (Some (base_text base)) (lacking 32 (codes "job") refl) ∙ job_again base can
opening_again (says.Read base path) can = at_word verb.Read (Some (base_text base ++ 32 ∷ path_text path)) (lacking 32 (codes "read") refl) ∙ read_again base path can.0 can.1

-- ---- lines `to`

pub to_found : (line : List ℕ) (path : Path) → to_line_at line ≡ Ok path → (line ≡ codes "to " ++ path_text path) × CanPath path
unfolding to_line_at
to_found line path e =
    let word = (split line).0 in
    let rest = (split line).1 in
    let a = bound (checked word) (λ u. cond (bytes_eq word (codes "to")) (path_at (text_of rest)) (Err (Bad why.Word))) path e in
    by (bytes_eq word (codes "to")) refl a.2
  where
    by : (t : Bool) → bytes_eq (split line).0 (codes "to") ≡ t → cond (bytes_eq (split line).0 (codes "to")) (path_at (text_of (split line).1)) (Err (Bad why.Word)) ≡ Ok path → (line ≡ codes "to " ++ path_text path) × CanPath path
    by true is e =
        let w = rest_path (split line).1 path (rw is at e) in
        (split_found line ∙ (λ i. (bytes_eq-Decides (split line).0 (codes "to")).0 is i ++ w.1 i), w.0)
    by false is e = let bad : (let r : Result Path Refusal = Err (Bad why.Word) in r) ≡ Ok path = rw is at e in absurd cc

to_from : (line rest : List ℕ) → split line ≡ (codes "to", Some rest) → to_line_at line ≡ path_at rest
unfolding to_line_at
to_from line rest e = rw (e, plain_utf8 (codes "to") refl) refl

pub to_again : (path : Path) → CanPath path → to_line_at (codes "to " ++ path_text path) ≡ Ok path
to_again path can = to_from (codes "to " ++ path_text path) (path_text path) (split_more (codes "to") (path_text path) (lacking 32 (codes "to") refl)) ∙ path_at_again path can
