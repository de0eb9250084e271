-- What was read at a place stands there, as it is written.
use Rattle.std.proofs.Common.{◌≡◌, ◌≢◌, ◌≤◌, ◌+◌, ℕ, Bool, true, false, cond, eqb, ltb, not, List, [], ◌∷◌, ◌++◌, length, take, drop, Option, Some, None, refl, sym, ap, subst, ◌∙◌, append_assoc, arith}
use Rattle.std.proofs.lemmas.Bool.{eqb-true}
use Rattle.std.proofs.lemmas.List.{take-append-drop, length-take-le, length-drop}
use Rattle.std.specs.List.{list_all}
use Rattle.std.specs.Prelude.{Result, Ok, Err, codes, decimal}
use Rattle.fsfs_base.specs.Grammar.Cuts.{Lacks, cut}
use Rattle.fsfs_base.proofs.CutLemmas.{cut_found}
use Rattle.fsfs_base.specs.Paths.{path_text}
use Rattle.fsfs_script.specs.JobLines.Judging.{◌>>=◌}
use Rattle.fsfs_script.specs.JobLines.Lines.{command_line_at, to_line_at}
use Rattle.fsfs_script.specs.JobLines.Verbs.{command_named}
use Rattle.fsfs_script.specs.JobLines.Texts.{CanEdit, CanAuthor, CanSay, CanWhole, MayStand, edit_line, edit_body, edit_text, said_text}
use Rattle.fsfs_script.specs.declared.job_lines.edit.Edit.{Edit}
use Rattle.fsfs_script.specs.declared.job_lines.edit.Edit.TheVariants as edits
use Rattle.fsfs_script.specs.declared.job_lines.lines.CommandLine.{CommandLine}
use Rattle.fsfs_script.specs.declared.job_lines.lines.CommandLine.TheVariants as says
use Rattle.fsfs_script.specs.declared.job_lines.refusal.Refusal.{Refusal}
use Rattle.fsfs_script.specs.declared.job_lines.refusal.Refusal.TheVariants.{Bad}
use Rattle.fsfs_script.specs.declared.job_lines.refusal.Why.TheVariants as why
use Rattle.fsfs_script.specs.declared.job_lines.verbs.Stage.{Stage}
use Rattle.fsfs_script.specs.declared.job_lines.verbs.Stage.TheVariants.{AfterJob, AfterAuthor, InEdits}
use Rattle.fsfs_script.proofs.WordTexts.{bound, tail}
use Rattle.fsfs_script.proofs.LineTexts.{line_found as said_found}
use Rattle.fsfs_script.proofs.LinesAgain.{lacking, plain_utf8, split_tail}
use Rattle.fsfs_script.proofs.OpeningTexts.{to_found}
use Rattle.fsfs_script.specs.Places.{Place, newlines, passed}
use Rattle.fsfs_script.specs.Reading.{line_at, newline_at, newline_on, text_at}
use Rattle.fsfs_script.specs.Commands.{judged_at, to_at, edited, rest_at, next_at}
use Rattle.fsfs_script.specs.JobTexts.{Stands, author_text, log_text}
use Rattle.fsfs_script.specs.declared.commands.Command.TheVariants as commands
use Rattle.fsfs_script.specs.declared.commands.Next.{Next}
use Rattle.fsfs_script.specs.declared.commands.Next.TheVariants as next
use Rattle.fsfs_script.proofs.ReadLemmas.{pair_is}
use Rattle.fsfs_script.proofs.Standing.{stands_more, nothing_stands, newlines_line, newlines_text}

-- ---- lines

no_line : (t : Bool) (line : List ℕ) (q : Place) → (let r : Result (List ℕ × Place) Refusal = cond t (Err (Bad why.LongLine)) (Err (Bad why.Short)) in r) ≡ Ok (line, q) → ⊥
no_line true line q e = cc
no_line false line q e = cc

one_line : (t : Bool) (l line : List ℕ) (r q : Place) → (let o : Result (List ℕ × Place) Refusal = cond t (Err (Bad why.LongLine)) (Ok (l, r)) in o) ≡ Ok (line, q) → (l ≡ line) × (r ≡ q)
one_line true l line r q e = absurd cc
one_line false l line r q e = pair_is l line r q e

pub line_found : (p : Place) (line : List ℕ) (q : Place) → line_at p ≡ Ok (line, q) → Stands p (line ++ 10 ∷ []) q
unfolding line_at
line_found p line q e = by (cut 10 p.bytes) refl
  where
    by : (o : Option (List ℕ × List ℕ)) → cut 10 p.bytes ≡ o → Stands p (line ++ 10 ∷ []) q
    by None is = absurd (no_line (ltb 8192 (length p.bytes)) line q (rw is at e))
    by (Some c) is =
        let f = one_line (ltb 8192 (length c.0)) c.0 line (record { line = p.line + 1; bytes = c.1 }) q (rw is at e) in
        let w = cut_found 10 p.bytes c.0 c.1 is in
        let lacks : Lacks 10 line = subst (Lacks 10) f.0 w.lacks in
        let line_is : q.line ≡ p.line + 1 = ap (λ (x : Place). x.line) (sym f.1) in
        record {
          bytes = w.parts ∙ (λ i. f.0 i ++ 10 ∷ (f.1 i).bytes) ∙ sym (append_assoc line (10 ∷ []) q.bytes);
          line = omega (arith, line_is, newlines_line line lacks);
        }

-- a line that was judged
pub record Judged {X : Type 0} (judge : List ℕ → Result X Refusal) (p : Place) (x : X) (q : Place) : Type 0 where
  pub line : List ℕ
  pub judged : judge line ≡ Ok x
  pub stands : Stands p (line ++ 10 ∷ []) q

pub judged_found : {X : Type 0} (judge : List ℕ → Result X Refusal) (p : Place) (x : X) (q : Place) → judged_at judge p ≡ Ok (x, q) → Judged judge p x q
judged_found {X} judge p x q e =
    let a = bound (line_at p) (λ l. judge l.0 >>= λ x. Ok (x, l.1)) (x, q) e in
    let b = bound (judge a.0.0) (λ y. Ok (y, a.0.1)) (x, q) a.2 in
    let s = pair_is b.0 x a.0.1 q b.2 in
    record {
      line = a.0.0;
      judged = b.1 ∙ ap (λ (y : X). Ok y) s.0;
      stands = subst (λ (z : Place). Stands p (a.0.0 ++ 10 ∷ []) z) s.1 (line_found p a.0.0 a.0.1 a.1);
    }

-- ---- texts

newline_found : (line : ℕ) (bytes : List ℕ) (u : Unit {0}) (q : Place) → newline_on line bytes ≡ Ok (u, q) → (bytes ≡ 10 ∷ q.bytes) × (q.line ≡ line + 1)
newline_found line [] u q e = absurd cc
newline_found line (b ∷ bs) u q e = by (eqb b 10) refl e
  where
    by : (t : Bool) → eqb b 10 ≡ t → (let o : Result (Unit {0} × Place) Refusal = cond (eqb b 10) (Ok (tt, record { line = line + 1; bytes = bs })) (Err (Bad why.NoNewline)) in o) ≡ Ok (u, q) → (b ∷ bs ≡ 10 ∷ q.bytes) × (q.line ≡ line + 1)
    by true is e =
        let e' : (let o : Result (Unit {0} × Place) Refusal = Ok (tt, record { line = line + 1; bytes = bs }) in o) ≡ Ok (u, q) = rw is at e in
        let s = pair_is tt u (record { line = line + 1; bytes = bs }) q e' in
        ((λ i. eqb-true b 10 is i ∷ (s.1 i).bytes), ap (λ (x : Place). x.line) (sym s.1))
    by false is e = let e' : (let o : Result (Unit {0} × Place) Refusal = Err (Bad why.NoNewline) in o) ≡ Ok (u, q) = rw is at e in absurd cc

pub text_found : (n : ℕ) (p : Place) (text : List ℕ) (q : Place) → text_at n p ≡ Ok (text, q) → Stands p (text ++ 10 ∷ []) q × (length text ≡ n)
unfolding text_at newline_at
text_found n p text q e =
    let a = bound (newline_at (passed n p)) (λ r. Ok (take n p.bytes, r.1)) (text, q) e in
    let s = pair_is (take n p.bytes) text a.0.1 q a.2 in
    let f = newline_found (p.line + newlines (take n p.bytes)) (drop n p.bytes) a.0.0 a.0.1 a.1 in
    let within : n ≤ length p.bytes = omega (arith, ap length f.0, length-drop n p.bytes) in
    let bytes : p.bytes ≡ text ++ 10 ∷ q.bytes = sym (take-append-drop n p.bytes) ∙ ap (λ (t : List ℕ). take n p.bytes ++ t) f.0 ∙ (λ i. s.0 i ++ 10 ∷ (s.1 i).bytes) in
    let line : q.line ≡ p.line + newlines text + 1 = ap (λ (x : Place). x.line) (sym s.1) ∙ f.1 ∙ ap (λ (t : List ℕ). p.line + newlines t + 1) s.0 in
    (record { bytes = bytes ∙ sym (append_assoc text (10 ∷ []) q.bytes); line = omega (arith, line, newlines_text text) }, ap length (sym s.0) ∙ length-take-le n p.bytes within)

-- ---- commands

abbrev pub next_text : Next → List ℕ
next_text (next.Command (commands.Author name)) = author_text (Some name)
next_text (next.Command (commands.Log text)) = log_text (Some text)
next_text (next.Command (commands.Edit edit)) = edit_text edit
next_text next.Commit = codes "commit" ++ 10 ∷ []

-- what may come at a stage of a job
abbrev pub CanCome : Stage → Next → Type 0
CanCome stage (next.Command (commands.Author name)) = (stage ≡ AfterJob) × CanAuthor name
CanCome stage (next.Command (commands.Log text)) = (stage ≢ InEdits) × (length text ≤ 1_048_576)
CanCome stage (next.Command (commands.Edit edit)) = CanEdit edit
CanCome stage next.Commit = Unit {0}

-- a word that may not stand here
out_of_order : (stage : Stage) (word : List ℕ) (rest : Option (List ℕ)) → list_all (λ b. not (eqb b 32)) word ≡ true → list_all (λ b. ltb b 128) word ≡ true → command_named stage word ≡ None → command_line_at stage (word ++ tail rest) ≡ Err (Bad why.Word)
unfolding command_line_at
out_of_order stage word rest one plain none = rw (split_tail word rest (lacking 32 word one), plain_utf8 word plain, none) refl

wrong : {X : Type 0} (r : Result X Refusal) (x : X) (refusal : Refusal) → r ≡ Ok x → r ≡ Err refusal → ⊥
wrong r x refusal a b = let e = sym a ∙ b in cc

may_stand : (stage : Stage) (said : CommandLine) → command_line_at stage (said_text said) ≡ Ok said → MayStand stage said
may_stand AfterJob (says.Author name) e = refl
may_stand AfterAuthor (says.Author name) e = absurd (wrong (command_line_at AfterAuthor (said_text (says.Author name))) (says.Author name) (Bad why.Word) e (out_of_order AfterAuthor (codes "author") (Some name) refl refl refl))
may_stand InEdits (says.Author name) e = absurd (wrong (command_line_at InEdits (said_text (says.Author name))) (says.Author name) (Bad why.Word) e (out_of_order InEdits (codes "author") (Some name) refl refl refl))
may_stand AfterJob (says.Log n) e = λ same. cc
may_stand AfterAuthor (says.Log n) e = λ same. cc
may_stand InEdits (says.Log n) e = absurd (wrong (command_line_at InEdits (said_text (says.Log n))) (says.Log n) (Bad why.Word) e (out_of_order InEdits (codes "log") (Some (decimal n)) refl refl refl))
may_stand stage (says.Whole edit) e = tt
may_stand stage (says.Copy rev from) e = tt
may_stand stage (says.Put n path) e = tt
may_stand stage (says.SetProp n name path) e = tt
may_stand stage says.Commit e = tt

-- what belongs to a first line
record Rest (stage : Stage) (said : CommandLine) (p : Place) (n : Next) (q : Place) : Type 0 where
  rest : List ℕ
  stands : Stands p rest q
  can : CanCome stage n
  text_is : said_text said ++ 10 ∷ rest ≡ next_text n

rest_as : (stage : Stage) (said : CommandLine) (p q r : Place) (n m : Next) → (let o : Result (Next × Place) Refusal = Ok (n, q) in o) ≡ Ok (m, r) → Rest stage said p n q → Rest stage said p m r
rest_as stage said p q r n m e w =
    let s = pair_is n m q r e in
    subst (λ (x : Place). Rest stage said p m x) s.1 (subst (λ (x : Next). Rest stage said p x q) s.0 w)

whole_edit : (edit : Edit) → CanWhole edit → (edit_body edit ≡ []) × CanEdit edit
whole_edit (edits.MakeDir path) can = (refl, can)
whole_edit (edits.MakeFile path) can = (refl, can)
whole_edit (edits.Delete path) can = (refl, can)
whole_edit (edits.Copy copy) can = absurd can
whole_edit (edits.Put put) can = absurd can
whole_edit (edits.Prop set) can = go set.value can.2
  where
    go : (value : Option (List ℕ)) → value ≡ None → (edit_body (edits.Prop (record { path = set.path; name = set.name; value = value })) ≡ []) × CanEdit (edits.Prop (record { path = set.path; name = set.name; value = value }))
    go None e = (refl, (can.0, can.1, tt))
    go (Some v) e = absurd cc

rest_found : (stage : Stage) (said : CommandLine) (p : Place) (n : Next) (q : Place) → rest_at said p ≡ Ok (n, q) → CanSay said → MayStand stage said → Rest stage said p n q
rest_found stage (says.Author name) p n q e can may =
    rest_as stage (says.Author name) p p q (next.Command (commands.Author name)) n e (record { rest = []; stands = nothing_stands p; can = (may, can); text_is = refl })
rest_found stage (says.Log k) p n q e can may =
    let a = bound (text_at k p) (λ t. Ok (next.Command (commands.Log t.0), t.1)) (n, q) e in
    let f = text_found k p a.0.0 a.0.1 a.1 in
    rest_as stage (says.Log k) p a.0.1 q (next.Command (commands.Log a.0.0)) n a.2 (record {
      rest = a.0.0 ++ 10 ∷ [];
      stands = f.0;
      can = (may, subst (λ (m : ℕ). m ≤ 1_048_576) (sym f.1) can);
      text_is = ap (λ (m : ℕ). codes "log " ++ decimal m ++ 10 ∷ (a.0.0 ++ 10 ∷ [])) (sym f.1);
    })
rest_found stage (says.Whole edit) p n q e can may =
    let w = whole_edit edit can in
    rest_as stage (says.Whole edit) p p q (next.Command (commands.Edit edit)) n e (record { rest = []; stands = nothing_stands p; can = w.1; text_is = ap (λ (t : List ℕ). edit_line edit ++ 10 ∷ t) (sym w.0) })
rest_found stage (says.Copy rev from) p n q e can may =
    let a = bound (to_at p) (λ t. edited (edits.Copy (record { rev = rev; from = from; to = t.0 })) t.1) (n, q) e in
    let j = judged_found to_line_at p a.0.0 a.0.1 a.1 in
    let f = to_found j.line a.0.0 j.judged in
    rest_as stage (says.Copy rev from) p a.0.1 q (next.Command (commands.Edit (edits.Copy (record { rev = rev; from = from; to = a.0.0 })))) n a.2 (record {
      rest = j.line ++ 10 ∷ [];
      stands = j.stands;
      can = (can.0, can.1, f.1);
      text_is = ap (λ (t : List ℕ). (codes "copy " ++ decimal rev ++ 32 ∷ path_text from) ++ 10 ∷ (t ++ 10 ∷ [])) f.0;
    })
rest_found stage (says.Put k path) p n q e can may =
    let a = bound (text_at k p) (λ t. edited (edits.Put (record { path = path; text = t.0 })) t.1) (n, q) e in
    let f = text_found k p a.0.0 a.0.1 a.1 in
    rest_as stage (says.Put k path) p a.0.1 q (next.Command (commands.Edit (edits.Put (record { path = path; text = a.0.0 })))) n a.2 (record {
      rest = a.0.0 ++ 10 ∷ [];
      stands = f.0;
      can = (can.1, subst (λ (m : ℕ). m ≤ 1_073_741_824) (sym f.1) can.0);
      text_is = ap (λ (m : ℕ). (codes "put " ++ decimal m ++ 32 ∷ path_text path) ++ 10 ∷ (a.0.0 ++ 10 ∷ [])) (sym f.1);
    })
rest_found stage (says.SetProp k name path) p n q e can may =
    let a = bound (text_at k p) (λ t. edited (edits.Prop (record { path = path; name = name; value = Some t.0 })) t.1) (n, q) e in
    let f = text_found k p a.0.0 a.0.1 a.1 in
    rest_as stage (says.SetProp k name path) p a.0.1 q (next.Command (commands.Edit (edits.Prop (record { path = path; name = name; value = Some a.0.0 })))) n a.2 (record {
      rest = a.0.0 ++ 10 ∷ [];
      stands = f.0;
      can = (can.2, can.1, subst (λ (m : ℕ). m ≤ 1_048_576) (sym f.1) can.0);
      text_is = ap (λ (m : ℕ). (codes "prop " ++ decimal m ++ 32 ∷ (name ++ 32 ∷ path_text path)) ++ 10 ∷ (a.0.0 ++ 10 ∷ [])) (sym f.1);
    })
rest_found stage says.Commit p n q e can may =
    rest_as stage says.Commit p p q next.Commit n e (record { rest = []; stands = nothing_stands p; can = tt; text_is = refl })

pub next_found : (stage : Stage) (p : Place) (n : Next) (q : Place) → next_at stage p ≡ Ok (n, q) → Stands p (next_text n) q × CanCome stage n
next_found stage p n q e =
    let a = bound (judged_at (command_line_at stage) p) (λ c. rest_at c.0 c.1) (n, q) e in
    let j = judged_found (command_line_at stage) p a.0.0 a.0.1 a.1 in
    let f = said_found stage j.line a.0.0 j.judged in
    let may = may_stand stage a.0.0 (subst (λ (t : List ℕ). command_line_at stage t ≡ Ok a.0.0) f.0 j.judged) in
    let r = rest_found stage a.0.0 a.0.1 n q a.2 f.1 may in
    let text : (j.line ++ 10 ∷ []) ++ r.rest ≡ next_text n = append_assoc j.line (10 ∷ []) r.rest ∙ ap (λ (t : List ℕ). t ++ 10 ∷ r.rest) f.0 ∙ r.text_is in
    (subst (λ (t : List ℕ). Stands p t q) text (stands_more p a.0.1 q (j.line ++ 10 ∷ []) r.rest j.stands r.stands), r.can)
