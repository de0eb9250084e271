use Rattle.std.proofs.Common.{ℕ, List, ◌++◌, Err, sym, ap, subst, ◌∙◌}
use Rattle.std.specs.declared.vec.Vec.{Vec}
use Rattle.std.specs.declared.alloc.Global.{Global}
use Rattle.fsfs_revision.specs.declared.wrong.ReadError.{ReadError}
use Rattle.fsfs_revision.specs.Damage.Readings.{Answers}
use Rattle.std.specs.Prelude.{Some, codes}
use Rattle.fsfs_look.specs.Revprops.Dates.{shown_date}
use Rattle.fsfs_look.specs.Revprops.Texts.{DateLine}
use Rattle.fsfs_look.proofs.LookLemmas.{date_found, date_refused}
use Rattle.fsfs_look.proofs.revprops.lines.stored_line.Goals as goal

pub returns-in-None-clause-told : goal.returns-in-None-clause-told
returns-in-None-clause-told c =
    subst (λ (e : ReadError). Answers (λ (v : Vec ℕ Global). v.items) (DateLine c.args.rev (Some c.args.stored.now)) (Err e)) (sym c.damaged.ensures)
    (date_refused c.args.rev c.args.stored.now (λ dt is. let none = c.in-None.ensures.only dt is in cc))

pub returns-in_ok-extend_from_slice-in-Some-clause-told : goal.returns-in_ok-extend_from_slice-in-Some-clause-told
returns-in_ok-extend_from_slice-in-Some-clause-told c =
    let dt = c.in-Some.date_time in
    let put = c.in_ok-put_date-in-Some.ensures ∙ ap (λ (t : List ℕ). t ++ shown_date dt) c.new-line.ensures.items in
    date_found c.args.rev c.args.stored.now c.extend_from_slice.new.self.items dt c.in-Some.ensures.found (c.in_ok-extend_from_slice-in-Some.ensures.items ∙ ap (λ (t : List ℕ). t ++ codes "\n") put)
