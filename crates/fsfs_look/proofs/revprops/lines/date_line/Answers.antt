use Rattle.std.proofs.Common.{ℕ, List, Some, ap, subst, ◌∙◌}
use Rattle.std.specs.Prelude.{Option}
use Rattle.std.specs.declared.vec.Vec.{Vec}
use Rattle.std.specs.declared.alloc.Global.{Global}
use Rattle.fsfs_tree.specs.Dated.{date_name}
use Rattle.fsfs_revision.specs.Damage.Readings.{Answers}
use Rattle.fsfs_look.specs.Revprops.Texts.{value_of, DateLine}
use Rattle.fsfs_look.proofs.LookLemmas.{date_absent}
use Rattle.fsfs_look.proofs.revprops.lines.date_line.Goals as goal

pub returns-in-Some-clause-told : goal.returns-in-Some-clause-told
returns-in-Some-clause-told c =
    let same = rw c.in-Some.is at c.get.ensures in
    subst (λ (o : Option (List ℕ)). Answers (λ (v : Vec ℕ Global). v.items) (DateLine c.args.rev o) c.stored_line.result) (ap (λ (t : List ℕ). Some t) c.deref.ensures.value ∙ same) c.stored_line.ensures.told

pub returns-in_ok-line-in-None-clause-told : goal.returns-in_ok-line-in-None-clause-told
returns-in_ok-line-in-None-clause-told c =
    let none = rw c.in-None.is at c.get.ensures in
    date_absent c.args.rev (value_of c.args.pairs.now date_name) c.in_ok-line-in-None.line.items none c.in_ok-line-in-None.ensures.items
