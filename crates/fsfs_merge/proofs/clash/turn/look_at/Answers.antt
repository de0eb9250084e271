use Rattle.std.proofs.Common.{◌∙◌, None, Option, Ok, refl, sym, subst}
use Rattle.fsfs_merge.specs.declared.clash.turn.Dirs.{Dirs}
use Rattle.fsfs_merge.specs.Clash.Readings.{LookAt, AreDirsIn}
use Rattle.std.specs.Prelude.{option_map}
use Rattle.fsfs_revision.specs.Damage.Readings.{Answers}
use Rattle.fsfs_merge.specs.Clash.Turning.{lists_value}
use Rattle.fsfs_merge.proofs.ReadingLemmas.{homes_in}
use Rattle.fsfs_merge.proofs.clash.turn.look_at.Goals as goal

pub returns-in-None-clause-told : goal.returns-in-None-clause-told
returns-in-None-clause-told g c = λ look top knows within.
    subst (λ (o : Option Dirs). LookAt look (g.N.Own.folder c.args.own.now) c.args.rev o (Ok None)) (sym c.in-None.is ∙ c.as_dirs.ensures) refl

pub returns-in-Some-clause-told : goal.returns-in-Some-clause-told
returns-in-Some-clause-told g c = λ look top knows within.
    let is = sym c.as_dirs.ensures ∙ c.in-Some.is in
    subst (λ (o : Option Dirs). Answers (option_map lists_value) (LookAt look (g.N.Own.folder c.args.own.now) c.args.rev o) c.opened.result) (sym is)
    (c.opened.ensures.told look top knows (subst (λ (o : Option Dirs). AreDirsIn top (g.N.Own.folder c.args.own.now) o) is within))

pub returns-in-Some-clause-base : goal.returns-in-Some-clause-base
returns-in-Some-clause-base g c =
    let three = c.args.three.now in
    homes_in three.base three.head three.own c.in-Some.dirs c.opened.result (sym c.as_dirs.ensures ∙ c.in-Some.is) c.opened.ensures.home c.opened.ensures.before
