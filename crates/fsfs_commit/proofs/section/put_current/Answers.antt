use Rattle.std.proofs.Common.{refl}
use Rattle.fsfs_base.specs.declared.places.place.DiskPlace.TheVariants.{Commit}
use Rattle.fsfs_base.specs.declared.places.place.CommitPlace.TheVariants as place
use Rattle.fsfs_machine.specs.declared.machine.Section.TheVariants as section
use Rattle.fsfs_commit.proofs.Going.{goes_done, goes_failed}
use Rattle.fsfs_commit.proofs.Going.{line_at}
use Rattle.fsfs_commit.proofs.section.put_current.Goals as goal

-- ---- the calls are due

pub put-requires : goal.put-requires
put-requires g c = record {
  due = λ bound.
      let w = c.requires.due bound in
      (w.0, Commit place.PutCurrent, w.2, (w.1, w.3, c.name-next.ensures, line_at c.args.made.now.rev c.args.made.now.current.items c.deref.result.now w.0 c.deref.ensures.value w.4.number w.4.line));
}

-- ---- what they come to

pub returns-in-Ok-clause-turned : goal.returns-in-Ok-clause-turned
returns-in-Ok-clause-turned g c = λ v x known at made. goes_done place.PutCurrent v (section.RevFirm x) x at refl (λ went given. refl) _ (c.in-Ok.ensures.turned v (Commit place.PutCurrent) known (x, at, c.name-next.ensures, line_at c.args.made.now.rev c.args.made.now.current.items c.deref.result.now v c.deref.ensures.value made.number made.line))

pub returns-in-Err-clause-turned : goal.returns-in-Err-clause-turned
returns-in-Err-clause-turned g c = λ v x known at made. goes_failed place.PutCurrent v (section.RevFirm x) x at refl (λ went given. refl) _ _ refl (c.in-Err.ensures.turned v (Commit place.PutCurrent) known (x, at, c.name-next.ensures, line_at c.args.made.now.rev c.args.made.now.current.items c.deref.result.now v c.deref.ensures.value made.number made.line))
