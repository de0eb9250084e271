use Rattle.std.proofs.Common.{ℕ, []}
use Rattle.std.specs.declared.vec.Vec.{Vec}
use Rattle.std.specs.declared.alloc.Global.{Global}
use Rattle.fsfs_revision.specs.Shows.Reading.{RepAt}
use Rattle.fsfs_dag.proofs.Reps.{rep_le, contents_some, contents_none}
use Rattle.fsfs_dag.proofs.contents.text_of.Goals as goal

pub returns-in-None-clause-told : goal.returns-in-None-clause-told
returns-in-None-clause-told g c = λ look knows. contents_none [] _ (RepAt look) c.args.file.now.node.text c.in-None.ensures.value c.new.ensures.items

pub returns-in-Some-clause-told : goal.returns-in-Some-clause-told
returns-in-Some-clause-told g c = λ look knows.
    contents_some (λ (v : Vec ℕ Global). v.items) c.rep_read.result [] (RepAt look) c.args.file.now.node.text c.in-Some.rep.now c.in-Some.ensures.value
    (c.rep_read.ensures.told look (knows _ (rep_le _ c.in-Some.rep.now.rev c.in-Some.rep.now.offset c.in-Some.ensures.before)))
