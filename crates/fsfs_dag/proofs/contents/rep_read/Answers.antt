use Rattle.std.proofs.Common.{ℕ, List, Some, Result, ap, ◌∙◌}
use Rattle.std.specs.declared.vec.Vec.{Vec}
use Rattle.std.specs.declared.alloc.Global.{Global}
use Rattle.fsfs_revision.specs.declared.wrong.Refusal.{Refusal}
use Rattle.fsfs_dag.proofs.Reps.{rep_read}
use Rattle.fsfs_dag.proofs.contents.rep_read.Goals as goal

pub returns-clause-told : goal.returns-clause-told
returns-clause-told g c = λ look told.
    rep_read look c.args.rep.now (λ (v : Vec ℕ Global). v.items) c.read_rep_bytes.result (λ bytes e. c.read_rep_bytes.ensures.bytes bytes (told ∙ ap (λ (r : Result (List ℕ) Refusal). Some r) e)) (λ why e. c.read_rep_bytes.ensures.refused why (told ∙ ap (λ (r : Result (List ℕ) Refusal). Some r) e))
