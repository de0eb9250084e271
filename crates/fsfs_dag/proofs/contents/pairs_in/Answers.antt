use Rattle.std.proofs.Common.{ℕ, List, subst}
use Rattle.std.proofs.lemmas.Result.{err_from_is_err_and}
use Rattle.std.specs.declared.vec.Vec.{Vec}
use Rattle.std.specs.declared.alloc.Global.{Global}
use Rattle.fsfs_revision.specs.Damage.Readings.{Answers}
use Rattle.fsfs_revision.specs.Shows.Reading.{RepAt, PairsIn}
use Rattle.fsfs_revision.proofs.Answering.{stops, goes_on}
use Rattle.fsfs_dag.proofs.contents.pairs_in.Goals as goal

abbrev Pairs : Type 0
Pairs = List (List ℕ × List ℕ)

pub returns-in_err-bytes-clause-told : goal.returns-in_err-bytes-clause-told
returns-in_err-bytes-clause-told g c = λ look told.
    let p = err_from_is_err_and c.from_residual.result c.from_residual.ensures.1 in
    rw (p.1, p.2) (stops (λ (v : Vec ℕ Global). v.items) (λ (pairs : Pairs). pairs) c.in_err-bytes.field-0.0 (RepAt look c.args.rep.now) (PairsIn c.args.rep.now) (c.in_err-bytes.ensures.told look told))

pub returns-clause-told : goal.returns-clause-told
returns-clause-told g c = λ look told.
    goes_on (λ (pairs : Pairs). pairs) c.hash_in.result (RepAt look c.args.rep.now) (PairsIn c.args.rep.now) c.in_ok-bytes.bytes.items (c.in_ok-bytes.ensures.told look told)
    (subst (λ (bytes : List ℕ). Answers (λ (pairs : Pairs). pairs) (PairsIn c.args.rep.now bytes) c.hash_in.result) c.deref.ensures.value c.hash_in.ensures.told)
