use Rattle.std.proofs.Common.{ℕ, List, Err, refl, sym, subst, inl}
use Rattle.fsfs_revision.specs.declared.wrong.ReadError.{ReadError}
use Rattle.fsfs_revision.specs.Damage.Readings.{Answers}
use Rattle.fsfs_revision.specs.Shows.Reading.{PairsIn}
use Rattle.fsfs_dag.proofs.contents.hash_in_place.Goals as goal

pub returns-in-Err-Fault-clause-told : goal.returns-in-Err-Fault-clause-told
returns-in-Err-Fault-clause-told c =
    let answer = rw c.in-Err-Fault.field-0-is at c.in-Err-Fault.ensures in
    subst (λ (e : ReadError). Answers (λ (pairs : List (List ℕ × List ℕ)). pairs) (PairsIn c.args.rep.now c.args.bytes.now) (Err e)) (sym c.bad_rep.ensures) (inl ((λ some. answer.only some.0 some.1), refl))
