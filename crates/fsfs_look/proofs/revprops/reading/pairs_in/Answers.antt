use Rattle.std.proofs.Common.{Err, refl, sym, subst, inl}
use Rattle.fsfs_revision.specs.declared.wrong.ReadError.{ReadError}
use Rattle.fsfs_revision.specs.Damage.Readings.{Answers}
use Rattle.fsfs_look.specs.Revprops.Files.{Pairs, RevPropsIn}
use Rattle.fsfs_look.proofs.revprops.reading.pairs_in.Goals as goal

pub returns-in-Err-Fault-clause-told : goal.returns-in-Err-Fault-clause-told
returns-in-Err-Fault-clause-told c =
    let answer = rw c.in-Err-Fault.field-0-is at c.in-Err-Fault.ensures in
    subst (λ (e : ReadError). Answers (λ (pairs : Pairs). pairs) (RevPropsIn c.args.rev c.args.bytes.now) (Err e)) (sym c.damaged.ensures) (inl ((λ some. answer.only some.0 some.1), refl))
