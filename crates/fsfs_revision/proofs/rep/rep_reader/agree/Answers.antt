use Rattle.std.proofs.Common.{refl}
use Rattle.fsfs_revision.proofs.FaultLemmas.{about_wrong}
use Rattle.fsfs_revision.proofs.ReadingLemmas.{differ}
use Rattle.fsfs_revision.proofs.rep.rep_reader.agree.Goals as goal

pub returns-then-ne-2-clause-about : goal.returns-then-ne-2-clause-about
returns-then-ne-2-clause-about c = about_wrong c.args.rep.now _ _ c.bad_rep-then-ne-2.ensures (refl, ((c.in-Some.unique, c.in-Some.is, refl), differ _ _ c.if-ne-2.ensures))
