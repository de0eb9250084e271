use Rattle.std.proofs.Common.{◌+◌, ◌-◌, length, take, drop}
use Rattle.fsfs_revision.specs.Trailers.{EndsWith}
use Rattle.fsfs_revision.proofs.TrailerLemmas.{if_more, from_slice, in_slice}
use Rattle.fsfs_revision.proofs.trailer.read_tail.Goals as goal

pub returns-clause-found : goal.returns-clause-found
returns-clause-found c =
    let cut = c.saturating_sub-cut.result in
    if_more (EndsWith (c.args.begins + cut) (take (length c.args.bytes.now - cut) (drop cut c.args.bytes.now))) (EndsWith c.args.begins c.args.bytes.now) c.find.result c.find.ensures.found
    (λ u w. from_slice c.args.begins cut c.args.bytes.now u c.saturating_sub-cut.ensures w)

pub returns-clause-only : goal.returns-clause-only
returns-clause-only c = λ u w. c.find.ensures.only u (in_slice c.args.begins c.saturating_sub-cut.result c.args.bytes.now u c.saturating_sub-cut.ensures w)
