use Rattle.fsfs_revision.proofs.TrailerLemmas.{written, written_ends}
use Rattle.fsfs_revision.proofs.trailer.put_trailer.Goals as goal

pub returns-clause-added : goal.returns-clause-added
returns-clause-added c =
    written c.args.out.now.items c.push.new.self.items c.put_decimal.new.out.items c.put_decimal-2.new.out.items c.args.trailer.root c.args.trailer.changes
    c.in_ok-push.ensures.items c.in_ok-put_decimal.ensures c.in_ok-put_decimal-2.ensures

pub returns-clause-ends : goal.returns-clause-ends
returns-clause-ends c =
    written_ends c.args.out.now.items c.put_decimal-2.new.out.items c.args.trailer c.requires.root c.requires.changes
    (written c.args.out.now.items c.push.new.self.items c.put_decimal.new.out.items c.put_decimal-2.new.out.items c.args.trailer.root c.args.trailer.changes
    c.in_ok-push.ensures.items c.in_ok-put_decimal.ensures c.in_ok-put_decimal-2.ensures)
