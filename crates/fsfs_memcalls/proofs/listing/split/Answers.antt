use Rattle.fsfs_memcalls.proofs.EntryLemmas.{split_at, split_none}
use Rattle.fsfs_memcalls.proofs.listing.split.Goals as goal

pub returns-in-Some : goal.returns-in-Some
returns-in-Some c =
    let at = c.in-Some.ensures.cases in
    split_at c.args.text.now c.in-Some.front.now c.in-Some.last.now at.0 at.1 at.2.0 at.2.1 at.3 at.4

pub returns-in-None : goal.returns-in-None
returns-in-None c = split_none c.args.text.now c.in-None.ensures.cases
