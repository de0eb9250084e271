use Rattle.fsfs_memcalls.proofs.EntryLemmas.{elsewhere_split, part_split, part_alone, elsewhere_plain}
use Rattle.fsfs_memcalls.proofs.listing.part_below.Goals as goal

pub returns-then-not-is_inner : goal.returns-then-not-is_inner
returns-then-not-is_inner c =
    elsewhere_split c.args.folder.now c.in-Some.front.now c.in-Some.last.now c.args.text.now c.in-Some.ensures.0 c.in-Some.ensures.1 c.if-not-is_inner.ensures

pub returns-else-not-is_inner : goal.returns-else-not-is_inner
returns-else-not-is_inner c =
    part_split c.args.folder.now c.in-Some.front.now c.in-Some.last.now c.args.text.now c.in-Some.ensures.0 c.in-Some.ensures.1 c.if-not-is_inner.ensures.0 c.if-not-is_inner.ensures.1

pub returns-then-not-is_none : goal.returns-then-not-is_none
returns-then-not-is_none c = elsewhere_plain c.args.folder.now c.args.text.now c.in-None.ensures c.if-not-is_none.ensures

pub returns-else-not-is_none : goal.returns-else-not-is_none
returns-else-not-is_none c = part_alone c.args.folder.now c.args.text.now c.in-None.ensures c.if-not-is_none.ensures
