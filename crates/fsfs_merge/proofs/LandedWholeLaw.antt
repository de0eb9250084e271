-- A merge takes a whole draft, and leaves one.
use Rattle.std.proofs.Common.{suc, List, sym, subst, arith}
use Rattle.fsfs_noderev.specs.declared.changes.item.ChangeItem.{ChangeItem}
use Rattle.fsfs_draft.specs.Drafts.{AreItemsOf}
use Rattle.fsfs_draft.proofs.WholeLaw.{drafts_are_handed}
use Rattle.fsfs_merge.specs.LandedOwn.{landed_own}
use Rattle.fsfs_merge.specs.LandedWhole.{MergesTakeAndLeave}
use Rattle.fsfs_merge.proofs.LandedOwnLaw.{landed_is_a_draft}
use Rattle.fsfs_merge.proofs.LandedShownLaw.{landings_are_shown}

pub merges_take_and_leave : MergesTakeAndLeave
merges_take_and_leave = record {
  takes = λ look top tree b h t marks nodes see txn f shows are was le ge d sights.
      (let hand = drafts_are_handed.handed look tree top b nodes txn f t marks shows.each are (omega (arith, le, ge)) d in
      record {
        shows = shows;
        transaction = was;
        order = le;
        within = ge;
        base_nodes = are b (omega (arith, le, ge));
        head_nodes = are h ge;
        paths = (hand.draws (suc top) (omega arith)).paths;
        side = hand.side;
        sights = sights;
      });
  leaves = λ look top tree b h k t marks nodes see txn f after lists are d is less clear listing folder items.
      (let own = d.shows.own in
      let draft = landed_is_a_draft.draft look top tree b h t marks nodes see txn f after own lists are is less clear d.shows.is_draft d.files d.once d.says listing folder in
      let kept = landed_is_a_draft.files look top tree b h t marks nodes see txn f own lists are is clear d.shows.is_draft d.files d.once in
      let marked = landed_is_a_draft.marks look top tree b h t marks nodes see txn f after own lists are is less clear d.shows.is_draft d.files d.once d.says listing folder in
      let shown = landings_are_shown look top tree b h k t marks nodes see txn f after own lists are is less clear d.shows.is_draft d.files d.once d.says d.sources d.shows.each listing folder in
      record {
        shows = record { own = landed_own see (nodes h) lists own; is_draft = draft; each = shown.each; items = subst (λ (list : List ChangeItem). AreItemsOf list marks) (sym items) d.shows.items };
        files = kept.0;
        once = kept.1;
        says = marked;
        sources = shown.sources;
      });
}
