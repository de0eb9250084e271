use Rattle.std.proofs.Common.{◌≡◌, ℕ, None, Ok, sym, subst, ◌∙◌}
use Rattle.fsfs_revision.specs.Nodes.{is_revision_id}
use Rattle.fsfs_draft.specs.Drafts.{Kept}
use Rattle.fsfs_draft.specs.Steps.{kept_at}
use Rattle.fsfs_draft.specs.Entries.{IsWithin, OfKept}
use Rattle.fsfs_draft.specs.Views.{kept_value}
use Rattle.fsfs_revision.specs.Told.{RevisionBytes}
use Rattle.fsfs_revision.proofs.DamageLemmas.{no_both}
use Rattle.fsfs_txn.specs.Opened.Knowing.{AreKnown}
use Rattle.fsfs_txn.specs.Opened.Leading.{IsSourceKnown, OfOwn, OfLasting}
use Rattle.fsfs_txn.specs.Opened.Stepping.{IsDirKnown, OwnDir, LastingDir, IsNext}
use Rattle.fsfs_txn.proofs.Following.{same_some}
use Rattle.fsfs_base.proofs.ResultLemmas.{not_none}
use Rattle.fsfs_txn.proofs.opened.opening.child_id.Goals as goal

pub returns-then-is_revision_id : goal.returns-then-is_revision_id
returns-then-is_revision_id g c = λ look top known dir. by look top known dir
  where
    by : (look : RevisionBytes) (top : ℕ) → AreKnown look top c.args.known.now → IsDirKnown top (g.N.Own.folder c.args.own.now).nodes c.args.known.now c.args.dir.now → IsNext look (g.N.Own.folder c.args.own.now).nodes c.args.known.now c.args.dir.now c.args.name.now c.lasting_child.result
    by look top known (OwnDir k own there kind within source) = no_both (is_revision_id c.args.dir.now) (sym c.is_revision_id.ensures ∙ c.if-is_revision_id.true) own
    by look top known (LastingDir lasts within among) = let m = c.lasting_child.ensures look top known within among in record { entries = m.0; has = OfLasting lasts among m.1; is = m.2 }

pub returns-in-None : goal.returns-in-None
returns-in-None g c = λ look top known dir. by look top known dir
  where
    by : (look : RevisionBytes) (top : ℕ) → AreKnown look top c.args.known.now → IsDirKnown top (g.N.Own.folder c.args.own.now).nodes c.args.known.now c.args.dir.now → IsNext look (g.N.Own.folder c.args.own.now).nodes c.args.known.now c.args.dir.now c.args.name.now None
    by look top known (OwnDir k own there kind within source) = not_none (kept_at (g.N.Own.folder c.args.own.now).nodes c.args.dir.now) k there (sym c.in-None.ensures)
    by look top known (LastingDir lasts within among) = no_both (is_revision_id c.args.dir.now) lasts (sym c.is_revision_id.ensures ∙ c.if-is_revision_id.false)

pub returns-in-Some : goal.returns-in-Some
returns-in-Some g c = λ look top known dir. by look top known dir
  where
    by : (look : RevisionBytes) (top : ℕ) → AreKnown look top c.args.known.now → IsDirKnown top (g.N.Own.folder c.args.own.now).nodes c.args.known.now c.args.dir.now → IsNext look (g.N.Own.folder c.args.own.now).nodes c.args.known.now c.args.dir.now c.args.name.now c.own_child.result
    by look top known (OwnDir k own there kind within source) =
        let same : kept_value c.in-Some.kept.now ≡ k = same_some (kept_value c.in-Some.kept.now) k (c.in-Some.ensures ∙ there) in
        let low : IsWithin top c.in-Some.kept.now.node.predecessor = subst (λ (x : Kept). IsWithin top x.node.predecessor) (sym same) within in
        let from : (kept_value c.in-Some.kept.now).entries ≡ None → IsSourceKnown c.args.known.now c.in-Some.kept.now.node.predecessor = subst (λ (x : Kept). x.entries ≡ None → IsSourceKnown c.args.known.now x.node.predecessor) (sym same) source in
        let m = c.own_child.ensures look top known low from in
        record { entries = m.0; has = OfOwn k own there kind source (subst (λ (x : Kept). OfKept look x (Ok m.0)) same m.1); is = m.2 }
    by look top known (LastingDir lasts within among) = no_both (is_revision_id c.args.dir.now) lasts (sym c.is_revision_id.ensures ∙ c.if-is_revision_id.false)
