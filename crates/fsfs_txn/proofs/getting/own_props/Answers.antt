use Rattle.std.proofs.Common.{◌≡◌, Some, None, Ok, Err, sym, subst, ◌∙◌}
use Rattle.fsfs_revision.specs.Damage.Readings.{Answers}
use Rattle.fsfs_revision.specs.Shows.Reading.{Pairs}
use Rattle.fsfs_draft.specs.Drafts.{Kept, kept_of}
use Rattle.fsfs_draft.specs.Steps.{kept_at}
use Rattle.fsfs_draft.specs.Entries.{IsWithin}
use Rattle.fsfs_draft.specs.Properties.{OfKeptProps}
use Rattle.fsfs_draft.specs.Views.{kept_value}
use Rattle.fsfs_edit.proofs.OwnProps.{own_within}
use Rattle.fsfs_txn.proofs.Viewing.{there, own_props, own_fails}
use Rattle.fsfs_txn.proofs.getting.own_props.Goals as goal

pub returns-in_default-clause-told : goal.returns-in_default-clause-told
returns-in_default-clause-told g c = λ look trees top base nodes path knows shown le draft files at.
    let h = there look top base trees shown le (g.N.Own.txn c.args.own.now) (g.N.Own.folder c.args.own.now) nodes draft path at.0 at.1 c.args.id.now at.2 in
    let e : None ≡ Some (kept_of at.0) = ◌∙◌ {b = kept_at (g.N.Own.folder c.args.own.now).nodes c.args.id.now} c.in_default.ensures h in
    cc

pub returns-in-Ok-clause-told : goal.returns-in-Ok-clause-told
returns-in-Ok-clause-told g c = λ look trees top base nodes path knows shown le draft files at.
    let txn = g.N.Own.txn c.args.own.now in
    let f = g.N.Own.folder c.args.own.now in
    let both : Some (kept_value c.in-Some.kept.now) ≡ Some (kept_of at.0) = ◌∙◌ {b = kept_at f.nodes c.args.id.now} c.in-Some.ensures (there look top base trees shown le txn f nodes draft path at.0 at.1 c.args.id.now at.2) in
    let one : kept_value c.in-Some.kept.now ≡ kept_of at.0 = cc in
    let full = files path at.0 at.1 in
    let low : IsWithin top c.in-Some.kept.now.node.predecessor = subst (λ (x : Kept). IsWithin top x.node.predecessor) (sym one) (own_within look top base trees shown le txn f nodes draft path at.0 at.1 full) in
    own_props look top base trees shown le txn f nodes draft path at.0 at.1 full c.in-Ok.pairs (subst (λ (x : Kept). OfKeptProps look x (Ok c.in-Ok.pairs)) one (c.in-Ok.ensures.told look top knows low))

pub returns-in-Err-clause-told : goal.returns-in-Err-clause-told
returns-in-Err-clause-told g c = λ look trees top base nodes path knows shown le draft files at.
    let txn = g.N.Own.txn c.args.own.now in
    let f = g.N.Own.folder c.args.own.now in
    let both : Some (kept_value c.in-Some.kept.now) ≡ Some (kept_of at.0) = ◌∙◌ {b = kept_at f.nodes c.args.id.now} c.in-Some.ensures (there look top base trees shown le txn f nodes draft path at.0 at.1 c.args.id.now at.2) in
    let one : kept_value c.in-Some.kept.now ≡ kept_of at.0 = cc in
    let full = files path at.0 at.1 in
    let low : IsWithin top c.in-Some.kept.now.node.predecessor = subst (λ (x : Kept). IsWithin top x.node.predecessor) (sym one) (own_within look top base trees shown le txn f nodes draft path at.0 at.1 full) in
    rw c.from.ensures (own_fails look top base trees shown le txn f nodes draft path at.0 at.1 full c.in-Err.error (subst (λ (x : Kept). Answers (λ (pairs : Pairs). pairs) (OfKeptProps look x) (Err c.in-Err.error)) one (c.in-Err.ensures.told look top knows low)))
