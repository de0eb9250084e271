use Rattle.std.proofs.Common.{◌≡◌, Some, None, sym, ap, subst, ◌∙◌}
use Rattle.std.specs.Prelude.{Option}
use Rattle.fsfs_noderev.specs.declared.rep.Rep.{Rep}
use Rattle.fsfs_draft.specs.Own.{draft_tree}
use Rattle.fsfs_draft.specs.Drafts.{Kept, kept_of}
use Rattle.fsfs_draft.specs.Steps.{kept_at}
use Rattle.fsfs_draft.specs.Views.{kept_value}
use Rattle.fsfs_txn.specs.GettingTexts.{rep_of, HasText}
use Rattle.fsfs_txn.proofs.Viewing.{there, own_text}
use Rattle.fsfs_txn.proofs.node_texts.own_text.Goals as goal

pub returns-in-None-clause-told : goal.returns-in-None-clause-told
returns-in-None-clause-told g c = λ look trees top base nodes path shown le draft at.
    let h = there look top base trees shown le (g.N.Own.txn c.args.own.now) (g.N.Own.folder c.args.own.now) nodes draft path at.0 at.1 c.args.id.now at.2 in
    let e : None ≡ Some (kept_of at.0) = ◌∙◌ {b = kept_at (g.N.Own.folder c.args.own.now).nodes c.args.id.now} c.in-None.ensures h in
    cc

pub returns-in-Some-clause-told : goal.returns-in-Some-clause-told
returns-in-Some-clause-told g c = λ look trees top base nodes path shown le draft at.
    let txn = g.N.Own.txn c.args.own.now in
    let f = g.N.Own.folder c.args.own.now in
    let both : Some (kept_value c.in-Some.kept.now) ≡ Some (kept_of at.0) = ◌∙◌ {b = kept_at f.nodes c.args.id.now} c.in-Some.ensures (there look top base trees shown le txn f nodes draft path at.0 at.1 c.args.id.now at.2) in
    let one : kept_value c.in-Some.kept.now ≡ kept_of at.0 = cc in
    let rep : c.text_in.result ≡ rep_of at.0.node.kind at.0.node.text = c.text_in.ensures ∙ ap (λ (k : Kept). rep_of k.node.kind k.node.text) one in
    subst (λ (r : Option Rep). HasText look f.proto (draft_tree trees nodes (trees base) path) r) (sym rep) (own_text look top base trees shown le txn f nodes draft path at.0 at.1)
