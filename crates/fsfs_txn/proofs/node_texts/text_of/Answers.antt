use Rattle.std.proofs.Common.{sym, subst}
use Rattle.std.specs.Prelude.{Option}
use Rattle.fsfs_noderev.specs.declared.rep.Rep.{Rep}
use Rattle.fsfs_draft.specs.declared.walk.Step.{Step}
use Rattle.fsfs_draft.specs.Own.{draft_tree}
use Rattle.fsfs_draft.specs.Walks.{IsAt}
use Rattle.fsfs_txn.specs.GettingTexts.{ReadsText, HasText}
use Rattle.fsfs_txn.proofs.Viewing.{lasting_text}
use Rattle.fsfs_txn.proofs.node_texts.text_of.Goals as goal

pub returns-in-Own-clause-told : goal.returns-in-Own-clause-told
returns-in-Own-clause-told g c = subst (λ (s : Step). ReadsText (g.N.Own.txn c.args.own.now) (g.N.Own.folder c.args.own.now) s c.own_text.result) (sym c.in-Own.is) c.own_text.ensures.told

pub returns-in-Lasting-clause-told : goal.returns-in-Lasting-clause-told
returns-in-Lasting-clause-told g c = λ look trees top base nodes path shown le draft at.
    let txn = g.N.Own.txn c.args.own.now in
    let f = g.N.Own.folder c.args.own.now in
    let here = subst (λ (s : Step). IsAt look trees base nodes path s) c.in-Lasting.is at in
    subst (λ (r : Option Rep). HasText look f.proto (draft_tree trees nodes (trees base) path) r) (sym c.text_in.ensures) (lasting_text look top base trees shown le txn f nodes draft path c.in-Lasting.found.node here)
