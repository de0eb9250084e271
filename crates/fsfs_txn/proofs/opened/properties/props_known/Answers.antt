use Rattle.std.proofs.Common.{◌≡◌, ◌≤◌, Some, Ok, sym, subst, ◌∙◌}
use Rattle.std.specs.Prelude.{Option}
use Rattle.fsfs_noderev.specs.declared.node_id.NodeId.{NodeId}
use Rattle.fsfs_revision.specs.Shows.Reading.{offset_of, OfId, Pairs, PropsOf}
use Rattle.fsfs_draft.specs.Drafts.{Kept}
use Rattle.fsfs_draft.specs.Entries.{IsWithin}
use Rattle.fsfs_draft.specs.Properties.{OfKeptProps}
use Rattle.fsfs_draft.specs.Views.{kept_value}
use Rattle.fsfs_draft.proofs.Readings.{kept_props_read}
use Rattle.fsfs_txn.specs.Opened.Leading.{IsAmong, IsSourceKnown}
use Rattle.fsfs_base.proofs.ResultLemmas.{not_none}
use Rattle.fsfs_txn.proofs.opened.properties.props_known.Goals as goal

pub returns-in_ok-pairs-in-Some-find-clause-tells : goal.returns-in_ok-pairs-in-Some-find-clause-tells
returns-in_ok-pairs-in-Some-find-clause-tells g c = λ look top k known there within.
    let both : Some (kept_value c.in-Some.kept.now) ≡ Some k = c.in-Some.ensures ∙ there in
    let one : kept_value c.in-Some.kept.now ≡ k = cc in
    let id = c.in-Some-predecessor.from in
    let low : IsWithin top c.in-Some.kept.now.node.predecessor = subst (λ (x : Kept). IsWithin top x.node.predecessor) (sym one) within in
    let le : (offset_of id.place).rev ≤ top = subst (λ (o : Option NodeId). IsWithin top o) c.in-Some-predecessor.is low in
    let found = c.in-Some-find.one.now in
    let same = c.in-Some-find.ensures.id in
    let is = c.in-Some-find.ensures.known look top known (subst (λ (i : NodeId). (offset_of i.place).rev ≤ top) (sym same) le) in
    subst (λ (x : Kept). OfKeptProps look x (Ok c.in_ok-pairs-in-Some-find.pairs)) one
    (kept_props_read look (kept_value c.in-Some.kept.now) id (Ok c.in_ok-pairs-in-Some-find.pairs) c.in-None.is c.in-Some-predecessor.is
    (found.node, subst (λ (i : NodeId). OfId look i (Ok found.node)) same is.node, subst (λ (s : Pairs). PropsOf look found.node (Ok s)) (sym c.in_ok-pairs-in-Some-find.ensures.cases) is.props))

pub returns-in_default-clause-all : goal.returns-in_default-clause-all
returns-in_default-clause-all g c = λ k there source. not_none _ k there (sym c.in_default.ensures)

pub returns-in-None-find-clause-all : goal.returns-in-None-find-clause-all
returns-in-None-find-clause-all g c = λ k there source.
    let both : Some (kept_value c.in-Some.kept.now) ≡ Some k = c.in-Some.ensures ∙ there in
    let one : kept_value c.in-Some.kept.now ≡ k = cc in
    let from : IsSourceKnown c.args.known.now c.in-Some.kept.now.node.predecessor = subst (λ (x : Kept). IsSourceKnown c.args.known.now x.node.predecessor) (sym one) source in
    let among : IsAmong c.in-Some-predecessor.from c.args.known.now = subst (λ (o : Option NodeId). IsSourceKnown c.args.known.now o) c.in-Some-predecessor.is from in
    let e = c.in-None-find.ensures.found among in
    absurd cc
