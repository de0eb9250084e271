use Rattle.std.proofs.Common.{◌≡◌, false, Some, sym, ap, subst, ◌∙◌}
use Rattle.fsfs_revision.specs.Nodes.{is_revision_id}
use Rattle.fsfs_txn.proofs.Following.{own_id}
use Rattle.fsfs_txn.proofs.Leaving.{own_has_dir}
use Rattle.fsfs_noderev.specs.declared.node_id.NodeId.{NodeId}
use Rattle.fsfs_base.specs.declared.kind.Kind.TheVariants.{Dir}
use Rattle.fsfs_base.proofs.ResultLemmas.{not_none}
use Rattle.fsfs_draft.specs.Drafts.{Kept, kept_of}
use Rattle.fsfs_draft.specs.Steps.{kept_at}
use Rattle.fsfs_draft.specs.Views.{kept_value}
use Rattle.fsfs_txn.proofs.opened.reaching.child_at.Goals as goal

pub returns-in-Dir-clause-draft : goal.returns-in-Dir-clause-draft
returns-in-Dir-clause-draft g c = λ look trees top base nodes p d known shown le draft here same.
    let both : Some (kept_value c.in-Some.kept.now) ≡ Some (kept_of d) = c.in-Some.ensures ∙ ap (λ (i : NodeId). kept_at (g.N.Own.folder c.args.own.now).nodes i) (sym same) ∙ draft.kept p d here in
    let one : kept_value c.in-Some.kept.now ≡ kept_of d = cc in
    let dir : d.node.kind ≡ Dir = sym (ap (λ (k : Kept). k.node.kind) one) ∙ c.in-Dir.is in
    c.child_in.ensures.draft look trees top base nodes p d known shown le draft here same dir

pub returns-in-Dir-clause-leads : goal.returns-in-Dir-clause-leads
returns-in-Dir-clause-leads g c = λ look trees top base nodes p d known shown le draft here same.
    let both : Some (kept_value c.in-Some.kept.now) ≡ Some (kept_of d) = c.in-Some.ensures ∙ ap (λ (i : NodeId). kept_at (g.N.Own.folder c.args.own.now).nodes i) (sym same) ∙ draft.kept p d here in
    let one : kept_value c.in-Some.kept.now ≡ kept_of d = cc in
    let dir : d.node.kind ≡ Dir = sym (ap (λ (k : Kept). k.node.kind) one) ∙ c.in-Dir.is in
    c.child_in.ensures.leads look trees top base nodes p d known shown le draft here same dir

pub returns-in-Dir-clause-still : goal.returns-in-Dir-clause-still
returns-in-Dir-clause-still g c = λ look trees top base nodes p d known shown le draft here same.
    let both : Some (kept_value c.in-Some.kept.now) ≡ Some (kept_of d) = c.in-Some.ensures ∙ ap (λ (i : NodeId). kept_at (g.N.Own.folder c.args.own.now).nodes i) (sym same) ∙ draft.kept p d here in
    let one : kept_value c.in-Some.kept.now ≡ kept_of d = cc in
    let dir : d.node.kind ≡ Dir = sym (ap (λ (k : Kept). k.node.kind) one) ∙ c.in-Dir.is in
    c.child_in.ensures.still look trees top base nodes p d known shown le draft here same dir

pub returns-in_default-clause-leads : goal.returns-in_default-clause-leads
returns-in_default-clause-leads g c = λ look trees top base nodes p d known shown le draft here same rest leads.
    let there : kept_at (g.N.Own.folder c.args.own.now).nodes c.args.dir.now ≡ Some (kept_of d) = ap (λ (i : NodeId). kept_at (g.N.Own.folder c.args.own.now).nodes i) (sym same) ∙ draft.kept p d here in
    not_none _ (kept_of d) there (sym c.in_default.ensures)

pub returns-in-File-clause-leads : goal.returns-in-File-clause-leads
returns-in-File-clause-leads g c = λ look trees top base nodes p d known shown le draft here same rest leads.
    let f = g.N.Own.folder c.args.own.now in
    let own = subst (λ (i : NodeId). is_revision_id i ≡ false) same (own_id d.node.id (g.N.Own.txn c.args.own.now) (draft.places p d here)) in
    let dir = own_has_dir look f.nodes c.args.known.now c.args.dir.now (kept_value c.in-Some.kept.now) leads.0 own (sym c.in-Some.ensures) leads.2 in
    let e = sym dir ∙ c.in-File.is in
    absurd cc
