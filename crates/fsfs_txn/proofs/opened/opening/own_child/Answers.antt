use Rattle.std.proofs.Common.{List, [], Ok, refl, sym, ap, subst, ◌∙◌}
use Rattle.std.specs.Prelude.{Option, option_map}
use Rattle.fsfs_noderev.specs.declared.node_id.NodeId.{NodeId}
use Rattle.fsfs_revision.specs.Shows.Reading.{DirEntry}
use Rattle.fsfs_draft.specs.Entries.{OfPredecessor, OfListed}
use Rattle.fsfs_txn.proofs.opened.opening.own_child.Goals as goal

pub returns-in_default : goal.returns-in_default
returns-in_default c = λ look top known within source.
    let none = c.in_default.ensures.none source in (
      [],
      subst (λ (o : Option (List DirEntry)). OfListed look o c.args.kept.now.node.predecessor (Ok [])) (sym none.0) (subst (λ (o : Option NodeId). OfPredecessor look o (Ok [])) (sym none.1) refl),
      refl,
    )

pub returns-in-None : goal.returns-in-None
returns-in-None c = λ look top known within source.
    let t = c.in-Some.ensures.told look top known within in
    (t.entries, t.of, ap (λ (o : Option DirEntry). option_map (λ (e : DirEntry). e.id) o) (c.in-None.ensures ∙ t.alike c.args.name.now))

pub returns-in-Some-get : goal.returns-in-Some-get
returns-in-Some-get c = λ look top known within source.
    let t = c.in-Some.ensures.told look top known within in
    (t.entries, t.of, ap (λ (o : Option DirEntry). option_map (λ (e : DirEntry). e.id) o) (c.in-Some-get.ensures ∙ t.alike c.args.name.now))
