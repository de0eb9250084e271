use Rattle.std.proofs.Common.{◌≤◌, sym, ap, subst, ◌∙◌}
use Rattle.std.specs.Prelude.{Option, option_map}
use Rattle.fsfs_noderev.specs.declared.node_id.NodeId.{NodeId}
use Rattle.fsfs_revision.specs.Shows.Reading.{DirEntry, offset_of}
use Rattle.fsfs_dag.specs.Listing.Views.{listed}
use Rattle.fsfs_txn.specs.Opened.Knowing.{IsListOf}
use Rattle.fsfs_txn.proofs.opened.opening.lasting_child.Goals as goal

pub returns-in_default : goal.returns-in_default
returns-in_default c = λ look top known within among. let e = c.in_default.ensures.found among in absurd cc

pub returns-in-None : goal.returns-in-None
returns-in-None c = λ look top known within among.
    let k = c.in-Some.one.now in
    let same = c.in-Some.ensures.id in
    let is = c.in-Some.ensures.known look top known (subst (λ (i : NodeId). (offset_of i.place).rev ≤ top) (sym same) within) in
    let all = subst (λ (i : NodeId). IsListOf look i (listed k.entries)) same is.entries in
    (all.entries, all.of, ap (λ (o : Option DirEntry). option_map (λ (e : DirEntry). e.id) o) (c.in-None.ensures ∙ all.alike c.args.name.now))

pub returns-in-Some-get : goal.returns-in-Some-get
returns-in-Some-get c = λ look top known within among.
    let k = c.in-Some.one.now in
    let same = c.in-Some.ensures.id in
    let is = c.in-Some.ensures.known look top known (subst (λ (i : NodeId). (offset_of i.place).rev ≤ top) (sym same) within) in
    let all = subst (λ (i : NodeId). IsListOf look i (listed k.entries)) same is.entries in
    (all.entries, all.of, ap (λ (o : Option DirEntry). option_map (λ (e : DirEntry). e.id) o) (c.in-Some-get.ensures ∙ all.alike c.args.name.now))
