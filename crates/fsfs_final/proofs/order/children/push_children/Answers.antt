use Rattle.std.proofs.Common.{◌≡◌, ◌∙◌, List, Option, sym, ap, subst}
use Rattle.std.specs.Prelude.{option_map}
use Rattle.fsfs_dag.specs.declared.directory.DirEntry.{DirEntry as Listed}
use Rattle.fsfs_dag.specs.Views.{entry_values}
use Rattle.fsfs_dag.specs.declared.listing.entries.Listing.{Listing}
use Rattle.fsfs_dag.specs.Listing.Views.{listed}
use Rattle.fsfs_revision.specs.Shows.Reading.{DirEntry}
use Rattle.fsfs_final.specs.Order.Orders.{last_first}
use Rattle.fsfs_base.specs.Paths.{PathName}
use Rattle.fsfs_final.specs.Order.Children.{id_named, own_of, own_named, ids_in, ArePushed}
use Rattle.fsfs_final.proofs.Pushing.{no_children, own_pushed, own_lacks, on_ok, if_lacks}
use Rattle.fsfs_final.proofs.order.children.push_children.Goals as goal

abbrev values : Option Listing → Option (List DirEntry)
values o = option_map listed o

pub returns-in-None-clause-pushed : goal.returns-in-None-clause-pushed
returns-in-None-clause-pushed g c =
    subst (λ (o : Option (List DirEntry)). ArePushed (g.N.Own.folder c.args.own.now).nodes (id_named o) (last_first c.args.next.now.items) (last_first c.args.next.now.items)) (sym (ap values c.in-None.is))
    (no_children (g.N.Own.folder c.args.own.now).nodes (last_first c.args.next.now.items))

pub returns-in_ok-ids-in-Some-clause-pushed : goal.returns-in_ok-ids-in-Some-clause-pushed
returns-in_ok-ids-in-Some-clause-pushed g c =
    let all = id_named (values c.args.dir.now.entries) in
    let same : (name : PathName) → ids_in c.in_ok-ids-in-Some.ids name ≡ own_of (all name) = λ name.
    c.in_ok-ids-in-Some.ensures name ∙ ap (λ (l : List Listed). own_named (entry_values l) name) c.as_slice.ensures.value ∙ ap (λ (l : List DirEntry). own_named l name) c.in_ok-all-in-Some.ensures ∙ ap (λ (o : Option (List DirEntry)). own_of (id_named o name)) (sym (ap values c.in-Some.is)) in
    let files = (g.N.Own.folder c.args.own.now).nodes in
    on_ok c.push_named.result _ _ (own_pushed files (ids_in c.in_ok-ids-in-Some.ids) all same (last_first c.args.next.now.items) (last_first c.push_named.new.next.items)) c.push_named.ensures.pushed

pub returns-in_ok-ids-in-Some-clause-lacking : goal.returns-in_ok-ids-in-Some-clause-lacking
returns-in_ok-ids-in-Some-clause-lacking g c =
    let all = id_named (values c.args.dir.now.entries) in
    let same : (name : PathName) → ids_in c.in_ok-ids-in-Some.ids name ≡ own_of (all name) = λ name.
    c.in_ok-ids-in-Some.ensures name ∙ ap (λ (l : List Listed). own_named (entry_values l) name) c.as_slice.ensures.value ∙ ap (λ (l : List DirEntry). own_named l name) c.in_ok-all-in-Some.ensures ∙ ap (λ (o : Option (List DirEntry)). own_of (id_named o name)) (sym (ap values c.in-Some.is)) in
    let files = (g.N.Own.folder c.args.own.now).nodes in
    if_lacks c.push_named.result _ _ (own_lacks files (ids_in c.in_ok-ids-in-Some.ids) all same) c.push_named.ensures.lacking
