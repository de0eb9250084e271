use Rattle.std.proofs.Common.{◌≡◌, ◌≤◌, Option, sym, subst, ap, refl}
use Rattle.std.specs.Prelude.{IfSome, option_map}
use Rattle.fsfs_dag.specs.declared.listing.entries.Listing.{Listing}
use Rattle.fsfs_dag.specs.Listing.Views.{listed}
use Rattle.fsfs_noderev.specs.declared.node_id.NodeId.{NodeId}
use Rattle.fsfs_revision.specs.Shows.Reading.{offset_of}
use Rattle.fsfs_draft.specs.Entries.{IsWithin}
use Rattle.fsfs_draft.specs.Views.{kept_value}
use Rattle.fsfs_draft.proofs.Readings.{listed_own, predecessor_list}
use Rattle.fsfs_txn.specs.Opened.Knowing.{IsListOf}
use Rattle.fsfs_txn.specs.Opened.Leading.{IsAmong, IsSourceKnown}
use Rattle.fsfs_txn.proofs.opened.reaching.listed_known.Goals as goal

pub returns-in-Some-clause-told : goal.returns-in-Some-clause-told
returns-in-Some-clause-told c = λ look top known within. listed_own look (kept_value c.args.kept.now) (listed c.in-Some.entries) (listed c.in-Some.entries) (ap (λ (o : Option Listing). option_map listed o) c.in-Some.is) refl

pub returns-in-Some-find-clause-told : goal.returns-in-Some-find-clause-told
returns-in-Some-find-clause-told c = λ look top known within.
    let id = c.in-Some-predecessor.id in
    let k = c.in-Some-find.one.now in
    let le : (offset_of id.place).rev ≤ top = subst (λ (o : Option NodeId). IsWithin top o) c.in-Some-predecessor.is within in
    let same = c.in-Some-find.ensures.id in
    let is = c.in-Some-find.ensures.known look top known (subst (λ (i : NodeId). (offset_of i.place).rev ≤ top) (sym same) le) in
    let all = subst (λ (i : NodeId). IsListOf look i (listed k.entries)) same is.entries in
    record {
      entries = all.entries;
      of = predecessor_list look (kept_value c.args.kept.now) id all.entries (ap (λ (o : Option Listing). option_map listed o) c.in-None.is) c.in-Some-predecessor.is all.of;
      alike = all.alike;
    }

pub returns-in-Some-clause-own : goal.returns-in-Some-clause-own
returns-in-Some-clause-own c = subst (λ (o : Option Listing). IfSome (option_map listed o) (λ entries. listed c.in-Some.entries ≡ entries)) (sym c.in-Some.is) refl

pub returns-in-Some-find-clause-own : goal.returns-in-Some-find-clause-own
returns-in-Some-find-clause-own c = subst (λ (o : Option Listing). IfSome (option_map listed o) (λ entries. listed c.in-Some-find.one.now.entries ≡ entries)) (sym c.in-None.is) tt

pub returns-in-None-predecessor-clause-none : goal.returns-in-None-predecessor-clause-none
returns-in-None-predecessor-clause-none c = λ source. (ap (λ (o : Option Listing). option_map listed o) c.in-None.is, c.in-None-predecessor.is)

pub returns-in-None-find-clause-none : goal.returns-in-None-find-clause-none
returns-in-None-find-clause-none c = λ source.
    let among : IsAmong c.in-Some-predecessor.id c.args.known.now = subst (λ (o : Option NodeId). IsSourceKnown c.args.known.now o) c.in-Some-predecessor.is (source (ap (λ (o : Option Listing). option_map listed o) c.in-None.is)) in
    let e = c.in-None-find.ensures.found among in
    absurd cc
