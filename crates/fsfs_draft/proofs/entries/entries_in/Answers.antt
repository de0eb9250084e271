use Rattle.std.proofs.Common.{◌≤◌, Option, subst, ap, arith}
use Rattle.std.specs.Prelude.{option_map}
use Rattle.fsfs_noderev.specs.declared.node_id.NodeId.{NodeId}
use Rattle.fsfs_revision.specs.Shows.Reading.{offset_of}
use Rattle.fsfs_dag.specs.declared.listing.entries.Listing.{Listing}
use Rattle.fsfs_dag.specs.Listing.Views.{listed}
use Rattle.fsfs_draft.specs.Entries.{IsWithin}
use Rattle.fsfs_draft.specs.Views.{kept_value}
use Rattle.fsfs_draft.proofs.Readings.{kept_reads}
use Rattle.fsfs_draft.proofs.entries.entries_in.Goals as goal

pub returns-in-Some-predecessor-clause-told : goal.returns-in-Some-predecessor-clause-told
returns-in-Some-predecessor-clause-told g c = λ look top knows within.
    let id = c.in-Some-predecessor.id in
    let le : (offset_of id.place).rev ≤ top = subst (λ (o : Option NodeId). IsWithin top o) c.in-Some-predecessor.is within in
    kept_reads look (kept_value c.args.kept.now) id c.lasting_entries.result (ap (λ (o : Option Listing). option_map listed o) c.in-None.is) c.in-Some-predecessor.is
    (c.lasting_entries.ensures.told look (λ r h. knows r (omega (arith, h, le))))
