use Rattle.std.proofs.Common.{◌≤◌, Option, subst, arith}
use Rattle.fsfs_noderev.specs.declared.node_id.NodeId.{NodeId}
use Rattle.fsfs_revision.specs.Shows.Reading.{offset_of}
use Rattle.fsfs_draft.specs.Entries.{IsWithin}
use Rattle.fsfs_draft.specs.Views.{kept_value}
use Rattle.fsfs_draft.proofs.Readings.{kept_props_read}
use Rattle.fsfs_draft.proofs.properties.properties_in.Goals as goal

pub returns-in-Some-predecessor-clause-told : goal.returns-in-Some-predecessor-clause-told
returns-in-Some-predecessor-clause-told g c = λ look top knows within.
    let id = c.in-Some-predecessor.id in
    let le : (offset_of id.place).rev ≤ top = subst (λ (o : Option NodeId). IsWithin top o) c.in-Some-predecessor.is within in
    kept_props_read look (kept_value c.args.kept.now) id c.properties_of.result c.in-None.is c.in-Some-predecessor.is
    (c.properties_of.ensures.told look (λ r h. knows r (omega (arith, h, le))))
