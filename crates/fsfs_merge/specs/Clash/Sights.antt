-- What a merge sees at a path, of the node-revisions that stand there.
use Rattle.std.specs.Prelude.{ℕ, Bool, false, ◌&&◌, not, nat_le, Option, Some, None, is_some}
use Rattle.fsfs_base.specs.Paths.{Path}
use Rattle.fsfs_model.specs.Flat.Edits.{is_dir}
use Rattle.fsfs_noderev.specs.declared.node_rev.NodeRev.{NodeRev}
use Rattle.fsfs_revision.specs.Shows.Chains.{copy_root_of}
use Rattle.fsfs_dag.specs.Same.{same_part, same_id}
use Rattle.fsfs_draft.specs.OwnSides.{NodesAt, is_own_copy}
use Rattle.fsfs_merge.specs.declared.sight.Sight.{Sight}
use Rattle.fsfs_merge.specs.declared.clash.facts.Facts.{Facts}
use Rattle.fsfs_merge.specs.Clash.Same.{same_contents}

-- ---- three node-revisions; of the transaction's no more than this is asked

abbrev pub facts_of : NodeRev → Facts
facts_of v = record { kind = v.kind; node = v.id.node; is_copy = is_own_copy v; props = v.props }

-- three directories of one node; the head's copy root is of a revision not above the base, and the transaction's is not of the transaction
abbrev pub go_with : ℕ → NodeRev → NodeRev → Facts → Bool
go_with b x y own = (is_dir x.kind && is_dir y.kind && is_dir own.kind) && same_part x.id.node y.id.node && same_part x.id.node own.node && nat_le (copy_root_of y).0 b && not own.is_copy

abbrev pub have_props_of : NodeRev → NodeRev → Facts → Bool
have_props_of x y own = same_contents x.props y.props && same_contents x.props own.props

-- the merge goes below them
abbrev pub merge_with : ℕ → NodeRev → NodeRev → Facts → Bool
merge_with b x y own = go_with b x y own && have_props_of x y own

-- ---- what may stand at a path

abbrev pub same_ids : Option NodeRev → Option NodeRev → Bool
same_ids None y = false
same_ids (Some x) None = false
same_ids (Some x) (Some y) = same_id x.id y.id

abbrev pub go_on : ℕ → NodeRev → NodeRev → NodeRev → Bool
go_on b x y v = go_with b x y (facts_of v)

abbrev pub go_on_in : ℕ → Option NodeRev → Option NodeRev → Option NodeRev → Bool
go_on_in b None y v = false
go_on_in b (Some x) None v = false
go_on_in b (Some x) (Some y) None = false
go_on_in b (Some x) (Some y) (Some v) = go_on b x y v

abbrev pub have_same_props : NodeRev → NodeRev → NodeRev → Bool
have_same_props x y v = have_props_of x y (facts_of v)

abbrev pub same_props_in : Option NodeRev → Option NodeRev → Option NodeRev → Bool
same_props_in None y v = false
same_props_in (Some x) None v = false
same_props_in (Some x) (Some y) None = false
same_props_in (Some x) (Some y) (Some v) = have_same_props x y v

abbrev pub sight : ℕ → Option NodeRev → Option NodeRev → Option NodeRev → Sight
sight b x y v = record {
  in_base = is_some x;
  in_head = is_some y;
  in_own = is_some v;
  head_same = same_ids x y;
  own_same = same_ids x v;
  goes_on = go_on_in b x y v;
  same_props = same_props_in x y v;
}

abbrev pub sights : ℕ → NodesAt → NodesAt → NodesAt → Path → Sight
sights b base head own p = sight b (base p) (head p) (own p)
