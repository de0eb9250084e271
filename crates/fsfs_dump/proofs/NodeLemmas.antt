-- The node of an item, as its readers answer it.
use Rattle.std.proofs.Common.{◌≡◌, ℕ, ◌≤◌, Bool, true, false, Ok, Err, refl, sym, subst, inr}
use Rattle.std.specs.Prelude.{IfOk, Result}
use Rattle.fsfs_revision.specs.declared.damage.DamageKind.TheVariants as what
use Rattle.fsfs_revision.specs.declared.wrong.ReadError.{ReadError}
use Rattle.fsfs_revision.specs.Damage.Damages.{place_of, damaged}
use Rattle.fsfs_revision.specs.Damage.Readings.{Answers}
use Rattle.fsfs_revision.proofs.Answering.{stops}
use Rattle.fsfs_revision.specs.Told.{RevisionBytes}
use Rattle.fsfs_revision.specs.Shows.Reading.{offset_of, OfId, Stands, Lacking, Blocked, MetAt}
use Rattle.fsfs_noderev.specs.declared.node_id.NodeId.{NodeId}
use Rattle.fsfs_noderev.specs.declared.changes.item.ChangeItem.{ChangeItem}
use Rattle.fsfs_noderev.specs.declared.node_rev.NodeRev.{NodeRev}
use Rattle.fsfs_dag.specs.declared.node.PlacedNode.{PlacedNode}
use Rattle.fsfs_dag.specs.declared.walk.Met.{Met}
use Rattle.fsfs_dag.specs.declared.walk.Met.TheVariants as mets
use Rattle.fsfs_dag.specs.Views.{met_value, home_of}
use Rattle.fsfs_look.proofs.BelowHome.{stands_within}
use Rattle.fsfs_dump.specs.Readings.{NodeMet, NodeBy}

abbrev pub node_value : PlacedNode → NodeRev
node_value found = found.node

module _ (look : RevisionBytes) (rev : ℕ) (item : ChangeItem) (read : Result Met ReadError) (told : Answers met_value (MetAt look rev item.path) read) where
  of_met : (met : Met) → read ≡ Ok met → MetAt look rev item.path (Ok (met_value met))
  of_met met is = subst (λ (r : Result Met ReadError). Answers met_value (MetAt look rev item.path) r) is told

  stands_there : (met : Met) (found : PlacedNode) → read ≡ Ok met → met ≡ mets.Node found → MetAt look rev item.path (Ok (Stands found.node))
  stands_there met found is e = subst (λ (m : Met). MetAt look rev item.path (Ok (met_value m))) e (of_met met is)

  pub node_met : (met : Met) (found : PlacedNode) → read ≡ Ok met → met ≡ mets.Node found → NodeBy look rev item false (Ok found.node)
  node_met met found is e = (Stands found.node, stands_there met found is e, refl)

  pub node_within : (met : Met) (found : PlacedNode) → read ≡ Ok met → met ≡ mets.Node found → (home_of found.node).rev ≤ rev
  node_within met found is e = stands_within look rev item.path found.node (stands_there met found is e)

  pub nothing_met : (met : Met) (names : ℕ) → read ≡ Ok met → met ≡ mets.Absent names → NodeBy look rev item false (Err (damaged (place_of rev 0) what.ChangePath))
  nothing_met met names is e = inr (Lacking names, subst (λ (m : Met). MetAt look rev item.path (Ok (met_value m))) e (of_met met is), refl)

  pub file_met : (met : Met) (names : ℕ) → read ≡ Ok met → met ≡ mets.File names → NodeBy look rev item false (Err (damaged (place_of rev 0) what.ChangePath))
  file_met met names is e = inr (Blocked names, subst (λ (m : Met). MetAt look rev item.path (Ok (met_value m))) e (of_met met is), refl)

  pub unmet : (e : ReadError) → read ≡ Err e → Answers node_value (NodeBy look rev item false) (Err e)
  unmet e is = stops met_value node_value e (MetAt look rev item.path) (NodeMet rev) (subst (λ (r : Result Met ReadError). Answers met_value (MetAt look rev item.path) r) is told)

-- by whether the revision could name its id
pub named_as : (look : RevisionBytes) (rev : ℕ) (item : ChangeItem) (named : Bool) (result : Result PlacedNode ReadError) → named ≡ true → Answers node_value (OfId look item.id) result → Answers node_value (NodeBy look rev item named) result
named_as look rev item named result e h = subst (λ (b : Bool). Answers node_value (NodeBy look rev item b) result) (sym e) h

pub there_as : (look : RevisionBytes) (rev : ℕ) (item : ChangeItem) (named : Bool) (result : Result PlacedNode ReadError) → named ≡ false → Answers node_value (NodeBy look rev item false) result → Answers node_value (NodeBy look rev item named) result
there_as look rev item named result e h = subst (λ (b : Bool). Answers node_value (NodeBy look rev item b) result) (sym e) h

pub id_within : (rev : ℕ) (id : NodeId) (result : Result PlacedNode ReadError) → (offset_of id.place).rev ≤ rev → IfOk result (λ found. found.node.id ≡ id) → IfOk result (λ found. (home_of found.node).rev ≤ rev)
id_within rev id (Ok found) le is = subst (λ (i : NodeId). (offset_of i.place).rev ≤ rev) (sym is) le
id_within rev id (Err e) le is = tt
