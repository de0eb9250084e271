-- Kinds of what is met, of what an id names, and of what was taken away.
use Rattle.std.proofs.Common.{◌≡◌, ℕ, suc, ◌≤◌, Bool, true, false, List, ◌++◌, take, drop, Option, Some, None, Result, Ok, Err, refl, sym, ap, subst, ◌∙◌, arith}
use Rattle.std.specs.Prelude.{nat_le}
use Rattle.std.proofs.lemmas.Bool.{and_parts}
use Rattle.std.proofs.lemmas.Bool.Decides.{nat_tests}
use Rattle.fsfs_base.specs.Paths.{Path}
use Rattle.fsfs_base.specs.declared.kind.Kind.{Kind}
use Rattle.fsfs_revision.specs.declared.wrong.Wrong.{Wrong}
use Rattle.fsfs_revision.specs.declared.wrong.ReadError.{ReadError}
use Rattle.fsfs_revision.specs.declared.wrong.ReadError.TheVariants as errors
use Rattle.fsfs_revision.specs.Damage.Readings.{Answers}
use Rattle.fsfs_revision.proofs.Answering.{stops}
use Rattle.fsfs_revision.specs.Told.{RevisionBytes}
use Rattle.fsfs_noderev.specs.declared.node_id.NodeId.{NodeId}
use Rattle.fsfs_noderev.specs.declared.node_rev.NodeRev.{NodeRev}
use Rattle.fsfs_noderev.specs.declared.changes.item.ChangeItem.{ChangeItem}
use Rattle.fsfs_revision.specs.Nodes.{is_revision_id}
use Rattle.fsfs_revision.specs.Shows.Reading.{offset_of, MetAt, OfId}
use Rattle.fsfs_dag.specs.declared.node.PlacedNode.{PlacedNode}
use Rattle.fsfs_dag.specs.declared.walk.Met.{Met as Rust}
use Rattle.fsfs_dag.specs.Views.{met_value}
use Rattle.fsfs_tree.specs.ChangedTexts.{below_source, nearest_source}
use Rattle.fsfs_stands.specs.ChangedTexts.{kind_met, KindAt, is_nameable, KindUnsaid}

abbrev pub same : Kind → Kind
same kind = kind

module _ (look : RevisionBytes) (rev : ℕ) (p : Path) (absent : Kind) (read : Result Rust ReadError) (told : Answers met_value (MetAt look rev p) read) where
  pub kind_found : (met : Rust) (kind : Kind) → read ≡ Ok met → kind_met absent (met_value met) ≡ kind → KindAt look rev p absent (Ok kind)
  kind_found met kind is e = (met_value met, subst (λ r. Answers met_value (MetAt look rev p) r) is told, ap (λ (k : Kind). let r : Result Kind Wrong = Ok k in r) (sym e))

  pub kind_unmet : (e : ReadError) → read ≡ Err e → Answers same (KindAt look rev p absent) (Err e)
  kind_unmet e is = stops met_value same e (MetAt look rev p) (λ met r. r ≡ Ok (kind_met absent met)) (subst (λ r. Answers met_value (MetAt look rev p) r) is told)

-- the kind of the node-revision of an id
module _ (look : RevisionBytes) (rev : ℕ) (item : ChangeItem) (nameable : Bool) (is : nameable ≡ true) where
  pub named_kind : (u : NodeRev) → OfId look item.id (Ok u) → KindUnsaid look rev item nameable (Ok u.kind)
  named_kind u h = subst (λ (b : Bool). KindUnsaid look rev item b (Ok u.kind)) (sym is) (u, h, refl)

  pub named_fails : (e : ReadError) → Answers (λ (found : PlacedNode). found.node) (OfId look item.id) (Err e) → Answers same (KindUnsaid look rev item nameable) (Err e)
  named_fails e h =
      subst (λ (b : Bool). Answers same (KindUnsaid look rev item b) (Err e)) (sym is) (stops (λ (found : PlacedNode). found.node) same e (OfId look item.id) (λ u r. r ≡ Ok u.kind) h)

-- an id that the revision could name is of no later one
pub nameable_le : (rev : ℕ) (id : NodeId) → is_nameable rev id ≡ true → (offset_of id.place).rev ≤ rev
nameable_le rev id e =
    let two = and_parts (is_revision_id id) (nat_le (offset_of id.place).rev rev) e in
    let le : nat_le (offset_of id.place).rev rev ≡ true = two.1 in
    grind (arith, nat_tests)

-- ---- where what was taken away stood

module _ (S : Path → Option (ℕ × Path)) (p : Path) (d k : ℕ) (is : d ≡ suc k) where
  pub nearest_above : S (take k p) ≡ None → nearest_source S p d ≡ nearest_source S p k
  nearest_above none = ap (nearest_source S p) is ∙ ap (λ (o : Option (ℕ × Path)). below_source o (drop k p) (nearest_source S p k)) none

  pub nearest_here : (from : ℕ × Path) → S (take k p) ≡ Some from → nearest_source S p d ≡ Some (from.0, from.1 ++ drop k p)
  nearest_here from some = ap (nearest_source S p) is ∙ ap (λ (o : Option (ℕ × Path)). below_source o (drop k p) (nearest_source S p k)) some
