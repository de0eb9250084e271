-- What the predecessor of a directory names, by its list.
use Rattle.std.proofs.Common.{◌≡◌, ◌≤◌, ◌<◌, ℕ, List, refl, sym, ap, subst, ◌∙◌, inl, inr}
use Rattle.std.specs.Prelude.{Option, Some, None, Ok}
use Rattle.fsfs_base.specs.Paths.{PathName, Path}
use Rattle.fsfs_base.specs.declared.kind.Kind.TheVariants.{Dir}
use Rattle.fsfs_noderev.specs.declared.node_id.NodeId.{NodeId}
use Rattle.fsfs_noderev.specs.declared.node_rev.NodeRev.{NodeRev}
use Rattle.fsfs_revision.specs.Told.{RevisionBytes}
use Rattle.fsfs_revision.specs.declared.wrong.Wrong.{Wrong}
use Rattle.fsfs_revision.specs.Shows.Reading.{DirEntry, EntriesOf, OfId, OfEntry, OfNamed, ChildOf, StandsAt, named}
use Rattle.fsfs_revision.specs.Shows.Chains.{own_rev, IsPred}
use Rattle.fsfs_revision.specs.Shows.IdRules.{IsChild}
use Rattle.fsfs_revision.proofs.Walks.{child_stands}
use Rattle.fsfs_history.specs.declared.entries_by_name.EntriesByName.{EntriesByName}
use Rattle.fsfs_history.specs.KeptDirs.{by_name}
use Rattle.fsfs_verify.specs.Edges.{IsSameTarget, IsWrongOlder, GoesOnFromEntry}
use Rattle.fsfs_verify.specs.Walks.{IsListBefore}
use Rattle.fsfs_verify.proofs.Damages.{entry_damaged}
use Rattle.fsfs_verify.proofs.EdgeLemmas.{goes_on_some}
use Rattle.fsfs_sound.specs.Damaged.{IsDamaged, Rule, Older}
use Rattle.fsfs_sound.specs.Written.{rev_of_id}
use Rattle.fsfs_sound.proofs.Standing.{child_entry}

module _ (look : RevisionBytes) where
  pub of_entry : (entry : DirEntry) (v : NodeRev) → OfEntry look entry (Ok v) → (v.id ≡ entry.id) × (v.kind ≡ entry.kind)
  of_entry entry v of =
      let read : OfId look entry.id (Ok of.0) = of.1 in
      (ap (λ (x : NodeRev). x.id) of.2.0 ∙ ap (λ (x : NodeRev). x.id) read.2.0 ∙ read.2.1, ap (λ (x : NodeRev). x.kind) of.2.0 ∙ of.2.1)

  -- what stood under the name in the predecessor of a directory is in its list
  pub was_there : (dir : NodeRev) (found : EntriesByName) → IsListBefore look dir found → (name : PathName) (u v : NodeRev) → IsPred look dir u → ChildOf look u name (Ok (Some v))
      → (before : DirEntry) × (by_name found name ≡ Some before) × (before.id ≡ v.id) × (before.kind ≡ v.kind)
  was_there dir found list name u v pred child =
      let e = child_entry look u v name child in
      let is = of_entry e.0 v e.2 in
      (e.0, (list name e.0).1 (u, pred, e.1), sym is.0, sym is.1)

  -- and so it goes on from there
  pub went_on : (before : Option DirEntry) (dir v w : NodeRev) → IsPred look v w → (there : (e : DirEntry) × (before ≡ Some e) × (e.id ≡ w.id) × (e.kind ≡ w.kind)) → GoesOnFromEntry before v
  went_on before dir v w pred there =
      let of : OfId look pred.0 (Ok w) = pred.2 in
      let id_is : w.id ≡ pred.0 = ap (λ (x : NodeRev). x.id) of.2.0 ∙ of.2.1 in
      subst (λ (o : Option DirEntry). GoesOnFromEntry o v) (sym there.1) (goes_on_some there.0 v pred.0 pred.1 (there.2 ∙ id_is))

  module _ (props : RevisionBytes) (r s : ℕ) (le : s ≤ r) (p : Path) (dir : NodeRev) (at : StandsAt look s p dir) (is_dir : dir.kind ≡ Dir) where
    -- an entry of an earlier revision that is wrong
    pub older_damaged : (name : PathName) (entries : List DirEntry) (entry : DirEntry) → EntriesOf look dir (Ok entries) → named name entries ≡ Some entry → (found : EntriesByName) → IsListBefore look dir found
        → rev_of_id entry.id < own_rev dir → (w : Wrong) → IsWrongOlder look entry (by_name found name) w → IsDamaged look props r w
    older_damaged name entries entry list is found had older w (inl read) = entry_damaged look props r s le p dir at is_dir name entries entry list is w read
    older_damaged name entries entry list is found had older w (inr h) =
        let v = h.0 in
        let same = of_entry entry v h.1 in
        let child : ChildOf look dir name (Ok (Some v)) = (entries, list, subst (λ (o : Option DirEntry). OfNamed look o (Ok (Some v))) (sym is) h.1) in
        let there : IsChild look r s p name dir v = record { up_to = le; above = at; there = child_stands look s dir v p name at is_dir child } in
        let less : own_rev v < own_rev dir = subst (λ (id : NodeId). rev_of_id id < own_rev dir) (sym same.0) older in
        subst (λ (x : Wrong). IsDamaged look props r x) (sym h.3) (Rule v (Older s p name dir there less (λ b. (
        let e = was_there dir found had name b.0 v b.1 b.2 in
        h.2 (subst (λ (o : Option DirEntry). IsSameTarget entry o) (sym e.1) (e.2 ∙ same.0, e.3 ∙ same.1))))))
