-- The properties of a draft's node-revision stand in an earlier revision, if not in a file of their own.
use Rattle.std.proofs.Common.{◌≡◌, ◌∙◌, ◌<◌, ℕ, suc, true, Option, Some, None, refl, sym, subst, arith, inl, inr, ◌⊎◌}
use Rattle.std.proofs.lemmas.Bool.Decides.{nat_tests}
use mathlib.Core.Bool.{false≢true}
use Rattle.fsfs_base.specs.Paths.{Path}
use Rattle.fsfs_revision.specs.Told.{RevisionBytes}
use Rattle.fsfs_revision.specs.declared.damage.RevOffset.{RevOffset}
use Rattle.fsfs_noderev.specs.declared.node_id.NodeId.{NodeId}
use Rattle.fsfs_noderev.specs.declared.rep.Contents.{Contents}
use Rattle.fsfs_noderev.specs.declared.rep.Contents.TheVariants as contents
use Rattle.fsfs_noderev.specs.declared.node_rev.NodeRev.{NodeRev}
use Rattle.fsfs_revision.specs.Nodes.{is_before, rep_before, rep_place_before}
use Rattle.fsfs_revision.specs.Shows.Reading.{offset_of}
use Rattle.fsfs_revision.proofs.TreeLaw.{stands_home}
use Rattle.fsfs_draft.specs.OwnSides.{NodesAt}
use Rattle.fsfs_draft.specs.NodeDrafts.{IsOwn, IsDraft}
use Rattle.fsfs_final.proofs.OrderLaw.{pred_or}
use Rattle.fsfs_final.proofs.Stays.{ready}

abbrev pub HasPropsBefore : ℕ → Option Contents → Type 0
HasPropsBefore n None = Unit {0}
HasPropsBefore n (Some contents.Own) = Unit {0}
HasPropsBefore n (Some (contents.At rep)) = (rev : ℕ) × (rep.rev ≡ Some rev) × (rev < n)

lower : (n r offset : ℕ) (at : RevOffset) → is_before r offset at ≡ true → at.rev < n → r < n
lower n r offset at h lt = grind (arith, nat_tests)

pub before_rev : (n : ℕ) (at : RevOffset) (c : Option Contents) → rep_before at c ≡ true → at.rev < n → HasPropsBefore n c
before_rev n at None h lt = tt
before_rev n at (Some contents.Own) h lt = tt
before_rev n at (Some (contents.At rep)) h lt = by rep.rev refl h
  where
    by : (o : Option ℕ) → rep.rev ≡ o → rep_place_before at o rep.offset ≡ true → (rev : ℕ) × (rep.rev ≡ Some rev) × (rev < n)
    by None is h = absurd (false≢true h)
    by (Some r) is h = (r, is, lower n r rep.offset at h lt)

pub props_before : (look : RevisionBytes) (top : ℕ) (own : NodesAt) (p : Path) (u : NodeRev) → IsDraft look top top own → own p ≡ Some u → IsOwn u → HasPropsBefore (suc top) u.props
props_before look top own p u draft here mine = elim (pred_or u.predecessor) [
  | inl none ↦ elim (draft.no_props p u here mine none) [
    | inl set ↦ subst (λ (c : Option Contents). HasPropsBefore (suc top) c) (sym set) tt
    | inr lacking ↦ subst (λ (c : Option Contents). HasPropsBefore (suc top) c) (sym lacking) tt
  ]
  | inr id ↦
      let r = ready look top top own (omega arith) draft p u here mine (λ none. (let f = sym none ∙ id.1 in cc)) in
      let home = stands_home look r.2.0 r.2.1 r.0 r.2.3 in
      elim (draft.props p u r.0 here mine r.1) [
        | inl set ↦ subst (λ (c : Option Contents). HasPropsBefore (suc top) c) (sym set) tt
        | inr same ↦ subst (λ (c : Option Contents). HasPropsBefore (suc top) c) (sym same) (before_rev (suc top) (offset_of r.0.id.place) r.0.props home.0.props (omega (arith, home.1, r.2.2)))
      ]
]
