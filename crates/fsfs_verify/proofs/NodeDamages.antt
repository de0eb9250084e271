-- What is wrong with a root, with a node-revision by itself, or with the next entry of a walk, is damage of the revision.
use Rattle.std.proofs.Common.{◌≡◌, ◌≤◌, ◌<◌, ◌⊎◌, ◌++◌, ℕ, zero, suc, List, [], ◌∷◌, refl, sym, ap, subst, ◌∙◌, inl, inr, arith}
use Rattle.std.specs.Prelude.{◌≢◌, Contains, Option, Some, None, Ok, Err}
use Rattle.fsfs_base.specs.Paths.{PathName, Path}
use Rattle.fsfs_base.specs.declared.kind.Kind.TheVariants.{File, Dir}
use Rattle.fsfs_noderev.specs.declared.node_id.NodeId.{NodeId}
use Rattle.fsfs_noderev.specs.declared.node_id.Part.{Part}
use Rattle.fsfs_noderev.specs.declared.node_rev.CopySource.{CopySource}
use Rattle.fsfs_noderev.specs.declared.node_rev.NodeRev.{NodeRev}
use Rattle.fsfs_noderev.specs.declared.rep.Contents.{Contents}
use Rattle.fsfs_revision.specs.Told.{RevisionBytes}
use Rattle.fsfs_revision.specs.declared.damage.DamageKind.TheVariants as what
use Rattle.fsfs_revision.specs.declared.wrong.Wrong.{Wrong}
use Rattle.fsfs_revision.specs.Damage.Damages.{damaged}
use Rattle.fsfs_revision.specs.Shows.Reading.{DirEntry, EntriesOf, RootOf, StandsAt, offset_of}
use Rattle.fsfs_revision.specs.Shows.Chains.{own_rev, copy_root_of}
use Rattle.fsfs_revision.specs.Shows.IdRules.{IsOf}
use Rattle.fsfs_revision.proofs.Earlier.{stands_of_id}
use Rattle.fsfs_revision.proofs.TreeLaw.{root_home}
use Rattle.fsfs_verify.specs.Roots.{IsLastRoot, IsZero, IsWrongFirst, IsWrongBehind, IsWrongRoot}
use Rattle.fsfs_verify.specs.Steps.{IsWrongEntering, IsWrongContents, IsWrongNode, Beginning, Copying, WithProps, WithContents}
use Rattle.fsfs_verify.specs.Walks.{AreMet}
use Rattle.fsfs_verify.proofs.Damages.{props_damaged, list_damaged, entries_damaged}
use Rattle.fsfs_verify.proofs.Decisions.{number_or, id_or, root_or}
use Rattle.fsfs_verify.proofs.EarlierPreds.{source_earlier, id_ordered}
use Rattle.fsfs_verify.proofs.PartDamages.{text_damaged, begin_breaks, copy_damaged}
use Rattle.fsfs_sound.specs.Damaged.{BreaksRule, RootId, RootCopy, RootNext, RootRoot, First, Alone, IsDamaged, Rule}
use Rattle.fsfs_sound.specs.Revisions.{AreSoundBefore}
use Rattle.fsfs_sound.specs.Rules.{IsFirstRoot, FollowsRoot}
use Rattle.fsfs_sound.specs.Written.{IsNewAt, Precedes}

-- ---- the root

module _ (look props : RevisionBytes) (r : ℕ) (v : NodeRev) (is_root : RootOf look r (Ok v)) where
  at : StandsAt look r [] v
  at = (v, is_root, refl)

  told : (w : Wrong) → w ≡ damaged (offset_of v.id.place) what.CopyId → BreaksRule look r v → IsDamaged look props r w
  told w same rule = subst (λ (x : Wrong). IsDamaged look props r x) (sym same) (Rule v rule)

  zero_breaks : (IsZero v → ⊥) → BreaksRule look r v
  zero_breaks never = by v.copy_from refl
    where
      by : (o : Option CopySource) → v.copy_from ≡ o → BreaksRule look r v
      by None is = RootId r (omega arith) at (λ t. never (t.0, t.1, is))
      by (Some from) is = RootCopy r (omega arith) at (λ none. (let e = sym is ∙ none in cc))

  -- that of revision 0
  first_breaks : r ≡ 0 → (entries : List DirEntry) → EntriesOf look v (Ok entries) → (IsFirstRoot look v → ⊥) → BreaksRule look r v
  first_breaks zero_is entries read never = by v.predecessor refl v.props refl (number_or (copy_root_of v).0 0) entries read
    where
      first : StandsAt look 0 [] v
      first = subst (λ (n : ℕ). StandsAt look n [] v) zero_is at

      by : (o : Option NodeId) → v.predecessor ≡ o → (p : Option Contents) → v.props ≡ p → ((copy_root_of v).0 ≡ 0) ⊎ ((copy_root_of v).0 ≢ 0) → (es : List DirEntry) → EntriesOf look v (Ok es) → BreaksRule look r v
      by (Some id) is p has root es listed = First first (λ t. (let e = sym is ∙ t.0 in cc))
      by None is (Some c) has root es listed = First first (λ t. (let e = sym has ∙ t.1 in cc))
      by None is None has (inr other) es listed = First first (λ t. other t.2)
      by None is None has (inl same) [] listed = absurd (never (record { pred = is; props = has; copied = same; empty = listed }))
      by None is None has (inl same) (e ∷ es) listed = Alone e es first listed

  -- that of a later one
  next_breaks : (last : NodeRev) → IsLastRoot look r (Some last) → (FollowsRoot v last → ⊥) → BreaksRule look r v
  next_breaks last is never = by v.predecessor refl (root_or (copy_root_of v) (copy_root_of last))
    where
      le : suc is.0 ≤ r
      le = let same = is.1 in omega (arith, same)

      here : StandsAt look (suc is.0) [] v
      here = subst (λ (n : ℕ). StandsAt look n [] v) is.1 at

      there : StandsAt look is.0 [] last
      there = (last, is.2, refl)

      follows : (id : NodeId) → v.predecessor ≡ Some id → (copy_root_of v ≡ copy_root_of last) ⊎ (copy_root_of v ≢ copy_root_of last) → (id ≡ last.id) ⊎ (id ≢ last.id) → BreaksRule look r v
      follows id pred root (inr other) = RootNext is.0 last le here there (λ e. other (let f : (let o : Option NodeId = Some id in o) ≡ Some last.id = sym pred ∙ e in (let g : id ≡ last.id = cc in g)))
      follows id pred (inr other) (inl same) = RootRoot is.0 last le here there other
      follows id pred (inl root) (inl same) = absurd (never (record { pred = pred ∙ ap (λ (i : NodeId). let o : Option NodeId = Some i in o) same; root = root }))

      by : (o : Option NodeId) → v.predecessor ≡ o → (copy_root_of v ≡ copy_root_of last) ⊎ (copy_root_of v ≢ copy_root_of last) → BreaksRule look r v
      by None none root = RootNext is.0 last le here there (λ e. (let f = sym none ∙ e in cc))
      by (Some id) pred root = follows id pred root (id_or id last.id)

  pub root_damaged : (last : Option NodeRev) → IsLastRoot look r last → (w : Wrong) → IsWrongRoot look v last w → IsDamaged look props r w
  root_damaged last is w (inl wrong) = told w wrong.1 (zero_breaks wrong.0)
  root_damaged None is w (inr (inl read)) = entries_damaged look props r r (omega arith) [] v at (root_home look r v is_root).2 w read
  root_damaged None is w (inr (inr wrong)) = told w wrong.3 (first_breaks is wrong.0 wrong.1 wrong.2)
  root_damaged (Some last) is w (inr wrong) = told w wrong.1 (next_breaks last is wrong.0)

-- ---- a node-revision by itself

module _ (look props : RevisionBytes) (r : ℕ) (sound : AreSoundBefore look props r) (begun copied drawn : List Part) (done : List NodeRev) (met : AreMet look r begun copied drawn done)
    (stands : (u : NodeRev) → Contains done u → (q : Path) × IsNewAt look r q u) (p : Path) (v : NodeRev) (new : IsNewAt look r p v) (fresh : Contains done v → ⊥) (pred : Option NodeRev) (precedes : Precedes look v pred) where
  of : IsOf look r v
  of = (r, p, omega arith, new.stands)

  source_le : (from : CopySource) → v.copy_from ≡ Some from → from.rev ≤ r
  source_le from is =
      let own = new.own in
      let less = source_earlier v from (id_ordered look v (stands_of_id look r p v new.stands)) is in
      omega (arith, own, less)

  entering_damaged : v.kind ≡ Dir → (w : Wrong) → IsWrongEntering look v pred w → IsDamaged look props r w
  entering_damaged kind w (inl list) = list_damaged look props r v pred of kind precedes w list
  entering_damaged kind w (inr read) = entries_damaged look props r r (omega arith) p v new.stands kind w read

  contents_damaged : (w : Wrong) → IsWrongContents look v pred w → IsDamaged look props r w
  contents_damaged w (inl h) = text_damaged look props r v of h.0 w h.1
  contents_damaged w (inr h) = entering_damaged h.0 w h.1

  pub node_damaged : (w : Wrong) → IsWrongNode look r begun copied drawn v pred w → IsDamaged look props r w
  node_damaged w (Beginning h) = subst (λ (x : Wrong). IsDamaged look props r x) (sym h.2) (Rule v (begin_breaks look props r begun copied drawn done met stands p v new fresh h.0 h.1))
  node_damaged w (Copying h) = copy_damaged look props r begun copied drawn done met stands p v new sound h.0 h.1 fresh (source_le h.0 h.1) w h.2
  node_damaged w (WithProps h) = props_damaged look props r v of w h
  node_damaged w (WithContents h) = contents_damaged w h
