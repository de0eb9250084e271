-- What a step finds wrong is damage of the revision.
use Rattle.std.proofs.Common.{◌≡◌, ◌≤◌, ◌⊎◌, ◌+◌, ◌++◌, ℕ, List, [], ◌∷◌, length, sym, subst, inl, inr}
use Rattle.std.specs.Prelude.{◌≢◌, Option, Some, None, Ok, Err}
use Rattle.fsfs_base.specs.Paths.{PathName, Path}
use Rattle.fsfs_base.specs.declared.kind.Kind.TheVariants.{Dir}
use Rattle.fsfs_noderev.specs.declared.node_rev.NodeRev.{NodeRev}
use Rattle.fsfs_revision.specs.Told.{RevisionBytes}
use Rattle.fsfs_revision.specs.declared.wrong.Wrong.{Wrong}
use Rattle.fsfs_revision.specs.Shows.Reading.{DirEntry, EntriesOf, OfEntry, OfNamed, ChildOf, MetFrom, StandsAt, named}
use Rattle.fsfs_revision.specs.Shows.Chains.{own_rev, IsPred, copy_root_of}
use Rattle.fsfs_revision.specs.Shows.IdRules.{IsOf, IsChild, root_after}
use Rattle.fsfs_revision.proofs.Walks.{met_behind, in_dir}
use Rattle.fsfs_verify.specs.Edges.{GoesOnFromEntry, FitsEdge}
use Rattle.fsfs_verify.specs.Preds.{IsWrongPred, IsWrongProps}
use Rattle.fsfs_verify.specs.Walks.{IsWrongList}
use Rattle.fsfs_verify.proofs.Decisions.{root_or}
use Rattle.fsfs_verify.proofs.EdgeLemmas.{root_new, root_next, goes_on_none}
use Rattle.fsfs_sound.specs.Damaged.{BreaksRule, RootOfNew, RootOfNext, GoesOn, Props, IsDamaged, AtPath, Behind, ListBehind, AtProps, Off, Rule}
use Rattle.fsfs_sound.specs.Written.{Precedes}

module _ (look props : RevisionBytes) (r : ℕ) where
  is_so : (w d : Wrong) → w ≡ d → IsDamaged look props r d → IsDamaged look props r w
  is_so w d same h = subst (λ (x : Wrong). IsDamaged look props r x) (sym same) h

  pub pred_damaged : (v : NodeRev) → IsOf look r v → (w : Wrong) → IsWrongPred look v w → IsDamaged look props r w
  pred_damaged v of w (inl broken) = Behind v w of broken
  pred_damaged v of w (inr h) = is_so w _ h.1 (Off v of h.0)

  pub props_damaged : (v : NodeRev) → IsOf look r v → (w : Wrong) → IsWrongProps look v w → IsDamaged look props r w
  props_damaged v of w (inl read) = AtProps v w of read
  props_damaged v of w (inr h) = is_so w _ h.1 (Rule v (let lost = h.0 in Props lost.0 of lost.1 lost.2 lost.3))

  -- the list of the predecessor of a directory
  pub list_damaged : (v : NodeRev) (pred : Option NodeRev) → IsOf look r v → v.kind ≡ Dir → Precedes look v pred → (w : Wrong) → IsWrongList look pred w → IsDamaged look props r w
  list_damaged v None of dir precedes w h = absurd h
  list_damaged v (Some u) of dir precedes w h = ListBehind v u w of dir precedes.0 h

  module _ (s : ℕ) (le : s ≤ r) (p : Path) (dir : NodeRev) (at : StandsAt look s p dir) (is_dir : dir.kind ≡ Dir) where
    below : (name : PathName) (w : Wrong) → ChildOf look dir name (Err w) → IsDamaged look props r w
    below name w h = AtPath s (p ++ name ∷ []) w le
        (met_behind look s dir p (name ∷ []) (Err w) at (in_dir dir.kind (length p) (ChildOf look dir name) (λ u. MetFrom look u (length p + 1) []) (Err w) is_dir (inl h)))

    -- its own list
    pub entries_damaged : (w : Wrong) → EntriesOf look dir (Err w) → IsDamaged look props r w
    entries_damaged w h = below [] w (inl h)

    -- an entry of it
    pub entry_damaged : (name : PathName) (entries : List DirEntry) (entry : DirEntry) → EntriesOf look dir (Ok entries) → named name entries ≡ Some entry → (w : Wrong) → OfEntry look entry (Err w) → IsDamaged look props r w
    entry_damaged name entries entry list is w h = below name w (inr (entries, list, subst (λ (o : Option DirEntry). OfNamed look o (Err w)) (sym is) h))

  -- ---- what doesn't fit its directory

  pub fit_breaks : (s : ℕ) (p : Path) (name : PathName) (dir v : NodeRev) (pred : Option NodeRev) (before : Option DirEntry) → IsChild look r s p name dir v → own_rev v ≡ s → own_rev v ≡ own_rev dir → v.copy_from ≡ None → Precedes look v pred
      → ((u w : NodeRev) → IsPred look v w → IsPred look dir u → ChildOf look u name (Ok (Some w)) → GoesOnFromEntry before v) → (FitsEdge look dir v before → ⊥) → BreaksRule look r v
  fit_breaks s p name dir v None before child own same no_copy none there unfit = by (root_or (copy_root_of v) (copy_root_of dir))
    where
      by : (copy_root_of v ≡ copy_root_of dir) ⊎ (copy_root_of v ≢ copy_root_of dir) → BreaksRule look r v
      by (inl root) = absurd (unfit (record { root = root_new look dir v none root; goes_on = goes_on_none before v none }))
      by (inr other) = RootOfNew s p name dir child own no_copy none other
  fit_breaks s p name dir v (Some w) before child own same no_copy precedes there unfit = by (root_or (copy_root_of v) (root_after dir w))
    where
      by : (copy_root_of v ≡ root_after dir w) ⊎ (copy_root_of v ≢ root_after dir w) → BreaksRule look r v
      by (inl root) = GoesOn s p name dir w child same no_copy precedes.0 (λ h. unfit (record { root = root_next look dir v w precedes.0 root; goes_on = there h.0 w precedes.0 h.1 h.2 }))
      by (inr other) = RootOfNext s p name dir w child own no_copy precedes.0 other
