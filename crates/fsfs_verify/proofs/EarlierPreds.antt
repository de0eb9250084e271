-- What a node-revision goes on from stands in the tree of an earlier revision, and so nothing behind it has a part that is new.
use Rattle.std.proofs.Common.{◌≡◌, ◌≤◌, ◌<◌, ◌++◌, ℕ, true, List, [], ◌∷◌, refl, sym, ap, subst, ◌∙◌, arith}
use Rattle.std.specs.Prelude.{◌≢◌, ◌&&◌, Ok, Option, Some, None}
use Rattle.std.proofs.lemmas.Bool.{and_parts}
use Rattle.std.proofs.lemmas.Bool.Decides.{nat_tests}
use Rattle.fsfs_base.specs.Paths.{PathName, Path}
use Rattle.fsfs_base.specs.declared.kind.Kind.{Kind}
use Rattle.fsfs_base.specs.declared.kind.Kind.TheVariants.{Dir}
use Rattle.fsfs_noderev.specs.declared.node_id.NodeId.{NodeId}
use Rattle.fsfs_noderev.specs.declared.node_id.Part.{Part}
use Rattle.fsfs_noderev.specs.declared.node_id.Part.TheVariants as parts
use Rattle.fsfs_noderev.specs.declared.node_rev.CopySource.{CopySource}
use Rattle.fsfs_noderev.specs.declared.node_rev.NodeRev.{NodeRev}
use Rattle.fsfs_revision.specs.Told.{RevisionBytes}
use Rattle.fsfs_revision.specs.declared.damage.RevOffset.{RevOffset}
use Rattle.fsfs_revision.specs.Nodes.{pred_before, rep_before, source_before, root_not_after, is_ordered}
use Rattle.fsfs_revision.specs.Shows.Reading.{DirEntry, OfId, OfEntry, OfNamed, ChildOf, RootOf, StandsAt, named, offset_of}
use Rattle.fsfs_revision.specs.Shows.Chains.{own_rev, IsPred}
use Rattle.fsfs_revision.specs.Shows.IdRules.{IsOf, IsBehind, Next, Further, IsDrawn, CopyPartFrom, Directory, Before, Drawn}
use Rattle.fsfs_revision.proofs.Earlier.{pred_is, pred_same, no_pred, root_of_id, stands_of_id}
use Rattle.fsfs_revision.proofs.OneAnswer.{ok_same}
use Rattle.fsfs_revision.proofs.OneEntry.{entries_one}
use Rattle.fsfs_revision.proofs.OneWalk.{of_id_one}
use Rattle.fsfs_revision.proofs.Walks.{child_stands}
use Rattle.fsfs_sound.specs.Parts.{IsUpTo}
use Rattle.fsfs_sound.specs.Revisions.{IsSoundTree, AreSoundBefore}
use Rattle.fsfs_sound.specs.Written.{Names, WasNamed, Precedes}
use Rattle.fsfs_sound.proofs.Ahead.{not_ahead, behind_is_earlier}
use Rattle.fsfs_sound.proofs.Standing.{child_entry, names_one, entry_id, children}
use Rattle.fsfs_verify.specs.Copies.{HasSource, first_rev, IsPartNew}
use Rattle.fsfs_verify.specs.Edges.{GoesOnFromEntry}
use Rattle.fsfs_verify.specs.Roots.{FollowsOrFirst, IsLastRoot}
use Rattle.fsfs_verify.specs.Walks.{IsListBefore, HasEarlierPred}
use Rattle.fsfs_verify.proofs.Meeting.{trees_upto}

-- a source is of an earlier revision
pub source_earlier : (v : NodeRev) (from : CopySource) → is_ordered (offset_of v.id.place) v ≡ true → v.copy_from ≡ Some from → from.rev < own_rev v
source_earlier v from ordered is =
    let at = offset_of v.id.place in
    let two = and_parts (pred_before at v.predecessor && rep_before at v.text && rep_before at v.props && source_before at v.copy_from) (root_not_after at v.copy_root) ordered in
    let one = and_parts (pred_before at v.predecessor && rep_before at v.text && rep_before at v.props) (source_before at v.copy_from) two.0 in
    earlier at (subst (λ (o : Option CopySource). source_before at o ≡ true) is one.1)
  where
    earlier : (at : RevOffset) → source_before at (Some from) ≡ true → from.rev < at.rev
    earlier at h = grind (arith, nat_tests)

-- a node-revision that was read by its id is in order
pub id_ordered : (look : RevisionBytes) (v : NodeRev) → OfId look v.id (Ok v) → is_ordered (offset_of v.id.place) v ≡ true
id_ordered look v of = subst (λ (x : NodeRev). is_ordered (offset_of v.id.place) x ≡ true) (sym of.2.0) of.1.2.1

module _ (look : RevisionBytes) where
  -- what an entry of a sound tree names is had
  pub named_stands : (s : ℕ) → ((n : ℕ) → n ≤ s → IsSoundTree look n) → (q : Path) (u : NodeRev) → StandsAt look s q u → u.kind ≡ Dir → (name : PathName) (e : DirEntry) → Names look u name e → (x : NodeRev) × OfEntry look e (Ok x) × StandsAt look s (q ++ name ∷ []) x
  named_stands s trees q u at kind name e names = let c = children look s trees s (omega arith) q u at kind name in by c.0 c.1
    where
      none : (o : Option DirEntry) → o ≡ Some e → OfNamed look o (Ok None) → (x : NodeRev) × OfEntry look e (Ok x) × StandsAt look s (q ++ name ∷ []) x
      none None is of = absurd cc
      none (Some d) is of = absurd of

      by : (o : Option NodeRev) → ChildOf look u name (Ok o) → (x : NodeRev) × OfEntry look e (Ok x) × StandsAt look s (q ++ name ∷ []) x
      by None child =
          let same = ok_same child.0 names.0 (entries_one look u (Ok child.0) (Ok names.0) child.1 names.1) in
          none (named name child.0) (ap (λ (es : List DirEntry). named name es) same ∙ names.2) child.2
      by (Some x) child =
          let d = child_entry look u x name child in
          let same : d.0 ≡ e = names_one look u name d.0 e d.1 names in
          (x, subst (λ (y : DirEntry). OfEntry look y (Ok x)) same d.2, child_stands look s u x q name at kind child)

  module _ (props : RevisionBytes) (r : ℕ) (sound : AreSoundBefore look props r) where
    -- of a copy
    pub copy_earlier : (v : NodeRev) (from : CopySource) → from.rev < r → HasSource look v from → HasEarlierPred look r v
    copy_earlier v from less s u pred =
        let same : u ≡ s.0 = pred_is look v u s.0 pred s.2 (stands_of_id look from.rev from.path s.0 s.1) in
        (from.rev, from.path, less, subst (λ (x : NodeRev). StandsAt look from.rev from.path x) (sym same) s.1)

    -- of what goes on from what its directory's predecessor named
    pub named_earlier : (dir v : NodeRev) (name : PathName) → HasEarlierPred look r dir → ((u : NodeRev) → IsPred look dir u → u.kind ≡ Dir) → ((id : NodeId) → v.predecessor ≡ Some id → (e : DirEntry) × WasNamed look dir name e × (e.id ≡ id)) → HasEarlierPred look r v
    named_earlier dir v name above kind there w pred =
        let g = there pred.0 pred.1 in
        let was = g.1 in
        let e = above was.0 was.1 in
        let less = e.2 in
        let x = named_stands e.0 (trees_upto look props r e.0 sound less) e.1 was.0 e.3 (kind was.0 was.1) name g.0 was.2 in
        let read : OfId look pred.0 (Ok x.0) = subst (λ (i : NodeId). OfId look i (Ok x.0)) g.2 (entry_id look g.0 x.0 x.1) in
        let same : x.0 ≡ w = ok_same x.0 w (of_id_one look pred.0 (Ok x.0) (Ok w) read pred.2) in
        (e.0, e.1 ++ name ∷ [], less, subst (λ (y : NodeRev). StandsAt look e.0 (e.1 ++ name ∷ []) y) same x.2)

    -- ---- nothing behind it has a part that is new

    behind_stood : (v u : NodeRev) → HasEarlierPred look r v → IsBehind look v u → (s : ℕ) × (s < r) × IsOf look s u
    behind_stood _ _ earlier (Next v u pred) = let e = earlier u pred in (e.0, e.2, (e.0, e.1, omega arith, e.3))
    behind_stood _ _ earlier (Further v w u pred behind) =
        let e = earlier w pred in
        let b = behind_is_earlier look e.0 (trees_upto look props r e.0 sound e.2) w u (e.0, e.1, omega arith, e.3) behind in
        (e.0, e.2, b.1)

    pub nowhere_behind : (dir v : NodeRev) → HasEarlierPred look r v → IsPartNew look dir v → (u : NodeRev) → IsBehind look v u → v.id.copy ≢ u.id.copy
    nowhere_behind dir v earlier new u behind = λ same. (
        let b = behind_stood v u earlier behind in
        let up = not_ahead look b.0 (trees_upto look props r b.0 sound b.1) u b.2 in
        new.before u behind (subst (λ (x : Part). first_rev x ≤ own_rev u) (sym same) (first_up_to (own_rev u) u.id.copy up)) same)
      where
        first_up_to : (rev : ℕ) (part : Part) → IsUpTo rev part → first_rev part ≤ rev
        first_up_to rev (parts.Made n made) up = up
        first_up_to rev (parts.Old n) up = omega arith
        first_up_to rev (parts.New n) up = omega arith

    pub from_nowhere : (dir v : NodeRev) → HasEarlierPred look r v → IsPartNew look dir v → (IsDrawn look r (own_rev v) v.id.copy → ⊥) → CopyPartFrom look r dir v → ⊥
    from_nowhere dir v earlier new undrawn (Directory e) = new.other e
    from_nowhere dir v earlier new undrawn (Before u b e) = nowhere_behind dir v earlier new u b e
    from_nowhere dir v earlier new undrawn (Drawn d) = undrawn d

  -- of the root
  pub root_earlier : (r : ℕ) (v : NodeRev) (last : Option NodeRev) → FollowsOrFirst look v last → IsLastRoot look r last → HasEarlierPred look r v
  root_earlier r v None follows is u pred = no_pred look v u pred follows.pred
  root_earlier r v (Some last) follows is u pred =
      let same : u ≡ last = pred_is look v u last pred follows.pred (root_of_id look is.0 last is.2) in
      let next = is.1 in
      (is.0, [], omega (arith, next), subst (λ (x : NodeRev). StandsAt look is.0 [] x) (sym same) (last, is.2, refl))
