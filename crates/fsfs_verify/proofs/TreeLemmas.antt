-- The walk from its first node-revision to its end.
use Rattle.std.proofs.Common.{◌≡◌, ◌≤◌, ◌+◌, ◌++◌, ℕ, List, [], ◌∷◌, length, refl, sym, ap, subst, ◌∙◌, inl, arith}
use Rattle.std.specs.Prelude.{Contains, Ok, Err, Option, Some, None, slice_get, option_map}
use Rattle.fsfs_base.specs.Paths.{Path}
use Rattle.fsfs_noderev.specs.declared.node_rev.NodeRev.{NodeRev}
use Rattle.fsfs_revision.specs.Told.{RevisionBytes}
use Rattle.fsfs_revision.specs.declared.damage.RevOffset.{RevOffset}
use Rattle.fsfs_revision.specs.declared.damage.DamageKind.TheVariants as what
use Rattle.fsfs_revision.specs.declared.wrong.Wrong.{Wrong}
use Rattle.fsfs_revision.specs.Damage.Damages.{damaged, place_of}
use Rattle.fsfs_revision.specs.Shows.Reading.{RootOf, offset_of}
use Rattle.fsfs_revision.proofs.OneAnswer.{ok_same}
use Rattle.fsfs_revision.proofs.OneNode.{root_of_one}
use Rattle.fsfs_revision.proofs.TreeLaw.{root_home}
use Rattle.fsfs_dag.specs.Seen.{IsSeen}
use Rattle.fsfs_dag.specs.TreeWalks.{Left, left}
use Rattle.fsfs_dag.specs.Views.{home_of}
use Rattle.fsfs_sound.specs.Damaged.{IsDamaged, AtPath, Rule}
use Rattle.fsfs_sound.specs.Revisions.{IsSoundTree, AreSoundBefore}
use Rattle.fsfs_sound.specs.Written.{IsNewAt, Precedes}
use Rattle.fsfs_verify.specs.declared.above.Above.{Above}
use Rattle.fsfs_verify.specs.declared.links.Links.{Links}
use Rattle.fsfs_verify.specs.declared.nodes.Copied.{Copied}
use Rattle.fsfs_verify.specs.declared.nodes.NewNodes.{NewNodes}
use Rattle.fsfs_verify.specs.declared.parts.Parts.{Parts}
use Rattle.fsfs_verify.specs.AllWritten.{HoldsTree}
use Rattle.fsfs_verify.specs.LinksUp.{LeadsUp}
use Rattle.fsfs_verify.specs.Preds.{IsWrongPred}
use Rattle.fsfs_verify.specs.Roots.{IsRootBehind, IsLastRoot}
use Rattle.fsfs_verify.specs.Steps.{IsLasting, IsNewWalk, TakesNode, IsWrongNode}
use Rattle.fsfs_verify.specs.Walks.{AreBelow, IsWalk, HasWalk, CopiesStandOnce}
use Rattle.fsfs_verify.proofs.Damages.{pred_damaged}
use Rattle.fsfs_verify.proofs.Ending.{tree_sound, holds_all}
use Rattle.fsfs_verify.proofs.ListLemmas.{contains_nil}
use Rattle.fsfs_verify.proofs.Levels.{contents_below}
use Rattle.fsfs_verify.proofs.Meeting.{met_none}
use Rattle.fsfs_verify.proofs.NodeDamages.{node_damaged}
use Rattle.fsfs_verify.proofs.Places.{place_breaks}
use Rattle.fsfs_verify.proofs.Starting.{walk_root}
use Rattle.fsfs_verify.proofs.StepLemmas.{contents_seen, stands_lasting}

module _ (look props : RevisionBytes) (r : ℕ) (v : NodeRev) (is_root : RootOf look r (Ok v)) where
  root_at : IsNewAt look r [] v
  root_at = record { stands = (v, is_root, refl); own = (root_home look r v is_root).1 }

  pub root_lasting : IsLasting v.id
  root_lasting = stands_lasting look r [] v root_at.stands

  pub root_pred_wrong : (w : Wrong) → IsWrongPred look v w → IsDamaged look props r w
  root_pred_wrong w wrong = pred_damaged look props r v (r, [], omega arith, root_at.stands) w wrong

  -- ---- the first

  module _ (sound : AreSoundBefore look props r) (pred : Option NodeRev) (precedes : Precedes look v pred) (before : Parts) (held : HoldsTree look r r before) where
    pub root_wrong : (w : Wrong) → IsWrongNode look r held.begun held.copied held.drawn v pred w → IsDamaged look props r w
    root_wrong w wrong =
        node_damaged look props r sound held.begun held.copied held.drawn [] (met_none look r props sound held.begun held.copied held.drawn held.all) (λ u there. absurd (contains_nil u there)) [] v root_at (λ there. contains_nil v there) pred precedes w wrong

    pub started : (last : Option NodeRev) → IsRootBehind look v last → IsLastRoot look r last → (old new : NewNodes) (after : Parts) → IsNewWalk r old → IsSeen look old.walk.seen
        → TakesNode look r (length old.above.items) held.begun held.copied held.drawn v pred old new after → new.rev ≡ old.rev → new.links ≡ old.links → HasWalk look r v (left new.walk) new after
    started last behind last_is old new after start seen step rev links =
        let none : length old.above.items ≡ 0 = ap (λ (xs : List Above). length xs) start.above in
        let t = subst (λ (n : ℕ). TakesNode look r n held.begun held.copied held.drawn v pred old new after) none step in
        let below : AreBelow (length old.above.items) (left old.walk) = subst (λ (l : Left). AreBelow (length old.above.items) l) (sym start.left_is) tt in
        let w = walk_root look props r sound v is_root pred precedes last behind last_is held.begun held.copied held.drawn held.all old new after start t in
        record {
          begun = t.begun_now;
          copied = t.copied_now;
          drawn = held.drawn;
          done = [] ++ v ∷ [];
          rev = rev ∙ start.rev_is;
          seen = contents_seen look 0 v pred old new t.contents seen;
          below = contents_below look 0 v pred old new t.contents (sym none) below;
          brought = t.brought;
          walk = subst (λ (l : Links). IsWalk look r v (left new.walk) new.above.items l new.copies.items t.begun_now t.copied_now held.drawn ([] ++ v ∷ [])) (sym links) w;
        }

  -- ---- the end

  module _ (nodes : NewNodes) (after : Parts) (some : (root : NodeRev) × HasWalk look r root (left nodes.walk) nodes after) (none : left nodes.walk ≡ []) where
    h : HasWalk look r v [] nodes after
    h =
        let same : some.0 ≡ v = ok_same some.0 v (root_of_one look r (Ok some.0) (Ok v) some.1.walk.top.0 is_root) in
        subst (λ (l : Left). HasWalk look r v l nodes after) none (subst (λ (x : NodeRev). HasWalk look r x (left nodes.walk) nodes after) same some.1)

    pub ended : AreSoundBefore look props r → (last : Option NodeRev) → IsRootBehind look v last → IsLastRoot look r last → CopiesStandOnce nodes (home_of v).offset → IsSoundTree look r × HoldsTree look (r + 1) r after
    ended sound last behind last_is once = (
      tree_sound look r v nodes.above.items nodes.links nodes.copies.items h.begun h.copied h.drawn h.done h.walk props sound once last behind last_is,
      holds_all look r v nodes.above.items nodes.links nodes.copies.items h.begun h.copied h.drawn h.done h.walk after h.brought,
    )

    pub first_is : (o : Option NodeRev) → o ≡ option_map (λ (a : Above). a.dir.node) (slice_get nodes.above.items 0) → o ≡ Some v
    first_is o is =
        let f = h.walk.first in
        is ∙ ap (λ (p : Option Above). option_map (λ (a : Above). a.dir.node) p) f.1 ∙ ap (λ (x : NodeRev). let p : Option NodeRev = Some x in p) f.2

    pub copies_wrong : (w : Wrong) → (c : Copied) × Contains nodes.copies.items c × (LeadsUp nodes.links (home_of v).offset c.place c.path → ⊥) × (w ≡ damaged (place_of nodes.rev c.place) what.CopyId) → IsDamaged look props r w
    copies_wrong w wrong =
        let c = wrong.0 in
        let o = h.walk.copies.only c wrong.1 in
        let x = h.walk.checked o.0 o.2 in
        let new = x.stands.1 in
        let path = o.4.1 in
        let place = o.4.0 in
        let never : LeadsUp nodes.links (home_of v).offset (home_of o.0).offset o.0.created_path → ⊥ =
        (λ up. wrong.2 (subst (λ (q : Path). LeadsUp nodes.links (home_of v).offset c.place q) (sym path) (subst (λ (n : ℕ). LeadsUp nodes.links (home_of v).offset n o.0.created_path) (sym place) up))) in
        let rev = h.rev ∙ sym new.own in
        let home : place_of nodes.rev c.place ≡ offset_of o.0.id.place = (λ i. place_of (rev i) (place i)) in
        let rule = place_breaks look r v is_root nodes.links h.done h.walk.links (λ u there. (h.walk.checked u there).stands) o.0 o.1 o.2 o.3 never in
        subst (λ (d : Wrong). IsDamaged look props r d) (sym (wrong.3 ∙ ap (λ (at : RevOffset). damaged at what.CopyId) home)) (Rule o.0 rule)

-- the root isn't had
pub no_root : (look props : RevisionBytes) (r : ℕ) (w : Wrong) → RootOf look r (Err w) → IsDamaged look props r w
no_root look props r w read = AtPath r [] w (omega arith) (inl read)
