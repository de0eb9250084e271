-- Copy parts along a chain of predecessors.
use Rattle.std.proofs.Common.{◌≡◌, ◌≤◌, ◌<◌, ◌++◌, ℕ, suc, Bool, true, false, nat_lt, List, [], ◌∷◌, refl, sym, ap, subst, ◌∙◌, inl, inr, arith}
use Rattle.std.specs.Prelude.{◌≢◌, ◌&&◌, ◌^◌, Option, Some, None, IfSome, Result, Ok, Err}
use Rattle.std.proofs.lemmas.Bool.{and_parts}
use Rattle.fsfs_noderev.specs.declared.node_id.NodeId.{NodeId}
use Rattle.fsfs_noderev.specs.declared.node_id.Part.{Part}
use Rattle.fsfs_noderev.specs.declared.node_rev.NodeRev.{NodeRev}
use Rattle.fsfs_revision.specs.Told.{RevisionBytes}
use Rattle.fsfs_revision.specs.declared.damage.DamageKind.TheVariants as what
use Rattle.fsfs_revision.specs.declared.wrong.Wrong.{Wrong}
use Rattle.fsfs_revision.specs.declared.wrong.ReadError.{ReadError}
use Rattle.fsfs_revision.specs.Damage.Damages.{damaged}
use Rattle.fsfs_revision.specs.Nodes.{place_before, pred_before, rep_before, source_before, root_not_after, is_ordered}
use Rattle.fsfs_revision.specs.Shows.Reading.{OfId, offset_of}
use Rattle.fsfs_revision.specs.Shows.Chains.{own_rev, IsPred, Chain, Breaks, Goes}
use Rattle.fsfs_revision.specs.Shows.IdRules.{IsBehind, Next, Further}
use Rattle.fsfs_revision.proofs.Earlier.{pred_same, no_pred}
use Rattle.fsfs_revision.proofs.TreeLaw.{IsHome, before_le, of_id_home}
use Rattle.fsfs_dag.specs.TreeWalks.{rank}
use Rattle.fsfs_dag.proofs.TreeWalkLemmas.{place_rank}
use Rattle.fsfs_revision.proofs.Roots.{is_less, is_not_less}
use Rattle.fsfs_verify.specs.declared.parts.Parts.{Parts}
use Rattle.fsfs_verify.specs.Brought.{Brought, MayDraw}
use Rattle.fsfs_verify.specs.Copies.{first_rev, IsAtOrBehind, HasPartBehind, HasPartBefore, IsPartOld, Before, IsPartNew, TakesPart, IsWrongPart}
use Rattle.fsfs_verify.specs.Finds.{Finds}
use Rattle.fsfs_verify.proofs.Findings.{wrong_from}

-- a predecessor stands before, and so is of no later revision
pred_placed : (v : NodeRev) (id : NodeId) → is_ordered (offset_of v.id.place) v ≡ true → v.predecessor ≡ Some id → place_before (offset_of v.id.place) id.place ≡ true
pred_placed v id ordered is =
    let at = offset_of v.id.place in
    let p3 = and_parts (pred_before at v.predecessor && rep_before at v.text && rep_before at v.props && source_before at v.copy_from) (root_not_after at v.copy_root) ordered in
    let p2 = and_parts (pred_before at v.predecessor && rep_before at v.text && rep_before at v.props) (source_before at v.copy_from) p3.0 in
    let p1 = and_parts (pred_before at v.predecessor && rep_before at v.text) (rep_before at v.props) p2.0 in
    let p0 = and_parts (pred_before at v.predecessor) (rep_before at v.text) p1.0 in
    subst (λ (x : Option NodeId). pred_before at x ≡ true) is p0.0

pub pred_id_up_to : (v : NodeRev) (id : NodeId) → is_ordered (offset_of v.id.place) v ≡ true → v.predecessor ≡ Some id → (offset_of id.place).rev ≤ own_rev v
pred_id_up_to v id ordered is = before_le (offset_of v.id.place) id.place (pred_placed v id ordered is)

pub pred_up_to : (look : RevisionBytes) (v u : NodeRev) → is_ordered (offset_of v.id.place) v ≡ true → IsPred look v u → own_rev u ≤ own_rev v
pred_up_to look v u ordered p =
    let b = pred_id_up_to v p.0 ordered p.1 in
    let h = of_id_home look p.0 u p.2 in
    let x = h.1 in omega (arith, b, x)

module _ (look : RevisionBytes) (v u : NodeRev) (pred : IsPred look v u) where
  behind_of : (w : NodeRev) → IsAtOrBehind look u w → IsBehind look v w
  behind_of w (inl same) = Next v w (subst (λ (x : NodeRev). IsPred look v x) (sym same) pred)
  behind_of w (inr behind) = Further v u w pred behind

  pub at_or_behind : (w : NodeRev) → IsBehind look v w → IsAtOrBehind look u w
  at_or_behind w b = by v w b refl
    where
      by : (x y : NodeRev) → IsBehind look x y → x ≡ v → IsAtOrBehind look u y
      by _ _ (Next x y p) e = inl (pred_same look v y u (subst (λ (z : NodeRev). IsPred look z y) e p) pred)
      by _ _ (Further x z y p b) e = inr (subst (λ (t : NodeRev). IsBehind look t y) (pred_same look v z u (subst (λ (t : NodeRev). IsPred look t z) e p) pred) b)

  pub chain_wrong : (w : Wrong) → Chain look u (Err w) → Chain look v (Err w)
  chain_wrong w broken = Goes v u pred.0 (Err w) pred.1 pred.2 broken

  -- a part at the predecessor or behind it is one before
  pub before_by : (part : Part) (b : Bool) → HasPartBehind look part u b → HasPartBefore look part v b
  before_by part true h = (h.0, behind_of h.0 h.1, h.2)
  before_by part false h = λ w behind. h w (at_or_behind w behind)

  -- the chain at the next one
  pub part_at : (part : Part) → u.id.copy ≡ part → HasPartBehind look part v true
  part_at part same = (u, inr (Next v u pred), same)

  pub part_goes_on : (part : Part) → HasPartBehind look part u true → HasPartBehind look part v true
  part_goes_on part h = (h.0, inr (behind_of h.0 h.1), h.2)

  pub before_found : (part : Part) (result : Result Bool ReadError) → Finds (HasPartBehind look part u) (λ w. Chain look u (Err w)) result → Finds (HasPartBefore look part v) (λ w. Chain look v (Err w)) result
  before_found part (Ok b) h = before_by part b h
  before_found part (Err e) h = wrong_from (λ w. Chain look u (Err w)) (λ w. Chain look v (Err w)) e chain_wrong h

module _ (look : RevisionBytes) (v : NodeRev) where
  none_behind : (w : NodeRev) → IsBehind look v w → v.predecessor ≡ None → ⊥
  none_behind w b none = by v w b refl
    where
      by : (x y : NodeRev) → IsBehind look x y → x ≡ v → ⊥
      by _ _ (Next x y p) e = no_pred look v y (subst (λ (z : NodeRev). IsPred look z y) e p) none
      by _ _ (Further x z y p b) e = no_pred look v z (subst (λ (t : NodeRev). IsPred look t z) e p) none

  pub part_begins : (part : Part) → v.predecessor ≡ None → HasPartBefore look part v false
  part_begins part none w b least same = none_behind w b none

  pub part_kept : (dir : NodeRev) → HasPartBefore look v.id.copy v true → IsPartOld look dir v
  part_kept dir h = Before h.0 h.1 (sym h.2)

  pub part_new : (dir : NodeRev) → v.id.copy ≢ dir.id.copy → HasPartBefore look v.id.copy v false → IsPartNew look dir v
  part_new dir other h = record { other = other; before = λ w b least same. h w b least (sym same) }

  -- a new part is drawn, or may not be drawn
  pub drawn_found : (rev : ℕ) (begun copied drawn : List Part) (new : Parts) (dir : NodeRev) → IsPartNew look dir v → (result : Result (Unit {0}) ReadError)
      → Finds (λ _. Brought rev new begun copied (drawn ++ v.id.copy ∷ []) × MayDraw rev copied v.id.copy) (λ w. (MayDraw rev copied v.id.copy → ⊥) × (w ≡ damaged (offset_of v.id.place) what.CopyId)) result
      → Finds (λ _. (now : List Part) × TakesPart look rev copied dir v drawn now × Brought rev new begun copied now) (IsWrongPart look rev copied dir v) result
  drawn_found rev begun copied drawn new dir fresh (Ok x) h = (drawn ++ v.id.copy ∷ [], inr (fresh, h.1, refl), h.0)
  drawn_found rev begun copied drawn new dir fresh (Err e) h = wrong_from (λ w. (MayDraw rev copied v.id.copy → ⊥) × (w ≡ damaged (offset_of v.id.place) what.CopyId)) (IsWrongPart look rev copied dir v) e (λ w p. inr (fresh, p.0, p.1)) h

-- ---- on the way back

-- a node-revision of a reading is before all that is behind it, by revisions
up_to_home : (look : RevisionBytes) (v u : NodeRev) → IsHome v → IsPred look v u → own_rev u ≤ own_rev v
up_to_home look v u home p =
    let b = before_le (offset_of v.id.place) p.0.place (subst (λ (x : Option NodeId). pred_before (offset_of v.id.place) x ≡ true) p.1 home.pred) in
    let h = of_id_home look p.0 u p.2 in
    let x = h.1 in omega (arith, b, x)

pub behind_up_to : (look : RevisionBytes) (v u : NodeRev) → IsHome v → IsBehind look v u → own_rev u ≤ own_rev v
behind_up_to look _ _ home (Next v u p) = up_to_home look v u home p
behind_up_to look _ _ home (Further v z u p b) =
    let first = up_to_home look v z home p in
    let h = of_id_home look p.0 z p.2 in
    let rest = behind_up_to look z u h.0 b in
    omega (arith, first, rest)

-- the chain was gone back to here: what has the part is further, so far as revisions may have it
pub record IsChainLeft (look : RevisionBytes) (part : Part) (v : NodeRev) (left : Option NodeId) : Type 0 where
  pub at : NodeRev
  pub at_is : IsAtOrBehind look v at
  pub breaks : (w : Wrong) → Chain look at (Err w) → Chain look v (Err w)
  pub further : (u : NodeRev) → IsAtOrBehind look v u → first_rev part ≤ own_rev u → u.id.copy ≡ part → IsBehind look at u
  pub some : (id : NodeId) → left ≡ Some id → at.predecessor ≡ Some id
  pub none : left ≡ None → (id : NodeId) → at.predecessor ≡ Some id → (offset_of id.place).rev < first_rev part

-- where nothing is left, none has it
past : (look : RevisionBytes) (part : Part) (at u : NodeRev) → ((id : NodeId) → at.predecessor ≡ Some id → (offset_of id.place).rev < first_rev part) → IsBehind look at u → own_rev u < first_rev part
past look part _ _ none (Next v u p) =
    let h = of_id_home look p.0 u p.2 in
    let x = h.1 in let less = none p.0 p.1 in omega (arith, x, less)
past look part _ _ none (Further v z u p b) =
    let h = of_id_home look p.0 z p.2 in
    let rest = behind_up_to look z u h.0 b in
    let x = h.1 in let less = none p.0 p.1 in omega (arith, rest, x, less)

pub chain_ended : (look : RevisionBytes) (part : Part) (v : NodeRev) (left : Option NodeId) → IsChainLeft look part v left → left ≡ None → HasPartBehind look part v false
chain_ended look part v left c none u at least same = let less = past look part c.at u (c.none none) (c.further u at least same) in omega (arith, least, less)

-- how far what is left reaches
abbrev pub chain_rank : Option NodeId → ℕ
chain_rank None = 0
chain_rank (Some id) = suc (rank (offset_of id.place))

pub chain_falls : (v : NodeRev) (id : NodeId) (least : ℕ) (left : Option NodeId) → is_ordered (offset_of v.id.place) v ≡ true → v.id ≡ id → (offset_of v.id.place).offset < 2 ^ 64
    → IfSome left (λ (next : NodeId). (v.predecessor ≡ Some next) × (least ≤ (offset_of next.place).rev)) → chain_rank left < chain_rank (Some id)
chain_falls v id least None ordered same fits h = omega arith
chain_falls v id least (Some next) ordered same fits h =
    let less = place_rank next.place (offset_of v.id.place) fits (pred_placed v next ordered h.0) in
    let at : rank (offset_of v.id.place) ≡ rank (offset_of id.place) = ap (λ (i : NodeId). rank (offset_of i.place)) same in
    omega (arith, less, at)

-- what is left is of no later revision
pub left_up_to : (v : NodeRev) (least top : ℕ) (left : Option NodeId) → is_ordered (offset_of v.id.place) v ≡ true → own_rev v ≤ top
    → IfSome left (λ (next : NodeId). (v.predecessor ≡ Some next) × (least ≤ (offset_of next.place).rev)) → IfSome left (λ (next : NodeId). (offset_of next.place).rev ≤ top)
left_up_to v least top None ordered le h = tt
left_up_to v least top (Some next) ordered le h = let up = pred_id_up_to v next ordered h.0 in omega (arith, up, le)

behind_more : (look : RevisionBytes) (v u w : NodeRev) → IsBehind look v u → IsPred look u w → IsBehind look v w
behind_more look _ _ w (Next v u p) q = Further v u w p (Next u w q)
behind_more look _ _ w (Further v x u p b) q = Further v x w p (behind_more look x u w b q)

-- the next one, of the revisions that may have the part
module _ (look : RevisionBytes) (part : Part) (at : NodeRev) (left : Option NodeId) (some : IfSome left (λ (id : NodeId). (at.predecessor ≡ Some id) × (first_rev part ≤ (offset_of id.place).rev)))
    (only : (id : NodeId) → at.predecessor ≡ Some id → first_rev part ≤ (offset_of id.place).rev → left ≡ Some id) where
  some_of : (id : NodeId) → left ≡ Some id → at.predecessor ≡ Some id
  some_of id is = by left is some
    where
      by : (o : Option NodeId) → o ≡ Some id → IfSome o (λ (i : NodeId). (at.predecessor ≡ Some i) × (first_rev part ≤ (offset_of i.place).rev)) → at.predecessor ≡ Some id
      by None e h = absurd cc
      by (Some i) e h = h.0 ∙ e

  none_of : left ≡ None → (id : NodeId) → at.predecessor ≡ Some id → (offset_of id.place).rev < first_rev part
  none_of none id is = by (nat_lt (offset_of id.place).rev (first_rev part)) refl
    where
      by : (b : Bool) → nat_lt (offset_of id.place).rev (first_rev part) ≡ b → (offset_of id.place).rev < first_rev part
      by true e = is_less (offset_of id.place).rev (first_rev part) e
      by false e =
          let found = only id is (is_not_less (offset_of id.place).rev (first_rev part) e) in
          let clash : (let o : Option NodeId = None in o) ≡ Some id = sym none ∙ found in
          absurd cc

  pub chain_begins : at.id.copy ≢ part → IsChainLeft look part at left
  chain_begins other = record { at = at; at_is = inl refl; breaks = λ w broken. broken; further = λ u here least same. by u same here; some = some_of; none = none_of }
    where
      by : (u : NodeRev) → u.id.copy ≡ part → IsAtOrBehind look at u → IsBehind look at u
      by u same (inl is) = absurd (other (subst (λ (x : NodeRev). x.id.copy ≡ part) is same))
      by u same (inr behind) = behind

  pub chain_goes_on : (v : NodeRev) (id : NodeId) → IsChainLeft look part v (Some id) → OfId look id (Ok at) → at.id.copy ≢ part → IsChainLeft look part v left
  chain_goes_on v id c of other = record {
    at = at;
    at_is = inr (on c.at_is);
    breaks = λ w broken. c.breaks w (Goes c.at at id (Err w) (c.some id refl) of broken);
    further = λ u here least same. by u same (at_or_behind look c.at at pred u (c.further u here least same));
    some = some_of;
    none = none_of;
  }
    where
      pred : IsPred look c.at at
      pred = (id, c.some id refl, of)

      on : IsAtOrBehind look v c.at → IsBehind look v at
      on (inl same) = Next v at (subst (λ (x : NodeRev). IsPred look x at) same pred)
      on (inr behind) = behind_more look v c.at at behind pred

      by : (u : NodeRev) → u.id.copy ≡ part → IsAtOrBehind look at u → IsBehind look at u
      by u same (inl is) = absurd (other (subst (λ (x : NodeRev). x.id.copy ≡ part) is same))
      by u same (inr behind) = behind

module _ (look : RevisionBytes) (part : Part) (v : NodeRev) (id : NodeId) (c : IsChainLeft look part v (Some id)) where
  pub part_found : (u : NodeRev) → OfId look id (Ok u) → u.id.copy ≡ part → HasPartBehind look part v true
  part_found u of same = (u, inr (by c.at_is), same)
    where
      pred : IsPred look c.at u
      pred = (id, c.some id refl, of)

      by : IsAtOrBehind look v c.at → IsBehind look v u
      by (inl is) = Next v u (subst (λ (x : NodeRev). IsPred look x u) is pred)
      by (inr behind) = behind_more look v c.at u behind pred

  pub chain_stops : (w : Wrong) → OfId look id (Err w) → Chain look v (Err w)
  chain_stops w broken = c.breaks w (Breaks c.at id w (c.some id refl) broken)

pub part_here : (look : RevisionBytes) (part : Part) (v : NodeRev) → v.id.copy ≡ part → HasPartBehind look part v true
part_here look part v same = (v, inl refl, same)
