-- The parts that what was checked brought up, with one node-revision more.
use Rattle.std.proofs.Common.{◌≡◌, ◌≤◌, ◌<◌, ◌⊎◌, ◌+◌, ◌++◌, ℕ, List, [], ◌∷◌, refl, sym, ap, subst, ◌∙◌, inl, inr, arith}
use Rattle.std.specs.Prelude.{◌≢◌, Contains, Option, Some, None}
use Rattle.std.proofs.lemmas.List.Elements.{Contains-append_left, Contains-push, Contains-push_cases}
use Rattle.fsfs_base.specs.Paths.{PathName, Path}
use Rattle.fsfs_noderev.specs.declared.node_id.NodeId.{NodeId}
use Rattle.fsfs_noderev.specs.declared.node_id.Part.{Part}
use Rattle.fsfs_noderev.specs.declared.node_rev.CopySource.{CopySource}
use Rattle.fsfs_noderev.specs.declared.node_rev.NodeRev.{NodeRev}
use Rattle.fsfs_revision.specs.Told.{RevisionBytes}
use Rattle.fsfs_revision.specs.Shows.Reading.{DirEntry, StandsAt}
use Rattle.fsfs_revision.specs.Shows.Chains.{IsPred}
use Rattle.fsfs_revision.specs.Shows.IdRules.{HasSuffix}
use Rattle.fsfs_sound.specs.Revisions.{IsSoundTree, AreSoundBefore}
use Rattle.fsfs_sound.specs.Written.{IsNewChild}
use Rattle.fsfs_sound.proofs.Shown.{pred_of}
use Rattle.fsfs_verify.specs.declared.nodes.Copied.{Copied}
use Rattle.fsfs_verify.specs.AllWritten.{IsBefore, IsChildBefore, AreBrought}
use Rattle.fsfs_verify.specs.Brought.{MayBegin, MayCopy, MayDraw}
use Rattle.fsfs_verify.specs.Copies.{IsPartOld, IsPartNew, TakesPart}
use Rattle.fsfs_verify.specs.Edges.{TakesEdge}
use Rattle.fsfs_verify.specs.Steps.{Begins, TakesCopy, NoCopy, ACopy}
use Rattle.fsfs_verify.specs.Walks.{HasEarlierPred, HasTakenPart, Kept, DrawnFor, IsMet, AreMet}
use Rattle.fsfs_verify.proofs.ListLemmas.{contains_nil}

pub trees_upto : (look props : RevisionBytes) (r top : ℕ) → AreSoundBefore look props r → top < r → (s : ℕ) → s ≤ top → IsSoundTree look s
trees_upto look props r top sound less s le = (sound s (omega (arith, less, le))).tree

module _ (look : RevisionBytes) (r : ℕ) where
  child_more : (dir v : NodeRev) → IsChildBefore look r dir v → IsChildBefore look (r + 1) dir v
  child_more dir v c = record { rev = c.rev; path = c.path; name = c.name; before = (let less = c.before in omega (arith, less)); new = c.new; no_copy = c.no_copy }

  -- what was written before goes on from what stands in an earlier tree
  before_earlier : (props : RevisionBytes) → AreSoundBefore look props r → (dir v : NodeRev) → IsChildBefore look r dir v → HasEarlierPred look r v
  before_earlier props sound dir v c u pred =
      let less = c.before in
      let there = c.new.there in
      let w = pred_of look c.rev (trees_upto look props r c.rev sound less) v u (c.rev, c.path ++ c.name ∷ [], omega arith, there.stands) pred in
      let of = w.1 in
      let le = of.2 in
      (of.0, of.1, omega (arith, le, less), of.3)

  -- ---- nothing was checked yet

  was_before : (v : NodeRev) → IsMet look r [] v → IsBefore look r v
  was_before v (inl before) = before
  was_before v (inr none) = absurd (contains_nil v none)

  pub met_none : (props : RevisionBytes) → AreSoundBefore look props r → (begun copied drawn : List Part) → AreBrought look r begun copied drawn → AreMet look r begun copied drawn []
  met_none props sound begun copied drawn all = record {
    begins = λ v met none. all.begins v (was_before v met) none;
    begun_by = λ part there. (let w = all.begun part there in (w.0, inl w.1, w.2, w.3));
    begins_once = λ v u there met none nil same. absurd (contains_nil v there);
    begins_now = λ v there none. absurd (contains_nil v there);
    copies = λ v from met is. all.copies v from (was_before v met) is;
    copied_by = λ part there. (let w = all.copied part there in (w.0, w.1, inl w.2, w.3, w.4));
    copies_once = λ v u from other there met is was same. absurd (contains_nil v there);
    draws = all.draws;
    drawn_by = λ part there. (let w = all.drawn part there in (w.0, w.1, child_more w.0 w.1 w.2, w.3, before_earlier props sound w.0 w.1 w.2, w.4));
    apart = all.apart;
  }

  -- ---- against a directory

  module _ (begun copied drawn : List Part) (done : List NodeRev) (m : AreMet look r begun copied drawn done) where
    module _ (p : Path) (name : PathName) (dir v : NodeRev) (child : IsNewChild look r p name dir v) (earlier : HasEarlierPred look r v) where
      met_drawn : v.copy_from ≡ None → IsPartNew look dir v → MayDraw r copied v.id.copy → AreMet look r begun copied (drawn ++ v.id.copy ∷ []) done
      met_drawn no_copy new may = record {
        begins = m.begins;
        begun_by = m.begun_by;
        begins_once = m.begins_once;
        begins_now = m.begins_now;
        copies = m.copies;
        copied_by = m.copied_by;
        copies_once = m.copies_once;
        draws = λ d u c. old_or d u (m.draws d u c);
        drawn_by = λ part there. by part (Contains-push_cases drawn v.id.copy part there);
        apart = λ part there also. alone part there (Contains-push_cases drawn v.id.copy part also);
      }
        where
          old_or : (d u : NodeRev) → IsPartOld look d u ⊎ Contains drawn u.id.copy → IsPartOld look d u ⊎ Contains (drawn ++ v.id.copy ∷ []) u.id.copy
          old_or d u (inl old) = inl old
          old_or d u (inr there) = inr (Contains-append_left drawn (v.id.copy ∷ []) u.id.copy there)

          by : (part : Part) → Contains drawn part ⊎ (v.id.copy ≡ part) → (d u : NodeRev) × IsChildBefore look (r + 1) d u × IsPartNew look d u × HasEarlierPred look r u × (u.id.copy ≡ part)
          by part (inl there) = m.drawn_by part there
          by part (inr same) = (dir, v, record { rev = r; path = p; name = name; before = omega arith; new = child; no_copy = no_copy }, new, earlier, same)

          alone : (part : Part) → Contains copied part → Contains drawn part ⊎ (v.id.copy ≡ part) → ⊥
          alone part there (inl also) = m.apart part there also
          alone part there (inr same) = may.no_copy (subst (λ (x : Part). Contains copied x) (sym same) there)

      pub met_edge : (before : Option DirEntry) (now : List Part) → TakesEdge look r copied dir v before drawn now → AreMet look r begun copied now done
      met_edge before now (inl copy) = subst (λ (x : List Part). AreMet look r begun copied x done) (sym copy.1) m
      met_edge before now (inr edge) = by edge.2
        where
          by : TakesPart look r copied dir v drawn now → AreMet look r begun copied now done
          by (inl old) = subst (λ (x : List Part). AreMet look r begun copied x done) (sym old.1) m
          by (inr new) = subst (λ (x : List Part). AreMet look r begun copied x done) (sym new.2) (met_drawn edge.0 new.0 new.1)

-- parts stay among those that were drawn
pub drawn_kept : (look : RevisionBytes) (r : ℕ) (copied : List Part) (dir v : NodeRev) (before : Option DirEntry) (drawn now : List Part) → TakesEdge look r copied dir v before drawn now → (part : Part) → Contains drawn part → Contains now part
drawn_kept look r copied dir v before drawn now (inl copy) part there = subst (λ (x : List Part). Contains x part) (sym copy.1) there
drawn_kept look r copied dir v before drawn now (inr edge) part there = by edge.2
  where
    by : TakesPart look r copied dir v drawn now → Contains now part
    by (inl old) = subst (λ (x : List Part). Contains x part) (sym old.1) there
    by (inr new) = subst (λ (x : List Part). Contains x part) (sym new.2) (Contains-append_left drawn (v.id.copy ∷ []) part there)

pub part_taken : (look : RevisionBytes) (r : ℕ) (copied : List Part) (dir v : NodeRev) (drawn now : List Part) → TakesPart look r copied dir v drawn now → HasTakenPart look r now dir v
part_taken look r copied dir v drawn now (inl old) = Kept old.0
part_taken look r copied dir v drawn now (inr new) = DrawnFor new.0 new.1.not_first new.1.suffix (subst (λ (x : List Part). Contains x v.id.copy) (sym new.2) (Contains-push drawn v.id.copy))

-- ---- by itself

-- what a copy brings up
abbrev pub BringsCopy : ℕ → List Part → NodeRev → List Part → List Part → Type 0
BringsCopy r drawn v copied now = ((v.copy_from ≡ None) × (now ≡ copied)) ⊎ ((from : CopySource) × (v.copy_from ≡ Some from) × MayCopy r copied drawn v.id.copy × (now ≡ copied ++ v.id.copy ∷ []))

pub brings_copy : (look : RevisionBytes) (r : ℕ) (drawn : List Part) (v : NodeRev) (copied now : List Part) (old new : List Copied) → TakesCopy look r drawn v copied now old new → BringsCopy r drawn v copied now
brings_copy look r drawn v copied now old new (NoCopy none same kept) = inl (none, same)
brings_copy look r drawn v copied now old new (ACopy from c is copy same put copied_is) = inr (from, is, copy.part, same)

module _ (look : RevisionBytes) (r : ℕ) (begun copied drawn : List Part) (done : List NodeRev) (m : AreMet look r begun copied drawn done) (v : NodeRev) (begun_now copied_now : List Part) where
  met_cases : (w : NodeRev) → IsMet look r (done ++ v ∷ []) w → IsMet look r done w ⊎ (v ≡ w)
  met_cases w (inl before) = inl (inl before)
  met_cases w (inr there) = by (Contains-push_cases done v w there)
    where
      by : Contains done w ⊎ (v ≡ w) → IsMet look r done w ⊎ (v ≡ w)
      by (inl old) = inl (inr old)
      by (inr same) = inr same

  met_more : (w : NodeRev) → IsMet look r done w → IsMet look r (done ++ v ∷ []) w
  met_more w (inl before) = inl before
  met_more w (inr there) = inr (Contains-append_left done (v ∷ []) w there)

  no_pred_of : (w : NodeRev) → v ≡ w → w.predecessor ≡ None → v.predecessor ≡ None
  no_pred_of w same none = ap (λ (x : NodeRev). x.predecessor) same ∙ none

  copy_of : (w : NodeRev) (from : CopySource) → v ≡ w → w.copy_from ≡ Some from → v.copy_from ≡ Some from
  copy_of w from same is = ap (λ (x : NodeRev). x.copy_from) same ∙ is

  module _ (b : Begins r v begun begun_now) where
    mine : v.predecessor ≡ None → MayBegin r begun v.id.node × (begun_now ≡ begun ++ v.id.node ∷ [])
    mine none = by b
      where
        by : Begins r v begun begun_now → MayBegin r begun v.id.node × (begun_now ≡ begun ++ v.id.node ∷ [])
        by (inl h) = (h.1, h.2)
        by (inr h) = absurd (h.0 none)

    begun_more : (part : Part) → Contains begun part → Contains begun_now part
    begun_more part there = by b
      where
        by : Begins r v begun begun_now → Contains begun_now part
        by (inl h) = subst (λ (x : List Part). Contains x part) (sym h.2) (Contains-append_left begun (v.id.node ∷ []) part there)
        by (inr h) = subst (λ (x : List Part). Contains x part) (sym h.1) there

    begun_here : v.predecessor ≡ None → Contains begun_now v.id.node
    begun_here none = subst (λ (x : List Part). Contains x v.id.node) (sym (mine none).1) (Contains-push begun v.id.node)

    begins_all : (w : NodeRev) → IsMet look r (done ++ v ∷ []) w → w.predecessor ≡ None → Contains begun_now w.id.node
    begins_all w met none = by (met_cases w met)
      where
        by : IsMet look r done w ⊎ (v ≡ w) → Contains begun_now w.id.node
        by (inl old) = begun_more w.id.node (m.begins w old none)
        by (inr same) = subst (λ (x : NodeRev). Contains begun_now x.id.node) same (begun_here (no_pred_of w same none))

    begun_all : (part : Part) → Contains begun_now part → (w : NodeRev) × IsMet look r (done ++ v ∷ []) w × (w.predecessor ≡ None) × (w.id.node ≡ part)
    begun_all part there = by b
      where
        old : Contains begun part → (w : NodeRev) × IsMet look r (done ++ v ∷ []) w × (w.predecessor ≡ None) × (w.id.node ≡ part)
        old h = let w = m.begun_by part h in (w.0, met_more w.0 w.1, w.2, w.3)

        one : v.predecessor ≡ None → Contains begun part ⊎ (v.id.node ≡ part) → (w : NodeRev) × IsMet look r (done ++ v ∷ []) w × (w.predecessor ≡ None) × (w.id.node ≡ part)
        one none (inl h) = old h
        one none (inr same) = (v, inr (Contains-push done v), none, same)

        by : Begins r v begun begun_now → (w : NodeRev) × IsMet look r (done ++ v ∷ []) w × (w.predecessor ≡ None) × (w.id.node ≡ part)
        by (inl h) = one h.0 (Contains-push_cases begun v.id.node part (subst (λ (x : List Part). Contains x part) h.2 there))
        by (inr h) = old (subst (λ (x : List Part). Contains x part) h.1 there)

    -- none that was met has the node part of what begins
    begins_new : v.predecessor ≡ None → (w : NodeRev) → IsMet look r done w → w.predecessor ≡ None → w.id.node ≡ v.id.node → ⊥
    begins_new none w met nil same = (mine none).0.new (subst (λ (x : Part). Contains begun x) same (m.begins w met nil))

    once : (w u : NodeRev) → Contains (done ++ v ∷ []) w → IsMet look r (done ++ v ∷ []) u → w.predecessor ≡ None → u.predecessor ≡ None → w.id.node ≡ u.id.node → w.id ≡ u.id
    once w u there met none nil same = by (Contains-push_cases done v w there) (met_cases u met)
      where
        by : Contains done w ⊎ (v ≡ w) → IsMet look r done u ⊎ (v ≡ u) → w.id ≡ u.id
        by (inl x) (inl y) = m.begins_once w u x y none nil same
        by (inl x) (inr y) = absurd (begins_new (no_pred_of u y nil) w (inr x) none (same ∙ ap (λ (z : NodeRev). z.id.node) (sym y)))
        by (inr x) (inl y) = absurd (begins_new (no_pred_of w x none) u y nil (sym same ∙ ap (λ (z : NodeRev). z.id.node) (sym x)))
        by (inr x) (inr y) = ap (λ (z : NodeRev). z.id) (sym x ∙ y)

    now : (w : NodeRev) → Contains (done ++ v ∷ []) w → w.predecessor ≡ None → HasSuffix r w.id.node
    now w there none = by (Contains-push_cases done v w there)
      where
        by : Contains done w ⊎ (v ≡ w) → HasSuffix r w.id.node
        by (inl x) = m.begins_now w x none
        by (inr x) = subst (λ (z : NodeRev). HasSuffix r z.id.node) x (mine (no_pred_of w x none)).0.suffix

  module _ (t : BringsCopy r drawn v copied copied_now) where
    my_copy : (from : CopySource) → v.copy_from ≡ Some from → MayCopy r copied drawn v.id.copy × (copied_now ≡ copied ++ v.id.copy ∷ [])
    my_copy from is = by t
      where
        by : BringsCopy r drawn v copied copied_now → MayCopy r copied drawn v.id.copy × (copied_now ≡ copied ++ v.id.copy ∷ [])
        by (inl h) = absurd (let e = sym is ∙ h.0 in cc)
        by (inr h) = (h.2, h.3)

    copied_more : (part : Part) → Contains copied part → Contains copied_now part
    copied_more part there = by t
      where
        by : BringsCopy r drawn v copied copied_now → Contains copied_now part
        by (inl h) = subst (λ (x : List Part). Contains x part) (sym h.1) there
        by (inr h) = subst (λ (x : List Part). Contains x part) (sym h.3) (Contains-append_left copied (v.id.copy ∷ []) part there)

    copied_here : (from : CopySource) → v.copy_from ≡ Some from → Contains copied_now v.id.copy
    copied_here from is = subst (λ (x : List Part). Contains x v.id.copy) (sym (my_copy from is).1) (Contains-push copied v.id.copy)

    copies_all : (w : NodeRev) (from : CopySource) → IsMet look r (done ++ v ∷ []) w → w.copy_from ≡ Some from → Contains copied_now w.id.copy
    copies_all w from met is = by (met_cases w met)
      where
        by : IsMet look r done w ⊎ (v ≡ w) → Contains copied_now w.id.copy
        by (inl old) = copied_more w.id.copy (m.copies w from old is)
        by (inr same) = subst (λ (x : NodeRev). Contains copied_now x.id.copy) same (copied_here from (copy_of w from same is))

    copied_all : (part : Part) → Contains copied_now part → (w : NodeRev) × (from : CopySource) × IsMet look r (done ++ v ∷ []) w × (w.copy_from ≡ Some from) × (w.id.copy ≡ part)
    copied_all part there = by t
      where
        old : Contains copied part → (w : NodeRev) × (from : CopySource) × IsMet look r (done ++ v ∷ []) w × (w.copy_from ≡ Some from) × (w.id.copy ≡ part)
        old h = let w = m.copied_by part h in (w.0, w.1, met_more w.0 w.2, w.3, w.4)

        one : (from : CopySource) → v.copy_from ≡ Some from → Contains copied part ⊎ (v.id.copy ≡ part) → (w : NodeRev) × (from : CopySource) × IsMet look r (done ++ v ∷ []) w × (w.copy_from ≡ Some from) × (w.id.copy ≡ part)
        one from is (inl h) = old h
        one from is (inr same) = (v, from, inr (Contains-push done v), is, same)

        by : BringsCopy r drawn v copied copied_now → (w : NodeRev) × (from : CopySource) × IsMet look r (done ++ v ∷ []) w × (w.copy_from ≡ Some from) × (w.id.copy ≡ part)
        by (inl h) = old (subst (λ (x : List Part). Contains x part) h.1 there)
        by (inr h) = one h.0 h.1 (Contains-push_cases copied v.id.copy part (subst (λ (x : List Part). Contains x part) h.3 there))

    copies_new : (from other : CopySource) → v.copy_from ≡ Some from → (w : NodeRev) → IsMet look r done w → w.copy_from ≡ Some other → w.id.copy ≡ v.id.copy → ⊥
    copies_new from other is w met was same = (my_copy from is).0.new (subst (λ (x : Part). Contains copied x) same (m.copies w other met was))

    own : (w u : NodeRev) (from other : CopySource) → Contains (done ++ v ∷ []) w → IsMet look r (done ++ v ∷ []) u → w.copy_from ≡ Some from → u.copy_from ≡ Some other → w.id.copy ≡ u.id.copy → w.id ≡ u.id
    own w u from other there met is was same = by (Contains-push_cases done v w there) (met_cases u met)
      where
        by : Contains done w ⊎ (v ≡ w) → IsMet look r done u ⊎ (v ≡ u) → w.id ≡ u.id
        by (inl x) (inl y) = m.copies_once w u from other x y is was same
        by (inl x) (inr y) = absurd (copies_new other from (copy_of u other y was) w (inr x) is (same ∙ ap (λ (z : NodeRev). z.id.copy) (sym y)))
        by (inr x) (inl y) = absurd (copies_new from other (copy_of w from x is) u y was (sym same ∙ ap (λ (z : NodeRev). z.id.copy) (sym x)))
        by (inr x) (inr y) = ap (λ (z : NodeRev). z.id) (sym x ∙ y)

    alone : (part : Part) → Contains copied_now part → Contains drawn part → ⊥
    alone part there also = by t
      where
        one : MayCopy r copied drawn v.id.copy → Contains copied part ⊎ (v.id.copy ≡ part) → ⊥
        one may (inl old) = m.apart part old also
        one may (inr same) = may.not_drawn (subst (λ (x : Part). Contains drawn x) (sym same) also)

        by : BringsCopy r drawn v copied copied_now → ⊥
        by (inl h) = m.apart part (subst (λ (x : List Part). Contains x part) h.1 there) also
        by (inr h) = one h.2 (Contains-push_cases copied v.id.copy part (subst (λ (x : List Part). Contains x part) h.3 there))

  pub met_node : Begins r v begun begun_now → BringsCopy r drawn v copied copied_now → AreMet look r begun_now copied_now drawn (done ++ v ∷ [])
  met_node b t = record {
    begins = begins_all b;
    begun_by = begun_all b;
    begins_once = once b;
    begins_now = now b;
    copies = copies_all t;
    copied_by = copied_all t;
    copies_once = own t;
    draws = m.draws;
    drawn_by = m.drawn_by;
    apart = alone t;
  }
