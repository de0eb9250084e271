-- Which paths a transaction made; so where its marks are outer.
use Rattle.std.proofs.Common.{◌≡◌, ℕ, inl, inr, not, Bool, true, false, ◌&&◌, ◌||◌, cond, List, [], ◌∷◌, ◌++◌, length, drop, refl, sym, ap, subst, ◌∙◌, append-nil, append_assoc}
use Rattle.std.specs.Prelude.{Option, Some, None, is_some}
use Rattle.std.specs.List.{list_any}
use Rattle.std.proofs.Math.Bool.{and-true, or-false, or-true}
use Rattle.std.proofs.lemmas.Bool.{and_from, and_parts, cases_Bool, false_from_ne_true}
use Rattle.std.proofs.lemmas.List.Folds.{list_any-append}
use Rattle.std.proofs.lemmas.Map.Views.{any-filter_same}
use mathlib.Core.Bool.{false≢true}
use Rattle.fsfs_base.specs.Paths.{PathName, Path, same_path, covers}
use Rattle.fsfs_base.proofs.PathLemmas.{same_name-refl, covers-refl, covers-trans, covers-either, split_at, same_path-is, same_path-refl}
use Rattle.fsfs_tree.specs.Nodes.{TreeFunction}
use Rattle.fsfs_model.specs.declared.flat.mark.Mark.{Mark}
use Rattle.fsfs_model.specs.declared.flat.mark.What.{What}
use Rattle.fsfs_model.specs.declared.flat.mark.What.TheVariants as whats
use Rattle.fsfs_model.specs.Flat.Marks.{any_covers, made, made_after, is_make, touches, is_gone, changes_props}
use Rattle.fsfs_model.proofs.Tests.{found, found_in}
use Rattle.fsfs_model.proofs.Owns.{made_push}
use Rattle.fsfs_base.specs.declared.fields.txn_name.TxnName.{TxnName}
use Rattle.fsfs_revision.specs.Told.{RevisionBytes}
use Rattle.fsfs_noderev.specs.declared.node_id.NodeId.{NodeId}
use Rattle.fsfs_noderev.specs.declared.node_rev.NodeRev.{NodeRev}
use Rattle.fsfs_revision.specs.Shows.Reading.{DirEntry, named, StandsAt}
use Rattle.fsfs_draft.specs.Own.{OwnNode, Own, below, shared_under, has_entry, in_own, draft_tree, alone, opened, under}
use Rattle.fsfs_draft.specs.Rules.{Above, at_top, Head, head_at, IsEntryOf, Rules, above_under, stands_under}
use Rattle.fsfs_draft.specs.Sides.{goes_on_here, has_here, held}
use Rattle.fsfs_draft.specs.Laying.{laid_own, stands_in, Step, place_in, own_after}
use Rattle.fsfs_draft.specs.Setting.{Setting, own_set}
use Rattle.fsfs_draft.specs.Drafts.{Folder, IsDraft}
use Rattle.fsfs_draft.specs.Marking.{has_props, IsMoved, IsUnmoved}
use Rattle.fsfs_draft.specs.Outer.{is_anew, AreMade, MadeIsKept, OuterIsHeld, EditsKeepMarks}
use Rattle.fsfs_draft.proofs.Here.{under_is, none_own, none_at, are_here, lives_there}
use Rattle.fsfs_draft.proofs.MarkingLaw.{marks_are_kept}
use Rattle.fsfs_draft.proofs.LayingKeeps.{stays_off, at_name}
use Rattle.fsfs_draft.proofs.StepLaw.{no_head}
use Rattle.fsfs_draft.proofs.SettingLaw.{stays_set}
use Rattle.fsfs_draft.proofs.SideLaw.{none_held}
use Rattle.fsfs_draft.proofs.MarkLaw.{held_front}
use Rattle.fsfs_draft.proofs.Moving.{held_goes, live_above}

-- ---- paths and tests

same_longer : (p : Path) (y : PathName) (r : Path) → same_path p (p ++ y ∷ r) ≡ false
same_longer [] y r = refl
same_longer (x ∷ p) y r = ap (λ (b : Bool). b && same_path p (p ++ y ∷ r)) (same_name-refl x) ∙ same_longer p y r

-- what isn't at or below a path isn't the path
same_off : (p q : Path) → covers p q ≡ false → same_path p q ≡ false
same_off p q off = false_from_ne_true (same_path p q) (λ e. false≢true (sym off ∙ ap (covers p) (sym (same_path-is p q e)) ∙ covers-refl p))

-- ---- the marks

-- a mark more
pushed : (marks : List Mark) (m : Mark) (q : Path) → list_any (λ p. same_path p q) (made (marks ++ m ∷ [])) ≡ list_any (λ p. same_path p q) (made_after (made marks) m.what m.path)
pushed marks m q = ap (list_any (λ p. same_path p q)) (made_push [] marks m)

pushed_make : (what : What) (ps : List Path) (p q : Path) → is_make what ≡ true → list_any (λ r. same_path r q) (made_after ps what p) ≡ (list_any (λ r. same_path r q) ps || same_path p q)
pushed_make (whats.Make source) ps p q is = list_any-append (λ r. same_path r q) ps (p ∷ []) ∙ ap (λ (b : Bool). list_any (λ r. same_path r q) ps || b) (or-false (same_path p q))
pushed_make whats.Gone ps p q is = absurd (false≢true is)
pushed_make whats.Text ps p q is = absurd (false≢true is)
pushed_make whats.Prop ps p q is = absurd (false≢true is)

pushed_gone : (ps : List Path) (p q : Path) → list_any (λ r. same_path r q) (made_after ps whats.Gone p) ≡ (not (covers p q) && list_any (λ r. same_path r q) ps)
pushed_gone ps p q = any-filter_same (λ r. same_path r q) (λ r. not (covers p r)) (not (covers p q)) (λ r same. ap (λ (s : Path). not (covers p s)) (same_path-is r q same)) ps

-- ---- a step

module _ (look : RevisionBytes) (trees : ℕ → TreeFunction) (top base : ℕ) (txn : TxnName) (s : Step look trees top base txn) where
  now_at : (r : Path) → own_after s (place_in s ++ r) ≡ laid_own s.laid r
  now_at r = at_name look top base trees s.shown s.within txn s.before s.own s.draft s.path s.directory s.is_directory.here s.is_directory.kind s.name s.entries s.is_directory.listed s.laid s.new s.after s.laying r

  off_place : (q : Path) → covers (place_in s) q ≡ false → is_anew (own_after s q) ≡ is_anew (s.own q)
  off_place q off = stays_off is_anew s.path s.name s.directory (opened s.directory s.new) (laid_own s.laid) s.own q s.is_directory.here refl off

  was_none : head_at (under s.path s.own (s.name ∷ [])) ≡ None → (r : Path) → s.own (place_in s ++ r) ≡ None
  was_none none r = ap s.own (append_assoc s.path (s.name ∷ []) r) ∙ sym (under_is s.path s.own (s.name ∷ r))
      ∙ none_at look top base trees s.shown s.within txn s.before s.own s.draft s.path s.directory s.is_directory.here s.name none r

  -- where the directory has nothing of the name, nothing of the transaction's stands there
  lacks_head : named s.name s.entries ≡ None → head_at (under s.path s.own (s.name ∷ [])) ≡ None
  lacks_head none = by (head_at (under s.path s.own (s.name ∷ []))) (subst (λ (o : Option DirEntry). IsEntryOf (λ u. stands_in look base s.own s.path s.directory (s.name ∷ []) u) o (head_at (under s.path s.own (s.name ∷ [])))) none
      ((are_here look top base trees s.shown s.within txn s.before s.own s.draft s.path s.directory s.is_directory.here s.entries s.is_directory.kind s.is_directory.listed).are s.name))
    where
      by : (h : Option Head) → IsEntryOf (λ u. stands_in look base s.own s.path s.directory (s.name ∷ []) u) None h → h ≡ None
      by None e = refl
      by (Some head) e = absurd e

  module _ (v : OwnNode) (is : s.laid ≡ Some v) (none : (r : Path) → s.own (place_in s ++ r) ≡ None) where
    anew_at : (r : Path) → is_anew (own_after s (place_in s ++ r)) ≡ is_anew (alone v r)
    anew_at r = ap is_anew (now_at r ∙ ap (λ (o : Option OwnNode). laid_own o r) is)

    anew_was : (r : Path) → is_anew (s.own (place_in s ++ r)) ≡ false
    anew_was r = ap is_anew (none r)

    alone_anew : (r : Path) → is_anew (alone v r) ≡ (is_anew (Some v) && same_path (place_in s) (place_in s ++ r))
    alone_anew [] = sym (ap (λ (b : Bool). is_anew (Some v) && b) (ap (same_path (place_in s)) (append-nil (place_in s)) ∙ same_path-refl (place_in s)) ∙ and-true (is_anew (Some v)))
    alone_anew (y ∷ r) = sym (ap (λ (b : Bool). is_anew (Some v) && b) (same_longer (place_in s) y r) ∙ by (is_anew (Some v)))
      where
        by : (b : Bool) → (b && false) ≡ false
        by true = refl
        by false = refl

    -- it is anew where it was, and at the place if what is laid is
    laid_anew : (q : Path) → is_anew (own_after s q) ≡ (is_anew (s.own q) || (is_anew (Some v) && same_path (place_in s) q))
    laid_anew q = elim (cases_Bool (covers (place_in s) q)) [
      | inl on ↦ subst (λ (p : Path). is_anew (own_after s p) ≡ (is_anew (s.own p) || (is_anew (Some v) && same_path (place_in s) p))) (split_at (place_in s) q on) (at (drop (length (place_in s)) q))
      | inr off ↦ off_place q off ∙ sym (ap (λ (b : Bool). is_anew (s.own q) || (is_anew (Some v) && b)) (same_off (place_in s) q off) ∙ ap (λ (b : Bool). is_anew (s.own q) || b) (by (is_anew (Some v))) ∙ or-false (is_anew (s.own q)))
    ]
      where
        by : (b : Bool) → (b && false) ≡ false
        by true = refl
        by false = refl

        at : (r : Path) → is_anew (own_after s (place_in s ++ r)) ≡ (is_anew (s.own (place_in s ++ r)) || (is_anew (Some v) && same_path (place_in s) (place_in s ++ r)))
        at r = anew_at r ∙ alone_anew r ∙ sym (ap (λ (b : Bool). b || (is_anew (Some v) && same_path (place_in s) (place_in s ++ r))) (anew_was r))

  opened_made : (v : OwnNode) (id : NodeId) (marks : List Mark) → s.laid ≡ Some v → v.node.copy_from ≡ None → v.node.predecessor ≡ Some id → s.own (place_in s) ≡ None → AreMade marks s.own → AreMade marks (own_after s)
  opened_made v id marks is no_copy goes_on none are q =
      are q ∙ sym (laid_anew v is (was_none (no_head look trees top base txn s none)) q
      ∙ ap (λ (b : Bool). is_anew (s.own q) || (b && same_path (place_in s) q)) (λ i. not (not (is_some (no_copy i)) && is_some (goes_on i)))
      ∙ or-false (is_anew (s.own q)))

  made_made : (v : OwnNode) (marks : List Mark) (m : Mark) → s.laid ≡ Some v → goes_on_here (Some v) ≡ false → named s.name s.entries ≡ None → m.path ≡ place_in s → is_make m.what ≡ true → AreMade marks s.own → AreMade (marks ++ m ∷ []) (own_after s)
  made_made v marks m is anew lacks path make are q =
      pushed marks m q ∙ pushed_make m.what (made marks) m.path q make ∙ (λ i. are q i || same_path (path i) q)
      ∙ sym (laid_anew v is (was_none (lacks_head lacks)) q ∙ ap (λ (b : Bool). is_anew (s.own q) || (not b && same_path (place_in s) q)) anew)

  gone_made : (marks : List Mark) (m : Mark) → s.laid ≡ None → m.path ≡ place_in s → m.what ≡ whats.Gone → AreMade marks s.own → AreMade (marks ++ m ∷ []) (own_after s)
  gone_made marks m is path gone are q =
      pushed marks m q ∙ (λ i. list_any (λ r. same_path r q) (made_after (made marks) (gone i) (path i))) ∙ pushed_gone (made marks) (place_in s) q ∙ by (covers (place_in s) q) refl
    where
      by : (b : Bool) → covers (place_in s) q ≡ b → (not b && list_any (λ r. same_path r q) (made marks)) ≡ is_anew (own_after s q)
      by false off = are q ∙ sym (off_place q off)
      by true on = sym (ap (λ (p : Path). is_anew (own_after s p)) (sym (split_at (place_in s) q on)) ∙ ap is_anew (now_at (drop (length (place_in s)) q) ∙ ap (λ (o : Option OwnNode). laid_own o (drop (length (place_in s)) q)) is))

-- ---- a text or properties that are set

module _ (look : RevisionBytes) (trees : ℕ → TreeFunction) (top base : ℕ) (txn : TxnName) (s : Setting look trees top base txn) where
  set_anew : (q : Path) → is_anew (own_set s q) ≡ is_anew (s.own q)
  set_anew q = stays_set is_anew s.path s.was s.is s.own q s.here (λ i. not (not (is_some (s.set.copy_from i)) && is_some (s.set.predecessor i)))

  text_made : (marks : List Mark) (m : Mark) → m.what ≡ whats.Text → AreMade marks s.own → AreMade (marks ++ m ∷ []) (own_set s)
  text_made marks m is are q = pushed marks m q ∙ (λ i. list_any (λ r. same_path r q) (made_after (made marks) (is i) m.path)) ∙ are q ∙ sym (set_anew q)

  prop_made : (marks : List Mark) (m : Mark) → m.what ≡ whats.Prop → AreMade marks s.own → AreMade (marks ++ m ∷ []) (own_set s)
  prop_made marks m is are q = pushed marks m q ∙ (λ i. list_any (λ r. same_path r q) (made_after (made marks) (is i) m.path)) ∙ are q ∙ sym (set_anew q)

begun_made : (v : OwnNode) → goes_on_here (Some v) ≡ true → AreMade [] (alone v)
begun_made v on [] = sym (ap not on)
begun_made v on (y ∷ q) = refl

pub made_is_kept : MadeIsKept
made_is_kept = record {
  begun = begun_made;
  opened = λ look trees top base txn s v id marks is no_copy goes_on none are. opened_made look trees top base txn s v id marks is no_copy goes_on none are;
  made = λ look trees top base txn s v marks m is anew lacks path make are. made_made look trees top base txn s v marks m is anew lacks path make are;
  gone = λ look trees top base txn s marks m is path gone are. gone_made look trees top base txn s marks m is path gone are;
  text = λ look trees top base txn s marks m is are. text_made look trees top base txn s marks m is are;
  prop = λ look trees top base txn s marks m is are. prop_made look trees top base txn s marks m is are;
}

-- ---- outer

-- where the base isn't held at a path of the tree, something at or above it stands anew
record IsAnewAbove (own : Own) (p : Path) : Type 0 where
  at : Path
  above : covers at p ≡ true
  anew : is_anew (own at) ≡ true

module _ (look : RevisionBytes) (top : ℕ) (trees : ℕ → TreeFunction) where
  anew_above : (p : Path) (own : Own) (above : Above) (S : Path → NodeRev → Type 0) (shared : TreeFunction) → Rules look top own above S → is_some (draft_tree trees own shared p) ≡ true → held own p ≡ false → IsAnewAbove own p
  anew_above [] own above S shared rules some off = record { at = []; above = refl; anew = ap not off }
  anew_above (x ∷ p) own above S shared rules some off = by (goes_on_here (own [])) refl
      (λ t there gap. anew_above p (below x own) (above_under (own []) above) (λ q u. stands_under look (own []) S (x ∷ q) u) t (λ q. rules (x ∷ q)) there gap)
    where
      Goal : Type 0
      Goal = IsAnewAbove own (x ∷ p)

      lower : IsAnewAbove (below x own) p → Goal
      lower w = record { at = x ∷ w.at; above = and_from _ _ (same_name-refl x) w.above; anew = w.anew }

      off_below : goes_on_here (own []) ≡ true → (has_here (own []) x && held (below x own) p) ≡ false
      off_below on = sym (ap (λ (b : Bool). b && (has_here (own []) x && held (below x own) p)) on) ∙ off

      inner : (o : Option OwnNode) → own [] ≡ o → is_some (in_own o x (shared (x ∷ p)) (draft_tree trees (below x own) (below x (shared_under trees o shared)) p)) ≡ true → (has_here o x && held (below x own) p) ≡ false
          → ((t : TreeFunction) → is_some (draft_tree trees (below x own) t p) ≡ true → held (below x own) p ≡ false → IsAnewAbove (below x own) p) → Goal
      inner None is there gap rest = absurd (false≢true (sym gap ∙ none_held look top (below x own) (λ q. none_own look top (x ∷ q) own above S rules is) p))
      inner (Some v) is there gap rest = has (has_entry v.entries x) refl
        where
          has : (b : Bool) → has_entry v.entries x ≡ b → Goal
          has true e = lower (rest (below x (shared_under trees (Some v) shared)) (sym (ap (λ (b : Bool). is_some (cond b (draft_tree trees (below x own) (below x (shared_under trees (Some v) shared)) p) None)) e) ∙ there) (sym (ap (λ (b : Bool). b && held (below x own) p) e) ∙ gap))
          has false e = absurd (false≢true (sym (ap (λ (b : Bool). is_some (cond b (draft_tree trees (below x own) (below x (shared_under trees (Some v) shared)) p) None)) e) ∙ there))

      by : (b : Bool) → goes_on_here (own []) ≡ b → ((t : TreeFunction) → is_some (draft_tree trees (below x own) t p) ≡ true → held (below x own) p ≡ false → IsAnewAbove (below x own) p) → Goal
      by false e rest = record { at = []; above = refl; anew = ap not e }
      by true e rest = inner (own []) refl some (off_below e) rest

held_above : (q p : Path) (own : Own) → covers q p ≡ true → held own p ≡ true → goes_on_here (own q) ≡ true
held_above q p own c h = held_goes q own (held_front q (drop (length q) p) own (subst (λ (r : Path). held own r ≡ true) (sym (split_at q p c)) h))

pub outer_is_held : OuterIsHeld
outer_is_held look trees top base shown le txn f own marks draft are p some = by (held own p) refl
  where
    by : (b : Bool) → held own p ≡ b → any_covers (made marks) p ≡ not b
    by true h = false_from_ne_true (any_covers (made marks) p) (λ c.
        let w = found (λ q. covers q p) (made marks) c in
        let goes = held_above w.0 p own w.2 h in
        false≢true (sym (ap not goes) ∙ sym (are w.0) ∙ found_in (λ r. same_path r w.0) (made marks) w.0 w.1 (same_path-refl w.0)))
    by false h =
        let w = anew_above look top trees p own at_top (StandsAt look base) (trees base) draft.rules some h in
        let m = found (λ r. same_path r w.at) (made marks) (are w.at ∙ w.anew) in
        found_in (λ q. covers q p) (made marks) m.0 m.1 (ap (λ (q : Path). covers q p) (same_path-is m.0 w.at m.2) ∙ w.above)

-- ---- a mark more, be it outer or not

gone_covers : (what : What) (p q : Path) → is_gone what p q ≡ true → covers p q ≡ true
gone_covers whats.Gone p q e = e
gone_covers (whats.Make source) p q e = absurd (false≢true e)
gone_covers whats.Text p q e = absurd (false≢true e)
gone_covers whats.Prop p q e = absurd (false≢true e)

touch_covers : (what : What) (p q : Path) → touches what p q ≡ true → covers q p ≡ true
touch_covers (whats.Make source) p q e = (and_parts (covers q p) (not (covers p q)) e).0
touch_covers whats.Gone p q e = e
touch_covers whats.Text p q e = e
touch_covers whats.Prop p q e = e

props_cover : (what : What) (p q : Path) → changes_props what p q ≡ true → covers p q ≡ true
props_cover whats.Prop p q e = (and_parts (covers p q) (covers q p) e).0
props_cover (whats.Make source) p q e = absurd (false≢true e)
props_cover whats.Gone p q e = absurd (false≢true e)
props_cover whats.Text p q e = absurd (false≢true e)

and_kept : (a b : Bool) → (b ≡ true → a ≡ false) → (a && not b) ≡ a
and_kept a true f = ap (λ (c : Bool). c && false) (f refl) ∙ sym (f refl)
and_kept a false f = and-true a

or_kept : (a b : Bool) → (b ≡ true → a ≡ true) → (a || b) ≡ a
or_kept a true f = or-true a ∙ sym (f refl)
or_kept a false f = or-false a

anew_some : (o : Option OwnNode) → is_anew o ≡ true → (v : OwnNode) × (o ≡ Some v)
anew_some None e = absurd (false≢true e)
anew_some (Some v) e = (v, refl)

module _ (look : RevisionBytes) (base : TreeFunction) (top rev : ℕ) (txn : TxnName) (f : Folder) (own now : Own) (marks : List Mark) (m : Mark) (draft : IsDraft look top rev txn f own) (are : AreMade marks own) (moved : IsMoved base m own now) where
  module _ (on : any_covers (made marks) m.path ≡ true) where
    abbrev at : Path
    at = (found (λ q. covers q m.path) (made marks) on).0

    at_covers : covers at m.path ≡ true
    at_covers = (found (λ q. covers q m.path) (made marks) on).2

    anew : is_anew (own at) ≡ true
    anew = sym (are at) ∙ found_in (λ r. same_path r at) (made marks) at (found (λ q. covers q m.path) (made marks) on).1 (same_path-refl at)

    -- below it the base is not held
    off_below : (q : Path) → covers at q ≡ true → held own q ≡ false
    off_below q c = false_from_ne_true (held own q) (λ h. false≢true (sym (ap not (held_above at q own c h)) ∙ anew))

    -- above it all is the transaction's own
    own_above : (q : Path) → covers q m.path ≡ true → held own q ≡ true → is_some (own q) ≡ true
    own_above q c h = elim (covers-either q at m.path c at_covers) [
      | inl up ↦ (let v = anew_some (own at) anew in live_above q at own up (lives_there look top at own at_top (StandsAt look rev) draft.rules v.0 v.1))
      | inr low ↦ absurd (false≢true (sym (off_below q low) ∙ h))
    ]

    same_held : (q : Path) → is_some (base q) ≡ true → held now q ≡ held own q
    same_held q some = moved.kept q some ∙ and_kept (held own q) (is_gone m.what m.path q) (λ e. off_below q (covers-trans at m.path q at_covers (gone_covers m.what m.path q e)))

    unmoved : IsUnmoved base own now
    unmoved = record {
      kept = same_held;
      mine = λ q some h. moved.mine q some h ∙ or_kept (is_some (own q)) (touches m.what m.path q) (λ e. own_above q (touch_covers m.what m.path q e) (sym (same_held q some) ∙ h));
      props = λ q some h. moved.props q some h
          ∙ or_kept (has_props (own q)) (changes_props m.what m.path q) (λ e. absurd (false≢true (sym (off_below q (covers-trans at m.path q at_covers (props_cover m.what m.path q e))) ∙ sym (same_held q some) ∙ h)));
    }

pub edits_keep_marks : EditsKeepMarks
edits_keep_marks look base top rev txn f own now marks m draft are says moved = elim (cases_Bool (any_covers (made marks) m.path)) [
  | inl on ↦ marks_are_kept.inner base marks m own now says on (unmoved look base top rev txn f own now marks m draft are moved on)
  | inr off ↦ marks_are_kept.outer base marks m own now says off moved
]
