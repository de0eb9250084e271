-- What steps and edits do to what the draft holds of its base.
use Rattle.std.proofs.Common.{◌≡◌, ℕ, not, Bool, true, false, ◌&&◌, ◌||◌, cond, [], ◌∷◌, ◌++◌, length, drop, refl, sym, ap, subst, ◌∙◌, inl, inr, append-nil, append_assoc}
use Rattle.std.specs.Prelude.{Option, Some, None, is_some}
use Rattle.std.proofs.Math.Bool.{and-true, or-false, or-true}
use Rattle.std.proofs.lemmas.Bool.{and_from, and_parts, and_left, and_right, cases_Bool}
use mathlib.Core.Bool.{false≢true}
use Rattle.fsfs_base.specs.Paths.{PathName, Path, same_name, covers}
use Rattle.fsfs_base.specs.declared.kind.Kind.{Kind}
use Rattle.fsfs_base.proofs.PathLemmas.{same_name-is, same_name-refl, covers-refl, covers-trans, covers-antisym, covers-longer, split_at, covers_front}
use Rattle.fsfs_tree.specs.Nodes.{Node, TreeFunction}
use Rattle.fsfs_model.specs.declared.flat.mark.What.{What}
use Rattle.fsfs_model.specs.declared.flat.mark.What.TheVariants as whats
use Rattle.fsfs_model.specs.Flat.Marks.{is_make}
use Rattle.fsfs_base.specs.declared.fields.txn_name.TxnName.{TxnName}
use Rattle.fsfs_revision.specs.Told.{RevisionBytes}
use Rattle.fsfs_noderev.specs.declared.node_id.NodeId.{NodeId}
use Rattle.fsfs_revision.specs.Shows.Reading.{DirEntry, named}
use Rattle.fsfs_revision.proofs.TreeLaw.{sound}
use Rattle.fsfs_draft.specs.Own.{OwnNode, Own, below, shared_under, has_entry, node_here, under, alone, nothing, with_child, with_node, lives, shared_at, opened}
use Rattle.fsfs_draft.specs.Sides.{goes_on_here, has_here, held}
use Rattle.fsfs_draft.specs.Marking.{has_props, IsMoved}
use Rattle.fsfs_draft.specs.Laying.{laid_own, Step, place_in, own_after, tree_before}
use Rattle.fsfs_draft.specs.Setting.{Setting, own_set}
use Rattle.fsfs_draft.specs.Moving.{IsOpened, IsCutOff, IsLaidAnew, StepsMove, EditsMove}
use Rattle.fsfs_draft.proofs.Here.{under_is, live_here, none_at, are_here}
use Rattle.fsfs_draft.proofs.Laying.{has_entry_of}
use Rattle.fsfs_draft.proofs.LayingKeeps.{stays_off, graft_here, at_name}
use Rattle.fsfs_model.proofs.LandedContents as landed
use Rattle.fsfs_draft.proofs.StepLaw.{no_head, was_shared}
use Rattle.fsfs_draft.proofs.SettingLaw.{stays_set}
use Rattle.fsfs_draft.proofs.SideLaw.{none_held}
use Rattle.fsfs_draft.proofs.MarkLaw.{held_front}
use Rattle.fsfs_draft.proofs.Moving.{same_choice, covers_same, above_more, above_child, longer_covers_not, held_goes, held_has, goes_shared, shared_held, live_above, held_graft, held_off, set_off}

module _ (look : RevisionBytes) (trees : ℕ → TreeFunction) (top base : ℕ) (txn : TxnName) (s : Step look trees top base txn) where
  abbrev Old : Own
  Old = under s.path s.own

  abbrev Child : Own
  Child = with_child (opened s.directory s.new) s.name (laid_own s.laid) Old

  live : lives s.path s.own ≡ true
  live = live_here look top base trees s.shown s.within txn s.before s.own s.draft s.path s.directory s.is_directory.here

  -- ---- the names of the directory

  base_front : (y : PathName) (r : Path) → is_some (trees base (s.path ++ y ∷ r)) ≡ true → is_some (trees base (s.path ++ y ∷ [])) ≡ true
  base_front y [] some = some
  base_front y (w ∷ r) some = let a = (sound look base (trees base) (s.shown base s.within)).is_tree.above (s.path ++ y ∷ []) (s.path ++ y ∷ w ∷ r) (above_more s.path y w r) some in ap (λ (o : Option Node). is_some o) a.1

  -- where the base is held, the entries have what the base has, as the directory did
  names_same : (y : PathName) (r : Path) → is_some (trees base (s.path ++ y ∷ r)) ≡ true → held s.own s.path ≡ true → is_some (named y s.entries) ≡ has_entry s.directory.entries y
  names_same y r some h = same_choice (is_some (named y s.entries)) (has_entry s.directory.entries y) (node_here (Old (y ∷ [])) Shared) (by (Old (y ∷ [])))
      ((are_here look top base trees s.shown s.within txn s.before s.own s.draft s.path s.directory s.is_directory.here s.entries s.is_directory.kind s.is_directory.listed).tree y [])
    where
      Shared : Option Node
      Shared = shared_under trees (Some s.directory) (shared_at trees s.path s.own (trees base)) (y ∷ [])

      on : goes_on_here (Some s.directory) ≡ true
      on = subst (λ (o : Option OwnNode). goes_on_here o ≡ true) s.is_directory.here (held_goes s.path s.own h)

      by : (o : Option OwnNode) → is_some (node_here o Shared) ≡ true
      by None = ap (λ (o : Option Node). is_some o) (goes_shared trees (Some s.directory) (shared_at trees s.path s.own (trees base)) on (y ∷ []) ∙ shared_held trees s.path s.own (trees base) h (y ∷ [])) ∙ base_front y r some
      by (Some v) = refl

  -- behind another name all is held as before
  inner_other : (q : Path) → is_some (trees base q) ≡ true → (y : PathName) (r : Path) → q ≡ s.path ++ y ∷ r → same_name s.name y ≡ false → held s.own s.path ≡ true
      → (has_here (Child []) y && held (below y Child) r) ≡ (has_here (Some s.directory) y && held (below y Old) r)
  inner_other q some y r is differs h =
      let names = ap (λ (o : Option DirEntry). is_some o) (s.laying.others y differs) ∙ names_same y r (subst (λ (p : Path). is_some (trees base p) ≡ true) is some) h in
      λ i. names i && held (λ t. cond (differs i) (laid_own s.laid t) (Old (y ∷ t))) r

  differs_of : (q : Path) → covers (place_in s) q ≡ false → (y : PathName) (r : Path) → q ≡ s.path ++ y ∷ r → same_name s.name y ≡ false
  differs_of q off y r is = by (same_name s.name y) refl
    where
      here : (same_name s.name y && true) ≡ false
      here = sym (covers_same s.path (s.name ∷ []) (y ∷ r)) ∙ ap (λ (p : Path). covers (place_in s) p) (sym is) ∙ off

      by : (b : Bool) → same_name s.name y ≡ b → same_name s.name y ≡ false
      by false e = e
      by true e = absurd (false≢true (sym here ∙ and_from _ _ e refl))

  off_place : (q : Path) → is_some (trees base q) ≡ true → covers (place_in s) q ≡ false → held (own_after s) q ≡ held s.own q
  off_place q some off = held_graft s.directory s.path s.own Child q s.is_directory.here refl (λ y r is h. inner_other q some y r is (differs_of q off y r is) h)

  -- what is at or below the place
  behind_place : (q : Path) → covers (place_in s) q ≡ true → (r : Path) × (q ≡ s.path ++ s.name ∷ r)
  behind_place q on = let r = drop (length (place_in s)) q in (r, sym (split_at (place_in s) q on) ∙ append_assoc s.path (s.name ∷ []) r)

  -- ---- something anew, or nothing more

  module _ (anew : IsLaidAnew s.laid) (lacks : s.laid ≡ None → named s.name s.new ≡ None) where
    laid_off : (r : Path) → (is_some (named s.name s.new) && held (laid_own s.laid) r) ≡ false
    laid_off r = by s.laid refl anew
      where
        none_goes : (v : OwnNode) → goes_on_here (Some v) ≡ false → (r : Path) → held (alone v) r ≡ false
        none_goes v off [] = off
        none_goes v off (y ∷ r) = and_left (goes_on_here (Some v)) (has_here (Some v) y && held (below y (alone v)) r) off

        by : (o : Option OwnNode) → s.laid ≡ o → IsLaidAnew o → (is_some (named s.name s.new) && held (laid_own o) r) ≡ false
        by None is a = and_left (is_some (named s.name s.new)) (held nothing r) (ap (λ (o : Option DirEntry). is_some o) (lacks is))
        by (Some v) is a = and_right (is_some (named s.name s.new)) (held (alone v) r) (none_goes v a r)

    at_place : (q : Path) → covers (place_in s) q ≡ true → held (own_after s) q ≡ false
    at_place q on =
        let w = behind_place q on in
        ap (held (own_after s)) w.1
        ∙ held_off s.path s.own Child s.name w.0 (ap (λ (b : Bool). is_some (named s.name s.new) && held (λ t. cond b (laid_own s.laid t) (Old (s.name ∷ t))) w.0) (same_name-refl s.name) ∙ laid_off w.0)

    cut_kept : (q : Path) → is_some (trees base q) ≡ true → held (own_after s) q ≡ (held s.own q && not (covers (place_in s) q))
    cut_kept q some = by (covers (place_in s) q) refl
      where
        by : (b : Bool) → covers (place_in s) q ≡ b → held (own_after s) q ≡ (held s.own q && not b)
        by false e = off_place q some e ∙ sym (and-true (held s.own q))
        by true e = at_place q e ∙ sym (and_right (held s.own q) false refl)

    not_cut : (q : Path) → held (own_after s) q ≡ true → covers (place_in s) q ≡ false
    not_cut q h = by (covers (place_in s) q) refl
      where
        by : (b : Bool) → covers (place_in s) q ≡ b → covers (place_in s) q ≡ false
        by false e = e
        by true e = absurd (false≢true (sym (at_place q e) ∙ h))

    cut_off : IsCutOff (trees base) (place_in s) s.own (own_after s)
    cut_off = record {
      kept = cut_kept;
      mine = λ q some h. stays_off (λ (o : Option OwnNode). is_some o) s.path s.name s.directory (opened s.directory s.new) (laid_own s.laid) s.own q s.is_directory.here refl (not_cut q h);
      props = λ q some h. stays_off has_props s.path s.name s.directory (opened s.directory s.new) (laid_own s.laid) s.own q s.is_directory.here refl (not_cut q h);
    }

  free : named s.name s.entries ≡ None → (q : Path) → is_some (trees base q) ≡ true → covers (place_in s) q ≡ true → held s.own q ≡ false
  free none q some on = by (held s.own q) refl
    where
      by : (b : Bool) → held s.own q ≡ b → held s.own q ≡ false
      by false e = e
      by true e =
          let w = behind_place q on in
          let h = subst (λ (p : Path). held s.own p ≡ true) w.1 e in
          let has = subst (λ (o : Option OwnNode). has_here o s.name ≡ true) s.is_directory.here (held_has s.path s.own s.name w.0 h) in
          let names = names_same s.name w.0 (subst (λ (p : Path). is_some (trees base p) ≡ true) w.1 some) (held_front s.path (s.name ∷ w.0) s.own h) in
          absurd (false≢true (sym (ap (λ (o : Option DirEntry). is_some o) none) ∙ names ∙ has))

  -- ---- what stood there, gone on from

  module _ (v : OwnNode) (id : NodeId) (is : s.laid ≡ Some v) (no_copy : v.node.copy_from ≡ None) (goes_on : v.node.predecessor ≡ Some id) (no_props : v.props ≡ None)
      (none : s.own (place_in s) ≡ None) (there : is_some (tree_before s (place_in s)) ≡ true) where
    no_entries : v.entries ≡ None
    no_entries = (s.laying.each v is).no_entries

    on : goes_on_here (Some v) ≡ true
    on = λ i. not (is_some (no_copy i)) && is_some (goes_on i)

    alone_held : (r : Path) → held (alone v) r ≡ true
    alone_held [] = on
    alone_held (y ∷ r) = and_from _ _ on (and_from _ _ (ap (λ (o : Option _). has_entry o y) no_entries) (none_held look top (below y (alone v)) (λ q. refl) r))

    none_below : (r : Path) → Old (s.name ∷ r) ≡ None
    none_below r = none_at look top base trees s.shown s.within txn s.before s.own s.draft s.path s.directory s.is_directory.here s.name (no_head look trees top base txn s none) r

    had : has_entry s.directory.entries s.name ≡ true
    had = let n = landed.there (tree_before s (place_in s)) there in (was_shared look trees top base txn s none n.0 n.1).0

    has : is_some (named s.name s.new) ≡ true
    has = has_entry_of look top base trees s.shown s.within txn s.before s.own s.draft s.path s.directory s.is_directory.here s.is_directory.kind s.name s.entries s.is_directory.listed s.laid s.new s.after s.laying v is

    laid_held : (r : Path) → held (laid_own s.laid) r ≡ true
    laid_held r = ap (λ (o : Option OwnNode). held (laid_own o) r) is ∙ alone_held r

    inner_this : (y : PathName) (r : Path) → same_name s.name y ≡ true → (has_here (Child []) y && held (below y Child) r) ≡ (has_here (Some s.directory) y && held (below y Old) r)
    inner_this y r same = subst (λ (z : PathName). (has_here (Child []) z && held (below z Child) r) ≡ (has_here (Some s.directory) z && held (below z Old) r)) (same_name-is s.name y same)
        (ap (λ (b : Bool). is_some (named s.name s.new) && held (λ t. cond b (laid_own s.laid t) (Old (s.name ∷ t))) r) (same_name-refl s.name)
        ∙ and_from _ _ has (laid_held r) ∙ sym (and_from _ _ had (none_held look top (below s.name Old) none_below r)))

    opened_kept : (q : Path) → is_some (trees base q) ≡ true → held (own_after s) q ≡ held s.own q
    opened_kept q some = held_graft s.directory s.path s.own Child q s.is_directory.here refl (λ y r at h. by y r at h (same_name s.name y) refl)
      where
        by : (y : PathName) (r : Path) → q ≡ s.path ++ y ∷ r → held s.own s.path ≡ true → (b : Bool) → same_name s.name y ≡ b → (has_here (Child []) y && held (below y Child) r) ≡ (has_here (Some s.directory) y && held (below y Old) r)
        by y r at h true e = inner_this y r e
        by y r at h false e = inner_other q some y r at e h

    now_at : (r : Path) → own_after s (place_in s ++ r) ≡ alone v r
    now_at r = at_name look top base trees s.shown s.within txn s.before s.own s.draft s.path s.directory s.is_directory.here s.is_directory.kind s.name s.entries s.is_directory.listed s.laid s.new s.after s.laying r
        ∙ ap (λ (o : Option OwnNode). laid_own o r) is

    was_at : (r : Path) → s.own (place_in s ++ r) ≡ None
    was_at r = ap s.own (append_assoc s.path (s.name ∷ []) r) ∙ sym (under_is s.path s.own (s.name ∷ r)) ∙ none_below r

    mine_at : (r : Path) → is_some (own_after s (place_in s ++ r)) ≡ (is_some (s.own (place_in s ++ r)) || covers (place_in s ++ r) (place_in s))
    mine_at [] = ap (λ (o : Option OwnNode). is_some o) (now_at [])
        ∙ sym (ap (λ (o : Option OwnNode). is_some o || covers (place_in s ++ []) (place_in s)) (was_at []) ∙ ap (λ (p : Path). covers p (place_in s)) (append-nil (place_in s)) ∙ covers-refl (place_in s))
    mine_at (y ∷ r) = ap (λ (o : Option OwnNode). is_some o) (now_at (y ∷ r))
        ∙ sym (ap (λ (o : Option OwnNode). is_some o || covers (place_in s ++ y ∷ r) (place_in s)) (was_at (y ∷ r)) ∙ longer_covers_not (place_in s) y r)

    mine_off : (q : Path) → covers (place_in s) q ≡ false → is_some (s.own q) ≡ (is_some (s.own q) || covers q (place_in s))
    mine_off q off = by (covers q (place_in s)) refl
      where
        above : covers q (place_in s) ≡ true → is_some (s.own q) ≡ true
        above c = elim (covers_front q s.path s.name c) [
          | inl up ↦ live_above q s.path s.own up live
          | inr same ↦ absurd (false≢true (sym off ∙ ap (covers (place_in s)) same ∙ covers-refl (place_in s)))
        ]

        by : (b : Bool) → covers q (place_in s) ≡ b → is_some (s.own q) ≡ (is_some (s.own q) || b)
        by false e = sym (or-false (is_some (s.own q)))
        by true e = above e ∙ sym (or-true (is_some (s.own q)))

    opened_mine : (q : Path) → is_some (own_after s q) ≡ (is_some (s.own q) || covers q (place_in s))
    opened_mine q = elim (cases_Bool (covers (place_in s) q)) [
      | inl on ↦ subst (λ (p : Path). is_some (own_after s p) ≡ (is_some (s.own p) || covers p (place_in s))) (split_at (place_in s) q on) (mine_at (drop (length (place_in s)) q))
      | inr off ↦ stays_off (λ (o : Option OwnNode). is_some o) s.path s.name s.directory (opened s.directory s.new) (laid_own s.laid) s.own q s.is_directory.here refl off ∙ mine_off q off
    ]

    props_at : (r : Path) → has_props (own_after s (place_in s ++ r)) ≡ has_props (s.own (place_in s ++ r))
    props_at [] = ap has_props (now_at []) ∙ ap (λ (o : Option _). is_some o) no_props ∙ sym (ap has_props (was_at []))
    props_at (y ∷ r) = ap has_props (now_at (y ∷ r)) ∙ sym (ap has_props (was_at (y ∷ r)))

    opened_props : (q : Path) → has_props (own_after s q) ≡ has_props (s.own q)
    opened_props q = elim (cases_Bool (covers (place_in s) q)) [
      | inl on ↦ subst (λ (p : Path). has_props (own_after s p) ≡ has_props (s.own p)) (split_at (place_in s) q on) (props_at (drop (length (place_in s)) q))
      | inr off ↦ stays_off has_props s.path s.name s.directory (opened s.directory s.new) (laid_own s.laid) s.own q s.is_directory.here refl off
    ]

    is_opened : IsOpened (trees base) (place_in s) s.own (own_after s)
    is_opened = record { kept = opened_kept; mine = λ q some h. opened_mine q; props = λ q some h. opened_props q }

-- ---- a text or properties that are set

module _ (look : RevisionBytes) (trees : ℕ → TreeFunction) (top base : ℕ) (txn : TxnName) (s : Setting look trees top base txn) where
  set_held : (q : Path) → held (own_set s) q ≡ held s.own q
  set_held q = held_graft s.was s.path s.own (with_node s.is (under s.path s.own)) q s.here (λ i. not (is_some (s.set.copy_from i)) && is_some (s.set.predecessor i))
      (λ y r at h i. has_entry (s.set.entries i) y && held (below y (under s.path s.own)) r)

  set_mine : (q : Path) → is_some (own_set s q) ≡ is_some (s.own q)
  set_mine q = stays_set (λ (o : Option OwnNode). is_some o) s.path s.was s.is s.own q s.here refl

  same_props : s.is.props ≡ s.was.props → (q : Path) → has_props (own_set s q) ≡ has_props (s.own q)
  same_props same q = stays_set has_props s.path s.was s.is s.own q s.here (ap (λ (o : Option _). is_some o) same)

  now_here : own_set s s.path ≡ Some s.is
  now_here = ap (own_set s) (sym (append-nil s.path)) ∙ graft_here s.path (with_node s.is (under s.path s.own)) s.own []

  new_props : is_some s.is.props ≡ true → (q : Path) → has_props (own_set s q) ≡ (has_props (s.own q) || (covers s.path q && covers q s.path))
  new_props some q = by (covers s.path q && covers q s.path) refl
    where
      by : (b : Bool) → (covers s.path q && covers q s.path) ≡ b → has_props (own_set s q) ≡ (has_props (s.own q) || b)
      by false e = ap has_props (set_off s.path s.is s.own q e) ∙ sym (or-false (has_props (s.own q)))
      by true e =
          let both = and_parts (covers s.path q) (covers q s.path) e in
          ap (λ (p : Path). has_props (own_set s p)) (sym (covers-antisym s.path q both.0 both.1)) ∙ ap has_props now_here ∙ some ∙ sym (or-true (has_props (s.own q)))

  module _ (kind : Kind) (own : Own) (opens : IsOpened (trees base) s.path own s.own) where
    set_kept : (q : Path) → is_some (trees base q) ≡ true → held (own_set s) q ≡ (held own q && true)
    set_kept q some = set_held q ∙ opens.kept q some ∙ sym (and-true (held own q))

    was_held : (q : Path) → held (own_set s) q ≡ true → held s.own q ≡ true
    was_held q h = sym (set_held q) ∙ h

    text_moves : s.is.props ≡ s.was.props → IsMoved (trees base) (record { path = s.path; kind = kind; what = whats.Text }) own (own_set s)
    text_moves same = record {
      kept = set_kept;
      mine = λ q some h. set_mine q ∙ opens.mine q some (was_held q h);
      props = λ q some h. same_props same q ∙ opens.props q some (was_held q h) ∙ sym (or-false (has_props (own q)));
    }

    prop_moves : is_some s.is.props ≡ true → IsMoved (trees base) (record { path = s.path; kind = kind; what = whats.Prop }) own (own_set s)
    prop_moves set = record {
      kept = set_kept;
      mine = λ q some h. set_mine q ∙ opens.mine q some (was_held q h);
      props = λ q some h. new_props set q ∙ ap (λ (b : Bool). b || (covers s.path q && covers q s.path)) (opens.props q some (was_held q h));
    }

pub steps_move : StepsMove
steps_move = record {
  opened = λ look trees top base txn s v id is no_copy goes_on no_props none there. is_opened look trees top base txn s v id is no_copy goes_on no_props none there;
  cut = λ look trees top base txn s anew lacks. cut_off look trees top base txn s anew lacks;
  free = λ look trees top base txn s none q some on. free look trees top base txn s none q some on;
  text = λ look trees top base txn s kind own same opens. text_moves look trees top base txn s kind own opens same;
  prop = λ look trees top base txn s kind own set opens. prop_moves look trees top base txn s kind own opens set;
}

-- ---- whole edits

module _ (base : TreeFunction) (p : Path) (x : PathName) (own between now : Own) (opens : IsOpened base p own between) (cuts : IsCutOff base (p ++ x ∷ []) between now) where
  cut_held : (q : Path) → is_some (base q) ≡ true → held now q ≡ true → (held between q ≡ true) × (not (covers (p ++ x ∷ []) q) ≡ true)
  cut_held q some h = and_parts (held between q) (not (covers (p ++ x ∷ []) q)) (sym (cuts.kept q some) ∙ h)

  cut_mine : (q : Path) → is_some (base q) ≡ true → held now q ≡ true → is_some (now q) ≡ (is_some (own q) || covers q p)
  cut_mine q some h = cuts.mine q some h ∙ opens.mine q some (cut_held q some h).0

  cut_props : (q : Path) → is_some (base q) ≡ true → held now q ≡ true → has_props (now q) ≡ (has_props (own q) || false)
  cut_props q some h = cuts.props q some h ∙ opens.props q some (cut_held q some h).0 ∙ sym (or-false (has_props (own q)))

  gone_moves : (kind : Kind) → IsMoved base (record { path = p ++ x ∷ []; kind = kind; what = whats.Gone }) own now
  gone_moves kind = record {
    kept = λ q some. cuts.kept q some ∙ ap (λ (b : Bool). b && not (covers (p ++ x ∷ []) q)) (opens.kept q some);
    mine = λ q some h. cut_mine q some h ∙ ap (λ (b : Bool). is_some (own q) || b) (sym (above_child q p x) ∙ ap (λ (b : Bool). covers q (p ++ x ∷ []) && b) (cut_held q some h).1 ∙ and-true (covers q (p ++ x ∷ [])));
    props = cut_props;
  }

  made_moves : (kind : Kind) (source : Option (ℕ × Path)) → ((q : Path) → is_some (base q) ≡ true → covers (p ++ x ∷ []) q ≡ true → held between q ≡ false) → IsMoved base (record { path = p ++ x ∷ []; kind = kind; what = whats.Make source }) own now
  made_moves kind source free = record {
    kept = λ q some. cuts.kept q some ∙ all_held q some ∙ opens.kept q some ∙ sym (and-true (held own q));
    mine = λ q some h. cut_mine q some h ∙ ap (λ (b : Bool). is_some (own q) || b) (sym (above_child q p x));
    props = cut_props;
  }
    where
      all_held : (q : Path) → is_some (base q) ≡ true → (held between q && not (covers (p ++ x ∷ []) q)) ≡ held between q
      all_held q some = by (covers (p ++ x ∷ []) q) refl
        where
          by : (b : Bool) → covers (p ++ x ∷ []) q ≡ b → (held between q && not b) ≡ held between q
          by false e = and-true (held between q)
          by true e = and_right (held between q) false refl ∙ sym (free q some e)

module _ (base : TreeFunction) (p : Path) (x : PathName) (own between now : Own) (first : IsOpened base p own between) (second : IsOpened base (p ++ x ∷ []) between now) where
  then_held : (q : Path) → is_some (base q) ≡ true → held now q ≡ true → held between q ≡ true
  then_held q some h = sym (second.kept q some) ∙ h

  either_covers : (q : Path) (a : Bool) → ((a || covers q p) || covers q (p ++ x ∷ [])) ≡ (a || covers q (p ++ x ∷ []))
  either_covers q true = refl
  either_covers q false = by (covers q p) refl
    where
      by : (b : Bool) → covers q p ≡ b → (b || covers q (p ++ x ∷ [])) ≡ covers q (p ++ x ∷ [])
      by false e = refl
      by true e = sym (covers-trans q p (p ++ x ∷ []) e (covers-longer p (x ∷ [])))

  then_opened : IsOpened base (p ++ x ∷ []) own now
  then_opened = record {
    kept = λ q some. second.kept q some ∙ first.kept q some;
    mine = λ q some h. second.mine q some h ∙ ap (λ (b : Bool). b || covers q (p ++ x ∷ [])) (first.mine q some (then_held q some h)) ∙ either_covers q (is_some (own q));
    props = λ q some h. second.props q some h ∙ first.props q some (then_held q some h);
  }

made_what : (base : TreeFunction) (p : Path) (x : PathName) (kind : Kind) (what : What) (own between now : Own) → is_make what ≡ true → IsOpened base p own between → IsCutOff base (p ++ x ∷ []) between now
    → ((q : Path) → is_some (base q) ≡ true → covers (p ++ x ∷ []) q ≡ true → held between q ≡ false) → IsMoved base (record { path = p ++ x ∷ []; kind = kind; what = what }) own now
made_what base p x kind (whats.Make source) own between now is opens cuts free = made_moves base p x own between now opens cuts kind source free
made_what base p x kind whats.Gone own between now is opens cuts free = absurd (false≢true is)
made_what base p x kind whats.Text own between now is opens cuts free = absurd (false≢true is)
made_what base p x kind whats.Prop own between now is opens cuts free = absurd (false≢true is)

pub edits_move : EditsMove
edits_move = record {
  made = made_what;
  opened = λ base p x own between now first second. then_opened base p x own between now first second;
  gone = λ base p x kind own between now opens cuts. gone_moves base p x own between now opens cuts kind;
}
