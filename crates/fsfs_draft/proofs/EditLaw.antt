-- A whole edit leaves a draft, with the flat edit's tree and one mark more.
use Rattle.std.proofs.Common.{◌≡◌, ℕ, not, Bool, true, false, ◌&&◌, ◌||◌, cond, List, [], ◌∷◌, ◌++◌, refl, sym, ap, subst, ◌∙◌}
use Rattle.std.specs.Prelude.{Option, Some, None, is_some}
use Rattle.std.proofs.Math.Bool.{or-false, or-true}
use Rattle.std.proofs.lemmas.Bool.{false_from_ne_true}
use Rattle.std.proofs.lemmas.Option.{same_Some}
use mathlib.Core.Bool.{false≢true}
use Rattle.fsfs_base.specs.Paths.{PathName, Path, same_path, covers}
use Rattle.fsfs_base.proofs.PathLemmas.{covers-trans, covers-longer}
use Rattle.fsfs_tree.specs.Nodes.{Node, TreeFunction}
use Rattle.fsfs_model.specs.Flat.Edits.{with_node, with_copy, without, with_text, with_prop, copied_node, rest_after}
use Rattle.fsfs_model.specs.declared.flat.mark.Mark.{Mark}
use Rattle.fsfs_model.specs.declared.flat.mark.What.{What}
use Rattle.fsfs_model.specs.Flat.Marks.{is_make}
use Rattle.fsfs_base.specs.declared.fields.txn_name.TxnName.{TxnName}
use Rattle.fsfs_revision.specs.Told.{RevisionBytes}
use Rattle.fsfs_noderev.specs.declared.node_id.NodeId.{NodeId}
use Rattle.fsfs_noderev.specs.declared.node_rev.CopySource.{CopySource}
use Rattle.fsfs_noderev.specs.declared.changes.item.ChangeItem.{ChangeItem}
use Rattle.fsfs_revision.specs.Shows.Reading.{named, StandsAt}
use Rattle.fsfs_draft.specs.Own.{OwnNode, Own, draft_tree}
use Rattle.fsfs_draft.specs.Rules.{at_top}
use Rattle.fsfs_draft.specs.Drafts.{Folder, IsItemOf, AreItemsOf, bare}
use Rattle.fsfs_draft.specs.Sides.{HasFiles, goes_on_here, held, source_here}
use Rattle.fsfs_draft.specs.Whole.{IsDraftOf}
use Rattle.fsfs_draft.specs.Laying.{IsDrawnFor, Step, place_in, own_after, tree_before, shared_in}
use Rattle.fsfs_draft.specs.Setting.{Setting, own_set, tree_was}
use Rattle.fsfs_draft.specs.Marking.{IsMoved}
use Rattle.fsfs_draft.specs.Moving.{IsOpened, IsCutOff, IsLaidAnew}
use Rattle.fsfs_draft.specs.Outer.{AreMade}
use Rattle.fsfs_draft.specs.Edits.{IsOpenedTo, IsEdited, IsOpening, IsMarked, IsMake, IsCopy, IsDelete, IsText, IsProp, IsDraftAfter, EditsKeepDrafts}
use Rattle.fsfs_draft.proofs.Here.{lives_there}
use Rattle.fsfs_draft.proofs.Moving.{live_above}
use Rattle.fsfs_draft.proofs.StepLaw.{steps_are_edits, steps_keep_sides, was_shared}
use Rattle.fsfs_draft.proofs.SettingLaw.{settings_are_edits}
use Rattle.fsfs_draft.proofs.MovingLaw.{steps_move, edits_move}
use Rattle.fsfs_draft.proofs.OuterLaw.{made_is_kept, edits_keep_marks}

-- ---- trees without their numbers

module _ (tree draft : TreeFunction) (each : (q : Path) → bare (tree q) ≡ bare (draft q)) where
  bare_over : (p : Path) (n m : Option Node) → bare n ≡ bare m → (q : Path) → bare (with_node tree p n q) ≡ bare (with_node draft p m q)
  bare_over p n m same q = by (same_path q p)
    where
      by : (b : Bool) → bare (cond b n (tree q)) ≡ bare (cond b m (draft q))
      by true = same
      by false = each q

  bare_copy : (rev : ℕ) (of : TreeFunction) (from to : Path) (q : Path) → bare (with_copy tree rev of from to q) ≡ bare (with_copy draft rev of from to q)
  bare_copy rev of from to q = by (covers to q)
    where
      Copy : Option Node
      Copy = copied_node rev (from ++ rest_after to q) (of (from ++ rest_after to q))

      by : (b : Bool) → bare (cond b Copy (tree q)) ≡ bare (cond b Copy (draft q))
      by true = refl
      by false = each q

  bare_without : (p q : Path) → bare (without tree p q) ≡ bare (without draft p q)
  bare_without p q = by (covers p q)
    where
      by : (b : Bool) → bare (cond b None (tree q)) ≡ bare (cond b None (draft q))
      by true = refl
      by false = each q

  text_over : (bytes : List ℕ) (p : Path) → bare (with_text bytes (tree p)) ≡ bare (with_text bytes (draft p))
  text_over bytes p = commute (tree p) ∙ ap (with_text bytes) (each p) ∙ sym (commute (draft p))
    where
      commute : (o : Option Node) → bare (with_text bytes o) ≡ with_text bytes (bare o)
      commute None = refl
      commute (Some n) = refl

  prop_over : (name : List ℕ) (value : Option (List ℕ)) (p : Path) → bare (with_prop name value (tree p)) ≡ bare (with_prop name value (draft p))
  prop_over name value p = commute (tree p) ∙ ap (with_prop name value) (each p) ∙ sym (commute (draft p))
    where
      commute : (o : Option Node) → bare (with_prop name value o) ≡ with_prop name value (bare o)
      commute None = refl
      commute (Some n) = refl

-- ---- items and marks

items_push : (items : List ChangeItem) (marks : List Mark) (item : ChangeItem) (m : Mark) → AreItemsOf items marks → IsItemOf item m → AreItemsOf (items ++ item ∷ []) (marks ++ m ∷ [])
items_push [] [] item m are is = (is, tt)
items_push [] (n ∷ marks) item m are is = absurd are
items_push (i ∷ items) [] item m are is = absurd are
items_push (i ∷ items) (n ∷ marks) item m are is = (are.0, items_push items marks item m are.1 is)

marked_items : (before after : Folder) (marks : List Mark) (m : Mark) → AreItemsOf before.items marks → IsMarked before after m → AreItemsOf after.items (marks ++ m ∷ [])
marked_items before after marks m are is = subst (λ (items : List ChangeItem). AreItemsOf items (marks ++ m ∷ [])) (sym is.items) (items_push before.items marks is.item m are is.says)

-- a mark is its path, its kind and what it says
as_mark : (base : TreeFunction) (own now : Own) (m : Mark) (path : Path) (what : What) → m.path ≡ path → m.what ≡ what → IsMoved base (record { path = path; kind = m.kind; what = what }) own now → IsMoved base m own now
as_mark base own now m path what p w moved =
    subst (λ (t : Path). IsMoved base (record { path = t; kind = m.kind; what = m.what }) own now) (sym p) (subst (λ (k : What). IsMoved base (record { path = path; kind = m.kind; what = k }) own now) (sym w) moved)

copied_source : (rev : ℕ) (from : Path) (o : Option Node) (n : Node) → Some n ≡ copied_node rev from o → n.source ≡ Some (rev, from)
copied_source rev from None n e = absurd cc
copied_source rev from (Some k) n e = ap (λ (z : Node). z.source) (same_Some n (record k { source = Some (rev, from) }) e)

-- ---- a directory more

module _ (look : RevisionBytes) (trees : ℕ → TreeFunction) (top base : ℕ) (txn : TxnName) (tree : TreeFunction) (marks : List Mark) (own : Own) where
  has_more : (f : Folder) (now : Own) (p : Path) (x : PathName) (v : OwnNode) → IsOpenedTo look trees top base txn marks tree own p f now → now (p ++ x ∷ []) ≡ Some v → IsOpenedTo look trees top base txn marks tree own (p ++ x ∷ []) f now
  has_more f now p x v o here = record {
    draft = o.draft;
    each = o.each;
    items = o.items;
    files = o.files;
    once = o.once;
    sources = o.sources;
    made = o.made;
    opened = record { kept = o.opened.kept; mine = λ q some h. by q some h (covers q (p ++ x ∷ [])) refl; props = o.opened.props };
  }
    where
      low : (q : Path) → covers q (p ++ x ∷ []) ≡ false → covers q p ≡ false
      low q off = false_from_ne_true (covers q p) (λ c. false≢true (sym off ∙ covers-trans q p (p ++ x ∷ []) c (covers-longer p (x ∷ []))))

      by : (q : Path) → is_some (trees base q) ≡ true → held now q ≡ true → (b : Bool) → covers q (p ++ x ∷ []) ≡ b → is_some (now q) ≡ (is_some (own q) || covers q (p ++ x ∷ []))
      by q some h true e =
          live_above q (p ++ x ∷ []) now e (lives_there look top (p ++ x ∷ []) now at_top (StandsAt look base) o.draft.rules v here)
          ∙ sym (ap (λ (b : Bool). is_some (own q) || b) e ∙ or-true (is_some (own q)))
      by q some h false e = o.opened.mine q some h ∙ ap (λ (b : Bool). is_some (own q) || b) (low q e ∙ sym e)

  module _ (s : Step look trees top base txn) (o : IsOpenedTo look trees top base txn marks tree own s.path s.before s.own) where
    -- what is laid is one own node-revision
    of_laid : (P : OwnNode → Type 0) (v : OwnNode) → s.laid ≡ Some v → P v → (w : OwnNode) → s.laid ≡ Some w → P w
    of_laid P v laid h w is = subst P (same_Some v w (sym laid ∙ is)) h

    opens_more : (v : OwnNode) (id : NodeId) → IsOpening s v id → IsOpenedTo look trees top base txn marks tree own (place_in s) s.after (own_after s)
    opens_more v id is = record {
      draft = steps_are_edits.draft look trees top base txn s;
      each = λ q. o.each q ∙ ap bare (sym (steps_are_edits.changed look trees top base txn s v id is.laid is.no_copy is.goes_on is.free is.was q));
      items = subst (λ (items : List ChangeItem). AreItemsOf items marks) (sym is.items) o.items;
      files = steps_keep_sides.files look trees top base txn s o.files (of_laid HasFiles v is.laid is.files);
      once = steps_keep_sides.once look trees top base txn s o.once (of_laid (IsDrawnFor s.own s.directory) v is.laid is.drawn);
      sources = steps_keep_sides.sources look trees top base txn s o.sources (of_laid (λ w. w.shown.source ≡ source_here w.node.copy_from w.node.predecessor (shared_in s)) v is.laid (sym (λ i. source_here (is.no_copy i) (is.goes_on i) (shared i))));
      made = made_is_kept.opened look trees top base txn s v id marks is.laid is.no_copy is.goes_on is.free o.made;
      opened = edits_move.opened (trees base) s.path s.name own s.own (own_after s) o.opened
          (steps_move.opened look trees top base txn s v id is.laid is.no_copy is.goes_on is.no_props is.free (ap (λ (n : Option Node). is_some n) is.was));
    }
      where
        shared : shared_in s ≡ Some v.shown
        shared = (was_shared look trees top base txn s is.free v.shown is.was).1

    -- ---- something new, or a copy

    module _ (e : IsEdited look trees top base txn marks own) (v : OwnNode) (m : Mark) (laid : s.laid ≡ Some v) (off : goes_on_here (Some v) ≡ false) (lacks : named s.name s.entries ≡ None) (path : m.path ≡ place_in s) (make : is_make m.what ≡ true) where
      laid_cut : IsCutOff (trees base) (place_in s) s.own (own_after s)
      laid_cut = steps_move.cut look trees top base txn s (subst IsLaidAnew (sym laid) off) (λ none. (let w = sym laid ∙ none in absurd cc))

      laid_moves : IsMoved (trees base) m own (own_after s)
      laid_moves = as_mark (trees base) own (own_after s) m (place_in s) m.what path refl
          (edits_move.made (trees base) s.path s.name m.kind m.what own s.own (own_after s) make o.opened laid_cut (steps_move.free look trees top base txn s lacks))

      laid_after : (new : TreeFunction) → ((q : Path) → bare (new q) ≡ bare (draft_tree trees (own_after s) (trees base) q)) → HasFiles v → IsDrawnFor s.own s.directory v
          → v.shown.source ≡ source_here v.node.copy_from v.node.predecessor (shared_in s) → IsMarked s.before s.after m → IsDraftAfter look trees top base txn s.after new (marks ++ m ∷ [])
      laid_after new each files drawn source marked = (
        record {
          shows = record {
            own = own_after s;
            is_draft = steps_are_edits.draft look trees top base txn s;
            each = each;
            items = marked_items s.before s.after marks m o.items marked;
          };
          files = steps_keep_sides.files look trees top base txn s o.files (of_laid HasFiles v laid files);
          once = steps_keep_sides.once look trees top base txn s o.once (of_laid (IsDrawnFor s.own s.directory) v laid drawn);
          says = edits_keep_marks look (trees base) top base txn e.folder own (own_after s) marks m e.draft e.made e.says laid_moves;
          sources = steps_keep_sides.sources look trees top base txn s o.sources (of_laid (λ w. w.shown.source ≡ source_here w.node.copy_from w.node.predecessor (shared_in s)) v laid source);
        },
        made_is_kept.made look trees top base txn s v marks m laid off lacks path make o.made,
      )

    made_after : (v : OwnNode) (m : Mark) → IsEdited look trees top base txn marks own → IsMake s v m → IsDraftAfter look trees top base txn s.after (with_node tree (place_in s) (Some v.shown)) (marks ++ m ∷ [])
    made_after v m e is = laid_after e v m is.laid (λ i. not (is_some (is.no_copy i)) && is_some (is.no_predecessor i)) is.lacks is.path (ap is_make is.what) (with_node tree (place_in s) (Some v.shown))
        (λ q. bare_over tree (tree_before s) o.each (place_in s) (Some v.shown) (Some v.shown) refl q ∙ ap bare (sym (steps_are_edits.made look trees top base txn s v is.laid is.no_copy is.no_predecessor is.lacks q)))
        is.files is.drawn (is.no_source ∙ sym (λ i. source_here (is.no_copy i) (is.no_predecessor i) (shared_in s))) is.marked

    copied_after : (v : OwnNode) (from : CopySource) (m : Mark) → IsEdited look trees top base txn marks own → IsCopy s v from m → IsDraftAfter look trees top base txn s.after (with_copy tree from.rev (trees from.rev) from.path (place_in s)) (marks ++ m ∷ [])
    copied_after v from m e is = laid_after e v m is.laid (ap (λ (c : Option CopySource). not (is_some c) && is_some v.node.predecessor) is.copy) is.lacks is.path (ap is_make is.what) (with_copy tree from.rev (trees from.rev) from.path (place_in s))
        (λ q. bare_copy tree (tree_before s) o.each from.rev (trees from.rev) from.path (place_in s) q ∙ ap bare (sym (steps_are_edits.copied look trees top base txn s v from is.laid is.copy is.shown q)))
        is.files is.drawn (copied_source from.rev from.path (trees from.rev from.path) v.shown is.shown ∙ sym (ap (λ (c : Option CopySource). source_here c v.node.predecessor (shared_in s)) is.copy)) is.marked

    -- ---- something taken away

    none_laid : {A : Type 0} → s.laid ≡ None → (w : OwnNode) → s.laid ≡ Some w → A
    none_laid none w is = let e = sym none ∙ is in absurd cc

    gone_after : (m : Mark) → IsEdited look trees top base txn marks own → IsDelete s m → IsDraftAfter look trees top base txn s.after (without tree (place_in s)) (marks ++ m ∷ [])
    gone_after m e is = (
      record {
        shows = record {
          own = own_after s;
          is_draft = steps_are_edits.draft look trees top base txn s;
          each = λ q. bare_without tree (tree_before s) o.each (place_in s) q ∙ ap bare (sym (steps_are_edits.gone look trees top base txn s is.laid is.lacks q));
          items = marked_items s.before s.after marks m o.items is.marked;
        };
        files = steps_keep_sides.files look trees top base txn s o.files (λ w at. none_laid is.laid w at);
        once = steps_keep_sides.once look trees top base txn s o.once (λ w at. none_laid is.laid w at);
        says = edits_keep_marks look (trees base) top base txn e.folder own (own_after s) marks m e.draft e.made e.says
            (as_mark (trees base) own (own_after s) m (place_in s) _ is.path is.what (edits_move.gone (trees base) s.path s.name m.kind own s.own (own_after s) o.opened
            (steps_move.cut look trees top base txn s (subst IsLaidAnew (sym is.laid) tt) (λ none. is.lacks))));
        sources = steps_keep_sides.sources look trees top base txn s o.sources (λ w at. none_laid is.laid w at);
      },
      made_is_kept.gone look trees top base txn s marks m is.laid is.path is.what o.made,
    )

  -- ---- a text or properties that are set

  module _ (s : Setting look trees top base txn) (o : IsOpenedTo look trees top base txn marks tree own s.path s.before s.own) (e : IsEdited look trees top base txn marks own) (m : Mark) where
    set_after : (new : TreeFunction) → ((q : Path) → bare (new q) ≡ bare (draft_tree trees (own_set s) (trees base) q)) → HasFiles s.is → s.is.shown.source ≡ s.was.shown.source → IsMoved (trees base) m own (own_set s) → AreMade (marks ++ m ∷ []) (own_set s)
        → IsMarked s.before s.after m → IsDraftAfter look trees top base txn s.after new (marks ++ m ∷ [])
    set_after new each files source moved made marked = (
      record {
        shows = record {
          own = own_set s;
          is_draft = settings_are_edits.draft look trees top base txn s;
          each = each;
          items = marked_items s.before s.after marks m o.items marked;
        };
        files = settings_are_edits.files look trees top base txn s o.files files;
        once = settings_are_edits.once look trees top base txn s o.once;
        says = edits_keep_marks look (trees base) top base txn e.folder own (own_set s) marks m e.draft e.made e.says moved;
        sources = settings_are_edits.sources look trees top base txn s o.sources source;
      },
      made,
    )

    text_after : (bytes : List ℕ) → IsText s bytes m → IsDraftAfter look trees top base txn s.after (with_node tree s.path (with_text bytes (tree s.path))) (marks ++ m ∷ [])
    text_after bytes is = set_after (with_node tree s.path (with_text bytes (tree s.path)))
        (λ q. bare_over tree (tree_was s) o.each s.path (with_text bytes (tree s.path)) (with_text bytes (tree_was s s.path)) (text_over tree (tree_was s) o.each bytes s.path) q ∙ ap bare (sym (settings_are_edits.text look trees top base txn s bytes is.shown q)))
        is.files (ap (λ (n : Node). n.source) is.shown)
        (as_mark (trees base) own (own_set s) m s.path _ is.path is.what (steps_move.text look trees top base txn s m.kind own is.same_props o.opened))
        (made_is_kept.text look trees top base txn s marks m is.what o.made) is.marked

    prop_after : (name : List ℕ) (value : Option (List ℕ)) → IsProp s name value m → IsDraftAfter look trees top base txn s.after (with_node tree s.path (with_prop name value (tree s.path))) (marks ++ m ∷ [])
    prop_after name value is = set_after (with_node tree s.path (with_prop name value (tree s.path)))
        (λ q. bare_over tree (tree_was s) o.each s.path (with_prop name value (tree s.path)) (with_prop name value (tree_was s s.path)) (prop_over tree (tree_was s) o.each name value s.path) q ∙ ap bare (sym (settings_are_edits.prop look trees top base txn s name value is.shown q)))
        is.files (ap (λ (n : Node). n.source) is.shown)
        (as_mark (trees base) own (own_set s) m s.path _ is.path is.what (steps_move.prop look trees top base txn s m.kind own is.own_props o.opened))
        (made_is_kept.prop look trees top base txn s marks m is.what o.made) is.marked

-- ---- the law

root_opened : (look : RevisionBytes) (trees : ℕ → TreeFunction) (top base : ℕ) (txn : TxnName) (f : Folder) (tree : TreeFunction) (marks : List Mark) (d : IsDraftOf look trees top base txn f tree marks) → IsOpened (trees base) [] d.shows.own d.shows.own
root_opened look trees top base txn f tree marks d = record { kept = λ q some. refl; mine = λ q some h. by q; props = λ q some h. refl }
  where
    by : (q : Path) → is_some (d.shows.own q) ≡ (is_some (d.shows.own q) || covers q [])
    by [] = ap (λ (o : Option OwnNode). is_some o) d.shows.is_draft.root_is ∙ sym (or-true (is_some (d.shows.own [])))
    by (y ∷ q) = sym (or-false (is_some (d.shows.own (y ∷ q))))

pub edits_keep_drafts : EditsKeepDrafts
edits_keep_drafts = record {
  begins = λ look trees top base txn f tree marks d made. record {
    draft = d.shows.is_draft;
    each = d.shows.each;
    items = d.shows.items;
    files = d.files;
    once = d.once;
    sources = d.sources;
    made = made;
    opened = root_opened look trees top base txn f tree marks d;
  };
  has = λ look trees top base txn f tree marks own now p x v o here. has_more look trees top base txn tree marks own f now p x v o here;
  opens = λ look trees top base txn s tree marks own v id o is. opens_more look trees top base txn tree marks own s o v id is;
  make = λ look trees top base txn s tree marks own v m e o is. made_after look trees top base txn tree marks own s o v m e is;
  copy = λ look trees top base txn s tree marks own v from m e o is. copied_after look trees top base txn tree marks own s o v from m e is;
  delete = λ look trees top base txn s tree marks own m e o is. gone_after look trees top base txn tree marks own s o m e is;
  text = λ look trees top base txn s tree marks own bytes m e o is. text_after look trees top base txn tree marks own s o e m bytes is;
  prop = λ look trees top base txn s tree marks own name value m e o is. prop_after look trees top base txn tree marks own s o e m name value is;
}
