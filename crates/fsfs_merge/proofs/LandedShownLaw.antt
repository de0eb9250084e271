-- What a merge leaves of a draft shows the landing.
use Rattle.fsfs_revision.proofs.Revisions.{shown_revisions}
use Rattle.std.proofs.Common.{◌≡◌, ◌≤◌, ◌<◌, ◌⊎◌, ℕ, suc, not, Bool, true, false, ◌&&◌, cond, List, [], ◌∷◌, ◌++◌, refl, sym, ap, subst, ◌∙◌, arith, inl, inr, append-nil, append_assoc}
use Rattle.std.specs.Prelude.{Option, Some, None, is_some, ◌||◌, if◌then◌else◌}
use mathlib.Core.Bool.{false≢true}
use Rattle.fsfs_base.specs.Paths.{PathName, Path, covers}
use Rattle.fsfs_tree.specs.Nodes.{Node, TreeFunction, Content, Bytes}
use Rattle.fsfs_base.specs.declared.kind.Kind.{Kind}
use Rattle.fsfs_base.specs.declared.kind.Kind.TheVariants.{File, Dir}
use Rattle.fsfs_model.specs.declared.flat.mark.Mark.{Mark}
use Rattle.fsfs_model.specs.declared.flat.mark.Effects.{Effects}
use Rattle.fsfs_model.specs.Flat.Marks.{effects}
use Rattle.fsfs_model.specs.Flat.Landing.{held_by_own, held_by_head, chosen, numbered, numbered_some, land, NoClash, reached}
use Rattle.fsfs_base.specs.declared.fields.txn_name.TxnName.{TxnName}
use Rattle.fsfs_revision.specs.Told.{RevisionBytes}
use Rattle.fsfs_noderev.specs.declared.node_id.NodeId.{NodeId}
use Rattle.fsfs_noderev.specs.declared.node_rev.CopySource.{CopySource}
use Rattle.fsfs_noderev.specs.declared.node_rev.NodeRev.{NodeRev}
use Rattle.fsfs_revision.specs.Shows.Reading.{DirEntry, StandsAt}
use Rattle.fsfs_revision.specs.Shows.Shown.{IsTextOf}
use Rattle.fsfs_base.proofs.PathLemmas.{same_name-is, covers-trans, covers-either, covers-longer}
use Rattle.fsfs_model.proofs.MergeWalk.{goes_gone, reached_above}
use Rattle.fsfs_draft.specs.Own.{OwnNode, Own, has_entry, draft_tree, shared_from, shared_under, shared_at}
use Rattle.fsfs_draft.specs.Rules.{ComesBy, Change, Copied, Made, stands_at, above_at, at_top, above_of}
use Rattle.fsfs_draft.specs.Drafts.{Folder, IsDraftText, IsDraft, bare, ShowTrees}
use Rattle.fsfs_draft.specs.OwnSides.{NodesAt}
use Rattle.fsfs_draft.specs.Met.{draft_nodes, AreNodes}
use Rattle.fsfs_draft.specs.Sides.{OwnFiles, DrawnOnce, held, goes_on_here, AreMarksOf, source_here, OwnSources}
use Rattle.fsfs_draft.proofs.Bases.{revision_agrees, met_there}
use Rattle.fsfs_draft.proofs.Placing.{Place, Mine, Shared, got}
use Rattle.fsfs_draft.proofs.Placing as placing
use Rattle.fsfs_draft.proofs.HangLaw.{some_same}
use Rattle.fsfs_draft.proofs.HangLaw as hanging
use Rattle.fsfs_draft.proofs.SideLaw as sides
use Rattle.fsfs_draft.proofs.DrawLaw.{shared_last}
use Rattle.fsfs_draft.proofs.DrawLaw as drawing
use Rattle.fsfs_merge.specs.declared.sight.Sight.{Sight}
use Rattle.fsfs_merge.specs.Walks.{merges, stays, down, is_own, merged}
use Rattle.fsfs_merge.specs.Laws.{AreSame}
use Rattle.fsfs_merge.specs.MergeLaws.{IsMerge, is_merged, landed_nodes}
use Rattle.fsfs_merge.proofs.Sides.{since, head_quiet}
use Rattle.fsfs_merge.proofs.MergedLaw.{own_here}
use Rattle.fsfs_merge.proofs.MergeLaw.{Through, Stopped, way, Taken, FromOwn, FromHead, HeadSame, OwnSame, pre, taken_at, own_of, leaves}
use Rattle.fsfs_merge.specs.LandedOwn.{relinked_own, landed_own, AreLists, IsLandedFolder}
use Rattle.fsfs_merge.specs.LandedShown.{LandedIsShown, LandingsAreShown}
use Rattle.fsfs_merge.proofs.LandedOwnLaw.{OwnNow, Link, Kept}
use Rattle.fsfs_merge.proofs.LandedOwnLaw as landing
use Rattle.std.proofs.lemmas.Bool.{and_parts, both_ways, cases_Bool, leb-true}

-- ---- two nodes, but for their numbers

-- kind, text, properties and source make a bare node
bare_same : (x y : Node) → x.kind ≡ y.kind → x.text ≡ y.text → x.properties ≡ y.properties → x.source ≡ y.source → bare (Some x) ≡ bare (Some y)
bare_same x y a c d e = λ i. Some (record { kind = a i; text = c i; properties = d i; source = e i; added = 0; props_changed = 0; last_changed = 0 })

bare_text : (o u : Option Node) (x y : Node) → o ≡ Some x → u ≡ Some y → bare o ≡ bare u → (x.kind ≡ y.kind) × (x.text ≡ y.text)
bare_text None u x y a c e = absurd cc
bare_text (Some n) None x y a c e = absurd cc
bare_text (Some n) (Some m) x y a c e =
    let two : (record n { added = 0; props_changed = 0; last_changed = 0 }) ≡ (record m { added = 0; props_changed = 0; last_changed = 0 }) = cc in
    let one : n ≡ x = cc in
    let other : m ≡ y = cc in
    (ap (λ (z : Node). z.kind) (sym one) ∙ ap (λ (z : Node). z.kind) two ∙ ap (λ (z : Node). z.kind) other, ap (λ (z : Node). z.text) (sym one) ∙ ap (λ (z : Node). z.text) two ∙ ap (λ (z : Node). z.text) other)

text_numbered : (k : ℕ) (d : Effects) (own : Bool) (s : Option Node) (m : Node) → (numbered k d own s m).text ≡ m.text
text_numbered k d true s m = refl
text_numbered k d false None m = refl
text_numbered k d false (Some s) m = refl

kind_numbered : (k : ℕ) (d : Effects) (own : Bool) (s : Option Node) (m : Node) → (numbered k d own s m).kind ≡ m.kind
kind_numbered k d true s m = refl
kind_numbered k d false None m = refl
kind_numbered k d false (Some s) m = refl

-- a directory has no text
abbrev NoText : Option Node → Type 0
NoText o = (x : Node) → o ≡ Some x → x.kind ≡ Dir → x.text ≡ Bytes []

chosen_no_text : (d : Effects) (a s t : Option Node) → NoText s → NoText t → NoText (chosen d a s t)
chosen_no_text d a s t hs ht = by (held_by_own d a && not d.rewritten) (is_some a || is_some t)
  where
    by : (x y : Bool) → NoText (if x then s else (if y then t else s))
    by true y = hs
    by false true = ht
    by false false = hs

landed_no_text : (k : ℕ) (d : Effects) (own : Bool) (s c : Option Node) → NoText c → NoText (numbered_some k d own s c)
landed_no_text k d own s None h x e dir = absurd cc
landed_no_text k d own s (Some m) h x e dir =
    let one : numbered k d own s m ≡ x = cc in
    ap (λ (z : Node). z.text) (sym one) ∙ text_numbered k d own s m ∙ h m refl (sym (kind_numbered k d own s m) ∙ ap (λ (z : Node). z.kind) one ∙ dir)

same_bare : (o u : Option Node) → AreSame o u → NoText o → NoText u → bare o ≡ bare u
same_bare None None s a c = refl
same_bare None (Some y) s a c = absurd s
same_bare (Some x) None s a c = absurd s
same_bare (Some x) (Some y) s a c = by x.kind refl
  where
    by : (k : Kind) → x.kind ≡ k → bare (Some x) ≡ bare (Some y)
    by File e = bare_same x y s.kind (s.text e) s.properties s.source
    by Dir e = bare_same x y s.kind (a x refl e ∙ sym (c y refl (sym s.kind ∙ e))) s.properties s.source

text_of_dir : (look : RevisionBytes) (k : Kind) (u : NodeRev) (text : Content) → k ≡ Dir → IsTextOf look k u text → text ≡ Bytes []
text_of_dir look Dir u text e h = h
text_of_dir look File u text e h = absurd cc

no_own : (m : Bool) (y : Option NodeRev) (entries : List DirEntry) (o : Option OwnNode) → relinked_own m y entries o ≡ None → o ≡ None
no_own false y entries o e = e
no_own true y entries None e = refl
no_own true None entries (Some v) e = e
no_own true (Some y) entries (Some v) e = absurd cc

front_of : (f : Path → Bool) (r q : Path) → reached f q ≡ true → covers r q ≡ true → reached f r ≡ true
front_of f [] q w c = refl
front_of f (x ∷ r) [] w c = absurd (false≢true c)
front_of f (x ∷ r) (y ∷ q) w c =
    let e : x ≡ y = same_name-is x y ((and_parts _ _ c).0) in
    Rattle.std.proofs.lemmas.Bool.and_from _ _ ((and_parts _ _ w).0) (front_of (λ z. f (x ∷ z)) r q (subst (λ (v : List ℕ). reached (λ z. f (v ∷ z)) q ≡ true) (sym e) ((and_parts _ _ w).1)) ((and_parts _ _ c).1))

module _ (look : RevisionBytes) (top : ℕ) (tree : ℕ → TreeFunction) (b h k : ℕ) (t : TreeFunction) (marks : List Mark) (nodes : ℕ → NodesAt) (see : Path → Sight) (txn : TxnName) (f g : Folder) (own : Own) (lists : Path → List DirEntry)
    (are : AreNodes look top nodes) (is : IsMerge look top tree b h t marks (nodes b) (nodes h) (draft_nodes nodes own (nodes b)) see) (less : b < h) (clear : NoClash b (tree b) (tree h) t marks)
    (draft : IsDraft look top b txn f own) (files : OwnFiles own) (once : DrawnOnce own) (say : AreMarksOf (tree b) marks own) (sources : OwnSources tree (tree b) own)
    (each : (p : Path) → bare (t p) ≡ bare (draft_tree tree own (tree b) p))
    (listing : AreLists see (nodes h) (draft_nodes nodes own (nodes b)) lists) (folder : IsLandedFolder f g (landed_own see (nodes h) lists own)) where
  abbrev after : Own
  after = landed_own see (nodes h) lists own

  abbrev met : NodesAt
  met = draft_nodes nodes own (nodes b)

  abbrev now : NodesAt
  now = landed_nodes see (nodes h) met

  shown : ShowTrees look top tree
  shown = is.shows.each

  le : b ≤ top
  le = let x = is.order in let y = is.within in omega arith

  next : IsDraft look top h txn g after
  next = landing.landed_draft look top tree b h t marks nodes see txn f own lists are is clear draft files once less say listing g folder

  abbrev was : Path → OwnNode → TreeFunction
  was p d = placing.tree_below look top b tree nodes shown are le txn f own draft p d

  abbrev will : Path → OwnNode → TreeFunction
  will p d = placing.tree_below look top h tree nodes shown are is.within txn g after next p d

  came : (p : Path) (v : OwnNode) → after p ≡ Some v → OwnNow look top tree b h t marks nodes see txn f own lists are is clear draft files once p v
  came p v e = landing.own_now look top tree b h t marks nodes see txn f own lists are is clear draft files once p v e

  -- an own node-revision, before and after
  record Two (p : Path) (v : OwnNode) : Type 0 where
    old : OwnNode
    here : own p ≡ Some old
    copy : v.node.copy_from ≡ old.node.copy_from
    goes : is_some v.node.predecessor ≡ is_some old.node.predecessor
    same : v.shown ≡ old.shown
    stay : is_own see p ≡ true

  two : (p : Path) (v : OwnNode) → after p ≡ Some v → Two p v
  two p v e = by (came p v e)
    where
      by : OwnNow look top tree b h t marks nodes see txn f own lists are is clear draft files once p v → Two p v
      by (Kept here o m) = record { old = v; here = here; copy = refl; goes = refl; same = refl; stay = o }
      by (Link m l) = record {
        old = l.old;
        here = l.here;
        copy = ap (λ (z : OwnNode). z.node.copy_from) l.same;
        goes = ap (λ (z : OwnNode). is_some z.node.predecessor) l.same ∙ sym (ap (λ (o : Option NodeId). is_some o) (ap (λ (z : NodeRev). z.predecessor) l.old_is ∙ l.at.next.predecessor));
        same = ap (λ (z : OwnNode). z.shown) l.same;
        stay = elim (cases_Bool (is_own see p)) [
          | inl o ↦ o
          | inr o ↦ absurd (let q = sym e ∙ ap (λ (x : Bool). if x then relinked_own (is_merged see p) (nodes h p) (lists p) (own p) else None) o in cc)
        ];
      }

  -- ---- what stands below an own one is what the base and the head have there, or the same before and after

  data Both (p : Path) (v d : OwnNode) : Type 0 where
    Held : ((q : Path) → was p d q ≡ tree b (p ++ q)) → ((q : Path) → will p v q ≡ tree h (p ++ q)) → Both p v d
    Equal : held own p ≡ false → ((q : Path) → was p d q ≡ will p v q) → Both p v d

  both_as : (p : Path) (v d e : OwnNode) → d ≡ e → Both p v d → Both p v e
  both_as p v d e same two = subst (λ (z : OwnNode). Both p v z) same two

  through : (c : Option CopySource) (o : Option NodeId) (S : TreeFunction) (q : Path) → c ≡ None → is_some o ≡ true → shared_from tree c o S q ≡ S q
  through None (Some id) S q e h = refl
  through None None S q e h = absurd cc
  through (Some from) o S q e h = absurd cc

  fixed : (c e : Option CopySource) (o u : Option NodeId) (S T : TreeFunction) (q : Path) → c ≡ e → (is_some c ≡ true) ⊎ ((is_some o ≡ false) × (is_some u ≡ false)) → shared_from tree c o S q ≡ shared_from tree e u T q
  fixed (Some from) (Some other) o u S T q e h = let same : from ≡ other = cc in ap (λ (z : CopySource). Rattle.fsfs_model.specs.Flat.Edits.copied_node z.rev (z.path ++ q) (tree z.rev (z.path ++ q))) same
  fixed None None None None S T q e h = refl
  fixed None (Some x) o u S T q e h = absurd cc
  fixed (Some x) None o u S T q e h = absurd cc
  fixed None None (Some i) u S T q e (inl x) = absurd (false≢true x)
  fixed None None (Some i) u S T q e (inr x) = absurd (false≢true (sym x.0))
  fixed None None None (Some i) S T q e (inl x) = absurd (false≢true x)
  fixed None None None (Some i) S T q e (inr x) = absurd (false≢true (sym x.1))

  -- not held: a copy, or new
  off_here : (p : Path) (d : OwnNode) → own p ≡ Some d → goes_on_here (Some d) ≡ false → held own p ≡ false
  off_here p d here off = elim (cases_Bool (held own p)) [
    | inr w ↦ w
    | inl w ↦ (let x = (Rattle.fsfs_draft.proofs.SideLaw.held_at look top nodes p own at_top (StandsAt look b) (nodes b) draft.rules w refl).mine d here in
        absurd (false≢true (sym off ∙ (λ i. not (is_some (x.0.no_copy i)) && is_some (x.0.on.predecessor i)))))
  ]

  not_goes : (c : Option CopySource) (o : Option NodeId) → (is_some c ≡ true) ⊎ (is_some o ≡ false) → (not (is_some c) && is_some o) ≡ false
  not_goes (Some x) o h = refl
  not_goes None None h = refl
  not_goes None (Some x) (inl e) = absurd (false≢true e)
  not_goes None (Some x) (inr e) = absurd (false≢true (sym e))

  -- where it comes by nothing that stood there
  apart : (p : Path) (v : OwnNode) (w : Two p v) → (is_some w.old.node.copy_from ≡ true) ⊎ (is_some w.old.node.predecessor ≡ false) → Both p v w.old
  apart p v w is = Equal (off_here p w.old w.here (not_goes w.old.node.copy_from w.old.node.predecessor is))
      (λ q. fixed w.old.node.copy_from v.node.copy_from w.old.node.predecessor v.node.predecessor (shared_at tree p own (tree b)) (shared_at tree p after (tree h)) q (sym w.copy) (which is))
    where
      which : (is_some w.old.node.copy_from ≡ true) ⊎ (is_some w.old.node.predecessor ≡ false) → (is_some w.old.node.copy_from ≡ true) ⊎ ((is_some w.old.node.predecessor ≡ false) × (is_some v.node.predecessor ≡ false))
      which (inl e) = inl e
      which (inr e) = inr (e, w.goes ∙ e)

  abbrev BothAt : Path → Type 0
  BothAt p = (v : OwnNode) (e : after p ≡ Some v) → Both p v (two p v e).old

  both_root : BothAt []
  both_root v e =
      let w = two [] v e in
      by w.old w.here (λ i. w.copy i) w.goes (hanging.comes look top b tree nodes shown are le txn f own draft [] w.old w.here)
    where
      by : (d : OwnNode) → own [] ≡ Some d → v.node.copy_from ≡ d.node.copy_from → is_some v.node.predecessor ≡ is_some d.node.predecessor → ComesBy look top (StandsAt look b) at_top d → Both [] v d
      by d here copy goes (Change u at no_copy on keeps root part) =
          let some = ap (λ (o : Option NodeId). is_some o) on.predecessor in
          Held (λ q. through d.node.copy_from d.node.predecessor (tree b) q no_copy some) (λ q. through v.node.copy_from v.node.predecessor (tree h) q (copy ∙ no_copy) (goes ∙ some))
      by d here copy goes (Copied u from same low at on keeps root part) =
          let one = some_same (own []) d draft.root here draft.root_is in
          let z = sym same ∙ ap (λ (z : OwnNode). z.node.copy_from) one ∙ draft.root_id.2 in absurd cc
      by d here copy goes (Made no_copy no_pred count root part new) =
          let one = some_same (own []) d draft.root here draft.root_is in
          let z = sym draft.root_id.0 ∙ ap (λ (z : OwnNode). Rattle.fsfs_noderev.specs.Ids.part_value z.node.id.node) (sym one) ∙ new.1 in absurd cc

  both_step : (p : Path) (name : PathName) → BothAt p → BothAt (p ++ name ∷ [])
  both_step p name up v e =
      let w = two (p ++ name ∷ []) v e in
      let a = hanging.own_above look top h tree nodes shown are is.within txn g after next p name v e in
      let o = two p a.0 a.1 in
      by w a.0 o.old o.here a.1 (up a.0 a.1) (placing.child_comes look top b tree nodes shown are le txn f own draft p o.old o.here name w.old w.here)
    where
      by : (w : Two (p ++ name ∷ []) v) (d' d : OwnNode) (here : own p ≡ Some d) → after p ≡ Some d' → Both p d' d
          → ComesBy look top (λ r u. placing.Stands look top b tree nodes shown are le txn f own draft p d (name ∷ r) u) (above_of d.node) w.old → Both (p ++ name ∷ []) v w.old
      by w d' d here is' up (Copied u from same low at on keeps root part) = apart (p ++ name ∷ []) v w (inl (ap (λ (c : Option CopySource). is_some c) same))
      by w d' d here is' up (Made no_copy no_pred count root part new) = apart (p ++ name ∷ []) v w (inr (ap (λ (o : Option NodeId). is_some o) no_pred))
      by w d' d here is' up (Change u at no_copy on keeps root part) = change up
        where
          some : is_some w.old.node.predecessor ≡ true
          some = ap (λ (o : Option NodeId). is_some o) on.predecessor

          old_below : (q : Path) → was (p ++ name ∷ []) w.old q ≡ was p d (name ∷ q)
          old_below q = through w.old.node.copy_from w.old.node.predecessor (shared_at tree (p ++ name ∷ []) own (tree b)) q no_copy some
              ∙ shared_last tree p name own (tree b) q ∙ ap (λ (o : Option OwnNode). shared_under tree o (shared_at tree p own (tree b)) (name ∷ q)) here

          new_below : (q : Path) → will (p ++ name ∷ []) v q ≡ will p d' (name ∷ q)
          new_below q = through v.node.copy_from v.node.predecessor (shared_at tree (p ++ name ∷ []) after (tree h)) q (w.copy ∙ no_copy) (w.goes ∙ some)
              ∙ shared_last tree p name after (tree h) q ∙ ap (λ (o : Option OwnNode). shared_under tree o (shared_at tree p after (tree h)) (name ∷ q)) is'

          change : Both p d' d → Both (p ++ name ∷ []) v w.old
          change (Held x y) = Held (λ q. old_below q ∙ x (name ∷ q) ∙ ap (tree b) (sym (append_assoc p (name ∷ []) q))) (λ q. new_below q ∙ y (name ∷ q) ∙ ap (tree h) (sym (append_assoc p (name ∷ []) q)))
          change (Equal off x) = Equal (not_below off) (λ q. old_below q ∙ x (name ∷ q) ∙ sym (new_below q))
            where
              not_below : held own p ≡ false → held own (p ++ name ∷ []) ≡ false
              not_below off = elim (cases_Bool (held own (p ++ name ∷ []))) [
                | inr z ↦ z
                | inl z ↦ absurd (false≢true (sym off ∙ Rattle.fsfs_draft.proofs.MarkLaw.held_front p (name ∷ []) own z))
              ]

  both_from : (rest front : Path) → BothAt front → BothAt (front ++ rest)
  both_from [] front c = subst BothAt (sym (append-nil front)) c
  both_from (name ∷ rest) front c = subst BothAt (append_assoc front (name ∷ []) rest) (both_from rest (front ++ name ∷ []) (both_step front name c))

  both : (p : Path) → BothAt p
  both p = both_from p [] both_root

  -- ---- what stays, stands in the head as in the base, or the base lacks it

  data Stay (p : Path) : Type 0 where
    Merged : is_merged see p ≡ true → Stay p
    Quiet : tree h p ≡ tree b p → Stay p
    Lacks : tree b p ≡ None → Stay p

  none_is : (o : Option Node) → is_some o ≡ false → o ≡ None
  none_is None e = refl
  none_is (Some x) e = absurd (false≢true (sym e))

  stay_at : (p : Path) → is_own see p ≡ true → Stay p
  stay_at p o = elim (way see p) [
    | Through r m ↦ Merged (λ i. r i && m i)
    | Stopped q c r m n ↦ by q c (own_of look top tree b h t marks (nodes b) (nodes h) met see is 0 clear p q c r m (stays (see q)) refl) (taken_at look top tree b h t marks (nodes b) (nodes h) met see is 0 clear q r m)
  ]
    where
      by : (q : Path) → covers q p ≡ true → is_own see p ≡ stays (see q) → Taken b (effects marks q) (tree b q) (tree h q) (t q) (stays (see q)) → Stay p
      by q c same (FromOwn none lacks s) = Lacks (elim (cases_Bool (is_some (tree b p))) [
        | inr w ↦ none_is (tree b p) w
        | inl w ↦ absurd (both_ways _ none ((pre look top tree b h t marks (nodes b) (nodes h) met see is 0 clear).closed_base q p c w))
      ])
      by q c same (FromHead none lacks s) = absurd (false≢true (sym s ∙ sym same ∙ o))
      by q c same (HeadSame some quiet s) = Quiet (head_quiet tree top b h t marks (shown_revisions look top tree is.shows) is.transaction is.order is.within q p c quiet)
      by q c same (OwnSame some quiet s) = absurd (false≢true (sym s ∙ sym same ∙ o))

  at_merged : (p : Path) → is_merged see p ≡ true → landing.At look top tree b h t marks nodes see txn f own lists are is clear draft files once p
  at_merged p m = landing.merged_at look top tree b h t marks nodes see txn f own lists are is clear draft files once p m

  -- ---- sources

  one_source : (p : Path) (x y : Node) → is_own see p ≡ true → tree b p ≡ Some x → tree h p ≡ Some y → x.source ≡ y.source
  one_source p x y o e u = by (stay_at p o)
    where
      by : Stay p → x.source ≡ y.source
      by (Quiet same) = ap (λ (z : Node). z.source) (some_same (tree b p) x y e (sym same ∙ u))
      by (Lacks none) = let z = sym none ∙ e in absurd cc
      by (Merged m) =
          let d = at_merged p m in
          let hold = subst (λ (z : Option Node). held_by_head b z ≡ true) u ((and_parts (is_some (tree b p) && not (effects marks p).deleted) (held_by_head b (tree h p)) d.goes).1) in
          let w = (since tree top b h t marks (shown_revisions look top tree is.shows) is.transaction is.order is.within).older p y u (leb-true y.added b hold) in
          ap (λ (z : Node). z.source) (some_same (tree b p) x w.0 e w.1) ∙ w.2.source

  landed_sources : OwnSources tree (tree h) after
  landed_sources p v e =
      let w = two p v e in
      ap (λ (z : Node). z.source) w.same ∙ sources p w.old w.here
      ∙ by w.old w.here w.stay w.copy w.goes (both p v e) (hanging.comes look top b tree nodes shown are le txn f own draft p w.old w.here)
      ∙ ap (λ (c : Option CopySource). source_here c v.node.predecessor (shared_at tree p after (tree h) [])) (sym w.copy)
    where
      flat : (c : Option CopySource) (o u : Option NodeId) (x y : Option Node) → (is_some c ≡ true) ⊎ ((is_some o ≡ false) × (is_some u ≡ false)) → source_here c o x ≡ source_here c u y
      flat (Some from) o u x y is = refl
      flat None None None x y is = refl
      flat None (Some i) u x y (inl z) = absurd (false≢true z)
      flat None (Some i) u x y (inr z) = absurd (false≢true (sym z.0))
      flat None None (Some i) x y (inl z) = absurd (false≢true z)
      flat None None (Some i) x y (inr z) = absurd (false≢true (sym z.1))

      going : (c : Option CopySource) (o u : Option NodeId) (x y : Option Node) → c ≡ None → is_some o ≡ true → is_some u ≡ true → ((x ≡ y) ⊎ ((m n : Node) × (x ≡ Some m) × (y ≡ Some n) × (m.source ≡ n.source))) → source_here c o x ≡ source_here c u y
      going None (Some i) (Some j) x y e f g (inl same) = same_source x y same
        where
          same_source : (x y : Option Node) → x ≡ y → source_here None (Some i) x ≡ source_here None (Some j) y
          same_source None None e = refl
          same_source None (Some n) e = absurd cc
          same_source (Some m) None e = absurd cc
          same_source (Some m) (Some n) e = let one : m ≡ n = cc in ap (λ (z : Node). z.source) one
      going None (Some i) (Some j) x y e f g (inr (m, n, a, c, s)) = ap (λ (z : Option Node). source_here None (Some i) z) a ∙ s ∙ sym (ap (λ (z : Option Node). source_here None (Some j) z) c)
      going None None u x y e f g is = absurd cc
      going None (Some i) None x y e f g is = absurd cc
      going (Some from) o u x y e f g is = absurd cc

      by : (d : OwnNode) → own p ≡ Some d → is_own see p ≡ true → v.node.copy_from ≡ d.node.copy_from → is_some v.node.predecessor ≡ is_some d.node.predecessor → Both p v d
          → ComesBy look top (λ r w. stands_at look p own (StandsAt look b) r w) (above_at p own at_top) d
          → source_here d.node.copy_from d.node.predecessor (shared_at tree p own (tree b) []) ≡ source_here d.node.copy_from v.node.predecessor (shared_at tree p after (tree h) [])
      by d here o copy goes two (Copied u from same low at on keeps root part) = flat d.node.copy_from d.node.predecessor v.node.predecessor (shared_at tree p own (tree b) []) (shared_at tree p after (tree h) []) (inl (ap (λ (c : Option CopySource). is_some c) same))
      by d here o copy goes two (Made no_copy no_pred count root part new) =
          let none = ap (λ (o : Option NodeId). is_some o) no_pred in
          flat d.node.copy_from d.node.predecessor v.node.predecessor (shared_at tree p own (tree b) []) (shared_at tree p after (tree h) []) (inr (none, goes ∙ none))
      by d here o copy goes two (Change u at no_copy on keeps root part) =
          let some = ap (λ (o : Option NodeId). is_some o) on.predecessor in
          let old = through d.node.copy_from d.node.predecessor (shared_at tree p own (tree b)) [] no_copy some in
          let new = through v.node.copy_from v.node.predecessor (shared_at tree p after (tree h)) [] (copy ∙ no_copy) (goes ∙ some) in
          going d.node.copy_from d.node.predecessor v.node.predecessor (shared_at tree p own (tree b) []) (shared_at tree p after (tree h) []) no_copy some (goes ∙ some) (which old new two)
        where
          which : was p d [] ≡ shared_at tree p own (tree b) [] → will p v [] ≡ shared_at tree p after (tree h) [] → Both p v d
              → (shared_at tree p own (tree b) [] ≡ shared_at tree p after (tree h) []) ⊎ ((m n : Node) × (shared_at tree p own (tree b) [] ≡ Some m) × (shared_at tree p after (tree h) [] ≡ Some n) × (m.source ≡ n.source))
          which old new (Equal off x) = inl (sym old ∙ x [] ∙ new)
          which old new (Held x y) =
              let a = (placing.hangs_here look top b tree nodes shown are le txn f own draft p d here).agrees.shown [] u at in
              let w = (hanging.comes look top h tree nodes shown are is.within txn g after next p v e) in
              let c = at_head w in
              let old_is : tree b p ≡ Some a.0 = ap (tree b) (sym (append-nil p)) ∙ sym (x []) ∙ old ∙ a.1 in
              let new_is : tree h p ≡ Some c.0 = ap (tree h) (sym (append-nil p)) ∙ sym (y []) ∙ new ∙ c.1 in
              inr (a.0, c.0, a.1, c.1, one_source p a.0 c.0 o old_is new_is)
            where
              at_head : ComesBy look top (λ r w. stands_at look p after (StandsAt look h) r w) (above_at p after at_top) v → (n : Node) × (shared_at tree p after (tree h) [] ≡ Some n)
              at_head (Change z there plain further keep rooted partly) = let s = (placing.hangs_here look top h tree nodes shown are is.within txn g after next p v e).agrees.shown [] z there in (s.0, s.1)
              at_head (Copied z from same low there further keep rooted partly) = let q = sym same ∙ copy ∙ no_copy in absurd cc
              at_head (Made plain none count rooted partly new) = absurd (false≢true (sym (ap (λ (o : Option NodeId). is_some o) none) ∙ goes ∙ ap (λ (o : Option NodeId). is_some o) on.predecessor))

  -- ---- the tree

  abbrev before : TreeFunction
  before = draft_tree tree own (tree b)

  abbrev shows : TreeFunction
  shows = draft_tree tree after (tree h)

  head_no_text : (p : Path) → NoText (tree h p)
  head_no_text p x e dir =
      let u = met_there look h (tree h) (shown h is.within) p (tree h p) refl (ap (λ (o : Option Node). is_some o) e) in
      let w = (revision_agrees look h (tree h) (shown h is.within) top is.within).shown p u.0 u.1 in
      let one = some_same (tree h p) w.0 x w.1 e in
      ap (λ (z : Node). z.text) (sym one) ∙ text_of_dir look u.0.kind u.0 w.0.text (sym w.2.kind ∙ ap (λ (z : Node). z.kind) one ∙ dir) w.2.text

  before_no_text : (p : Path) → NoText (before p)
  before_no_text p x e dir = by (hanging.placed look top b tree nodes shown are le txn f own draft p)
    where
      own_text : (kind : Kind) (d : OwnNode) → kind ≡ Dir → IsDraftText look f.proto kind d d.shown.text → d.shown.text ≡ Bytes []
      own_text Dir d e h = h
      own_text File d e h = absurd cc

      by : Place own p → x.text ≡ Bytes []
      by (Mine d here) =
          let one = some_same (before p) d.shown x (placing.shown_own look top b tree nodes shown are le txn f own draft p d here) e in
          let c = draft.contents p d here in
          ap (λ (z : Node). z.text) (sym one) ∙ own_text d.node.kind d (sym c.kind ∙ ap (λ (z : Node). z.kind) one ∙ dir) c.text
      by (Shared a y rest d path here none) =
          let hang = hanging.hangs look top b tree nodes shown are le txn f own draft a d here in
          let m = got (has_entry d.entries y) (was a d (y ∷ rest)) x (sym (placing.shown_shared look top b tree nodes shown are le txn f own draft a d here y rest none) ∙ ap before (sym path) ∙ e) in
          let u = hang.there (y ∷ rest) (ap (λ (o : Option Node). is_some o) m.1) in
          let w = hang.agrees.shown (y ∷ rest) u.0 u.1 in
          let one = some_same (was a d (y ∷ rest)) w.0 x w.1 m.1 in
          ap (λ (z : Node). z.text) (sym one) ∙ text_of_dir look u.0.kind u.0 w.0.text (sym w.2.kind ∙ ap (λ (z : Node). z.kind) one ∙ dir) w.2.text

  t_no_text : (p : Path) → NoText (t p)
  t_no_text p x e dir = by (before p) refl
    where
      by : (o : Option Node) → before p ≡ o → x.text ≡ Bytes []
      by None g = absurd (let q = ap (λ (z : Option Node). bare z) (sym e) ∙ each p ∙ ap (λ (z : Option Node). bare z) g in cc)
      by (Some y) g = let w = bare_text (t p) (before p) x y e g (each p) in w.1 ∙ before_no_text p y g (sym w.0 ∙ dir)

  -- what the walk leaves at the path, and what is shown
  abbrev left : TreeFunction
  left = merged see (tree h) t

  left_own : (p : Path) → is_own see p ≡ true → left p ≡ t p
  left_own p o = ap (λ (x : Bool). if x then t p else tree h p) o

  left_head : (p : Path) → is_own see p ≡ false → left p ≡ tree h p
  left_head p o = ap (λ (x : Bool). if x then t p else tree h p) o

  -- what stays is so all below, where the walk does not go through
  stays_below : (q p : Path) → covers q p ≡ true → is_own see q ≡ false → is_own see p ≡ false
  stays_below q p c off = elim (way see q) [
    | Through r m ↦ (let d = at_merged q (λ i. r i && m i) in absurd (false≢true (sym off ∙ merged_stays q (λ i. r i && m i) d)))
    | Stopped z z_q r m n ↦ own_of look top tree b h t marks (nodes b) (nodes h) met see is 0 clear p z (covers-trans z q p z_q c) r m false
        (sym (own_of look top tree b h t marks (nodes b) (nodes h) met see is 0 clear q z z_q r m (stays (see z)) refl) ∙ off)
  ]
    where
      merged_stays : (q : Path) → is_merged see q ≡ true → landing.At look top tree b h t marks nodes see txn f own lists are is clear draft files once q → is_own see q ≡ true
      merged_stays q m d =
          let k = Rattle.fsfs_merge.proofs.WalkLaw.merges_all (see q).in_base (see q).head_same (see q).own_same (see q).goes_on ((and_parts (reached (down see) q) (merges (see q)) m).1) in
          own_here see q ((and_parts (reached (down see) q) (merges (see q)) m).0) ∙ Rattle.fsfs_merge.proofs.MergedLaw.stays_merged (see q) k.0 k.1 k.2 k.3

  -- a merged directory is held
  merged_held : (p : Path) → is_merged see p ≡ true → held own p ≡ true
  merged_held p m =
      let d = at_merged p m in
      sides.not_not (effects marks p).deleted (held own p) (say.deleted p (sides.base_some look top b tree nodes shown are le txn f own marks draft files say p d.x d.base_is)) (goes_gone b (effects marks p) (tree b p) (tree h p) d.goes)

  -- an own one above what the head gives is merged
  above_head : (a p : Path) → covers a p ≡ true → is_own see a ≡ true → is_own see p ≡ false → is_merged see a ≡ true
  above_head a p c o off = elim (way see p) [
    | Through r m ↦ (let k = Rattle.fsfs_merge.proofs.WalkLaw.merges_all (see p).in_base (see p).head_same (see p).own_same (see p).goes_on m in
        absurd (false≢true (sym off ∙ own_here see p r ∙ Rattle.fsfs_merge.proofs.MergedLaw.stays_merged (see p) k.0 k.1 k.2 k.3)))
    | Stopped q q_p r m n ↦ (let s : stays (see q) ≡ false = sym (own_of look top tree b h t marks (nodes b) (nodes h) met see is 0 clear p q q_p r m (stays (see q)) refl) ∙ off in
        elim (covers-either a q p c q_p) [
          | inr q_a ↦ absurd (false≢true (sym (own_of look top tree b h t marks (nodes b) (nodes h) met see is 0 clear a q q_a r m false s) ∙ o))
          | inl a_q ↦ elim (cases_Bool (covers q a)) [
            | inl q_a ↦ absurd (false≢true (sym (own_of look top tree b h t marks (nodes b) (nodes h) met see is 0 clear a q q_a r m false s) ∙ o))
            | inr not_back ↦ (λ i. front_of (down see) a q r a_q i && reached_above (down see) a q r a_q not_back i)
          ]
        ])
  ]

  each_left : (p : Path) → bare (left p) ≡ bare (shows p)
  each_left p = by (hanging.placed look top h tree nodes shown are is.within txn g after next p)
    where
      by : Place after p → bare (left p) ≡ bare (shows p)
      by (Mine v e) =
          let w = two p v e in
          ap (λ (o : Option Node). bare o) (left_own p w.stay) ∙ each p
          ∙ ap (λ (o : Option Node). bare o) (placing.shown_own look top b tree nodes shown are le txn f own draft p w.old w.here ∙ ap (λ (z : Node). Some z) (sym w.same)
          ∙ sym (placing.shown_own look top h tree nodes shown are is.within txn g after next p v e))
      by (Shared a x rest v path e none) = at (is_own see p) refl
        where
          w : Two a v
          w = two a v e

          mid : Both a v w.old
          mid = both a v e

          on_p : covers a p ≡ true
          on_p = subst (λ (z : Path). covers a z ≡ true) (sym path) (covers-longer a (x ∷ rest))

          below_p : covers (a ++ x ∷ []) p ≡ true
          below_p = subst (λ (z : Path). covers (a ++ x ∷ []) z ≡ true) (append_assoc a (x ∷ []) rest ∙ sym path) (covers-longer (a ++ x ∷ []) rest)

          new : shows p ≡ cond (has_entry v.entries x) (will a v (x ∷ rest)) None
          new = ap shows path ∙ placing.shown_shared look top h tree nodes shown are is.within txn g after next a v e x rest none

          -- what is met there decides whether there is an entry
          met_new : now p ≡ cond (has_entry v.entries x) (placing.nodes_below look top h tree nodes shown are is.within txn g after next a v (x ∷ rest)) None
          met_new = sym (landing.landed_met look top tree b h t marks nodes see txn f own lists are is clear draft files once less say listing g folder p) ∙ ap (draft_nodes nodes after (nodes h)) path
              ∙ placing.met_shared look top h tree nodes shown are is.within txn g after next a v e x rest none

          same_some : is_some (now p) ≡ is_some (shows p)
          same_some = ap (λ (o : Option NodeRev). is_some o) (sym (landing.landed_met look top tree b h t marks nodes see txn f own lists are is clear draft files once less say listing g folder p))
              ∙ drawing.paths look top h tree nodes shown are is.within txn g after next landed_sources (suc top) (omega arith) p

          left_some : is_some (now p) ≡ is_some (left p)
          left_some = (leaves look top tree b h k t marks (nodes b) (nodes h) met see is clear).1.there p ∙ sym (is_same (left p) (land (tree b) (tree h) t marks k p) ((leaves look top tree b h k t marks (nodes b) (nodes h) met see is clear).2 p))
            where
              is_same : (o u : Option Node) → AreSame o u → is_some o ≡ is_some u
              is_same None None s = refl
              is_same None (Some y) s = absurd s
              is_same (Some x) None s = absurd s
              is_same (Some x) (Some y) s = refl

          lacking : (o u : Option Node) → is_some o ≡ is_some u → is_some u ≡ false → bare o ≡ bare u
          lacking None None s n = refl
          lacking None (Some y) s n = absurd (false≢true s)
          lacking (Some y) None s n = absurd (false≢true (sym s))
          lacking (Some y) (Some z) s n = absurd (false≢true (sym n))

          has : is_some (shows p) ≡ true → has_entry v.entries x ≡ true
          has s = yet (has_entry v.entries x) refl
            where
              yet : (b : Bool) → has_entry v.entries x ≡ b → has_entry v.entries x ≡ true
              yet true e = e
              yet false e = absurd (false≢true (sym (ap (λ (o : Option Node). is_some o) (new ∙ ap (λ (c : Bool). cond c (will a v (x ∷ rest)) None) e)) ∙ s))

          new_is : is_some (shows p) ≡ true → shows p ≡ will a v (x ∷ rest)
          new_is s = new ∙ ap (λ (c : Bool). cond c (will a v (x ∷ rest)) None) (has s)

          from_head : is_own see p ≡ false → is_some (shows p) ≡ true → Both a v w.old → left p ≡ shows p
          from_head o s (Held y z) = left_head p o ∙ ap (tree h) path ∙ sym (z (x ∷ rest)) ∙ sym (new_is s)
          from_head o s (Equal off y) = absurd (false≢true (sym off ∙ merged_held a (above_head a p on_p w.stay o)))

          -- before, too, nothing below was the transaction's
          was_none : is_own see p ≡ true → own (a ++ x ∷ []) ≡ None
          was_none o = elim (cases_Bool (is_own see (a ++ x ∷ []))) [
            | inr off ↦ absurd (false≢true (sym (stays_below (a ++ x ∷ []) p below_p off) ∙ o))
            | inl on ↦ no_own (is_merged see (a ++ x ∷ [])) (nodes h (a ++ x ∷ [])) (lists (a ++ x ∷ [])) (own (a ++ x ∷ [])) (sym (ap (λ (c : Bool). if c then relinked_own (is_merged see (a ++ x ∷ [])) (nodes h (a ++ x ∷ [])) (lists (a ++ x ∷ [])) (own (a ++ x ∷ [])) else None) on) ∙ none)
          ]

          old : is_own see p ≡ true → before p ≡ cond (has_entry w.old.entries x) (was a w.old (x ∷ rest)) None
          old o = ap before path ∙ placing.shown_shared look top b tree nodes shown are le txn f own draft a w.old w.here x rest (was_none o)

          old_is : is_own see p ≡ true → is_some (before p) ≡ true → before p ≡ was a w.old (x ∷ rest)
          old_is o s = yet (has_entry w.old.entries x) refl
            where
              yet : (b : Bool) → has_entry w.old.entries x ≡ b → before p ≡ was a w.old (x ∷ rest)
              yet true e = old o ∙ ap (λ (c : Bool). cond c (was a w.old (x ∷ rest)) None) e
              yet false e = absurd (false≢true (sym (ap (λ (o : Option Node). is_some o) (old o ∙ ap (λ (c : Bool). cond c (was a w.old (x ∷ rest)) None) e)) ∙ s))

          from_own : is_own see p ≡ true → is_some (shows p) ≡ true → is_some (before p) ≡ true → Both a v w.old → before p ≡ shows p
          from_own o s r (Equal off y) = old_is o r ∙ y (x ∷ rest) ∙ sym (new_is s)
          from_own o s r (Held y z) =
              let old_p : before p ≡ tree b p = old_is o r ∙ y (x ∷ rest) ∙ ap (tree b) (sym path) in
              let new_p : shows p ≡ tree h p = new_is s ∙ z (x ∷ rest) ∙ ap (tree h) (sym path) in
              yet old_p new_p (stay_at p o)
            where
              yet : before p ≡ tree b p → shows p ≡ tree h p → Stay p → before p ≡ shows p
              yet old_p new_p (Quiet same) = old_p ∙ sym same ∙ sym new_p
              yet old_p new_p (Lacks lacks) = absurd (false≢true (sym (ap (λ (o : Option Node). is_some o) (old_p ∙ lacks)) ∙ r))
              yet old_p new_p (Merged m) =
                  let d = at_merged p m in
                  let q = hanging.mine_at look top b tree nodes shown are le txn f own draft p d.v d.own_is d.next.own in
                  let gone = sym q.1 ∙ ap own path ∙ placing.own_shared look top b tree nodes shown are le txn f own draft a w.old w.here x rest (was_none o) in absurd cc

          bare_is : (o u : Option Node) → bare o ≡ bare u → is_some o ≡ is_some u
          bare_is None None e = refl
          bare_is None (Some y) e = absurd cc
          bare_is (Some y) None e = absurd cc
          bare_is (Some y) (Some z) e = refl

          at : (o : Bool) → is_own see p ≡ o → bare (left p) ≡ bare (shows p)
          at o e = elim (cases_Bool (is_some (shows p))) [
            | inr lacks ↦ lacking (left p) (shows p) (sym left_some ∙ same_some) lacks
            | inl s ↦ some o e s
          ]
            where
              some : (o : Bool) → is_own see p ≡ o → is_some (shows p) ≡ true → bare (left p) ≡ bare (shows p)
              some false o s = ap (λ (z : Option Node). bare z) (from_head o s mid)
              some true o s =
                  let r : is_some (before p) ≡ true = sym (bare_is (t p) (before p) (each p)) ∙ ap (λ (z : Option Node). is_some z) (sym (left_own p o)) ∙ sym left_some ∙ same_some ∙ s in
                  ap (λ (z : Option Node). bare z) (left_own p o) ∙ each p ∙ ap (λ (z : Option Node). bare z) (from_own o s r mid)

  pub landing_shown : LandedIsShown look tree b h k t marks after
  landing_shown = record {
    each = λ p. sym (same_bare (left p) (land (tree b) (tree h) t marks k p) ((leaves look top tree b h k t marks (nodes b) (nodes h) met see is clear).2 p) (left_no_text p)
        (landed_no_text k (effects marks p) (is_some (t p) && not (held_by_own (effects marks p) (tree b p))) (tree h p) (chosen (effects marks p) (tree b p) (tree h p) (t p)) (chosen_no_text (effects marks p) (tree b p) (tree h p) (t p) (head_no_text p) (t_no_text p)))) ∙ each_left p;
    sources = landed_sources;
  }
    where
      left_no_text : (p : Path) → NoText (left p)
      left_no_text p = by (is_own see p)
        where
          by : (o : Bool) → NoText (if o then t p else tree h p)
          by true = t_no_text p
          by false = head_no_text p

pub landings_are_shown : LandingsAreShown
landings_are_shown look top tree b h k t marks nodes see txn f after own lists are is less clear draft files once say sources each listing folder =
    landing_shown look top tree b h k t marks nodes see txn f after own lists are is less clear draft files once say sources each listing folder
