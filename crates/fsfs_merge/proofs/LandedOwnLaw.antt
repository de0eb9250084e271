-- What a merge leaves of a draft is a draft over the head.
use Rattle.std.proofs.Common.{◌≡◌, ◌≤◌, ◌<◌, ℕ, Bool, true, false, ◌&&◌, cond, List, [], ◌∷◌, ◌++◌, refl, sym, ap, subst, ◌∙◌, arith, inl, inr}
use Rattle.std.specs.Prelude.{Ok, Option, Some, None, is_some, if◌then◌else◌}
use mathlib.Core.Bool.{false≢true}
use Rattle.fsfs_base.specs.Paths.{PathName, Path}
use Rattle.fsfs_tree.specs.Nodes.{TreeFunction}
use Rattle.fsfs_base.specs.declared.kind.Kind.{Kind}
use Rattle.fsfs_base.specs.declared.kind.Kind.TheVariants.{Dir}
use Rattle.fsfs_model.specs.declared.flat.mark.Mark.{Mark}
use Rattle.fsfs_model.specs.Flat.Marks.{effects}
use Rattle.fsfs_model.specs.Flat.Landing.{NoClash}
use Rattle.fsfs_base.specs.declared.fields.txn_name.TxnName.{TxnName}
use Rattle.fsfs_revision.specs.Told.{RevisionBytes}
use Rattle.fsfs_noderev.specs.declared.rep.Contents.TheVariants as contents
use Rattle.fsfs_noderev.specs.declared.node_id.NodeId.{NodeId}
use Rattle.fsfs_noderev.specs.declared.node_rev.CopySource.{CopySource}
use Rattle.fsfs_noderev.specs.declared.node_rev.NodeRev.{NodeRev}
use Rattle.fsfs_revision.specs.Shows.Reading.{DirEntry, named, ChildOf, StandsAt}
use Rattle.fsfs_revision.proofs.Walks.{child_stands}
use Rattle.fsfs_revision.specs.Shows.Chains.{IsPred}
use Rattle.fsfs_base.proofs.PathLemmas.{covers-trans, covers-longer}
use Rattle.fsfs_model.proofs.MergeWalk.{goes_gone}
use Rattle.fsfs_revision.proofs.Earlier.{stands_of_id, pred_same}
use Rattle.fsfs_draft.specs.Own.{OwnNode, Own, has_entry}
use Rattle.fsfs_draft.specs.Rules.{Keeps, ComesBy, Change, Copied, Made, head_at, IsEntryOf, AreEntriesOf, stands_at, above_at, at_top}
use Rattle.fsfs_draft.specs.Drafts.{Folder, IsDraftText, HasContent, IsDraft, ShowTrees}
use Rattle.fsfs_draft.specs.OwnSides.{NodesAt, in_txn, IsOwnSide}
use Rattle.fsfs_draft.specs.NodeDrafts.{IsOwn}
use Rattle.fsfs_draft.specs.NodeDrafts as nodewise
use Rattle.fsfs_draft.specs.Met.{draft_nodes, AreNodes}
use Rattle.fsfs_draft.specs.Sides.{HasFiles, OwnFiles, DrawnOnce, held, AreMarksOf}
use Rattle.fsfs_draft.specs.Tied.{IsListed, IsTied, IsKeptIn, HasAll}
use Rattle.fsfs_draft.proofs.Here.{head_none}
use Rattle.fsfs_draft.proofs.HangLaw as hanging
use Rattle.fsfs_draft.proofs.HangLaw.{some_same, drafts_hang}
use Rattle.fsfs_draft.proofs.Placing as placing
use Rattle.fsfs_draft.proofs.Lasting.{lasting}
use Rattle.fsfs_draft.proofs.SideLaw as sides
use Rattle.fsfs_draft.proofs.TiedLaw.{tied_drafts}
use Rattle.fsfs_draft.proofs.AllLaw.{met_below, met_inherited, tied_are_met}
use Rattle.fsfs_draft.proofs.MarkLaw.{sides_are_marks}
use Rattle.fsfs_merge.specs.declared.sight.Sight.{Sight}
use Rattle.fsfs_merge.specs.Walks.{stays, down, is_own}
use Rattle.fsfs_merge.specs.MergeLaws.{IsMerge, is_merged, landed_nodes}
use Rattle.fsfs_merge.proofs.MergeLaw.{keep, take_head, own_of, side}
use Rattle.fsfs_merge.specs.LandedOwn.{relinked_own, landed_own, AreLists, IsLandedFolder, LandedIsADraft}
use Rattle.fsfs_merge.proofs.LandedDraft.{Linked, Merged, merged, Both, Entry as InMerged, Under, step, reached_front, not_merged, merge_keeps_drafts}
use Rattle.std.proofs.lemmas.Bool.{and_parts, both_ways, cases_Bool}

pub relinked_none : (m : Bool) (y : Option NodeRev) (entries : List DirEntry) → relinked_own m y entries None ≡ None
relinked_none false y entries = refl
relinked_none true None entries = refl
relinked_none true (Some y) entries = refl

-- a merged directory
abbrev pub LinkedOwn : OwnNode → NodeRev → List DirEntry → OwnNode
LinkedOwn v y entries = record v { node = Linked v.node y; entries = Some entries }

module _ (look : RevisionBytes) (top : ℕ) (tree : ℕ → TreeFunction) (b h : ℕ) (t : TreeFunction) (marks : List Mark) (nodes : ℕ → NodesAt) (see : Path → Sight) (txn : TxnName) (f : Folder) (own : Own) (lists : Path → List DirEntry)
    (are : AreNodes look top nodes) (is : IsMerge look top tree b h t marks (nodes b) (nodes h) (draft_nodes nodes own (nodes b)) see) (clear : NoClash b (tree b) (tree h) t marks)
    (draft : IsDraft look top b txn f own) (files : OwnFiles own) (once : DrawnOnce own) where
  abbrev pub met : NodesAt
  met = draft_nodes nodes own (nodes b)

  abbrev pub now : NodesAt
  now = landed_nodes see (nodes h) met

  abbrev pub after : Own
  after = landed_own see (nodes h) lists own

  pub shown : ShowTrees look top tree
  shown = is.shows.each

  pub le : b ≤ top
  le = let x = is.order in let y = is.within in omega arith

  pub hangs : nodewise.IsDraft look top b met
  hangs = drafts_hang look top b tree nodes shown are le txn f own draft files once

  abbrev pub At : Path → Type 0
  At p = Merged look top tree b h t marks (nodes b) (nodes h) met see is clear hangs p

  pub merged_at : (p : Path) → is_merged see p ≡ true → At p
  merged_at p m = merged look top tree b h t marks (nodes b) (nodes h) met see is clear hangs p ((and_parts _ _ m).0) ((and_parts _ _ m).1)

  met_own : (p : Path) (d : OwnNode) → own p ≡ Some d → met p ≡ Some d.node
  met_own p d here = hanging.met_own look top b tree nodes shown are le txn f own draft p d here

  is_mine : (p : Path) (d : OwnNode) → own p ≡ Some d → IsOwn d.node
  is_mine p d here = hanging.is_mine look top b tree nodes shown are le txn f own draft p d here

  mine_at : (p : Path) (v : NodeRev) → met p ≡ Some v → IsOwn v → (d : OwnNode) × (own p ≡ Some d) × (d.node ≡ v)
  mine_at p v e mine = hanging.mine_at look top b tree nodes shown are le txn f own draft p v e mine

  pub record LinkAt (p : Path) (v : OwnNode) : Type 0 where
    pub at : At p
    pub old : OwnNode
    pub here : own p ≡ Some old
    pub old_is : old.node ≡ at.v
    pub same : v ≡ LinkedOwn old at.y (lists p)

  pub data OwnNow (p : Path) (v : OwnNode) : Type 0 where
    Link : is_merged see p ≡ true → LinkAt p v → OwnNow p v
    Kept : own p ≡ Some v → is_own see p ≡ true → is_merged see p ≡ false → OwnNow p v

  after_link : (p : Path) → is_own see p ≡ true → (m : is_merged see p ≡ true) → (d : OwnNode) → own p ≡ Some d → (y : NodeRev) → nodes h p ≡ Some y → after p ≡ Some (LinkedOwn d y (lists p))
  after_link p o m d here y e = λ i. if o i then relinked_own (m i) (e i) (lists p) (here i) else None

  pub own_now : (p : Path) (v : OwnNode) → after p ≡ Some v → OwnNow p v
  own_now p v e = elim (cases_Bool (is_own see p)) [
    | inr o ↦ absurd (let g = sym e ∙ ap (λ (x : Bool). if x then relinked_own (is_merged see p) (nodes h p) (lists p) (own p) else None) o in cc)
    | inl o ↦ elim (cases_Bool (is_merged see p)) [
      | inr m ↦ Kept (sym (λ i. if o i then relinked_own (m i) (nodes h p) (lists p) (own p) else None) ∙ e) o m
      | inl m ↦ (let d = merged_at p m in
          let w = mine_at p d.v d.own_is d.next.own in
          Link m (record { at = d; old = w.0; here = w.1; old_is = w.2; same = some_same (after p) v (LinkedOwn w.0 d.y (lists p)) e (after_link p o m w.0 w.1 d.y d.head_is) }))
    ]
  ]

  -- what a merge does not go through, and keeps, it keeps with all below
  kept_below : (p : Path) (name : PathName) → is_own see p ≡ true → is_merged see p ≡ false → now (p ++ name ∷ []) ≡ met (p ++ name ∷ [])
  kept_below p name o m = elim (step look top tree b h t marks (nodes b) (nodes h) met see is clear hangs p name) [
    | Both r k ↦ (let g = reached_front (down see) p name r in absurd (false≢true (sym m ∙ (λ i. g.0 i && g.1 i))))
    | InMerged r k ↦ (let g = reached_front (down see) p name r in absurd (false≢true (sym m ∙ (λ i. g.0 i && g.1 i))))
    | Under q c r k ↦ (
        let longer = covers-trans q p (p ++ name ∷ []) c (covers-longer p (name ∷ [])) in
        let s : stays (see q) ≡ true = sym (own_of look top tree b h t marks (nodes b) (nodes h) met see is 0 clear p q c r k (stays (see q)) refl) ∙ o in
        keep look top tree b h t marks (nodes b) (nodes h) met see is 0 clear (p ++ name ∷ []) (own_of look top tree b h t marks (nodes b) (nodes h) met see is 0 clear (p ++ name ∷ []) q longer r k true s)
        (not_merged look top tree b h t marks (nodes b) (nodes h) met see is clear hangs q (p ++ name ∷ []) longer k))
  ]

  -- ---- tied

  tied_mine : (p : Path) (v : OwnNode) → after p ≡ Some v → now p ≡ Some v.node
  tied_mine p v e = by (own_now p v e)
    where
      by : OwnNow p v → now p ≡ Some v.node
      by (Kept here o m) = keep look top tree b h t marks (nodes b) (nodes h) met see is 0 clear p o m ∙ met_own p v here
      by (Link m l) = l.at.now_is ∙ ap (λ (z : NodeRev). Some (Linked z l.at.y)) (sym l.old_is) ∙ ap (λ (z : OwnNode). Some z.node) (sym l.same)

  tied_all : (p : Path) (u : NodeRev) → now p ≡ Some u → IsOwn u → (v : OwnNode) × (after p ≡ Some v) × (v.node ≡ u)
  tied_all p u e mine = elim (cases_Bool (is_own see p)) [
    | inr o ↦ absurd (both_ways _ (lasting look h p u ((is.head_nodes.each p u).0 (sym (take_head look top tree b h t marks (nodes b) (nodes h) met see is 0 clear p o) ∙ e))).place mine)
    | inl o ↦ elim (cases_Bool (is_merged see p)) [
      | inr m ↦ (let w = mine_at p u (sym (keep look top tree b h t marks (nodes b) (nodes h) met see is 0 clear p o m) ∙ e) mine in
          (w.0, (λ i. if o i then relinked_own (m i) (nodes h p) (lists p) (own p) else None) ∙ w.1, w.2))
      | inl m ↦ (let d = merged_at p m in
          let w = mine_at p d.v d.own_is d.next.own in
          (LinkedOwn w.0 d.y (lists p), after_link p o m w.0 w.1 d.y d.head_is, ap (λ (z : NodeRev). Linked z d.y) w.2 ∙ some_same (now p) (Linked d.v d.y) u d.now_is e))
    ]
  ]

  -- the entries of an own directory, as they were
  was_listed : (p : Path) (d : OwnNode) (entries : List DirEntry) (name : PathName) → own p ≡ Some d → d.entries ≡ Some entries → IsListed (named name entries) (met (p ++ name ∷ []))
  was_listed p d entries name here e = by (own (p ++ name ∷ [])) refl
    where
      all : IsEntryOf (λ u. placing.Stands look top b tree nodes shown are le txn f own draft p d (name ∷ []) u) (named name entries) (head_at (own (p ++ name ∷ [])))
      all = (subst (λ (o : Option (List DirEntry)). AreEntriesOf (λ name u. placing.Stands look top b tree nodes shown are le txn f own draft p d (name ∷ []) u) o (λ name. head_at (own (p ++ name ∷ [])))) e
          (placing.entries look top b tree nodes shown are le txn f own draft p d here)) name

      with_own : (w : OwnNode) (o : Option DirEntry) → IsEntryOf (λ u. placing.Stands look top b tree nodes shown are le txn f own draft p d (name ∷ []) u) o (Some (w.node.id, w.node.kind)) → IsListed o (Some w.node)
      with_own w None l = absurd l
      with_own w (Some x) l = l

      shared : own (p ++ name ∷ []) ≡ None → (o : Option DirEntry) → named name entries ≡ o → IsEntryOf (λ u. placing.Stands look top b tree nodes shown are le txn f own draft p d (name ∷ []) u) o None → IsListed o (met (p ++ name ∷ []))
      shared none o g l =
          let m = placing.met_shared look top b tree nodes shown are le txn f own draft p d here name [] none ∙ ap (λ (o : Option (List DirEntry)). cond (has_entry o name) (placing.nodes_below look top b tree nodes shown are le txn f own draft p d (name ∷ [])) None) e
          ∙ ap (λ (o : Option DirEntry). cond (is_some o) (placing.nodes_below look top b tree nodes shown are le txn f own draft p d (name ∷ [])) None) g in
          subst (λ (z : Option NodeRev). IsListed o z) (sym m) (at o l)
        where
          at : (o : Option DirEntry) → IsEntryOf (λ u. placing.Stands look top b tree nodes shown are le txn f own draft p d (name ∷ []) u) o None → IsListed o (cond (is_some o) (placing.nodes_below look top b tree nodes shown are le txn f own draft p d (name ∷ [])) None)
          at None l = tt
          at (Some x) l = subst (λ (z : Option NodeRev). IsListed (Some x) z) (sym (((hanging.hangs look top b tree nodes shown are le txn f own draft p d here).are (name ∷ []) l.0).1 l.1)) (l.2, l.3)

      by : (o : Option OwnNode) → own (p ++ name ∷ []) ≡ o → IsListed (named name entries) (met (p ++ name ∷ []))
      by (Some w) g = subst (λ (z : Option NodeRev). IsListed (named name entries) z) (sym (met_own (p ++ name ∷ []) w g)) (with_own w (named name entries) (subst (λ (o : Option OwnNode). IsEntryOf (λ u. placing.Stands look top b tree nodes shown are le txn f own draft p d (name ∷ []) u) (named name entries) (head_at o)) g all))
      by None g = shared g (named name entries) refl (subst (λ (o : Option OwnNode). IsEntryOf (λ u. placing.Stands look top b tree nodes shown are le txn f own draft p d (name ∷ []) u) (named name entries) (head_at o)) g all)

  was_unlisted : (p : Path) (d : OwnNode) (name : PathName) → own p ≡ Some d → d.entries ≡ None → own (p ++ name ∷ []) ≡ None
  was_unlisted p d name here e = head_none (own (p ++ name ∷ []))
      ((subst (λ (o : Option (List DirEntry)). AreEntriesOf (λ name u. placing.Stands look top b tree nodes shown are le txn f own draft p d (name ∷ []) u) o (λ name. head_at (own (p ++ name ∷ [])))) e
      (placing.entries look top b tree nodes shown are le txn f own draft p d here)) name)

  was_count : (p : Path) (d : OwnNode) → own p ≡ Some d → d.node.predecessor ≡ None → d.node.count ≡ 0
  was_count p d here none = by (hanging.comes look top b tree nodes shown are le txn f own draft p d here)
    where
      by : ComesBy look top (λ r w. stands_at look p own (StandsAt look b) r w) (above_at p own at_top) d → d.node.count ≡ 0
      by (Change u at no_copy on keeps root part) = let e = sym on.predecessor ∙ none in absurd cc
      by (Copied u from copy low at on keeps root part) = let e = sym on.predecessor ∙ none in absurd cc
      by (Made no_copy no_pred count root part new) = count

  -- ---- files, and what was drawn

  was_made : (p : Path) (v : OwnNode) → after p ≡ Some v → v.node.predecessor ≡ None → own p ≡ Some v
  was_made p v e none = by (own_now p v e)
    where
      by : OwnNow p v → own p ≡ Some v
      by (Kept here o m) = here
      by (Link m l) = absurd (let g = sym none ∙ ap (λ (z : OwnNode). z.node.predecessor) l.same in cc)

  was_copied : (p : Path) (v : OwnNode) (from : CopySource) → after p ≡ Some v → v.node.copy_from ≡ Some from → own p ≡ Some v
  was_copied p v from e copy = by (own_now p v e)
    where
      by : OwnNow p v → own p ≡ Some v
      by (Kept here o m) = here
      by (Link m l) = absurd (let g = sym copy ∙ ap (λ (z : OwnNode). z.node.copy_from) l.same ∙ ap (λ (z : NodeRev). z.copy_from) l.old_is ∙ l.at.next.no_copy in cc)

  record Was (p : Path) (v : OwnNode) : Type 0 where
    old : OwnNode
    here : own p ≡ Some old
    id : v.node.id ≡ old.node.id
    copy : v.node.copy_from ≡ old.node.copy_from
    path : v.node.created_path ≡ old.node.created_path

  was : (p : Path) (v : OwnNode) → after p ≡ Some v → Was p v
  was p v e = by (own_now p v e)
    where
      by : OwnNow p v → Was p v
      by (Kept here o m) = record { old = v; here = here; id = refl; copy = refl; path = refl }
      by (Link m l) = record { old = l.old; here = l.here; id = ap (λ (z : OwnNode). z.node.id) l.same; copy = ap (λ (z : OwnNode). z.node.copy_from) l.same; path = ap (λ (z : OwnNode). z.node.created_path) l.same }

  pub landed_files : OwnFiles after
  landed_files p v e = by (own_now p v e)
    where
      by : OwnNow p v → HasFiles v
      by (Kept here o m) = files p v here
      by (Link m l) =
          let old = files p l.old l.here in
          subst HasFiles (sym l.same) (record { list = λ entries g. refl; set = λ pairs g. old.set pairs g; no_list = λ dir none g. absurd cc; no_set = λ none g. absurd cc })

  pub landed_once : DrawnOnce after
  landed_once = record {
    made = λ p q v w e g none lacks same. once.made p q v w (was_made p v e none) (was_made q w g lacks) none lacks same;
    copied = λ p q v w from other e g copy copies same. once.copied p q v w from other (was_copied p v from e copy) (was_copied q w other g copies) copy copies same;
    apart = λ p q name dir v c from e g no_copy k copy same.
        (let d = was p dir e in let w = was (p ++ name ∷ []) v g in
        ap (λ (i : NodeId). i.copy) w.id ∙ once.apart p q name d.old w.old c from d.here w.here (sym w.copy ∙ no_copy) (was_copied q c from k copy) copy (same ∙ ap (λ (i : NodeId). i.copy) w.id) ∙ sym (ap (λ (i : NodeId). i.copy) d.id));
  }

  -- ---- the draft

  module _ (less : b < h) (say : AreMarksOf (tree b) marks own) (listing : AreLists see (nodes h) met lists) (g : Folder) (folder : IsLandedFolder f g after) where
    link_keeps : (p : Path) (v : OwnNode) (u : NodeRev) → LinkAt p v → IsPred look v.node u → Keeps v u
    link_keeps p v u l pred =
        let d = l.at in
        let some = sides.base_some look top b tree nodes shown are le txn f own marks draft files say p d.x d.base_is in
        let holds = sides.not_not (effects marks p).deleted (held own p) (say.deleted p some) (goes_gone b (effects marks p) (tree b p) (tree h p) d.goes) in
        let back : IsPred look v.node d.y = (d.y.id, ap (λ (z : OwnNode). z.node.predecessor) l.same, stands_of_id look h p d.y ((is.head_nodes.each p d.y).0 d.head_is)) in
        let one = pred_same look v.node d.y u back pred in
        record {
          entries = λ none dir. absurd (let e = sym none ∙ ap (λ (z : OwnNode). z.entries) l.same in cc);
          props = λ none.
              (let old : l.old.props ≡ None = ap (λ (z : OwnNode). z.props) (sym l.same) ∙ none in
              ap (λ (z : OwnNode). z.node.props) l.same ∙ ap (λ (z : NodeRev). z.props) l.old_is ∙ d.linked.props
              ∙ ap (λ (c : Bool). if c then Some contents.Own else d.y.props) (say.props p l.old some holds l.here ∙ ap (λ (o : Option (List (List ℕ × List ℕ))). is_some o) old)
              ∙ ap (λ (z : NodeRev). z.props) one);
        }

    tied : IsTied look now after
    tied = record {
      mine = tied_mine;
      all = tied_all;
      listed = listed;
      unlisted = unlisted;
      keeps = keeps;
      count = λ p v e none. was_count p v (was_made p v e none) none;
    }
      where
        listed : (p : Path) (v : OwnNode) (entries : List DirEntry) (name : PathName) → after p ≡ Some v → v.entries ≡ Some entries → IsListed (named name entries) (now (p ++ name ∷ []))
        listed p v entries name e is_list = by (own_now p v e)
          where
            by : OwnNow p v → IsListed (named name entries) (now (p ++ name ∷ []))
            by (Kept here o m) = subst (λ (z : Option NodeRev). IsListed (named name entries) z) (sym (kept_below p name o m)) (was_listed p v entries name here is_list)
            by (Link m l) =
                let same : lists p ≡ entries = (let q = sym (ap (λ (z : OwnNode). z.entries) l.same) ∙ is_list in cc) in
                subst (λ (es : List DirEntry). IsListed (named name es) (now (p ++ name ∷ []))) same (listing p name m)

        unlisted : (p : Path) (v : OwnNode) (name : PathName) → after p ≡ Some v → v.entries ≡ None → after (p ++ name ∷ []) ≡ None
        unlisted p v name e none = by (own_now p v e)
          where
            flat : (o : Bool) → (if o then None else None) ≡ (let x : Option OwnNode = None in x)
            flat true = refl
            flat false = refl

            by : OwnNow p v → after (p ++ name ∷ []) ≡ None
            by (Kept here o m) =
                ap (λ (w : Option OwnNode). if is_own see (p ++ name ∷ []) then relinked_own (is_merged see (p ++ name ∷ [])) (nodes h (p ++ name ∷ [])) (lists (p ++ name ∷ [])) w else None) (was_unlisted p v name here none)
                ∙ ap (λ (w : Option OwnNode). if is_own see (p ++ name ∷ []) then w else None) (relinked_none (is_merged see (p ++ name ∷ [])) (nodes h (p ++ name ∷ [])) (lists (p ++ name ∷ [])))
                ∙ flat (is_own see (p ++ name ∷ []))
            by (Link m l) = absurd (let q = sym none ∙ ap (λ (z : OwnNode). z.entries) l.same in cc)

        keeps : (p : Path) (v : OwnNode) (u : NodeRev) → after p ≡ Some v → IsPred look v.node u → Keeps v u
        keeps p v u e pred = by (own_now p v e)
          where
            by : OwnNow p v → Keeps v u
            by (Kept here o m) = (hanging.goes look top b tree nodes shown are le txn f own draft p v here u pred).1
            by (Link m l) = link_keeps p v u l pred

    content : (p : Path) (v : OwnNode) → after p ≡ Some v → HasContent look f.proto v
    content p v e = by (own_now p v e)
      where
        by : OwnNow p v → HasContent look f.proto v
        by (Kept here o m) = draft.contents p v here
        by (Link m l) =
            let c = draft.contents p l.old l.here in
            let dir : l.old.node.kind ≡ Dir = ap (λ (z : NodeRev). z.kind) l.old_is ∙ l.at.linked.kind ∙ l.at.dir in
            subst (HasContent look f.proto) (sym l.same) (record {
              kind = c.kind;
              text = subst (λ (k : Kind). IsDraftText look f.proto k (LinkedOwn l.old l.at.y (lists p)) l.old.shown.text) (sym dir) (subst (λ (k : Kind). IsDraftText look f.proto k l.old l.old.shown.text) dir c.text);
              properties = c.properties;
            })

    kept : IsKeptIn look txn g after
    kept = record {
      paths = λ p v e. (let w = was p v e in w.path ∙ draft.paths p w.old w.here);
      places = λ p v e. (let w = was p v e in ap (λ (i : NodeId). i.place) w.id ∙ draft.places p w.old w.here);
      kept = folder.kept;
      drawn = folder.drawn;
      contents = λ p v e. subst (λ (proto : List ℕ). HasContent look proto v) (sym folder.proto) (content p v e);
    }

    pub landed_draft : IsDraft look top h txn g after
    landed_draft = tied_drafts look top h now after txn g is.within (merge_keeps_drafts look top tree b h t marks (nodes b) (nodes h) met see is less clear hangs) tied kept

    all : HasAll look now after
    all = record { below = below; inherited = inherited }
      where
        below : (p : Path) (name : PathName) (d v : NodeRev) → now p ≡ Some d → in_txn d.id.place ≡ false → d.kind ≡ Dir → ChildOf look d name (Ok (Some v)) → now (p ++ name ∷ []) ≡ Some v
        below p name d v e plain dir child = elim (step look top tree b h t marks (nodes b) (nodes h) met see is clear hangs p name) [
          | Both r k ↦ (let q = reached_front (down see) p name r in not_merged_here (λ i. q.0 i && q.1 i))
          | InMerged r k ↦ (let q = reached_front (down see) p name r in not_merged_here (λ i. q.0 i && q.1 i))
          | Under q c r k ↦ (
              let longer = covers-trans q p (p ++ name ∷ []) c (covers-longer p (name ∷ [])) in
              elim (cases_Bool (stays (see q))) [
                | inl s ↦ (
                    let o = own_of look top tree b h t marks (nodes b) (nodes h) met see is 0 clear p q c r k true s in
                    let m = not_merged look top tree b h t marks (nodes b) (nodes h) met see is clear hangs q p c k in
                    kept_below p name o m ∙ met_below look top b tree nodes shown are le txn f own draft p name d v (sym (keep look top tree b h t marks (nodes b) (nodes h) met see is 0 clear p o m) ∙ e) plain child dir)
                | inr s ↦ (
                    let o = own_of look top tree b h t marks (nodes b) (nodes h) met see is 0 clear p q c r k false s in
                    let o2 = own_of look top tree b h t marks (nodes b) (nodes h) met see is 0 clear (p ++ name ∷ []) q longer r k false s in
                    let at : StandsAt look h p d = (is.head_nodes.each p d).0 (sym (take_head look top tree b h t marks (nodes b) (nodes h) met see is 0 clear p o) ∙ e) in
                    take_head look top tree b h t marks (nodes b) (nodes h) met see is 0 clear (p ++ name ∷ []) o2 ∙ (is.head_nodes.each (p ++ name ∷ []) v).1 (child_stands look h d v p name at dir child))
              ])
        ]
          where
            not_merged_here : is_merged see p ≡ true → now (p ++ name ∷ []) ≡ Some v
            not_merged_here m =
                let l = merged_at p m in
                let same = some_same (now p) (Linked l.v l.y) d l.now_is e in
                absurd (both_ways _ plain (ap (λ (z : NodeRev). in_txn z.id.place) (sym same) ∙ l.next.own))

        inherited : (p : Path) (name : PathName) (d : OwnNode) (u v : NodeRev) → after p ≡ Some d → d.entries ≡ None → IsPred look d.node u → u.kind ≡ Dir → ChildOf look u name (Ok (Some v)) → now (p ++ name ∷ []) ≡ Some v
        inherited p name d u v e none pred dir child = by (own_now p d e)
          where
            by : OwnNow p d → now (p ++ name ∷ []) ≡ Some v
            by (Kept here o m) = kept_below p name o m
                ∙ met_inherited look top b tree nodes shown are le txn f own draft p name d u v here (was_unlisted p d name here none) (ap (λ (o : Option (List DirEntry)). has_entry o name) none) pred dir child
            by (Link m l) = absurd (let q = sym none ∙ ap (λ (z : OwnNode). z.entries) l.same in cc)

    pub landed_met : (p : Path) → draft_nodes nodes after (nodes h) p ≡ now p
    landed_met = tied_are_met look top h tree nodes shown are is.within now after txn g (merge_keeps_drafts look top tree b h t marks (nodes b) (nodes h) met see is less clear hangs) tied landed_draft all

    pub landed_marks : AreMarksOf (tree h) marks after
    landed_marks = sides_are_marks look top h tree nodes shown are is.within txn g after marks landed_draft landed_files
        (subst (λ (m : NodesAt). IsOwnSide (nodes h) marks m) (λ i p. sym (landed_met p) i) (side look top tree b h t marks (nodes b) (nodes h) met see is 0 clear))

pub landed_is_a_draft : LandedIsADraft
landed_is_a_draft = record {
  draft = λ look top tree b h t marks nodes see txn f after own lists are is less clear draft files once say listing folder. landed_draft look top tree b h t marks nodes see txn f own lists are is clear draft files once less say listing after folder;
  files = λ look top tree b h t marks nodes see txn f own lists are is clear draft files once. (landed_files look top tree b h t marks nodes see txn f own lists are is clear draft files once, landed_once look top tree b h t marks nodes see txn f own lists are is clear draft files once);
  met = λ look top tree b h t marks nodes see txn f after own lists are is less clear draft files once say listing folder. landed_met look top tree b h t marks nodes see txn f own lists are is clear draft files once less say listing after folder;
  marks = λ look top tree b h t marks nodes see txn f after own lists are is less clear draft files once say listing folder. landed_marks look top tree b h t marks nodes see txn f own lists are is clear draft files once less say listing after folder;
}
