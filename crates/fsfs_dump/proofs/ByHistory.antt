-- Where files stand for a history, what is written is the dump of that history.
use Rattle.std.proofs.Common.{◌≡◌, ℕ, suc, ◌+◌, ◌≤◌, Bool, true, false, List, [], ◌∷◌, length, map, Option, Some, None, Ok, Err, refl, sym, ap, subst, ◌∙◌, arith, inl, inr}
use Rattle.std.specs.Prelude.{◌≢◌, Contains, Result, IsSomeAnd, slice_get, nat_le}
use Rattle.std.specs.List.{AllByRecursion}
use Rattle.std.specs.FinMap.{FinMap, get, entries}
use Rattle.std.proofs.lemmas.Bool.{and_parts}
use Rattle.std.proofs.lemmas.Option.{same_Some}
use Rattle.fsfs_base.specs.Files.{Files}
use Rattle.fsfs_base.specs.Paths.{Path, path_cmp, path_text}
use Rattle.fsfs_base.specs.declared.kind.Kind.{Kind}
use Rattle.fsfs_base.specs.declared.kind.Kind.TheVariants.{File, Dir}
use Rattle.fsfs_base.specs.declared.action.Action.{Action}
use Rattle.fsfs_base.specs.declared.action.Action.TheVariants.{Add, Delete, Replace, Modify}
use Rattle.fsfs_tree.specs.declared.change_map.Change.{Change}
use Rattle.fsfs_tree.specs.Nodes.{Node, Content, Bytes, Closed, TreeFunction}
use Rattle.fsfs_tree.specs.Revisions.{Revision, node_in, tree_of}
use Rattle.fsfs_tree.specs.ChangedTexts.{in_text_order}
use Rattle.fsfs_revision.specs.declared.wrong.Wrong.{Wrong}
use Rattle.fsfs_revision.specs.declared.wrong.Wrong.TheVariants as wrongs
use Rattle.fsfs_revision.specs.Damage.Damages.{place_of}
use Rattle.fsfs_revision.specs.Damage.Readings.{AndThen}
use Rattle.fsfs_revision.specs.Told.{RevisionBytes}
use Rattle.fsfs_revision.specs.RevProps.{only}
use Rattle.fsfs_revision.specs.RevBytes.{rev_bytes, props_bytes}
use Rattle.fsfs_revision.specs.Nodes.{is_revision_id}
use Rattle.fsfs_noderev.specs.declared.changes.item.ChangeItem.{ChangeItem}
use Rattle.fsfs_noderev.specs.declared.node_id.NodeId.{NodeId}
use Rattle.fsfs_noderev.specs.declared.node_rev.NodeRev.{NodeRev}
use Rattle.fsfs_revision.specs.Shows.Reading.{offset_of, OfId, PropsOf, Met, Stands, StandsAt}
use Rattle.fsfs_revision.specs.Shows.Shown.{IsTextOf, IsShown, IsShownAs, Shows}
use Rattle.fsfs_revision.proofs.OneWalk.{met_same}
use Rattle.fsfs_stands.specs.Changes.{IsChangeOf, FitsTree}
use Rattle.fsfs_stands.specs.ChangedLaws.{ShowChanges}
use Rattle.fsfs_stands.specs.ChangedTexts.{ByText, in_order, KindOf, is_nameable}
use Rattle.fsfs_stands.specs.Files.{StandsFor}
use Rattle.fsfs_stands.specs.FileTexts.{IsWholeText}
use Rattle.fsfs_stands.specs.Texts.{End, Whole, Refused, Stopped}
use Rattle.fsfs_stands.specs.Agreeing.{Agree, IsFront}
use Rattle.fsfs_stands.specs.declared.look_fault.LookFault.TheVariants as faults
use Rattle.fsfs_stands.proofs.WholeTexts.{of_agree}
use Rattle.fsfs_stands.proofs.TextOrder.{all_put, each_in, valued}
use Rattle.fsfs_stands.proofs.Flat.{earlier}
use Rattle.fsfs_stands.proofs.ChangedByTrees as changed
use Rattle.fsfs_look.specs.Revprops.Texts.{ReadText}
use Rattle.fsfs_look.specs.Walks.{Then}
use Rattle.fsfs_dump.specs.Records.{dump_head, revision_record, change_records}
use Rattle.fsfs_dump.specs.Flat.{CutText, uncut, behind, if_set, with_content, node_records, records_by, path_records, changes_dump, revision_dump, revisions_dump, history_dump}
use Rattle.fsfs_dump.specs.Readings.{NodeBy, NodeOf, IfSet, ContentBy, ContentOf, source_of, TextRecords, NodeRecords, KindRecords, ThereRecords, ActionRecords, ItemRecords}
use Rattle.fsfs_dump.specs.Texts.{ItemsText, ChangesText, RevisionText, RevisionsText, DumpText}
use Rattle.fsfs_dump.specs.Laws.{IsCut, DumpsAreByTheHistory}
use Rattle.fsfs_dump.proofs.OneText.{dumps_one}
use Rattle.fsfs_dump.proofs.StandingIds.{of_standing}

-- ---- a text that gives a cut text

abbrev delta_at : ℕ × ℕ → Wrong
delta_at at = wrongs.Delta (place_of at.0 at.1)

abbrev end_at : Option (ℕ × ℕ) → End
end_at None = Whole
end_at (Some at) = Refused (faults.Wrong (delta_at at))

abbrev Gives : (List ℕ → End → Type 0) → CutText → Type 0
Gives T cut = T cut.0 (end_at cut.1)

-- records that are read, or not for a delta
abbrev ReadsCut : (Result (List ℕ) Wrong → Type 0) → CutText → Type 0
ReadsCut Q (text, None) = Q (Ok text)
ReadsCut Q (text, Some at) = (text ≡ []) × Q (Err (delta_at at))

read_gives : (Q : Result (List ℕ) Wrong → Type 0) (cut : CutText) → ReadsCut Q cut → Gives (ReadText Q) cut
read_gives Q (text, None) h = inr (inl (h, refl))
read_gives Q (text, Some at) h = inr (inr (delta_at at, h.1, (h.0, refl)))

delta_not_whole : (at : ℕ × ℕ) → Refused (faults.Wrong (delta_at at)) ≢ Whole
delta_not_whole at e = absurd cc

then_gives : (R S : List ℕ → End → Type 0) (a b : CutText) → Gives R a → Gives S b → Gives (Then R S) (behind a b)
then_gives R S (text, None) b g h = inr (text, b.0, g, h, refl)
then_gives R S (text, Some at) b g h = inl (g, delta_not_whole at)

and_then_cut : {X : Type 0} (R : Result X Wrong → Type 0) (S : X → Result (List ℕ) Wrong → Type 0) (x : X) (cut : CutText) → R (Ok x) → ReadsCut (S x) cut → ReadsCut (AndThen R S) cut
and_then_cut R S x (text, None) r s = (x, r, s)
and_then_cut R S x (text, Some at) r s = (s.0, inr (x, r, s.1))

-- ---- the records of an item, by the node at its path

set_read : {X : Type 0} (set : Bool) (R : Result X Wrong → Type 0) (x : X) → R (Ok x) → IfSet set R (Ok (if_set set x))
set_read false R x h = refl
set_read true R x h = (x, h, refl)

module _ (look : RevisionBytes) where
  bytes_read : (kind : Kind) (v : NodeRev) (bytes : List ℕ) → IsTextOf look kind v (Bytes bytes) → ContentBy look v kind (Ok bytes)
  bytes_read Dir v bytes h = let none : bytes ≡ [] = cc in ap (λ (b : List ℕ). let r : Result (List ℕ) Wrong = Ok b in r) none
  bytes_read File v bytes h = h

  closed_read : (kind : Kind) (v : NodeRev) (rev offset : ℕ) → IsTextOf look kind v (Closed rev offset) → ContentBy look v kind (Err (delta_at (rev, offset)))
  closed_read Dir v rev offset h = absurd cc
  closed_read File v rev offset h = h

  content_read : (records : Option (List ℕ) → List ℕ) (set : Bool) (content : Content) (v : NodeRev) → IsTextOf look v.kind v content
      → ReadsCut (AndThen (IfSet set (ContentOf look v)) (λ text r. r ≡ Ok (records text))) (with_content records set content)
  content_read records false content v h = (None, refl, refl)
  content_read records true (Bytes bytes) v h = (Some bytes, (bytes, bytes_read v.kind v bytes h, refl), refl)
  content_read records true (Closed rev offset) v h = (refl, inl (inl (closed_read v.kind v rev offset h)))

module _ (look : RevisionBytes) (rev : ℕ) (tree : ℕ → TreeFunction) (shows : (r : ℕ) → r ≤ rev → Shows look r (tree r)) (item : ChangeItem) (change : Change) (is : IsChangeOf look rev item change) (fits : FitsTree look rev item) where
  abbrev path : Path
  path = item.path

  there : (v : NodeRev) → StandsAt look rev path v → IsSomeAnd (tree rev path) (IsShown look rev path v)
  there v stands =
      let h = (shows rev (omega arith)).each path in
      subst (λ (met : Met). IsShownAs look rev path met (tree rev path)) (met_same look rev path h.0 (Stands v) h.1 stands) h.2

  node_read : (v : NodeRev) → StandsAt look rev path v → (is_revision_id item.id ≡ true → item.id ≡ v.id) → (named : Bool) → is_nameable rev item.id ≡ named → NodeBy look rev item named (Ok v)
  node_read v stands same true e =
      let both = and_parts (is_revision_id item.id) (nat_le (offset_of item.id.place).rev rev) e in
      subst (λ (id : NodeId). OfId look id (Ok v)) (sym (same both.0)) (of_standing look rev path v stands)
  node_read v stands same false e = (Stands v, stands, refl)

  module _ (action : Action) (same : change.action ≡ action) (v : NodeRev) (stands : StandsAt look rev path v) (id : is_revision_id item.id ≡ true → item.id ≡ v.id) where
    abbrev cut : Node → Bool → Bool → Option (ℕ × Path) → Action → CutText
    cut n text props source act = with_content (change_records path act change.kind source (if_set props n.properties)) text n.text

    by_node : (o : Option Node) → IsSomeAnd o (IsShown look rev path v) → ReadsCut (ThereRecords look rev item action) (node_records path change o)
    by_node None h = absurd h
    by_node (Some n) h =
        let pairs = if_set item.props_changed n.properties in
        let here = cut n item.text_changed item.props_changed (source_of item) action in
        let content = content_read look (change_records path action change.kind (source_of item) pairs) item.text_changed n.text v h.text in
        let props = and_then_cut (IfSet item.props_changed (PropsOf look v)) (TextRecords look item action change.kind v) pairs here (set_read item.props_changed (PropsOf look v) n.properties h.properties) content in
        let node = and_then_cut (NodeOf look rev item) (NodeRecords look item action change.kind) v here (node_read v stands id (is_nameable rev item.id) refl) props in
        let all = and_then_cut (KindOf look rev item item.kind) (KindRecords look rev item action) change.kind here (changed.item_kind look rev tree shows item change.kind is.kind) node in
        let told : here ≡ cut n change.text_changed change.props_changed change.source change.action = λ i. cut n (sym is.text_changed i) (sym is.props_changed i) (sym is.source i) (sym same i) in
        subst (ReadsCut (ThereRecords look rev item action)) told all

    there_read : ReadsCut (ThereRecords look rev item action) (node_records path change (tree rev path))
    there_read = by_node (tree rev path) (there v stands)

  there_is : (action : Action) → change.action ≡ action → item.action ≢ Delete → ReadsCut (ThereRecords look rev item action) (node_records path change (tree rev path))
  there_is action same other = let f = fits.there other in there_read action same f.0 f.1 f.2

  by_action : (action : Action) → change.action ≡ action → item.action ≡ action → ReadsCut (ActionRecords look rev item action) (records_by (tree rev) path change action)
  by_action Delete same its = refl
  by_action Add same its = there_is Add same (λ e. let h : Add ≡ Delete = sym its ∙ e in absurd cc)
  by_action Replace same its = there_is Replace same (λ e. let h : Replace ≡ Delete = sym its ∙ e in absurd cc)
  by_action Modify same its = there_is Modify same (λ e. let h : Modify ≡ Delete = sym its ∙ e in absurd cc)

  pub item_gives : Gives (ReadText (ItemRecords look rev item)) (path_records (tree rev) (path, change))
  item_gives =
      read_gives (ItemRecords look rev item) (path_records (tree rev) (path, change))
      (subst (λ (a : Action). ReadsCut (ActionRecords look rev item item.action) (records_by (tree rev) path change a)) (sym is.action) (by_action item.action is.action refl))

-- ---- all items of a revision, in one order

module _ (look : RevisionBytes) (rev : ℕ) (tree : ℕ → TreeFunction) (changes : FinMap path_cmp Change) (shown : ShowChanges look rev tree changes) where
  abbrev Pair : Type 0
  Pair = Path × Change

  abbrev items : List ChangeItem
  items = changed.items look rev tree changes shown

  abbrev found : ByText
  found = changed.found look rev tree changes shown

  abbrev flat : List (List ℕ × Pair)
  flat = changed.flat look rev tree changes shown

  zipped : (es : ByText) (fs : List (List ℕ × Pair)) → valued (λ (x : ChangeItem). x.path) es ≡ valued (λ (e : Pair). e.0) fs → AllByRecursion (λ (e : List ℕ × ChangeItem). Contains items e.1) es
      → AllByRecursion (λ (f : List ℕ × Pair). get changes f.1.0 ≡ Some f.1.1) fs → Gives (ItemsText look rev Whole (in_order es)) (changes_dump (tree rev) (map (λ (f : List ℕ × Pair). f.1) fs))
  zipped [] [] same of has = inr (refl, refl)
  zipped [] (f ∷ fs) same of has = absurd (omega (arith, ap length same))
  zipped (e ∷ es) [] same of has = absurd (omega (arith, ap length same))
  zipped (e ∷ es) (f ∷ fs) same of has =
      let x = shown.changes_are.each e.1 of.0 in
      let path : e.1.path ≡ f.1.0 = heads same in
      let change : x.0 ≡ f.1.1 = same_Some x.0 f.1.1 (sym x.2 ∙ ap (get changes) path ∙ has.0) in
      let pair : ◌≡◌ {A = Pair} (e.1.path, x.0) f.1 = λ i. (path i, change i) in
      let first = subst (λ (p : Pair). Gives (ReadText (ItemRecords look rev e.1)) (path_records (tree rev) p)) pair (item_gives look rev tree shown.trees e.1 x.0 x.1 (shown.changes_are.fits e.1 of.0)) in
      then_gives (ReadText (ItemRecords look rev e.1)) (ItemsText look rev Whole (in_order es)) (path_records (tree rev) f.1) (changes_dump (tree rev) (map (λ (f : List ℕ × Pair). f.1) fs)) first (zipped es fs (tails same) of.1 has.1)
    where
      heads : (let a : List (List ℕ × Path) = (e.0, e.1.path) ∷ valued (λ (x : ChangeItem). x.path) es in a) ≡ (f.0, f.1.0) ∷ valued (λ (e : Pair). e.0) fs → e.1.path ≡ f.1.0
      heads h = let k : ◌≡◌ {A = List ℕ × Path} (e.0, e.1.path) (f.0, f.1.0) = cc in ap (λ (t : List ℕ × Path). t.1) k

      tails : (let a : List (List ℕ × Path) = (e.0, e.1.path) ∷ valued (λ (x : ChangeItem). x.path) es in a) ≡ (f.0, f.1.0) ∷ valued (λ (e : Pair). e.0) fs → valued (λ (x : ChangeItem). x.path) es ≡ valued (λ (e : Pair). e.0) fs
      tails h = cc

  pub changes_give : Gives (ChangesText look rev) (changes_dump (tree rev) (in_text_order (entries changes)))
  changes_give =
      inr (inr (
        (items, None),
        changed.read look rev tree changes shown,
        zipped found flat (changed.same_paths look rev tree changes shown)
            (all_put (λ (x : ChangeItem). path_text x.path) (Contains items) [] items tt (each_in (Contains items) items (λ x c. c)))
            (all_put (λ (e : Pair). path_text e.0) (λ (e : Pair). get changes e.0 ≡ Some e.1) [] (entries changes) tt (each_in (λ (e : Pair). get changes e.0 ≡ Some e.1) (entries changes) (changed.has look rev tree changes shown))),
      ))

-- ---- all revisions

module _ (files : Files) (h : List Revision) (s : StandsFor files h) where
  abbrev revs : RevisionBytes
  revs = rev_bytes s.opened.layout files

  abbrev props : RevisionBytes
  props = props_bytes s.opened.layout files

  module _ (rev : ℕ) (revision : Revision) (is : slice_get h rev ≡ Some revision) where
    trees : (r : ℕ) → r ≤ rev → Shows revs r (tree_of h r)
    trees r le =
        let x = earlier h rev r revision le is in
        subst (λ (o : Option Revision). Shows revs r (node_in o)) (sym x.1) (s.history.each r x.0 x.1).tree

    shown : ShowChanges revs rev (tree_of h) revision.changes
    shown = let w = s.history.each rev revision is in record { bytes = w.bytes; bytes_are = w.bytes_are; changes_are = w.changes; trees = trees }

    changes_here : Gives (ChangesText revs rev) (changes_dump (get revision.tree) (in_text_order (entries revision.changes)))
    changes_here =
        subst (λ (o : Option Revision). Gives (ChangesText revs rev) (changes_dump (node_in o) (in_text_order (entries revision.changes)))) is
        (changes_give revs rev (tree_of h) revision.changes shown)

    revision_gives : Gives (RevisionText revs (only props) rev) (revision_dump rev revision)
    revision_gives =
        let w = s.history.each rev revision is in
        let record_is : Gives (IsWholeText (revision_record rev revision.properties)) (uncut (revision_record rev revision.properties)) = (refl, refl) in
        inr (inr (
          revision.properties,
          (w.file, w.file_is, w.properties),
          then_gives (IsWholeText (revision_record rev revision.properties)) (ChangesText revs rev) (uncut (revision_record rev revision.properties)) (changes_dump (get revision.tree) (in_text_order (entries revision.changes))) record_is changes_here,
        ))

  revisions_give : (first : ℕ) (rs : List Revision) → ((k : ℕ) (x : Revision) → slice_get rs k ≡ Some x → (r : ℕ) → r ≡ first + k → Gives (RevisionText revs (only props) r) (revision_dump r x))
      → Gives (RevisionsText revs (only props) first (length rs)) (revisions_dump first rs)
  revisions_give first [] each = inr (refl, refl)
  revisions_give first (x ∷ rs) each =
      then_gives (RevisionText revs (only props) first) (RevisionsText revs (only props) (suc first) (length rs)) (revision_dump first x) (revisions_dump (suc first) rs)
      (each 0 x refl first (omega arith))
      (revisions_give (suc first) rs (λ k y e r is. each (suc k) y e r (omega (arith, is))))

  pub dump_gives : (uuid : List ℕ) → Gives (DumpText revs (only props) uuid s.opened.youngest) (history_dump uuid h)
  dump_gives uuid =
      let head_is : Gives (IsWholeText (dump_head uuid)) (uncut (dump_head uuid)) = (refl, refl) in
      let all : Gives (RevisionsText revs (only props) 0 (length h)) (revisions_dump 0 h) = revisions_give 0 h (λ k x e r is. revision_gives r x (let same : k ≡ r = omega (arith, is) in subst (λ (n : ℕ). slice_get h n ≡ Some x) same e)) in
      then_gives (IsWholeText (dump_head uuid)) (RevisionsText revs (only props) 0 (suc s.opened.youngest)) (uncut (dump_head uuid)) (revisions_dump 0 h) head_is
      (subst (λ (n : ℕ). Gives (RevisionsText revs (only props) 0 n) (revisions_dump 0 h)) s.count all)

-- ---- a text that agrees with a cut text

same_delta : (front text : List ℕ) (at : ℕ × ℕ) (end : End) → front ≡ text → Refused (faults.Wrong (delta_at at)) ≡ end → IsCut (front, Some at) text end
same_delta front text at Whole same e = absurd cc
same_delta front text at (Refused fault) same e = (sym same, cc)
same_delta front text at Stopped same e = absurd cc

front_delta : (front text : List ℕ) (at : ℕ × ℕ) (end : End) → end ≡ Stopped → IsFront text front → IsCut (front, Some at) text end
front_delta front text at Whole e is = absurd cc
front_delta front text at (Refused fault) e is = absurd cc
front_delta front text at Stopped e is = is

cut_agrees : (cut : CutText) (text : List ℕ) (end : End) → Agree cut.0 (end_at cut.1) text end → IsCut cut text end
cut_agrees (whole, None) text end h = of_agree whole text end h
cut_agrees (front, Some at) text end (inl (same, e)) = same_delta front text at end same e
cut_agrees (front, Some at) text end (inr (inl (e, is))) = absurd cc
cut_agrees (front, Some at) text end (inr (inr (e, is))) = front_delta front text at end e is

pub dumps_by : DumpsAreByTheHistory
dumps_by files h s uuid text end is =
    let cut = history_dump uuid h in
    cut_agrees cut text end (dumps_one (rev_bytes s.opened.layout files) (props_bytes s.opened.layout files) uuid s.opened.youngest cut.0 text (end_at cut.1) end (dump_gives files h s uuid) is)
