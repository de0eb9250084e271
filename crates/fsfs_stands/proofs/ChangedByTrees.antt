-- Where the bytes show trees and changed paths, what is printed is the flat text of the changed paths.
use Rattle.std.proofs.Common.{◌≡◌, ℕ, zero, suc, ◌+◌, ◌<◌, ◌≤◌, ltb, Bool, true, false, cond, List, [], ◌∷◌, ◌++◌, length, take, drop, map, Option, Some, None, Result, Ok, Err, refl, sym, ap, subst, ◌∙◌, arith, inl, inr}
use Rattle.std.specs.Prelude.{◌&&◌, T, Contains, nat_le, option_map, IsSomeAnd}
use Rattle.std.specs.List.{AllByRecursion, flat_map}
use Rattle.std.specs.BTreeMap.{is_at}
use Rattle.std.specs.FinMap.{FinMap, get, entries}
use Rattle.std.specs.FinMap.Entries.{find, is_sorted, same_entries}
use Rattle.std.specs.Cmp.Lexicographic.{nat_list_cmp_total}
use Rattle.std.proofs.lemmas.Map.Lookups.{exact_bytes}
use Rattle.std.proofs.lemmas.List.{length-take, length-append, take-append-drop}
use Rattle.std.proofs.lemmas.Option.{same_Some}
use Rattle.std.proofs.lemmas.Bool.Decides.{nat_tests}
use Rattle.fsfs_base.specs.Paths.{PathName, Path, path_cmp, path_text, names_text}
use Rattle.fsfs_base.specs.PathTexts.{IsName, IsPath}
use Rattle.fsfs_base.specs.declared.kind.Kind.{Kind}
use Rattle.fsfs_base.specs.declared.kind.Kind.TheVariants.{File}
use Rattle.fsfs_base.specs.declared.action.Action.{Action}
use Rattle.fsfs_base.specs.declared.action.Action.TheVariants.{Add, Delete, Replace, Modify}
use Rattle.fsfs_base.proofs.PathTextLemmas.{path_by_text, names_text-append}
use Rattle.fsfs_tree.specs.declared.change_map.Change.{Change}
use Rattle.fsfs_tree.specs.Nodes.{Node, TreeFunction}
use Rattle.fsfs_revision.specs.declared.wrong.Wrong.{Wrong}
use Rattle.fsfs_revision.specs.Told.{RevisionBytes}
use Rattle.fsfs_noderev.specs.declared.node_rev.NodeRev.{NodeRev}
use Rattle.fsfs_revision.specs.Nodes.{is_revision_id}
use Rattle.fsfs_noderev.specs.Changes.Texts.{Items}
use Rattle.fsfs_noderev.specs.declared.changes.item.ChangeItem.{ChangeItem}
use Rattle.fsfs_revision.specs.Shows.Reading.{offset_of, Met, Stands, Lacking, Blocked, MetAt, StandsAt}
use Rattle.fsfs_revision.specs.Shows.Shown.{IsShown, IsShownAs, Shows}
use Rattle.fsfs_stands.specs.Changes.{HasItems, IsKindOf, Said, Named, There, NotThere, IsChangeOf, AreChangesOf}
use Rattle.fsfs_stands.specs.Texts.{End, Whole}
use Rattle.fsfs_tree.specs.ChangedTexts.{put_by, in_text_order, nearest_source, below_source, or_before, taken_from, source_of_change, kind_or, node_of_place, taken_kind, modified_line, action_lines, change_lines, changed_text}
use Rattle.fsfs_stands.proofs.WholeTexts.{of_agree}
use Rattle.fsfs_stands.specs.Items.{ItemsOf}
use Rattle.fsfs_stands.specs.ChangedTexts.{ByText, by_text, in_order, kind_met, KindAt, is_nameable, KindUnsaid, KindOf, source_value, source_at, KindFrom, TakenKind, ActionLines, ItemLines, LinesText, OfNone, OfItem, ChangedText}
use Rattle.fsfs_stands.specs.ChangedLaws.{ShowChanges, ChangedPathsAreByTheTrees}
use Rattle.fsfs_stands.proofs.Entries.{got_in, in_got}
use Rattle.fsfs_stands.proofs.Places.{taken_within}
use Rattle.fsfs_stands.proofs.TextOrder.{text_cmp, put_sorted, found_is, put_found, all_put, each_in, valued, sorted_valued, find_valued, lookup_find}
use Rattle.fsfs_stands.proofs.ChangedOneText.{changed_one}

-- ---- paths

names_taken : (p : Path) (k : ℕ) → AllByRecursion IsName p → AllByRecursion IsName (take k p)
names_taken p zero all = tt
names_taken [] (suc k) all = tt
names_taken (x ∷ p) (suc k) all = (all.0, names_taken p k all.1)

-- a front of a path's names is a path
text_fits : (p : Path) → length (path_text p) ≤ 4096 → length (names_text p) ≤ 4096
text_fits [] h = omega arith
text_fits (x ∷ p) h = h

names_fit : (p : Path) → length (names_text p) ≤ 4096 → length (path_text p) ≤ 4096
names_fit [] h = omega arith
names_fit (x ∷ p) h = h

front_path : (p : Path) (k : ℕ) → IsPath p → IsPath (take k p)
front_path p k is = record {
  names = names_taken p k is.names;
  deep = omega (arith, is.deep, length-take k p);
  fits = (let whole = ap names_text (sym (take-append-drop k p)) ∙ names_text-append (take k p) (drop k p) in
      names_fit (take k p) (omega (arith, text_fits p is.fits, ap length whole, length-append (names_text (take k p)) (names_text (drop k p)))));
}

-- the items of data have paths
items_paths : (May : List ChangeItem → ChangeItem → Type 0) (a : List ChangeItem) (text : List ℕ) (items : List ChangeItem) → Items May a text items → (item : ChangeItem) → Contains items item → IsPath item.path
items_paths May a text [] w item (k, less, is) = absurd (omega (arith, less))
items_paths May a text (x ∷ items) w item (zero, less, is) =
    subst (λ (y : ChangeItem). IsPath y.path) is (let first = w.2.first_is in let second = first.3 in let third = second.3 in let fourth = third.3 in fourth.3.path_is)
items_paths May a text (x ∷ items) w item (suc k, less, is) = items_paths May (a ++ x ∷ []) w.1 items w.4 item (k, omega (arith, less), is)

-- ---- kinds by the trees

module _ (look : RevisionBytes) (rev : ℕ) (tree : ℕ → TreeFunction) (shows : (r : ℕ) → r ≤ rev → Shows look r (tree r)) where
  node_kind : (r : ℕ) (p : Path) (kind : Kind) (v : NodeRev) (node : Option Node) → IsSomeAnd node (IsShown look r p v) → v.kind ≡ kind_or kind node
  node_kind r p kind v None h = absurd h
  node_kind r p kind v (Some n) h = sym h.kind

  met_kind : (r : ℕ) (p : Path) (kind : Kind) (met : Met) → IsShownAs look r p met (tree r p) → kind_met kind met ≡ kind_or kind (tree r p)
  met_kind r p kind (Stands v) h = node_kind r p kind v (tree r p) h
  met_kind r p kind (Lacking depth) h = sym (ap (kind_or kind) h)
  met_kind r p kind (Blocked depth) h = sym (ap (kind_or kind) h)

  ok_kind : (a b : Kind) → a ≡ b → (let r : Result Kind Wrong = Ok b in r) ≡ Ok a
  ok_kind a b e = ap (λ (k : Kind). let r : Result Kind Wrong = Ok k in r) (sym e)

  kind_shown : (r : ℕ) (p : Path) (kind : Kind) → r ≤ rev → KindAt look r p kind (Ok (kind_or kind (tree r p)))
  kind_shown r p kind le = let s = (shows r le).each p in (s.0, s.1, ok_kind (kind_met kind s.0) (kind_or kind (tree r p)) (met_kind r p kind s.0 s.2))

  -- nothing that stands there
  none_kind : (p : Path) → ((v : NodeRev) → StandsAt look rev p v → ⊥) → KindAt look rev p File (Ok File)
  none_kind p none = by ((shows rev (omega arith)).each p)
    where
      by : (met : Met) × MetAt look rev p (Ok met) × IsShownAs look rev p met (tree rev p) → KindAt look rev p File (Ok File)
      by (Stands v, is, h) = absurd (none v is)
      by (Lacking depth, is, h) = (Lacking depth, is, refl)
      by (Blocked depth, is, h) = (Blocked depth, is, refl)

  nameable : (id r : Bool) → id ≡ true → r ≡ true → (id && r) ≡ true
  nameable true true e f = refl
  nameable true false e f = f
  nameable false r e f = e

  unnameable : (id r : Bool) → id ≡ false → (id && r) ≡ false
  unnameable true r e = absurd cc
  unnameable false r e = refl

  pub item_kind : (item : ChangeItem) (kind : Kind) → IsKindOf look rev item kind → KindOf look rev item item.kind (Ok kind)
  item_kind item kind (Said _ e) = subst (λ (o : Option Kind). KindOf look rev item o (Ok kind)) (sym e) refl
  item_kind item _ (Named u none id le of) =
      let is : is_nameable rev item.id ≡ true = nameable (is_revision_id item.id) (nat_le (offset_of item.id.place).rev rev) id (grind (arith, nat_tests)) in
      subst (λ (o : Option Kind). KindOf look rev item o (Ok u.kind)) (sym none) (subst (λ (b : Bool). KindUnsaid look rev item b (Ok u.kind)) (sym is) (u, of, refl))
  item_kind item _ (There v none id stands) =
      let is : is_nameable rev item.id ≡ false = unnameable (is_revision_id item.id) (nat_le (offset_of item.id.place).rev rev) id in
      subst (λ (o : Option Kind). KindOf look rev item o (Ok v.kind)) (sym none) (subst (λ (b : Bool). KindUnsaid look rev item b (Ok v.kind)) (sym is) (Stands v, stands, refl))
  item_kind item _ (NotThere none id nothing) =
      let is : is_nameable rev item.id ≡ false = unnameable (is_revision_id item.id) (nat_le (offset_of item.id.place).rev rev) id in
      subst (λ (o : Option Kind). KindOf look rev item o (Ok File)) (sym none) (subst (λ (b : Bool). KindUnsaid look rev item b (Ok File)) (sym is) (none_kind item.path nothing))

  -- ---- where what a replace took away stood

  kind_there : (kind : Kind) (o : Option (ℕ × Path)) → ((from : ℕ × Path) → o ≡ Some from → from.0 ≤ rev) → KindFrom look o kind (Ok (kind_or kind (node_of_place tree o)))
  kind_there kind None within = refl
  kind_there kind (Some from) within = kind_shown from.0 from.1 kind (within from refl)

nearest_same : (S S' : Path → Option (ℕ × Path)) (p : Path) (d : ℕ) → ((k : ℕ) → S (take k p) ≡ S' (take k p)) → nearest_source S p d ≡ nearest_source S' p d
nearest_same S S' p zero h = refl
nearest_same S S' p (suc k) h = λ i. below_source (h k i) (drop k p) (nearest_same S S' p k h i)

-- ---- the items against the changes

module _ (look : RevisionBytes) (rev : ℕ) (tree : ℕ → TreeFunction) (changes : FinMap path_cmp Change) (shown : ShowChanges look rev tree changes) where
  abbrev pub all : AreChangesOf look rev shown.bytes changes
  all = shown.changes_are

  abbrev pub items : List ChangeItem
  items = all.items

  abbrev pub found : ByText
  found = by_text items

  is_path : (item : ChangeItem) → Contains items item → IsPath item.path
  is_path = items_paths _ [] _ items all.items_are.items_are

  abbrev sources : Path → Option (ℕ × Path)
  sources q = source_of_change (get changes q)

  abbrev pub text_of : ChangeItem → List ℕ
  text_of item = path_text item.path

  -- a change is an item's
  item_of : (p : Path) (change : Change) → get changes p ≡ Some change → (item : ChangeItem) × Contains items item × (item.path ≡ p)
  item_of = all.only

  source_by : (q : Path) → IsPath q → (o : Option ChangeItem) → find text_cmp (path_text q) found ≡ o → (g : Option Change) → get changes q ≡ g → source_value o ≡ source_of_change g
  source_by q is None e None f = refl
  source_by q is None e (Some change) f =
      let x = item_of q change f in
      let y = put_found text_of items x.0 x.1 in
      let same : find text_cmp (path_text q) found ≡ Some y.0 = ap (λ (p : Path). find text_cmp (path_text p) found) (sym x.2) ∙ y.1 in
      absurd (let h : None ≡ Some y.0 = sym e ∙ same in cc)
  source_by q is (Some item) e g f =
      let put = found_is text_of items (path_text q) item e in
      let same : item.path ≡ q = path_by_text item.path q (is_path item put.0) is put.1 in
      let x = all.each item put.0 in
      let got : g ≡ Some x.0 = sym f ∙ ap (get changes) (sym same) ∙ x.2 in
      sym x.1.source ∙ sym (ap source_of_change got)

  source_same : (q : Path) → IsPath q → source_at found q ≡ sources q
  source_same q is = ap source_value (lookup_find (path_text q) found) ∙ source_by q is (find text_cmp (path_text q) found) refl (get changes q) refl

  taken_same : (p : Path) → IsPath p → taken_from rev (source_at found) p ≡ taken_from rev sources p
  taken_same p is = ap (or_before rev p) (nearest_same (source_at found) sources p (length p) (λ k. source_same (take k p) (front_path p k is)))

  kind_taken : (p : Path) (kind : Kind) → IsPath p → TakenKind look rev found p kind (Ok (taken_kind rev tree (get changes) p kind))
  kind_taken p kind is =
      subst (λ (o : Option (ℕ × Path)). KindFrom look o kind (Ok (taken_kind rev tree (get changes) p kind))) (sym (taken_same p is))
      (kind_there look rev tree shown.trees kind (taken_from rev sources p) (taken_within rev sources p))

  -- ---- lines

  module _ (item : ChangeItem) (change : Change) (is : IsChangeOf look rev item change) (path : IsPath item.path) where
    abbrev taken : Kind
    taken = taken_kind rev tree (get changes) item.path change.kind

    action_by : (action : Action) → ActionLines look rev found item action change.kind (Ok (action_lines item.path taken change action))
    action_by Add = refl
    action_by Delete = refl
    action_by Modify = λ i. Ok (modified_line (is.text_changed i) (is.props_changed i) item.path change.kind)
    action_by Replace = (taken, kind_taken item.path change.kind path, refl)

    lines_of : ItemLines look rev found item (Ok (change_lines rev tree (get changes) (item.path, change)))
    lines_of = (
      change.kind,
      item_kind look rev tree shown.trees item change.kind is.kind,
      subst (λ (a : Action). ActionLines look rev found item a change.kind (Ok (action_lines item.path taken change change.action))) is.action (action_by change.action),
    )

  -- ---- all of them, in one order

  abbrev pub Pair : Type 0
  Pair = Path × Change

  abbrev pub flat : List (List ℕ × Pair)
  flat = put_by (λ (e : Pair). path_text e.0) [] (entries changes)

  pub has : (e : Pair) → Contains (entries changes) e → get changes e.0 ≡ Some e.1
  has e c = in_got changes e.0 e.1 c

  paths_by : (q : List ℕ) (o : Option ChangeItem) → find text_cmp q found ≡ o → (g : Option Pair) → find text_cmp q flat ≡ g → option_map (λ (x : ChangeItem). x.path) o ≡ option_map (λ (e : Pair). e.0) g
  paths_by q None e None f = refl
  paths_by q None e (Some pair) f =
      let put = found_is (λ (e : Pair). path_text e.0) (entries changes) q pair f in
      let x = item_of pair.0 pair.1 (has pair put.0) in
      let y = put_found text_of items x.0 x.1 in
      let key : path_text x.0.path ≡ q = ap path_text x.2 ∙ put.1 in
      let same : find text_cmp q found ≡ Some y.0 = ap (λ (k : List ℕ). find text_cmp k found) (sym key) ∙ y.1 in
      absurd (let h : None ≡ Some y.0 = sym e ∙ same in cc)
  paths_by q (Some item) e None f =
      let put = found_is text_of items q item e in
      let x = all.each item put.0 in
      let y = put_found (λ (e : Pair). path_text e.0) (entries changes) (item.path, x.0) (got_in changes item.path x.0 x.2) in
      let same : find text_cmp q flat ≡ Some y.0 = ap (λ (k : List ℕ). find text_cmp k flat) (sym put.1) ∙ y.1 in
      absurd (let h : None ≡ Some y.0 = sym f ∙ same in cc)
  paths_by q (Some item) e (Some pair) f =
      let put = found_is text_of items q item e in
      let put_flat = found_is (λ (e : Pair). path_text e.0) (entries changes) q pair f in
      let x = item_of pair.0 pair.1 (has pair put_flat.0) in
      let pair_path : IsPath pair.0 = subst IsPath x.2 (is_path x.0 x.1) in
      let same = path_by_text item.path pair.0 (is_path item put.0) pair_path (put.1 ∙ sym put_flat.1) in
      ap (λ (p : Path). Some p) same

  pub same_paths : valued (λ (x : ChangeItem). x.path) found ≡ valued (λ (e : Pair). e.0) flat
  same_paths =
      same_entries text_cmp nat_list_cmp_total exact_bytes (valued (λ (x : ChangeItem). x.path) found) (valued (λ (e : Pair). e.0) flat)
      (subst T (sym (sorted_valued (λ (x : ChangeItem). x.path) found)) (put_sorted text_of [] items tt))
      (subst T (sym (sorted_valued (λ (e : Pair). e.0) flat)) (put_sorted (λ (e : Pair). path_text e.0) [] (entries changes) tt))
      (λ q. find_valued (λ (x : ChangeItem). x.path) q found ∙ paths_by q (find text_cmp q found) refl (find text_cmp q flat) refl ∙ sym (find_valued (λ (e : Pair). e.0) q flat))

  abbrev Left : List ChangeItem → List ℕ → End → Type 0
  Left = LinesText look rev found Whole

  abbrev lines_at : Pair → List ℕ
  lines_at = change_lines rev tree (get changes)

  zipped : (es : ByText) (fs : List (List ℕ × Pair)) → valued (λ (x : ChangeItem). x.path) es ≡ valued (λ (e : Pair). e.0) fs → AllByRecursion (λ (e : List ℕ × ChangeItem). Contains items e.1) es
      → AllByRecursion (λ (f : List ℕ × Pair). get changes f.1.0 ≡ Some f.1.1) fs → Left (in_order es) (flat_map lines_at (map (λ (f : List ℕ × Pair). f.1) fs)) Whole
  zipped [] [] same of has = OfNone
  zipped [] (f ∷ fs) same of has = absurd (omega (arith, ap length same))
  zipped (e ∷ es) [] same of has = absurd (omega (arith, ap length same))
  zipped (e ∷ es) (f ∷ fs) same of has =
      let x = all.each e.1 of.0 in
      let path : e.1.path ≡ f.1.0 = heads same in
      let change : x.0 ≡ f.1.1 = same_Some x.0 f.1.1 (sym x.2 ∙ ap (get changes) path ∙ has.0) in
      let pair : ◌≡◌ {A = Pair} (e.1.path, x.0) f.1 = λ i. (path i, change i) in
      let lines = subst (λ (p : Pair). ItemLines look rev found e.1 (Ok (lines_at p))) pair (lines_of e.1 x.0 x.1 (is_path e.1 of.0)) in
      OfItem e.1 (in_order es) (lines_at f.1) (flat_map lines_at (map (λ (f : List ℕ × Pair). f.1) fs)) Whole lines (zipped es fs (tails same) of.1 has.1)
    where
      heads : (let a : List (List ℕ × Path) = (e.0, e.1.path) ∷ valued (λ (x : ChangeItem). x.path) es in a) ≡ (f.0, f.1.0) ∷ valued (λ (e : Pair). e.0) fs → e.1.path ≡ f.1.0
      heads h = let k : ◌≡◌ {A = List ℕ × Path} (e.0, e.1.path) (f.0, f.1.0) = cc in ap (λ (t : List ℕ × Path). t.1) k

      tails : (let a : List (List ℕ × Path) = (e.0, e.1.path) ∷ valued (λ (x : ChangeItem). x.path) es in a) ≡ (f.0, f.1.0) ∷ valued (λ (e : Pair). e.0) fs → valued (λ (x : ChangeItem). x.path) es ≡ valued (λ (e : Pair). e.0) fs
      tails h = cc

  whole : Left (in_order found) (changed_text rev tree changes) Whole
  whole =
      zipped found flat same_paths (all_put text_of (Contains items) [] items tt (each_in (Contains items) items (λ x c. c)))
      (all_put (λ (e : Pair). path_text e.0) (λ (e : Pair). get changes e.0 ≡ Some e.1) [] (entries changes) tt (each_in (λ (e : Pair). get changes e.0 ≡ Some e.1) (entries changes) has))

  pub read : ItemsOf look rev (Ok (items, None))
  read =
      let h = all.items_are in
      ((h.trailer.changes, drop h.trailer.changes h.ends.front), (shown.bytes, shown.bytes_are, record { trailer = h.trailer; ends = h.ends; begins = refl; data_is = refl }), h.items_are)

  whole_text : ChangedText look rev (changed_text rev tree changes) Whole
  whole_text = inr (inr ((items, None), read, whole))

pub changed_by : ChangedPathsAreByTheTrees
changed_by look rev tree changes shown text end h =
    let whole : List ℕ = changed_text rev tree changes in
    of_agree whole text end (changed_one look rev whole text Whole end (whole_text look rev tree changes shown) h)
