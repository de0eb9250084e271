-- Where the items of a revision say what its tree says, they are its changed paths.
use Rattle.std.proofs.Common.{◌≡◌, ◌≤◌, ◌<◌, ◌++◌, ℕ, zero, suc, Bool, true, false, cond, List, [], ◌∷◌, refl, sym, ap, subst, ◌∙◌, length, drop, arith}
use Rattle.std.specs.Prelude.{◌≢◌, Ok, Option, Some, None, Result, Contains, option_map, slice_index_or}
use Rattle.std.specs.FinMap.{FinMap, get}
use Rattle.fsfs_base.specs.Paths.{Path, PathName, path_cmp, same_path}
use Rattle.fsfs_base.proofs.PathLemmas.{same_path-is, same_path-refl}
use Rattle.fsfs_base.specs.declared.kind.Kind.{Kind}
use Rattle.fsfs_base.specs.declared.kind.Kind.TheVariants.{File}
use Rattle.fsfs_tree.specs.declared.change_map.Change.{Change}
use Rattle.fsfs_noderev.specs.Changes.Texts.{HasNewPath, Items, HavePathsOnce, AreRevisionChanges}
use Rattle.fsfs_noderev.specs.declared.changes.item.ChangeItem.{ChangeItem}
use Rattle.fsfs_noderev.specs.declared.node_id.NodeId.{NodeId}
use Rattle.fsfs_noderev.specs.declared.node_rev.NodeRev.{NodeRev}
use Rattle.fsfs_revision.specs.Nodes.{is_revision_id}
use Rattle.fsfs_revision.specs.Told.{RevisionBytes}
use Rattle.fsfs_revision.specs.declared.wrong.Refusal.{Refusal}
use Rattle.fsfs_revision.specs.Shows.Reading.{DirEntry, OfEntry, OfNamed, ChildOf, named, Met, Stands, Lacking, Blocked, MetAt, StandsAt}
use Rattle.fsfs_revision.proofs.OneAnswer.{ok_same}
use Rattle.fsfs_revision.proofs.OneEntry.{entries_one}
use Rattle.fsfs_revision.proofs.OneWalk.{met_same}
use Rattle.fsfs_revision.proofs.Walks.{child_stands}
use Rattle.fsfs_stands.specs.Changes.{HasItems, IsKindOf, Said, Named, There, NotThere, IsChangeOf, FitsTree, AreChangesOf}
use Rattle.fsfs_sound.specs.Written.{Names}
use Rattle.fsfs_sound.specs.Revisions.{NamesAt, Root, Below, IsSoundTree, IsSoundItem, HasSoundItems}
use Rattle.fsfs_sound.specs.Revisions as names
use Rattle.fsfs_sound.proofs.Finite.{or_left, or_right}
use Rattle.fsfs_sound.proofs.Maps.{among, same_self, map_of}
use Rattle.fsfs_sound.proofs.Standing.{child_entry, names_one, of_entry_id, children, met_at}
use Rattle.std.specs.Ordering.{eq_by_cmp}
use Rattle.std.specs.Prelude.{map}

-- ---- items, each of its own path

item_at : List ChangeItem → Path → Option ChangeItem
item_at [] p = None
item_at (x ∷ items) p = cond (same_path x.path p) (Some x) (item_at items p)

-- each path comes once in a revision's data
paths_once : (a : List ChangeItem) (text : List ℕ) (xs : List ChangeItem) → Items HasNewPath a text xs → HavePathsOnce a xs
paths_once a text [] v = tt
paths_once a text (x ∷ xs) v = (v.3, paths_once (a ++ x ∷ []) v.1 xs v.4)

apart_of : (earlier : List ChangeItem) (x item : ChangeItem) → HasNewPath (earlier ++ x ∷ []) item → HasNewPath earlier item × (x.path ≢ item.path)
apart_of [] x item h = (tt, h.0)
apart_of (y ∷ earlier) x item h = let r = apart_of earlier x item h.1 in ((h.0, r.0), r.1)

is_new : (earlier items : List ChangeItem) → HavePathsOnce earlier items → (item : ChangeItem) (k : ℕ) → k < length items → slice_index_or items k item ≡ item → HasNewPath earlier item
is_new earlier [] once item k lt is = absurd (omega (arith, lt))
is_new earlier (x ∷ items) once item zero lt is = subst (HasNewPath earlier) is once.0
is_new earlier (x ∷ items) once item (suc k) lt is = (apart_of earlier x item (is_new (earlier ++ x ∷ []) items once.1 item k (omega (arith, lt)) is)).0

found_at : (earlier items : List ChangeItem) → HavePathsOnce earlier items → (item : ChangeItem) (k : ℕ) → k < length items → slice_index_or items k item ≡ item → item_at items item.path ≡ Some item
unfolding item_at
found_at earlier [] once item k lt is = absurd (omega (arith, lt))
found_at earlier (x ∷ items) once item zero lt is =
    ap (λ (b : Bool). cond b (Some x) (item_at items item.path)) (subst (λ (y : ChangeItem). same_path x.path y.path ≡ true) is (same_path-refl x.path)) ∙ ap (λ (y : ChangeItem). Some y) is
found_at earlier (x ∷ items) once item (suc k) lt is =
    let low : k < length items = omega (arith, lt) in
    let other = (apart_of earlier x item (is_new (earlier ++ x ∷ []) items once.1 item k low is)).1 in
    by (same_path x.path item.path) refl other (found_at (earlier ++ x ∷ []) items once.1 item k low is)
  where
    by : (b : Bool) → same_path x.path item.path ≡ b → x.path ≢ item.path → item_at items item.path ≡ Some item → cond b (Some x) (item_at items item.path) ≡ Some item
    by true same other rest = absurd (other (same_path-is x.path item.path same))
    by false same other rest = rest

at_contained : (items : List ChangeItem) (p : Path) (item : ChangeItem) → item_at items p ≡ Some item → Contains items item × (item.path ≡ p)
unfolding item_at
at_contained [] p item e = absurd (let clash : None ≡ Some item = e in cc)
at_contained (x ∷ items) p item e = by (same_path x.path p) refl e (λ f. at_contained items p item f)
  where
    by : (b : Bool) → same_path x.path p ≡ b → cond b (Some x) (item_at items p) ≡ Some item → (item_at items p ≡ Some item → Contains items item × (item.path ≡ p)) → Contains (x ∷ items) item × (item.path ≡ p)
    by true same f further = let is : x ≡ item = (let g = f in cc) in ((0, omega arith, is), subst (λ (y : ChangeItem). y.path ≡ p) is (same_path-is x.path p same))
    by false same f further = let r = further f in let lt = r.0.1 in ((suc r.0.0, omega (arith, lt), r.0.2), r.1)

item_paths : List ChangeItem → List Path
item_paths items = map (λ item. item.path) items

-- nothing is at other paths than those of the items
at_paths : (items : List ChangeItem) (p : Path) (item : ChangeItem) → item_at items p ≡ Some item → among (item_paths items) p ≡ true
unfolding item_at item_paths
at_paths [] p item e = absurd (let clash : None ≡ Some item = e in cc)
at_paths (x ∷ items) p item e = by (same_path x.path p) refl e (λ f. at_paths items p item f)
  where
    by : (b : Bool) → same_path x.path p ≡ b → cond b (Some x) (item_at items p) ≡ Some item → (item_at items p ≡ Some item → among (item_paths items) p ≡ true) → among (x.path ∷ item_paths items) p ≡ true
    by true same f further = or_left (eq_by_cmp path_cmp p x.path) (among (item_paths items) p) (subst (λ (q : Path). eq_by_cmp path_cmp p q ≡ true) (sym (same_path-is x.path p same)) (same_self p))
    by false other f further = or_right (eq_by_cmp path_cmp p x.path) (among (item_paths items) p) (further f)

module _ (look : RevisionBytes) (top : ℕ) (trees : (r : ℕ) → r ≤ top → IsSoundTree look r) (r : ℕ) (le : r ≤ top) where
  -- ---- what the tree names stands there

  named_child : (dir : NodeRev) (name : PathName) (entry : DirEntry) (o : Option NodeRev) → Names look dir name entry → ChildOf look dir name (Ok o) → (w : NodeRev) × OfEntry look entry (Ok w) × ChildOf look dir name (Ok (Some w))
  named_child dir name entry (Some w) names child =
      let e = child_entry look dir w name child in
      (w, subst (λ (x : DirEntry). OfEntry look x (Ok w)) (names_one look dir name e.0 entry e.1 names) e.2, child)
  named_child dir name entry None names child =
      let same = ok_same child.0 names.0 (entries_one look dir (Ok child.0) (Ok names.0) child.1 names.1) in
      none_named (named name child.0) ((λ i. named name (same i)) ∙ names.2) child.2
    where
      none_named : (q : Option DirEntry) → q ≡ Some entry → OfNamed look q (Ok None) → (w : NodeRev) × OfEntry look entry (Ok w) × ChildOf look dir name (Ok (Some w))
      none_named None is of = absurd cc
      none_named (Some e) is of = absurd of

  names_stand : {p : Path} {id : NodeId} → NamesAt look r p id → (v : NodeRev) × StandsAt look r p v × (v.id ≡ id)
  names_stand (names.Root v root) = (v, (v, root, refl), refl)
  names_stand (names.There p v at) = (v, at, refl)
  names_stand (names.Below p name dir entry at kind is) =
      let c = children look top trees r le p dir at kind name in
      let n = named_child dir name entry c.0 is c.1 in
      (n.0, child_stands look r dir n.0 p name at kind n.2, of_entry_id look entry n.0 n.1)

  fits_tree : (item : ChangeItem) → IsSoundItem look r item → FitsTree look r item
  fits_tree item s = record {
    gone = s.gone;
    there = λ other.
        (let t = s.there other in
        let v = names_stand t.1 in
        (v.0, v.1, λ lasting. t.2 lasting ∙ sym v.2));
  }

  -- ---- the change that an item tells

  kind_of : (item : ChangeItem) → IsSoundItem look r item → (kind : Kind) × IsKindOf look r item kind
  kind_of item s = by item.kind refl
    where
      of_path : item.kind ≡ None → is_revision_id item.id ≡ false → (met : Met) → MetAt look r item.path (Ok met) → (kind : Kind) × IsKindOf look r item kind
      of_path none not_lasting (Stands v) at = (v.kind, There v none not_lasting at)
      of_path none not_lasting (Lacking names) at = (File, NotThere none not_lasting (λ v there. let e = met_same look r item.path (Lacking names) (Stands v) at there in absurd cc))
      of_path none not_lasting (Blocked names) at = (File, NotThere none not_lasting (λ v there. let e = met_same look r item.path (Blocked names) (Stands v) at there in absurd cc))

      of_id : item.kind ≡ None → (b : Bool) → is_revision_id item.id ≡ b → (kind : Kind) × IsKindOf look r item kind
      of_id none true lasting = let k = s.kind none lasting in (k.1.kind, Named k.1 none lasting k.0 k.2)
      of_id none false not_lasting = let m = met_at look top trees r le item.path in of_path none not_lasting m.0 m.1

      by : (o : Option Kind) → item.kind ≡ o → (kind : Kind) × IsKindOf look r item kind
      by (Some kind) is = (kind, Said kind is)
      by None is = of_id is (is_revision_id item.id) refl

  change_of : (item : ChangeItem) → IsSoundItem look r item → (change : Change) × IsChangeOf look r item change
  change_of item s =
      let k = kind_of item s in (
        record { action = item.action; kind = k.0; text_changed = item.text_changed; props_changed = item.props_changed; source = option_map (λ x. (x.rev, x.path)) item.source },
        record { action = refl; kind = k.1; text_changed = refl; props_changed = refl; source = refl },
      )

  -- ---- the map of the changes

  module _ (items : List ChangeItem) (once : HavePathsOnce [] items) (each : (item : ChangeItem) → Contains items item → IsSoundItem look r item) where
    by_item : (p : Path) (o : Option ChangeItem) → item_at items p ≡ o → Option Change
    by_item p None is = None
    by_item p (Some item) is = Some (change_of item (each item (at_contained items p item is).0)).0

    change_at : Path → Option Change
    change_at p = by_item p (item_at items p) refl

    -- of the item of a path
    at_item : (p : Path) (o : Option ChangeItem) (is : item_at items p ≡ o) (item : ChangeItem) → o ≡ Some item → (change : Change) × IsChangeOf look r item change × (by_item p o is ≡ Some change)
    unfolding by_item
    at_item p None is item e = absurd cc
    at_item p (Some x) is item e =
        let same : x ≡ item = cc in
        let c = change_of x (each x (at_contained items p x is).0) in
        (c.0, subst (λ (y : ChangeItem). IsChangeOf look r y c.0) same c.1, refl)

    no_item : (p : Path) (o : Option ChangeItem) (is : item_at items p ≡ o) → o ≡ None → by_item p o is ≡ None
    unfolding by_item
    no_item p None is e = refl
    no_item p (Some x) is e = absurd cc

    some_item : (p : Path) (o : Option ChangeItem) (is : item_at items p ≡ o) (change : Change) → by_item p o is ≡ Some change → (item : ChangeItem) × (o ≡ Some item)
    unfolding by_item
    some_item p None is change e = absurd cc
    some_item p (Some x) is change e = (x, refl)

    changes : (m : FinMap path_cmp Change) × ((q : Path) → get m q ≡ change_at q)
    unfolding change_at
    changes = map_of change_at (item_paths items) (λ q out. no_item q (item_at items q) refl (none q (item_at items q) refl out))
      where
        none : (q : Path) (o : Option ChangeItem) → item_at items q ≡ o → among (item_paths items) q ≡ false → o ≡ None
        none q None is out = refl
        none q (Some x) is out = let e : true ≡ false = sym (at_paths items q x is) ∙ out in absurd cc

    pub are_changes : (bytes : List ℕ) → HasItems bytes items → (m : FinMap path_cmp Change) × AreChangesOf look r bytes m
    unfolding change_at
    are_changes bytes has = (
      changes.0,
      record {
        items = items;
        items_are = has;
        each = λ item in_items.
            (let at = found_at [] items once item in_items.0 in_items.1 in_items.2 in
            let c = at_item item.path (item_at items item.path) refl item at in
            (c.0, c.1, changes.1 item.path ∙ c.2));
        only = λ p change is.
            (let s = some_item p (item_at items p) refl change (sym (changes.1 p) ∙ is) in
            let in_items = at_contained items p s.0 s.1 in
            (s.0, in_items.0, in_items.1));
        fits = λ item in_items. fits_tree item (each item in_items);
      },
    )

  -- ---- of the bytes

  pub sound_changes : (bytes : List ℕ) → look r ≡ Ok bytes → HasSoundItems look r → (m : FinMap path_cmp Change) × AreChangesOf look r bytes m
  sound_changes bytes is s =
      let d = s.1 in
      let has_data = d.1.2 in
      let e : (let x : Result (List ℕ) Refusal = Ok d.1.0 in x) ≡ Ok bytes = sym d.1.1 ∙ is in
      let same : d.1.0 ≡ bytes = cc in
      let text : AreRevisionChanges (drop has_data.trailer.changes has_data.ends.front) s.0 = subst (λ (t : List ℕ). AreRevisionChanges t s.0) has_data.data_is d.2 in
      let has : HasItems d.1.0 s.0 = record { trailer = has_data.trailer; ends = has_data.ends; items_are = text } in
      are_changes s.0 (paths_once [] (drop has_data.trailer.changes has_data.ends.front) s.0 text) s.2 bytes (subst (λ (b : List ℕ). HasItems b s.0) same has)
