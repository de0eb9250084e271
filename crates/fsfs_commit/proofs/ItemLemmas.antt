-- Items as the revision tells them.
use Rattle.std.proofs.Common.{◌≡◌, ◌∙◌, ◌<◌, ℕ, zero, suc, Bool, true, false, cond, List, [], ◌∷◌, ◌++◌, map, reverse, length, Option, Some, None, refl, sym, ap, subst, append_assoc, arith}
use Rattle.std.specs.Prelude.{◌≢◌, Contains, option_map, unwrap_or, slice_index_or}
use Rattle.std.proofs.lemmas.List.{map-append, reverse-append}
use Rattle.fsfs_base.specs.Paths.{Path, same_path}
use Rattle.fsfs_base.specs.declared.action.Action.{Action}
use Rattle.fsfs_base.specs.declared.action.Action.TheVariants.{Add, Delete, Replace, Modify}
use Rattle.fsfs_base.proofs.PathLemmas.{same_path-is, same_path-refl}
use Rattle.fsfs_base.specs.declared.fields.txn_name.TxnName.{TxnName}
use Rattle.fsfs_tree.specs.declared.change_map.Change.{Change}
use Rattle.fsfs_noderev.specs.declared.node_id.Place.TheVariants as places
use Rattle.fsfs_noderev.specs.Changes.Items.{HasText}
use Rattle.fsfs_noderev.specs.Changes.Texts.{HasNewPath, HavePathsOnce}
use Rattle.fsfs_noderev.specs.declared.changes.item.ChangeItem.{ChangeItem}
use Rattle.fsfs_edit.specs.Folds.FoldedItems.{item_at, text_of}
use Rattle.fsfs_edit.specs.Folds.Marks.{Tells, AgreesWith}
use Rattle.fsfs_final.specs.Pieces.Naming.{FinalIds, item_id}
use Rattle.fsfs_commit.specs.FinalRev.Items.{own_id, told_item}

module _ (txn : TxnName) (ids : FinalIds) where
  abbrev told : ChangeItem → ChangeItem
  told = told_item txn ids

  -- ---- lists

  told_new : (earlier : List ChangeItem) (item : ChangeItem) → HasNewPath earlier item → HasNewPath (map told earlier) (told item)
  told_new [] item h = tt
  told_new (e ∷ es) item h = (h.0, told_new es item h.1)

  pub told_once : (earlier items : List ChangeItem) → HavePathsOnce earlier items → HavePathsOnce (map told earlier) (map told items)
  told_once earlier [] h = tt
  told_once earlier (item ∷ items) h = (
    told_new earlier item h.0,
    subst (λ (l : List ChangeItem). HavePathsOnce l (map told items)) (map-append told earlier (item ∷ [])) (told_once (earlier ++ item ∷ []) items h.1),
  )

  pub told_texts : (items : List ChangeItem) → map text_of (map told items) ≡ map text_of items
  told_texts [] = refl
  told_texts (item ∷ items) = λ i. text_of item ∷ told_texts items i

  pub told_text : (item : ChangeItem) → HasText item → HasText (told item)
  told_text item h = record { kind = h.kind; flags = h.flags; path = h.path; source = h.source }

  -- one of those that are left is told
  pub one_told : (all left : List ChangeItem) (item : ChangeItem) → (all ++ told item ∷ []) ++ map told (reverse left) ≡ all ++ map told (reverse (left ++ item ∷ []))
  one_told all left item =
      append_assoc all (told item ∷ []) (map told (reverse left))
      ∙ ap (λ (l : List ChangeItem). all ++ map told l) (sym (reverse-append left (item ∷ [])))

  -- ---- path by path

  pub told_at : (items : List ChangeItem) (p : Path) → item_at (map told items) p ≡ option_map told (item_at items p)
  told_at [] p = refl
  told_at (item ∷ items) p = by (same_path item.path p) (told_at items p)
    where
      by : (b : Bool) → item_at (map told items) p ≡ option_map told (item_at items p) → cond b (Some (told item)) (item_at (map told items) p) ≡ option_map told (cond b (Some item) (item_at items p))
      by true rest = refl
      by false rest = rest

  pub told_agrees : (o : Option ChangeItem) (c : Option Change) → AgreesWith o c → AgreesWith (option_map told o) c
  told_agrees None None h = h
  told_agrees None (Some c) h = h
  told_agrees (Some item) None h = h
  told_agrees (Some item) (Some c) h = record { action = h.action; kind = h.kind; text_changed = h.text_changed; props_changed = h.props_changed; source = h.source }

  -- ---- ids

  by_action : (a : Action) → a ≢ Delete → (item : ChangeItem) → item_id a ids (record item { id = own_id a txn item.id }) ≡ unwrap_or (ids item.path) (record item.id { place = places.In txn })
  by_action Delete other item = absurd (other refl)
  by_action Add other item = refl
  by_action Replace other item = refl
  by_action Modify other item = refl

  pub told_id : (item : ChangeItem) → item.action ≢ Delete → (told item).id ≡ unwrap_or (ids item.path) (record item.id { place = places.In txn })
  told_id item other = by_action item.action other item

  by_delete : (a : Action) → a ≡ Delete → (item : ChangeItem) → item_id a ids (record item { id = own_id a txn item.id }) ≡ item.id
  by_delete Delete is item = refl
  by_delete Add is item = absurd cc
  by_delete Replace is item = absurd cc
  by_delete Modify is item = absurd cc

  pub told_delete : (item : ChangeItem) → item.action ≡ Delete → told item ≡ item
  told_delete item is = λ i. record item { id = by_delete item.action is item i }

-- ---- an item among others, each of its own path

pub apart_of : (earlier : List ChangeItem) (x item : ChangeItem) → HasNewPath (earlier ++ x ∷ []) item → HasNewPath earlier item × (x.path ≢ item.path)
apart_of [] x item h = (tt, h.0)
apart_of (y ∷ earlier) x item h = let r = apart_of earlier x item h.1 in ((h.0, r.0), r.1)

is_new : (earlier items : List ChangeItem) → HavePathsOnce earlier items → (item : ChangeItem) (k : ℕ) → k < length items → slice_index_or items k item ≡ item → HasNewPath earlier item
is_new earlier [] once item k lt is = absurd (omega (arith, lt))
is_new earlier (x ∷ items) once item zero lt is = subst (HasNewPath earlier) is once.0
is_new earlier (x ∷ items) once item (suc k) lt is = (apart_of earlier x item (is_new (earlier ++ x ∷ []) items once.1 item k (omega (arith, lt)) is)).0

found_at : (earlier items : List ChangeItem) → HavePathsOnce earlier items → (item : ChangeItem) (k : ℕ) → k < length items → slice_index_or items k item ≡ item → item_at items item.path ≡ Some item
found_at earlier [] once item k lt is = absurd (omega (arith, lt))
found_at earlier (x ∷ items) once item zero lt is =
    ap (λ (b : Bool). cond b (Some x) (item_at items item.path)) (subst (λ (y : ChangeItem). same_path x.path y.path ≡ true) is (same_path-refl x.path)) ∙ ap (λ (y : ChangeItem). Some y) is
found_at earlier (x ∷ items) once item (suc k) lt is =
    let low : k < length items = omega (arith, lt) in
    let other = (apart_of earlier x item (is_new (earlier ++ x ∷ []) items once.1 item k low is)).1 in
    by (same_path x.path item.path) refl other (found_at (earlier ++ x ∷ []) items once.1 item k low is)
  where
    by : (b : Bool) → same_path x.path item.path ≡ b → x.path ≢ item.path → item_at items item.path ≡ Some item → cond b (Some x) (item_at items item.path) ≡ Some item
    by true same other rest = absurd (other (same_path-is x.path item.path same))
    by false same other rest = rest

pub contained_at : (items : List ChangeItem) → HavePathsOnce [] items → (item : ChangeItem) → Contains items item → item_at items item.path ≡ Some item
contained_at items once item h = found_at [] items once item h.0 h.1 h.2

pub at_contained : (items : List ChangeItem) (p : Path) (item : ChangeItem) → item_at items p ≡ Some item → Contains items item × (item.path ≡ p)
at_contained [] p item e = absurd (let clash : None ≡ Some item = e in cc)
at_contained (x ∷ items) p item e = by (same_path x.path p) refl e (λ f. at_contained items p item f)
  where
    by : (b : Bool) → same_path x.path p ≡ b → cond b (Some x) (item_at items p) ≡ Some item → (item_at items p ≡ Some item → Contains items item × (item.path ≡ p)) → Contains (x ∷ items) item × (item.path ≡ p)
    by true same f further = let is : x ≡ item = (let g = f in cc) in ((0, omega arith, is), subst (λ (y : ChangeItem). y.path ≡ p) is (same_path-is x.path p same))
    by false same f further = let r = further f in let lt = r.0.1 in ((suc r.0.0, omega (arith, lt), r.0.2), r.1)

-- ---- items and changes

pub agreed : (item : ChangeItem) (o : Option Change) → AgreesWith (Some item) o → (c : Change) × (o ≡ Some c) × Tells item c
agreed item None h = absurd h
agreed item (Some c) h = (c, refl, h)

pub agreed_back : (o : Option ChangeItem) (c : Change) → AgreesWith o (Some c) → (item : ChangeItem) × (o ≡ Some item)
agreed_back None c h = absurd h
agreed_back (Some item) c h = (item, refl)

pub told_from : (txn : TxnName) (ids : FinalIds) (o : Option ChangeItem) (item : ChangeItem) → option_map (told_item txn ids) o ≡ Some item → (y : ChangeItem) × (o ≡ Some y) × (told_item txn ids y ≡ item)
told_from txn ids None item e = absurd (let clash : None ≡ Some item = e in cc)
told_from txn ids (Some y) item e = (y, refl, let g = e in cc)
