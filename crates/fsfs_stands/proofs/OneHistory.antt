-- The bytes show one history at most.
use Rattle.std.proofs.Common.{◌≡◌, ℕ, suc, List, [], ◌∷◌, ◌++◌, drop, refl, sym, ap, subst, ◌∙◌}
use Rattle.std.specs.Prelude.{Result, Ok, Option, Some, None, true, false, Contains}
use Rattle.std.proofs.lemmas.Option.{same_Some}
use Rattle.std.specs.FinMap.{FinMap, get}
use Rattle.fsfs_base.specs.Paths.{Path, path_cmp}
use Rattle.fsfs_tree.specs.Revisions.{Revision}
use Rattle.fsfs_base.specs.declared.kind.Kind.{Kind}
use Rattle.fsfs_base.proofs.ResultLemmas.{not_none}
use Rattle.fsfs_tree.specs.declared.change_map.Change.{Change}
use Rattle.fsfs_revision.specs.Told.{RevisionBytes}
use Rattle.fsfs_revision.specs.declared.wrong.Refusal.{Refusal}
use Rattle.fsfs_layout.specs.Hash.Dump.{IsDump}
use Rattle.fsfs_noderev.specs.declared.node_rev.NodeRev.{NodeRev}
use Rattle.fsfs_layout.specs.Opening.{small_texts}
use Rattle.fsfs_layout.specs.declared.layout.Layout.{Layout}
use Rattle.fsfs_layout.proofs.OpeningLemmas.{one_youngest, one_layout}
use Rattle.fsfs_revision.specs.Trailers.{IsTrailer}
use Rattle.fsfs_revision.proofs.TrailerLemmas.{one_trailer}
use Rattle.fsfs_noderev.specs.Changes.Texts.{HasNewPath, AreRevisionChanges}
use Rattle.fsfs_noderev.specs.declared.changes.item.ChangeItem.{ChangeItem}
use Rattle.fsfs_noderev.proofs.ItemLists.{items_one}
use Rattle.fsfs_revision.proofs.OneNode.{end_one}
use Rattle.fsfs_revision.proofs.OneRep.{dump_one}
use Rattle.fsfs_revision.proofs.OneAnswer.{ok_same}
use Rattle.fsfs_revision.proofs.OneWalk.{of_id_one, stands_same}
use Rattle.fsfs_revision.proofs.OneTree.{one_tree}
use Rattle.fsfs_revision.specs.RevBytes.{rev_bytes, props_bytes}
use Rattle.fsfs_stands.specs.Changes.{HasItems, IsKindOf, Said, Named, There, NotThere, IsChangeOf, AreChangesOf}
use Rattle.fsfs_stands.specs.History.{ShowsRevision, ShowsHistory}
use Rattle.fsfs_stands.specs.Same.{AreSame, OneHistoryIsShown, OneHistoryIsStoodFor}

-- ---- the items

pub same_front : (f g s t : List ℕ) (p q : ℕ × ℕ) → IsTrailer s p → IsTrailer t q → f ++ s ≡ g ++ t → f ≡ g
same_front [] [] s t p q a b e = refl
same_front [] (c ∷ g) s t p q a b e = absurd (one_trailer s t g c p q a b e)
same_front (c ∷ f) [] s t p q a b e = absurd (one_trailer t s f c q p b a (sym e))
same_front (c ∷ f) (d ∷ g) s t p q a b e =
    let head : c ≡ d = cc in
    let rest = same_front f g s t p q a b (let h : f ++ s ≡ g ++ t = cc in h) in
    λ i. head i ∷ rest i

has_items_one : (bytes : List ℕ) (a b : List ChangeItem) → HasItems bytes a → HasItems bytes b → a ≡ b
has_items_one bytes a b v w =
    let t = v.trailer in
    let u = w.trailer in
    let trailer = end_one 0 bytes t u v.ends w.ends in
    let front = same_front v.ends.front w.ends.front v.ends.text w.ends.text (t.root, t.changes) (u.root, u.changes) v.ends.text_is w.ends.text_is (sym v.ends.parts ∙ w.ends.parts) in
    let text : drop w.trailer.changes w.ends.front ≡ drop v.trailer.changes v.ends.front = (λ i. drop (sym trailer i).changes (sym front i)) in
    items_one HasNewPath [] (drop v.trailer.changes v.ends.front) a b v.items_are (subst (λ (x : List ℕ). AreRevisionChanges x b) text w.items_are)

-- ---- the change of an item

kind_one : {look : RevisionBytes} {r : ℕ} {item : ChangeItem} {a b : Kind} → IsKindOf look r item a → IsKindOf look r item b → a ≡ b
kind_one (Said k e) (Said l f) = same_Some k l (sym e ∙ f)
kind_one {item = item} (Said k e) (Named u f i l o) = not_none item.kind k e f
kind_one {item = item} (Said k e) (There v f i o) = not_none item.kind k e f
kind_one {item = item} (Said k e) (NotThere f i o) = not_none item.kind k e f
kind_one {item = item} (Named u f i l o) (Said k e) = not_none item.kind k e f
kind_one {look} {item = item} (Named u e h l o) (Named v f i m p) = ap (λ (x : NodeRev). x.kind) (ok_same u v (of_id_one look item.id (Ok u) (Ok v) o p))
kind_one (Named u e h l o) (There v f i p) = let g : true ≡ false = sym h ∙ i in absurd cc
kind_one (Named u e h l o) (NotThere f i p) = let g : true ≡ false = sym h ∙ i in absurd cc
kind_one {item = item} (There u f i o) (Said k e) = not_none item.kind k e f
kind_one (There u e h o) (Named v f i l p) = let g : true ≡ false = sym i ∙ h in absurd cc
kind_one {look} {r} {item} (There u e h o) (There v f i p) = ap (λ (x : NodeRev). x.kind) (stands_same look r item.path u v o p)
kind_one (There u e h o) (NotThere f i p) = absurd (p u o)
kind_one {item = item} (NotThere f i o) (Said k e) = not_none item.kind k e f
kind_one (NotThere e h o) (Named v f i l p) = let g : true ≡ false = sym i ∙ h in absurd cc
kind_one (NotThere e h o) (There v f i p) = absurd (o v p)
kind_one (NotThere e h o) (NotThere f i p) = refl

change_one : (look : RevisionBytes) (r : ℕ) (item : ChangeItem) (a b : Change) → IsChangeOf look r item a → IsChangeOf look r item b → a ≡ b
change_one look r item a b v w =
    let action = v.action ∙ sym w.action in
    let kind = kind_one v.kind w.kind in
    let text_changed = v.text_changed ∙ sym w.text_changed in
    let props_changed = v.props_changed ∙ sym w.props_changed in
    let source = v.source ∙ sym w.source in
    λ i. record { action = action i; kind = kind i; text_changed = text_changed i; props_changed = props_changed i; source = source i }

-- ---- the changed paths

module _ (look : RevisionBytes) (r : ℕ) (bytes : List ℕ) (a b : FinMap path_cmp Change) (v : AreChangesOf look r bytes a) (w : AreChangesOf look r bytes b) where
  items_same : v.items ≡ w.items
  items_same = has_items_one bytes v.items w.items v.items_are w.items_are

  -- what one map has at a path, the other has
  also : (p : Path) (c : Change) → get a p ≡ Some c → get b p ≡ Some c
  also p c e =
      let of = v.only p c e in
      let there : Contains w.items of.0 = subst (λ (xs : List ChangeItem). Contains xs of.0) items_same of.1 in
      let x = v.each of.0 of.1 in
      let y = w.each of.0 there in
      let here : get a p ≡ Some x.0 = subst (λ (q : Path). get a q ≡ Some x.0) of.2 x.2 in
      let other : get b p ≡ Some y.0 = subst (λ (q : Path). get b q ≡ Some y.0) of.2 y.2 in
      let first = same_Some x.0 c (sym here ∙ e) in
      let same = change_one look r of.0 x.0 y.0 x.1 y.1 in
      other ∙ ap (λ (z : Change). let o : Option Change = Some z in o) (sym same ∙ first)

either_way : {A : Type 0} (a b : Option A) → ((x : A) → a ≡ Some x → b ≡ Some x) → ((x : A) → b ≡ Some x → a ≡ Some x) → a ≡ b
either_way None None f g = refl
either_way None (Some y) f g = let e = g y refl in absurd cc
either_way (Some x) b f g = sym (f x refl)

changes_same : (look : RevisionBytes) (r : ℕ) (bytes : List ℕ) (a b : FinMap path_cmp Change) → AreChangesOf look r bytes a → AreChangesOf look r bytes b → (p : Path) → get a p ≡ get b p
changes_same look r bytes a b v w p = either_way (get a p) (get b p) (also look r bytes a b v w p) (also look r bytes b a w v p)

-- ---- a revision, a history

look_one : (read : Result (List ℕ) Refusal) (x y : List ℕ) → read ≡ Ok x → read ≡ Ok y → x ≡ y
look_one read x y e f = let g = sym e ∙ f in (let h : x ≡ y = cc in h)

revision_same : (look props : RevisionBytes) (r : ℕ) (a b : Revision) → ShowsRevision look props r a → ShowsRevision look props r b → AreSame a b
revision_same look props r a b v w =
    let bytes = look_one (look r) w.bytes v.bytes w.bytes_are v.bytes_are in
    let file = look_one (props r) w.file v.file w.file_is v.file_is in
    record {
      tree = one_tree look r (get a.tree) (get b.tree) v.tree w.tree;
      changes = changes_same look r v.bytes a.changes b.changes v.changes (subst (λ (x : List ℕ). AreChangesOf look r x b.changes) bytes w.changes);
      properties = dump_one v.file a.properties b.properties v.properties (subst (λ (x : List ℕ). IsDump x b.properties) file w.properties);
    }

pub one_history : OneHistoryIsShown
one_history look props g h v w r a b e f = revision_same look props r a b (v.each r a e) (w.each r b f)

-- ---- files

pub one_stood_for : OneHistoryIsStoodFor
one_stood_for files g h v w =
    let youngest = one_youngest (small_texts files) v.opened w.opened v.small w.small in
    let layout = one_layout (small_texts files) w.opened v.opened w.small v.small in
    let moved = subst (λ (l : Layout). ShowsHistory (rev_bytes l files) (props_bytes l files) h) layout w.history in (
      v.count ∙ ap suc youngest ∙ sym w.count,
      one_history (rev_bytes v.opened.layout files) (props_bytes v.opened.layout files) g h v.history moved,
    )
