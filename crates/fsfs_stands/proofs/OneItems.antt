-- The changed paths of a revision are read in one way at most.
use Rattle.std.proofs.Common.{◌≡◌, ℕ, ◌+◌, List, [], ◌∷◌, ◌++◌, length, drop, refl, sym, ap, subst, ◌∙◌, append_assoc, arith}
use Rattle.std.specs.Prelude.{◌≢◌, Option, Some, None, Result, Ok, Err}
use Rattle.std.proofs.lemmas.List.{length-append, append-nil}
use Rattle.fsfs_base.specs.Grammar.Relations.{Begins}
use Rattle.fsfs_revision.specs.declared.damage.DamageKind.TheVariants as what
use Rattle.fsfs_revision.specs.Damage.Damages.{place_of, damaged}
use Rattle.fsfs_revision.specs.declared.wrong.Wrong.{Wrong}
use Rattle.fsfs_revision.specs.Damage.Readings.{HasOneAnswer}
use Rattle.fsfs_revision.proofs.OneAnswer.{ok_ap, and_then_one, judged_one}
use Rattle.fsfs_revision.specs.Told.{RevisionBytes, BytesOf}
use Rattle.fsfs_revision.specs.Damages.{trailer_checks}
use Rattle.fsfs_noderev.specs.Changes.Items.{IsItem}
use Rattle.fsfs_noderev.specs.Changes.Texts.{HasNewPath, Items, IsItemFault}
use Rattle.fsfs_noderev.specs.declared.changes.item.ChangeItem.{ChangeItem}
use Rattle.fsfs_noderev.proofs.ItemTexts.{item_one, item_alone}
use Rattle.fsfs_noderev.proofs.ItemLists.{items_one, fault_clash}
use Rattle.fsfs_revision.proofs.OneNode.{end_one}
use Rattle.fsfs_revision.proofs.OneStep.{bytes_one}
use Rattle.fsfs_stands.proofs.OneHistory.{same_front}
use Rattle.fsfs_stands.specs.Items.{IsData, DataIn, DataOf, ItemsIn}
use Rattle.fsfs_stands.specs.ChangedLaws.{ItemsAreOne}

-- ---- where the data stand

data_one : (bytes : List ℕ) (a b : ℕ × List ℕ) → IsData bytes a → IsData bytes b → a ≡ b
data_one bytes a b v w =
    let t = v.trailer in
    let u = w.trailer in
    let trailer = end_one 0 bytes t u v.ends w.ends in
    let front = same_front v.ends.front w.ends.front v.ends.text w.ends.text (t.root, t.changes) (u.root, u.changes) v.ends.text_is w.ends.text_is (sym v.ends.parts ∙ w.ends.parts) in
    let begins : a.0 ≡ b.0 = v.begins ∙ (λ i. (trailer i).changes) ∙ sym w.begins in
    let rest : a.1 ≡ b.1 = v.data_is ∙ (λ i. drop (trailer i).changes (front i)) ∙ sym w.data_is in
    λ i. (begins i, rest i)

data_in_one : (rev : ℕ) (bytes : List ℕ) → HasOneAnswer (DataIn rev bytes)
data_in_one rev bytes = judged_one (IsData bytes) (trailer_checks rev bytes) (data_one bytes) (λ d v. ((v.trailer, v.ends), tt))

-- ---- the first item that is refused

module _ (May : List ChangeItem → ChangeItem → Type 0) where
  abbrev Refuses : List ChangeItem → List ℕ → Type 0
  Refuses earlier rest = (item : ChangeItem) (behind : List ℕ) → Begins IsItem rest item behind → ¬ May earlier item

  -- no item stands where one is refused
  none_here : (a ys : List ChangeItem) (y : ChangeItem) (front back rest more : List ℕ) → Items May a back (y ∷ ys) → front ≡ [] → front ++ rest ≡ back ++ more → Refuses (a ++ []) rest → ⊥
  none_here a ys y front back rest more w none e refused =
      let parts : rest ≡ w.0 ++ (w.1 ++ more) = ap (λ (t : List ℕ). t ++ rest) (sym none) ∙ e ∙ ap (λ (t : List ℕ). t ++ more) w.5 ∙ append_assoc w.0 w.1 more in
      refused y (w.1 ++ more) (subst (λ (t : List ℕ). Begins IsItem t y (w.1 ++ more)) (sym parts) (item_alone w.0 y (w.1 ++ more) w.2)) (subst (λ (zs : List ChangeItem). May zs y) (sym (append-nil a)) w.3)

  -- the bytes before it, and the items that they are
  abbrev SameFront : (front back : List ℕ) (xs ys : List ChangeItem) → Type 0
  SameFront front back xs ys = (length front ≡ length back) × (xs ≡ ys)

  fault_front : (a xs ys : List ChangeItem) (front back rest more : List ℕ) → Items May a front xs → Items May a back ys → front ++ rest ≡ back ++ more → Refuses (a ++ xs) rest → Refuses (a ++ ys) more → SameFront front back xs ys
  fault_front a [] [] front back rest more v w e f g = (ap length v ∙ sym (ap length w), refl)
  fault_front a [] (y ∷ ys) front back rest more v w e f g = absurd (none_here a ys y front back rest more w v e f)
  fault_front a (x ∷ xs) [] front back rest more v w e f g = absurd (none_here a xs x back front more rest v w (sym e) g)
  fault_front a (x ∷ xs) (y ∷ ys) front back rest more v w e f g =
      let one : front ++ rest ≡ v.0 ++ (v.1 ++ rest) = ap (λ (t : List ℕ). t ++ rest) v.5 ∙ append_assoc v.0 v.1 rest in
      let two : back ++ more ≡ w.0 ++ (w.1 ++ more) = ap (λ (t : List ℕ). t ++ more) w.5 ∙ append_assoc w.0 w.1 more in
      let whole : w.0 ++ (w.1 ++ more) ≡ v.0 ++ (v.1 ++ rest) = sym two ∙ sym e ∙ one in
      let first = item_alone v.0 x (v.1 ++ rest) v.2 in
      let second = subst (λ (t : List ℕ). Begins IsItem t y (w.1 ++ more)) whole (item_alone w.0 y (w.1 ++ more) w.2) in
      let same = item_one (v.0 ++ (v.1 ++ rest)) x y (v.1 ++ rest) (w.1 ++ more) first second in
      let tail = subst (λ (z : ChangeItem). Items May (a ++ z ∷ []) w.1 ys) (sym same.0) w.4 in
      let here : Refuses ((a ++ x ∷ []) ++ xs) rest = λ item behind b. subst (λ (zs : List ChangeItem). ¬ May zs item) (sym (append_assoc a (x ∷ []) xs)) (f item behind b) in
      let there : Refuses ((a ++ x ∷ []) ++ ys) more =
      λ item behind b. subst (λ (zs : List ChangeItem). ¬ May zs item) (sym (append_assoc a (x ∷ []) ys)) (subst (λ (z : ChangeItem). ¬ May (a ++ z ∷ ys) item) (sym same.0) (g item behind b)) in
      let inner = fault_front (a ++ x ∷ []) xs ys v.1 w.1 rest more v.4 tail same.1 here there in
      let long : length front ≡ length back =
      omega (arith, inner.0, ap length whole, ap length same.1, ap length v.5, ap length w.5, length-append v.0 v.1, length-append w.0 w.1, length-append v.0 (v.1 ++ rest), length-append w.0 (w.1 ++ more), length-append v.1 rest, length-append w.1 more) in
      (long, λ i. same.0 i ∷ inner.1 i)

  fault_same : (bytes : List ℕ) (at to : ℕ) (v : IsItemFault May bytes at) (w : IsItemFault May bytes to) → SameFront v.front w.front v.earlier w.earlier
  fault_same bytes at to v w = fault_front [] v.earlier w.earlier v.front w.front v.rest w.rest v.before w.before (sym v.parts ∙ w.parts) v.refused w.refused

  fault_one : (bytes : List ℕ) (at to : ℕ) → IsItemFault May bytes at → IsItemFault May bytes to → at ≡ to
  fault_one bytes at to v w = v.place ∙ (fault_same bytes at to v w).0 ∙ sym w.place

-- ---- the items

abbrev Read : Type 0
Read = List ChangeItem × Option Wrong

items_in_one : (rev : ℕ) (d : ℕ × List ℕ) → HasOneAnswer (ItemsIn rev d)
items_in_one rev d (Ok (xs, None)) (Ok (ys, None)) g h = ok_ap (let r : Read = (xs, None) in r) (ys, None) (ap (λ (t : List ChangeItem). let r : Read = (t, None) in r) (items_one HasNewPath [] d.1 xs ys g h))
items_in_one rev d (Ok (xs, None)) (Ok (ys, Some w)) g h = absurd (fault_clash HasNewPath d.1 h.at xs h.fault g)
items_in_one rev d (Ok (xs, Some v)) (Ok (ys, None)) g h = absurd (fault_clash HasNewPath d.1 g.at ys g.fault h)
items_in_one rev d (Ok (xs, Some v)) (Ok (ys, Some w)) g h =
    let items : xs ≡ ys = sym g.earlier ∙ (fault_same HasNewPath d.1 g.at h.at g.fault h.fault).1 ∙ h.earlier in
    let wrong : v ≡ w = g.wrong ∙ ap (λ (n : ℕ). damaged (place_of rev (d.0 + n)) what.Changes) (fault_one HasNewPath d.1 g.at h.at g.fault h.fault) ∙ sym h.wrong in
    ok_ap (let r : Read = (xs, Some v) in r) (ys, Some w) (λ i. (items i, Some (wrong i)))
items_in_one rev d (Ok read) (Err w) g h = absurd h
items_in_one rev d (Err w) r h g = absurd h

data_of_one : (look : RevisionBytes) (rev : ℕ) → HasOneAnswer (DataOf look rev)
data_of_one look rev = and_then_one (BytesOf look rev) (DataIn rev) (bytes_one look rev) (data_in_one rev)

pub items_of_one : ItemsAreOne
items_of_one look rev = and_then_one (DataOf look rev) (ItemsIn rev) (data_of_one look rev) (items_in_one rev)
