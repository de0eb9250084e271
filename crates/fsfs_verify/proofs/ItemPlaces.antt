-- Where the items of a revision begin.
use Rattle.std.proofs.Common.{◌≡◌, ◌≤◌, ◌<◌, ◌+◌, ◌++◌, ℕ, zero, suc, Bool, true, false, nat_lt, List, [], ◌∷◌, length, drop, get_or, refl, sym, ap, subst, ◌∙◌, append_assoc, append-nil, arith}
use Rattle.std.specs.Prelude.{Contains, Option, Some, None, Result, Ok, Err, slice_get}
use Rattle.std.proofs.lemmas.List.{length-append, length_push, nil_from_length}
use Rattle.fsfs_base.specs.Grammar.Relations.{Begins}
use Rattle.fsfs_noderev.specs.Changes.Items.{IsItem}
use Rattle.fsfs_noderev.specs.Changes.Texts.{HasNewPath, Items, AreRevisionChanges}
use Rattle.fsfs_noderev.specs.declared.changes.item.ChangeItem.{ChangeItem}
use Rattle.fsfs_revision.specs.Damage.Readings.{HasOneAnswer}
use Rattle.fsfs_revision.specs.Damages.{trailer_checks}
use Rattle.fsfs_revision.specs.Told.{RevisionBytes, BytesOf}
use Rattle.fsfs_revision.specs.declared.wrong.Wrong.{Wrong}
use Rattle.fsfs_revision.proofs.OneAnswer.{ok_same, ok_no_err, and_then_one, judged_one}
use Rattle.fsfs_revision.proofs.OneNode.{end_one}
use Rattle.fsfs_revision.proofs.Roots.{is_less, is_not_less}
use Rattle.fsfs_revision.proofs.OneStep.{bytes_one}
use Rattle.fsfs_stands.proofs.OneHistory.{same_front}
use Rattle.fsfs_stands.specs.Items.{IsData, DataIn, DataOf, HasItems, ItemsOf}
use Rattle.fsfs_sound.specs.Damaged.{BeginsAt}

-- ---- the data are read in one way

data_one : (bytes : List ℕ) (a b : ℕ × List ℕ) → IsData bytes a → IsData bytes b → a ≡ b
data_one bytes a b v w =
    let t = v.trailer in
    let u = w.trailer in
    let trailer = end_one 0 bytes t u v.ends w.ends in
    let front = same_front v.ends.front w.ends.front v.ends.text w.ends.text (t.root, t.changes) (u.root, u.changes) v.ends.text_is w.ends.text_is (sym v.ends.parts ∙ w.ends.parts) in
    let begins : a.0 ≡ b.0 = v.begins ∙ (λ i. (trailer i).changes) ∙ sym w.begins in
    let rest : a.1 ≡ b.1 = v.data_is ∙ (λ i. drop (trailer i).changes (front i)) ∙ sym w.data_is in
    λ i. (begins i, rest i)

pub data_of_one : (look : RevisionBytes) (rev : ℕ) → HasOneAnswer (DataOf look rev)
data_of_one look rev = and_then_one (BytesOf look rev) (DataIn rev) (bytes_one look rev) (λ bytes. judged_one (IsData bytes) (trailer_checks rev bytes) (data_one bytes) (λ d v. ((v.trailer, v.ends), tt)))

-- ---- an item in a list

pub contains_at : (items : List ChangeItem) (k : ℕ) (item : ChangeItem) → slice_get items k ≡ Some item → Contains items item
contains_at [] k item is = absurd cc
contains_at (x ∷ items) zero item is = (0, omega arith, (let same : x ≡ item = cc in same))
contains_at (x ∷ items) (suc k) item is = let c = contains_at items k item is in let lt = c.1 in (suc c.0, omega (arith, lt), c.2)

-- what holds of the items so far, and of one more; and of all
pub one_more_item : (P : ChangeItem → Type 0) (items : List ChangeItem) (i : ℕ) (item : ChangeItem) → slice_get items i ≡ Some item → ((k : ℕ) (x : ChangeItem) → k < i → slice_get items k ≡ Some x → P x) → P item → (k : ℕ) (x : ChangeItem) → k < i + 1 → slice_get items k ≡ Some x → P x
one_more_item P items i item at before here k x less is = by (nat_lt k i) refl
  where
    by : (b : Bool) → nat_lt k i ≡ b → P x
    by true e = before k x (is_less k i e) is
    by false e =
        let over = is_not_less k i e in
        let same : k ≡ i = omega (arith, over, less) in
        let one : (let o : Option ChangeItem = Some item in o) ≡ Some x = sym at ∙ ap (λ (n : ℕ). slice_get items n) (sym same) ∙ is in
        subst P (let e : item ≡ x = cc in e) here

at_contained : (items : List ChangeItem) (item : ChangeItem) (k : ℕ) → k < length items → get_or items k item ≡ item → slice_get items k ≡ Some item
at_contained [] item k less is = absurd (omega (arith, less))
at_contained (x ∷ items) item zero less is = ap (λ (y : ChangeItem). Some y) is
at_contained (x ∷ items) item (suc k) less is = at_contained items item k (omega (arith, less)) is

pub contained_at : (P : ChangeItem → Type 0) (items : List ChangeItem) (count : ℕ) → length items ≤ count → ((k : ℕ) (x : ChangeItem) → k < count → slice_get items k ≡ Some x → P x) → (item : ChangeItem) → Contains items item → P item
contained_at P items count le all item there = let less = there.1 in all there.0 item (omega (arith, less, le)) (at_contained items item there.0 there.1 there.2)

pub record CutAt (items : List ChangeItem) (k : ℕ) (item : ChangeItem) : Type 0 where
  pub earlier : List ChangeItem
  pub later : List ChangeItem
  pub parts : items ≡ earlier ++ item ∷ later
  pub count : length earlier ≡ k

cut_at : (items : List ChangeItem) (k : ℕ) (item : ChangeItem) → slice_get items k ≡ Some item → CutAt items k item
cut_at [] k item is = absurd cc
cut_at (x ∷ items) zero item is = let same : x ≡ item = cc in record { earlier = []; later = items; parts = ap (λ (y : ChangeItem). y ∷ items) same; count = refl }
cut_at (x ∷ items) (suc k) item is = let c = cut_at items k item is in record { earlier = x ∷ c.earlier; later = c.later; parts = ap (λ (ys : List ChangeItem). x ∷ ys) c.parts; count = ap suc c.count }

-- ---- the text of items, in two parts

pub record SplitItems (May : List ChangeItem → ChangeItem → Type 0) (a : List ChangeItem) (text : List ℕ) (xs ys : List ChangeItem) : Type 0 where
  pub front : List ℕ
  pub rest : List ℕ
  pub first : Items May a front xs
  pub second : Items May (a ++ xs) rest ys
  pub parts : text ≡ front ++ rest

split_items : (May : List ChangeItem → ChangeItem → Type 0) (a : List ChangeItem) (text : List ℕ) (xs ys : List ChangeItem) → Items May a text (xs ++ ys) → SplitItems May a text xs ys
split_items May a text [] ys h = record { front = []; rest = text; first = refl; second = subst (λ (zs : List ChangeItem). Items May zs text ys) (sym (append-nil a)) h; parts = refl }
split_items May a text (x ∷ xs) ys h =
    let s = split_items May (a ++ x ∷ []) h.1 xs ys h.4 in
    record {
      front = h.0 ++ s.front;
      rest = s.rest;
      first = (h.0, s.front, h.2, h.3, s.first, refl);
      second = subst (λ (zs : List ChangeItem). Items May zs s.rest ys) (append_assoc a (x ∷ []) xs) s.second;
      parts = h.5 ∙ ap (λ (t : List ℕ). h.0 ++ t) s.parts ∙ sym (append_assoc h.0 s.front s.rest);
    }

-- ---- behind items, one by one

-- so many items of a text were taken; those that are left are before the tail
pub record AreLeft (items : List ChangeItem) (tail : List ℕ) (count : ℕ) (rest : List ℕ) : Type 0 where
  pub done : List ChangeItem
  pub left : List ChangeItem
  pub text : List ℕ
  pub parts : items ≡ done ++ left
  pub taken : length done ≡ count
  pub ahead : Items HasNewPath done text left
  pub rest_is : rest ≡ text ++ tail

pub left_first : (items : List ChangeItem) (front tail bytes : List ℕ) → bytes ≡ front ++ tail → AreRevisionChanges front items → AreLeft items tail 0 bytes
left_first items front tail bytes parts are = record { done = []; left = items; text = front; parts = refl; taken = refl; ahead = are; rest_is = parts }

pub record OneLeft (items : List ChangeItem) (tail : List ℕ) (count : ℕ) (rest : List ℕ) : Type 0 where
  pub item : ChangeItem
  pub behind : List ℕ
  pub begins : Begins IsItem rest item behind
  pub next : AreLeft items tail (count + 1) behind

pub one_left : (items : List ChangeItem) (tail : List ℕ) (count : ℕ) (rest : List ℕ) → count < length items → AreLeft items tail count rest → OneLeft items tail count rest
one_left items tail count rest less l = by l.left l.parts l.ahead
  where
    by : (left : List ChangeItem) → items ≡ l.done ++ left → Items HasNewPath l.done l.text left → OneLeft items tail count rest
    by [] parts ahead = absurd (omega (arith, less, l.taken, ap length parts, length-append l.done []))
    by (x ∷ left) parts ahead = record {
      item = x;
      behind = ahead.1 ++ tail;
      begins = record { front = ahead.0; text = ahead.2; parts = l.rest_is ∙ ap (λ (t : List ℕ). t ++ tail) ahead.5 ∙ append_assoc ahead.0 ahead.1 tail };
      next = record {
        done = l.done ++ x ∷ [];
        left = left;
        text = ahead.1;
        parts = parts ∙ sym (append_assoc l.done (x ∷ []) left);
        taken = omega (arith, l.taken, length_push l.done x);
        ahead = ahead.4;
        rest_is = refl;
      };
    }

pub none_left : (items : List ChangeItem) (tail : List ℕ) (count : ℕ) (rest : List ℕ) → length items ≤ count → AreLeft items tail count rest → rest ≡ tail
none_left items tail count rest le l = by l.left l.parts l.ahead
  where
    by : (left : List ChangeItem) → items ≡ l.done ++ left → Items HasNewPath l.done l.text left → rest ≡ tail
    by [] parts ahead = l.rest_is ∙ ap (λ (t : List ℕ). t ++ tail) ahead
    by (x ∷ left) parts ahead = absurd (omega (arith, le, l.taken, ap length parts, length-append l.done (x ∷ left)))

-- ---- where an item begins

module _ (look : RevisionBytes) (rev : ℕ) (items : List ChangeItem) (wrong : Option Wrong) (read : ItemsOf look rev (Ok (items, wrong))) where
  record Texts : Type 0 where
    data_is : ℕ × List ℕ
    data_read : DataOf look rev (Ok data_is)
    text : List ℕ
    tail : List ℕ
    parts : data_is.1 ≡ text ++ tail
    items_are : AreRevisionChanges text items

  texts : Texts
  texts = by wrong read.2
    where
      by : (o : Option Wrong) → HasItems rev read.0 items o → Texts
      by None are = record { data_is = read.0; data_read = read.1; text = read.0.1; tail = []; parts = sym (append-nil read.0.1); items_are = are }
      by (Some w) r =
          let f = r.fault in
          record { data_is = read.0; data_read = read.1; text = f.front; tail = f.rest; parts = f.parts; items_are = subst (λ (xs : List ChangeItem). AreRevisionChanges f.front xs) r.earlier f.before }

  -- the data, in front of an item and from it on
  pub record Beginning (k : ℕ) (item : ChangeItem) : Type 0 where
    pub data_is : ℕ × List ℕ
    pub data_read : DataOf look rev (Ok data_is)
    pub front : List ℕ
    pub rest : List ℕ
    pub parts : data_is.1 ≡ front ++ rest
    pub earlier : List ChangeItem
    pub earlier_are : AreRevisionChanges front earlier
    pub count : length earlier ≡ k
    pub behind : List ℕ
    pub begins : Begins IsItem rest item behind

  pub beginning : (k : ℕ) (item : ChangeItem) → slice_get items k ≡ Some item → Beginning k item
  beginning k item is =
      let t = texts in
      let c = cut_at items k item is in
      let s = split_items HasNewPath [] t.text c.earlier (item ∷ c.later) (subst (λ (xs : List ChangeItem). AreRevisionChanges t.text xs) c.parts t.items_are) in
      let one = s.second in
      record {
        data_is = t.data_is;
        data_read = t.data_read;
        front = s.front;
        rest = s.rest ++ t.tail;
        parts = t.parts ∙ ap (λ (x : List ℕ). x ++ t.tail) s.parts ∙ append_assoc s.front s.rest t.tail;
        earlier = c.earlier;
        earlier_are = s.first;
        count = c.count;
        behind = one.1 ++ t.tail;
        begins = record { front = one.0; text = one.2; parts = ap (λ (x : List ℕ). x ++ t.tail) one.5 ∙ append_assoc one.0 one.1 t.tail };
      }

  pub begins_at : (k : ℕ) (item : ChangeItem) → slice_get items k ≡ Some item → (b : Beginning k item) → BeginsAt look rev item (b.data_is.0 + length b.front)
  begins_at k item is b = record {
    items = items;
    wrong = wrong;
    read = read;
    among = contains_at items k item is;
    begins = b.data_is.0;
    bytes = b.data_is.1;
    bytes_are = b.data_read;
    front = b.front;
    rest = b.rest;
    parts = b.parts;
    earlier = b.earlier;
    earlier_are = b.earlier_are;
    behind = b.behind;
    item_is = b.begins;
    place = refl;
  }

  -- what a reading of the data found, by the bytes behind the items before one
  pub begins_found : (begins : ℕ) (bytes : List ℕ) → DataOf look rev (Ok (begins, bytes)) → (k : ℕ) (rest : List ℕ) → ((earlier : List ChangeItem) (front tail : List ℕ) → bytes ≡ front ++ tail → AreRevisionChanges front earlier → length earlier ≡ k → rest ≡ tail)
      → (at : ℕ) → at + length rest ≡ begins + length bytes → (item : ChangeItem) → slice_get items k ≡ Some item → BeginsAt look rev item at
  begins_found begins bytes found k rest behind at place item is =
      let b = beginning k item is in
      let same = ok_same b.data_is (begins, bytes) (data_of_one look rev (Ok b.data_is) (Ok (begins, bytes)) b.data_read found) in
      let first : b.data_is.0 ≡ begins = (λ i. (same i).0) in
      let parts : bytes ≡ b.front ++ b.rest = (λ i. (sym same i).1) ∙ b.parts in
      let tail = behind b.earlier b.front b.rest parts b.earlier_are b.count in
      let sum : b.data_is.0 + length b.front ≡ at = omega (arith, place, first, ap length tail, ap length parts, length-append b.front b.rest) in
      subst (λ (n : ℕ). BeginsAt look rev item n) sum (begins_at k item is b)

  -- and nothing is wrong with them
  pub data_whole : (w : Wrong) → DataOf look rev (Err w) → ⊥
  data_whole w broken = ok_no_err read.0 w (data_of_one look rev (Ok read.0) (Err w) read.1 broken)
