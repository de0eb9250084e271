-- Files that stand for a history, packs among them, and changes of them.
use Rattle.std.proofs.Common.{◌≡◌, ◌⊎◌, ◌<◌, ◌≤◌, ◌+◌, ◌-◌, ◌*◌, ◌/◌, ◌%◌, ◌==◌, ℕ, suc, zero, List, [], ◌∷◌, ◌++◌, length, take, drop, map, Bool, true, false, cond, inl, inr, ⊎_elim, refl, sym, ap, subst, ◌∙◌, arith, length-append}
use Rattle.std.specs.Prelude.{Option, Some, None, slice_get, nat_lt}
use Rattle.std.specs.Cmp.Lexicographic.{nat_list_eq_equiv}
use Rattle.std.proofs.lemmas.Option.{slice_get_within}
use Rattle.std.proofs.lemmas.Nat.{div-mul-add, mod-mul-add, div_below}
use Rattle.fsfs_machine.specs.declared.contents.FileName.TheVariants.{Current, Rev, Props, Pack, Manifest}
use Rattle.fsfs_machine.specs.declared.contents.Contents.{Contents}
use Rattle.fsfs_machine.specs.declared.contents.Contents.TheVariants.{Number}
use Rattle.fsfs_machine.specs.declared.contents.Part.{Part}
use Rattle.fsfs_machine.specs.declared.contents.NameChange.TheVariants.{Put, Remove}
use Rattle.fsfs_machine.specs.declared.machine.Recorded.{Recorded}
use Rattle.fsfs_machine.specs.declared.machine.Coming.{Coming}
use Rattle.fsfs_machine.specs.Disk.{Disk, found, is_gone, part_in, packed, shown, as_file}
use Rattle.fsfs_machine.specs.Machine.{recorded, with_next, file_of, part_of, parts_from, starts, pack_of, manifest_of}
use Rattle.fsfs_machine.specs.Kept.{HasFiles, HasAll, StandsFor, HasPack, IsLeft, AreLeft}

-- the last element, or one of those before
pub get_more : {X : Type 0} (xs : List X) (y : X) (r : ℕ) (x : X) → slice_get (xs ++ y ∷ []) r ≡ Some x → (slice_get xs r ≡ Some x) ⊎ ((r ≡ length xs) × (y ≡ x))
get_more [] y zero x e = inr (refl, let f : Some y ≡ Some x = e in cc)
get_more [] y (suc r) x e = let f : None ≡ Some x = e in absurd cc
get_more (z ∷ xs) y zero x e = inl e
get_more (z ∷ xs) y (suc r) x e = ⊎_elim (λ a. inl a) (λ b. inr (ap (λ n. suc n) b.0, b.1)) (get_more xs y r x e)

pub other_number : (n r : ℕ) → r < n → (n == r) ≡ false
other_number n r less = grind arith

-- from the floor on a revision's file is its own
pub shown_above : (size f : ℕ) (m : Disk) (r : ℕ) → f ≤ r → shown size f m r ≡ found m (Rev r)
shown_above size f m r le = let no : nat_lt r f ≡ false = grind (arith, le) in ap (λ b. cond b (packed size m r) (found m (Rev r))) no

pub shown_below : (size f : ℕ) (m : Disk) (r : ℕ) → r < f → shown size f m r ≡ packed size m r
shown_below size f m r less = let yes : nat_lt r f ≡ true = grind (arith, less) in ap (λ b. cond b (packed size m r) (found m (Rev r))) yes

-- the file of a revision to come touches none of the history
past_shown : (size f : ℕ) (m : Disk) (n r : ℕ) (c : Contents) → r < n → shown size f (Put (Rev n) c ∷ m) r ≡ shown size f m r
past_shown size f m n r c less = elim (nat_lt r f) as (λ b. cond b (packed size m r) (cond (n == r) (Some c) (found m (Rev r))) ≡ cond b (packed size m r) (found m (Rev r))) [
  | true ↦ refl
  | false ↦ ap (λ b. cond b (Some c) (found m (Rev r))) (other_number n r less)
]

pub past_rev : (size f : ℕ) (m : Disk) (h : List Recorded) (c : Contents) → StandsFor size f m h → StandsFor size f (Put (Rev (length h)) c ∷ m) h
past_rev size f m h c s = (λ r x e. (past_shown size f m (length h) r c (slice_get_within h r x e) ∙ (s.0 r x e).0, (s.0 r x e).1), s.1)

pub past_props : (size f : ℕ) (m : Disk) (h : List Recorded) (c : Contents) → StandsFor size f m h → StandsFor size f (Put (Props (length h)) c ∷ m) h
past_props size f m h c s = (λ r x e. ((s.0 r x e).0, ap (λ b. cond b (Some c) (found m (Props r))) (other_number (length h) r (slice_get_within h r x e)) ∙ (s.0 r x e).1), s.1)

-- once `current` names the revision to come
pub stands_next : (size f : ℕ) (m : Disk) (h : List Recorded) (x : Coming) → HasAll size f m h → HasFiles size f m (length h) (recorded x) → found m Current ≡ Some (Number (length h)) → StandsFor size f m (with_next h x)
stands_next size f m h x all files named = (
  λ r y e. ⊎_elim (λ a. all r y a) (λ b. subst (λ z. HasFiles size f m r z) b.1 (subst (λ n. HasFiles size f m n (recorded x)) (sym b.0) files)) (get_more h (recorded x) r y e),
  (length h, named, sym (length-append h (recorded x ∷ []))),
)

-- the number that `current` shows
pub same_number : (o : Option Contents) (a b : ℕ) → o ≡ Some (Number a) → o ≡ Some (Number b) → a ≡ b
same_number o a b e f = cc

-- where `current` names the revision to come, the files don't stand for the history alone
pub not_alone : (size f : ℕ) (m : Disk) (h : List Recorded) → found m Current ≡ Some (Number (length h)) → StandsFor size f m h → ⊥
not_alone size f m h named s = let e : s.1.0 ≡ length h = same_number (found m Current) s.1.0 (length h) s.1.1 named in let g : s.1.0 + 1 ≡ length h = s.1.2 in omega (arith, e, g)

-- what was put at a number is there
pub same_again : (n : ℕ) (c : Contents) (o : Option Contents) → cond (n == n) (Some c) o ≡ Some c
same_again n c o = let e : (n == n) ≡ true = grind arith in ap (λ t. cond t (Some c) o) e

-- what was put as a revision that isn't packed shows it
pub shown_again : (size f : ℕ) (m : Disk) (r : ℕ) (c : Contents) → f ≤ r → shown size f (Put (Rev r) c ∷ m) r ≡ Some c
shown_again size f m r c le = shown_above size f (Put (Rev r) c ∷ m) r le ∙ same_again r c (found m (Rev r))

-- ---- packs

-- a revision below a floor of whole shards is in an earlier shard than the one at the floor
pub shard_below : (size f shards r : ℕ) → 0 < size → f ≡ shards * size → r < f → (f / size == r / size) ≡ false
shard_below size f shards r some whole less =
    let sum : f ≡ shards * size + 0 = omega (arith, whole) in
    let at : f / size ≡ shards = ap (λ n. n / size) sum ∙ div-mul-add shards size 0 some in
    let product : r < shards * size = omega (arith, whole, less) in
    let below : r / size < shards = div_below r size shards some product in
    other_number (f / size) (r / size) (omega (arith, at, below))

-- the pack of the shard at the floor touches nothing that is packed
packed_past : (size f shards : ℕ) (m : Disk) (r : ℕ) (c : Contents) → 0 < size → f ≡ shards * size → r < f → packed size (Put (Pack (f / size)) c ∷ m) r ≡ packed size m r
packed_past size f shards m r c some whole less = ap (λ b. part_in (r % size) (cond b (Some c) (found m (Pack (r / size)))) (found m (Manifest (r / size)))) (shard_below size f shards r some whole less)

listed_past : (size f shards : ℕ) (m : Disk) (r : ℕ) (c : Contents) → 0 < size → f ≡ shards * size → r < f → packed size (Put (Manifest (f / size)) c ∷ m) r ≡ packed size m r
listed_past size f shards m r c some whole less = ap (λ b. part_in (r % size) (found m (Pack (r / size))) (cond b (Some c) (found m (Manifest (r / size))))) (shard_below size f shards r some whole less)

-- the same file where the packed part is the same below the floor
shown_by : (size f : ℕ) (m new : Disk) (r : ℕ) → (r < f → packed size new r ≡ packed size m r) → (f ≤ r → found new (Rev r) ≡ found m (Rev r)) → shown size f new r ≡ shown size f m r
shown_by size f m new r below above = by_test (nat_lt r f) refl
  where
    by_test : (b : Bool) → nat_lt r f ≡ b → shown size f new r ≡ shown size f m r
    by_test true is = let less : r < f = grind (arith, is) in shown_below size f new r less ∙ below less ∙ sym (shown_below size f m r less)
    by_test false is = let le : f ≤ r = grind (arith, is) in shown_above size f new r le ∙ above le ∙ sym (shown_above size f m r le)

pub past_pack : (size f shards : ℕ) (m : Disk) (h : List Recorded) (c : Contents) → 0 < size → f ≡ shards * size → StandsFor size f m h → StandsFor size f (Put (Pack (f / size)) c ∷ m) h
past_pack size f shards m h c some whole s = (
  λ r x e. (shown_by size f m (Put (Pack (f / size)) c ∷ m) r (λ less. packed_past size f shards m r c some whole less) (λ le. refl) ∙ (s.0 r x e).0, (s.0 r x e).1),
  s.1,
)

pub past_manifest : (size f shards : ℕ) (m : Disk) (h : List Recorded) (c : Contents) → 0 < size → f ≡ shards * size → StandsFor size f m h → StandsFor size f (Put (Manifest (f / size)) c ∷ m) h
past_manifest size f shards m h c some whole s = (
  λ r x e. (shown_by size f m (Put (Manifest (f / size)) c ∷ m) r (λ less. listed_past size f shards m r c some whole less) (λ le. refl) ∙ (s.0 r x e).0, (s.0 r x e).1),
  s.1,
)

-- the own file of a revision that is packed may go
pub past_remove : (size f : ℕ) (m : Disk) (h : List Recorded) (q : ℕ) → q < f → StandsFor size f m h → StandsFor size f (Remove (Rev q) ∷ m) h
past_remove size f m h q less s = (
  λ r x e. (shown_by size f m (Remove (Rev q) ∷ m) r (λ below. refl) (λ le. ap (λ b. cond b None (found m (Rev r))) (let other : (q == r) ≡ false = grind (arith, less, le) in other)) ∙ (s.0 r x e).0, (s.0 r x e).1),
  s.1,
)

pub get_drop : {X : Type 0} (n : ℕ) (xs : List X) (i : ℕ) → slice_get (drop n xs) i ≡ slice_get xs (n + i)
get_drop zero xs i = let z : i ≡ zero + i = omega arith in ap (λ k. slice_get xs k) z
get_drop (suc n) [] i = refl
get_drop (suc n) (x ∷ xs) i = let z : suc (n + i) ≡ suc n + i = omega arith in get_drop n xs i ∙ ap (λ k. slice_get (x ∷ xs) k) z

get_take : {X : Type 0} (n : ℕ) (xs : List X) (i : ℕ) → i < n → slice_get (take n xs) i ≡ slice_get xs i
get_take zero xs i less = absurd (omega (arith, less))
get_take (suc n) [] i less = refl
get_take (suc n) (x ∷ xs) zero less = refl
get_take (suc n) (x ∷ xs) (suc i) less = get_take n xs i (omega (arith, less))

get_map : {X Y : Type 0} (g : X → Y) (xs : List X) (i : ℕ) (x : X) → slice_get xs i ≡ Some x → slice_get (map g xs) i ≡ Some (g x)
get_map g [] i x e = let f : None ≡ Some x = e in absurd cc
get_map g (y ∷ ys) zero x e = let f : Some y ≡ Some x = e in let same : y ≡ x = cc in ap (λ z. Some (g z)) same
get_map g (y ∷ ys) (suc i) x e = get_map g ys i x e

taken_at : {X : Type 0} (n : ℕ) (xs : List X) (i : ℕ) (x : X) → slice_get (take n xs) i ≡ Some x → (i < n) × (slice_get xs i ≡ Some x)
taken_at zero xs i x e = let f : None ≡ Some x = e in absurd cc
taken_at (suc n) [] i x e = let f : None ≡ Some x = e in absurd cc
taken_at (suc n) (y ∷ ys) zero x e = (omega arith, e)
taken_at (suc n) (y ∷ ys) (suc i) x e = let r = taken_at n ys i x e in (omega (arith, r.0), r.1)

mapped_at : {X Y : Type 0} (g : X → Y) (xs : List X) (i : ℕ) (y : Y) → slice_get (map g xs) i ≡ Some y → (x : X) × (slice_get xs i ≡ Some x) × (g x ≡ y)
mapped_at g [] i y e = let f : None ≡ Some y = e in absurd cc
mapped_at g (x ∷ xs) zero y e = let f : Some (g x) ≡ Some y = e in let same : g x ≡ y = cc in (x, refl, same)
mapped_at g (x ∷ xs) (suc i) y e = mapped_at g xs i y e

-- a revision of a shard is a part of it
pub shard_part : (size f i : ℕ) (h : List Recorded) (x : Recorded) → i < size → slice_get h (f + i) ≡ Some x → slice_get (parts_from size f h) i ≡ Some (part_of x)
shard_part size f i h x within at = get_map part_of (take size (drop f h)) i x (get_take size (drop f h) i within ∙ get_drop f h i ∙ at)

-- and each part is one
pub part_of_shard : (size f i : ℕ) (h : List Recorded) (y : Part) → slice_get (parts_from size f h) i ≡ Some y → (x : Recorded) × (slice_get h (f + i) ≡ Some x) × (part_of x ≡ y) × (i < size)
part_of_shard size f i h y e =
    let m = mapped_at part_of (take size (drop f h)) i y e in
    let t = taken_at size (drop f h) i m.0 m.1 in
    (m.0, sym (get_drop f h i) ∙ t.1, m.2, t.0)

-- what stands in a pack by its own manifest
whole_part : (i : ℕ) (xs : List Part) → part_in i (Some (pack_of xs)) (Some (manifest_of xs)) ≡ as_file (slice_get xs i)
whole_part i xs = ap (λ b. cond b (as_file (slice_get xs i)) None) (nat_list_eq_equiv.refl (starts 0 xs))

-- the pack of a shard shows its revisions
pub pack_shows : (size f shards : ℕ) (m : Disk) (h : List Recorded) (r : ℕ) (x : Recorded) → 0 < size → f ≡ shards * size → HasPack size f m h → f ≤ r → r < f + size → slice_get h r ≡ Some x → packed size m r ≡ Some (file_of x)
pack_shows size f shards m h r x some whole has le less at =
    let within : r - f < size = omega (arith, le, less) in
    let sum : r ≡ shards * size + (r - f) = omega (arith, whole, le) in
    let first : f ≡ shards * size + 0 = omega (arith, whole) in
    let shard : r / size ≡ f / size = ap (λ n. n / size) sum ∙ div-mul-add shards size (r - f) within ∙ sym (ap (λ n. n / size) first ∙ div-mul-add shards size 0 some) in
    let place : r % size ≡ r - f = ap (λ n. n % size) sum ∙ mod-mul-add shards size (r - f) within in
    let back : f + (r - f) ≡ r = omega (arith, le) in
    ap (λ k. part_in (r % size) (found m (Pack k)) (found m (Manifest k))) shard
    ∙ ap (λ n. part_in n (found m (Pack (f / size))) (found m (Manifest (f / size)))) place
    ∙ ap (λ o. part_in (r - f) o (found m (Manifest (f / size)))) has.0
    ∙ ap (λ o. part_in (r - f) (Some (pack_of (parts_from size f h))) o) has.1
    ∙ whole_part (r - f) (parts_from size f h)
    ∙ ap (λ o. as_file o) (get_map part_of (take size (drop f h)) (r - f) x (get_take size (drop f h) (r - f) within ∙ get_drop f h (r - f) ∙ ap (λ n. slice_get h n) back ∙ at))

-- by the floor to come the files stand for the same
pub floor_rises : (size f shards : ℕ) (m : Disk) (h : List Recorded) → 0 < size → f ≡ shards * size → HasPack size f m h → StandsFor size f m h → StandsFor size (f + size) m h
floor_rises size f shards m h some whole has s = (λ r x e. (by_place r x e (nat_lt r f) refl (nat_lt r (f + size)) refl, (s.0 r x e).1), s.1)
  where
    by_place : (r : ℕ) (x : Recorded) → slice_get h r ≡ Some x → (a : Bool) → nat_lt r f ≡ a → (b : Bool) → nat_lt r (f + size) ≡ b → shown size (f + size) m r ≡ Some (file_of x)
    by_place r x e true low b is = let less : r < f = grind (arith, low) in shown_below size (f + size) m r (omega (arith, less)) ∙ sym (shown_below size f m r less) ∙ (s.0 r x e).0
    by_place r x e false low true is =
        let le : f ≤ r = grind (arith, low) in
        let less : r < f + size = grind (arith, is) in
        shown_below size (f + size) m r less ∙ pack_shows size f shards m h r x some whole has le less e
    by_place r x e false low false is =
        let le : f ≤ r = grind (arith, low) in
        let above : f + size ≤ r = grind (arith, is) in
        shown_above size (f + size) m r above ∙ sym (shown_above size f m r le) ∙ (s.0 r x e).0

-- ---- own files that are left

pub left_past : (low : ℕ) (m : Disk) (h : List Recorded) (c : Contents) → AreLeft low h m → AreLeft low h (Put (Rev (length h)) c ∷ m)
left_past low m h c a r x e le = subst (λ b. IsLeft (cond b false (is_gone m (Rev r))) (cond b (Some c) (found m (Rev r))) x) (sym (other_number (length h) r (slice_get_within h r x e))) (a r x e le)

pub left_removed : (low : ℕ) (m : Disk) (h : List Recorded) (q : ℕ) → AreLeft low h m → AreLeft low h (Remove (Rev q) ∷ m)
left_removed low m h q a r x e le = elim (q == r) as (λ b. IsLeft (cond b true (is_gone m (Rev r))) (cond b None (found m (Rev r))) x) [
  | true ↦ refl
  | false ↦ a r x e le
]

pub left_is : (gone : Bool) (o : Option Contents) (x : Recorded) → o ≡ Some (file_of x) → IsLeft gone o x
left_is gone o x e = subst (λ z. IsLeft gone z x) (sym e) refl

pub left_later : (low f : ℕ) (h : List Recorded) (m : Disk) → low ≤ f → AreLeft low h m → AreLeft f h m
left_later low f h m le a r x e above = a r x e (omega (arith, le, above))

-- a revision that isn't packed has its own file
pub left_next : (low size f : ℕ) (m : Disk) (h : List Recorded) (x : Coming) → f ≤ length h → HasAll size f m (with_next h x) → AreLeft low h m → AreLeft low (with_next h x) m
left_next low size f m h x le all a r y e above = ⊎_elim (λ old. a r y old above) (λ new. left_is (is_gone m (Rev r)) (found m (Rev r)) y (sym (shown_above size f m r (let at : r ≡ length h = new.0 in omega (arith, at, le))) ∙ (all r y e).0)) (get_more h (recorded x) r y e)
