-- What a reader tells, taken apart and put together.
use Rattle.std.proofs.Common.{◌≡◌, ◌≤◌, ◌<◌, ℕ, ◌^◌, List, [], length, drop, refl, sym, ap, subst, ◌∙◌, inl, inr, arith, Bool, true, false, cond, nat_lt}
use Rattle.std.specs.Prelude.{Option, Some, None, Result, Ok, Err, IfSome, ◌&&◌, ◌⊎◌}
use Rattle.std.proofs.lemmas.Bool.{lt-ltb, le-ltb}
use Rattle.std.proofs.lemmas.Option.{same_Some}
use Rattle.std.proofs.lemmas.List.{length-take, length-drop}
use Rattle.std.proofs.lemmas.Bool.Decides.{nat_tests}
use Rattle.fsfs_base.specs.Files.{Files}
use Rattle.fsfs_base.specs.declared.small_fault.SmallFault.{SmallFault}
use Rattle.fsfs_revision.specs.declared.wrong.Refusal.{Refusal}
use Rattle.fsfs_revision.specs.declared.wrong.Refusal.TheVariants.{NoRev}
use Rattle.fsfs_revision.specs.declared.book.BookFault.{BookFault}
use Rattle.fsfs_revision.specs.declared.book.BookFault.TheVariants.{Refused}
use Rattle.fsfs_revision.specs.Told.{Keeps, Gives}
use Rattle.fsfs_layout.specs.declared.layout.Layout.{Layout}
use Rattle.fsfs_layout.specs.Layouts.{shard_of}
use Rattle.fsfs_fetch.specs.declared.manifests.KeptManifest.{KeptManifest}
use Rattle.fsfs_revision.specs.declared.section.Section.{Section}
use Rattle.fsfs_revision.specs.RevBytes.{rev_bytes, rev_file, or_missing, by_floor, floor_in, packed_bytes, packed_section, pack_in, cut, cut_from}
use Rattle.fsfs_fetch.specs.Views.{Reach, Ends, Grows, IsKnown, IsYoungest, Extends, View, Later}
use Rattle.fsfs_disk.specs.Benches.{HasShortFiles}
use Rattle.fsfs_fetch.specs.Kept.{TellsFiles, TellsOwn, telling, within, revs_in, is_short, is_right, last_of, IsFoundAt, FindsAsWell}
use Rattle.fsfs_fetch.specs.ViewLemmas.{next, known_later}
use Rattle.fsfs_fetch.proofs.DirectLemmas.{found_later, fresh_right, make_right}

-- a revision above the youngest
pub record IsPast (reach : Reach) (rev : ℕ) (read : Result (List ℕ) Refusal) : Type 0 where
  pub youngest : ℕ
  pub ends : reach ≡ Ends youngest
  pub above : youngest < rev
  pub is : read ≡ Err (NoRev rev youngest)

-- ---- what is told within reach

within_ends : (past : Bool) (reach : Reach) (y rev : ℕ) (inner : Option (Result (List ℕ) Refusal)) (read : Result (List ℕ) Refusal) → reach ≡ Ends y → past ≡ nat_lt y rev → cond past (Some (Err (NoRev rev y))) inner ≡ Some read
    → (IsPast reach rev read) ⊎ ((rev ≤ y) × (inner ≡ Some read))
within_ends true reach y rev inner read e is told =
    let lt : y < rev = grind (arith, nat_tests) in
    let same : Err (NoRev rev y) ≡ read = cc in
    inl (record { youngest = y; ends = e; above = lt; is = sym same })
within_ends false reach y rev inner read e is told = let le : rev ≤ y = grind (arith, nat_tests) in inr (le, told)

within_grows : (past : Bool) (least rev : ℕ) (inner : Option (Result (List ℕ) Refusal)) (read : Result (List ℕ) Refusal) → past ≡ nat_lt least rev → cond past None inner ≡ Some read → (rev ≤ least) × (inner ≡ Some read)
within_grows true least rev inner read is told = cc
within_grows false least rev inner read is told = let le : rev ≤ least = grind (arith, nat_tests) in (le, told)

within_read : (reach : Reach) (rev : ℕ) (inner : Option (Result (List ℕ) Refusal)) (read : Result (List ℕ) Refusal) → within reach rev inner ≡ Some read → (IsPast reach rev read) ⊎ ((IsKnown reach rev) × (inner ≡ Some read))
within_read (Ends y) rev inner read told = within_ends (nat_lt y rev) (Ends y) y rev inner read refl refl told
within_read (Grows least) rev inner read told = inr (within_grows (nat_lt least rev) least rev inner read refl told)

within_known : (reach : Reach) (rev : ℕ) (inner : Option (Result (List ℕ) Refusal)) → IsKnown reach rev → within reach rev inner ≡ inner
within_known (Ends y) rev inner known = let e : nat_lt y rev ≡ false = le-ltb y rev known in rw e refl
within_known (Grows least) rev inner known = let e : nat_lt least rev ≡ false = le-ltb least rev known in rw e refl

within_past : (reach : Reach) (rev y : ℕ) (inner : Option (Result (List ℕ) Refusal)) → reach ≡ Ends y → y < rev → within reach rev inner ≡ Some (Err (NoRev rev y))
within_past reach rev y inner e lt =
    let past : nat_lt y rev ≡ true = lt-ltb y rev lt in
    let P : (Option (Result (List ℕ) Refusal)) → Type 0 = λ o. cond (nat_lt y rev) (Some (Err (NoRev rev y))) inner ≡ o in
    ap (λ r. within r rev inner) e ∙ rw past refl

-- ---- what is told of the files

if_short_some : (right short : Bool) (bytes read : Result (List ℕ) Refusal) → cond (right && short) (Some bytes) None ≡ Some read → (right ≡ true) × (short ≡ true) × (bytes ≡ read)
if_short_some true true bytes read told = (refl, refl, cc)
if_short_some true false bytes read told = cc
if_short_some false short bytes read told = cc

-- the bytes that are told
pub record IsToldAt {B : Type 0} (view : View B) (floor : ℕ) (kept : Option KeptManifest) (rev : ℕ) (read : Result (List ℕ) Refusal) : Type 0 where
  pub files : Files
  pub found : IsFoundAt view floor kept rev files
  pub short : is_short (rev_bytes view.layout files rev) ≡ true
  pub bytes : rev_bytes view.layout files rev ≡ read

revs_some : (n : Layout) (floor : ℕ) (kept : Option KeptManifest) (files : Option Files) (rev : ℕ) (read : Result (List ℕ) Refusal) → revs_in n floor kept files rev ≡ Some read
    → (m : Files) × (files ≡ Some m) × (is_right n m floor kept rev ≡ true) × (is_short (rev_bytes n m rev) ≡ true) × (rev_bytes n m rev ≡ read)
revs_some n floor kept None rev read told = cc
revs_some n floor kept (Some m) rev read told =
    let p = if_short_some (is_right n m floor kept rev) (is_short (rev_bytes n m rev)) (rev_bytes n m rev) read told in
    (m, refl, p.0, p.1, p.2)

pub told_revs : {B : Type 0} (v : View B) (floor : ℕ) (kept : Option KeptManifest) (rev : ℕ) (read : Result (List ℕ) Refusal) → (telling v floor kept).revs rev ≡ Some read → (IsPast v.reach rev read) ⊎ (IsToldAt v floor kept rev read)
unfolding telling
told_revs v floor kept rev read told =
    elim (within_read v.reach rev (revs_in v.layout floor kept v.files rev) read told) [
      | inl p ↦ inl p
      | inr p ↦
          let q = revs_some v.layout floor kept v.files rev read p.1 in
          inr (record { files = q.0; found = record { told = q.1; known = p.0; right = q.2 }; short = q.3; bytes = q.4 })
    ]

pub tells_past : {B : Type 0} (v : View B) (floor : ℕ) (kept : Option KeptManifest) (rev : ℕ) (read : Result (List ℕ) Refusal) → IsPast v.reach rev read → (telling v floor kept).revs rev ≡ Some read
unfolding telling
tells_past v floor kept rev read p = within_past v.reach rev p.youngest (revs_in v.layout floor kept v.files rev) p.ends p.above ∙ ap (λ (r : Result (List ℕ) Refusal). Some r) (sym p.is)

revs_found : (n : Layout) (floor : ℕ) (kept : Option KeptManifest) (files : Option Files) (m : Files) (rev : ℕ) → files ≡ Some m → is_right n m floor kept rev ≡ true → is_short (rev_bytes n m rev) ≡ true → revs_in n floor kept files rev ≡ Some (rev_bytes n m rev)
revs_found n floor kept files m rev e right short = ap (λ f. revs_in n floor kept f rev) e ∙ rw (right, short) refl

pub tells_found : {B : Type 0} (v : View B) (floor : ℕ) (kept : Option KeptManifest) (m : Files) (rev : ℕ) → IsFoundAt v floor kept rev m → is_short (rev_bytes v.layout m rev) ≡ true → (telling v floor kept).revs rev ≡ Some (rev_bytes v.layout m rev)
unfolding telling
tells_found v floor kept m rev p short = within_known v.reach rev (revs_in v.layout floor kept v.files rev) p.known ∙ revs_found v.layout floor kept v.files m rev p.told p.right short

-- ---- what is told stays told

past_later : {B : Type 0} (v w : View B) (rev : ℕ) (read : Result (List ℕ) Refusal) → Later v w → IsPast v.reach rev read → IsPast w.reach rev read
past_later v w rev read e p =
    let P : Reach → Type 0 = λ r. Extends r w.reach in
    let ends : w.reach ≡ Ends p.youngest = subst P p.ends e.reach in
    record { youngest = p.youngest; ends = ends; above = p.above; is = p.is }

last_later : (a b : Reach) (y : ℕ) → Extends a b → last_of a ≡ Some y → last_of b ≡ Some y
last_later (Ends n) b y e is = ap last_of e ∙ is
last_later (Grows n) b y e is = cc

found_told : {B : Type 0} (v w : View B) (f g : ℕ) (k l : Option KeptManifest) (rev : ℕ) (read : Result (List ℕ) Refusal) → Later v w → FindsAsWell v f k w g l → IsToldAt v f k rev read → (telling w g l).revs rev ≡ Some read
found_told v w f g k l rev read e finds p =
    let q = finds p.files rev p.found in
    let n = next v w p.files e p.found.told in
    let one : n.files ≡ q.0 = same_Some n.files q.0 (sym n.told ∙ q.1.told) in
    let same : rev_bytes w.layout q.0 rev ≡ rev_bytes v.layout p.files rev =
    ap (λ m. rev_bytes w.layout m rev) (sym one) ∙ ap (λ j. rev_bytes j n.files rev) e.layout ∙ n.follows.bytes rev p.found.known in
    tells_found w g l q.0 rev q.1 (ap is_short same ∙ p.short) ∙ ap (λ (r : Result (List ℕ) Refusal). Some r) (same ∙ p.bytes)

youngest_told : {B : Type 0} (v w : View B) (f g : ℕ) (k l : Option KeptManifest) (y : ℕ) → Later v w → (telling v f k).youngest ≡ Some y → (telling w g l).youngest ≡ Some y
unfolding telling
youngest_told v w f g k l y e is = last_later v.reach w.reach y e.reach is

below_told : {B : Type 0} (v w : View B) (f g : ℕ) (k l : Option KeptManifest) → Later v w → (telling w g l).below ≡ (telling v f k).below
unfolding telling
below_told v w f g k l e = e.below

pub keeps : {B : Type 0} (v w : View B) (f g : ℕ) (k l : Option KeptManifest) → Later v w → FindsAsWell v f k w g l → Keeps (telling v f k) (telling w g l)
keeps v w f g k l e finds = record {
  revs = λ rev read told. elim (told_revs v f k rev read told) [ inl p ↦ tells_past w g l rev read (past_later v w rev read e p) | inr p ↦ found_told v w f g k l rev read e finds p ];
  youngest = λ y is. youngest_told v w f g k l y e is;
  below = below_told v w f g k l e;
}

-- ---- what a call meets: a revision above the youngest, or one that there is

pub not_above : (reach : Reach) (rev n : ℕ) → IsYoungest reach n → n < rev → ¬ IsKnown reach rev
not_above (Ends y) rev n is lt known = omega (arith, is, lt, known)
not_above (Grows least) rev n is lt known = omega (arith, is, lt, known)

youngest_is : (reach : Reach) (n y : ℕ) → IsYoungest reach n → reach ≡ Ends y → n ≡ y
youngest_is reach n y is e = let P : Reach → Type 0 = λ r. IsYoungest r n in subst P e is

past_read : {B : Type 0} (v w : View B) (rev n : ℕ) (read : Result (List ℕ) Refusal) → Later v w → IsYoungest w.reach n → IsPast v.reach rev read → read ≡ Err (NoRev rev n)
past_read v w rev n read e is p =
    let q = past_later v w rev read e p in
    q.is ∙ ap (λ y. Err (NoRev rev y)) (sym (youngest_is w.reach n q.youngest is q.ends))

pub revs_above : {B : Type 0} (v w : View B) (floor : ℕ) (kept : Option KeptManifest) (rev n : ℕ) (read : Result (List ℕ) Refusal) → Later v w → IsYoungest w.reach n → n < rev → (telling v floor kept).revs rev ≡ Some read → read ≡ Err (NoRev rev n)
revs_above v w floor kept rev n read e is lt told =
    elim (told_revs v floor kept rev read told) [
      | inl p ↦ past_read v w rev n read e is p
      | inr p ↦ absurd (not_above w.reach rev n is lt (known_later v.reach w.reach rev e.reach p.found.known))
    ]

-- there is a revision, by the youngest
abbrev pub IsThere : {B : Type 0} → View B → ℕ → Type 0
IsThere view rev = (n : ℕ) × IsYoungest view.reach n × (rev ≤ n)

not_past_there : {B : Type 0} (v w : View B) (rev : ℕ) (read : Result (List ℕ) Refusal) → Later v w → IsThere w rev → ¬ IsPast v.reach rev read
not_past_there v w rev read e there p =
    let q = past_later v w rev read e p in
    omega (arith, q.above, there.2, youngest_is w.reach there.0 q.youngest there.1 q.ends)

pub revs_there : {B : Type 0} (v w : View B) (floor : ℕ) (kept : Option KeptManifest) (rev : ℕ) (read : Result (List ℕ) Refusal) → Later v w → IsThere w rev → (telling v floor kept).revs rev ≡ Some read
    → (new : Files) × (IsFoundAt w floor kept rev new) × (rev_bytes w.layout new rev ≡ read)
revs_there v w floor kept rev read e there told =
    elim (told_revs v floor kept rev read told) [
      | inl p ↦ absurd (not_past_there v w rev read e there p)
      | inr p ↦ let k = found_later v w floor kept p.files rev e p.found in (k.0, k.1, k.2 ∙ p.bytes)
    ]

youngest_within : (a b : Reach) (n : ℕ) → Extends a b → IsYoungest b n → IfSome (last_of a) (λ y. n ≡ y)
youngest_within (Ends y) b n e is = youngest_is b n y is e
youngest_within (Grows least) b n e is = tt

pub youngest_same : {B : Type 0} (v w : View B) (floor : ℕ) (kept : Option KeptManifest) (n : ℕ) → Later v w → IsYoungest w.reach n → IfSome (telling v floor kept).youngest (λ y. n ≡ y)
unfolding telling
youngest_same v w floor kept n e is = youngest_within v.reach w.reach n e.reach is

-- the refusal of a revision above the youngest
pub above_gives : {X Y : Type 0} (view : X → Y) (F : Result (List ℕ) Refusal → Result Y BookFault) (rev n : ℕ) (read : Result (List ℕ) Refusal) (e : BookFault) → ((r : Refusal) → F (Err r) ≡ Err (Refused r)) → e ≡ Refused (NoRev rev n) → read ≡ Err (NoRev rev n)
    → Gives {X = X} {Y = Y} view (Err e) (F read)
above_gives view F rev n read e f is same =
    let P : BookFault → Type 0 = λ x. Gives view (Err x) (F read) in
    subst P (sym is) (ap F same ∙ f (NoRev rev n))

-- ---- all is told with the floor of the files

short_if : (bytes : List ℕ) → length bytes < 2 ^ 64 → is_short (Ok bytes) ≡ true
short_if bytes lt = lt-ltb (length bytes) 18446744073709551616 lt

fits_u64 : (n : ℕ) → n ≤ 2 ^ 62 → n < 2 ^ 64
fits_u64 n le = omega arith

short_own : (rev : ℕ) (file : Option (List ℕ)) → ((bytes : List ℕ) → file ≡ Some bytes → length bytes < 2 ^ 64) → is_short (or_missing rev file) ≡ true
short_own rev None f = refl
short_own rev (Some bytes) f = short_if bytes (f bytes refl)

cut_less : (s : Section) (bytes : List ℕ) → length (cut s bytes) ≤ length bytes
cut_less s bytes = omega (arith, length-take s.length (drop s.start bytes), length-drop s.start bytes)

short_cut : (pack : Option (List ℕ)) (section : Result Section Refusal) → ((bytes : List ℕ) → pack ≡ Some bytes → length bytes < 2 ^ 64) → is_short (cut_from pack section) ≡ true
short_cut pack (Err refusal) f = refl
short_cut None (Ok s) f = let le : length (cut s []) ≤ 0 = cut_less s [] in short_if (cut s []) (omega (arith, le))
short_cut (Some bytes) (Ok s) f = short_if (cut s bytes) (omega (arith, cut_less s bytes, f bytes refl))

short_choice : (b : Bool) (x y : Result (List ℕ) Refusal) → is_short x ≡ true → is_short y ≡ true → is_short (cond b x y) ≡ true
short_choice true x y e f = e
short_choice false x y e f = f

short_packed : (n : Layout) (m : Files) (rev : ℕ) → HasShortFiles m → is_short (packed_bytes n m rev) ≡ true
unfolding packed_bytes
short_packed n m rev short = short_cut (pack_in m (shard_of n rev)) (packed_section n m rev) (λ bytes e. fits_u64 (length bytes) (short _ bytes e))

short_by_floor : (n : Layout) (m : Files) (rev : ℕ) (floor : Result ℕ SmallFault) → HasShortFiles m → is_short (by_floor n m rev floor) ≡ true
short_by_floor n m rev (Err fault) short = refl
short_by_floor n m rev (Ok floor) short =
    short_choice (nat_lt rev floor) (packed_bytes n m rev) (or_missing rev (rev_file n m rev)) (short_packed n m rev short) (short_own rev (rev_file n m rev) (λ bytes e. fits_u64 (length bytes) (short _ bytes e)))

short_bytes : (n : Layout) (m : Files) (rev : ℕ) → HasShortFiles m → is_short (rev_bytes n m rev) ≡ true
unfolding rev_bytes
short_bytes n m rev short = short_by_floor n m rev (floor_in n m) short

youngest_last : {B : Type 0} (v : View B) (floor : ℕ) (kept : Option KeptManifest) → (telling v floor kept).youngest ≡ last_of v.reach
unfolding telling
youngest_last v floor kept = refl

pub below_same : {B : Type 0} (v : View B) (floor : ℕ) (kept : Option KeptManifest) → (telling v floor kept).below ≡ v.below
unfolding telling
below_same v floor kept = refl

pub tells_own : {B : Type 0} (v : View B) (floor : ℕ) (m : Files) → v.files ≡ Some m → HasShortFiles m → TellsOwn v floor m (telling v floor None)
tells_own v floor m told short = record {
  revs = λ rev known le own. tells_found v floor None m rev (record { told = told; known = known; right = make_right v.layout m floor None rev (λ lt. absurd (omega (arith, lt, le))) (λ _. own) }) (short_bytes v.layout m rev short);
  packed = λ rev known less packed. tells_found v floor None m rev (record { told = told; known = known; right = make_right v.layout m floor None rev (λ _. (packed, refl)) (λ le. absurd (omega (arith, less, le))) }) (short_bytes v.layout m rev short);
}

pub tells_files : {B : Type 0} (v : View B) (floor : ℕ) (m : Files) → v.files ≡ Some m → floor_in v.layout m ≡ Ok floor → HasShortFiles m → TellsFiles v m (telling v floor None)
tells_files v floor m told is short = record {
  revs = λ rev known. tells_found v floor None m rev (record { told = told; known = known; right = fresh_right v.layout m rev floor is }) (short_bytes v.layout m rev short);
  youngest = youngest_last v floor None;
}
