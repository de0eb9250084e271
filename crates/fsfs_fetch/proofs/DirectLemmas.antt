-- What a reader finds by the floor and the manifest that it keeps.
use Rattle.std.proofs.Common.{◌≡◌, ◌≤◌, ◌<◌, ℕ, List, [], refl, sym, ap, subst, ◌∙◌, inl, inr, Bool, true, false, cond, nat_lt}
use Rattle.std.specs.Prelude.{Option, Some, None, Result, Ok, Err, IfSome, unwrap_or, ◌==◌, ◌&&◌, ◌⊎◌, codes}
use Rattle.std.proofs.lemmas.Bool.{and_parts, lt-ltb, le-ltb, ltb-true, ltb-false}
use Rattle.std.proofs.lemmas.Option.{same_Some}
use Rattle.std.specs.Cmp.Lexicographic.{same_text, nat_list_eq_equiv}
use Rattle.std.specs.FinMap as map
use Rattle.fsfs_base.specs.Files.{Files}
use Rattle.fsfs_base.specs.declared.small_fault.SmallFault.{SmallFault}
use Rattle.fsfs_layout.specs.Names.{in_folder}
use Rattle.fsfs_revision.specs.declared.wrong.Refusal.{Refusal}
use Rattle.fsfs_revision.specs.declared.wrong.Refusal.TheVariants.{Missing, Small}
use Rattle.fsfs_revision.specs.declared.book.BookFault.{BookFault}
use Rattle.fsfs_revision.specs.declared.book.BookFault.TheVariants.{Refused, Short, DiskFault, OutOfMemory}
use Rattle.fsfs_revision.specs.Told.{Gives, part_read, size_read}
use Rattle.fsfs_layout.specs.declared.layout.Layout.{Layout}
use Rattle.fsfs_layout.specs.Layouts.{shard_of}
use Rattle.fsfs_fetch.specs.declared.manifests.KeptManifest.{KeptManifest}
use Rattle.fsfs_revision.specs.RevBytes.{floor_in, rev_bytes, packed_bytes, by_floor, or_missing, rev_file, manifest_of}
use Rattle.fsfs_fetch.specs.Views.{Reach, IsKnown, View, Follows, Later, is_packed, is_below}
use Rattle.fsfs_fetch.specs.Answers.{MayGo, FromFile, refused}
use Rattle.fsfs_fetch.specs.Kept.{fits, agrees, is_right, are_offsets, IsPackedAt, ServesAsWell, IsFoundAt, FindsAsWell, IsGoneAt}
use Rattle.fsfs_fetch.specs.ViewLemmas.{next, told_at, known_later}
use Rattle.fsfs_fetch.proofs.ManifestLemmas.{refused_ok}

-- ---- the test of what is kept, taken apart and put together

pub right_below : (n : Layout) (m : Files) (floor : ℕ) (kept : Option KeptManifest) (rev : ℕ) → rev < floor → is_right n m floor kept rev ≡ true → (is_packed n m rev ≡ true) × (fits n m kept rev ≡ true)
unfolding is_right
right_below n m floor kept rev lt e =
    let P : Bool → Type 0 = λ b. cond b (is_packed n m rev && fits n m kept rev) (agrees (rev_file n m rev) (rev_bytes n m rev)) ≡ true in
    and_parts (is_packed n m rev) (fits n m kept rev) (subst P (lt-ltb rev floor lt) e)

pub right_above : (n : Layout) (m : Files) (floor : ℕ) (kept : Option KeptManifest) (rev : ℕ) → floor ≤ rev → is_right n m floor kept rev ≡ true → agrees (rev_file n m rev) (rev_bytes n m rev) ≡ true
unfolding is_right
right_above n m floor kept rev le e =
    let P : Bool → Type 0 = λ b. cond b (is_packed n m rev && fits n m kept rev) (agrees (rev_file n m rev) (rev_bytes n m rev)) ≡ true in
    subst P (le-ltb rev floor le) e

chosen : (b packed fit own : Bool) → (b ≡ true → (packed ≡ true) × (fit ≡ true)) → (b ≡ false → own ≡ true) → cond b (packed && fit) own ≡ true
chosen true packed fit own f g = let h = f refl in rw (h.0, h.1) refl
chosen false packed fit own f g = g refl

pub make_right : (n : Layout) (m : Files) (floor : ℕ) (kept : Option KeptManifest) (rev : ℕ) → (rev < floor → (is_packed n m rev ≡ true) × (fits n m kept rev ≡ true)) → (floor ≤ rev → agrees (rev_file n m rev) (rev_bytes n m rev) ≡ true) → is_right n m floor kept rev ≡ true
unfolding is_right
make_right n m floor kept rev f g =
    chosen (nat_lt rev floor) (is_packed n m rev) (fits n m kept rev) (agrees (rev_file n m rev) (rev_bytes n m rev)) (λ e. f (ltb-true rev floor e)) (λ e. g (ltb-false rev floor e))

-- ---- later files

pub fits_later : (n : Layout) (reach : Reach) (m new : Files) (kept : Option KeptManifest) (rev : ℕ) → Follows n reach m new → is_packed n m rev ≡ true → fits n m kept rev ≡ true → fits n new kept rev ≡ true
fits_later n reach m new None rev f packed fit = refl
fits_later n reach m new (Some kept) rev f packed fit =
    let F : Option (List ℕ) → Bool = λ file. cond (kept.shard == shard_of n rev) (are_offsets kept.offsets.items (manifest_of n (shard_of n rev) (unwrap_or file []))) true in
    ap F (f.manifest rev packed) ∙ fit

agrees_later : (file later : Option (List ℕ)) (read now : Result (List ℕ) Refusal) → (later ≡ file) ⊎ (later ≡ None) → now ≡ read → agrees file read ≡ true → agrees later now ≡ true
agrees_later file later read now (inl same) e h = (λ i. agrees (same i) (e i)) ∙ h
agrees_later file later read now (inr none) e h = ap (λ f. agrees f now) none

pub right_later : (n : Layout) (reach : Reach) (m new : Files) (floor : ℕ) (kept : Option KeptManifest) (rev : ℕ) → Follows n reach m new → IsKnown reach rev → is_right n m floor kept rev ≡ true → is_right n new floor kept rev ≡ true
right_later n reach m new floor kept rev f known right =
    make_right n new floor kept rev
    (λ lt. let p = right_below n m floor kept rev lt right in (f.packed rev p.0, fits_later n reach m new kept rev f p.0 p.1))
    (λ le. agrees_later (rev_file n m rev) (rev_file n new rev) (rev_bytes n m rev) (rev_bytes n new rev) (f.own rev known) (f.bytes rev known) (right_above n m floor kept rev le right))

-- what is found stays found
found_next : {B : Type 0} (v w : View B) (floor : ℕ) (kept : Option KeptManifest) (m : Files) (rev : ℕ) → Later v w → IsFoundAt v floor kept rev m → (new : Files) × IsFoundAt w floor kept rev new
found_next v w floor kept m rev e p =
    let k = next v w m e p.told in
    let P : Layout → Type 0 = λ n. is_right n k.files floor kept rev ≡ true in (
      k.files,
      record {
        told = k.told;
        known = known_later v.reach w.reach rev e.reach p.known;
        right = subst P (sym e.layout) (right_later v.layout v.reach m k.files floor kept rev k.follows p.known p.right);
      },
    )

pub finds_later : {B : Type 0} (v w : View B) (floor : ℕ) (kept : Option KeptManifest) → Later v w → FindsAsWell v floor kept w floor kept
finds_later v w floor kept e = λ m rev p. found_next v w floor kept m rev e p

pub finds_serving : {B : Type 0} (v w : View B) (floor : ℕ) (old new : Option KeptManifest) → Later v w → ServesAsWell v old new → FindsAsWell v floor old w floor new
finds_serving v w floor old new e serves = λ m rev p.
    let right = make_right v.layout m floor new rev
    (λ lt. let q = right_below v.layout m floor old rev lt p.right in (q.0, serves m rev (record { told = p.told; packed = q.0; fits = q.1 })))
    (λ le. right_above v.layout m floor old rev le p.right) in
    found_next v w floor new m rev e (record { told = p.told; known = p.known; right = right })

below_is : (n : Layout) (m : Files) (rev floor : ℕ) → floor_in n m ≡ Ok floor → is_packed n m rev ≡ nat_lt rev floor
unfolding is_packed
below_is n m rev floor e = ap (is_below rev) e

own_agrees : (n : Layout) (m : Files) (rev fresh : ℕ) (file : Option (List ℕ)) (read : Result (List ℕ) Refusal) → file ≡ rev_file n m rev → read ≡ or_missing rev file → agrees file read ≡ true
own_agrees n m rev fresh None read e f = refl
own_agrees n m rev fresh (Some bytes) read e f = ap (agrees (Some bytes)) f ∙ nat_list_eq_equiv.refl bytes

by_floor_own : (n : Layout) (m : Files) (rev floor : ℕ) (r : Result ℕ SmallFault) → r ≡ Ok floor → floor ≤ rev → by_floor n m rev r ≡ or_missing rev (rev_file n m rev)
by_floor_own n m rev floor r e le = let past : nat_lt rev floor ≡ false = le-ltb rev floor le in ap (by_floor n m rev) e ∙ rw past refl

bytes_own : (n : Layout) (m : Files) (rev floor : ℕ) → floor_in n m ≡ Ok floor → floor ≤ rev → rev_bytes n m rev ≡ or_missing rev (rev_file n m rev)
unfolding rev_bytes
bytes_own n m rev floor e le = by_floor_own n m rev floor (floor_in n m) e le

-- a reader whose floor is that of the files, and that keeps no manifest
pub fresh_right : (n : Layout) (m : Files) (rev floor : ℕ) → floor_in n m ≡ Ok floor → is_right n m floor None rev ≡ true
fresh_right n m rev floor is =
    make_right n m floor None rev
    (λ lt. (below_is n m rev floor is ∙ lt-ltb rev floor lt, refl))
    (λ le. own_agrees n m rev floor (rev_file n m rev) (rev_bytes n m rev) refl (bytes_own n m rev floor is le))

-- a floor that was read anew
pub finds_fresh : {B : Type 0} (v w : View B) (floor fresh : ℕ) (kept : Option KeptManifest) → Later v w → IfSome w.files (λ m. refused (floor_in w.layout m) ≡ Ok fresh) → FindsAsWell v floor kept w fresh None
finds_fresh v w floor fresh kept e read = λ m rev p.
    let k = next v w m e p.told in
    let Q : Files → Type 0 = λ f. refused (floor_in w.layout f) ≡ Ok fresh in
    let is : floor_in w.layout k.files ≡ Ok fresh = refused_ok _ fresh (told_at w.files k.files Q k.told read) in (
      k.files,
      record {
        told = k.told;
        known = known_later v.reach w.reach rev e.reach p.known;
        right = fresh_right w.layout k.files rev fresh is;
      },
    )

pub finds_more : {B : Type 0} (u v w : View B) (a b c : ℕ) (k l p : Option KeptManifest) → FindsAsWell u a k v b l → FindsAsWell v b l w c p → FindsAsWell u a k w c p
finds_more u v w a b c k l p f g = λ m rev h. let q = f m rev h in g q.0 rev q.1

-- ---- the bytes that are found

by_floor_packed : (n : Layout) (m : Files) (rev : ℕ) (r : Result ℕ SmallFault) → is_below rev r ≡ true → by_floor n m rev r ≡ packed_bytes n m rev
by_floor_packed n m rev (Err f) e = cc
by_floor_packed n m rev (Ok floor) e = rw e refl

pub bytes_packed : (n : Layout) (m : Files) (rev : ℕ) → is_packed n m rev ≡ true → rev_bytes n m rev ≡ packed_bytes n m rev
unfolding is_packed rev_bytes
bytes_packed n m rev e = by_floor_packed n m rev (floor_in n m) e

pub bytes_gone : (n : Layout) (m : Files) (rev floor : ℕ) → floor_in n m ≡ Ok floor → floor ≤ rev → rev_file n m rev ≡ None → rev_bytes n m rev ≡ Err (Missing rev)
unfolding rev_bytes
bytes_gone n m rev floor e le gone =
    let past : nat_lt rev floor ≡ false = le-ltb rev floor le in
    ap (by_floor n m rev) e ∙ rw past (ap (or_missing rev) gone)

pub bytes_fault : (n : Layout) (m : Files) (rev : ℕ) (fault : SmallFault) → floor_in n m ≡ Err fault → rev_bytes n m rev ≡ Err (Small fault)
unfolding rev_bytes
bytes_fault n m rev fault e = ap (by_floor n m rev) e

pub own_bytes : (file : Option (List ℕ)) (bytes : List ℕ) (read : Result (List ℕ) Refusal) → file ≡ Some bytes → agrees file read ≡ true → read ≡ Ok bytes
own_bytes file bytes (Ok found) is h =
    let P : Option (List ℕ) → Type 0 = λ f. agrees f (Ok found) ≡ true in
    ap (λ (xs : List ℕ). Ok xs) (sym (same_text bytes found (sym (subst P is h))))
own_bytes file bytes (Err f) is h = let P : Option (List ℕ) → Type 0 = λ o. agrees o (Err f) ≡ true in let no : false ≡ true = subst P is h in cc

-- ---- what is answered

pub packed_at : {B : Type 0} (v : View B) (floor : ℕ) (kept : Option KeptManifest) (m : Files) (rev : ℕ) → rev < floor → IsFoundAt v floor kept rev m → IsPackedAt v kept rev m
packed_at v floor kept m rev lt p = let q = right_below v.layout m floor kept rev lt p.right in record { told = p.told; packed = q.0; fits = q.1 }

pub own_goes : {B : Type 0} (v : View B) (m : Files) (rev : ℕ) (n : Layout) (name : List ℕ) → v.files ≡ Some m → IsKnown v.reach rev → n ≡ v.layout → name ≡ in_folder (codes "db/revs") n rev → MayGo v name (rev_file v.layout m rev)
own_goes v m rev n name told known e named =
    let P : List ℕ → Type 0 = λ t. MayGo v t (rev_file v.layout m rev) in
    let is : in_folder (codes "db/revs") v.layout rev ≡ name = ap (λ k. in_folder (codes "db/revs") k rev) (sym e) ∙ sym named in
    subst P is (record { now = m; told = told; later = λ new f. f.own rev known })

pub gone_at : {B : Type 0} (v w : View B) (m : Files) (rev : ℕ) (n : Layout) (name : List ℕ) → Later v w → v.files ≡ Some m → IsKnown v.reach rev → n ≡ v.layout → name ≡ in_folder (codes "db/revs") n rev → (k : Files) × (w.files ≡ Some k) × (map.get k name ≡ None)
    → (new : Files) × (IsGoneAt w rev new) × (rev_bytes w.layout new rev ≡ rev_bytes v.layout m rev)
gone_at v w m rev n name e told known same named p =
    let k = next v w m e told in
    let one : k.files ≡ p.0 = same_Some k.files p.0 (sym k.told ∙ p.1) in
    let is : in_folder (codes "db/revs") w.layout rev ≡ name = ap (λ j. in_folder (codes "db/revs") j rev) (e.layout ∙ sym same) ∙ sym named in
    let gone : rev_file w.layout k.files rev ≡ None = ap (map.get k.files) is ∙ ap (λ f. map.get f name) one ∙ p.2 in
    (k.files, record { told = k.told; known = known_later v.reach w.reach rev e.reach known; gone = gone }, ap (λ j. rev_bytes j k.files rev) e.layout ∙ k.follows.bytes rev known)

-- a failure of the floor is the revision's
pub floor_err : {X : Type 0} (view : X → List ℕ) (rev offset count : ℕ) (floor : Result ℕ SmallFault) (whole : Result (List ℕ) Refusal) (other : ℕ) (e : BookFault) → ((fault : SmallFault) → floor ≡ Err fault → whole ≡ Err (Small fault)) → Gives {X = Unit {0}} (λ _. other) (Err e) (refused floor)
    → Gives view (Err e) (part_read rev offset count whole)
floor_err view rev offset count floor whole other DiskFault f h = tt
floor_err view rev offset count floor whole other OutOfMemory f h = tt
floor_err view rev offset count (Ok n) whole other (Refused r) f h = cc
floor_err view rev offset count (Err fault) whole other (Refused r) f h =
    let same : ◌≡◌ {A = Result ℕ BookFault} (Err (Refused (Small fault))) (Err (Refused r)) = h in
    let s : Small fault ≡ r = cc in
    ap (part_read rev offset count) (f fault refl) ∙ ap (λ (x : Refusal). Err (Refused x)) s
floor_err view rev offset count (Ok n) whole other (Short r o) f h = cc
floor_err view rev offset count (Err fault) whole other (Short r o) f h = cc

pub floor_err_len : (floor : Result ℕ SmallFault) (whole : Result (List ℕ) Refusal) (other : ℕ) (e : BookFault) → ((fault : SmallFault) → floor ≡ Err fault → whole ≡ Err (Small fault)) → Gives {X = Unit {0}} (λ _. other) (Err e) (refused floor)
    → Gives {X = ℕ} (λ k. k) (Err e) (size_read whole)
floor_err_len floor whole other DiskFault f h = tt
floor_err_len floor whole other OutOfMemory f h = tt
floor_err_len (Ok n) whole other (Refused r) f h = cc
floor_err_len (Err fault) whole other (Refused r) f h =
    let same : ◌≡◌ {A = Result ℕ BookFault} (Err (Refused (Small fault))) (Err (Refused r)) = h in
    let s : Small fault ≡ r = cc in
    ap size_read (f fault refl) ∙ ap (λ (x : Refusal). Err (Refused x)) s
floor_err_len (Ok n) whole other (Short r o) f h = cc
floor_err_len (Err fault) whole other (Short r o) f h = cc

-- after the floor was read anew: its fault is the revision's; or the revision is packed; or it isn't anywhere
pub fresh_fault : {B : Type 0} (v w : View B) (m : Files) (rev other : ℕ) (e : BookFault) → Later v w → IsGoneAt v rev m → IfSome w.files (λ f. Gives {X = Unit {0}} (λ _. other) (Err e) (refused (floor_in w.layout f)))
    → (new : Files) × (Gives {X = Unit {0}} (λ _. other) (Err e) (refused (floor_in w.layout new))) × (rev_bytes w.layout new rev ≡ rev_bytes v.layout m rev)
fresh_fault v w m rev other e later p h =
    let k = next v w m later p.told in
    let Q : Files → Type 0 = λ f. Gives {X = Unit {0}} (λ _. other) (Err e) (refused (floor_in w.layout f)) in
    (k.files, told_at w.files k.files Q k.told h, ap (λ j. rev_bytes j k.files rev) later.layout ∙ k.follows.bytes rev p.known)

pub record Fresh {B : Type 0} (v w : View B) (m : Files) (rev fresh : ℕ) : Type 0 where
  pub new : Files
  pub told : w.files ≡ Some new
  pub known : IsKnown w.reach rev
  pub floor : floor_in w.layout new ≡ Ok fresh
  pub gone : rev_file w.layout new rev ≡ None
  pub bytes : rev_bytes w.layout new rev ≡ rev_bytes v.layout m rev

still_gone : {A : Type 0} (a b : Option A) → a ≡ None → (b ≡ a) ⊎ (b ≡ None) → b ≡ None
still_gone a b e (inl same) = same ∙ e
still_gone a b e (inr none) = none

pub fresh_floor : {B : Type 0} (v w : View B) (m : Files) (rev fresh : ℕ) → Later v w → IsGoneAt v rev m → IfSome w.files (λ f. refused (floor_in w.layout f) ≡ Ok fresh) → Fresh v w m rev fresh
fresh_floor v w m rev fresh later p h =
    let k = next v w m later p.told in
    let Q : Files → Type 0 = λ f. refused (floor_in w.layout f) ≡ Ok fresh in
    let gone : rev_file v.layout k.files rev ≡ None = still_gone (rev_file v.layout m rev) (rev_file v.layout k.files rev) p.gone (k.follows.own rev p.known) in
    record {
      new = k.files;
      told = k.told;
      known = known_later v.reach w.reach rev later.reach p.known;
      floor = refused_ok _ fresh (told_at w.files k.files Q k.told h);
      gone = ap (λ j. rev_file j k.files rev) later.layout ∙ gone;
      bytes = ap (λ j. rev_bytes j k.files rev) later.layout ∙ k.follows.bytes rev p.known;
    }

pub fresh_packed : {B : Type 0} (v w : View B) (m : Files) (rev fresh : ℕ) (f : Fresh v w m rev fresh) → rev < fresh → (IsPackedAt w None rev f.new) × (packed_bytes w.layout f.new rev ≡ rev_bytes v.layout m rev)
fresh_packed v w m rev fresh f lt =
    let packed : is_packed w.layout f.new rev ≡ true = below_is w.layout f.new rev fresh f.floor ∙ lt-ltb rev fresh lt in
    (record { told = f.told; packed = packed; fits = refl }, sym (bytes_packed w.layout f.new rev packed) ∙ f.bytes)

pub fresh_missing : {B : Type 0} (v w : View B) (m : Files) (rev fresh : ℕ) (f : Fresh v w m rev fresh) → fresh ≤ rev → rev_bytes v.layout m rev ≡ Err (Missing rev)
fresh_missing v w m rev fresh f le = sym f.bytes ∙ bytes_gone w.layout f.new rev fresh f.floor le f.gone

-- what is found, is found in the files that are met later, with the same bytes
pub found_later : {B : Type 0} (v w : View B) (floor : ℕ) (kept : Option KeptManifest) (m : Files) (rev : ℕ) → Later v w → IsFoundAt v floor kept rev m
    → (new : Files) × (IsFoundAt w floor kept rev new) × (rev_bytes w.layout new rev ≡ rev_bytes v.layout m rev)
found_later v w floor kept m rev e p =
    let k = next v w m e p.told in
    let P : Layout → Type 0 = λ n. is_right n k.files floor kept rev ≡ true in (
      k.files,
      record {
        told = k.told;
        known = known_later v.reach w.reach rev e.reach p.known;
        right = subst P (sym e.layout) (right_later v.layout v.reach m k.files floor kept rev k.follows p.known p.right);
      },
      ap (λ j. rev_bytes j k.files rev) e.layout ∙ k.follows.bytes rev p.known,
    )

-- the own file of a revision that is found, where the kept floor is no greater
pub own_right : {B : Type 0} (v : View B) (floor : ℕ) (kept : Option KeptManifest) (m : Files) (rev : ℕ) → floor ≤ rev → IsFoundAt v floor kept rev m → agrees (rev_file v.layout m rev) (rev_bytes v.layout m rev) ≡ true
own_right v floor kept m rev le p = right_above v.layout m floor kept rev le p.right

-- what was read of a file that has the revision's bytes
pub own_some : {X Y : Type 0} (view : X → Y) (F : Result (List ℕ) Refusal → Result Y BookFault) (file : Option (List ℕ)) (read : Result (List ℕ) Refusal) (new : Option Files) (name : List ℕ) (x : X) → agrees file read ≡ true
    → FromFile {X = X} {Y = Y} file new name view (λ bytes. F (Ok bytes)) (Ok (Some x)) → Gives {X = X} {Y = Y} view (Ok x) (F read)
own_some view F file read new name x right h = ap F (own_bytes file h.0 read h.1 right) ∙ h.2

pub own_err : {X Y Z : Type 0} (view : X → Y) (look : Z → Y) (F : Result (List ℕ) Refusal → Result Y BookFault) (file : Option (List ℕ)) (read : Result (List ℕ) Refusal) (new : Option Files) (name : List ℕ) (e : BookFault) → agrees file read ≡ true
    → FromFile {X = X} {Y = Y} file new name view (λ bytes. F (Ok bytes)) (Err e) → Gives {X = Z} {Y = Y} look (Err e) (F read)
own_err view look F file read new name DiskFault right h = tt
own_err view look F file read new name OutOfMemory right h = tt
own_err view look F file read new name (Refused r) right h = absurd h
own_err view look F file read new name (Short r o) right h = ap F (own_bytes file h.0 read h.1 right) ∙ h.2

-- nothing is read of a file that is gone
pub gone_some : {X Y : Type 0} (view : X → Y) (f : List ℕ → Result Y BookFault) (file : Option (List ℕ)) (read : Result Y BookFault) (new : Option Files) (name : List ℕ) (x : X) → file ≡ None
    → FromFile {X = X} {Y = Y} file new name view f (Ok (Some x)) → Gives {X = X} {Y = Y} view (Ok x) read
gone_some view f file read new name x gone h = let no : ◌≡◌ {A = Option (List ℕ)} (Some h.0) None = sym h.1 ∙ gone in cc

pub gone_err : {X Y Z : Type 0} (view : X → Y) (look : Z → Y) (f : List ℕ → Result Y BookFault) (file : Option (List ℕ)) (read : Result Y BookFault) (new : Option Files) (name : List ℕ) (e : BookFault) → file ≡ None
    → FromFile {X = X} {Y = Y} file new name view f (Err e) → Gives {X = Z} {Y = Y} look (Err e) read
gone_err view look f file read new name DiskFault gone h = tt
gone_err view look f file read new name OutOfMemory gone h = tt
gone_err view look f file read new name (Refused r) gone h = absurd h
gone_err view look f file read new name (Short r o) gone h = let no : ◌≡◌ {A = Option (List ℕ)} (Some h.0) None = sym h.1 ∙ gone in cc

-- the own file of a revision whose bytes were read after the floor was
pub fresh_goes : {B : Type 0} (v w : View B) (m : Files) (rev fresh : ℕ) (n : Layout) (name : List ℕ) (f : Fresh v w m rev fresh) → n ≡ w.layout → name ≡ in_folder (codes "db/revs") n rev → MayGo w name (rev_file w.layout f.new rev)
fresh_goes v w m rev fresh n name f e named = own_goes w f.new rev n name f.told f.known e named

-- what is answered of one reading is answered of an equal one
pub gives_at : {X Y A : Type 0} (view : X → Y) (result : Result X BookFault) (F : A → Result Y BookFault) (a b : A) → a ≡ b → Gives {X = X} {Y = Y} view result (F a) → Gives {X = X} {Y = Y} view result (F b)
gives_at view result F a b e h = let P : _ → Type 0 = λ x. Gives view result (F x) in subst P e h

-- a refusal of the floor leaves what is kept
pub finds_same : {B : Type 0} (v w : View B) (f g : ℕ) (k l : Option KeptManifest) → Later v w → g ≡ f → l ≡ k → FindsAsWell v f k w g l
finds_same v w f g k l e same_floor same_kept =
    let P : ℕ → Type 0 = λ n. FindsAsWell v f k w n l in
    let Q : Option KeptManifest → Type 0 = λ o. FindsAsWell v f k w f o in
    subst P (sym same_floor) (subst Q (sym same_kept) (finds_later v w f k e))

-- the floor that was read, with no manifest
pub finds_read : {B : Type 0} (v w : View B) (floor fresh : ℕ) (kept left : Option KeptManifest) → Later v w → IfSome w.files (λ m. refused (floor_in w.layout m) ≡ Ok fresh) → left ≡ None → FindsAsWell v floor kept w fresh left
finds_read v w floor fresh kept left e read none = let P : Option KeptManifest → Type 0 = λ o. FindsAsWell v floor kept w fresh o in subst P (sym none) (finds_fresh v w floor fresh kept e read)

-- and a packed revision is found by it
pub fresh_found : {B : Type 0} (v w : View B) (m : Files) (rev fresh : ℕ) (left : Option KeptManifest) (f : Fresh v w m rev fresh) → rev < fresh → left ≡ None → (IsPackedAt w left rev f.new) × (packed_bytes w.layout f.new rev ≡ rev_bytes v.layout m rev)
fresh_found v w m rev fresh left f lt none =
    let p = fresh_packed v w m rev fresh f lt in
    let P : Option KeptManifest → Type 0 = λ o. IsPackedAt w o rev f.new in
    (subst P (sym none) p.0, p.1)
