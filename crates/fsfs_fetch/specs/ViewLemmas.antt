-- Views follow one another.
use Rattle.std.proofs.Common.{◌≡◌, ◌≤◌, ℕ, List, Option, Some, None, refl, sym, subst, ◌∙◌, inl, inr, arith}
use Rattle.std.specs.Prelude.{IfSome, IfErr, Result, Ok, Err, ◌⊎◌}
use Rattle.fsfs_revision.specs.declared.book.BookFault.{BookFault}
use Rattle.fsfs_revision.specs.declared.book.BookFault.TheVariants.{Refused, Short, DiskFault, OutOfMemory}
use Rattle.fsfs_base.specs.Counts.{Rose}
use Rattle.fsfs_revision.specs.Told.{HasCause, IfDisk}
use Rattle.std.specs.FinMap as map
use Rattle.fsfs_base.specs.Files.{Files}
use Rattle.fsfs_layout.specs.declared.layout.Layout.{Layout}
use Rattle.fsfs_fetch.specs.Views.{Reach, Ends, Grows, IsKnown, Extends, View, Follows, FilesLater, Later}
use Rattle.fsfs_fetch.specs.Answers.{Stays, MayGo}

pub extends_same : (reach : Reach) → Extends reach reach
extends_same (Ends y) = refl
extends_same (Grows n) = omega arith

pub extends_more : (a b c : Reach) → Extends a b → Extends b c → Extends a c
extends_more (Ends y) b c e f = let P : Reach → Type 0 = λ r. Extends r c in subst P e f
extends_more (Grows k) (Ends y) c e f = let P : Reach → Type 0 = λ r. Extends (Grows k) r in subst P (sym f) e
extends_more (Grows k) (Grows n) (Ends y) e f = omega arith
extends_more (Grows k) (Grows n) (Grows p) e f = omega arith

-- a revision that is known stays known
pub known_later : (a b : Reach) (rev : ℕ) → Extends a b → IsKnown a rev → IsKnown b rev
known_later (Ends y) b rev e k = let P : Reach → Type 0 = λ r. IsKnown r rev in subst P (sym e) k
known_later (Grows n) (Ends y) rev e k = omega arith
known_later (Grows n) (Grows p) rev e k = omega arith

pub follows_same : (n : Layout) (reach : Reach) (m : Files) → Follows n reach m m
follows_same n reach m = record {
  bytes = λ rev known. refl;
  packed = λ rev is. is;
  manifest = λ rev is. refl;
  pack = λ rev is. refl;
  own = λ rev known. inl refl;
}

own_more : {A : Type 0} (a b c : Option A) → (b ≡ a) ⊎ (b ≡ None) → (c ≡ b) ⊎ (c ≡ None) → (c ≡ a) ⊎ (c ≡ None)
own_more a b c (inl p) (inl q) = inl (q ∙ p)
own_more a b c (inr p) (inl q) = inr (q ∙ p)
own_more a b c p (inr q) = inr q

pub follows_more : (n : Layout) (r s : Reach) (a b c : Files) → Extends r s → Follows n r a b → Follows n s b c → Follows n r a c
follows_more n r s a b c e f g = record {
  bytes = λ rev known. g.bytes rev (known_later r s rev e known) ∙ f.bytes rev known;
  packed = λ rev is. g.packed rev (f.packed rev is);
  manifest = λ rev is. g.manifest rev (f.packed rev is) ∙ f.manifest rev is;
  pack = λ rev is. g.pack rev (f.packed rev is) ∙ f.pack rev is;
  own = λ rev known. own_more _ _ _ (f.own rev known) (g.own rev (known_later r s rev e known));
}

files_same : (n : Layout) (reach : Reach) (files : Option Files) → FilesLater n reach files files
files_same n reach None = tt
files_same n reach (Some m) = follows_same n reach m

files_more : (n : Layout) (r s : Reach) (a b c : Option Files) → Extends r s → FilesLater n r a b → FilesLater n s b c → FilesLater n r a c
files_more n r s None b c e f g = tt
files_more n r s (Some a) None c e f g = absurd f
files_more n r s (Some a) (Some b) None e f g = absurd g
files_more n r s (Some a) (Some b) (Some c) e f g = follows_more n r s a b c e f g

pub later_same : {B : Type 0} (v : View B) → Later v v
later_same v = record { layout = refl; reach = extends_same v.reach; files = files_same v.layout v.reach v.files; below = refl }

pub later_more : {B : Type 0} (u v w : View B) → Later u v → Later v w → Later u w
later_more u v w e f =
    let P : Layout → Type 0 = λ n. FilesLater n v.reach v.files w.files in
    record {
      layout = f.layout ∙ e.layout;
      reach = extends_more u.reach v.reach w.reach e.reach f.reach;
      files = files_more u.layout u.reach v.reach u.files v.files w.files e.reach e.files (subst P e.layout f.files);
      below = f.below ∙ e.below;
    }

-- the files that are met later, where they are told now
pub record Next {B : Type 0} (v w : View B) (m : Files) : Type 0 where
  pub files : Files
  pub told : w.files ≡ Some files
  pub follows : Follows v.layout v.reach m files

next_files : (n : Layout) (reach : Reach) (a : Files) (b : Option Files) → FilesLater n reach (Some a) b → (m : Files) × (b ≡ Some m) × Follows n reach a m
next_files n reach a None f = absurd f
next_files n reach a (Some b) f = (b, refl, f)

pub next : {B : Type 0} (v w : View B) (m : Files) → Later v w → v.files ≡ Some m → Next v w m
next v w m e told =
    let P : Option Files → Type 0 = λ o. FilesLater v.layout v.reach o w.files in
    let p = next_files v.layout v.reach m w.files (subst P told e.files) in
    record { files = p.0; told = p.1; follows = p.2 }

pub told_at : (files : Option Files) (m : Files) (P : Files → Type 0) → files ≡ Some m → IfSome files P → P m
told_at files m P e h = let Q : Option Files → Type 0 = λ o. IfSome o P in subst Q e h

-- what stays, stays later
pub stays_later : {B : Type 0} (v w : View B) (name : List ℕ) (file : Option (List ℕ)) → Later v w → Stays v name file → Stays w name file
stays_later v w name file e s =
    let n = next v w s.now e s.told in
    let P : Layout → Files → Type 0 = λ k new. Follows k w.reach n.files new in
    record {
      now = n.files;
      told = n.told;
      later = λ new f. s.later new (follows_more v.layout v.reach w.reach s.now n.files new e.reach n.follows (let Q : Layout → Type 0 = λ k. P k new in subst Q e.layout f));
    }

pub stays_now : {B : Type 0} (v : View B) (name : List ℕ) (file : Option (List ℕ)) → (s : Stays v name file) → map.get s.now name ≡ file
stays_now v name file s = s.later s.now (follows_same v.layout v.reach s.now)

pub goes_later : {B : Type 0} (v w : View B) (name : List ℕ) (file : Option (List ℕ)) → Later v w → MayGo v name file → MayGo w name file
goes_later v w name file e s =
    let n = next v w s.now e s.told in
    record {
      now = n.files;
      told = n.told;
      later = λ new f. s.later new (follows_more v.layout v.reach w.reach s.now n.files new e.reach n.follows (let Q : Layout → Type 0 = λ k. Follows k w.reach n.files new in subst Q e.layout f));
    }

pub goes_now : {B : Type 0} (v : View B) (name : List ℕ) (file : Option (List ℕ)) → (s : MayGo v name file) → (map.get s.now name ≡ file) ⊎ (map.get s.now name ≡ None)
goes_now v name file s = s.later s.now (follows_same v.layout v.reach s.now)

-- ---- counts of faults

cause_err : (a b c : ℕ) (fault : BookFault) → a ≤ b → IfDisk fault (Rose b c) → IfDisk fault (Rose a c)
cause_err a b c DiskFault le h = omega arith
cause_err a b c OutOfMemory le h = tt
cause_err a b c (Refused r) le h = tt
cause_err a b c (Short r o) le h = tt

cause_of : {T : Type 0} (a b c : ℕ) (result : Result T BookFault) → a ≤ b → IfErr result (λ fault. IfDisk fault (Rose b c)) → IfErr result (λ fault. IfDisk fault (Rose a c))
cause_of a b c (Ok x) le h = tt
cause_of a b c (Err fault) le h = cause_err a b c fault le h

pub cause_from : {T : Type 0} (a b c : ℕ) (result : Result T BookFault) → a ≤ b → HasCause b c result → HasCause a c result
cause_from a b c result le h = record { later = omega (arith, le, h.later); failed = cause_of a b c result le h.failed }
