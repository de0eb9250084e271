-- Where a file comes from that has a name after a change.
use Rattle.std.proofs.Common.{◌≡◌, ◌⊎◌, ℕ, List, [], ◌∷◌, Bool, true, false, cond, inl, inr, ⊎_elim, refl, sym, ap, ◌∙◌, arith}
use Rattle.std.proofs.lemmas.Bool.{and_parts, and_from, eqb-true, eq-eqb, not_from_false}
use Rattle.std.proofs.lemmas.List.{append_assoc}
use Rattle.std.proofs.lemmas.Option.{same_Some, none-some}
use Rattle.std.specs.Prelude.{◌<◌, ◌≤◌, ◌++◌, ◌==◌, ◌||◌, ◌&&◌, not, if◌then◌else◌, length, Option, Some, None}
use Rattle.fsfs_base.specs.Files.{NamedFile, same_text}
use Rattle.fsfs_folders.specs.System.Paths.{is_below}
use Rattle.fsfs_folders.specs.System.CallRecord.{NameCall, MakeFolder, DropFolder, Create, Take, Rename, Remove, Call, Named, Beginning, Standing, given, first_number, renamed_by, file_count, are_there, is_reachable}
use Rattle.fsfs_folders.proofs.PathLemmas.{same_itself, or_right}
use Rattle.fsfs_folders.specs.SameText.{text_cases}

pub given_at : (path : List ℕ) (file : Option ℕ) (files : List ℕ → Option ℕ) → given path file files path ≡ file
given_at path file files = ap (λ b. cond b file (files path)) (same_itself path)

pub given_apart : (path : List ℕ) (file : Option ℕ) (files : List ℕ → Option ℕ) (q : List ℕ) → same_text q path ≡ false → given path file files q ≡ files q
given_apart path file files q apart = ap (λ b. cond b file (files q)) apart

pub given_from : (path : List ℕ) (file : Option ℕ) (files : List ℕ → Option ℕ) (q : List ℕ) (k : ℕ)
    → given path file files q ≡ Some k → ((q ≡ path) × (file ≡ Some k)) ⊎ (files q ≡ Some k)
given_from path file files q k e =
    ⊎_elim (λ s. inl (s.0, sym (ap (λ b. cond b file (files q)) s.1) ∙ e)) (λ o. inr (sym (given_apart path file files q o.1) ∙ e)) (text_cases q path)

-- the change gave this name this file
abbrev pub Comes : NameCall → ℕ → Standing → List ℕ → ℕ → Type 0
Comes (MakeFolder path) number now q k = ⊥
Comes (DropFolder path) number now q k = ⊥
Comes (Create path) number now q k = (q ≡ path) × (k ≡ number)
Comes (Take path contents) number now q k = (q ≡ path) × (k ≡ number)
Comes (Rename from to) number now q k = (q ≡ to) × (now.files from ≡ Some k)
Comes (Remove path) number now q k = ⊥

pub comes_from : (change : NameCall) (number : ℕ) (now was : Standing) (q : List ℕ) (k : ℕ)
    → (renamed_by change number now was).files q ≡ Some k → (was.files q ≡ Some k) ⊎ Comes change number now q k
comes_from (MakeFolder path) number now was q k e = inl e
comes_from (DropFolder path) number now was q k e = inl e
comes_from (Create path) number now was q k e =
    ⊎_elim (λ s. inr (s.0, sym (same_Some number k s.1))) (λ o. inl o) (given_from path (Some number) was.files q k e)
comes_from (Take path contents) number now was q k e =
    ⊎_elim (λ s. inr (s.0, sym (same_Some number k s.1))) (λ o. inl o) (given_from path (Some number) was.files q k e)
comes_from (Rename from to) number now was q k e =
    ⊎_elim (λ s. inr s) (λ o. ⊎_elim (λ n. absurd (none-some k n.1)) (λ w. inl w) (given_from from None was.files q k o))
    (given_from to (now.files from) (given from None was.files) q k e)
comes_from (Remove path) number now was q k e =
    ⊎_elim (λ n. absurd (none-some k n.1)) (λ w. inl w) (given_from path None was.files q k e)

-- there are no fewer files after a change
pub count_more : (first : Beginning) (calls : List Call) (change : NameCall) → file_count first calls ≤ file_count first (Named change ∷ calls)
count_more first calls (MakeFolder path) = omega arith
count_more first calls (DropFolder path) = omega arith
count_more first calls (Create path) = omega arith
count_more first calls (Take path contents) = omega arith
count_more first calls (Rename from to) = omega arith
count_more first calls (Remove path) = omega arith

-- a file that comes has one of the numbers so far
pub comes_within : (first : Beginning) (calls : List Call) (change : NameCall) (now : Standing) (q : List ℕ) (k : ℕ)
    → ((p : List ℕ) → now.files p ≡ Some k → k < file_count first calls) → Comes change (file_count first calls) now q k → k < file_count first (Named change ∷ calls)
comes_within first calls (MakeFolder path) now q k before comes = absurd comes
comes_within first calls (DropFolder path) now q k before comes = absurd comes
comes_within first calls (Create path) now q k before comes = omega (arith, comes.1)
comes_within first calls (Take path contents) now q k before comes = omega (arith, comes.1)
comes_within first calls (Rename from to) now q k before comes = before from comes.1
comes_within first calls (Remove path) now q k before comes = absurd comes

pub first_within : (files : List NamedFile) (q : List ℕ) (k : ℕ) → first_number files q ≡ Some k → k < length files
first_within [] q k e = absurd (none-some k e)
first_within (file ∷ files) q k e = ⊎_elim (λ s. at_head (sym (ap (λ b. cond b (Some (length files)) (first_number files q)) s.1) ∙ e)) (λ o. omega (arith, first_within files q k (sym (ap (λ b. cond b (Some (length files)) (first_number files q)) o.1) ∙ e))) (text_cases q file.0)
  where
    at_head : Some (length files) ≡ Some k → k < length (file ∷ files)
    at_head h = let n : length files ≡ k = same_Some (length files) k h in omega (arith, n)

-- what follows a slash is below what stands before it
pub below_slash : (path cs : List ℕ) → is_below path (path ++ 47 ∷ cs) ≡ true
below_slash [] cs = refl
below_slash (p ∷ ps) cs = and_from (p == p) (is_below ps (ps ++ 47 ∷ cs)) (eq-eqb p p refl) (below_slash ps cs)

module _ (folders more : List ℕ → Bool) (q : List ℕ) (still : (p : List ℕ) → is_below p q ≡ true → folders p ≡ true → more p ≡ true) where
  there_still : (before rest : List ℕ) → before ++ rest ≡ q → are_there folders before rest ≡ true → are_there more before rest ≡ true
  there_still before [] whole e = refl
  there_still before (c ∷ cs) whole e =
      let parts : ((if c == 47 then folders before else true) ≡ true) × (are_there folders (before ++ c ∷ []) cs ≡ true) = and_parts (if c == 47 then folders before else true) (are_there folders (before ++ c ∷ []) cs) e in
      and_from (if c == 47 then more before else true) (are_there more (before ++ c ∷ []) cs) (at_slash (c == 47) refl parts.0)
      (there_still (before ++ c ∷ []) cs (append_assoc before (c ∷ []) cs ∙ whole) parts.1)
    where
      at_slash : (b : Bool) → (c == 47) ≡ b → (if b then folders before else true) ≡ true → (if b then more before else true) ≡ true
      at_slash true slash h = still before (sym (ap (λ p. is_below before p) (ap (λ d. before ++ d ∷ cs) (sym (eqb-true c 47 slash)) ∙ whole)) ∙ below_slash before cs) h
      at_slash false slash h = refl

  -- a path is reachable still where each folder above it is still there
  pub reachable_still : (folders [] ≡ true → more [] ≡ true) → is_reachable folders q ≡ true → is_reachable more q ≡ true
  reachable_still root e =
      let parts : (folders [] ≡ true) × (are_there folders [] q ≡ true) = and_parts (folders []) (are_there folders [] q) e in
      and_from (more []) (are_there more [] q) (root parts.0) (there_still [] q refl parts.1)

pub reachable_with : (made : List ℕ) (folders : List ℕ → Bool) (path : List ℕ) → is_reachable folders path ≡ true → is_reachable (λ p. same_text p made || folders p) path ≡ true
reachable_with made folders path e =
    reachable_still folders (λ p. same_text p made || folders p) path (λ p below h. or_right (same_text p made) (folders p) h) (λ h. or_right (same_text [] made) (folders []) h) e

-- what isn't below a folder is reachable without it
pub reachable_without : (gone : List ℕ) (folders : List ℕ → Bool) (path : List ℕ) → same_text [] gone ≡ false → is_below gone path ≡ false
    → is_reachable folders path ≡ true → is_reachable (λ p. not (same_text p gone) && folders p) path ≡ true
reachable_without gone folders path other apart e =
    reachable_still folders (λ p. not (same_text p gone) && folders p) path
    (λ p below h. and_from (not (same_text p gone)) (folders p)
    (⊎_elim (λ s. let f : true ≡ false = sym below ∙ ap (λ x. is_below x path) s.0 ∙ apart in cc) (λ o. not_from_false (same_text p gone) o.1) (text_cases p gone)) h)
    (λ h. and_from (not (same_text [] gone)) (folders []) (not_from_false (same_text [] gone) other) h) e
