-- What a bench tells of which one file stands elsewhere, after a call on that file or on another.
use Rattle.std.proofs.Common.{◌≡◌, ◌⊎◌, ℕ, List, [], ◌∷◌, ◌++◌, Bool, true, false, cond, inl, inr, ⊎_elim, refl, sym, ap, subst, ◌∙◌}
use Rattle.std.proofs.lemmas.Option.{same_Some, none-some}
use Rattle.std.specs.Prelude.{◌||◌, length, is_some, Option, Some, None, option_map, unwrap_or, IfSome, Result, Ok, Err, OnOk, OnErr, IfOk}
use Rattle.std.specs.Cmp.Lexicographic.{nat_list_cmp_total}
use Rattle.std.specs.FinMap.{get, insert, empty, get-empty}
use Rattle.fsfs_base.specs.Files.{Files, same_text}
use Rattle.fsfs_base.proofs.FileLemmas.{same_files, same_is}
use Rattle.fsfs_disk.specs.Benches.{with_file, appended, written, removed, bytes_in, bytes_on, Spoils, IsFirmFile}
use Rattle.fsfs_disk.specs.Trace.{Trace, Adopt, Performs, FailsToAdopt}
use Rattle.fsfs_disk.proofs.BenchLemmas.{get-appended}
use Rattle.fsfs_folders.specs.System.Paths.{has_path}
use Rattle.fsfs_folders.specs.System.CallRecord.{CallRecord}
use Rattle.fsfs_folders.proofs.PathLemmas.{same_itself}
use Rattle.fsfs_folders.specs.SameText.{text_cases}
use Rattle.fsfs_folders.specs.BenchFiles.{file_held, bytes_of, bench_told, firm_held}
use Rattle.fsfs_folders.specs.Prototypes.{proto_name, is_elsewhere, elsewhere, with_proto, firm_with_proto, whole_told, whole_firm}
use Rattle.fsfs_folders.specs.Standing.{told}
use Rattle.fsfs_folders.specs.Laws.{get_with}
use Rattle.fsfs_folders.proofs.HeldFiles.{files_told}

-- a file that was given something twice has the second
with_again : (m : Files) (k : List ℕ) (x y : Option (List ℕ)) → with_file k x (with_file k y m) ≡ with_file k x m
with_again m k x y = same_files (with_file k x (with_file k y m)) (with_file k x m) (λ q.
    get_with (with_file k y m) k x q ∙ ap (λ o. cond (same_text q k) x o) (get_with m k y q) ∙ twice (same_text q k) (get m q) ∙ sym (get_with m k x q))
  where
    twice : (b : Bool) (z : Option (List ℕ)) → cond b x (cond b y z) ≡ cond b x z
    twice true z = refl
    twice false z = refl

-- two files are changed in either order
with_swapped : (m : Files) (k l : List ℕ) (x y : Option (List ℕ)) → same_text k l ≡ false → with_file k x (with_file l y m) ≡ with_file l y (with_file k x m)
with_swapped m k l x y apart = same_files (with_file k x (with_file l y m)) (with_file l y (with_file k x m)) (λ q.
    get_with (with_file l y m) k x q ∙ ap (λ o. cond (same_text q k) x o) (get_with m l y q)
    ∙ swapped (same_text q k) (same_text q l) (get m q) (λ a b. both q a b)
    ∙ sym (get_with (with_file k x m) l y q ∙ ap (λ o. cond (same_text q l) y o) (get_with m k x q)))
  where
    swapped : (a b : Bool) (z : Option (List ℕ)) → (a ≡ true → b ≡ true → ⊥) → cond a x (cond b y z) ≡ cond b y (cond a x z)
    swapped true true z apart = absurd (apart refl refl)
    swapped true false z apart = refl
    swapped false b z apart = refl

    both : (q : List ℕ) → same_text q k ≡ true → same_text q l ≡ true → ⊥
    both q a b = let h : true ≡ false = sym (same_itself l) ∙ ap (λ t. same_text t l) (sym (same_is q l b) ∙ same_is q k a) ∙ apart in cc

here_is : (m : Files) (y : Option (List ℕ)) → get (with_file proto_name y m) proto_name ≡ y
here_is m y = get_with m proto_name y proto_name ∙ ap (λ b. cond b y (get m proto_name)) (same_itself proto_name)

there_is : (n : Files) (name : List ℕ) (x : Option (List ℕ)) → get (with_file name x n) name ≡ x
there_is n name x = get_with n name x name ∙ ap (λ b. cond b x (get n name)) (same_itself name)

-- ---- a call on the file that stands elsewhere, under this name there

abbrev There : Type 0
There = Option (Option Files × List ℕ)

put_own : (x : Option (List ℕ)) (name : List ℕ) (m n : Option Files) → with_proto m (Some (option_map (with_file name x) n, name)) ≡ option_map (with_file proto_name x) (with_proto m (Some (n, name)))
put_own x name None n = refl
put_own x name (Some m) None = refl
put_own x name (Some m) (Some n) = ap {B = Option Files} (λ k. Some k) (ap (λ o. with_file proto_name o m) (there_is n name x) ∙ sym (with_again m proto_name x (get n name)))

append_own : (bytes name : List ℕ) (m n : Option Files) → with_proto m (Some (option_map (appended name bytes) n, name)) ≡ option_map (appended proto_name bytes) (with_proto m (Some (n, name)))
append_own bytes name None n = refl
append_own bytes name (Some m) None = refl
append_own bytes name (Some m) (Some n) =
    let was : Files = with_file proto_name (get n name) m in
    ap {B = Option Files} (λ k. Some k)
    (ap (λ o. with_file proto_name o m) (get-appended n name bytes)
    ∙ sym (with_again m proto_name (Some (bytes_in n name ++ bytes)) (get n name))
    ∙ ap (λ (o : Option (List ℕ)). insert was proto_name (unwrap_or o [] ++ bytes)) (sym (here_is m (get n name))))

module _ (name file : List ℕ) (m n : Option Files) (old : There) (is : old ≡ Some (n, name)) (here : file ≡ proto_name) where
  own : (P : List ℕ → There → Type 0) → P proto_name (Some (n, name)) → P file old
  own P h = subst (λ f. P f old) (sym here) (subst (λ o. P proto_name o) (sym is) h)

  pub own_with : (x : Option (List ℕ)) (new : Option Files) → new ≡ option_map (with_file name x) n → with_proto m (Some (new, name)) ≡ option_map (with_file file x) (with_proto m old)
  own_with x new e = ap (λ k. with_proto m (Some (k, name))) e ∙ own (λ f o. with_proto m (Some (option_map (with_file name x) n, name)) ≡ option_map (with_file f x) (with_proto m o)) (put_own x name m n)

  pub own_appended : (bytes : List ℕ) (new : Option Files) → new ≡ option_map (appended name bytes) n → with_proto m (Some (new, name)) ≡ option_map (appended file bytes) (with_proto m old)
  own_appended bytes new e = ap (λ k. with_proto m (Some (k, name))) e ∙ own (λ f o. with_proto m (Some (option_map (appended name bytes) n, name)) ≡ option_map (appended f bytes) (with_proto m o)) (append_own bytes name m n)

  pub own_same : (new : Option Files) → new ≡ n → with_proto m (Some (new, name)) ≡ with_proto m old
  own_same new e = ap (λ k. with_proto m (Some (k, name))) e ∙ sym (ap (λ o. with_proto m o) is)

  pub own_spoils : (new : Option Files) → Spoils name n new → Spoils file (with_proto m old) (with_proto m (Some (new, name)))
  own_spoils new spoils = ⊎_elim (λ s. inl (own_same new s)) (λ w. inr (w.0, own_with w.0 new w.1)) spoils

  pub own_get : (P : Option (List ℕ) → Type 0) → IfSome n (λ k. P (get k name)) → IfSome (with_proto m old) (λ k. P (get k file))
  own_get P h = own (λ f o. IfSome (with_proto m o) (λ k. P (get k f))) (found m n h)
    where
      found : (a b : Option Files) → IfSome b (λ k. P (get k name)) → IfSome (with_proto a (Some (b, name))) (λ k. P (get k proto_name))
      found None b h = tt
      found (Some a) None h = tt
      found (Some a) (Some b) h = subst P (sym (here_is a (get b name))) h

  pub own_bytes : is_some m ≡ is_some n → bytes_on (with_proto m old) file ≡ bytes_on n name
  own_bytes tells = own (λ f o. bytes_on (with_proto m o) f ≡ bytes_on n name) (found m n tells)
    where
      found : (a b : Option Files) → is_some a ≡ is_some b → bytes_on (with_proto a (Some (b, name))) proto_name ≡ bytes_on b name
      found None None e = refl
      found None (Some b) e = let h : false ≡ true = e in cc
      found (Some a) None e = refl
      found (Some a) (Some b) e = ap (λ o. unwrap_or o []) (here_is a (get b name))

  pub own_is_firm : is_some m ≡ is_some n → (firm : ℕ) → IsFirmFile (with_proto m old) firm file → IsFirmFile n firm name
  own_is_firm tells firm whole = found m n tells (subst (λ f. IsFirmFile (with_proto m (Some (n, name))) firm f) here (subst (λ o. IsFirmFile (with_proto m o) firm file) is whole))
    where
      found : (a b : Option Files) → is_some a ≡ is_some b → IsFirmFile (with_proto a (Some (b, name))) firm proto_name → IsFirmFile b firm name
      found a None e w = tt
      found None (Some b) e w = let h : false ≡ true = e in cc
      found (Some a) (Some b) e w = (w.0, sym (here_is a (get b name)) ∙ w.1, w.2)

-- how far it is firm
abbrev Firm : Type 0
Firm = Option ((List ℕ → ℕ) × List ℕ)

pub own_firm : (here_firm there_firm : List ℕ → ℕ) (name file : List ℕ) → file ≡ proto_name → firm_with_proto here_firm (Some (there_firm, name)) file ≡ there_firm name
own_firm here_firm there_firm name file here = ap (λ b. cond b (there_firm name) (here_firm file)) (ap (λ f. same_text f proto_name) here ∙ same_itself proto_name)

pub own_others : (here_firm there_firm new_firm : List ℕ → ℕ) (name file : List ℕ) (old : Firm) → old ≡ Some (there_firm, name) → file ≡ proto_name
    → (q : List ℕ) → (q ≡ file → ⊥) → firm_with_proto here_firm (Some (new_firm, name)) q ≡ firm_with_proto here_firm old q
own_others here_firm there_firm new_firm name file old is here q other =
    ⊎_elim (λ s. absurd (other (s.0 ∙ sym here)))
    (λ o. ap (λ b. cond b (new_firm name) (here_firm q)) o.1 ∙ sym (ap (λ b. cond b (there_firm name) (here_firm q)) o.1) ∙ sym (ap (λ (o : Firm). firm_with_proto here_firm o q) is)) (text_cases q proto_name)

-- ---- a call on another

pub apart_there : {A B : Type 0} (there : Option A) (said : A → B) (name_of : A → List ℕ) (file : List ℕ) → is_elsewhere there file ≡ false → is_elsewhere (elsewhere there said name_of) file ≡ false
apart_there None said name_of file other = refl
apart_there (Some a) said name_of file other = other

put_rest : (file : List ℕ) (x : Option (List ℕ)) (m : Option Files) (there : There) → is_elsewhere there file ≡ false → with_proto (option_map (with_file file x) m) there ≡ option_map (with_file file x) (with_proto m there)
put_rest file x None there other = refl
put_rest file x (Some m) None other = refl
put_rest file x (Some m) (Some there) other = by_told there.0
  where
    by_told : (o : Option Files) → option_map (λ n. with_file proto_name (get n there.1) (with_file file x m)) o ≡ option_map (with_file file x) (option_map (λ n. with_file proto_name (get n there.1) m) o)
    by_told None = refl
    by_told (Some n) = ap {B = Option Files} (λ k. Some k) (sym (with_swapped m file proto_name x (get n there.1) other))

module _ (file : List ℕ) (m : Option Files) (there : There) (other : is_elsewhere there file ≡ false) where
  pub rest_with : (x : Option (List ℕ)) (new : Option Files) → new ≡ option_map (with_file file x) m → with_proto new there ≡ option_map (with_file file x) (with_proto m there)
  rest_with x new e = ap (λ k. with_proto k there) e ∙ put_rest file x m there other

  get_rest : (a : Files) (o : Option Files) (name : List ℕ) → same_text file proto_name ≡ false → (P : Option (List ℕ) → Type 0) → P (get a file) → IfSome (option_map (λ n. with_file proto_name (get n name) a) o) (λ k. P (get k file))
  get_rest a None name apart P h = tt
  get_rest a (Some n) name apart P h = subst P (sym (get_with a proto_name (get n name) file ∙ ap (λ b. cond b (get n name) (get a file)) apart)) h

  pub rest_appended : (bytes : List ℕ) (new : Option Files) → new ≡ option_map (appended file bytes) m → with_proto new there ≡ option_map (appended file bytes) (with_proto m there)
  rest_appended bytes new e = ap (λ k. with_proto k there) e ∙ append_rest m there other
    where
      more : (a : Files) (o : Option Files) (name : List ℕ) → same_text file proto_name ≡ false → option_map (λ n. with_file proto_name (get n name) (appended file bytes a)) o ≡ option_map (appended file bytes) (option_map (λ n. with_file proto_name (get n name) a) o)
      more a None name apart = refl
      more a (Some n) name apart =
          let was : Files = with_file proto_name (get n name) a in
          ap {B = Option Files} (λ k. Some k) (sym (with_swapped a file proto_name (Some (bytes_in a file ++ bytes)) (get n name) apart)
          ∙ ap (λ (o : Option (List ℕ)). insert was file (unwrap_or o [] ++ bytes)) (sym (get_with a proto_name (get n name) file ∙ ap (λ b. cond b (get n name) (get a file)) apart)))

      append_rest : (o : Option Files) (t : There) → is_elsewhere t file ≡ false → with_proto (option_map (appended file bytes) o) t ≡ option_map (appended file bytes) (with_proto o t)
      append_rest None t apart = refl
      append_rest (Some a) None apart = refl
      append_rest (Some a) (Some t) apart = more a t.0 t.1 apart

  pub rest_spoils : (new : Option Files) → Spoils file m new → Spoils file (with_proto m there) (with_proto new there)
  rest_spoils new spoils = ⊎_elim (λ s. inl (ap (λ k. with_proto k there) s)) (λ w. inr (w.0, rest_with w.0 new w.1)) spoils

  pub rest_get : (P : Option (List ℕ) → Type 0) → IfSome m (λ k. P (get k file)) → IfSome (with_proto m there) (λ k. P (get k file))
  rest_get P h = found m there other h
    where
      found : (o : Option Files) (t : There) → is_elsewhere t file ≡ false → IfSome o (λ k. P (get k file)) → IfSome (with_proto o t) (λ k. P (get k file))
      found None t apart h = tt
      found (Some a) None apart h = h
      found (Some a) (Some t) apart h = get_rest a t.0 t.1 apart P h

-- a bench tells as its part elsewhere does
abbrev pub AllTell : Option Files → There → Type 0
AllTell m there = (t : Option Files × List ℕ) → there ≡ Some t → is_some m ≡ is_some t.0

module _ (file : List ℕ) (m : Option Files) (there : There) (other : is_elsewhere there file ≡ false) (tells : AllTell m there) where
  pub rest_bytes : bytes_on (with_proto m there) file ≡ bytes_on m file
  rest_bytes = found m there other tells
    where
      of : (a : Files) (o : Option Files) (name : List ℕ) → same_text file proto_name ≡ false → true ≡ is_some o → bytes_on (option_map (λ n. with_file proto_name (get n name) a) o) file ≡ bytes_in a file
      of a None name apart same = let h : true ≡ false = same in cc
      of a (Some n) name apart same = ap (λ o. unwrap_or o []) (get_with a proto_name (get n name) file ∙ ap (λ b. cond b (get n name) (get a file)) apart)

      found : (o : Option Files) (t : There) → is_elsewhere t file ≡ false → AllTell o t → bytes_on (with_proto o t) file ≡ bytes_on o file
      found None t apart same = refl
      found (Some a) None apart same = refl
      found (Some a) (Some t) apart same = of a t.0 t.1 apart (same t refl)

  pub rest_is_firm : (firm : ℕ) → IsFirmFile (with_proto m there) firm file → IsFirmFile m firm file
  rest_is_firm firm whole = found m there other tells whole
    where
      of : (a : Files) (o : Option Files) (name : List ℕ) → same_text file proto_name ≡ false → true ≡ is_some o → IsFirmFile (option_map (λ n. with_file proto_name (get n name) a) o) firm file → IsFirmFile (Some a) firm file
      of a None name apart same w = let h : true ≡ false = same in cc
      of a (Some n) name apart same w = (w.0, sym (get_with a proto_name (get n name) file ∙ ap (λ b. cond b (get n name) (get a file)) apart) ∙ w.1, w.2)

      found : (o : Option Files) (t : There) → is_elsewhere t file ≡ false → AllTell o t → IsFirmFile (with_proto o t) firm file → IsFirmFile o firm file
      found None t apart same w = tt
      found (Some a) None apart same w = w
      found (Some a) (Some t) apart same w = of a t.0 t.1 apart (same t refl) w

pub rest_firm : (here_firm : List ℕ → ℕ) (there : Firm) (file : List ℕ) → is_elsewhere there file ≡ false → firm_with_proto here_firm there file ≡ here_firm file
rest_firm here_firm None file other = refl
rest_firm here_firm (Some t) file other = ap (λ b. cond b (t.0 t.1) (here_firm file)) other

pub rest_others : (here_firm new_firm : List ℕ → ℕ) (there : Firm) (file : List ℕ) → ((q : List ℕ) → (q ≡ file → ⊥) → new_firm q ≡ here_firm q) → (q : List ℕ) → (q ≡ file → ⊥) → firm_with_proto new_firm there q ≡ firm_with_proto here_firm there q
rest_others here_firm new_firm None file same q other = same q other
rest_others here_firm new_firm (Some t) file same q other = ap (λ n. cond (same_text q proto_name) (t.0 t.1) n) (same q other)

-- ---- a new bench

pub all_tell_by : {A : Type 0} (there : Option A) (said : A → Option Files) (name_of : A → List ℕ) (m : Option Files) → ((a : A) → is_some m ≡ is_some (said a)) → AllTell m (elsewhere there said name_of)
all_tell_by None said name_of m same t e = absurd (none-some t e)
all_tell_by (Some a) said name_of m same t e = same a ∙ ap (λ (p : Option Files × List ℕ). is_some p.0) (same_Some (said a, name_of a) t e)

-- no file is there, and none of that name elsewhere
pub new_whole : {A : Type 0} (there : Option A) (calls_of : A → Option CallRecord) (name_of : A → List ℕ) (here old : Option CallRecord) → bench_told here ≡ option_map (λ _. empty) (told old)
    → IfSome there (λ a. IfSome (calls_of a) (λ r. file_held r (name_of a) ≡ None)) → ((a : A) → is_some (calls_of a) ≡ is_some old)
    → whole_told there calls_of name_of here ≡ option_map (λ _. empty) (told old)
new_whole None calls_of name_of here old e none same = alone (bench_told here) ∙ e
  where
    alone : (m : Option Files) → with_proto m None ≡ m
    alone None = refl
    alone (Some m) = refl
new_whole (Some a) calls_of name_of here old e none same = ap (λ m. with_proto m (Some (bench_told (calls_of a), name_of a))) e ∙ found old (calls_of a) none (same a)
  where
    either : (b : Bool) (o : Option (List ℕ)) → cond b o o ≡ o
    either true o = refl
    either false o = refl

    found : (o c : Option CallRecord) → IfSome c (λ r. file_held r (name_of a) ≡ None) → is_some c ≡ is_some o → with_proto (option_map (λ _. empty) (told o)) (Some (bench_told c, name_of a)) ≡ option_map (λ _. empty) (told o)
    found None c lacks tells = refl
    found (Some d) None lacks tells = let h : false ≡ true = tells in cc
    found (Some d) (Some r) lacks tells = ap {B = Option Files} (λ m. Some m)
        (ap (λ o. with_file proto_name o empty) (files_told r (name_of a) ∙ ap bytes_of lacks)
        ∙ same_files (with_file proto_name None empty) empty (λ q. get_with empty proto_name None q ∙ ap (λ o. cond (same_text q proto_name) None o) (get-empty _ q) ∙ either (same_text q proto_name) None ∙ sym (get-empty _ q)))

pub if_err : {T E : Type 0} {P Q : Type 0} (r : Result T E) → (P → Q) → OnErr r P → OnErr r Q
if_err (Ok x) f p = p
if_err (Err e) f p = f p

pub there_by : {E : Type 0} (P Q : Bool → Type 0) (r : Result Bool E) → ((there : Bool) → P there → Q there) → IfOk r P → IfOk r Q
there_by P Q (Ok there) f p = f there p
there_by P Q (Err e) f p = p

pub tells_by : (a b : Option CallRecord) → is_some a ≡ is_some b → is_some (bench_told a) ≡ is_some (bench_told b)
tells_by None None same = same
tells_by None (Some s) same = same
tells_by (Some r) None same = same
tells_by (Some r) (Some s) same = same

pub gone_as : (a b : Option CallRecord) (n m : List ℕ) → a ≡ b → n ≡ m → IfSome b (λ r. file_held r m ≡ None) → IfSome a (λ r. file_held r n ≡ None)
gone_as a b n m same named h = subst (λ o. IfSome o (λ r. file_held r n ≡ None)) (sym same) (subst (λ k. IfSome b (λ r. file_held r k ≡ None)) (sym named) h)

pub first_has : (name copy : List ℕ) (others : List (List ℕ)) → copy ≡ name → has_path (copy ∷ others) name ≡ true
first_has name copy others e = ap (λ b. b || has_path others name) (ap (same_text name) e ∙ same_itself name)

pub whole_as : {A : Type 0} (there was : Option A) (calls_of : A → Option CallRecord) (name_of : A → List ℕ) (here old : Option CallRecord) (files : Option Files) → there ≡ was → here ≡ old → whole_told was calls_of name_of old ≡ files
    → whole_told there calls_of name_of here ≡ files
whole_as there was calls_of name_of here old files same calls e = ap (λ t. whole_told t calls_of name_of here) same ∙ ap (λ k. whole_told was calls_of name_of k) calls ∙ e

-- ---- the same of a bench, by the calls on its folder and on the other one

module _ {A : Type 0} (proto : Option A) (calls_of : A → Option CallRecord) (name_of : A → List ℕ) (file : List ℕ) (here : Option CallRecord) where
  abbrev told_there : A → Option Files
  told_there a = bench_told (calls_of a)

  abbrev firm_there : A → List ℕ → ℕ
  firm_there a = firm_held (calls_of a)

  -- a call on another file than the one that stands elsewhere
  module _ (other : is_elsewhere proto file ≡ false) where
    away : is_elsewhere (elsewhere proto told_there name_of) file ≡ false
    away = apart_there proto told_there name_of file other

    away_firm : is_elsewhere (elsewhere proto firm_there name_of) file ≡ false
    away_firm = apart_there proto firm_there name_of file other

    pub files_get : (P : Option (List ℕ) → Type 0) → IfSome (bench_told here) (λ k. P (get k file)) → IfSome (whole_told proto calls_of name_of here) (λ k. P (get k file))
    files_get P h = rest_get file (bench_told here) (elsewhere proto told_there name_of) away P h

    pub files_bytes : ((a : A) → is_some (bench_told here) ≡ is_some (told_there a)) → bytes_on (whole_told proto calls_of name_of here) file ≡ bytes_on (bench_told here) file
    files_bytes tells = rest_bytes file (bench_told here) (elsewhere proto told_there name_of) away (all_tell_by proto told_there name_of (bench_told here) tells)

    pub files_are_firm : ((a : A) → is_some (bench_told here) ≡ is_some (told_there a)) → IsFirmFile (whole_told proto calls_of name_of here) (whole_firm proto calls_of name_of here file) file → IsFirmFile (bench_told here) (firm_held here file) file
    files_are_firm tells whole = rest_is_firm file (bench_told here) (elsewhere proto told_there name_of) away (all_tell_by proto told_there name_of (bench_told here) tells) (firm_held here file)
        (subst (λ n. IsFirmFile (whole_told proto calls_of name_of here) n file) (rest_firm (firm_held here) (elsewhere proto firm_there name_of) file away_firm) whole)

    module _ (new : Option CallRecord) where
      pub files_with : (x : Option (List ℕ)) → bench_told new ≡ option_map (with_file file x) (bench_told here) → whole_told proto calls_of name_of new ≡ option_map (with_file file x) (whole_told proto calls_of name_of here)
      files_with x e = rest_with file (bench_told here) (elsewhere proto told_there name_of) away x (bench_told new) e

      pub files_appended : (bytes : List ℕ) → bench_told new ≡ option_map (appended file bytes) (bench_told here) → whole_told proto calls_of name_of new ≡ option_map (appended file bytes) (whole_told proto calls_of name_of here)
      files_appended bytes e = rest_appended file (bench_told here) (elsewhere proto told_there name_of) away bytes (bench_told new) e

      pub files_spoil : Spoils file (bench_told here) (bench_told new) → Spoils file (whole_told proto calls_of name_of here) (whole_told proto calls_of name_of new)
      files_spoil spoils = rest_spoils file (bench_told here) (elsewhere proto told_there name_of) away (bench_told new) spoils

      pub files_same : bench_told new ≡ bench_told here → whole_told proto calls_of name_of new ≡ whole_told proto calls_of name_of here
      files_same e = ap (λ k. with_proto k (elsewhere proto told_there name_of)) e

      pub files_firm : whole_firm proto calls_of name_of new file ≡ firm_held new file
      files_firm = rest_firm (firm_held new) (elsewhere proto firm_there name_of) file away_firm

      pub files_firm_was : firm_held new file ≡ firm_held here file → whole_firm proto calls_of name_of new file ≡ whole_firm proto calls_of name_of here file
      files_firm_was e = files_firm ∙ e ∙ sym (rest_firm (firm_held here) (elsewhere proto firm_there name_of) file away_firm)

      pub files_others : ((q : List ℕ) → (q ≡ file → ⊥) → firm_held new q ≡ firm_held here q) → (q : List ℕ) → (q ≡ file → ⊥) → whole_firm proto calls_of name_of new q ≡ whole_firm proto calls_of name_of here q
      files_others same q apart = rest_others (firm_held here) (firm_held new) (elsewhere proto firm_there name_of) file same q apart

      -- what a disk that adopted it, or failed to, leaves
      pub files_fail : (to : List ℕ) (old_disk new_disk : Option Trace) → ((a : A) → is_some (bench_told here) ≡ is_some (told_there a))
          → FailsToAdopt (Adopt to (bytes_on (bench_told here) file)) old_disk new_disk (removed file) (bench_told here) (bench_told new)
          → FailsToAdopt (Adopt to (bytes_on (whole_told proto calls_of name_of here) file)) old_disk new_disk (removed file) (whole_told proto calls_of name_of here) (whole_told proto calls_of name_of new)
      files_fail to old_disk new_disk tells failed = subst (λ b. FailsToAdopt (Adopt to b) old_disk new_disk (removed file) (whole_told proto calls_of name_of here) (whole_told proto calls_of name_of new)) (sym (files_bytes tells))
          (⊎_elim (λ s. inl (s.0, files_same s.1)) (λ d. inr (d.0, files_with None d.1)) failed)

  -- a call on the file that stands elsewhere
  module _ (p : A) (is : proto ≡ Some p) (mine : is_elsewhere proto file ≡ true) where
    its_name : file ≡ proto_name
    its_name = same_is file proto_name (sym (ap (λ o. is_elsewhere o file) is) ∙ mine)

    told_is : elsewhere proto told_there name_of ≡ Some (told_there p, name_of p)
    told_is = ap (λ o. elsewhere o told_there name_of) is

    firm_is : elsewhere proto firm_there name_of ≡ Some (firm_there p, name_of p)
    firm_is = ap (λ o. elsewhere o firm_there name_of) is

    pub proto_get : (P : Option (List ℕ) → Type 0) → IfSome (told_there p) (λ k. P (get k (name_of p))) → IfSome (whole_told proto calls_of name_of here) (λ k. P (get k file))
    proto_get P h = own_get (name_of p) file (bench_told here) (told_there p) (elsewhere proto told_there name_of) told_is its_name P h

    pub proto_bytes : is_some (bench_told here) ≡ is_some (told_there p) → bytes_on (whole_told proto calls_of name_of here) file ≡ bytes_on (told_there p) (name_of p)
    proto_bytes tells = own_bytes (name_of p) file (bench_told here) (told_there p) (elsewhere proto told_there name_of) told_is its_name tells

    was_firm : whole_firm proto calls_of name_of here file ≡ firm_there p (name_of p)
    was_firm = ap (λ o. firm_with_proto (firm_held here) o file) firm_is ∙ own_firm (firm_held here) (firm_there p) (name_of p) file its_name

    pub proto_is_firm : is_some (bench_told here) ≡ is_some (told_there p) → IsFirmFile (whole_told proto calls_of name_of here) (whole_firm proto calls_of name_of here file) file → IsFirmFile (told_there p) (firm_there p (name_of p)) (name_of p)
    proto_is_firm tells whole = own_is_firm (name_of p) file (bench_told here) (told_there p) (elsewhere proto told_there name_of) told_is its_name tells (firm_there p (name_of p))
        (subst (λ n. IsFirmFile (whole_told proto calls_of name_of here) n file) was_firm whole)

    -- what stands there now, under the same name
    module _ (new : A) (named : name_of new ≡ name_of p) where
      renamed : with_proto (bench_told here) (Some (told_there new, name_of new)) ≡ with_proto (bench_told here) (Some (told_there new, name_of p))
      renamed = ap (λ n. with_proto (bench_told here) (Some (told_there new, n))) named

      pub proto_with : (x : Option (List ℕ)) → told_there new ≡ option_map (with_file (name_of p) x) (told_there p) → whole_told (Some new) calls_of name_of here ≡ option_map (with_file file x) (whole_told proto calls_of name_of here)
      proto_with x e = renamed ∙ own_with (name_of p) file (bench_told here) (told_there p) (elsewhere proto told_there name_of) told_is its_name x (told_there new) e

      pub proto_appended : (bytes : List ℕ) → told_there new ≡ option_map (appended (name_of p) bytes) (told_there p) → whole_told (Some new) calls_of name_of here ≡ option_map (appended file bytes) (whole_told proto calls_of name_of here)
      proto_appended bytes e = renamed ∙ own_appended (name_of p) file (bench_told here) (told_there p) (elsewhere proto told_there name_of) told_is its_name bytes (told_there new) e

      pub proto_same : told_there new ≡ told_there p → whole_told (Some new) calls_of name_of here ≡ whole_told proto calls_of name_of here
      proto_same e = renamed ∙ own_same (name_of p) file (bench_told here) (told_there p) (elsewhere proto told_there name_of) told_is its_name (told_there new) e

      pub proto_spoil : Spoils (name_of p) (told_there p) (told_there new) → Spoils file (whole_told proto calls_of name_of here) (whole_told (Some new) calls_of name_of here)
      proto_spoil spoils = subst (λ k. Spoils file (whole_told proto calls_of name_of here) k) (sym renamed)
          (own_spoils (name_of p) file (bench_told here) (told_there p) (elsewhere proto told_there name_of) told_is its_name (told_there new) spoils)

      pub proto_firm : whole_firm (Some new) calls_of name_of here file ≡ firm_there new (name_of p)
      proto_firm = own_firm (firm_held here) (firm_there new) (name_of new) file its_name ∙ ap (firm_there new) named

      pub proto_firm_was : firm_there new (name_of p) ≡ firm_there p (name_of p) → whole_firm (Some new) calls_of name_of here file ≡ whole_firm proto calls_of name_of here file
      proto_firm_was e = proto_firm ∙ e ∙ sym was_firm

      pub proto_firm_same : calls_of new ≡ calls_of p → whole_firm (Some new) calls_of name_of here ≡ whole_firm proto calls_of name_of here
      proto_firm_same e = ap (λ (o : Firm). λ (q : List ℕ). firm_with_proto (firm_held here) o q)
          (ap {B = Firm} (λ k. Some (firm_held k, name_of new)) e ∙ ap {B = Firm} (λ n. Some (firm_there p, n)) named ∙ sym firm_is)

      pub proto_others : (q : List ℕ) → (q ≡ file → ⊥) → whole_firm (Some new) calls_of name_of here q ≡ whole_firm proto calls_of name_of here q
      proto_others q apart = ap (λ n. firm_with_proto (firm_held here) (Some (firm_there new, n)) q) named
          ∙ own_others (firm_held here) (firm_there p) (firm_there new) (name_of p) file (elsewhere proto firm_there name_of) firm_is its_name q apart

      pub proto_fail : (to : List ℕ) (old_disk new_disk : Option Trace) → is_some (bench_told here) ≡ is_some (told_there p)
          → FailsToAdopt (Adopt to (bytes_on (told_there p) (name_of p))) old_disk new_disk (removed (name_of p)) (told_there p) (told_there new)
          → FailsToAdopt (Adopt to (bytes_on (whole_told proto calls_of name_of here) file)) old_disk new_disk (removed file) (whole_told proto calls_of name_of here) (whole_told (Some new) calls_of name_of here)
      proto_fail to old_disk new_disk tells failed = subst (λ b. FailsToAdopt (Adopt to b) old_disk new_disk (removed file) (whole_told proto calls_of name_of here) (whole_told (Some new) calls_of name_of here)) (sym (proto_bytes tells))
          (⊎_elim (λ s. inl (s.0, proto_same s.1)) (λ d. inr (d.0, proto_with None d.1)) failed)
