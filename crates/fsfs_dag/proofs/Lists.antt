-- Looks for a name in lists that were cut and joined.
use Rattle.std.proofs.Common.{◌≡◌, ◌≤◌, ◌+◌, ℕ, Bool, true, false, not, ◌&&◌, cond, List, [], ◌∷◌, ◌++◌, length, refl, sym, ap, ◌∙◌, arith}
use Rattle.std.specs.Prelude.{Option, Some, None, is_some, option_map}
use Rattle.std.proofs.lemmas.Bool.{and_parts}
use mathlib.Core.Bool.{false≢true}
use Rattle.fsfs_base.specs.Paths.{PathName, same_name}
use Rattle.fsfs_base.proofs.PathLemmas.{same_name-is}
use Rattle.fsfs_revision.specs.Shows.Reading.{DirEntry, named}
use Rattle.fsfs_dag.specs.declared.listing.target.Target.{Target}
use Rattle.fsfs_dag.specs.Listing.Lists.{kept_names, all_names, is_other}
use Rattle.fsfs_dag.specs.Listing.Targets.{target_entry}

-- what was found, or else the other
abbrev pub or_other : Option DirEntry → Option DirEntry → Option DirEntry
or_other o other = cond (is_some o) o other

pub or_none : (o : Option DirEntry) → or_other o None ≡ o
or_none None = refl
or_none (Some e) = refl

pub none_both : (b : Bool) → ◌≡◌ {A = Option DirEntry} (cond b None None) None
none_both true = refl
none_both false = refl

-- what is said of a name is said of the same name
pub same_said : (is : PathName → Bool) (x y : PathName) (b : Bool) → same_name x y ≡ true → is y ≡ b → is x ≡ b
same_said is x y b same h = ap is (same_name-is x y same) ∙ h

pub named_append : (y : PathName) (a b : List DirEntry) → named y (a ++ b) ≡ or_other (named y a) (named y b)
named_append y [] b = refl
named_append y (e ∷ a) b = by (same_name e.name y) (named_append y a b)
  where
    by : (s : Bool) → named y (a ++ b) ≡ or_other (named y a) (named y b) → cond s (Some e) (named y (a ++ b)) ≡ or_other (cond s (Some e) (named y a)) (named y b)
    by true h = refl
    by false h = h

-- no entry has a name that is not as all names are
pub none_named : (is : PathName → Bool) (y : PathName) (es : List DirEntry) → all_names is es ≡ true → is y ≡ false → named y es ≡ None
none_named is y [] all not_y = refl
none_named is y (e ∷ es) all not_y = by (same_name e.name y) refl (none_named is y es)
  where
    parts : (is e.name ≡ true) × (all_names is es ≡ true)
    parts = and_parts (is e.name) (all_names is es) all

    by : (s : Bool) → same_name e.name y ≡ s → (all_names is es ≡ true → is y ≡ false → named y es ≡ None) → cond s (Some e) (named y es) ≡ None
    by true same rest = absurd (false≢true (sym (same_said is e.name y false same not_y) ∙ parts.0))
    by false same rest = rest parts.1 not_y

-- a look among those that are kept
pub kept_named : (is : PathName → Bool) (y : PathName) (es : List DirEntry) → named y (kept_names is es) ≡ cond (is y) (named y es) None
kept_named is y [] = sym (none_both (is y))
kept_named is y (e ∷ es) = by (is e.name) refl (same_name e.name y) refl (kept_named is y es)
  where
    by : (b : Bool) → is e.name ≡ b → (s : Bool) → same_name e.name y ≡ s → named y (kept_names is es) ≡ cond (is y) (named y es) None
        → named y (cond b (e ∷ kept_names is es) (kept_names is es)) ≡ cond (is y) (cond (same_name e.name y) (Some e) (named y es)) None
    by true has true same h =
        ap (λ (s : Bool). cond s (Some e) (named y (kept_names is es))) same
        ∙ sym ((λ i. cond (yes i) (cond (same i) (Some e) (named y es)) None))
      where
        yes : is y ≡ true
        yes = ap is (sym (same_name-is e.name y same)) ∙ has
    by true has false same h =
        ap (λ (s : Bool). cond s (Some e) (named y (kept_names is es))) same ∙ h ∙ ap (λ (s : Bool). cond (is y) (cond s (Some e) (named y es)) None) (sym same)
    by false has true same h =
        h ∙ ap (λ (b : Bool). cond b (named y es) None) no ∙ sym (ap (λ (b : Bool). cond b (cond (same_name e.name y) (Some e) (named y es)) None) no)
      where
        no : is y ≡ false
        no = ap is (sym (same_name-is e.name y same)) ∙ has
    by false has false same h = h ∙ ap (λ (s : Bool). cond (is y) (cond s (Some e) (named y es)) None) (sym same)

-- those that are kept are as all were
pub kept_all : (is also : PathName → Bool) (es : List DirEntry) → all_names also es ≡ true → all_names also (kept_names is es) ≡ true
kept_all is also [] all = refl
kept_all is also (e ∷ es) all = by (is e.name) (kept_all is also es)
  where
    parts : (also e.name ≡ true) × (all_names also es ≡ true)
    parts = and_parts (also e.name) (all_names also es) all

    by : (b : Bool) → (all_names also es ≡ true → all_names also (kept_names is es) ≡ true) → all_names also (cond b (e ∷ kept_names is es) (kept_names is es)) ≡ true
    by true rest = (λ i. parts.0 i && rest parts.1 i)
    by false rest = rest parts.1

-- and as they are kept for
pub kept_is : (is : PathName → Bool) (es : List DirEntry) → all_names is (kept_names is es) ≡ true
kept_is is [] = refl
kept_is is (e ∷ es) = by (is e.name) refl (kept_is is es)
  where
    by : (b : Bool) → is e.name ≡ b → all_names is (kept_names is es) ≡ true → all_names is (cond b (e ∷ kept_names is es) (kept_names is es)) ≡ true
    by true has rest = (λ i. has i && rest i)
    by false has rest = rest

-- without the entries of a name there are fewer, if there is one
pub count_others : (name : PathName) (es : List DirEntry) → length (kept_names (is_other name) es) + cond (is_some (named name es)) 1 0 ≤ length es
count_others name [] = omega arith
count_others name (e ∷ es) = by (same_name e.name name) (count_others name es)
  where
    rest : ℕ
    rest = length (kept_names (is_other name) es)

    fewer : (b : Bool) → rest + cond b 1 0 ≤ length es → rest + 1 ≤ length (e ∷ es)
    fewer true h = omega (arith, h)
    fewer false h = omega (arith, h)

    more : (b : Bool) → rest + cond b 1 0 ≤ length es → length (e ∷ kept_names (is_other name) es) + cond b 1 0 ≤ length (e ∷ es)
    more true h = omega (arith, h)
    more false h = omega (arith, h)

    by : (s : Bool) → rest + cond (is_some (named name es)) 1 0 ≤ length es
        → length (cond (not s) (e ∷ kept_names (is_other name) es) (kept_names (is_other name) es)) + cond (is_some (cond s (Some e) (named name es))) 1 0 ≤ length (e ∷ es)
    by true h = fewer (is_some (named name es)) h
    by false h = more (is_some (named name es)) h

-- ---- whether there is an entry

pub some_mapped : {A B : Type 0} (f : A → B) (o : Option A) (x : Option B) → option_map f o ≡ x → is_some o ≡ is_some x
some_mapped {B = B} f None x is = ap (λ (o : Option B). is_some o) is
some_mapped {B = B} f (Some a) x is = ap (λ (o : Option B). is_some o) is

pub some_entry : (name : PathName) (target : Option Target) → is_some target ≡ is_some (target_entry name target)
some_entry name None = refl
some_entry name (Some t) = refl
