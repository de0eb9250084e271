-- The name that a path has next below a folder is the only one there.
use Rattle.std.proofs.Common.{◌≡◌, ◌⊎◌, ◌<◌, ◌≤◌, ℕ, List, [], ◌∷◌, ◌++◌, length, take, drop, Bool, true, false, ⊎_elim, refl, sym, ap, ◌∙◌, arith}
use Rattle.std.proofs.lemmas.Bool.{and_parts, and_from, leb-true, le-leb}
use Rattle.std.proofs.lemmas.List.{take-append-drop}
use Rattle.std.proofs.lemmas.Str.Pattern.{NoCharPasses-char, drop_at_char}
use Rattle.std.specs.Prelude.{◌||◌, ◌==◌, not, nat_le}
use Rattle.std.specs.Str.{NoCharPasses}
use Rattle.std.specs.Str.Pattern.{HasCharAt}
use Rattle.fsfs_folders.specs.System.Paths.{has_slash}
use Rattle.fsfs_folders.specs.System.Listing.{is_entry}
use Rattle.fsfs_folders.proofs.PathLemmas.{slash_within, lacks_slash}
use Rattle.fsfs_memcalls.specs.Entries.{IsElsewhere, IsPartBelow, IsNoEntry, IsEntryAt}

no_slash : (b : Bool) → b ≡ true → b ≡ false → ⊥
no_slash true e f = let h : true ≡ false = f in cc
no_slash false e f = let h : false ≡ true = e in cc

-- a text has one last slash
one_split : (a b c d : List ℕ) → has_slash b ≡ false → has_slash d ≡ false → a ++ 47 ∷ b ≡ c ++ 47 ∷ d → (a ≡ c) × (b ≡ d)
one_split [] b [] d plain other e = (refl, cc)
one_split [] b (x ∷ c) d plain other e = let rest : b ≡ c ++ 47 ∷ d = cc in absurd (no_slash (has_slash b) (ap has_slash rest ∙ slash_within c d) plain)
one_split (x ∷ a) b [] d plain other e = let rest : a ++ 47 ∷ b ≡ d = cc in absurd (no_slash (has_slash d) (ap has_slash (sym rest) ∙ slash_within a b) other)
one_split (x ∷ a) b (y ∷ c) d plain other e =
    let first : x ≡ y = cc in
    let rest : a ++ 47 ∷ b ≡ c ++ 47 ∷ d = cc in
    let parts = one_split a b c d plain other rest in
    (λ i. first i ∷ parts.0 i, parts.1)

-- a text that is split at its last slash, or has none
pub split_at : (text front last : List ℕ) (i j : ℕ) → NoCharPasses (λ d. d == 47) (drop j text) → HasCharAt 47 text i j → front ≡ take i text → last ≡ drop j text → (text ≡ front ++ 47 ∷ last) × (has_slash last ≡ false)
split_at text front last i j none at f l =
    let whole : take i text ++ 47 ∷ drop j text ≡ text = ap (λ (r : List ℕ). take i text ++ r) (sym (drop_at_char 47 text i j at (omega arith))) ∙ take-append-drop i text in
    let plain : has_slash (drop j text) ≡ false = lacks_slash (drop j text) (λ k lt e. NoCharPasses-char 47 (drop j text) k none (omega arith) lt e) in
    (sym whole ∙ (λ k. sym f k ++ 47 ∷ sym l k), ap has_slash l ∙ plain)

pub split_none : (text : List ℕ) → NoCharPasses (λ d. d == 47) text → has_slash text ≡ false
split_none text none = lacks_slash text (λ k lt e. NoCharPasses-char 47 text k none (omega arith) lt e)

-- ---- paths below a folder

pub elsewhere_split : (folder front last path : List ℕ) → path ≡ front ++ 47 ∷ last → has_slash last ≡ false → (front ≡ []) ⊎ (front ≡ folder → ⊥) → IsElsewhere folder path
elsewhere_split [] front last path parts plain why = λ name none here. no_slash (has_slash name) (ap has_slash (here ∙ parts) ∙ slash_within front last) none
elsewhere_split (c ∷ cs) front last path parts plain why = λ name none here.
    let one = one_split (c ∷ cs) name front last none plain (here ∙ parts) in
    ⊎_elim (λ empty. let h : c ∷ cs ≡ [] = one.0 ∙ empty in cc) (λ other. other (sym one.0)) why

pub part_split : (folder front last path : List ℕ) → path ≡ front ++ 47 ∷ last → has_slash last ≡ false → front ≡ folder → (front ≡ [] → ⊥) → IsPartBelow folder path last
part_split [] front last path parts plain same some = absurd (some same)
part_split (c ∷ cs) front last path parts plain same some = record {
  plain = plain;
  here = (λ i. sym same i ++ 47 ∷ last) ∙ sym parts;
  only = λ other none here. (one_split (c ∷ cs) other front last none plain (here ∙ parts)).1;
}

pub part_alone : (folder path : List ℕ) → has_slash path ≡ false → folder ≡ [] → IsPartBelow folder path path
part_alone [] path plain empty = record { plain = plain; here = refl; only = λ other none here. here }
part_alone (c ∷ cs) path plain empty = absurd (let h : c ∷ cs ≡ [] = empty in cc)

pub elsewhere_plain : (folder path : List ℕ) → has_slash path ≡ false → (folder ≡ [] → ⊥) → IsElsewhere folder path
elsewhere_plain [] path plain some = absurd (some refl)
elsewhere_plain (c ∷ cs) path plain some = λ name none here. no_slash (has_slash path) (ap has_slash (sym here) ∙ slash_within (c ∷ cs) name) plain

-- ---- names of a listing

not_false : (b : Bool) → not b ≡ true → b ≡ false
not_false true e = let h : false ≡ true = e in cc
not_false false e = refl

record Entry (name : List ℕ) : Type 0 where
  pub some : 0 < length name
  pub short : length name ≤ 128
  pub plain : has_slash name ≡ false

entry_is : (name : List ℕ) → is_entry name ≡ true → Entry name
entry_is [] e = absurd (let h : false ≡ true = e in cc)
entry_is (c ∷ cs) e =
    let parts = and_parts (not (has_slash (c ∷ cs))) (nat_le (length (c ∷ cs)) 128) e in
    record { some = omega arith; short = leb-true (length (c ∷ cs)) 128 parts.1; plain = not_false (has_slash (c ∷ cs)) parts.0 }

pub is_listed : (name : List ℕ) → 0 < length name → length name ≤ 128 → has_slash name ≡ false → is_entry name ≡ true
is_listed [] some short plain = absurd (omega (arith, some))
is_listed (c ∷ cs) some short plain = and_from (not (has_slash (c ∷ cs))) (nat_le (length (c ∷ cs)) 128) (ap not plain) (le-leb (length (c ∷ cs)) 128 short)

pub entry_at : (folder path name : List ℕ) → IsPartBelow folder path name → 0 < length name → length name ≤ 128 → IsEntryAt folder path name
entry_at folder path name part some short = record {
  is = is_listed name some short part.plain;
  here = part.here;
  only = λ other is here. part.only other (entry_is other is).plain here;
}
