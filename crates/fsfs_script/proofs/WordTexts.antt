-- Words are read as they are written, and what is read was written so.
use Rattle.std.proofs.Common.{◌≡◌, ◌<◌, ◌≤◌, ◌+◌, ◌^◌, ℕ, Bool, true, false, cond, eqb, leb, List, [], ◌∷◌, ◌++◌, length, Option, Some, None, refl, sym, ap, subst, ◌∙◌, arith}
use Rattle.std.proofs.lemmas.Option.{same_Some}
use Rattle.std.proofs.lemmas.Bool.{leb-true, le-leb, ne_eqb}
use Rattle.std.proofs.lemmas.Bool.Decides.{nat_tests}
use Rattle.std.proofs.lemmas.List.{append-nil}
use Rattle.std.proofs.lemmas.List.Elements.{All-nil, All-cons}
use Rattle.std.proofs.lemmas.Str.{is_utf8-from_IsUtf8, IsUtf8-from_ascii}
use Rattle.std.proofs.lemmas.Str.Ascii.{IsAscii-from_all}
use Rattle.std.proofs.lemmas.Fmt.{IsAscii-decimal}
use Rattle.std.specs.Prelude.{Result, Ok, Err, decimal, codes}
use Rattle.std.specs.List.{AllByRecursion, All}
use Rattle.std.specs.Str.{is_utf8, IsAscii}
use Rattle.fsfs_base.specs.Grammar.Numeral.{digit, IsPlain, numeral_at}
use Rattle.fsfs_base.specs.Grammar.Cuts.{Lacks, cut}
use Rattle.fsfs_base.proofs.CutLemmas.{cut_again, cut_found, cut_lacking}
use Rattle.fsfs_base.proofs.Numerals.{numeral_found, numeral_again}
use Rattle.fsfs_base.proofs.Spelling.{plain_lacks}
use Rattle.fsfs_base.proofs.Unique.{numeral_decimal, decimal_plain}
use Rattle.fsfs_base.specs.Fields.PropNames.{begins_name, continues_name, IsPropName}
use Rattle.fsfs_base.specs.Paths.{Path, path_text}
use Rattle.fsfs_base.proofs.PathTextLemmas.{absolute}
use Rattle.fsfs_script.specs.JobLines.Judging.{◌>>=◌, or_refusal}
use Rattle.fsfs_script.specs.JobLines.Parts.{number_of, path_of, is_prop_name, name_of, is_author}
use Rattle.fsfs_script.specs.JobLines.Words.{split, split_on, text_of, checked, number_at, length_at, path_at, name_at, author_at}
use Rattle.fsfs_script.specs.JobLines.Texts.{CanPath, CanAuthor}
use Rattle.fsfs_script.specs.declared.job_lines.refusal.Refusal.{Refusal}
use Rattle.fsfs_script.specs.declared.job_lines.refusal.Refusal.TheVariants.{Bad}
use Rattle.fsfs_script.specs.declared.job_lines.refusal.Why.TheVariants as why
use Rattle.fsfs_script.proofs.PathReadings.{path_found, path_again}
use Rattle.fsfs_script.proofs.NameReadings.{name_again, name_passes}

-- ---- steps

pub bound : {A B : Type 0} (r : Result A Refusal) (f : A → Result B Refusal) (y : B) → (r >>= f) ≡ Ok y → (x : A) × (r ≡ Ok x) × (f x ≡ Ok y)
bound (Ok x) f y e = (x, refl, e)
bound (Err refusal) f y e = absurd cc

pub ok_is : {A : Type 0} (x y : A) → (let r : Result A Refusal = Ok x in r) ≡ Ok y → x ≡ y
ok_is {A} x y e = ap (value x) e
  where
    value : A → Result A Refusal → A
    value d (Ok z) = z
    value d (Err refusal) = d

pub some_of : {A : Type 0} (refusal : Refusal) (o : Option A) (x : A) → or_refusal refusal o ≡ Ok x → o ≡ Some x
some_of refusal None x e = absurd cc
some_of {A} refusal (Some y) x e = ap (λ (z : A). Some z) (ok_is y x e)

-- a word that was taken is UTF-8
pub checked_is : (word : List ℕ) (u : Unit {0}) → checked word ≡ Ok u → is_utf8 word ≡ true
checked_is word u e = by (is_utf8 word) refl
  where
    by : (t : Bool) → is_utf8 word ≡ t → is_utf8 word ≡ true
    by true is = is
    by false is = let bad = rw is at e in absurd cc

pub taken : {A : Type 0} (word : List ℕ) (refusal : Refusal) (o : Option A) (x : A) → (checked word >>= λ u. or_refusal refusal o) ≡ Ok x → (is_utf8 word ≡ true) × (o ≡ Some x)
taken {A} word refusal o x e =
    let a = bound (checked word) (λ u. or_refusal refusal o) x e in
    (checked_is word a.0 a.1, some_of refusal o x a.2)

-- ---- numbers

pub decimal_utf8 : (n : ℕ) → n < 2 ^ 64 → is_utf8 (decimal n) ≡ true
decimal_utf8 n lt = is_utf8-from_IsUtf8 (decimal n) (IsUtf8-from_ascii (decimal n) (IsAscii-decimal n lt))

pub decimal_lacks : (c n : ℕ) → 10 ≤ digit c → n < 2 ^ 64 → Lacks c (decimal n)
decimal_lacks c n high lt = plain_lacks 10 18446744073709551615 c high (decimal n) n (decimal_plain 18446744073709551615 n (omega (arith, lt)) lt)

pub number_value : (n : ℕ) → n < 2 ^ 64 → number_of (decimal n) ≡ Some n
number_value n lt = numeral_again 10 18446744073709551615 (decimal n) n (omega arith) (decimal_plain 18446744073709551615 n (omega (arith, lt)) lt)

pub number_text : (word : List ℕ) (n : ℕ) → number_of word ≡ Some n → (word ≡ decimal n) × (n < 2 ^ 64)
number_text word n e =
    let w = numeral_found 10 18446744073709551615 word n e in
    let lt : n < 2 ^ 64 = omega (arith, w.1) in
    (numeral_decimal word n lt w.0, lt)

-- no number is written so
pub no_head : (n : ℕ) → n < 2 ^ 64 → decimal n ≡ codes "head" → ⊥
unfolding numeral_at
no_head n lt e =
    let none : number_of (codes "head") ≡ None = refl in
    let some : number_of (codes "head") ≡ Some n = ap number_of (sym e) ∙ number_value n lt in
    let bad = sym none ∙ some in
    absurd cc

pub number_again : (n : ℕ) → n < 2 ^ 64 → number_at (decimal n) ≡ Ok n
unfolding number_at
number_again n lt = rw (decimal_utf8 n lt, number_value n lt) refl

pub number_found : (word : List ℕ) (n : ℕ) → number_at word ≡ Ok n → (word ≡ decimal n) × (n < 2 ^ 64)
unfolding number_at
number_found word n e = number_text word n (taken word (Bad why.Number) (number_of word) n e).1

pub length_again : (limit n : ℕ) (refusal : Refusal) → n ≤ limit → n < 2 ^ 64 → length_at limit refusal (decimal n) ≡ Ok n
unfolding length_at
length_again limit n refusal le lt = rw (number_again n lt, le-leb n limit le) refl

pub length_found : (limit n : ℕ) (refusal : Refusal) (word : List ℕ) → length_at limit refusal word ≡ Ok n → (word ≡ decimal n) × (n ≤ limit)
unfolding length_at
length_found limit n refusal word e =
    let a = bound (number_at word) (λ m. cond (leb m limit) (Ok m) (Err refusal)) n e in
    let le = small (leb a.0 limit) a.0 refl a.2 in
    let same : a.0 ≡ n = le.0 in
    let w = number_found word a.0 a.1 in
    (w.0 ∙ ap decimal same, omega (arith, same, le.1))
  where
    small : (t : Bool) (m : ℕ) → leb m limit ≡ t → cond (leb m limit) (Ok m) (Err refusal) ≡ Ok n → (m ≡ n) × (m ≤ limit)
    small true m is e = let e' : (let r : Result ℕ Refusal = Ok m in r) ≡ Ok n = rw is at e in (ok_is m n e', leb-true m limit is)
    small false m is e = let e' : (let r : Result ℕ Refusal = Err refusal in r) ≡ Ok n = rw is at e in absurd cc

-- ---- paths and names

pub path_at_again : (path : Path) → CanPath path → path_at (path_text path) ≡ Ok path
unfolding path_at
path_at_again path can = rw (can.utf8, path_again (path_text path) path (record { path_is = can.path_is; text_is = refl })) refl

pub path_at_found : (text : List ℕ) (path : Path) → path_at text ≡ Ok path → CanPath path × (text ≡ path_text path)
unfolding path_at
path_at_found text path e =
    let t = taken text (Bad why.Path) (path_of text) path e in
    let w = path_found text path t.1 in
    (record { path_is = w.path_is; utf8 = subst (λ (s : List ℕ). is_utf8 s ≡ true) (sym w.text_is) t.0 }, sym w.text_is)

continues_small : (c : ℕ) → continues_name c ≡ true → c < 128
continues_small c e = grind (arith, nat_tests)

begins_continues : (c : ℕ) → begins_name c ≡ true → continues_name c ≡ true
begins_continues c e = rw e refl

all_small : (cs : List ℕ) → AllByRecursion (λ d. continues_name d ≡ true) cs → IsAscii cs
all_small cs all = IsAscii-from_all cs (go cs all)
  where
    go : (cs : List ℕ) → AllByRecursion (λ d. continues_name d ≡ true) cs → All (λ b. b < 128) cs
    go [] all = All-nil (λ b. b < 128)
    go (c ∷ cs) all = All-cons (λ b. b < 128) c cs (continues_small c all.0) (go cs all.1)

all_lack : (b : ℕ) → continues_name b ≡ false → (cs : List ℕ) → AllByRecursion (λ d. continues_name d ≡ true) cs → Lacks b cs
all_lack b other [] all = tt
all_lack b other (c ∷ cs) all = (ne_eqb c b (λ same. clash (sym all.0 ∙ ap continues_name same ∙ other)), all_lack b other cs all.1)
  where
    clash : true ≡ false → ⊥
    clash e = cc

name_continues : (name : List ℕ) → IsPropName name → AllByRecursion (λ d. continues_name d ≡ true) name
name_continues [] is = absurd is
name_continues (c ∷ cs) is = (begins_continues c is.0, is.1)

pub name_lacks : (b : ℕ) → continues_name b ≡ false → (name : List ℕ) → IsPropName name → Lacks b name
name_lacks b other name is = all_lack b other name (name_continues name is)

pub name_at_again : (name : List ℕ) → IsPropName name → name_at name ≡ Ok name
unfolding name_at
name_at_again name is =
    let utf8 = is_utf8-from_IsUtf8 name (IsUtf8-from_ascii name (all_small name (name_continues name is))) in
    rw (utf8, sym (name_again name is)) refl

pub name_at_found : (word name : List ℕ) → name_at word ≡ Ok name → (word ≡ name) × IsPropName name
unfolding name_at name_of
name_at_found word name e =
    let t = taken word (Bad why.Name) (name_of word) name e in
    by (is_prop_name word) refl t.1
  where
    by : (b : Bool) → is_prop_name word ≡ b → cond (is_prop_name word) (Some word) None ≡ Some name → (word ≡ name) × IsPropName name
    by true is e =
        let e' : (let o : Option (List ℕ) = Some word in o) ≡ Some name = rw is at e in
        let same = same_Some word name e' in
        (same, subst IsPropName same (name_passes word is))
    by false is e = let e' : (let o : Option (List ℕ) = None in o) ≡ Some name = rw is at e in absurd cc

-- ---- words and what stands behind them

-- the text that stands behind a word
abbrev pub tail : Option (List ℕ) → List ℕ
tail None = []
tail (Some text) = 32 ∷ text

pub split_found : (text : List ℕ) → text ≡ (split text).0 ++ tail (split text).1
split_found text = by (cut 32 text) refl
  where
    by : (o : Option (List ℕ × List ℕ)) → cut 32 text ≡ o → text ≡ (split_on text o).0 ++ tail (split_on text o).1
    by None is = sym (append-nil text)
    by (Some p) is = (cut_found 32 text p.0 p.1 is).parts

pub split_last : (word : List ℕ) → Lacks 32 word → split word ≡ (word, None)
split_last word lacks = ap (split_on word) (cut_lacking 32 word lacks)

pub split_more : (word rest : List ℕ) → Lacks 32 word → split (word ++ 32 ∷ rest) ≡ (word, Some rest)
split_more word rest lacks = ap (split_on (word ++ 32 ∷ rest)) (cut_again 32 word rest lacks)

-- a path that stands behind a word
pub rest_path : (rest : Option (List ℕ)) (path : Path) → path_at (text_of rest) ≡ Ok path → CanPath path × (tail rest ≡ 32 ∷ path_text path)
rest_path None path e =
    let w = path_at_found [] path e in
    let a = absolute path in
    let bad : [] ≡ 47 ∷ a.0 = w.1 ∙ a.1 in
    absurd cc
rest_path (Some text) path e = let w = path_at_found text path e in (w.0, ap (λ (t : List ℕ). 32 ∷ t) w.1)

-- ---- authors, and texts that are not empty

pub author_found : (text name : List ℕ) → author_at text ≡ Ok name → (text ≡ name) × CanAuthor name
unfolding author_at
author_found text name e =
    let a = bound (checked text) (λ u. cond (is_author text) (Ok text) (Err (Bad why.Name))) name e in
    let utf8 = checked_is text a.0 a.1 in
    by (is_author text) refl a.2 utf8
  where
    by : (t : Bool) → is_author text ≡ t → cond (is_author text) (Ok text) (Err (Bad why.Name)) ≡ Ok name → is_utf8 text ≡ true → (text ≡ name) × CanAuthor name
    by true is e utf8 =
        let e' : (let r : Result (List ℕ) Refusal = Ok text in r) ≡ Ok name = rw is at e in
        let same = ok_is text name e' in
        (same, subst CanAuthor same (is, utf8))
    by false is e utf8 = let e' : (let r : Result (List ℕ) Refusal = Err (Bad why.Name) in r) ≡ Ok name = rw is at e in absurd cc

pub decimal_filled : (n : ℕ) → n < 2 ^ 64 → decimal n ≡ [] → ⊥
decimal_filled n lt none = (subst (λ (t : List ℕ). IsPlain 10 18446744073709551615 t n) none (decimal_plain 18446744073709551615 n (omega (arith, lt)) lt)).0

pub longer : (a b : List ℕ) → a ++ 32 ∷ b ≡ [] → ⊥
longer [] b e = cc
longer (c ∷ a) b e = cc
