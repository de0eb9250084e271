-- A word means one path at most, and none that means a path is refused as one.
use Rattle.std.proofs.Common.{◌≡◌, ◌≢◌, ℕ, ◌+◌, ◌<◌, Bool, true, false, List, [], ◌∷◌, ◌++◌, length, Option, Some, None, refl, sym, ap, subst, ◌∙◌, arith, eqb, ltb}
use Rattle.std.proofs.lemmas.Bool.{eqb-true, eqb-false, ltb-true}
use Rattle.std.proofs.lemmas.List.{length-append}
use Rattle.std.specs.Prelude.{MatchBool}
use Rattle.std.specs.List.{AllByRecursion}
use Rattle.fsfs_base.specs.Paths.{PathName, Path, names_text, path_text}
use Rattle.fsfs_base.specs.PathTexts.{IsName, IsPath, IsNameFault, HasBadName, IsBadJoin, IsBadPath}
use Rattle.fsfs_base.specs.declared.paths.bad_path.PathFault.{PathFault}
use Rattle.fsfs_base.specs.declared.paths.bad_path.PathFault.TheVariants.{NotAbsolute, PathTooLong, TooDeep, EmptyName, Control, NameTooLong, Dot}
use Rattle.fsfs_base.proofs.PathTextLemmas.{names_text_injective, names_whole, path_by_text, absolute}
use Rattle.fsfs_cli.specs.Grammars.{path_meant, IsPathOf}
use Rattle.fsfs_cli.specs.Readings.{IsPathGiven}

-- ---- a path by its text

-- a word means one path at most
pub one_path : (word : List ℕ) (p q : Path) → IsPathOf word p → IsPathOf word q → p ≡ q
one_path word p q a b = path_by_text p q a.0 b.0 (a.1 ∙ sym b.1)

pub one_path_given : (word : Option (List ℕ)) (p q : Path) → IsPathGiven word p → IsPathGiven word q → p ≡ q
one_path_given None p q a b = a ∙ sym b
one_path_given (Some word) p q a b = one_path word p q a b

-- ---- no path is refused

name_there : (before : Path) (name : PathName) (behind : Path) → AllByRecursion IsName (before ++ name ∷ behind) → IsName name
name_there [] name behind good = good.0
name_there (x ∷ before) name behind good = name_there before name behind good.1

name_not_refused : (above : ℕ) (name : PathName) (offset : ℕ) (why : PathFault) → above < 128 → IsName name → IsNameFault above name offset why → ⊥
name_not_refused above name offset NotAbsolute low good bad = bad
name_not_refused above name offset PathTooLong low good bad = bad
name_not_refused above name offset TooDeep low good bad = omega (arith, low, bad.0)
name_not_refused above name offset EmptyName low good bad = good.some bad.1
name_not_refused above name offset Control low good bad = let none : Some offset ≡ None = sym bad.1 ∙ good.no_control in let no : ⊥ = cc in no
name_not_refused above name offset NameTooLong low good bad = omega (arith, good.fits, bad.2)
name_not_refused above name offset Dot low good bad = let none : true ≡ false = sym bad.1 ∙ good.no_dots in let no : ⊥ = cc in no

names_not_refused : (p : Path) (text : List ℕ) (at : ℕ) (why : PathFault) → IsPath p → names_text p ≡ text → HasBadName [] text at why → ⊥
names_not_refused p text at why is e bad =
    let same : p ≡ bad.before ++ bad.name ∷ bad.behind = names_text_injective p (bad.before ++ bad.name ∷ bad.behind) (names_whole p is.names) bad.between (e ∙ bad.text_is) in
    let good = name_there bad.before bad.name bad.behind (subst (AllByRecursion IsName) same is.names) in
    let low : length {A = PathName} [] + length bad.before < 128 = omega (arith, is.deep, ap length same, length-append bad.before (bad.name ∷ bad.behind)) in
    name_not_refused (length {A = PathName} [] + length bad.before) bad.name bad.offset why low good bad.fault

join_not_refused : (p : Path) (text : List ℕ) (at : ℕ) (why : PathFault) → IsPath p → names_text p ≡ 47 ∷ text → length text < 4096 → IsBadJoin [] text at why → ⊥
join_not_refused p text at why is e short bad = go (ltb 4096 (length (names_text []) + 1 + length text)) refl bad
  where
    go : (b : Bool) → ltb 4096 (length (names_text []) + 1 + length text) ≡ b → MatchBool b ((why ≡ PathTooLong) × (at ≡ 4096)) (HasBadName [] (47 ∷ text) at why) → ⊥
    go true long bad = omega (arith, short, ltb-true _ _ long)
    go false long bad = names_not_refused p (47 ∷ text) at why is e bad

text_not_refused : (p : Path) (text : List ℕ) (at : ℕ) (why : PathFault) → IsPath p → path_text p ≡ text → IsBadPath text at why → ⊥
text_not_refused p [] at why is e bad = let first = absolute p in let none : [] ≡ 47 ∷ first.0 = sym e ∙ first.1 in let no : ⊥ = cc in no
text_not_refused p (c ∷ text) at why is e bad = go (eqb c 47) refl bad
  where
    behind : (p : Path) → IsPath p → path_text p ≡ 47 ∷ text → text ≢ [] → IsBadJoin [] text at why → ⊥
    behind [] is e some bad = some (let none : [] ≡ text = cc in sym none)
    behind (x ∷ p) is e some bad = join_not_refused (x ∷ p) text at why is e (omega (arith, is.fits, ap length e)) bad

    go : (b : Bool) → eqb c 47 ≡ b → MatchBool b ((text ≢ []) × IsBadJoin [] text at why) ((why ≡ NotAbsolute) × (at ≡ 0)) → ⊥
    go true slash bad = behind p is (e ∙ ap (λ (k : ℕ). k ∷ text) (eqb-true c 47 slash)) bad.0 bad.1
    go false slash bad = let first = absolute p in let same : c ∷ text ≡ 47 ∷ first.0 = sym e ∙ first.1 in eqb-false c 47 slash (let head : c ≡ 47 = cc in head)

-- none that means a path is refused as one
pub path_not_bad : (word : List ℕ) (p : Path) (at : ℕ) (why : PathFault) → IsPathOf word p → IsBadPath (path_meant word) at why → ⊥
path_not_bad word p at why is bad = text_not_refused p (path_meant word) at why is.0 is.1 bad
