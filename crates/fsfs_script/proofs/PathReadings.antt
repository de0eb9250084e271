-- A path's text is read to that path, and no other text is.
use Rattle.std.proofs.Common.{◌≡◌, ◌≢◌, ◌≤◌, ◌+◌, ℕ, Bool, true, false, cond, eqb, ltb, List, [], ◌∷◌, ◌++◌, length, Option, Some, None, refl, sym, ap, subst, ◌∙◌, arith}
use Rattle.std.proofs.lemmas.Option.{same_Some}
use Rattle.std.proofs.lemmas.Bool.{eqb-true, eq-eqb, ltb-false, le-ltb}
use Rattle.fsfs_base.specs.Paths.{Path, path_text}
use Rattle.fsfs_base.specs.PathTexts.{IsPath}
use Rattle.fsfs_base.specs.PathReading.{names_fault_at}
use Rattle.fsfs_base.specs.declared.paths.bad_path.BadPath.{BadPath}
use Rattle.fsfs_base.proofs.PathTextLemmas.{pieces, join_reads, join_passes, joined_path, path_joined, root_only, absolute}
use Rattle.fsfs_script.specs.JobLines.Parts.{IsPathOf, unless_fault, names_of, path_of}

filled : (c : ℕ) (text : List ℕ) → (c ∷ text) ≢ []
filled c text e = cc

root_path : IsPath []
root_path = record { names = tt; deep = omega arith; fits = omega arith }

names_found : (text : List ℕ) (path : Path) → names_of text ≡ Some path → IsPathOf (47 ∷ text) path
names_found [] path e =
    let s : [] ≡ path = same_Some [] path e in
    subst (λ (p : Path). IsPathOf (47 ∷ []) p) s (record { path_is = root_path; text_is = refl })
names_found (c ∷ text) path e = by (ltb 4096 (1 + length (c ∷ text))) refl (names_fault_at 0 1 (pieces (c ∷ text))) refl e
  where
    by : (t : Bool) → ltb 4096 (1 + length (c ∷ text)) ≡ t → (f : Option BadPath) → names_fault_at 0 1 (pieces (c ∷ text)) ≡ f → cond t None (unless_fault (pieces (c ∷ text)) f) ≡ Some path → IsPathOf (47 ∷ c ∷ text) path
    by true long f is e = absurd cc
    by false short (Some bad) is e = absurd cc
    by false short None is e =
        let j = join_reads [] (c ∷ text) (ltb-false 4096 (1 + length (c ∷ text)) short) is in
        let w = joined_path [] (c ∷ text) (pieces (c ∷ text)) refl j in
        let s = same_Some (pieces (c ∷ text)) path e in
        subst (λ (p : Path). IsPathOf (47 ∷ c ∷ text) p) s (record { path_is = w.0; text_is = w.1 })

names_again : (text : List ℕ) (path : Path) → IsPathOf (47 ∷ text) path → names_of text ≡ Some path
names_again [] path w = ap (λ (p : Path). Some p) (root_only path w.path_is w.text_is)
names_again (c ∷ text) path w =
    let p = join_passes [] (c ∷ text) path (path_joined [] (c ∷ text) path refl (filled c text) w.path_is w.text_is) in
    let same : pieces (c ∷ text) ≡ path = p.same in
    rw (le-ltb 4096 (1 + length (c ∷ text)) p.fits, p.no_fault) (ap (λ (q : Path). Some q) same)

pub path_found : (text : List ℕ) (path : Path) → path_of text ≡ Some path → IsPathOf text path
unfolding path_of
path_found [] path e = absurd cc
path_found (c ∷ text) path e = by (eqb c 47) refl e
  where
    by : (t : Bool) → eqb c 47 ≡ t → cond t (names_of text) None ≡ Some path → IsPathOf (c ∷ text) path
    by true same e =
        let w = names_found text path e in
        record { path_is = w.path_is; text_is = w.text_is ∙ ap (λ (d : ℕ). d ∷ text) (sym (eqb-true c 47 same)) }
    by false same e = absurd cc

pub path_again : (text : List ℕ) (path : Path) → IsPathOf text path → path_of text ≡ Some path
unfolding path_of
path_again [] path w =
    let a = absolute path in
    let e : [] ≡ 47 ∷ a.0 = sym w.text_is ∙ a.1 in
    absurd cc
path_again (c ∷ text) path w =
    let a = absolute path in
    let e : c ∷ text ≡ 47 ∷ a.0 = sym w.text_is ∙ a.1 in
    let same : c ≡ 47 = cc in
    rw (eq-eqb c 47 same) (names_again text path (record { path_is = w.path_is; text_is = w.text_is ∙ ap (λ (d : ℕ). d ∷ text) same }))

pub path_none : (text : List ℕ) → ((path : Path) → IsPathOf text path → ⊥) → None ≡ path_of text
path_none text none = by (path_of text) refl
  where
    by : (o : Option Path) → path_of text ≡ o → None ≡ path_of text
    by None e = sym e
    by (Some p) e = absurd (none p (path_found text p e))
