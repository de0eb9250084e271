-- Which names are apart from those of the repository.
use Rattle.std.proofs.Common.{◌≡◌, ℕ, List, [], ◌∷◌, ◌++◌, Bool, true, false, ⊎_elim, refl, sym, ap, ◌∙◌, arith}
use Rattle.std.proofs.lemmas.Bool.{and_from, and_parts, or_cases, eqb-true}
use Rattle.std.proofs.Math.Seq.{drop-append_seam}
use Rattle.std.proofs.lemmas.List.{length-append}
use Rattle.std.specs.Prelude.{◌-◌, ◌||◌, ◌==◌, length, take, drop, codes, nat_eq}
use Rattle.std.specs.List.{starts_with, ends_with}
use Rattle.std.specs.Cmp.Lexicographic.{pointwise}
use Rattle.fsfs_folders.specs.System.Paths.{is_below}
use Rattle.fsfs_folders.specs.System.CallRecord.{is_reachable}
use Rattle.fsfs_folders.proofs.PathLemmas.{or_right}
use Rattle.fsfs_folders.proofs.NameLemmas.{reachable_still}
use Rattle.fsfs_folders.specs.Told.{is_beside, is_in_bench, is_apart}

-- a name that was given the ending is beside
pub beside_ends : (name : List ℕ) → is_beside (name ++ codes ".beside") ≡ true
beside_ends name =
    let place : length (name ++ codes ".beside") - length (codes ".beside") ≡ length name = omega (arith, length-append name (codes ".beside")) in
    ap (λ k. pointwise nat_eq (codes ".beside") (drop k (name ++ codes ".beside"))) place
    ∙ ap (λ (xs : List ℕ). pointwise nat_eq (codes ".beside") xs) (drop-append_seam name (codes ".beside"))

pub beside_apart : (path : List ℕ) → is_beside path ≡ true → is_apart path ≡ true
unfolding is_apart
beside_apart path e = ap (λ b. b || is_in_bench path) e

pub bench_apart : (path : List ℕ) → is_in_bench path ≡ true → is_apart path ≡ true
unfolding is_apart
bench_apart path e = or_right (is_beside path) (is_in_bench path) e

-- what is below a path begins as it does
starts_below : (needle path q : List ℕ) → starts_with nat_eq path needle ≡ true → is_below path q ≡ true → starts_with nat_eq q needle ≡ true
starts_below [] path q starts below = refl
starts_below (n ∷ ns) [] q starts below = let h : false ≡ true = starts in cc
starts_below (n ∷ ns) (p ∷ ps) [] starts below = let h : false ≡ true = below in cc
starts_below (n ∷ ns) (p ∷ ps) (c ∷ cs) starts below =
    let s : (nat_eq n p ≡ true) × (starts_with nat_eq ps ns ≡ true) = and_parts (nat_eq n p) (starts_with nat_eq ps ns) starts in
    let b : ((p == c) ≡ true) × (is_below ps cs ≡ true) = and_parts (p == c) (is_below ps cs) below in
    and_from (nat_eq n c) (starts_with nat_eq cs ns) (ap (λ d. nat_eq n d) (sym (eqb-true p c b.0)) ∙ s.0) (starts_below ns ps cs s.1 b.1)

either : (x y : Bool) (q : Bool) → (x ≡ true → q ≡ true) → (y ≡ true → q ≡ true) → (x || y) ≡ true → q ≡ true
either x y q f g e = ⊎_elim f g (or_cases x y e)

or_left : (x y : Bool) → x ≡ true → (x || y) ≡ true
or_left true y e = refl
or_left false y e = let h : false ≡ true = e in cc

-- what is below the folder of a bench is in a bench
pub in_bench_below : (path q : List ℕ) → is_in_bench path ≡ true → is_below path q ≡ true → is_in_bench q ≡ true
unfolding is_in_bench
in_bench_below path q bench below =
    let at : List ℕ → Bool = λ text. starts_with nat_eq path text in
    let to : List ℕ → Bool = λ text. starts_with nat_eq q text in
    let txns = codes "db/transactions/" in
    let protos = codes "db/txn-protorevs/" in
    let packs = codes "db/pack-" in
    let copies = codes "db/copy.bench" in
    either (at txns) (at protos || (at packs || at copies)) (to txns || (to protos || (to packs || to copies)))
    (λ s. or_left (to txns) (to protos || (to packs || to copies)) (starts_below txns path q s below))
    (λ m. or_right (to txns) (to protos || (to packs || to copies)) (either (at protos) (at packs || at copies) (to protos || (to packs || to copies))
    (λ s. or_left (to protos) (to packs || to copies) (starts_below protos path q s below))
    (λ l. or_right (to protos) (to packs || to copies) (either (at packs) (at copies) (to packs || to copies)
    (λ s. or_left (to packs) (to copies) (starts_below packs path q s below))
    (λ s. or_right (to packs) (to copies) (starts_below copies path q s below)) l)) m))
    bench

root_outside : is_in_bench [] ≡ false
unfolding is_in_bench
root_outside = refl

-- a path outside the benches is reachable by folders outside them
pub reachable_outside : (folders more : List ℕ → Bool) (q : List ℕ) → is_apart q ≡ false → ((p : List ℕ) → is_in_bench p ≡ false → more p ≡ folders p) → is_reachable folders q ≡ true → is_reachable more q ≡ true
reachable_outside folders more q plain same e =
    reachable_still folders more q (λ p below h. same p (outside p below) ∙ h) (λ h. same [] root_outside ∙ h) e
  where
    by_test : (b : Bool) → (b ≡ true → ⊥) → b ≡ false
    by_test true h = absurd (h refl)
    by_test false h = refl

    outside : (p : List ℕ) → is_below p q ≡ true → is_in_bench p ≡ false
    outside p below = by_test (is_in_bench p) (λ bench. let h : true ≡ false = sym (bench_apart q (in_bench_below p q bench below)) ∙ plain in cc)
