-- How many calls failed of all that the seats made, of the disk and of benches; and a disk that is later than a later one is later.
use Rattle.std.proofs.Common.{◌≡◌, ◌≤◌, ◌+◌, ℕ, suc, zero, List, [], ◌∷◌, ◌++◌, refl, sym, ap, subst, ◌∙◌, arith}
use Rattle.std.specs.Prelude.{◌-◌, ◌^◌, min, slice_set}
use mathlib.Core.Option.{some, some-injective, some-ne-none}
use lib.ListN.{get_elem?}
use Rattle.fsfs_disk.specs.Seen.{DiskSeen, IsLater}
use Rattle.fsfs_pass.specs.declared.seats.seat_view.SeatView.{SeatView}
use Rattle.fsfs_pass.specs.Rule.{sum_in}

-- ---- the seats

module _ (count : SeatView → ℕ) where
  sum_set : (views : List SeatView) (id : ℕ) (me u : SeatView) → get_elem? views id ≡ some me → sum_in count (slice_set views id u) + count me ≡ sum_in count views + count u
  sum_set [] id me u e = absurd (some-ne-none me (sym e))
  sum_set (x ∷ xs) zero me u e = let same : count x ≡ count me = ap count (some-injective x me e) in omega (arith, same)
  sum_set (x ∷ xs) (suc id) me u e = let rest = sum_set xs id me u e in omega (arith, rest)

  sum_end : (views : List SeatView) (v : SeatView) → sum_in count (views ++ v ∷ []) ≡ sum_in count views + count v
  sum_end [] v = omega arith
  sum_end (x ∷ xs) v = let rest = sum_end xs v in omega (arith, rest)

  pub sum_of_one : (views : List SeatView) (id : ℕ) (me : SeatView) → get_elem? views id ≡ some me → count me ≤ sum_in count views
  sum_of_one [] id me e = absurd (some-ne-none me (sym e))
  sum_of_one (x ∷ xs) zero me e = let same : count x ≡ count me = ap count (some-injective x me e) in omega (arith, same)
  sum_of_one (x ∷ xs) (suc id) me e = let rest = sum_of_one xs id me e in omega (arith, rest)

  -- where n more failed of one seat
  pub sum_more : (views : List SeatView) (id : ℕ) (me u : SeatView) (n : ℕ) → get_elem? views id ≡ some me → count u ≡ count me + n → sum_in count (slice_set views id u) ≡ sum_in count views + n
  sum_more views id me u n at more = let all = sum_set views id me u at in omega (arith, all, more)

  pub sum_same : (views : List SeatView) (id : ℕ) (me u : SeatView) → get_elem? views id ≡ some me → count u ≡ count me → sum_in count (slice_set views id u) ≡ sum_in count views
  sum_same views id me u at same = let all = sum_set views id me u at in omega (arith, all, same)

  -- a seat more, of which none failed
  pub sum_split : (views : List SeatView) (id : ℕ) (me u new : SeatView) → get_elem? views id ≡ some me → count u ≡ count me → count new ≡ 0 → sum_in count (slice_set views id u ++ new ∷ []) ≡ sum_in count views
  sum_split views id me u new at same none = let all = sum_same views id me u at same in let end = sum_end (slice_set views id u) new in omega (arith, all, end, none)

  -- one seat has those of two
  pub sum_joined : (views : List SeatView) (id other : ℕ) (me it u left : SeatView) → get_elem? views id ≡ some me → get_elem? (slice_set views id u) other ≡ some it → count u ≡ count me + count it → count left ≡ 0
      → sum_in count (slice_set (slice_set views id u) other left) ≡ sum_in count views
  sum_joined views id other me it u left at by both none =
      let one = sum_set views id me u at in
      let two = sum_set (slice_set views id u) other it left by in omega (arith, one, two, both, none)

abbrev pub failed : SeatView → ℕ
failed v = v.failures

abbrev pub bench_failed : SeatView → ℕ
bench_failed v = v.bench_failures

-- ---- the disk

least_then : (a b d n m c : ℕ) → min (a + n) c ≤ b → min (b + m) c ≤ d → min (a + (n + m)) c ≤ d
least_then a b d n m c one two = omega (arith, one, two)

least_less : (a b n m c : ℕ) → m ≤ n → min (a + n) c ≤ b → min (a + m) c ≤ b
least_less a b n m c le one = omega (arith, le, one)

least_itself : (a c : ℕ) → min (a + 0) c ≤ a
least_itself a c = omega arith

pub later_then : (n m p q : ℕ) (a b c : DiskSeen) → IsLater n p a b → IsLater m q b c → IsLater (n + m) (p + q) a c
later_then n m p q a b c x y = record {
  mounted = y.mounted ∙ x.mounted;
  later = (let one = x.later in let two = y.later in omega (arith, one, two));
  rose = least_then a.faults b.faults c.faults n m (2 ^ 64 - 1) x.rose y.rose;
  benches = least_then a.bench_faults b.bench_faults c.bench_faults p q (2 ^ 64 - 1) x.benches y.benches;
}

pub later_less : (n m p q : ℕ) (a b : DiskSeen) → m ≤ n → q ≤ p → IsLater n p a b → IsLater m q a b
later_less n m p q a b le few x = record {
  mounted = x.mounted;
  later = x.later;
  rose = least_less a.faults b.faults n m (2 ^ 64 - 1) le x.rose;
  benches = least_less a.bench_faults b.bench_faults p q (2 ^ 64 - 1) few x.benches;
}

pub later_itself : (a : DiskSeen) → IsLater 0 0 a a
later_itself a = record { mounted = refl; later = omega arith; rose = least_itself a.faults (2 ^ 64 - 1); benches = least_itself a.bench_faults (2 ^ 64 - 1) }

-- as many as that
pub later_as : (n m p q : ℕ) (a b : DiskSeen) → m ≡ n → q ≡ p → IsLater n p a b → IsLater m q a b
later_as n m p q a b same alike x = subst (λ k. IsLater k q a b) (sym same) (subst (λ k. IsLater n k a b) (sym alike) x)
