-- What the pass of a store with one owner knows: it was told no more than it has seen.
use Rattle.std.proofs.Common.{◌≡◌, ◌<◌, ◌+◌, ℕ, suc, zero, List, [], ◌∷◌, length, subst, arith}
use Rattle.std.specs.Prelude.{Option, Some, None, slice_get}
use Rattle.fsfs_layout.specs.declared.layout.Layout.{Layout}
use Rattle.fsfs_disk.specs.Trace.{Trace}
use Rattle.fsfs_base.specs.declared.places.place.DiskPlace.{DiskPlace}
use Rattle.fsfs_machine.specs.declared.machine.Pass.{Pass}
use Rattle.fsfs_machine.specs.Kept.{AreSeen, most_floor, may_rise}
use Rattle.fsfs_turn.specs.Standing.{Knows}
use Rattle.fsfs_turn.specs.Alone.{KnowsAlone}
use Rattle.fsfs_turn.specs.Views.{View}
use Rattle.fsfs_job_run.proofs.Ends.{IsLone}

least_below : (n low most : ℕ) (xs : List Pass) (k : ℕ) (x : Pass) → AreSeen n low most xs → slice_get xs k ≡ Some x → x.least < n
least_below n low most [] k x seen at = let no : None ≡ Some x = at in absurd cc
least_below n low most (y ∷ xs) zero x seen at = let same : y ≡ x = (let e : Some y ≡ Some x = at in cc) in subst (λ (z : Pass). z.least < n) same seen.0.least
least_below n low most (y ∷ xs) (suc k) x seen at = least_below n low most xs k x seen.1 at

told_there : (layout : Layout) (low young : ℕ) (stuck : Option DiskPlace) (told : Option Trace) (u : View) → Knows layout low young stuck told u → length u.seen ≡ young + 1 → u.pass.least < length u.seen
told_there layout low young stuck None u known all = absurd known
told_there layout low young stuck (Some t) u known all =
    let up : known.0.young + 1 ≡ length known.0.history = known.1.kept.young known.2.up in
    let below = least_below (length known.0.history) known.0.low (most_floor (may_rise known.0.lock) known.0.size known.0.floor) known.0.passes u.number u.pass known.1.kept.seen known.2.pass in
    omega (arith, up, below, known.1.young_is, all)

number_there : (layout : Layout) (low young : ℕ) (stuck : Option DiskPlace) (told : Option Trace) (u : View) → Knows layout low young stuck told u → u.number ≡ 0
number_there layout low young stuck None u known = absurd known
number_there layout low young stuck (Some t) u known = known.4

pub is_lone : (layout : Layout) (low young : ℕ) (stuck : Option DiskPlace) (told : Option Trace) → IsLone (KnowsAlone layout low young stuck told)
is_lone layout low young stuck told = record {
  all = λ u known. known.1.own;
  told = λ u known. told_there layout low young stuck told u known.0 known.1.all;
  number = λ u known. number_there layout low young stuck told u known.0;
}
