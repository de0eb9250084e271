-- What a merge does at a path, by what both sides changed there and by what is read.
use Rattle.std.proofs.Common.{◌≡◌, Bool, true, false, ◌&&◌, not, Option, Some, None, refl, ap}
use Rattle.std.specs.Prelude.{is_some}
use mathlib.Core.Bool.{false≢true}
use Rattle.std.proofs.lemmas.Bool.{and_from}
use Rattle.fsfs_merge.specs.Walks.{merges, is_stopped}
use Rattle.fsfs_merge.specs.declared.clash.three.Target.{Target}
use Rattle.fsfs_merge.specs.Clash.Points.{sight_with}
use Rattle.fsfs_merge.specs.Clash.Threes.{changed_in}

-- where one side has what the base has, or one has nothing beside the base's nothing, the walk neither goes down nor stops
pub unchanged : (x y v : Option Target) (down : Bool) → changed_in x y v ≡ false → (merges (sight_with x y v down) ≡ false) × (is_stopped (sight_with x y v down) ≡ false)
unchanged None y v down h = (refl, h)
unchanged (Some x) y v down h = (ap (λ (z : Bool). z && down) h, ap (λ (z : Bool). z && not (down && down)) h)

-- three directories of which the entries were read are merged
pub merged : (x y v : Option Target) (down : Bool) → is_some x ≡ true → changed_in x y v ≡ true → down ≡ true → (merges (sight_with x y v down) ≡ true) × (is_stopped (sight_with x y v down) ≡ false)
merged None y v down s h e = absurd (false≢true s)
merged (Some x) y v down s h e = (and_from _ _ h e, λ i. h i && not (e i && e i))

-- all else stops the walk
pub stopped : (x y v : Option Target) (down : Bool) → changed_in x y v ≡ true → down ≡ false → is_stopped (sight_with x y v down) ≡ true
stopped None y v down h e = h
stopped (Some x) y v down h e = λ i. h i && not (e i && e i)
