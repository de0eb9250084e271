-- Two tests hold together where each holds.
use Rattle.std.proofs.Common.{Bool, true, false, ◌&&◌, T}

pub both_hold : (a b : Bool) → T a → T b → T (a && b)
both_hold true b p q = q
both_hold false b p q = p

pub left_holds : (a b : Bool) → T (a && b) → T a
left_holds true b p = tt
left_holds false b p = p

pub right_holds : (a b : Bool) → T (a && b) → T b
right_holds true b p = p
right_holds false b p = absurd p
