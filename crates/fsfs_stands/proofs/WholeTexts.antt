-- Texts beside a whole one.
use Rattle.std.proofs.Common.{◌≡◌, ℕ, List, sym, inl, inr}
use Rattle.fsfs_stands.specs.Texts.{End, Whole, Refused, Stopped}
use Rattle.fsfs_stands.specs.Agreeing.{Agree}
use Rattle.fsfs_stands.specs.ByTree.{IsOf}

-- what agrees with a whole text is that, or a first part of it
pub of_agree : (whole text : List ℕ) (end : End) → Agree whole Whole text end → IsOf whole text end
of_agree whole text Whole (inl (e, f)) = sym e
of_agree whole text (Refused fault) (inl (e, f)) = absurd cc
of_agree whole text Stopped (inl (e, f)) = absurd cc
of_agree whole text end (inr (inl (f, front))) = absurd cc
of_agree whole text Whole (inr (inr (f, front))) = absurd cc
of_agree whole text (Refused fault) (inr (inr (f, front))) = absurd cc
of_agree whole text Stopped (inr (inr (f, front))) = front
