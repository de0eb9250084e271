-- The bytes beside the revisions that a pass has seen show them.
use Rattle.std.proofs.Common.{◌≡◌, ◌<◌, List, [], ◌∷◌, ◌++◌, length, take, refl, ap, subst, ◌∙◌, arith}
use Rattle.std.proofs.lemmas.List.{take_all}
use Rattle.fsfs_machine.specs.declared.machine.Recorded.{Recorded}
use Rattle.fsfs_turn.specs.Bytes.{BytesShow, AllShow}
use Rattle.fsfs_turn.specs.Views.{Begins}

pub seen_shows : (h : List Recorded) → AllShow h → 0 < length h → BytesShow h
seen_shows h all some = subst BytesShow (take_all (length h) h (omega arith)) (all (length h) some)

-- ---- a first part

take_none : (h : List Recorded) → take 0 h ≡ []
take_none [] = refl
take_none (x ∷ h) = refl

take_front : (part more : List Recorded) → take (length part) (part ++ more) ≡ part
take_front [] more = take_none more
take_front (x ∷ part) more = ap (λ (h : List Recorded). x ∷ h) (take_front part more)

pub part_shows : (h part : List Recorded) → AllShow h → Begins h part → 0 < length part → BytesShow part
part_shows h part all begins some = subst BytesShow (ap (λ (l : List Recorded). take (length part) l) begins.1 ∙ take_front part begins.0) (all (length part) some)
