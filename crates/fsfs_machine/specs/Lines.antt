-- Revisions with the bytes beside them.
use Rattle.std.specs.Prelude.{ℕ, List, [], ◌∷◌}
use Rattle.std.proofs.Common.{refl}
use Rattle.std.specs.Coded.{Coded, code_by, coded×, coded_ℕ, coded_list}
use Rattle.fsfs_tree.specs.Codes.{coded_revision}
use Rattle.fsfs_tree.specs.Revisions.{Revision}
use Rattle.fsfs_machine.specs.declared.machine.Recorded.{Recorded}

abbrev pub recorded_with : List Revision → List (List ℕ) → List Recorded
recorded_with [] bytes = []
recorded_with (x ∷ xs) [] = []
recorded_with (x ∷ xs) (b ∷ bytes) = record { revision = x; bytes = b } ∷ recorded_with xs bytes

abbrev pub coded_recorded : Coded Recorded
coded_recorded = code_by (Revision × List ℕ) (coded× coded_revision (coded_list coded_ℕ)) (λ x. (x.revision, x.bytes)) (λ p. record { revision = p.0; bytes = p.1 }) (λ _. refl)
