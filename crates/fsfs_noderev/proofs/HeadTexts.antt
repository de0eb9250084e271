-- The first line is read exactly.
use Rattle.std.proofs.Common.{ℕ, List, Some, refl, ap, arith}
use Rattle.std.proofs.lemmas.Option.{same_Some}
use Rattle.fsfs_base.specs.Grammar.Cuts.{Lacks}
use Rattle.fsfs_base.proofs.Spelling.{Spells, cut_spells}
use Rattle.fsfs_noderev.specs.Ids.{IdValue, IsId}
use Rattle.fsfs_noderev.proofs.IdTexts.{id_spells, id_lacks}
use Rattle.fsfs_noderev.specs.Changes.Reading.{IsRest, IsHead, head_at}
use Rattle.fsfs_noderev.proofs.WordTexts.{flag_spells, action_and_kind_spells, flag_lacks, action_and_kind_lacks_space}

id_has_no_space : (t : List ℕ) (id : IdValue) → IsId t id → Lacks 32 t
id_has_no_space = id_lacks 32 (record { above = omega arith; underscore = refl; dash = refl; dot = refl; slash = refl; r = refl; t = refl })

rest_spells : Spells IsRest (λ t. Some t)
rest_spells = record { found = λ text x e. same_Some text x e; again = λ text x g. ap (λ (t : List ℕ). Some t) g }

pub head_spells : Spells IsHead head_at
unfolding head_at
head_spells =
    let flags = cut_spells 32 (flag_lacks 32 refl refl) flag_spells (cut_spells 32 (flag_lacks 32 refl refl) flag_spells rest_spells) in
    cut_spells 32 id_has_no_space id_spells (cut_spells 32 action_and_kind_lacks_space action_and_kind_spells flags)
