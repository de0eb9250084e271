-- Where a check finds nothing wrong, no text of the history is a delta.
use Rattle.std.proofs.Common.{◌≡◌, ◌∙◌, ℕ, List, length, ⊎_elim, sym, arith}
use Rattle.std.proofs.lemmas.Option.{slice_get_cases, slice_get_within}
use Rattle.fsfs_tree.specs.Revisions.{Revision}
use Rattle.fsfs_revision.specs.RevBytes.{props_bytes, rev_bytes}
use Rattle.fsfs_stands.specs.Same.{AreSameRevisions}
use Rattle.fsfs_stands.proofs.OneHistory.{one_history}
use Rattle.fsfs_sound.specs.OpenTexts.{HasOpenTexts}
use Rattle.fsfs_check.specs.Open.{SoundHistoriesAreOpen}

-- the same revisions have the same texts
same_open : (g h : List Revision) → length g ≡ length h → AreSameRevisions g h → HasOpenTexts g → HasOpenTexts h
same_open g h long same open_texts = λ r revision p n at there.
    let within = slice_get_within h r revision at in
    ⊎_elim (λ found. open_texts r found.0 p n found.2 ((same r found.0 revision found.2 at).tree p ∙ there)) (λ past. absurd (omega (arith, past.0, within, long))) (slice_get_cases g r).1

pub sound_is_open : SoundHistoriesAreOpen
sound_is_open files youngest h done stands long found = same_open found.history h (found.count ∙ sym long) (one_history (rev_bytes stands.opened.layout files) (props_bytes stands.opened.layout files) found.history h found.shown stands.history) found.open_texts
