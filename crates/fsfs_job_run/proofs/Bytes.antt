-- The bytes of the revisions that there were stay.
use Rattle.std.proofs.Common.{◌≡◌, ◌<◌, ◌≤◌, ℕ, List, length, ⊎_elim, sym, ap, ◌∙◌, arith}
use Rattle.std.specs.Prelude.{Option, Some, slice_get}
use Rattle.std.proofs.lemmas.Option.{slice_get_within}
use Rattle.fsfs_base.specs.Files.{Files}
use Rattle.fsfs_layout.specs.Opening.{SaysFormat, small_texts}
use Rattle.fsfs_layout.specs.declared.layout.Layout.{Layout}
use Rattle.fsfs_layout.specs.declared.small_files.format_file.FormatFile.TheVariants.{Known}
use Rattle.fsfs_revision.specs.RevBytes.{rev_bytes}
use Rattle.fsfs_machine.specs.declared.machine.Coming.{Coming}
use Rattle.fsfs_machine.specs.declared.machine.Recorded.{Recorded}
use Rattle.fsfs_machine.specs.Machine.{recorded, with_next}
use Rattle.fsfs_machine.proofs.Growing.{got_before}
use Rattle.fsfs_turn.specs.Past.{IsPart}
use Rattle.fsfs_turn.specs.Views.{Begins}
use Rattle.fsfs_turn.specs.Whole.{HasHistory}
use Rattle.fsfs_turn.proofs.Standings.{there_below}
use Rattle.fsfs_repo.specs.Known.{HoldBytes}
use Rattle.fsfs_repo.specs.SeenLemmas.{got_same}

-- In files m that have a part of the history which is no shorter than what there was: `before` are the files of then.
pub bytes_stay : (layout : Layout) (before m : Files) (was h g : List Recorded) (d : Option Coming) → SaysFormat (small_texts before) (Known layout) → HoldBytes before was → Begins h was → IsPart h d g → length was ≤ length g → HasHistory layout m g
    → (r : ℕ) → r < length was → rev_bytes layout m r ≡ rev_bytes layout before r
bytes_stay layout before m was h g d says had begins part long has r less =
    let x = there_below was r less in
    let in_h : slice_get h r ≡ Some x.0 = got_same was h r begins less ∙ x.1 in
    let in_g : slice_get g r ≡ Some x.0 = ⊎_elim
    (λ (b : Begins h g). sym (got_same g h r b (omega (arith, less, long))) ∙ in_h)
    (λ (y : (z : Coming) × (d ≡ Some z) × (g ≡ with_next h z)). ap (λ l. slice_get l r) y.2 ∙ got_before h (recorded y.0) r (slice_get_within h r x.0 in_h) ∙ in_h) part in
    (has.each r x.0 in_g).bytes ∙ sym (had layout says r x.0 x.1)
