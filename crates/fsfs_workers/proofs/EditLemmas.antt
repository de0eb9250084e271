-- What a book over a pass tells of a first part of what the pass has seen.
use Rattle.std.proofs.Common.{◌≡◌, ◌<◌, ◌≤◌, ◌+◌, ℕ, List, length, sym, ap, ◌∙◌, arith}
use Rattle.std.specs.Prelude.{Some}
use Rattle.fsfs_revision.specs.Told.{Knows, Telling}
use Rattle.fsfs_tree.specs.Dated.{last_of}
use Rattle.fsfs_machine.specs.declared.machine.Recorded.{Recorded}
use Rattle.fsfs_machine.specs.Machine.{revisions}
use Rattle.fsfs_turn.specs.Bytes.{AllShow, BytesShow, bytes_of}
use Rattle.fsfs_turn.specs.Views.{View}
use Rattle.fsfs_job_run.specs.SeenLemmas.{bytes_same}
use Rattle.fsfs_turn.specs.Seen.{TellsUpTo}
use Rattle.fsfs_turn.proofs.Moments.{begins_take}
use Rattle.fsfs_job_run.proofs.Shown.{part_shows}
use Rattle.fsfs_workers.specs.Working.{up_to}
use Rattle.fsfs_workers.proofs.Lines.{last_is}
use Rattle.fsfs_workers.proofs.Parts.{part_length}

-- of a pass that has seen what it had seen before it was told the youngest revision
module _ (v : View) (last : ℕ) (less : last < length v.seen) where
  long : length (up_to last v) ≡ last + 1
  long = part_length last v.seen less

  pub part_some : 0 < length (up_to last v)
  part_some = omega (arith, long)

  pub part_shown : AllShow v.seen → BytesShow (up_to last v)
  part_shown all = part_shows v.seen (up_to last v) all (begins_take (last + 1) v.seen) part_some

  pub part_last : last_of (revisions (up_to last v)) ≡ last
  part_last = last_is (up_to last v) last long

  module _ {Below : Type 0} (m : View) (top : ℕ) (told : Telling Below) (same : m.seen ≡ v.seen) (at : top ≡ last) (up : TellsUpTo top m told) where
    pub part_known : Knows told.revs (last_of (revisions (up_to last v))) (bytes_of (up_to last v))
    part_known r le =
        let within : r ≤ last = omega (arith, le, part_last) in
        let all : length m.seen ≡ length v.seen = ap (λ (h : List Recorded). length h) same in
        up.revs r (omega (arith, within, at)) (omega (arith, within, less, all)) ∙ ap (λ (h : List Recorded). Some (bytes_of h r)) same
        ∙ ap (λ b. Some b) (sym (bytes_same (up_to last v) v.seen r (begins_take (last + 1) v.seen) (omega (arith, within, long))))

    pub part_youngest : told.youngest ≡ Some (last_of (revisions (up_to last v)))
    part_youngest = up.youngest ∙ ap (λ (n : ℕ). Some n) (at ∙ sym part_last)
