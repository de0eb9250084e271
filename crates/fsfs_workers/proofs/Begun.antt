-- What workers need of the first pass of a repository that was just opened, and what they come to.
use Rattle.std.proofs.Common.{◌≡◌, ℕ, zero, suc, arith, List, [], length, true, false, refl, sym, ap, subst, ◌∙◌}
use Rattle.std.specs.Prelude.{Bool, Option, Some, None, IfSome, is_some, option_map}
use Rattle.fsfs_layout.specs.declared.layout.Layout.{Layout}
use Rattle.fsfs_disk.specs.Labels.{Label, Txn as TxnLabel, Pack, HotCopy}
use Rattle.fsfs_disk.specs.Trace.{Trace, Done, FirmNames, Performs, add_operation, labels_now}
use Rattle.fsfs_machine.specs.Machine.{revisions}
use Rattle.fsfs_turn.specs.Opening.{given_before}
use Rattle.fsfs_turn.specs.declared.since.Since.{Since}
use Rattle.fsfs_pass.specs.declared.seats.seat_view.SeatView.{SeatView}
use Rattle.fsfs_pass.specs.Met.{ground_of}
use Rattle.fsfs_pass.specs.OtherLabels.{IsAboveAll, KeepsOthersOf}
use Rattle.fsfs_pass.specs.Seats.{IsSitting}
use Rattle.fsfs_pass.specs.Tells.{TellsIt}
use Rattle.fsfs_job_run.specs.Known.{HoldBytes}
use Rattle.fsfs_job_run.specs.FirstPass.{SeesAllSo}
use Rattle.fsfs_script.specs.declared.job_lines.job.Job.{Job}
use Rattle.fsfs_jobs.specs.declared.answer.JobAnswer.{JobAnswer}
use Rattle.fsfs_workers.specs.Ready.{IsReady}
use Rattle.fsfs_workers.specs.ByWorkers.{IsFrom, KeepsEarlier, RanBeside, RanBesideOver, opened_with}

-- ---- the first pass: v is what its seat knows, over a disk that told `before`, and `told` when its names were made firm

module _ (packs : Bool) (before told : Option Trace) (v : SeatView) (firm : Performs FirmNames before told) (met : v.met ≡ told) (tells : TellsIt v) (seen : IfSome before (λ t. SeesAllSo packs t v)) where
  pub tells_it : v.told ≡ is_some told
  tells_it = sym tells.0 ∙ ap (λ o. is_some o) met

  pub sees : v.told ≡ true → (t : Trace) × SeesAllSo packs t v
  sees knows = at before firm seen
    where
      at : (o : Option Trace) → Performs FirmNames o told → IfSome o (λ t. SeesAllSo packs t v) → (t : Trace) × SeesAllSo packs t v
      at None f s = let no : v.told ≡ false = tells_it ∙ ap (λ o. is_some o) f in absurd cc
      at (Some t) f s = (t, s)

  pub is_ready : (layout : Layout) (low : ℕ) → IsSitting v → ground_of v ≡ record { layout = layout; low = low } → IsReady layout low (is_some told) v
  is_ready layout low sitting laid = record {
    sitting = sitting;
    laid = laid;
    met = tells.0;
    short = tells.2;
    disk = λ knows. sym tells_it ∙ knows;
    seen = tells.1;
    outside = λ knows. (sees knows).1.outside;
  }

  -- whether it may pack
  pub may_pack : v.told ≡ true → v.since.packs ≡ packs
  may_pack knows = ap (λ (n : Since). n.packs) (sees knows).1.since

  pub has_nothing : v.told ≡ true → (v.opened ≡ length v.seen) × (v.pass.mine ≡ []) × (v.pass.faults ≡ []) × HoldBytes v.since.files v.seen × (v.left ≡ None)
  has_nothing knows = let s = (sees knows).1 in (s.opened, s.mine, s.faults, subst (λ (n : Since). HoldBytes n.files v.seen) (sym s.since) s.bytes, s.left)

-- ---- what became of them

pub beside_over : (workers : ℕ) (packs : Option Bool) (before left : Option Trace) (v : SeatView) → IfSome before (λ t. SeesAllSo (is_some packs) t v) → is_some left ≡ v.told
    → (moment : ℕ) (js : List Job) (answers : List JobAnswer) (youngest : ℕ) → ((t : Trace) → left ≡ Some t → RanBeside moment v.since workers packs js answers youngest (revisions v.seen) (Some t)) → RanBesideOver moment workers packs js answers youngest before left
beside_over workers packs None left v seen same moment js answers youngest ran = tt
beside_over workers packs (Some t) left v seen same moment js answers youngest ran = (revisions v.seen, seen.stands, at left same ran)
  where
    at : (o : Option Trace) → is_some o ≡ v.told → ((z : Trace) → o ≡ Some z → RanBeside moment v.since workers packs js answers youngest (revisions v.seen) (Some z)) → RanBeside moment (opened_with packs t) workers packs js answers youngest (revisions v.seen) o
    at None none did = let tells = seen.told in absurd cc
    at (Some z) same did = subst (λ (n : Since). RanBeside moment n workers packs js answers youngest (revisions v.seen) (Some z)) seen.since (did z refl)

-- ---- the labels

-- a name that isn't above the names before a number is less than it
from_before : (n : ℕ) (packs : Bool) (l : Label) → (IsFrom n packs l → ⊥) → IsAboveAll packs (given_before n) l → ⊥
from_before zero packs (TxnLabel base name) other above = other (omega arith)
from_before (suc n) packs (TxnLabel base name) other above = let less = above.0 in other (omega (arith, less))
from_before n packs (Pack shard) other above = other above
from_before n packs HotCopy other above = above

-- those that the table left as they were, where it began behind the opening
pub keeps_earlier : (n : ℕ) (may packs : Bool) (names : List ℕ) (before told began left : Option Trace) → Performs FirmNames before told → began ≡ told → IfSome before (λ t. (names ≡ given_before n) × (packs ≡ may)) → KeepsOthersOf packs names began left → KeepsEarlier n may (option_map labels_now before) (option_map labels_now left)
keeps_earlier n may packs names None told began left firm is given keeps = tt
keeps_earlier n may packs names (Some t) told began None firm is given keeps = tt
keeps_earlier n may packs names (Some t) told began (Some z) firm is given keeps = λ l other.
    (subst (λ (y : Bool × List ℕ). KeepsOthersOf y.0 y.1 (Some (add_operation (Done FirmNames) t)) (Some z)) (λ i. (given.1 i, given.0 i)) (subst (λ o. KeepsOthersOf packs names o (Some z)) (is ∙ firm) keeps)) l (from_before n may l other)
