-- What a read tells, by its answer.
use Rattle.std.proofs.Common.{◌≡◌, ◌<◌, ◌^◌, ℕ, List, true, false, refl, sym, ap, subst, ◌∙◌}
use Rattle.std.specs.Prelude.{Option, Some, None, Bool, Result, IfOk, IfSome, is_some, is_err, option_map, slice_get}
use Rattle.fsfs_layout.specs.Hash.Dump.{IsDump}
use Rattle.fsfs_layout.specs.FileNames.{only_name}
use Rattle.fsfs_layout.specs.Small.{IsRevLine}
use Rattle.fsfs_layout.specs.declared.only_file.OnlyFile.TheVariants.{MinUnpackedRev, TxnCurrent}
use Rattle.fsfs_disk.specs.Trace.{Trace, file_at, files_now, IsRead}
use Rattle.fsfs_machine.specs.declared.machine.Recorded.{Recorded}
use Rattle.fsfs_machine.specs.declared.machine.Went.{Went}
use Rattle.fsfs_turn.specs.Past.{IsWhole}
use Rattle.fsfs_turn.specs.Views.{props_name, Answers}
use Rattle.fsfs_turn.specs.Learning.{PropsRead, FloorRead, ReadsCounter}
use Rattle.fsfs_pass.specs.declared.seats.seat_view.SeatView.{SeatView}
use Rattle.fsfs_pass.specs.Seats.{view_of}
use Rattle.fsfs_pass.specs.Met.{seat_store}
use Rattle.fsfs_pass.specs.Tells.{IsMet}
use Rattle.fsfs_pass.specs.SeatCalls.Made.{went_of}
use Rattle.fsfs_pass.specs.SeatCalls.Tells.{ReadBy, DrawnBy}
use Rattle.fsfs_pass.proofs.Answering.{answers_so, ended_still}
use Rattle.fsfs_pass.proofs.Meeting.{met_props}

-- what the pass is told of the disk that it takes
abbrev pub Taken : SeatView → Option Trace → Type 0
Taken me told = (t : Trace) × (told ≡ Some t) × IsMet me t

pub taken_so : (me : SeatView) (told : Option Trace) → me.told ≡ is_some told → ((t : Trace) → told ≡ Some t → IsMet me t) → me.told ≡ true → Taken me told
taken_so me None is met tells = let e : true ≡ false = sym tells ∙ is in absurd cc
taken_so me (Some t) is met tells = (t, refl, met t refl)

some_of : {A : Type 0} (P : A → Type 0) (o : Option A) (x : A) → o ≡ Some x → IfSome o P → P x
some_of P o x is k = subst (λ o. IfSome o P) is k

module _ {E : Type 0} (failed : Bool) (me u : SeatView) (told left : Option Trace) (taken : Taken me told) (same : left ≡ told) (name old new : List ℕ) (offset : ℕ) (result : Result (Option ℕ) E) (is : failed ≡ is_err result)
    (read : IfSome told (λ t. IfOk result (IsRead (file_at t name) offset old new))) (by : ReadBy name left (went_of failed) (view_of me) (view_of u)) where
  abbrev went : Went
  went = went_of failed

  answers : Answers result went
  answers = answers_so failed result went is (ended_still failed)

  -- what is read are the bytes of this file
  reads : (t : Trace) → told ≡ Some t → (bytes : List ℕ) → file_at t name ≡ Some bytes → IfOk result (IsRead (Some bytes) offset old new)
  reads t is bytes there = subst (λ f. IfOk result (IsRead f offset old new)) there (some_of (λ t. IfOk result (IsRead (file_at t name) offset old new)) told t is read)

  pub props_tell : (r : ℕ) (x : Recorded) → slice_get me.seen r ≡ Some x → r < 2 ^ 32 → name ≡ props_name (view_of me) r
      → (went : Went) × (text : List ℕ) × Answers result went × PropsRead r x went (view_of me) (view_of u) × IsDump text x.revision.properties × IfOk result (IsRead (Some text) offset old new)
  props_tell r x there fits named = let f = met_props me taken.0 taken.2 r x there fits name named in (went, f.0, answers, by.properties r x there fits named, f.2, reads taken.0 taken.1 f.0 f.1)

  pub floor_tells : name ≡ only_name MinUnpackedRev
      → (went : Went) × (floor : ℕ) × (text : List ℕ) × Answers result went × FloorRead floor went (view_of me) (view_of u) × IsWhole me.layout floor × IsRevLine text floor × IfOk result (IsRead (Some text) offset old new)
  floor_tells named = let k = by.floor named in (went, k.floor, k.text, answers, k.read, k.whole, k.line, reads k.trace (sym same ∙ k.told_is) k.text (ap (λ n. file_at k.trace n) named ∙ k.there))

-- ---- a begin's first call

-- what is read is the line of a number, in the file as it is told then
pub drawn_tells : {E : Type 0} (failed : Bool) (base : ℕ) (me u : SeatView) (told left : Option Trace) (name old new : List ℕ) (result : Result (Option ℕ) E) → failed ≡ is_err result → left ≡ told → u.met ≡ left → name ≡ only_name TxnCurrent
    → IfSome told (λ t. IfOk result (IsRead (file_at t name) 0 old new)) → DrawnBy base left (went_of failed) (view_of me) (view_of u) → ReadsCounter (λ x. x ≡ view_of u) (seat_store u).files base result old new (view_of me)
drawn_tells failed base me u told left name old new result is same met named read k = record {
  text = k.text;
  number = k.number;
  line = k.line;
  files = files_now k.trace;
  files_are = ap (λ o. option_map files_now o) (met ∙ k.told_is);
  there = k.there;
  read = subst (λ f. IfOk result (IsRead f 0 old new)) (ap (λ n. file_at k.trace n) named ∙ k.there) (some_of (λ t. IfOk result (IsRead (file_at t name) 0 old new)) told k.trace (sym same ∙ k.told_is) read);
  turned = λ few. (view_of u, went_of failed, refl, answers_so failed result (went_of failed) is (ended_still failed), k.turned few);
  full = λ many. sym (k.full many);
}
