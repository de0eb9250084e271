-- A read, as reading alone.
use Rattle.std.proofs.Common.{◌≡◌, ℕ, [], length, Bool, true, false, refl, sym, ap, subst, ◌∙◌}
use Rattle.std.specs.Prelude.{Option, Some, None, if◌then◌else◌, slice_get}
use Rattle.fsfs_base.specs.declared.places.place.DiskPlace.TheVariants as place
use Rattle.fsfs_machine.specs.declared.machine.Outcome.{Outcome}
use Rattle.fsfs_machine.specs.declared.machine.Outcome.TheVariants as outcome
use Rattle.fsfs_machine.specs.declared.machine.Pass.{Pass}
use Rattle.fsfs_machine.specs.declared.machine.Section.{Section}
use Rattle.fsfs_machine.specs.declared.machine.Step.{Step}
use Rattle.fsfs_machine.specs.declared.machine.Step.TheVariants as step
use Rattle.fsfs_machine.specs.declared.machine.Went.{Went}
use Rattle.fsfs_machine.specs.declared.machine.Went.TheVariants.{Fine, Before, After, Torn}
use Rattle.fsfs_machine.specs.Machine.{World, Did, answer, either, floor_read, sees_floor}
use Rattle.fsfs_machine.specs.Kept.{rises}
use Rattle.fsfs_turn.specs.Alone.{BringsNoDoubt}
use Rattle.fsfs_turn.specs.Courses.{ReadOnly, End, More}
use Rattle.fsfs_turn.specs.Learning.{TurnedFrom, FloorRead}
use Rattle.fsfs_turn.specs.Packing.{DoneBeside}
use Rattle.fsfs_turn.specs.Views.{View, Turned, with_txns, firm_read}
use Rattle.fsfs_turn.proofs.Doubts.{same_faults, fault_more}

bare : (s : Step) (o : Outcome) (v u : View) → TurnedFrom (with_txns []) s o v u → Turned [] s o v u
bare s o v u t = record { world = t.world; kept = t.kept; sees = t.sees; did = t.did; happens = t.happens; answers = t.answers; after = t.after; leaves = t.leaves }

-- of the pass only these were changed
abbrev Same : View → View → Type 0
Same v u = u ≡ record v { pass = record v.pass { seen = u.pass.seen; faults = u.pass.faults; floor = u.pass.floor }; seen = u.seen; firm = u.firm }

-- ---- the floor

-- reading it leaves the firm one
floor_stays : (w : World) (p : ℕ) (went : Went) (o : Option Pass) (d : Did) → d ≡ floor_read w p went o → d.world.floor ≡ w.floor
floor_stays w p went None d is = ap (λ (x : Did). x.world.floor) is
floor_stays w p went (Some x) d is = ap (λ (x : Did). x.world.floor) is

-- in a section that doesn't raise it, it is what the pass knew to be firm
firm_on : (floor : ℕ) (went : Went) (v u : View) → FloorRead floor went v u → (f : ℕ) → v.firm ≡ Some f → u.firm ≡ Some f
firm_on floor went v u k f known = ap (λ (z : View). z.firm) k.is ∙ by_section v.section refl
  where
    firm_is : u.firm ≡ firm_read v.section went floor v.firm
    firm_is = ap (λ (z : View). z.firm) k.is

    inside : u.section ≡ v.section
    inside = ap (λ (z : View). z.section) k.is

    -- what stands there is the floor that was firm
    is_firm : (s : Section) → v.section ≡ Some s → u.firm ≡ Some floor → floor ≡ f
    is_firm s at told =
        sym (k.turned.leaves.firm s floor (inside ∙ at) told)
        ∙ floor_stays (with_txns [] k.turned.world) v.number went (slice_get k.turned.world.passes v.number) k.turned.did k.turned.happens
        ∙ k.turned.sees.firm s f at known

    by_rise : (b : Bool) (s : Section) → v.section ≡ Some s → rises s ≡ b → (u.firm ≡ (if b then v.firm else Some floor)) → (if b then v.firm else Some floor) ≡ Some f
    by_rise true s at rise is = known
    by_rise false s at rise is = ap (λ n. Some n) (is_firm s at is)

    by_went : (went : Went) (s : Section) → v.section ≡ Some s → u.firm ≡ firm_read (Some s) went floor v.firm → firm_read (Some s) went floor v.firm ≡ Some f
    by_went Fine s at is = by_rise (rises s) s at refl is
    by_went Before s at is = known
    by_went After s at is = known
    by_went (Torn any) s at is = known

    by_section : (o : Option Section) → v.section ≡ o → firm_read o went floor v.firm ≡ Some f
    by_section None at = known
    by_section (Some s) at = by_went went s at (firm_is ∙ ap (λ o. firm_read o went floor v.firm) at)

same_then : (floor n : ℕ) (went : Went) (firm : Option ℕ) (v u : View) → Same v (record v { pass = sees_floor n went (Some floor) v.pass; seen = u.seen; firm = firm })
same_then floor n Fine firm v u = refl
same_then floor n Before firm v u = refl
same_then floor n After firm v u = refl
same_then floor n (Torn any) firm v u = refl

doubtless : (floor : ℕ) (went : Went) (v u : View) → FloorRead floor went v u → BringsNoDoubt v u
doubtless floor Fine v u k = same_faults v u (ap (λ (z : View). z.pass.faults) k.is)
doubtless floor Before v u k = fault_more place.Read v u (ap (λ (z : View). z.pass.faults) k.is) refl
doubtless floor After v u k = fault_more place.Read v u (ap (λ (z : View). z.pass.faults) k.is) refl
doubtless floor (Torn any) v u k = fault_more place.Read v u (ap (λ (z : View). z.pass.faults) k.is) refl

pub reads_only : (floor : ℕ) (went : Went) (v u : View) → FloorRead floor went v u → ReadOnly v u
reads_only floor went v u k = record {
  is = subst (λ (z : View). Same v z) (sym k.is) (same_then floor (length u.seen) went (firm_read v.section went floor v.firm) v u);
  grows = k.grows;
  firm = firm_on floor went v u k;
  doubtless = doubtless floor went v u k;
  shown = k.shown;
  within = λ sure le. k.within sure;
  course = More [] (step.ReadFloor v.number went) (either went (outcome.Floor floor) outcome.Failed) v u u (bare (step.ReadFloor v.number went) (either went (outcome.Floor floor) outcome.Failed) v u k.turned) (End u);
}

-- ---- another file

beside_doubtless : (went : Went) (v u : View) → DoneBeside place.Read went v u → BringsNoDoubt v u
beside_doubtless Fine v u k = same_faults v u (ap (λ (z : View). z.pass.faults) k.is)
beside_doubtless Before v u k = fault_more place.Read v u (ap (λ (z : View). z.pass.faults) k.is) refl
beside_doubtless After v u k = fault_more place.Read v u (ap (λ (z : View). z.pass.faults) k.is) refl
beside_doubtless (Torn any) v u k = fault_more place.Read v u (ap (λ (z : View). z.pass.faults) k.is) refl

pub beside_only : (went : Went) (v u : View) → DoneBeside place.Read went v u → ReadOnly v u
beside_only went v u k = record {
  is = subst (λ (z : View). Same v z) (sym k.is) refl;
  grows = k.grows;
  firm = λ f known. ap (λ (z : View). z.firm) k.is ∙ known;
  doubtless = beside_doubtless went v u k;
  shown = k.shown;
  within = λ sure le. k.within sure;
  course = More [] (step.Beside v.number place.Read went) (answer went) v u u (bare (step.Beside v.number place.Read went) (answer went) v u k.turned) (End u);
}
