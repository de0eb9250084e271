-- Which calls bring no fault that leaves a revision in doubt.
use Rattle.std.proofs.Common.{◌≡◌, ℕ, List, [], ◌∷◌, ◌++◌, Bool, true, false, cond, refl, ap, ◌∙◌}
use Rattle.fsfs_base.specs.declared.places.place.DiskPlace.{DiskPlace}
use Rattle.fsfs_base.specs.declared.places.place.DiskPlace.TheVariants.{Read}
use Rattle.fsfs_machine.specs.declared.machine.Recorded.{Recorded}
use Rattle.fsfs_machine.specs.declared.machine.Step.{Step}
use Rattle.fsfs_machine.specs.declared.machine.Went.{Went}
use Rattle.fsfs_machine.specs.declared.machine.Went.TheVariants.{Fine, Before, After, Torn}
use Rattle.fsfs_machine.specs.Machine.{either}
use Rattle.fsfs_turn.specs.Alone.{BringsNoDoubt, are_harmless, leaves_stuck}
use Rattle.fsfs_turn.specs.Views.{View, Looked, LockTaken, FoundStuck, LockGiven}
use Rattle.fsfs_turn.specs.Learning.{PropsRead}

-- ---- lists of faults

-- one more of them
pub harmless_more : (places : List DiskPlace) (place : DiskPlace) → are_harmless places ≡ true → leaves_stuck place ≡ false → are_harmless (places ++ place ∷ []) ≡ true
harmless_more [] place few none = ap (λ b. cond b false true) none
harmless_more (x ∷ places) place few none = by_test (leaves_stuck x) few (λ less. harmless_more places place less none)
  where
    by_test : (b : Bool) → cond b false (are_harmless places) ≡ true → (are_harmless places ≡ true → are_harmless (places ++ place ∷ []) ≡ true) → cond b false (are_harmless (places ++ place ∷ [])) ≡ true
    by_test true e rest = absurd cc
    by_test false e rest = rest e

-- where the call at this place failed, or not
harmless_either : (went : Went) (places : List DiskPlace) (place : DiskPlace) → are_harmless places ≡ true → leaves_stuck place ≡ false → are_harmless (either went places (places ++ place ∷ [])) ≡ true
harmless_either Fine places place few none = few
harmless_either Before places place few none = harmless_more places place few none
harmless_either After places place few none = harmless_more places place few none
harmless_either (Torn any) places place few none = harmless_more places place few none

-- ---- the faults that came by a call, or by more

pub same_faults : (v u : View) → u.pass.faults ≡ v.pass.faults → BringsNoDoubt v u
same_faults v u same = λ few. ap (λ l. are_harmless l) same ∙ few

pub fault_more : (place : DiskPlace) (v u : View) → u.pass.faults ≡ v.pass.faults ++ place ∷ [] → leaves_stuck place ≡ false → BringsNoDoubt v u
fault_more place v u is none = λ few. ap (λ l. are_harmless l) is ∙ harmless_more v.pass.faults place few none

pub looked_doubtless : (young : ℕ) (v u : View) → Looked young v u → BringsNoDoubt v u
looked_doubtless young v u l = same_faults v u (ap {A = View} (λ z. z.pass.faults) l.is)

pub taken_doubtless : (v u : View) → LockTaken v u → BringsNoDoubt v u
taken_doubtless v u t = same_faults v u (ap {A = View} (λ z. z.pass.faults) t.is)

pub found_doubtless : (place : DiskPlace) (v u : View) → FoundStuck place v u → BringsNoDoubt v u
found_doubtless place v u f = same_faults v u (ap {A = View} (λ z. z.pass.faults) f.is)

pub given_doubtless : (s : Step) (v u : View) → LockGiven s v u → BringsNoDoubt v u
given_doubtless s v u g = same_faults v u (ap {A = View} (λ z. z.pass.faults) g.is)

pub read_doubtless : (r : ℕ) (x : Recorded) (went : Went) (v u : View) → PropsRead r x went v u → BringsNoDoubt v u
read_doubtless r x went v u t = λ few. ap {A = View} (λ z. are_harmless z.pass.faults) t.is ∙ harmless_either went v.pass.faults Read few refl
