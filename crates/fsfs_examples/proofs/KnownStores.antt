-- A store that was just made stands for the history of a new repository, and for no other.
use Rattle.std.proofs.Common.{◌≡◌, ℕ, sym, subst}
use Rattle.std.specs.Prelude.{Option, Some, None, Result, Ok, Err, true, is_ok, IfSome, OnOk}
use Rattle.fsfs_tree.specs.Answers.{new_history}
use Rattle.fsfs_disk.specs.Trace.{Trace, files_now}
use Rattle.fsfs_disk.specs.Crash.{AllImages}
use Rattle.fsfs_disk.proofs.CrashLemmas.{files_are_image}
use Rattle.fsfs_stands.proofs.OneHistory.{one_stood_for}
use Rattle.fsfs_create.specs.NewStore.{IsNewStore}
use Rattle.fsfs_example_calls.specs.Scripts.{HasHistory}
use Rattle.fsfs_examples.specs.KnownRuns.{IsMade, StandsForNew}

-- ---- a creation

-- what holds where a call came out well
pub came_well : {X Y P : Type 0} (r : Result X Y) → is_ok r ≡ true → OnOk r P → P
came_well (Ok x) well holds = holds
came_well (Err y) well holds = absurd cc

-- of the disk that the host took back
pub is_made : (clock : Option ℕ) (moment : ℕ) (back new : Option Trace) → IfSome clock (λ t. moment ≡ t) → back ≡ new → AllImages new (IsNewStore moment) → IsMade clock back
is_made clock moment back new given is all = (moment, given, subst (λ (x : Option Trace). AllImages x (IsNewStore moment)) (sym is) all)

-- ---- what it stands for

pub has_history : (clock : Option ℕ) (told : Option Trace) → IsMade clock told → HasHistory told
has_history clock None made = tt
has_history clock (Some t) (moment, given, all) =
    let new = all (files_now t) (files_are_image t.first t.operations) in
    (new_history new.date, new.stands)

pub stands_for_new : (clock : Option ℕ) (told : Option Trace) → IsMade clock told → StandsForNew clock told
stands_for_new clock None made = tt
stands_for_new clock (Some t) (moment, given, all) = λ h stands.
    let new = all (files_now t) (files_are_image t.first t.operations) in
    let same = one_stood_for (files_now t) h (new_history new.date) stands new.stands in
    (moment, new.date, given, new.dated, same.0, same.1)
