-- What a reader tells is short.
use Rattle.std.proofs.Common.{◌≡◌, ℕ, ◌^◌, ◌<◌, List, length, Option, Some, None, Ok, Bool, true, false, cond, nat_lt, arith}
use Rattle.std.specs.Prelude.{Result, ◌&&◌}
use Rattle.std.proofs.lemmas.Bool.Decides.{nat_tests}
use Rattle.fsfs_base.specs.Files.{Files}
use Rattle.fsfs_revision.specs.declared.wrong.Refusal.{Refusal}
use Rattle.fsfs_layout.specs.declared.layout.Layout.{Layout}
use Rattle.fsfs_fetch.specs.declared.manifests.KeptManifest.{KeptManifest}
use Rattle.fsfs_revision.specs.RevBytes.{rev_bytes}
use Rattle.fsfs_fetch.specs.Views.{View, Reach, Ends, Grows}
use Rattle.fsfs_fetch.specs.Kept.{telling, is_right, is_short, revs_in, within}

if_small : (right short : Bool) (n : ℕ) (bytes : List ℕ) (read : Result (List ℕ) Refusal) → (read ≡ Ok bytes → short ≡ nat_lt (length bytes) 18446744073709551616) → cond (right && short) (Some read) None ≡ Some (Ok bytes) → length bytes < 2 ^ 64
if_small false short n bytes read e told = cc
if_small true false n bytes read e told = cc
if_small true true n bytes read e told =
    let same : read ≡ Ok bytes = cc in
    let small : true ≡ nat_lt (length bytes) 18446744073709551616 = e same in
    grind (arith, nat_tests)

short_same : (read : Result (List ℕ) Refusal) (bytes : List ℕ) → read ≡ Ok bytes → is_short read ≡ nat_lt (length bytes) 18446744073709551616
short_same read bytes e = λ i. is_short (e i)

short_in : (n : Layout) (floor : ℕ) (kept : Option KeptManifest) (files : Option Files) (rev : ℕ) (bytes : List ℕ) → revs_in n floor kept files rev ≡ Some (Ok bytes) → length bytes < 2 ^ 64
short_in n floor kept None rev bytes told = cc
short_in n floor kept (Some m) rev bytes told = if_small (is_right n m floor kept rev) (is_short (rev_bytes n m rev)) 0 bytes (rev_bytes n m rev) (short_same (rev_bytes n m rev) bytes) told

chosen_read : (past : Bool) (other read : Option (Result (List ℕ) Refusal)) (bytes : List ℕ) → (other ≡ Some (Ok bytes) → length bytes < 2 ^ 64) → (read ≡ Some (Ok bytes) → length bytes < 2 ^ 64) → cond past other read ≡ Some (Ok bytes) → length bytes < 2 ^ 64
chosen_read true other read bytes f g told = f told
chosen_read false other read bytes f g told = g told

short_within : (reach : Reach) (rev : ℕ) (read : Option (Result (List ℕ) Refusal)) (bytes : List ℕ) → (read ≡ Some (Ok bytes) → length bytes < 2 ^ 64) → within reach rev read ≡ Some (Ok bytes) → length bytes < 2 ^ 64
short_within (Ends youngest) rev read bytes g told = chosen_read (nat_lt youngest rev) _ read bytes (λ e. cc) g told
short_within (Grows least) rev read bytes g told = chosen_read (nat_lt least rev) None read bytes (λ e. cc) g told

-- no revision that is told has 2^64 bytes
pub told_short : {B : Type 0} (view : View B) (floor : ℕ) (kept : Option KeptManifest) (rev : ℕ) (bytes : List ℕ) → (telling view floor kept).revs rev ≡ Some (Ok bytes) → length bytes < 2 ^ 64
unfolding telling
told_short view floor kept rev bytes told = short_within view.reach rev (revs_in view.layout floor kept view.files rev) bytes (short_in view.layout floor kept view.files rev bytes) told
