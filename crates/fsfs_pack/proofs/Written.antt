-- The bench of a shard is written.
use Rattle.std.proofs.Common.{◌≡◌, ◌≤◌, ℕ, List, length, subst, ◌∙◌, arith}
use Rattle.std.specs.Prelude.{Option, Result, Ok, Err, OnOk, IfErr}
use Rattle.fsfs_base.specs.Files.{Files}
use Rattle.fsfs_layout.specs.Manifest.{IsManifest}
use Rattle.fsfs_machine.specs.Machine.{starts}
use Rattle.fsfs_turn.specs.Views.{View, shard_parts}
use Rattle.fsfs_pack.specs.declared.answers.PackFault.{PackFault}
use Rattle.fsfs_pack.specs.declared.answers.PackFault.TheVariants.{DiskFault, BenchFault, Memory, Stuck, Missing, Small}
use Rattle.fsfs_pack.specs.declared.shard.Shard.{Shard}
use Rattle.fsfs_pack.specs.Causes.{HasDiskCause, HasBenchCause}
use Rattle.fsfs_pack.specs.Copies.{together, HasFile}
use Rattle.fsfs_pack.specs.Sections.{pack_text, manifest_text, Along, IsNext, IsWritten}
use Rattle.fsfs_pack.specs.Shards.{IsShard}
use Rattle.fsfs_pack.proofs.Going.{written_stays}
use Rattle.fsfs_pack.proofs.Filling.{manifest_written}

-- both files are there, and say of the shard what they are to
pub both_written : {X E : Type 0} (P : Type 0) (result : Result X E) (x : Shard) (v u : View) (offsets given : List ℕ) (held : Option Files) → IsShard x → IsNext x v → Along v u → offsets ≡ starts 0 (shard_parts v x.first) → given ≡ offsets
    → OnOk result (HasFile held pack_text (together (shard_parts v x.first)) × P) → OnOk result ((text : List ℕ) × HasFile held manifest_text text × IsManifest (length given) text given) → OnOk result (IsWritten x u held)
both_written P (Err e) x v u offsets given held shard next along begin same pack manifest = tt
both_written P (Ok r) x v u offsets given held shard next along begin same pack manifest =
    written_stays x v u held next along (record { pack = pack.0; manifest = manifest_written x v given manifest.0 held shard next (same ∙ begin) manifest.1 manifest.2 })

-- what failed since
pub cause_later : {X : Type 0} (before now : ℕ) (result : Result X PackFault) → before ≤ now → ((n : ℕ) → HasDiskCause n n result) → HasDiskCause before now result
cause_later before now (Ok x) le each = record { later = le; failed = tt }
cause_later before now (Err (DiskFault place)) le each = let rose = (each now).failed in record { later = le; failed = omega (arith, le, rose) }
cause_later before now (Err (Missing absent)) le each = record { later = le; failed = tt }
cause_later before now (Err (Stuck place)) le each = record { later = le; failed = tt }
cause_later before now (Err BenchFault) le each = record { later = le; failed = tt }
cause_later before now (Err (Small fault)) le each = record { later = le; failed = tt }
cause_later before now (Err Memory) le each = record { later = le; failed = tt }

pub bench_later : {X : Type 0} (before now : ℕ) (result : Result X PackFault) → before ≤ now → ((n : ℕ) → HasBenchCause n n result) → HasBenchCause before now result
bench_later before now (Ok x) le each = record { later = le; failed = tt }
bench_later before now (Err (DiskFault place)) le each = record { later = le; failed = tt }
bench_later before now (Err (Missing absent)) le each = record { later = le; failed = tt }
bench_later before now (Err (Stuck place)) le each = record { later = le; failed = tt }
bench_later before now (Err BenchFault) le each = let rose = (each now).failed in record { later = le; failed = omega (arith, le, rose) }
bench_later before now (Err (Small fault)) le each = record { later = le; failed = tt }
bench_later before now (Err Memory) le each = record { later = le; failed = tt }

-- what is said of an answer, where it is that
pub ok_given : {X E : Type 0} (P : Type 0) (result : Result X E) (x : X) → result ≡ Ok x → OnOk result P → P
ok_given P (Ok y) x is given = given
ok_given P (Err e) x is given = absurd cc

pub err_given : {X E : Type 0} (P : E → Type 0) (result : Result X E) (e : E) → result ≡ Err e → IfErr result P → P e
err_given P (Ok y) e is given = absurd cc
err_given P (Err f) e is given = let same : f ≡ e = cc in subst P same given
