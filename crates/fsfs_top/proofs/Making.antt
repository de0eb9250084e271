-- What a creation that was done leaves stands for the history of revision 0.
use Rattle.std.proofs.Common.{◌≡◌, ◌≤◌, ℕ, List, inl, inr, ⊎_elim, refl, ap, sym, subst, ◌∙◌, arith}
use Rattle.std.specs.Prelude.{Option, Some, None, IfSome, option_map}
use Rattle.fsfs_base.specs.Fields.Dates.{IsDateAt}
use Rattle.fsfs_base.specs.Files.{Files}
use Rattle.fsfs_disk.specs.Trace.{Trace, files_now}
use Rattle.fsfs_disk.specs.Crash.{AllImages, Leaves}
use Rattle.fsfs_disk.proofs.CrashLemmas.{leaves_with}
use Rattle.fsfs_cli.specs.Lines.{status_of}
use Rattle.fsfs_cli.specs.declared.faults.fault.Fault.{Fault}
use Rattle.fsfs_cli.specs.declared.faults.fault.Fault.TheVariants.{Words, Request, Repository, Outside, Memory, Limit}
use Rattle.fsfs_tree.specs.Answers.{new_history}
use Rattle.fsfs_create.specs.Creation.{IsNoneOrWhole, IsUnpublished}
use Rattle.fsfs_create.specs.NewStore.{IsNewStore}
use Rattle.fsfs_create.proofs.NewStoreLemmas.{created_is_new}
use Rattle.fsfs_layout.specs.CreatedFiles.{created_over, random_identifier}
use Rattle.fsfs_layout.specs.Layouts.{Packs}
use Rattle.fsfs_layout.specs.declared.folders.Folders.TheVariants.{Shards}
use Rattle.fsfs_layout.specs.declared.format.Format.TheVariants.{Four}
use Rattle.fsfs_layout.specs.declared.layout.Layout.{Layout}
use Rattle.fsfs_stands.specs.Files.{StandsFor}
use Rattle.fsfs_stands.specs.NewRepository.{HoldsNew}
use Rattle.fsfs_stands.proofs.Creations.{creations_hold_new}
use Rattle.fsfs_stands.proofs.NewRepository.{new_repositories_stand}
use Rattle.fsfs_top.specs.Command.{Created, Did, Drawn, IsNoneOrStore, LeavesNoneOrCreated, identifier_of}
use Rattle.fsfs_top.specs.Replies.{MadeStands}
use Rattle.fsfs_top.specs.Scenes.{Scene}
use Rattle.fsfs_top.proofs.TaskDone.{task_done}
use Rattle.fsfs_cli.specs.declared.request.Task.TheVariants.{Create}
use Rattle.fsfs_cli.specs.declared.tool.Tool.{Tool}
use Rattle.fsfs_cli.specs.Readings.{Asks}
use Rattle.fsfs_cli.proofs.TaskLemmas.{asks_task}

-- the files that are told are made of others
made_of : (f : Files → Files) (old : Option Files) (m : Files) → ◌≡◌ {A = Option Files} (Some m) (option_map f old) → (was : Files) × (m ≡ f was)
made_of f None m e = absurd cc
made_of f (Some was) m e = (was, cc)

-- a fault has a status
pub no_zero : (fault : Fault) → status_of fault ≡ 0 → ⊥
no_zero (Words why) e = omega arith
no_zero (Request why) e = omega arith
no_zero (Repository why) e = omega arith
no_zero (Outside why) e = omega arith
no_zero Memory e = omega arith
no_zero (Limit why) e = omega arith

no_fault : (fault : Fault) → ◌≡◌ {A = Option Fault} None (Some fault) → ⊥
no_fault fault e = cc

-- the layout of a creation
abbrev in_shards : (shard : ℕ) → (1 ≤ shard) × (shard ≤ 100_000) → Layout
in_shards shard size = record { format = Four; folders = Shards shard; sized = (omega (arith, size.0), omega (arith, size.1)) }

shards_pack : (shard : ℕ) (size : (1 ≤ shard) × (shard ≤ 100_000)) → Packs (in_shards shard size)
shards_pack shard size = record { format = refl; sharded = tt }

module _ (tool : Tool) (ws : List (List ℕ)) (clock : Option ℕ) (dice : Option (List ℕ)) (a b : Scene) (did : Did tool ws clock dice a b None) where
  pub made_stands : MadeStands tool ws clock b.host.disk_at
  made_stands repos shard t asks here = so (task_done clock dice a b None tool ws repos (Create shard) did asks).0 where
    size : (1 ≤ shard) × (shard ≤ 100_000)
    size = (asks_task tool ws repos (Create shard) asks).1

    so : Created repos shard clock dice a.host b.host None → (moment : ℕ) × (date : List ℕ) × IfSome clock (λ c. moment ≡ c) × IsDateAt moment date × StandsFor (files_now t) (new_history date)
    so (inl (e, m, same)) = absurd (no_fault _ e)
    so (inr (inl (why, e, rest))) = absurd (no_fault _ e)
    so (inr (inr (e, absent, (d, (date, dated, files))))) =
        let is = made_of (created_over shard (identifier_of clock dice d) date) (option_map files_now (a.host.disk_at repos)) (files_now t) (sym (ap (option_map files_now) here) ∙ files) in
        let holds = creations_hold_new (in_shards shard size) d.moment (random_identifier d.bits) date is.0 (shards_pack shard size) dated in
        (d.moment, date, d.moment_is, dated, new_repositories_stand (files_now t) date (subst (λ (m : Files). HoldsNew m date) (sym is.1) holds))

-- ---- what a crash leaves

store_left : (shard : ℕ) (clock : Option ℕ) (dice : Option (List ℕ)) (d : Drawn clock dice) (t : Trace) (m : Files) → (1 ≤ shard) × (shard ≤ 100_000) → IsNoneOrWhole shard (identifier_of clock dice d) d.moment (Some t) m → IsNoneOrStore clock m
store_left shard clock dice d t m size left = ⊎_elim (λ none. inl none) (λ whole. inr (
  d.moment,
  d.moment_is,
  subst (IsNewStore d.moment) (sym whole.2) (created_is_new (in_shards shard size) d.moment (random_identifier d.bits) whole.0 (files_now t) (shards_pack shard size) whole.1),
)) left

stores_left : (shard : ℕ) (clock : Option ℕ) (dice : Option (List ℕ)) (old new : Option Trace) → (1 ≤ shard) × (shard ≤ 100_000) → LeavesNoneOrCreated shard clock dice old new → Leaves old new (IsNoneOrStore clock)
stores_left shard clock dice None new size leaves = tt
stores_left shard clock dice (Some t) new size (d, leaves) = leaves_with (Some t) new (IsNoneOrWhole shard (identifier_of clock dice d) d.moment (Some t)) (IsNoneOrStore clock) (λ m left. store_left shard clock dice d t m size left) leaves

pub stands_or_none : (tool : Tool) (ws : List (List ℕ)) (repos : List ℕ) (shard : ℕ) (clock : Option ℕ) (dice : Option (List ℕ)) (old new : Option Trace) → Asks tool ws repos (Create shard)
    → (AllImages old IsUnpublished → LeavesNoneOrCreated shard clock dice old new) → AllImages old IsUnpublished → Leaves old new (IsNoneOrStore clock)
stands_or_none tool ws repos shard clock dice old new asks leaves all = stores_left shard clock dice old new (asks_task tool ws repos (Create shard) asks).1 (leaves all)
