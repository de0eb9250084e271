-- What a run of svnjobs does over a repository that was just made.
use Rattle.std.specs.Prelude.{◌≡◌, ℕ, List, length, true, Option, IfSome}
use Rattle.fsfs_base.specs.Fields.Dates.{IsDateAt}
use Rattle.fsfs_tree.specs.Revisions.{Revision}
use Rattle.fsfs_tree.specs.Answers.{new_history}
use Rattle.fsfs_disk.specs.Trace.{Trace, files_now}
use Rattle.fsfs_disk.specs.Crash.{AllImages}
use Rattle.fsfs_stands.specs.Files.{StandsFor}
use Rattle.fsfs_stands.specs.Same.{AreSameRevisions}
use Rattle.fsfs_create.specs.NewStore.{IsNewStore}
use Rattle.fsfs_cli.specs.Readings.{Asks}
use Rattle.fsfs_cli.specs.declared.request.JobRun.{JobRun}
use Rattle.fsfs_cli.specs.declared.request.Task.TheVariants.{RunJobs}
use Rattle.fsfs_cli.specs.declared.tool.Tool.TheVariants.{Jobs}
use Rattle.fsfs_example_calls.specs.Scenes.{HostScene, Scene, SinkScene, SourceScene}
use Rattle.fsfs_example_calls.specs.JobsEnd.{JobsEnd}
use Rattle.fsfs_example_calls.specs.Scripts.{DidJobs, TellsEnd, status_at}

-- A repository was made on the disk, at a moment that the clock gave: what a crash now may leave is the new store. Or the disk tells nothing.
abbrev pub IsMade : Option ℕ → Option Trace → Type 0
IsMade clock told = (moment : ℕ) × IfSome clock (λ t. moment ≡ t) × AllImages told (IsNewStore moment)

-- the history of a new repository: revision 0 alone, with the date of a moment that the clock gave
abbrev pub IsNewHistory : Option ℕ → List Revision → Type 0
IsNewHistory clock h = (moment : ℕ) × (date : List ℕ) × IfSome clock (λ t. moment ≡ t) × IsDateAt moment date × (length h ≡ 1) × AreSameRevisions h (new_history date)

-- the files of the disk, where it tells them, stand for no history but that
abbrev pub StandsForNew : Option ℕ → Option Trace → Type 0
StandsForNew clock told = IfSome told (λ t. (h : List Revision) → StandsFor (files_now t) h → IsNewHistory clock h)

-- A RUN OVER A REPOSITORY THAT WAS JUST MADE at the path of these words of svnjobs, by its status: from what the outputs and the input were to what they
-- and the host are.
pub record RanOverNew (words : List (List ℕ)) (clock : Option ℕ) (out err : SinkScene) (input : SourceScene) (after : Scene) (err_after : SinkScene) (status : ℕ) : Type 0 where
  -- the host, as the run began
  pub begun : HostScene
  -- the repository had been made there
  pub made : (repos : List ℕ) (run : JobRun) → Asks Jobs words repos (RunJobs run) → IsMade clock (begun.disk_at repos)
  -- so whatever history the run was over was that of a new repository
  pub history : (repos : List ℕ) (run : JobRun) → Asks Jobs words repos (RunJobs run) → StandsForNew clock (begun.disk_at repos)
  -- what the clock gave next, if it tells
  pub next : Option ℕ
  -- what became of the script, told as over a disk that is known to have a history
  pub end : JobsEnd
  pub did : DidJobs words true next (record { host = begun; out = out; input = input }) after end
  -- to which belong the status and a line about each fault
  pub status_is : status ≡ status_at end
  pub lines_are : TellsEnd Jobs err err_after end
