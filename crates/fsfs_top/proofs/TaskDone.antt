-- What a command did is what its row says of the task that its words ask for.
use Rattle.std.proofs.Common.{◌≡◌, ℕ, List, [], inl, inr, refl, sym, ap, subst, ◌∙◌}
use Rattle.std.specs.Prelude.{Option, Some, None, IfSome, option_map, unwrap_or, Err}
use Rattle.fsfs_cli.specs.CommandFaults.{fault_from_words}
use Rattle.fsfs_cli.specs.declared.faults.fault.Fault.{Fault}
use Rattle.fsfs_cli.specs.declared.faults.fault.Fault.TheVariants.{Memory}
use Rattle.fsfs_base.specs.declared.places.create_fault.CreateFault.TheVariants as create
use Rattle.fsfs_base.specs.declared.places.open_fault.OpenFault.TheVariants as opening
use Rattle.fsfs_cli.specs.Readings.{Asks}
use Rattle.fsfs_cli.specs.declared.faults.words_fault.WordsFault.{WordsFault}
use Rattle.fsfs_cli.specs.declared.request.Look.{Look as SomeLook}
use Rattle.fsfs_cli.specs.declared.request.Task.{Task}
use Rattle.fsfs_cli.specs.declared.request.Task.TheVariants.{Create, ListTxns, RemoveTxns, Pack, Look, RunJobs}
use Rattle.fsfs_cli.specs.declared.tool.Tool.{Tool}
use Rattle.fsfs_cli.specs.declared.tool.Tool.TheVariants as tools
use Rattle.fsfs_cli.proofs.OneMeaning.{one_task, refused_for_memory}
use Rattle.fsfs_cli.proofs.TaskLemmas.{asks_task}
use Rattle.fsfs_top.specs.Command.{Drawn, Does, Did}
use Rattle.fsfs_top.specs.Looks.{LookIsDecided}
use Rattle.fsfs_top.specs.Transactions.{OpeningIsDecided}
use Rattle.fsfs_top.specs.Scenes.{Scene}
use Rattle.fsfs_disk.specs.Trace.{labels_now}
use Rattle.fsfs_pack_run.specs.Runs.{NotOpened}
use Rattle.fsfs_top.proofs.FilesDecide.{look_outside, opening_outside, unopened}

as_told : {X : Type 0} (told : Option X) (x : X) → IfSome told (λ t. unwrap_or told x ≡ t)
as_told None x = tt
as_told (Some t) x = refl

-- what is drawn where nothing was
some_draw : (clock : Option ℕ) (dice : Option (List ℕ)) → Drawn clock dice
some_draw clock dice = record { moment = unwrap_or clock 0; bits = unwrap_or dice []; moment_is = as_told clock 0; bits_are = as_told dice [] }

module _ (clock : Option ℕ) (dice : Option (List ℕ)) (a b : Scene) (fault : Option Fault) where
  -- memory was wanting as the words were read
  starved : (repos : List ℕ) (task : Task) → fault ≡ Some Memory → b ≡ a → Does repos task clock dice a b fault
  starved repos (Create shard) is kept = (inr (inl (create.Memory, is, (some_draw clock dice, ap (λ (s : Scene). s.host.disk_at repos) kept))), ap (λ (s : Scene). s.out) kept, ap (λ (s : Scene). s.input) kept)
  starved repos ListTxns is kept =
      (inl (inr (opening.Memory, is, tt, unopened (a.host.disk_at repos), ap (λ (s : Scene). s.out) kept)), subst (OpeningIsDecided (a.host.disk_at repos)) (sym is) (opening_outside (a.host.disk_at repos) Memory tt), ap (λ (s : Scene). s.input) kept)
  starved repos (RemoveTxns txns) is kept = (
    inr (inl (opening.Memory, is, tt, unopened (a.host.disk_at repos), ap (λ (s : Scene). option_map labels_now (s.host.disk_at repos)) kept)),
    subst (OpeningIsDecided (a.host.disk_at repos)) (sym is) (opening_outside (a.host.disk_at repos) Memory tt),
    ap (λ (s : Scene). s.out) kept,
    ap (λ (s : Scene). s.input) kept,
  )
  starved repos Pack is kept = (
    inr (Err Memory, NotOpened opening.Memory tt (inl (ap (λ (s : Scene). s.host.disk_at repos) kept)), (is, ap (λ (s : Scene). s.out) kept)),
    subst (OpeningIsDecided (a.host.disk_at repos)) (sym is) (opening_outside (a.host.disk_at repos) Memory tt),
    ap (λ (s : Scene). s.input) kept,
  )
  starved repos (Look look) is kept =
      (inl (inr (opening.Memory, is, tt, unopened (a.host.disk_at repos), ap (λ (s : Scene). s.out) kept)), subst (LookIsDecided look (a.host.disk_at repos)) (sym is) (look_outside look (a.host.disk_at repos) Memory tt), ap (λ (s : Scene). s.input) kept)
  starved repos (RunJobs run) is kept = tt

  pub task_done : (tool : Tool) (words : List (List ℕ)) (repos : List ℕ) (task : Task) → Did tool words clock dice a b fault → Asks tool words repos task → Does repos task clock dice a b fault
  task_done tool words repos task (inl (r, t, asks, does, others)) also =
      let same = one_task tool words r repos t task asks also in
      subst (λ (p : List ℕ). Does p task clock dice a b fault) same.0 (subst (λ (k : Task). Does r k clock dice a b fault) same.1 does)
  task_done tool words repos task (inr (why, is, refuses, kept)) asks =
      let memory = refused_for_memory tool words repos task why asks refuses in
      starved repos task (is ∙ ap (λ (w : WordsFault). Some (fault_from_words w)) memory) kept

-- ---- which task is asked for

create_parts : (m n : ℕ) → Create m ≡ Create n → m ≡ n
create_parts m n e = cc

one_creation : (tool : Tool) (words : List (List ℕ)) (r s : List ℕ) (m n : ℕ) → Asks tool words r (Create m) → Asks tool words s (Create n) → (r ≡ s) × (m ≡ n)
one_creation tool words r s m n x y = let same = one_task tool words r s (Create m) (Create n) x y in (same.0, create_parts m n same.1)

-- what holds of the creation that is asked for, of whatever path and size
pub at_creation : (P : List ℕ → ℕ → Type 0) (tool : Tool) (words : List (List ℕ)) (repos : List ℕ) (shard : ℕ) → Asks tool words repos (Create shard) → P repos shard → (r : List ℕ) (n : ℕ) → Asks tool words r (Create n) → P r n
at_creation P tool words repos shard asks h r n also =
    let same = one_creation tool words repos r shard n asks also in
    subst (λ (p : List ℕ). P p n) same.0 (subst (λ (k : ℕ). P repos k) same.1 h)

-- where a look is asked for, no creation is
pub looks_alone : (tool : Tool) (words : List (List ℕ)) (repos r : List ℕ) (look : SomeLook) (n : ℕ) → Asks tool words repos (Look look) → Asks tool words r (Create n) → ⊥
looks_alone tool words repos r look n x y = let e = (one_task tool words repos r (Look look) (Create n) x y).1 in cc

-- nor where something else is
pub others_alone : (tool : Tool) (words : List (List ℕ)) (repos r : List ℕ) (task other : Task) → (task ≡ other → ⊥) → Asks tool words repos task → Asks tool words r other → ⊥
others_alone tool words repos r task other apart x y = apart (one_task tool words repos r task other x y).1

-- svnjobs is asked for neither
pub no_creation : (tool : Tool) (words : List (List ℕ)) (repos : List ℕ) (shard : ℕ) → tool ≡ tools.Jobs → Asks tool words repos (Create shard) → ⊥
no_creation tool words repos shard jobs asks = let e = sym jobs ∙ (asks_task tool words repos (Create shard) asks).0 in cc

pub no_removal : (tool : Tool) (words : List (List ℕ)) (repos : List ℕ) (txns : List (ℕ × ℕ)) → tool ≡ tools.Jobs → Asks tool words repos (RemoveTxns txns) → ⊥
no_removal tool words repos txns jobs asks = let e = sym jobs ∙ asks_task tool words repos (RemoveTxns txns) asks in cc

-- what holds of the removal that is asked for, of whatever path
pub at_removal : (P : List ℕ → Type 0) (tool : Tool) (words : List (List ℕ)) (repos : List ℕ) (txns : List (ℕ × ℕ)) → Asks tool words repos (RemoveTxns txns) → P repos → (r : List ℕ) (other : List (ℕ × ℕ)) → Asks tool words r (RemoveTxns other) → P r
at_removal P tool words repos txns asks h r other also = subst P (one_task tool words repos r (RemoveTxns txns) (RemoveTxns other) asks also).0 h

-- and of the repository that is to be packed
pub at_pack : (P : List ℕ → Type 0) (tool : Tool) (words : List (List ℕ)) (repos : List ℕ) → Asks tool words repos Pack → P repos → (r : List ℕ) → Asks tool words r Pack → P r
at_pack P tool words repos asks h r also = subst P (one_task tool words repos r Pack Pack asks also).0 h

-- svnjobs packs none
pub no_pack : (tool : Tool) (words : List (List ℕ)) (repos : List ℕ) → tool ≡ tools.Jobs → Asks tool words repos Pack → ⊥
no_pack tool words repos jobs asks = let e = sym jobs ∙ asks_task tool words repos Pack asks in cc
