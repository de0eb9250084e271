-- The replies of commands, as the flat model answers them.
use Rattle.std.specs.Prelude.{◌≡◌, ◌⊎◌, ℕ, List, [], Option, Some, None, IfSome, option_map}
use Rattle.fsfs_base.specs.Failures.{Rose}
use Rattle.fsfs_base.specs.Files.{Files}
use Rattle.fsfs_base.specs.Paths.{Path}
use Rattle.fsfs_revision.specs.Told.{RevisionBytes}
use Rattle.fsfs_tree.specs.Revisions.{Revision}
use Rattle.fsfs_tree.specs.Dated.{last_of}
use Rattle.fsfs_base.specs.Fields.Dates.{IsDateAt}
use Rattle.fsfs_disk.specs.Labels.{Label}
use Rattle.fsfs_disk.specs.Trace.{Trace, files_now, labels_now}
use Rattle.fsfs_base.specs.Streams.{Adds}
use Rattle.fsfs_base.specs.Output.{AddsFront}
use Rattle.fsfs_create.specs.Creation.{IsUnpublished}
use Rattle.fsfs_revision.specs.RevBytes.{rev_bytes}
use Rattle.fsfs_tree.specs.Answers.{Reply, prints, Answer, UuidAnswer, asked_revision, new_history}
use Rattle.fsfs_tree.specs.Answers as model
use Rattle.fsfs_top.specs.TxnAnswers.{ListingAnswer, RemovalAnswer}
use Rattle.fsfs_top.specs.DumpAnswers.{DumpAnswer}
use Rattle.fsfs_top.specs.VerifyAnswers.{VerifyAnswer}
use Rattle.fsfs_top.specs.PackAnswers.{PackAnswer, unpacked_of}
use Rattle.fsfs_layout.specs.Opening.{small_texts, IsOpened, IsNone}
use Rattle.fsfs_layout.specs.declared.opened.Opened.{Opened}
use Rattle.fsfs_stands.specs.Files.{StandsFor}
use Rattle.fsfs_stands.specs.ByTree.{AreShownIds}
use Rattle.fsfs_sound.specs.OpenTexts.{HasOpenTexts}
use Rattle.fsfs_cli.specs.Readings.{Asks}
use Rattle.fsfs_cli.specs.declared.request.Look.TheVariants.{Youngest, Uuid, Dump, Verify, AtRevision}
use Rattle.fsfs_cli.specs.declared.request.Printed.{Printed}
use Rattle.fsfs_cli.specs.declared.request.Printed.TheVariants.{Tree, Text, Author, Date, Log, Info, Changed, History}
use Rattle.fsfs_cli.specs.declared.request.Task.{Task}
use Rattle.fsfs_cli.specs.declared.request.Task.TheVariants.{Create, ListTxns, RemoveTxns, Pack, Look, RunJobs}
use Rattle.fsfs_cli.specs.declared.tool.Tool.{Tool}
use Rattle.fsfs_disk.specs.Transactions.Txns.{AreTxns}
use Rattle.fsfs_top.specs.Transactions.{txns_of}
use Rattle.fsfs_top.specs.Scenes.{Scene, SinkScene}

-- ---- how a reply is given

-- the whole of this reply was given; where the error output failed, a first part of its line
abbrev pub GivesWhole : Reply → ℕ → SinkScene → SinkScene → SinkScene → SinkScene → Type 0
GivesWhole reply status old new err_old err_new =
    (status ≡ reply.status) × Adds old.written new.written reply.output
    × (Adds err_old.written err_new.written reply.line ⊎ (Rose err_old.faults err_new.faults × AddsFront err_old.written err_new.written reply.line))

-- the host or the output failed
abbrev pub OutsideFailed : Scene → Scene → Type 0
OutsideFailed a b = Rose a.host.mount_faults b.host.mount_faults ⊎ (Rose a.host.disk_faults b.host.disk_faults ⊎ (Rose a.out.faults b.out.faults ⊎ Rose a.host.bench_faults b.host.bench_faults))

-- or a first part of its output: the outside failed, with status 4, or memory was wanting, with status 5
abbrev pub Gives : ℕ → Scene → Scene → SinkScene → SinkScene → Reply → Type 0
Gives status a b err_old err_new reply =
    GivesWhole reply status a.out b.out err_old err_new
    ⊎ (AddsFront a.out.written b.out.written reply.output × (((status ≡ 4) × OutsideFailed a b) ⊎ (status ≡ 5)))

-- ---- the flat model's replies

-- what a repository is to the flat model: its history, and what no history tells, its identifier, its transactions, and what is to be packed
pub record Repository : Type 0 where
  pub history : List Revision
  pub identifier : List ℕ
  -- the names of its transactions, in the order of their bytes, and the transactions
  pub names : List (List ℕ)
  pub txns : List (ℕ × ℕ)
  -- how many of its shards are full and not packed
  pub unpacked : ℕ

-- the model's command, with what it shows behind the name of each node of a tree
abbrev pub look_command : Option ℕ → Printed → (Path → List ℕ) → model.Command
look_command revision (Tree show_ids path) shown = model.Tree revision shown path
look_command revision (Text path) shown = model.Cat revision path
look_command revision Author shown = model.Author revision
look_command revision Date shown = model.Date revision
look_command revision Log shown = model.Log revision
look_command revision Info shown = model.Info revision
look_command revision Changed shown = model.Changed revision
look_command revision (History path) shown = model.History revision path

-- The reply to a task where the files stand for this repository, or for none. (That to a script is no function of these: `DidJobs` says it.)
abbrev pub answer_to : Task → (Path → List ℕ) → Option Repository → Reply
answer_to (Create shard) shown r = Answer model.Create (option_map (λ (x : Repository). x.history) r)
answer_to ListTxns shown r = ListingAnswer (option_map (λ (x : Repository). x.names) r)
answer_to (RemoveTxns txns) shown r = RemovalAnswer txns (option_map (λ (x : Repository). x.txns) r)
answer_to Pack shown r = PackAnswer (option_map (λ (x : Repository). x.unpacked) r)
answer_to (Look Youngest) shown r = Answer model.Youngest (option_map (λ (x : Repository). x.history) r)
answer_to (Look Uuid) shown r = UuidAnswer (option_map (λ (x : Repository). x.identifier) r)
answer_to (Look Dump) shown r = DumpAnswer (option_map (λ (x : Repository). (x.identifier, x.history)) r)
answer_to (Look Verify) shown r = VerifyAnswer (option_map (λ (x : Repository). x.history) r)
answer_to (Look (AtRevision look)) shown r = Answer (look_command look.revision look.printed shown) (option_map (λ (x : Repository). x.history) r)
answer_to (RunJobs run) shown r = prints []

-- there is no repository: to a creation where there is no `db/format`, to all others also where it is of another type
abbrev pub HasNone : Task → Files → Type 0
HasNone (Create shard) files = IsUnpublished files
HasNone ListTxns files = IsNone (small_texts files)
HasNone (RemoveTxns txns) files = IsNone (small_texts files)
HasNone Pack files = IsNone (small_texts files)
HasNone (Look look) files = IsNone (small_texts files)
HasNone (RunJobs run) files = ⊥

-- what is shown are the ids of the node-revisions at the paths, or nothing
abbrev pub ShowsIds : Printed → RevisionBytes → ℕ → (Path → List ℕ) → Type 0
ShowsIds (Tree show_ids path) bytes rev shown = AreShownIds bytes rev show_ids shown
ShowsIds (Text path) bytes rev shown = Unit {0}
ShowsIds Author bytes rev shown = Unit {0}
ShowsIds Date bytes rev shown = Unit {0}
ShowsIds Log bytes rev shown = Unit {0}
ShowsIds Info bytes rev shown = Unit {0}
ShowsIds Changed bytes rev shown = Unit {0}
ShowsIds (History path) bytes rev shown = Unit {0}

-- what a task is answered by of the history: of a tree what is shown behind its names; of a check, which reads all texts, that none is a delta
abbrev pub Suits : Task → RevisionBytes → List Revision → (Path → List ℕ) → Type 0
Suits (Create shard) bytes h shown = Unit {0}
Suits ListTxns bytes h shown = Unit {0}
Suits (RemoveTxns txns) bytes h shown = Unit {0}
Suits Pack bytes h shown = Unit {0}
Suits (Look Youngest) bytes h shown = Unit {0}
Suits (Look Uuid) bytes h shown = Unit {0}
Suits (Look Dump) bytes h shown = Unit {0}
Suits (Look Verify) bytes h shown = HasOpenTexts h
Suits (Look (AtRevision look)) bytes h shown = ShowsIds look.printed bytes (asked_revision look.revision h) shown
Suits (RunJobs run) bytes h shown = ⊥

-- what a task is answered by of the transactions that are there: a listing by their names in order, a removal by the transactions
abbrev pub HasTxns : Task → List Label → List (List ℕ) → List (ℕ × ℕ) → Type 0
HasTxns (Create shard) labels names txns = Unit {0}
HasTxns ListTxns labels names txns = AreTxns labels names
HasTxns (RemoveTxns given) labels names txns = txns ≡ txns_of labels
HasTxns Pack labels names txns = Unit {0}
HasTxns (Look look) labels names txns = Unit {0}
HasTxns (RunJobs run) labels names txns = ⊥

-- the task is answered by the small files, and by the transactions, alone
abbrev pub IsOfSmallFiles : Task → Type 0
IsOfSmallFiles (Create shard) = ⊥
IsOfSmallFiles ListTxns = Unit {0}
IsOfSmallFiles (RemoveTxns txns) = Unit {0}
IsOfSmallFiles Pack = ⊥
IsOfSmallFiles (Look Youngest) = Unit {0}
IsOfSmallFiles (Look Uuid) = Unit {0}
IsOfSmallFiles (Look Dump) = ⊥
IsOfSmallFiles (Look Verify) = ⊥
IsOfSmallFiles (Look (AtRevision look)) = ⊥
IsOfSmallFiles (RunJobs run) = ⊥

-- The replies to what the words ask for, of the files that the disks of paths have. (The files of a new repository stand for the history of revision 0:
-- that is the law `new_repositories_stand`.)
pub record Replies (tool : Tool) (words : List (List ℕ)) (at : List ℕ → Option Trace) (Given : Reply → Type 0) : Type 0 where
  -- where there is no repository
  pub none : (repos : List ℕ) (task : Task) (t : Trace) (shown : Path → List ℕ) → Asks tool words repos task → at repos ≡ Some t → HasNone task (files_now t) → Given (answer_to task shown None)
  -- where the files stand for a history
  pub stands : (repos : List ℕ) (task : Task) (t : Trace) (h : List Revision) (shown : Path → List ℕ) (names : List (List ℕ)) (txns : List (ℕ × ℕ)) → Asks tool words repos task → at repos ≡ Some t → (s : StandsFor (files_now t) h)
      → Suits task (rev_bytes s.opened.layout (files_now t)) h shown → HasTxns task (labels_now t) names txns → Given (answer_to task shown (Some (record { history = h; identifier = s.opened.uuid; names = names; txns = txns; unpacked = unpacked_of s.opened })))
  -- and of the small files wherever they open: of any history that ends with the revision that they name
  pub opened : (repos : List ℕ) (task : Task) (t : Trace) (o : Opened) (h : List Revision) (shown : Path → List ℕ) (names : List (List ℕ)) (txns : List (ℕ × ℕ)) → Asks tool words repos task → at repos ≡ Some t → IsOfSmallFiles task → IsOpened (small_texts (files_now t)) o
      → last_of h ≡ o.youngest → HasTxns task (labels_now t) names txns → Given (answer_to task shown (Some (record { history = h; identifier = o.uuid; names = names; txns = txns; unpacked = unpacked_of o })))

-- the files at the path where a repository is made stand for the history of revision 0, with the date of the moment that the clock gave, where it tells
abbrev pub MadeStands : Tool → List (List ℕ) → Option ℕ → (List ℕ → Option Trace) → Type 0
MadeStands tool words clock at =
    (repos : List ℕ) (shard : ℕ) (t : Trace) → Asks tool words repos (Create shard) → at repos ≡ Some t
    → (moment : ℕ) × (date : List ℕ) × IfSome clock (λ c. moment ≡ c) × IsDateAt moment date × StandsFor (files_now t) (new_history date)
