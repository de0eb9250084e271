-- The replies of a command are those of the flat model.
use Rattle.std.proofs.Common.{◌≡◌, ℕ, List, [], ◌++◌, ◌⊎◌, inl, inr, refl, sym, ap, subst}
use Rattle.std.specs.Prelude.{Option, Some, None, codes, Ok, Err, Result, slice_get}
use Rattle.std.specs.FinMap.{get}
use Rattle.fsfs_base.specs.Failures.{Rose}
use Rattle.fsfs_base.specs.Files.{Files}
use Rattle.fsfs_base.specs.Paths.{Path}
use Rattle.fsfs_tree.specs.Revisions.{Revision, tree_of}
use Rattle.fsfs_tree.specs.Dated.{last_of}
use Rattle.fsfs_disk.specs.Trace.{Trace, files_now, labels_now}
use Rattle.fsfs_base.specs.Streams.{Adds}
use Rattle.fsfs_base.specs.Output.{AddsFront, Prints}
use Rattle.fsfs_cli.specs.Lines.{line_of}
use Rattle.fsfs_cli.specs.declared.faults.fault.Fault.{Fault}
use Rattle.fsfs_cli.specs.declared.faults.fault.Fault.TheVariants.{Request}
use Rattle.fsfs_cli.specs.declared.faults.request_fault.RequestFault.TheVariants.{AlreadyRepo, NotRepo}
use Rattle.fsfs_revision.specs.RevBytes.{rev_bytes}
use Rattle.fsfs_tree.specs.FaultWords.{already_repo, not_repo}
use Rattle.fsfs_tree.specs.Answers.{Answer, Reply, refuses, prints, refuses_look, tree_reply, text_reply, history_reply, found_at, asked_revision, of_revision}
use Rattle.fsfs_tree.specs.PropTexts.{author_text, date_text, log_text, info_text}
use Rattle.fsfs_tree.specs.ChangedTexts.{changed_text}
use Rattle.fsfs_tree.specs.PathHistories.{path_history}
use Rattle.fsfs_layout.specs.Opening.{small_texts, IsOpened}
use Rattle.fsfs_layout.specs.declared.opened.Opened.{Opened}
use Rattle.fsfs_stands.specs.Files.{StandsFor}
use Rattle.fsfs_stands.specs.Texts.{End}
use Rattle.fsfs_cli.specs.Readings.{Asks}
use Rattle.fsfs_cli.specs.Requests.{printed_path}
use Rattle.fsfs_cli.specs.declared.request.Look.{Look as SomeLook}
use Rattle.fsfs_cli.specs.declared.request.Look.TheVariants.{Youngest, Uuid, Dump, Verify, AtRevision}
use Rattle.fsfs_cli.specs.declared.request.Printed.{Printed}
use Rattle.fsfs_cli.specs.declared.request.Printed.TheVariants.{Tree, Text, Author, Date, Log, Info, Changed, History}
use Rattle.fsfs_cli.specs.declared.request.RevisionLook.{RevisionLook}
use Rattle.fsfs_cli.specs.declared.request.Task.{Task}
use Rattle.fsfs_cli.specs.declared.request.Task.TheVariants.{Create, ListTxns, RemoveTxns, Pack, Look, RunJobs}
use Rattle.fsfs_cli.specs.declared.tool.Tool.{Tool}
use Rattle.fsfs_cli.specs.declared.tool.Tool.TheVariants as tools
use Rattle.fsfs_cli.proofs.TaskLemmas.{tool_of_look, asks_task}
use Rattle.fsfs_top.specs.Command.{Did, Tells, answer_of}
use Rattle.fsfs_top.specs.Looks.{all_bytes, TextOf}
use Rattle.fsfs_top.specs.Replies.{Gives, HasNone, HasTxns, ShowsIds, Suits, IsOfSmallFiles, look_command, answer_to, Replies}
use Rattle.fsfs_top.specs.PackAnswers.{unpacked_of}
use Rattle.fsfs_top.specs.TxnAnswers.{refuses_admin}
use Rattle.fsfs_top.specs.Scenes.{Scene, SinkScene}
use Rattle.fsfs_top.proofs.TaskDone.{task_done}
use Rattle.fsfs_top.proofs.FlatTexts.{tree_is_by_tree, file_is_by_tree, author_is_by_props, date_is_by_props, log_is_by_props, info_is_by_props, changed_is_by_changes, history_is_by_trees, no_rev_line}
use Rattle.fsfs_top.proofs.LookReplies.{last_is, Fits, given_none, given_no_listing, given_no_removal, given_no_pack, given_pack, given_listing, given_removal, given_youngest, given_uuid, given_dump, given_verify, given_look, given_create, given_again}

-- ---- a look at a revision, by what is printed

-- over this history, at this revision of it
abbrev revision_reply : Printed → (Path → List ℕ) → List Revision → ℕ → Revision → Reply
revision_reply (Tree show_ids path) shown h rev r = tree_reply shown path r.tree (found_at (get r.tree) path)
revision_reply (Text path) shown h rev r = text_reply path (found_at (get r.tree) path)
revision_reply Author shown h rev r = prints (author_text r.properties)
revision_reply Date shown h rev r = prints (date_text r.properties)
revision_reply Log shown h rev r = prints (log_text r.properties)
revision_reply Info shown h rev r = prints (info_text r.properties)
revision_reply Changed shown h rev r = prints (changed_text rev (tree_of h) r.changes)
revision_reply (History path) shown h rev r = history_reply (path_history (tree_of h) rev path) (found_at (get r.tree) path)

answer_at : (revision : Option ℕ) (printed : Printed) (shown : Path → List ℕ) (h : List Revision) → of_revision revision h (revision_reply printed shown h (asked_revision revision h)) ≡ Answer (look_command revision printed shown) (Some h)
answer_at revision (Tree show_ids path) shown h = refl
answer_at revision (Text path) shown h = refl
answer_at revision Author shown h = refl
answer_at revision Date shown h = refl
answer_at revision Log shown h = refl
answer_at revision Info shown h = refl
answer_at revision Changed shown h = refl
answer_at revision (History path) shown h = refl

none_at : (revision : Option ℕ) (printed : Printed) (shown : Path → List ℕ) → refuses_look not_repo 1 ≡ Answer (look_command revision printed shown) None
none_at revision (Tree show_ids path) shown = refl
none_at revision (Text path) shown = refl
none_at revision Author shown = refl
none_at revision Date shown = refl
none_at revision Log shown = refl
none_at revision Info shown = refl
none_at revision Changed shown = refl
none_at revision (History path) shown = refl

fits_at : (printed : Printed) (files : Files) (h : List Revision) (s : StandsFor files h) (rev : ℕ) (r : Revision) (shown : Path → List ℕ) → slice_get h rev ≡ Some r → ShowsIds printed (rev_bytes s.opened.layout files) rev shown
    → (text : List ℕ) (end : End) → TextOf printed (all_bytes s.opened.layout files) rev text end → Fits tools.Look (printed_path printed) (revision_reply printed shown h rev r) text end
fits_at (Tree show_ids path) files h s rev r shown there are text end x = tree_is_by_tree files h s rev r path show_ids shown there are text end x
fits_at (Text path) files h s rev r shown there are text end x = file_is_by_tree files h s rev r path there text end x
fits_at Author files h s rev r shown there are text end x = author_is_by_props files h s rev r [] there text end x
fits_at Date files h s rev r shown there are text end x = date_is_by_props files h s rev r [] there text end x
fits_at Log files h s rev r shown there are text end x = log_is_by_props files h s rev r [] there text end x
fits_at Info files h s rev r shown there are text end x = info_is_by_props files h s rev r [] there text end x
fits_at Changed files h s rev r shown there are text end x = changed_is_by_changes files h s rev r [] there text end x
fits_at (History path) files h s rev r shown there are text end x = history_is_by_trees files h s rev r path there text end x

none_of : (look : SomeLook) (shown : Path → List ℕ) → refuses (line_of (tool_of_look look) (Request NotRepo)) 1 ≡ answer_to (Look look) shown None
none_of Youngest shown = refl
none_of Uuid shown = refl
none_of Dump shown = refl
none_of Verify shown = refl
none_of (AtRevision look) shown = none_at look.revision look.printed shown

module _ (tool : Tool) (ws : List (List ℕ)) (clock : Option ℕ) (dice : Option (List ℕ)) (a b : Scene) (err_old err_new : SinkScene) (status : ℕ) (fault : Option Fault)
    (did : Did tool ws clock dice a b fault) (ends : (status ≡ answer_of fault) × Tells tool err_old err_new fault) where
  abbrev pub Given : Reply → Type 0
  Given = Gives status a b err_old err_new

  none : (repos : List ℕ) (task : Task) (t : Trace) (shown : Path → List ℕ) → Asks tool ws repos task → a.host.disk_at repos ≡ Some t → HasNone task (files_now t) → Given (answer_to task shown None)
  none repos (Create shard) t shown asks here absent =
      let made = task_done clock dice a b fault tool ws repos (Create shard) did asks in
      given_create status tool a b err_old err_new repos shard clock dice t fault here absent ends made.0 made.1
  none repos ListTxns t shown asks here absent =
      given_no_listing status tool a b err_old err_new repos t here fault ends (refuses_admin not_repo 1) (ap (λ (k : Tool). refuses (line_of k (Request NotRepo)) 1) (sym (asks_task tool ws repos ListTxns asks))) absent
      (task_done clock dice a b fault tool ws repos ListTxns did asks).0
  none repos (RemoveTxns txns) t shown asks here absent =
      let done = task_done clock dice a b fault tool ws repos (RemoveTxns txns) did asks in
      given_no_removal status tool a b err_old err_new repos t here fault ends (refuses_admin not_repo 1) txns (ap (λ (k : Tool). refuses (line_of k (Request NotRepo)) 1) (sym (asks_task tool ws repos (RemoveTxns txns) asks))) absent done.2 done.0
  none repos Pack t shown asks here absent =
      given_no_pack status tool a b err_old err_new repos t here fault ends (refuses_admin not_repo 1) (ap (λ (k : Tool). refuses (line_of k (Request NotRepo)) 1) (sym (asks_task tool ws repos Pack asks))) absent
      (task_done clock dice a b fault tool ws repos Pack did asks).0
  none repos (Look look) t shown asks here absent =
      let looked = task_done clock dice a b fault tool ws repos (Look look) did asks in
      let by_look = asks_task tool ws repos (Look look) asks in
      subst Given (none_of look shown)
      (given_none status tool a b err_old err_new repos t here fault ends look (refuses (line_of (tool_of_look look) (Request NotRepo)) 1) (ap (λ (k : Tool). refuses (line_of k (Request NotRepo)) 1) (sym by_look)) absent looked.0)
  none repos (RunJobs run) t shown asks here absent = absurd absent

  at_revision : (repos : List ℕ) (look : RevisionLook) (t : Trace) (h : List Revision) (shown : Path → List ℕ) → Asks tool ws repos (Look (AtRevision look)) → a.host.disk_at repos ≡ Some t → (s : StandsFor (files_now t) h)
      → ShowsIds look.printed (rev_bytes s.opened.layout (files_now t)) (asked_revision look.revision h) shown → Given (of_revision look.revision h (revision_reply look.printed shown h (asked_revision look.revision h)))
  at_revision repos look t h shown asks here s are =
      let looked = task_done clock dice a b fault tool ws repos (Look (AtRevision look)) did asks in
      let by_look : tool ≡ tools.Look = asks_task tool ws repos (Look (AtRevision look)) asks in
      let bytes = rev_bytes s.opened.layout (files_now t) in
      let reply : ℕ → Revision → Reply = revision_reply look.printed shown h in
      let asked = asked_revision look.revision h in
      given_look status tool a b err_old err_new repos t here fault ends look h s (reply asked)
      (λ rev r is there text end x. subst (λ (k : Tool). Fits k (printed_path look.printed) (reply asked r) text end) (sym by_look)
      (subst (λ (n : ℕ). Fits tools.Look (printed_path look.printed) (reply n r) text end) is
      (fits_at look.printed (files_now t) h s rev r shown there (subst (λ (n : ℕ). ShowsIds look.printed bytes n shown) (sym is) are) text end x)))
      (λ n youngest. no_rev_line tool (reply asked) n youngest by_look) looked.0

  opened : (repos : List ℕ) (task : Task) (t : Trace) (o : Opened) (h : List Revision) (shown : Path → List ℕ) (names : List (List ℕ)) (txns : List (ℕ × ℕ)) → Asks tool ws repos task → a.host.disk_at repos ≡ Some t → IsOfSmallFiles task → IsOpened (small_texts (files_now t)) o
      → last_of h ≡ o.youngest → HasTxns task (labels_now t) names txns → Given (answer_to task shown (Some (record { history = h; identifier = o.uuid; names = names; txns = txns; unpacked = unpacked_of o })))
  opened repos (Create shard) t o h shown names txns asks here small is last has = absurd small
  opened repos ListTxns t o h shown names txns asks here small is last has = given_listing status tool a b err_old err_new repos t here fault ends names has o is (task_done clock dice a b fault tool ws repos ListTxns did asks).0
  opened repos (RemoveTxns given) t o h shown names txns asks here small is last has =
      let done = task_done clock dice a b fault tool ws repos (RemoveTxns given) did asks in
      given_removal status tool a b err_old err_new repos t here fault ends given txns (asks_task tool ws repos (RemoveTxns given) asks) has o is done.2 done.0
  opened repos Pack t o h shown names txns asks here small is last has = absurd small
  opened repos (Look Youngest) t o h shown names txns asks here small is last has =
      given_youngest status tool a b err_old err_new repos t here fault ends o h is last (task_done clock dice a b fault tool ws repos (Look Youngest) did asks).0
  opened repos (Look Uuid) t o h shown names txns asks here small is last has = given_uuid status tool a b err_old err_new repos t here fault ends o is (task_done clock dice a b fault tool ws repos (Look Uuid) did asks).0
  opened repos (Look Dump) t o h shown names txns asks here small is last has = absurd small
  opened repos (Look Verify) t o h shown names txns asks here small is last has = absurd small
  opened repos (Look (AtRevision look)) t o h shown names txns asks here small is last has = absurd small
  opened repos (RunJobs run) t o h shown names txns asks here small is last has = absurd small

  stands : (repos : List ℕ) (task : Task) (t : Trace) (h : List Revision) (shown : Path → List ℕ) (names : List (List ℕ)) (txns : List (ℕ × ℕ)) → Asks tool ws repos task → a.host.disk_at repos ≡ Some t → (s : StandsFor (files_now t) h)
      → Suits task (rev_bytes s.opened.layout (files_now t)) h shown → HasTxns task (labels_now t) names txns → Given (answer_to task shown (Some (record { history = h; identifier = s.opened.uuid; names = names; txns = txns; unpacked = unpacked_of s.opened })))
  stands repos (Create shard) t h shown names txns asks here s are has =
      let made = task_done clock dice a b fault tool ws repos (Create shard) did asks in
      let by_admin = (asks_task tool ws repos (Create shard) asks).0 in
      given_again status tool a b err_old err_new repos shard clock dice t fault (refuses (codes "svnadmin: " ++ already_repo ++ codes "\n") 1) s.small.format.0 here s.small.format.1.there
      (ap (λ (k : Tool). refuses (line_of k (Request AlreadyRepo)) 1) (sym by_admin)) ends made.0 made.1
  stands repos ListTxns t h shown names txns asks here s are has = opened repos ListTxns t s.opened h shown names txns asks here tt s.small (last_is (files_now t) h s) has
  stands repos (RemoveTxns given) t h shown names txns asks here s are has = opened repos (RemoveTxns given) t s.opened h shown names txns asks here tt s.small (last_is (files_now t) h s) has
  stands repos Pack t h shown names txns asks here s are has =
      given_pack status tool a b err_old err_new repos t here fault ends h s (task_done clock dice a b fault tool ws repos Pack did asks).0
  stands repos (Look Youngest) t h shown names txns asks here s are has = opened repos (Look Youngest) t s.opened h shown names txns asks here tt s.small (last_is (files_now t) h s) tt
  stands repos (Look Uuid) t h shown names txns asks here s are has = opened repos (Look Uuid) t s.opened h shown names txns asks here tt s.small (last_is (files_now t) h s) tt
  stands repos (Look Dump) t h shown names txns asks here s are has =
      given_dump status tool a b err_old err_new repos t here fault ends h s (asks_task tool ws repos (Look Dump) asks) (task_done clock dice a b fault tool ws repos (Look Dump) did asks).0
  stands repos (Look Verify) t h shown names txns asks here s are has = given_verify status tool a b err_old err_new repos t here fault ends h s are (task_done clock dice a b fault tool ws repos (Look Verify) did asks).0
  stands repos (Look (AtRevision look)) t h shown names txns asks here s are has = subst Given (answer_at look.revision look.printed shown h) (at_revision repos look t h shown asks here s are)
  stands repos (RunJobs run) t h shown names txns asks here s are has = absurd are

  pub replies : Replies tool ws a.host.disk_at Given
  replies = record { none = none; stands = stands; opened = opened }

-- a line about a fault was written, or a first part of it
pub told_line : {E : Type 0} (old new : Option (List ℕ)) (text : List ℕ) (before now : ℕ) (r : Result (Unit {0}) E) → Prints old new text before now r → Adds old new text ⊎ (Rose before now × AddsFront old new text)
told_line old new text before now (Ok done) p = inl p.whole
told_line old new text before now (Err e) p = inr (p.failed, p.part)
