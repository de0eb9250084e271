-- Answers that tell that no name is left, and why.
use Rattle.std.proofs.Common.{◌≡◌, ◌⊎◌, ◌<◌, ◌||◌, ◌++◌, ◌∷◌, ℕ, List, [], length, Bool, true, false, if◌then◌else◌, inl, inr, ⊎_elim, refl, sym, ap, subst, ◌∙◌}
use Rattle.std.specs.Prelude.{Option, Some, None, IfSome, option_map, nat_le, codes}
use Rattle.fsfs_base.specs.Files.{Files}
use Rattle.fsfs_base.specs.Paths.{Path, is_root, same_name}
use Rattle.fsfs_base.specs.declared.fields.txn_name.TxnName.{TxnName}
use Rattle.fsfs_disk.specs.Trace.{Trace, files_now}
use Rattle.fsfs_tree.specs.Answers.{Found, Stands, Lacking, Blocked, found_at}
use Rattle.fsfs_tree.specs.Dated.{last_of}
use Rattle.fsfs_tree.specs.Nodes.{Node, TreeFunction}
use Rattle.fsfs_tree.specs.Revisions.{tree_of}
use Rattle.fsfs_draft.specs.Drafts.{Folder}
use Rattle.fsfs_machine.specs.Machine.{revisions}
use Rattle.fsfs_model.specs.Flat.Edits.{parent, is_dir, fits_value}
use Rattle.fsfs_model.specs.declared.flat.mark.Mark.{Mark}
use Rattle.fsfs_revision.specs.Told.{RevisionBytes}
use Rattle.fsfs_revision.specs.declared.wrong.Wrong.{Wrong}
use Rattle.fsfs_revision.specs.declared.wrong.Wrong.TheVariants as wrongs
use Rattle.fsfs_revision.specs.declared.wrong.Refusal.TheVariants as refusals
use Rattle.fsfs_turn.specs.Bytes.{bytes_of}
use Rattle.fsfs_turn.specs.Telling.{OwnedState, owned_view}
use Rattle.fsfs_turn.specs.Views.{View}
use Rattle.fsfs_stands.specs.declared.look_fault.LookFault.{LookFault}
use Rattle.fsfs_stands.specs.declared.look_fault.LookFault.TheVariants as looks
use Rattle.fsfs_look.specs.declared.look_error.LookError.{LookError}
use Rattle.fsfs_look.specs.declared.look_error.LookError.TheVariants as errors
use Rattle.fsfs_cli.specs.CommandFaults.{IsFromLook, fault_from_wrong}
use Rattle.fsfs_cli.specs.declared.faults.fault.Fault.{Fault}
use Rattle.fsfs_cli.specs.declared.faults.fault.Fault.TheVariants.{Words, Request, Repository, Outside, Memory, Limit}
use Rattle.fsfs_cli.specs.declared.faults.request_fault.RequestFault.TheVariants.{NotDir, NotFile, NoRev, RootFixed, Mergeinfo}
use Rattle.fsfs_cli.specs.declared.faults.limit_fault.LimitFault.TheVariants.{TextTooLong, PropTooLong}
use Rattle.fsfs_script.specs.declared.job_lines.edit.Edit.{Edit}
use Rattle.fsfs_script.specs.declared.job_lines.edit.Edit.TheVariants.{MakeDir, MakeFile, Delete, Copy, Put, Prop}
use Rattle.fsfs_script.specs.declared.job_lines.job.Step.{Step}
use Rattle.fsfs_repo.specs.BeginFault.{BeginFault}
use Rattle.fsfs_repo.specs.BeginFault.TheVariants as begin
use Rattle.fsfs_repo.specs.BeginFaults.{Cause}
use Rattle.fsfs_repo.specs.BeginSteps.{HasLastName, LeavesNoName}
use Rattle.fsfs_repo.specs.TxnStanding.{Stands as TxnStands}
use Rattle.fsfs_repo.specs.Txns.Begun.{BeginsTxn}
use Rattle.fsfs_repo.specs.declared.txns.answers.CommitBar.{CommitBar}
use Rattle.fsfs_repo.specs.declared.txns.answers.CommitBar.TheVariants as bars
use Rattle.fsfs_jobs.specs.Edits.{edited, marks_of, or_else, unfound, no_dir, taken, root_fixed, no_rev, no_mergeinfo, make_fault, delete_fault, copy_fault, put_fault, prop_fault, fault_of, too_long, Refuses, ByTrees, Full, Long, StopsAt}
use Rattle.fsfs_jobs.specs.JobEdits.Editing.{Bars, IfRefused}
use Rattle.fsfs_jobs.specs.declared.answer.JobAnswer.{JobAnswer}
use Rattle.fsfs_jobs.specs.declared.answer.JobAnswer.TheVariants.{Stopped}
use Rattle.fsfs_job_run.specs.Faults.{fault_of_begin, fault_of_merge, answer_of_bar}
use Rattle.fsfs_job_run.specs.Serial.Jobs.{tells_full, tell_full}
use Rattle.fsfs_job_run.specs.TextReads.{IsFromLookError}

-- ---- none but a beginning tells it

pub as_one : (line : ℕ) (one fault : Fault) → fault ≡ one → tells_full (Stopped line one) ≡ false → tells_full (Stopped line fault) ≡ false
as_one line one fault is k = ap (λ (f : Fault). tells_full (Stopped line f)) is ∙ k

wrong_unfull : (line : ℕ) (wrong : Wrong) → tells_full (Stopped line (fault_from_wrong wrong)) ≡ false
wrong_unfull line (wrongs.Refused (refusals.NoRev asked youngest)) = refl
wrong_unfull line (wrongs.Refused (refusals.Missing rev)) = refl
wrong_unfull line (wrongs.Refused (refusals.Small fault)) = refl
wrong_unfull line (wrongs.Damaged damage) = refl
wrong_unfull line (wrongs.Delta at) = refl

-- a revision that there isn't
pub request_unfull : (line : ℕ) (fault : Fault) → (asked : ℕ) × (youngest : ℕ) × (fault ≡ Request (NoRev asked youngest)) → tells_full (Stopped line fault) ≡ false
request_unfull line fault w = as_one line (Request (NoRev w.0 w.1)) fault w.2 refl

-- a reading
look_unfull : (line : ℕ) (path : Path) (why : LookFault) (fault : Fault) → IsFromLook path why fault → tells_full (Stopped line fault) ≡ false
look_unfull line path (looks.NotFound names) fault k = ⊎_elim (λ is. as_one line _ fault is refl) (λ is. as_one line _ fault is refl) k
look_unfull line path (looks.NotDir names) fault k = ⊎_elim (λ is. as_one line _ fault is refl) (λ is. as_one line _ fault is refl) k
look_unfull line path looks.NotFile fault k = ⊎_elim (λ is. as_one line _ fault is refl) (λ is. as_one line _ fault is refl) k
look_unfull line path (looks.Wrong wrong) fault k = as_one line _ fault k (wrong_unfull line wrong)

pub read_unfull : (line : ℕ) (path : Path) (error : LookError) (fault : Fault) → IsFromLookError path error fault → tells_full (Stopped line fault) ≡ false
read_unfull line path (errors.Fault why) fault k = look_unfull line path why fault k
read_unfull line path errors.OutOfMemory fault k = as_one line _ fault k refl
read_unfull line path errors.DiskFault fault k = as_one line _ fault k refl
read_unfull line path errors.WriteFault fault k = as_one line _ fault k refl

-- a transaction that is handed back
merge_unfull : (line : ℕ) (wrong : Wrong) → tells_full (Stopped line (fault_of_merge wrong)) ≡ false
merge_unfull line (wrongs.Refused (refusals.NoRev asked youngest)) = refl
merge_unfull line (wrongs.Refused (refusals.Missing rev)) = refl
merge_unfull line (wrongs.Refused (refusals.Small fault)) = refl
merge_unfull line (wrongs.Damaged damage) = refl
merge_unfull line (wrongs.Delta at) = refl

pub bar_unfull : (line : ℕ) (bar : CommitBar) → tells_full (answer_of_bar line bar) ≡ false
bar_unfull line (bars.Conflict path head) = refl
bar_unfull line bars.RevsFull = refl
bar_unfull line (bars.Stuck at) = refl
bar_unfull line (bars.Wrong wrong) = merge_unfull line wrong
bar_unfull line (bars.PastLimit limit) = refl
bar_unfull line bars.Lacking = refl
bar_unfull line bars.Memory = refl

-- edits of which one was refused
module _ (line : ℕ) where
  abbrev full_in : Option Fault → Bool
  full_in None = false
  full_in (Some fault) = tells_full (Stopped line fault)

  first_unfull : (one next : Option Fault) → full_in one ≡ false → full_in next ≡ false → full_in (or_else one next) ≡ false
  first_unfull None next a b = b
  first_unfull (Some fault) next a b = a

  found_unfull : (found : Found) → full_in (unfound found) ≡ false
  found_unfull (Stands node) = refl
  found_unfull (Lacking at) = refl
  found_unfull (Blocked at) = refl

  dir_test : (path : Path) (b : Bool) → full_in (if b then None else Some (Request (NotDir path))) ≡ false
  dir_test path true = refl
  dir_test path false = refl

  dir_unfull : (path : Path) (found : Found) → full_in (no_dir path found) ≡ false
  dir_unfull path (Stands node) = dir_test path (is_dir node.kind)
  dir_unfull path (Lacking at) = refl
  dir_unfull path (Blocked at) = refl

  taken_unfull : (path : Path) (node : Option Node) → full_in (taken path node) ≡ false
  taken_unfull path None = refl
  taken_unfull path (Some node) = refl

  root_test : (b : Bool) → full_in (if b then Some (Request RootFixed) else None) ≡ false
  root_test true = refl
  root_test false = refl

  rev_test : (rev last : ℕ) (b : Bool) → full_in (if b then None else Some (Request (NoRev rev last))) ≡ false
  rev_test rev last true = refl
  rev_test rev last false = refl

  name_test : (path : Path) (b : Bool) → full_in (if b then Some (Request (Mergeinfo path)) else None) ≡ false
  name_test path true = refl
  name_test path false = refl

  file_test : (path : Path) (b : Bool) → full_in (if b then Some (Request (NotFile path)) else None) ≡ false
  file_test path true = refl
  file_test path false = refl

  text_test : (b : Bool) → full_in (if b then None else Some (Limit TextTooLong)) ≡ false
  text_test true = refl
  text_test false = refl

  value_test : (b : Bool) → full_in (if b then None else Some (Limit PropTooLong)) ≡ false
  value_test true = refl
  value_test false = refl

  make_unfull : (t : TreeFunction) (path : Path) → full_in (make_fault t path) ≡ false
  make_unfull t path = first_unfull (no_dir (parent path) (found_at t (parent path))) (taken path (t path)) (dir_unfull (parent path) (found_at t (parent path))) (taken_unfull path (t path))

  put_unfull : (t : TreeFunction) (path : Path) (node : Option Node) → full_in (put_fault t path node) ≡ false
  put_unfull t path None = make_unfull t path
  put_unfull t path (Some node) = file_test path (is_dir node.kind)

  module _ (trees : ℕ → TreeFunction) (last : ℕ) where
    trees_unfull : (t : TreeFunction) (edit : Edit) → full_in (fault_of edit trees last t) ≡ false
    trees_unfull t (MakeDir path) = make_unfull t path
    trees_unfull t (MakeFile path) = make_unfull t path
    trees_unfull t (Delete path) = first_unfull (unfound (found_at t path)) (root_fixed path) (found_unfull (found_at t path)) (root_test (is_root path))
    trees_unfull t (Copy copy) =
        let found = found_at (trees copy.rev) copy.from in
        first_unfull (make_fault t copy.to) (or_else (no_rev copy.rev last) (unfound found)) (make_unfull t copy.to) (first_unfull (no_rev copy.rev last) (unfound found) (rev_test copy.rev last (nat_le copy.rev last)) (found_unfull found))
    trees_unfull t (Put put) = put_unfull t put.path (t put.path)
    trees_unfull t (Prop set) =
        let found = found_at t set.path in
        first_unfull (unfound found) (no_mergeinfo set.name set.path) (found_unfull found) (name_test set.path (same_name set.name (codes "svn:mergeinfo")))

    long_unfull : (edit : Edit) → full_in (too_long edit) ≡ false
    long_unfull (MakeDir path) = refl
    long_unfull (MakeFile path) = refl
    long_unfull (Delete path) = refl
    long_unfull (Copy copy) = refl
    long_unfull (Put put) = text_test (nat_le (length put.text) 1_073_741_824)
    long_unfull (Prop set) = value_test (fits_value set.value)

    refused_unfull : (t : TreeFunction) (edit : Edit) (fault : Fault) → Refuses trees last t edit fault → tells_full (Stopped line fault) ≡ false
    refused_unfull t edit _ (ByTrees fault is) = sym (ap full_in is) ∙ trees_unfull t edit
    refused_unfull t edit _ (Full fits space) = refl
    refused_unfull t edit _ (Long fault fits space is) = sym (ap full_in is) ∙ long_unfull edit

    module _ (look : RevisionBytes) (base : ℕ) (name : TxnName) where
      barred_unfull : (t : TreeFunction) (marks : List Mark) (edit : Edit) (fault : Fault) → Bars look trees last base name t marks edit fault → tells_full (Stopped line fault) ≡ false
      barred_unfull t marks edit fault (inl refused) = refused_unfull t edit fault refused
      barred_unfull t marks edit fault (inr counted) = as_one line _ fault counted.fault_is refl

      stopped_unfull : (at : ℕ) (t : TreeFunction) (marks : List Mark) (steps : List Step) (fault : Fault) → StopsAt (Bars look trees last base name) trees last t marks steps at fault → tells_full (Stopped line fault) ≡ false
      stopped_unfull at t marks [] fault s = absurd s
      stopped_unfull at t marks (step ∷ steps) fault (inl (here, bars)) = barred_unfull t marks step.edit fault bars
      stopped_unfull at t marks (step ∷ steps) fault (inr (allowed, more)) = stopped_unfull at (edited step.edit trees t) (marks ++ marks_of step.edit trees t) steps fault more

      pub edits_unfull : (at : ℕ) (t : TreeFunction) (marks : List Mark) (steps : List Step) (fault : Fault) → IfRefused fault (StopsAt (Bars look trees last base name) trees last t marks steps at fault) → tells_full (Stopped line fault) ≡ false
      edits_unfull at t marks steps (Request why) s = refl
      edits_unfull at t marks steps (Limit why) s = stopped_unfull at t marks steps (Limit why) s
      edits_unfull at t marks steps (Words why) s = absurd s
      edits_unfull at t marks steps (Repository why) s = absurd s
      edits_unfull at t marks steps (Outside why) s = refl
      edits_unfull at t marks steps Memory s = refl

-- where one was begun, of a base that is another's number
pub begun_unfull : {P : Type 0} (base on_base : ℕ) (name : TxnName) (settled : Folder) (answer : JobAnswer) (v u : View) → on_base ≡ base → BeginsTxn name base settled v u
    → (on_base < length u.seen → TxnStands (bytes_of u.seen) (tree_of (revisions u.seen)) (last_of (revisions u.seen)) on_base name settled (tree_of (revisions u.seen) on_base) [] → tells_full answer ≡ false) → tells_full answer ≡ true → P
begun_unfull base on_base name settled answer v u same b unfull told =
    let h = unfull (subst (λ (n : ℕ). n < length u.seen) (sym same) b.based) (subst (λ (n : ℕ). TxnStands (bytes_of u.seen) (tree_of (revisions u.seen)) (last_of (revisions u.seen)) n name settled (tree_of (revisions u.seen) n) []) (sym same) b.stands) in
    absurd cc

-- where none was, and a name was left
pub cause_unfull : {P : Type 0} (base line : ℕ) (why : BeginFault) (u : View) → Cause base why u → tells_full (Stopped line (fault_of_begin why)) ≡ true → P
cause_unfull base line (begin.NoRev asked youngest) u c told = absurd cc
cause_unfull base line (begin.Stuck at) u c told = absurd cc
cause_unfull base line (begin.Small fault) u c told = absurd c
cause_unfull base line begin.NamesFull u c told = absurd c
cause_unfull base line (begin.Wrong wrong) u c told = let h = wrong_unfull line wrong in absurd cc
cause_unfull base line (begin.DiskFault at) u c told = absurd cc
cause_unfull base line begin.BenchFault u c told = absurd cc
cause_unfull base line begin.Memory u c told = absurd cc

-- ---- answers one after another

pub one_true : (a b : Bool) → (a || b) ≡ true → (a ≡ true) ⊎ (b ≡ true)
one_true true b e = inl refl
one_true false b e = inr e

pub then_true : (a b : Bool) → b ≡ true → (a || b) ≡ true
then_true true b e = refl
then_true false b e = e

tells_among : (answers : List JobAnswer) (answer : JobAnswer) → tell_full (answers ++ answer ∷ []) ≡ true → (tell_full answers ≡ true) ⊎ (tells_full answer ≡ true)
tells_among [] answer told = ⊎_elim (λ one. inr one) (λ none. absurd cc) (one_true (tells_full answer) false told)
tells_among (first ∷ answers) answer told =
    ⊎_elim (λ one. inl (ap (λ (b : Bool). b || tell_full answers) one)) (λ more. ⊎_elim (λ before. inl (then_true (tells_full first) (tell_full answers) before)) (λ last. inr last) (tells_among answers answer more))
    (one_true (tells_full first) (tell_full (answers ++ answer ∷ [])) told)

pub full_more : {P : Type 0} (answers : List JobAnswer) (answer : JobAnswer) (more : List JobAnswer) → more ≡ answers ++ answer ∷ [] → (tell_full answers ≡ true → P) → (tells_full answer ≡ true → P) → tell_full more ≡ true → P
full_more answers answer more are before last told = ⊎_elim before last (tells_among answers answer (sym (ap tell_full are) ∙ told))

pub none_full : {P : Type 0} (answers : List JobAnswer) → answers ≡ [] → tell_full answers ≡ true → P
none_full answers none told = let h : tell_full answers ≡ false = ap tell_full none in absurd cc

-- ---- what stays as it was

pub full_as : (a b : OwnedState) → b ≡ a → HasLastName (owned_view a) → HasLastName (owned_view b)
full_as a b same last = subst (λ (s : OwnedState). HasLastName (owned_view s)) (sym same) last

told_none : (told : Option Trace) (files : Files) → option_map files_now told ≡ Some files → LeavesNoName files → IfSome told (λ t. LeavesNoName (files_now t))
told_none None files is none = tt
told_none (Some t) files is none = let same : files_now t ≡ files = cc in subst LeavesNoName (sym same) none

pub left_in : (s : OwnedState) → HasLastName (owned_view s) → IfSome s.trace (λ t. LeavesNoName (files_now t))
left_in s last = told_none s.trace last.files last.told last.none
