-- The end of a job's transaction, beside others.
use Rattle.std.proofs.Common.{◌≡◌, ◌≤◌, ◌+◌, ℕ, List, [], ◌∷◌, Bool, false, length, length-append, take, refl, sym, ap, subst, ◌∙◌, inl, inr, arith}
use Rattle.std.specs.BTreeMap.{insert_entry}
use Rattle.std.specs.Cmp.Lexicographic.{slice_cmp}
use Rattle.std.specs.Ordering.{nat_cmp}
use Rattle.std.specs.Prelude.{None}
use Rattle.fsfs_base.specs.declared.fields.txn_name.TxnName.{TxnName}
use Rattle.fsfs_base.specs.declared.places.place.DiskPlace.{DiskPlace}
use Rattle.fsfs_tree.specs.Dated.{date_name, last_of}
use Rattle.fsfs_tree.specs.Histories.{IsHistory}
use Rattle.fsfs_draft.specs.Drafts.{Folder}
use Rattle.fsfs_machine.specs.declared.machine.Recorded.{Recorded}
use Rattle.fsfs_machine.specs.declared.machine.Txn.{Txn}
use Rattle.fsfs_machine.specs.Machine.{revisions}
use Rattle.fsfs_turn.specs.Alone.{BringsNoDoubt}
use Rattle.fsfs_turn.specs.Views.{View, Begins, IsTxnOver}
use Rattle.fsfs_turn.proofs.Longer.{txn_later}
use Rattle.fsfs_turn.proofs.Reading.{begins_on}
use Rattle.fsfs_turn.proofs.Moments.{begins_take}
use Rattle.fsfs_turn.proofs.Alone.{no_shorter}
use Rattle.fsfs_job_run.specs.Replies.{Committed, LeavesDoubt, Moved, Wrote, brings_doubt}
use Rattle.fsfs_job_run.specs.Works.{Landings}
use Rattle.fsfs_job_run.specs.Dating.{IsDatedAt}
use Rattle.fsfs_job_run.specs.TxnCommits.{Bars, IsDropped}
use Rattle.fsfs_job_run.specs.CommitBar.{CommitBar}
use Rattle.fsfs_job_run.specs.CommitBar.TheVariants as bars
use Rattle.fsfs_cli.specs.declared.faults.fault.Fault.TheVariants.{Outside}
use Rattle.fsfs_cli.specs.declared.faults.outside_fault.OutsideFault.TheVariants as outside
use Rattle.fsfs_script.specs.declared.job_lines.job.CommitJob.{CommitJob}
use Rattle.fsfs_script.specs.declared.job_lines.job.Job.TheVariants as jobs
use Rattle.fsfs_jobs.specs.Properties.{undated_properties}
use Rattle.fsfs_jobs.specs.Serial.{base_of}
use Rattle.fsfs_jobs.specs.declared.answer.JobAnswer.TheVariants as answers
use Rattle.fsfs_job_run.specs.Serial.Jobs.{ByBench, ByDisk, ByMemory, ByStuck}
use Rattle.fsfs_job_run.specs.Faults.{answer_of_bar}
use Rattle.fsfs_job_run.proofs.PropertyLemmas.{job_dated}
use Rattle.fsfs_job_run.proofs.Seen.{over_seen}
use Rattle.fsfs_job_run.specs.Workers.Beside.{IsBase}
use Rattle.fsfs_job_run.specs.Workers.Passes.{IsOnward, LeftBeside}
use Rattle.fsfs_workers.specs.Working.{EndsFrom, GoesOn, GoesOnKnown, IsEditedOver, IsEditedTxn, up_to}
use Rattle.fsfs_workers.proofs.Parts.{parts_of, part_length}
use Rattle.fsfs_workers.proofs.Lines.{is_base, base_later, last_is, full_line, clash_line, committed_line, wrote_line, clash_over, edited_later}
use Rattle.fsfs_workers.proofs.Going.{goes_on, by_falling, by_dropping, ends_so, fails_so}

module _ (knows : View → Type 0) (rose : Type 0) (moment k last : ℕ) (job : CommitJob) (name : TxnName) (base : ℕ) (settled : Folder) (v : View) (x : Txn) (e : IsEditedTxn job last name base settled v x) (few : k ≤ last) (on : base ≡ base_of job.base last) (within : base ≤ last) (none : v.section ≡ None) where
  part_long : length (up_to last v) ≡ last + 1
  part_long = part_length last v.seen e.seen

  -- the base, over a first part with this last revision
  on_part : (g : List Recorded) (n : ℕ) → length g ≡ n + 1 → last ≤ n → IsBase job.base k (last_of (revisions g)) base
  on_part g n long le = subst (λ (m : ℕ). IsBase job.base k m base) (sym (last_is g n long)) (base_later job.base k last n base le (is_base job.base k last base few on within))

  -- the edits, over one that is as long or longer
  edited_over : (h g : List Recorded) (n : ℕ) → Begins h v.seen → Begins h g → length g ≡ n + 1 → last ≤ n → IsEditedOver job g base x
  edited_over h g n onward part long le =
      edited_later job (up_to last v) g base x (parts_of h (up_to last v) g (begins_on (up_to last v) v.seen h (begins_take (last + 1) v.seen) onward) part (omega (arith, part_long, long, le))) e.edited

  -- ---- it was committed

  pub committed_ends : (rev : ℕ) (properties dated : List (List ℕ × List ℕ)) (gone : Bool) (m : View) (y : Txn) → properties ≡ undated_properties job → IsDatedAt moment properties dated → Committed rev dated v m x y → IsDropped knows gone x.name m
      → EndsFrom knows rose moment k (jobs.Commit job) (answers.Committed rev) v
  committed_ends rev properties dated gone m y undated date c dropped = (
    left.0,
    left.1,
    record {
      line = λ h onward. inl (committed_line moment k rev job date.0 dated v m x y c (up_to last v) base h (begins_on m.seen left.0.seen h left.2.grows onward.begins) (begins_take (last + 1) v.seen) (omega (arith, few, part_long))
          (on_part (up_to last v) last part_long (omega arith)) e.edited date.1 (date.2 ∙ ap (λ (p : List (List ℕ × List ℕ)). insert_entry (slice_cmp nat_cmp) p date_name date.0) undated ∙ job_dated date.0 job));
      grows = begins_on v.seen m.seen left.0.seen more left.2.grows;
      later = omega (arith, c.above, c.number, long, no_shorter m.seen left.0.seen left.2.grows, no_shorter v.seen m.seen more);
      shown = omega (arith, c.number, long, no_shorter m.seen left.0.seen left.2.grows);
      since = left.2.since ∙ c.since;
      opened = left.2.opened ∙ c.opened;
      own = left.2.own ∙ c.mine;
      outside = left.2.outside;
      doubtless = λ calm harmless. left.2.doubtless (c.doubtless harmless);
      left = inl (left.2.left ∙ c.left);
      still = λ found. left.2.still (c.still found);
      full = λ full. left.2.full (c.full full);
    },
    tt,
  )
    where
      left : GoesOnKnown knows m
      left = by_dropping knows gone x.name m c.outside dropped

      more : Begins m.seen v.seen
      more = begins_on v.seen c.before m.seen c.begins (c.next ∷ [], c.is)

      long : length m.seen ≡ length c.before + 1
      long = ap (λ (h : List Recorded). length h) c.is ∙ length-append c.before (c.next ∷ [])

  -- ---- nothing was added, and it was purged behind that

  module _ (u : View) (y : Txn) (moved : Moved v u) (brings : BringsNoDoubt v u) (kept : u.left ≡ v.left) (landings : Landings u.seen x y) (hist : IsHistory (revisions u.seen)) (left : GoesOnKnown knows u) where
    onward_of : (h : List Recorded) → IsOnward left.0 h → Begins h u.seen
    onward_of h onward = begins_on u.seen left.0.seen h left.2.grows onward.begins

    over : IsTxnOver u.seen x
    over = txn_later v.seen u.seen x moved.drifted.grows (omega (arith, e.seen)) (over_seen v.seen name base settled x e.stands)

    pub barred_ends : (bar : CommitBar) → Bars bar u y → EndsFrom knows rose moment k (jobs.Commit job) (answer_of_bar job.line bar) v
    barred_ends (bars.Conflict path head) b = (
      left.0,
      left.1,
      ends_so moment k (jobs.Commit job) (answers.Conflict head path) v left.0 (goes_on v u left.0 (by_falling v u none moved brings kept) left.2) refl (omega (arith, b.0, left.2.least)) (λ h onward.
          let g = take (head + 1) u.seen in
          let long : length g ≡ head + 1 = part_length head u.seen b.2.there in
          let seen = begins_take (head + 1) u.seen in
          let le : last ≤ head = omega (arith, e.told, moved.drifted.least, b.0) in
          let low : x.base ≤ head = omega (arith, e.edited.on, within, le) in
          inl (clash_line moment k job h g base (begins_on g u.seen h seen (onward_of h onward)) (omega (arith, long, few, le)) (on_part g head long le) v.number x head path (edited_over u.seen g head moved.drifted.grows seen long le) long b.1
          (clash_over u.seen x y head path hist over landings b.2 low))),
      tt,
    )
    barred_ends bars.RevsFull b = (
      left.0,
      left.1,
      ends_so moment k (jobs.Commit job) (answer_of_bar job.line bars.RevsFull) v left.0 (goes_on v u left.0 (by_falling v u none moved brings kept) left.2) refl (omega arith) (λ h onward.
          let top = u.pass.least in
          let full : 2147483647 ≤ top = b in
          let g = take (top + 1) h in
          let long : length g ≡ top + 1 = part_length top h (omega (arith, onward.has, left.2.least)) in
          let le : last ≤ top = omega (arith, e.told, moved.drifted.least) in
          inl (full_line moment k job h g base (begins_take (top + 1) h) (omega (arith, long, few, le)) (on_part g top long le) x
          (edited_over h g top (begins_on v.seen u.seen h moved.drifted.grows (onward_of h onward)) (begins_take (top + 1) h) long le) (omega (arith, long, full)))),
      tt,
    )
    barred_ends (bars.Stuck at) b =
        (left.0, left.1, fails_so moment k (jobs.Commit job) (answer_of_bar job.line (bars.Stuck at)) v u left.0 moved none left.2 (λ calm. brings) (inl (left.2.left ∙ kept)) refl refl (ByStuck (jobs.Commit job) job.line at) (λ P. tt), left.3 ∙ b)
    barred_ends (bars.Wrong wrong) b = absurd b
    barred_ends (bars.PastLimit limit) b =
        (left.0, left.1, fails_so moment k (jobs.Commit job) (answer_of_bar job.line (bars.PastLimit limit)) v u left.0 moved none left.2 (λ calm. brings) (inl (left.2.left ∙ kept)) refl refl (ByMemory (jobs.Commit job) job.line) (λ P. tt), tt)
    barred_ends bars.Lacking b = absurd b
    barred_ends bars.Memory b = (left.0, left.1, fails_so moment k (jobs.Commit job) (answer_of_bar job.line bars.Memory) v u left.0 moved none left.2 (λ calm. brings) (inl (left.2.left ∙ kept)) refl refl (ByMemory (jobs.Commit job) job.line) (λ P. tt), tt)

  -- ---- nothing was added, and it is no more

  pub disk_ends : (at : DiskPlace) (properties dated : List (List ℕ × List ℕ)) (u : View) (gone : Bool) → properties ≡ undated_properties job → IsDatedAt moment properties dated → rose → (brings_doubt at ≡ false → BringsNoDoubt v u) → LeavesDoubt (Wrote dated v u x) v u → Moved v u → IsDropped knows gone x.name u → EndsFrom knows rose moment k (jobs.Commit job) (answers.Stopped job.line (Outside (outside.Disk at))) v
  disk_ends at properties dated u gone undated date up brings doubt moved dropped =
      let left = by_dropping knows gone x.name u (moved.section ∙ none) dropped in
      (left.0, left.1, fails_so moment k (jobs.Commit job) (answers.Stopped job.line (Outside (outside.Disk at))) v u left.0 moved none left.2 brings (left_by left.0 left.2 doubt) refl refl (ByDisk (jobs.Commit job) job.line at) (λ P. tt), up)
    where
      -- the revision that was to be added, over what the pass knows behind the purge
      left_by : (w : View) → GoesOn u w → LeavesDoubt (Wrote dated v u x) v u → LeftBeside moment k (jobs.Commit job) v w
      left_by w g (inl same) = inl (g.left ∙ same)
      left_by w g (inr (c, is, wrote)) =
          inr (
            c,
            g.left ∙ is,
            λ h onward hist follows. wrote_line moment k job date.0 dated v u x c wrote (up_to last v) base h (begins_on u.seen w.seen h g.grows onward.begins) hist follows (begins_take (last + 1) v.seen) (omega (arith, few, part_long))
                (on_part (up_to last v) last part_long (omega arith)) e.edited date.1 (date.2 ∙ ap (λ (p : List (List ℕ × List ℕ)). insert_entry (slice_cmp nat_cmp) p date_name date.0) undated ∙ job_dated date.0 job),
          )

  pub bench_ends : (u : View) (gone : Bool) → BringsNoDoubt v u → u.left ≡ v.left → Moved v u → IsDropped knows gone x.name u → EndsFrom knows rose moment k (jobs.Commit job) (answers.Stopped job.line (Outside outside.Bench)) v
  bench_ends u gone brings kept moved dropped =
      let left = by_dropping knows gone x.name u (moved.section ∙ none) dropped in
      (left.0, left.1, fails_so moment k (jobs.Commit job) (answers.Stopped job.line (Outside outside.Bench)) v u left.0 moved none left.2 (λ calm. brings) (inl (left.2.left ∙ kept)) refl refl (ByBench (jobs.Commit job) job.line) (λ P. tt), tt)
