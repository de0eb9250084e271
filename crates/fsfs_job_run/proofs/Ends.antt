-- The end of a job's transaction: it is committed, or nothing was added.
use Rattle.std.proofs.Common.{◌≡◌, ◌⊎◌, ◌<◌, ◌+◌, ℕ, List, [], ◌∷◌, Bool, true, false, refl, length, length-append, sym, ap, subst, ◌∙◌, inl, inr, arith}
use Rattle.std.specs.BTreeMap.{insert_entry}
use Rattle.std.specs.Cmp.Lexicographic.{slice_cmp}
use Rattle.std.specs.Ordering.{nat_cmp}
use Rattle.std.specs.Prelude.{Result, Ok, Err, None}
use Rattle.fsfs_base.specs.declared.places.place.DiskPlace.{DiskPlace}
use Rattle.fsfs_base.specs.declared.places.place.DiskPlace.TheVariants.{Remove}
use Rattle.fsfs_tree.specs.Revisions.{Revision}
use Rattle.fsfs_tree.specs.Dated.{date_name}
use Rattle.fsfs_machine.specs.declared.machine.Recorded.{Recorded}
use Rattle.fsfs_machine.specs.declared.machine.Went.{Went}
use Rattle.fsfs_machine.specs.declared.machine.Went.TheVariants.{Fine}
use Rattle.fsfs_machine.specs.declared.machine.Step.{Step}
use Rattle.fsfs_machine.specs.declared.machine.Step.TheVariants.{PurgeSpent}
use Rattle.fsfs_machine.specs.declared.machine.Txn.{Txn}
use Rattle.fsfs_machine.specs.Machine.{World, revisions}
use Rattle.fsfs_turn.specs.Alone.{BringsNoDoubt, leaves_stuck}
use Rattle.fsfs_turn.specs.Learning.{with_spent}
use Rattle.fsfs_turn.specs.Views.{View, Begins}
use Rattle.fsfs_turn.proofs.Alone.{same_by_length, no_shorter}
use Rattle.fsfs_repo.specs.BeginPurged.{HasPurged, HasNotPurged, Purges}
use Rattle.fsfs_repo.specs.PurgeFault.{PurgeFault}
use Rattle.fsfs_repo.specs.PurgeFault.TheVariants.{DiskFault}
use Rattle.fsfs_repo.specs.Replies.{Committed, Moved}
use Rattle.fsfs_turn.proofs.Doubts.{same_faults, fault_more}
use Rattle.fsfs_script.specs.declared.job_lines.job.CommitJob.{CommitJob}
use Rattle.fsfs_script.specs.declared.job_lines.job.Job.TheVariants as jobs
use Rattle.fsfs_jobs.specs.Properties.{undated_properties}
use Rattle.fsfs_jobs.specs.declared.answer.JobAnswer.{JobAnswer}
use Rattle.fsfs_jobs.specs.declared.answer.JobAnswer.TheVariants as answers
use Rattle.fsfs_job_run.specs.Serial.Jobs.{Fails, tells_doubt}
use Rattle.fsfs_repo.specs.Dating.{IsDatedAt}
use Rattle.fsfs_repo.specs.Txns.Commits.{IsDropped}
use Rattle.fsfs_job_run.specs.Running.{Stays, HasOutsideCause}
use Rattle.fsfs_job_run.specs.Ending.{CommitsTxn, EndsSo, TxnLeft, WasToCommit}
use Rattle.fsfs_job_run.proofs.PropertyLemmas.{job_dated}
use Rattle.fsfs_job_run.proofs.Staying.{IsCounted, IsBare, seen_same, between, bare_leaves, stays_on, then_stays, purge_stays, no_purge_stays, moved_stays, commit_leaves}
use Rattle.fsfs_job_run.proofs.Ended.{commits_added}

-- what a pass knows that is alone: of what it has seen none came but its own, it was told no more than it has seen, and its number is 0
pub record IsLone (knows : View → Type 0) : Type 0 where
  pub all : (u : View) → knows u → IsCounted u
  pub told : (u : View) → knows u → u.pass.least < length u.seen
  pub number : (u : View) → knows u → u.number ≡ 0

-- what is left in doubt stays so
left_on : (moment : ℕ) (job : CommitJob) (x : Txn) (v m u : View) → u.left ≡ m.left → u.seen ≡ m.seen → TxnLeft moment job x v m → TxnLeft moment job x v u
left_on moment job x v m u same seen (inl kept) = inl (same ∙ kept)
left_on moment job x v m u same seen (inr (c, is, wrote)) = inr (c, same ∙ is, subst (λ (h : List Recorded). WasToCommit moment v.number job x h c) (sym seen) wrote)

-- behind a purge
abbrev pub StaysKnown : (View → Type 0) → View → Type 0
StaysKnown knows v = (u : View) × knows u × Stays v u × BringsNoDoubt v u × (u.pass.stuck ≡ v.pass.stuck) × (u.left ≡ v.left)

module _ (knows : View → Type 0) (lone : IsLone knows) where
  purged_known : (lay : World → World) (step : Step) (v u : View) → IsCounted v → v.section ≡ None → knows u → HasPurged lay step v u → StaysKnown knows v
  purged_known lay step v u all none known p = (u, known, purge_stays lay step v u p all (lone.all u known) none, same_faults v u (ap {A = View} (λ z. z.pass.faults) p.is), ap {A = View} (λ z. z.pass.stuck) p.is, ap {A = View} (λ z. z.left) p.is)

  not_purged_known : (place : DiskPlace) (lay : World → World) (step : Step) (v u : View) → leaves_stuck place ≡ false → IsCounted v → v.section ≡ None → knows u → HasNotPurged place lay step v u → StaysKnown knows v
  not_purged_known place lay step v u harmless all none known p =
      (u, known, no_purge_stays place lay step v u p all (lone.all u known) none, fault_more place v u (ap {A = View} (λ z. z.pass.faults) p.is) harmless, ap {A = View} (λ z. z.pass.stuck) p.is, ap {A = View} (λ z. z.left) p.is)

  pub purges_stay : (lay : World → World) (step : Went → Step) (result : Result (Unit {0}) PurgeFault) (v : View) → IsCounted v → v.section ≡ None → Purges knows lay step result v → StaysKnown knows v
  purges_stay lay step (Ok done) v all none p = purged_known lay (step Fine) v p.0 all none p.1 p.2
  purges_stay lay step (Err (DiskFault place)) v all none p = not_purged_known place lay (step p.2) v p.1 (ap leaves_stuck p.0) all none p.3 p.5

  dropped_stays : (gone : Bool) (name : ℕ) (m : View) → IsCounted m → m.section ≡ None → IsDropped knows gone name m → StaysKnown knows m
  dropped_stays true name m all none d = purged_known (with_spent name) (PurgeSpent m.number 0 Fine) m d.0 all none d.1 d.2
  dropped_stays false name m all none d = not_purged_known Remove (with_spent name) (PurgeSpent m.number 0 d.1) m d.0 refl all none d.2 d.4

  -- what is known behind that, of a pass that may have seen more than was counted
  abbrev GoesOn : View → Type 0
  GoesOn m = (u : View) × Begins u.seen m.seen × (length u.seen ≡ m.opened + length m.pass.mine) × (u.number ≡ m.number) × (u.number ≡ 0)

  goes_on : (m u : View) → knows u → Begins u.seen m.seen → u.opened ≡ m.opened → u.pass.mine ≡ m.pass.mine → u.number ≡ m.number → GoesOn m
  goes_on m u known grows opened mine number =
      let all : length u.seen ≡ u.opened + length u.pass.mine = lone.all u known in
      let same : length u.pass.mine ≡ length m.pass.mine = ap (λ (l : List ℕ). length l) mine in
      (u, grows, omega (arith, all, opened, same), number, lone.number u known)

  dropped_on : (gone : Bool) (name : ℕ) (m : View) → IsDropped knows gone name m → GoesOn m
  dropped_on true name m d = goes_on m d.0 d.1 d.2.grows (ap {A = View} (λ z. z.opened) d.2.is) (ap {A = View} (λ z. z.pass.mine) d.2.is) (ap {A = View} (λ z. z.number) d.2.is)
  dropped_on false name m d = goes_on m d.0 d.2 d.4.grows (ap {A = View} (λ z. z.opened) d.4.is) (ap {A = View} (λ z. z.pass.mine) d.4.is) (ap {A = View} (λ z. z.number) d.4.is)

  -- ---- the transaction was committed

  pub ends_committed : (rose : Type 0) (moment rev : ℕ) (job : CommitJob) (properties dated : List (List ℕ × List ℕ)) (gone : Bool) (name : ℕ) (v m : View) (x y : Txn) → v.number ≡ 0 → IsCounted v → m.opened ≡ v.opened
      → properties ≡ undated_properties job → IsDatedAt moment properties dated → Committed rev dated v m x y → IsDropped knows gone name m → EndsSo knows rose moment job (answers.Committed rev) x v
  ends_committed rose moment rev job properties dated gone name v m x y at_first all opened undated date c dropped = (
    left.0,
    left.1,
    record {
      done = inl (subst (λ (now : List Revision). CommitsTxn moment v.number job (revisions v.seen) x (answers.Committed rev) now) (sym (ap revisions left.2.seen)) does);
      leaves = then_stays (answers.Committed rev) v m left.0 (commit_leaves rev dated v m x y c same (sym after.3 ∙ after.4 ∙ sym at_first)) left.2 left.3;
      left = inl (left.5 ∙ c.left);
    },
    tt,
  )
    where
      after : GoesOn m
      after = dropped_on gone name m dropped

      mine : length m.pass.mine ≡ length v.pass.mine + 1
      mine = ap (λ (l : List ℕ). length l) c.mine ∙ length-append v.pass.mine (rev ∷ [])

      long : length m.seen ≡ length c.before + 1
      long = ap (λ (h : List Recorded). length h) c.is ∙ length-append c.before (c.next ∷ [])

      same : c.before ≡ v.seen
      same = same_by_length v.seen c.before c.begins (let more = no_shorter m.seen after.0.seen after.1 in omega (arith, more, after.2, mine, long, opened, all))

      left : StaysKnown knows m
      left = dropped_stays gone name m (let h : length c.before ≡ length v.seen = ap (λ (g : List Recorded). length g) same in omega (arith, long, h, all, opened, mine)) c.outside dropped

      does : CommitsTxn moment v.number job (revisions v.seen) x (answers.Committed rev) (revisions m.seen)
      does = commits_added moment rev job date.0 dated v m x y c same date.1 (date.2 ∙ ap (λ (p : List (List ℕ × List ℕ)). insert_entry (slice_cmp nat_cmp) p date_name date.0) undated ∙ job_dated date.0 job)

  -- ---- nothing was added, and the transaction is no more

  pub ends_failed : (rose : Type 0) (moment : ℕ) (job : CommitJob) (answer : JobAnswer) (x : Txn) (gone : Bool) (name : ℕ) (v m : View) → IsCounted v → v.section ≡ None → IsBare answer → Fails (jobs.Commit job) answer
      → ((u : View) → u.pass.stuck ≡ m.pass.stuck → HasOutsideCause rose u answer) → (tells_doubt answer ≡ false → BringsNoDoubt v m) → TxnLeft moment job x v m → Moved v m → IsDropped knows gone name m → EndsSo knows rose moment job answer x v
  ends_failed rose moment job answer x gone name v m all none bare fails cause brings doubt moved dropped = (
    left.0,
    left.1,
    record { done = inr fails; leaves = bare_leaves answer v left.0 bare (stays_on v m left.0 stays left.2) (λ calm few. left.3 (brings calm few)); left = left_on moment job x v m left.0 left.5 left.2.seen doubt },
    cause left.0 left.4,
  )
    where
      after : GoesOn m
      after = dropped_on gone name m dropped

      mine : length m.pass.mine ≡ length v.pass.mine
      mine = ap (λ (l : List ℕ). length l) moved.drifted.mine

      long : length m.seen ≡ length v.seen
      long = between v.seen m.seen after.0.seen moved.drifted.grows after.1 (omega (arith, after.2, mine, moved.drifted.opened, all))

      stays : Stays v m
      stays = moved_stays v m moved (same_by_length v.seen m.seen moved.drifted.grows (omega (arith, long))) none

      left : StaysKnown knows m
      left = dropped_stays gone name m (omega (arith, long, mine, moved.drifted.opened, all)) (moved.section ∙ none) dropped

  -- ---- it was handed back, and purged behind that

  pub back_stays : (v m : View) → IsCounted v → v.section ≡ None → Moved v m → knows m → Stays v m
  back_stays v m all none moved known = moved_stays v m moved (seen_same v m all moved.drifted.grows (lone.all m known) moved.drifted.opened moved.drifted.mine) none

  pub ends_purged : (rose : Type 0) (moment : ℕ) (job : CommitJob) (answer : JobAnswer) (x : Txn) (v m : View) → Stays v m → BringsNoDoubt v m → m.left ≡ v.left → IsBare answer → CommitsTxn moment v.number job (revisions v.seen) x answer (revisions v.seen) ⊎ Fails (jobs.Commit job) answer
      → ((u : View) → u.pass.stuck ≡ m.pass.stuck → HasOutsideCause rose u answer) → StaysKnown knows m → EndsSo knows rose moment job answer x v
  ends_purged rose moment job answer x v m stays brings kept bare done cause left = (
    left.0,
    left.1,
    record {
      done = subst (λ (now : List Revision). CommitsTxn moment v.number job (revisions v.seen) x answer now ⊎ Fails (jobs.Commit job) answer) (sym (ap revisions (left.2.seen ∙ stays.seen))) done;
      leaves = bare_leaves answer v left.0 bare (stays_on v m left.0 stays left.2) (λ calm few. left.3 (brings few));
      left = inl (left.5 ∙ kept);
    },
    cause left.0 left.4,
  )
