-- What a run of workers comes to, behind the close.
use Rattle.std.proofs.Common.{◌≡◌, ◌⊎◌, ◌<◌, ◌≤◌, ◌+◌, ◌-◌, ◌++◌, ℕ, zero, suc, List, [], ◌∷◌, length, Bool, true, inl, inr, refl, sym, ap, subst, ◌∙◌, arith}
use Rattle.std.proofs.lemmas.List.{map-append}
use Rattle.std.specs.Prelude.{Option, Some, None, IfSome, is_some, slice_get}
use Rattle.fsfs_base.specs.Files.{Files}
use Rattle.fsfs_layout.specs.Opening.{SaysFormat, small_texts}
use Rattle.fsfs_layout.specs.declared.small_files.format_file.FormatFile.TheVariants.{Known}
use Rattle.fsfs_tree.specs.Dated.{last_of}
use Rattle.fsfs_disk.specs.Trace.{Trace, IsImage, files_now}
use Rattle.fsfs_disk.proofs.CrashLemmas.{files_are_image, image_now}
use Rattle.fsfs_stands.specs.Files.{StandsFor}
use Rattle.fsfs_machine.specs.declared.machine.Recorded.{Recorded}
use Rattle.fsfs_machine.specs.declared.machine.Coming.{Coming}
use Rattle.fsfs_machine.specs.Kept.{IsIn, AreOnce, Follows}
use Rattle.fsfs_machine.specs.Machine.{revisions}
use Rattle.fsfs_machine.proofs.Growing.{revisions_length}
use Rattle.fsfs_turn.specs.declared.since.Since.{Since}
use Rattle.fsfs_turn.specs.Alone.{are_harmless}
use Rattle.fsfs_turn.specs.Past.{IsPart}
use Rattle.fsfs_turn.specs.Views.{Begins, Looked}
use Rattle.fsfs_turn.specs.Whole.{NamesFrom}
use Rattle.fsfs_turn.proofs.Alone.{same_by_length}
use Rattle.fsfs_turn.proofs.OwnFiles.{were_own}
use Rattle.fsfs_pass.specs.declared.seats.seat_view.Kin.{Kin}
use Rattle.fsfs_pass.specs.declared.seats.seat_view.SeatView.{SeatView}
use Rattle.fsfs_pass.specs.Seats.{all_parts, alone, look_view, view_of}
use Rattle.fsfs_pass.specs.Kinship.{all_own, own_in}
use Rattle.fsfs_pass.proofs.Following.{grown_long}
use Rattle.fsfs_job_run.specs.Known.{HoldBytes}
use Rattle.fsfs_job_run.specs.SharedLeft.{Leaves}
use Rattle.fsfs_script.specs.declared.job_lines.job.Job.{Job}
use Rattle.fsfs_jobs.specs.declared.answer.JobAnswer.{JobAnswer}
use Rattle.fsfs_job_run.specs.Serial.Jobs.{own_of_all}
use Rattle.fsfs_job_run.specs.Workers.Beside.{GoesOnFrom, IsOfOne}
use Rattle.fsfs_job_run.specs.Workers.Lines.{JobLines, WorkerLines, dealt}
use Rattle.fsfs_job_run.specs.Workers.Passes.{IsOnward, OfFollowed, last_known}
use Rattle.fsfs_job_run.proofs.BesideLemmas.{all_stay, begins_on, begins_itself, less_known}
use Rattle.fsfs_job_run.proofs.Bytes.{bytes_stay}
use Rattle.fsfs_job_run.proofs.RunLemmas.{a_part, doubt_of, doubt_follows}
use Rattle.fsfs_job_run.specs.Runs.{AllStandFor, HoldsAll}
use Rattle.fsfs_workers.specs.Beside.{HaveWorked, WorkedBeside, told_by}
use Rattle.fsfs_workers.specs.ByWorkers.{RanBeside}
use Rattle.fsfs_workers.proofs.Shares.{shares_tell, shares_tell_once}

-- ---- histories and their revisions

goes_on : (h g : List Recorded) → Begins h g → GoesOnFrom (revisions g) (revisions h)
goes_on h g begins = (revisions begins.0, ap revisions begins.1 ∙ map-append (λ (x : Recorded). x.revision) g begins.0)

-- where no revision is in doubt, a part that is no shorter is the history
whole_part : (h g : List Recorded) (d : Option Coming) → d ≡ None → IsPart h d g → length h ≤ length g → g ≡ h
whole_part h g d none (inl begins) long = sym (same_by_length g h begins long)
whole_part h g d none (inr (x, is, with)) long = let no : Some x ≡ None = sym is ∙ none in absurd cc

-- ---- the run

-- v is what the first pass knew as it began, u what it knew when the others were joined into it; behind that it looked, and closed the repository. There were
-- m workers more
module _ (moment m young : ℕ) (packs : Option Bool) (js : List Job) (answers : List JobAnswer) (v u : SeatView) (met : Option Trace) (t : Trace) (both : WorkedBeside moment (suc m) packs js answers v u) (looked : Looked young (view_of u) (view_of (look_view young met u))) (leaves : Leaves (look_view young met u) t)
    (opened : v.opened ≡ length v.seen) (had : HoldBytes v.since.files v.seen) (mine : v.pass.mine ≡ []) (faults : v.pass.faults ≡ []) (clear : v.left ≡ None) (outside : u.section ≡ None) (kin : v.kin ≡ alone) (parts : u.kin.parts ≡ all_parts) where
  abbrev h : List Recorded
  h = leaves.history

  all : h ≡ u.seen
  all = leaves.all parts

  since_then : u.opened ≡ length (revisions v.seen)
  since_then = both.opened ∙ opened ∙ sym (revisions_length v.seen)

  begins : Begins h u.seen
  begins = leaves.begins

  last : length h ≡ young + 1
  last = let e : length h ≡ length u.seen = ap length all in omega (arith, e, looked.seen, leaves.least)

  -- ---- whose each revision is

  own_are : all_own (look_view young met u) ≡ told_by (suc m) 0 (suc m) answers
  own_are =
      let first : u.pass.mine ≡ own_of_all (dealt (suc m) 0 answers) = both.own ∙ ap (λ (l : List ℕ). l ++ own_of_all (dealt (suc m) 0 answers)) mine in
      let others : own_in u.kin.joined ≡ told_by (suc m) 1 (suc m - 1) answers = both.joined ∙ ap (λ (k : Kin). own_in k.joined ++ told_by (suc m) 1 (suc m - 1) answers) kin in
      let count : suc m - 1 ≡ m = omega arith in
      ap (λ (l : List ℕ). l ++ own_in u.kin.joined) first ∙ ap (λ (l : List ℕ). own_of_all (dealt (suc m) 0 answers) ++ l) (others ∙ ap (λ k. told_by (suc m) 1 k answers) count)

  -- ---- the lines

  knew_all : last_of (revisions v.seen) ≤ last_known (view_of v)
  knew_all = let e = revisions_length v.seen in omega (arith, e)

  on : IsOnward (view_of u) h
  on = record { begins = begins; has = let long = grown_long h u.seen begins in omega (arith, looked.least, leaves.least, long) }

  lines_hold : (w : ℕ) → w < suc m → WorkerLines moment h (last_of (revisions v.seen)) (dealt (suc m) w js) (dealt (suc m) w answers)
  lines_hold w less = all_stay moment h h (last_known (view_of v)) (last_of (revisions v.seen)) (dealt (suc m) w js) (dealt (suc m) w answers) (begins_itself h) knew_all (both.lines h on w less)

  lines : JobLines moment (suc m) js answers (revisions v.seen) h
  lines = record {
    each = both.each;
    grew = goes_on h v.seen (begins_on h u.seen v.seen begins both.grows);
    lines = lines_hold;
    told = λ r from less.
        shares_tell (suc m) 0 (suc m) answers r (subst (λ (l : List ℕ). IsIn r l) own_are (leaves.added parts r (omega (arith, from, since_then)) less));
    once = shares_tell_once m answers (subst AreOnce own_are leaves.once);
  }

  -- ---- the disk

  was_long : length (revisions v.seen) ≡ length v.seen
  was_long = revisions_length v.seen

  says : SaysFormat (small_texts u.since.files) (Known u.layout)
  says = (were_own u.layout u.since (files_now t) (leaves.own (files_now t) (image_now u.since.operations t.first t.operations (files_now t) (files_are_image t.first t.operations)))).format

  abbrev holds : HoldsAll u.since t (revisions v.seen) (revisions h)
  holds = record {
    layout = u.layout;
    laid = says;
    doubt = doubt_of leaves.doubt;
    follows = doubt_follows h leaves.doubt leaves.follows;
    lasting = λ m image. (leaves.own m image).1;
    bytes = λ m image r less.
        let p = leaves.moments m image in
        bytes_stay u.layout u.since.files m v.seen h p.0 leaves.doubt says (subst (λ (n : Since). HoldBytes n.files v.seen) (sym both.since) had) (begins_on h u.seen v.seen begins both.grows) p.1 (omega (arith, p.2, since_then, was_long)) p.3 r (omega (arith, less, was_long));
    seen = h;
    are = refl;
    whole = λ m image r x at. leaves.whole m image r x (ap (λ (l : List Recorded). slice_get l r) (sym all) ∙ at);
    named = λ m image. subst (NamesFrom m) (ap (λ (l : List Recorded). length l) (sym all) ∙ sym (revisions_length h)) (leaves.named m image);
    stands = λ m image.
        let p = leaves.now m image in
        let a = revisions_length h in
        let b = revisions_length p.0 in
        (revisions p.0, a_part h p.0 leaves.doubt p.1, omega (arith, a, b, p.2), p.4);
    moments = λ m image. let p = leaves.moments m image in (p.0, p.3, a_part h p.0 leaves.doubt p.1, omega (arith, p.2, since_then), p.4);
  }

  -- the revision in doubt is what one of the jobs was to add
  of_job : (left : Option Coming) → leaves.doubt ≡ left → (left ≡ None) ⊎ ((c : Coming) × (left ≡ Some c) × OfFollowed (view_of u) c (λ g. IsOfOne moment g (last_known (view_of v)) js c.revision))
      → IfSome (doubt_of leaves.doubt) (IsOfOne moment (revisions h) (last_of (revisions v.seen)) js)
  of_job left same (inl none) = subst (λ (o : Option Coming). IfSome (doubt_of o) (IsOfOne moment (revisions h) (last_of (revisions v.seen)) js)) (sym (same ∙ none)) tt
  of_job left same (inr (c, is, of)) =
      let o = of h on leaves.is_history (subst (λ (d : Option Coming). IfSome d (Follows h)) (same ∙ is) leaves.follows) in
      subst (λ (d : Option Coming). IfSome (doubt_of d) (IsOfOne moment (revisions h) (last_of (revisions v.seen)) js)) (sym (same ∙ is))
      (record { at = o.at; job = o.job; is = o.is; was = less_known moment (revisions h) (last_known (view_of v)) (last_of (revisions v.seen)) o.job c.revision knew_all o.was })

  held : (all : HoldsAll v.since t (revisions v.seen) (revisions h)) × (all.seen ≡ h) × IfSome all.doubt (IsOfOne moment (revisions h) (last_of (revisions v.seen)) js)
  held = subst (λ n. (all : HoldsAll n t (revisions v.seen) (revisions h)) × (all.seen ≡ h) × IfSome all.doubt (IsOfOne moment (revisions h) (last_of (revisions v.seen)) js)) both.since
      (holds, refl, of_job u.left (leaves.left parts outside) (both.left clear))

  -- where none is in doubt
  stands_all : leaves.doubt ≡ None → AllStandFor t (revisions h)
  stands_all none = record { now = each (files_now t) (files_are_image t.first t.operations); images = each }
    where
      each : (m : Files) → IsImage t.first t.operations m → StandsFor m (revisions h)
      each m image = let p = leaves.now m image in subst (λ (g : List Recorded). StandsFor m (revisions g)) (whole_part h p.0 leaves.doubt none p.1 p.2) p.4

  pub ran_beside : (are_harmless u.pass.faults ≡ true → (leaves.doubt ≡ None) × (u.pass.stuck ≡ None)) → RanBeside moment v.since (suc m) packs js answers young (revisions v.seen) (Some t)
  ran_beside calm =
      let few : are_harmless v.pass.faults ≡ true = ap are_harmless faults in
      record {
        now = h;
        lines = lines;
        last = last;
        held = held;
        full = λ told. leaves.full (both.full told);
        stuck = λ free quiet. both.found (calm (both.doubtless free quiet few)).1;
        certain = λ free quiet. stands_all (calm (both.doubtless free quiet few)).0;
        serial = λ alone. both.serial alone h on (λ r from less. lines.told r (omega (arith, from, was_long)) less);
      }

-- the same, where the disk that was given back tells; s is what the first pass knew as it closed the repository
pub ran_so : (moment workers young : ℕ) (packs : Option Bool) (js : List Job) (answers : List JobAnswer) (v u s : SeatView) (told : Option Trace) (t : Trace) → 1 ≤ workers → told ≡ Some t → s ≡ look_view young s.met u → s.told ≡ is_some told → IfSome told (λ t. Leaves s t)
    → HaveWorked moment workers packs js answers v u → (u.told ≡ true → Looked young (view_of u) (view_of (look_view young s.met u)))
    → (v.told ≡ true → (v.opened ≡ length v.seen) × (v.pass.mine ≡ []) × (v.pass.faults ≡ []) × HoldBytes v.since.files v.seen × (v.left ≡ None)) → v.kin ≡ alone → RanBeside moment v.since workers packs js answers young (revisions v.seen) (Some t)
ran_so moment zero young packs js answers v u s told t some is s_is closed left have looked seen kin = absurd (omega (arith, some))
ran_so moment (suc m) young packs js answers v u s told t some is s_is closed left have looked seen kin =
    let told_last : u.told ≡ true = sym (ap (λ (z : SeatView). z.told) s_is) ∙ closed ∙ ap (λ (o : Option Trace). is_some o) is in
    let told_first : v.told ≡ true = sym have.duty ∙ told_last in
    let begun = seen told_first in
    let parts : u.kin.parts ≡ all_parts = have.parts ∙ ap (λ (k : Kin). k.parts) kin in
    let leaves = subst (λ (z : SeatView). Leaves z t) s_is (subst (λ (o : Option Trace). IfSome o (λ t. Leaves s t)) is left) in
    ran_beside moment m young packs js answers v u s.met t (have.did told_first) (looked told_last) leaves begun.0 begun.3 begun.1 begun.2 begun.4 (have.rests.outside told_last) kin parts (leaves.calm parts (have.rests.outside told_last))
