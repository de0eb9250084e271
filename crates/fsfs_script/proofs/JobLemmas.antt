-- The commands of a job, one after another.
use Rattle.std.proofs.lemmas.Bool.{ltb-true, ltb-false}
use Rattle.std.proofs.lemmas.List.{nil_from_length}
use Rattle.std.proofs.Common.{◌≡◌, ◌<◌, length, true, false, arith, ℕ, List, [], ◌∷◌, ◌++◌, Option, Some, None, refl, sym, ap, subst, ◌∙◌, inl, inr}
use Rattle.std.specs.Prelude.{Ok, Err, Bool}
use Rattle.fsfs_script.specs.declared.job_lines.job.Base.{Base}
use Rattle.fsfs_script.specs.declared.job_lines.job.CommitJob.{CommitJob}
use Rattle.fsfs_script.specs.declared.job_lines.lines.OpeningLine.{OpeningLine}
use Rattle.fsfs_script.specs.declared.job_lines.refusal.Refusal.{Refusal}
use Rattle.fsfs_script.specs.declared.job_lines.refusal.Refusal.TheVariants as refusals
use Rattle.fsfs_script.specs.declared.job_lines.verbs.Stage.{Stage}
use Rattle.fsfs_script.specs.Places.{Place, place_of, behind_empty_lines}
use Rattle.fsfs_script.specs.Errors.{error_at, error_from}
use Rattle.fsfs_script.specs.Reading.{Reads, skipped_at}
use Rattle.fsfs_script.specs.Commands.{opening_at, next_at}
use Rattle.fsfs_script.specs.Jobs.{Draft, behind, drafted, stage_after, with_command, Takes, Breaks, IsError, IsBadOpening, IsRefusedJob, IsRefusedNext, HasJob, Ends, start, FillsJob, Opens, ReadsJob, ReadsNext}
use Rattle.fsfs_script.specs.declared.commands.Command.{Command}
use Rattle.fsfs_script.specs.declared.commands.Next.{Next}
use Rattle.fsfs_script.specs.declared.commands.Next.TheVariants as next
use Rattle.fsfs_script.specs.declared.stop.Stop.{Stop}
use Rattle.fsfs_script.specs.declared.stop.Stop.TheVariants as stops
use Rattle.fsfs_script.specs.declared.script_error.ScriptError.{ScriptError}
use Rattle.fsfs_script.proofs.PlaceLemmas.{told_parts}
use Rattle.fsfs_script.proofs.ReadLemmas.{pair_is}
use Rattle.fsfs_script.specs.declared.script_error.ScriptError.TheVariants as errors
use Rattle.fsfs_script.specs.declared.job_lines.job.Job.{Job}
use Rattle.fsfs_script.specs.declared.job_lines.job.Job.TheVariants as jobs
use Rattle.fsfs_script.specs.declared.job_lines.lines.OpeningLine.TheVariants as openings

pub is_error : (P : ScriptError → Type 0) (line : ℕ) (refusal : Refusal) → P (error_at line refusal) → IsError P (error_at line refusal)
is_error P line (refusals.Bad why) p = p
is_error P line refusals.TextTooLong p = p
is_error P line refusals.PropTooLong p = p
is_error P line refusals.TooManyJobs p = p

takes_more : (d e : Draft) (cs : List Command) (c : Command) (after : Place) → Takes d cs e → next_at e.stage e.place ≡ Ok (next.Command c, after) → Takes d (cs ++ c ∷ []) (behind c after e)
takes_more d e [] c after w is =
    let is' : next_at d.stage d.place ≡ Ok (next.Command c, after) = subst (λ (x : Draft). next_at x.stage x.place ≡ Ok (next.Command c, after)) w is in
    (after, is', ap (λ (x : Draft). behind c after x) w)
takes_more d e (x ∷ cs) c after w is = (w.0, w.1, takes_more (behind x w.0 d) e cs c after w.2 is)

-- so many commands of a job were taken
abbrev pub IsFilling : Option Place → Option Place → CommitJob → Stage → CommitJob → Type 0
IsFilling None now from stage job = Unit {0}
IsFilling (Some p) now from stage job = (q : Place) × (cs : List Command) × (now ≡ Some q) × Takes (drafted from p) cs (record { stage = stage; job = job; place = q })

module _ (rem : Option (List ℕ)) (a : Place) (from : CommitJob) (stage : Stage) (job : CommitJob) where
  pub filling_more : (start new : Option Place) (c : Command) (line : ℕ) → line ≡ a.line → IsFilling start (place_of rem a) from stage job → Reads (λ (n : Next). n) (next_at stage) (place_of rem a) new (Ok (next.Command c))
      → IsFilling start new from (stage_after c) (with_command line c job)
  filling_more None new c line here w r = tt
  filling_more (Some p) new c line here w r =
      let there : Reads (λ (n : Next). n) (next_at stage) (Some w.0) new (Ok (next.Command c)) = subst (λ (o : Option Place). Reads (λ (n : Next). n) (next_at stage) o new (Ok (next.Command c))) w.2 r in
      let at : w.0.line ≡ line = sym (told_parts rem a w.0 w.2).2 ∙ sym here in
      let more = takes_more (drafted from p) (record { stage = stage; job = job; place = w.0 }) w.1 c there.0 w.3 there.1 in
      (there.0, w.1 ++ c ∷ [], there.2, subst (λ (n : ℕ). Takes (drafted from p) (w.1 ++ c ∷ []) (record { stage = stage_after c; job = with_command n c job; place = there.0 })) at more)

  pub filling_ends : (start new : Option Place) (done : Unit {0}) → IsFilling start (place_of rem a) from stage job → Reads (λ (n : Next). n) (next_at stage) (place_of rem a) new (Ok next.Commit)
      → FillsJob start new from job (Ok done)
  filling_ends None new done w r = tt
  filling_ends (Some p) new done w r =
      let there : Reads (λ (n : Next). n) (next_at stage) (Some w.0) new (Ok next.Commit) = subst (λ (o : Option Place). Reads (λ (n : Next). n) (next_at stage) o new (Ok next.Commit)) w.2 r in
      (there.0, record { taken = w.1; draft = record { stage = stage; job = job; place = w.0 }; takes = w.3; commit = there.1; job_is = refl }, there.2)

  pub filling_breaks : (start new : Option Place) (line : ℕ) (stop : Stop) (last : CommitJob) → line ≡ a.line → IsFilling start (place_of rem a) from stage job → Reads (λ (n : Next). n) (next_at stage) (place_of rem a) new (Err stop)
      → FillsJob start new from last (Err (error_from line stop))
  filling_breaks None new line stop last here w r = tt
  filling_breaks (Some p) new line (stops.Refused refusal) last here w r =
      let there : Reads (λ (n : Next). n) (next_at stage) (Some w.0) new (Err (stops.Refused refusal)) = subst (λ (o : Option Place). Reads (λ (n : Next). n) (next_at stage) o new (Err (stops.Refused refusal))) w.2 r in
      let at : line ≡ w.0.line = here ∙ (told_parts rem a w.0 w.2).2 in
      is_error (Breaks (drafted from p)) line refusal (record {
        taken = w.1;
        draft = record { stage = stage; job = job; place = w.0 };
        takes = w.3;
        refusal = refusal;
        refused = there;
        error_is = ap (λ (n : ℕ). error_at n refusal) at;
      })
  filling_breaks (Some p) new line stops.ReadFault last here w r = tt
  filling_breaks (Some p) new line stops.OutOfMemory last here w r = tt

-- ---- the first line of a job

pub opens : (a b : Option Place) (is_full : Bool) (line : OpeningLine) → Reads (λ (l : OpeningLine). l) (opening_at is_full) a b (Ok line) → Opens is_full a b (Ok line)
opens None b is_full line r = tt
opens (Some p) b is_full line r = (r.0, r.1, r.2)

pub opens_badly : (rem : Option (List ℕ)) (a : Place) (b : Option Place) (is_full : Bool) (line : ℕ) (stop : Stop) → line ≡ a.line → Reads (λ (l : OpeningLine). l) (opening_at is_full) (place_of rem a) b (Err stop) → Opens is_full (place_of rem a) b (Err (error_from line stop))
opens_badly None a b is_full line stop here r = tt
opens_badly (Some more) a b is_full line (stops.Refused refusal) here r = is_error (IsBadOpening is_full (record { line = a.line; bytes = a.bytes ++ more })) line refusal (record { refusal = refusal; refused = r; error_is = ap (λ (n : ℕ). error_at n refusal) here })
opens_badly (Some more) a b is_full line stops.ReadFault here r = tt
opens_badly (Some more) a b is_full line stops.OutOfMemory here r = tt

-- ---- whole jobs

pub is_error_more : (P Q : ScriptError → Type 0) (e : ScriptError) → ((e : ScriptError) → P e → Q e) → IsError P e → IsError Q e
is_error_more P Q (errors.BadScript bad) more p = more (errors.BadScript bad) p
is_error_more P Q errors.TextTooLong more p = more errors.TextTooLong p
is_error_more P Q errors.PropTooLong more p = more errors.PropTooLong p
is_error_more P Q errors.TooManyJobs more p = more errors.TooManyJobs p
is_error_more P Q errors.ReadFault more p = tt
is_error_more P Q errors.OutOfMemory more p = tt

module _ (rem : Option (List ℕ)) (a : Place) (is_full : Bool) (line : ℕ) (here : line ≡ a.line) where
  pub job_is_read : (b : Option Place) (base : Base) (path : List (List ℕ)) → Opens is_full (place_of rem a) b (Ok (openings.Read base path)) → ReadsJob is_full (place_of rem a) b (Ok (jobs.Read (record { line = line; base = base; path = path })))
  job_is_read b base path r = go rem r
    where
      go : (rem : Option (List ℕ)) → Opens is_full (place_of rem a) b (Ok (openings.Read base path)) → ReadsJob is_full (place_of rem a) b (Ok (jobs.Read (record { line = line; base = base; path = path })))
      go None r = tt
      go (Some more) r = (r.0, record { opening = r.1; line_is = here }, r.2)

  pub job_fails : (b c : Option Place) (error : ScriptError) → Opens is_full (place_of rem a) b (Err error) → ReadsJob is_full (place_of rem a) c (Err error)
  job_fails b c error r = go rem r
    where
      go : (rem : Option (List ℕ)) → Opens is_full (place_of rem a) b (Err error) → ReadsJob is_full (place_of rem a) c (Err error)
      go None r = tt
      go (Some more) r = is_error_more (IsBadOpening is_full (record { line = a.line; bytes = a.bytes ++ more })) (IsRefusedJob is_full (record { line = a.line; bytes = a.bytes ++ more })) error (λ e w. inl w) r

  pub job_commits : (b c : Option Place) (base : Base) (job : CommitJob) (done : Unit {0}) → Opens is_full (place_of rem a) b (Ok (openings.Job base)) → FillsJob b c (start line base) job (Ok done) → ReadsJob is_full (place_of rem a) c (Ok (jobs.Commit job))
  job_commits b c base job done r f = go rem r
    where
      go : (rem : Option (List ℕ)) → Opens is_full (place_of rem a) b (Ok (openings.Job base)) → ReadsJob is_full (place_of rem a) c (Ok (jobs.Commit job))
      go None r = tt
      go (Some more) r =
          let f' : FillsJob (Some r.0) c (start line base) job (Ok done) = subst (λ (o : Option Place). FillsJob o c (start line base) job (Ok done)) r.2 f in
          (f'.0, record { base = base; opened = r.0; opening = r.1; ends = subst (λ (n : ℕ). Ends (drafted (start n base) r.0) job f'.0) here f'.1 }, f'.2)

  pub job_breaks : (b c : Option Place) (base : Base) (job : CommitJob) (error : ScriptError) → Opens is_full (place_of rem a) b (Ok (openings.Job base)) → FillsJob b c (start line base) job (Err error) → ReadsJob is_full (place_of rem a) c (Err error)
  job_breaks b c base job error r f = go rem r
    where
      go : (rem : Option (List ℕ)) → Opens is_full (place_of rem a) b (Ok (openings.Job base)) → ReadsJob is_full (place_of rem a) c (Err error)
      go None r = tt
      go (Some more) r =
          let f' : FillsJob (Some r.0) c (start line base) job (Err error) = subst (λ (o : Option Place). FillsJob o c (start line base) job (Err error)) r.2 f in
          is_error_more (Breaks (drafted (start line base) r.0)) (IsRefusedJob is_full (record { line = a.line; bytes = a.bytes ++ more })) error
          (λ e w. inr (record { base = base; opened = r.0; opening = r.1; breaks = subst (λ (n : ℕ). Breaks (drafted (start n base) r.0) e) here w })) f'

-- ---- behind empty lines

pub next_none : (a b : Option Place) (is_full : Bool) → Reads (λ (t : Bool). t) skipped_at a b (Ok false) → ReadsNext is_full a b (Ok None)
unfolding skipped_at
next_none None b is_full r = tt
next_none (Some p) b is_full r =
    let e = pair_is {A = Bool} {B = Place} _ _ _ _ r.1 in
    (nil_from_length (behind_empty_lines p).bytes (omega (arith, ltb-false 0 (length (behind_empty_lines p).bytes) e.0)), r.2 ∙ ap (λ (q : Place). Some q) (sym e.1))

there : (p q : Place) → skipped_at p ≡ Ok (true, q) → (0 < length (behind_empty_lines p).bytes) × (q ≡ behind_empty_lines p)
unfolding skipped_at
there p q r =
    let e = pair_is {A = Bool} {B = Place} _ _ _ _ r in
    (ltb-true 0 (length (behind_empty_lines p).bytes) e.0, sym e.1)

pub next_some : (a b c : Option Place) (is_full : Bool) (job : Job) → Reads (λ (t : Bool). t) skipped_at a b (Ok true) → ReadsJob is_full b c (Ok job) → ReadsNext is_full a c (Ok (Some job))
next_some None b c is_full job r s = tt
next_some (Some p) b c is_full job r s =
    let e = there p r.0 r.1 in
    let s' : ReadsJob is_full (Some r.0) c (Ok job) = subst (λ (o : Option Place). ReadsJob is_full o c (Ok job)) r.2 s in
    (s'.0, subst (λ (q : Place). HasJob is_full q job s'.0) e.1 s'.1, s'.2)

pub next_fails : (a b c : Option Place) (is_full : Bool) (error : ScriptError) → Reads (λ (t : Bool). t) skipped_at a b (Ok true) → ReadsJob is_full b c (Err error) → ReadsNext is_full a c (Err error)
next_fails None b c is_full error r s = tt
next_fails (Some p) b c is_full error r s =
    let e = there p r.0 r.1 in
    let s' : ReadsJob is_full (Some r.0) c (Err error) = subst (λ (o : Option Place). ReadsJob is_full o c (Err error)) r.2 s in
    is_error_more (IsRefusedJob is_full r.0) (IsRefusedNext is_full p) error (λ e' w. record { some = e.0; refused = subst (λ (q : Place). IsRefusedJob is_full q e') e.1 w }) s'

pub next_stops : (a b c : Option Place) (is_full : Bool) (line : ℕ) (stop : Stop) → Reads (λ (t : Bool). t) skipped_at a b (Err stop) → ReadsNext is_full a c (Err (error_from line stop))
unfolding skipped_at
next_stops None b c is_full line stop r = tt
next_stops (Some p) b c is_full line (stops.Refused refusal) r = absurd cc
next_stops (Some p) b c is_full line stops.ReadFault r = tt
next_stops (Some p) b c is_full line stops.OutOfMemory r = tt
