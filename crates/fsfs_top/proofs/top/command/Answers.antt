use Rattle.std.proofs.Common.{map, refl, sym, subst}
use Rattle.std.specs.Prelude.{string_bytes}
use Rattle.fsfs_cli.specs.Readings.{Asks}
use Rattle.fsfs_cli.specs.declared.request.Task.TheVariants.{RunJobs}
use Rattle.fsfs_cli.specs.declared.tool.Tool.{Tool}
use Rattle.fsfs_top.specs.Scenes.{scene, source_scene}
use Rattle.fsfs_top.proofs.JobsTold.{jobs_list}
use Rattle.fsfs_top.proofs.OthersTold.{did_others, jobs_others}
use Rattle.fsfs_top.proofs.TaskDone.{no_creation, no_pack, no_removal}
use Rattle.fsfs_top.proofs.top.command.Goals as goal

pub do_command-requires : goal.do_command-requires
do_command-requires g c = c.in_default.not-Jobs

pub returns-in_default-clause-jobs : goal.returns-in_default-clause-jobs
returns-in_default-clause-jobs g c = λ jobs. absurd (c.in_default.not-Jobs jobs)

pub returns-in_default-clause-listed : goal.returns-in_default-clause-listed
returns-in_default-clause-listed g c = λ jobs one. absurd (c.in_default.not-Jobs jobs)

pub returns-in_default-clause-unread : goal.returns-in_default-clause-unread
returns-in_default-clause-unread g c = λ apart. refl

pub returns-in-Jobs-clause-answer : goal.returns-in-Jobs-clause-answer
returns-in-Jobs-clause-answer g c = λ apart. absurd (apart c.in-Jobs.is)

pub returns-in-Jobs-clause-replies : goal.returns-in-Jobs-clause-replies
returns-in-Jobs-clause-replies g c = λ apart. absurd (apart c.in-Jobs.is)

pub returns-in-Jobs-clause-files : goal.returns-in-Jobs-clause-files
returns-in-Jobs-clause-files g c = λ apart. absurd (apart c.in-Jobs.is)

pub returns-in-Jobs-clause-labels : goal.returns-in-Jobs-clause-labels
returns-in-Jobs-clause-labels g c = λ apart. absurd (apart c.in-Jobs.is)

pub returns-in-Jobs-clause-unread : goal.returns-in-Jobs-clause-unread
returns-in-Jobs-clause-unread g c = λ apart. absurd (apart c.in-Jobs.is)

pub returns-in-Jobs-clause-there_same : goal.returns-in-Jobs-clause-there_same
returns-in-Jobs-clause-there_same g c = λ repos shard t asks. absurd (no_creation c.args.tool (map string_bytes c.args.words.now) repos shard c.in-Jobs.is asks)

pub returns-in-Jobs-clause-any_moment : goal.returns-in-Jobs-clause-any_moment
returns-in-Jobs-clause-any_moment g c = λ repos shard asks. absurd (no_creation c.args.tool (map string_bytes c.args.words.now) repos shard c.in-Jobs.is asks)

pub returns-in-Jobs-clause-stands_or_none : goal.returns-in-Jobs-clause-stands_or_none
returns-in-Jobs-clause-stands_or_none g c = λ repos shard asks. absurd (no_creation c.args.tool (map string_bytes c.args.words.now) repos shard c.in-Jobs.is asks)

pub returns-in-Jobs-clause-firm : goal.returns-in-Jobs-clause-firm
returns-in-Jobs-clause-firm g c = λ repos shard asks. absurd (no_creation c.args.tool (map string_bytes c.args.words.now) repos shard c.in-Jobs.is asks)

pub returns-in-Jobs-clause-made : goal.returns-in-Jobs-clause-made
returns-in-Jobs-clause-made g c = λ zero repos shard t asks here. absurd (no_creation c.args.tool (map string_bytes c.args.words.now) repos shard c.in-Jobs.is asks)

pub returns-in-Jobs-clause-removal : goal.returns-in-Jobs-clause-removal
returns-in-Jobs-clause-removal g c = λ repos txns asks. absurd (no_removal c.args.tool (map string_bytes c.args.words.now) repos txns c.in-Jobs.is asks)

pub returns-in-Jobs-clause-jobs : goal.returns-in-Jobs-clause-jobs
returns-in-Jobs-clause-jobs g c = λ jobs. (c.run_jobs-end.result, c.tell_end.ensures.status, c.tell_end.ensures.told, c.run_jobs-end.ensures.did)

pub returns-in-Jobs-clause-listed : goal.returns-in-Jobs-clause-listed
returns-in-Jobs-clause-listed g c = λ jobs one.
    jobs_list (map string_bytes c.args.words.now) c.args.known (g.C.Clock.next c.args.clock.now) (scene g.H.Host g.O.Sink c.args.host.now c.args.out.now (source_scene g.I.Source c.args.input.now)) (scene g.H.Host g.O.Sink c.run_jobs-end.new.host c.run_jobs-end.new.out (source_scene g.I.Source c.run_jobs-end.new.input))
    c.run_jobs-end.result c.run_jobs-end.ensures.did (λ repos run asks. one repos run (subst (λ (t : Tool). Asks t (map string_bytes c.args.words.now) repos (RunJobs run)) (sym jobs) asks))

pub run_jobs-end-requires-clause-knows : goal.run_jobs-end-requires-clause-knows
run_jobs-end-requires-clause-knows g c = λ κs within known repos run asks.
    c.requires.knows known repos run (subst (λ (t : Tool). Asks t (map string_bytes c.args.words.now) repos (RunJobs run)) (sym c.in-Jobs.is) asks)

-- ---- the input and the paths of a command, and of a run

pub returns-in_default-clause-answer : goal.returns-in_default-clause-answer
returns-in_default-clause-answer g c = λ apart.
    let told = c.do_command.ensures.answer in
    (told.0, told.1, told.2, told.3 (source_scene g.I.Source c.args.input.now))

pub returns-in_default-clause-replies : goal.returns-in_default-clause-replies
returns-in_default-clause-replies g c = λ apart. c.do_command.ensures.replies (source_scene g.I.Source c.args.input.now)

pub returns-in_default-clause-others : goal.returns-in_default-clause-others
returns-in_default-clause-others g c =
    let input = source_scene g.I.Source c.args.input.now in
    let told = c.do_command.ensures.answer in
    did_others c.args.tool (map string_bytes c.args.words.now) (g.C.Clock.next c.args.clock.now) (g.R.Dice.next c.args.dice.now) (scene g.H.Host g.O.Sink c.args.host.now c.args.out.now input) (scene g.H.Host g.O.Sink c.do_command.new.host c.do_command.new.out input) told.0
    (told.3 input)

pub returns-in-Jobs-clause-others : goal.returns-in-Jobs-clause-others
returns-in-Jobs-clause-others g c =
    jobs_others c.args.tool (map string_bytes c.args.words.now) c.args.known (g.C.Clock.next c.args.clock.now) (scene g.H.Host g.O.Sink c.args.host.now c.args.out.now (source_scene g.I.Source c.args.input.now)) (scene g.H.Host g.O.Sink c.run_jobs-end.new.host c.run_jobs-end.new.out (source_scene g.I.Source c.run_jobs-end.new.input))
    c.run_jobs-end.result c.in-Jobs.is c.run_jobs-end.ensures.did

pub returns-in-Jobs-clause-packed : goal.returns-in-Jobs-clause-packed
returns-in-Jobs-clause-packed g c = λ repos h asks. absurd (no_pack c.args.tool (map string_bytes c.args.words.now) repos c.in-Jobs.is asks)
