use Rattle.std.proofs.Common.{◌≡◌, sym, subst}
use Rattle.fsfs_disk.specs.Benches.{bytes_on}
use Rattle.fsfs_machine.specs.declared.machine.Went.{Went}
use Rattle.fsfs_turn.specs.Views.{View, MayAdopt, Answers, Adopted}
use Rattle.fsfs_commit.proofs.Pinning.{about_is}
use Rattle.fsfs_commit.proofs.Stages.{behind, of_ended}
use Rattle.fsfs_commit.proofs.transaction.txn_draft.TxnDraftBenchDraft.hand_over.Goals as goal

pub returns-clause-turned : goal.returns-clause-turned
returns-clause-turned g c = λ v txn next bytes known holds may named.
    let contents = g.T.Bench.Bench.contents in
    let properties = c.args.self.now.properties in
    let pin = c.args.self.now.pin in
    let e = of_ended c.args.self.now.stage c.in-Ended.ended (behind contents bytes) (λ ended. bytes ≡ bytes_on (contents ended.bench) ended.file) c.in-Ended.is holds.0 in
    subst (λ b. (u : View) × (went : Went) × g.T.Turns.knows c.adopt_file.new.self u × Answers c.adopt_file.result went × Adopted txn properties next b went v u) (sym e)
    (c.adopt_file.ensures.turned v txn properties next known (subst (λ b. MayAdopt v txn properties next b) e may) named (λ bound. about_is pin.standing.value pin.about.value txn properties next (c.requires.pinned bound) holds.1))

pub adopt_file-requires-clause-due : goal.adopt_file-requires-clause-due
adopt_file-requires-clause-due g c = λ bound.
    let contents = g.T.Bench.Bench.contents in
    let properties = c.args.self.now.properties in
    let pin = c.args.self.now.pin in
    let w = c.requires.due bound in
    let e = of_ended c.args.self.now.stage c.in-Ended.ended (behind contents w.3) (λ ended. w.3 ≡ bytes_on (contents ended.bench) ended.file) c.in-Ended.is w.5.0 in
    (w.0, w.1, properties, w.2, w.4, subst (λ b. MayAdopt w.0 w.1 properties w.2 b) e w.6, w.7, about_is pin.standing.value pin.about.value w.1 properties w.2 (c.requires.pinned bound) w.5.1)

pub returns-clause-means : goal.returns-clause-means
returns-clause-means g c = λ h x means. (tt, means.1)
