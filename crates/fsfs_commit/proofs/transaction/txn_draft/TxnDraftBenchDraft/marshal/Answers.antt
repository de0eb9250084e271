use Rattle.std.proofs.Common.{◌≡◌, ◌∙◌, ℕ, List, length, sym, ap, arith, take}
use Rattle.std.proofs.lemmas.List.{length-take-le}
use Rattle.fsfs_disk.specs.Benches.{bytes_on}
use Rattle.fsfs_layout.specs.FileNames.{file_name}
use Rattle.fsfs_layout.specs.declared.repository_file.RepositoryFile.TheVariants as file
use Rattle.fsfs_commit.specs.Courses.{IsMade}
use Rattle.fsfs_commit.specs.Transaction.Meaning.{OfStage}
use Rattle.fsfs_commit.proofs.Marshalled.{stage_marshalled}
use Rattle.fsfs_commit.proofs.Pinning.{is_noted, pinned_is, notes_adoption, adopts_as, marshalled_pinned}
use Rattle.fsfs_commit.proofs.Stages.{behind, of_stage_then}
use Rattle.fsfs_base.proofs.ResultLemmas.{if_err, on_ok}
use Rattle.fsfs_commit.proofs.transaction.txn_draft.TxnDraftBenchDraft.marshal.Goals as goal

-- what was made may be noted
pub some-noted-requires : goal.some-noted-requires
some-noted-requires g c =
    let rev = c.args.rev in
    let pin = c.args.self.now.pin.standing.value in
    let properties = c.args.self.now.properties in
    let contents = g.T.Bench.Bench.contents in
    let stage = c.marshal_stage.new.stage in
    let made = c.in-Ok-make_rest.ensures in
    let holds : List ℕ → Type 0 = λ bytes. OfStage stage (behind contents bytes) (λ e. bytes ≡ bytes_on (contents e.bench) e.file) in
    notes_adoption holds properties pin (λ s is.
    let w = c.requires.due (is_noted pin s is) in
    let part = take rev w.1.seen in
    let long : length part ≡ rev = length-take-le rev w.1.seen w.8 in
    let here = on_ok c.marshal_stage.result tt _ c.in-Ok.is (c.marshal_stage.ensures.made part w.2 (λ bench. g.met.T.Turns.benches_tell w.0 w.1 bench w.3) w.5.0 (record { next = w.7; long = long; shown = w.9 })) in
    adopts_as holds properties s part w.2 (long ∙ sym w.7) (pinned_is pin s part w.2 is w.5.1)
    (stage_marshalled contents (λ bench. g.met.T.Turns.benches_tell w.0 w.1 bench w.3) stage w.1.seen rev w.8 made.line.fits w.2 properties w.6.dated w.7 w.9 here (Unit {0}) (Unit {0}) tt tt))

pub returns-in-Ok-make_rest-clause-made : goal.returns-in-Ok-make_rest-clause-made
returns-in-Ok-make_rest-clause-made g c = λ turns v x number known layout_is means can next_to long shown.
    let rev = c.args.rev in
    let contents = g.T.Bench.Bench.contents in
    let stage = c.marshal_stage.new.stage in
    let properties = c.args.self.now.properties in
    let made = c.in-Ok-make_rest.ensures in
    let there = c.in-Ok-make_rest.made in
    let part = take rev v.seen in
    let whole : length part ≡ rev = length-take-le rev v.seen long in
    let here = on_ok c.marshal_stage.result tt _ c.in-Ok.is (c.marshal_stage.ensures.made part x (λ bench. g.met.T.Turns.benches_tell turns v bench known) means.0 (record { next = next_to; long = whole; shown = shown })) in
    marshalled_pinned (λ bytes. OfStage stage (behind contents bytes) (λ e. bytes ≡ bytes_on (contents e.bench) e.file)) properties c.args.self.now.pin.standing.value c.some-noted.result.value part x number (there.rev ≡ rev)
    (rev ≡ length v.seen → IsMade v properties rev there.rev_file there.props_file there.properties.items there.current.items) (whole ∙ sym next_to) means.1 c.some-noted.ensures
    (stage_marshalled contents (λ bench. g.met.T.Turns.benches_tell turns v bench known) stage v.seen rev long made.line.fits x properties can.dated next_to shown here (there.rev ≡ rev)
    (rev ≡ length v.seen → IsMade v properties rev there.rev_file there.props_file there.properties.items there.current.items) made.rev (λ last. record {
      number = last;
      rev_named = made.rev_file ∙ ap (λ l. file_name l (file.Revision rev)) layout_is;
      props_named = made.props_file ∙ ap (λ l. file_name l (file.Props rev)) layout_is;
      dump = made.dump;
      line = made.line;
      fits = omega (arith, made.line.fits, last);
    }))

pub returns-in-Err-clause-refused : goal.returns-in-Err-clause-refused
returns-in-Err-clause-refused g c = λ turns v x known means can next_to long shown.
    let rev = c.args.rev in
    if_err c.marshal_stage.result c.in-Err.refusal _ c.in-Err.is (c.marshal_stage.ensures.refused (take rev v.seen) x (λ bench. g.met.T.Turns.benches_tell turns v bench known) means.0 (record { next = next_to; long = length-take-le rev v.seen long; shown = shown })) x.base v.seen

pub returns-in-Err-clause-found : goal.returns-in-Err-clause-found
returns-in-Err-clause-found g c = if_err c.marshal_stage.result c.in-Err.refusal _ c.in-Err.is c.marshal_stage.ensures.found

pub returns-in-Err-clause-means : goal.returns-in-Err-clause-means
returns-in-Err-clause-means g c = λ h x means. (c.marshal_stage.ensures.means h x means.0, means.1)

pub returns-in-Ok-make_rest-clause-means : goal.returns-in-Ok-make_rest-clause-means
returns-in-Ok-make_rest-clause-means g c = λ h x means. (c.marshal_stage.ensures.means h x means.0, means.1)

pub returns-in-Err-make_rest-clause-means : goal.returns-in-Err-make_rest-clause-means
returns-in-Err-make_rest-clause-means g c = λ h x means. (c.marshal_stage.ensures.means h x means.0, means.1)

pub returns-in-Ok-make_rest-clause-lives : goal.returns-in-Ok-make_rest-clause-lives
returns-in-Ok-make_rest-clause-lives g c = λ lives.
    let stage = c.marshal_stage.new.stage in
    let made = on_ok c.marshal_stage.result tt _ c.in-Ok.is (c.marshal_stage.ensures.lives lives) in
    (of_stage_then stage _ _ _ (λ e. ⊥) (λ o w. w.0) (λ e w. w) made, of_stage_then stage _ _ _ (λ e. ⊥) (λ o w. w.1) (λ e w. w) made)

pub returns-in-Err-clause-blamed : goal.returns-in-Err-clause-blamed
returns-in-Err-clause-blamed g c = λ lives. if_err c.marshal_stage.result c.in-Err.refusal _ c.in-Err.is (c.marshal_stage.ensures.blamed lives)

pub returns-in-Err-make_rest-clause-blamed : goal.returns-in-Err-make_rest-clause-blamed
returns-in-Err-make_rest-clause-blamed g c = λ lives.
    let made = on_ok c.marshal_stage.result tt _ c.in-Ok.is (c.marshal_stage.ensures.lives lives) in
    of_stage_then c.marshal_stage.new.stage _ _ (λ e. ⊥) _ (λ o w. (w.0, tt)) (λ e no. absurd no) made
