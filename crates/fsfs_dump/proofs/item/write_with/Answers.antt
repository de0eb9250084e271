use Rattle.std.proofs.Common.{◌≡◌, ℕ, List, [], ◌++◌, Option, Some, Ok, refl, ap, ◌∙◌}
use Rattle.std.specs.Prelude.{option_map, Result}
use Rattle.std.proofs.lemmas.Result.{err_from_is_err_and}
use Rattle.fsfs_revision.specs.declared.wrong.Wrong.{Wrong}
use Rattle.fsfs_revision.specs.Rep.Frames.{rev_of}
use Rattle.fsfs_dag.specs.Views.{home_of}
use Rattle.fsfs_dag.proofs.Reps.{rep_le}
use Rattle.fsfs_stands.specs.Texts.{Stopped}
use Rattle.fsfs_look.specs.Revprops.Texts.{ReadText}
use Rattle.fsfs_dump.specs.Records.{TextFacts, props_block, records_head, change_records}
use Rattle.fsfs_dump.specs.Readings.{IfSet, ContentOf, source_of, TextRecords}
use Rattle.fsfs_dump.specs.Views.{text_value, facts_value}
use Rattle.fsfs_dump.proofs.WalkLemmas.{walks_starved, walks_unread}
use Rattle.fsfs_dump.proofs.Stops.{read_stops}
use Rattle.fsfs_dump.proofs.ReadLemmas.{first_wrong}
use Rattle.fsfs_dump.proofs.LongLemmas.{long_fails, long_walks}
use Rattle.fsfs_dump.proofs.item.write_with.Goals as goal

pub returns-in_err-facts-clause-told : goal.returns-in_err-facts-clause-told
returns-in_err-facts-clause-told g c = λ look knows pairs is.
    let e = err_from_is_err_and c.from_residual.result c.from_residual.ensures.1 in
    let item = c.args.item.now in
    let node = c.args.node.now in
    let rep = c.args.rep.now in
    let v = node.node in
    let known = knows (rev_of rep) (rep_le (home_of v) rep.rev rep.offset c.requires.before) in
    let told = (g.B.Book.told c.args.book.now).revs in
    let Q = TextRecords look item item.action c.args.kind v pairs in
    let R = IfSet item.text_changed (ContentOf look v) in
    let S : Option (List ℕ) → Result (List ℕ) Wrong → Type 0 = λ text r. r ≡ Ok (change_records item.path item.action c.args.kind (source_of item) pairs text) in
    rw (e.1, e.2)
    (walks_unread (ReadText Q) (read_stops Q) R text_value (λ w h. first_wrong R S w h) c.args.lines.now.items (g.S.Sink.written c.args.sink.now) c.in_err-facts.field-0.0
    (long_fails look item.text_changed node rep c.requires told known text_value c.in_err-facts.field-0.0 c.in_err-facts.ensures.bytes c.in_err-facts.ensures.refused))

pub returns-in_err-put_head-clause-told : goal.returns-in_err-put_head-clause-told
returns-in_err-put_head-clause-told g c = λ look knows pairs is.
    let e = err_from_is_err_and c.from_residual-in_err-put_head.result c.from_residual-in_err-put_head.ensures.1 in
    let item = c.args.item.now in
    let Q = TextRecords look item item.action c.args.kind c.args.node.now.node pairs in
    rw (e.1, e.2) (walks_starved (ReadText Q) c.args.lines.now.items c.put_head.new.lines.items [] Stopped (g.S.Sink.written c.args.sink.now) (read_stops Q))

pub returns-clause-told : goal.returns-clause-told
returns-clause-told g c = λ look knows pairs is.
    let item = c.args.item.now in
    let node = c.args.node.now in
    let rep = c.args.rep.now in
    let v = node.node in
    let kind = c.args.kind in
    let known = knows (rev_of rep) (rep_le (home_of v) rep.rev rep.offset c.requires.before) in
    let told = (g.B.Book.told c.args.book.now).revs in
    let facts : TextFacts = facts_value c.in_ok-facts.facts in
    let lines = c.args.lines.now.items in
    let mid = c.put_head.new.lines.items in
    let put : mid ≡ lines ++ records_head item.path item.action kind (source_of item) (option_map props_block pairs) (Some facts) =
    c.in_ok-put_head.ensures ∙ ap (λ (b : Option (List ℕ)). lines ++ records_head item.path item.action kind (source_of item) b (Some facts)) is in
    long_walks look item.text_changed node rep c.requires told known item refl item.action kind pairs facts c.in_ok-facts.ensures.bytes c.in_ok-facts.ensures.refused
    lines mid c.write_long.new.lines.items (g.S.Sink.written c.args.sink.now) (g.S.Sink.written c.write_long.new.sink) c.write_long.result put
    (λ bytes e whole. c.write_long.ensures.told bytes (c.in_ok-facts.ensures.kept.revs (rev_of rep) (Ok bytes) e) whole)
