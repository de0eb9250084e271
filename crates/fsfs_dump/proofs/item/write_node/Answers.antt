use Rattle.std.proofs.Common.{[]}
use Rattle.std.proofs.lemmas.Result.{err_from_is_err_and}
use Rattle.fsfs_revision.specs.Shows.Reading.{PropsOf}
use Rattle.fsfs_revision.proofs.Keeping.{keeps_trans}
use Rattle.fsfs_dag.specs.Views.{home_of}
use Rattle.fsfs_dag.proofs.Steps.{knows_later}
use Rattle.fsfs_stands.specs.Texts.{Stopped}
use Rattle.fsfs_look.specs.Revprops.Texts.{ReadText}
use Rattle.fsfs_dump.specs.Records.{Pairs}
use Rattle.fsfs_dump.specs.Readings.{IfSet, TextRecords, NodeRecords}
use Rattle.fsfs_dump.proofs.WalkLemmas.{walks_as, walks_starved, walks_unread}
use Rattle.fsfs_dump.proofs.Stops.{read_stops}
use Rattle.fsfs_dump.proofs.ReadLemmas.{behind_read, first_wrong}
use Rattle.std.specs.Prelude.{Option}
use Rattle.fsfs_dump.proofs.item.write_node.Goals as goal

abbrev same : Option Pairs → Option Pairs
same pairs = pairs

pub returns-in_err-pairs-clause-told : goal.returns-in_err-pairs-clause-told
returns-in_err-pairs-clause-told g c = λ look knows.
    let e = err_from_is_err_and c.from_residual.result c.from_residual.ensures.1 in
    let item = c.args.item.now in
    let v = c.args.node.now.node in
    let Q = NodeRecords look item item.action c.args.kind v in
    let R = IfSet item.props_changed (PropsOf look v) in
    rw (e.1, e.2)
    (walks_unread (ReadText Q) (read_stops Q) R same (λ w h. first_wrong R (TextRecords look item item.action c.args.kind v) w h) c.args.lines.now.items (g.S.Sink.written c.args.sink.now) c.in_err-pairs.field-0.0 (c.in_err-pairs.ensures.told look knows))

pub returns-in_err-block-clause-told : goal.returns-in_err-block-clause-told
returns-in_err-block-clause-told g c = λ look knows.
    let e = err_from_is_err_and c.from_residual-in_err-block.result c.from_residual-in_err-block.ensures.1 in
    let item = c.args.item.now in
    let Q = NodeRecords look item item.action c.args.kind c.args.node.now.node in
    rw (e.1, e.2) (walks_starved (ReadText Q) c.args.lines.now.items c.args.lines.now.items [] Stopped (g.S.Sink.written c.args.sink.now) (read_stops Q))

pub returns-in-None-clause-told : goal.returns-in-None-clause-told
returns-in-None-clause-told g c = λ look knows.
    let item = c.args.item.now in
    let v = c.args.node.now.node in
    let pairs = c.in_ok-pairs.pairs in
    let told = g.S.Sink.written c.args.sink.now in
    let R = IfSet item.props_changed (PropsOf look v) in
    let S = TextRecords look item item.action c.args.kind v in
    walks_as (ReadText (S pairs)) (ReadText (NodeRecords look item item.action c.args.kind v)) c.args.lines.now.items c.put_short.new.lines.items told told c.put_short.result
    (behind_read R S pairs (c.in_ok-pairs.ensures.told look knows)) (c.put_short.ensures.told look (knows_later _ _ look (home_of v).rev c.in_ok-pairs.ensures.kept knows) pairs c.in_ok-block.ensures told)

pub returns-in-None-clause-kept : goal.returns-in-None-clause-kept
returns-in-None-clause-kept g c = keeps_trans _ _ _ c.in_ok-pairs.ensures.kept c.put_short.ensures.kept

pub returns-in-None-clause-sink : goal.returns-in-None-clause-sink
returns-in-None-clause-sink g c = c.put_short.ensures.quiet (g.S.Sink.faults c.args.sink.now)

pub returns-clause-told : goal.returns-clause-told
returns-clause-told g c = λ look knows.
    let item = c.args.item.now in
    let v = c.args.node.now.node in
    let pairs = c.in_ok-pairs.pairs in
    let R = IfSet item.props_changed (PropsOf look v) in
    let S = TextRecords look item item.action c.args.kind v in
    walks_as (ReadText (S pairs)) (ReadText (NodeRecords look item item.action c.args.kind v)) c.args.lines.now.items c.write_with.new.lines.items (g.S.Sink.written c.args.sink.now) (g.S.Sink.written c.write_with.new.sink) c.write_with.result
    (behind_read R S pairs (c.in_ok-pairs.ensures.told look knows)) (c.write_with.ensures.told look (knows_later _ _ look (home_of v).rev c.in_ok-pairs.ensures.kept knows) pairs c.in_ok-block.ensures)

pub returns-clause-kept : goal.returns-clause-kept
returns-clause-kept g c = keeps_trans _ _ _ c.in_ok-pairs.ensures.kept c.write_with.ensures.kept
