use Rattle.std.proofs.lemmas.Result.{err_from_is_err_and}
use Rattle.fsfs_base.specs.declared.kind.Kind.{Kind}
use Rattle.fsfs_revision.proofs.Keeping.{keeps_trans}
use Rattle.fsfs_dag.specs.Views.{home_of}
use Rattle.fsfs_dag.proofs.Steps.{knows_later}
use Rattle.fsfs_stands.specs.ChangedTexts.{KindOf}
use Rattle.fsfs_look.specs.Revprops.Texts.{ReadText}
use Rattle.fsfs_look.proofs.ProgressLemmas.{knows_upto}
use Rattle.fsfs_dump.specs.Readings.{NodeOf, NodeRecords, KindRecords, ThereRecords}
use Rattle.fsfs_dump.proofs.WalkLemmas.{walks_as, walks_unread}
use Rattle.fsfs_dump.proofs.Stops.{read_stops}
use Rattle.fsfs_dump.proofs.ReadLemmas.{behind_read, first_wrong}
use Rattle.fsfs_dump.proofs.NodeLemmas.{node_value}
use Rattle.fsfs_stands.specs.declared.look_fault.LookFault.TheVariants as faults
use Rattle.fsfs_stands.specs.Texts.{Refused}
use Rattle.std.specs.Prelude.{[]}
use Rattle.fsfs_dump.proofs.item.write_there.Goals as goal

abbrev same : Kind → Kind
same kind = kind

pub returns-in_err-kind-clause-told : goal.returns-in_err-kind-clause-told
returns-in_err-kind-clause-told g c = λ look knows.
    let e = err_from_is_err_and c.from_residual.result c.from_residual.ensures.1 in
    let item = c.args.item.now in
    let rev = c.args.rev in
    let Q = ThereRecords look rev item item.action in
    let R = KindOf look rev item item.kind in
    rw (e.1, e.2)
    (walks_unread (ReadText Q) (read_stops Q) R same (λ w h. first_wrong R (KindRecords look rev item item.action) w h) c.args.lines.now.items (g.S.Sink.written c.args.sink.now) c.in_err-kind.field-0.0 (c.in_err-kind.ensures.told look knows))

pub returns-in_err-node-clause-told : goal.returns-in_err-node-clause-told
returns-in_err-node-clause-told g c = λ look knows.
    let e = err_from_is_err_and c.from_residual-in_err-node.result c.from_residual-in_err-node.ensures.1 in
    let item = c.args.item.now in
    let rev = c.args.rev in
    let kind = c.in_ok-kind.kind in
    let Q = ThereRecords look rev item item.action in
    let K = KindOf look rev item item.kind in
    let R = NodeOf look rev item in
    let later = knows_later _ _ look rev c.in_ok-kind.ensures.kept knows in
    rw (e.1, e.2)
    (walks_unread (ReadText Q) (read_stops Q) R node_value
    (λ w h. behind_read K (KindRecords look rev item item.action) kind (c.in_ok-kind.ensures.told look knows) [] (Refused (faults.Wrong w)) (first_wrong R (NodeRecords look item item.action kind) w h))
    c.args.lines.now.items (g.S.Sink.written c.args.sink.now) c.in_err-node.field-0.0 (c.in_err-node.ensures.told look later))

pub returns-in_err-node-clause-kept : goal.returns-in_err-node-clause-kept
returns-in_err-node-clause-kept g c = keeps_trans _ _ _ c.in_ok-kind.ensures.kept c.in_err-node.ensures.kept

pub returns-clause-told : goal.returns-clause-told
returns-clause-told g c = λ look knows.
    let item = c.args.item.now in
    let rev = c.args.rev in
    let kind = c.in_ok-kind.kind in
    let v = c.in_ok-node.node.node in
    let K = KindOf look rev item item.kind in
    let R = NodeOf look rev item in
    let old = g.S.Sink.written c.args.sink.now in
    let new = g.S.Sink.written c.write_node.new.sink in
    let before = c.args.lines.now.items in
    let now = c.write_node.new.lines.items in
    let later = knows_later _ _ look rev c.in_ok-kind.ensures.kept knows in
    let there = knows_upto _ _ look rev (home_of v).rev c.in_ok-node.ensures.kept (c.in_ok-node.ensures.within look later) later in
    walks_as (ReadText (KindRecords look rev item item.action kind)) (ReadText (ThereRecords look rev item item.action)) before now old new c.write_node.result
    (behind_read K (KindRecords look rev item item.action) kind (c.in_ok-kind.ensures.told look knows))
    (walks_as (ReadText (NodeRecords look item item.action kind v)) (ReadText (KindRecords look rev item item.action kind)) before now old new c.write_node.result
    (behind_read R (NodeRecords look item item.action kind) v (c.in_ok-node.ensures.told look later)) (c.write_node.ensures.told look there))

pub returns-clause-kept : goal.returns-clause-kept
returns-clause-kept g c = keeps_trans _ _ _ c.in_ok-kind.ensures.kept (keeps_trans _ _ _ c.in_ok-node.ensures.kept c.write_node.ensures.kept)
