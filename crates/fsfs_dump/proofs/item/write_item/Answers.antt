use Rattle.std.proofs.Common.{◌≡◌, true, false, sym, ◌∙◌}
use Rattle.fsfs_stands.specs.FileTexts.{IsWholeText}
use Rattle.fsfs_look.specs.Revprops.Texts.{ReadText}
use Rattle.fsfs_dump.specs.Records.{delete_record}
use Rattle.fsfs_dump.specs.Readings.{ThereRecords, ItemRecords}
use Rattle.fsfs_dump.specs.Views.{is_gone}
use Rattle.fsfs_dump.proofs.WalkLemmas.{walks_as}
use Rattle.fsfs_dump.proofs.ReadLemmas.{whole_read, there_records, gone_record}
use Rattle.fsfs_dump.proofs.item.write_item.Goals as goal

pub returns-then-is_gone-clause-told : goal.returns-then-is_gone-clause-told
returns-then-is_gone-clause-told g c = λ look knows.
    let item = c.args.item.now in
    let rec = delete_record item.path in
    let told = g.S.Sink.written c.args.sink.now in
    let is : is_gone item.action ≡ true = sym c.is_gone.ensures ∙ c.if-is_gone.true in
    walks_as (IsWholeText rec) (ReadText (ItemRecords look c.args.rev item)) c.args.lines.now.items c.put_gone.new.lines.items told told c.put_gone.result
    (whole_read (ItemRecords look c.args.rev item) rec (gone_record look c.args.rev item item.action is)) (c.put_gone.ensures.told told)

pub returns-then-is_gone-clause-cause : goal.returns-then-is_gone-clause-cause
returns-then-is_gone-clause-cause g c = c.put_gone.ensures.cause (g.B.Book.faults c.args.book.now)

pub returns-then-is_gone-clause-sink : goal.returns-then-is_gone-clause-sink
returns-then-is_gone-clause-sink g c = c.put_gone.ensures.quiet (g.S.Sink.faults c.args.sink.now)

pub returns-clause-told : goal.returns-clause-told
returns-clause-told g c = λ look knows.
    let item = c.args.item.now in
    let is : is_gone item.action ≡ false = sym c.is_gone.ensures ∙ c.if-is_gone.false in
    walks_as (ReadText (ThereRecords look c.args.rev item item.action)) (ReadText (ItemRecords look c.args.rev item)) c.args.lines.now.items c.write_there.new.lines.items (g.S.Sink.written c.args.sink.now) (g.S.Sink.written c.write_there.new.sink) c.write_there.result
    (there_records look c.args.rev item item.action is) (c.write_there.ensures.told look knows)
