use Rattle.std.proofs.Common.{◌≡◌, ℕ, List, [], ◌++◌, Option, Ok, refl, ap, ◌∙◌}
use Rattle.std.specs.Prelude.{option_map, unwrap_or, Result}
use Rattle.std.proofs.lemmas.Result.{err_from_is_err_and}
use Rattle.fsfs_revision.specs.declared.wrong.Wrong.{Wrong}
use Rattle.fsfs_stands.specs.FileTexts.{IsWholeText}
use Rattle.fsfs_stands.specs.Texts.{Stopped}
use Rattle.fsfs_look.specs.Revprops.Texts.{ReadText}
use Rattle.fsfs_dump.specs.Records.{facts_of, records_head, record_end, change_records}
use Rattle.fsfs_dump.specs.Readings.{IfSet, ContentOf, source_of, TextRecords}
use Rattle.fsfs_dump.specs.Views.{text_value}
use Rattle.fsfs_dump.proofs.WalkLemmas.{walks_as, walks_put, walks_starved, walks_unread}
use Rattle.fsfs_dump.proofs.Stops.{read_stops}
use Rattle.fsfs_dump.proofs.ReadLemmas.{whole_read, first_wrong}
use Rattle.fsfs_dump.proofs.item.put_short.Goals as goal

pub returns-in_err-text-clause-told : goal.returns-in_err-text-clause-told
returns-in_err-text-clause-told g c = λ look knows pairs is told.
    let e = err_from_is_err_and c.from_residual.result c.from_residual.ensures.1 in
    let item = c.args.item.now in
    let v = c.args.node.now.node in
    let Q = TextRecords look item item.action c.args.kind v pairs in
    let R = IfSet item.text_changed (ContentOf look v) in
    let S : Option (List ℕ) → Result (List ℕ) Wrong → Type 0 = λ text r. r ≡ Ok (change_records item.path item.action c.args.kind (source_of item) pairs text) in
    rw (e.1, e.2) (walks_unread (ReadText Q) (read_stops Q) R text_value (λ w h. first_wrong R S w h) c.args.lines.now.items told c.in_err-text.field-0.0 (c.in_err-text.ensures.told look knows))

pub returns-in_err-put_with-clause-told : goal.returns-in_err-put_with-clause-told
returns-in_err-put_with-clause-told g c = λ look knows pairs is told.
    let e = err_from_is_err_and c.from_residual-in_err-put_with.result c.from_residual-in_err-put_with.ensures.1 in
    let item = c.args.item.now in
    let Q = TextRecords look item item.action c.args.kind c.args.node.now.node pairs in
    rw (e.1, e.2) (walks_starved (ReadText Q) c.args.lines.now.items c.put_with.new.lines.items [] Stopped told (read_stops Q))

pub returns-clause-told : goal.returns-clause-told
returns-clause-told g c = λ look knows pairs is told.
    let item = c.args.item.now in
    let v = c.args.node.now.node in
    let kind = c.args.kind in
    let Q = TextRecords look item item.action kind v pairs in
    let text = text_value c.in_ok-text.text in
    let lines = c.args.lines.now.items in
    let now = c.put_with.new.lines.items in
    let rec = change_records item.path item.action kind (source_of item) pairs text in
    let put : now ≡ lines ++ rec =
    c.in_ok-put_with.ensures ∙ ap (λ (b : Option (List ℕ)). lines ++ (records_head item.path item.action kind (source_of item) b (option_map facts_of text) ++ unwrap_or text [] ++ record_end)) is in
    walks_as (IsWholeText rec) (ReadText Q) lines now told told (Ok tt) (whole_read Q rec (text, c.in_ok-text.ensures.told look knows, refl)) (walks_put rec lines now told tt put)
