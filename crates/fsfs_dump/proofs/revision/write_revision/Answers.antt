use Rattle.std.proofs.Common.{[], refl, inl, inr}
use Rattle.std.proofs.lemmas.Result.{err_from_is_err_and}
use Rattle.fsfs_dag.proofs.Steps.{knows_later}
use Rattle.fsfs_stands.specs.Texts.{Stopped}
use Rattle.fsfs_stands.specs.FileTexts.{IsWholeText}
use Rattle.fsfs_look.specs.Revprops.Files.{RevPropsOf}
use Rattle.fsfs_dump.specs.Records.{Pairs, revision_record}
use Rattle.fsfs_dump.specs.Texts.{ChangesText, PropsText, RevisionText}
use Rattle.fsfs_dump.proofs.WalkLemmas.{walks_as, walks_then, walks_put, walks_starved, walks_unread}
use Rattle.fsfs_dump.proofs.Stops.{reads_stop}
use Rattle.fsfs_dump.proofs.revision.write_revision.Goals as goal

abbrev same : Pairs → Pairs
same pairs = pairs

pub returns-in_err-pairs-clause-told : goal.returns-in_err-pairs-clause-told
returns-in_err-pairs-clause-told g c = λ look knows.
    let e = err_from_is_err_and c.from_residual.result c.from_residual.ensures.1 in
    let rev = c.args.rev in
    let may = g.B.RevProps.may_read c.args.book.now in
    rw (e.1, e.2)
    (walks_unread (RevisionText look may rev) (reads_stop (RevPropsOf may rev) (PropsText look rev)) (RevPropsOf may rev) same (λ w h. inr (inl (w, h, (refl, refl)))) c.args.lines.now.items (g.S.Sink.written c.args.sink.now) c.in_err-pairs.field-0.0
    c.in_err-pairs.ensures.read)

pub returns-in_err-put_props-clause-told : goal.returns-in_err-put_props-clause-told
returns-in_err-put_props-clause-told g c = λ look knows.
    let e = err_from_is_err_and c.from_residual-in_err-put_props.result c.from_residual-in_err-put_props.ensures.1 in
    let rev = c.args.rev in
    let may = g.B.RevProps.may_read c.args.book.now in
    rw (e.1, e.2) (walks_starved (RevisionText look may rev) c.args.lines.now.items c.put_props.new.lines.items [] Stopped (g.S.Sink.written c.args.sink.now) (reads_stop (RevPropsOf may rev) (PropsText look rev)))

pub returns-clause-told : goal.returns-clause-told
returns-clause-told g c = λ look knows.
    let rev = c.args.rev in
    let may = g.B.RevProps.may_read c.args.book.now in
    let pairs = c.in_ok-pairs.pairs in
    let rec = revision_record rev pairs in
    let old = g.S.Sink.written c.args.sink.now in
    let new = g.S.Sink.written c.write_changes.new.sink in
    let before = c.args.lines.now.items in
    let middle = c.put_props.new.lines.items in
    let now = c.write_changes.new.lines.items in
    let first = walks_put rec before middle old tt c.in_ok-put_props.ensures in
    let rest = c.write_changes.ensures.told look (knows_later _ _ look rev c.in_ok-pairs.ensures.kept knows) in
    walks_as (PropsText look rev pairs) (RevisionText look may rev) before now old new c.write_changes.result (λ text end h. inr (inr (pairs, c.in_ok-pairs.ensures.read, h)))
    (walks_then (IsWholeText rec) (ChangesText look rev) before middle now old old new tt c.write_changes.result first rest)
