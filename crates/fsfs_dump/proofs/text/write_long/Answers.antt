use Rattle.std.proofs.Common.{◌≡◌, ℕ, List, [], ◌++◌, Ok, Err, refl, sym, ap, subst, append-nil, ◌∙◌}
use Rattle.std.proofs.lemmas.Result.{err_from_is_err_and}
use Rattle.fsfs_base.specs.Streams.{Adds}
use Rattle.fsfs_base.specs.Output.{AddsFront}
use Rattle.fsfs_revision.specs.Rep.Frames.{text_of}
use Rattle.fsfs_stands.specs.FileTexts.{IsWholeText}
use Rattle.fsfs_stands.specs.Texts.{Whole}
use Rattle.fsfs_look.specs.declared.look_error.LookError.TheVariants as errors
use Rattle.fsfs_look.specs.Walks.{Walks}
use Rattle.fsfs_dump.specs.Records.{record_end}
use Rattle.fsfs_dump.proofs.WalkLemmas.{walks_flushed, walks_unwritten, walks_written, walks_tail, walks_cut, walks_both, whole_adds}
use Rattle.fsfs_dump.proofs.text.write_long.Goals as goal

pub returns-in_err-write_piece-clause-told : goal.returns-in_err-write_piece-clause-told
returns-in_err-write_piece-clause-told g c = λ bytes e whole.
    let p = err_from_is_err_and c.from_residual.result c.from_residual.ensures.1 in
    let text = text_of c.args.rep.now bytes ++ record_end in
    let old = g.S.Sink.written c.args.sink.now in
    let new = g.S.Sink.written c.write_piece.new.sink in
    let part = subst (λ (t : List ℕ). AddsFront old new t) c.deref.ensures.value c.in_err-write_piece.ensures.part in
    rw (p.1, p.2, c.in_err-write_piece.ensures.failed) (walks_unwritten (IsWholeText text) c.args.lines.now.items c.args.lines.now.items text Whole old new (refl, refl) part)

pub returns-in_err-write_again-clause-told : goal.returns-in_err-write_again-clause-told
returns-in_err-write_again-clause-told g c = λ bytes e whole.
    let p = err_from_is_err_and c.from_residual-in_err-write_again.result c.from_residual-in_err-write_again.ensures.1 in
    let text = text_of c.args.rep.now bytes in
    let lines = c.args.lines.now.items in
    let now = c.clear.new.self.items in
    let old = g.S.Sink.written c.args.sink.now in
    let mid = g.S.Sink.written c.write_piece.new.sink in
    let new = g.S.Sink.written c.write_again.new.sink in
    let adds = subst (λ (t : List ℕ). Adds old mid t) c.deref.ensures.value c.in_ok-write_piece.ensures.added in
    let r = c.in_err-write_again.field-0.0 in
    let written = walks_written text mid new now now (Err r) c.clear.ensures.items refl (c.in_err-write_again.ensures.told bytes e whole) in
    rw (p.1, p.2)
    (walks_flushed (IsWholeText (text ++ record_end)) lines [] now lines old mid new (Err r) adds (sym (append-nil lines))
    (subst (λ (b : List ℕ). Walks (IsWholeText (text ++ record_end)) b now mid new (Err r)) c.clear.ensures.items (walks_tail text record_end now now now mid new r written)))

pub returns-in_err-extend_from_slice-clause-told : goal.returns-in_err-extend_from_slice-clause-told
returns-in_err-extend_from_slice-clause-told g c = λ bytes e whole.
    let p = err_from_is_err_and c.from_residual-in_err-extend_from_slice.result c.from_residual-in_err-extend_from_slice.ensures.1 in
    let text = text_of c.args.rep.now bytes in
    let lines = c.args.lines.now.items in
    let now = c.extend_from_slice.new.self.items in
    let old = g.S.Sink.written c.args.sink.now in
    let mid = g.S.Sink.written c.write_piece.new.sink in
    let new = g.S.Sink.written c.write_again.new.sink in
    let adds = subst (λ (t : List ℕ). Adds old mid t) c.deref.ensures.value c.in_ok-write_piece.ensures.added in
    let more = whole_adds text mid new tt (c.in_ok-write_again.ensures.told bytes e whole) in
    rw (p.1, p.2) (walks_flushed (IsWholeText (text ++ record_end)) lines [] now lines old mid new (Err errors.OutOfMemory) adds (sym (append-nil lines)) (walks_cut text record_end [] now mid new refl more))

pub returns-clause-told : goal.returns-clause-told
returns-clause-told g c = λ bytes e whole.
    let text = text_of c.args.rep.now bytes in
    let lines = c.args.lines.now.items in
    let now = c.extend_from_slice.new.self.items in
    let old = g.S.Sink.written c.args.sink.now in
    let mid = g.S.Sink.written c.write_piece.new.sink in
    let new = g.S.Sink.written c.write_again.new.sink in
    let adds = subst (λ (t : List ℕ). Adds old mid t) c.deref.ensures.value c.in_ok-write_piece.ensures.added in
    let more = whole_adds text mid new tt (c.in_ok-write_again.ensures.told bytes e whole) in
    let is : now ≡ record_end = c.in_ok-extend_from_slice.ensures.items ∙ ap (λ (t : List ℕ). t ++ record_end) c.clear.ensures.items in
    walks_flushed (IsWholeText (text ++ record_end)) lines [] now lines old mid new (Ok tt) adds (sym (append-nil lines)) (walks_both text record_end [] now mid new tt refl is more)
