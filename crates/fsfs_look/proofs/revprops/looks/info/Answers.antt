use Rattle.std.proofs.Common.{◌≡◌, ℕ, List, ◌++◌, Ok, Err, refl, ap, subst}
use Rattle.std.specs.Prelude.{codes, Result, Option, OnOk, OnErr}
use Rattle.std.proofs.lemmas.Result.{err_from_is_err_and}
use Rattle.std.specs.declared.vec.Vec.{Vec}
use Rattle.std.specs.declared.alloc.Global.{Global}
use Rattle.fsfs_tree.specs.Dated.{date_name}
use Rattle.fsfs_base.specs.Streams.{Adds}
use Rattle.fsfs_base.specs.Output.{AddsFront}
use Rattle.fsfs_base.proofs.StreamLemmas.{adds_then}
use Rattle.fsfs_revision.specs.declared.wrong.Wrong.{Wrong}
use Rattle.fsfs_revision.specs.Damage.Readings.{AndThen, Answers}
use Rattle.fsfs_revision.proofs.Answering.{stops}
use Rattle.fsfs_look.specs.Revprops.Files.{Pairs}
use Rattle.fsfs_look.specs.Revprops.Texts.{value_of, log_name, log_lines, info_lines, DateLine}
use Rattle.fsfs_look.proofs.LookLemmas.{front_first, front_second, second_added, second_part, no_props, no_line, props_written, props_front}
use Rattle.fsfs_look.proofs.revprops.looks.info.Goals as goal

abbrev Date : ℕ → Pairs → Result (List ℕ) Wrong → Type 0
Date rev pairs = DateLine rev (value_of pairs date_name)

abbrev Info : ℕ → Pairs → Result (List ℕ) Wrong → Type 0
Info rev pairs = AndThen (Date rev pairs) (λ line r. r ≡ Ok (info_lines pairs line))

abbrev items : Vec ℕ Global → List ℕ
items v = v.items

pub returns-in_err-pairs-clause-read : goal.returns-in_err-pairs-clause-read
returns-in_err-pairs-clause-read g c =
    let e = err_from_is_err_and c.from_residual.result c.from_residual.ensures.1 in
    rw (e.1, e.2) (no_props (Info c.args.rev) (g.B.RevProps.may_read c.args.book.now) c.args.rev (g.S.Sink.written c.args.sink.now) c.in_err-pairs.field-0.0 c.in_err-pairs.ensures.read)

pub returns-in_err-line-clause-read : goal.returns-in_err-line-clause-read
returns-in_err-line-clause-read g c =
    let e = err_from_is_err_and c.from_residual-in_err-line.result c.from_residual-in_err-line.ensures.1 in
    let pairs = c.in_ok-pairs.pairs in
    let fails : Answers (λ (t : List ℕ). t) (Info c.args.rev pairs) (Err c.in_err-line.field-0.0) =
    stops items (λ (t : List ℕ). t) c.in_err-line.field-0.0 (Date c.args.rev pairs) (λ line r. r ≡ Ok (info_lines pairs line)) c.in_err-line.ensures.told in
    rw (e.1, e.2) (no_line (Info c.args.rev) (g.B.RevProps.may_read c.args.book.now) c.args.rev pairs c.in_ok-pairs.ensures.read (λ (t : List ℕ). t) (g.S.Sink.written c.args.sink.now) c.in_err-line.field-0.0 fails)

pub returns-in_err-write_line-clause-read : goal.returns-in_err-write_line-clause-read
returns-in_err-write_line-clause-read g c =
    let e = err_from_is_err_and c.from_residual-in_err-write_line.result c.from_residual-in_err-write_line.ensures.1 in
    let pairs = c.in_ok-pairs.pairs in
    let line : List ℕ = c.in_ok-line.line.items in
    let first : List ℕ = c.value.result.now ++ codes "\n" in
    let last : List ℕ = log_lines (value_of pairs log_name) in
    let old = g.S.Sink.written c.args.sink.now in
    let new = g.S.Sink.written c.write_line.new.sink in
    rw (e.1, e.2) (props_front (Info c.args.rev) (g.B.RevProps.may_read c.args.book.now) c.args.rev pairs c.in_ok-pairs.ensures.read (info_lines pairs line) (first ++ line ++ last) old new c.in_err-write_line.field-0.0
    (line, c.in_ok-line.ensures.told, refl) (ap (λ (t : List ℕ). (t ++ codes "\n") ++ line ++ last) c.value.ensures) (front_first old new (first ++ line) last (front_first old new first line c.in_err-write_line.ensures.part)) c.in_err-write_line.ensures.failed)

pub returns-in_err-write_piece-clause-read : goal.returns-in_err-write_piece-clause-read
returns-in_err-write_piece-clause-read g c =
    let e = err_from_is_err_and c.from_residual-in_err-write_piece.result c.from_residual-in_err-write_piece.ensures.1 in
    let pairs = c.in_ok-pairs.pairs in
    let line : List ℕ = c.in_ok-line.line.items in
    let first : List ℕ = c.value.result.now ++ codes "\n" in
    let last : List ℕ = log_lines (value_of pairs log_name) in
    let old = g.S.Sink.written c.args.sink.now in
    let mid = g.S.Sink.written c.write_line.new.sink in
    let new = g.S.Sink.written c.write_piece.new.sink in
    let part : AddsFront mid new line = subst (λ (t : List ℕ). AddsFront mid new t) c.deref.ensures.value c.in_err-write_piece.ensures.part in
    rw (e.1, e.2) (props_front (Info c.args.rev) (g.B.RevProps.may_read c.args.book.now) c.args.rev pairs c.in_ok-pairs.ensures.read (info_lines pairs line) (first ++ line ++ last) old new c.in_err-write_piece.field-0.0
    (line, c.in_ok-line.ensures.told, refl) (ap (λ (t : List ℕ). (t ++ codes "\n") ++ line ++ last) c.value.ensures)
    (front_first old new (first ++ line) last (front_second old mid new first line c.in_ok-write_line.ensures.added part)) c.in_err-write_piece.ensures.failed)

pub returns-clause-read : goal.returns-clause-read
returns-clause-read g c =
    let pairs = c.in_ok-pairs.pairs in
    let line : List ℕ = c.in_ok-line.line.items in
    let first : List ℕ = c.value.result.now ++ codes "\n" in
    let last : List ℕ = log_lines (value_of pairs log_name) in
    let old = g.S.Sink.written c.args.sink.now in
    let mid = g.S.Sink.written c.write_line.new.sink in
    let more = g.S.Sink.written c.write_piece.new.sink in
    let new = g.S.Sink.written c.write_log.new.sink in
    let r = c.write_log.result in
    let added : Adds mid more line = subst (λ (t : List ℕ). Adds mid more t) c.deref.ensures.value c.in_ok-write_piece.ensures.added in
    let both : Adds old more (first ++ line) = adds_then old mid more first line c.in_ok-write_line.ensures.added added in
    let logged = ap (λ (o : Option (List ℕ)). log_lines o) c.get.ensures in
    let log_added : OnOk r (Adds more new last) = subst (λ (t : List ℕ). OnOk r (Adds more new t)) logged c.write_log.ensures.added in
    let log_part : OnErr r (AddsFront more new last) = subst (λ (t : List ℕ). OnErr r (AddsFront more new t)) logged c.write_log.ensures.part in
    props_written (Info c.args.rev) (g.B.RevProps.may_read c.args.book.now) c.args.rev pairs c.in_ok-pairs.ensures.read (info_lines pairs line) (first ++ line ++ last) old new r
    (line, c.in_ok-line.ensures.told, refl) (ap (λ (t : List ℕ). (t ++ codes "\n") ++ line ++ last) c.value.ensures)
    (second_added old more new (first ++ line) last both r log_added) (second_part old more new (first ++ line) last both r log_part)
    c.write_log.ensures.failed
