use Rattle.std.proofs.Common.{rules, ◌≡◌, List, ℕ, ◌++◌, length, subst}
use Rattle.std.specs.Prelude.{codes, decimal, OnErr}
use Rattle.std.proofs.lemmas.Result.{err_from_is_err_and}
use Rattle.fsfs_base.specs.Streams.{Adds}
use Rattle.fsfs_base.specs.Output.{AddsFront}
use Rattle.fsfs_look.proofs.LookLemmas.{front_first, second_part}
use Rattle.fsfs_look.proofs.revprops.lines.write_log.Goals as goal

pub returns-in_err-write_line-in-Some-clause-part : goal.returns-in_err-write_line-in-Some-clause-part
returns-in_err-write_line-in-Some-clause-part g c =
    let old = g.S.Sink.written c.args.sink.now in
    let new = g.S.Sink.written c.write_line-in-Some.new.sink in
    let log : List ℕ = c.in-Some.log.now.items in
    let size : c.as_bytes.result.now ≡ decimal (length log) = search rules in
    let e = err_from_is_err_and c.from_residual.result c.from_residual.ensures.1 in
    rw (e.1, c.in-Some.is) (front_first old new (decimal (length log) ++ codes "\n") (log ++ codes "\n") (subst (λ (t : List ℕ). AddsFront old new (t ++ codes "\n")) size c.in_err-write_line-in-Some.ensures.part))

pub returns-in_ok-write_line-in-Some-clause-part : goal.returns-in_ok-write_line-in-Some-clause-part
returns-in_ok-write_line-in-Some-clause-part g c =
    let old = g.S.Sink.written c.args.sink.now in
    let mid = g.S.Sink.written c.write_line-in-Some.new.sink in
    let new = g.S.Sink.written c.write_line-in-Some-2.new.sink in
    let r = c.write_line-in-Some-2.result in
    let log : List ℕ = c.in-Some.log.now.items in
    let size : c.as_bytes.result.now ≡ decimal (length log) = search rules in
    let first : Adds old mid (decimal (length log) ++ codes "\n") = subst (λ (t : List ℕ). Adds old mid (t ++ codes "\n")) size c.in_ok-write_line-in-Some.ensures.added in
    let part : OnErr r (AddsFront mid new (log ++ codes "\n")) = subst (λ (t : List ℕ). OnErr r (AddsFront mid new (t ++ codes "\n"))) c.deref.ensures.value c.write_line-in-Some-2.ensures.part in
    rw c.in-Some.is (second_part old mid new (decimal (length log) ++ codes "\n") (log ++ codes "\n") first r part)
