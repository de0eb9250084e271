use Rattle.std.proofs.Common.{◌≡◌, List, ℕ, rules, subst, OnErr}
use Rattle.fsfs_base.specs.Output.{AddsFront}
use Rattle.fsfs_verify.specs.Texts.{verified_line}
use Rattle.fsfs_verify.proofs.lines.write_verified.Goals as goal

pub returns-clause-part : goal.returns-clause-part
returns-clause-part g c =
    let line : c.as_bytes.result.now ≡ verified_line c.args.rev = search rules in
    subst (λ (t : List ℕ). OnErr c.write_piece.result (AddsFront (g.S.Sink.written c.args.sink.now) (g.S.Sink.written c.write_piece.new.sink) t)) line c.write_piece.ensures.part
