use Rattle.std.proofs.Common.{sym, ◌∙◌}
use Rattle.fsfs_verify.proofs.PartLemmas.{holds_put, holds_none}
use Rattle.fsfs_verify.proofs.parts.Parts.draw_part.Goals as goal

pub returns-clause-told : goal.returns-clause-told
returns-clause-told c = λ begun copied drawn lasting held.
    let part = c.args.node.now.node.id.copy in
    let set = c.args.self.now.drawn in
    let may = c.may_be_copied_in.ensures.yes c.if-not-may_be_copied_in.false in (
      record { begun = held.begun; copied = held.copied; drawn = holds_put c.args.rev set drawn held.drawn c.put.new.self part lasting may.1 c.in_ok-put.ensures.put },
      record { not_first = may.0; suffix = may.1; no_copy = holds_none c.args.rev c.args.self.now.copied copied held.copied part lasting may.1 (sym c.has.ensures ∙ c.if-has.false) },
    )
