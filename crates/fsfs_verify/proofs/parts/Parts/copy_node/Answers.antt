use Rattle.std.proofs.Common.{sym, ◌∙◌}
use Rattle.fsfs_verify.proofs.PartLemmas.{holds_put, holds_none, put_new}
use Rattle.fsfs_verify.specs.PartSets.{holds}
use Rattle.fsfs_verify.proofs.parts.Parts.copy_node.Goals as goal

pub returns-clause-told : goal.returns-clause-told
returns-clause-told c = λ begun copied drawn lasting held.
    let part = c.args.copy.now.node.id.copy in
    let set = c.args.self.now.copied in
    let may = c.may_be_copied_in.ensures.yes c.if-not-may_be_copied_in.false in
    let fresh = put_new c.in_ok-put.field-0 (holds set part) (c.in_ok-put.ensures.new lasting) c.if-not-branch.false in (
      record { begun = held.begun; copied = holds_put c.args.rev set copied held.copied c.put.new.self part lasting may.1 c.in_ok-put.ensures.put; drawn = held.drawn },
      record { not_first = may.0; suffix = may.1; new = holds_none c.args.rev set copied held.copied part lasting may.1 fresh; not_drawn = holds_none c.args.rev c.args.self.now.drawn drawn held.drawn part lasting may.1 (sym c.has.ensures ∙ c.if-has.false) },
    )
