use Rattle.fsfs_verify.proofs.PartLemmas.{holds_put, holds_none, put_new}
use Rattle.fsfs_verify.specs.PartSets.{holds}
use Rattle.fsfs_verify.proofs.parts.Parts.begin_node.Goals as goal

pub returns-clause-told : goal.returns-clause-told
returns-clause-told c = λ begun copied drawn lasting held.
    let part = c.args.node.now.node.id.node in
    let set = c.args.self.now.begun in
    let suffix = c.may_be_made_in.ensures.yes c.if-not-may_be_made_in.false in
    let fresh = put_new c.in_ok-put.field-0 (holds set part) (c.in_ok-put.ensures.new lasting) c.if-not-branch.false in (
      record { begun = holds_put c.args.rev set begun held.begun c.put.new.self part lasting suffix c.in_ok-put.ensures.put; copied = held.copied; drawn = held.drawn },
      record { suffix = suffix; new = holds_none c.args.rev set begun held.begun part lasting suffix fresh },
    )
