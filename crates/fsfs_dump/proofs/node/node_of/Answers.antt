use Rattle.std.proofs.Common.{◌≡◌, true, false, sym, ◌∙◌, arith}
use Rattle.fsfs_stands.specs.ChangedTexts.{is_nameable}
use Rattle.fsfs_history.proofs.KindLemmas.{nameable_le}
use Rattle.fsfs_dump.proofs.NodeLemmas.{named_as, there_as, id_within}
use Rattle.fsfs_dump.proofs.node.node_of.Goals as goal

pub returns-then-is_nameable-clause-told : goal.returns-then-is_nameable-clause-told
returns-then-is_nameable-clause-told g c = λ look knows.
    let item = c.args.item.now in
    let is : is_nameable c.args.rev item.id ≡ true = sym c.is_nameable.ensures ∙ c.if-is_nameable.true in
    let le = nameable_le c.args.rev item.id is in
    named_as look c.args.rev item (is_nameable c.args.rev item.id) c.named_node.result is (c.named_node.ensures.told look (λ r lower. knows r (omega (arith, lower, le))))

pub returns-then-is_nameable-clause-within : goal.returns-then-is_nameable-clause-within
returns-then-is_nameable-clause-within g c = λ look knows.
    let item = c.args.item.now in
    let is : is_nameable c.args.rev item.id ≡ true = sym c.is_nameable.ensures ∙ c.if-is_nameable.true in
    id_within c.args.rev item.id c.named_node.result (nameable_le c.args.rev item.id is) c.named_node.ensures.id

pub returns-clause-told : goal.returns-clause-told
returns-clause-told g c = λ look knows.
    let item = c.args.item.now in
    let is : is_nameable c.args.rev item.id ≡ false = sym c.is_nameable.ensures ∙ c.if-is_nameable.false in
    there_as look c.args.rev item (is_nameable c.args.rev item.id) c.node_there.result is (c.node_there.ensures.told look knows)
