use Rattle.std.proofs.Common.{◌∙◌, sym}
use Rattle.fsfs_noderev.proofs.ItemLemmas.{told_has_text}
use Rattle.fsfs_bench.proofs.writing.has_text.Goals as goal

pub returns-in-Ok : goal.returns-in-Ok
returns-in-Ok c = λ yes. told_has_text c.args.item.now c.in-Ok.ensures.within (sym c.is_told.ensures ∙ yes)
