use Rattle.std.proofs.Common.{take}
use Rattle.std.specs.Prelude.{All}
use Rattle.fsfs_noderev.specs.Changes.Items.{HasText}
use Rattle.fsfs_bench.proofs.writing.have_texts.Given as goal

-- those so far have texts
abbrev pub invariant-loop-item : goal.invariant-loop-item
invariant-loop-item l = All HasText (take l.item-index l.items)
