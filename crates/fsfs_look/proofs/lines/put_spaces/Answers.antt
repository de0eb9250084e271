use Rattle.std.proofs.Common.{◌++◌, ◌∷◌, [], ap, ◌∙◌, append_assoc, replicate}
use Rattle.std.proofs.lemmas.List.{replicate_more}
use Rattle.fsfs_look.proofs.lines.put_spaces.Goals as goal

pub loop-preserved : goal.loop-preserved
loop-preserved c =
    c.in_ok-push.ensures.items ∙ ap (λ t. t ++ 32 ∷ []) c.loop.invariant ∙ append_assoc c.args.lines.now.items (replicate c.loop.counter 32) (32 ∷ [])
    ∙ ap (λ t. c.args.lines.now.items ++ t) (replicate_more c.loop.counter 32)
