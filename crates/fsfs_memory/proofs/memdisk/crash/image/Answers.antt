use Rattle.std.proofs.Common.{◌∷◌, [], ◌++◌, append_assoc, sym, ap, ◌∙◌}
use Rattle.std.proofs.Common.{length}
use Rattle.fsfs_memory.specs.Memdisk.Stored.{operations_of, change_of}
use Rattle.fsfs_memory.proofs.ImageLemmas.{rest_of_picks, picked_image-more}
use Rattle.fsfs_memory.proofs.memdisk.crash.image.Goals as goal

pub loop-operation-preserved : goal.loop-operation-preserved
loop-operation-preserved c =
    let so_far = c.loop-operation.invariant in
    let operation = c.in-Some.operation in
    let operations = operations_of so_far.0 in
    let more = picked_image-more c.args.pick.now c.loop-operation.rest.now c.args.first operations operation.done c.next_pick-picked.result.0 (change_of operation.change) c.loop-operation.now c.meet.new.now c.loop-operation.left c.meet.new.left
    so_far.2 c.next_pick-picked.ensures.first so_far.3 so_far.4 c.in_ok-meet.ensures.left c.in_ok-meet.ensures.now c.in_ok-meet.ensures.attempted in (
      operation ∷ so_far.0,
      sym (append_assoc c.pop_back.new.self.items (operation ∷ []) so_far.0) ∙ ap (λ xs. xs ++ so_far.0) (sym c.in-Some.ensures.items) ∙ so_far.1,
      rest_of_picks c.args.pick.now c.loop-operation.rest.now c.next_pick-picked.result.1.now (length operations) so_far.2 c.next_pick-picked.ensures.rest,
      more.0,
      more.1,
    )
