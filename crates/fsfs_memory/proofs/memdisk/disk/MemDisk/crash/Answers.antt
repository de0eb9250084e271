use Rattle.std.proofs.Common.{◌≡◌, sym, ap, subst, ◌∙◌}
use Rattle.fsfs_disk.specs.Benches.{HasShortFiles}
use Rattle.fsfs_disk.specs.Trace.{IsImage, files_after, labels_after}
use Rattle.fsfs_memory.specs.Memdisk.PickedImage.{picked_image, picked_labels}
use Rattle.fsfs_memory.specs.Memdisk.Stored.{operations_of, labels_of}
use Rattle.fsfs_memory.proofs.ImageLemmas.{picked_is_image, picked_are_left, left_of}
use Rattle.fsfs_memory.proofs.memdisk.disk.MemDisk.crash.Goals as goal

pub invariant_of-result-clause-short : goal.invariant_of-result-clause-short
invariant_of-result-clause-short c = λ m image.
    let operations = operations_of c.args.self.operations.items in
    let first : m ≡ c.in_ok-clone.field-0 = subst (λ items. IsImage c.in_ok-clone.field-0 (operations_of items) m) c.new.ensures.items image in
    subst HasShortFiles (sym (first ∙ c.in_ok-clone.ensures.cases ∙ c.in_ok-files.ensures))
    (c.args.self.short (picked_image c.args.pick.now c.args.self.first operations) (picked_is_image c.args.pick.now c.args.self.first operations))

pub returns-clause-image : goal.returns-clause-image
returns-clause-image c =
    let operations = operations_of c.args.self.operations.items in
    subst (IsImage c.args.self.first operations)
    (sym (ap (λ none. files_after c.in_ok-clone.field-0 (operations_of none)) c.new.ensures.items ∙ c.in_ok-clone.ensures.cases ∙ c.in_ok-files.ensures))
    (picked_is_image c.args.pick.now c.args.self.first operations)

pub returns-clause-left : goal.returns-clause-left
returns-clause-left c =
    let kept = labels_of c.args.self.labels.items in
    left_of (labels_after (labels_of c.args.self.first_labels.items) (operations_of c.args.self.operations.items)) kept (picked_labels c.picks_behind-behind.result.now kept)
    (labels_after (labels_of c.in_ok-first_labels.first_labels.items) (operations_of c.new.result.items))
    c.args.self.kept
    (ap (λ none. labels_after (labels_of c.in_ok-first_labels.first_labels.items) (operations_of none)) c.new.ensures.items ∙ c.in_ok-first_labels.ensures)
    (picked_are_left c.picks_behind-behind.result.now kept)
