use Rattle.std.proofs.Common.{rules, ◌≡◌, ◌∷◌, List, sym, subst}
use Rattle.fsfs_disk.specs.Trace.{labels_after}
use Rattle.fsfs_memory.specs.Memdisk.Stored.{operations_of, labels_of, change_of}
use Rattle.fsfs_memory.specs.declared.memdisk.operations.MemOperation.{MemOperation}
use Rattle.fsfs_memory.proofs.ShortImages.{AreShort, short_more, kept_more}
use Rattle.fsfs_memory.proofs.memdisk.disk.MemDisk.perform.Goals as goal

pub invariant_of-self-2-clause-short : goal.invariant_of-self-2-clause-short
invariant_of-self-2-clause-short c =
    let all : c.push_front.new.self.items ≡ record { done = c.is_ok-done.result; change = c.args.change } ∷ c.args.self.now.operations.items = search rules in
    subst (λ (operations : List MemOperation). AreShort c.args.self.now.first (operations_of operations)) (sym all)
    (short_more c.args.self.now.first (operations_of c.args.self.now.operations.items) c.is_ok-done.result (change_of c.args.change) c.requires c.args.self.now.short)

pub invariant_of-self-2-clause-kept : goal.invariant_of-self-2-clause-kept
invariant_of-self-2-clause-kept c =
    let all : c.push_front.new.self.items ≡ record { done = c.is_ok-done.result; change = c.args.change } ∷ c.args.self.now.operations.items = search rules in
    subst (λ (operations : List MemOperation). labels_of c.attempt-result.new.labels.items ≡ labels_after (labels_of c.args.self.now.first_labels.items) (operations_of operations)) (sym all)
    (kept_more c.attempt-result.result c.is_ok-done.result (change_of c.args.change) (labels_of c.args.self.now.first_labels.items) (operations_of c.args.self.now.operations.items) (labels_of c.args.self.now.labels.items) (labels_of c.attempt-result.new.labels.items)
    c.is_ok-done.ensures.value c.args.self.now.kept c.attempt-result.ensures.ok_labels c.attempt-result.ensures.err_labels)
