use Rattle.std.proofs.Common.{◌≡◌, true, false, sym, ap, ◌∙◌}
use Rattle.std.specs.Prelude.{option_map}
use Rattle.std.specs.FinMap as map
use Rattle.fsfs_base.specs.Files.{renamed}
use Rattle.fsfs_base.proofs.FileLemmas.{insert-remove}
use Rattle.fsfs_memory.specs.Memdisk.MemFiles.{content}
use Rattle.fsfs_memory.proofs.EntryLemmas.{insert-remove_same}
use Rattle.fsfs_memory.proofs.memdisk.files.MemFiles.replace.Goals as goal

pub returns-then-not-is-clause-ok : goal.returns-then-not-is-clause-ok
returns-then-not-is-clause-ok c =
    let m = c.args.self.now in
    let b = content c.in-Some.bytes in
    c.remove-then-not-is.ensures
    ∙ ap (λ n. map.remove n c.args.from.now) (c.in_ok-insert-in-Some.ensures.ok ∙ ap (λ k. map.insert m k b) c.copy.ensures)
    ∙ sym (insert-remove m c.args.to.now b c.args.from.now (λ e. let h : true ≡ false = sym (c.is.ensures.1 (sym e)) ∙ c.if-not-is.true in cc))
    ∙ ap (λ o. renamed m c.args.from.now c.args.to.now (option_map content o)) (sym c.in-Some.is)

pub returns-else-not-is-clause-ok : goal.returns-else-not-is-clause-ok
returns-else-not-is-clause-ok c =
    let m = c.args.self.now in
    let b = content c.in-Some.bytes in
    c.in_ok-insert-in-Some.ensures.ok
    ∙ ap (λ k. map.insert m k b) c.copy.ensures
    ∙ sym (insert-remove_same m c.args.to.now b)
    ∙ ap (λ k. map.insert (map.remove m k) c.args.to.now b) (sym (c.is.ensures.0 c.if-not-is.false))
    ∙ ap (λ o. renamed m c.args.from.now c.args.to.now (option_map content o)) (sym c.in-Some.is)
