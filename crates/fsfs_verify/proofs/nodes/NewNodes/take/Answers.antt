use Rattle.std.proofs.Common.{◌≡◌, ◌≤◌, ◌<◌, ◌+◌, ◌-◌, ℕ, take, refl, sym, ap, ◌∙◌, arith}
use Rattle.std.specs.Prelude.{Some, option_map, slice_get}
use Rattle.std.specs.Borrow.{Bor}
use Rattle.std.proofs.lemmas.Bool.Decides.{nat_tests}
use Rattle.fsfs_base.specs.Paths.{PathName}
use Rattle.fsfs_revision.specs.Shows.Reading.{offset_of}
use Rattle.fsfs_dag.specs.TreeWalks.{left, total, weight}
use Rattle.fsfs_dag.specs.Views.{entry_value}
use Rattle.fsfs_dag.specs.declared.directory.DirEntry.{DirEntry}
use Rattle.fsfs_dag.proofs.TreeWalkLemmas.{weighs}
use Rattle.fsfs_history.specs.KeptDirs.{by_name}
use Rattle.fsfs_sound.specs.Written.{rev_of_id}
use Rattle.fsfs_verify.proofs.Levels.{depth_taken}
use Rattle.fsfs_verify.proofs.StepLemmas.{on_ok, walk_below, older_found}
use Rattle.fsfs_verify.proofs.nodes.NewNodes.take.Goals as goal

pub returns-then-not-lt-clause-told : goal.returns-then-not-lt-clause-told
returns-then-not-lt-clause-told g c = λ look props root knows sound h.
    let old = c.args.self.now in
    let entry = entry_value c.args.next.entry in
    let short = record old { above = c.truncate.new.self } in
    let level = c.args.next.level in
    let below = h.below in
    let low = below.0 in
    let same : c.max.result ≡ level = omega (arith, c.max.ensures, low) in
    let items : c.truncate.new.self.items ≡ take level old.above.items = c.truncate.ensures.items ∙ ap (λ (n : ℕ). take n old.above.items) same in
    let w = walk_below look old.rev root level entry (left old.walk) old short c.args.parts.now h refl refl items refl refl in
    let depth = depth_taken level entry (left old.walk) old.above.items c.truncate.new.self.items below items in
    let more : old.rev ≤ c.entry_rev.result = grind (arith, nat_tests, c.lt.ensures, c.if-not-lt.true) in
    let since : old.rev ≤ rev_of_id entry.id = omega (arith, more, c.entry_rev.ensures) in
    c.take_new.ensures.told look props root knows sound since (sym depth) w

pub returns-clause-told : goal.returns-clause-told
returns-clause-told g c = λ look props root knows sound h.
    let old = c.args.self.now in
    let entry = entry_value c.args.next.entry in
    let level = c.args.next.level in
    let short = record old { above = c.truncate.new.self } in
    let below = h.below in
    let low = below.0 in
    let same : c.max.result ≡ level = omega (arith, c.max.ensures, low) in
    let items : c.truncate.new.self.items ≡ take level old.above.items = c.truncate.ensures.items ∙ ap (λ (n : ℕ). take n old.above.items) same in
    let w = walk_below look old.rev root level entry (left old.walk) old short c.args.parts.now h refl refl items refl refl in
    let depth = depth_taken level entry (left old.walk) old.above.items c.truncate.new.self.items below items in
    let lower : c.entry_rev.result < old.rev = grind (arith, nat_tests, c.lt.ensures, c.if-not-lt.false) in
    let less : rev_of_id entry.id < old.rev = omega (arith, lower, c.entry_rev.ensures) in
    let a = c.in-Some.above.now in
    let value = rw c.deref.ensures.value at c.in-Some.ensures.value in
    let place : slice_get c.truncate.new.self.items (level - 1) ≡ Some a = ap (λ (n : ℕ). slice_get c.truncate.new.self.items (n - 1)) (sym depth) ∙ sym value in
    older_found look old.rev root level entry (left old.walk) short c.args.parts.now w a place props sound less (option_map (λ (e : Bor DirEntry). entry_value e.now) c.get-before.result) (c.get-before.ensures ∙ ap (λ (n : PathName). by_name a.before n) c.as_str.ensures.value) c.check_older.result
    (c.check_older.ensures.told look (λ r lower. knows r (omega (arith, lower, less))))

pub returns-clause-total : goal.returns-clause-total
returns-clause-total g c =
    let walk = c.args.self.now.walk in
    let home = offset_of c.args.next.entry.id.place in
    on_ok c.check_older.result (total (left walk) < total (left walk) + weight home) (weighs (total (left walk)) home)
