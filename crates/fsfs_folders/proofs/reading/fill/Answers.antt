use Rattle.std.proofs.Common.{◌≡◌, ◌-◌, ◌+◌, ◌≤◌, rules, length, sym, ap, ◌∙◌, arith}
use Rattle.std.proofs.lemmas.List.{places}
use borrow.Rule.Slice.PartMut.{put_mid}
use Rattle.fsfs_folders.proofs.Filling.{filled_more}
use Rattle.fsfs_folders.proofs.reading.fill.Goals as goal

pub loop-filled-preserved : goal.loop-filled-preserved
loop-filled-preserved g c =
    let so = c.loop-filled.invariant in
    let now = c.loop-filled.buffer in
    let filled = c.loop-filled.filled in
    let n = c.in_ok-count.count in
    let part = c.read_at.new.buffer in
    let left : length part ≡ length now - filled = search (rules, places) in
    let whole : length (put_mid filled (length now - filled) now part) ≡ length now = search (rules, places) in
    let few : n ≤ length part = search (rules, places) in (
      c.in_ok-count.ensures.same ∙ so.0,
      omega (arith, whole, left, few, so.1),
      whole ∙ so.2,
      filled_more (g.C.File.OpenFile.number c.args.file.now) c.args.offset filled n c.in-Some.from c.args.buffer.now now part (g.C.Calls.history c.args.calls.now) (g.C.Calls.history c.loop-filled.calls) so.0 (omega (arith, c.in-Some.ensures)) so.1 so.2 so.3
          c.in_ok-count.ensures.bytes c.in_ok-count.ensures.within,
    )
