use Rattle.fsfs_mount.proofs.open_files.OpenFiles.open.Goals as goal
use Rattle.fsfs_mount.proofs.LastReads.{still_moved, still_same}

pub returns-then-is_of-2-clause-still : goal.returns-then-is_of-2-clause-still
returns-then-is_of-2-clause-still g c =
    let calls = g.C.Calls.history c.args.folders.now.calls in
    let kept = c.take-kept.ensures.taken calls c.requires.1 in
    let before = still_same (λ it. it.name) (λ it. g.C.File.OpenFile.number it.file) calls c.take-kept.new.self.last c.args.self.now.last c.take-kept.ensures.last c.requires.0 in (
      still_moved (λ it. it.name) (λ it. g.C.File.OpenFile.number it.file) calls c.use_next.new.self.last c.take-kept.result c.use_next.ensures.last kept,
      c.use_next.ensures.others calls (before, c.take-kept.ensures.others calls c.requires.1),
    )
