use Rattle.std.proofs.Common.{arith}
use Rattle.fsfs_folders.proofs.BenchWriting.{room_left}
use Rattle.fsfs_folders.proofs.benches.bench_files.check_room.Goals as goal

pub returns-clause-room : goal.returns-clause-room
returns-clause-room g c = room_left (g.C.File.OpenFile.number c.args.file.now) c.in_ok-length.length c.args.more (g.C.Calls.history c.args.calls.now) c.in_ok-length.ensures.length (omega arith)
