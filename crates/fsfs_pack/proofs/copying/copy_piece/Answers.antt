use Rattle.std.proofs.Common.{Ok, length, take, sym, subst}
use Rattle.fsfs_pack.specs.Causes.{IsWant}
use Rattle.fsfs_pack.proofs.BenchFiles.{piece_copied, piece_many, piece_there, piece_want, still_tells}
use Rattle.fsfs_pack.proofs.copying.copy_piece.Goals as goal

pub returns-in-Err-clause-fine : goal.returns-in-Err-clause-fine
returns-in-Err-clause-fine g c = λ bytes told le. subst IsWant (sym c.fault_of.ensures) (piece_want (λ n. take n c.read_rev.new.buffer) c.args.rev c.args.offset (length c.args.piece.now) c.in-Err.fault bytes le (c.in-Err.ensures.told (Ok bytes) told))

pub returns-in-Ok-append-clause-many : goal.returns-in-Ok-append-clause-many
returns-in-Ok-append-clause-many g c = λ bytes told le. piece_many bytes c.read_rev.new.buffer c.args.rev c.args.offset c.in-Ok.count (length c.args.piece.now) c.in-Ok.ensures.bound le (c.in-Ok.ensures.told (Ok bytes) told)

pub returns-in-Ok-append-clause-copied : goal.returns-in-Ok-append-clause-copied
returns-in-Ok-append-clause-copied g c = λ bytes before told le has.
    piece_copied (g.N.Bench.contents c.args.bench.now) (g.N.Bench.contents c.append.new.self) c.pack_file.result before bytes c.read_rev.new.buffer c.args.rev c.args.offset c.in-Ok.count (length c.args.piece.now)
    c.pack_file.ensures c.in-Ok-append.ensures.ok c.in-Ok.ensures.bound le (c.in-Ok.ensures.told (Ok bytes) told) has

pub returns-in-Ok-append-clause-there : goal.returns-in-Ok-append-clause-there
returns-in-Ok-append-clause-there g c = λ before has.
    piece_there (g.N.Bench.contents c.args.bench.now) (g.N.Bench.contents c.append.new.self) c.pack_file.result before (take c.in-Ok.count c.read_rev.new.buffer) c.pack_file.ensures c.in-Ok-append.ensures.ok has

pub returns-in-Ok-append-clause-tells : goal.returns-in-Ok-append-clause-tells
returns-in-Ok-append-clause-tells g c = λ tells. still_tells (g.N.Bench.contents c.args.bench.now) (g.N.Bench.contents c.append.new.self) c.pack_file.result (take c.in-Ok.count c.read_rev.new.buffer) c.in-Ok-append.ensures.ok tells
