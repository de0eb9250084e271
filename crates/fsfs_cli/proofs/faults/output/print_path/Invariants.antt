use Rattle.std.proofs.Common.{◌≤◌, map, take, Global}
use Rattle.std.specs.String.{string_bytes}
use Rattle.fsfs_base.specs.Paths.{names_text}
use Rattle.fsfs_base.specs.Streams.{Adds}
use Rattle.fsfs_cli.proofs.faults.output.print_path.Given as goal

-- the names so far were written
abbrev pub invariant-loop-name : goal.invariant-loop-name
invariant-loop-name g l = record {
  written : Adds (g.S.Sink.written l.fn.sink) (g.S.Sink.written l.sink) (names_text (map (string_bytes {Z = Global}) (take l.name-index l.name-items)));
  later : g.S.Sink.faults l.fn.sink ≤ g.S.Sink.faults l.sink;
}
