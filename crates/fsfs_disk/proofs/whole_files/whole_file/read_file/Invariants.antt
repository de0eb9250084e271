use Rattle.std.proofs.Common.{◌≤◌, ◌<◌, ℕ, List, length}
use Rattle.std.specs.Prelude.{Option}
use Rattle.fsfs_disk.specs.Fronts.{IsFrontOf}
use Rattle.fsfs_disk.proofs.whole_files.whole_file.read_file.Given as goal

-- the bytes so far are the first of the file, and there is room for more
abbrev pub invariant-loop : goal.invariant-loop
invariant-loop g l = record {
  front : (file : Option (List ℕ)) → g.P.Parts.tells l.fn.parts l.name file → IsFrontOf l.bytes.items file;
  less : length l.bytes.items < l.most;
  later : g.P.Parts.later l.fn.parts l.parts;
  faults : g.P.Parts.faults l.fn.parts ≤ g.P.Parts.faults l.parts;
}
