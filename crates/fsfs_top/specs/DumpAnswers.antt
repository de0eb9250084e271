-- What `svnadmin dump` answers, of the identifier of a repository, which no history tells, and of its history.
use Rattle.std.specs.Prelude.{ℕ, List, ◌++◌, Option, Some, None, codes}
use Rattle.fsfs_tree.specs.FaultWords.{not_repo, delta, two_numbers}
use Rattle.fsfs_tree.specs.Answers.{Reply, prints}
use Rattle.fsfs_tree.specs.Revisions.{Revision}
use Rattle.fsfs_dump.specs.Flat.{CutText, history_dump}
use Rattle.fsfs_top.specs.TxnAnswers.{refuses_admin}

-- it printed this text, and then refused
abbrev pub stops : List ℕ → List ℕ → ℕ → Reply
stops text line status = record { output = text; line = line; status = status }

-- the dump; or all before the records of a path whose text is not read, which is told at its place
abbrev pub dump_reply : CutText → Reply
dump_reply (text, None) = prints text
dump_reply (text, Some at) = stops text (codes "svnadmin: " ++ (delta ++ two_numbers at.0 at.1) ++ codes "\n") 3

-- none where there is no repository at the path
abbrev pub DumpAnswer : Option (List ℕ × List Revision) → Reply
DumpAnswer None = refuses_admin not_repo 1
DumpAnswer (Some (identifier, history)) = dump_reply (history_dump identifier history)
