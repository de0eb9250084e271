-- What `svnadmin verify` answers, of a history no text of which is a delta.
use Rattle.std.specs.Prelude.{List, Option, Some, None, length}
use Rattle.fsfs_tree.specs.FaultWords.{not_repo}
use Rattle.fsfs_tree.specs.Answers.{Reply, prints}
use Rattle.fsfs_tree.specs.Revisions.{Revision}
use Rattle.fsfs_verify.specs.Texts.{verified_lines}
use Rattle.fsfs_top.specs.TxnAnswers.{refuses_admin}

-- a line for each revision; none where there is no repository at the path
abbrev pub VerifyAnswer : Option (List Revision) → Reply
VerifyAnswer None = refuses_admin not_repo 1
VerifyAnswer (Some history) = prints (verified_lines (length history))
