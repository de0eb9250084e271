-- What `svnadmin pack` answers, of how many shards are full and not packed, which no history tells.
use Rattle.std.specs.Prelude.{◌+◌, ◌-◌, ◌/◌, ℕ, List, ◌++◌, Option, Some, None, codes, decimal, min}
use Rattle.fsfs_base.specs.Fields.RevNums.{last_rev}
use Rattle.fsfs_layout.specs.Layouts.{shard_size}
use Rattle.fsfs_layout.specs.declared.opened.Opened.{Opened}
use Rattle.fsfs_tree.specs.FaultWords.{not_repo}
use Rattle.fsfs_tree.specs.Answers.{Reply, prints}
use Rattle.fsfs_top.specs.TxnAnswers.{refuses_admin}

-- how many shards were packed
abbrev pub packed_line : ℕ → List ℕ
packed_line shards = codes "packed " ++ decimal shards ++ codes "\n"

-- How many shards are full from the floor on: those of the revisions that there are. The floor above a shard is a revision's number, so one behind which none
-- can come is never full.
abbrev pub unpacked_of : Opened → ℕ
unpacked_of o = (min (o.youngest + 1) last_rev - o.min_unpacked_rev) / shard_size o.layout

-- so many are packed; none where there is no repository at the path
abbrev pub PackAnswer : Option ℕ → Reply
PackAnswer None = refuses_admin not_repo 1
PackAnswer (Some unpacked) = prints (packed_line unpacked)
