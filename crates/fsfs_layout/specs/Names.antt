-- The names of a repository's files, from its folder on.
use Rattle.std.specs.Prelude.{ℕ, List, ◌∷◌, ◌++◌, codes}
use Rattle.std.specs.Fmt.{decimal}
use Rattle.fsfs_base.specs.Fields.TxnNames.{txn_text}
use Rattle.fsfs_base.specs.declared.fields.txn_name.TxnName.{TxnName}
use Rattle.fsfs_layout.specs.Folders.{shard_folder}
use Rattle.fsfs_layout.specs.declared.layout.Layout.{Layout}

-- `<folder>/<shard>/<revision>`, or `<folder>/<revision>` in one folder
abbrev pub in_folder : List ℕ → Layout → ℕ → List ℕ
in_folder folder layout rev = folder ++ shard_folder layout.folders rev ++ 47 ∷ decimal rev

-- `db/revs/<shard>.pack<rest>`
abbrev pub in_pack : ℕ → List ℕ → List ℕ
in_pack shard rest = codes "db/revs/" ++ decimal shard ++ codes ".pack" ++ rest

-- `<front><transaction><rest>`
abbrev pub with_txn : List ℕ → TxnName → List ℕ → List ℕ
with_txn front txn rest = front ++ txn_text txn.base txn.number.number ++ rest
