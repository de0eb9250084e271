-- The names of all the files and folders of a repository, and that no two of them have one name.
use Rattle.std.specs.Prelude.{◌≡◌, ◌<◌, ◌^◌, ℕ, List, ◌++◌, codes}
use Rattle.std.specs.Fmt.{decimal}
use Rattle.fsfs_base.specs.declared.fields.txn_name.TxnName.{TxnName}
use Rattle.fsfs_base.specs.declared.small_fault.SmallFile.{SmallFile}
use Rattle.fsfs_base.specs.declared.small_fault.SmallFile.TheVariants as small
use Rattle.fsfs_layout.specs.Names.{in_folder, in_pack, with_txn}
use Rattle.fsfs_layout.specs.Layouts.{IsSharded}
use Rattle.fsfs_layout.specs.declared.layout.Layout.{Layout}
use Rattle.fsfs_layout.specs.declared.only_file.OnlyFile.{OnlyFile}
use Rattle.fsfs_layout.specs.declared.only_file.OnlyFile.TheVariants.{RepositoryFormat, Format, FormatNext, FsType, Uuid, Current, CurrentNext, MinUnpackedRev, MinUnpackedRevNext, TxnCurrent, TxnCurrentNext, TxnCurrentLock, WriteLock, Revisions, RevisionProps, Transactions, ProtoRevisions}
use Rattle.fsfs_layout.specs.declared.repository_file.RepositoryFile.{RepositoryFile}
use Rattle.fsfs_layout.specs.declared.repository_file.RepositoryFile.TheVariants.{Only, Shard, Revision, PackFolder, Pack, Manifest, PropsShard, Props, OfTxn}
use Rattle.fsfs_layout.specs.declared.txn_file.TxnFile.{TxnFile}
use Rattle.fsfs_layout.specs.declared.txn_file.TxnFile.TheVariants.{Folder, Part, ProtoRevision, ProtoRevisionLock}

-- the names of what a repository has once
abbrev pub only_name : OnlyFile → List ℕ
only_name RepositoryFormat = codes "format"
only_name Format = codes "db/format"
only_name FormatNext = codes "db/format-next"
only_name FsType = codes "db/fs-type"
only_name Uuid = codes "db/uuid"
only_name Current = codes "db/current"
only_name CurrentNext = codes "db/current-next"
only_name MinUnpackedRev = codes "db/min-unpacked-rev"
only_name MinUnpackedRevNext = codes "db/min-unpacked-rev-next"
only_name TxnCurrent = codes "db/txn-current"
only_name TxnCurrentNext = codes "db/txn-current-next"
only_name TxnCurrentLock = codes "db/txn-current-lock"
only_name WriteLock = codes "db/write-lock"
only_name Revisions = codes "db/revs"
only_name RevisionProps = codes "db/revprops"
only_name Transactions = codes "db/transactions"
only_name ProtoRevisions = codes "db/txn-protorevs"

-- the names of a transaction's files
abbrev pub txn_file_name : TxnName → TxnFile → List ℕ
txn_file_name txn Folder = with_txn (codes "db/transactions/") txn (codes ".txn")
txn_file_name txn (Part part) = with_txn (codes "db/transactions/") txn (codes ".txn/" ++ part)
txn_file_name txn ProtoRevision = with_txn (codes "db/txn-protorevs/") txn (codes ".rev")
txn_file_name txn ProtoRevisionLock = with_txn (codes "db/txn-protorevs/") txn (codes ".rev-lock")

-- the name of a file or folder
abbrev pub file_name : Layout → RepositoryFile → List ℕ
file_name layout (Only file) = only_name file
file_name layout (Shard n) = codes "db/revs/" ++ decimal n
file_name layout (Revision rev) = in_folder (codes "db/revs") layout rev
file_name layout (PackFolder n) = codes "db/revs/" ++ decimal n ++ codes ".pack"
file_name layout (Pack n) = in_pack n (codes "/pack")
file_name layout (Manifest n) = in_pack n (codes "/manifest")
file_name layout (PropsShard n) = codes "db/revprops/" ++ decimal n
file_name layout (Props rev) = in_folder (codes "db/revprops") layout rev
file_name layout (OfTxn txn file) = txn_file_name txn file

-- the name of a small file that can be damaged; of a transaction's `next-ids` the last part
abbrev pub small_name : SmallFile → List ℕ
small_name small.Format = only_name Format
small_name small.Uuid = only_name Uuid
small_name small.Current = only_name Current
small_name small.MinUnpackedRev = only_name MinUnpackedRev
small_name small.TxnCurrent = only_name TxnCurrent
small_name small.NextIds = codes "next-ids"
small_name (small.Manifest shard) = in_pack shard (codes "/manifest")

-- transactions within their limits
abbrev pub FitsTxn : TxnName → Type 0
FitsTxn txn = (txn.base < 2 ^ 32) × (txn.number.number < 170581728179578208256)

-- A file that a repository of this layout may have: shards and revisions of 32 bits, and no folder of a shard where there is one folder,
-- in which a revision's file would have its name.
abbrev pub FitsFile : Layout → RepositoryFile → Type 0
FitsFile layout (Only file) = Unit {0}
FitsFile layout (Shard n) = IsSharded layout × (n < 2 ^ 32)
FitsFile layout (Revision rev) = rev < 2 ^ 32
FitsFile layout (PackFolder n) = n < 2 ^ 32
FitsFile layout (Pack n) = n < 2 ^ 32
FitsFile layout (Manifest n) = n < 2 ^ 32
FitsFile layout (PropsShard n) = IsSharded layout × (n < 2 ^ 32)
FitsFile layout (Props rev) = rev < 2 ^ 32
FitsFile layout (OfTxn txn file) = FitsTxn txn

-- files with one name are the same file
abbrev pub NamesAreApart : Layout → Type 0
NamesAreApart layout = (a b : RepositoryFile) → FitsFile layout a → FitsFile layout b → file_name layout a ≡ file_name layout b → a ≡ b
