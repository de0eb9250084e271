-- The line that tells of a fault on the error output, and the status.
use Rattle.std.specs.Prelude.{ℕ, List, [], ◌∷◌, ◌++◌, codes, decimal}
use Rattle.hex.specs.Hex.{encode_lower}
use Rattle.fsfs_base.specs.declared.paths.bad_path.BadPath.{BadPath as BadPathAt}
use Rattle.fsfs_base.specs.declared.paths.bad_path.PathFault.{PathFault}
use Rattle.fsfs_base.specs.declared.paths.bad_path.PathFault.TheVariants.{NotAbsolute, PathTooLong, TooDeep, EmptyName, Control, NameTooLong, Dot}
use Rattle.fsfs_tree.specs.FaultWords.{not_found, not_dir, not_file, no_rev, already_repo, not_repo, delta, path_value, two_numbers}
use Rattle.fsfs_layout.specs.FileNames.{small_name}
use Rattle.fsfs_base.specs.Fields.TxnNames.{txn_text}
use Rattle.fsfs_base.specs.declared.small_fault.SmallFault.{SmallFault}
use Rattle.fsfs_revision.specs.declared.damage.Damage.{Damage}
use Rattle.fsfs_revision.specs.declared.damage.RevOffset.{RevOffset}
use Rattle.fsfs_revision.specs.declared.damage.DamageKind.{DamageKind}
use Rattle.fsfs_revision.specs.declared.damage.DamageKind.TheVariants as damaged
use Rattle.fsfs_revision.specs.declared.damage.RepWhat.{RepWhat}
use Rattle.fsfs_revision.specs.declared.damage.RepWhat.TheVariants as rep
use Rattle.fsfs_base.specs.Places.{place_word}
use Rattle.fsfs_cli.specs.Commands.{tool_name}
use Rattle.fsfs_cli.specs.declared.tool.Tool.{Tool}
use Rattle.fsfs_cli.specs.declared.faults.fault.Fault.{Fault}
use Rattle.fsfs_cli.specs.declared.faults.fault.Fault.TheVariants.{Words, Request, Repository, Outside, Memory, Limit}
use Rattle.fsfs_cli.specs.declared.faults.bad_words.BadWords.{BadWords}
use Rattle.fsfs_cli.specs.declared.faults.bad_words.BadWords.TheVariants.{Usage, BadPath}
use Rattle.fsfs_cli.specs.declared.faults.request_fault.RequestFault.{RequestFault}
use Rattle.fsfs_cli.specs.declared.faults.request_fault.RequestFault.TheVariants.{NotFound, NotDir, NotFile, NoRev, NoTxn, AlreadyRepo, NotRepo, Exists, RootFixed, Mergeinfo, BadScript}
use Rattle.fsfs_cli.specs.declared.faults.repository_fault.RepositoryFault.{RepositoryFault}
use Rattle.fsfs_cli.specs.declared.faults.repository_fault.RepositoryFault.TheVariants.{OtherFormat, Linear, Small, Corrupt, Delta}
use Rattle.fsfs_cli.specs.declared.faults.outside_fault.OutsideFault.{OutsideFault}
use Rattle.fsfs_cli.specs.declared.faults.outside_fault.OutsideFault.TheVariants as outside
use Rattle.fsfs_cli.specs.declared.faults.limit_fault.LimitFault.{LimitFault}
use Rattle.fsfs_cli.specs.declared.faults.limit_fault.LimitFault.TheVariants as limits
use Rattle.fsfs_script.specs.declared.job_lines.refusal.Why.{Why}
use Rattle.fsfs_script.specs.declared.job_lines.refusal.Why.TheVariants as whys
use Rattle.fsfs_script.specs.declared.script_error.BadScript.{BadScript as BadScriptAt}

-- ---- names of the rules of a path

abbrev pub why_name : PathFault → List ℕ
why_name NotAbsolute = codes "NotAbsolute"
why_name PathTooLong = codes "PathTooLong"
why_name TooDeep = codes "TooDeep"
why_name EmptyName = codes "EmptyName"
why_name Control = codes "Control"
why_name NameTooLong = codes "NameTooLong"
why_name Dot = codes "Dot"

-- ---- values, a space before each

-- the byte from which on a path's text means none, and the rule that it breaks
abbrev pub bad_path_values : BadPathAt → List ℕ
bad_path_values bad = (32 ∷ decimal bad.at) ++ codes " " ++ why_name bad.why

-- the small file that is not in its format, and the byte from which on it isn't
abbrev pub small_values : SmallFault → List ℕ
small_values small = codes " " ++ small_name small.file ++ 32 ∷ decimal small.at

-- a revision and an offset
abbrev pub at_values : RevOffset → List ℕ
at_values at = two_numbers at.rev at.offset

-- a transaction, by its base and its number
abbrev pub txn_value : ℕ × ℕ → List ℕ
txn_value txn = 32 ∷ txn_text txn.0 txn.1

-- what is damaged in a representation, with what is kept and what was found
abbrev pub rep_what_values : RepWhat → List ℕ
rep_what_values rep.Header = codes " Header"
rep_what_values rep.EndRep = codes " EndRep"
rep_what_values (rep.Size kept found) = codes " Size" ++ ((32 ∷ decimal kept) ++ 32 ∷ decimal found)
rep_what_values (rep.Md5 kept found) = codes " Md5" ++ (32 ∷ encode_lower kept.bytes) ++ (32 ∷ encode_lower found.bytes)
rep_what_values (rep.Sha1 kept found) = codes " Sha1" ++ (32 ∷ encode_lower kept.bytes) ++ (32 ∷ encode_lower found.bytes)
rep_what_values rep.Hash = codes " Hash"
rep_what_values rep.BadName = codes " BadName"
rep_what_values rep.EntryValue = codes " EntryValue"

-- what is damaged in a revision, with the count that is kept and the one that was found
abbrev pub what_values : DamageKind → List ℕ
what_values damaged.Trailer = codes " Trailer"
what_values damaged.NodeRev = codes " NodeRev"
what_values damaged.PlaceOrder = codes " PlaceOrder"
what_values damaged.OtherId = codes " OtherId"
what_values damaged.EntryKind = codes " EntryKind"
what_values (damaged.Rep kind) = rep_what_values kind
what_values damaged.Changes = codes " Changes"
what_values damaged.Props = codes " Props"
what_values damaged.BadDate = codes " BadDate"
what_values damaged.Missing = codes " Missing"
what_values damaged.ChangePath = codes " ChangePath"
what_values damaged.PredId = codes " PredId"
what_values damaged.CopyId = codes " CopyId"
what_values (damaged.Minfo kept found) = codes " Minfo" ++ ((32 ∷ decimal kept) ++ 32 ∷ decimal found)
what_values damaged.MinfoRange = codes " MinfoRange"

-- where a revision is damaged, and what is
abbrev pub damage_values : Damage → List ℕ
damage_values damage = at_values damage.at ++ what_values damage.what

-- why the input is no job script
abbrev pub script_why : Why → List ℕ
script_why whys.Word = codes "Word"
script_why whys.Number = codes "Number"
script_why whys.Path = codes "Path"
script_why whys.Name = codes "Name"
script_why whys.NotUtf8 = codes "NotUtf8"
script_why whys.LongLine = codes "LongLine"
script_why whys.NoNewline = codes "NoNewline"
script_why whys.Short = codes "Short"

-- the line on which the command began, and why
abbrev pub bad_script_values : BadScriptAt → List ℕ
bad_script_values bad = (32 ∷ decimal bad.line) ++ codes " " ++ script_why bad.why

-- ---- the words of a fault: its name, and its values; a row for each kind

abbrev pub words_text : BadWords → List ℕ
words_text Usage = codes "Usage"
words_text (BadPath bad) = codes "BadPath" ++ bad_path_values bad

abbrev pub no_txn : List ℕ
no_txn = codes "NoTxn"

abbrev pub request_text : RequestFault → List ℕ
request_text (NotFound path) = not_found ++ path_value path
request_text (NotDir path) = not_dir ++ path_value path
request_text (NotFile path) = not_file ++ path_value path
request_text (NoRev asked youngest) = no_rev ++ two_numbers asked youngest
request_text (NoTxn name) = no_txn ++ txn_value (name.base, name.number.number)
request_text AlreadyRepo = already_repo
request_text NotRepo = not_repo
request_text (Exists path) = codes "Exists" ++ path_value path
request_text RootFixed = codes "RootFixed /"
request_text (Mergeinfo path) = codes "Mergeinfo" ++ path_value path
request_text (BadScript bad) = codes "BadScript" ++ bad_script_values bad

abbrev pub repository_text : RepositoryFault → List ℕ
repository_text (OtherFormat found) = codes "OtherFormat" ++ 32 ∷ decimal found
repository_text Linear = codes "Linear"
repository_text (Small small) = codes "Small" ++ small_values small
repository_text (Corrupt damage) = codes "Corrupt" ++ damage_values damage
repository_text (Delta at) = delta ++ at_values at

abbrev pub outside_text : OutsideFault → List ℕ
outside_text outside.Mount = codes "MountFault"
outside_text (outside.Disk place) = codes "DiskFault " ++ place_word place
outside_text outside.Read = codes "ReadFault"
outside_text outside.Write = codes "WriteFault"
outside_text outside.Bench = codes "BenchFault"
outside_text (outside.Stuck place) = codes "Stuck " ++ place_word place

abbrev pub limit_text : LimitFault → List ℕ
limit_text limits.TextTooLong = codes "TextTooLong 1073741824"
limit_text limits.PropTooLong = codes "PropTooLong 1048576"
limit_text limits.TooManyEntries = codes "TooManyEntries 1048576"
limit_text limits.TooManyJobs = codes "TooManyJobs 4096"
limit_text limits.NamesFull = codes "NamesFull"
limit_text limits.RevsFull = codes "RevsFull 2147483647"

-- ---- by groups: the words and the status

abbrev pub fault_words : Fault → List ℕ
fault_words (Words why) = words_text why
fault_words (Request why) = request_text why
fault_words (Repository why) = repository_text why
fault_words (Outside why) = outside_text why
fault_words Memory = codes "Memory"
fault_words (Limit why) = limit_text why

abbrev pub status_of : Fault → ℕ
status_of (Request why) = 1
status_of (Words why) = 2
status_of (Repository why) = 3
status_of (Outside why) = 4
status_of Memory = 5
status_of (Limit why) = 6

-- the line about a fault on the error output
abbrev pub line_of : Tool → Fault → List ℕ
line_of tool fault = tool_name tool ++ codes ": " ++ fault_words fault ++ codes "\n"
