-- The line of a fault in the pieces that are printed: what stands before a path, and the path.
use Rattle.std.specs.Prelude.{ℕ, List, [], ◌++◌, codes}
use Rattle.fsfs_base.specs.Paths.{path_text}
use Rattle.fsfs_tree.specs.FaultWords.{not_found, not_dir, not_file}
use Rattle.fsfs_cli.specs.Commands.{tool_name}
use Rattle.fsfs_cli.specs.declared.tool.Tool.{Tool}
use Rattle.fsfs_cli.specs.Lines.{request_text, fault_words}
use Rattle.fsfs_cli.specs.declared.faults.fault.Fault.{Fault}
use Rattle.fsfs_cli.specs.declared.faults.fault.Fault.TheVariants.{Request}
use Rattle.fsfs_cli.specs.declared.faults.request_fault.RequestFault.{RequestFault}
use Rattle.fsfs_cli.specs.declared.faults.request_fault.RequestFault.TheVariants.{NotFound, NotDir, NotFile, Exists, Mergeinfo}

-- its words, but of a path the space alone
abbrev pub request_front : RequestFault → List ℕ
request_front (NotFound path) = not_found ++ codes " "
request_front (NotDir path) = not_dir ++ codes " "
request_front (NotFile path) = not_file ++ codes " "
request_front (Exists path) = codes "Exists" ++ codes " "
request_front (Mergeinfo path) = codes "Mergeinfo" ++ codes " "
request_front why = request_text why

abbrev pub fault_front : Fault → List ℕ
fault_front (Request why) = request_front why
fault_front fault = fault_words fault

-- the text of its path, if it has one
abbrev pub request_path : RequestFault → List ℕ
request_path (NotFound path) = path_text path
request_path (NotDir path) = path_text path
request_path (NotFile path) = path_text path
request_path (Exists path) = path_text path
request_path (Mergeinfo path) = path_text path
request_path why = []

abbrev pub path_values : Fault → List ℕ
path_values (Request why) = request_path why
path_values fault = []

-- the line down to the path
abbrev pub head_of : Tool → Fault → List ℕ
head_of tool fault = tool_name tool ++ codes ": " ++ fault_front fault
