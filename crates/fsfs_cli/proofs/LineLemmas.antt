-- The line of a fault in the pieces that are printed.
use Rattle.std.proofs.Common.{◌≡◌, List, ℕ, ◌++◌, refl, ap, ◌∙◌, append_assoc, append-nil}
use Rattle.std.specs.Prelude.{codes}
use Rattle.fsfs_cli.specs.Commands.{tool_name}
use Rattle.fsfs_cli.specs.declared.tool.Tool.{Tool}
use Rattle.fsfs_cli.specs.Lines.{request_text, fault_words, line_of}
use Rattle.fsfs_cli.specs.Pieces.{request_front, fault_front, request_path, path_values, head_of}
use Rattle.fsfs_cli.specs.declared.faults.fault.Fault.{Fault}
use Rattle.fsfs_cli.specs.declared.faults.fault.Fault.TheVariants.{Request}
use Rattle.fsfs_cli.specs.declared.faults.request_fault.RequestFault.{RequestFault}
use Rattle.fsfs_cli.specs.declared.faults.request_fault.RequestFault.TheVariants.{NotFound, NotDir, NotFile, Exists, Mergeinfo}

request_in_pieces : (why : RequestFault) → request_front why ++ request_path why ≡ request_text why
request_in_pieces (NotFound path) = refl
request_in_pieces (NotDir path) = refl
request_in_pieces (NotFile path) = refl
request_in_pieces (Exists path) = refl
request_in_pieces (Mergeinfo path) = refl
request_in_pieces why = append-nil (request_text why)

pub words_in_pieces : (fault : Fault) → fault_front fault ++ path_values fault ≡ fault_words fault
words_in_pieces (Request why) = request_in_pieces why
words_in_pieces fault = append-nil (fault_words fault)

pub line_in_pieces : (tool : Tool) (fault : Fault) → head_of tool fault ++ path_values fault ++ codes "\n" ≡ line_of tool fault
line_in_pieces tool fault =
    let front : List ℕ = tool_name tool ++ codes ": " in
    ap (λ (t : List ℕ). t ++ codes "\n") (append_assoc front (fault_front fault) (path_values fault) ∙ ap (λ (t : List ℕ). front ++ t) (words_in_pieces fault))
