-- Node-revisions and steps, as files by node part and copy part.
use Rattle.std.specs.Prelude.{List, [], ◌∷◌, Option, Some, None, option_map}
use Rattle.std.specs.HashMap.{HashMap, get_by}
use Rattle.fsfs_draft.specs.Drafts.{Kept}
use Rattle.fsfs_draft.specs.Steps.{Files}
use Rattle.fsfs_draft.specs.declared.txn_noderevs.KeptNode.{KeptNode}
use Rattle.fsfs_draft.specs.Views.{kept_value}
use Rattle.fsfs_txn_nodes.specs.declared.memory.keys.NodeKey.{NodeKey}
use Rattle.fsfs_txn_nodes.specs.declared.memory.edit_steps.Step.{Step}
use Rattle.fsfs_txn_nodes.specs.Memory.Keys.{has_parts, with_key}

-- those of a table
abbrev pub files_of : {S : Type 0} → HashMap NodeKey KeptNode S → Files
files_of nodes node copy = option_map kept_value (get_by (has_parts node copy) nodes)

-- with those that steps have put, one after another
abbrev pub with_steps : List Step → Files → Files
with_steps [] files = files
with_steps (s ∷ ss) files = with_steps ss (with_key s.key (kept_value s.kept) files)

-- what was found, or else the other
abbrev pub or_found : Option Kept → Option Kept → Option Kept
or_found None other = other
or_found (Some k) other = Some k
