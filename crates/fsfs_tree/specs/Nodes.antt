-- What stands at a path of a revision. (The libsvn_fs_fs structure file, "Node-revision identities" and the fields of a
-- node-revision; the three numbers are this project's profile.)
use Rattle.std.specs.Prelude.{ℕ, List, [], Option, None}
use Rattle.fsfs_base.specs.declared.kind.Kind.{Kind}
use Rattle.fsfs_base.specs.Paths.{Path}

-- a file's text: its bytes, or the place of a text that is not read
pub data Content : Type 0 where
  Bytes : List ℕ → Content
  Closed : ℕ → ℕ → Content

pub record Node : Type 0 where
  pub kind : Kind
  pub text : Content
  -- names and values, by the names' bytes
  pub properties : List (List ℕ × List ℕ)
  -- the revision and path that it was copied from, by itself or with something above it
  pub source : Option (ℕ × Path)
  -- the revision in which it came to stand at this path
  pub added : ℕ
  -- the last in which its properties were set
  pub props_changed : ℕ
  -- the last in which it or anything below it was changed
  pub last_changed : ℕ

-- a tree as a function: what stands at each path
abbrev pub TreeFunction : Type 0
TreeFunction = Path → Option Node

-- a new node without text, properties and source
abbrev pub empty_node : Kind → Node
empty_node kind = record { kind = kind; text = Bytes []; properties = []; source = None; added = 0; props_changed = 0; last_changed = 0 }
