-- A node-revision as it is written: one line for each field that it has, in the order of the fields, and an empty line.
use Rattle.std.specs.Prelude.{◌≡◌, ℕ, Bool, List, [], ◌∷◌, ◌++◌, Option, Some, None, map, is_some, if◌then◌else◌, codes}
use Rattle.std.specs.List.{flat_map}
use Rattle.fsfs_base.specs.PathTexts.{IsPath}
use Rattle.fsfs_noderev.specs.Lines.{line}
use Rattle.fsfs_noderev.specs.Fields.{nothing}
use Rattle.fsfs_noderev.specs.NodeRevs.{Takes, Means}
use Rattle.fsfs_noderev.specs.declared.fields.Fields.{Fields}
use Rattle.fsfs_noderev.specs.declared.node_rev.CopySource.{CopySource}
use Rattle.fsfs_noderev.specs.declared.node_rev.CopyRoot.{CopyRoot}
use Rattle.fsfs_noderev.specs.declared.node_rev.NodeRev.{NodeRev}

-- a line of this name
abbrev pub IsLineOf : {X : Type 0} → List ℕ → (List ℕ → X → Type 0) → List ℕ → X → Type 0
IsLineOf name G text x = (value : List ℕ) × G value x × (text ≡ line (name, value))

-- a line of this name, or nothing
abbrev pub IsOptional : {X : Type 0} → List ℕ → (List ℕ → X → Type 0) → List ℕ → Option X → Type 0
IsOptional name G text None = text ≡ []
IsOptional name G text (Some x) = IsLineOf name G text x

-- the line of a flag, or nothing
abbrev pub IsFlag : List ℕ → List ℕ → Bool → Type 0
IsFlag name text flag = text ≡ (if flag then line (name, codes "y") else [])

abbrev pub if_there : Bool → List ℕ → List (List ℕ)
if_there there name = if there then name ∷ [] else []

-- the names of its lines
abbrev pub names_of : NodeRev → List (List ℕ)
names_of n =
    (codes "id" ∷ []) ++ ((codes "type" ∷ []) ++ (if_there (is_some n.predecessor) (codes "pred") ++ ((codes "count" ∷ []) ++
    (if_there (is_some n.text) (codes "text") ++ (if_there (is_some n.props) (codes "props") ++ ((codes "cpath" ∷ []) ++
    (if_there (is_some n.copy_from) (codes "copyfrom") ++ (if_there (is_some n.copy_root) (codes "copyroot") ++
    (if_there n.is_fresh_txn_root (codes "is-fresh-txn-root") ++ (if_there (is_some n.mergeinfo_count) (codes "minfo-cnt") ++ if_there n.has_mergeinfo (codes "minfo-here")))))))))))

-- the text of this node-revision, its lines in order
pub record IsWritten (text : List ℕ) (node : NodeRev) : Type 0 where
  pub lines : List (List ℕ × List ℕ)
  pub fields : Fields
  pub taken : Takes nothing lines fields
  pub means : Means fields node
  pub names : map (λ l. l.0) lines ≡ names_of node
  pub parts : text ≡ flat_map line lines ++ 10 ∷ []

-- ---- what has a text

abbrev pub FitsSource : Option CopySource → Type 0
FitsSource None = Unit {0}
FitsSource (Some s) = IsPath s.path

abbrev pub FitsRoot : Option CopyRoot → Type 0
FitsRoot None = Unit {0}
FitsRoot (Some r) = IsPath r.path

-- its paths are within their limits
pub record HasText (n : NodeRev) : Type 0 where
  pub created_path : IsPath n.created_path
  pub copy_from : FitsSource n.copy_from
  pub copy_root : FitsRoot n.copy_root
