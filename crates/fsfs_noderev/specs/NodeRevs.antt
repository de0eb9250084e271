-- What a node-revision's text is: lines, of which each is taken, and an empty line; and which line is the first refused.
use Rattle.std.specs.Prelude.{◌≡◌, ◌≢◌, ◌-◌, ℕ, List, [], ◌∷◌, ◌++◌, length, Some, None, ◌⊎◌, unwrap_or, is_some, IsSome}
use Rattle.std.specs.List.{flat_map}
use Rattle.fsfs_base.specs.Grammar.Relations.{Begins}
use Rattle.fsfs_base.specs.Grammar.Cuts.{Lacks}
use Rattle.fsfs_noderev.specs.Lines.{IsPair, line}
use Rattle.fsfs_noderev.specs.Fields.{field_named, Puts, Refuses, nothing}
use Rattle.fsfs_noderev.specs.declared.fields.Fields.{Fields}
use Rattle.fsfs_noderev.specs.declared.node_rev.Field.TheVariants.{Id, NodeKind, CreatedPath}
use Rattle.fsfs_noderev.specs.declared.node_rev.Which.{Which}
use Rattle.fsfs_noderev.specs.declared.node_rev.Which.TheVariants.{Missing, BadLine, NoEnd}
use Rattle.fsfs_noderev.specs.declared.node_rev.NodeRev.{NodeRev}
use Rattle.fsfs_noderev.specs.declared.node_rev.NodeFault.{NodeFault}

-- each line is one of the form, and is taken behind those before it
abbrev pub Takes : Fields → List (List ℕ × List ℕ) → Fields → Type 0
Takes s [] t = t ≡ s
Takes s (l ∷ ls) t = IsPair l × (m : Fields) × Puts (field_named l.0) l.1 s m × Takes m ls t

-- a text of lines that are taken, and an empty line
pub record IsNodeText (text : List ℕ) (fields : Fields) : Type 0 where
  pub lines : List (List ℕ × List ℕ)
  pub taken : Takes nothing lines fields
  pub parts : text ≡ flat_map line lines ++ 10 ∷ []

-- what the fields say, with what an absent one means
pub record Means (fields : Fields) (node : NodeRev) : Type 0 where
  pub id : fields.id ≡ Some node.id
  pub kind : fields.kind ≡ Some node.kind
  pub predecessor : node.predecessor ≡ fields.predecessor
  pub count : node.count ≡ unwrap_or fields.count 0
  pub text : node.text ≡ fields.text
  pub props : node.props ≡ fields.props
  pub created_path : fields.created_path ≡ Some node.created_path
  pub copy_from : node.copy_from ≡ fields.copy_from
  pub copy_root : node.copy_root ≡ fields.copy_root
  pub fresh_txn_root : node.is_fresh_txn_root ≡ is_some fields.fresh_txn_root
  pub mergeinfo_count : node.mergeinfo_count ≡ fields.mergeinfo_count
  pub mergeinfo_here : node.has_mergeinfo ≡ is_some fields.mergeinfo_here

-- all of the bytes are the text of this node-revision
pub record IsNodeRev (text : List ℕ) (node : NodeRev) : Type 0 where
  pub fields : Fields
  pub text_is : IsNodeText text fields
  pub means : Means fields node

-- the bytes begin with the text of this node-revision
pub record IsRead (bytes : List ℕ) (node : NodeRev) : Type 0 where
  pub fields : Fields
  pub rest : List ℕ
  pub begins : Begins IsNodeText bytes fields rest
  pub means : Means fields node

-- the fields have all that a node-revision must have
pub record AreFull (fields : Fields) : Type 0 where
  pub id : IsSome fields.id
  pub kind : IsSome fields.kind
  pub created_path : IsSome fields.created_path

-- the bytes begin with the text of a node-revision, of which these are the fields
pub record AreRead (bytes : List ℕ) (fields : Fields) : Type 0 where
  pub rest : List ℕ
  pub begins : Begins IsNodeText bytes fields rest
  pub full : AreFull fields

-- no line: the bytes end
pub record HasNoEnd (bytes : List ℕ) (left : ℕ) (which : Which) : Type 0 where
  pub lacks : Lacks 10 bytes
  pub place : left ≡ 0
  pub why : which ≡ NoEnd

-- the first line isn't empty, nor a name, a colon, a space and a value
pub record HasBadLine (bytes : List ℕ) (left : ℕ) (which : Which) : Type 0 where
  pub text : List ℕ
  pub more : List ℕ
  pub lacks : Lacks 10 text
  pub filled : text ≢ []
  pub no_pair : (pair : List ℕ × List ℕ) → IsPair pair → text ≢ pair.0 ++ 58 ∷ 32 ∷ pair.1
  pub parts : bytes ≡ text ++ 10 ∷ more
  pub place : left ≡ length bytes
  pub why : which ≡ BadLine

-- the first line isn't taken behind the fields so far
pub record IsNotTaken (s : Fields) (bytes : List ℕ) (left : ℕ) (which : Which) : Type 0 where
  pub pair : List ℕ × List ℕ
  pub more : List ℕ
  pub is_pair : IsPair pair
  pub refused : Refuses (field_named pair.0) pair.1 s which
  pub parts : bytes ≡ line pair ++ more
  pub place : left ≡ length bytes

abbrev pub IsRefused : Fields → List ℕ → ℕ → Which → Type 0
IsRefused s bytes left which = HasNoEnd bytes left which ⊎ (HasBadLine bytes left which ⊎ IsNotTaken s bytes left which)

-- lines that are taken behind s, and then one that is refused, at its beginning
pub record StopsAt (s : Fields) (bytes : List ℕ) (left : ℕ) (which : Which) : Type 0 where
  pub lines : List (List ℕ × List ℕ)
  pub fields : Fields
  pub rest : List ℕ
  pub taken : Takes s lines fields
  pub parts : bytes ≡ flat_map line lines ++ rest
  pub refused : IsRefused fields rest left which

-- a line is refused, where it begins
pub record LineRefused (bytes : List ℕ) (fault : NodeFault) : Type 0 where
  pub left : ℕ
  pub stops : StopsAt nothing bytes left fault.which
  pub place : fault.at ≡ length bytes - left

-- the first field that is wanted and is not there, in the order of the fields
pub data IsMissing (fields : Fields) : Which → Type 0 where
  NoId : fields.id ≡ None → IsMissing fields (Missing Id)
  NoKind : fields.id ≢ None → fields.kind ≡ None → IsMissing fields (Missing NodeKind)
  NoPath : fields.id ≢ None → fields.kind ≢ None → fields.created_path ≡ None → IsMissing fields (Missing CreatedPath)

-- the lines are taken up to the empty one, and a field is missing
pub record LacksField (bytes : List ℕ) (fault : NodeFault) : Type 0 where
  pub fields : Fields
  pub rest : List ℕ
  pub begins : Begins IsNodeText bytes fields rest
  pub missing : IsMissing fields fault.which
  pub place : fault.at ≡ length bytes - length rest

abbrev pub IsNodeFault : List ℕ → NodeFault → Type 0
IsNodeFault bytes fault = LineRefused bytes fault ⊎ LacksField bytes fault
