-- The root of a new repository's revision 0, by what it says.
use Rattle.std.specs.Prelude.{◌≡◌, List, [], ◌∷◌, ℕ, Some, None, false}
use Rattle.fsfs_base.specs.declared.kind.Kind.TheVariants.{Dir}
use Rattle.fsfs_noderev.specs.Ids.{IdValue, Old, At, id_value}
use Rattle.fsfs_noderev.specs.Reps.{RepValue, rep_value}
use Rattle.fsfs_noderev.specs.declared.rep.Rep.{Rep}
use Rattle.fsfs_noderev.specs.declared.rep.Contents.TheVariants as contents
use Rattle.fsfs_noderev.specs.declared.node_rev.NodeRev.{NodeRev}

-- the MD5 of `END\n`, the dump of a directory with no entries
abbrev pub digest_of_end : List ℕ
digest_of_end = 45 ∷ 41 ∷ 119 ∷ 209 ∷ 201 ∷ 111 ∷ 72 ∷ 122 ∷ 190 ∷ 74 ∷ 30 ∷ 32 ∷ 45 ∷ 208 ∷ 59 ∷ 78 ∷ []

-- `0.0.r0/<offset>`
abbrev pub first_id : ℕ → IdValue
first_id offset = record { node = Old 0; copy = Old 0; place = At 0 offset }

-- no entries, in a text of this length whose representation stands at 0
abbrev pub first_rep : ℕ → RepValue
first_rep size = record { rev = Some 0; offset = 0; length = size; size = size; md5 = digest_of_end; unique = None }

-- an empty directory that came of no other node and of no copy, with a text of this length, at this offset
pub record IsFirstRoot (size offset : ℕ) (node : NodeRev) : Type 0 where
  pub id : id_value node.id ≡ first_id offset
  pub kind : node.kind ≡ Dir
  pub predecessor : node.predecessor ≡ None
  pub count : node.count ≡ 0
  pub rep : Rep
  pub text : node.text ≡ Some (contents.At rep)
  pub rep_is : rep_value rep ≡ first_rep size
  pub props : node.props ≡ None
  pub created_path : node.created_path ≡ []
  pub copy_from : node.copy_from ≡ None
  pub copy_root : node.copy_root ≡ None
  pub is_fresh_txn_root : node.is_fresh_txn_root ≡ false
  pub mergeinfo_count : node.mergeinfo_count ≡ None
  pub has_mergeinfo : node.has_mergeinfo ≡ false
