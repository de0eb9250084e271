-- What the types of this crate are, apart from where they lie in memory.
use Rattle.std.specs.Prelude.{◌≡◌, ℕ, Bool, true, false, List, Option, Some, option_map}
use Rattle.fsfs_base.specs.declared.kind.Kind.TheVariants.{File}
use Rattle.fsfs_base.specs.declared.action.Action.{Action}
use Rattle.fsfs_base.specs.declared.action.Action.TheVariants.{Add, Delete, Replace, Modify}
use Rattle.fsfs_noderev.specs.declared.rep.Rep.{Rep}
use Rattle.fsfs_noderev.specs.declared.rep.Contents.TheVariants.{At}
use Rattle.fsfs_revision.specs.Nodes.{rep_place_before}
use Rattle.fsfs_revision.specs.Shows.Reading.{offset_of}
use Rattle.fsfs_dag.specs.declared.node.PlacedNode.{PlacedNode}
use Rattle.std.specs.declared.vec.Vec.{Vec}
use Rattle.std.specs.declared.alloc.Global.{Global}
use Rattle.fsfs_dump.specs.Records.{TextFacts}
use Rattle.fsfs_dump.specs.declared.facts.Facts.{Facts}

abbrev pub block_value : Option (Vec ℕ Global) → Option (List ℕ)
block_value block = option_map (λ b. b.items) block

abbrev pub facts_value : Facts → TextFacts
facts_value f = record { size = f.size; md5 = f.md5.bytes; sha1 = f.sha1.bytes }

abbrev pub text_value : Option (Vec ℕ Global) → Option (List ℕ)
text_value text = option_map (λ t. t.items) text

-- the representation of a file's text that was set
pub record IsLong (set : Bool) (node : PlacedNode) (rep : Rep) : Type 0 where
  pub set_is : set ≡ true
  pub kind : node.node.kind ≡ File
  pub text : node.node.text ≡ Some (At rep)
  pub before : rep_place_before (offset_of node.node.id.place) rep.rev rep.offset ≡ true

-- the path was taken away
abbrev pub is_gone : Action → Bool
is_gone Delete = true
is_gone Add = false
is_gone Replace = false
is_gone Modify = false
