-- What a step does where the base has something: which of it the draft holds, and what of that is the transaction's own.
use Rattle.std.specs.Prelude.{◌≡◌, ◌++◌, ℕ, true, false, ◌&&◌, ◌||◌, not, [], ◌∷◌, Option, Some, None, is_some}
use Rattle.fsfs_base.specs.Paths.{PathName, Path, covers}
use Rattle.fsfs_base.specs.declared.kind.Kind.{Kind}
use Rattle.fsfs_tree.specs.Nodes.{TreeFunction}
use Rattle.fsfs_model.specs.declared.flat.mark.What.{What}
use Rattle.fsfs_model.specs.declared.flat.mark.What.TheVariants as whats
use Rattle.fsfs_model.specs.Flat.Marks.{is_make}
use Rattle.fsfs_base.specs.declared.fields.txn_name.TxnName.{TxnName}
use Rattle.fsfs_revision.specs.Told.{RevisionBytes}
use Rattle.fsfs_noderev.specs.declared.node_id.NodeId.{NodeId}
use Rattle.fsfs_revision.specs.Shows.Reading.{named}
use Rattle.fsfs_draft.specs.Own.{OwnNode, Own}
use Rattle.fsfs_draft.specs.Sides.{goes_on_here, held}
use Rattle.fsfs_draft.specs.Marking.{has_props, IsMoved}
use Rattle.fsfs_draft.specs.Laying.{Step, place_in, own_after, tree_before}
use Rattle.fsfs_draft.specs.Setting.{Setting, own_set}

-- the base is held as it was, and what stands at and above the path is the transaction's own
pub record IsOpened (base : TreeFunction) (path : Path) (own now : Own) : Type 0 where
  pub kept : (q : Path) → is_some (base q) ≡ true → held now q ≡ held own q
  pub mine : (q : Path) → is_some (base q) ≡ true → held now q ≡ true → is_some (now q) ≡ (is_some (own q) || covers q path)
  pub props : (q : Path) → is_some (base q) ≡ true → held now q ≡ true → has_props (now q) ≡ has_props (own q)

-- what the base has at and below the path is held no longer, and all else is as it was
pub record IsCutOff (base : TreeFunction) (path : Path) (own now : Own) : Type 0 where
  pub kept : (q : Path) → is_some (base q) ≡ true → held now q ≡ (held own q && not (covers path q))
  pub mine : (q : Path) → is_some (base q) ≡ true → held now q ≡ true → is_some (now q) ≡ is_some (own q)
  pub props : (q : Path) → is_some (base q) ≡ true → held now q ≡ true → has_props (now q) ≡ has_props (own q)

-- nothing is laid, or what doesn't go on from what stood there
abbrev pub IsLaidAnew : Option OwnNode → Type 0
IsLaidAnew None = Unit {0}
IsLaidAnew (Some v) = goes_on_here (Some v) ≡ false

pub record StepsMove : Type 0 where
  -- what stood there, gone on from
  pub opened : (look : RevisionBytes) (trees : ℕ → TreeFunction) (top base : ℕ) (txn : TxnName) (s : Step look trees top base txn) (v : OwnNode) (id : NodeId) → s.laid ≡ Some v → v.node.copy_from ≡ None → v.node.predecessor ≡ Some id → v.props ≡ None
      → s.own (place_in s) ≡ None → is_some (tree_before s (place_in s)) ≡ true → IsOpened (trees base) (place_in s) s.own (own_after s)
  -- something new, a copy, or nothing more
  pub cut : (look : RevisionBytes) (trees : ℕ → TreeFunction) (top base : ℕ) (txn : TxnName) (s : Step look trees top base txn) → IsLaidAnew s.laid → (s.laid ≡ None → named s.name s.new ≡ None) → IsCutOff (trees base) (place_in s) s.own (own_after s)
  -- where the directory has nothing of the name, the base is not held there
  pub free : (look : RevisionBytes) (trees : ℕ → TreeFunction) (top base : ℕ) (txn : TxnName) (s : Step look trees top base txn) → named s.name s.entries ≡ None
      → (q : Path) → is_some (trees base q) ≡ true → covers (place_in s) q ≡ true → held s.own q ≡ false
  -- a text that is set, and properties, in a draft whose directories down to it were opened
  pub text : (look : RevisionBytes) (trees : ℕ → TreeFunction) (top base : ℕ) (txn : TxnName) (s : Setting look trees top base txn) (kind : Kind) (own : Own) → s.is.props ≡ s.was.props → IsOpened (trees base) s.path own s.own
      → IsMoved (trees base) (record { path = s.path; kind = kind; what = whats.Text }) own (own_set s)
  pub prop : (look : RevisionBytes) (trees : ℕ → TreeFunction) (top base : ℕ) (txn : TxnName) (s : Setting look trees top base txn) (kind : Kind) (own : Own) → is_some s.is.props ≡ true → IsOpened (trees base) s.path own s.own
      → IsMoved (trees base) (record { path = s.path; kind = kind; what = whats.Prop }) own (own_set s)

-- an edit of opened directories and a last step moves what its mark says
pub record EditsMove : Type 0 where
  pub made : (base : TreeFunction) (p : Path) (x : PathName) (kind : Kind) (what : What) (own between now : Own) → is_make what ≡ true → IsOpened base p own between → IsCutOff base (p ++ x ∷ []) between now
      → ((q : Path) → is_some (base q) ≡ true → covers (p ++ x ∷ []) q ≡ true → held between q ≡ false) → IsMoved base (record { path = p ++ x ∷ []; kind = kind; what = what }) own now
  -- directories opened one after another
  pub opened : (base : TreeFunction) (p : Path) (x : PathName) (own between now : Own) → IsOpened base p own between → IsOpened base (p ++ x ∷ []) between now → IsOpened base (p ++ x ∷ []) own now
  pub gone : (base : TreeFunction) (p : Path) (x : PathName) (kind : Kind) (own between now : Own) → IsOpened base p own between → IsCutOff base (p ++ x ∷ []) between now
      → IsMoved base (record { path = p ++ x ∷ []; kind = kind; what = whats.Gone }) own now
