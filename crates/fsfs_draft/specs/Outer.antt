-- Which paths a transaction made, by its marks and by its own node-revisions; so which marks are outer.
use Rattle.std.specs.Prelude.{◌≡◌, ◌≤◌, ◌++◌, ℕ, Bool, true, false, not, List, [], ◌∷◌, Option, Some, None, is_some}
use Rattle.std.specs.List.{list_any}
use Rattle.fsfs_base.specs.Paths.{Path, same_path}
use Rattle.fsfs_tree.specs.Nodes.{TreeFunction}
use Rattle.fsfs_model.specs.declared.flat.mark.Mark.{Mark}
use Rattle.fsfs_model.specs.declared.flat.mark.What.TheVariants as whats
use Rattle.fsfs_model.specs.Flat.Marks.{any_covers, made, is_make}
use Rattle.fsfs_base.specs.declared.fields.txn_name.TxnName.{TxnName}
use Rattle.fsfs_revision.specs.Told.{RevisionBytes}
use Rattle.fsfs_noderev.specs.declared.node_id.NodeId.{NodeId}
use Rattle.fsfs_revision.specs.Shows.Reading.{named}
use Rattle.fsfs_draft.specs.Own.{OwnNode, Own, draft_tree, alone}
use Rattle.fsfs_draft.specs.Drafts.{Folder, IsDraft, ShowTrees}
use Rattle.fsfs_draft.specs.Sides.{goes_on_here, held, AreMarksOf}
use Rattle.fsfs_draft.specs.Marking.{IsMoved}
use Rattle.fsfs_draft.specs.Laying.{Step, place_in, own_after}
use Rattle.fsfs_draft.specs.Setting.{Setting, own_set}

-- an own node-revision that doesn't go on from what the base has there: it was made or copied
abbrev pub is_anew : Option OwnNode → Bool
is_anew o = not (goes_on_here o)

-- the paths that the marks made are those at which own node-revisions stand anew
abbrev pub AreMade : List Mark → Own → Type 0
AreMade marks own = (q : Path) → list_any (λ p. same_path p q) (made marks) ≡ is_anew (own q)

pub record MadeIsKept : Type 0 where
  pub begun : (v : OwnNode) → goes_on_here (Some v) ≡ true → AreMade [] (alone v)
  -- what stood there is gone on from: no mark
  pub opened : (look : RevisionBytes) (trees : ℕ → TreeFunction) (top base : ℕ) (txn : TxnName) (s : Step look trees top base txn) (v : OwnNode) (id : NodeId) (marks : List Mark) → s.laid ≡ Some v → v.node.copy_from ≡ None → v.node.predecessor ≡ Some id
      → s.own (place_in s) ≡ None → AreMade marks s.own → AreMade marks (own_after s)
  -- something new or a copy, where the directory had nothing of the name
  pub made : (look : RevisionBytes) (trees : ℕ → TreeFunction) (top base : ℕ) (txn : TxnName) (s : Step look trees top base txn) (v : OwnNode) (marks : List Mark) (m : Mark) → s.laid ≡ Some v → goes_on_here (Some v) ≡ false → named s.name s.entries ≡ None
      → m.path ≡ place_in s → is_make m.what ≡ true → AreMade marks s.own → AreMade (marks ++ m ∷ []) (own_after s)
  pub gone : (look : RevisionBytes) (trees : ℕ → TreeFunction) (top base : ℕ) (txn : TxnName) (s : Step look trees top base txn) (marks : List Mark) (m : Mark) → s.laid ≡ None
      → m.path ≡ place_in s → m.what ≡ whats.Gone → AreMade marks s.own → AreMade (marks ++ m ∷ []) (own_after s)
  pub text : (look : RevisionBytes) (trees : ℕ → TreeFunction) (top base : ℕ) (txn : TxnName) (s : Setting look trees top base txn) (marks : List Mark) (m : Mark) → m.what ≡ whats.Text → AreMade marks s.own → AreMade (marks ++ m ∷ []) (own_set s)
  pub prop : (look : RevisionBytes) (trees : ℕ → TreeFunction) (top base : ℕ) (txn : TxnName) (s : Setting look trees top base txn) (marks : List Mark) (m : Mark) → m.what ≡ whats.Prop → AreMade marks s.own → AreMade (marks ++ m ∷ []) (own_set s)

-- a path of the draft is at or below one that the marks made exactly where it doesn't hold the base there
abbrev pub OuterIsHeld : Type 0
OuterIsHeld = (look : RevisionBytes) (trees : ℕ → TreeFunction) (top base : ℕ) → ShowTrees look top trees → base ≤ top → (txn : TxnName) (f : Folder) (own : Own) (marks : List Mark) → IsDraft look top base txn f own → AreMade marks own
    → (p : Path) → is_some (draft_tree trees own (trees base) p) ≡ true → any_covers (made marks) p ≡ not (held own p)

-- and where an edit moved what its mark says, the marks say what the draft holds with the mark, be it outer or not
abbrev pub EditsKeepMarks : Type 0
EditsKeepMarks = (look : RevisionBytes) (base : TreeFunction) (top rev : ℕ) (txn : TxnName) (f : Folder) (own now : Own) (marks : List Mark) (m : Mark) → IsDraft look top rev txn f own → AreMade marks own → AreMarksOf base marks own → IsMoved base m own now
    → AreMarksOf base (marks ++ m ∷ []) now
