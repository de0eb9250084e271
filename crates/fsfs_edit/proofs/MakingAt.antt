-- A path at which something stands leads down a tree.
use Rattle.std.proofs.Common.{◌≡◌, true, [], ◌∷◌, ◌++◌, refl, ap, subst, ◌∙◌}
use Rattle.std.specs.Prelude.{Option, Some, None, is_some, not}
use Rattle.fsfs_base.specs.Paths.{PathName, Path, is_above}
use Rattle.fsfs_tree.specs.Nodes.{Node, TreeFunction}
use Rattle.fsfs_model.specs.Flat.Edits.{is_dir, is_dir_node}
use Rattle.fsfs_tree.specs.Trees.{IsTree}
use Rattle.fsfs_base.specs.declared.kind.Kind.{Kind}
use Rattle.fsfs_base.specs.declared.kind.Kind.TheVariants.{Dir}
use Rattle.fsfs_base.proofs.PathLemmas.{covers-longer}
use Rattle.fsfs_draft.proofs.Moving.{longer_covers_not}
use Rattle.fsfs_edit.specs.DagEdits.Mutable.{LeadsTo}
use Rattle.fsfs_draft.specs.Walks.{HasKind}
use Rattle.std.proofs.lemmas.Bool.{and_from}

above_more : (p : Path) (x : PathName) (rest : Path) → is_above p (p ++ x ∷ rest) ≡ true
above_more p x rest = and_from _ _ (covers-longer p (x ∷ rest)) (ap (λ b. not b) (longer_covers_not p x rest))

pub kind_some : (o : Option Node) (kind : Kind) → HasKind o kind → is_some o ≡ true
kind_some None kind h = absurd h
kind_some (Some n) kind h = refl

dir_of : (o : Option Node) → (n : Node) × (o ≡ Some n) × (n.kind ≡ Dir) → is_dir_node o ≡ true
dir_of o h = ap (λ (x : Option Node). is_dir_node x) h.1 ∙ ap is_dir h.2

some_of : (o : Option Node) → (n : Node) × (o ≡ Some n) × (n.kind ≡ Dir) → is_some o ≡ true
some_of o h = ap (λ (x : Option Node). is_some x) h.1

pub leads_to : (tree : TreeFunction) (p : Path) → IsTree tree → is_some (tree p) ≡ true → LeadsTo tree p
leads_to tree p is_tree some = λ front x rest parts. (
  dir_of (tree front) (is_tree.above front p (subst (λ (t : Path). is_above front t ≡ true) parts (above_more front x rest)) some),
  step front x rest parts,
)
  where
    step : (front : Path) (x : PathName) (rest : Path) → front ++ x ∷ rest ≡ p → is_some (tree (front ++ x ∷ [])) ≡ true
    step front x [] parts = ap (λ (t : Path). is_some (tree t)) parts ∙ some
    step front x (y ∷ rest) parts =
        some_of (tree (front ++ x ∷ [])) (is_tree.above (front ++ x ∷ []) p
        (subst (λ (t : Path). is_above (front ++ x ∷ []) t ≡ true) (assoc front x y rest ∙ parts) (above_more (front ++ x ∷ []) y rest)) some)
      where
        assoc : (front : Path) (x y : PathName) (rest : Path) → (front ++ x ∷ []) ++ y ∷ rest ≡ front ++ x ∷ y ∷ rest
        assoc [] x y rest = refl
        assoc (z ∷ front) x y rest = ap (λ (t : Path). z ∷ t) (assoc front x y rest)
