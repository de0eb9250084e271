-- The folded changes of what landed fit the bytes that show the landing.
use Rattle.std.proofs.Common.{◌≡◌, ◌∙◌, ℕ, suc, List, Option, Some, None, sym, ap, arith, true, false}
use Rattle.std.specs.Prelude.{Ok, is_some}
use mathlib.Core.Bool.{false≢true}
use Rattle.fsfs_model.specs.declared.flat.mark.Mark.{Mark}
use Rattle.fsfs_base.specs.Paths.{Path}
use Rattle.fsfs_tree.specs.Nodes.{Node, TreeFunction}
use Rattle.fsfs_model.specs.Flat.Landing.{land}
use Rattle.fsfs_model.specs.Flat.Transactions.{Landed}
use Rattle.fsfs_revision.specs.Told.{RevisionBytes}
use Rattle.fsfs_noderev.specs.declared.node_rev.NodeRev.{NodeRev}
use Rattle.fsfs_revision.specs.Shows.Reading.{Met, Stands, Lacking, Blocked, MetAt, StandsAt}
use Rattle.fsfs_revision.specs.Shows.Shown.{Shows, IsShownAs}
use Rattle.fsfs_revision.proofs.Behind.{shown_there}
use Rattle.fsfs_model.specs.FoldedFit.{FoldFits}
use Rattle.fsfs_model.proofs.FoldedLaw.{folds_fit}
use Rattle.fsfs_final.specs.FittingChanges.{ChangesFit, LandedChangesFit}
use Rattle.fsfs_draft.proofs.HangLaw.{some_same}

clash_none : {A : Type 0} (n : Node) → Some n ≡ None → A
clash_none n e = absurd (false≢true (sym (ap is_some e)))

-- a node of a shown tree is that of a node-revision at its path
stands_for : (look : RevisionBytes) (r : ℕ) (tree : TreeFunction) → Shows look r tree → (p : Path) (n : Node) → tree p ≡ Some n → (v : NodeRev) × StandsAt look r p v × (v.kind ≡ n.kind)
stands_for look r tree shows p n e = let w = shows.each p in by w.0 w.1 w.2
  where
    by : (m : Met) → MetAt look r p (Ok m) → IsShownAs look r p m (tree p) → (v : NodeRev) × StandsAt look r p v × (v.kind ≡ n.kind)
    by (Stands v) at is =
        let k = shown_there look r tree shows p v at in
        (v, at, sym k.2.kind ∙ ap (λ (x : Node). x.kind) (some_same (tree p) k.0 n k.1 e))
    by (Lacking d) at is = clash_none n (sym e ∙ is)
    by (Blocked d) at is = clash_none n (sym e ∙ is)

fits : (look : RevisionBytes) (r : ℕ) (tree : TreeFunction) (marks : List Mark) → Shows look r tree → FoldFits tree marks → ChangesFit look r marks
fits look r tree marks shows fold_fits = record {
  gone = λ p c e d v at. let k = shown_there look r tree shows p v at in clash_none k.0 (sym k.1 ∙ fold_fits.gone p c e d);
  there = λ p c e d.
      let n = fold_fits.there p c e d in
      let v = stands_for look r tree shows p n.0 n.1 in
      (v.0, v.1, v.2 ∙ n.2);
}

pub changes_fit : LandedChangesFit
changes_fit look top tree b t marks is was le clear shows =
    let now : Rattle.fsfs_model.specs.Flat.Transactions.IsTransaction tree top top (land (tree b) (tree top) t marks (suc top)) marks = Landed b top (suc top) t marks was le (omega arith) clear in
    fits look (suc top) (land (tree b) (tree top) t marks (suc top)) marks shows (folds_fit tree top top (land (tree b) (tree top) t marks (suc top)) marks is now)
