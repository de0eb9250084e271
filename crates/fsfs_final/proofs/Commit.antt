-- What is committed adds its revision to what the bytes show.
use Rattle.std.proofs.lemmas.Bool.{le-leb, lt-leb}
use Rattle.std.proofs.Common.{◌≡◌, ◌≤◌, ◌<◌, ◌⊎◌, ℕ, suc, Bool, List, sym, ap, subst, ◌∙◌, arith, inl, inr}
use Rattle.std.specs.Prelude.{Option, if◌then◌else◌}
use Rattle.fsfs_base.specs.Paths.{Path}
use Rattle.fsfs_tree.specs.Nodes.{Node, TreeFunction}
use Rattle.fsfs_model.specs.declared.flat.mark.Mark.{Mark}
use Rattle.fsfs_model.specs.Flat.Landing.{NoClash, land}
use Rattle.fsfs_model.specs.Flat.Transactions.{IsTransaction, Landed}
use Rattle.fsfs_revision.specs.Told.{RevisionBytes}
use Rattle.fsfs_revision.specs.Shows.Shown.{IsShownAs, Shows}
use Rattle.fsfs_revision.specs.Shows.IdRules.{IdRule}
use Rattle.fsfs_model.proofs.TwoMerges.{land_twice}
use Rattle.fsfs_revision.specs.Ancestry.Trees.{ShowTrees}
use Rattle.fsfs_merge.specs.declared.sight.Sight.{Sight}
use Rattle.fsfs_draft.specs.OwnSides.{NodesAt, IsOwnSide, AreNodesOf}
use Rattle.fsfs_merge.specs.MergeLaws.{IsMerge, landed_nodes}
use Rattle.fsfs_merge.proofs.MergeLaw.{pre, side}
use Rattle.fsfs_draft.specs.NodeDrafts.{IsDraft}
use Rattle.fsfs_final.specs.Final.{IsWritten}
use Rattle.fsfs_draft.specs.Draws.{DrawsTree}
use Rattle.fsfs_final.specs.Shown.{ReadsContents}
use Rattle.fsfs_final.specs.Commits.{with_next, CommitsAddRevisions}
use Rattle.fsfs_final.proofs.KeepsIds.{written_keeps_ids}
use Rattle.fsfs_final.proofs.ShowsLanded.{written_shows_landing}
use Rattle.fsfs_merge.proofs.LandedDraft.{merge_keeps_drafts}
use Rattle.fsfs_merge.proofs.LandedTree.{merge_keeps_trees}

less_or_same : (x y : ℕ) → x ≤ y → (x < y) ⊎ (x ≡ y)
less_or_same x y h = grind arith

pub shows_as : (look : RevisionBytes) (r : ℕ) (s u : TreeFunction) → ((p : Path) → s p ≡ u p) → Shows look r s → Shows look r u
shows_as look r s u same shows = record { each = λ p. let w = shows.each p in (w.0, w.1, subst (λ (o : Option Node). IsShownAs look r p w.0 o) (same p) w.2) }

module _ (look : RevisionBytes) (top : ℕ) (tree : ℕ → TreeFunction) (next : TreeFunction) (shows : ShowTrees look top tree) where
  abbrev longer : ℕ → TreeFunction
  longer = with_next tree top next

  before : (r : ℕ) → r ≤ top → longer r ≡ tree r
  before r le = ap (λ (b : Bool). if b then tree r else next) (le-leb r top le)

  last : longer (suc top) ≡ next
  last = ap (λ (b : Bool). if b then tree (suc top) else next) (lt-leb (suc top) top (omega arith))

  pub shows_more : Shows look (suc top) next → IdRule look (suc top) → ShowTrees look (suc top) longer
  shows_more new ids = record {
    each = λ r le. elim (less_or_same r (suc top) le) [
      | inl less ↦ subst (λ t. Shows look r t) (sym (before r (omega arith))) (shows.each r (omega arith))
      | inr e ↦ subst (λ k. Shows look k (longer k)) (sym e) (subst (λ t. Shows look (suc top) t) (sym last) new)
    ];
    ids = ids;
  }

plain : (look : RevisionBytes) (top : ℕ) (tree : ℕ → TreeFunction) (t : TreeFunction) (marks : List Mark) (base own : NodesAt)
    → ShowTrees look top tree → IsTransaction tree top top t marks → AreNodesOf look top base → IsOwnSide base marks own → IsDraft look top top own
    → DrawsTree (suc top) (tree top) t marks own → IsWritten look (suc top) own → ReadsContents look (suc top) (land (tree top) (tree top) t marks (suc top))
    → ShowTrees look (suc top) (with_next tree top (land (tree top) (tree top) t marks (suc top)))
plain look top tree t marks base own shows was are side draft draws written reads =
    shows_more look top tree (land (tree top) (tree top) t marks (suc top)) shows
    (written_shows_landing look top tree t marks base own shows was are side draft draws written reads)
    (written_keeps_ids look top own shows.ids draft written)

merged : (look : RevisionBytes) (top : ℕ) (tree : ℕ → TreeFunction) (b : ℕ) (t : TreeFunction) (marks : List Mark) (base head own : NodesAt) (see : Path → Sight)
    → IsMerge look top tree b top t marks base head own see → b < top → NoClash b (tree b) (tree top) t marks → IsDraft look top b own
    → DrawsTree (suc top) (tree b) t marks own → IsWritten look (suc top) (landed_nodes see head own) → ReadsContents look (suc top) (land (tree b) (tree top) t marks (suc top))
    → ShowTrees look (suc top) (with_next tree top (land (tree b) (tree top) t marks (suc top)))
merged look top tree b t marks base head own see is less clear draft draws written reads =
    let le : top ≤ top = omega arith in
    let lower : b ≤ top = omega arith in
    let now_draft = merge_keeps_drafts look top tree b top t marks base head own see is less clear draft in
    let now_draws = merge_keeps_trees look top tree b top (suc top) 0 t marks base head own see is clear draft draws in
    let now_side = side look top tree b top t marks base head own see is 0 clear in
    let was : IsTransaction tree top top (land (tree b) (tree top) t marks 0) marks = Landed b top 0 t marks is.transaction lower le clear in
    let twice : (p : Path) → land (tree top) (tree top) (land (tree b) (tree top) t marks 0) marks (suc top) p ≡ land (tree b) (tree top) t marks (suc top) p
    = λ p. land_twice b (tree b) (tree top) (tree top) t marks 0 (suc top) (pre look top tree b top t marks base head own see is 0 clear) p in
    let reads_twice : ReadsContents look (suc top) (land (tree top) (tree top) (land (tree b) (tree top) t marks 0) marks (suc top))
    = record { text = λ p v y at e. reads.text p v y at (sym (twice p) ∙ e); props = λ p v y at e. reads.props p v y at (sym (twice p) ∙ e) } in
    shows_more look top tree (land (tree b) (tree top) t marks (suc top)) is.shows
    (shows_as look (suc top) (land (tree top) (tree top) (land (tree b) (tree top) t marks 0) marks (suc top)) (land (tree b) (tree top) t marks (suc top)) twice
    (written_shows_landing look top tree (land (tree b) (tree top) t marks 0) marks head (landed_nodes see head own) is.shows was is.head_nodes now_side now_draft now_draws written reads_twice))
    (written_keeps_ids look top (landed_nodes see head own) is.shows.ids now_draft written)

pub commits_add_revisions : CommitsAddRevisions
commits_add_revisions = record { plain = plain; merged = merged }
