-- Where the bytes show trees, the text of a history is that of the flat history.
use Rattle.std.proofs.Common.{◌≡◌, ◌≤◌, ◌<◌, ◌+◌, ℕ, zero, suc, List, [], ◌++◌, refl, sym, ap, subst, ◌∙◌, append-nil, inl, inr, arith, flat_map}
use Rattle.std.specs.Prelude.{Ok, Err, Option, Some, None}
use Rattle.fsfs_base.specs.Paths.{Path}
use Rattle.fsfs_tree.specs.Nodes.{Node, TreeFunction}
use Rattle.fsfs_tree.specs.PathHistories.{leads_to, go_on, points_at, history_within, path_history}
use Rattle.fsfs_revision.specs.Told.{RevisionBytes}
use Rattle.fsfs_tree.specs.Answers as answers
use Rattle.fsfs_tree.specs.Answers.{Found, found_at}
use Rattle.fsfs_noderev.specs.declared.node_rev.NodeRev.{NodeRev}
use Rattle.fsfs_revision.specs.declared.wrong.Wrong.{Wrong}
use Rattle.fsfs_revision.specs.Shows.Reading.{Met, Stands, Lacking, Blocked, MetAt}
use Rattle.fsfs_stands.specs.declared.look_fault.LookFault.TheVariants as faults
use Rattle.fsfs_stands.specs.Texts.{End, Whole, Refused, Stopped}
use Rattle.fsfs_stands.specs.ByTree.{IsOf}
use Rattle.fsfs_stands.proofs.FileByTree.{nothing_is}
use Rattle.fsfs_stands.proofs.FoundAt.{IsFoundAs, never_wrong, found_as}
use Rattle.fsfs_stands.proofs.TreeByTree.{of_behind}
use Rattle.fsfs_revision.specs.Ancestry.CopyRoots.{IsRootedAt}
use Rattle.fsfs_stands.specs.Steps.{Point, HistoryStep}
use Rattle.fsfs_tree.specs.HistoryTexts.{history_head, point_line, history_text}
use Rattle.fsfs_stands.specs.HistoryTexts.{line_of, PointsText, OfLast, OfNext, OfWrong, Stops, HeadedText, MetHistory, HistoryText}
use Rattle.fsfs_revision.specs.Ancestry.Trees.{ShowTrees}
use Rattle.fsfs_stands.specs.Laws.{IsAt, IsStepByTrees, IsPointByTrees, IsHistoryOf, HistoriesAreByTrees}
use Rattle.fsfs_stands.proofs.ByTrees.{steps_by_trees}

-- ---- the lines of a flat history

abbrev lines : List (ℕ × Path) → List ℕ
lines points = flat_map point_line points

-- of a point, and what it leads to
lines_at : (then_on : (ℕ × Path) → List (ℕ × Path)) (p : Path) (o : Option Node) (n : Node) → o ≡ Some n → lines (points_at then_on p o) ≡ point_line (n.last_changed, p) ++ lines (go_on then_on (leads_to p n))
lines_at then_on p o n is = ap (λ (x : Option Node). lines (points_at then_on p x)) is

nothing_at : (tree : ℕ → TreeFunction) (most r : ℕ) (p : Path) → tree r p ≡ None → history_within most tree r p ≡ []
nothing_at tree zero r p none = refl
nothing_at tree (suc most) r p none = ap (points_at (λ to. history_within most tree to.0 to.1) p) none

module _ (look : RevisionBytes) (top : ℕ) (tree : ℕ → TreeFunction) (trees : ShowTrees look top tree) where
  -- so many points at most, from this one on
  abbrev Text : Point → List ℕ → End → Type 0
  Text at text end = (most r : ℕ) (p : Path) → r ≤ top → r < most → IsAt look r p at → IsOf (lines (history_within most tree r p)) text end

  module _ (most r : ℕ) (p : Path) (at : Point) (le : r ≤ top) (isat : IsAt look r p at) where
    point : IsPointByTrees look tree r p at
    point = steps_by_trees look top tree trees r p at le isat

    abbrev on : (ℕ × Path) → List (ℕ × Path)
    on to = history_within most tree to.0 to.1

    abbrev behind : List ℕ
    behind = lines (go_on (λ to. history_within most tree to.0 to.1) (leads_to p point.node))

    line : line_of at ≡ point_line (point.node.last_changed, p)
    line = λ i. point_line (point.rev i, isat.path i)

    whole : lines (history_within (suc most) tree r p) ≡ line_of at ++ behind
    whole = lines_at (λ to. history_within most tree to.0 to.1) p (tree r p) point.node point.node_is ∙ ap (λ (t : List ℕ). t ++ behind) (sym line)

    -- the line, and a text that is of what is behind it
    text_of : (text : List ℕ) (end : End) → IsOf behind text end → IsOf (lines (history_within (suc most) tree r p)) (line_of at ++ text) end
    text_of text end h = subst (λ (t : List ℕ). IsOf t (line_of at ++ text) end) (sym whole) (of_behind (line_of at) behind text end h)

    -- the line alone
    alone : (end : End) → IsOf behind [] end → IsOf (lines (history_within (suc most) tree r p)) (line_of at) end
    alone end h = subst (λ (t : List ℕ). IsOf (lines (history_within (suc most) tree r p)) t end) (append-nil (line_of at)) (text_of [] end h)

    last_by : (lead : Option (ℕ × Path)) → IsStepByTrees look tree r lead (Ok None) → lines (go_on (λ to. history_within most tree to.0 to.1) lead) ≡ []
    last_by None h = refl
    last_by (Some to) h = ap (λ (ps : List (ℕ × Path)). lines ps) (nothing_at tree most to.0 to.1 h.1)

    last : HistoryStep look at (Ok None) → IsOf (lines (history_within (suc most) tree r p)) (line_of at) Whole
    last h = alone Whole (sym (last_by (leads_to p point.node) (point.step (Ok None) h)))

    wrong_by : {A : Type 0} (lead : Option (ℕ × Path)) (w : Wrong) → IsStepByTrees look tree r lead (Err w) → A
    wrong_by None w h = absurd cc
    wrong_by (Some to) w h = absurd h

    wrong : {A : Type 0} (w : Wrong) → HistoryStep look at (Err w) → A
    wrong w h = wrong_by (leads_to p point.node) w (point.step (Err w) h)

    next_by : (lead : Option (ℕ × Path)) (to : Point) (text : List ℕ) (end : End) → r < suc most → Text to text end → IsStepByTrees look tree r lead (Ok (Some to)) → IsOf (lines (go_on (λ to. history_within most tree to.0 to.1) lead)) text end
    next_by None to text end less more h = absurd cc
    next_by (Some from) to text end less more h = let lower = h.0 in more most from.0 from.1 (omega (arith, lower, le)) (omega (arith, lower, less)) h.1

    next : (to : Point) (text : List ℕ) (end : End) → r < suc most → Text to text end → HistoryStep look at (Ok (Some to)) → IsOf (lines (history_within (suc most) tree r p)) (line_of at ++ text) end
    next to text end less more h = text_of text end (next_by (leads_to p point.node) to text end less more (point.step (Ok (Some to)) h))

  points_by_trees : (at : Point) (text : List ℕ) (end : End) → PointsText look at text end → (most r : ℕ) (p : Path) → r ≤ top → r < most → IsAt look r p at → IsOf (lines (history_within most tree r p)) text end
  points_by_trees at text end t zero r p le less isat = absurd (omega (arith, less))
  points_by_trees at text end (OfLast _ step) (suc most) r p le less isat = last most r p at le isat step
  points_by_trees at text end (OfNext _ to more end2 step rest) (suc most) r p le less isat = next most r p at le isat to more end less (λ m s q. points_by_trees to more end rest m s q) step
  points_by_trees at text end (OfWrong _ w step) (suc most) r p le less isat = wrong most r p at le isat w step
  points_by_trees at text end (Stops _) (suc most) r p le less isat = alone most r p at le isat Stopped (behind most r p at le isat, refl)

  module _ (rev : ℕ) (path : Path) (le : rev ≤ top) where
    abbrev points : List (ℕ × Path)
    points = path_history tree rev path

    headed : (at : Point) (text : List ℕ) (end : End) → IsAt look rev path at → HeadedText look at text end → IsOf (history_text (path_history tree rev path)) text end
    headed at text end isat t =
        subst (λ (x : List ℕ). IsOf (history_text (path_history tree rev path)) x end) (sym t.text_is)
        (of_behind history_head (lines (path_history tree rev path)) t.points end (points_by_trees at t.points end t.points_are (rev + 1) rev path le (omega arith) isat))

    met_by_trees : (m : Met) (found : Found) (text : List ℕ) (end : End) → MetAt look rev path (Ok m) → IsFoundAs (tree rev) path m found → MetHistory look rev path m text end → IsHistoryOf path (path_history tree rev path) found text end
    met_by_trees (Stands v) found text end at is t =
        subst (λ (f : Found). IsHistoryOf path (path_history tree rev path) f text end) (sym is.2)
        (headed t.0 text end (record { path = t.1.0; rooted = subst (λ (x : NodeRev). IsRootedAt look rev path x t.0.root) (sym t.1.1) t.1.2 }) t.2)
    met_by_trees (Lacking names) found text end at is t =
        subst (λ (f : Found). IsHistoryOf path (path_history tree rev path) f text end) (sym is) (nothing_is (IsHistoryOf path (path_history tree rev path) (answers.Lacking _)) (Refused (faults.NotFound names)) text end (refl, refl) t)
    met_by_trees (Blocked names) found text end at is t =
        subst (λ (f : Found). IsHistoryOf path (path_history tree rev path) f text end) (sym is) (nothing_is (IsHistoryOf path (path_history tree rev path) (answers.Blocked _)) (Refused (faults.NotDir names)) text end (refl, refl) t)

    stopped_history : (found : Found) → IsHistoryOf path (path_history tree rev path) found [] Stopped
    stopped_history (answers.Stands node) = (history_text (path_history tree rev path), refl)
    stopped_history (answers.Lacking at) = refl
    stopped_history (answers.Blocked at) = refl

    history_by_trees : (text : List ℕ) (end : End) → HistoryText look rev path text end → IsHistoryOf path (path_history tree rev path) (found_at (tree rev) path) text end
    history_by_trees text end (inl none) = nothing_is (IsHistoryOf path (path_history tree rev path) (found_at (tree rev) path)) Stopped text end (stopped_history (found_at (tree rev) path)) none
    history_by_trees text end (inr (inl w)) = absurd (never_wrong look rev (tree rev) (trees.each rev le) path w.0 w.1)
    history_by_trees text end (inr (inr m)) = met_by_trees m.0 (found_at (tree rev) path) text end m.1 (found_as look rev (tree rev) (trees.each rev le) path m.0 m.1) m.2

pub histories_by_trees : HistoriesAreByTrees
histories_by_trees look top tree trees rev path le = history_by_trees look top tree trees rev path le
