-- Steps of the walks of a history.
use Rattle.std.proofs.Common.{◌≡◌, ◌≤◌, ◌<◌, ℕ, zero, suc, true, ◌+◌, ◌*◌, ◌^◌, ap, inl, inr, [], ◌∷◌, refl, sym, subst, arith, ◌∙◌}
use Rattle.std.proofs.lemmas.Bool.{and_parts}
use Rattle.std.proofs.lemmas.Bool.Decides.{nat_tests}
use Rattle.fsfs_revision.proofs.Roots.{one_more}
use Rattle.std.specs.Prelude.{◌⊎◌}
use Rattle.std.specs.Prelude.{Option, Some, None, Result, Ok, Err, IfOk, IfSome, option_map}
use Rattle.fsfs_base.specs.Paths.{PathName, Path}
use Rattle.fsfs_base.specs.declared.kind.Kind.TheVariants.{Dir}
use Rattle.fsfs_revision.specs.Told.{RevisionBytes}
use Rattle.fsfs_noderev.specs.declared.node_rev.NodeRev.{NodeRev}
use Rattle.fsfs_noderev.specs.declared.node_id.NodeId.{NodeId}
use Rattle.fsfs_noderev.specs.declared.node_rev.CopySource.{CopySource}
use Rattle.fsfs_revision.specs.Nodes.{is_ordered, pred_before, rep_before, source_before, root_not_after, place_before}
use Rattle.fsfs_revision.specs.declared.damage.RevOffset.{RevOffset}
use Rattle.fsfs_revision.specs.declared.wrong.Wrong.{Wrong}
use Rattle.fsfs_revision.specs.declared.wrong.ReadError.{ReadError}
use Rattle.fsfs_revision.specs.declared.wrong.ReadError.TheVariants as reads
use Rattle.fsfs_revision.specs.Damage.Readings.{Answers}
use Rattle.fsfs_revision.specs.Shows.Reading.{offset_of, RootOf, OfId, ChildOf, Met, Stands, Lacking, Blocked, MetAt}
use Rattle.fsfs_revision.specs.Shows.Shown.{source_by, copied_from}
use Rattle.fsfs_dag.specs.declared.node.PlacedNode.{PlacedNode}
use Rattle.fsfs_dag.specs.Views.{home_of}
use Rattle.fsfs_stands.specs.Steps.{Point, Lead, Back, Across, lead_of, PointAt, OfSource, AcrossCopy, Leads, HistoryStep}
use Rattle.fsfs_history.specs.declared.history.HistoryPoint.{HistoryPoint}
use Rattle.fsfs_history.specs.declared.history.Way.{Way}
use Rattle.fsfs_history.specs.declared.history.Way.TheVariants as ways
use Rattle.fsfs_history.specs.declared.history.Leading.{Leading}
use Rattle.fsfs_history.specs.declared.history.Leading.TheVariants as leadings
use Rattle.fsfs_history.specs.Points.{LeadsLower, lead_value, point_value, root_value, way_met, IsRootedWay, IsWithin, IsWayWithin, steps_to, height}
use Rattle.fsfs_dag.specs.TreeWalks.{rank}
use Rattle.fsfs_revision.specs.Shows.Chains.{copy_root_of}
use Rattle.fsfs_revision.specs.Ancestry.CopyRoots.{later_root, IsRootedFrom, IsRootedAt}

-- from the root on
pub rooted_from_root : (look : RevisionBytes) (rev : ℕ) (path : Path) (a : NodeRev) (root : ℕ × Path) → RootOf look rev (Ok a) → root ≡ copy_root_of a → (v : NodeRev) (last : ℕ × Path) → IsRootedFrom look a root path v last → IsRootedAt look rev path v last
rooted_from_root look rev path a root read is v last g = (a, read, subst (λ (x : ℕ × Path). IsRootedFrom look a x path v last) is g)

-- down one name
pub rooted_down : (look : RevisionBytes) (a u : NodeRev) (root now : ℕ × Path) (all names : Path) (name : PathName) → all ≡ name ∷ names → a.kind ≡ Dir → ChildOf look a name (Ok (Some u)) → now ≡ later_root root (copy_root_of u)
    → (v : NodeRev) (last : ℕ × Path) → IsRootedFrom look u now names v last → IsRootedFrom look a root all v last
rooted_down look a u root now all names name is dir child later v last g =
    subst (λ (p : Path). IsRootedFrom look a root p v last) (sym is) (dir, u, child, subst (λ (x : ℕ × Path). IsRootedFrom look u x names v last) later g)

-- at the end
pub rooted_end : (look : RevisionBytes) (a : NodeRev) (root : ℕ × Path) (all : Path) → all ≡ [] → IsRootedFrom look a root all a root
rooted_end look a root all is = subst (λ (p : Path). IsRootedFrom look a root p a root) (sym is) (refl, refl)

-- ---- the point at a path

pub point_met : (look : RevisionBytes) (r : ℕ) (p : Path) (way : Way) (a : HistoryPoint) → way ≡ ways.Point a → MetAt look r p (Ok (way_met way)) → IsRootedWay look r p way → PointAt look r p (Ok (Some (point_value a)))
point_met look r p way a is met rooted =
    let m : MetAt look r p (Ok (Stands a.found.node)) = subst (λ (w : Way). MetAt look r p (Ok (way_met w))) is met in
    let g : IsRootedWay look r p (ways.Point a) = subst (λ (w : Way). IsRootedWay look r p w) is rooted in
    (Stands a.found.node, m, (g.0, refl, g.1))

pub absent_met : (look : RevisionBytes) (r : ℕ) (p : Path) (way : Way) (n : ℕ) → way ≡ ways.Absent n → MetAt look r p (Ok (way_met way)) → PointAt look r p (Ok None)
absent_met look r p way n is met = (Lacking n, subst (λ (w : Way). MetAt look r p (Ok (way_met w))) is met, refl)

pub file_met : (look : RevisionBytes) (r : ℕ) (p : Path) (way : Way) (n : ℕ) → way ≡ ways.File n → MetAt look r p (Ok (way_met way)) → PointAt look r p (Ok None)
file_met look r p way n is met = (Blocked n, subst (λ (w : Way). MetAt look r p (Ok (way_met w))) is met, refl)

pub point_within : (r : ℕ) (way : Way) (a : HistoryPoint) → way ≡ ways.Point a → IsWayWithin r way → IsWithin r a
point_within r way a is h = subst (λ (w : Way). IsWayWithin r w) is h

-- ---- across a copy

module _ (look : RevisionBytes) (at : HistoryPoint) where
  abbrev From : Met → Result (Option Point) Wrong → Type 0
  From met = OfSource look (source_by at.root.path at.path met)

  pub across_wrong : (e : ReadError) → Answers way_met (MetAt look at.root.rev at.root.path) (Err e) → Answers (option_map point_value) (AcrossCopy look (point_value at)) (Err e)
  across_wrong (reads.Wrong w) h = inl h
  across_wrong reads.OutOfMemory h = tt
  across_wrong reads.DiskFault h = tt

  pub across_absent : (way : Way) (n : ℕ) → way ≡ ways.Absent n → MetAt look at.root.rev at.root.path (Ok (way_met way)) → AcrossCopy look (point_value at) (Ok None)
  across_absent way n is met = (Lacking n, subst (λ (w : Way). MetAt look at.root.rev at.root.path (Ok (way_met w))) is met, refl)

  pub across_file : (way : Way) (n : ℕ) → way ≡ ways.File n → MetAt look at.root.rev at.root.path (Ok (way_met way)) → AcrossCopy look (point_value at) (Ok None)
  across_file way n is met = (Blocked n, subst (λ (w : Way). MetAt look at.root.rev at.root.path (Ok (way_met w))) is met, refl)

  pub across_point : (way : Way) (a : HistoryPoint) (r : Result (Option HistoryPoint) ReadError) → way ≡ ways.Point a → MetAt look at.root.rev at.root.path (Ok (way_met way))
      → Answers (option_map point_value) (OfSource look (source_by at.root.path at.path (Stands a.found.node))) r → Answers (option_map point_value) (AcrossCopy look (point_value at)) r
  across_point way a (Ok next) is met h = (Stands a.found.node, subst (λ (w : Way). MetAt look at.root.rev at.root.path (Ok (way_met w))) is met, h)
  across_point way a (Err (reads.Wrong w)) is met h = inr (Stands a.found.node, subst (λ (x : Way). MetAt look at.root.rev at.root.path (Ok (way_met x))) is met, h)
  across_point way a (Err reads.OutOfMemory) is met h = tt
  across_point way a (Err reads.DiskFault) is met h = tt

  pub from_none : (copy : PlacedNode) (source : Option (ℕ × Path)) → source ≡ copied_from at.root.path at.path copy.node.copy_from → source ≡ None → OfSource look (source_by at.root.path at.path (Stands copy.node)) (Ok None)
  from_none copy source is none = subst (λ (o : Option (ℕ × Path)). OfSource look o (Ok None)) is (subst (λ (o : Option (ℕ × Path)). OfSource look o (Ok None)) (sym none) refl)

  pub from_some : (copy : PlacedNode) (source : Option (ℕ × Path)) (from : ℕ × Path) (r : Result (Option HistoryPoint) ReadError) → source ≡ copied_from at.root.path at.path copy.node.copy_from → source ≡ Some from
      → Answers (option_map point_value) (PointAt look from.0 from.1) r → Answers (option_map point_value) (OfSource look (source_by at.root.path at.path (Stands copy.node))) r
  from_some copy source from r is some h = subst (λ (o : Option (ℕ × Path)). Answers (option_map point_value) (OfSource look o) r) is (subst (λ (o : Option (ℕ × Path)). Answers (option_map point_value) (OfSource look o) r) (sym some) h)

-- ---- heights

steps_up_by : (a b : ℕ) → (a ≤ b → steps_to a ≤ steps_to b) → (a ≤ b) ⊎ (a ≡ suc b) → steps_to a ≤ steps_to (suc b)
steps_up_by a b more (inl h) = let k = more h in omega (arith, k)
steps_up_by a b more (inr e) = subst (λ (n : ℕ). steps_to n ≤ steps_to (suc b)) (sym e) (omega arith)

steps_up : (a b : ℕ) → a ≤ b → steps_to a ≤ steps_to b
steps_up a zero le = let e : a ≡ 0 = omega (arith, le) in subst (λ (n : ℕ). steps_to n ≤ steps_to 0) (sym e) (omega arith)
steps_up a (suc b) le = steps_up_by a b (λ h. steps_up a b h) (one_more a b le)

steps_more : (a b : ℕ) → a < b → steps_to a + b ≤ steps_to b
steps_more a zero less = absurd (omega (arith, less))
steps_more a (suc b) less = let k = steps_up a b (omega (arith, less)) in omega (arith, k)

low_rank : (home : RevOffset) (below : ℕ) → home.rev ≤ below → rank home < (below + 1) * 2 ^ 64
low_rank home below le = omega (arith, le)

pub height_falls : (at to : HistoryPoint) (below : ℕ) → below < at.root.rev → IsWithin below to → height to < height at
height_falls at to below less within =
    let own = within.own in
    let root = within.root in
    let a = steps_more to.root.rev at.root.rev (omega (arith, root, less)) in
    let b = low_rank (home_of to.found.node) below own in
    omega (arith, a, b, less)

-- ---- one step back

module _ (look : RevisionBytes) (at : HistoryPoint) (leading : Leading) (is_lead : lead_value leading ≡ lead_of (point_value at)) where
  step_as : (lead : Lead) (next : Result (Option Point) Wrong) → lead_value leading ≡ lead → Leads look (point_value at) lead next → HistoryStep look (point_value at) next
  step_as lead next e h = subst (λ (l : Lead). Leads look (point_value at) l next) (sym e ∙ is_lead) h

  module _ (id : NodeId) (back : leading ≡ leadings.Back id) where
    pub back_wrong : (e : ReadError) → Answers (λ (found : PlacedNode). found.node) (OfId look id) (Err e) → Answers (option_map point_value) (HistoryStep look (point_value at)) (Err e)
    back_wrong (reads.Wrong w) h = step_as (Back id) (Err w) (ap lead_value back) h
    back_wrong reads.OutOfMemory h = tt
    back_wrong reads.DiskFault h = tt

    pub back_goes : (to : HistoryPoint) → OfId look id (Ok to.found.node) → to.path ≡ at.path → to.root ≡ at.root → HistoryStep look (point_value at) (Ok (Some (point_value to)))
    back_goes to h path root = step_as (Back id) (Ok (Some (point_value to))) (ap lead_value back) (h, path, (λ i. root_value (root i)))

    pub back_lower : LeadsLower (home_of at.found.node) leading → (offset_of id.place).rev ≤ (home_of at.found.node).rev
    back_lower h = (subst (λ (l : Leading). LeadsLower (home_of at.found.node) l) back h).1

  pub across_goes : leading ≡ leadings.Across → (r : Result (Option HistoryPoint) ReadError) → Answers (option_map point_value) (AcrossCopy look (point_value at)) r → Answers (option_map point_value) (HistoryStep look (point_value at)) r
  across_goes is (Ok next) h = step_as Across (Ok (option_map point_value next)) (ap lead_value is) h
  across_goes is (Err (reads.Wrong w)) h = step_as Across (Err w) (ap lead_value is) h
  across_goes is (Err reads.OutOfMemory) h = tt
  across_goes is (Err reads.DiskFault) h = tt

pub across_falls : (at : HistoryPoint) (r : Result (Option HistoryPoint) ReadError) → IfOk r (λ next. IfSome next (λ to. (below : ℕ) × (below < at.root.rev) × IsWithin below to)) → IfOk r (λ next. IfSome next (λ to. height to < height at))
across_falls at (Ok (Some to)) h = height_falls at to h.0 h.1 h.2
across_falls at (Ok None) h = tt
across_falls at (Err e) h = tt
