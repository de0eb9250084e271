-- A point leads to one point at most, and a history has one text at most.
use Rattle.std.proofs.Common.{◌≡◌, ℕ, List, [], ◌∷◌, ◌++◌, refl, sym, ap, subst, ◌∙◌, append-nil, inl, inr}
use Rattle.std.specs.Prelude.{Result, Ok, Err, Option, Some, None}
use Rattle.fsfs_base.specs.Paths.{PathName, Path}
use Rattle.fsfs_revision.specs.Told.{RevisionBytes}
use Rattle.fsfs_noderev.specs.declared.node_id.NodeId.{NodeId}
use Rattle.fsfs_noderev.specs.declared.node_rev.NodeRev.{NodeRev}
use Rattle.fsfs_revision.specs.declared.wrong.Wrong.{Wrong}
use Rattle.fsfs_revision.specs.Damage.Readings.{HasOneAnswer}
use Rattle.fsfs_revision.specs.Shows.Reading.{ChildOf, Met, Stands, Lacking, Blocked, MetAt}
use Rattle.fsfs_revision.specs.Shows.Chains.{copy_root_of}
use Rattle.fsfs_revision.specs.Shows.Shown.{source_by}
use Rattle.fsfs_revision.proofs.OneAnswer.{ok_ap, err_ap, and_then_one}
use Rattle.fsfs_revision.proofs.OneAnswer.{ok_same, ok_no_err, err_same}
use Rattle.fsfs_revision.proofs.OneNode.{root_of_one}
use Rattle.fsfs_revision.proofs.OneWalk.{of_id_one, child_one, met_at_one}
use Rattle.fsfs_stands.specs.declared.look_fault.LookFault.TheVariants as faults
use Rattle.fsfs_stands.specs.Texts.{End, Whole, Refused}
use Rattle.fsfs_stands.specs.Agreeing.{IsFront, Agree, HasOneText}
use Rattle.fsfs_stands.proofs.OneText.{agree_behind, nothing_one, at_path_one, wrong_same}
use Rattle.fsfs_revision.specs.Ancestry.CopyRoots.{later_root, IsRootedFrom, IsRootedAt}
use Rattle.fsfs_stands.specs.Steps.{Point, IsPointIn, PointAt, Lead, Nowhere, Back, Across, lead_of, IsBefore, OfSource, AcrossCopy, Leads, HistoryStep}
use Rattle.fsfs_tree.specs.HistoryTexts.{history_head}
use Rattle.fsfs_stands.specs.HistoryTexts.{line_of, PointsText, OfLast, OfNext, OfWrong, Stops, HeadedText, MetHistory}
use Rattle.fsfs_stands.specs.Laws.{StepsAreOne, HistoriesHaveOneText}

pub child_same : (look : RevisionBytes) (a u w : NodeRev) (name : PathName) → ChildOf look a name (Ok (Some u)) → ChildOf look a name (Ok (Some w)) → u ≡ w
child_same look a u w name g h =
    let e = ok_same (Some u) (Some w) (child_one look a name (Ok (Some u)) (Ok (Some w)) g h) in
    cc

pub rooted_from_one : (look : RevisionBytes) (a : NodeRev) (root : ℕ × Path) (p : Path) (v w : NodeRev) (l m : ℕ × Path) → IsRootedFrom look a root p v l → IsRootedFrom look a root p w m → (v ≡ w) × (l ≡ m)
rooted_from_one look a root [] v w l m g h = (g.0 ∙ sym h.0, g.1 ∙ sym h.1)
rooted_from_one look a root (name ∷ names) v w l m g h =
    let same = child_same look a h.1 g.1 name h.2 g.2 in
    rooted_from_one look g.1 (later_root root (copy_root_of g.1)) names v w l m g.3 (subst (λ (u : NodeRev). IsRootedFrom look u (later_root root (copy_root_of u)) names w m) same h.3)

pub rooted_one : (look : RevisionBytes) (r : ℕ) (p : Path) (v w : NodeRev) (l m : ℕ × Path) → IsRootedAt look r p v l → IsRootedAt look r p w m → (v ≡ w) × (l ≡ m)
rooted_one look r p v w l m g h =
    let same = ok_same h.0 g.0 (root_of_one look r (Ok h.0) (Ok g.0) h.1 g.1) in
    rooted_from_one look g.0 (copy_root_of g.0) p v w l m g.2 (subst (λ (u : NodeRev). IsRootedFrom look u (copy_root_of u) p w m) same h.2)

point_same : (a b : Point) → a.path ≡ b.path → a.node ≡ b.node → a.root ≡ b.root → a ≡ b
point_same a b path node root = λ i. record { path = path i; node = node i; root = root i }

some_point : (a b : Point) → a ≡ b → (let r : Result (Option Point) Wrong = Ok (Some a) in r) ≡ Ok (Some b)
some_point a b e = ok_ap (Some a) (Some b) (ap (λ (x : Point). Some x) e)

is_point_one : (look : RevisionBytes) (r : ℕ) (p : Path) (met : Met) → HasOneAnswer (IsPointIn look r p met)
is_point_one look r p (Stands v) (Ok None) b g h = absurd g
is_point_one look r p (Stands v) (Err w) b g h = absurd g
is_point_one look r p (Stands v) (Ok (Some a)) (Ok None) g h = absurd h
is_point_one look r p (Stands v) (Ok (Some a)) (Err w) g h = absurd h
is_point_one look r p (Stands v) (Ok (Some a)) (Ok (Some b)) g h =
    some_point a b (point_same a b (g.0 ∙ sym h.0) (g.1 ∙ sym h.1) (rooted_one look r p v v a.root b.root g.2 h.2).1)
is_point_one look r p (Lacking n) a b g h = g ∙ sym h
is_point_one look r p (Blocked n) a b g h = g ∙ sym h

point_at_one : (look : RevisionBytes) (r : ℕ) (p : Path) → HasOneAnswer (PointAt look r p)
point_at_one look r p = and_then_one (MetAt look r p) (IsPointIn look r p) (met_at_one look r p) (is_point_one look r p)

before_one : (look : RevisionBytes) (at : Point) (id : NodeId) → HasOneAnswer (IsBefore look at id)
before_one look at id (Ok None) b g h = absurd g
before_one look at id (Ok (Some a)) (Ok None) g h = absurd h
before_one look at id (Ok (Some a)) (Ok (Some b)) g h =
    some_point a b (point_same a b (g.1 ∙ sym h.1) (ok_same a.node b.node (of_id_one look id (Ok a.node) (Ok b.node) g.0 h.0)) (g.2 ∙ sym h.2))
before_one look at id (Ok (Some a)) (Err w) g h = ok_no_err a.node w (of_id_one look id (Ok a.node) (Err w) g.0 h)
before_one look at id (Err w) (Ok None) g h = absurd h
before_one look at id (Err w) (Ok (Some b)) g h = ok_no_err b.node w (of_id_one look id (Ok b.node) (Err w) h.0 g)
before_one look at id (Err w) (Err x) g h = err_ap w x (err_same w x (of_id_one look id (Err w) (Err x) g h))

of_source_one : (look : RevisionBytes) (from : Option (ℕ × Path)) → HasOneAnswer (OfSource look from)
of_source_one look None a b g h = g ∙ sym h
of_source_one look (Some from) a b g h = point_at_one look from.0 from.1 a b g h

across_one : (look : RevisionBytes) (at : Point) → HasOneAnswer (AcrossCopy look at)
across_one look at = and_then_one (MetAt look at.root.0 at.root.1) (λ met. OfSource look (source_by at.root.1 at.path met)) (met_at_one look at.root.0 at.root.1) (λ met. of_source_one look (source_by at.root.1 at.path met))

leads_one : (look : RevisionBytes) (at : Point) (lead : Lead) → HasOneAnswer (Leads look at lead)
leads_one look at Nowhere a b g h = g ∙ sym h
leads_one look at (Back id) a b g h = before_one look at id a b g h
leads_one look at Across a b g h = across_one look at a b g h

pub steps_one : StepsAreOne
steps_one look at = leads_one look at (lead_of at)

-- ---- texts

none_no_some : {A : Type 0} (to : Point) → (let r : Result (Option Point) Wrong = Ok None in r) ≡ Ok (Some to) → A
none_no_some to e = absurd cc

same_front : (a : List ℕ) → IsFront a a
same_front a = ([], sym (append-nil a))

module _ (look : RevisionBytes) where
  -- the line of a point is the first of its text
  line_front : (at : Point) (b : List ℕ) (f : End) → PointsText look at b f → IsFront (line_of at) b
  line_front at b f (OfLast _ s) = same_front (line_of at)
  line_front at b f (OfNext _ to text _ s more) = (text, refl)
  line_front at b f (OfWrong _ w s) = same_front (line_of at)
  line_front at b f (Stops _) = same_front (line_of at)

  one_step : (at : Point) (a b : Result (Option Point) Wrong) → HistoryStep look at a → HistoryStep look at b → a ≡ b
  one_step at a b g h = steps_one look at a b g h

  last_agrees : (at : Point) → HistoryStep look at (Ok None) → (b : List ℕ) (f : End) → PointsText look at b f → Agree (line_of at) Whole b f
  last_agrees at s b f (OfLast _ t) = inl (refl, refl)
  last_agrees at s b f (OfNext _ to text _ t more) = none_no_some to (one_step at (Ok None) (Ok (Some to)) s t)
  last_agrees at s b f (OfWrong _ w t) = ok_no_err None w (one_step at (Ok None) (Err w) s t)
  last_agrees at s b f (Stops _) = inr (inr (refl, same_front (line_of at)))

  wrong_agrees : (at : Point) (w : Wrong) → HistoryStep look at (Err w) → (b : List ℕ) (f : End) → PointsText look at b f → Agree (line_of at) (Refused (faults.Wrong w)) b f
  wrong_agrees at w s b f (OfLast _ t) = ok_no_err None w (one_step at (Ok None) (Err w) t s)
  wrong_agrees at w s b f (OfNext _ to text _ t more) = ok_no_err (Some to) w (one_step at (Ok (Some to)) (Err w) t s)
  wrong_agrees at w s b f (OfWrong _ x t) = inl (refl, wrong_same w x (err_same w x (one_step at (Err w) (Err x) s t)))
  wrong_agrees at w s b f (Stops _) = inr (inr (refl, same_front (line_of at)))

  next_agrees : (at to : Point) (text : List ℕ) (end : End) → HistoryStep look at (Ok (Some to)) → ((b : List ℕ) (f : End) → PointsText look to b f → Agree text end b f)
      → (b : List ℕ) (f : End) → PointsText look at b f → Agree (line_of at ++ text) end b f
  next_agrees at to text end s each b f (OfLast _ t) = none_no_some to (one_step at (Ok None) (Ok (Some to)) t s)
  next_agrees at to text end s each b f (OfNext _ other more _ t rest) =
      let e = ok_same (Some other) (Some to) (one_step at (Ok (Some other)) (Ok (Some to)) t s) in
      let same : other ≡ to = cc in
      agree_behind (line_of at) text more end f (each more f (subst (λ (x : Point). PointsText look x more f) same rest))
  next_agrees at to text end s each b f (OfWrong _ w t) = ok_no_err (Some to) w (one_step at (Ok (Some to)) (Err w) s t)
  next_agrees at to text end s each b f (Stops _) = inr (inr (refl, (text, refl)))

  points_one : (at : Point) (a : List ℕ) (e : End) → PointsText look at a e → (b : List ℕ) (f : End) → PointsText look at b f → Agree a e b f
  points_one at a e (OfLast _ s) b f other = last_agrees at s b f other
  points_one at a e (OfNext _ to text end s rest) b f other = next_agrees at to text end s (λ c g h. points_one to text end rest c g h) b f other
  points_one at a e (OfWrong _ w s) b f other = wrong_agrees at w s b f other
  points_one at a e (Stops _) b f other = inr (inl (refl, line_front at b f other))

  headed_one : (at : Point) → HasOneText (HeadedText look at)
  headed_one at a b e f g h =
      let agree = agree_behind history_head g.points h.points e f (points_one at g.points e g.points_are h.points f h.points_are) in
      subst (λ (t : List ℕ). Agree a e t f) (sym h.text_is) (subst (λ (t : List ℕ). Agree t e (history_head ++ h.points) f) (sym g.text_is) agree)

  met_history_one : (rev : ℕ) (path : Path) (met : Met) → HasOneText (MetHistory look rev path met)
  met_history_one rev path (Stands v) a b e f g h =
      let e2 = ok_same (Some h.0) (Some g.0) (is_point_one look rev path (Stands v) (Ok (Some h.0)) (Ok (Some g.0)) h.1 g.1) in
      let same : h.0 ≡ g.0 = cc in
      headed_one g.0 a b e f g.2 (subst (λ (x : Point). HeadedText look x b f) same h.2)
  met_history_one rev path (Lacking names) a b e f g h = nothing_one (Refused (faults.NotFound names)) a b e f g h
  met_history_one rev path (Blocked names) a b e f g h = nothing_one (Refused (faults.NotDir names)) a b e f g h

pub histories_one : HistoriesHaveOneText
histories_one look rev path = at_path_one look rev path (MetHistory look rev path) (met_history_one look rev path)
