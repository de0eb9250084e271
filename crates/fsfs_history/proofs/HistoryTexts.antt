-- How far the text of a history was written.
use Rattle.std.proofs.Common.{◌≡◌, ℕ, List, [], ◌++◌, refl, sym, ap, subst, ◌∙◌, append_assoc, append-nil, inl, inr}
use Rattle.std.specs.Prelude.{Option, Some, None, Result, Ok, Err, IfOk, option_map}
use Rattle.fsfs_base.specs.Paths.{Path}
use Rattle.fsfs_revision.specs.Told.{RevisionBytes}
use Rattle.fsfs_revision.specs.declared.wrong.ReadError.{ReadError}
use Rattle.fsfs_revision.specs.declared.wrong.ReadError.TheVariants as reads
use Rattle.fsfs_revision.specs.Damage.Readings.{Answers}
use Rattle.fsfs_revision.specs.Shows.Reading.{Stands, MetAt}
use Rattle.fsfs_stands.specs.declared.look_fault.LookFault.TheVariants as faults
use Rattle.fsfs_stands.specs.Texts.{End, Whole, Refused, Stopped}
use Rattle.fsfs_tree.specs.HistoryTexts.{history_head}
use Rattle.fsfs_stands.specs.Steps.{HistoryStep}
use Rattle.fsfs_stands.specs.HistoryTexts.{line_of, PointsText, OfLast, OfNext, OfWrong, Stops, HistoryText}
use Rattle.fsfs_history.specs.declared.history.HistoryPoint.{HistoryPoint}
use Rattle.fsfs_look.specs.declared.look_error.LookError.{LookError}
use Rattle.fsfs_look.specs.declared.look_error.LookError.TheVariants as errors
use Rattle.fsfs_look.specs.Errors.{of_read}
use Rattle.fsfs_history.specs.Points.{point_value, next_line, BehindText, LeftBehind, HistoryFrom, IsPointFound}
use Rattle.fsfs_look.specs.Walks.{Joins, JoinsSome, Walks}
use Rattle.fsfs_look.specs.Written.{Writes, WritesFront}
use Rattle.fsfs_revision.specs.Shows.Reading.{Lacking, Blocked}
use Rattle.fsfs_history.specs.declared.history.Way.{Way}
use Rattle.fsfs_history.specs.declared.history.Way.TheVariants as ways
use Rattle.fsfs_history.specs.Points.{way_met, IsRootedWay}
use Rattle.fsfs_look.proofs.ProgressLemmas.{Progress, adds_nothing, ends_here, stops_here, longer}

pub no_left : {A : Type 0} (o : Option A) → ((x : A) → o ≡ Some x → ⊥) → o ≡ None
no_left None h = refl
no_left (Some x) h = absurd (h x refl)

-- ---- behind a point

module _ (look : RevisionBytes) (at : HistoryPoint) where
  abbrev Behind : List ℕ → End → Type 0
  Behind = BehindText look (point_value at)

  line_alone : line_of (point_value at) ≡ line_of (point_value at) ++ []
  line_alone = sym (append-nil (line_of (point_value at)))

  pub behind_stops : BehindText look (point_value at) [] Stopped
  behind_stops = subst (λ (t : List ℕ). PointsText look (point_value at) t Stopped) line_alone (Stops (point_value at))

  behind_ends : HistoryStep look (point_value at) (Ok None) → BehindText look (point_value at) [] Whole
  behind_ends h = subst (λ (t : List ℕ). PointsText look (point_value at) t Whole) line_alone (OfLast (point_value at) h)

  module _ (R : List ℕ → End → Type 0) (before lines : List ℕ) (old new : Option (List ℕ)) (p : Progress R (BehindText look (point_value at)) before lines old new) where
    -- the step is not had
    pub step_fails : (e : ReadError) → Answers (option_map point_value) (HistoryStep look (point_value at)) (Err e) → Walks R before lines old new (Err (of_read e))
    step_fails (reads.Wrong w) h = (
      p.written,
      p.adds,
      ends_here R (BehindText look (point_value at)) before lines lines [] (Refused (faults.Wrong w)) old new p (sym (append-nil lines))
          (subst (λ (t : List ℕ). PointsText look (point_value at) t (Refused (faults.Wrong w))) line_alone (OfWrong (point_value at) w h)),
    )
    step_fails reads.OutOfMemory h = (p.written, p.adds, stops_here R (BehindText look (point_value at)) before lines old new p behind_stops)
    step_fails reads.DiskFault h = (p.written, p.adds, stops_here R (BehindText look (point_value at)) before lines old new p behind_stops)

    -- the line is not put
    pub line_fails : (now : List ℕ) → Walks R before now old new (Err errors.OutOfMemory)
    line_fails now = (p.written, p.adds, stops_here R (BehindText look (point_value at)) before lines old new p behind_stops)

    on_from : (next : Option HistoryPoint) → HistoryStep look (point_value at) (Ok (option_map point_value next)) → (text : List ℕ) (end : End) → LeftBehind look next text end → BehindText look (point_value at) (next_line next ++ text) end
    on_from None h text end left = subst (λ (t : List ℕ). BehindText look (point_value at) t end) (sym left.0) (subst (λ (e : End). BehindText look (point_value at) [] e) (sym left.1) (behind_ends h))
    on_from (Some to) h text end left = OfNext (point_value at) (point_value to) (line_of (point_value to) ++ text) end h left

    pub step_goes : (next : Option HistoryPoint) (now : List ℕ) → HistoryStep look (point_value at) (Ok (option_map point_value next)) → now ≡ lines ++ next_line next → Progress R (LeftBehind look next) before now old new
    step_goes next now h e = longer R (BehindText look (point_value at)) (LeftBehind look next) before lines now (next_line next) old new p e (on_from next h)

  -- ---- behind the heading

  pub none_yet : (now : List ℕ) (told : Option (List ℕ)) → Walks (HistoryFrom look (point_value at)) [] now told told (Err errors.OutOfMemory)
  none_yet now told = ([], adds_nothing told, (Stopped, [], ([], inl (refl, refl), refl)))

  module _ (now : List ℕ) (is : now ≡ history_head ++ line_of (point_value at)) where
    headed_on : (written : List ℕ) (end : End) (rest : List ℕ) → Joins (BehindText look (point_value at)) now written end rest → Joins (HistoryFrom look (point_value at)) [] written end rest
    headed_on written end rest (text, h, e) =
        (now ++ text, inr (record { points = line_of (point_value at) ++ text; points_are = h; text_is = ap (λ (t : List ℕ). t ++ text) is ∙ append_assoc history_head (line_of (point_value at)) text }), e)

    some_on : (written : List ℕ) → JoinsSome (BehindText look (point_value at)) now written → JoinsSome (HistoryFrom look (point_value at)) [] written
    some_on written (end, rest, h) = (end, rest, headed_on written end rest h)

    pub history_goes : (last : List ℕ) (old new : Option (List ℕ)) (r : Result (Unit {0}) LookError) → Walks (BehindText look (point_value at)) now last old new r → Walks (HistoryFrom look (point_value at)) [] last old new r
    history_goes last old new (Ok x) (written, adds, h) = (written, adds, headed_on written Whole last h)
    history_goes last old new (Err (errors.Fault fault)) (written, adds, h) = (written, adds, headed_on written (Refused fault) last h)
    history_goes last old new (Err errors.OutOfMemory) (written, adds, h) = (written, adds, some_on written h)
    history_goes last old new (Err errors.DiskFault) (written, adds, h) = (written, adds, some_on written h)
    history_goes last old new (Err errors.WriteFault) (written, adds, h) = (written, adds, some_on written h)

  pub history_at : (rev : ℕ) (path : Path) → IsPointFound look rev path (Ok at) → (text : List ℕ) (end : End) → HistoryFrom look (point_value at) text end → HistoryText look rev path text end
  history_at rev path found text end (inl none) = inl none
  history_at rev path found text end (inr h) = inr (inr (Stands at.found.node, found.0, (point_value at, (found.1, refl, found.2), h)))

-- ---- the point at the path

module _ (look : RevisionBytes) (rev : ℕ) (path : Path) (result : Result Way ReadError) (way : Way) (is : result ≡ Ok way) (told : Answers way_met (MetAt look rev path) result) where
  met : MetAt look rev path (Ok (way_met way))
  met = subst (λ (r : Result Way ReadError). Answers way_met (MetAt look rev path) r) is told

  pub found_point : (a : HistoryPoint) → way ≡ ways.Point a → IfOk result (IsRootedWay look rev path) → IsPointFound look rev path (Ok a)
  found_point a e rooted =
      let m : MetAt look rev path (Ok (Stands a.found.node)) = subst (λ (w : Way). MetAt look rev path (Ok (way_met w))) e met in
      let g : IsRootedWay look rev path way = subst (λ (r : Result Way ReadError). IfOk r (IsRootedWay look rev path)) is rooted in
      let h : IsRootedWay look rev path (ways.Point a) = subst (λ (w : Way). IsRootedWay look rev path w) e g in
      (m, h.0, h.1)

  pub found_absent : (n : ℕ) → way ≡ ways.Absent n → MetAt look rev path (Ok (Lacking n))
  found_absent n e = subst (λ (w : Way). MetAt look rev path (Ok (way_met w))) e met

  pub found_file : (n : ℕ) → way ≡ ways.File n → MetAt look rev path (Ok (Blocked n))
  found_file n e = subst (λ (w : Way). MetAt look rev path (Ok (way_met w))) e met

pub found_wrong : (look : RevisionBytes) (rev : ℕ) (path : Path) (e : ReadError) → Answers way_met (MetAt look rev path) (Err e) → IsPointFound look rev path (Err (of_read e))
found_wrong look rev path (reads.Wrong w) h = h
found_wrong look rev path reads.OutOfMemory h = tt
found_wrong look rev path reads.DiskFault h = tt

-- there is no point at the path: nothing is written
module _ (look : RevisionBytes) (rev : ℕ) (path : Path) (told : Option (List ℕ)) where
  nothing_front : WritesFront (HistoryText look rev path) told told
  nothing_front = ([], Stopped, inl (refl, refl), ([], [], refl, adds_nothing told))

  pub none_found : (e : LookError) → IsPointFound look rev path (Err e) → Writes (HistoryText look rev path) told told (Err e)
  none_found (errors.Fault (faults.NotFound names)) h = ([], inr (inr (Lacking names, h, (refl, refl))), adds_nothing told)
  none_found (errors.Fault (faults.NotDir names)) h = ([], inr (inr (Blocked names, h, (refl, refl))), adds_nothing told)
  none_found (errors.Fault (faults.Wrong w)) h = ([], inr (inl (w, h, (refl, refl))), adds_nothing told)
  none_found (errors.Fault faults.NotFile) h = absurd h
  none_found errors.OutOfMemory h = nothing_front
  none_found errors.DiskFault h = nothing_front
  none_found errors.WriteFault h = absurd h
