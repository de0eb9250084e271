-- One step of the walk.
use Rattle.std.proofs.Common.{◌≡◌, ◌∙◌, ◌≤◌, ℕ, true, false, List, [], ◌∷◌, ◌++◌, refl, sym, ap, subst, Option, Some, None, Ok, Err, inl, inr}
use Rattle.std.specs.Prelude.{is_some, Result, IfErr}
use Rattle.fsfs_base.specs.Paths.{PathName, Path}
use Rattle.fsfs_base.specs.declared.fields.txn_name.TxnName.{TxnName}
use Rattle.fsfs_revision.specs.declared.wrong.Wrong.{Wrong}
use Rattle.fsfs_revision.specs.declared.wrong.ReadError.{ReadError}
use Rattle.fsfs_revision.specs.declared.wrong.ReadError.TheVariants as errors
use Rattle.fsfs_base.specs.Counts.{Rose}
use Rattle.fsfs_revision.specs.Damage.Causes.{IfDisk, HasCause}
use Rattle.fsfs_revision.specs.Damage.Readings.{Answers}
use Rattle.fsfs_revision.specs.Told.{RevisionBytes}
use Rattle.fsfs_noderev.specs.declared.node_id.NodeId.{NodeId}
use Rattle.fsfs_noderev.specs.declared.node_rev.NodeRev.{NodeRev}
use Rattle.fsfs_noderev.specs.Ids.{place_value}
use Rattle.fsfs_noderev.proofs.Same.{id_same}
use Rattle.fsfs_dag.specs.Views.{AreBefore}
use Rattle.fsfs_draft.specs.Drafts.{Folder}
use Rattle.fsfs_merge.specs.FirstStops.{NoStop, FirstStop}
use Rattle.fsfs_merge.proofs.FirstStopLaw.{walks_find_the_first}
use Rattle.fsfs_draft.specs.Walks.{IsRootId}
use Rattle.fsfs_merge.specs.declared.clash.three.Target.{Target}
use Rattle.fsfs_merge.specs.declared.clash.three.Three.{Three}
use Rattle.fsfs_merge.specs.declared.clash.turn.Dirs.{Dirs}
use Rattle.fsfs_merge.specs.declared.clash.turn.Listing.{Listing}
use Rattle.fsfs_merge.specs.declared.clash.turn.Halt.{Halt}
use Rattle.fsfs_merge.specs.declared.clash.turn.Halt.TheVariants as halts
use Rattle.fsfs_merge.specs.declared.clash.turn.Turn.TheVariants as turns
use Rattle.fsfs_merge.specs.declared.clash.walk.Pending.{Pending}
use Rattle.fsfs_merge.specs.declared.clash.walk.Found.{Found}
use Rattle.fsfs_merge.specs.declared.clash.walk.Progress.{Progress}
use Rattle.fsfs_merge.specs.declared.clash.walk.Merge.{Merge}
use Rattle.fsfs_merge.specs.declared.clash.merged.Link.{Link}
use Rattle.fsfs_merge.specs.declared.clash.merged.MergedDir.{MergedDir}
use Rattle.fsfs_merge.specs.declared.clash.walk.Roots.{Roots}
use Rattle.fsfs_merge.specs.Clash.Dirs.{dirs_of, dirs_in}
use Rattle.fsfs_merge.specs.Clash.Lists.{Lists, three_in}
use Rattle.fsfs_merge.specs.Clash.Readings.{LookAt, AreDirsIn}
use Rattle.fsfs_merge.specs.Clash.Threes.{is_changed, merged_target}
use Rattle.fsfs_merge.specs.Clash.Turning.{lists_value, IsFailure, IsTurn, IsHome}
use Rattle.fsfs_merge.specs.Clash.Merges.{MergeFrom, MergeRooted}
use Rattle.fsfs_merge.specs.Clash.Plans.{IsMergedDir}
use Rattle.fsfs_merge.specs.Clash.Points.{Point, sights_of, goes_down, IsReadAs, IsSeen, IsSeenFrom}
use Rattle.fsfs_merge.specs.Clash.UnderWay.{IsPending, IsHalt, IsUnderWay, IsWalk, IsFirst, IsWalked, IsOpened, answer_of, answer_in, answered}
use Rattle.fsfs_merge.specs.Clash.Walks.{least, pending, root_three}
use Rattle.fsfs_merge.specs.Clash.Weights.{weight, weight_in}
use Rattle.fsfs_merge.proofs.Turns.{unchanged, merged, stopped}
use Rattle.std.proofs.lemmas.Bool.{both_ways}
use mathlib.Core.Bool.{false≢true}
use Rattle.fsfs_merge.proofs.Planning.{planned_halt, planned_open, none_planned}
use Rattle.fsfs_merge.proofs.Opening.{all_front, found, found_halts, still, left, ends}

-- ---- want of memory

pub memory_failure : {X : Type 0} (r : Result X ReadError) → IfErr r (λ e. e ≡ errors.OutOfMemory) → IfErr r IsFailure
memory_failure (Ok x) h = tt
memory_failure (Err e) h = subst IsFailure (sym h) tt

pub memory_cause : {X : Type 0} (before now : ℕ) (r : Result X ReadError) → before ≤ now → IfErr r (λ e. e ≡ errors.OutOfMemory) → HasCause before now r
memory_cause before now (Ok x) le h = record { later = le; failed = tt }
memory_cause before now (Err e) le h = record { later = le; failed = subst (λ (z : ReadError). IfDisk z (Rose before now)) (sym h) tt }

-- ---- a path at which the walk goes no further

-- where entries were read the base has a directory
base_read : (look : RevisionBytes) (f : Folder) (n : ℕ) (x y v : Option Target) (lists : Lists) → LookAt look f n (dirs_of x y v) (Ok (Some lists)) → is_some x ≡ true
base_read look f n None y v lists h = absurd (let g = h in cc)
base_read look f n (Some x) y v lists h = refl

halt_read : (look : RevisionBytes) (f : Folder) (n : ℕ) (o : Option Dirs) (see : Path → Point) (p : Path) (halt : Halt) → ((r : Result (Option Lists) Wrong) → LookAt look f n o r → IsReadAs see p r) → IsTurn (LookAt look f n o) (turns.Halts halt) → (see p).halt ≡ Some halt
halt_read look f n o see p halts.Clash read h = read (Ok None) h
halt_read look f n o see p (halts.Wrong w) read h = read (Err w) h

module _ (look : RevisionBytes) (top : ℕ) (f : Folder) (n : ℕ) (see : Path → Point) (seen : IsSeen look top f n see) where
  -- the way to it is within what is told
  pub next_within : (todo : List Pending) (next : Pending) (first : Option Found) (dirs : List MergedDir) → IsUnderWay see (todo ++ next ∷ []) first dirs → AreDirsIn top f (dirs_in next.three)
  next_within todo next first dirs was =
      let is = (all_front (IsPending see) todo next was.pending).1 in
      subst (λ (t : Three). AreDirsIn top f (dirs_in t)) (sym is.three) (seen.within next.path is.met)

  pub halt_step : (todo : List Pending) (next : Pending) (halt : Halt) (first : Option Found) (dirs : List MergedDir) → IsUnderWay see (todo ++ next ∷ []) first dirs → IsTurn (LookAt look f n (dirs_in next.three)) (turns.Halts halt)
      → IsUnderWay see todo (Some (least first (record { path = next.path; halt = halt }))) dirs
  halt_step todo next halt first dirs was turn =
      let front = all_front (IsPending see) todo next was.pending in
      let is = front.1 in
      let at = see next.path in
      let h = halt_read look f n (dirs_in at.three) see next.path halt (seen.read next.path is.met) (subst (λ (t : Three). IsTurn (LookAt look f n (dirs_in t)) (turns.Halts halt)) is.three turn) in
      let s = stopped at.three.base at.three.head at.three.own (goes_down at.halt) is.met.changed (ap goes_down h) in
      record {
        pending = front.0;
        all = found see todo next halt first is s was.all;
        halts = found_halts see next halt first is s h was.halts;
        plan = planned_halt see todo next halt dirs h was.plan;
      }

  pub open_step : (todo : List Pending) (next : Pending) (listing : Listing) (first : Option Found) (dirs : List MergedDir) (new : List Pending) (dir : MergedDir) → IsUnderWay see (todo ++ next ∷ []) first dirs
      → IsTurn (LookAt look f n (dirs_in next.three)) (turns.Down listing) → IsOpened (lists_value listing) next.path todo new dir → IsUnderWay see new first (dirs ++ dir ∷ [])
  open_step todo next listing first dirs new dir was turn o =
      let front = all_front (IsPending see) todo next was.pending in
      let is = front.1 in
      let at = see next.path in
      let l = lists_value listing in
      let down = subst (λ (t : Three). IsTurn (LookAt look f n (dirs_in t)) (turns.Down listing)) is.three turn in
      let here = seen.read next.path is.met (Ok (Some l)) down in
      let has = base_read look f n at.three.base at.three.head at.three.own l down in
      let m = merged at.three.base at.three.head at.three.own (goes_down at.halt) has is.met.changed (ap goes_down here.goes) in
      let listed = o.listed in
      let lists : (name : PathName) → three_in o.sides name ≡ (see (next.path ++ name ∷ [])).three
      = λ name. (λ i. record { base = listed.base name i; head = listed.head name i; own = listed.own name i }) ∙ sym (here.entries name) in
      let written : IsMergedDir see next.path dir = record {
        met = is.met;
        goes = here.goes;
        link = here.link ∙ ap (λ (k : Link). Some k) (sym o.link);
        entries = λ name. o.entries name ∙ ap merged_target (lists name);
      } in
      subst (λ (t : List Pending). IsUnderWay see t first (dirs ++ dir ∷ [])) (sym o.new_is) (record {
        pending = still see next is o.sides lists m.0 m.1 todo front.0;
        all = left see next is o.sides lists m.0 m.1 todo first was.all;
        halts = was.halts;
        plan = planned_open see next o.sides lists todo dirs dir written was.plan;
      })

-- ---- the first and the last step

no_halt : (see : Path → Point) (c : Found) → None ≡ Some c → IsHalt see c
no_halt see c e = absurd (let g : None ≡ Some c = e in cc)

pub roots_walk : (roots : Roots) (see : Path → Point) → (see []).three ≡ root_three roots → is_changed (root_three roots) ≡ true → IsWalk see (pending [] (root_three roots) ∷ [])
roots_walk roots see root c = record {
  pending = (record { three = sym root; met = record { comes = refl; changed = subst (λ (t : Three). is_changed t ≡ true) (sym root) c } }, tt);
  all = λ q h. inl refl;
  halts = no_halt see;
  plan = record { each = tt; all = λ p met goes. inl refl };
}

pub roots_quiet : (roots : Roots) (see : Path → Point) → (see []).three ≡ root_three roots → is_changed (root_three roots) ≡ false → IsWalk see []
roots_quiet roots see root c =
    let at = see [] in
    let same = subst (λ (t : Three). is_changed t ≡ false) (sym root) c in
    let w = unchanged at.three.base at.three.head at.three.own (goes_down at.halt) same in
    let none : NoStop (sights_of see) [] = walks_find_the_first.left (sights_of see) [] w.0 w.1 in
    record {
      pending = tt;
      all = λ q h. absurd (both_ways _ (none q) h);
      halts = no_halt see;
      plan = none_planned see same;
    }

pub walk_ends : (see : Path → Point) (walk : Progress) → walk.todo.items ≡ [] → IsUnderWay see walk.todo.items walk.first walk.dirs.items → IsWalked see walk
walk_ends see walk none was =
    let w = subst (λ (t : List Pending). IsUnderWay see t walk.first walk.dirs.items) none was in
    record {
      first = ends see walk.first w.halts w.all;
      dirs = record {
        each = w.plan.each;
        all = λ p met goes. elim (w.plan.all p met goes) [
          | inl h ↦ absurd (false≢true h)
          | inr h ↦ h
        ];
      };
    }

-- ---- the answer

abbrev pub this : Merge → Merge
this m = m

answer_is : (see : Path → Point) (path : Path) (halt : Halt) → FirstStop (sights_of see) [] path → (see path).halt ≡ Some halt → Answers this (MergeFrom see) (answer_of path halt)
answer_is see path halts.Clash h is = (h, is)
answer_is see path (halts.Wrong w) h is = (path, h, is)

pub answers_walk : (see : Path → Point) (walk : Progress) → IsWalked see walk → Answers this (MergeFrom see) (answered walk)
answers_walk see walk w = by walk.first w.first
  where
    by : (o : Option Found) → IsFirst see o → Answers this (MergeFrom see) (answer_in o walk.dirs)
    by None h = (h, w.dirs)
    by (Some found) h = answer_is see found.path found.halt h.0 h.1

pub answers_fail : (see : Path → Point) (e : ReadError) → IsFailure e → Answers this (MergeFrom see) (Err e)
answers_fail see errors.OutOfMemory h = tt
answers_fail see errors.DiskFault h = tt
answers_fail see (errors.Wrong w) h = absurd h

-- a transaction has one root
pub root_same : (txn : TxnName) (a b : NodeId) → IsRootId txn a → IsRootId txn b → a ≡ b
root_same txn a b h g = id_same a b (λ i. record { node = (h.node ∙ sym g.node) i; copy = (h.copy ∙ sym g.copy) i; place = place_value ((h.place ∙ sym g.place) i) })

pub answers_from : (look : RevisionBytes) (top : ℕ) (txn : TxnName) (f : Folder) (n : ℕ) (x y : NodeRev) (own : NodeId) (see : Path → Point) (result : Result Merge ReadError) → IsRootId txn own
    → (IsSeenFrom look top f n (record { base = x.id; head = y.id; own = own }) see → Answers this (MergeFrom see) result) → Answers this (MergeRooted look top txn f n x y see) result
answers_from look top txn f n x y own see result root h = by result h
  where
    from : (other : NodeId) → IsRootId txn other → IsSeenFrom look top f n (record { base = x.id; head = y.id; own = other }) see → IsSeenFrom look top f n (record { base = x.id; head = y.id; own = own }) see
    from other is seen = subst (λ (id : NodeId). IsSeenFrom look top f n (record { base = x.id; head = y.id; own = id }) see) (root_same txn other own is root) seen

    by : (result : Result Merge ReadError) → (IsSeenFrom look top f n (record { base = x.id; head = y.id; own = own }) see → Answers this (MergeFrom see) result) → Answers this (MergeRooted look top txn f n x y see) result
    by (Ok m) h = λ other is seen. h (from other is seen)
    by (Err (errors.Wrong w)) h = λ other is seen. h (from other is seen)
    by (Err errors.OutOfMemory) h = tt
    by (Err errors.DiskFault) h = tt

-- ---- weights

pub turn_weight : (base : Option Target) (lists : Listing) → IsHome lists base → weight_in base ≡ weight lists.home
turn_weight None lists h = absurd h
turn_weight (Some t) lists h = ap weight (sym h.0)

pub turn_before : (base : Option Target) (lists : Listing) → IsHome lists base → AreBefore lists.home lists.base.items
turn_before None lists h = absurd h
turn_before (Some t) lists h = h.1
