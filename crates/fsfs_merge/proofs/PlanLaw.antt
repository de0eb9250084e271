-- Where nothing clashes, the directories that a merge writes are those through which it goes, and they have what is there after it.
use Rattle.std.proofs.Common.{◌≡◌, ◌∙◌, ℕ, Bool, true, false, ◌&&◌, ◌||◌, List, [], ◌∷◌, ◌++◌, refl, sym, ap, subst, Option, Some, None}
use Rattle.std.specs.Prelude.{option_map, is_some, not, if◌then◌else◌}
use Rattle.std.specs.List.{AllByRecursion}
use mathlib.Core.Bool.{false≢true}
use Rattle.std.proofs.lemmas.Bool.{and_from, and_parts}
use Rattle.std.proofs.lemmas.Option.{same_Some}
use Rattle.fsfs_base.specs.Paths.{PathName, Path}
use Rattle.fsfs_model.specs.Flat.Landing.{reached}
use Rattle.fsfs_noderev.specs.declared.node_rev.NodeRev.{NodeRev}
use Rattle.fsfs_revision.specs.Shows.Reading.{DirEntry, named}
use Rattle.fsfs_dag.specs.Views.{entry_values}
use Rattle.fsfs_draft.specs.OwnSides.{NodesAt}
use Rattle.fsfs_draft.specs.Tied.{IsListed}
use Rattle.fsfs_merge.specs.declared.sight.Sight.{Sight}
use Rattle.fsfs_merge.specs.Walks.{merges, is_stopped, stays, down, is_own}
use Rattle.fsfs_merge.specs.FirstStops.{NoStop}
use Rattle.fsfs_merge.specs.MergeLaws.{is_merged, relinked, landed_nodes}
use Rattle.fsfs_merge.proofs.MergedLaw.{own_here}
use Rattle.fsfs_merge.specs.declared.clash.merged.MergedDir.{MergedDir}
use Rattle.fsfs_merge.specs.declared.clash.three.Target.{Target}
use Rattle.fsfs_merge.specs.declared.clash.turn.Halt.TheVariants as halts
use Rattle.fsfs_merge.specs.Clash.Lists.{link_of, target_named}
use Rattle.fsfs_merge.specs.Clash.Plans.{IsMergedDir, ArePlan, IsPlanned, ArePlanned}
use Rattle.fsfs_merge.specs.Clash.Points.{Point, sights_of, goes_down}
use Rattle.fsfs_merge.specs.Clash.Sights.{same_ids, go_on_in, same_props_in, sight, sights}
use Rattle.fsfs_merge.specs.Clash.Threes.{entry_target, node_target, has_id, takes_in, takes_head, three_of, merged_target}
use Rattle.fsfs_merge.proofs.DraftSeen.{halt_of, link_in, see_of}
use Rattle.fsfs_merge.proofs.FinerLaw.{IsShorter, reached_too}
use Rattle.fsfs_merge.proofs.Opening.{reached_push}
use Rattle.fsfs_merge.proofs.Planning.{merges_changed, merges_goes, goes_none, one_as}
use Rattle.fsfs_merge.proofs.Turns.{merged}

-- ---- an entry names what stands there

listed_of : (e : Option DirEntry) (o : Option NodeRev) → option_map entry_target e ≡ option_map node_target o → IsListed e o
listed_of None None h = tt
listed_of None (Some u) h = absurd (let g : None ≡ Some (node_target u) = h in cc)
listed_of (Some e) None h = absurd (let g : Some (entry_target e) ≡ None = h in cc)
listed_of (Some e) (Some u) h =
    let same : entry_target e ≡ node_target u = same_Some (entry_target e) (node_target u) h in
    (ap (λ (t : Target). t.id) same, ap (λ (t : Target). t.kind) same)

listed_own : (m : Bool) (y v : Option NodeRev) (e : Option DirEntry) → option_map entry_target e ≡ option_map node_target v → IsListed e (relinked m y v)
listed_own false y v e h = listed_of e v h
listed_own true y None e h = listed_of e None h
listed_own true None (Some v) e h = listed_of e (Some v) h
listed_own true (Some y) (Some v) e h = listed_of e (relinked true (Some y) (Some v)) h

-- ---- whose entry is there

some_target : (o : Option NodeRev) → is_some (option_map node_target o) ≡ is_some o
some_target None = refl
some_target (Some v) = refl

id_target : (x : NodeRev) (o : Option NodeRev) → has_id (node_target x) (option_map node_target o) ≡ same_ids (Some x) o
id_target x None = refl
id_target x (Some v) = refl

takes_is : (hs os go props : Bool) → (not hs && not os && not (go && props)) ≡ false → (os && not hs) ≡ not (hs || (not os && go))
takes_is true true go props h = refl
takes_is true false go props h = refl
takes_is false true go props h = refl
takes_is false false true props h = refl
takes_is false false false props h = absurd (false≢true (sym h))

takes : (n : ℕ) (x y v : Option NodeRev) → is_stopped (sight n x y v) ≡ false → takes_in (option_map node_target x) (option_map node_target y) (option_map node_target v) ≡ not (stays (sight n x y v))
takes n None y v h = ap not (some_target v)
takes n (Some a) y v h =
    (λ i. id_target a v i && not (id_target a y i)) ∙ takes_is (same_ids (Some a) y) (same_ids (Some a) v) (go_on_in n (Some a) y v) (same_props_in (Some a) y v) h

-- ---- a directory that is merged

halt_none : (b : Bool) → halt_of b ≡ None → b ≡ true
halt_none true h = refl
halt_none false h = absurd (let g : Some halts.Clash ≡ None = h in cc)

record Went (x y v : Option NodeRev) : Type 0 where
  base : NodeRev
  head : NodeRev
  own : NodeRev
  base_is : x ≡ Some base
  head_is : y ≡ Some head
  own_is : v ≡ Some own

went : (n : ℕ) (x y v : Option NodeRev) → go_on_in n x y v ≡ true → Went x y v
went n None y v h = absurd (false≢true h)
went n (Some a) None v h = absurd (false≢true h)
went n (Some a) (Some c) None h = absurd (false≢true h)
went n (Some a) (Some c) (Some e) h = record { base = a; head = c; own = e; base_is = refl; head_is = refl; own_is = refl }

-- the walk that goes no further at a path where it stops comes as far, where nothing stops it
reached_back : (q : Path) (s r : Path → Sight) → IsShorter s r → NoStop r [] → reached (down r) q ≡ true → reached (down s) q ≡ true
reached_back [] s r is clear h = refl
reached_back (x ∷ q) s r is clear h =
    let w = and_parts (merges (r [])) (reached (down (λ (p : Path). r (x ∷ p))) q) h in
    and_from _ _ (is.goes [] w.0 (clear []))
    (reached_back q (λ p. s (x ∷ p)) (λ p. r (x ∷ p)) (record { down = λ p m. is.down (x ∷ p) m; stops = λ p. is.stops (x ∷ p); goes = λ p m e. is.goes (x ∷ p) m e })
    (λ p. ap (λ (b : Bool). (b && reached (down (λ (z : Path). r (x ∷ z))) p) && is_stopped (r (x ∷ p))) (sym w.0) ∙ clear (x ∷ p)) w.1)

module _ (n : ℕ) (x y v : NodesAt) (shorter : IsShorter (sights_of (see_of n x y v)) (sights n x y v)) (clear : NoStop (sights n x y v) []) where
  abbrev points : Path → Point
  points = see_of n x y v

  abbrev long : Path → Sight
  long = sights n x y v

  not_stopped : (p : Path) → reached (down long) p ≡ true → is_stopped (long p) ≡ false
  not_stopped p r = ap (λ (b : Bool). b && is_stopped (long p)) (sym r) ∙ clear p

  planned : (p : Path) (dir : MergedDir) → IsMergedDir points p dir → IsPlanned long y v p dir
  planned p dir is =
      let at = points p in
      let both = halt_none (go_on_in n (x p) (y p) (v p) && same_props_in (x p) (y p) (v p)) is.goes in
      let w = went n (x p) (y p) (v p) ((and_parts _ _ both).0) in
      let some : is_some at.three.base ≡ true = ap (λ (o : Option NodeRev). is_some (option_map node_target o)) w.base_is in
      let down_short = (merged at.three.base at.three.head at.three.own (goes_down at.halt) some is.met.changed (ap goes_down is.goes)).0 in
      let m : merges (long p) ≡ true = shorter.down p down_short in
      let r : reached (down long) p ≡ true = reached_too p (sights_of points) long shorter is.met.comes in
      record {
        merged = and_from _ _ r m;
        y = w.head;
        v = w.own;
        head_is = w.head_is;
        own_is = w.own_is;
        link = same_Some dir.link (link_of w.head w.own.id) (sym is.link ∙ (λ i. link_in (w.head_is i) (w.own_is i)));
        listed = λ name. listed name (reached_push (down long) p name r m);
      }
    where
      listed : (name : PathName) → reached (down long) (p ++ name ∷ []) ≡ true → IsListed (named name (entry_values dir.entries.items)) (landed_nodes long y v (p ++ name ∷ []))
      listed name r = by (stays (long q)) refl
        where
          q : Path
          q = p ++ name ∷ []

          has : target_named (entry_values dir.entries.items) name ≡ merged_target (three_of (x q) (y q) (v q))
          has = is.entries name

          takes_here : takes_head (three_of (x q) (y q) (v q)) ≡ not (stays (long q))
          takes_here = takes n (x q) (y q) (v q) (not_stopped q r)

          by : (b : Bool) → stays (long q) ≡ b → IsListed (named name (entry_values dir.entries.items)) (landed_nodes long y v q)
          by true e =
              let mine : is_own long q ≡ true = own_here long q r ∙ e in
              let target = has ∙ ap (λ (b : Bool). if b then option_map node_target (y q) else option_map node_target (v q)) (takes_here ∙ ap not e) in
              subst (λ (b : Bool). IsListed (named name (entry_values dir.entries.items)) (if b then relinked (is_merged long q) (y q) (v q) else y q)) (sym mine)
              (listed_own (is_merged long q) (y q) (v q) (named name (entry_values dir.entries.items)) target)
          by false e =
              let head : is_own long q ≡ false = own_here long q r ∙ e in
              let target = has ∙ ap (λ (b : Bool). if b then option_map node_target (y q) else option_map node_target (v q)) (takes_here ∙ ap not e) in
              subst (λ (b : Bool). IsListed (named name (entry_values dir.entries.items)) (if b then relinked (is_merged long q) (y q) (v q) else y q)) (sym head)
              (listed_of (named name (entry_values dir.entries.items)) (y q) target)

  each : (dirs : List MergedDir) → AllByRecursion (λ (dir : MergedDir). (p : Path) × IsMergedDir points p dir) dirs → AllByRecursion (λ (dir : MergedDir). (p : Path) × IsPlanned long y v p dir) dirs
  each [] h = tt
  each (dir ∷ dirs) h = ((h.0.0, planned h.0.0 dir h.0.1), each dirs h.1)

  pub plan_leads : (dirs : List MergedDir) → ArePlan points dirs → ArePlanned long y v dirs
  plan_leads dirs plan = record {
    each = each dirs plan.each;
    all = λ p m.
        (let at = points p in
        let w = and_parts (reached (down long) p) (merges (long p)) m in
        let short = shorter.goes p w.1 (not_stopped p w.0) in
        let comes = reached_back p (sights_of points) long shorter clear w.0 in
        let changed = merges_changed at.three.base at.three.head at.three.own (goes_down at.halt) short in
        let goes = goes_none at.halt (merges_goes at.three.base at.three.head at.three.own (goes_down at.halt) short) in
        one_as (IsMergedDir points p) (IsPlanned long y v p) dirs (λ dir h. planned p dir h) (plan.all p (record { comes = comes; changed = changed }) goes));
  }
