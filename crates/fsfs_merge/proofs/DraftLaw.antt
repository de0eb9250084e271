-- Over a draft the first path at which the walk goes no further is the flat model's first clash.
use Rattle.std.proofs.Common.{◌≡◌, ◌∙◌, ◌≤◌, ℕ, suc, Bool, true, false, ◌&&◌, List, [], Option, Some, None, Ok, Err, refl, sym, ap, inl, inr, arith}
use Rattle.std.specs.Prelude.{option_map, is_some, not, Result, if◌then◌else◌}
use mathlib.Core.Bool.{false≢true}
use Rattle.std.proofs.lemmas.Bool.{and_from, and_parts}
use Rattle.std.proofs.lemmas.Option.{same_Some}
use Rattle.fsfs_base.specs.Paths.{Path}
use Rattle.fsfs_base.specs.declared.kind.Kind.TheVariants.{Dir}
use Rattle.fsfs_tree.specs.Nodes.{TreeFunction}
use Rattle.fsfs_base.specs.declared.fields.txn_name.TxnName.{TxnName}
use Rattle.fsfs_revision.specs.declared.wrong.Wrong.{Wrong}
use Rattle.fsfs_revision.specs.declared.wrong.ReadError.{ReadError}
use Rattle.fsfs_revision.specs.declared.wrong.ReadError.TheVariants as errors
use Rattle.fsfs_revision.specs.Damage.Readings.{HasOneAnswer, Answers}
use Rattle.fsfs_revision.proofs.OneAnswer.{ok_no_err}
use Rattle.fsfs_revision.specs.Told.{RevisionBytes}
use Rattle.fsfs_noderev.specs.declared.node_id.NodeId.{NodeId}
use Rattle.fsfs_noderev.specs.declared.node_rev.NodeRev.{NodeRev}
use Rattle.fsfs_revision.specs.Shows.Reading.{RootOf, StandsAt}
use Rattle.fsfs_revision.proofs.OneNode.{root_of_one}
use Rattle.fsfs_revision.proofs.OneWalk.{of_id_one, stands_same}
use Rattle.fsfs_revision.proofs.TreeLaw.{root_home}
use Rattle.fsfs_revision.specs.Ancestry.Trees.{ShowTrees}
use Rattle.fsfs_revision.proofs.Earlier.{root_there, stands_of_id}
use Rattle.fsfs_model.specs.declared.flat.mark.Mark.{Mark}
use Rattle.fsfs_model.specs.Flat.Landing.{NoClash, IsFirstClash}
use Rattle.fsfs_model.specs.Flat.Transactions.{IsTransaction}
use Rattle.fsfs_draft.specs.Own.{Own}
use Rattle.fsfs_draft.specs.Drafts.{Kept, Folder}
use Rattle.fsfs_draft.specs.OwnSides.{NodesAt}
use Rattle.fsfs_draft.specs.Met.{draft_nodes, AreNodes}
use Rattle.fsfs_draft.specs.Whole.{IsDraftOf, IsHanded}
use Rattle.fsfs_draft.proofs.HangLaw as hanging
use Rattle.fsfs_draft.proofs.Hanging.{revision_hangs}
use Rattle.fsfs_draft.proofs.WholeLaw.{drafts_are_handed}
use Rattle.fsfs_merge.specs.declared.sight.Sight.{Sight}
use Rattle.fsfs_merge.specs.Walks.{merges, is_stopped}
use Rattle.fsfs_merge.specs.FirstStops.{NoStop, FirstStop}
use Rattle.fsfs_merge.specs.MergeLaws.{IsMerge}
use Rattle.fsfs_merge.proofs.MergeLaw.{merging_is_by_ids}
use Rattle.fsfs_merge.proofs.LandedWholeLaw.{merges_take_and_leave}
use Rattle.fsfs_draft.specs.Walks.{IsRootId}
use Rattle.fsfs_merge.specs.declared.clash.turn.Halt.{Halt}
use Rattle.fsfs_merge.specs.declared.clash.turn.Halt.TheVariants as halts
use Rattle.fsfs_merge.specs.declared.clash.merged.MergedDir.{MergedDir}
use Rattle.fsfs_merge.specs.declared.clash.walk.Merge.{Merge}
use Rattle.fsfs_merge.specs.declared.clash.walk.Merge.TheVariants as found_merges
use Rattle.fsfs_merge.specs.Clash.Merges.{MergeFrom, MergeRooted, MergeOf, LeadOn, FindsMerge}
use Rattle.fsfs_merge.specs.Clash.Plans.{ArePlan}
use Rattle.fsfs_merge.specs.Clash.Points.{Point, sights_of, sight_with, has_same, goes_down, IsSeenFrom}
use Rattle.fsfs_merge.specs.Clash.Readings.{kept_in, NodeOfKept, NodeOf}
use Rattle.fsfs_merge.specs.Clash.Sights.{same_ids, go_on_in, same_props_in, sights}
use Rattle.fsfs_merge.specs.Clash.Threes.{node_target}
use Rattle.fsfs_merge.specs.Clash.Walks.{root_target}
use Rattle.fsfs_merge.proofs.DraftSeen.{halt_of, see_of, seen}
use Rattle.fsfs_merge.proofs.FinerLaw.{IsShorter, no_stop, first_stop}
use Rattle.fsfs_merge.proofs.NodesOf.{nodes_of, are_nodes}
use Rattle.fsfs_merge.proofs.SideSeen.{met_read}
use Rattle.fsfs_merge.proofs.ClashSightLaw.{sight_is}
use Rattle.fsfs_merge.proofs.PlanLaw.{plan_leads}
use Rattle.fsfs_merge.proofs.Stepping.{root_same, this}

-- ---- what is read is one

kept_one : (look : RevisionBytes) (k : Option Kept) (id : NodeId) → HasOneAnswer (NodeOfKept look k id)
kept_one look None id = of_id_one look id
kept_one look (Some k) id = λ a b h g. h ∙ sym g

node_one : (look : RevisionBytes) (f : Folder) (id : NodeId) → HasOneAnswer (NodeOf look f id)
node_one look f id = kept_one look (kept_in f id) id

-- ---- the walk, and that of the merge by ids

same_seen : (x y : Option NodeRev) → has_same (option_map node_target x) (option_map node_target y) ≡ same_ids x y
same_seen None y = refl
same_seen (Some x) None = refl
same_seen (Some x) (Some y) = refl

there_seen : (x : Option NodeRev) → is_some (option_map node_target x) ≡ is_some x
there_seen None = refl
there_seen (Some x) = refl

down_seen : (b : Bool) → goes_down (halt_of b) ≡ b
down_seen true = refl
down_seen false = refl

abbrev short : Bool → Bool → Bool → Bool → Bool → Bool → Sight
short i h o hs os down = record { in_base = i; in_head = h; in_own = o; head_same = hs; own_same = os; goes_on = down; same_props = down }

abbrev long : Bool → Bool → Bool → Bool → Bool → Bool → Bool → Sight
long i h o hs os go props = record { in_base = i; in_head = h; in_own = o; head_same = hs; own_same = os; goes_on = go; same_props = props }

short_is : (x y v : Option NodeRev) (b : Bool) → sight_with (option_map node_target x) (option_map node_target y) (option_map node_target v) (goes_down (halt_of b)) ≡ short (is_some x) (is_some y) (is_some v) (same_ids x y) (same_ids x v) b
short_is x y v b = λ i. short (there_seen x i) (there_seen y i) (there_seen v i) (same_seen x y i) (same_seen x v i) (down_seen b i)

both_same : (b : Bool) → (b && b) ≡ b
both_same true = refl
both_same false = refl

short_down : (i h o hs os go props : Bool) → merges (short i h o hs os (go && props)) ≡ true → merges (long i h o hs os go props) ≡ true
short_down i h o hs os go props m = let w = and_parts (i && not hs && not os) (go && props) m in and_from _ _ w.0 ((and_parts go props w.1).0)

short_stops : (i h o hs os go props : Bool) → is_stopped (short i h o hs os (go && props)) ≡ is_stopped (long i h o hs os go props)
short_stops i h o hs os go props = ap (λ (b : Bool). if i then not hs && not os && not b else h && o) (both_same (go && props))

short_goes : (i h o hs os go props : Bool) → merges (long i h o hs os go props) ≡ true → is_stopped (long i h o hs os go props) ≡ false → merges (short i h o hs os (go && props)) ≡ true
short_goes false h o hs os go props m s = absurd (false≢true m)
short_goes true h o hs os go true m s = let w = and_parts (not hs && not os) go m in and_from _ _ w.0 (and_from _ _ w.1 refl)
short_goes true h o hs os go false m s =
    let w = and_parts (not hs && not os) go m in
    let apart : not (go && false) ≡ true = ap (λ (b : Bool). not (b && false)) w.1 in
    absurd (false≢true (sym s ∙ and_from _ _ w.0 apart))

shorter : (n : ℕ) (x y v : NodesAt) → IsShorter (sights_of (see_of n x y v)) (sights n x y v)
shorter n x y v = record {
  down = λ p m.
      short_down (is_some (x p)) (is_some (y p)) (is_some (v p)) (same_ids (x p) (y p)) (same_ids (x p) (v p)) (go_on_in n (x p) (y p) (v p)) (same_props_in (x p) (y p) (v p))
      (sym (ap merges (short_is (x p) (y p) (v p) (go_on_in n (x p) (y p) (v p) && same_props_in (x p) (y p) (v p)))) ∙ m);
  stops = λ p.
      ap is_stopped (short_is (x p) (y p) (v p) (go_on_in n (x p) (y p) (v p) && same_props_in (x p) (y p) (v p)))
      ∙ short_stops (is_some (x p)) (is_some (y p)) (is_some (v p)) (same_ids (x p) (y p)) (same_ids (x p) (v p)) (go_on_in n (x p) (y p) (v p)) (same_props_in (x p) (y p) (v p));
  goes = λ p m s.
      ap merges (short_is (x p) (y p) (v p) (go_on_in n (x p) (y p) (v p) && same_props_in (x p) (y p) (v p)))
      ∙ short_goes (is_some (x p)) (is_some (y p)) (is_some (v p)) (same_ids (x p) (y p)) (same_ids (x p) (v p)) (go_on_in n (x p) (y p) (v p)) (same_props_in (x p) (y p) (v p)) m s;
}

-- ---- a draft

never_wrong : (b : Bool) (w : Wrong) → halt_of b ≡ Some (halts.Wrong w) → ⊥
never_wrong true w h = let g : (let o : Option Halt = None in o) ≡ Some (halts.Wrong w) = h in cc
never_wrong false w h = let g : (let o : Option Halt = Some halts.Clash in o) ≡ Some (halts.Wrong w) = h in let k = same_Some halts.Clash (halts.Wrong w) g in cc

root_seen : (o : Option NodeRev) (v : NodeRev) (id : NodeId) → o ≡ Some v → v.kind ≡ Dir → v.id ≡ id → option_map node_target o ≡ Some (root_target id)
root_seen o v id is dir same = ap (option_map node_target) is ∙ (λ i. Some (record { kind = dir i; id = same i }))

module _ (look : RevisionBytes) (top base head : ℕ) (trees : ℕ → TreeFunction) (shows : ShowTrees look top trees) (order : base ≤ head) (within : head ≤ top)
    (txn : TxnName) (f : Folder) (tree : TreeFunction) (marks : List Mark) (is : IsTransaction trees top base tree marks) (d : IsDraftOf look trees top base txn f tree marks) where
  le : base ≤ top
  le = omega (arith, order, within)

  abbrev nodes : ℕ → NodesAt
  nodes = nodes_of look top trees shows.each

  are : AreNodes look top nodes
  are = are_nodes look top trees shows.each

  abbrev own : Own
  own = d.shows.own

  abbrev met : NodesAt
  met = draft_nodes nodes own (nodes base)

  hand : IsHanded look trees top base nodes own tree marks
  hand = drafts_are_handed.handed look trees top base nodes txn f tree marks shows.each are le d

  abbrev pub see : Path → Point
  see = see_of base (nodes base) (nodes head) met

  -- ---- the roots

  root_dir : (r : ℕ) → r ≤ top → (v : NodeRev) → RootOf look r (Ok v) → (nodes r [] ≡ Some v) × (v.kind ≡ Dir)
  root_dir r low v of =
      let at : StandsAt look r [] v = (v, of, refl) in
      (((are r low).each [] v).1 at, (root_home look r v of).2)

  own_root : (id : NodeId) → IsRootId txn id → option_map node_target (met []) ≡ Some (root_target id)
  own_root id root =
      let v = d.shows.is_draft.root in
      let here : met [] ≡ Some v.node = hanging.met_own look top base trees nodes shows.each are le txn f own d.shows.is_draft [] v d.shows.is_draft.root_is in
      let mine : IsRootId txn v.node.id = record { node = d.shows.is_draft.root_id.0; copy = d.shows.is_draft.root_id.1; place = d.shows.is_draft.places [] v d.shows.is_draft.root_is } in
      let w = hand.hangs.root in
      let same : w.0 ≡ v.node = same_Some w.0 v.node (sym w.2 ∙ here) in
      let kind : w.0.kind ≡ w.1.kind = (hand.hangs.pred [] w.0 w.1 w.2 w.4 (w.1.id, w.5, stands_of_id look base [] w.1 w.3)).1 in
      let a = root_there look top trees shows base le in
      let first : w.1 ≡ a.0 = stands_same look base [] w.1 a.0 w.3 (a.0, a.1, refl) in
      let dir : v.node.kind ≡ Dir = ap (λ (z : NodeRev). z.kind) (sym same) ∙ kind ∙ ap (λ (z : NodeRev). z.kind) first ∙ (root_dir base le a.0 a.1).1 in
      root_seen (met []) v.node id here dir (root_same txn v.node.id id mine root)

  seen_from : (x y : NodeRev) (id : NodeId) → RootOf look base (Ok x) → RootOf look head (Ok y) → IsRootId txn id → IsSeenFrom look top f base (record { base = x.id; head = y.id; own = id }) see
  seen_from x y id of_x of_y root =
      let rx = root_dir base le x of_x in
      let ry = root_dir head within y of_y in
      let tx = root_seen (nodes base []) x x.id rx.0 rx.1 refl in
      let ty = root_seen (nodes head []) y y.id ry.0 ry.1 refl in
      let tv = own_root id root in
      record {
        root = λ i. record { base = tx i; head = ty i; own = tv i };
        seen = seen look top f base head trees (nodes base) (nodes head) met (revision_hangs look top trees nodes shows.each are base le) (revision_hangs look top trees nodes shows.each are head within)
            (λ p u e. met_read look top base trees nodes shows.each are le txn f own d.shows.is_draft tree d.shows.each (hand.draws (suc top) (omega arith)).paths.there p u e) (node_one look f);
      }

  -- ---- the answer

  merge : IsMerge look top trees base head tree marks (nodes base) (nodes head) met (sights base (nodes base) (nodes head) met)
  merge = merges_take_and_leave.takes look top trees base head tree marks nodes (sights base (nodes base) (nodes head) met) txn f shows are is order within d (λ p. sight_is base (nodes base p) (nodes head p) (met p))

  abbrev Flat : Result Merge ReadError → Type 0
  Flat = FindsMerge look top trees base head own tree marks

  clear : NoStop (sights_of see) [] → NoClash base (trees base) (trees head) tree marks
  clear none q =
      sym (merging_is_by_ids.clash look top trees base head tree marks (nodes base) (nodes head) met _ merge q) ∙ no_stop (sights_of see) (sights base (nodes base) (nodes head) met) (shorter base (nodes base) (nodes head) met) none q

  first : (c : Path) → FirstStop (sights_of see) [] c → IsFirstClash base (trees base) (trees head) tree marks c
  first c stop =
      let real = first_stop (sights_of see) (sights base (nodes base) (nodes head) met) (shorter base (nodes base) (nodes head) met) c stop in
      record {
        clashes = sym (merging_is_by_ids.clash look top trees base head tree marks (nodes base) (nodes head) met _ merge c) ∙ real.stops;
        least = λ q less. sym (merging_is_by_ids.clash look top trees base head tree marks (nodes base) (nodes head) met _ merge q) ∙ real.least q less;
      }

  lead : NoStop (sights_of see) [] → (dirs : List MergedDir) → ArePlan see dirs → LeadOn look top base head own dirs
  lead none dirs plan =
      let finer = shorter base (nodes base) (nodes head) met in
      (nodes, are, plan_leads base (nodes base) (nodes head) met finer (no_stop (sights_of see) (sights base (nodes base) (nodes head) met) finer none) dirs plan)

  found : (x y : NodeRev) → RootOf look base (Ok x) → RootOf look head (Ok y) → (r : Result Merge Wrong) → MergeRooted look top txn f base x y see r → MergeFrom see r
  found x y of_x of_y r from =
      let v = d.shows.is_draft.root in
      let mine : IsRootId txn v.node.id = record { node = d.shows.is_draft.root_id.0; copy = d.shows.is_draft.root_id.1; place = d.shows.is_draft.places [] v d.shows.is_draft.root_is } in
      from v.node.id mine (seen_from x y v.node.id of_x of_y mine)

  pub draft_finds : (result : Result Merge ReadError) → Answers this (MergeOf look top txn f base head see) result → Flat result
  draft_finds (Err errors.OutOfMemory) h = tt
  draft_finds (Err errors.DiskFault) h = tt
  draft_finds (Ok (found_merges.Dirs dirs)) (x, of_x, (y, of_y, from)) = let w = found x y of_x of_y (Ok (found_merges.Dirs dirs)) from in (clear w.0, lead w.0 dirs.items w.1)
  draft_finds (Ok (found_merges.Clash c)) (x, of_x, (y, of_y, from)) = first c ((found x y of_x of_y (Ok (found_merges.Clash c)) from).0)
  draft_finds (Err (errors.Wrong w)) (inl e) = let a = root_there look top trees shows base le in ok_no_err a.0 w (root_of_one look base (Ok a.0) (Err w) a.1 e)
  draft_finds (Err (errors.Wrong w)) (inr (x, of_x, inl e)) = let a = root_there look top trees shows head within in ok_no_err a.0 w (root_of_one look head (Ok a.0) (Err w) a.1 e)
  draft_finds (Err (errors.Wrong w)) (inr (x, of_x, inr (y, of_y, from))) =
      let k = found x y of_x of_y (Err w) from in
      absurd (never_wrong (go_on_in base (nodes base k.0) (nodes head k.0) (met k.0) && same_props_in (nodes base k.0) (nodes head k.0) (met k.0)) w k.2)
