-- What hangs together path by path is a draft.
use Rattle.std.proofs.Common.{◌≡◌, ◌≤◌, ◌<◌, ℕ, suc, Bool, true, false, List, [], ◌∷◌, ◌++◌, refl, sym, ap, subst, ◌∙◌, arith, inl, inr, append-nil, append_assoc}
use Rattle.std.specs.Prelude.{Ok, Option, Some, None, is_some, nat_lt, if◌then◌else◌}
use Rattle.std.proofs.lemmas.Bool.Decides.{nat_tests}
use Rattle.fsfs_base.specs.Paths.{PathName, Path}
use Rattle.fsfs_base.specs.declared.kind.Kind.TheVariants.{Dir}
use Rattle.fsfs_base.specs.declared.fields.txn_name.TxnName.{TxnName}
use Rattle.fsfs_revision.specs.Told.{RevisionBytes}
use Rattle.fsfs_noderev.specs.Ids.{part_value}
use Rattle.fsfs_noderev.specs.declared.node_id.Part.{Part}
use Rattle.fsfs_noderev.specs.declared.node_id.Part.TheVariants as parts
use Rattle.fsfs_noderev.specs.declared.node_id.NodeId.{NodeId}
use Rattle.fsfs_noderev.specs.declared.node_rev.CopySource.{CopySource}
use Rattle.fsfs_noderev.specs.declared.node_rev.NodeRev.{NodeRev}
use Rattle.fsfs_revision.specs.Shows.Reading.{DirEntry, named, ChildOf, StandsAt}
use Rattle.fsfs_revision.specs.Shows.Chains.{own_rev, IsPred, copy_root_of}
use Rattle.fsfs_revision.proofs.TreeLaw.{stands_home}
use Rattle.fsfs_revision.proofs.Walks.{child_stands}
use Rattle.fsfs_revision.proofs.Earlier.{stands_of_id, pred_same}
use Rattle.fsfs_draft.specs.Own.{OwnNode, Own, below}
use Rattle.fsfs_draft.specs.Rules.{GoesOn, Root, draft_root, lasting_root, root_after, Above, at_top, IsNew, CopyPartOf, Directory, Same, Before, Drawn, ComesBy, Change, Copied, Made, head_at, IsEntryOf, AreEntriesOf, NodeRule, RuleAt, Rules, stands_from, stands_under, stands_at, above_of, above_under, above_at}
use Rattle.fsfs_draft.specs.Drafts.{Folder, IsDraft}
use Rattle.fsfs_draft.specs.OwnSides.{NodesAt, in_txn}
use Rattle.fsfs_draft.specs.NodeDrafts.{IsOwn, is_new_part, DraftPart}
use Rattle.fsfs_draft.specs.NodeDrafts as nodewise
use Rattle.fsfs_draft.specs.Tied.{IsListed, IsTied, IsKeptIn, TiedDrafts}
use Rattle.fsfs_draft.proofs.HangLaw.{resolved, root_resolved, after_resolved, some_same}
use Rattle.std.proofs.lemmas.Bool.{cases_Bool}

-- ---- parts and roots

is_new : (a : Part) → is_new_part a ≡ true → IsNew (part_value a)
is_new (parts.New n) h = (n.number, refl)
is_new (parts.Old n) h = absurd cc
is_new (parts.Made n r) h = absurd cc

-- two copy roots that are one whichever number the transaction gets
roots_same : (top : ℕ) (a b : Root) → ((n : ℕ) → top < n → resolved n a ≡ resolved n b) → a ≡ b
roots_same top (None, p) (None, q) h = λ i. (None, (h (suc top) (omega arith) i).1)
roots_same top (Some j, p) (Some k, q) h = λ i. (Some (h (suc top) (omega arith) i).0, (h (suc top) (omega arith) i).1)
roots_same top (None, p) (Some k, q) h =
    let e : suc top ≡ k = ap (λ (r : ℕ × Path). r.0) (h (suc top) (omega arith)) in
    let g : suc (suc top) ≡ k = ap (λ (r : ℕ × Path). r.0) (h (suc (suc top)) (omega arith)) in
    absurd (omega (arith, e, g))
roots_same top (Some j, p) (None, q) h =
    let e : j ≡ suc top = ap (λ (r : ℕ × Path). r.0) (h (suc top) (omega arith)) in
    let g : j ≡ suc (suc top) = ap (λ (r : ℕ × Path). r.0) (h (suc (suc top)) (omega arith)) in
    absurd (omega (arith, e, g))

pred_id : (look : RevisionBytes) (v u : NodeRev) → IsPred look v u → v.predecessor ≡ Some u.id
pred_id look v u p =
    let same : u ≡ p.2.0 = p.2.2.0 in
    p.1 ∙ ap (λ (i : NodeId). Some i) (sym (ap (λ (x : NodeRev). x.id) same ∙ p.2.2.1))

-- ---- from paths to the rules

module _ (look : RevisionBytes) (top : ℕ) where
  rules_from : (p : Path) (own : Own) (above : Above) (S : Path → NodeRev → Type 0)
      → NodeRule look top (own p) (λ name. head_at (own (p ++ name ∷ []))) (above_at p own above) (λ q u. stands_at look p own S q u) → RuleAt look top own above S p
  rules_from [] own above S rule = rule
  rules_from (x ∷ p) own above S rule = rules_from p (below x own) (above_under (own []) above) (λ q u. stands_under look (own []) S (x ∷ q) u) rule

  stands_last : (p : Path) (name : PathName) (own : Own) (S : Path → NodeRev → Type 0) (q : Path) (u : NodeRev) → stands_under look (own p) (λ r w. stands_at look p own S r w) (name ∷ q) u → stands_at look (p ++ name ∷ []) own S q u
  stands_last [] name own S q u at = at
  stands_last (x ∷ p) name own S q u at = stands_last p name (below x own) (λ r w. stands_under look (own []) S (x ∷ r) w) q u at

  above_last : (p : Path) (name : PathName) (own : Own) (above : Above) → above_at (p ++ name ∷ []) own above ≡ above_under (own p) (above_at p own above)
  above_last [] name own above = refl
  above_last (x ∷ p) name own above = above_last p name (below x own) (above_under (own []) above)

  -- ---- what stands goes down, and is of a revision up to the top

  record Down (S : Path → NodeRev → Type 0) : Type 0 where
    down : (q : Path) (name : PathName) (u w : NodeRev) → S q u → u.kind ≡ Dir → ChildOf look u name (Ok (Some w)) → S (q ++ name ∷ []) w
    within : (q : Path) (u : NodeRev) → S q u → own_rev u ≤ top

  abbrev IsLow : Option OwnNode → Type 0
  IsLow None = Unit {0}
  IsLow (Some v) = (from : CopySource) → v.node.copy_from ≡ Some from → from.rev ≤ top

  revision_down : (b : ℕ) → b ≤ top → Down (StandsAt look b)
  revision_down b le = record { down = λ q name u w at dir child. child_stands look b u w q name at dir child; within = λ q u at. (let h = (stands_home look b q u at).1 in omega (arith, h, le)) }

  under_down : (o : Option OwnNode) (S : Path → NodeRev → Type 0) → IsLow o → Down S → Down (λ q u. stands_under look o S q u)
  under_down None S low d = record { down = d.down; within = d.within }
  under_down (Some v) S low d = by v.node.copy_from v.node.predecessor low
    where
      by : (c : Option CopySource) (o : Option NodeId) → ((from : CopySource) → c ≡ Some from → from.rev ≤ top) → Down (λ q u. stands_from look c o S q u)
      by (Some from) o low =
          let le = low from refl in
          record {
            down = λ q name u w at dir child. subst (λ (p : Path). StandsAt look from.rev p w) (append_assoc from.path q (name ∷ [])) (child_stands look from.rev u w (from.path ++ q) name at dir child);
            within = λ q u at. (let h = (stands_home look from.rev (from.path ++ q) u at).1 in omega (arith, h, le));
          }
      by None (Some id) low = record { down = d.down; within = d.within }
      by None None low = record { down = λ q name u w at. absurd at; within = λ q u at. absurd at }

  at_down : (p : Path) (own : Own) (S : Path → NodeRev → Type 0) → ((q : Path) → IsLow (own q)) → Down S → Down (λ q u. stands_at look p own S q u)
  at_down [] own S low d = record { down = d.down; within = d.within }
  at_down (x ∷ p) own S low d =
      let e = under_down (own []) S (low []) d in
      at_down p (below x own) (λ q u. stands_under look (own []) S (x ∷ q) u) (λ q. low (x ∷ q)) (record { down = λ q name u w at. e.down (x ∷ q) name u w at; within = λ q u at. e.within (x ∷ q) u at })

module _ (look : RevisionBytes) (top base : ℕ) (met : NodesAt) (own : Own) (txn : TxnName) (f : Folder) (draft : nodewise.IsDraft look top base met) (tied : IsTied look met own) (kept : IsKeptIn look txn f own) (le : base ≤ top) where
  is_mine : (p : Path) (v : OwnNode) → own p ≡ Some v → IsOwn v.node
  is_mine p v is = ap in_txn (kept.places p v is)

  low : (q : Path) → IsLow look top (own q)
  low q = by (own q) refl
    where
      by : (o : Option OwnNode) → own q ≡ o → IsLow look top o
      by None e = tt
      by (Some v) e = λ from copy. (draft.copied q v.node from (tied.mine q v e) (is_mine q v e) copy).1

  abbrev Here : Path → Path → NodeRev → Type 0
  Here p q u = stands_at look p own (StandsAt look base) q u

  here_down : (p : Path) → Down look top (Here p)
  here_down p = at_down look top p own (StandsAt look base) low (revision_down look top base le)

  below_down : (p : Path) (v : OwnNode) → own p ≡ Some v → Down look top (λ q u. stands_under look (Some v) (λ r w. Here p r w) q u)
  below_down p v is = under_down look top (Some v) (λ r w. Here p r w) (subst (λ (o : Option OwnNode). IsLow look top o) is (low p)) (here_down p)

  -- an own child's directory
  above : (p : Path) (name : PathName) (w : OwnNode) → own (p ++ name ∷ []) ≡ Some w → (d : OwnNode) × (own p ≡ Some d) × (d.node.kind ≡ Dir)
  above p name w is =
      let a = draft.above p name w.node (tied.mine (p ++ name ∷ []) w is) in
      elim (cases_Bool (in_txn a.0.id.place)) [
        | inl mine ↦ (let d = tied.all p a.0 a.1 mine in (d.0, d.1, ap (λ (z : NodeRev). z.kind) d.2 ∙ a.2))
        | inr plain ↦ (let b = (draft.below_lasting p name a.0 w.node a.1 plain (tied.mine (p ++ name ∷ []) w is)).1 in let m = is_mine (p ++ name ∷ []) w is in let e = sym m ∙ b in absurd cc)
      ]

  -- ---- what it goes on from stands there

  abbrev Back : Path → Type 0
  Back p = (v : OwnNode) (u : NodeRev) → own p ≡ Some v → IsPred look v.node u → stands_under look (Some v) (λ r w. Here p r w) [] u

  goes_under : (S : Path → NodeRev → Type 0) (c : Option CopySource) (o : Option NodeId) (q : Path) (u : NodeRev) → c ≡ None → is_some o ≡ true → S q u → stands_from look c o S q u
  goes_under S None (Some id) q u e h at = at
  goes_under S None None q u e h at = absurd cc
  goes_under S (Some from) o q u e h at = absurd cc

  copy_under : (S : Path → NodeRev → Type 0) (c : Option CopySource) (o : Option NodeId) (from : CopySource) (u : NodeRev) → c ≡ Some from → StandsAt look from.rev from.path u → stands_from look c o S [] u
  copy_under S None o from u e at = absurd cc
  copy_under S (Some other) o from u e at =
      let same : from ≡ other = cc in
      subst (λ (p : Path). StandsAt look other.rev p u) (sym (append-nil other.path)) (subst (λ (c : CopySource). StandsAt look c.rev c.path u) same at)

  pred_some : (v u : NodeRev) → IsPred look v u → is_some v.predecessor ≡ true
  pred_some v u p = ap (λ (o : Option NodeId). is_some o) p.1

  back_root : Back []
  back_root v u is pred =
      let r = draft.root in
      let same : v.node ≡ r.0 = some_same (met []) v.node r.0 (tied.mine [] v is) r.2 in
      let one = pred_same look v.node u r.1 pred (r.1.id, ap (λ (z : NodeRev). z.predecessor) same ∙ r.5, stands_of_id look base [] r.1 r.3) in
      goes_under (λ r w. Here [] r w) v.node.copy_from v.node.predecessor [] u (ap (λ (z : NodeRev). z.copy_from) same ∙ r.8) (pred_some v.node u pred) (subst (λ (z : NodeRev). StandsAt look base [] z) (sym one) r.3)

  pub record OnFrom (p : Path) (name : PathName) (d v : OwnNode) : Type 0 where
    pub u : NodeRev
    pub at : Here (p ++ name ∷ []) [] u
    pub pred : IsPred look v.node u
    pub root : (n : ℕ) → top < n → nodewise.draft_root n v.node ≡ (if nat_lt (own_rev u) (nodewise.draft_root n d.node).0 then nodewise.draft_root n d.node else copy_root_of u)
    pub part : DraftPart look met d.node v.node u

  goes_on : (p : Path) (name : PathName) (d v : OwnNode) → own p ≡ Some d → own (p ++ name ∷ []) ≡ Some v → d.node.kind ≡ Dir → v.node.copy_from ≡ None → (v.node.predecessor ≡ None → ⊥) → Back p → OnFrom p name d v
  goes_on p name d v here is dir no_copy has back =
      let g = draft.goes_on p name d.node v.node (tied.mine p d here) (tied.mine (p ++ name ∷ []) v is) (is_mine (p ++ name ∷ []) v is) no_copy has in
      let from = back d g.0 here g.2 in
      let kind : g.0.kind ≡ Dir = sym (draft.pred p d.node g.0 (tied.mine p d here) (is_mine p d here) g.2).1 ∙ dir in
      let at = (below_down p d here).down [] name g.0 g.1 from kind g.3 in
      record { u = g.1; at = stands_last look top p name own (StandsAt look base) [] g.1 (subst (λ (o : Option OwnNode). stands_under look o (λ r w. Here p r w) (name ∷ []) g.1) (sym here) at); pred = g.4; root = g.5; part = g.6 }

  back_step : (p : Path) (name : PathName) → Back p → Back (p ++ name ∷ [])
  back_step p name back v u is pred = by v.node.copy_from refl
    where
      by : (c : Option CopySource) → v.node.copy_from ≡ c → stands_under look (Some v) (λ r w. Here (p ++ name ∷ []) r w) [] u
      by (Some from) copy =
          let c = draft.copied (p ++ name ∷ []) v.node from (tied.mine (p ++ name ∷ []) v is) (is_mine (p ++ name ∷ []) v is) copy in
          let one = pred_same look v.node u c.0 pred (c.0.id, c.3, stands_of_id look from.rev from.path c.0 c.2) in
          copy_under (λ r w. Here (p ++ name ∷ []) r w) v.node.copy_from v.node.predecessor from u copy (subst (λ (z : NodeRev). StandsAt look from.rev from.path z) (sym one) c.2)
      by None no_copy =
          let d = above p name v is in
          let g = goes_on p name d.0 v d.1 is d.2 no_copy (λ none. (let e = sym none ∙ pred.1 in absurd cc)) back in
          let one = pred_same look v.node g.u u g.pred pred in
          goes_under (λ r w. Here (p ++ name ∷ []) r w) v.node.copy_from v.node.predecessor [] u no_copy (pred_some v.node u pred) (subst (λ (z : NodeRev). Here (p ++ name ∷ []) [] z) one g.at)

  back_from : (rest front : Path) → Back front → Back (front ++ rest)
  back_from [] front b = subst Back (sym (append-nil front)) b
  back_from (name ∷ rest) front b = subst Back (append_assoc front (name ∷ []) rest) (back_from rest (front ++ name ∷ []) (back_step front name b))

  back_all : (p : Path) → Back p
  back_all p = back_from p [] back_root

  -- ---- how each comes

  goes_of : (p : Path) (v : OwnNode) (u : NodeRev) → own p ≡ Some v → IsPred look v.node u → GoesOn v.node u
  goes_of p v u is pred =
      let g = draft.pred p v.node u (tied.mine p v is) (is_mine p v is) pred in
      record { predecessor = pred_id look v.node u pred; node = g.0; kind = g.1; count = g.2 }

  part_of : (d v : OwnNode) (u : NodeRev) → DraftPart look met d.node v.node u → CopyPartOf look (above_of d.node) u (part_value v.node.id.copy)
  part_of d v u (nodewise.Directory e) = Directory (ap part_value e)
  part_of d v u (nodewise.Here e) = Same (ap part_value e)
  part_of d v u (nodewise.Before w b e) = Before w b (ap part_value e)
  part_of d v u (nodewise.Drawn new apart) = Drawn (is_new v.node.id.copy new)

  comes_root : (v : OwnNode) → own [] ≡ Some v → ComesBy look top (λ q u. Here [] q u) at_top v
  comes_root v is =
      let r = draft.root in
      let same : v.node ≡ r.0 = some_same (met []) v.node r.0 (tied.mine [] v is) r.2 in
      let pred : IsPred look v.node r.1 = (r.1.id, ap (λ (z : NodeRev). z.predecessor) same ∙ r.5, stands_of_id look base [] r.1 r.3) in
      let none : nat_lt (own_rev r.1) 0 ≡ false = grind (arith, nat_tests) in
      Change r.1 r.3 (ap (λ (z : NodeRev). z.copy_from) same ∙ r.8) (goes_of [] v r.1 is pred) (tied.keeps [] v r.1 is pred)
      (roots_same top (draft_root v.node) (lasting_root r.1) (λ n lt. sym (root_resolved v.node n (is_mine [] v is)) ∙ ap (λ (z : NodeRev). nodewise.draft_root n z) same ∙ r.9 n lt)
      ∙ sym (ap (λ (b : Bool). if b then (Some 0, []) else lasting_root r.1) none))
      (Directory (ap (λ (z : NodeRev). part_value z.id.copy) same ∙ r.7))

  comes_below : (p : Path) (name : PathName) (v : OwnNode) → own (p ++ name ∷ []) ≡ Some v → ComesBy look top (λ q u. Here (p ++ name ∷ []) q u) (above_at (p ++ name ∷ []) own at_top) v
  comes_below p name v is =
      let d = above p name v is in
      let up : above_at (p ++ name ∷ []) own at_top ≡ above_of d.0.node = above_last look top p name own at_top ∙ ap (λ (o : Option OwnNode). above_under o (above_at p own at_top)) d.1 in
      subst (λ (a : Above). ComesBy look top (λ q u. Here (p ++ name ∷ []) q u) a v) (sym up) (by d.0 d.1 d.2 v.node.copy_from refl v.node.predecessor refl)
    where
      q : Path
      q = p ++ name ∷ []

      by : (d : OwnNode) → own p ≡ Some d → d.node.kind ≡ Dir → (c : Option CopySource) → v.node.copy_from ≡ c → (o : Option NodeId) → v.node.predecessor ≡ o → ComesBy look top (λ q u. Here (p ++ name ∷ []) q u) (above_of d.node) v
      by d here dir (Some from) copy o pred =
          let c = draft.copied (p ++ name ∷ []) v.node from (tied.mine (p ++ name ∷ []) v is) (is_mine (p ++ name ∷ []) v is) copy in
          let back : IsPred look v.node c.0 = (c.0.id, c.3, stands_of_id look from.rev from.path c.0 c.2) in
          Copied c.0 from copy c.1 c.2 (goes_of (p ++ name ∷ []) v c.0 is back) (tied.keeps (p ++ name ∷ []) v c.0 is back)
          (roots_same top (draft_root v.node) (None, v.node.created_path) (λ n lt. sym (root_resolved v.node n (is_mine (p ++ name ∷ []) v is)) ∙ c.5 n lt ∙ (λ i. (n, sym c.4 i))))
          (is_new v.node.id.copy c.6)
      by d here dir None no_copy (Some id) pred =
          let g = goes_on p name d v here is dir no_copy (λ none. (let e = sym none ∙ pred in absurd cc)) (back_all p) in
          let within = (here_down (p ++ name ∷ [])).within [] g.u g.at in
          Change g.u g.at no_copy (goes_of (p ++ name ∷ []) v g.u is g.pred) (tied.keeps (p ++ name ∷ []) v g.u is g.pred)
          (roots_same top (draft_root v.node) (root_after (draft_root d.node) g.u) (λ n lt.
          sym (root_resolved v.node n (is_mine (p ++ name ∷ []) v is)) ∙ g.root n lt
          ∙ ap (λ (z : ℕ × Path). if nat_lt (own_rev g.u) z.0 then z else copy_root_of g.u) (root_resolved d.node n (is_mine p d here))
          ∙ sym (after_resolved n (draft_root d.node) g.u (omega (arith, within, lt)))))
          (part_of d v g.u g.part)
      by d here dir None no_copy None none =
          let m = draft.made p name d.node v.node (tied.mine p d here) (tied.mine (p ++ name ∷ []) v is) (is_mine (p ++ name ∷ []) v is) none in
          Made no_copy none (tied.count (p ++ name ∷ []) v is none)
          (roots_same top (draft_root v.node) (draft_root d.node) (λ n lt. sym (root_resolved v.node n (is_mine (p ++ name ∷ []) v is)) ∙ m.3 n lt ∙ root_resolved d.node n (is_mine p d here)))
          (ap part_value m.2) (is_new v.node.id.node m.1)

  abbrev ComesAt : Path → Type 0
  ComesAt p = (v : OwnNode) → own p ≡ Some v → ComesBy look top (λ q u. Here p q u) (above_at p own at_top) v

  comes_from : (rest front : Path) → ComesAt front → ComesAt (front ++ rest)
  comes_from [] front c = subst ComesAt (sym (append-nil front)) c
  comes_from (name ∷ rest) front c = subst ComesAt (append_assoc front (name ∷ []) rest) (comes_from rest (front ++ name ∷ []) (λ v is. comes_below front name v is))

  comes_all : (p : Path) → ComesAt p
  comes_all p = comes_from p [] (λ v is. comes_root v is)

  -- ---- entries

  entry : (p : Path) (v : OwnNode) (name : PathName) → own p ≡ Some v → (o : Option DirEntry) (m : Option NodeRev) → met (p ++ name ∷ []) ≡ m → IsListed o m → IsEntryOf (λ u. stands_under look (Some v) (λ r w. Here p r w) (name ∷ []) u) o (head_at (own (p ++ name ∷ [])))
  entry p v name here None (Some u) e l = absurd l
  entry p v name here (Some x) None e l = absurd l
  entry p v name here None None e l = by (own (p ++ name ∷ [])) refl
    where
      by : (o : Option OwnNode) → own (p ++ name ∷ []) ≡ o → IsEntryOf (λ u. stands_under look (Some v) (λ r w. Here p r w) (name ∷ []) u) None (head_at o)
      by None is = tt
      by (Some w) is = let g = sym (tied.mine (p ++ name ∷ []) w is) ∙ e in absurd cc
  entry p v name here (Some x) (Some u) e l = by (own (p ++ name ∷ [])) refl
    where
      by : (o : Option OwnNode) → own (p ++ name ∷ []) ≡ o → IsEntryOf (λ u. stands_under look (Some v) (λ r w. Here p r w) (name ∷ []) u) (Some x) (head_at o)
      by (Some w) is =
          let same : u ≡ w.node = some_same (met (p ++ name ∷ [])) u w.node e (tied.mine (p ++ name ∷ []) w is) in
          (l.0 ∙ ap (λ (z : NodeRev). z.id) same, l.1 ∙ ap (λ (z : NodeRev). z.kind) same)
      by None is = elim (cases_Bool (in_txn u.id.place)) [
        | inl mine ↦ (let w = tied.all (p ++ name ∷ []) u e mine in let g = sym is ∙ w.1 in absurd cc)
        | inr plain ↦ (let g = draft.older p name v.node u (tied.mine p v here) (is_mine p v here) e plain in
            let a = draft.above p name u e in
            let dir : g.0.kind ≡ Dir = sym (draft.pred p v.node g.0 (tied.mine p v here) (is_mine p v here) g.1).1 ∙ ap (λ (z : NodeRev). z.kind) (some_same (met p) v.node a.0 (tied.mine p v here) a.1) ∙ a.2 in
            (u, (below_down p v here).down [] name g.0 u (back_all p v g.0 here g.1) dir g.2, l.0, l.1))
      ]

  rule : (p : Path) (o : Option OwnNode) → own p ≡ o → NodeRule look top o (λ name. head_at (own (p ++ name ∷ []))) (above_at p own at_top) (λ q u. Here p q u)
  rule p None none = λ name. by name (own (p ++ name ∷ [])) refl
    where
      by : (name : PathName) (o : Option OwnNode) → own (p ++ name ∷ []) ≡ o → head_at o ≡ None
      by name None e = refl
      by name (Some w) e = let d = above p name w e in let g = sym none ∙ d.1 in absurd cc
  rule p (Some v) is = (comes_all p v is, listed v.entries refl)
    where
      listed : (o : Option (List DirEntry)) → v.entries ≡ o → AreEntriesOf (λ name u. stands_under look (Some v) (λ r w. Here p r w) (name ∷ []) u) o (λ name. head_at (own (p ++ name ∷ [])))
      listed None e = λ name. ap (λ (o : Option OwnNode). head_at o) (tied.unlisted p v name is e)
      listed (Some entries) e = λ name. entry p v name is (named name entries) (met (p ++ name ∷ [])) refl (tied.listed p v entries name is e)

  pub tied_rules : Rules look top own at_top (StandsAt look base)
  tied_rules p = rules_from look top p own at_top (StandsAt look base) (rule p (own p) refl)

  pub tied_draft : IsDraft look top base txn f own
  tied_draft =
      let r = draft.root in
      let v = tied.all [] r.0 r.2 r.4 in
      record {
        root = v.0;
        root_is = v.1;
        root_id = (ap (λ (z : NodeRev). part_value z.id.node) v.2 ∙ r.6, ap (λ (z : NodeRev). part_value z.id.copy) v.2 ∙ r.7, ap (λ (z : NodeRev). z.copy_from) v.2 ∙ r.8);
        paths = kept.paths;
        places = kept.places;
        kept = kept.kept;
        drawn = kept.drawn;
        rules = tied_rules;
        contents = kept.contents;
      }

pub tied_drafts : TiedDrafts
tied_drafts look top base met own txn f le draft tied kept = tied_draft look top base met own txn f draft tied kept le
