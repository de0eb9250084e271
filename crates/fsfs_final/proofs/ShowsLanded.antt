-- The bytes of a new revision show the landing of the transaction that it was made of.
use Rattle.fsfs_revision.proofs.Revisions.{shown_revisions}
use Rattle.std.proofs.Common.{◌≡◌, ◌≤◌, ◌<◌, ◌⊎◌, ℕ, zero, suc, max, not, Bool, true, false, ◌&&◌, List, [], ◌∷◌, ◌++◌, length, take, drop, refl, sym, ap, subst, ◌∙◌, arith, inl, inr}
use Rattle.std.specs.Prelude.{◌≢◌, Ok, Option, Some, None, is_some, nat_lt, if◌then◌else◌}
use Rattle.std.proofs.lemmas.Bool.Decides.{nat_tests}
use mathlib.Core.Bool.{false≢true}
use Rattle.fsfs_base.specs.Paths.{PathName, Path, covers}
use Rattle.fsfs_tree.specs.Nodes.{Node, TreeFunction}
use Rattle.fsfs_model.specs.declared.flat.mark.Mark.{Mark}
use Rattle.fsfs_model.specs.declared.flat.mark.Effects.{Effects}
use Rattle.fsfs_model.specs.Flat.Marks.{effects}
use Rattle.fsfs_model.specs.Flat.Landing.{landed_at, land}
use Rattle.fsfs_model.specs.Flat.Transactions.{IsTransaction}
use Rattle.fsfs_revision.specs.Told.{RevisionBytes}
use Rattle.fsfs_noderev.specs.declared.rep.Contents.TheVariants as contents
use Rattle.fsfs_noderev.specs.declared.node_rev.NodeRev.{NodeRev}
use Rattle.fsfs_revision.specs.Shows.Reading.{ChildOf, Met, Stands, Lacking, Blocked, MetAt, StandsAt}
use Rattle.fsfs_revision.specs.Shows.Chains.{own_rev, IsPred, Chain, First, Goes, copy_root_of, IsCopiedIn, contents_rev}
use Rattle.fsfs_revision.specs.Shows.Shown.{Nearest, copied_from, source_by, IsOfCopy, IsSource, IsShown, IsShownAs, Shows}
use Rattle.fsfs_revision.specs.Shows.IdRules.{IsOf}
use Rattle.fsfs_revision.proofs.OneWalk.{met_same, stands_same}
use Rattle.fsfs_revision.proofs.TreeLaw.{IsHome, stands_home, chain_le, root_le, props_le}
use Rattle.fsfs_base.proofs.PathLemmas.{covers-longer, covers-length, split_at}
use Rattle.fsfs_model.proofs.MergeWalk.{gone_down}
use Rattle.fsfs_model.proofs.NextHistory.{IsWhole, whole, at_most}
use Rattle.fsfs_revision.specs.Ancestry.Trees.{ShowTrees}
use Rattle.fsfs_revision.proofs.Standing.{for_each}
use Rattle.fsfs_revision.proofs.Earlier.{stands_of_id, pred_same}
use Rattle.fsfs_revision.proofs.Behind.{shown_there}
use Rattle.fsfs_revision.proofs.Roots.{length_push}
use Rattle.fsfs_draft.specs.OwnSides.{NodesAt, in_txn, IsSuccessor, IsOwnSide, AreNodesOf}
use Rattle.fsfs_draft.proofs.Lasting.{lasting}
use Rattle.fsfs_merge.proofs.SightLaw.{some_node, node_some, props_touched}
use Rattle.fsfs_draft.specs.NodeDrafts.{draft_root, IsOwn, IsDraft}
use Rattle.fsfs_draft.proofs.Coming.{copy_or}
use Rattle.fsfs_final.specs.Final.{IsFinal, Finished, AsItWas, Done, IsWritten}
use Rattle.fsfs_draft.specs.Draws.{FreshAt, MadeHere, CameWith, DrawsTree}
use Rattle.fsfs_final.specs.Shown.{ReadsContents, WrittenShowsLanding}
use Rattle.std.proofs.Math.Seq.{take-length}
use Rattle.fsfs_final.proofs.Copies.{short, split, same_or_not, copied_down, nearest_here, nearest_above, NearestIs, AtPath, Above, nearest_is, nearest_at}
use Rattle.std.proofs.lemmas.Bool.{and_from, and_parts, both_ways, cases_Bool, false_from_ne_true, not-true}
use Rattle.fsfs_draft.proofs.HangLaw.{some_same}

-- ---- the landing on the base itself

-- a path that the transaction held, or one of its own
data LandedIs (n : ℕ) (d : Effects) (a t : Option Node) (y : Node) : Type 0 where
  Kept : (x : Node) → a ≡ Some x → d.deleted ≡ false → y.kind ≡ x.kind → y.source ≡ x.source → y.added ≡ x.added
      → y.props_changed ≡ (if d.props_changed then n else x.props_changed) → y.last_changed ≡ (if d.touched then n else x.last_changed) → LandedIs n d a t y
  Its : (a ≡ None) ⊎ (d.deleted ≡ true) → (m : Node) → t ≡ Some m → y.kind ≡ m.kind → y.source ≡ m.source → y.added ≡ n → y.props_changed ≡ n → y.last_changed ≡ n → LandedIs n d a t y

module _ (n : ℕ) (touched rewritten props_changed : Bool) where
  abbrev effect : Bool → Effects
  effect deleted = record { touched = touched; deleted = deleted; rewritten = rewritten; props_changed = props_changed }

  landed_none : (deleted : Bool) (t : Option Node) (y : Node) → landed_at n (effect deleted) None None t ≡ Some y → LandedIs n (effect deleted) None t y
  landed_none deleted None y e = absurd cc
  landed_none deleted (Some m) y e =
      let same : record m { added = n; props_changed = n; last_changed = n } ≡ y = cc in
      Its (inl refl) m refl (ap (λ (x : Node). x.kind) (sym same)) (ap (λ (x : Node). x.source) (sym same)) (ap (λ (x : Node). x.added) (sym same)) (ap (λ (x : Node). x.props_changed) (sym same)) (ap (λ (x : Node). x.last_changed) (sym same))

  landed_gone : (x : Node) (t : Option Node) (y : Node) → landed_at n (effect true) (Some x) (Some x) t ≡ Some y → LandedIs n (effect true) (Some x) t y
  landed_gone x None y e = absurd cc
  landed_gone x (Some m) y e =
      let same : record m { added = n; props_changed = n; last_changed = n } ≡ y = cc in
      Its (inr refl) m refl (ap (λ (x : Node). x.kind) (sym same)) (ap (λ (x : Node). x.source) (sym same)) (ap (λ (x : Node). x.added) (sym same)) (ap (λ (x : Node). x.props_changed) (sym same)) (ap (λ (x : Node). x.last_changed) (sym same))

abbrev said : Bool → Bool → Bool → Bool → Effects
said g r w c = record { touched = c; deleted = g; rewritten = r; props_changed = w }

-- what was held: the numbers are the base's but where it was changed, and kind and source are the base's
landed_kept : (n : ℕ) (d : Effects) (x m y : Node) → d.deleted ≡ false → m.kind ≡ x.kind → m.source ≡ x.source → landed_at n d (Some x) (Some x) (Some m) ≡ Some y → LandedIs n d (Some x) (Some m) y
landed_kept n d x m y del kind source e = by d.deleted d.rewritten d.props_changed d.touched del e
  where
    fill : (g r w c : Bool) → g ≡ false → (z : Node) → z.kind ≡ x.kind → z.source ≡ x.source → record z { added = x.added; props_changed = if w then n else x.props_changed; last_changed = if c then n else x.last_changed } ≡ y → LandedIs n (said g r w c) (Some x) (Some m) y
    fill g r w c del z k s same =
        Kept x refl del (ap (λ (v : Node). v.kind) (sym same) ∙ k) (ap (λ (v : Node). v.source) (sym same) ∙ s) (ap (λ (v : Node). v.added) (sym same)) (ap (λ (v : Node). v.props_changed) (sym same)) (ap (λ (v : Node). v.last_changed) (sym same))

    by : (g r w c : Bool) → g ≡ false → landed_at n (said g r w c) (Some x) (Some x) (Some m) ≡ Some y → LandedIs n (said g r w c) (Some x) (Some m) y
    by true r w c del e = absurd (false≢true (sym del))
    by false true w c del e = fill false true w c refl m kind source (let f = e in cc)
    by false false w c del e = fill false false w c refl x refl refl (let f = e in cc)

module _ (look : RevisionBytes) (top : ℕ) (tree : ℕ → TreeFunction) (t : TreeFunction) (marks : List Mark) (base own : NodesAt)
    (shows : ShowTrees look top tree) (was : IsTransaction tree top top t marks)
    (are : AreNodesOf look top base) (side : IsOwnSide base marks own) (draft : IsDraft look top top own) (draws : DrawsTree (suc top) (tree top) t marks own)
    (written : IsWritten look (suc top) own) (reads : ReadsContents look (suc top) (land (tree top) (tree top) t marks (suc top))) where
  abbrev N : ℕ
  N = suc top

  lt : top < N
  lt = omega arith

  abbrev landed : TreeFunction
  landed = land (tree top) (tree top) t marks N

  all : IsWhole tree top top t marks
  all = whole tree top top t marks (shown_revisions look top tree shows) was

  landed_is : (p : Path) (y : Node) → landed p ≡ Some y → LandedIs N (effects marks p) (tree top p) (t p) y
  landed_is p y e = by (tree top p) refl (t p) refl e
    where
      by : (a : Option Node) → tree top p ≡ a → (u : Option Node) → t p ≡ u → landed_at N (effects marks p) a a u ≡ Some y → LandedIs N (effects marks p) a u y
      by None f u g e = landed_none N (effects marks p).touched (effects marks p).rewritten (effects marks p).props_changed (effects marks p).deleted u y e
      by (Some x) f u g e = elim (cases_Bool (effects marks p).deleted) [
        | inl del ↦ gone x u e del
        | inr del ↦ (let k = all.keeps.same p x f del in
            let here : u ≡ Some k.0 = sym g ∙ k.1 in
            subst (λ (o : Option Node). LandedIs N (effects marks p) (Some x) o y) (sym here)
            (landed_kept N (effects marks p) x k.0 y del k.2.kind k.2.source (subst (λ (o : Option Node). landed_at N (effects marks p) (Some x) (Some x) o ≡ Some y) here e)))
      ]
        where
          gone : (x : Node) (u : Option Node) → landed_at N (effects marks p) (Some x) (Some x) u ≡ Some y → (effects marks p).deleted ≡ true → LandedIs N (effects marks p) (Some x) u y
          gone x u e del =
              let d = effects marks p in
              subst (λ (b : Bool). LandedIs N (record { touched = d.touched; deleted = b; rewritten = d.rewritten; props_changed = d.props_changed }) (Some x) u y) (sym del)
              (landed_gone N d.touched d.rewritten d.props_changed x u y
              (subst (λ (b : Bool). landed_at N (record { touched = d.touched; deleted = b; rewritten = d.rewritten; props_changed = d.props_changed }) (Some x) (Some x) u ≡ Some y) del e))

  -- the landing has the transaction's paths
  landed_some : (p : Path) → is_some (landed p) ≡ is_some (t p)
  landed_some p = by (tree top p) refl (t p) refl
    where
      at : (d : Effects) (a u : Option Node) → (is_some a && not d.deleted) ≡ true → is_some u ≡ true → is_some (landed_at N d a a u) ≡ true
      at d None u h s = absurd (false≢true h)
      at d (Some x) None h s = absurd (false≢true s)
      at d (Some x) (Some m) h s = pick d.deleted d.rewritten
        where
          pick : (g r : Bool) → is_some (landed_at N (record d { deleted = g; rewritten = r }) (Some x) (Some x) (Some m)) ≡ true
          pick true r = refl
          pick false true = refl
          pick false false = refl

      off : (d : Effects) (a u : Option Node) → (is_some a && not d.deleted) ≡ false → is_some (landed_at N d a a u) ≡ is_some u
      off d None None h = refl
      off d None (Some m) h = refl
      off d (Some x) u h = gone d.deleted u h
        where
          gone : (g : Bool) (u : Option Node) → (true && not g) ≡ false → is_some (landed_at N (record d { deleted = g }) (Some x) (Some x) u) ≡ is_some u
          gone true None h = refl
          gone true (Some m) h = refl
          gone false u h = absurd (false≢true (sym h))

      by : (a : Option Node) → tree top p ≡ a → (u : Option Node) → t p ≡ u → is_some (landed_at N (effects marks p) a a u) ≡ is_some u
      by a f u g = elim (cases_Bool (is_some a && not (effects marks p).deleted)) [
        | inr w ↦ off (effects marks p) a u w
        | inl w ↦ (let s = there a f w in at (effects marks p) a u w (sym (ap is_some g) ∙ s) ∙ sym (sym (ap is_some g) ∙ s))
      ]
        where
          there : (a : Option Node) → tree top p ≡ a → (is_some a && not (effects marks p).deleted) ≡ true → is_some (t p) ≡ true
          there None f w = absurd (false≢true w)
          there (Some x) f w = ap is_some (all.keeps.same p x f (not-true (effects marks p).deleted w)).1

  -- ---- a path that the transaction held: what stands there goes on from what stands in the base, or is that

  record HeldAt (p : Path) (v x : NodeRev) : Type 0 where
    node : NodeRev
    own_is : own p ≡ Some node
    finished : Finished N node v
    -- it is the base's, or a successor
    either : (node ≡ x) ⊎ (IsSuccessor x node (effects marks p).props_changed)
    untouched : (effects marks p).touched ≡ false → node ≡ x
    touched : (effects marks p).touched ≡ true → IsSuccessor x node (effects marks p).props_changed

  base_at : (p : Path) (x : NodeRev) → StandsAt look top p x → base p ≡ Some x
  base_at p x at = (are.each p x).1 at

  held_at : (p : Path) (v x : NodeRev) → StandsAt look N p v → StandsAt look top p x → (effects marks p).deleted ≡ false → HeldAt p v x
  held_at p v x at atx del = let w = written.only p v at in elim (cases_Bool (effects marks p).touched) [
    | inr un ↦ (let e = side.untouched p x (base_at p x atx) del un in
        let same = some_same (own p) w.0 x w.1 e in
        record { node = w.0; own_is = w.1; finished = w.2; either = inl same; untouched = λ _. same; touched = λ h. absurd (both_ways _ un h) })
    | inl yes' ↦ (let s = side.touched p x (base_at p x atx) del yes' in
        let same = some_same (own p) s.0 w.0 s.1 w.1 in
        let is : IsSuccessor x w.0 (effects marks p).props_changed = subst (λ (u : NodeRev). IsSuccessor x u (effects marks p).props_changed) same s.2 in
        record { node = w.0; own_is = w.1; finished = w.2; either = inr is; untouched = λ h. absurd (both_ways _ h yes'); touched = λ _. is })
  ]

  pred_is : (x u : NodeRev) (p : Path) (c : Bool) → StandsAt look top p x → IsSuccessor x u c → IsPred look u x
  pred_is x u p c at s = (x.id, s.predecessor, stands_of_id look top p x at)

  -- ---- chains

  chain_of : (w : NodeRev) → IsOf look top w → (first : ℕ) × Chain look w (Ok first) × (first ≤ top)
  chain_of w of =
      let n = shown_there look of.0 (tree of.0) (shows.each of.0 of.2) of.1 w of.3 in
      let h = stands_home look of.0 of.1 w of.3 in
      let le = chain_le look w (Ok n.2.first) n.2.first n.2.chain refl h.0 in
      (n.2.first, n.2.chain, (let x = of.2 in omega (arith, le, h.1)))

  chain_on : (v u w : NodeRev) (first : ℕ) → v.predecessor ≡ u.predecessor → IsPred look u w → Chain look w (Ok first) → Chain look v (Ok first)
  chain_on v u w first e p c = Goes v w p.0 (Ok first) (e ∙ p.1) p.2 c

  -- ---- copy roots of what was held

  data RootIs (v x dir : NodeRev) : Type 0 where
    AsBase : copy_root_of v ≡ copy_root_of x → RootIs v x dir
    AsAbove : own_rev x < (copy_root_of dir).0 → copy_root_of v ≡ copy_root_of dir → RootIs v x dir

  final_root : (u v : NodeRev) → Finished N u v → IsOwn u → copy_root_of v ≡ draft_root N u
  final_root u v (AsItWas plain same) mine = absurd (both_ways _ plain mine)
  final_root u v (Done mine' f) mine = f.root

  own_dir : (p : Path) (name : PathName) (d u : NodeRev) → own p ≡ Some d → own (p ++ name ∷ []) ≡ Some u → IsOwn u → IsOwn d
  own_dir p name d u e f mine = elim (cases_Bool (in_txn d.id.place)) [
    | inl w ↦ w
    | inr plain ↦ absurd (both_ways _ (draft.below_lasting p name d u e plain f).1 mine)
  ]

  root_is : (p : Path) (name : PathName) (dir v x : NodeRev) → StandsAt look N p dir → StandsAt look N (p ++ name ∷ []) v → StandsAt look top (p ++ name ∷ []) x → (effects marks (p ++ name ∷ [])).deleted ≡ false → RootIs v x dir
  root_is p name dir v x at_dir at atx del =
      let h = held_at (p ++ name ∷ []) v x at atx del in by h h.either
    where
      by : (h : HeldAt (p ++ name ∷ []) v x) → (h.node ≡ x) ⊎ (IsSuccessor x h.node (effects marks (p ++ name ∷ [])).props_changed) → RootIs v x dir
      by h (inl same) = AsBase (ap copy_root_of (as_it_was h.node h.finished same))
        where
          as_it_was : (u : NodeRev) → Finished N u v → u ≡ x → v ≡ x
          as_it_was u (AsItWas plain e) same = e ∙ same
          as_it_was u (Done mine f) same = absurd (both_ways _ (lasting look top (p ++ name ∷ []) x atx).place (subst IsOwn same mine))
      by h (inr s) =
          let d = written.only p dir at_dir in
          let mine = own_dir p name d.0 h.node d.1 h.own_is s.own in
          let back = pred_is x h.node (p ++ name ∷ []) _ atx s in
          let g = draft.goes_on p name d.0 h.node d.1 h.own_is s.own s.no_copy (λ none. (let f = sym s.predecessor ∙ none in cc)) in
          let same = pred_same look h.node g.1 x g.4 back in
          let dir_root : copy_root_of dir ≡ draft_root N d.0 = final_root d.0 dir d.2 mine in
          let root : copy_root_of v ≡ (if nat_lt (own_rev x) (copy_root_of dir).0 then copy_root_of dir else copy_root_of x)
          = final_root h.node v h.finished s.own ∙ g.5 N lt ∙ (λ i. if nat_lt (own_rev (same i)) (sym dir_root i).0 then sym dir_root i else copy_root_of (same i)) in
          pick (nat_lt (own_rev x) (copy_root_of dir).0) refl root
        where
          pick : (b : Bool) → nat_lt (own_rev x) (copy_root_of dir).0 ≡ b → copy_root_of v ≡ (if b then copy_root_of dir else copy_root_of x) → RootIs v x dir
          pick true e root = AsAbove (grind (arith, nat_tests)) root
          pick false e root = AsBase root

  -- ---- copies on the way to a path

  record Copies (p : Path) (v : NodeRev) : Type 0 where
    count : ℕ
    is : IsCopiedIn look N p count
    most : count ≤ N
    -- of what was held they are those of the base
    held : (x : NodeRev) → StandsAt look top p x → (effects marks p).deleted ≡ false → IsCopiedIn look top p count
    near : (x : NodeRev) → StandsAt look top p x → (effects marks p).deleted ≡ false → (a : ℕ) → count ≤ a → (w : Nearest look top p a) → (z : Nearest look N p a) × ((copy_root_of z.node).1 ≡ (copy_root_of w.node).1)
    -- and of each revision there is a nearest, or none
    search : (a : ℕ) → Nearest look N p a ⊎ ((k : ℕ) (q : NodeRev) → k ≤ length p → StandsAt look N (take k p) q → (copy_root_of q).0 ≢ a)

  root_most : (r : ℕ) (p : Path) (v : NodeRev) → StandsAt look r p v → (copy_root_of v).0 ≤ r
  root_most r p v at = let h = stands_home look r p v at in let l = root_le v v.copy_root h.0.root in omega (arith, h.1, l)

  deleted_up : (p : Path) (name : PathName) → (effects marks (p ++ name ∷ [])).deleted ≡ false → (effects marks p).deleted ≡ false
  deleted_up p name del = false_from_ne_true _ (λ h. both_ways _ del (gone_down marks p (p ++ name ∷ []) (covers-longer p (name ∷ [])) h))

  -- what stands above stands there too
  above_at : (p : Path) (name : PathName) (x : NodeRev) → StandsAt look top (p ++ name ∷ []) x → (d : NodeRev) × StandsAt look top p d
  above_at p name x at =
      let n = some_node look top (tree top) (shows.each top (omega arith)) base are (p ++ name ∷ []) x (base_at (p ++ name ∷ []) x at) in
      let base_whole = whole tree top top (tree top) [] (shown_revisions look top tree shows) (Rattle.fsfs_model.specs.Flat.Transactions.Begun top (omega arith)) in
      let some = base_whole.sound.closed p (p ++ name ∷ []) (covers-longer p (name ∷ [])) (ap is_some n.1) in
      by (tree top p) refl some
    where
      by : (o : Option Node) → tree top p ≡ o → is_some o ≡ true → (d : NodeRev) × StandsAt look top p d
      by None e s = absurd (false≢true s)
      by (Some m) e s = let v = node_some look top (tree top) (shows.each top (omega arith)) base are p m e in (v.0, (are.each p v.0).0 v.1)

  copies : (p : Path) (v : NodeRev) → StandsAt look N p v → Copies p v
  copies = for_each look N Copies down root
    where
      nothing : (k : ℕ) → take k (let e : Path = [] in e) ≡ []
      nothing zero = refl
      nothing (suc k) = refl

      at_root : (r k : ℕ) (q : NodeRev) → StandsAt look r (take k []) q → StandsAt look r [] q
      at_root r k q s = subst (λ (x : Path). StandsAt look r x q) (nothing k) s

      root : (v : NodeRev) → StandsAt look N [] v → Copies [] v
      root v at =
          let w = written.only [] v at in
          let same = some_same (own []) w.0 draft.root.0 w.1 draft.root.2 in
          let mine : IsOwn w.0 = subst IsOwn (sym same) draft.root.4 in
          let as_top : copy_root_of v ≡ copy_root_of draft.root.1 = final_root w.0 v w.2 mine ∙ ap (draft_root N) same ∙ draft.root.9 N lt in
          let here : (r : ℕ) (u : NodeRev) → StandsAt look r [] u → IsCopiedIn look r [] (copy_root_of u).0
          = λ r u at. record {
            at_most = λ k q le s. let one = stands_same look r [] q u (at_root r k q s) at in let h = ap (λ (y : NodeRev). (copy_root_of y).0) one in omega arith;
            some = (0, u, omega arith, at, refl);
          } in
          record {
            count = (copy_root_of v).0;
            is = here N v at;
            most = root_most N [] v at;
            held = λ x atx del.
                let one = stands_same look top [] draft.root.1 x draft.root.3 atx in
                subst (λ (c : ℕ). IsCopiedIn look top [] c) (sym (ap (λ (z : ℕ × Path). z.0) (as_top ∙ ap copy_root_of one))) (here top x atx);
            near = λ x atx del a le w.
                let one = stands_same look top [] draft.root.1 w.node draft.root.3 (at_root top w.depth w.node w.stands) in
                let rr : copy_root_of v ≡ copy_root_of w.node = as_top ∙ ap copy_root_of one in
                (record { depth = 0; within = omega arith; node = v; stands = at; root = ap (λ (z : ℕ × Path). z.0) rr ∙ w.root; nearest = λ k q less le. absurd (omega arith) }, ap (λ (z : ℕ × Path). z.1) rr);
            search = λ a. elim (same_or_not (copy_root_of v).0 a) [
              | inl e ↦ inl (record { depth = 0; within = omega arith; node = v; stands = at; root = e; nearest = λ k q less le. absurd (omega arith) })
              | inr other ↦ inr (λ k q le s. subst (λ (y : NodeRev). (copy_root_of y).0 ≢ a) (sym (stands_same look N [] q v (at_root N k q s) at)) other)
            ];
          }

      down : (p : Path) (name : PathName) (dir v : NodeRev) → StandsAt look N p dir → dir.kind ≡ Rattle.fsfs_base.specs.declared.kind.Kind.TheVariants.Dir → ChildOf look dir name (Ok (Some v)) → StandsAt look N (p ++ name ∷ []) v → Copies p dir → Copies (p ++ name ∷ []) v
      down p name dir v at_dir kind child at c =
          let above = c.is.at_most (length p) dir (omega arith) (subst (λ (x : Path). StandsAt look N x dir) (sym (take-length p)) at_dir) in
          record {
            count = max c.count (copy_root_of v).0;
            is = copied_down look N p name v at c.count c.is;
            most = (let m = root_most N (p ++ name ∷ []) v at in let k = c.most in omega arith);
            held = λ x atx del. held_down above x atx del;
            near = λ x atx del a le w. near_down above x atx del a le w;
            search = λ a. elim (same_or_not (copy_root_of v).0 a) [
              | inl e ↦ inl (nearest_here look N p name v at a e).0
              | inr other ↦ elim (c.search a) [
                | inl z ↦ inl (nearest_above look N p name v at a other z).0
                | inr none ↦ inr (λ k q le s. deeper a other none k q le s)
              ]
            ];
          }
        where
          deeper : (a : ℕ) → (copy_root_of v).0 ≢ a → ((k : ℕ) (q : NodeRev) → k ≤ length p → StandsAt look N (take k p) q → (copy_root_of q).0 ≢ a)
              → (k : ℕ) (q : NodeRev) → k ≤ length (p ++ name ∷ []) → StandsAt look N (take k (p ++ name ∷ [])) q → (copy_root_of q).0 ≢ a
          deeper a other none k q le s = elim (split k (length p) (let e = length_push p name in omega (arith, e))) [
            | inl low ↦ none k q low (subst (λ (x : Path). StandsAt look N x q) (short p name k low) s)
            | inr e ↦
                let f : take k (p ++ name ∷ []) ≡ p ++ name ∷ [] = ap (λ (m : ℕ). take m (p ++ name ∷ [])) (e ∙ sym (length_push p name)) ∙ take-length (p ++ name ∷ []) in
                let same = stands_same look N (p ++ name ∷ []) q v (subst (λ (x : Path). StandsAt look N x q) f s) at in
                subst (λ (y : NodeRev). (copy_root_of y).0 ≢ a) (sym same) other
          ]

          held_down : (copy_root_of dir).0 ≤ c.count → (x : NodeRev) → StandsAt look top (p ++ name ∷ []) x → (effects marks (p ++ name ∷ [])).deleted ≡ false → IsCopiedIn look top (p ++ name ∷ []) (max c.count (copy_root_of v).0)
          held_down above x atx del =
              let d = above_at p name x atx in
              let up = copied_down look top p name x atx c.count (c.held d.0 d.1 (deleted_up p name del)) in
              let home = stands_home look top (p ++ name ∷ []) x atx in
              let low = root_le x x.copy_root home.0.root in
              subst (λ (m : ℕ). IsCopiedIn look top (p ++ name ∷ []) m) (same low (root_is p name dir v x at_dir at atx del)) up
            where
              same : (copy_root_of x).0 ≤ own_rev x → RootIs v x dir → max c.count (copy_root_of x).0 ≡ max c.count (copy_root_of v).0
              same low (AsBase e) = let f = ap (λ (z : ℕ × Path). z.0) e in ap (λ (m : ℕ). max c.count m) (sym f)
              same low (AsAbove less e) = let f = ap (λ (z : ℕ × Path). z.0) e in omega (arith, f, less, low, above)

          near_down : (copy_root_of dir).0 ≤ c.count → (x : NodeRev) → StandsAt look top (p ++ name ∷ []) x → (effects marks (p ++ name ∷ [])).deleted ≡ false → (a : ℕ) → max c.count (copy_root_of v).0 ≤ a → (w : Nearest look top (p ++ name ∷ []) a)
              → (z : Nearest look N (p ++ name ∷ []) a) × ((copy_root_of z.node).1 ≡ (copy_root_of w.node).1)
          near_down above x atx del a le w = by (nearest_is look top p name x atx a w) (root_is p name dir v x at_dir at atx del)
            where
              d : (d : NodeRev) × StandsAt look top p d
              d = above_at p name x atx

              low : (copy_root_of x).0 ≤ own_rev x
              low = root_le x x.copy_root (stands_home look top (p ++ name ∷ []) x atx).0.root

              by : NearestIs look top p name x atx a w → RootIs v x dir → (z : Nearest look N (p ++ name ∷ []) a) × ((copy_root_of z.node).1 ≡ (copy_root_of w.node).1)
              by (AtPath here root) (AsBase e) =
                  let z = nearest_here look N p name v at a (ap (λ (y : ℕ × Path). y.0) e ∙ root) in
                  (z.0, ap (λ (y : NodeRev). (copy_root_of y).1) z.1 ∙ ap (λ (y : ℕ × Path). y.1) e ∙ ap (λ (y : NodeRev). (copy_root_of y).1) (sym here))
              by (AtPath here root) (AsAbove less e) = absurd (omega (arith, less, low, root, above, le))
              by (Above other y same) rule =
                  let up = c.near d.0 d.1 (deleted_up p name del) a (omega arith) y in
                  elim (same_or_not (copy_root_of v).0 a) [
                    | inr apart ↦ (let z = nearest_above look N p name v at a apart up.0 in
                        (z.0, ap (λ (k : NodeRev). (copy_root_of k).1) z.1 ∙ up.1 ∙ ap (λ (k : NodeRev). (copy_root_of k).1) same))
                    | inl at_a ↦ (let z = nearest_here look N p name v at a at_a in
                        (z.0, ap (λ (k : NodeRev). (copy_root_of k).1) z.1 ∙ lifted rule other at_a up.0 ∙ up.1 ∙ ap (λ (k : NodeRev). (copy_root_of k).1) same))
                  ]
                where
                  lifted : RootIs v x dir → (copy_root_of x).0 ≢ a → (copy_root_of v).0 ≡ a → (z : Nearest look N p a) → (copy_root_of v).1 ≡ (copy_root_of z.node).1
                  lifted (AsBase e) other at_a z = absurd (other (sym (ap (λ (k : ℕ × Path). k.0) e) ∙ at_a))
                  lifted (AsAbove less e) other at_a z =
                      let one = nearest_at look N p a dir at_dir (sym (ap (λ (k : ℕ × Path). k.0) e) ∙ at_a) z in
                      ap (λ (k : ℕ × Path). k.1) e ∙ ap (λ (k : NodeRev). (copy_root_of k).1) (sym one)

  -- ---- predecessors of the draft's node-revisions are of trees up to the youngest

  Readied : NodeRev → Type 0
  Readied u = (w : NodeRev) × IsPred look u w × IsOf look top w

  none_pred : (u w : NodeRev) → IsPred look u w → u.predecessor ≢ None
  none_pred u w p e = let f = sym p.1 ∙ e in cc

  ready : (p : Path) (v : NodeRev) → StandsAt look N p v → (u : NodeRev) → own p ≡ Some u → IsOwn u → u.predecessor ≢ None → (w : NodeRev) × IsPred look u w × IsOf look top w
  ready = for_each look N (λ p v. (u : NodeRev) → own p ≡ Some u → IsOwn u → u.predecessor ≢ None → (w : NodeRev) × IsPred look u w × IsOf look top w) down root
    where
      root : (v : NodeRev) → StandsAt look N [] v → (u : NodeRev) → own [] ≡ Some u → IsOwn u → u.predecessor ≢ None → (w : NodeRev) × IsPred look u w × IsOf look top w
      root v at u e mine some =
          let same = some_same (own []) u draft.root.0 e draft.root.2 in
          (draft.root.1, (draft.root.1.id, ap (λ (x : NodeRev). x.predecessor) same ∙ draft.root.5, stands_of_id look top [] draft.root.1 draft.root.3), (top, [], omega arith, draft.root.3))

      down : (p : Path) (name : PathName) (dir v : NodeRev) → StandsAt look N p dir → dir.kind ≡ Rattle.fsfs_base.specs.declared.kind.Kind.TheVariants.Dir → ChildOf look dir name (Ok (Some v)) → StandsAt look N (p ++ name ∷ []) v
          → ((u : NodeRev) → own p ≡ Some u → IsOwn u → u.predecessor ≢ None → (w : NodeRev) × IsPred look u w × IsOf look top w)
          → (u : NodeRev) → own (p ++ name ∷ []) ≡ Some u → IsOwn u → u.predecessor ≢ None → (w : NodeRev) × IsPred look u w × IsOf look top w
      down p name dir v at_dir kind child at above u e mine some = elim (copy_or u.copy_from) [
        | inr from ↦ (let c = draft.copied (p ++ name ∷ []) u from.0 e mine from.1 in
            (c.0, (c.0.id, c.3, stands_of_id look from.0.rev from.0.path c.0 c.2), (from.0.rev, from.0.path, c.1, c.2)))
        | inl plain ↦
            let a = draft.above p name u e in
            let g = draft.goes_on p name a.0 u a.1 e mine plain some in
            let mine_dir = own_dir p name a.0 u a.1 e mine in
            let b = above a.0 a.1 mine_dir (none_pred a.0 g.0 g.2) in
            let same = pred_same look a.0 b.0 g.0 b.1 g.2 in
            let of : IsOf look top g.0 = subst (λ (x : NodeRev). IsOf look top x) same b.2 in
            let is_dir = sym (draft.pred p a.0 g.0 a.1 mine_dir g.2).1 ∙ a.2 in
            (g.1, g.4, (of.0, of.1 ++ name ∷ [], of.2, Rattle.fsfs_revision.proofs.Walks.child_stands look of.0 g.0 g.1 of.1 name of.3 is_dir g.3))
      ]

  -- ---- a node

  copied_le : (r : ℕ) (p : Path) (a b : ℕ) → IsCopiedIn look r p a → IsCopiedIn look r p b → a ≤ b
  copied_le r p a b v w = let s = v.some in let h = w.at_most s.0 s.1 s.2 s.3 in let e = s.4 in omega arith

  kind_of : (u v : NodeRev) → Finished N u v → v.kind ≡ u.kind
  kind_of u v (AsItWas plain same) = ap (λ (x : NodeRev). x.kind) same
  kind_of u v (Done mine f) = f.kind

  cov_take : (r p : Path) (k : ℕ) → covers r p ≡ true → length r ≤ k → covers r (take k p) ≡ true
  cov_take [] p k c le = refl
  cov_take (x ∷ r) [] k c le = absurd (false≢true c)
  cov_take (x ∷ r) (y ∷ p) zero c le = absurd (omega arith)
  cov_take (x ∷ r) (y ∷ p) (suc k) c le = and_from _ _ ((and_parts _ _ c).0) (cov_take r p k ((and_parts _ _ c).1) (omega arith))

  take_cov : (p : Path) (k : ℕ) → covers (take k p) p ≡ true
  take_cov [] zero = refl
  take_cov [] (suc k) = refl
  take_cov (y ∷ p) zero = refl
  take_cov (y ∷ p) (suc k) = and_from _ _ (Rattle.fsfs_base.proofs.PathLemmas.same_name-refl y) (take_cov p k)

  take_to : (r p : Path) → covers r p ≡ true → take (length r) p ≡ r
  take_to r p c = ap (λ (x : Path). take (length r) x) (sym (split_at r p c)) ∙ Rattle.fsfs_revision.proofs.Walks.take_front r (drop (length r) p)

  contents_le : (p : Path) (v : NodeRev) → StandsAt look N p v → contents_rev v.props ≤ N
  contents_le p v at = let h = stands_home look N p v at in let l = props_le (offset_rev v) v.props h.0.props in omega (arith, h.1, l)
    where
      offset_rev : NodeRev → Rattle.fsfs_revision.specs.declared.damage.RevOffset.RevOffset
      offset_rev v = Rattle.fsfs_revision.specs.Shows.Reading.offset_of v.id.place

  module _ (p : Path) (v : NodeRev) (y : Node) (at : StandsAt look N p v) (is : landed p ≡ Some y) where
    c : Copies p v
    c = copies p v at

    w : (u : NodeRev) × (own p ≡ Some u) × Finished N u v
    w = written.only p v at

    -- what was held
    kept : (x : Node) → tree top p ≡ Some x → (effects marks p).deleted ≡ false → y.kind ≡ x.kind → y.source ≡ x.source → y.added ≡ x.added
        → y.props_changed ≡ (if (effects marks p).props_changed then N else x.props_changed) → y.last_changed ≡ (if (effects marks p).touched then N else x.last_changed) → IsShown look N p v y
    kept x ex del ekind esource eadded eprops elast =
        let b = node_some look top (tree top) (shows.each top (omega arith)) base are p x ex in
        let atx = (are.each p b.0).0 b.1 in
        let n = shown_there look top (tree top) (shows.each top (omega arith)) p b.0 atx in
        let one : n.0 ≡ x = some_same (tree top p) n.0 x n.1 ex in
        let h = held_at p v b.0 at atx del in
        whole_node b.0 atx n.0 n.2 one h
      where
        whole_node : (x' : NodeRev) → StandsAt look top p x' → (nb : Node) → IsShown look top p x' nb → nb ≡ x → HeldAt p v x' → IsShown look N p v y
        whole_node x' atx nb sh one h = record {
          kind = ekind ∙ ap (λ (z : Node). z.kind) (sym one) ∙ sh.kind ∙ same_kind h.either;
          text = reads.text p v y at is;
          properties = reads.props p v y at is;
          first = sh.first;
          chain = chain h.either;
          copied = c.count;
          copied_is = c.is;
          added = added_is;
          props_changed = props (effects marks p).props_changed refl eprops;
          last_changed = last (effects marks p).touched refl elast;
          source = source sh.source;
        }
          where
            home : IsHome x' × (own_rev x' ≤ top)
            home = stands_home look top p x' atx

            counts : sh.copied ≡ c.count
            counts = let a = copied_le top p sh.copied c.count sh.copied_is (c.held x' atx del) in let b = copied_le top p c.count sh.copied (c.held x' atx del) sh.copied_is in omega arith

            flat_added : x.added ≡ max sh.first sh.copied
            flat_added = ap (λ (z : Node). z.added) (sym one) ∙ sh.added

            added_is : y.added ≡ max sh.first c.count
            added_is = eadded ∙ flat_added ∙ ap (λ (k : ℕ). max sh.first k) counts

            as_base : h.node ≡ x' → v ≡ x'
            as_base same = by h.node h.finished same
              where
                by : (u : NodeRev) → Finished N u v → u ≡ x' → v ≡ x'
                by u (AsItWas plain e) same = e ∙ same
                by u (Done mine f) same = absurd (both_ways _ (lasting look top p x' atx).place (subst IsOwn same mine))

            as_next : IsSuccessor x' h.node (effects marks p).props_changed → IsFinal N h.node v
            as_next s = by h.node h.finished s.own
              where
                by : (u : NodeRev) → Finished N u v → IsOwn u → IsFinal N u v
                by u (AsItWas plain e) mine = absurd (both_ways _ plain mine)
                by u (Done mine' f) mine = f

            same_kind : (h.node ≡ x') ⊎ (IsSuccessor x' h.node (effects marks p).props_changed) → x'.kind ≡ v.kind
            same_kind (inl same) = ap (λ (z : NodeRev). z.kind) (sym (as_base same))
            same_kind (inr s) = sym s.kind ∙ sym (as_next s).kind

            chain : (h.node ≡ x') ⊎ (IsSuccessor x' h.node (effects marks p).props_changed) → Chain look v (Ok sh.first)
            chain (inl same) = subst (λ (z : NodeRev). Chain look z (Ok sh.first)) (sym (as_base same)) sh.chain
            chain (inr s) = chain_on v h.node x' sh.first (as_next s).predecessor (pred_is x' h.node p _ atx s) sh.chain

            base_props : v.props ≡ x'.props → x.props_changed ≡ max y.added (contents_rev v.props)
            base_props e = ap (λ (z : Node). z.props_changed) (sym one) ∙ sh.props_changed ∙ (λ i. max ((ap (λ (z : Node). z.added) one ∙ sym eadded) i) (contents_rev (sym e i)))

            props : (b : Bool) → (effects marks p).props_changed ≡ b → y.props_changed ≡ (if b then N else x.props_changed) → y.props_changed ≡ max y.added (contents_rev v.props)
            props true pc e = e ∙ set (elim (cases_Bool (effects marks p).touched) [
              | inl w ↦ h.touched w
              | inr un ↦ absurd (both_ways _ (props_touched marks p un) pc)
            ])
              where
                set : IsSuccessor x' h.node (effects marks p).props_changed → N ≡ max y.added (contents_rev v.props)
                set s =
                    let own_file : h.node.props ≡ Some contents.Own = s.props ∙ ap (λ (b : Bool). if b then Some contents.Own else x'.props) pc in
                    let o = (as_next s).own_props own_file in
                    let m = at_most tree top top (shown_revisions look top tree shows) (omega arith) p x ex in
                    let r : max sh.first sh.copied ≤ N = most in
                    omega (arith, o.1, added_is, counts, r)
                  where
                    most : max sh.first sh.copied ≤ N
                    most =
                        let f = chain_le look x' (Ok sh.first) sh.first sh.chain refl home.0 in
                        let k = c.most in omega (arith, f, home.1, k, counts)
            props false pc e = e ∙ base_props (same_props h.either)
              where
                same_props : (h.node ≡ x') ⊎ (IsSuccessor x' h.node (effects marks p).props_changed) → v.props ≡ x'.props
                same_props (inl same) = ap (λ (z : NodeRev). z.props) (as_base same)
                same_props (inr s) =
                    let plain : h.node.props ≡ x'.props = s.props ∙ ap (λ (b : Bool). if b then Some contents.Own else x'.props) pc in
                    (as_next s).other_props (λ q. (lasting look top p x' atx).props (sym plain ∙ q)) ∙ plain

            last : (b : Bool) → (effects marks p).touched ≡ b → y.last_changed ≡ (if b then N else x.last_changed) → y.last_changed ≡ max c.count (own_rev v)
            last true w e = e ∙ (let f = as_next (h.touched w) in let r = f.rev in let m = c.most in omega arith)
            last false un e = e ∙ ap (λ (z : Node). z.last_changed) (sym one) ∙ sh.last_changed ∙ (λ i. max (counts i) (own_rev (sym (as_base (h.untouched un)) i)))

            source : IsSource look top p sh.first nb.added nb.source → IsSource look N p sh.first y.added y.source
            source (inl s) = inl (s.0 ∙ ap (λ (z : Node). z.added) one ∙ sym eadded, esource ∙ ap (λ (z : Node). z.source) (sym one) ∙ s.1)
            source (inr s) = inr (
              subst (λ (k : ℕ). sh.first < k) same_added s.0,
              moved (subst (λ (k : ℕ). IsOfCopy look top p k nb.source) same_added s.1),
            )
              where
                same_added : nb.added ≡ y.added
                same_added = ap (λ (z : Node). z.added) one ∙ sym eadded

                moved : IsOfCopy look top p y.added nb.source → IsOfCopy look N p y.added y.source
                moved o =
                    let z = c.near x' atx del y.added (omega (arith, added_is)) o.near in
                    record {
                      near = z.0;
                      met = o.met;
                      root = subst (λ (q : Path). MetAt look y.added q (Ok o.met)) (sym z.1) o.root;
                      source_is = esource ∙ ap (λ (k : Node). k.source) (sym one) ∙ o.source_is ∙ ap (λ (q : Path). source_by q p o.met) (sym z.1);
                    }

    -- what it made, or copied
    its : (m : Node) → t p ≡ Some m → y.kind ≡ m.kind → y.source ≡ m.source → y.added ≡ N → y.props_changed ≡ N → y.last_changed ≡ N → FreshAt N own p m → IsShown look N p v y
    its m em ekind esource eadded eprops elast (MadeHere u eu mine none plain) =
        let same = some_same (own p) w.0 u w.1 eu in
        let f : IsFinal N u v = done u (subst (λ (z : NodeRev). Finished N z v) same w.2) mine in
        let r = f.rev in
        let k = c.most in
        let props = contents_le p v at in
        record {
          kind = ekind ∙ draws.kinds p u m eu em ∙ sym f.kind;
          text = reads.text p v y at is;
          properties = reads.props p v y at is;
          first = own_rev v;
          chain = First v (f.predecessor ∙ none);
          copied = c.count;
          copied_is = c.is;
          added = eadded ∙ omega (arith, r, k);
          props_changed = eprops ∙ omega (arith, props, eadded);
          last_changed = elast ∙ omega (arith, r, k);
          source = inl (r ∙ sym eadded, esource ∙ plain);
        }
      where
        done : (u : NodeRev) → Finished N u v → IsOwn u → IsFinal N u v
        done u (AsItWas plain e) mine = absurd (both_ways _ plain mine)
        done u (Done mine' f) mine = f
    its m em ekind esource eadded eprops elast (CameWith r cp from cov er mine_c copy nearest goes src) =
        let there = written.there r cp er in
        let f = done cp there.0 there.2 mine_c in
        let dc = draft.copied r cp from er mine_c copy in
        let root : copy_root_of there.0 ≡ (N, r) = f.root ∙ dc.5 N lt in
        let root_rev : (copy_root_of there.0).0 ≡ N = ap (λ (z : ℕ × Path). z.0) root in
        let at_r : StandsAt look N (take (length r) p) there.0 = subst (λ (x : Path). StandsAt look N x there.0) (sym (take_to r p cov)) there.1 in
        let low = c.is.at_most (length r) there.0 (covers-length r p cov) at_r in
        let k = c.most in
        let count : c.count ≡ N = omega (arith, low, root_rev, k) in
        let props = contents_le p v at in
        let home = stands_home look N p v at in
        let ch = begin w.2 in
        record {
          kind = ekind ∙ draws.kinds p w.0 m w.1 em ∙ sym (kind_of w.0 v w.2);
          text = reads.text p v y at is;
          properties = reads.props p v y at is;
          first = ch.0;
          chain = ch.1;
          copied = c.count;
          copied_is = c.is;
          added = eadded ∙ (let q = ch.2 in omega (arith, count, q));
          props_changed = eprops ∙ omega (arith, props, eadded);
          last_changed = elast ∙ (let q = home.1 in omega (arith, count, q));
          source = inr (
            (let q = ch.2 in omega (arith, eadded, q)),
            subst (λ (a : ℕ). IsOfCopy look N p a y.source) (sym eadded) (of_copy there.0 there.1 root_rev at_r (f.copy_from ∙ copy) (c.search N)),
          );
        }
      where
        done : (u z : NodeRev) → Finished N u z → IsOwn u → IsFinal N u z
        done u z (AsItWas plain e) mine = absurd (both_ways _ plain mine)
        done u z (Done mine' f) mine = f

        begin : Finished N w.0 v → (first : ℕ) × Chain look v (Ok first) × (first ≤ top)
        begin (AsItWas plain same) =
            let l = draft.lasting p w.0 w.1 plain in
            chain_of v (l.0, l.1, l.2, subst (λ (z : NodeRev). StandsAt look l.0 l.1 z) (sym same) l.3)
        begin (Done mine f) =
            let q = ready p v at w.0 w.1 mine (goes w.0 w.1 mine) in
            let ch = chain_of q.0 q.2 in
            (ch.0, chain_on v w.0 q.0 ch.0 f.predecessor q.1 ch.1, ch.2)

        of_copy : (vr : NodeRev) → StandsAt look N r vr → (copy_root_of vr).0 ≡ N → StandsAt look N (take (length r) p) vr → vr.copy_from ≡ Some from
            → Nearest look N p N ⊎ ((k : ℕ) (q : NodeRev) → k ≤ length p → StandsAt look N (take k p) q → (copy_root_of q).0 ≢ N) → IsOfCopy look N p N y.source
        of_copy vr stands root at_r copied (inr none) = absurd (none (length r) vr (covers-length r p cov) at_r root)
        of_copy vr stands root at_r copied (inl z) = record {
          near = z;
          met = Stands vr;
          root = subst (λ (q : Path). StandsAt look N q vr) (sym path) stands;
          source_is = esource ∙ src ∙ by_cover (covers r p) cov ∙ (λ i. source_by (sym path i) p (Stands vr));
        }
          where
            deep : length r ≤ z.depth
            deep = elim (split (length r) z.depth (later (length r) z.depth z.within (λ less. z.nearest (length r) vr less (covers-length r p cov) at_r root))) [
              | inl le ↦ le
              | inr e ↦ absurd (z.nearest (length r) vr (omega arith) (covers-length r p cov) at_r root)
            ]
              where
                later : (a d : ℕ) → d ≤ length p → (d < a → ⊥) → a ≤ suc d
                later a d le n = grind arith

            path : (copy_root_of z.node).1 ≡ r
            path = let u = written.only (take z.depth p) z.node z.stands in by u.0 u.1 u.2
              where
                by : (u : NodeRev) → own (take z.depth p) ≡ Some u → Finished N u z.node → (copy_root_of z.node).1 ≡ r
                by u e (AsItWas plain same) =
                    let l = draft.lasting (take z.depth p) u e plain in
                    let h = root_most l.0 l.1 u l.3 in
                    let q : (copy_root_of u).0 ≡ N = ap (λ (x : NodeRev). (copy_root_of x).0) (sym same) ∙ z.root in
                    absurd (let g = l.2 in omega (arith, h, q, g))
                by u e (Done mine f) =
                    ap (λ (x : ℕ × Path). x.1) f.root ∙ nearest (take z.depth p) u (cov_take r p z.depth cov deep) (take_cov p z.depth) e (ap (λ (x : ℕ × Path). x.0) (sym f.root) ∙ z.root)

            by_cover : (b : Bool) → b ≡ true → Some (from.rev, from.path ++ drop (length r) p) ≡ copied_from r p vr.copy_from
            by_cover b h = sym (ap (copied_from r p) copied ∙ ap (λ (x : Bool). if x then Some (from.rev, from.path ++ drop (length r) p) else None) cov)

    pub shown : IsShown look N p v y
    shown = by (landed_is p y is)
      where
        by : LandedIs N (effects marks p) (tree top p) (t p) y → IsShown look N p v y
        by (Kept x ex del ekind esource eadded eprops elast) = kept x ex del ekind esource eadded eprops elast
        by (Its which m em ekind esource eadded eprops elast) = its m em ekind esource eadded eprops elast (draws.fresh p m em which)

  pub shows_landed : Shows look N landed
  shows_landed = record { each = λ p. let m = written.whole p in (m.0, m.1, by p m.0 m.1 (landed p) refl) }
    where
      there : (p : Path) → is_some (landed p) ≡ true → (v : NodeRev) × StandsAt look N p v
      there p s = at (own p) refl (draws.paths.there p ∙ sym (landed_some p) ∙ s)
        where
          at : (o : Option NodeRev) → own p ≡ o → is_some o ≡ true → (v : NodeRev) × StandsAt look N p v
          at None e h = absurd (false≢true h)
          at (Some u) e h = let w = written.there p u e in (w.0, w.1)

      by : (p : Path) (m : Met) → MetAt look N p (Ok m) → (o : Option Node) → landed p ≡ o → IsShownAs look N p m o
      by p (Stands v) at (Some y) e = shown p v y at e
      by p (Stands v) at None e =
          let w = written.only p v at in
          absurd (false≢true (sym (ap is_some e) ∙ landed_some p ∙ sym (draws.paths.there p) ∙ ap is_some w.1))
      by p (Lacking k) at None e = refl
      by p (Lacking k) at (Some y) e = let v = there p (ap is_some e) in absurd (let same = met_same look N p (Lacking k) (Stands v.0) at v.1 in cc)
      by p (Blocked k) at None e = refl
      by p (Blocked k) at (Some y) e = let v = there p (ap is_some e) in absurd (let same = met_same look N p (Blocked k) (Stands v.0) at v.1 in cc)

pub written_shows_landing : WrittenShowsLanding
written_shows_landing look top tree t marks base own shows was are side draft draws written reads = shows_landed look top tree t marks base own shows was are side draft draws written reads
