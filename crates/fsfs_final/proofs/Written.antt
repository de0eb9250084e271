-- A revision whose root and directories read as a draft's has the draft's node-revisions at the draft's paths.
use Rattle.std.proofs.Common.{◌≡◌, ◌<◌, ◌⊎◌, ℕ, zero, suc, true, false, [], ◌∷◌, ◌++◌, length, refl, sym, ap, subst, ◌∙◌, arith, inl, inr}
use Rattle.std.specs.Prelude.{Result, Ok, Option, Some, None}
use Rattle.fsfs_base.specs.Paths.{PathName, Path}
use Rattle.fsfs_tree.specs.Nodes.{TreeFunction}
use Rattle.fsfs_base.specs.declared.kind.Kind.{Kind}
use Rattle.fsfs_base.specs.declared.kind.Kind.TheVariants.{File, Dir}
use Rattle.fsfs_revision.specs.Told.{RevisionBytes}
use Rattle.fsfs_noderev.specs.declared.node_rev.NodeRev.{NodeRev}
use Rattle.fsfs_revision.specs.declared.wrong.Wrong.{Wrong}
use Rattle.fsfs_revision.specs.Shows.Reading.{ChildOf, Met, Stands, Lacking, Blocked, OrLacking, InDirectory, MetFrom, MetAt, StandsAt}
use Rattle.fsfs_revision.proofs.OneAnswer.{ok_same}
use Rattle.fsfs_revision.proofs.OneWalk.{child_one, stands_same}
use Rattle.fsfs_revision.proofs.Walks.{met_behind, in_dir, child_stands}
use Rattle.fsfs_revision.specs.Ancestry.Trees.{ShowTrees}
use Rattle.fsfs_revision.proofs.Standing.{for_each}
use Rattle.fsfs_revision.proofs.Roots.{length_push}
use Rattle.fsfs_draft.specs.OwnSides.{NodesAt, in_txn}
use Rattle.fsfs_draft.specs.NodeDrafts.{IsOwn, IsDraft}
use Rattle.fsfs_final.proofs.LastNames.{Root, Named, ends}
use Rattle.fsfs_final.specs.Final.{IsFinal, Finished, AsItWas, Done, IsWritten}
use Rattle.fsfs_final.specs.Directories.{ReadsAsDraft, HasAllBelow, DirectoriesAreEnough}
use Rattle.std.proofs.lemmas.Bool.{both_ways, cases_Bool}
use Rattle.fsfs_draft.proofs.HangLaw.{some_same}

-- ---- walks that end early go on so

past : (kind : Kind) (depth : ℕ) (R : Result (Option NodeRev) Wrong → Type 0) (S T : NodeRev → Result Met Wrong → Type 0) (m : Met)
    → ((v : NodeRev) → m ≡ Stands v → ⊥) → InDirectory kind depth R S (Ok m) → ((u : NodeRev) → S u (Ok m) → T u (Ok m)) → InDirectory kind depth R T (Ok m)
past File depth R S T m none on f = on
past Dir depth R S T m none on f = by on.0 on.1 on.2
  where
    by : (o : Option NodeRev) → R (Ok o) → OrLacking (suc depth) S o (Ok m) → InDirectory Dir depth R T (Ok m)
    by None child further = (None, child, further)
    by (Some u) child further = (Some u, child, f u further)

past_from : (look : RevisionBytes) (a : NodeRev) (depth : ℕ) (p q : Path) (m : Met) → ((v : NodeRev) → m ≡ Stands v → ⊥) → MetFrom look a depth p (Ok m) → MetFrom look a depth (p ++ q) (Ok m)
past_from look a depth [] q m none on = absurd (none a (ok_same m (Stands a) on))
past_from look a depth (x ∷ p) q m none on =
    past a.kind depth (ChildOf look a x) (λ w. MetFrom look w (suc depth) p) (λ w. MetFrom look w (suc depth) (p ++ q)) m none on (λ u further. past_from look u (suc depth) p q m none further)

past_met : (look : RevisionBytes) (r : ℕ) (p q : Path) (m : Met) → ((v : NodeRev) → m ≡ Stands v → ⊥) → MetAt look r p (Ok m) → MetAt look r (p ++ q) (Ok m)
past_met look r p q m none on = (on.0, on.1, past_from look on.0 0 p q m none on.2)

lacking_not : (k : ℕ) (v : NodeRev) → Lacking k ≡ Stands v → ⊥
lacking_not k v e = cc

blocked_not : (k : ℕ) (v : NodeRev) → Blocked k ≡ Stands v → ⊥
blocked_not k v e = cc

-- what a directory has of a name, from what is met there
pub child_in : (look : RevisionBytes) (a d : NodeRev) (depth : ℕ) (p : Path) (name : PathName) (m : Met) → MetFrom look a depth p (Ok (Stands d)) → d.kind ≡ Dir → MetFrom look a depth (p ++ name ∷ []) (Ok m) → (o : Option NodeRev) × ChildOf look d name (Ok o)
child_in look a d depth [] name m at kind on =
    let same : d ≡ a = (let e = ok_same (Stands d) (Stands a) at in cc) in
    here a.kind (sym (ap (λ (z : NodeRev). z.kind) same) ∙ kind) on
  where
    here : (k : Kind) → k ≡ Dir → InDirectory k depth (ChildOf look a name) (λ w r. r ≡ Ok (Stands w)) (Ok m) → (o : Option NodeRev) × ChildOf look d name (Ok o)
    here File e on = absurd cc
    here Dir e on = (on.0, subst (λ (z : NodeRev). ChildOf look z name (Ok on.0)) (let f = ok_same (Stands d) (Stands a) at in let same : a ≡ d = cc in same) on.1)
child_in look a d depth (x ∷ p) name m at kind on = both a.kind at on (λ u at on. child_in look u d (suc depth) p name m at kind on)
  where
    step : ((u : NodeRev) → MetFrom look u (suc depth) p (Ok (Stands d)) → MetFrom look u (suc depth) (p ++ name ∷ []) (Ok m) → (o : Option NodeRev) × ChildOf look d name (Ok o))
        → (o : Option NodeRev) → ChildOf look a x (Ok o) → OrLacking (suc depth) (λ w. MetFrom look w (suc depth) p) o (Ok (Stands d))
        → (o2 : Option NodeRev) → ChildOf look a x (Ok o2) → OrLacking (suc depth) (λ w. MetFrom look w (suc depth) (p ++ name ∷ [])) o2 (Ok m) → (o : Option NodeRev) × ChildOf look d name (Ok o)
    step deep None c f o2 c2 f2 = absurd cc
    step deep (Some u) c f None c2 f2 = absurd (let e = ok_same (Some u) None (child_one look a x (Ok (Some u)) (Ok None) c c2) in cc)
    step deep (Some u) c f (Some w) c2 f2 =
        let e = ok_same (Some u) (Some w) (child_one look a x (Ok (Some u)) (Ok (Some w)) c c2) in
        let same : w ≡ u = cc in
        deep u f (subst (λ (z : NodeRev). MetFrom look z (suc depth) (p ++ name ∷ []) (Ok m)) same f2)

    both : (k : Kind) → InDirectory k depth (ChildOf look a x) (λ w. MetFrom look w (suc depth) p) (Ok (Stands d)) → InDirectory k depth (ChildOf look a x) (λ w. MetFrom look w (suc depth) (p ++ name ∷ [])) (Ok m)
        → ((u : NodeRev) → MetFrom look u (suc depth) p (Ok (Stands d)) → MetFrom look u (suc depth) (p ++ name ∷ []) (Ok m) → (o : Option NodeRev) × ChildOf look d name (Ok o)) → (o : Option NodeRev) × ChildOf look d name (Ok o)
    both File at on deep = absurd cc
    both Dir at on deep = step deep at.0 at.1 at.2 on.0 on.1 on.2

module _ (look : RevisionBytes) (top : ℕ) (tree : ℕ → TreeFunction) (own : NodesAt) (done : Path → NodeRev)
    (shows : ShowTrees look top tree) (draft : IsDraft look top top own) (all : HasAllBelow look own) (reads : ReadsAsDraft look (suc top) own done) where
  abbrev N : ℕ
  N = suc top

  -- as it was, or as it is read
  abbrev Read : Path → NodeRev → NodeRev → Type 0
  Read p u v = ((in_txn u.id.place ≡ false) × (v ≡ u)) ⊎ ((in_txn u.id.place ≡ true) × (v ≡ done p))

  finished : (p : Path) (u v : NodeRev) → own p ≡ Some u → Read p u v → Finished N u v
  finished p u v e (inl w) = AsItWas w.0 w.1
  finished p u v e (inr w) = Done w.0 (subst (λ (z : NodeRev). IsFinal N u z) (sym w.1) (reads.final p u e w.0))

  kind_of : (p : Path) (u v : NodeRev) → own p ≡ Some u → Read p u v → v.kind ≡ u.kind
  kind_of p u v e (inl w) = ap (λ (z : NodeRev). z.kind) w.1
  kind_of p u v e (inr w) = ap (λ (z : NodeRev). z.kind) w.1 ∙ (reads.final p u e w.0).kind

  root_stands : StandsAt look N [] (done [])
  root_stands = (done [], reads.root, refl)

  -- the child of what is read
  child_read : (p : Path) (name : PathName) (d w v : NodeRev) → own p ≡ Some d → Read p d v → own (p ++ name ∷ []) ≡ Some w → (z : NodeRev) × ChildOf look v name (Ok (Some z)) × Read (p ++ name ∷ []) w z
  child_read p name d w v e (inl r) f =
      let c = draft.below_lasting p name d w e r.0 f in
      (w, subst (λ (z : NodeRev). ChildOf look z name (Ok (Some w))) (sym r.1) c.0, inl (c.1, refl))
  child_read p name d w v e (inr r) f = elim (cases_Bool (in_txn w.id.place)) [
    | inl mine ↦ (done (p ++ name ∷ []), subst (λ (z : NodeRev). ChildOf look z name (Ok (Some (done (p ++ name ∷ []))))) (sym r.1) (reads.mine p name d w e r.0 f mine), inr (mine, refl))
    | inr plain ↦ (w, subst (λ (z : NodeRev). ChildOf look z name (Ok (Some w))) (sym r.1) (reads.lasting p name d w e r.0 f plain), inl (plain, refl))
  ]

  root_there : (p : Path) (u : NodeRev) → p ≡ [] → own p ≡ Some u → (v : NodeRev) × StandsAt look N p v × Read p u v
  root_there p u is e =
      let same = some_same (own []) u draft.root.0 (subst (λ (x : Path). own x ≡ Some u) is e) draft.root.2 in
      let mine : IsOwn u = subst IsOwn (sym same) draft.root.4 in
      (done p, subst (λ (x : Path). StandsAt look N x (done x)) (sym is) root_stands, inr (mine, refl))

  below_there : (p : Path) (u : NodeRev) (q : Path) (name : PathName) → p ≡ q ++ name ∷ [] → own p ≡ Some u → ((d : NodeRev) → own q ≡ Some d → (v : NodeRev) × StandsAt look N q v × Read q d v) → (v : NodeRev) × StandsAt look N p v × Read p u v
  below_there p u q name is e above =
      let here = subst (λ (x : Path). own x ≡ Some u) is e in
      let d = draft.above q name u here in
      let up = above d.0 d.1 in
      let c = child_read q name d.0 u up.0 d.1 up.2 here in
      let at = child_stands look N up.0 c.0 q name up.1 (kind_of q d.0 up.0 d.1 up.2 ∙ d.2) c.1 in
      (c.0, subst (λ (x : Path). StandsAt look N x c.0) (sym is) at, subst (λ (x : Path). Read x u c.0) (sym is) c.2)

  there : (k : ℕ) (p : Path) (u : NodeRev) → length p < k → own p ≡ Some u → (v : NodeRev) × StandsAt look N p v × Read p u v
  there zero p u short e = absurd (omega arith)
  there (suc k) p u short e = elim (ends p) [
    | Root is ↦ root_there p u is e
    | Named q name is ↦ below_there p u q name is e (λ d f. there k q d (let a = ap length is in let b = length_push q name in omega (arith, a, b)) f)
  ]

  only : (p : Path) (v : NodeRev) → StandsAt look N p v → (u : NodeRev) × (own p ≡ Some u) × Read p u v
  only = for_each look N (λ p v. (u : NodeRev) × (own p ≡ Some u) × Read p u v) down root
    where
      root : (v : NodeRev) → StandsAt look N [] v → (u : NodeRev) × (own [] ≡ Some u) × Read [] u v
      root v at = (draft.root.0, draft.root.2, inr (draft.root.4, stands_same look N [] v (done []) at root_stands))

      down : (p : Path) (name : PathName) (dir v : NodeRev) → StandsAt look N p dir → dir.kind ≡ Dir → ChildOf look dir name (Ok (Some v)) → StandsAt look N (p ++ name ∷ []) v → (u : NodeRev) × (own p ≡ Some u) × Read p u dir
          → (u : NodeRev) × (own (p ++ name ∷ []) ≡ Some u) × Read (p ++ name ∷ []) u v
      down p name dir v at kind child stands d = by (own (p ++ name ∷ [])) refl
        where
          by : (o : Option NodeRev) → own (p ++ name ∷ []) ≡ o → (u : NodeRev) × (own (p ++ name ∷ []) ≡ Some u) × Read (p ++ name ∷ []) u v
          by (Some w) e =
              let c = child_read p name d.0 w dir d.1 d.2 e in
              let same : c.0 ≡ v = (let f = ok_same (Some c.0) (Some v) (child_one look dir name (Ok (Some c.0)) (Ok (Some v)) c.1 child) in cc) in
              (w, e, subst (λ (z : NodeRev). Read (p ++ name ∷ []) w z) same c.2)
          by None e = none d.2
            where
              none : Read p d.0 dir → (u : NodeRev) × (own (p ++ name ∷ []) ≡ Some u) × Read (p ++ name ∷ []) u v
              none (inl r) = absurd (let f = sym e ∙ all p name d.0 v d.1 r.0 (sym (ap (λ (z : NodeRev). z.kind) r.1) ∙ kind) (subst (λ (z : NodeRev). ChildOf look z name (Ok (Some v))) r.1 child) in cc)
              none (inr r) =
                  let is_dir : d.0.kind ≡ Dir = sym (reads.final p d.0 d.1 r.0).kind ∙ ap (λ (z : NodeRev). z.kind) (sym r.1) ∙ kind in
                  let lacks = subst (λ (z : NodeRev). ChildOf look z name (Ok None)) (sym r.1) (reads.lacking p name d.0 d.1 r.0 is_dir e) in
                  absurd (let f = ok_same None (Some v) (child_one look dir name (Ok None) (Ok (Some v)) lacks child) in cc)

  -- what is met where the draft has nothing
  met_below : (p : Path) (name : PathName) (d v : NodeRev) → own p ≡ Some d → Read p d v → StandsAt look N p v → (m : Met) × MetAt look N (p ++ name ∷ []) (Ok m)
  met_below p name d v e r at = by v.kind refl
    where
      has : v.kind ≡ Dir → (o : Option NodeRev) × ChildOf look v name (Ok o)
      has kind = read r
        where
          read : Read p d v → (o : Option NodeRev) × ChildOf look v name (Ok o)
          read (inl w) =
              let l = draft.lasting p d e w.0 in
              let met = (shows.each l.0 l.2).each (l.1 ++ name ∷ []) in
              let root_is : met.1.0 ≡ l.3.0 = ok_same met.1.0 l.3.0 (Rattle.fsfs_revision.proofs.OneNode.root_of_one look l.0 (Ok met.1.0) (Ok l.3.0) met.1.1 l.3.1) in
              let c = child_in look l.3.0 d 0 l.1 name met.0 l.3.2 (sym (ap (λ (z : NodeRev). z.kind) w.1) ∙ kind) (subst (λ (z : NodeRev). MetFrom look z 0 (l.1 ++ name ∷ []) (Ok met.0)) root_is met.1.2) in
              (c.0, subst (λ (z : NodeRev). ChildOf look z name (Ok c.0)) (sym w.1) c.1)
          read (inr w) = some (own (p ++ name ∷ [])) refl
            where
              some : (o : Option NodeRev) → own (p ++ name ∷ []) ≡ o → (o : Option NodeRev) × ChildOf look v name (Ok o)
              some None f = (None, subst (λ (z : NodeRev). ChildOf look z name (Ok None)) (sym w.1) (reads.lacking p name d e w.0 (sym (reads.final p d e w.0).kind ∙ ap (λ (z : NodeRev). z.kind) (sym w.1) ∙ kind) f))
              some (Some x) f = let c = child_read p name d x v e (inr w) f in (Some c.0, c.1)

      by : (k : Kind) → v.kind ≡ k → (m : Met) × MetAt look N (p ++ name ∷ []) (Ok m)
      by File k = (Blocked (length p), met_behind look N v p (name ∷ []) (Ok (Blocked (length p))) at (file v.kind k))
        where
          file : (k : Kind) → k ≡ File → InDirectory k (length p) (ChildOf look v name) (λ w. MetFrom look w (suc (length p)) []) (Ok (Blocked (length p)))
          file File e = refl
          file Dir e = absurd cc
      by Dir k = dir (has k)
        where
          dir : (o : Option NodeRev) × ChildOf look v name (Ok o) → (m : Met) × MetAt look N (p ++ name ∷ []) (Ok m)
          dir w = on w.0 w.1
            where
              on : (o : Option NodeRev) → ChildOf look v name (Ok o) → (m : Met) × MetAt look N (p ++ name ∷ []) (Ok m)
              on None c = (Lacking (suc (length p)), met_behind look N v p (name ∷ []) (Ok (Lacking (suc (length p)))) at (in_dir v.kind (length p) (ChildOf look v name) (λ w. MetFrom look w (suc (length p)) []) (Ok (Lacking (suc (length p)))) k (None, c, refl)))
              on (Some u) c = (Stands u, child_stands look N v u p name at k c)

  whole : (k : ℕ) (p : Path) → length p < k → (m : Met) × MetAt look N p (Ok m)
  whole zero p short = absurd (omega arith)
  whole (suc k) p short = elim (ends p) [
    | Root is ↦ (Stands (done []), subst (λ (x : Path). MetAt look N x (Ok (Stands (done [])))) (sym is) root_stands)
    | Named q name is ↦ (let m = whole k q (let a = ap length is in let b = length_push q name in omega (arith, a, b)) in
        let w = further q name m.0 m.1 in
        (w.0, subst (λ (x : Path). MetAt look N x (Ok w.0)) (sym is) w.1))
  ]
    where
      further : (q : Path) (name : PathName) (m : Met) → MetAt look N q (Ok m) → (m : Met) × MetAt look N (q ++ name ∷ []) (Ok m)
      further q name (Lacking k) on = (Lacking k, past_met look N q (name ∷ []) (Lacking k) (lacking_not k) on)
      further q name (Blocked k) on = (Blocked k, past_met look N q (name ∷ []) (Blocked k) (blocked_not k) on)
      further q name (Stands v) on = let u = only q v on in met_below q name u.0 v u.1 u.2 on

  pub written : IsWritten look N own
  written = record {
    there = λ p u e. let w = there (suc (length p)) p u (omega arith) e in (w.0, w.1, finished p u w.0 e w.2);
    only = λ p v at. let w = only p v at in (w.0, w.1, finished p w.0 v w.1 w.2);
    whole = λ p. whole (suc (length p)) p (omega arith);
    once = once;
  }
    where
      is_done : (p : Path) (u v : NodeRev) → own p ≡ Some u → in_txn u.id.place ≡ true → StandsAt look N p v → v ≡ done p
      is_done p u v e mine at = let w = only p v at in by w.2 (some_same (own p) w.0 u w.1 e)
        where
          by : {x : NodeRev} → Read p x v → x ≡ u → v ≡ done p
          by (inl r) same = absurd (both_ways _ r.0 (subst IsOwn (sym same) mine))
          by (inr r) same = r.1

      once : (p q : Path) (u w v : NodeRev) → own p ≡ Some u → own q ≡ Some w → in_txn u.id.place ≡ true → in_txn w.id.place ≡ true → StandsAt look N p v → StandsAt look N q v → p ≡ q
      once p q u w v e f mine mine2 at at2 = reads.apart p q u w e f mine mine2 (sym (is_done p u v e mine at) ∙ is_done q w v f mine2 at2)

pub directories_are_enough : DirectoriesAreEnough
directories_are_enough look top tree own done shows draft all reads = written look top tree own done shows draft all reads
