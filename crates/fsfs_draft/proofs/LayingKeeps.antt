-- What is laid behind a name of an own directory keeps what a draft has beside `IsDraft`: its files, what it drew, and its sources.
use Rattle.std.proofs.Common.{◌≡◌, ◌≤◌, ℕ, Bool, true, false, cond, List, [], ◌∷◌, ◌++◌, length, drop, refl, sym, ap, subst, ◌∙◌, inl, inr, append_assoc}
use Rattle.std.specs.Prelude.{Option, Some, None}
use mathlib.Core.Bool.{false≢true}
use Rattle.fsfs_base.specs.Paths.{PathName, Path, same_name, covers}
use Rattle.fsfs_tree.specs.Nodes.{TreeFunction}
use Rattle.fsfs_base.specs.declared.kind.Kind.TheVariants.{Dir}
use Rattle.fsfs_base.proofs.PathLemmas.{same_name-is, same_name-refl, split_at}
use Rattle.fsfs_base.specs.declared.fields.txn_name.TxnName.{TxnName}
use Rattle.fsfs_revision.specs.Told.{RevisionBytes}
use Rattle.fsfs_noderev.specs.declared.node_id.NodeId.{NodeId}
use Rattle.fsfs_noderev.specs.declared.node_rev.CopySource.{CopySource}
use Rattle.fsfs_revision.specs.Shows.Reading.{DirEntry}
use Rattle.fsfs_draft.specs.Own.{OwnNode, Own, below, shared_from, shared_under, graft, under, with_child, shared_at, opened}
use Rattle.fsfs_draft.specs.Drafts.{Folder, kept_of, IsDraft, ShowTrees}
use Rattle.fsfs_draft.specs.Steps.{EntriesHere}
use Rattle.fsfs_draft.specs.Sides.{HasFiles, OwnFiles, DrawnOnce, source_here, OwnSources}
use Rattle.fsfs_draft.specs.Laying.{laid_own, laid_in, IsLaying, IsDrawnFor}
use Rattle.fsfs_draft.proofs.Laying.{WhichOf, TheDirectory, TheLaid, Another}
use Rattle.fsfs_draft.proofs.Laying as laying_of
use Rattle.fsfs_draft.proofs.HangLaw.{some_same}
use Rattle.fsfs_draft.proofs.DrawLaw.{shared_last}
use Rattle.std.proofs.lemmas.Bool.{and_from, cases_Bool}

-- ---- what is shared depends on where own node-revisions go on from

abbrev pub Links : Type 0
Links = Option (Option CopySource × Option NodeId)

abbrev pub links : Option OwnNode → Links
links None = None
links (Some v) = Some (v.node.copy_from, v.node.predecessor)

linked : (trees : ℕ → TreeFunction) (o u : Option OwnNode) (S : TreeFunction) (q : Path) → links o ≡ links u → shared_under trees o S q ≡ shared_under trees u S q
linked trees None None S q e = refl
linked trees None (Some v) S q e = absurd cc
linked trees (Some v) None S q e = absurd cc
linked trees (Some v) (Some w) S q e =
    let one : (v.node.copy_from, v.node.predecessor) ≡ (let z : Option CopySource × Option NodeId = (w.node.copy_from, w.node.predecessor) in z) = cc in
    λ i. shared_from trees (one i).0 (one i).1 S q

pub same_shared : (trees : ℕ → TreeFunction) (q : Path) (A B : Own) (S : TreeFunction) → ((r t : Path) → q ≡ r ++ t → (t ≡ [] → ⊥) → links (A r) ≡ links (B r)) → (s : Path) → shared_at trees q A S s ≡ shared_at trees q B S s
same_shared trees [] A B S same s = refl
same_shared trees (y ∷ q) A B S same s =
    same_shared trees q (below y A) (below y B) (below y (shared_under trees (A []) S)) (λ r t e n. same (y ∷ r) t (ap (λ (z : Path). y ∷ z) e) n) s
    ∙ (λ i. shared_at trees q (below y B) (λ r. linked trees (A []) (B []) S (y ∷ r) (same [] (y ∷ q) refl (λ e. absurd cc)) i) s)

-- ---- a graft, path by path

pub graft_here : (p : Path) (new own : Own) (r : Path) → graft p new own (p ++ r) ≡ new r
graft_here [] new own r = refl
graft_here (x ∷ p) new own r = ap (λ (b : Bool). cond b (graft p new (below x own) (p ++ r)) (own (x ∷ (p ++ r)))) (same_name-refl x) ∙ graft_here p new (below x own) r

-- but at and below the name, what is the directory's and stays there stays
pub stays_off : {X : Type 0} (f : Option OwnNode → X) (p : Path) (x : PathName) (d new : OwnNode) (child own : Own) (r : Path) → own p ≡ Some d → f (Some new) ≡ f (Some d) → covers (p ++ x ∷ []) r ≡ false → f (graft p (with_child new x child (under p own)) own r) ≡ f (own r)
stays_off f [] x d new child own [] here same c = same ∙ ap f (sym here)
stays_off f [] x d new child own (y ∷ r) here same c = by (same_name x y) refl
  where
    by : (b : Bool) → same_name x y ≡ b → f (cond b (child r) (own (y ∷ r))) ≡ f (own (y ∷ r))
    by true e = absurd (false≢true (sym c ∙ and_from _ _ e refl))
    by false e = refl
stays_off f (z ∷ p) x d new child own [] here same c = refl
stays_off f (z ∷ p) x d new child own (y ∷ r) here same c = by (same_name z y) refl (λ low. stays_off f p x d new child (below z own) r here same low)
  where
    Goal : PathName → Type 0
    Goal y = f (graft p (with_child new x child (under p (below z own))) (below y own) r) ≡ f (own (y ∷ r))

    by : (b : Bool) → same_name z y ≡ b → (covers (p ++ x ∷ []) r ≡ false → Goal z) → f (cond b (graft p (with_child new x child (under p (below z own))) (below y own) r) (own (y ∷ r))) ≡ f (own (y ∷ r))
    by false e g = refl
    by true e g = subst Goal (same_name-is z y e) (g (low (covers (p ++ x ∷ []) r) refl))
      where
        low : (b : Bool) → covers (p ++ x ∷ []) r ≡ b → covers (p ++ x ∷ []) r ≡ false
        low false k = k
        low true k = absurd (false≢true (sym c ∙ and_from _ _ e k))

last_same : (p q : Path) (x y : PathName) → p ++ x ∷ [] ≡ q ++ y ∷ [] → p ≡ q
last_same [] [] x y e = refl
last_same [] (z ∷ []) x y e = absurd cc
last_same [] (z ∷ w ∷ q) x y e = absurd cc
last_same (z ∷ []) [] x y e = absurd cc
last_same (z ∷ w ∷ p) [] x y e = absurd cc
last_same (z ∷ p) (w ∷ q) x y e =
    let head : z ≡ w = cc in
    let tail : p ++ x ∷ [] ≡ q ++ y ∷ [] = cc in
    λ i. head i ∷ last_same p q x y tail i

not_empty : (s t : Path) → (t ≡ [] → ⊥) → s ++ t ≡ [] → ⊥
not_empty [] t n e = n e
not_empty (y ∷ s) t n e = absurd cc

module _ (look : RevisionBytes) (top base : ℕ) (trees : ℕ → TreeFunction) (shown : ShowTrees look top trees) (le : base ≤ top) (txn : TxnName) (f : Folder) (own : Own) (draft : IsDraft look top base txn f own)
    (p : Path) (d : OwnNode) (here : own p ≡ Some d) (dir : d.node.kind ≡ Dir) (x : PathName) (entries : List DirEntry) (listed : EntriesHere look (kept_of d) entries)
    (laid : Option OwnNode) (new : List DirEntry) (after : Folder) (laying : IsLaying look top base txn f own p d x entries new laid after) where
  abbrev pub now : Own
  now = laid_in p d x new laid own

  abbrev Which : Path → OwnNode → Type 0
  Which q a = WhichOf look top base trees shown le txn f own draft p d here dir x entries listed laid new after laying q a

  which : (q : Path) (a : OwnNode) → now q ≡ Some a → Which q a
  which q a e = laying_of.which look top base trees shown le txn f own draft p d here dir x entries listed laid new after laying q a e

  -- ---- files

  pub files_kept : OwnFiles own → ((v : OwnNode) → laid ≡ Some v → HasFiles v) → OwnFiles now
  files_kept files each q a e = by (which q a e)
    where
      by : Which q a → HasFiles a
      by (TheDirectory at same) = let old = files p d here in subst HasFiles same (record { list = λ es g. refl; set = old.set; no_list = λ kind none g. absurd cc; no_set = old.no_set })
      by (TheLaid at is) = each a is
      by (Another is not_here) = files q a is

  -- ---- what was drawn

  record WasAt (q : Path) (a : OwnNode) : Type 0 where
    old : OwnNode
    was : own q ≡ Some old
    id : a.node.id ≡ old.node.id
    predecessor : a.node.predecessor ≡ old.node.predecessor
    copy : a.node.copy_from ≡ old.node.copy_from

  data Came (q : Path) (a : OwnNode) : Type 0 where
    Was : WasAt q a → Came q a
    Is : q ≡ p ++ x ∷ [] → laid ≡ Some a → Came q a

  came : (q : Path) (a : OwnNode) → now q ≡ Some a → Came q a
  came q a e = by (which q a e)
    where
      by : Which q a → Came q a
      by (TheDirectory at same) = Was (record { old = d; was = ap own at ∙ here; id = ap (λ (z : OwnNode). z.node.id) (sym same); predecessor = ap (λ (z : OwnNode). z.node.predecessor) (sym same); copy = ap (λ (z : OwnNode). z.node.copy_from) (sym same) })
      by (TheLaid at is) = Is at is
      by (Another is not_here) = Was (record { old = a; was = is; id = refl; predecessor = refl; copy = refl })

  -- at and below the name stands what is laid
  pub at_name : (s : Path) → now ((p ++ x ∷ []) ++ s) ≡ laid_own laid s
  at_name s = ap now (append_assoc p (x ∷ []) s) ∙ graft_here p (with_child (opened d new) x (laid_own laid) (under p own)) own (x ∷ s) ∙ ap (λ (b : Bool). cond b (laid_own laid s) (under p own (x ∷ s))) (same_name-refl x)

  below_laid : (o : Option OwnNode) (s : Path) (a : OwnNode) → laid_own o s ≡ Some a → s ≡ []
  below_laid None s a e = absurd cc
  below_laid (Some v) [] a e = refl
  below_laid (Some v) (y ∷ s) a e = absurd cc

  pub once_kept : DrawnOnce own → ((v : OwnNode) → laid ≡ Some v → IsDrawnFor own d v) → DrawnOnce now
  once_kept once fresh = record { made = made; copied = copied; apart = apart }
    where
      made : (q r : Path) (v w : OwnNode) → now q ≡ Some v → now r ≡ Some w → v.node.predecessor ≡ None → w.node.predecessor ≡ None → v.node.id.node ≡ w.node.id.node → q ≡ r
      made q r v w e g none lacks same = by (came q v e) (came r w g)
        where
          by : Came q v → Came r w → q ≡ r
          by (Was a) (Was c) = once.made q r a.old c.old a.was c.was (sym a.predecessor ∙ none) (sym c.predecessor ∙ lacks) (ap (λ (i : NodeId). i.node) (sym a.id) ∙ same ∙ ap (λ (i : NodeId). i.node) c.id)
          by (Is at is) (Is there are) = at ∙ sym there
          by (Was a) (Is there are) = absurd ((fresh w are).made lacks q a.old a.was (ap (λ (i : NodeId). i.node) (sym a.id) ∙ same))
          by (Is at is) (Was c) = absurd ((fresh v is).made none r c.old c.was (ap (λ (i : NodeId). i.node) (sym c.id) ∙ sym same))

      copied : (q r : Path) (v w : OwnNode) (from other : CopySource) → now q ≡ Some v → now r ≡ Some w → v.node.copy_from ≡ Some from → w.node.copy_from ≡ Some other → v.node.id.copy ≡ w.node.id.copy → q ≡ r
      copied q r v w from other e g copy copies same = by (came q v e) (came r w g)
        where
          by : Came q v → Came r w → q ≡ r
          by (Was a) (Was c) = once.copied q r a.old c.old from other a.was c.was (sym a.copy ∙ copy) (sym c.copy ∙ copies) (ap (λ (i : NodeId). i.copy) (sym a.id) ∙ same ∙ ap (λ (i : NodeId). i.copy) c.id)
          by (Is at is) (Is there are) = at ∙ sym there
          by (Was a) (Is there are) = absurd ((fresh w are).copied other copies q a.old a.was (ap (λ (i : NodeId). i.copy) (sym a.id) ∙ same))
          by (Is at is) (Was c) = absurd ((fresh v is).copied from copy r c.old c.was (ap (λ (i : NodeId). i.copy) (sym c.id) ∙ sym same))

      apart : (q r : Path) (name : PathName) (up v c : OwnNode) (from : CopySource) → now q ≡ Some up → now (q ++ name ∷ []) ≡ Some v → v.node.copy_from ≡ None → now r ≡ Some c → c.node.copy_from ≡ Some from → c.node.id.copy ≡ v.node.id.copy → v.node.id.copy ≡ up.node.id.copy
      apart q r name up v c from e g plain k copy same = by (came q up e) (came (q ++ name ∷ []) v g) (came r c k)
        where
          by : Came q up → Came (q ++ name ∷ []) v → Came r c → v.node.id.copy ≡ up.node.id.copy
          by (Is at is) child third = let low = below_laid laid (name ∷ []) v (sym (at_name (name ∷ [])) ∙ ap (λ (z : Path). now (z ++ name ∷ [])) (sym at) ∙ g) in absurd cc
          by (Was a) (Is at is) (Is there are) = let one = some_same laid v c is are in let z = sym plain ∙ ap (λ (w : OwnNode). w.node.copy_from) one ∙ copy in absurd cc
          by (Was a) (Is at is) (Was w) =
              let q_is : q ≡ p = last_same q p name x at in
              let old_is : d ≡ a.old = some_same (own p) d a.old here (ap own (sym q_is) ∙ a.was) in
              (fresh v is).other plain r w.old from w.was (sym w.copy ∙ copy) (ap (λ (i : NodeId). i.copy) (sym w.id) ∙ same) ∙ ap (λ (w : OwnNode). w.node.id.copy) old_is ∙ ap (λ (i : NodeId). i.copy) (sym a.id)
          by (Was a) (Was u) (Is there are) = absurd ((fresh c are).copied from copy (q ++ name ∷ []) u.old u.was (ap (λ (i : NodeId). i.copy) (sym u.id) ∙ sym same))
          by (Was a) (Was u) (Was w) =
              ap (λ (i : NodeId). i.copy) u.id
              ∙ once.apart q r name a.old u.old w.old from a.was u.was (sym u.copy ∙ plain) w.was (sym w.copy ∙ copy) (ap (λ (i : NodeId). i.copy) (sym w.id) ∙ same ∙ ap (λ (i : NodeId). i.copy) u.id)
              ∙ ap (λ (i : NodeId). i.copy) (sym a.id)

  -- ---- sources

  shared_same : (q : Path) (a : OwnNode) → now q ≡ Some a → (S : TreeFunction) (s : Path) → shared_at trees q now S s ≡ shared_at trees q own S s
  shared_same q a e S s = same_shared trees q now own S same s
    where
      same : (r t : Path) → q ≡ r ++ t → (t ≡ [] → ⊥) → links (now r) ≡ links (own r)
      same r t is n = elim (cases_Bool (covers (p ++ x ∷ []) r)) [
        | inr off ↦ stays_off links p x d (opened d new) (laid_own laid) own r here refl off
        | inl on ↦ (let w = split_at (p ++ x ∷ []) r on in
            let rest = drop (length (p ++ x ∷ [])) r in
            let there : q ≡ (p ++ x ∷ []) ++ (rest ++ t) = is ∙ ap (λ (z : Path). z ++ t) (sym w) ∙ append_assoc (p ++ x ∷ []) rest t in
            absurd (not_empty rest t n (below_laid laid (rest ++ t) a (sym (at_name (rest ++ t)) ∙ ap now (sym there) ∙ e))))
      ]

  pub sources_kept : OwnSources trees (trees base) own
      → ((v : OwnNode) → laid ≡ Some v → v.shown.source ≡ source_here v.node.copy_from v.node.predecessor (shared_under trees (Some d) (shared_at trees p own (trees base)) (x ∷ [])))
      → OwnSources trees (trees base) now
  sources_kept sources each q a e = by (which q a e) ∙ ap (λ (o : Option _). source_here a.node.copy_from a.node.predecessor o) (sym (shared_same q a e (trees base) []))
    where
      by : Which q a → a.shown.source ≡ source_here a.node.copy_from a.node.predecessor (shared_at trees q own (trees base) [])
      by (TheDirectory at same) = subst (λ (w : OwnNode). w.shown.source ≡ source_here w.node.copy_from w.node.predecessor (shared_at trees q own (trees base) [])) same
          (subst (λ (z : Path). d.shown.source ≡ source_here d.node.copy_from d.node.predecessor (shared_at trees z own (trees base) [])) (sym at) (sources p d here))
      by (TheLaid at is) = each a is ∙ ap (source_here a.node.copy_from a.node.predecessor)
          (ap (λ (o : Option OwnNode). shared_under trees o (shared_at trees p own (trees base)) (x ∷ [])) (sym here) ∙ sym (shared_last trees p x own (trees base) []) ∙ ap (λ (z : Path). shared_at trees z own (trees base) []) (sym at))
      by (Another is not_here) = sources q a is
