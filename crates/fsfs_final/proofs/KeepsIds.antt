-- The rules of ids hold of the revision that is made of a draft, beside those before it.
use Rattle.std.proofs.Common.{◌≡◌, ◌≤◌, ◌<◌, ◌⊎◌, ℕ, suc, true, false, ◌&&◌, [], ◌∷◌, ◌++◌, refl, sym, ap, subst, ◌∙◌, arith, inl, inr}
use Rattle.std.specs.Prelude.{◌≢◌, Ok, Option, Some, None, nat_lt, min, ◌+◌, ◌-◌, ◌^◌, if◌then◌else◌}
use Rattle.std.proofs.lemmas.Bool.{and_parts, cases_Bool}
use mathlib.Core.Bool.{false≢true}
use Rattle.fsfs_base.specs.Paths.{PathName, Path}
use Rattle.fsfs_base.specs.declared.kind.Kind.TheVariants.{Dir}
use Rattle.fsfs_revision.specs.Told.{RevisionBytes}
use Rattle.fsfs_noderev.specs.Ids.{part_value, Old}
use Rattle.fsfs_noderev.specs.declared.node_id.Part.{Part}
use Rattle.fsfs_noderev.specs.declared.node_id.Part.TheVariants as parts
use Rattle.fsfs_noderev.specs.declared.node_id.NodeId.{NodeId}
use Rattle.fsfs_noderev.specs.declared.node_rev.CopySource.{CopySource}
use Rattle.fsfs_noderev.specs.declared.node_rev.NodeRev.{NodeRev}
use Rattle.fsfs_revision.specs.Nodes.{is_lasting_part, is_revision_id, is_revision_place, is_of_revision, has_revision_pred, has_revision_rep, has_revision_root}
use Rattle.fsfs_revision.specs.Shows.Reading.{OfId, ChildOf, StandsAt}
use Rattle.fsfs_revision.specs.Shows.Chains.{own_rev, IsPred, copy_root_of, contents_rev}
use Rattle.fsfs_revision.specs.Shows.IdRules.{IdRule, IsOf, IsChild, IsBehind, Next, Further, HasSuffix, IsDrawn, CopyPartFrom, Directory, Before, Drawn, root_after}
use Rattle.fsfs_revision.proofs.OneWalk.{stands_same}
use Rattle.fsfs_revision.proofs.Walks.{child_stands}
use Rattle.fsfs_revision.proofs.TreeLaw.{stands_home}
use Rattle.fsfs_revision.proofs.Earlier.{pred_same}
use Rattle.fsfs_draft.specs.OwnSides.{NodesAt, in_txn}
use Rattle.fsfs_draft.proofs.Lasting.{lasting_id}
use Rattle.fsfs_draft.specs.NodeDrafts.{IsOwn, is_new_part, DraftPart, IsDraft}
use Rattle.fsfs_draft.specs.NodeDrafts as drafts
use Rattle.fsfs_revision.proofs.Roots.{one_more}
use Rattle.fsfs_final.proofs.LastNames.{Ends, Root, Named, ends}
use Rattle.fsfs_final.specs.Final.{final_part, IsFinal, Finished, AsItWas, Done, IsWritten, WrittenKeepsIds}
use Rattle.fsfs_draft.proofs.HangLaw.{some_same}

-- ---- parts

-- what is of a revision has lasting parts
pub record HasLastingParts (x : NodeRev) : Type 0 where
  pub node : is_lasting_part x.id.node ≡ true
  pub copy : is_lasting_part x.id.copy ≡ true

parts_of : (v : NodeRev) → is_of_revision v ≡ true → HasLastingParts v
parts_of v h =
    let a = and_parts (is_revision_id v.id && has_revision_pred v.predecessor && has_revision_rep v.text && has_revision_rep v.props && has_revision_root v.copy_root) (Rattle.std.specs.Prelude.not v.is_fresh_txn_root) h in
    let b = and_parts (is_revision_id v.id && has_revision_pred v.predecessor && has_revision_rep v.text && has_revision_rep v.props) (has_revision_root v.copy_root) a.0 in
    let c = and_parts (is_revision_id v.id && has_revision_pred v.predecessor && has_revision_rep v.text) (has_revision_rep v.props) b.0 in
    let d = and_parts (is_revision_id v.id && has_revision_pred v.predecessor) (has_revision_rep v.text) c.0 in
    let e = and_parts (is_revision_id v.id) (has_revision_pred v.predecessor) d.0 in
    let f = and_parts (is_lasting_part v.id.node && is_lasting_part v.id.copy) (is_revision_place v.id.place) e.0 in
    let g = and_parts (is_lasting_part v.id.node) (is_lasting_part v.id.copy) f.0 in
    record { node = g.0; copy = g.1 }

lasting_parts : (look : RevisionBytes) (id : NodeId) (v : NodeRev) → OfId look id (Ok v) → HasLastingParts v
lasting_parts look id v w =
    let same : v ≡ w.0 = w.2.0 in
    subst HasLastingParts (sym same) (parts_of w.0 w.1.2.0.1)

final_lasting : (n : ℕ) (p : Part) → is_lasting_part p ≡ true → final_part n p ≡ p
final_lasting n (parts.New b) h = absurd (false≢true h)
final_lasting n (parts.Old b) h = refl
final_lasting n (parts.Made b rev) h = refl

final_first : (n : ℕ) (p : Part) → part_value p ≡ Old 0 → part_value (final_part n p) ≡ Old 0
final_first n (parts.New b) h = absurd cc
final_first n (parts.Old b) h = h
final_first n (parts.Made b rev) h = absurd cc

final_inj : (n : ℕ) (p q : Part) → is_new_part p ≡ true → is_new_part q ≡ true → final_part n p ≡ final_part n q → p ≡ q
final_inj n (parts.New b) (parts.New c) h g e = let same : b ≡ c = cc in ap (λ x. parts.New x) same
final_inj n (parts.New b) (parts.Old c) h g e = absurd (false≢true g)
final_inj n (parts.New b) (parts.Made c r) h g e = absurd (false≢true g)
final_inj n (parts.Old b) q h g e = absurd (false≢true h)
final_inj n (parts.Made b r) q h g e = absurd (false≢true h)

final_not_first : (n : ℕ) (p : Part) → is_new_part p ≡ true → part_value (final_part n p) ≢ Old 0
final_not_first n (parts.New b) h e = cc
final_not_first n (parts.Old b) h e = false≢true h
final_not_first n (parts.Made b r) h e = false≢true h

final_suffix : (n : ℕ) (p : Part) → is_new_part p ≡ true → HasSuffix n (final_part n p)
final_suffix n (parts.New b) h = refl
final_suffix n (parts.Old b) h = absurd (false≢true h)
final_suffix n (parts.Made b r) h = absurd (false≢true h)

-- a part of an earlier revision is not one made in n
not_earlier : (n m : ℕ) (p q : Part) → m < n → HasSuffix m p → is_new_part q ≡ true → p ≡ final_part n q → ⊥
not_earlier n m p (parts.New c) less s h e = by p s e
  where
    by : (p : Part) → HasSuffix m p → p ≡ parts.Made c n → ⊥
    by (parts.New b) s e = cc
    by (parts.Old b) s e = cc
    by (parts.Made b r) s e = let same : r ≡ n = cc in let k : r ≡ m = s in absurd (omega arith)
not_earlier n m p (parts.Old c) less s h e = false≢true h
not_earlier n m p (parts.Made c r) less s h e = false≢true h

module _ (look : RevisionBytes) (top : ℕ) (own : NodesAt) (ids : IdRule look top) (draft : IsDraft look top top own) (written : IsWritten look (suc top) own) where
  abbrev N : ℕ
  N = suc top

  lt : top < N
  lt = omega arith

  -- ---- whose a node-revision is

  -- that of an earlier revision, or the draft's at a path
  data Whose (v : NodeRev) : Type 0 where
    Earlier : IsOf look top v → Whose v
    Mine : (p : Path) (u : NodeRev) → own p ≡ Some u → IsOwn u → IsFinal N u v → StandsAt look N p v → Whose v

  at_top : (p : Path) (v : NodeRev) → StandsAt look N p v → Whose v
  at_top p v at = let w = written.only p v at in by w.0 w.1 w.2
    where
      by : (u : NodeRev) → own p ≡ Some u → Finished N u v → Whose v
      by u e (AsItWas plain same) = let l = draft.lasting p u e plain in Earlier (l.0, l.1, l.2, subst (λ x. StandsAt look l.0 l.1 x) (sym same) l.3)
      by u e (Done mine is) = Mine p u e mine is at

  whose : (v : NodeRev) → IsOf look N v → Whose v
  whose v of = elim (one_more of.0 top of.2) [
    | inl low ↦ Earlier (of.0, of.1, low, of.3)
    | inr is ↦ at_top of.1 v (subst (λ (r : ℕ). StandsAt look r of.1 v) is of.3)
  ]

  earlier_rev : (v : NodeRev) → IsOf look top v → own_rev v ≤ top
  earlier_rev v of = let h = stands_home look of.0 of.1 v of.3 in let x = of.2 in omega (arith, h.1)

  -- the draft's node-revision at a path, where what stands there is of the new revision
  mine_at : (p : Path) (v : NodeRev) → StandsAt look N p v → own_rev v ≡ N → (u : NodeRev) × (own p ≡ Some u) × IsOwn u × IsFinal N u v
  mine_at p v at is = let w = written.only p v at in by w.0 w.1 w.2
    where
      by : (u : NodeRev) → own p ≡ Some u → Finished N u v → (u : NodeRev) × (own p ≡ Some u) × IsOwn u × IsFinal N u v
      by u e (AsItWas plain same) =
          let l = draft.lasting p u e plain in
          let r = earlier_rev u (l.0, l.1, l.2, l.3) in
          let k : own_rev v ≡ own_rev u = ap own_rev same in
          absurd (omega arith)
      by u e (Done mine f) = (u, e, mine, f)

  -- what is of an earlier revision stands in the draft as it is
  lasting_at : (p : Path) (v : NodeRev) → StandsAt look N p v → own_rev v < N → (own p ≡ Some v) × (in_txn v.id.place ≡ false)
  lasting_at p v at less = let w = written.only p v at in by w.0 w.1 w.2
    where
      by : (u : NodeRev) → own p ≡ Some u → Finished N u v → (own p ≡ Some v) × (in_txn v.id.place ≡ false)
      by u e (AsItWas plain same) = (subst (λ x. own p ≡ Some x) (sym same) e, subst (λ (x : NodeRev). in_txn x.id.place ≡ false) (sym same) plain)
      by u e (Done mine f) = absurd (let r = f.rev in omega arith)

  pred_of : (u v w : NodeRev) → IsFinal N u v → IsPred look v w → IsPred look u w
  pred_of u v w f p = (p.0, sym f.predecessor ∙ p.1, p.2)

  pred_on : (u v w : NodeRev) → IsFinal N u v → IsPred look u w → IsPred look v w
  pred_on u v w f p = (p.0, f.predecessor ∙ p.1, p.2)

  -- a directory above what is the transaction's is the transaction's
  own_above : (p : Path) (name : PathName) (dir v : NodeRev) → own p ≡ Some dir → own (p ++ name ∷ []) ≡ Some v → IsOwn v → IsOwn dir
  own_above p name dir v e f mine = elim (cases_Bool (in_txn dir.id.place)) [
    | inl w ↦ w
    | inr plain ↦ absurd (false≢true (sym (draft.below_lasting p name dir v e plain f).1 ∙ mine))
  ]

  not_none : (v : NodeRev) (w : NodeRev) → IsPred look v w → v.predecessor ≢ None
  not_none v w p e = let f = sym p.1 ∙ e in cc

  made_or : (v : NodeRev) → (v.predecessor ≡ None) ⊎ ((id : NodeId) × (v.predecessor ≡ Some id))
  made_or v = by v.predecessor refl
    where
      by : (o : Option NodeId) → v.predecessor ≡ o → (v.predecessor ≡ None) ⊎ ((id : NodeId) × (v.predecessor ≡ Some id))
      by None e = inl e
      by (Some id) e = inr (id, e)

  root_goes : (u : NodeRev) → own [] ≡ Some u → u ≡ draft.root.0
  root_goes u e = some_same (own []) u draft.root.0 e draft.root.2

  -- what was made is below something
  made_at : (p : Path) (u : NodeRev) → own p ≡ Some u → IsOwn u → u.predecessor ≡ None → (is_new_part u.id.node ≡ true)
  made_at p u e mine none = by (ends p)
    where
      by : Ends p → is_new_part u.id.node ≡ true
      by (Root is) =
          let same = root_goes u (subst (λ (x : Path). own x ≡ Some u) is e) in
          let some = (ap (λ (x : NodeRev). x.predecessor) same) ∙ draft.root.5 in
          absurd (let f = sym none ∙ some in cc)
      by (Named q name is) =
          let here = subst (λ (x : Path). own x ≡ Some u) is e in
          let dir = draft.above q name u here in
          (draft.made q name dir.0 u dir.1 here mine none).1

  mine_rev : (u v : NodeRev) → IsFinal N u v → own_rev v ≡ N
  mine_rev u v f = f.rev

  -- ---- predecessors

  node_is : (v w : NodeRev) → IsOf look N v → IsPred look v w → (v.id.node ≡ w.id.node) × (v.kind ≡ w.kind) × (v.count ≡ min (w.count + 1) (2 ^ 64 - 1))
  node_is v w of p = by (whose v of)
    where
      by : Whose v → (v.id.node ≡ w.id.node) × (v.kind ≡ w.kind) × (v.count ≡ min (w.count + 1) (2 ^ 64 - 1))
      by (Earlier e) = (ids.node v w e p, ids.kind v w e p, ids.count v w e p)
      by (Mine q u e mine f at) =
          let g = draft.pred q u w e mine (pred_of u v w f p) in
          (f.node ∙ ap (final_part N) g.0 ∙ final_lasting N w.id.node (lasting_parts look p.0 w p.2).node, f.kind ∙ g.1, f.count ∙ g.2)

  -- ---- roots

  new_root : (v : NodeRev) → StandsAt look N [] v → IsFinal N draft.root.0 v
  new_root v at = let w = written.only [] v at in by w.0 w.1 w.2
    where
      by : (u : NodeRev) → own [] ≡ Some u → Finished N u v → IsFinal N draft.root.0 v
      by u e (AsItWas plain same) = absurd (false≢true (sym plain ∙ subst IsOwn (sym (root_goes u e)) draft.root.4))
      by u e (Done mine f) = subst (λ x. IsFinal N x v) (root_goes u e) f

  top_root : (u : NodeRev) → StandsAt look top [] u → draft.root.1 ≡ u
  top_root u at = stands_same look top [] draft.root.1 u draft.root.3 at

  -- ---- what was made

  begins : (v w : NodeRev) → IsOf look N v → IsOf look N w → v.predecessor ≡ None → w.predecessor ≡ None → v.id.node ≡ w.id.node → v.id ≡ w.id
  begins v w ofv ofw nv nw same = by (whose v ofv) (whose w ofw)
    where
      by : Whose v → Whose w → v.id ≡ w.id
      by (Earlier a) (Earlier b) = ids.begins_once v w a b nv nw same
      by (Earlier a) (Mine q u e mine f at) =
          absurd (not_earlier N (own_rev v) v.id.node u.id.node (let x = earlier_rev v a in omega arith) (ids.begins_in v a nv) (made_at q u e mine (sym f.predecessor ∙ nw)) (same ∙ f.node))
      by (Mine q u e mine f at) (Earlier b) =
          absurd (not_earlier N (own_rev w) w.id.node u.id.node (let x = earlier_rev w b in omega arith) (ids.begins_in w b nw) (made_at q u e mine (sym f.predecessor ∙ nv)) (sym same ∙ f.node))
      by (Mine q u e mine f at) (Mine r x g mine2 k there) =
          let nu = sym f.predecessor ∙ nv in
          let nx = sym k.predecessor ∙ nw in
          let part = final_inj N u.id.node x.id.node (made_at q u e mine nu) (made_at r x g mine2 nx) (sym f.node ∙ same ∙ k.node) in
          let path = draft.made_once q r u x e g mine mine2 nu nx part in
          ap (λ (y : NodeRev). y.id) (stands_same look N r v w (subst (λ (y : Path). StandsAt look N y v) path at) there)

  begins_here : (v : NodeRev) → IsOf look N v → v.predecessor ≡ None → HasSuffix (own_rev v) v.id.node
  begins_here v of none = by (whose v of)
    where
      by : Whose v → HasSuffix (own_rev v) v.id.node
      by (Earlier a) = ids.begins_in v a none
      by (Mine q u e mine f at) =
          subst (λ (n : ℕ). HasSuffix n v.id.node) (sym f.rev) (subst (HasSuffix N) (sym f.node) (final_suffix N u.id.node (made_at q u e mine (sym f.predecessor ∙ none))))

  -- ---- what was copied

  record Copied (v : NodeRev) (from : CopySource) (p : Path) (u : NodeRev) : Type 0 where
    source : NodeRev
    low : from.rev ≤ top
    there : StandsAt look from.rev from.path source
    pred : v.predecessor ≡ Some source.id
    path : v.created_path ≡ p
    root : copy_root_of v ≡ (N, p)
    part : is_new_part u.id.copy ≡ true

  mine_copied : (v : NodeRev) (from : CopySource) (p : Path) (u : NodeRev) → own p ≡ Some u → IsOwn u → IsFinal N u v → v.copy_from ≡ Some from → Copied v from p u
  mine_copied v from p u e mine f is =
      let c = draft.copied p u from e mine (sym f.copy_from ∙ is) in
      record { source = c.0; low = c.1; there = c.2; pred = f.predecessor ∙ c.3; path = f.created_path ∙ c.4; root = f.root ∙ c.5 N lt; part = c.6 }

  copied_stands : (v : NodeRev) (from : CopySource) → IsOf look N v → v.copy_from ≡ Some from → StandsAt look (own_rev v) v.created_path v
  copied_stands v from of is = by (whose v of)
    where
      by : Whose v → StandsAt look (own_rev v) v.created_path v
      by (Earlier a) = ids.copy_there v from a is
      by (Mine p u e mine f at) =
          let c = mine_copied v from p u e mine f is in
          subst (λ (r : ℕ). StandsAt look r v.created_path v) (sym f.rev) (subst (λ (x : Path). StandsAt look N x v) (sym c.path) at)

  copied_once : (v : NodeRev) (from : CopySource) (q : Path) → IsOf look N v → v.copy_from ≡ Some from → StandsAt look (own_rev v) q v → q ≡ v.created_path
  copied_once v from q of is here = by (whose v of)
    where
      by : Whose v → q ≡ v.created_path
      by (Earlier a) = ids.copy_once v from q a is here
      by (Mine p u e mine f at) =
          let there : StandsAt look N q v = subst (λ (r : ℕ). StandsAt look r q v) f.rev here in
          let m = mine_at q v there f.rev in
          written.once q p m.0 u v m.1 e m.2 mine there at ∙ sym (mine_copied v from p u e mine f is).path

  copied_root : (v : NodeRev) (from : CopySource) → IsOf look N v → v.copy_from ≡ Some from → copy_root_of v ≡ (own_rev v, v.created_path)
  copied_root v from of is = by (whose v of)
    where
      by : Whose v → copy_root_of v ≡ (own_rev v, v.created_path)
      by (Earlier a) = ids.copy_root v from a is
      by (Mine p u e mine f at) = let c = mine_copied v from p u e mine f is in c.root ∙ (λ i. (sym f.rev i, sym c.path i))

  copied_part : (v : NodeRev) (from : CopySource) → IsOf look N v → v.copy_from ≡ Some from → (part_value v.id.copy ≢ Old 0) × HasSuffix (own_rev v) v.id.copy
  copied_part v from of is = by (whose v of)
    where
      by : Whose v → (part_value v.id.copy ≢ Old 0) × HasSuffix (own_rev v) v.id.copy
      by (Earlier a) = ids.copy_part v from a is
      by (Mine p u e mine f at) =
          let c = mine_copied v from p u e mine f is in (
            λ same. final_not_first N u.id.copy c.part (sym (ap part_value f.copy) ∙ same),
            subst (λ (n : ℕ). HasSuffix n v.id.copy) (sym f.rev) (subst (HasSuffix N) (sym f.copy) (final_suffix N u.id.copy c.part)),
          )

  copied_own : (v w : NodeRev) (from other : CopySource) → IsOf look N v → IsOf look N w → v.copy_from ≡ Some from → w.copy_from ≡ Some other → v.id.copy ≡ w.id.copy → v.id ≡ w.id
  copied_own v w from other ofv ofw iv iw same = by (whose v ofv) (whose w ofw)
    where
      by : Whose v → Whose w → v.id ≡ w.id
      by (Earlier a) (Earlier b) = ids.copy_own v w from other a b iv iw same
      by (Earlier a) (Mine q u e mine f at) =
          absurd (not_earlier N (own_rev v) v.id.copy u.id.copy (let x = earlier_rev v a in omega arith) (ids.copy_part v from a iv).1 (mine_copied w other q u e mine f iw).part (same ∙ f.copy))
      by (Mine q u e mine f at) (Earlier b) =
          absurd (not_earlier N (own_rev w) w.id.copy u.id.copy (let x = earlier_rev w b in omega arith) (ids.copy_part w other b iw).1 (mine_copied v from q u e mine f iv).part (sym same ∙ f.copy))
      by (Mine q u e mine f at) (Mine r x g mine2 k there) =
          let part = final_inj N u.id.copy x.id.copy (mine_copied v from q u e mine f iv).part (mine_copied w other r x g mine2 k iw).part (sym f.copy ∙ same ∙ k.copy) in
          let path = draft.copied_once q r u x from other e g mine mine2 (sym f.copy_from ∙ iv) (sym k.copy_from ∙ iw) part in
          ap (λ (y : NodeRev). y.id) (stands_same look N r v w (subst (λ (y : Path). StandsAt look N y v) path at) there)

  copied_source : (v : NodeRev) (from : CopySource) → IsOf look N v → v.copy_from ≡ Some from → (from.rev < own_rev v) × (u : NodeRev) × StandsAt look from.rev from.path u × (v.predecessor ≡ Some u.id)
  copied_source v from of is = by (whose v of)
    where
      by : Whose v → (from.rev < own_rev v) × (u : NodeRev) × StandsAt look from.rev from.path u × (v.predecessor ≡ Some u.id)
      by (Earlier a) = ids.copy_source v from a is
      by (Mine p u e mine f at) = let c = mine_copied v from p u e mine f is in let r = f.rev in let l = c.low in (omega arith, c.source, c.there, c.pred)

  -- ---- what was changed

  record Below (p : Path) (name : PathName) (dir v : NodeRev) : Type 0 where
    d : NodeRev
    u : NodeRev
    at_dir : own p ≡ Some d
    at_own : own (p ++ name ∷ []) ≡ Some u
    own_dir : IsOwn d
    own_u : IsOwn u
    dir_is : IsFinal N d dir
    is : IsFinal N u v

  below : (p : Path) (name : PathName) (dir v : NodeRev) → IsChild look N N p name dir v → own_rev v ≡ N → Below p name dir v
  below p name dir v child is =
      let m = mine_at (p ++ name ∷ []) v child.there is in
      let a = draft.above p name m.0 m.1 in
      let mine = own_above p name a.0 m.0 a.1 m.1 m.2 in
      let w = written.only p dir child.above in
      by m a.0 a.1 mine w.0 w.1 w.2
    where
      by : (m : (u : NodeRev) × (own (p ++ name ∷ []) ≡ Some u) × IsOwn u × IsFinal N u v) → (d : NodeRev) → own p ≡ Some d → IsOwn d → (x : NodeRev) → own p ≡ Some x → Finished N x dir → Below p name dir v
      by m d e mine x g (AsItWas plain same) = absurd (false≢true (sym plain ∙ subst IsOwn (some_same (own p) d x e g) mine))
      by m d e mine x g (Done mine2 f) = record { d = x; u = m.0; at_dir = g; at_own = m.1; own_dir = mine2; own_u = m.2; dir_is = f; is = m.3 }

  at_n : (r : ℕ) (p : Path) (name : PathName) (dir v : NodeRev) → r ≡ N → IsChild look N r p name dir v → IsChild look N N p name dir v
  at_n r p name dir v is child = subst (λ (x : ℕ). IsChild look N x p name dir v) is child

  at_low : (r : ℕ) (p : Path) (name : PathName) (dir v : NodeRev) → r ≤ top → IsChild look N r p name dir v → IsChild look top r p name dir v
  at_low r p name dir v le child = record { up_to = le; above = child.above; there = child.there }

  new_root_of : (r : ℕ) (p : Path) (name : PathName) (dir v : NodeRev) → IsChild look N r p name dir v → own_rev v ≡ r → v.copy_from ≡ None → v.predecessor ≡ None → copy_root_of v ≡ copy_root_of dir
  new_root_of r p name dir v child is plain none = elim (one_more r top child.up_to) [
    | inl low ↦ ids.root_of_new r p name dir v (at_low r p name dir v low child) is plain none
    | inr e ↦
        let b = below p name dir v (at_n r p name dir v e child) (is ∙ e) in
        b.is.root ∙ (draft.made p name b.d b.u b.at_dir b.at_own b.own_u (sym b.is.predecessor ∙ none)).3 N lt ∙ sym b.dir_is.root
  ]

  next_root_of : (r : ℕ) (p : Path) (name : PathName) (dir v w : NodeRev) → IsChild look N r p name dir v → own_rev v ≡ r → v.copy_from ≡ None → IsPred look v w → copy_root_of v ≡ root_after dir w
  next_root_of r p name dir v w child is plain pred = elim (one_more r top child.up_to) [
    | inl low ↦ ids.root_of_next r p name dir v w (at_low r p name dir v low child) is plain pred
    | inr e ↦
        let b = below p name dir v (at_n r p name dir v e child) (is ∙ e) in
        let back = pred_of b.u v w b.is pred in
        let g = draft.goes_on p name b.d b.u b.at_dir b.at_own b.own_u (sym b.is.copy_from ∙ plain) (not_none b.u w back) in
        let same = pred_same look b.u g.1 w g.4 back in
        b.is.root ∙ g.5 N lt
        ∙ (λ i. if nat_lt (own_rev (same i)) (sym b.dir_is.root i).0 then sym b.dir_is.root i else copy_root_of (same i))
  ]

  drawn_up : (v : NodeRev) (p : Part) → own_rev v ≤ top → IsDrawn look top (own_rev v) p → IsDrawn look N (own_rev v) p
  drawn_up v p low d = record {
    not_first = d.not_first;
    suffix = d.suffix;
    no_copy = λ u from of is same. by u from is same (whose u of);
  }
    where
      by : (u : NodeRev) (from : CopySource) → u.copy_from ≡ Some from → u.id.copy ≡ p → Whose u → ⊥
      by u from is same (Earlier a) = d.no_copy u from a is same
      by u from is same (Mine q x e mine f at) = not_earlier N (own_rev v) p x.id.copy (omega arith) d.suffix (mine_copied u from q x e mine f is).part (sym same ∙ f.copy)

  part_up : (dir v : NodeRev) → own_rev v ≤ top → CopyPartFrom look top dir v → CopyPartFrom look N dir v
  part_up dir v low (Directory e) = Directory e
  part_up dir v low (Before u b e) = Before u b e
  part_up dir v low (Drawn d) = Drawn (drawn_up v v.id.copy low d)

  behind_lasting : (u w : NodeRev) → IsBehind look u w → HasLastingParts w
  behind_lasting _ _ (Next v u pred) = lasting_parts look pred.0 u pred.2
  behind_lasting _ _ (Further v u w pred more) = behind_lasting u w more

  new_part_of : (r : ℕ) (p : Path) (name : PathName) (dir v : NodeRev) → IsChild look N r p name dir v → own_rev v ≡ r → v.copy_from ≡ None → CopyPartFrom look N dir v
  new_part_of r p name dir v child is plain = elim (one_more r top child.up_to) [
    | inl low ↦ part_up dir v (omega arith) (ids.copy_part_of r p name dir v (at_low r p name dir v low child) is plain)
    | inr e ↦ (let b = below p name dir v (at_n r p name dir v e child) (is ∙ e) in elim (made_or b.u) [
      | inl none ↦ (let m = draft.made p name b.d b.u b.at_dir b.at_own b.own_u none in Directory (b.is.copy ∙ ap (final_part N) m.2 ∙ sym b.dir_is.copy))
      | inr some ↦
          let g = draft.goes_on p name b.d b.u b.at_dir b.at_own b.own_u (sym b.is.copy_from ∙ plain) (λ none. (let f = sym some.1 ∙ none in cc)) in
          by b g.1 g.4 g.6
    ])
  ]
    where
      by : (b : Below p name dir v) (w : NodeRev) → IsPred look b.u w → DraftPart look own b.d b.u w → CopyPartFrom look N dir v
      by b w pred (drafts.Directory e) = Directory (b.is.copy ∙ ap (final_part N) e ∙ sym b.dir_is.copy)
      by b w pred (drafts.Here e) = Before w (Next v w (pred_on b.u v w b.is pred)) (b.is.copy ∙ ap (final_part N) e ∙ final_lasting N w.id.copy (lasting_parts look pred.0 w pred.2).copy)
      by b w pred (drafts.Before x back e) = Before x (Further v w x (pred_on b.u v w b.is pred) back) (b.is.copy ∙ ap (final_part N) e ∙ final_lasting N x.id.copy (behind_lasting w x back).copy)
      by b w pred (drafts.Drawn fresh apart) = Drawn (record {
        not_first = λ same. final_not_first N b.u.id.copy fresh (sym (ap part_value b.is.copy) ∙ same);
        suffix = subst (λ (n : ℕ). HasSuffix n v.id.copy) (sym b.is.rev) (subst (HasSuffix N) (sym b.is.copy) (final_suffix N b.u.id.copy fresh));
        no_copy = λ u from of is same. no_one b fresh apart u from is same (whose u of);
      })
        where
          no_one : (b : Below p name dir v) → is_new_part b.u.id.copy ≡ true → ((q : Path) (c : NodeRev) (from : CopySource) → own q ≡ Some c → IsOwn c → c.copy_from ≡ Some from → c.id.copy ≢ b.u.id.copy) → (u : NodeRev) (from : CopySource) → u.copy_from ≡ Some from → u.id.copy ≡ v.id.copy → Whose u → ⊥
          no_one b fresh apart u from is same (Earlier a) = not_earlier N (own_rev u) u.id.copy b.u.id.copy (let x = earlier_rev u a in omega arith) (ids.copy_part u from a is).1 fresh (same ∙ b.is.copy)
          no_one b fresh apart u from is same (Mine q x e mine f at) =
              apart q x from e mine (sym f.copy_from ∙ is) (final_inj N x.id.copy b.u.id.copy (mine_copied u from q x e mine f is).part fresh (sym f.copy ∙ same ∙ b.is.copy))

  -- ---- entries

  old_entry : (r : ℕ) (p : Path) (name : PathName) (dir v : NodeRev) → IsChild look N r p name dir v → own_rev v < own_rev dir → (u : NodeRev) × IsPred look dir u × ChildOf look u name (Ok (Some v))
  old_entry r p name dir v child less = elim (one_more r top child.up_to) [
    | inl low ↦ ids.older r p name dir v (at_low r p name dir v low child) less
    | inr e ↦ (let c = at_n r p name dir v e child in
        let w = written.only p dir c.above in
        let h = stands_home look N p dir c.above in
        let x = lasting_at (p ++ name ∷ []) v c.there (let k = h.1 in omega arith) in
        by c x w.0 w.1 w.2)
  ]
    where
      by : IsChild look N N p name dir v → (own (p ++ name ∷ []) ≡ Some v) × (in_txn v.id.place ≡ false) → (d : NodeRev) → own p ≡ Some d → Finished N d dir → (u : NodeRev) × IsPred look dir u × ChildOf look u name (Ok (Some v))
      by c x d at (AsItWas plain same) =
          let l = draft.lasting p d at plain in
          let k = draft.below_lasting p name d v at plain x.0 in
          let kind = draft.above p name v x.0 in
          let is_dir : d.kind ≡ Dir = subst (λ (y : NodeRev). y.kind ≡ Dir) (some_same (own p) kind.0 d kind.1 at) kind.2 in
          let there = child_stands look l.0 d v l.1 name l.3 is_dir k.0 in
          let o = ids.older l.0 l.1 name d v (record { up_to = l.2; above = l.3; there = there }) (subst (λ (y : NodeRev). own_rev v < own_rev y) same less) in
          (o.0, subst (λ y. IsPred look y o.0) (sym same) o.1, o.2)
      by c x d at (Done mine f) = let o = draft.older p name d v at mine x.0 x.1 in (o.0, pred_on d dir o.0 f o.1, o.2)

  next_entry : (r : ℕ) (p : Path) (name : PathName) (dir v w : NodeRev) → IsChild look N r p name dir v → own_rev v ≡ own_rev dir → v.copy_from ≡ None → IsPred look v w → (u : NodeRev) × IsPred look dir u × ChildOf look u name (Ok (Some w))
  next_entry r p name dir v w child same plain pred = elim (one_more r top child.up_to) [
    | inl low ↦ ids.goes_on r p name dir v w (at_low r p name dir v low child) same plain pred
    | inr e ↦ (let c = at_n r p name dir v e child in let m = written.only (p ++ name ∷ []) v c.there in by c m.0 m.1 m.2)
  ]
    where
      by : IsChild look N N p name dir v → (x : NodeRev) → own (p ++ name ∷ []) ≡ Some x → Finished N x v → (u : NodeRev) × IsPred look dir u × ChildOf look u name (Ok (Some w))
      by c x at (Done mine f) =
          let b = below p name dir v c f.rev in
          let back = pred_of b.u v w b.is pred in
          let g = draft.goes_on p name b.d b.u b.at_dir b.at_own b.own_u (sym b.is.copy_from ∙ plain) (not_none b.u w back) in
          let one = pred_same look b.u g.1 w g.4 back in
          (g.0, pred_on b.d dir g.0 b.dir_is g.2, subst (λ y. ChildOf look g.0 name (Ok (Some y))) one g.3)
      by c x at (AsItWas none is) =
          let l = draft.lasting (p ++ name ∷ []) x at none in
          let low = earlier_rev x (l.0, l.1, l.2, l.3) in
          let is_rev : own_rev v ≡ own_rev x = ap own_rev is in
          let d = lasting_at p dir c.above (omega (arith, low, is_rev)) in
          let k = draft.below_lasting p name dir x d.0 d.1 at in
          let kind = draft.above p name x at in
          let is_dir : dir.kind ≡ Dir = subst (λ (y : NodeRev). y.kind ≡ Dir) (some_same (own p) kind.0 dir kind.1 d.0) kind.2 in
          let m = draft.lasting p dir d.0 d.1 in
          let child : ChildOf look dir name (Ok (Some v)) = subst (λ y. ChildOf look dir name (Ok (Some y))) (sym is) k.0 in
          let there = child_stands look m.0 dir v m.1 name m.3 is_dir child in
          ids.goes_on m.0 m.1 name dir v w (record { up_to = m.2; above = m.3; there = there }) same plain pred

  -- ---- properties

  same_props : (v w : NodeRev) → IsOf look N v → IsPred look v w → (contents_rev v.props < own_rev v) ⊎ (v.props ≡ None) → v.props ≡ w.props
  same_props v w of pred old = by (whose v of)
    where
      by : Whose v → v.props ≡ w.props
      by (Earlier a) = ids.props v w a pred old
      by (Mine p u e mine f at) = elim (draft.props p u w e mine (pred_of u v w f pred)) [
        | inl own_file ↦ (let o = f.own_props own_file in absurd (elim old [ inl less ↦ (let r = f.rev in let k = o.1 in omega arith) | inr none ↦ o.0 none ]))
        | inr same ↦ f.other_props (λ q. (lasting_id look pred.0 w pred.2).props (sym same ∙ q)) ∙ same
      ]

  pub keeps : IdRule look N
  keeps = record {
    node = λ v u of p. (node_is v u of p).0;
    kind = λ v u of p. (node_is v u of p).1;
    count = λ v u of p. (node_is v u of p).2;
    root_id = λ r v le at. elim (one_more r top le) [
      | inl low ↦ ids.root_id r v low at
      | inr e ↦ (let f = new_root v (subst (λ (x : ℕ). StandsAt look x [] v) e at) in (
        ap part_value f.node ∙ final_first N draft.root.0.id.node draft.root.6,
        ap part_value f.copy ∙ final_first N draft.root.0.id.copy draft.root.7,
        f.rev ∙ sym e,
      ))
    ];
    root_copy = λ r v le at. elim (one_more r top le) [
      | inl low ↦ ids.root_copy r v low at
      | inr e ↦ (let f = new_root v (subst (λ (x : ℕ). StandsAt look x [] v) e at) in f.copy_from ∙ draft.root.8)
    ];
    root_next = λ r v u le at before. elim (one_more (suc r) top le) [
      | inl low ↦ ids.root_next r v u low at before
      | inr e ↦ (let f = new_root v (subst (λ (x : ℕ). StandsAt look x [] v) e at) in
          let same = top_root u (subst (λ (x : ℕ). StandsAt look x [] u) (let k : r ≡ top = omega arith in k) before) in
          f.predecessor ∙ draft.root.5 ∙ ap (λ (x : NodeRev). Some x.id) same)
    ];
    root_root = λ r v u le at before. elim (one_more (suc r) top le) [
      | inl low ↦ ids.root_root r v u low at before
      | inr e ↦ (let f = new_root v (subst (λ (x : ℕ). StandsAt look x [] v) e at) in
          let same = top_root u (subst (λ (x : ℕ). StandsAt look x [] u) (let k : r ≡ top = omega arith in k) before) in
          f.root ∙ draft.root.9 N lt ∙ ap copy_root_of same)
    ];
    first = ids.first;
    alone = ids.alone;
    begins_once = begins;
    begins_in = begins_here;
    copy_there = copied_stands;
    copy_once = λ v from p of is at. copied_once v from p of is at;
    copy_root = copied_root;
    copy_part = copied_part;
    copy_own = copied_own;
    copy_source = copied_source;
    root_of_new = new_root_of;
    root_of_next = next_root_of;
    copy_part_of = new_part_of;
    older = old_entry;
    goes_on = next_entry;
    props = same_props;
  }

pub written_keeps_ids : WrittenKeepsIds
written_keeps_ids look top own ids draft written = keeps look top own ids draft written
