-- The walk through a draft's own node-revisions: what was found, and what is to be looked at next.
use Rattle.std.proofs.Common.{◌≡◌, ◌∙◌, ◌≤◌, ℕ, true, false, List, [], ◌∷◌, ◌++◌, map, refl, sym, ap, subst, Option, Some, None, inl, inr, ◌⊎◌, append_assoc, append-nil}
use Rattle.std.specs.List.{AllByRecursion}
use Rattle.std.proofs.lemmas.Bool.{or_cases, or_left, or_right, false_from_ne_true}
use mathlib.Core.Bool.{false≢true}
use Rattle.fsfs_base.specs.Paths.{PathName, Path, same_name}
use Rattle.fsfs_base.proofs.PathLemmas.{same_name-refl, same_name-is}
use Rattle.fsfs_tree.specs.Nodes.{TreeFunction}
use Rattle.fsfs_base.specs.declared.fields.txn_name.TxnName.{TxnName}
use Rattle.fsfs_revision.specs.Told.{RevisionBytes}
use Rattle.fsfs_noderev.specs.declared.node_id.NodeId.{NodeId}
use Rattle.fsfs_revision.specs.Shows.Reading.{DirEntry}
use Rattle.fsfs_draft.specs.Own.{OwnNode, Own}
use Rattle.fsfs_draft.specs.Drafts.{Kept, Folder, kept_of, IsDraft, ShowTrees}
use Rattle.fsfs_draft.specs.Steps.{kept_at}
use Rattle.fsfs_draft.specs.Walks.{IsRootId}
use Rattle.fsfs_final.specs.Order.Orders.{path_of, is_in, IsKeptAt, IsInOne, AreInOrder, IsOrder}
use Rattle.fsfs_final.specs.Order.Children.{id_named, Child, is_named, HaveNamesOnce, IsChild, ArePushed, LacksChild}
use Rattle.fsfs_final.proofs.OrderLists.{differ, no_push, push_same, not_itself, in_front, in_later, in_either, in_none, out_of, in_left, in_right, in_neither}
use Rattle.fsfs_final.proofs.OwnChildren.{child_own, child_named, above_own}

-- it is to be looked at next
abbrev pub IsNext : Own → List Kept → Kept → Type 0
IsNext own found k = IsKeptAt own k × (is_in found (path_of k) ≡ false) × IsInOne found (path_of k)

abbrev pub AreApart : List Kept → Type 0
AreApart [] = Unit {0}
AreApart (k ∷ ks) = (is_in ks (path_of k) ≡ false) × AreApart ks

-- what is in a directory that was found was found, too, or is to be looked at
pub record IsWalking (own : Own) (found next : List Kept) : Type 0 where
  pub found_are : AreInOrder own found
  pub next_are : AllByRecursion (IsNext own found) next
  pub once : AreApart next
  pub closed : (p : Path) (name : PathName) (v : OwnNode) → is_in found p ≡ true → own (p ++ name ∷ []) ≡ Some v → (is_in found (p ++ name ∷ []) ≡ true) ⊎ (is_in next (p ++ name ∷ []) ≡ true)
  pub root : (is_in found [] ≡ true) ⊎ (is_in next [] ≡ true)

-- the directory of what was found was found
pub parent_in : (own : Own) (ks : List Kept) → AreInOrder own ks → (p : Path) (name : PathName) → is_in ks (p ++ name ∷ []) ≡ true → is_in ks p ≡ true
parent_in own [] w p name h = absurd (false≢true h)
parent_in own (k ∷ ks) w p name h = elim (in_either k ks (p ++ name ∷ []) h) [
  | inl e ↦ here w.2 e
  | inr later ↦ in_later k ks p (parent_in own ks w.3 p name later)
]
  where
    here : IsInOne ks (path_of k) → path_of k ≡ p ++ name ∷ [] → is_in (k ∷ ks) p ≡ true
    here (inl root) e = absurd (no_push p name (sym root ∙ e))
    here (inr (dir, x, is, there)) e = in_later k ks p (subst (λ (q : Path). is_in ks q ≡ true) (push_same dir p x name (sym is ∙ e)).0 there)

module _ (look : RevisionBytes) (top base : ℕ) (trees : ℕ → TreeFunction) (shown : ShowTrees look top trees) (le : base ≤ top) (txn : TxnName) (f : Folder) (own : Own) (draft : IsDraft look top base txn f own) where
  -- ---- it begins at the root

  root_kept : (id : NodeId) → IsRootId txn id → kept_at f.nodes id ≡ Some (kept_of draft.root)
  root_kept id is = (λ i. f.nodes (is.node i) (is.copy i)) ∙ sym (λ i. f.nodes (draft.root_id.0 i) (draft.root_id.1 i)) ∙ draft.kept [] draft.root draft.root_is

  pub root_there : (id : NodeId) → IsRootId txn id → kept_at f.nodes id ≡ None → ⊥
  root_there id is none = let clash = sym none ∙ root_kept id is in cc

  pub begins : (id : NodeId) (k : Kept) → IsRootId txn id → kept_at f.nodes id ≡ Some k → IsWalking own [] (k ∷ [])
  begins id k is there =
      let both : Some (kept_of draft.root) ≡ Some k = sym (root_kept id is) ∙ there in
      let same : kept_of draft.root ≡ k = (let g = both in cc) in
      let path : path_of k ≡ [] = ap path_of (sym same) ∙ draft.paths [] draft.root draft.root_is in
      record {
        found_are = tt;
        next_are = (((draft.root, ap own path ∙ draft.root_is, same), refl, inl path), tt);
        once = (refl, tt);
        closed = λ p name v h at. absurd (false≢true h);
        root = inr (in_front k [] [] path);
      }

  -- ---- a step

  module _ (found next new : List Kept) (k : Kept) (w : IsWalking own found (k ∷ next)) where
    abbrev p : Path
    p = path_of k

    abbrev d : OwnNode
    d = w.next_are.0.0.0

    here : own p ≡ Some d
    here = w.next_are.0.0.1

    listed : k.entries ≡ d.entries
    listed = ap (λ (x : Kept). x.entries) (sym w.next_are.0.0.2)

    pub never : LacksChild f.nodes (id_named k.entries) → ⊥
    never l =
        let is = ap (λ (o : Option (List DirEntry)). id_named o l.0) (sym listed) ∙ l.2 in
        let o = child_own look top base trees shown le txn f own draft p d here l.0 l.1 is l.3 in
        let clash : None ≡ Some (kept_of o.0) = sym l.4 ∙ ap (λ (i : NodeId). kept_at f.nodes i) (sym o.2) ∙ draft.kept (p ++ l.0 ∷ []) o.0 o.1 in
        cc

    module _ (pushed : ArePushed f.nodes (id_named k.entries) next new) where
      lists : ArePushed f.nodes (id_named d.entries) next new
      lists = subst (λ (o : Option (List DirEntry)). ArePushed f.nodes (id_named o) next new) listed pushed

      abbrev AreChildren : List Child → Type 0
      AreChildren cs = AllByRecursion (IsChild f.nodes (id_named d.entries)) cs

      abbrev kept_in : List Child → List Kept
      kept_in cs = map (λ (c : Child). c.1) cs

      record IsAt (c : Child) : Type 0 where
        node : OwnNode
        there : own (p ++ c.0 ∷ []) ≡ Some node
        kept : kept_of node ≡ c.1
        path : path_of c.1 ≡ p ++ c.0 ∷ []

      child_at : (c : Child) → IsChild f.nodes (id_named d.entries) c → IsAt c
      child_at c is =
          let o = child_own look top base trees shown le txn f own draft p d here c.0 is.0 is.1 is.2 in
          let both : Some (kept_of o.0) ≡ Some c.1 = sym (draft.kept (p ++ c.0 ∷ []) o.0 o.1) ∙ ap (λ (i : NodeId). kept_at f.nodes i) o.2 ∙ is.3 in
          let same : kept_of o.0 ≡ c.1 = (let g = both in cc) in
          record { node = o.0; there = o.1; kept = same; path = ap path_of (sym same) ∙ draft.paths (p ++ c.0 ∷ []) o.0 o.1 }

      not_found : (name : PathName) → is_in found (p ++ name ∷ []) ≡ false
      not_found name = false_from_ne_true (is_in found (p ++ name ∷ [])) (λ h. differ (is_in found p) (parent_in own found w.found_are p name h) w.next_are.0.1)

      child_next : (c : Child) → IsAt c → IsNext own (k ∷ found) c.1
      child_next c a = (
        (a.node, ap own a.path ∙ a.there, a.kept),
        subst (λ (q : Path). is_in (k ∷ found) q ≡ false) (sym a.path) (out_of k found (p ++ c.0 ∷ []) (not_itself p c.0) (not_found c.0)),
        inr (p, c.0, a.path, in_front k found p refl),
      )

      in_more : (q : Path) → IsInOne found q → IsInOne (k ∷ found) q
      in_more q (inl e) = inl e
      in_more q (inr (dir, name, e, h)) = inr (dir, name, e, in_later k found dir h)

      older : (xs : List Kept) → AllByRecursion (IsNext own found) xs → is_in xs p ≡ false → AllByRecursion (IsNext own (k ∷ found)) xs
      older [] a h = tt
      older (x ∷ xs) a h =
          let o = in_none x xs p h in
          ((a.0.0, out_of k found (path_of x) (λ e. o.0 (sym e)) a.0.1, in_more (path_of x) a.0.2), older xs a.1 o.1)

      all_next : (cs : List Child) → AreChildren cs → AllByRecursion (IsNext own (k ∷ found)) (kept_in cs ++ next)
      all_next [] a = older next w.next_are.1 w.once.0
      all_next (c ∷ cs) a = (child_next c (child_at c a.0), all_next cs a.1)

      named_in : (cs : List Child) → AreChildren cs → (name : PathName) → is_in (kept_in cs) (p ++ name ∷ []) ≡ true → is_named cs name ≡ true
      named_in [] a name h = absurd (false≢true h)
      named_in (c ∷ cs) a name h = elim (in_either c.1 (kept_in cs) (p ++ name ∷ []) h) [
        | inl e ↦
            let same : c.0 ≡ name = (push_same p p c.0 name (sym (child_at c a.0).path ∙ e)).1 in
            or_left (same_name c.0 name) (is_named cs name) (subst (λ (n : PathName). same_name c.0 n ≡ true) same (same_name-refl c.0))
        | inr later ↦ or_right (same_name c.0 name) (is_named cs name) (named_in cs a.1 name later)
      ]

      in_named : (cs : List Child) → AreChildren cs → (name : PathName) → is_named cs name ≡ true → is_in (kept_in cs) (p ++ name ∷ []) ≡ true
      in_named [] a name h = absurd (false≢true h)
      in_named (c ∷ cs) a name h = elim (or_cases (same_name c.0 name) (is_named cs name) h) [
        | inl e ↦ in_front c.1 (kept_in cs) (p ++ name ∷ []) ((child_at c a.0).path ∙ ap (λ (n : PathName). p ++ n ∷ []) (same_name-is c.0 name e))
        | inr later ↦ in_later c.1 (kept_in cs) (p ++ name ∷ []) (in_named cs a.1 name later)
      ]

      -- what was to be looked at before is in another directory
      not_here : (x : Kept) → IsNext own found x → (name : PathName) → path_of x ≡ p ++ name ∷ [] → ⊥
      not_here x a name e = by a.2
        where
          by : IsInOne found (path_of x) → ⊥
          by (inl root) = no_push p name (sym root ∙ e)
          by (inr (dir, n, is, h)) = differ (is_in found p) (subst (λ (q : Path). is_in found q ≡ true) (push_same dir p n name (sym is ∙ e)).0 h) w.next_are.0.1

      none_next : (xs : List Kept) → AllByRecursion (IsNext own found) xs → (name : PathName) → is_in xs (p ++ name ∷ []) ≡ false
      none_next [] a name = refl
      none_next (x ∷ xs) a name = out_of x xs (p ++ name ∷ []) (not_here x a.0 name) (none_next xs a.1 name)

      all_apart : (cs : List Child) → AreChildren cs → HaveNamesOnce cs → AreApart (kept_in cs ++ next)
      all_apart [] a o = w.once.1
      all_apart (c ∷ cs) a o = (
        subst (λ (q : Path). is_in (kept_in cs ++ next) q ≡ false) (sym (child_at c a.0).path)
            (in_neither (kept_in cs) next (p ++ c.0 ∷ []) (false_from_ne_true (is_in (kept_in cs) (p ++ c.0 ∷ [])) (λ h. differ (is_named cs c.0) (named_in cs a.1 c.0 h) o.0)) (none_next next w.next_are.1 c.0)),
        all_apart cs a.1 o.1,
      )

      still_closed : (q : Path) (name : PathName) (v : OwnNode) → is_in (k ∷ found) q ≡ true → own (q ++ name ∷ []) ≡ Some v
          → (is_in (k ∷ found) (q ++ name ∷ []) ≡ true) ⊎ (is_in (kept_in lists.children ++ next) (q ++ name ∷ []) ≡ true)
      still_closed q name v h at = elim (in_either k found q h) [
        | inl e ↦
            let n = child_named look top base trees shown le txn f own draft p d here name v (ap (λ (z : Path). own (z ++ name ∷ [])) e ∙ at) in
            inr (subst (λ (z : Path). is_in (kept_in lists.children ++ next) (z ++ name ∷ []) ≡ true) e
            (in_left (kept_in lists.children) next (p ++ name ∷ []) (in_named lists.children lists.each name (lists.all name v.node.id n.0 n.1))))
        | inr before ↦ elim (w.closed q name v before at) [
          | inl a ↦ inl (in_later k found (q ++ name ∷ []) a)
          | inr b ↦ elim (in_either k next (q ++ name ∷ []) b) [
            | inl e ↦ inl (in_front k found (q ++ name ∷ []) e)
            | inr c ↦ inr (in_right (kept_in lists.children) next (q ++ name ∷ []) c)
          ]
        ]
      ]

      root_now : (is_in (k ∷ found) [] ≡ true) ⊎ (is_in (kept_in lists.children ++ next) [] ≡ true)
      root_now = elim w.root [
        | inl a ↦ inl (in_later k found [] a)
        | inr b ↦ elim (in_either k next [] b) [
          | inl e ↦ inl (in_front k found [] e)
          | inr c ↦ inr (in_right (kept_in lists.children) next [] c)
        ]
      ]

      pub walks_on : IsWalking own (k ∷ found) new
      walks_on = subst (λ (l : List Kept). IsWalking own (k ∷ found) l) (sym lists.added) (record {
        found_are = (w.next_are.0.0, w.next_are.0.1, w.next_are.0.2, w.found_are);
        next_are = all_next lists.children lists.each;
        once = all_apart lists.children lists.each lists.once;
        closed = still_closed;
        root = root_now;
      })

  -- ---- at its end

  module _ (found : List Kept) (w : IsWalking own found []) where
    child_found : (p : Path) (name : PathName) (v : OwnNode) → is_in found p ≡ true → own (p ++ name ∷ []) ≡ Some v → is_in found (p ++ name ∷ []) ≡ true
    child_found p name v h at = elim (w.closed p name v h at) [
      | inl a ↦ a
      | inr b ↦ absurd (false≢true b)
    ]

    root_found : is_in found [] ≡ true
    root_found = elim w.root [
      | inl a ↦ a
      | inr b ↦ absurd (false≢true b)
    ]

    all_below : (rest p : Path) (v : OwnNode) → is_in found p ≡ true → own (p ++ rest) ≡ Some v → is_in found (p ++ rest) ≡ true
    all_below [] p v h at = subst (λ (q : Path). is_in found q ≡ true) (sym (append-nil p)) h
    all_below (x ∷ rest) p v h at =
        let further : own ((p ++ x ∷ []) ++ rest) ≡ Some v = ap own (append_assoc p (x ∷ []) rest) ∙ at in
        let dir = above_own look top base trees shown le txn f own draft (p ++ x ∷ []) rest v further in
        subst (λ (q : Path). is_in found q ≡ true) (append_assoc p (x ∷ []) rest) (all_below rest (p ++ x ∷ []) v (child_found p x dir.0 h dir.1) further)

    pub ends : IsOrder own found
    ends = record { order = w.found_are; all = λ p v at. all_below p [] v root_found at }
