-- What an edit of one directory makes of the tree that is shown.
use Rattle.std.proofs.Common.{◌≡◌, ℕ, Bool, true, false, ◌&&◌, cond, List, [], ◌∷◌, ◌++◌, refl, sym, ap, subst, ◌∙◌}
use Rattle.std.specs.Prelude.{Option, Some, None, is_some}
use Rattle.fsfs_base.specs.Paths.{PathName, Path, same_name, same_path, covers}
use Rattle.fsfs_tree.specs.Nodes.{Node, TreeFunction}
use Rattle.fsfs_model.specs.Flat.Edits as edits
use Rattle.fsfs_model.specs.Flat.Edits.{copied_node, rest_after}
use Rattle.fsfs_base.proofs.PathLemmas.{same_name-is, same_name-refl, same_name-symm}
use Rattle.fsfs_noderev.specs.declared.node_id.NodeId.{NodeId}
use Rattle.fsfs_noderev.specs.declared.node_rev.CopySource.{CopySource}
use Rattle.fsfs_revision.specs.Shows.Reading.{DirEntry, named}
use Rattle.fsfs_draft.specs.Own.{OwnNode, Own, below, shared_from, shared_under, has_entry, node_here, in_own, draft_tree, graft, under, alone, nothing, with_child, lives, shared_at, behind, opened}
use Rattle.fsfs_draft.proofs.Grafts.{nothing_tree, alone_tree, graft_tree, graft_back}

-- ---- paths

and_assoc : (a b c : Bool) → (a && (b && c)) ≡ ((a && b) && c)
and_assoc true b c = refl
and_assoc false b c = refl

pub same_path-append : (p t q : Path) → same_path q (p ++ t) ≡ (covers p q && same_path (behind p q) t)
same_path-append [] t q = refl
same_path-append (x ∷ p) t [] = refl
same_path-append (x ∷ p) t (y ∷ q) = (λ i. same_name-symm y x i && same_path-append p t q i) ∙ and_assoc (same_name x y) (covers p q) (same_path (behind p q) t)

pub covers-append : (p t q : Path) → covers (p ++ t) q ≡ (covers p q && covers t (behind p q))
covers-append [] t q = refl
covers-append (x ∷ p) t [] = refl
covers-append (x ∷ p) t (y ∷ q) = ap (λ b. same_name x y && b) (covers-append p t q) ∙ and_assoc (same_name x y) (covers p q) (covers t (behind p q))

pub behind-is : (p q : Path) → rest_after p q ≡ behind p q
behind-is [] q = refl
behind-is (x ∷ p) [] = refl
behind-is (x ∷ p) (y ∷ q) = behind-is p q

pub behind-append : (p t q : Path) → behind (p ++ t) q ≡ behind t (behind p q)
behind-append [] t q = refl
behind-append (x ∷ p) [] [] = refl
behind-append (x ∷ p) (z ∷ t) [] = refl
behind-append (x ∷ p) t (y ∷ q) = behind-append p t q

pub behind_own : (p t : Path) → behind p (p ++ t) ≡ t
behind_own [] t = refl
behind_own (x ∷ p) t = behind_own p t

-- ---- from below a path to the whole

pick : (c e : Bool) (put old t : Option Node) → t ≡ cond c old t → cond c (cond e put old) t ≡ cond (c && e) put t
pick true e put old t is = ap (λ n. cond e put n) (sym is)
pick false e put old t is = refl

module _ (trees : ℕ → TreeFunction) (p : Path) (own : Own) (shared : TreeFunction) (live : lives p own ≡ true) where
  abbrev Old : TreeFunction
  Old = draft_tree trees (under p own) (shared_at trees p own shared)

  -- what is shown at and below the path
  pub old_tree : (q : Path) → draft_tree trees own shared q ≡ cond (covers p q) (Old (behind p q)) (draft_tree trees own shared q)
  old_tree q = sym (ap (λ (o : Own). draft_tree trees o shared q) (λ i r. graft_back p own r i)) ∙ graft_tree trees p (under p own) own shared q live

  abbrev New : Own → TreeFunction
  New new = draft_tree trees new (shared_at trees p own shared)

  pub same_tree : (new : Own) → ((r : Path) → New new r ≡ Old r) → (q : Path) → draft_tree trees (graft p new own) shared q ≡ draft_tree trees own shared q
  same_tree new local q = graft_tree trees p new own shared q live ∙ ap (λ n. cond (covers p q) n (draft_tree trees own shared q)) (local (behind p q)) ∙ sym (old_tree q)

  -- one node more, or changed
  pub put_tree : (new : Own) (t : Path) (node : Option Node) → ((r : Path) → New new r ≡ cond (same_path r t) node (Old r))
      → (q : Path) → draft_tree trees (graft p new own) shared q ≡ edits.with_node (draft_tree trees own shared) (p ++ t) node q
  put_tree new t node local q =
      graft_tree trees p new own shared q live
      ∙ ap (λ n. cond (covers p q) n (draft_tree trees own shared q)) (local (behind p q))
      ∙ pick (covers p q) (same_path (behind p q) t) node (Old (behind p q)) (draft_tree trees own shared q) (old_tree q)
      ∙ ap (λ b. cond b node (draft_tree trees own shared q)) (sym (same_path-append p t q))

  -- what is at and below a path taken away, or put there
  pub lay_tree : (new : Own) (t : Path) (laid : TreeFunction) → ((r : Path) → New new r ≡ cond (covers t r) (laid (behind t r)) (Old r))
      → (q : Path) → draft_tree trees (graft p new own) shared q ≡ cond (covers (p ++ t) q) (laid (behind (p ++ t) q)) (draft_tree trees own shared q)
  lay_tree new t laid local q =
      graft_tree trees p new own shared q live
      ∙ ap (λ n. cond (covers p q) n (draft_tree trees own shared q)) (local (behind p q))
      ∙ pick (covers p q) (covers t (behind p q)) (laid (behind t (behind p q))) (Old (behind p q)) (draft_tree trees own shared q) (old_tree q)
      ∙ (λ i. cond (sym (covers-append p t q) i) (laid (sym (behind-append p t q) i)) (draft_tree trees own shared q))

-- ---- in a directory

module _ (trees : ℕ → TreeFunction) (d : OwnNode) (x : PathName) (entries : List DirEntry) (old : Own) (shared : TreeFunction) (here : old [] ≡ Some d) where
  abbrev Below : TreeFunction
  Below = shared_under trees (Some d) shared

  abbrev Inner : PathName → TreeFunction
  Inner y = draft_tree trees (below y old) (below y Below)

  -- the other names lead to what they led to
  pub record OthersStay : Type 0 where
    pub others : (y : PathName) (r : Path) → same_name x y ≡ false → cond (is_some (named y entries)) (Inner y r) None ≡ cond (has_entry d.entries y) (Inner y r) None

  pub old_at : (y : PathName) (r : Path) → draft_tree trees old shared (y ∷ r) ≡ cond (has_entry d.entries y) (Inner y r) None
  old_at y r = ap (λ (o : Option OwnNode). in_own o y (shared (y ∷ r)) (draft_tree trees (below y old) (below y (shared_under trees o shared)) r)) here

  old_here : draft_tree trees old shared [] ≡ Some d.shown
  old_here = ap (λ (o : Option OwnNode). node_here o (shared [])) here

  -- behind the name the child, and all else as before
  pub child_tree : (child : Own) (laid : TreeFunction) → OthersStay → ((r : Path) → cond (is_some (named x entries)) (draft_tree trees child (below x Below) r) None ≡ laid r)
      → (r : Path) → draft_tree trees (with_child (opened d entries) x child old) shared r ≡ cond (covers (x ∷ []) r) (laid (behind (x ∷ []) r)) (draft_tree trees old shared r)
  child_tree child laid stay local [] = sym old_here
  child_tree child laid stay local (y ∷ r) = by (same_name x y) refl
    where
      At : Bool → PathName → Type 0
      At b z = cond (is_some (named z entries)) (draft_tree trees (λ q. cond b (child q) (old (z ∷ q))) (below z Below) r) None ≡ cond (b && true) (laid r) (draft_tree trees old shared (z ∷ r))

      by : (b : Bool) → same_name x y ≡ b → At b y
      by true e = subst (At true) (same_name-is x y e) (local r)
      by false e = stay.others y r e ∙ sym (old_at y r)

  -- ---- the edits of one directory

  module _ (stay : OthersStay) where
    abbrev Was : TreeFunction
    Was = draft_tree trees old shared

    -- a node that nothing of the transaction's stands at or below becomes its own: nothing changes
    pub changed_tree : (w : OwnNode) (id : NodeId) → is_some (named x entries) ≡ true → has_entry d.entries x ≡ true → ((r : Path) → old (x ∷ r) ≡ None)
        → w.entries ≡ None → w.node.copy_from ≡ None → w.node.predecessor ≡ Some id → Below (x ∷ []) ≡ Some w.shown
        → (r : Path) → draft_tree trees (with_child (opened d entries) x (alone w) old) shared r ≡ Was r
    changed_tree w id has had none no_entries no_copy goes_on shown r = child_tree (alone w) (below x Was) stay local r ∙ back r
      where
        inner : (r : Path) → Inner x r ≡ Below (x ∷ r)
        inner r = ap (λ (o : Own). draft_tree trees o (below x Below) r) (λ i q. none q i) ∙ nothing_tree trees (below x Below) r

        was : (r : Path) → Was (x ∷ r) ≡ Below (x ∷ r)
        was r = old_at x r ∙ ap (λ b. cond b (Inner x r) None) had ∙ inner r

        own : (r : Path) → draft_tree trees (alone w) (below x Below) r ≡ Below (x ∷ r)
        own [] = sym shown
        own (z ∷ r) = alone_tree trees w (below x Below) z r no_entries ∙ (λ i. shared_from trees (no_copy i) (goes_on i) (below x Below) (z ∷ r))

        local : (r : Path) → cond (is_some (named x entries)) (draft_tree trees (alone w) (below x Below) r) None ≡ Was (x ∷ r)
        local r = ap (λ b. cond b (draft_tree trees (alone w) (below x Below) r) None) has ∙ own r ∙ sym (was r)

        back : (r : Path) → cond (covers (x ∷ []) r) (Was (x ∷ behind (x ∷ []) r)) (Was r) ≡ Was r
        back [] = refl
        back (y ∷ r) = by (same_name x y) refl
          where
            by : (b : Bool) → same_name x y ≡ b → cond (same_name x y && true) (Was (x ∷ r)) (Was (y ∷ r)) ≡ Was (y ∷ r)
            by true e = subst (λ (z : PathName). cond (same_name x z && true) (Was (x ∷ r)) (Was (z ∷ r)) ≡ Was (z ∷ r)) (same_name-is x y e) (rw (same_name-refl x) refl)
            by false e = rw e refl

    -- a new node
    pub made_tree : (w : OwnNode) → is_some (named x entries) ≡ true → ((r : Path) → Was (x ∷ r) ≡ None) → w.entries ≡ None → w.node.copy_from ≡ None → w.node.predecessor ≡ None
        → (r : Path) → draft_tree trees (with_child (opened d entries) x (alone w) old) shared r ≡ cond (same_path r (x ∷ [])) (Some w.shown) (Was r)
    made_tree w has was no_entries no_copy no_pred r = child_tree (alone w) laid stay local r ∙ back r
      where
        laid : TreeFunction
        laid = λ r. draft_tree trees (alone w) (below x Below) r

        local : (r : Path) → cond (is_some (named x entries)) (draft_tree trees (alone w) (below x Below) r) None ≡ draft_tree trees (alone w) (below x Below) r
        local r = ap (λ b. cond b (draft_tree trees (alone w) (below x Below) r) None) has

        deep : (z : PathName) (r : Path) → draft_tree trees (alone w) (below x Below) (z ∷ r) ≡ None
        deep z r = alone_tree trees w (below x Below) z r no_entries ∙ (λ i. shared_from trees (no_copy i) (no_pred i) (below x Below) (z ∷ r))

        back : (r : Path) → cond (covers (x ∷ []) r) (draft_tree trees (alone w) (below x Below) (behind (x ∷ []) r)) (Was r) ≡ cond (same_path r (x ∷ [])) (Some w.shown) (Was r)
        back [] = refl
        back (y ∷ []) = by (same_name x y) refl
          where
            by : (b : Bool) → same_name x y ≡ b → cond (same_name x y && true) (Some w.shown) (Was (y ∷ [])) ≡ cond (same_name y x && true) (Some w.shown) (Was (y ∷ []))
            by true e = rw (same_name-symm y x, e) refl
            by false e = rw (same_name-symm y x, e) refl
        back (y ∷ z ∷ r) = by (same_name x y) refl
          where
            by : (b : Bool) → same_name x y ≡ b → cond (same_name x y && true) (draft_tree trees (alone w) (below x Below) (z ∷ r)) (Was (y ∷ z ∷ r)) ≡ cond (same_name y x && false) (Some w.shown) (Was (y ∷ z ∷ r))
            by true e = rw (same_name-symm y x, e) (deep z r ∙ sym (subst (λ (t : PathName). Was (t ∷ z ∷ r) ≡ None) (same_name-is x y e) (was (z ∷ r))))
            by false e = rw (same_name-symm y x, e) refl

    -- a copy
    pub copied_tree : (w : OwnNode) (from : CopySource) → is_some (named x entries) ≡ true → w.entries ≡ None → w.node.copy_from ≡ Some from
        → Some w.shown ≡ copied_node from.rev (from.path ++ []) (trees from.rev (from.path ++ []))
        → (r : Path) → draft_tree trees (with_child (opened d entries) x (alone w) old) shared r
        ≡ cond (covers (x ∷ []) r) (copied_node from.rev (from.path ++ behind (x ∷ []) r) (trees from.rev (from.path ++ behind (x ∷ []) r))) (Was r)
    copied_tree w from has no_entries copy shown r = child_tree (alone w) (λ q. copied_node from.rev (from.path ++ q) (trees from.rev (from.path ++ q))) stay local r
      where
        own : (r : Path) → draft_tree trees (alone w) (below x Below) r ≡ copied_node from.rev (from.path ++ r) (trees from.rev (from.path ++ r))
        own [] = shown
        own (z ∷ r) = alone_tree trees w (below x Below) z r no_entries ∙ ap (λ (c : Option CopySource). shared_from trees c w.node.predecessor (below x Below) (z ∷ r)) copy

        local : (r : Path) → cond (is_some (named x entries)) (draft_tree trees (alone w) (below x Below) r) None ≡ copied_node from.rev (from.path ++ r) (trees from.rev (from.path ++ r))
        local r = ap (λ b. cond b (draft_tree trees (alone w) (below x Below) r) None) has ∙ own r

    -- something taken away
    pub deleted_tree : is_some (named x entries) ≡ false → (r : Path) → draft_tree trees (with_child (opened d entries) x nothing old) shared r ≡ cond (covers (x ∷ []) r) None (Was r)
    deleted_tree lacks r = child_tree nothing (λ q. None) stay (λ q. ap (λ b. cond b (draft_tree trees nothing (below x Below) q) None) lacks) r
