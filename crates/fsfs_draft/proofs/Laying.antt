-- Something laid behind one name of an own directory, or taken away there.
use Rattle.std.proofs.Common.{◌≡◌, ◌≤◌, ℕ, Bool, true, false, cond, List, [], ◌∷◌, ◌++◌, refl, sym, ap, subst, ◌∙◌, append-nil, inl, inr}
use Rattle.std.specs.Prelude.{Option, Some, None, is_some, ◌⊎◌}
use Rattle.fsfs_base.specs.Paths.{PathName, Path, same_path, covers}
use Rattle.fsfs_tree.specs.Nodes.{TreeFunction}
use Rattle.fsfs_base.specs.declared.kind.Kind.{Kind}
use Rattle.fsfs_base.specs.declared.kind.Kind.TheVariants.{Dir}
use Rattle.fsfs_base.proofs.PathLemmas.{covers-refl}
use Rattle.fsfs_base.specs.declared.fields.txn_name.TxnName.{TxnName}
use Rattle.fsfs_revision.specs.Told.{RevisionBytes}
use Rattle.fsfs_noderev.specs.Ids.{part_value}
use Rattle.fsfs_noderev.specs.declared.node_id.Place.TheVariants as places
use Rattle.fsfs_noderev.specs.declared.node_id.NodeId.{NodeId}
use Rattle.fsfs_noderev.specs.declared.node_rev.NodeRev.{NodeRev}
use Rattle.fsfs_revision.specs.Shows.Reading.{DirEntry, named, StandsAt}
use Rattle.fsfs_draft.specs.Own.{OwnNode, Own, below, shared_under, has_entry, draft_tree, under, with_child, lives, shared_at, behind, opened}
use Rattle.fsfs_draft.specs.Rules.{Above, at_top, head_at, IsEntryOf, RuleAt, Rules, above_of, stands_under, above_at, stands_at}
use Rattle.fsfs_draft.specs.Drafts.{Folder, kept_of, IsDraftText, HasContent, IsDraft, ShowTrees}
use Rattle.fsfs_draft.specs.Steps.{same_key, EntriesHere}
use Rattle.fsfs_draft.specs.Laying.{laid_own, laid_in, stands_in, IsLaid, IsLaying}
use Rattle.fsfs_draft.proofs.Edited.{same_tree, put_tree, lay_tree, OthersStay, child_tree, changed_tree, made_tree, copied_tree, deleted_tree, behind-is, old_at}
use Rattle.fsfs_draft.proofs.RuleLemmas.{graft_rules, child_rules, alone_rules, nothing_rules}
use Rattle.fsfs_draft.proofs.Files.{same_files}
use Rattle.fsfs_draft.proofs.Here.{under_is, live_here, old_here, rules_here, none_at, AreHere, are_here}
use Rattle.fsfs_model.specs.Flat.Edits as edits
use Rattle.fsfs_model.specs.Flat.Edits.{copied_node}
use Rattle.fsfs_noderev.specs.declared.node_rev.CopySource.{CopySource}
use Rattle.fsfs_draft.proofs.Grafted.{graft_some, IsOfChild, child_some, longer_not, root_left, AreRootIds}

module _ (look : RevisionBytes) (top base : ℕ) (trees : ℕ → TreeFunction) (shown : ShowTrees look top trees) (le : base ≤ top) (txn : TxnName) (f : Folder) (own : Own) (draft : IsDraft look top base txn f own)
    (p : Path) (d : OwnNode) (here : own p ≡ Some d) (dir : d.node.kind ≡ Dir) (x : PathName) (entries : List DirEntry) (listed : EntriesHere look (kept_of d) entries)
    (laid : Option OwnNode) (new : List DirEntry) (after : Folder) where
  abbrev pub Old : Own
  Old = under p own

  abbrev pub Upper : Above
  Upper = above_at p own at_top

  abbrev pub StandsHere : Path → NodeRev → Type 0
  StandsHere q v = stands_at look p own (StandsAt look base) q v

  abbrev pub StandsBelow : Path → NodeRev → Type 0
  StandsBelow q v = stands_under look (Some d) StandsHere q v

  abbrev pub SharedHere : TreeFunction
  SharedHere = shared_at trees p own (trees base)

  abbrev pub SharedBelow : TreeFunction
  SharedBelow = shared_under trees (Some d) SharedHere

  abbrev pub Child : Own
  Child = with_child (opened d new) x (laid_own laid) Old

  abbrev pub Now : Own
  Now = laid_in p d x new laid own

  all_here : AreHere look top base trees shown le txn f own draft p d here entries
  all_here = are_here look top base trees shown le txn f own draft p d here entries dir listed

  is_old : Old [] ≡ Some d
  is_old = old_here look top base trees shown le txn f own draft p d here

  module _ (laying : IsLaying look top base txn f own p d x entries new laid after) where
    -- the tree is changed behind the name alone
    others_stay : OthersStay trees d x new Old SharedHere is_old
    others_stay = record { others = λ y r differs. ap (λ (o : Option DirEntry). cond (is_some o) (draft_tree trees (below y Old) (below y SharedBelow) r) None) (laying.others y differs) ∙ all_here.tree y r }

    laid_rules : Rules look top Now at_top (StandsAt look base)
    laid_rules = graft_rules look top p Child own at_top (StandsAt look base) (live_here look top base trees shown le txn f own draft p d here) (ap (λ (o : Option OwnNode). head_at o) (sym is_old)) draft.rules
        (child_rules look top d x new Old Upper StandsHere is_old (rules_here look top base trees shown le txn f own draft p d here) (laid_own laid)
        (λ y differs. subst (λ (o : Option DirEntry). IsEntryOf (λ v. StandsBelow (y ∷ []) v) o (head_at (Old (y ∷ [])))) (sym (laying.others y differs)) (all_here.are y))
        (head laid laying.entry) (inner laid (λ v is. laying.each v is)))
      where
        head : (o : Option OwnNode) → IsEntryOf (λ u. StandsBelow (x ∷ []) u) (named x new) (head_at o) → IsEntryOf (λ u. StandsBelow (x ∷ []) u) (named x new) (head_at (laid_own o []))
        head None h = h
        head (Some v) h = h

        inner : (o : Option OwnNode) → ((v : OwnNode) → o ≡ Some v → IsLaid look top txn (stands_in look base own p d) d x after v) → (q : Path) → RuleAt look top (laid_own o) (above_of d.node) (λ r u. StandsBelow (x ∷ r) u) q
        inner None each = nothing_rules look top (above_of d.node) (λ r u. StandsBelow (x ∷ r) u)
        inner (Some v) each = let l = each v refl in alone_rules look top v (above_of d.node) (λ r u. StandsBelow (x ∷ r) u) l.no_entries l.comes

    pub data WhichOf (q : Path) (a : OwnNode) : Type 0 where
      TheDirectory : q ≡ p → opened d new ≡ a → WhichOf q a
      TheLaid : q ≡ p ++ x ∷ [] → laid ≡ Some a → WhichOf q a
      Another : own q ≡ Some a → (q ≡ p → ⊥) → WhichOf q a

    pub which : (q : Path) (a : OwnNode) → Now q ≡ Some a → WhichOf q a
    which q a h = first (graft_some p Child own q a h)
      where
        of_laid : (o : Option OwnNode) (s : Path) → laid_own o s ≡ Some a → (s ≡ []) × (o ≡ Some a)
        of_laid None s g = absurd cc
        of_laid (Some v) [] g = (refl, g)
        of_laid (Some v) (z ∷ s) g = absurd cc

        inner : (r : Path) → q ≡ p ++ r → IsOfChild (opened d new) x (laid_own laid) Old r a → WhichOf q a
        inner r is (inl g) = TheDirectory (is ∙ ap (λ (t : Path). p ++ t) g.0 ∙ append-nil p) g.1
        inner r is (inr (inl (s, r_is, g))) =
            let l = of_laid laid s g in
            TheLaid (is ∙ ap (λ (t : Path). p ++ t) (r_is ∙ ap (λ (t : Path). x ∷ t) l.0)) l.1
        inner r is (inr (inr (y, s, r_is, g))) =
            let there : q ≡ p ++ y ∷ s = is ∙ ap (λ (t : Path). p ++ t) r_is in
            Another (ap own is ∙ sym (under_is p own r) ∙ g) (λ same. longer_not p y s (sym there ∙ same))

        first : ((r : Path) × (q ≡ p ++ r) × (Child r ≡ Some a)) ⊎ ((own q ≡ Some a) × (covers p q ≡ false)) → WhichOf q a
        first (inl g) = inner g.0 g.1 (child_some (opened d new) x (laid_own laid) Old g.0 a g.2)
        first (inr g) = Another g.0 (λ same. (let e = sym g.1 ∙ ap (covers p) same ∙ covers-refl p in absurd cc))

    laid_kept : (q : Path) (a : OwnNode) → WhichOf q a → after.nodes (part_value a.node.id.node) (part_value a.node.id.copy) ≡ Some (kept_of a)
    laid_kept q a (TheDirectory at same) = subst (λ (v : OwnNode). after.nodes (part_value v.node.id.node) (part_value v.node.id.copy) ≡ Some (kept_of v)) same laying.directory
    laid_kept q a (TheLaid at is) = (laying.each a is).kept
    laid_kept q a (Another is not_here) = laying.stay a.node.id (kept_of a) (draft.kept q a is) (λ s. not_here (twice s))
      where
        twice : same_key d.node.id a.node.id ≡ true → q ≡ p
        twice s =
            let both : Some (kept_of d) ≡ Some (kept_of a) = sym (draft.kept p d here) ∙ same_files f.nodes d.node.id a.node.id s ∙ draft.kept q a is in
            let one : kept_of d ≡ kept_of a = cc in
            sym (draft.paths q a is) ∙ (λ i. (sym one i).node.created_path) ∙ draft.paths p d here

    laid_path : (q : Path) (a : OwnNode) → WhichOf q a → a.node.created_path ≡ q
    laid_path q a (TheDirectory at same) = (λ i. (sym same i).node.created_path) ∙ draft.paths p d here ∙ sym at
    laid_path q a (TheLaid at is) = (laying.each a is).path ∙ ap (λ (t : Path). t ++ x ∷ []) (draft.paths p d here) ∙ sym at
    laid_path q a (Another is not_here) = draft.paths q a is

    laid_place : (q : Path) (a : OwnNode) → WhichOf q a → a.node.id.place ≡ places.In txn
    laid_place q a (TheDirectory at same) = (λ i. (sym same i).node.id.place) ∙ draft.places p d here
    laid_place q a (TheLaid at is) = (laying.each a is).place
    laid_place q a (Another is not_here) = draft.places q a is

    directory_content : HasContent look f.proto (opened d new)
    directory_content =
        let c = draft.contents p d here in
        record {
          kind = c.kind;
          text = subst (λ (k : Kind). IsDraftText look f.proto k (opened d new) d.shown.text) (sym dir) (subst (λ (k : Kind). IsDraftText look f.proto k d d.shown.text) dir c.text);
          properties = c.properties;
        }

    laid_content : (q : Path) (a : OwnNode) → WhichOf q a → HasContent look after.proto a
    laid_content q a (TheDirectory at same) = subst (λ (v : OwnNode). HasContent look after.proto v) same (laying.contents (opened d new) directory_content)
    laid_content q a (TheLaid at is) = (laying.each a is).content
    laid_content q a (Another is not_here) = laying.contents a (draft.contents q a is)

    left_root : (v : OwnNode) × (Now [] ≡ Some v) × ((draft.root ≡ v) ⊎ ((opened d new ≡ v) × (draft.root ≡ d)))
    left_root = root_left p Child own d (opened d new) draft.root here draft.root_is refl

    root_ids : AreRootIds left_root.0
    root_ids = by left_root.2
      where
        by : (draft.root ≡ left_root.0) ⊎ ((opened d new ≡ left_root.0) × (draft.root ≡ d)) → AreRootIds left_root.0
        by (inl same) = subst AreRootIds same draft.root_id
        by (inr h) = subst AreRootIds h.0 (let ids_of : AreRootIds d = subst AreRootIds h.1 draft.root_id in (ids_of.0, ids_of.1, ids_of.2))

    pub laid_draft : IsDraft look top base txn after Now
    laid_draft = record {
      root = left_root.0;
      root_is = left_root.1;
      root_id = root_ids;
      paths = λ q a h. laid_path q a (which q a h);
      places = λ q a h. laid_place q a (which q a h);
      kept = λ q a h. laid_kept q a (which q a h);
      drawn = laying.drawn;
      rules = laid_rules;
      contents = λ q a h. laid_content q a (which q a h);
    }

    -- ---- the trees of the edits

    live : lives p own ≡ true
    live = live_here look top base trees shown le txn f own draft p d here

    pub has_entry_of : (w : OwnNode) → laid ≡ Some w → is_some (named x new) ≡ true
    has_entry_of w is = by (named x new) (subst (λ (o : Option OwnNode). IsEntryOf (λ u. StandsBelow (x ∷ []) u) (named x new) (head_at o)) is laying.entry)
      where
        by : (o : Option DirEntry) → IsEntryOf (λ u. StandsBelow (x ∷ []) u) o (head_at (Some w)) → is_some o ≡ true
        by None h = absurd h
        by (Some e) h = refl

    -- no path but those at and below the name is changed
    pub others_show : (q : Path) → covers (p ++ x ∷ []) q ≡ false → draft_tree trees Now (trees base) q ≡ draft_tree trees own (trees base) q
    others_show q off = lay_tree trees p own (trees base) live Child (x ∷ []) inner (child_tree trees d x new Old SharedHere is_old (laid_own laid) inner others_stay (λ r. refl)) q
        ∙ ap (λ (b : Bool). cond b (inner (behind (p ++ x ∷ []) q)) (draft_tree trees own (trees base) q)) off
      where
        inner : TreeFunction
        inner = λ r. cond (is_some (named x new)) (draft_tree trees (laid_own laid) (below x SharedBelow) r) None

    -- a new node
    pub made_shows : (w : OwnNode) → laid ≡ Some w → w.node.copy_from ≡ None → w.node.predecessor ≡ None → named x entries ≡ None
        → (q : Path) → draft_tree trees Now (trees base) q ≡ edits.with_node (draft_tree trees own (trees base)) (p ++ x ∷ []) (Some w.shown) q
    made_shows w is no_copy no_pred none = put_tree trees p own (trees base) live Child (x ∷ []) (Some w.shown)
        (subst (λ (o : Option OwnNode). (r : Path) → draft_tree trees (with_child (opened d new) x (laid_own o) Old) SharedHere r ≡ cond (same_path r (x ∷ [])) (Some w.shown) (draft_tree trees Old SharedHere r)) (sym is)
        (made_tree trees d x new Old SharedHere is_old others_stay w (has_entry_of w is) was (laying.each w is).no_entries no_copy no_pred))
      where
        was : (r : Path) → draft_tree trees Old SharedHere (x ∷ r) ≡ None
        was r = old_at trees d x new Old SharedHere is_old x r ∙ sym (all_here.tree x r) ∙ ap (λ (o : Option DirEntry). cond (is_some o) (draft_tree trees (below x Old) (below x SharedBelow) r) None) none

    -- a copy
    pub copied_shows : (w : OwnNode) (from : CopySource) → laid ≡ Some w → w.node.copy_from ≡ Some from → Some w.shown ≡ copied_node from.rev from.path (trees from.rev from.path)
        → (q : Path) → draft_tree trees Now (trees base) q ≡ edits.with_copy (draft_tree trees own (trees base)) from.rev (trees from.rev) from.path (p ++ x ∷ []) q
    copied_shows w from is copy source q =
        lay_tree trees p own (trees base) live Child (x ∷ []) (λ r. copied_node from.rev (from.path ++ r) (trees from.rev (from.path ++ r)))
        (subst (λ (o : Option OwnNode). (r : Path) → draft_tree trees (with_child (opened d new) x (laid_own o) Old) SharedHere r ≡ cond (covers (x ∷ []) r) (copied_node from.rev (from.path ++ behind (x ∷ []) r) (trees from.rev (from.path ++ behind (x ∷ []) r))) (draft_tree trees Old SharedHere r)) (sym is)
        (copied_tree trees d x new Old SharedHere is_old others_stay w from (has_entry_of w is) (laying.each w is).no_entries copy
        (source ∙ ap (λ (r : Path). copied_node from.rev r (trees from.rev r)) (sym (append-nil from.path))))) q
        ∙ ap (λ (r : Path). cond (covers (p ++ x ∷ []) q) (copied_node from.rev (from.path ++ r) (trees from.rev (from.path ++ r))) (draft_tree trees own (trees base) q)) (sym (behind-is (p ++ x ∷ []) q))

    -- something taken away
    pub gone_shows : laid ≡ None → named x new ≡ None → (q : Path) → draft_tree trees Now (trees base) q ≡ edits.without (draft_tree trees own (trees base)) (p ++ x ∷ []) q
    gone_shows is lacks q =
        lay_tree trees p own (trees base) live Child (x ∷ []) (λ r. None)
        (subst (λ (o : Option OwnNode). (r : Path) → draft_tree trees (with_child (opened d new) x (laid_own o) Old) SharedHere r ≡ cond (covers (x ∷ []) r) None (draft_tree trees Old SharedHere r)) (sym is)
        (deleted_tree trees d x new Old SharedHere is_old others_stay (ap (λ (o : Option DirEntry). is_some o) lacks))) q

    -- what stood there, gone on from
    pub went_on_shows : (w : OwnNode) (id : NodeId) → laid ≡ Some w → w.node.copy_from ≡ None → w.node.predecessor ≡ Some id → head_at (Old (x ∷ [])) ≡ None → has_entry d.entries x ≡ true → SharedBelow (x ∷ []) ≡ Some w.shown
        → (q : Path) → draft_tree trees Now (trees base) q ≡ draft_tree trees own (trees base) q
    went_on_shows w id is no_copy goes_on no_head had shows = same_tree trees p own (trees base) live Child
        (subst (λ (o : Option OwnNode). (r : Path) → draft_tree trees (with_child (opened d new) x (laid_own o) Old) SharedHere r ≡ draft_tree trees Old SharedHere r) (sym is)
        (changed_tree trees d x new Old SharedHere is_old others_stay w id (has_entry_of w is) had (none_at look top base trees shown le txn f own draft p d here x no_head) (laying.each w is).no_entries no_copy goes_on shows))
