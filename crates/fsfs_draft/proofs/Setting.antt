-- A text or a property put at an own node-revision of a draft.
use Rattle.std.proofs.Common.{◌≡◌, ◌≤◌, ℕ, true, false, cond, List, [], ◌∷◌, ◌++◌, refl, sym, ap, subst, ◌∙◌, append-nil, inl, inr}
use Rattle.std.specs.Prelude.{Option, Some, None, ◌⊎◌}
use Rattle.fsfs_base.specs.Paths.{Path, same_path, covers}
use Rattle.fsfs_tree.specs.Nodes.{Node, TreeFunction, Bytes}
use Rattle.fsfs_model.specs.Flat.Edits as edits
use Rattle.fsfs_base.proofs.PathLemmas.{covers-refl}
use Rattle.fsfs_base.specs.declared.fields.txn_name.TxnName.{TxnName}
use Rattle.fsfs_revision.specs.Told.{RevisionBytes}
use Rattle.fsfs_noderev.specs.Ids.{part_value}
use Rattle.fsfs_noderev.specs.declared.node_id.Place.TheVariants as places
use Rattle.fsfs_noderev.specs.declared.node_id.NodeId.{NodeId}
use Rattle.fsfs_noderev.specs.declared.node_rev.CopySource.{CopySource}
use Rattle.fsfs_noderev.specs.declared.node_rev.NodeRev.{NodeRev}
use Rattle.fsfs_revision.specs.Shows.Reading.{DirEntry, StandsAt}
use Rattle.fsfs_draft.specs.Own.{OwnNode, Own, below, shared_from, shared_under, has_entry, in_own, draft_tree, under, with_node, shared_at}
use Rattle.fsfs_draft.specs.Rules.{GoesOn, Above, at_top, CopyPartOf, Keeps, ComesBy, Change, Copied, Made as IsMade, Root, head_at, AreEntriesOf, RuleAt, Rules, above_of, above_under, stands_from, stands_under, above_at, stands_at, draft_root}
use Rattle.fsfs_draft.specs.Drafts.{Folder, kept_of, HasContent, IsDraft, ShowTrees}
use Rattle.fsfs_draft.specs.Steps.{same_key}
use Rattle.fsfs_draft.specs.Setting.{IsSet, IsSetting, set_in}
use Rattle.fsfs_draft.proofs.Edited.{put_tree}
use Rattle.fsfs_draft.proofs.RuleLemmas.{graft_rules}
use Rattle.fsfs_draft.proofs.Files.{same_files}
use Rattle.fsfs_draft.proofs.Here.{under_is, live_here, old_here, rules_here, rule_here}
use Rattle.fsfs_draft.proofs.OwnShown.{own_shown}
use Rattle.fsfs_draft.proofs.Grafted.{graft_some, longer_not, root_left, AreRootIds}

keeps_set : (v w : OwnNode) (u : NodeRev) → IsSet v w → Keeps v u → Keeps w u
keeps_set v w u set keeps = record {
  entries = λ none dir. set.text dir ∙ keeps.entries (sym set.entries ∙ none) (sym set.kind ∙ dir);
  props = λ none. (set.props none).1 ∙ keeps.props (set.props none).0;
}

goes_set : (v w : OwnNode) (u : NodeRev) → IsSet v w → GoesOn v.node u → GoesOn w.node u
goes_set v w u set goes = record {
  predecessor = set.predecessor ∙ goes.predecessor;
  node = ap (λ (id : NodeId). id.node) set.id ∙ goes.node;
  kind = set.kind ∙ goes.kind;
  count = set.count ∙ goes.count;
}

set_comes : (look : RevisionBytes) (top : ℕ) (v w : OwnNode) (Stands : Path → NodeRev → Type 0) (above : Above) → IsSet v w → ComesBy look top Stands above v → ComesBy look top Stands above w
set_comes look top v w Stands above set (Change u at no_copy goes keeps root part) =
    Change u at (set.copy_from ∙ no_copy) (goes_set v w u set goes) (keeps_set v w u set keeps) (set.root ∙ root) (subst (λ (id : NodeId). CopyPartOf look above u (part_value id.copy)) (sym set.id) part)
set_comes look top v w Stands above set (Copied u from copy le at goes keeps root part) =
    Copied u from (set.copy_from ∙ copy) le at (goes_set v w u set goes) (keeps_set v w u set keeps) (set.root ∙ root ∙ ap (λ (t : Path). (None, t)) (sym set.path)) (part.0, ap (λ (id : NodeId). part_value id.copy) set.id ∙ part.1)
set_comes look top v w Stands above set (IsMade no_copy no_pred count root copy part) =
    IsMade (set.copy_from ∙ no_copy) (set.predecessor ∙ no_pred) (set.count ∙ count) (set.root ∙ root) (ap (λ (id : NodeId). part_value id.copy) set.id ∙ copy) (part.0, ap (λ (id : NodeId). part_value id.node) set.id ∙ part.1)

module _ (look : RevisionBytes) (top base : ℕ) (trees : ℕ → TreeFunction) (shown : ShowTrees look top trees) (le : base ≤ top) (txn : TxnName) (f : Folder) (own : Own) (draft : IsDraft look top base txn f own)
    (p : Path) (v : OwnNode) (here : own p ≡ Some v) (w : OwnNode) (set : IsSet v w) (after : Folder) where
  abbrev Old : Own
  Old = under p own

  abbrev New : Own
  New = with_node w Old

  abbrev Now : Own
  Now = set_in p w own

  abbrev Upper : Above
  Upper = above_at p own at_top

  abbrev StandsHere : Path → NodeRev → Type 0
  StandsHere q u = stands_at look p own (StandsAt look base) q u

  abbrev SharedHere : TreeFunction
  SharedHere = shared_at trees p own (trees base)

  is_old : Old [] ≡ Some v
  is_old = old_here look top base trees shown le txn f own draft p v here

  set_below : (q : Path) → RuleAt look top New Upper StandsHere q
  set_below [] = (
    set_comes look top v w StandsHere Upper set r.0,
    subst (λ (o : Option (List DirEntry)). AreEntriesOf (λ name u. stands_under look (Some w) StandsHere (name ∷ []) u) o (λ name. head_at (Old (name ∷ [])))) (sym set.entries)
        (subst (λ (from : Option CopySource). AreEntriesOf (λ name u. stands_from look from w.node.predecessor StandsHere (name ∷ []) u) v.entries (λ name. head_at (Old (name ∷ [])))) (sym set.copy_from)
        (subst (λ (before : Option NodeId). AreEntriesOf (λ name u. stands_from look v.node.copy_from before StandsHere (name ∷ []) u) v.entries (λ name. head_at (Old (name ∷ [])))) (sym set.predecessor) r.1)),
  )
    where
      r : ComesBy look top StandsHere Upper v × AreEntriesOf (λ name u. stands_under look (Some v) StandsHere (name ∷ []) u) v.entries (λ name. head_at (Old (name ∷ [])))
      r = rule_here look top base trees shown le txn f own draft p v here
  set_below (y ∷ q) =
      subst (λ (root : Root). RuleAt look top (below y Old) (record { root = root; copy = part_value w.node.id.copy }) (λ r u. stands_under look (Some w) StandsHere (y ∷ r) u) q) (sym set.root)
      (subst (λ (id : NodeId). RuleAt look top (below y Old) (record { root = draft_root v.node; copy = part_value id.copy }) (λ r u. stands_under look (Some w) StandsHere (y ∷ r) u) q) (sym set.id)
      (subst (λ (from : Option CopySource). RuleAt look top (below y Old) (above_of v.node) (λ r u. stands_from look from w.node.predecessor StandsHere (y ∷ r) u) q) (sym set.copy_from)
      (subst (λ (before : Option NodeId). RuleAt look top (below y Old) (above_of v.node) (λ r u. stands_from look v.node.copy_from before StandsHere (y ∷ r) u) q) (sym set.predecessor) was)))
    where
      was : RuleAt look top (below y Old) (above_of v.node) (λ r u. stands_under look (Some v) StandsHere (y ∷ r) u) q
      was = subst (λ (o : Option OwnNode). RuleAt look top (below y Old) (above_under o Upper) (λ r u. stands_under look o StandsHere (y ∷ r) u) q) is_old (rules_here look top base trees shown le txn f own draft p v here (y ∷ q))

  same_head : head_at (New []) ≡ head_at (Old [])
  same_head = (λ i. Some (set.id i, set.kind i)) ∙ ap (λ (o : Option OwnNode). head_at o) (sym is_old)

  set_rules : Rules look top Now at_top (StandsAt look base)
  set_rules = graft_rules look top p New own at_top (StandsAt look base) (live_here look top base trees shown le txn f own draft p v here) same_head draft.rules set_below

  pub data WhichOf (q : Path) (a : OwnNode) : Type 0 where
    TheNode : q ≡ p → w ≡ a → WhichOf q a
    Another : own q ≡ Some a → (q ≡ p → ⊥) → WhichOf q a

  pub which : (q : Path) (a : OwnNode) → Now q ≡ Some a → WhichOf q a
  which q a h = first (graft_some p New own q a h)
    where
      inner : (r : Path) → q ≡ p ++ r → New r ≡ Some a → WhichOf q a
      inner [] is g = TheNode (is ∙ append-nil p) (let e : w ≡ a = cc in e)
      inner (y ∷ s) is g = Another (ap own is ∙ sym (under_is p own (y ∷ s)) ∙ g) (λ same. longer_not p y s (sym is ∙ same))

      first : ((r : Path) × (q ≡ p ++ r) × (New r ≡ Some a)) ⊎ ((own q ≡ Some a) × (covers p q ≡ false)) → WhichOf q a
      first (inl g) = inner g.0 g.1 g.2
      first (inr g) = Another g.0 (λ same. (let e = sym g.1 ∙ ap (covers p) same ∙ covers-refl p in absurd cc))

  set_path : (q : Path) (a : OwnNode) → WhichOf q a → a.node.created_path ≡ q
  set_path q a (TheNode at same) = (λ i. (sym same i).node.created_path) ∙ set.path ∙ draft.paths p v here ∙ sym at
  set_path q a (Another is not_here) = draft.paths q a is

  set_place : (q : Path) (a : OwnNode) → WhichOf q a → a.node.id.place ≡ places.In txn
  set_place q a (TheNode at same) = (λ i. (sym same i).node.id.place) ∙ ap (λ (id : NodeId). id.place) set.id ∙ draft.places p v here
  set_place q a (Another is not_here) = draft.places q a is

  module _ (setting : IsSetting look f v w after) where
    set_kept : (q : Path) (a : OwnNode) → WhichOf q a → after.nodes (part_value a.node.id.node) (part_value a.node.id.copy) ≡ Some (kept_of a)
    set_kept q a (TheNode at same) = subst (λ (x : OwnNode). after.nodes (part_value x.node.id.node) (part_value x.node.id.copy) ≡ Some (kept_of x)) same setting.kept
    set_kept q a (Another is not_here) = setting.stay a.node.id (kept_of a) (draft.kept q a is) (λ s. not_here (twice s))
      where
        twice : same_key v.node.id a.node.id ≡ true → q ≡ p
        twice s =
            let both : Some (kept_of v) ≡ Some (kept_of a) = sym (draft.kept p v here) ∙ same_files f.nodes v.node.id a.node.id s ∙ draft.kept q a is in
            let one : kept_of v ≡ kept_of a = cc in
            sym (draft.paths q a is) ∙ (λ i. (sym one i).node.created_path) ∙ draft.paths p v here

    set_content : (q : Path) (a : OwnNode) → WhichOf q a → HasContent look after.proto a
    set_content q a (TheNode at same) = subst (λ (x : OwnNode). HasContent look after.proto x) same setting.content
    set_content q a (Another is not_here) = setting.contents a (draft.contents q a is)

    left_root : (x : OwnNode) × (Now [] ≡ Some x) × ((draft.root ≡ x) ⊎ ((w ≡ x) × (draft.root ≡ v)))
    left_root = root_left p New own v w draft.root here draft.root_is refl

    root_ids : AreRootIds left_root.0
    root_ids = by left_root.2
      where
        by : (draft.root ≡ left_root.0) ⊎ ((w ≡ left_root.0) × (draft.root ≡ v)) → AreRootIds left_root.0
        by (inl same) = subst AreRootIds same draft.root_id
        by (inr h) = subst AreRootIds h.0 (let ids_of : AreRootIds v = subst AreRootIds h.1 draft.root_id in
            (ap (λ (id : NodeId). part_value id.node) set.id ∙ ids_of.0, ap (λ (id : NodeId). part_value id.copy) set.id ∙ ids_of.1, set.copy_from ∙ ids_of.2))

    pub set_draft : IsDraft look top base txn after Now
    set_draft = record {
      root = left_root.0;
      root_is = left_root.1;
      root_id = root_ids;
      paths = λ q a h. set_path q a (which q a h);
      places = λ q a h. set_place q a (which q a h);
      kept = λ q a h. set_kept q a (which q a h);
      drawn = setting.drawn;
      rules = set_rules;
      contents = λ q a h. set_content q a (which q a h);
    }

  -- the tree is changed at the path alone
  pub set_shows : (q : Path) → draft_tree trees Now (trees base) q ≡ edits.with_node (draft_tree trees own (trees base)) p (Some w.shown) q
  set_shows q =
      put_tree trees p own (trees base) (live_here look top base trees shown le txn f own draft p v here) New [] (Some w.shown) local q
      ∙ ap (λ (t : Path). edits.with_node (draft_tree trees own (trees base)) t (Some w.shown) q) (append-nil p)
    where
      local : (r : Path) → draft_tree trees New SharedHere r ≡ cond (same_path r []) (Some w.shown) (draft_tree trees Old SharedHere r)
      local [] = refl
      local (y ∷ r) =
          (λ i. cond (has_entry (set.entries i) y) (draft_tree trees (below y Old) (below y (shared_from trees (set.copy_from i) (set.predecessor i) SharedHere)) r) None)
          ∙ ap (λ (o : Option OwnNode). in_own o y (SharedHere (y ∷ r)) (draft_tree trees (below y Old) (below y (shared_under trees o SharedHere)) r)) (sym is_old)

  at_shown : (g : Option Node → Option Node) → g (Some v.shown) ≡ g (draft_tree trees own (trees base) p)
  at_shown g = ap g (sym (own_shown look top base trees shown le txn f own draft p v here))

  -- a text put there
  pub text_shows : (text : List ℕ) → w.shown ≡ record v.shown { text = Bytes text } → (q : Path) → draft_tree trees Now (trees base) q ≡ edits.with_node (draft_tree trees own (trees base)) p (edits.with_text text (draft_tree trees own (trees base) p)) q
  text_shows text is q = set_shows q ∙ ap (λ (n : Option Node). edits.with_node (draft_tree trees own (trees base)) p n q) (ap (λ (n : Node). Some n) is ∙ at_shown (edits.with_text text))

  -- a property changed there
  pub prop_shows : (name : List ℕ) (value : Option (List ℕ)) → w.shown ≡ record v.shown { properties = edits.changed_props name value v.shown.properties }
      → (q : Path) → draft_tree trees Now (trees base) q ≡ edits.with_node (draft_tree trees own (trees base)) p (edits.with_prop name value (draft_tree trees own (trees base) p)) q
  prop_shows name value is q = set_shows q ∙ ap (λ (n : Option Node). edits.with_node (draft_tree trees own (trees base)) p n q) (ap (λ (n : Node). Some n) is ∙ at_shown (edits.with_prop name value))
