-- What is known at an own directory of a draft.
use Rattle.std.proofs.Common.{◌≡◌, ◌≤◌, ℕ, true, cond, List, [], ◌∷◌, ◌++◌, refl, sym, ap, subst, ◌∙◌, append-nil}
use Rattle.std.specs.Prelude.{Option, Some, None, Ok, is_some}
use Rattle.fsfs_base.specs.Paths.{PathName, Path}
use Rattle.fsfs_tree.specs.Nodes.{TreeFunction}
use Rattle.fsfs_base.specs.declared.kind.Kind.TheVariants.{Dir}
use Rattle.fsfs_base.specs.declared.fields.txn_name.TxnName.{TxnName}
use Rattle.fsfs_revision.specs.Told.{RevisionBytes}
use Rattle.fsfs_noderev.specs.declared.node_id.NodeId.{NodeId}
use Rattle.fsfs_noderev.specs.declared.node_rev.CopySource.{CopySource}
use Rattle.fsfs_noderev.specs.declared.node_rev.NodeRev.{NodeRev}
use Rattle.fsfs_revision.specs.Shows.Reading.{DirEntry, named, EntriesOf, OfId, StandsAt}
use Rattle.fsfs_revision.proofs.OneAnswer.{ok_same}
use Rattle.fsfs_revision.proofs.OneWalk.{of_id_one}
use Rattle.fsfs_draft.specs.Own.{OwnNode, Own, below, shared_from, shared_under, has_entry, draft_tree, under, lives_in, lives, shared_at}
use Rattle.fsfs_draft.specs.Rules.{Above, at_top, ComesBy, Change, Copied, Made, Head, head_at, IsEntryOf, AreEntriesOf, NodeRule, Rules, above_under, stands_from, stands_under, above_at, stands_at}
use Rattle.fsfs_draft.specs.Drafts.{Folder, kept_of, IsDraft, ShowTrees}
use Rattle.fsfs_draft.specs.Agreeing.{Agrees}
use Rattle.fsfs_draft.specs.Steps.{EntriesHere, Listed, Read, Empty}
use Rattle.fsfs_draft.proofs.Grafts.{nothing_tree}
use Rattle.fsfs_draft.proofs.Bases.{revision_agrees, under_agrees, agrees_at}
use Rattle.std.proofs.lemmas.Bool.{and_from}

-- ---- what is below an own node-revision

pub head_none : (o : Option OwnNode) → head_at o ≡ None → o ≡ None
head_none None h = refl
head_none (Some v) h = absurd cc

pub head_some : (o : Option OwnNode) → is_some o ≡ true → is_some (head_at o) ≡ true
head_some None h = absurd cc
head_some (Some v) h = refl

none_or : {A : Type 0} (o : Option Head) → o ≡ None → is_some o ≡ true → A
none_or None h g = absurd cc
none_or (Some x) h g = absurd cc

pub entry_has : (Child : PathName → NodeRev → Type 0) (entries : Option (List DirEntry)) (heads : PathName → Option Head) (name : PathName) → AreEntriesOf Child entries heads → is_some (heads name) ≡ true → has_entry entries name ≡ true
entry_has Child None heads name are some = none_or (heads name) (are name) some
entry_has Child (Some entries) heads name are some = by (named name entries) (heads name) (are name) some
  where
    by : (o : Option DirEntry) (h : Option Head) → IsEntryOf (Child name) o h → is_some h ≡ true → is_some o ≡ true
    by None None is some = absurd cc
    by None (Some h) is some = absurd is
    by (Some e) h is some = refl

pub under_is : (p : Path) (own : Own) (r : Path) → under p own r ≡ own (p ++ r)
under_is [] own r = refl
under_is (x ∷ p) own r = under_is p (below x own) r

module _ (look : RevisionBytes) (top : ℕ) where
  pub none_own : (q : Path) (own : Own) (above : Above) (S : Path → NodeRev → Type 0) → Rules look top own above S → own [] ≡ None → own q ≡ None
  none_own [] own above S rules none = none
  none_own (x ∷ q) own above S rules none =
      let kids = subst (λ (o : Option OwnNode). NodeRule look top o (λ name. head_at (own (name ∷ []))) above S) none (rules []) in
      none_own q (below x own) (above_under (own []) above) (λ r u. stands_under look (own []) S (x ∷ r) u) (λ r. rules (x ∷ r)) (head_none (own (x ∷ [])) (kids x))

  first_lives : (p : Path) (own : Own) → lives p own ≡ true → is_some (own []) ≡ true
  first_lives [] own h = h
  first_lives (x ∷ p) own h = by (own []) h
    where
      by : (o : Option OwnNode) → lives_in o x (lives p (below x own)) ≡ true → is_some o ≡ true
      by None g = absurd cc
      by (Some v) g = refl

  pub lives_there : (p : Path) (own : Own) (above : Above) (S : Path → NodeRev → Type 0) → Rules look top own above S → (d : OwnNode) → own p ≡ Some d → lives p own ≡ true
  lives_there [] own above S rules d here = ap (λ (o : Option OwnNode). is_some o) here
  lives_there (x ∷ p) own above S rules d here = by (own []) refl (lives_there p (below x own) (above_under (own []) above) (λ r u. stands_under look (own []) S (x ∷ r) u) (λ r. rules (x ∷ r)) d here)
    where
      by : (o : Option OwnNode) → own [] ≡ o → lives p (below x own) ≡ true → lives_in o x (lives p (below x own)) ≡ true
      by None is further = let none = none_own (x ∷ p) own above S rules is in let e = sym none ∙ here in absurd cc
      by (Some v) is further =
          let rule = subst (λ (o : Option OwnNode). NodeRule look top o (λ name. head_at (own (name ∷ []))) above S) is (rules []) in
          and_from _ _ (entry_has (λ name u. stands_under look (Some v) S (name ∷ []) u) v.entries (λ name. head_at (own (name ∷ []))) x rule.1 (head_some (own (x ∷ [])) (first_lives p (below x own) further))) further

  pub rules_under : (p : Path) (own : Own) (above : Above) (S : Path → NodeRev → Type 0) → Rules look top own above S → Rules look top (under p own) (above_at p own above) (stands_at look p own S)
  rules_under [] own above S rules = rules
  rules_under (x ∷ p) own above S rules = rules_under p (below x own) (above_under (own []) above) (λ r u. stands_under look (own []) S (x ∷ r) u) (λ r. rules (x ∷ r))

  -- what an own node-revision goes on from stands below it
  pub goes_from : (v : OwnNode) (above : Above) (S : Path → NodeRev → Type 0) (id : NodeId) → ComesBy look top S above v → v.node.predecessor ≡ Some id → (u : NodeRev) × stands_under look (Some v) S [] u × (u.id ≡ id) × (v.node.kind ≡ u.kind)
  goes_from v above S id (Change u at no_copy goes keeps root part) is =
      (u, subst (λ (o : Option NodeId). stands_from look v.node.copy_from o S [] u) (sym goes.predecessor) (subst (λ (c : Option CopySource). stands_from look c (Some u.id) S [] u) (sym no_copy) at), (let e = sym goes.predecessor ∙ is in cc), goes.kind)
  goes_from v above S id (Copied u from copy le at goes keeps root part) is =
      (u, subst (λ (c : Option CopySource). stands_from look c v.node.predecessor S [] u) (sym copy) (subst (λ (p : Path). StandsAt look from.rev p u) (sym (append-nil from.path)) at), (let e = sym goes.predecessor ∙ is in cc), goes.kind)
  goes_from v above S id (Made no_copy no_pred count root copy part) is = let e = sym no_pred ∙ is in absurd cc

  -- a new node goes on from nothing
  pub from_nothing : (v : OwnNode) (above : Above) (S : Path → NodeRev → Type 0) → ComesBy look top S above v → v.node.predecessor ≡ None → v.node.copy_from ≡ None
  from_nothing v above S (Change u at no_copy goes keeps root part) none = no_copy
  from_nothing v above S (Copied u from copy le at goes keeps root part) none = let e = sym goes.predecessor ∙ none in absurd cc
  from_nothing v above S (Made no_copy no_pred count root copy part) none = no_copy

-- ---- at an own directory

module _ (look : RevisionBytes) (top base : ℕ) (trees : ℕ → TreeFunction) (shown : ShowTrees look top trees) (le : base ≤ top) (txn : TxnName) (f : Folder) (own : Own) (draft : IsDraft look top base txn f own)
    (p : Path) (d : OwnNode) (here : own p ≡ Some d) where
  abbrev pub Old : Own
  Old = under p own

  abbrev pub Upper : Above
  Upper = above_at p own at_top

  abbrev pub StandsHere : Path → NodeRev → Type 0
  StandsHere q u = stands_at look p own (StandsAt look base) q u

  abbrev pub StandsBelow : Path → NodeRev → Type 0
  StandsBelow q u = stands_under look (Some d) StandsHere q u

  abbrev pub SharedHere : TreeFunction
  SharedHere = shared_at trees p own (trees base)

  abbrev pub SharedBelow : TreeFunction
  SharedBelow = shared_under trees (Some d) SharedHere

  pub live_here : lives p own ≡ true
  live_here = lives_there look top p own at_top (StandsAt look base) draft.rules d here

  pub old_here : Old [] ≡ Some d
  old_here = under_is p own [] ∙ ap own (append-nil p) ∙ here

  pub rules_here : Rules look top Old Upper StandsHere
  rules_here = rules_under look top p own at_top (StandsAt look base) draft.rules

  pub rule_here : ComesBy look top StandsHere Upper d × AreEntriesOf (λ name u. StandsBelow (name ∷ []) u) d.entries (λ name. head_at (Old (name ∷ [])))
  rule_here = subst (λ (o : Option OwnNode). NodeRule look top o (λ name. head_at (Old (name ∷ []))) Upper StandsHere) old_here (rules_here [])

  pub agrees_below : Agrees look top StandsBelow SharedBelow
  agrees_below = under_agrees look top trees shown d Upper StandsHere SharedHere rule_here.0
      (agrees_at look top trees shown p own at_top (StandsAt look base) (trees base) live_here draft.rules (revision_agrees look base (trees base) (shown base le) top le))

  -- below a name at which nothing is the transaction's, nothing is
  pub none_at : (name : PathName) → head_at (Old (name ∷ [])) ≡ None → (r : Path) → Old (name ∷ r) ≡ None
  none_at name none r = none_own look top r (below name Old) (above_under (Old []) Upper) (λ q u. stands_under look (Old []) StandsHere (name ∷ q) u) (λ q. rules_here (name ∷ q)) (head_none (Old (name ∷ [])) none)

  abbrev pub Inner : PathName → TreeFunction
  Inner y = draft_tree trees (below y Old) (below y SharedBelow)

  pub inner_shared : (name : PathName) → head_at (Old (name ∷ [])) ≡ None → (r : Path) → Inner name r ≡ SharedBelow (name ∷ r)
  inner_shared name none r = ap (λ (o : Own). draft_tree trees o (below name SharedBelow) r) (λ i q. none_at name none q i) ∙ nothing_tree trees (below name SharedBelow) r

  -- its entries, as they are read, name what stands there, and the tree is shown by them
  pub record AreHere (entries : List DirEntry) : Type 0 where
    pub are : (name : PathName) → IsEntryOf (λ u. StandsBelow (name ∷ []) u) (named name entries) (head_at (Old (name ∷ [])))
    pub tree : (name : PathName) (r : Path) → cond (is_some (named name entries)) (Inner name r) None ≡ cond (has_entry d.entries name) (Inner name r) None

  pub are_here : (entries : List DirEntry) → d.node.kind ≡ Dir → EntriesHere look (kept_of d) entries → AreHere entries
  are_here entries dir (Listed is) = record {
    are = subst (λ (o : Option (List DirEntry)). AreEntriesOf (λ name u. StandsBelow (name ∷ []) u) o (λ name. head_at (Old (name ∷ [])))) is rule_here.1;
    tree = λ name r. ap (λ (o : Option (List DirEntry)). cond (has_entry o name) (Inner name r) None) (sym is);
  }
  are_here entries dir (Read id u none pred read of) =
      let heads = subst (λ (o : Option (List DirEntry)). AreEntriesOf (λ name v. StandsBelow (name ∷ []) v) o (λ name. head_at (Old (name ∷ [])))) none rule_here.1 in
      let v = goes_from look top d Upper StandsHere id rule_here.0 pred in
      let same : u ≡ v.0 = ok_same u v.0 (of_id_one look id (Ok u) (Ok v.0) read (subst (λ (i : NodeId). OfId look i (Ok v.0)) v.2 (agrees_below.read [] v.0 v.1))) in
      let read_of : EntriesOf look v.0 (Ok entries) = subst (λ (x : NodeRev). EntriesOf look x (Ok entries)) same of in
      let is_dir : v.0.kind ≡ Dir = sym v.3 ∙ dir in
      record {
        are = λ name. entry name heads v.0 v.1 is_dir read_of (named name entries) refl;
        tree = λ name r. shows_same name r heads v.0 v.1 is_dir read_of (named name entries) refl;
      }
    where
      entry : (name : PathName) → ((name : PathName) → head_at (Old (name ∷ [])) ≡ None) → (v : NodeRev) → StandsBelow [] v → v.kind ≡ Dir → EntriesOf look v (Ok entries) → (o : Option DirEntry) → named name entries ≡ o
          → IsEntryOf (λ u. StandsBelow (name ∷ []) u) o (head_at (Old (name ∷ [])))
      entry name heads v at is_dir of None is = subst (λ (h : Option Head). IsEntryOf (λ u. StandsBelow (name ∷ []) u) None h) (sym (heads name)) tt
      entry name heads v at is_dir of (Some e) is =
          let c = agrees_below.child [] v entries name e at is_dir of is in
          subst (λ (h : Option Head). IsEntryOf (λ u. StandsBelow (name ∷ []) u) (Some e) h) (sym (heads name)) (c.0, c.1, sym c.2.id, sym c.2.kind)

      shows_same : (name : PathName) (r : Path) → ((name : PathName) → head_at (Old (name ∷ [])) ≡ None) → (v : NodeRev) → StandsBelow [] v → v.kind ≡ Dir → EntriesOf look v (Ok entries) → (o : Option DirEntry) → named name entries ≡ o
          → cond (is_some (named name entries)) (Inner name r) None ≡ cond (has_entry d.entries name) (Inner name r) None
      shows_same name r heads v at is_dir of None is =
          ap (λ (o : Option DirEntry). cond (is_some o) (Inner name r) None) is
          ∙ sym (ap (λ (o : Option (List DirEntry)). cond (has_entry o name) (Inner name r) None) none ∙ inner_shared name (heads name) r ∙ agrees_below.lacks [] v entries name r at is_dir of is)
      shows_same name r heads v at is_dir of (Some e) is =
          ap (λ (o : Option DirEntry). cond (is_some o) (Inner name r) None) is ∙ sym (ap (λ (o : Option (List DirEntry)). cond (has_entry o name) (Inner name r) None) none)
  are_here entries dir (Empty none pred is) =
      let heads = subst (λ (o : Option (List DirEntry)). AreEntriesOf (λ name v. StandsBelow (name ∷ []) v) o (λ name. head_at (Old (name ∷ [])))) none rule_here.1 in
      let no_copy = from_nothing look top d Upper StandsHere rule_here.0 pred in
      record {
        are = λ name. subst (λ (es : List DirEntry). IsEntryOf (λ u. StandsBelow (name ∷ []) u) (named name es) (head_at (Old (name ∷ [])))) (sym is) (subst (λ (h : Option Head). IsEntryOf (λ u. StandsBelow (name ∷ []) u) None h) (sym (heads name)) tt);
        tree = λ name r. ap (λ (es : List DirEntry). cond (is_some (named name es)) (Inner name r) None) is
            ∙ sym (ap (λ (o : Option (List DirEntry)). cond (has_entry o name) (Inner name r) None) none ∙ inner_shared name (heads name) r ∙ lost no_copy name r);
      }
    where
      lost : d.node.copy_from ≡ None → (name : PathName) (r : Path) → SharedBelow (name ∷ r) ≡ None
      lost no_copy name r = λ i. shared_from trees (no_copy i) (pred i) SharedHere (name ∷ r)
