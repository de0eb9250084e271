-- What is met in a draft: an own node-revision, or what stands where nothing of the transaction's stands.
use Rattle.std.proofs.Common.{◌≡◌, ◌≤◌, ℕ, Bool, true, false, cond, [], ◌∷◌, ◌++◌, refl, sym, ap, subst, ◌∙◌, append-nil}
use Rattle.std.specs.Prelude.{Option, Some, None}
use Rattle.fsfs_base.specs.Paths.{PathName, Path}
use Rattle.fsfs_tree.specs.Nodes.{Node, TreeFunction}
use Rattle.fsfs_base.specs.declared.fields.txn_name.TxnName.{TxnName}
use Rattle.fsfs_revision.specs.Told.{RevisionBytes}
use Rattle.fsfs_noderev.specs.declared.node_rev.NodeRev.{NodeRev}
use Rattle.fsfs_revision.specs.Shows.Reading.{StandsAt}
use Rattle.fsfs_draft.specs.Own.{OwnNode, Own, below, has_entry, node_here, in_own, draft_tree, shared_under, shared_at, under, lives_in, lives}
use Rattle.fsfs_draft.specs.Rules.{at_top, ComesBy, AreEntriesOf, Head, head_at, NodeRule, above_of, above_under, stands_under, above_at, stands_at}
use Rattle.fsfs_draft.specs.Drafts.{Folder, IsDraft, ShowTrees}
use Rattle.fsfs_draft.specs.OwnSides.{NodesAt}
use Rattle.fsfs_draft.specs.Met.{nodes_under, met_here, met_in, draft_nodes, nodes_at, AreNodes}
use Rattle.fsfs_draft.proofs.Grafts.{inner_lives}
use Rattle.fsfs_draft.proofs.Hanging.{Hangs, revision_hangs, under_hangs, hangs_at}
use Rattle.fsfs_draft.proofs.Here.{under_is, live_here, old_here, rules_here, rule_here, none_at}
use Rattle.std.proofs.lemmas.Bool.{and_parts}

-- ---- where nothing is the transaction's

none_met : (nodes : ℕ → NodesAt) (own : Own) (shared : NodesAt) (q : Path) → own [] ≡ None → draft_nodes nodes own shared q ≡ shared q
none_met nodes own shared [] none = ap (λ (o : Option OwnNode). met_here o (shared [])) none
none_met nodes own shared (x ∷ q) none = ap (λ (o : Option OwnNode). met_in o x (shared (x ∷ q)) (draft_nodes nodes (below x own) (below x (nodes_under nodes o shared)) q)) none

none_shown : (trees : ℕ → TreeFunction) (own : Own) (shared : TreeFunction) (q : Path) → own [] ≡ None → draft_tree trees own shared q ≡ shared q
none_shown trees own shared [] none = ap (λ (o : Option OwnNode). node_here o (shared [])) none
none_shown trees own shared (x ∷ q) none = ap (λ (o : Option OwnNode). in_own o x (shared (x ∷ q)) (draft_tree trees (below x own) (below x (shared_under trees o shared)) q)) none

-- ---- at a path down to which all is the transaction's own

met_live : (o : Option OwnNode) (x : PathName) (inner : Bool) (s i : Option NodeRev) → lives_in o x inner ≡ true → met_in o x s i ≡ i
met_live None x inner s i h = absurd cc
met_live (Some v) x inner s i h = rw (and_parts (has_entry v.entries x) inner h).0 refl

shown_live : (o : Option OwnNode) (x : PathName) (inner : Bool) (s i : Option Node) → lives_in o x inner ≡ true → in_own o x s i ≡ i
shown_live None x inner s i h = absurd cc
shown_live (Some v) x inner s i h = rw (and_parts (has_entry v.entries x) inner h).0 refl

pub met_at : (nodes : ℕ → NodesAt) (p : Path) (own : Own) (shared : NodesAt) (q : Path) → lives p own ≡ true → draft_nodes nodes own shared (p ++ q) ≡ draft_nodes nodes (under p own) (nodes_at nodes p own shared) q
met_at nodes [] own shared q live = refl
met_at nodes (x ∷ p) own shared q live =
    met_live (own []) x (lives p (below x own)) (shared (x ∷ p ++ q)) (draft_nodes nodes (below x own) (below x (nodes_under nodes (own []) shared)) (p ++ q)) live
    ∙ met_at nodes p (below x own) (below x (nodes_under nodes (own []) shared)) q (inner_lives (own []) x (lives p (below x own)) live)

pub shown_at : (trees : ℕ → TreeFunction) (p : Path) (own : Own) (shared : TreeFunction) (q : Path) → lives p own ≡ true → draft_tree trees own shared (p ++ q) ≡ draft_tree trees (under p own) (shared_at trees p own shared) q
shown_at trees [] own shared q live = refl
shown_at trees (x ∷ p) own shared q live =
    shown_live (own []) x (lives p (below x own)) (shared (x ∷ p ++ q)) (draft_tree trees (below x own) (below x (shared_under trees (own []) shared)) (p ++ q)) live
    ∙ shown_at trees p (below x own) (below x (shared_under trees (own []) shared)) q (inner_lives (own []) x (lives p (below x own)) live)

-- ---- the nearest own one

pub data Place (own : Own) (p : Path) : Type 0 where
  Mine : (v : OwnNode) → own p ≡ Some v → Place own p
  -- it is below a, where d is the nearest own node-revision
  Shared : (a : Path) (x : PathName) (rest : Path) (d : OwnNode) → p ≡ a ++ x ∷ rest → own a ≡ Some d → own (a ++ x ∷ []) ≡ None → Place own p

pub place : (p : Path) (own : Own) (d : OwnNode) → own [] ≡ Some d → Place own p
place [] own d here = Mine d here
place (x ∷ p) own d here = by (own (x ∷ [])) refl (λ v e. place p (below x own) v e)
  where
    deeper : Place (below x own) p → Place own (x ∷ p)
    deeper (Mine v is) = Mine v is
    deeper (Shared a y rest c is at none) = Shared (x ∷ a) y rest c (ap (λ (t : Path). x ∷ t) is) at none

    by : (o : Option OwnNode) → own (x ∷ []) ≡ o → ((v : OwnNode) → own (x ∷ []) ≡ Some v → Place (below x own) p) → Place own (x ∷ p)
    by None e further = Shared [] x p d refl here e
    by (Some v) e further = deeper (further v e)

pub got : {X : Type 0} (b : Bool) (o : Option X) (u : X) → cond b o None ≡ Some u → (b ≡ true) × (o ≡ Some u)
got true o u e = (refl, e)
got false o u e = absurd cc

module _ (look : RevisionBytes) (top base : ℕ) (trees : ℕ → TreeFunction) (nodes : ℕ → NodesAt) (shown : ShowTrees look top trees) (are : AreNodes look top nodes) (le : base ≤ top)
    (txn : TxnName) (f : Folder) (own : Own) (draft : IsDraft look top base txn f own) where
  abbrev pub met : NodesAt
  met = draft_nodes nodes own (nodes base)

  abbrev pub Stands : Path → OwnNode → Path → NodeRev → Type 0
  Stands p d q u = stands_under look (Some d) (λ r w. stands_at look p own (StandsAt look base) r w) q u

  abbrev pub nodes_below : Path → OwnNode → NodesAt
  nodes_below p d = nodes_under nodes (Some d) (nodes_at nodes p own (nodes base))

  abbrev pub tree_below : Path → OwnNode → TreeFunction
  tree_below p d = shared_under trees (Some d) (shared_at trees p own (trees base))

  module _ (p : Path) (d : OwnNode) (here : own p ≡ Some d) where
    live : lives p own ≡ true
    live = live_here look top base trees shown le txn f own draft p d here

    old : under p own [] ≡ Some d
    old = old_here look top base trees shown le txn f own draft p d here

    pub comes : ComesBy look top (λ r w. stands_at look p own (StandsAt look base) r w) (above_at p own at_top) d
    comes = (rule_here look top base trees shown le txn f own draft p d here).0

    pub entries : AreEntriesOf (λ name u. Stands p d (name ∷ []) u) d.entries (λ name. head_at (own (p ++ name ∷ [])))
    entries = subst (λ (heads : PathName → Option Head). AreEntriesOf (λ name u. Stands p d (name ∷ []) u) d.entries heads) (λ i name. head_at (under_is p own (name ∷ []) i)) (rule_here look top base trees shown le txn f own draft p d here).1

    pub hangs_here : Hangs look top (λ r w. stands_at look p own (StandsAt look base) r w) (nodes_at nodes p own (nodes base)) (shared_at trees p own (trees base))
    hangs_here = hangs_at look top trees nodes shown are p own at_top (StandsAt look base) (nodes base) (trees base) live draft.rules (revision_hangs look top trees nodes shown are base le)

    pub hangs_below : Hangs look top (Stands p d) (nodes_below p d) (tree_below p d)
    hangs_below = under_hangs look top trees nodes shown are d (above_at p own at_top) (λ r w. stands_at look p own (StandsAt look base) r w) (nodes_at nodes p own (nodes base)) (shared_at trees p own (trees base)) comes hangs_here

    -- an own node-revision is met where it stands
    pub met_own : met p ≡ Some d.node
    met_own = ap met (sym (append-nil p)) ∙ met_at nodes p own (nodes base) [] live ∙ ap (λ (o : Option OwnNode). met_here o (nodes_at nodes p own (nodes base) [])) old

    pub shown_own : draft_tree trees own (trees base) p ≡ Some d.shown
    shown_own = ap (draft_tree trees own (trees base)) (sym (append-nil p)) ∙ shown_at trees p own (trees base) [] live ∙ ap (λ (o : Option OwnNode). node_here o (shared_at trees p own (trees base) [])) old

    -- and behind a name at which nothing is the transaction's, what stands there
    pub met_shared : (x : PathName) (rest : Path) → own (p ++ x ∷ []) ≡ None → met (p ++ x ∷ rest) ≡ cond (has_entry d.entries x) (nodes_below p d (x ∷ rest)) None
    met_shared x rest none =
        met_at nodes p own (nodes base) (x ∷ rest) live
        ∙ ap (λ (o : Option OwnNode). met_in o x (nodes_at nodes p own (nodes base) (x ∷ rest)) (draft_nodes nodes (below x (under p own)) (below x (nodes_under nodes o (nodes_at nodes p own (nodes base)))) rest)) old
        ∙ ap (λ (o : Option NodeRev). cond (has_entry d.entries x) o None) (none_met nodes (below x (under p own)) (below x (nodes_below p d)) rest (under_is p own (x ∷ []) ∙ none))

    pub shown_shared : (x : PathName) (rest : Path) → own (p ++ x ∷ []) ≡ None → draft_tree trees own (trees base) (p ++ x ∷ rest) ≡ cond (has_entry d.entries x) (tree_below p d (x ∷ rest)) None
    shown_shared x rest none =
        shown_at trees p own (trees base) (x ∷ rest) live
        ∙ ap (λ (o : Option OwnNode). in_own o x (shared_at trees p own (trees base) (x ∷ rest)) (draft_tree trees (below x (under p own)) (below x (shared_under trees o (shared_at trees p own (trees base)))) rest)) old
        ∙ ap (λ (o : Option Node). cond (has_entry d.entries x) o None) (none_shown trees (below x (under p own)) (below x (tree_below p d)) rest (under_is p own (x ∷ []) ∙ none))

    -- there nothing below is, either
    pub own_shared : (x : PathName) (rest : Path) → own (p ++ x ∷ []) ≡ None → own (p ++ x ∷ rest) ≡ None
    own_shared x rest none = sym (under_is p own (x ∷ rest)) ∙ none_at look top base trees shown le txn f own draft p d here x (ap (λ (o : Option OwnNode). head_at o) (under_is p own (x ∷ []) ∙ none)) rest

    -- an own node-revision below comes by what stands there
    pub child_comes : (x : PathName) (w : OwnNode) → own (p ++ x ∷ []) ≡ Some w → ComesBy look top (λ r u. Stands p d (x ∷ r) u) (above_of d.node) w
    child_comes x w is = (subst (λ (o : Option OwnNode). NodeRule look top o (λ name. head_at (under p own (x ∷ name ∷ []))) (above_of d.node) (λ r u. Stands p d (x ∷ r) u)) (under_is p own (x ∷ []) ∙ is)
        (subst (λ (o : Option OwnNode). NodeRule look top (under p own (x ∷ [])) (λ name. head_at (under p own (x ∷ name ∷ []))) (above_under o (above_at p own at_top)) (λ r u. stands_under look o (λ t w. stands_at look p own (StandsAt look base) t w) (x ∷ r) u)) old
        (rules_here look top base trees shown le txn f own draft p d here (x ∷ [])))).0
