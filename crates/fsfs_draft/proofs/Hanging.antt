-- What stands where nothing of the transaction's stands, node-revision by node-revision.
use Rattle.std.proofs.Common.{◌≡◌, ◌≤◌, ℕ, true, [], ◌∷◌, ◌++◌, refl, sym, ap, subst, append_assoc}
use Rattle.std.specs.Prelude.{◌↔◌, Ok, Option, Some, None, is_some}
use Rattle.fsfs_base.specs.Paths.{PathName, Path}
use Rattle.fsfs_tree.specs.Nodes.{Node, TreeFunction}
use Rattle.fsfs_model.specs.Flat.Edits.{copied_node}
use Rattle.fsfs_base.specs.declared.kind.Kind.TheVariants.{Dir}
use Rattle.fsfs_revision.specs.Told.{RevisionBytes}
use Rattle.fsfs_noderev.specs.declared.node_id.NodeId.{NodeId}
use Rattle.fsfs_noderev.specs.declared.node_rev.CopySource.{CopySource}
use Rattle.fsfs_noderev.specs.declared.node_rev.NodeRev.{NodeRev}
use Rattle.fsfs_revision.specs.Shows.Reading.{ChildOf, StandsAt}
use Rattle.fsfs_revision.proofs.OneWalk.{stands_same}
use Rattle.fsfs_revision.proofs.Walks.{child_stands}
use Rattle.fsfs_draft.specs.Own.{OwnNode, Own, below, shared_from, shared_under, shared_at, lives_in, lives}
use Rattle.fsfs_draft.specs.Rules.{Above, ComesBy, Change, Copied, Made, NodeRule, Rules, above_under, stands_from, stands_under, stands_at, head_at}
use Rattle.fsfs_draft.specs.Drafts.{ShowTrees}
use Rattle.fsfs_draft.specs.Agreeing.{Agrees}
use Rattle.fsfs_draft.specs.OwnSides.{NodesAt}
use Rattle.fsfs_draft.specs.Met.{nodes_from, nodes_under, nodes_at, AreNodes}
use Rattle.fsfs_draft.proofs.Grafts.{inner_lives}
use Rattle.fsfs_draft.proofs.Bases.{met_there, revision_agrees, copy_agrees, under_agrees, below_agrees}
use Rattle.fsfs_draft.proofs.Parents.{parent}

-- `Stands` says what stands at each path; `nodes` gives it, and `tree` the nodes that it is shown as
pub record Hangs (look : RevisionBytes) (top : ℕ) (Stands : Path → NodeRev → Type 0) (nodes : NodesAt) (tree : TreeFunction) : Type 0 where
  pub agrees : Agrees look top Stands tree
  pub one : (q : Path) (u v : NodeRev) → Stands q u → Stands q v → u ≡ v
  pub are : (q : Path) (u : NodeRev) → nodes q ≡ Some u ↔ Stands q u
  pub there : (q : Path) → is_some (tree q) ≡ true → (u : NodeRev) × Stands q u
  pub up : (q : Path) (name : PathName) (w : NodeRev) → Stands (q ++ name ∷ []) w → (u : NodeRev) × Stands q u × ((u.kind ≡ Dir) × ChildOf look u name (Ok (Some w)))
  pub down : (q : Path) (name : PathName) (u w : NodeRev) → Stands q u → u.kind ≡ Dir → ChildOf look u name (Ok (Some w)) → Stands (q ++ name ∷ []) w
  pub revision : (q : Path) (u : NodeRev) → Stands q u → (r : ℕ) × (f : Path) × (r ≤ top) × StandsAt look r f u

copied_some : (r : ℕ) (p : Path) (o : Option Node) → is_some (copied_node r p o) ≡ true → is_some o ≡ true
copied_some r p None h = absurd cc
copied_some r p (Some n) h = refl

module _ (look : RevisionBytes) (top : ℕ) (trees : ℕ → TreeFunction) (nodes : ℕ → NodesAt) (shown : ShowTrees look top trees) (all : AreNodes look top nodes) where
  pub revision_hangs : (b : ℕ) → b ≤ top → Hangs look top (StandsAt look b) (nodes b) (trees b)
  revision_hangs b le = record {
    agrees = revision_agrees look b (trees b) (shown b le) top le;
    one = λ q u v a c. stands_same look b q u v a c;
    are = λ q u. (all b le).each q u;
    there = λ q h. met_there look b (trees b) (shown b le) q (trees b q) refl h;
    up = λ q name w at. parent look b q name w at;
    down = λ q name u w at dir child. child_stands look b u w q name at dir child;
    revision = λ q u at. (b, q, le, at);
  }

  pub copy_hangs : (rev : ℕ) (from : Path) → rev ≤ top → Hangs look top (λ q u. StandsAt look rev (from ++ q) u) (λ q. nodes rev (from ++ q)) (λ q. copied_node rev (from ++ q) (trees rev (from ++ q)))
  copy_hangs rev from le = record {
    agrees = copy_agrees look rev (trees rev) (shown rev le) top le from;
    one = λ q u v a c. stands_same look rev (from ++ q) u v a c;
    are = λ q u. (all rev le).each (from ++ q) u;
    there = λ q h. met_there look rev (trees rev) (shown rev le) (from ++ q) (trees rev (from ++ q)) refl (copied_some rev (from ++ q) (trees rev (from ++ q)) h);
    up = λ q name w at. parent look rev (from ++ q) name w (subst (λ (p : Path). StandsAt look rev p w) (sym (append_assoc from q (name ∷ []))) at);
    down = λ q name u w at dir child. subst (λ (p : Path). StandsAt look rev p w) (append_assoc from q (name ∷ [])) (child_stands look rev u w (from ++ q) name at dir child);
    revision = λ q u at. (rev, from ++ q, le, at);
  }

  pub below_hangs : (S : Path → NodeRev → Type 0) (N : NodesAt) (tree : TreeFunction) (x : PathName) → Hangs look top S N tree → Hangs look top (λ q u. S (x ∷ q) u) (below x N) (below x tree)
  below_hangs S N tree x h = record {
    agrees = below_agrees look top S tree x h.agrees;
    one = λ q u v a c. h.one (x ∷ q) u v a c;
    are = λ q u. h.are (x ∷ q) u;
    there = λ q g. h.there (x ∷ q) g;
    up = λ q name w at. h.up (x ∷ q) name w at;
    down = λ q name u w at dir child. h.down (x ∷ q) name u w at dir child;
    revision = λ q u at. h.revision (x ∷ q) u at;
  }

  pub under_hangs : (v : OwnNode) (above : Above) (S : Path → NodeRev → Type 0) (N : NodesAt) (tree : TreeFunction) → ComesBy look top S above v → Hangs look top S N tree
      → Hangs look top (stands_under look (Some v) S) (nodes_under nodes (Some v) N) (shared_under trees (Some v) tree)
  under_hangs v above S N tree comes h = by comes
    where
      on : Agrees look top (stands_under look (Some v) S) (shared_under trees (Some v) tree)
      on = under_agrees look top trees shown v above S tree comes h.agrees

      same : (c : Option CopySource) (o : Option NodeId) → c ≡ None → is_some o ≡ true → Agrees look top (stands_from look c o S) (shared_from trees c o tree) → Hangs look top (stands_from look c o S) (nodes_from nodes c o N) (shared_from trees c o tree)
      same None (Some id) e f a = record { agrees = a; one = h.one; are = h.are; there = h.there; up = h.up; down = h.down; revision = h.revision }
      same None None e f a = absurd cc
      same (Some from) o e f a = absurd cc

      copy : (c : Option CopySource) (o : Option NodeId) (from : CopySource) → c ≡ Some from → from.rev ≤ top → Agrees look top (stands_from look c o S) (shared_from trees c o tree) → Hangs look top (stands_from look c o S) (nodes_from nodes c o N) (shared_from trees c o tree)
      copy None o from e le a = absurd cc
      copy (Some other) o from e le a =
          let eq : other ≡ from = cc in
          let w = copy_hangs other.rev other.path (subst (λ (c : CopySource). c.rev ≤ top) (sym eq) le) in
          record { agrees = a; one = w.one; are = w.are; there = w.there; up = w.up; down = w.down; revision = w.revision }

      none : (c : Option CopySource) (o : Option NodeId) → c ≡ None → o ≡ None → Agrees look top (stands_from look c o S) (shared_from trees c o tree) → Hangs look top (stands_from look c o S) (nodes_from nodes c o N) (shared_from trees c o tree)
      none None None e f a = record {
        agrees = a;
        one = λ q u w at. absurd at;
        are = λ q u. (λ (g : _). absurd cc, λ (at : _). absurd at);
        there = λ q g. absurd cc;
        up = λ q name w at. absurd at;
        down = λ q name u w at. absurd at;
        revision = λ q u at. absurd at;
      }
      none None (Some id) e f a = absurd cc
      none (Some from) o e f a = absurd cc

      by : ComesBy look top S above v → Hangs look top (stands_under look (Some v) S) (nodes_under nodes (Some v) N) (shared_under trees (Some v) tree)
      by (Change u at no_copy goes keeps root part) = same v.node.copy_from v.node.predecessor no_copy (ap (λ (o : Option NodeId). is_some o) goes.predecessor) on
      by (Copied u from is le at goes keeps root part) = copy v.node.copy_from v.node.predecessor from is le on
      by (Made no_copy no_pred count root part node) = none v.node.copy_from v.node.predecessor no_copy no_pred on

  pub hangs_at : (p : Path) (own : Own) (above : Above) (S : Path → NodeRev → Type 0) (N : NodesAt) (tree : TreeFunction) → lives p own ≡ true → Rules look top own above S → Hangs look top S N tree
      → Hangs look top (stands_at look p own S) (nodes_at nodes p own N) (shared_at trees p own tree)
  hangs_at [] own above S N tree live rules h = record { agrees = h.agrees; one = h.one; are = h.are; there = h.there; up = h.up; down = h.down; revision = h.revision }
  hangs_at (x ∷ p) own above S N tree live rules h =
      hangs_at p (below x own) (above_under (own []) above) (λ q u. stands_under look (own []) S (x ∷ q) u) (below x (nodes_under nodes (own []) N)) (below x (shared_under trees (own []) tree)) (inner_lives (own []) x (lives p (below x own)) live) (λ q. rules (x ∷ q))
      (by (own []) (rules []) live)
    where
      by : (o : Option OwnNode) → NodeRule look top o (λ name. head_at (own (name ∷ []))) above S → lives_in o x (lives p (below x own)) ≡ true → Hangs look top (λ q u. stands_under look o S (x ∷ q) u) (below x (nodes_under nodes o N)) (below x (shared_under trees o tree))
      by None rule live = absurd cc
      by (Some v) rule live = below_hangs (stands_under look (Some v) S) (nodes_under nodes (Some v) N) (shared_under trees (Some v) tree) x (under_hangs v above S N tree rule.0 h)
