-- The rules of own node-revisions, where everything at and below a path is replaced.
use Rattle.std.proofs.Common.{◌≡◌, ℕ, Bool, true, false, cond, List, [], ◌∷◌, refl, sym, subst}
use Rattle.std.specs.Prelude.{Option, Some, None}
use Rattle.fsfs_base.specs.Paths.{PathName, Path, same_name}
use Rattle.fsfs_base.proofs.PathLemmas.{same_name-is}
use Rattle.fsfs_revision.specs.Told.{RevisionBytes}
use Rattle.fsfs_noderev.specs.declared.node_rev.NodeRev.{NodeRev}
use Rattle.fsfs_revision.specs.Shows.Reading.{DirEntry, named}
use Rattle.fsfs_draft.specs.Own.{OwnNode, Own, below, graft, under, alone, nothing, with_child, lives, opened}
use Rattle.fsfs_draft.specs.Rules.{Above, ComesBy, Change, Copied, Made, Head, head_at, IsEntryOf, AreEntriesOf, NodeRule, RuleAt, Rules, above_of, above_under, stands_under, above_at, stands_at}
use Rattle.fsfs_draft.proofs.Grafts.{inner_lives}

module _ (look : RevisionBytes) (top : ℕ) where
  pub nothing_rules : (above : Above) (Stands : Path → NodeRev → Type 0) (q : Path) → RuleAt look top nothing above Stands q
  nothing_rules above Stands [] = λ name. refl
  nothing_rules above Stands (x ∷ q) = nothing_rules above (λ r u. Stands (x ∷ r) u) q

  -- an own node-revision without a `children` file
  pub alone_rules : (v : OwnNode) (above : Above) (Stands : Path → NodeRev → Type 0) → v.entries ≡ None → ComesBy look top Stands above v → (q : Path) → RuleAt look top (alone v) above Stands q
  alone_rules v above Stands none comes [] = (comes, subst (λ (o : Option (List DirEntry)). AreEntriesOf (λ name u. stands_under look (Some v) Stands (name ∷ []) u) o (λ name. None)) (sym none) (λ name. refl))
  alone_rules v above Stands none comes (x ∷ q) = nothing_rules (above_of v.node) (λ r u. stands_under look (Some v) Stands (x ∷ r) u) q

  -- the rules at a path say the same of what is at and below it
  pub graft_rules : (p : Path) (new own : Own) (above : Above) (Stands : Path → NodeRev → Type 0) → lives p own ≡ true → head_at (new []) ≡ head_at (under p own [])
      → Rules look top own above Stands → Rules look top new (above_at p own above) (stands_at look p own Stands) → Rules look top (graft p new own) above Stands
  graft_rules [] new own above Stands live head rules inner q = inner q
  graft_rules (x ∷ p) new own above Stands live head rules inner [] = subst (λ (heads : PathName → Option Head). NodeRule look top (own []) heads above Stands) (λ i name. same p head name i) (rules [])
    where
      at : (p : Path) (z : PathName) → head_at (new []) ≡ head_at (under p (below x own) []) → head_at (own (x ∷ [])) ≡ head_at (graft p new (below x own) [])
      at [] z head = sym head
      at (y ∷ p) z head = refl

      same : (p : Path) → head_at (new []) ≡ head_at (under p (below x own) []) → (z : PathName) → head_at (own (z ∷ [])) ≡ head_at (cond (same_name x z) (graft p new (below z own) []) (own (z ∷ [])))
      same p head z = by (same_name x z) refl
        where
          Goal : Bool → PathName → Type 0
          Goal b t = head_at (own (t ∷ [])) ≡ head_at (cond b (graft p new (below t own) []) (own (t ∷ [])))

          by : (b : Bool) → same_name x z ≡ b → Goal b z
          by true e = subst (λ (t : PathName). Goal true t) (same_name-is x z e) (at p z head)
          by false e = refl
  graft_rules (x ∷ p) new own above Stands live head rules inner (y ∷ q) =
      by (same_name x y) refl (graft_rules p new (below x own) (above_under (own []) above) (λ r u. stands_under look (own []) Stands (x ∷ r) u) (inner_lives (own []) x (lives p (below x own)) live) head (λ r. rules (x ∷ r)) inner q)
    where
      Under : PathName → Own → Type 0
      Under t o = RuleAt look top o (above_under (own []) above) (λ r u. stands_under look (own []) Stands (t ∷ r) u) q

      by : (b : Bool) → same_name x y ≡ b → Under x (graft p new (below x own)) → Under y (λ r. cond b (graft p new (below y own) r) (own (y ∷ r)))
      by true e step = subst (λ (t : PathName). Under t (graft p new (below t own))) (same_name-is x y e) step
      by false e step = rules (y ∷ q)

  -- a directory whose entries stand in a file of its own comes by what it came by
  pub opened_comes : (d : OwnNode) (entries : List DirEntry) (above : Above) (Stands : Path → NodeRev → Type 0) → ComesBy look top Stands above d → ComesBy look top Stands above (opened d entries)
  opened_comes d entries above Stands (Change u at no_copy goes keeps root part) = Change u at no_copy (record { predecessor = goes.predecessor; node = goes.node; kind = goes.kind; count = goes.count }) (record { entries = λ none. absurd cc; props = keeps.props }) root part
  opened_comes d entries above Stands (Copied u from copy le at goes keeps root part) = Copied u from copy le at (record { predecessor = goes.predecessor; node = goes.node; kind = goes.kind; count = goes.count }) (record { entries = λ none. absurd cc; props = keeps.props }) root part
  opened_comes d entries above Stands (Made no_copy no_pred count root copy part) = Made no_copy no_pred count root copy part

  -- a directory with something else behind one name
  module _ (d : OwnNode) (x : PathName) (entries : List DirEntry) (old : Own) (above : Above) (Stands : Path → NodeRev → Type 0) (here : old [] ≡ Some d) (rules : Rules look top old above Stands) where
    abbrev Child : PathName → NodeRev → Type 0
    Child name u = stands_under look (Some d) Stands (name ∷ []) u

    rule_here : ComesBy look top Stands above d × AreEntriesOf Child d.entries (λ name. head_at (old (name ∷ [])))
    rule_here = subst (λ (o : Option OwnNode). NodeRule look top o (λ name. head_at (old (name ∷ []))) above Stands) here (rules [])

    rule_below : (y : PathName) (q : Path) → RuleAt look top (below y old) (above_of d.node) (λ r u. stands_under look (Some d) Stands (y ∷ r) u) q
    rule_below y q = subst (λ (o : Option OwnNode). RuleAt look top (below y old) (above_under o above) (λ r u. stands_under look o Stands (y ∷ r) u) q) here (rules (y ∷ q))

    pub child_rules : (child : Own) → ((y : PathName) → same_name x y ≡ false → IsEntryOf (Child y) (named y entries) (head_at (old (y ∷ []))))
        → IsEntryOf (Child x) (named x entries) (head_at (child [])) → ((q : Path) → RuleAt look top child (above_of d.node) (λ r u. stands_under look (Some d) Stands (x ∷ r) u) q)
        → (q : Path) → RuleAt look top (with_child (opened d entries) x child old) above Stands q
    child_rules child others this inner [] = (opened_comes d entries above Stands rule_here.0, λ name. entry name (same_name x name) refl)
      where
        entry : (y : PathName) (b : Bool) → same_name x y ≡ b → IsEntryOf (Child y) (named y entries) (head_at (cond b (child []) (old (y ∷ []))))
        entry y true e = subst (λ (t : PathName). IsEntryOf (Child t) (named t entries) (head_at (child []))) (same_name-is x y e) this
        entry y false e = others y e
    child_rules child others this inner (y ∷ q) = by (same_name x y) refl
      where
        Under : PathName → Own → Type 0
        Under t o = RuleAt look top o (above_of d.node) (λ r u. stands_under look (Some d) Stands (t ∷ r) u) q

        by : (b : Bool) → same_name x y ≡ b → Under y (λ r. cond b (child r) (old (y ∷ r)))
        by true e = subst (λ (t : PathName). Under t child) (same_name-is x y e) (inner q)
        by false e = rule_below y q
