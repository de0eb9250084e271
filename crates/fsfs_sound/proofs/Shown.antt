-- Where each revision keeps the rules by itself, the bytes show a tree for each.
use Rattle.std.proofs.Common.{◌≡◌, ◌≤◌, ◌<◌, ◌⊎◌, ℕ, zero, suc, max, Bool, true, false, nat_lt, List, [], refl, sym, subst, ◌∙◌, inl, inr, arith}
use Rattle.std.specs.Prelude.{Ok, Option, Some, None, take}
use Rattle.fsfs_base.specs.Paths.{Path}
use Rattle.fsfs_base.specs.declared.kind.Kind.{Kind}
use Rattle.fsfs_base.specs.declared.kind.Kind.TheVariants.{File, Dir}
use Rattle.fsfs_tree.specs.Nodes.{Node, Content, Bytes, TreeFunction}
use Rattle.fsfs_noderev.specs.declared.rep.Contents.{Contents}
use Rattle.fsfs_noderev.specs.declared.node_id.NodeId.{NodeId}
use Rattle.fsfs_noderev.specs.declared.node_rev.NodeRev.{NodeRev}
use Rattle.fsfs_revision.specs.Told.{RevisionBytes}
use Rattle.fsfs_revision.specs.Shows.Reading.{Pairs, OfContents, RepAt, PairsAt, OfId, TextOf, PropsOf, Met, Stands, Lacking, Blocked, MetAt, StandsAt}
use Rattle.fsfs_revision.specs.Shows.Chains.{own_rev, Chain, First, Goes, IsPred, copy_root_of, contents_rev}
use Rattle.fsfs_revision.specs.Shows.IdRules.{IsOf}
use Rattle.fsfs_revision.specs.Shows.Shown.{IsTextOf, Nearest, source_by, IsSource, IsShown, IsShownAs, Shows}
use Rattle.fsfs_revision.proofs.Roots.{is_less, is_not_less, stands_rooted, IsLatest, rooted_latest}
use Rattle.fsfs_revision.proofs.TreeLaw.{root_le, stands_home}
use Rattle.fsfs_sound.specs.OpenTexts.{IsOpenText}
use Rattle.fsfs_sound.specs.Written.{Precedes}
use Rattle.fsfs_sound.specs.Revisions.{IsSoundTree}
use Rattle.fsfs_sound.proofs.Standing.{known_at, met_at}
use Rattle.fsfs_sound.proofs.Ids.{wrote, goes_on}

module _ (look : RevisionBytes) (top : ℕ) (trees : (r : ℕ) → r ≤ top → IsSoundTree look r) where
  -- a predecessor is of an earlier revision, and stands in a tree
  pub pred_of : (v u : NodeRev) → IsOf look top v → IsPred look v u → (own_rev u < own_rev v) × IsOf look top u
  pred_of v u of pred =
      let w = wrote look top trees v of in
      let k = (known_at look top trees (own_rev v) w.up_to w.path v w.stands).pred refl u pred in
      let home = (stands_home look k.rev k.path u k.stands).1 in
      let before = k.before in
      let up = w.up_to in
      (omega (arith, home, before), (k.rev, k.path, omega (arith, before, up), k.stands))

  pub pred_had : (v : NodeRev) (id : NodeId) → IsOf look top v → v.predecessor ≡ Some id → (u : NodeRev) × OfId look id (Ok u)
  pred_had v id of is = let x = (wrote look top trees v of).sound.pred in by x.0 x.1
    where
      by : (o : Option NodeRev) → Precedes look v o → (u : NodeRev) × OfId look id (Ok u)
      by None none = let e : (let o : Option NodeId = Some id in o) ≡ None = sym is ∙ none in absurd cc
      by (Some u) p =
          let other : NodeId = p.0.0 in
          let e : (let o : Option NodeId = Some id in o) ≡ Some other = sym is ∙ p.0.1 in
          let same : other ≡ id = cc in
          (u, subst (λ (i : NodeId). OfId look i (Ok u)) same p.0.2)

  -- ---- what goes back along the predecessors

  chain_below : (n : ℕ) (v : NodeRev) → own_rev v < n → IsOf look top v → (first : ℕ) × Chain look v (Ok first)
  chain_below zero v less of = absurd (omega (arith, less))
  chain_below (suc n) v less of = by v.predecessor refl (λ u lower up. chain_below n u (omega (arith, lower, less)) up)
    where
      by : (o : Option NodeId) → v.predecessor ≡ o → ((u : NodeRev) → own_rev u < own_rev v → IsOf look top u → (first : ℕ) × Chain look u (Ok first)) → (first : ℕ) × Chain look v (Ok first)
      by None is down = (own_rev v, First v is)
      by (Some id) is down =
          let u = pred_had v id of is in
          let p = pred_of v u.0 of (id, is, u.1) in
          let c = down u.0 p.0 p.1 in
          (c.0, Goes v u.0 id (Ok c.0) is u.1 c.1)

  text_below : (n : ℕ) (v : NodeRev) → own_rev v < n → IsOf look top v → v.kind ≡ File → (text : List ℕ) × TextOf look v (Ok text)
  text_below zero v less of file = absurd (omega (arith, less))
  text_below (suc n) v less of file = by ((wrote look top trees v of).sound.text file) (λ u lower up kind. text_below n u (omega (arith, lower, less)) up kind)
    where
      by : ((text : List ℕ) × TextOf look v (Ok text)) ⊎ ((u : NodeRev) × IsPred look v u × (v.text ≡ u.text)) → ((u : NodeRev) → own_rev u < own_rev v → IsOf look top u → u.kind ≡ File → (text : List ℕ) × TextOf look u (Ok text)) → (text : List ℕ) × TextOf look v (Ok text)
      by (inl read) down = read
      by (inr old) down =
          let p = pred_of v old.0 of old.1 in
          let t = down old.0 p.0 p.1 (sym (goes_on look top trees v old.0 of old.1).kind ∙ file) in
          (t.0, subst (λ (c : Option Contents). OfContents [] (RepAt look) c (Ok t.0)) (sym old.2) t.1)

  props_below : (n : ℕ) (v : NodeRev) → own_rev v < n → IsOf look top v → (pairs : Pairs) × PropsOf look v (Ok pairs)
  props_below zero v less of = absurd (omega (arith, less))
  props_below (suc n) v less of = by (wrote look top trees v of).sound.props.had (λ u lower up. props_below n u (omega (arith, lower, less)) up)
    where
      by : ((pairs : Pairs) × PropsOf look v (Ok pairs)) ⊎ ((u : NodeRev) × IsPred look v u × (v.props ≡ u.props)) → ((u : NodeRev) → own_rev u < own_rev v → IsOf look top u → (pairs : Pairs) × PropsOf look u (Ok pairs)) → (pairs : Pairs) × PropsOf look v (Ok pairs)
      by (inl read) down = read
      by (inr old) down =
          let p = pred_of v old.0 of old.1 in
          let t = down old.0 p.0 p.1 in
          (t.0, subst (λ (c : Option Contents). OfContents [] (PairsAt look) c (Ok t.0)) (sym old.2) t.1)

  content : (v : NodeRev) → IsOf look top v → (text : Content) × IsTextOf look v.kind v text × IsOpenText text
  content v of = by v.kind refl
    where
      by : (kind : Kind) → v.kind ≡ kind → (text : Content) × IsTextOf look v.kind v text × IsOpenText text
      by Dir is = (Bytes [], subst (λ (k : Kind). IsTextOf look k v (Bytes [])) (sym is) refl, tt)
      by File is =
          let t = text_below (suc (own_rev v)) v (omega arith) of is in
          (Bytes t.0, subst (λ (k : Kind). IsTextOf look k v (Bytes t.0)) (sym is) t.1, tt)

  -- ---- the node that is shown

  module _ (r : ℕ) (le : r ≤ top) where
    module _ (p : Path) (v : NodeRev) (at : StandsAt look r p v) where
      of : IsOf look top v
      of = (r, p, le, at)

      source : (last : ℕ × Path) → IsLatest look r p last → (first : ℕ) → (source : Option (ℕ × Path)) × IsSource look r p first (max first last.0) source
      source last latest first = by (nat_lt first last.0) refl
        where
          by : (b : Bool) → nat_lt first last.0 ≡ b → (source : Option (ℕ × Path)) × IsSource look r p first (max first last.0) source
          by false e = let over = is_not_less first last.0 e in (None, inl (omega (arith, over), refl))
          by true e =
              let less = is_less first last.0 e in
              let added : last.0 ≡ max first last.0 = omega (arith, less) in
              let near : Nearest look r p (max first last.0) = subst (λ (n : ℕ). Nearest look r p n) added latest.near in
              let c = latest.copied.some in
              let q = stands_home look r (take c.0 p) c.1 c.3 in
              let most = q.1 in
              let root = root_le c.1 c.1.copy_root q.0.root in
              let is = c.4 in
              let met = met_at look top trees (max first last.0) (omega (arith, added, is, root, most, le)) (copy_root_of near.node).1 in
              (source_by (copy_root_of near.node).1 p met.0, inr (omega (arith, less), record { near = near; met = met.0; root = met.1; source_is = refl }))

      pub node_at : (n : Node) × IsShown look r p v n × IsOpenText n.text
      node_at =
          let c = chain_below (suc (own_rev v)) v (omega arith) of in
          let text = content v of in
          let props = props_below (suc (own_rev v)) v (omega arith) of in
          let g = stands_rooted look r p v at in
          let last : ℕ × Path = g.0 in
          let latest = rooted_latest look r p v last g.1 in
          let from = source last latest c.0 in
          let added = max c.0 last.0 in (
            record { kind = v.kind; text = text.0; properties = props.0; source = from.0; added = added; props_changed = max added (contents_rev v.props); last_changed = max last.0 (own_rev v) },
            record {
              kind = refl;
              text = text.1;
              properties = props.1;
              first = c.0;
              chain = c.1;
              copied = last.0;
              copied_is = latest.copied;
              added = refl;
              props_changed = refl;
              last_changed = refl;
              source = from.1;
            },
            text.2,
          )

    abbrev pub node_of : (p : Path) (met : Met) → MetAt look r p (Ok met) → Option Node
    node_of p (Stands v) at = Some (node_at p v at).0
    node_of p (Lacking names) at = None
    node_of p (Blocked names) at = None

    abbrev pub tree_at : TreeFunction
    tree_at p = node_of p (met_at look top trees r le p).0 (met_at look top trees r le p).1

    pub shows : Shows look r tree_at
    shows = record { each = λ p. (let m = met_at look top trees r le p in (m.0, m.1, by p m.0 m.1)) }
      where
        by : (p : Path) (met : Met) (at : MetAt look r p (Ok met)) → IsShownAs look r p met (node_of p met at)
        by p (Stands v) at = (node_at p v at).1
        by p (Lacking names) at = refl
        by p (Blocked names) at = refl

    pub open_at : (p : Path) (n : Node) → tree_at p ≡ Some n → IsOpenText n.text
    open_at p n = by p (met_at look top trees r le p).0 (met_at look top trees r le p).1 n
      where
        by : (p : Path) (met : Met) (at : MetAt look r p (Ok met)) (n : Node) → node_of p met at ≡ Some n → IsOpenText n.text
        by p (Stands v) at n is = let same : (node_at p v at).0 ≡ n = cc in subst (λ (x : Node). IsOpenText x.text) same (node_at p v at).2
        by p (Lacking names) at n is = absurd cc
        by p (Blocked names) at n is = absurd cc
