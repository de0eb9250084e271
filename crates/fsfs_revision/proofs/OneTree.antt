-- The bytes show one tree at most.
use Rattle.std.proofs.Common.{◌≡◌, ◌≤◌, ◌<◌, ℕ, max, List, take, refl, sym, ap, subst, ◌∙◌, arith, inl, inr}
use Rattle.std.specs.Prelude.{Result, Ok, Err, Option, Some, None}
use Rattle.std.proofs.lemmas.Option.{same_Some}
use Rattle.fsfs_base.specs.Paths.{Path}
use Rattle.fsfs_tree.specs.Nodes.{Node, Content, Bytes, Closed, TreeFunction}
use Rattle.fsfs_base.specs.declared.kind.Kind.{Kind}
use Rattle.fsfs_base.specs.declared.kind.Kind.TheVariants.{File, Dir}
use Rattle.fsfs_revision.specs.Told.{RevisionBytes}
use Rattle.fsfs_noderev.specs.declared.node_id.NodeId.{NodeId}
use Rattle.fsfs_noderev.specs.declared.node_rev.NodeRev.{NodeRev}
use Rattle.fsfs_revision.specs.Damage.Damages.{place_of}
use Rattle.fsfs_revision.specs.declared.wrong.Wrong.{Wrong}
use Rattle.fsfs_revision.specs.Shows.Reading.{OfId, Met, Stands, Lacking, Blocked, MetAt, StandsAt}
use Rattle.fsfs_revision.specs.Shows.Chains.{own_rev, Chain, First, Breaks, Goes, copy_root_of, IsCopiedIn, contents_rev}
use Rattle.fsfs_revision.specs.Shows.Shown.{IsTextOf, Nearest, source_by, IsOfCopy, IsSource, IsShown, IsShownAs, Shows}
use Rattle.fsfs_revision.proofs.OneAnswer.{ok_same}
use Rattle.fsfs_revision.proofs.OneWalk.{text_one, props_one, of_id_one, met_same, stands_same}

pub some_or_none : {A B : Type 0} (x : A) (o : Option A) → o ≡ Some x → o ≡ None → B
some_or_none x o e f = let g = sym e ∙ f in absurd cc

-- ---- the chain of predecessors

pub chain_one : {look : RevisionBytes} {v : NodeRev} {a b : Result ℕ Wrong} → Chain look v a → Chain look v b → a ≡ b
chain_one (First v e) (First w f) = refl
chain_one (First v e) (Breaks w id x f g) = some_or_none id v.predecessor f e
chain_one (First v e) (Goes w u id end f g c) = some_or_none id v.predecessor f e
chain_one (Breaks w id x f g) (First v e) = some_or_none id v.predecessor f e
chain_one {look} (Breaks w id x f g) (Breaks v other y e h) =
    let same = same_Some id other (sym f ∙ e) in
    let both = of_id_one look other (Err x) (Err y) (subst (λ (i : NodeId). OfId look i (Err x)) same g) h in
    ap (λ (w : Wrong). let r : Result ℕ Wrong = Err w in r) (let z : x ≡ y = cc in z)
chain_one {look} (Breaks w id x f g) (Goes v u other end e h c) =
    let same = same_Some id other (sym f ∙ e) in
    let both = of_id_one look other (Err x) (Ok u) (subst (λ (i : NodeId). OfId look i (Err x)) same g) h in
    absurd cc
chain_one (Goes w u id end f g c) (First v e) = some_or_none id v.predecessor f e
chain_one {look} (Goes w u id end f g c) (Breaks v other y e h) =
    let same = same_Some id other (sym f ∙ e) in
    let both = of_id_one look other (Ok u) (Err y) (subst (λ (i : NodeId). OfId look i (Ok u)) same g) h in
    absurd cc
chain_one {look} {b = b} (Goes w u id end f g c) (Goes v t other stop e h d) =
    let same = same_Some id other (sym f ∙ e) in
    let both = ok_same u t (of_id_one look other (Ok u) (Ok t) (subst (λ (i : NodeId). OfId look i (Ok u)) same g) h) in
    chain_one c (subst (λ (n : NodeRev). Chain look n b) (sym both) d)

pub first_same : (look : RevisionBytes) (v : NodeRev) (a b : ℕ) → Chain look v (Ok a) → Chain look v (Ok b) → a ≡ b
first_same look v a b c d = ok_same a b (chain_one c d)

-- ---- copies

module _ (look : RevisionBytes) (r : ℕ) (p : Path) where
  copied_at_most : (a b : ℕ) → IsCopiedIn look r p a → IsCopiedIn look r p b → a ≤ b
  copied_at_most a b v w =
      let s = v.some in
      let h = w.at_most s.0 s.1 s.2 s.3 in
      subst (λ (n : ℕ). n ≤ b) s.4 h

  pub copied_same : (a b : ℕ) → IsCopiedIn look r p a → IsCopiedIn look r p b → a ≡ b
  copied_same a b v w = let h = copied_at_most a b v w in let g = copied_at_most b a w v in omega arith

  depth_at_most : (rev : ℕ) (a b : Nearest look r p rev) → a.depth < b.depth → ⊥
  depth_at_most rev a b less = a.nearest b.depth b.node less b.within b.stands b.root

  depth_same : (rev : ℕ) (a b : Nearest look r p rev) → a.depth ≡ b.depth
  depth_same rev a b = by (depth_at_most rev a b) (depth_at_most rev b a)
    where
      by : (a.depth < b.depth → ⊥) → (b.depth < a.depth → ⊥) → a.depth ≡ b.depth
      by f g = grind arith

  pub near_same : (rev : ℕ) (a b : Nearest look r p rev) → a.node ≡ b.node
  near_same rev a b = stands_same look r (take b.depth p) a.node b.node (subst (λ (k : ℕ). StandsAt look r (take k p) a.node) (depth_same rev a b) a.stands) b.stands

  of_copy_same : (added : ℕ) (a b : Option (ℕ × Path)) → IsOfCopy look r p added a → IsOfCopy look r p added b → a ≡ b
  of_copy_same added a b v w =
      let node = near_same added v.near w.near in
      let root = ap (λ (q : NodeRev). (copy_root_of q).1) node in
      let met = met_same look added (copy_root_of w.near.node).1 v.met w.met (subst (λ (x : Path). MetAt look added x (Ok v.met)) root v.root) w.root in
      v.source_is ∙ (λ i. source_by (root i) p (met i)) ∙ sym w.source_is

  source_same : (first added : ℕ) (a b : Option (ℕ × Path)) → IsSource look r p first added a → IsSource look r p first added b → a ≡ b
  source_same first added a b (inl v) (inl w) = v.1 ∙ sym w.1
  source_same first added a b (inl v) (inr w) = absurd (let e = v.0 in let l = w.0 in omega arith)
  source_same first added a b (inr v) (inl w) = absurd (let e = w.0 in let l = v.0 in omega arith)
  source_same first added a b (inr v) (inr w) = of_copy_same added a b v.1 w.1

-- ---- texts

pub text_same : (look : RevisionBytes) (kind : Kind) (v : NodeRev) (a b : Content) → IsTextOf look kind v a → IsTextOf look kind v b → a ≡ b
text_same look Dir v a b g h = g ∙ sym h
text_same look File v (Bytes a) (Bytes b) g h = ap (λ (t : List ℕ). Bytes t) (ok_same a b (text_one look v (Ok a) (Ok b) g h))
text_same look File v (Bytes a) (Closed r o) g h = absurd (let e = text_one look v (Ok a) (Err _) g h in cc)
text_same look File v (Closed r o) (Bytes a) g h = absurd (let e = text_one look v (Err _) (Ok a) g h in cc)
text_same look File v (Closed r o) (Closed s q) g h =
    let e = text_one look v (Err _) (Err _) g h in
    let place : place_of r o ≡ place_of s q = cc in
    λ i. Closed (place i).rev (place i).offset

-- ---- a node, a tree

shown_same : (look : RevisionBytes) (r : ℕ) (p : Path) (v : NodeRev) (m n : Node) → IsShown look r p v m → IsShown look r p v n → m ≡ n
shown_same look r p v m n a b =
    let kind = a.kind ∙ sym b.kind in
    let text = text_same look v.kind v m.text n.text a.text b.text in
    let properties = ok_same m.properties n.properties (props_one look v (Ok m.properties) (Ok n.properties) a.properties b.properties) in
    let first = first_same look v a.first b.first a.chain b.chain in
    let copied = copied_same look r p a.copied b.copied a.copied_is b.copied_is in
    let added = a.added ∙ (λ i. max (first i) (copied i)) ∙ sym b.added in
    let props_changed = a.props_changed ∙ ap (λ (x : ℕ). max x (contents_rev v.props)) added ∙ sym b.props_changed in
    let last_changed = a.last_changed ∙ ap (λ (x : ℕ). max x (own_rev v)) copied ∙ sym b.last_changed in
    let moved = subst (λ (x : ℕ). IsSource look r p x n.added m.source) first (subst (λ (x : ℕ). IsSource look r p a.first x m.source) added a.source) in
    let source = source_same look r p b.first n.added m.source n.source moved b.source in
    λ i. record { kind = kind i; text = text i; properties = properties i; source = source i; added = added i; props_changed = props_changed i; last_changed = last_changed i }

shown_as_same : (look : RevisionBytes) (r : ℕ) (p : Path) (met : Met) (a b : Option Node) → IsShownAs look r p met a → IsShownAs look r p met b → a ≡ b
shown_as_same look r p (Stands v) (Some m) (Some n) g h = ap (λ (x : Node). Some x) (shown_same look r p v m n g h)
shown_as_same look r p (Stands v) None b g h = absurd g
shown_as_same look r p (Stands v) (Some m) None g h = absurd h
shown_as_same look r p (Lacking k) a b g h = g ∙ sym h
shown_as_same look r p (Blocked k) a b g h = g ∙ sym h

pub one_tree : (look : RevisionBytes) (r : ℕ) (s t : TreeFunction) → Shows look r s → Shows look r t → (p : Path) → s p ≡ t p
one_tree look r s t a b p =
    let v = a.each p in
    let w = b.each p in
    let met = met_same look r p v.0 w.0 v.1 w.1 in
    shown_as_same look r p w.0 (s p) (t p) (subst (λ (m : Met). IsShownAs look r p m (s p)) met v.2) w.2
