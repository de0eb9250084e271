-- Where bytes show trees and the rules of ids hold, the trees are those of a history.
use Rattle.std.proofs.Common.{◌≡◌, ◌≤◌, ◌<◌, ◌⊎◌, ℕ, zero, suc, max, Bool, true, false, nat_lt, not, ◌&&◌, List, [], ◌∷◌, ◌++◌, length, take, drop, refl, sym, ap, subst, ◌∙◌, append_assoc, inl, inr, arith}
use Rattle.std.proofs.Math.Seq.{drop-append_seam}
use Rattle.std.proofs.lemmas.Bool.{and_parts, not-true}
use Rattle.std.proofs.lemmas.Option.{same_Some}
use Rattle.std.specs.Prelude.{Result, Ok, Option, Some, None, is_some, if◌then◌else◌}
use Rattle.fsfs_base.specs.Paths.{PathName, Path, covers, is_above}
use Rattle.fsfs_tree.specs.Nodes.{Node, Bytes, TreeFunction, empty_node}
use Rattle.fsfs_base.specs.declared.kind.Kind.{Kind}
use Rattle.fsfs_base.specs.declared.kind.Kind.TheVariants.{Dir}
use Rattle.fsfs_tree.specs.Histories.{IsRevision, AreRevisions}
use Rattle.fsfs_revision.specs.Told.{RevisionBytes}
use Rattle.fsfs_noderev.specs.declared.rep.Contents.{Contents}
use Rattle.fsfs_noderev.specs.declared.node_rev.CopySource.{CopySource}
use Rattle.fsfs_noderev.specs.declared.node_rev.NodeRev.{NodeRev}
use Rattle.fsfs_revision.specs.declared.wrong.Wrong.{Wrong}
use Rattle.fsfs_revision.proofs.OneAnswer.{ok_same}
use Rattle.fsfs_revision.specs.Shows.Reading.{Pairs, PairsAt, OfContents, ChildOf, PropsOf, Met, Stands, Lacking, Blocked, MetFrom, MetAt, StandsAt}
use Rattle.fsfs_revision.specs.Shows.Chains.{own_rev, IsPred, Chain, First, copy_root_of, contents_rev}
use Rattle.fsfs_revision.specs.Shows.IdRules.{IsOf, IsChild}
use Rattle.fsfs_revision.specs.Shows.Shown.{IsTextOf, Nearest, copied_from, source_by, IsOfCopy, IsSource, IsShown, IsShownAs, Shows}
use Rattle.fsfs_revision.proofs.OneWalk.{props_one, met_same, stands_same}
use Rattle.fsfs_revision.proofs.OneTree.{chain_one, first_same, copied_same, near_same, text_same}
use Rattle.fsfs_revision.proofs.TreeLaw.{below, root_home, stands_home, child_home, chain_le, root_le, shown_at, there, sound}
use Rattle.fsfs_revision.proofs.Walks.{met_behind, child_stands}
use Rattle.fsfs_revision.specs.Ancestry.CopyRoots.{later_root, IsRootedFrom, IsRootedAt}
use Rattle.fsfs_revision.specs.Ancestry.Trees.{ShowTrees, ShownTreesAreRevisions}
use Rattle.fsfs_revision.proofs.Roots.{is_less, is_not_less, rooted_met, rooted_stands, stands_rooted, rooted_child, rooted_split, rooted_one, later_up, later_up_here, later_by, IsLatest, rooted_latest}
use Rattle.fsfs_revision.proofs.Earlier.{pred_same, no_pred, is_child, pred_dir}
use Rattle.fsfs_revision.proofs.Behind.{chain_pred, shown_there, IsBehind, Same, Fresh, Moved, behind_at}
use Rattle.fsfs_revision.proofs.Sources.{Copied, Not, From, copied, by_age, root_before, root_zero, Origin, New, Next, Older, IsAtSource, origins}

-- ---- a node by its node-revision and its latest copy, wherever it stands

-- by the latest copy, where the chain begins before it
abbrev pub SourceBy : RevisionBytes → Path → ℕ → ℕ × Path → Option (ℕ × Path) → Type 0
SourceBy look p first last source = ((last.0 ≤ first) × (source ≡ None)) ⊎ ((first < last.0) × (met : Met) × MetAt look last.0 last.1 (Ok met) × (source ≡ source_by last.1 p met))

pub record IsBy (look : RevisionBytes) (p : Path) (v : NodeRev) (last : ℕ × Path) (n : Node) : Type 0 where
  pub kind : n.kind ≡ v.kind
  pub text : IsTextOf look v.kind v n.text
  pub properties : PropsOf look v (Ok n.properties)
  pub first : ℕ
  pub chain : Chain look v (Ok first)
  pub added : n.added ≡ max first last.0
  pub props_changed : n.props_changed ≡ max n.added (contents_rev v.props)
  pub last_changed : n.last_changed ≡ max last.0 (own_rev v)
  pub source : SourceBy look p first last n.source

module _ (look : RevisionBytes) (r : ℕ) (p : Path) (v : NodeRev) (last : ℕ × Path) (n : Node) (sh : IsShown look r p v n) (latest : IsLatest look r p last) where
  copies : sh.copied ≡ last.0
  copies = copied_same look r p sh.copied last.0 sh.copied_is latest.copied

  added : n.added ≡ max sh.first last.0
  added = sh.added ∙ ap (λ (x : ℕ). max sh.first x) copies

  by_copy : sh.first < last.0 → IsOfCopy look r p last.0 n.source → SourceBy look p sh.first last n.source
  by_copy less of =
      let root : copy_root_of of.near.node ≡ last = ap (λ (x : NodeRev). copy_root_of x) (near_same look r p last.0 of.near latest.near) ∙ latest.root in
      inr (less, of.met, subst (λ (x : ℕ × Path). MetAt look last.0 x.1 (Ok of.met)) root of.root, of.source_is ∙ ap (λ (x : ℕ × Path). source_by x.1 p of.met) root)

  source : IsSource look r p sh.first n.added n.source → SourceBy look p sh.first last n.source
  source (inl h) = let e = h.0 in inl (omega (arith, e, added), h.1)
  source (inr h) =
      let less = h.0 in
      let here : n.added ≡ last.0 = omega (arith, added, less) in
      by_copy (omega (arith, less, here)) (subst (λ (x : ℕ). IsOfCopy look r p x n.source) here h.1)

  pub by_shown : IsBy look p v last n
  by_shown = record {
    kind = sh.kind;
    text = sh.text;
    properties = sh.properties;
    first = sh.first;
    chain = sh.chain;
    added = added;
    props_changed = sh.props_changed;
    last_changed = sh.last_changed ∙ ap (λ (x : ℕ). max x (own_rev v)) copies;
    source = source sh.source;
  }

module _ (look : RevisionBytes) (p : Path) (last : ℕ × Path) where
  sources_same : (a b : ℕ) (x y : Option (ℕ × Path)) → a ≡ b → SourceBy look p a last x → SourceBy look p b last y → x ≡ y
  sources_same a b x y e (inl g) (inl h) = g.1 ∙ sym h.1
  sources_same a b x y e (inl g) (inr h) = absurd (let l = g.0 in let m = h.0 in omega (arith, e, l, m))
  sources_same a b x y e (inr g) (inl h) = absurd (let l = g.0 in let m = h.0 in omega (arith, e, l, m))
  sources_same a b x y e (inr g) (inr h) = g.3 ∙ ap (λ (m : Met). source_by last.1 p m) (met_same look last.0 last.1 g.1 h.1 g.2 h.2) ∙ sym h.3

  -- what has the same node-revision has the same node
  by_same : (v : NodeRev) (m n : Node) → IsBy look p v last m → IsBy look p v last n → m ≡ n
  by_same v m n a b =
      let kind = a.kind ∙ sym b.kind in
      let text = text_same look v.kind v m.text n.text a.text b.text in
      let properties = ok_same m.properties n.properties (props_one look v (Ok m.properties) (Ok n.properties) a.properties b.properties) in
      let first = first_same look v a.first b.first a.chain b.chain in
      let added = a.added ∙ ap (λ (x : ℕ). max x last.0) first ∙ sym b.added in
      let props_changed = a.props_changed ∙ ap (λ (x : ℕ). max x (contents_rev v.props)) added ∙ sym b.props_changed in
      let last_changed = a.last_changed ∙ sym b.last_changed in
      let source = sources_same a.first b.first m.source n.source first a.source b.source in
      λ i. record { kind = kind i; text = text i; properties = properties i; source = source i; added = added i; props_changed = props_changed i; last_changed = last_changed i }

  -- what goes on has the number and the source of its predecessor
  record HasGoneOn (m n : Node) : Type 0 where
    added : m.added ≡ n.added
    source : m.source ≡ n.source

  gone_on : (v u : NodeRev) (m n : Node) → IsPred look v u → IsBy look p u last m → IsBy look p v last n → HasGoneOn m n
  gone_on v u m n pred a b =
      let c = chain_pred look v (Ok b.first) b.first pred.0 b.chain refl pred.1 in
      let chain : Chain look u (Ok b.first) = subst (λ (x : NodeRev). Chain look x (Ok b.first)) (pred_same look v c.0 u c.1 pred) c.2 in
      let first = first_same look u a.first b.first a.chain chain in
      record { added = a.added ∙ ap (λ (x : ℕ). max x last.0) first ∙ sym b.added; source = sources_same a.first b.first m.source n.source first a.source b.source }

-- ---- one tree and the next

none_shown : (look : RevisionBytes) (r : ℕ) (p : Path) (o : Option Node) (met : Met) → ((v : NodeRev) → met ≡ Stands v → ⊥) → IsShownAs look r p met o → o ≡ None
none_shown look r p o (Stands v) never h = absurd (never v refl)
none_shown look r p o (Lacking k) never h = h
none_shown look r p o (Blocked k) never h = h

module _ (look : RevisionBytes) (top : ℕ) (tree : ℕ → TreeFunction) (trees : ShowTrees look top tree) where
  -- what stands in a tree is a node of it
  record Here (r : ℕ) (p : Path) (v : NodeRev) (last : ℕ × Path) : Type 0 where
    node : Node
    node_is : tree r p ≡ Some node
    by_it : IsBy look p v last node

  here : (r : ℕ) → r ≤ top → (p : Path) (v : NodeRev) (last : ℕ × Path) → IsRootedAt look r p v last → Here r p v last
  here r le p v last g =
      let n = shown_there look r (tree r) (trees.each r le) p v (rooted_stands look r p v last g) in
      record { node = n.0; node_is = n.1; by_it = by_shown look r p v last n.0 n.2 (rooted_latest look r p v last g) }

  -- and a node is of what stands there
  record Of (r : ℕ) (p : Path) (n : Node) : Type 0 where
    rev : NodeRev
    last : ℕ × Path
    rooted : IsRootedAt look r p rev last
    by_it : IsBy look p rev last n

  of : (r : ℕ) → r ≤ top → (p : Path) (n : Node) → tree r p ≡ Some n → Of r p n
  of r le p n is =
      let s = shown_at look r (tree r) (trees.each r le) p n is in
      let g = stands_rooted look r p s.0 s.1 in
      record { rev = s.0; last = g.0; rooted = g.1; by_it = by_shown look r p s.0 g.0 n s.2 (rooted_latest look r p s.0 g.0 g.1) }

  -- ---- chains begin no later than what is below them was made or copied

  late : (r : ℕ) (p : Path) (d : NodeRev) (a b low : ℕ) → StandsAt look r p d → Chain look d (Ok a) → r ≤ low → a ≤ max b low
  late r p d a b low at chain more =
      let home = stands_home look r p d at in
      let first = chain_le look d (Ok a) a chain refl home.0 in
      let own = home.1 in
      omega (arith, more, first, own)

  chain_before : (v u : NodeRev) (x : ℕ) → IsPred look v u → Chain look v (Ok x) → Chain look u (Ok x)
  chain_before v u x pred chain =
      let w = chain_pred look v (Ok x) x pred.0 chain refl pred.1 in
      subst (λ (y : NodeRev). Chain look y (Ok x)) (pred_same look v w.0 u w.1 pred) w.2

  module _ (r : ℕ) (le : suc r ≤ top) (p : Path) (name : PathName) (d c : NodeRev) (last : ℕ × Path) (g : IsRootedAt look (suc r) p d last) (is : d.kind ≡ Dir) (child : ChildOf look d name (Ok (Some c)))
      (a b : ℕ) (from_d : Chain look d (Ok a)) (from_c : Chain look c (Ok b))
      (before : (d2 c2 : NodeRev) → IsRootedAt look r p d2 last → d2.kind ≡ Dir → ChildOf look d2 name (Ok (Some c2)) → Chain look d2 (Ok a) → Chain look c2 (Ok b) → a ≤ max b (later_root last (copy_root_of c2)).0) where
    abbrev root : ℕ × Path
    root = later_root last (copy_root_of c)

    at : StandsAt look (suc r) p d
    at = rooted_stands look (suc r) p d last g

    rooted : IsRootedAt look (suc r) (p ++ name ∷ []) c (later_root last (copy_root_of c))
    rooted = rooted_child look (suc r) p d c last name g is child

    under : own_rev c ≤ own_rev d
    under = (child_home look d c name child).1

    on : (d2 c2 : NodeRev) → IsRootedAt look r p d2 last → d2.kind ≡ Dir → ChildOf look d2 name (Ok (Some c2)) → (later_root last (copy_root_of c2)).0 ≡ root.0 → Chain look d2 (Ok a) → Chain look c2 (Ok b) → a ≤ max b root.0
    on d2 c2 h is2 child2 same x y = let le2 = before d2 c2 h is2 child2 x y in omega (arith, le2, same)

    kind_before : (u : NodeRev) → IsPred look d u → u.kind ≡ Dir
    kind_before u pred = pred_dir look top tree trees (suc r) le p name d c at is child u pred

    mine : IsChild look top (suc r) p name d c
    mine = is_child look top tree trees (suc r) le p name d c at is child

    not_copied : root.0 ≤ r → own_rev c ≡ suc r → Copied c → c.copy_from ≡ None
    not_copied low own (Not none) = none
    not_copied low own (From from is_copy) =
        let of : IsOf look top c = (suc r, p ++ name ∷ [], le, rooted_stands look (suc r) (p ++ name ∷ []) c root rooted) in
        let rev : (copy_root_of c).0 ≡ own_rev c = ap (λ (x : ℕ × Path). x.0) (trees.ids.copy_root c from of is_copy) in
        let up = later_up_here last (copy_root_of c) in
        absurd (omega (arith, rev, up, low, own))

    -- the child is older than the revision
    same_child : own_rev c ≤ r → IsBehind look r p last d → a ≤ max b root.0
    same_child own (Same low h) = on d c h is child refl from_d from_c
    same_child own (Fresh now none) = let o = trees.ids.older (suc r) p name d c mine (omega (arith, own, now)) in no_pred look d o.0 o.1 none
    same_child own (Moved u now pred h) =
        let o = trees.ids.older (suc r) p name d c mine (omega (arith, own, now)) in
        let one : ChildOf look u name (Ok (Some c)) = subst (λ (x : NodeRev). ChildOf look x name (Ok (Some c))) (pred_same look d o.0 u o.1 pred) o.2 in
        on u c h (kind_before u pred) one refl (chain_before d u a pred from_d) from_c

    -- the child goes on from u
    moved_child : root.0 ≤ r → (u : NodeRev) → own_rev c ≡ suc r → IsPred look c u → IsRootedAt look r (p ++ name ∷ []) u root → IsBehind look r p last d → a ≤ max b root.0
    moved_child low u own pred was (Same old h) = absurd (omega (arith, own, under, old))
    moved_child low u own pred was (Fresh now none) = let o = trees.ids.goes_on (suc r) p name d c u mine (own ∙ sym now) (not_copied low own (copied c)) pred in no_pred look d o.0 o.1 none
    moved_child low u own pred was (Moved w now back h) =
        let o = trees.ids.goes_on (suc r) p name d c u mine (own ∙ sym now) (not_copied low own (copied c)) pred in
        let one : ChildOf look w name (Ok (Some u)) = subst (λ (x : NodeRev). ChildOf look x name (Ok (Some u))) (pred_same look d o.0 w o.1 back) o.2 in
        let dir = kind_before w back in
        let same = rooted_one look r (p ++ name ∷ []) u u (later_root last (copy_root_of u)) root (rooted_child look r p w u last name h dir one) was in
        on w u h dir one (ap (λ (x : ℕ × Path). x.0) same) (chain_before d w a back from_d) (chain_before c u b pred from_c)

    behind_child : root.0 ≤ r → IsBehind look r p last d → IsBehind look r (p ++ name ∷ []) root c → a ≤ max b root.0
    behind_child low above (Same own h) = same_child own above
    behind_child low above (Fresh own none) =
        let first : own_rev c ≡ b = ok_same (own_rev c) b (chain_one (First c none) from_c) in
        let home = stands_home look (suc r) p d at in
        let le2 = chain_le look d (Ok a) a from_d refl home.0 in
        let up = home.1 in
        omega (arith, first, own, le2, up)
    behind_child low above (Moved u own pred h) = moved_child low u own pred h above

    first_step : a ≤ max b root.0
    first_step = by (nat_lt r root.0) refl
      where
        by : (t : Bool) → nat_lt r root.0 ≡ t → a ≤ max b root.0
        by true e = let more = is_less r root.0 e in late (suc r) p d a b root.0 at from_d (omega (arith, more))
        by false e =
            let low : root.0 ≤ r = is_not_less r root.0 e in
            let up = later_up last (copy_root_of c) in
            behind_child low (behind_at look top tree trees r le p d last g (omega (arith, up, low))) (behind_at look top tree trees r le (p ++ name ∷ []) c root rooted low)

  first_below : (r : ℕ) → r ≤ top → (p : Path) (name : PathName) (d c : NodeRev) (last : ℕ × Path) → IsRootedAt look r p d last → d.kind ≡ Dir → ChildOf look d name (Ok (Some c))
      → (a b : ℕ) → Chain look d (Ok a) → Chain look c (Ok b) → a ≤ max b (later_root last (copy_root_of c)).0
  first_below zero le p name d c last g is child a b from_d from_c = late zero p d a b (later_root last (copy_root_of c)).0 (rooted_stands look zero p d last g) from_d (omega arith)
  first_below (suc r) le p name d c last g is child a b from_d from_c =
      first_step r le p name d c last g is child a b from_d from_c (λ d2 c2 h is2 child2 x y. first_below r (omega (arith, le)) p name d2 c2 last h is2 child2 a b x y)

  -- further down
  record IsBelow (a b : ℕ) (v w : NodeRev) (mid last : ℕ × Path) : Type 0 where
    added : max a mid.0 ≤ max b last.0
    changed : max last.0 (own_rev w) ≤ max mid.0 (own_rev v)

  chain_of : (r : ℕ) → r ≤ top → (p : Path) (v : NodeRev) (last : ℕ × Path) → IsRootedAt look r p v last → (a : ℕ) × Chain look v (Ok a)
  chain_of r le p v last g = let n = (here r le p v last g).by_it in (n.first, n.chain)

  below_from : (r : ℕ) → r ≤ top → (front rest : Path) (v w : NodeRev) (mid last : ℕ × Path) → IsRootedAt look r front v mid → IsRootedFrom look v mid rest w last
      → (a b : ℕ) → Chain look v (Ok a) → Chain look w (Ok b) → IsBelow a b v w mid last
  below_from r le front [] v w mid last g down a b from_v from_w =
      let chain : Chain look v (Ok b) = subst (λ (x : NodeRev). Chain look x (Ok b)) down.0 from_w in
      let first = first_same look v a b from_v chain in
      let root : last.0 ≡ mid.0 = ap (λ (x : ℕ × Path). x.0) down.1 in
      let own : own_rev w ≡ own_rev v = ap own_rev down.0 in
      record { added = omega (arith, first, root); changed = omega (arith, own, root) }
  below_from r le front (name ∷ names) v w mid last g down a b from_v from_w =
      let u : NodeRev = down.1 in
      let g2 = rooted_child look r front v u mid name g down.0 down.2 in
      let c = chain_of r le (front ++ name ∷ []) u (later_root mid (copy_root_of u)) g2 in
      let more = below_from r le (front ++ name ∷ []) names u w (later_root mid (copy_root_of u)) last g2 down.3 c.0 b c.1 from_w in
      let first = first_below r le front name v u mid g down.0 down.2 a c.0 from_v c.1 in
      let up = later_up mid (copy_root_of u) in
      let home = child_home look v u name down.2 in
      let own = home.1 in
      let root = root_le u u.copy_root home.0.root in
      let low : (later_root mid (copy_root_of u)).0 ≤ max mid.0 (own_rev v) = later_by (λ (x : ℕ × Path). x.0 ≤ max mid.0 (own_rev v)) mid (copy_root_of u) (λ h. omega arith) (λ h. omega (arith, root, own)) in
      let added = more.added in
      let changed = more.changed in
      record { added = omega (arith, added, first, up); changed = omega (arith, changed, low, own) }

  -- ---- back to the revision of the latest copy

  abbrev IsBack : ℕ × Path → Path → ℕ → Type 0
  IsBack last p a = (w : NodeRev) × IsRootedAt look last.0 p w last × Chain look w (Ok a)

  back_step : (r : ℕ) → suc r ≤ top → (p : Path) (v : NodeRev) (last : ℕ × Path) (a : ℕ) → Chain look v (Ok a) → a < last.0 → last.0 ≤ r
      → ((w : NodeRev) → IsRootedAt look r p w last → Chain look w (Ok a) → IsBack last p a) → IsBehind look r p last v → IsBack last p a
  back_step r le p v last a chain less under further (Same own rooted) = further v rooted chain
  back_step r le p v last a chain less under further (Fresh own none) =
      let first : own_rev v ≡ a = ok_same (own_rev v) a (chain_one (First v none) chain) in
      absurd (omega (arith, first, own, less, under))
  back_step r le p v last a chain less under further (Moved u own pred rooted) = further u rooted (chain_before v u a pred chain)

  back_to : (r : ℕ) → r ≤ top → (p : Path) (v : NodeRev) (last : ℕ × Path) → IsRootedAt look r p v last → (a : ℕ) → Chain look v (Ok a) → a < last.0 → last.0 ≤ r → IsBack last p a
  back_to zero le p v last g a chain less low = absurd (omega (arith, less, low))
  back_to (suc r) le p v last g a chain less low = by_age last.0 (suc r) low
      (λ under. let at_most : last.0 ≤ r = omega (arith, under) in
      back_step r le p v last a chain less at_most (λ w rooted begins. back_to r (omega (arith, le)) p w last rooted a begins less at_most) (behind_at look top tree trees r le p v last g at_most))
      (λ same. (v, subst (λ (n : ℕ). IsRootedAt look n p v last) (sym same) g, chain))

  -- ---- a source stands in its revision

  abbrev IsSourceOf : ℕ → ℕ → Path → Type 0
  IsSourceOf added from f = (from < added) × (is_some (tree from f) ≡ true)

  stands_some : (r : ℕ) → r ≤ top → (p : Path) (v : NodeRev) → StandsAt look r p v → is_some (tree r p) ≡ true
  stands_some r le p v at = let n = there look r (tree r) (trees.each r le) p v at in ap is_some n.1

  abbrev copied_by : Bool → ℕ × Path → Option (ℕ × Path)
  copied_by b to = if b then Some to else None

  copied_to : (c : ℕ) → c ≤ top → (p root : Path) (x : NodeRev) (s : IsAtSource look c p root x) (b : Bool) (from : ℕ) (f : Path)
      → copied_by b (s.from.rev, s.from.path ++ drop (length root) p) ≡ Some (from, f) → IsSourceOf c from f
  copied_to c le p root x s false from f e = absurd cc
  copied_to c le p root x s true from f e =
      let here : ℕ × Path = (s.from.rev, s.from.path ++ drop (length root) p) in
      let to : ℕ × Path = (from, f) in
      let pair : here ≡ to = same_Some here to e in
      let rev : s.from.rev ≡ from = ap (λ (y : ℕ × Path). y.0) pair in
      let earlier = s.earlier in
      let rest : drop (length root) p ≡ s.rest = ap (λ (q : Path). drop (length root) q) s.parts ∙ drop-append_seam root s.rest in
      let path : s.from.path ++ s.rest ≡ f = ap (λ (q : Path). s.from.path ++ q) (sym rest) ∙ ap (λ (y : ℕ × Path). y.1) pair in
      let some = stands_some s.from.rev (omega (arith, earlier, le)) (s.from.path ++ s.rest) x s.stands in
      (omega (arith, rev, earlier), subst (λ (y : ℕ × Path). is_some (tree y.0 y.1) ≡ true) (λ i. (rev i, path i)) some)

  of_copy : (c : ℕ) → c ≤ top → (p root : Path) (x : NodeRev) (s : IsAtSource look c p root x) (met : Met) → MetAt look c root (Ok met) → (from : ℕ) (f : Path) → source_by root p met ≡ Some (from, f) → IsSourceOf c from f
  of_copy c le p root x s met at from f e =
      let same : met ≡ Stands s.copy = met_same look c root met (Stands s.copy) at s.there in
      let copy : source_by root p (Stands s.copy) ≡ Some (from, f) = subst (λ (m : Met). source_by root p m ≡ Some (from, f)) same e in
      copied_to c le p root x s (covers root p) from f (subst (λ (o : Option CopySource). copied_from root p o ≡ Some (from, f)) s.is_copy copy)

  by_origin : (p : Path) (v : NodeRev) (last : ℕ × Path) (a : ℕ) → last.0 ≤ top → Chain look v (Ok a) → a < last.0 → Origin look last.0 p v last → (met : Met) → MetAt look last.0 last.1 (Ok met) → (from : ℕ) (f : Path)
      → source_by last.1 p met ≡ Some (from, f) → IsSourceOf last.0 from f
  by_origin p v last a le chain less (New own none root) met at from f e =
      let first : own_rev v ≡ a = ok_same (own_rev v) a (chain_one (First v none) chain) in
      absurd (omega (arith, first, own, less))
  by_origin p v last a le chain less (Next u own root pred s) met at from f e = of_copy last.0 le p last.1 u s met at from f e
  by_origin p v last a le chain less (Older own s) met at from f e = of_copy last.0 le p last.1 v s met at from f e

  last_low : (r : ℕ) (p : Path) (v : NodeRev) (last : ℕ × Path) → IsRootedAt look r p v last → last.0 ≤ r
  last_low r p v last g =
      let latest = rooted_latest look r p v last g in
      let q = latest.near.node in
      let home = stands_home look r _ latest.near.node latest.near.stands in
      let own = home.1 in
      let root = root_le latest.near.node latest.near.node.copy_root home.0.root in
      let same : (copy_root_of latest.near.node).0 ≡ last.0 = ap (λ (x : ℕ × Path). x.0) latest.root in
      omega (arith, own, root, same)

  source_stands : (r : ℕ) → r ≤ top → (p : Path) (n : Node) (from : ℕ) (f : Path) → tree r p ≡ Some n → n.source ≡ Some (from, f) → IsSourceOf n.added from f
  source_stands r le p n from f is e = by o.by_it.source
    where
      o : Of r p n
      o = of r le p n is

      low : o.last.0 ≤ r
      low = last_low r p o.rev o.last o.rooted

      by : SourceBy look p o.by_it.first o.last n.source → IsSourceOf n.added from f
      by (inl h) = absurd (let g = sym e ∙ h.1 in cc)
      by (inr h) =
          let less = h.0 in
          let b = back_to r le p o.rev o.last o.rooted o.by_it.first o.by_it.chain less low in
          let c_le : o.last.0 ≤ top = omega (arith, low, le) in
          let x = origins look top tree trees o.last.0 c_le p b.0 (rooted_stands look o.last.0 p b.0 o.last b.1) in
          let same : x.last ≡ o.last = rooted_one look o.last.0 p b.0 b.0 x.last o.last x.rooted b.1 in
          let origin = subst (λ (y : ℕ × Path). Origin look o.last.0 p b.0 y) same (x.origin (ap (λ (y : ℕ × Path). y.0) same)) in
          let s = by_origin p b.0 o.last o.by_it.first c_le b.2 less origin h.1 h.2 from f (sym h.3 ∙ e) in
          let s_less = s.0 in
          let added = o.by_it.added in
          (omega (arith, s_less, added), s.1)

  -- ---- the conditions of a revision

  module _ (r : ℕ) (le : suc r ≤ top) where
    before_le : r ≤ top
    before_le = omega (arith, le)

    -- what was not changed
    unchanged : (p : Path) (n : Node) (o : Of (suc r) p n) → n.last_changed < suc r → IsRootedAt look r p o.rev o.last
    unchanged p n o less = by (behind_at look top tree trees r le p o.rev o.last o.rooted (omega (arith, less, changed)))
      where
        changed : n.last_changed ≡ max o.last.0 (own_rev o.rev)
        changed = o.by_it.last_changed

        by : IsBehind look r p o.last o.rev → IsRootedAt look r p o.rev o.last
        by (Same own rooted) = rooted
        by (Fresh own none) = absurd (omega (arith, less, changed, own))
        by (Moved u own pred rooted) = absurd (omega (arith, less, changed, own))

    same_before : (p : Path) (n : Node) → tree (suc r) p ≡ Some n → n.last_changed < suc r → tree r p ≡ Some n
    same_before p n is less =
        let o = of (suc r) le p n is in
        let h = here r before_le p o.rev o.last (unchanged p n o less) in
        h.node_is ∙ ap (λ (x : Node). let s : Option Node = Some x in s) (by_same look p o.last o.rev h.node n h.by_it o.by_it)

    -- what was not added
    record Stood (p : Path) (n : Node) (v : NodeRev) (last : ℕ × Path) : Type 0 where
      node : Node
      node_is : tree r p ≡ Some node
      kind : node.kind ≡ n.kind
      added : node.added ≡ n.added
      source : node.source ≡ n.source
      props : contents_rev v.props < suc r → (node.properties ≡ n.properties) × (node.props_changed ≡ n.props_changed)

    module _ (p : Path) (n : Node) (o : Of (suc r) p n) (less : n.added < suc r) where
      added_is : n.added ≡ max o.by_it.first o.last.0
      added_is = o.by_it.added

      as_same : IsRootedAt look r p o.rev o.last → Stood p n o.rev o.last
      as_same rooted =
          let h = here r before_le p o.rev o.last rooted in
          let same = by_same look p o.last o.rev h.node n h.by_it o.by_it in
          record {
            node = h.node;
            node_is = h.node_is;
            kind = λ i. (same i).kind;
            added = λ i. (same i).added;
            source = λ i. (same i).source;
            props = λ low. ((λ i. (same i).properties), (λ i. (same i).props_changed));
          }

      as_next : (u : NodeRev) → own_rev o.rev ≡ suc r → IsPred look o.rev u → IsRootedAt look r p u o.last → Stood p n o.rev o.last
      as_next u own pred rooted =
          let h = here r before_le p u o.last rooted in
          let go = gone_on look p o.last o.rev u h.node n pred h.by_it o.by_it in
          let v_of : IsOf look top o.rev = (suc r, p, le, rooted_stands look (suc r) p o.rev o.last o.rooted) in
          record {
            node = h.node;
            node_is = h.node_is;
            kind = h.by_it.kind ∙ sym (trees.ids.kind o.rev u v_of pred) ∙ sym o.by_it.kind;
            added = go.added;
            source = go.source;
            props = λ low.
                (let same : o.rev.props ≡ u.props = trees.ids.props o.rev u v_of pred (inl (omega (arith, low, own))) in
                let read : PropsOf look o.rev (Ok h.node.properties) = subst (λ (c : Option Contents). OfContents [] (PairsAt look) c (Ok h.node.properties)) (sym same) h.by_it.properties in (
                  ok_same h.node.properties n.properties (props_one look o.rev (Ok h.node.properties) (Ok n.properties) read o.by_it.properties),
                  h.by_it.props_changed ∙ (λ i. max (go.added i) (contents_rev (sym same i))) ∙ sym o.by_it.props_changed,
                ));
          }

      stood : Stood p n o.rev o.last
      stood = by (behind_at look top tree trees r le p o.rev o.last o.rooted (omega (arith, less, added_is)))
        where
          by : IsBehind look r p o.last o.rev → Stood p n o.rev o.last
          by (Same own rooted) = as_same rooted
          by (Fresh own none) =
              let first : own_rev o.rev ≡ o.by_it.first = ok_same (own_rev o.rev) o.by_it.first (chain_one (First o.rev none) o.by_it.chain) in
              absurd (omega (arith, first, own, less, added_is))
          by (Moved u own pred rooted) = as_next u own pred rooted

    -- where something was taken away
    taken : (q x : Path) (n : Node) → is_above q x ≡ true → tree (suc r) q ≡ Some n → tree (suc r) x ≡ None → is_some (tree r x) ≡ true → n.last_changed ≡ suc r
    taken q x n above is none some =
        by_age n.last_changed (suc r) ((sound look (suc r) (tree (suc r)) (trees.each (suc r) le)).at_most q n is) (λ less. absurd (never less)) (λ same. same)
      where
        parts : (y : PathName) × (rest : Path) × (x ≡ q ++ y ∷ rest)
        parts = let both = and_parts (covers q x) (not (covers x q)) above in below q x both.0 (not-true (covers x q) both.1)

        node_of : (m : Option Node) → is_some m ≡ true → (k : Node) × (m ≡ Some k)
        node_of None e = absurd cc
        node_of (Some k) e = (k, refl)

        never : n.last_changed < suc r → ⊥
        never less =
            let o = of (suc r) le q n is in
            let g = unchanged q n o less in
            let k = node_of (tree r x) some in
            let y : Path = parts.0 ∷ parts.1 in
            let k_is : tree r (q ++ y) ≡ Some k.0 = subst (λ (z : Path). tree r z ≡ Some k.0) parts.2 k.1 in
            let w = of r before_le (q ++ y) k.0 k_is in
            let s = rooted_split look w.rooted.0 (copy_root_of w.rooted.0) q y w.rev w.last w.rooted.2 in
            let mid : IsRootedAt look r q s.0 s.1 = (w.rooted.0, w.rooted.1, s.2) in
            let same : s.0 ≡ o.rev = stands_same look r q s.0 o.rev (rooted_stands look r q s.0 s.1 mid) (rooted_stands look r q o.rev o.last g) in
            let down : MetFrom look o.rev (length q) y (Ok (Stands w.rev)) = subst (λ (z : NodeRev). MetFrom look z (length q) y (Ok (Stands w.rev))) same (rooted_met look s.0 s.1 (length q) y w.rev w.last s.3) in
            let here2 = met_behind look (suc r) o.rev q y (Ok (Stands w.rev)) (rooted_stands look (suc r) q o.rev o.last o.rooted) down in
            let found = there look (suc r) (tree (suc r)) (trees.each (suc r) le) (q ++ y) w.rev here2 in
            let gone : tree (suc r) (q ++ y) ≡ None = subst (λ (z : Path). tree (suc r) z ≡ None) parts.2 none in
            absurd (let e = sym gone ∙ found.1 in cc)

    numbers_below : (q x : Path) (m n : Node) → is_above q x ≡ true → tree (suc r) q ≡ Some m → tree (suc r) x ≡ Some n → (m.added ≤ n.added) × (n.last_changed ≤ m.last_changed)
    numbers_below q x m n above m_is n_is =
        let both = and_parts (covers q x) (not (covers x q)) above in
        let parts = below q x both.0 (not-true (covers x q) both.1) in
        let y : Path = parts.0 ∷ parts.1 in
        let o = of (suc r) le q m m_is in
        let w = of (suc r) le (q ++ y) n (subst (λ (z : Path). tree (suc r) z ≡ Some n) parts.2 n_is) in
        let s = rooted_split look w.rooted.0 (copy_root_of w.rooted.0) q y w.rev w.last w.rooted.2 in
        let mid : IsRootedAt look (suc r) q s.0 s.1 = (w.rooted.0, w.rooted.1, s.2) in
        let same : s.0 ≡ o.rev = stands_same look (suc r) q s.0 o.rev (rooted_stands look (suc r) q s.0 s.1 mid) (rooted_stands look (suc r) q o.rev o.last o.rooted) in
        let root : s.1 ≡ o.last = rooted_one look (suc r) q s.0 o.rev s.1 o.last mid o.rooted in
        let down : IsRootedFrom look o.rev o.last y w.rev w.last = subst (λ (z : ℕ × Path). IsRootedFrom look o.rev z y w.rev w.last) root (subst (λ (z : NodeRev). IsRootedFrom look z s.1 y w.rev w.last) same s.3) in
        let b = below_from (suc r) le q y o.rev w.rev o.last w.last o.rooted down o.by_it.first w.by_it.first o.by_it.chain w.by_it.chain in
        let added = b.added in
        let changed = b.changed in
        let m_added = o.by_it.added in
        let n_added = w.by_it.added in
        let m_last = o.by_it.last_changed in
        let n_last = w.by_it.last_changed in
        (omega (arith, added, m_added, n_added), omega (arith, changed, m_last, n_last))

  root_first : (r : ℕ) (v : NodeRev) → r ≤ top → StandsAt look r [] v → (a : ℕ) → Chain look v (Ok a) → a ≡ 0
  root_first zero v le at a chain =
      let first : own_rev v ≡ a = ok_same (own_rev v) a (chain_one (First v (trees.ids.first v at).0) chain) in
      sym first ∙ (trees.ids.root_id zero v le at).2
  root_first (suc s) v le at a chain =
      let b = root_before look top tree trees s v le at in
      let w = chain_pred look v (Ok a) a b.2.0 chain refl b.2.1 in
      root_first s b.0 (omega (arith, le)) b.1 a (subst (λ (x : NodeRev). Chain look x (Ok a)) (pred_same look v w.0 b.0 w.1 b.2) w.2)

  -- the numbers of a root
  root_numbers : (r : ℕ) → r ≤ top → (n : Node) → tree r [] ≡ Some n → (n.added ≡ 0) × (n.last_changed ≡ r)
  root_numbers r le n is =
      let o = of r le [] n is in
      let at = rooted_stands look r [] o.rev o.last o.rooted in
      let root : o.last ≡ copy_root_of o.rev = o.rooted.2.1 ∙ ap copy_root_of (sym o.rooted.2.0) in
      let none : o.last.0 ≡ 0 = ap (λ (x : ℕ × Path). x.0) root ∙ root_zero look top tree trees r o.rev le at in
      let first = root_first r o.rev le at o.by_it.first o.by_it.chain in
      let own = (trees.ids.root_id r o.rev le at).2 in
      let added = o.by_it.added in
      let last = o.by_it.last_changed in
      (omega (arith, added, first, none), omega (arith, last, none, own))

  next : (r : ℕ) → r < top → IsRevision (suc r) tree (tree r) (tree (suc r))
  next r less =
      let le : suc r ≤ top = omega (arith, less) in
      let s = sound look (suc r) (tree (suc r)) (trees.each (suc r) le) in
      record {
        is_tree = s.is_tree;
        root = λ n is. root_numbers (suc r) le n is;
        ordered = s.ordered;
        at_most = s.at_most;
        below = λ q x m n above m_is n_is. numbers_below r le q x m n above m_is n_is;
        last_changed = λ q n is low. same_before r le q n is low;
        added = λ q n is low. (let t = stood r le q n (of (suc r) le q n is) low in (t.node, t.node_is, t.kind, t.added, t.source));
        props_changed = λ q n is low.
            (let o = of (suc r) le q n is in
            let order = s.ordered q n is in
            let up = order.added in
            let props = o.by_it.props_changed in
            let t = stood r le q n o (omega (arith, up, low)) in
            let same = t.props (omega (arith, props, low)) in
            (t.node, t.node_is, same.0, same.1));
        taken = λ q x n above is none some. taken r le q x n above is none some;
        source = λ q f n from is e. source_stands (suc r) le q n from f is e;
      }

  -- ---- the first tree

  no_source : (first : ℕ) (last : ℕ × Path) (source : Option (ℕ × Path)) → last.0 ≤ 0 → SourceBy look [] first last source → source ≡ None
  no_source first last source low (inl h) = h.1
  no_source first last source low (inr h) = absurd (let less = h.0 in omega (arith, less, low))

  first_node : (n : Node) → tree 0 [] ≡ Some n → n ≡ empty_node Dir
  first_node n is =
      let le : 0 ≤ top = omega arith in
      let o = of 0 le [] n is in
      let at = rooted_stands look 0 [] o.rev o.last o.rooted in
      let rule = trees.ids.first o.rev at in
      let numbers = root_numbers 0 le n is in
      let dir : o.rev.kind ≡ Dir = subst (λ (x : NodeRev). x.kind ≡ Dir) (sym o.rooted.2.0) (root_home look 0 o.rooted.0 o.rooted.1).2 in
      let kind : n.kind ≡ Dir = o.by_it.kind ∙ dir in
      let text : n.text ≡ Bytes [] = subst (λ (k : Kind). IsTextOf look k o.rev n.text) dir o.by_it.text in
      let properties : n.properties ≡ [] = ok_same n.properties [] (subst (λ (c : Option Contents). OfContents [] (PairsAt look) c (Ok n.properties)) rule.1 o.by_it.properties) in
      let low = last_low 0 [] o.rev o.last o.rooted in
      let source : n.source ≡ None = no_source o.by_it.first o.last n.source low o.by_it.source in
      let props : n.props_changed ≡ 0 = (let changed = o.by_it.props_changed in let zero_added = numbers.0 in let rep : contents_rev o.rev.props ≡ 0 = ap contents_rev rule.1 in omega (arith, changed, zero_added, rep)) in
      let added = numbers.0 in
      let last = numbers.1 in
      λ i. record { kind = kind i; text = text i; properties = properties i; source = source i; added = added i; props_changed = props i; last_changed = last i }

  revisions : AreRevisions tree top
  revisions = record {
    first = (let t = (sound look 0 (tree 0) (trees.each 0 (omega arith))).is_tree.root in t.1 ∙ ap (λ (n : Node). let o : Option Node = Some n in o) (first_node t.0 t.1));
    alone = λ name p. (let w = (trees.each 0 (omega arith)).each (name ∷ p) in none_shown look 0 (name ∷ p) (tree 0 (name ∷ p)) w.0 (λ v is. trees.ids.alone name p v (subst (λ (m : Met). MetAt look 0 (name ∷ p) (Ok m)) is w.1)) w.2);
    next = next;
  }

pub shown_revisions : ShownTreesAreRevisions
shown_revisions look top tree trees = revisions look top tree trees
