-- What the bytes show is a tree, with numbers in order.
use Rattle.std.proofs.Common.{◌≡◌, ◌≤◌, ℕ, suc, max, cond, Bool, true, false, ◌&&◌, List, [], ◌∷◌, ◌++◌, take, refl, sym, ap, subst, ◌∙◌, arith}
use Rattle.std.proofs.lemmas.Bool.{and_parts, not-true}
use Rattle.std.proofs.lemmas.Bool.Decides.{nat_tests}
use Rattle.std.specs.Prelude.{Result, Ok, Option, Some, None, not, ◌==◌, is_some, IsSomeAnd, unwrap_or}
use Rattle.fsfs_base.specs.Paths.{PathName, Path, same_name, covers, is_above}
use Rattle.fsfs_tree.specs.Nodes.{Node, TreeFunction}
use Rattle.fsfs_base.specs.declared.kind.Kind.{Kind}
use Rattle.fsfs_base.specs.declared.kind.Kind.TheVariants.{File, Dir}
use Rattle.fsfs_base.proofs.PathLemmas.{same_name-is, same_name-refl}
use Rattle.fsfs_revision.specs.Told.{RevisionBytes}
use Rattle.fsfs_noderev.specs.declared.node_id.Place.{Place}
use Rattle.fsfs_noderev.specs.declared.node_id.Place.TheVariants as places
use Rattle.fsfs_noderev.specs.declared.node_id.NodeId.{NodeId}
use Rattle.fsfs_noderev.specs.declared.rep.Contents.{Contents}
use Rattle.fsfs_noderev.specs.declared.rep.Contents.TheVariants as contents
use Rattle.fsfs_noderev.specs.declared.node_rev.CopyRoot.{CopyRoot}
use Rattle.fsfs_noderev.specs.declared.node_rev.NodeRev.{NodeRev}
use Rattle.fsfs_revision.specs.Nodes.{place_before, pred_before, rep_place_before, rep_before, source_before, rev_not_after, root_not_after, is_ordered, is_own_place, is_directory}
use Rattle.fsfs_revision.specs.Damage.Damages.{place_of}
use Rattle.fsfs_revision.specs.declared.damage.RevOffset.{RevOffset}
use Rattle.fsfs_revision.specs.declared.wrong.Wrong.{Wrong}
use Rattle.fsfs_revision.specs.Shows.Reading.{offset_of, RootOf, OfId, OfNamed, Pairs, DirEntry, AreEntries, EntriesAt, EntriesOf, OfContents, named, ChildOf, Met, Stands, Lacking, Blocked, OrLacking, InDirectory, MetFrom, MetAt, StandsAt}
use Rattle.fsfs_revision.specs.Shows.Chains.{own_rev, Chain, First, Breaks, Goes, root_or_own, contents_rev}
use Rattle.fsfs_revision.specs.Shows.Shown.{IsShown, IsShownAs, Shows}
use Rattle.fsfs_revision.specs.Shows.TreeLaw.{IsSound}
use Rattle.fsfs_revision.proofs.OneAnswer.{ok_same}
use Rattle.fsfs_revision.proofs.OneWalk.{met_same}

-- ---- paths above

and_false : (a b : Bool) → a ≡ true → (a && b) ≡ false → b ≡ false
and_false true b e f = f
and_false false b e f = absurd cc

pub below : (q p : Path) → covers q p ≡ true → covers p q ≡ false → (x : PathName) × (rest : Path) × (p ≡ q ++ x ∷ rest)
below [] [] c n = absurd cc
below [] (y ∷ p) c n = (y, p, refl)
below (x ∷ q) [] c n = absurd cc
below (x ∷ q) (y ∷ p) c n =
    let both = and_parts (same_name x y) (covers q p) c in
    let e = same_name-is x y both.0 in
    let other : same_name y x ≡ true = subst (λ (z : PathName). same_name y z ≡ true) (sym e) (same_name-refl y) in
    let rest = below q p both.1 (and_false (same_name y x) (covers p q) other n) in
    (rest.0, rest.1, (λ i. sym e i ∷ rest.2 i))

-- ---- what stands above a node is a directory

prefix_in : (kind : Kind) (depth : ℕ) (R : Result (Option NodeRev) Wrong → Type 0) (S T : NodeRev → Result Met Wrong → Type 0) (v : NodeRev)
    → InDirectory kind depth R S (Ok (Stands v)) → ((u : NodeRev) → S u (Ok (Stands v)) → (w : NodeRev) × T u (Ok (Stands w)) × (w.kind ≡ Dir)) → (w : NodeRev) × InDirectory kind depth R T (Ok (Stands w)) × (w.kind ≡ Dir)
prefix_in File depth R S T v on f = absurd cc
prefix_in Dir depth R S T v on f = by on.0 on.1 on.2
  where
    by : (o : Option NodeRev) → R (Ok o) → OrLacking (suc depth) S o (Ok (Stands v)) → (w : NodeRev) × InDirectory Dir depth R T (Ok (Stands w)) × (w.kind ≡ Dir)
    by None child further = absurd cc
    by (Some u) child further = let w = f u further in (w.0, (Some u, child, w.1), w.2)

in_directory : (kind : Kind) (depth : ℕ) (R : Result (Option NodeRev) Wrong → Type 0) (S : NodeRev → Result Met Wrong → Type 0) (v : NodeRev) → InDirectory kind depth R S (Ok (Stands v)) → kind ≡ Dir
in_directory File depth R S v on = absurd cc
in_directory Dir depth R S v on = refl

prefix_from : (look : RevisionBytes) (a v : NodeRev) (depth : ℕ) (q : Path) (x : PathName) (rest : Path) → MetFrom look a depth (q ++ x ∷ rest) (Ok (Stands v)) → (w : NodeRev) × MetFrom look a depth q (Ok (Stands w)) × (w.kind ≡ Dir)
prefix_from look a v depth [] x rest at = (a, refl, in_directory a.kind depth (ChildOf look a x) (λ w. MetFrom look w (suc depth) rest) v at)
prefix_from look a v depth (name ∷ q) x rest at =
    prefix_in a.kind depth (ChildOf look a name) (λ w. MetFrom look w (suc depth) (q ++ x ∷ rest)) (λ w. MetFrom look w (suc depth) q) v at (λ u on. prefix_from look u v (suc depth) q x rest on)

-- ---- revisions fall

pub before_le : (at : RevOffset) (p : Place) → place_before at p ≡ true → (offset_of p).rev ≤ at.rev
before_le at (places.At rev offset) h = grind (arith, nat_tests)
before_le at (places.In txn) h = absurd cc

-- the parts of the order
pub record Parts (at : RevOffset) (v : NodeRev) : Type 0 where
  pub pred : pred_before at v.predecessor ≡ true
  pub text : rep_before at v.text ≡ true
  pub props : rep_before at v.props ≡ true
  pub root : root_not_after at v.copy_root ≡ true

parts_of : (at : RevOffset) (v : NodeRev) → is_ordered at v ≡ true → Parts at v
parts_of at v h =
    let a = and_parts (pred_before at v.predecessor && rep_before at v.text && rep_before at v.props && source_before at v.copy_from) (root_not_after at v.copy_root) h in
    let b = and_parts (pred_before at v.predecessor && rep_before at v.text && rep_before at v.props) (source_before at v.copy_from) a.0 in
    let c = and_parts (pred_before at v.predecessor && rep_before at v.text) (rep_before at v.props) b.0 in
    let d = and_parts (pred_before at v.predecessor) (rep_before at v.text) c.0 in
    record { pred = d.0; text = d.1; props = c.1; root = a.1 }

-- a node-revision that was read at the place of its id
abbrev pub IsHome : NodeRev → Type 0
IsHome v = Parts (offset_of v.id.place) v

pub of_id_home : (look : RevisionBytes) (id : NodeId) (u : NodeRev) → OfId look id (Ok u) → IsHome u × (own_rev u ≡ (offset_of id.place).rev)
of_id_home look id u w =
    let same : u ≡ w.0 = w.2.0 in
    let id_is : u.id ≡ id = (λ i. (same i).id) ∙ w.2.1 in
    let ordered : is_ordered (offset_of id.place) u ≡ true = subst (λ (x : NodeRev). is_ordered (offset_of id.place) x ≡ true) (sym same) w.1.2.1 in
    (parts_of (offset_of u.id.place) u (subst (λ (i : NodeId). is_ordered (offset_of i.place) u ≡ true) (sym id_is) ordered), (λ i. (offset_of (id_is i).place).rev))

pub own_place : (at : RevOffset) (p : Place) → is_own_place at p ≡ true → offset_of p ≡ at
own_place at (places.At rev offset) h =
    let both = and_parts (rev == at.rev) (offset == at.offset) h in
    let e : rev ≡ at.rev = grind (arith, nat_tests, both.0) in
    let f : offset ≡ at.offset = grind (arith, nat_tests, both.1) in
    λ i. record { rev = e i; offset = f i }
own_place at (places.In txn) h = absurd cc

is_dir : (kind : Kind) → is_directory kind ≡ true → kind ≡ Dir
is_dir File h = absurd cc
is_dir Dir h = refl

pub root_home : (look : RevisionBytes) (rev : ℕ) (v : NodeRev) → RootOf look rev (Ok v) → IsHome v × (own_rev v ≡ rev) × (v.kind ≡ Dir)
root_home look rev v w =
    let at = place_of rev w.2.0.root in
    let n = w.2.2.0 in
    let both = and_parts (is_own_place at n.id.place) (is_directory n.kind) w.2.2.2.1 in
    let here = own_place at n.id.place both.0 in
    let h : IsHome n × (own_rev n ≡ rev) × (n.kind ≡ Dir) =
    (parts_of (offset_of n.id.place) n (subst (λ (x : RevOffset). is_ordered x n ≡ true) (sym here) w.2.2.1.1), ap (λ (x : RevOffset). x.rev) here, is_dir n.kind both.1) in
    subst (λ (x : NodeRev). IsHome x × (own_rev x ≡ rev) × (x.kind ≡ Dir)) (sym w.2.2.2.0) h

named_before : (home : RevOffset) (name : PathName) (pairs : Pairs) (entries : List DirEntry) (e : DirEntry) → AreEntries home pairs entries → named name entries ≡ Some e → place_before home e.id.place ≡ true
named_before home name [] [] e w is = absurd cc
named_before home name [] (f ∷ entries) e w is = absurd w
named_before home name (p ∷ pairs) [] e w is = absurd w
named_before home name (p ∷ pairs) (f ∷ entries) e w is = first_or home e f (same_name f.name name) (named name entries) w.0.before (λ got. named_before home name pairs entries e w.1 got) is
  where
    first_or : (home : RevOffset) (e f : DirEntry) (b : Bool) (rest : Option DirEntry) → place_before home f.id.place ≡ true → (rest ≡ Some e → place_before home e.id.place ≡ true) → cond b (Some f) rest ≡ Some e → place_before home e.id.place ≡ true
    first_or home e f true rest here later got = let same : f ≡ e = cc in subst (λ (x : DirEntry). place_before home x.id.place ≡ true) same here
    first_or home e f false rest here later got = later got

module _ (look : RevisionBytes) where
  pub entry_before : (a : NodeRev) (name : PathName) (o : Option Contents) (entries : List DirEntry) (e : DirEntry) → OfContents [] (EntriesAt look (offset_of a.id.place)) o (Ok entries) → named name entries ≡ Some e → place_before (offset_of a.id.place) e.id.place ≡ true
  entry_before a name None entries e w is =
      let none : entries ≡ [] = ok_same entries [] w in
      let f = ap (λ (es : List DirEntry). named name es) none in
      let g = sym is ∙ f in
      absurd cc
  entry_before a name (Some contents.Own) entries e w is = absurd w
  entry_before a name (Some (contents.At rep)) entries e w is = named_before (offset_of a.id.place) name w.0 entries e w.2 is

  named_home : (a u : NodeRev) (name : PathName) (entries : List DirEntry) (o : Option DirEntry) → EntriesOf look a (Ok entries) → named name entries ≡ o → OfNamed look o (Ok (Some u)) → IsHome u × (own_rev u ≤ own_rev a)
  named_home a u name entries None w is of = absurd cc
  named_home a u name entries (Some e) w is of =
      let x = of_id_home look e.id of.0 of.1 in
      let le = before_le (offset_of a.id.place) e.id.place (entry_before a name a.text entries e w is) in
      let h : IsHome of.0 × (own_rev of.0 ≤ own_rev a) = (x.0, subst (λ (n : ℕ). n ≤ own_rev a) (sym x.1) le) in
      subst (λ (y : NodeRev). IsHome y × (own_rev y ≤ own_rev a)) (sym of.2.0) h

  pub child_home : (a u : NodeRev) (name : PathName) → ChildOf look a name (Ok (Some u)) → IsHome u × (own_rev u ≤ own_rev a)
  child_home a u name w = named_home a u name w.0 (named name w.0) w.1 refl w.2

  home_in : (kind : Kind) (depth : ℕ) (R : Result (Option NodeRev) Wrong → Type 0) (S : NodeRev → Result Met Wrong → Type 0) (C : Type 0) (v : NodeRev) → InDirectory kind depth R S (Ok (Stands v)) → ((u : NodeRev) → R (Ok (Some u)) → S u (Ok (Stands v)) → C) → C
  home_in File depth R S C v on f = absurd cc
  home_in Dir depth R S C v on f = by on.0 on.1 on.2
    where
      by : (o : Option NodeRev) → R (Ok o) → OrLacking (suc depth) S o (Ok (Stands v)) → C
      by None child further = absurd cc
      by (Some u) child further = f u child further

  pub walk_home : (a v : NodeRev) (depth : ℕ) (p : Path) → IsHome a → MetFrom look a depth p (Ok (Stands v)) → IsHome v × (own_rev v ≤ own_rev a)
  walk_home a v depth [] home at =
      let same : a ≡ v = cc in
      subst (λ (x : NodeRev). IsHome x × (own_rev x ≤ own_rev a)) same (home, omega arith)
  walk_home a v depth (name ∷ p) home at =
      home_in a.kind depth (ChildOf look a name) (λ w. MetFrom look w (suc depth) p) (IsHome v × (own_rev v ≤ own_rev a)) v at
      (λ u child on. let c = child_home a u name child in let w = walk_home u v (suc depth) p c.0 on in (w.0, omega (arith, w.1, c.1)))

  pub stands_home : (rev : ℕ) (p : Path) (v : NodeRev) → StandsAt look rev p v → IsHome v × (own_rev v ≤ rev)
  stands_home rev p v at =
      let root = root_home look rev at.0 at.1 in
      let w = walk_home at.0 v 0 p root.0 at.2 in
      (w.0, subst (λ (n : ℕ). own_rev v ≤ n) root.1 w.1)

  pub chain_le : (v : NodeRev) (end : Result ℕ Wrong) (first : ℕ) → Chain look v end → end ≡ Ok first → IsHome v → first ≤ own_rev v
  chain_le _ _ first (First v e) is home = let h = ok_same (own_rev v) first is in omega arith
  chain_le _ _ first (Breaks v id w e o) is home = absurd cc
  chain_le _ _ first (Goes v u id end e o c) is home =
      let h = of_id_home look id u o in
      let before = before_le (offset_of v.id.place) id.place (subst (λ (x : Option NodeId). pred_before (offset_of v.id.place) x ≡ true) e home.pred) in
      let le = chain_le u end first c is h.0 in
      omega (arith, before, le, h.1)

pub rep_le : (at : RevOffset) (o : Option ℕ) (offset : ℕ) → rep_place_before at o offset ≡ true → unwrap_or o 0 ≤ at.rev
rep_le at None offset h = absurd cc
rep_le at (Some rev) offset h = before_le at (places.At rev offset) h

pub props_le : (at : RevOffset) (o : Option Contents) → rep_before at o ≡ true → contents_rev o ≤ at.rev
props_le at None h = omega arith
props_le at (Some contents.Own) h = absurd cc
props_le at (Some (contents.At rep)) h = rep_le at rep.rev rep.offset h

not_after : (at : RevOffset) (o : Option ℕ) → rev_not_after at o ≡ true → unwrap_or o 0 ≤ at.rev
not_after at None h = absurd cc
not_after at (Some rev) h = grind (arith, nat_tests)

pub root_le : (v : NodeRev) (o : Option CopyRoot) → root_not_after (offset_of v.id.place) o ≡ true → (root_or_own v o).0 ≤ own_rev v
root_le v None h = omega arith
root_le v (Some root) h = not_after (offset_of v.id.place) root.rev h

numbers : (a pc lc first copied props own r : ℕ) → a ≡ max first copied → pc ≡ max a props → lc ≡ max copied own → first ≤ own → props ≤ own → own ≤ r → copied ≤ r → (a ≤ pc) × (pc ≤ lc) × (lc ≤ r)
numbers a pc lc first copied props own r e f g h i j k = (omega arith, omega arith, omega arith)

module _ (look : RevisionBytes) (rev : ℕ) (tree : TreeFunction) (shows : Shows look rev tree) where
  node_of : (o : Option Node) (p : Path) (v : NodeRev) (n : Node) → IsSomeAnd o (IsShown look rev p v) → o ≡ Some n → IsShown look rev p v n
  node_of None p v n h is = absurd h
  node_of (Some m) p v n h is = let same : m ≡ n = cc in subst (λ (x : Node). IsShown look rev p v x) same h

  pub shown_at : (p : Path) (n : Node) → tree p ≡ Some n → (v : NodeRev) × StandsAt look rev p v × IsShown look rev p v n
  shown_at p n is = let w = shows.each p in by w.0 w.1 w.2
    where
      by : (m : Met) → MetAt look rev p (Ok m) → IsShownAs look rev p m (tree p) → (v : NodeRev) × StandsAt look rev p v × IsShown look rev p v n
      by (Stands v) at h = (v, at, node_of (tree p) p v n h is)
      by (Lacking k) at h = absurd (let e = sym is ∙ h in cc)
      by (Blocked k) at h = absurd (let e = sym is ∙ h in cc)

  pub there : (p : Path) (v : NodeRev) → StandsAt look rev p v → (n : Node) × (tree p ≡ Some n) × (n.kind ≡ v.kind)
  there p v at = let w = shows.each p in by (tree p) refl (subst (λ (m : Met). IsShownAs look rev p m (tree p)) (met_same look rev p w.0 (Stands v) w.1 at) w.2)
    where
      by : (o : Option Node) → tree p ≡ o → IsSomeAnd o (IsShown look rev p v) → (n : Node) × (tree p ≡ Some n) × (n.kind ≡ v.kind)
      by None is h = absurd h
      by (Some n) is h = (n, is, h.kind)

  some_of : (o : Option Node) → is_some o ≡ true → (n : Node) × (o ≡ Some n)
  some_of None e = absurd cc
  some_of (Some n) e = (n, refl)

  root_there : (n : Node) × (tree [] ≡ Some n) × (n.kind ≡ Dir)
  root_there =
      let w = shows.each [] in
      let root = root_home look rev w.1.0 w.1.1 in
      let t = there [] w.1.0 (w.1.0, w.1.1, refl) in
      (t.0, t.1, t.2 ∙ root.2)

  above_there : (q p : Path) → is_above q p ≡ true → is_some (tree p) ≡ true → (n : Node) × (tree q ≡ Some n) × (n.kind ≡ Dir)
  above_there q p above some =
      let parts = and_parts (covers q p) (not (covers p q)) above in
      let under = below q p parts.0 (not-true (covers p q) parts.1) in
      let n = some_of (tree p) some in
      let s = shown_at p n.0 n.1 in
      let at : StandsAt look rev (q ++ under.0 ∷ under.1) s.0 = subst (λ (x : Path). StandsAt look rev x s.0) under.2 s.1 in
      let w = prefix_from look at.0 s.0 0 q under.0 under.1 at.2 in
      let t = there q w.0 (at.0, at.1, w.1) in
      (t.0, t.1, t.2 ∙ w.2)

  node_numbers : (p : Path) (n : Node) → tree p ≡ Some n → (n.added ≤ n.props_changed) × (n.props_changed ≤ n.last_changed) × (n.last_changed ≤ rev)
  node_numbers p n is =
      let s = shown_at p n is in
      let v = s.0 in
      let w = s.2 in
      let home = stands_home look rev p v s.1 in
      let c = w.copied_is.some in
      let q = stands_home look rev (take c.0 p) c.1 c.3 in
      let copied : w.copied ≤ rev = omega (arith, c.4, root_le c.1 c.1.copy_root q.0.root, q.1) in
      numbers n.added n.props_changed n.last_changed w.first w.copied (contents_rev v.props) (own_rev v) rev w.added w.props_changed w.last_changed
      (chain_le look v (Ok w.first) w.first w.chain refl home.0) (props_le (offset_of v.id.place) v.props home.0.props) home.1 copied

  pub sound : IsSound rev tree
  sound = record {
    is_tree = record { root = root_there; above = above_there };
    ordered = λ p n is. let w = node_numbers p n is in record { added = w.0; props_changed = w.1 };
    at_most = λ p n is. (node_numbers p n is).2;
  }
