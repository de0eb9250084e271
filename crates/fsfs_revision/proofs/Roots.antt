-- The latest copy root on the way to a path, and what stands there.
use Rattle.std.proofs.Common.{◌≡◌, ◌≢◌, ◌≤◌, ◌<◌, ◌⊎◌, ℕ, zero, suc, Bool, true, false, nat_lt, [], ◌∷◌, ◌++◌, length, take, refl, sym, ap, subst, ◌∙◌, append-nil, append_assoc, inl, inr, arith}
use Rattle.std.proofs.Math.Seq.{take-nil, take-length}
use Rattle.std.proofs.lemmas.List.{length-append, take-append-le}
use Rattle.std.proofs.lemmas.Bool.Decides.{nat_tests}
use Rattle.std.specs.Prelude.{Result, Ok, Option, Some, None, if◌then◌else◌}
use Rattle.fsfs_base.specs.Paths.{PathName, Path}
use Rattle.fsfs_base.specs.declared.kind.Kind.{Kind}
use Rattle.fsfs_base.specs.declared.kind.Kind.TheVariants.{File, Dir}
use Rattle.fsfs_revision.specs.Told.{RevisionBytes}
use Rattle.fsfs_noderev.specs.declared.node_rev.NodeRev.{NodeRev}
use Rattle.fsfs_revision.specs.declared.wrong.Wrong.{Wrong}
use Rattle.fsfs_revision.specs.Shows.Reading.{ChildOf, Met, Stands, OrLacking, InDirectory, MetFrom, StandsAt}
use Rattle.fsfs_revision.specs.Shows.Chains.{copy_root_of, IsCopiedIn}
use Rattle.fsfs_revision.specs.Shows.Shown.{Nearest}
use Rattle.fsfs_revision.proofs.OneWalk.{stands_same}
use Rattle.fsfs_revision.proofs.OneTree.{copied_same, near_same}
use Rattle.fsfs_revision.proofs.Walks.{in_dir, child_stands}
use Rattle.fsfs_revision.specs.Ancestry.CopyRoots.{later_root, IsRootedFrom, IsRootedAt}

-- ---- numbers

pub is_less : (a b : ℕ) → nat_lt a b ≡ true → a < b
is_less a b e = grind (arith, nat_tests)

pub is_not_less : (a b : ℕ) → nat_lt a b ≡ false → b ≤ a
is_not_less a b e = grind (arith, nat_tests)

pub one_more : (k n : ℕ) → k ≤ suc n → (k ≤ n) ⊎ (k ≡ suc n)
one_more zero n le = inl (omega arith)
one_more (suc k) zero le = inr (omega (arith, le))
one_more (suc k) (suc n) le = by (one_more k n (omega (arith, le)))
  where
    by : (k ≤ n) ⊎ (k ≡ suc n) → (suc k ≤ suc n) ⊎ (suc k ≡ suc (suc n))
    by (inl h) = inl (omega (arith, h))
    by (inr e) = inr (omega (arith, e))

-- ---- paths

pub length_push : (f : Path) (name : PathName) → length (f ++ name ∷ []) ≡ suc (length f)
length_push f name = omega (arith, length-append f (name ∷ []))

-- ---- what stands at a path has a latest copy root

module _ (look : RevisionBytes) where
  pub rooted_met : (a : NodeRev) (root : ℕ × Path) (depth : ℕ) (p : Path) (v : NodeRev) (last : ℕ × Path) → IsRootedFrom look a root p v last → MetFrom look a depth p (Ok (Stands v))
  rooted_met a root depth [] v last g = ap (λ (x : NodeRev). let r : Result Met Wrong = Ok (Stands x) in r) g.0
  rooted_met a root depth (name ∷ names) v last g =
      in_dir a.kind depth (ChildOf look a name) (λ w. MetFrom look w (suc depth) names) (Ok (Stands v)) g.0
      (Some g.1, g.2, rooted_met g.1 (later_root root (copy_root_of g.1)) (suc depth) names v last g.3)

  pub rooted_stands : (r : ℕ) (p : Path) (v : NodeRev) (last : ℕ × Path) → IsRootedAt look r p v last → StandsAt look r p v
  rooted_stands r p v last g = (g.0, g.1, rooted_met g.0 (copy_root_of g.0) 0 p v last g.2)

  abbrev RootedDown : NodeRev → ℕ × Path → Path → NodeRev → Type 0
  RootedDown a root p v = (last : ℕ × Path) × IsRootedFrom look a root p v last

  rooted_by_child : (a : NodeRev) (root : ℕ × Path) (depth : ℕ) (name : PathName) (names : Path) (v : NodeRev) → ((u : NodeRev) → MetFrom look u (suc depth) names (Ok (Stands v)) → RootedDown u (later_root root (copy_root_of u)) names v)
      → a.kind ≡ Dir → (o : Option NodeRev) → ChildOf look a name (Ok o) → OrLacking (suc depth) (λ w. MetFrom look w (suc depth) names) o (Ok (Stands v)) → RootedDown a root (name ∷ names) v
  rooted_by_child a root depth name names v further dir None child on = absurd cc
  rooted_by_child a root depth name names v further dir (Some u) child on = let more = further u on in (more.0, (dir, u, child, more.1))

  rooted_by_kind : (a : NodeRev) (root : ℕ × Path) (depth : ℕ) (name : PathName) (names : Path) (v : NodeRev) → ((u : NodeRev) → MetFrom look u (suc depth) names (Ok (Stands v)) → RootedDown u (later_root root (copy_root_of u)) names v)
      → (k : Kind) → a.kind ≡ k → InDirectory k depth (ChildOf look a name) (λ w. MetFrom look w (suc depth) names) (Ok (Stands v)) → RootedDown a root (name ∷ names) v
  rooted_by_kind a root depth name names v further File is h = absurd cc
  rooted_by_kind a root depth name names v further Dir is h = rooted_by_child a root depth name names v further is h.0 h.1 h.2

  met_rooted : (a : NodeRev) (root : ℕ × Path) (depth : ℕ) (p : Path) (v : NodeRev) → MetFrom look a depth p (Ok (Stands v)) → RootedDown a root p v
  met_rooted a root depth [] v at = (root, ((let e : v ≡ a = cc in e), refl))
  met_rooted a root depth (name ∷ names) v at =
      rooted_by_kind a root depth name names v (λ u further. met_rooted u (later_root root (copy_root_of u)) (suc depth) names v further) a.kind refl at

  pub stands_rooted : (r : ℕ) (p : Path) (v : NodeRev) → StandsAt look r p v → (last : ℕ × Path) × IsRootedAt look r p v last
  stands_rooted r p v at = let more = met_rooted at.0 (copy_root_of at.0) 0 p v at.2 in (more.0, (at.0, at.1, more.1))

  -- one name further down
  rooted_below : (a : NodeRev) (root : ℕ × Path) (p : Path) (v u : NodeRev) (last : ℕ × Path) (name : PathName) → IsRootedFrom look a root p v last → v.kind ≡ Dir → ChildOf look v name (Ok (Some u))
      → IsRootedFrom look a root (p ++ name ∷ []) u (later_root last (copy_root_of u))
  rooted_below a root [] v u last name g dir child =
      (subst (λ (x : NodeRev). x.kind ≡ Dir) g.0 dir, u, subst (λ (x : NodeRev). ChildOf look x name (Ok (Some u))) g.0 child, (refl, ap (λ (x : ℕ × Path). later_root x (copy_root_of u)) g.1))
  rooted_below a root (n ∷ names) v u last name g dir child = (g.0, g.1, g.2, rooted_below g.1 (later_root root (copy_root_of g.1)) names v u last name g.3 dir child)

  pub rooted_child : (r : ℕ) (p : Path) (v u : NodeRev) (last : ℕ × Path) (name : PathName) → IsRootedAt look r p v last → v.kind ≡ Dir → ChildOf look v name (Ok (Some u))
      → IsRootedAt look r (p ++ name ∷ []) u (later_root last (copy_root_of u))
  rooted_child r p v u last name g dir child = (g.0, g.1, rooted_below g.0 (copy_root_of g.0) p v u last name g.2 dir child)

-- ---- later roots

pub later_by : (P : ℕ × Path → Type 0) (a c : ℕ × Path) → (c.0 < a.0 → P a) → (a.0 ≤ c.0 → P c) → P (later_root a c)
later_by P a c f g = by (nat_lt c.0 a.0) refl
  where
    by : (b : Bool) → nat_lt c.0 a.0 ≡ b → P (if b then a else c)
    by true e = f (is_less c.0 a.0 e)
    by false e = g (is_not_less c.0 a.0 e)

pub later_up : (a c : ℕ × Path) → a.0 ≤ (later_root a c).0
later_up a c = later_by (λ (x : ℕ × Path). a.0 ≤ x.0) a c (λ h. omega arith) (λ h. h)

pub later_up_here : (a c : ℕ × Path) → c.0 ≤ (later_root a c).0
later_up_here a c = later_by (λ (x : ℕ × Path). c.0 ≤ x.0) a c (λ h. omega (arith, h)) (λ h. omega arith)

-- a root is counted in another: it is no later, and the same where it is of the same revision
pub record IsCounted (c last : ℕ × Path) : Type 0 where
  pub most : c.0 ≤ last.0
  pub same : c.0 ≡ last.0 → c ≡ last

pub self_counted : (c : ℕ × Path) → IsCounted c c
self_counted c = record { most = omega arith; same = λ e. refl }

pub later_counted : (a c : ℕ × Path) → IsCounted c (later_root a c)
later_counted a c = later_by (λ (x : ℕ × Path). IsCounted c x) a c (λ h. record { most = omega (arith, h); same = λ e. absurd (omega (arith, h, e)) }) (λ h. self_counted c)

-- what is counted changes nothing
pub later_of_counted : (a c : ℕ × Path) → IsCounted c a → later_root a c ≡ a
later_of_counted a c h = later_by (λ (x : ℕ × Path). x ≡ a) a c (λ l. refl) (λ g. h.same (omega (arith, g, h.most)))

pub later_of_older : (a c : ℕ × Path) → c.0 < a.0 → later_root a c ≡ a
later_of_older a c h = later_by (λ (x : ℕ × Path). x ≡ a) a c (λ l. refl) (λ g. absurd (omega (arith, g, h)))

module _ (look : RevisionBytes) where
  pub rooted_up : (a : NodeRev) (root : ℕ × Path) (p : Path) (v : NodeRev) (last : ℕ × Path) → IsRootedFrom look a root p v last → root.0 ≤ last.0
  rooted_up a root [] v last g = subst (λ (x : ℕ × Path). root.0 ≤ x.0) (sym g.1) (omega arith)
  rooted_up a root (name ∷ names) v last g =
      let up = rooted_up g.1 (later_root root (copy_root_of g.1)) names v last g.3 in
      let one = later_up root (copy_root_of g.1) in
      omega (arith, up, one)

-- ---- it is the greatest, and the nearest of those

pub record IsLatest (look : RevisionBytes) (r : ℕ) (p : Path) (last : ℕ × Path) : Type 0 where
  pub copied : IsCopiedIn look r p last.0
  pub near : Nearest look r p last.0
  pub root : copy_root_of near.node ≡ last

module _ (look : RevisionBytes) (r : ℕ) where
  latest_root : (a : NodeRev) → StandsAt look r [] a → IsLatest look r [] (copy_root_of a)
  latest_root a at = record {
    copied = record {
      at_most = λ k q le stands. let same = stands_same look r [] q a (subst (λ (p : Path). StandsAt look r p q) (take-nil k) stands) at in subst (λ (x : NodeRev). (copy_root_of x).0 ≤ (copy_root_of a).0) (sym same) (omega arith);
      some = (0, a, omega arith, at, refl);
    };
    near = record { depth = 0; within = omega arith; node = a; stands = at; root = refl; nearest = λ k q less le stands e. omega (arith, less, le) };
    root = refl;
  }

  module _ (f : Path) (name : PathName) (a u : NodeRev) (last : ℕ × Path) (at : StandsAt look r f a) (dir : a.kind ≡ Dir) (child : ChildOf look a name (Ok (Some u))) (latest : IsLatest look r f last) where
    p : Path
    p = f ++ name ∷ []

    there : StandsAt look r (f ++ name ∷ []) u
    there = child_stands look r a u f name at dir child

    long : length (f ++ name ∷ []) ≡ suc (length f)
    long = length_push f name

    down : (k : ℕ) (q : NodeRev) → k ≤ length f → StandsAt look r (take k (f ++ name ∷ [])) q → StandsAt look r (take k f) q
    down k q le stands = subst (λ (x : Path). StandsAt look r x q) (take-append-le k f (name ∷ []) le) stands

    up : (k : ℕ) (q : NodeRev) → k ≤ length f → StandsAt look r (take k f) q → StandsAt look r (take k (f ++ name ∷ [])) q
    up k q le stands = subst (λ (x : Path). StandsAt look r x q) (sym (take-append-le k f (name ∷ []) le)) stands

    whole : take (suc (length f)) (f ++ name ∷ []) ≡ f ++ name ∷ []
    whole = ap (λ (k : ℕ). take k (f ++ name ∷ [])) (sym long) ∙ take-length (f ++ name ∷ [])

    at_end : (k : ℕ) (q : NodeRev) → k ≡ suc (length f) → StandsAt look r (take k (f ++ name ∷ [])) q → q ≡ u
    at_end k q e stands = stands_same look r (f ++ name ∷ []) q u (subst (λ (x : Path). StandsAt look r x q) (ap (λ (n : ℕ). take n (f ++ name ∷ [])) e ∙ whole) stands) there

    end_there : StandsAt look r (take (suc (length f)) (f ++ name ∷ [])) u
    end_there = subst (λ (x : Path). StandsAt look r x u) (sym whole) there

    parts : (k : ℕ) → k ≤ length (f ++ name ∷ []) → (k ≤ length f) ⊎ (k ≡ suc (length f))
    parts k le = one_more k (length f) (subst (λ (n : ℕ). k ≤ n) long le)

    -- the child's is older
    older : (copy_root_of u).0 < last.0 → IsLatest look r (f ++ name ∷ []) last
    older less = record {
      copied = record {
        at_most = λ k q le stands. most k q stands (parts k le);
        some = (let s = latest.copied.some in (s.0, s.1, (let w : s.0 ≤ length f = s.2 in subst (λ (n : ℕ). s.0 ≤ n) (sym long) (omega (arith, w))), up s.0 s.1 s.2 s.3, s.4));
      };
      near = record {
        depth = n.depth;
        within = subst (λ (m : ℕ). n.depth ≤ m) (sym long) (omega (arith, n.within));
        node = n.node;
        stands = up n.depth n.node n.within n.stands;
        root = n.root;
        nearest = λ k q below le stands. apart k q below stands (parts k le);
      };
      root = latest.root;
    }
      where
        n : Nearest look r f last.0
        n = latest.near

        most : (k : ℕ) (q : NodeRev) → StandsAt look r (take k (f ++ name ∷ [])) q → (k ≤ length f) ⊎ (k ≡ suc (length f)) → (copy_root_of q).0 ≤ last.0
        most k q stands (inl le) = latest.copied.at_most k q le (down k q le stands)
        most k q stands (inr e) = subst (λ (x : NodeRev). (copy_root_of x).0 ≤ last.0) (sym (at_end k q e stands)) (omega (arith, less))

        apart : (k : ℕ) (q : NodeRev) → latest.near.depth < k → StandsAt look r (take k (f ++ name ∷ [])) q → (k ≤ length f) ⊎ (k ≡ suc (length f)) → (copy_root_of q).0 ≢ last.0
        apart k q below stands (inl le) = latest.near.nearest k q below le (down k q le stands)
        apart k q below stands (inr e) = subst (λ (x : NodeRev). (copy_root_of x).0 ≢ last.0) (sym (at_end k q e stands)) (λ same. omega (arith, less, same))

    -- the child's is as late
    newer : last.0 ≤ (copy_root_of u).0 → IsLatest look r (f ++ name ∷ []) (copy_root_of u)
    newer le = record {
      copied = record {
        at_most = λ k q within stands. most k q stands (parts k within);
        some = (suc (length f), u, subst (λ (n : ℕ). suc (length f) ≤ n) (sym long) (omega arith), end_there, refl);
      };
      near = record {
        depth = suc (length f);
        within = subst (λ (n : ℕ). suc (length f) ≤ n) (sym long) (omega arith);
        node = u;
        stands = end_there;
        root = refl;
        nearest = λ k q below within stands e. (let w : k ≤ suc (length f) = subst (λ (n : ℕ). k ≤ n) long within in omega (arith, below, w));
      };
      root = refl;
    }
      where
        most : (k : ℕ) (q : NodeRev) → StandsAt look r (take k (f ++ name ∷ [])) q → (k ≤ length f) ⊎ (k ≡ suc (length f)) → (copy_root_of q).0 ≤ (copy_root_of u).0
        most k q stands (inl inside) = let m = latest.copied.at_most k q inside (down k q inside stands) in omega (arith, m, le)
        most k q stands (inr e) = subst (λ (x : NodeRev). (copy_root_of x).0 ≤ (copy_root_of u).0) (sym (at_end k q e stands)) (omega arith)

    latest_child : IsLatest look r (f ++ name ∷ []) (later_root last (copy_root_of u))
    latest_child = later_by (λ (x : ℕ × Path). IsLatest look r (f ++ name ∷ []) x) last (copy_root_of u) older newer

  latest_from : (front rest : Path) (a v : NodeRev) (root last : ℕ × Path) → StandsAt look r front a → IsLatest look r front root → IsRootedFrom look a root rest v last → IsLatest look r (front ++ rest) last
  latest_from front [] a v root last at latest g = subst (λ (p : Path). IsLatest look r p last) (sym (append-nil front)) (subst (λ (x : ℕ × Path). IsLatest look r front x) (sym g.1) latest)
  latest_from front (name ∷ names) a v root last at latest g =
      subst (λ (p : Path). IsLatest look r p last) (append_assoc front (name ∷ []) names)
      (latest_from (front ++ name ∷ []) names g.1 v (later_root root (copy_root_of g.1)) last (child_stands look r a g.1 front name at g.0 g.2) (latest_child front name a g.1 root at g.0 g.2 latest) g.3)

  pub rooted_latest : (p : Path) (v : NodeRev) (last : ℕ × Path) → IsRootedAt look r p v last → IsLatest look r p last
  rooted_latest p v last g = latest_from [] p g.0 v (copy_root_of g.0) last (g.0, g.1, refl) (latest_root g.0 (g.0, g.1, refl)) g.2

  near_at : (a b : ℕ) (p : Path) → a ≡ b → (m : Nearest look r p a) (n : Nearest look r p b) → m.node ≡ n.node
  near_at a b p e m = subst (λ (x : ℕ). (n : Nearest look r p x) → m.node ≡ n.node) e (λ n. near_same look r p a m n)

  -- there is one
  pub rooted_one : (p : Path) (v w : NodeRev) (a b : ℕ × Path) → IsRootedAt look r p v a → IsRootedAt look r p w b → a ≡ b
  rooted_one p v w a b g h =
      let m = rooted_latest p v a g in
      let n = rooted_latest p w b h in
      let same = near_at a.0 b.0 p (copied_same look r p a.0 b.0 m.copied n.copied) m.near n.near in
      sym m.root ∙ ap (λ (x : NodeRev). copy_root_of x) same ∙ n.root

-- ---- what stands below what stands at a path

pub rooted_split : (look : RevisionBytes) (a : NodeRev) (root : ℕ × Path) (front rest : Path) (v : NodeRev) (last : ℕ × Path) → IsRootedFrom look a root (front ++ rest) v last
    → (m : NodeRev) × (mid : ℕ × Path) × IsRootedFrom look a root front m mid × IsRootedFrom look m mid rest v last
rooted_split look a root [] rest v last g = (a, root, (refl, refl), g)
rooted_split look a root (name ∷ names) rest v last g =
    let more = rooted_split look g.1 (later_root root (copy_root_of g.1)) names rest v last g.3 in
    (more.0, more.1, (g.0, g.1, g.2, more.2), more.3)
