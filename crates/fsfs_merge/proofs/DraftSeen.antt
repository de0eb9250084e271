-- What the walk sees of a draft, path by path.
use Rattle.std.proofs.Common.{◌≡◌, ◌∙◌, ◌≤◌, ℕ, Bool, true, false, ◌&&◌, List, [], ◌∷◌, ◌++◌, Option, Some, None, Ok, Err, refl, sym, ap, subst, inl, inr}
use Rattle.std.specs.Prelude.{option_map, Result}
use Rattle.fsfs_base.specs.Paths.{PathName, Path}
use Rattle.fsfs_tree.specs.Nodes.{TreeFunction}
use Rattle.fsfs_revision.specs.declared.wrong.Wrong.{Wrong}
use Rattle.fsfs_revision.proofs.OneAnswer.{ok_same, ok_no_err}
use Rattle.fsfs_revision.specs.Told.{RevisionBytes}
use Rattle.fsfs_noderev.specs.declared.node_id.NodeId.{NodeId}
use Rattle.fsfs_noderev.specs.declared.node_rev.NodeRev.{NodeRev}
use Rattle.fsfs_revision.specs.Shows.Reading.{DirEntry, OfId, offset_of, StandsAt}
use Rattle.fsfs_revision.proofs.OneWalk.{of_id_one}
use Rattle.fsfs_draft.specs.Drafts.{Folder}
use Rattle.fsfs_draft.specs.OwnSides.{NodesAt}
use Rattle.fsfs_draft.proofs.Hanging.{Hangs}
use Rattle.fsfs_merge.specs.declared.clash.facts.Facts.{Facts}
use Rattle.fsfs_merge.specs.declared.clash.turn.Dirs.{Dirs}
use Rattle.fsfs_merge.specs.declared.clash.turn.Halt.{Halt}
use Rattle.fsfs_merge.specs.declared.clash.turn.Halt.TheVariants as halts
use Rattle.fsfs_merge.specs.Clash.Dirs.{dirs_in}
use Rattle.fsfs_merge.specs.declared.clash.merged.Link.{Link}
use Rattle.fsfs_merge.specs.Clash.Lists.{Lists, target_named, three_named, link_of}
use Rattle.fsfs_merge.specs.Clash.Points.{Point, IsReadAs, IsSeen}
use Rattle.fsfs_merge.specs.Clash.Readings.{NodeOf, FactsOf, ListOf, ListsOf, IfMerged, TurnAt, LookAt, IsIn, AreDirsIn}
use Rattle.fsfs_merge.specs.Clash.Sights.{facts_of, merge_with, go_on_in, same_props_in}
use Rattle.fsfs_merge.specs.Clash.Threes.{three_of, node_target}
use Rattle.fsfs_merge.proofs.DirLemmas.{AreDirs, are_dirs, no_dirs}
use Rattle.fsfs_merge.proofs.SideSeen.{names_of, IsOwnRead}

abbrev pub halt_of : Bool → Option Halt
halt_of true = None
halt_of false = Some halts.Clash

abbrev pub link_in : Option NodeRev → Option NodeRev → Option Link
link_in None v = None
link_in (Some y) None = None
link_in (Some y) (Some v) = Some (link_of y v.id)

abbrev pub see_of : ℕ → NodesAt → NodesAt → NodesAt → Path → Point
see_of n x y v p = record { three = three_of (x p) (y p) (v p); halt = halt_of (go_on_in n (x p) (y p) (v p) && same_props_in (x p) (y p) (v p)); link = link_in (y p) (v p) }

-- ---- what is read, in order

not_merged : (b : Bool) (R : Result Lists Wrong → Type 0) → IfMerged b R (Ok None) → b ≡ false
not_merged false R h = refl
not_merged true R h = absurd h

are_merged : (b : Bool) (R : Result Lists Wrong → Type 0) (l : Lists) → IfMerged b R (Ok (Some l)) → (b ≡ true) × R (Ok l)
are_merged false R l h = absurd cc
are_merged true R l h = (refl, h)

merged_wrong : (b : Bool) (R : Result Lists Wrong → Type 0) (w : Wrong) → IfMerged b R (Err w) → (R (Err w) → ⊥) → ⊥
merged_wrong false R w h never = cc
merged_wrong true R w h never = never h

facts_same : (look : RevisionBytes) (f : Folder) (id : NodeId) (v : NodeRev) (own : Facts) → ((a b : Result NodeRev Wrong) → NodeOf look f id a → NodeOf look f id b → a ≡ b) → NodeOf look f id (Ok v) → FactsOf look f id (Ok own) → own ≡ facts_of v
facts_same look f id v own one here h = h.2 ∙ ap facts_of (ok_same h.0 v (one (Ok h.0) (Ok v) h.1 here))

module _ (look : RevisionBytes) (top : ℕ) (f : Folder) (n h : ℕ) (trees : ℕ → TreeFunction) (x y v : NodesAt)
    (hangs_x : Hangs look top (StandsAt look n) x (trees n)) (hangs_y : Hangs look top (StandsAt look h) y (trees h)) (own : (p : Path) (u : NodeRev) → v p ≡ Some u → IsOwnRead look top f v p u)
    (one : (id : NodeId) (a b : Result NodeRev Wrong) → NodeOf look f id a → NodeOf look f id b → a ≡ b) where
  abbrev see : Path → Point
  see = see_of n x y v

  -- three directories at a path
  module _ (p : Path) (d : Dirs) (is : AreDirs (x p) (y p) (v p) d) where
    stands_x : StandsAt look n p is.base
    stands_x = (hangs_x.are p is.base).0 is.base_is

    stands_y : StandsAt look h p is.head
    stands_y = (hangs_y.are p is.head).0 is.head_is

    own_read : IsOwnRead look top f v p is.own
    own_read = own p is.own is.own_is

    of_x : OfId look d.base (Ok is.base)
    of_x = subst (λ (id : NodeId). OfId look id (Ok is.base)) (sym is.base_id) (hangs_x.agrees.read p is.base stands_x)

    of_y : OfId look d.head (Ok is.head)
    of_y = subst (λ (id : NodeId). OfId look id (Ok is.head)) (sym is.head_id) (hangs_y.agrees.read p is.head stands_y)

    of_v : NodeOf look f d.own (Ok is.own)
    of_v = subst (λ (id : NodeId). NodeOf look f id (Ok is.own)) (sym is.own_id) own_read.node

    merges : (go_on_in n (x p) (y p) (v p) && same_props_in (x p) (y p) (v p)) ≡ merge_with n is.base is.head (facts_of is.own)
    merges = λ i. go_on_in n (is.base_is i) (is.head_is i) (is.own_is i) && same_props_in (is.base_is i) (is.head_is i) (is.own_is i)

    same_x : (a : NodeRev) → OfId look d.base (Ok a) → a ≡ is.base
    same_x a g = ok_same a is.base (of_id_one look d.base (Ok a) (Ok is.base) g of_x)

    same_y : (c : NodeRev) → OfId look d.head (Ok c) → c ≡ is.head
    same_y c g = ok_same c is.head (of_id_one look d.head (Ok c) (Ok is.head) g of_y)

    same_v : (o : Facts) → FactsOf look f d.own (Ok o) → o ≡ facts_of is.own
    same_v o g = facts_same look f d.own is.own o (one d.own) of_v g

    names_v : (entries : List DirEntry) → ListOf look f d.own (Ok entries) → (name : PathName) → target_named entries name ≡ option_map node_target (v (p ++ name ∷ []))
    names_v entries of = own_read.names is.own_dir entries (subst (λ (id : NodeId). ListOf look f id (Ok entries)) is.own_id of)

    -- whatever is read of their entries
    lists_named : (l : Lists) → ListsOf look f is.base is.head d.own (Ok l) → (name : PathName) → (see (p ++ name ∷ [])).three ≡ three_named l name
    lists_named l (a, of_a, (b, of_b, (c, of_c, e))) name =
        let l_is : l ≡ record { link = link_of is.head d.own; base = a; head = b; own = c } = ok_same l (record { link = link_of is.head d.own; base = a; head = b; own = c }) e in
        let nx = names_of look top (StandsAt look n) x (trees n) hangs_x p is.base a stands_x is.base_dir of_a name in
        let ny = names_of look top (StandsAt look h) y (trees h) hangs_y p is.head b stands_y is.head_dir of_b name in
        let nv = names_v c of_c name in
        (λ i. record { base = sym nx i; head = sym ny i; own = sym nv i }) ∙ ap (λ (z : Lists). three_named z name) (sym l_is)

    -- and what the merged one goes on from
    lists_link : (l : Lists) → ListsOf look f is.base is.head d.own (Ok l) → (see p).link ≡ Some l.link
    lists_link l (a, of_a, (b, of_b, (c, of_c, e))) =
        let l_is : l ≡ record { link = link_of is.head d.own; base = a; head = b; own = c } = ok_same l (record { link = link_of is.head d.own; base = a; head = b; own = c }) e in
        (λ i. link_in (is.head_is i) (is.own_is i)) ∙ ap (λ (id : NodeId). Some (link_of is.head id)) (sym is.own_id) ∙ ap (λ (z : Lists). Some z.link) (sym l_is)

    lists_never : (w : Wrong) → ListsOf look f is.base is.head d.own (Err w) → ⊥
    lists_never w (inl e) = hangs_x.agrees.never p is.base w stands_x is.base_dir e
    lists_never w (inr (a, of_a, inl e)) = hangs_y.agrees.never p is.head w stands_y is.head_dir e
    lists_never w (inr (a, of_a, inr (b, of_b, inl e))) = own_read.never is.own_dir w (subst (λ (id : NodeId). ListOf look f id (Err w)) is.own_id e)
    lists_never w (inr (a, of_a, inr (b, of_b, inr (c, of_c, e)))) = absurd cc

    -- the test, of the node-revisions that were read
    merge_same : (a c : NodeRev) (o : Facts) → a ≡ is.base → c ≡ is.head → o ≡ facts_of is.own → merge_with n a c o ≡ merge_with n is.base is.head (facts_of is.own)
    merge_same a c o ea ec eo = λ i. merge_with n (ea i) (ec i) (eo i)

    lists_as : (a c : NodeRev) (r : Result Lists Wrong) → a ≡ is.base → c ≡ is.head → ListsOf look f a c d.own r → ListsOf look f is.base is.head d.own r
    lists_as a c r ea ec g = subst (λ (z : NodeRev). ListsOf look f is.base z d.own r) ec (subst (λ (z : NodeRev). ListsOf look f z c d.own r) ea g)

    read_dirs : (r : Result (Option Lists) Wrong) → TurnAt look f n d r → IsReadAs see p r
    read_dirs (Ok None) (a, of_a, (c, of_c, (o, of_o, m))) =
        ap halt_of (merges ∙ sym (merge_same a c o (same_x a of_a) (same_y c of_c) (same_v o of_o)) ∙ not_merged (merge_with n a c o) (ListsOf look f a c d.own) m)
    read_dirs (Ok (Some l)) (a, of_a, (c, of_c, (o, of_o, m))) =
        let w = are_merged (merge_with n a c o) (ListsOf look f a c d.own) l m in
        let is_l = lists_as a c (Ok l) (same_x a of_a) (same_y c of_c) w.1 in
        record {
          goes = ap halt_of (merges ∙ sym (merge_same a c o (same_x a of_a) (same_y c of_c) (same_v o of_o)) ∙ w.0);
          link = lists_link l is_l;
          entries = lists_named l is_l;
        }
    read_dirs (Err w) (inl e) = absurd (ok_no_err is.base w (of_id_one look d.base (Ok is.base) (Err w) of_x e))
    read_dirs (Err w) (inr (a, of_a, inl e)) = absurd (ok_no_err is.head w (of_id_one look d.head (Ok is.head) (Err w) of_y e))
    read_dirs (Err w) (inr (a, of_a, inr (c, of_c, inl e))) = absurd (ok_no_err is.own w (one d.own (Ok is.own) (Err w) of_v e))
    read_dirs (Err w) (inr (a, of_a, inr (c, of_c, inr (o, of_o, m)))) =
        absurd (merged_wrong (merge_with n a c o) (ListsOf look f a c d.own) w m (λ g. lists_never w (lists_as a c (Err w) (same_x a of_a) (same_y c of_c) g)))

    dirs_within : AreDirsIn top f (Some d)
    dirs_within = record {
      base = subst (λ (id : NodeId). (offset_of id.place).rev ≤ top) (sym is.base_id) (hangs_x.agrees.within p is.base stands_x);
      head = subst (λ (id : NodeId). (offset_of id.place).rev ≤ top) (sym is.head_id) (hangs_y.agrees.within p is.head stands_y);
      own = subst (λ (id : NodeId). IsIn top f id) (sym is.own_id) (own_read.within is.own_dir);
    }

  -- whatever is read at a path
  read_at : (p : Path) (o : Option Dirs) → dirs_in (three_of (x p) (y p) (v p)) ≡ o → (r : Result (Option Lists) Wrong) → LookAt look f n o r → IsReadAs see p r
  read_at p None none r h = subst (IsReadAs see p) (sym h) (ap halt_of (no_dirs n (x p) (y p) (v p) none))
  read_at p (Some d) some r h = read_dirs p d (are_dirs (x p) (y p) (v p) d some) r h

  within_at : (p : Path) (o : Option Dirs) → dirs_in (three_of (x p) (y p) (v p)) ≡ o → AreDirsIn top f o
  within_at p None none = tt
  within_at p (Some d) some = dirs_within p d (are_dirs (x p) (y p) (v p) d some)

  pub seen : IsSeen look top f n see
  seen = record {
    within = λ p met. within_at p (dirs_in (three_of (x p) (y p) (v p))) refl;
    read = λ p met r h. read_at p (dirs_in (three_of (x p) (y p) (v p))) refl r h;
  }
