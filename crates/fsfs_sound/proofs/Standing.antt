-- Where each revision keeps the rules by itself, all that its tree names is had, and each node-revision stood in the tree of the
-- revision that wrote it.
use Rattle.std.proofs.Common.{◌≡◌, ◌≤◌, ◌<◌, ◌⊎◌, ◌++◌, ℕ, zero, suc, Bool, true, false, nat_lt, List, [], ◌∷◌, refl, sym, ap, subst, ◌∙◌, inl, inr, length, arith}
use Rattle.std.specs.Prelude.{Ok, Option, Some, None}
use Rattle.fsfs_base.specs.Paths.{PathName, Path}
use Rattle.fsfs_base.specs.declared.kind.Kind.{Kind}
use Rattle.fsfs_base.specs.declared.kind.Kind.TheVariants.{File, Dir}
use Rattle.fsfs_noderev.specs.declared.node_id.NodeId.{NodeId}
use Rattle.fsfs_noderev.specs.declared.node_rev.CopySource.{CopySource}
use Rattle.fsfs_noderev.specs.declared.node_rev.NodeRev.{NodeRev}
use Rattle.fsfs_revision.specs.Told.{RevisionBytes}
use Rattle.fsfs_revision.specs.Shows.Reading.{DirEntry, offset_of, OfId, OfEntry, OfNamed, EntriesOf, ChildOf, RootOf, named, Met, Stands, Lacking, Blocked, OrLacking, InDirectory, MetFrom, MetAt, StandsAt}
use Rattle.fsfs_revision.specs.Shows.Chains.{own_rev, IsPred}
use Rattle.fsfs_revision.proofs.Earlier.{root_of_id, pred_is, pred_same, no_pred, stands_of_id}
use Rattle.fsfs_revision.proofs.OneAnswer.{ok_same}
use Rattle.fsfs_revision.proofs.OneEntry.{entries_one}
use Rattle.fsfs_revision.proofs.OneNode.{root_of_one}
use Rattle.fsfs_revision.proofs.OneWalk.{of_id_one}
use Rattle.fsfs_revision.proofs.Roots.{is_less, is_not_less, length_push}
use Rattle.fsfs_revision.proofs.Standing.{for_each}
use Rattle.fsfs_revision.proofs.TreeLaw.{before_le, child_home, entry_before, of_id_home, root_home, stands_home}
use Rattle.fsfs_revision.proofs.Walks.{child_stands}
use Rattle.fsfs_sound.specs.Written.{rev_of_id, Names, Precedes}
use Rattle.fsfs_sound.specs.Rules.{IsSoundEntry, IsSoundNode, FollowsLast}
use Rattle.fsfs_sound.specs.Revisions.{IsSoundTree}

-- ---- entries and children

module _ (look : RevisionBytes) where
  -- a child is that of an entry
  pub child_entry : (dir v : NodeRev) (name : PathName) → ChildOf look dir name (Ok (Some v)) → (entry : DirEntry) × Names look dir name entry × OfEntry look entry (Ok v)
  child_entry dir v name child = by (named name child.0) refl child.2
    where
      by : (o : Option DirEntry) → named name child.0 ≡ o → OfNamed look o (Ok (Some v)) → (entry : DirEntry) × Names look dir name entry × OfEntry look entry (Ok v)
      by None is of = absurd cc
      by (Some entry) is of = (entry, (child.0, child.1, is), of)

  pub entry_child : (dir v : NodeRev) (name : PathName) (entry : DirEntry) → Names look dir name entry → OfEntry look entry (Ok v) → ChildOf look dir name (Ok (Some v))
  entry_child dir v name entry names of = (names.0, names.1, subst (λ (o : Option DirEntry). OfNamed look o (Ok (Some v))) (sym names.2) of)

  pub names_one : (dir : NodeRev) (name : PathName) (a b : DirEntry) → Names look dir name a → Names look dir name b → a ≡ b
  names_one dir name a b v w =
      let same = ok_same v.0 w.0 (entries_one look dir (Ok v.0) (Ok w.0) v.1 w.1) in
      let e : (let o : Option DirEntry = Some a in o) ≡ Some b = sym v.2 ∙ (λ i. named name (same i)) ∙ w.2 in
      cc

  -- what an entry names is of the entry's revision
  pub of_entry_rev : (entry : DirEntry) (v : NodeRev) → OfEntry look entry (Ok v) → own_rev v ≡ rev_of_id entry.id
  of_entry_rev entry v of = ap own_rev of.2.0 ∙ (of_id_home look entry.id of.0 of.1).1

  pub of_entry_id : (entry : DirEntry) (v : NodeRev) → OfEntry look entry (Ok v) → v.id ≡ entry.id
  of_entry_id entry v of = ap (λ (x : NodeRev). x.id) of.2.0 ∙ ap (λ (x : NodeRev). x.id) of.1.2.0 ∙ of.1.2.1

  -- another entry of the same target names the same
  pub of_entry_as : (a b : DirEntry) (v : NodeRev) → a.id ≡ b.id → a.kind ≡ b.kind → OfEntry look a (Ok v) → OfEntry look b (Ok v)
  of_entry_as a b v id kind of = (of.0, subst (λ (i : NodeId). OfId look i (Ok of.0)) id of.1, (of.2.0, of.2.1 ∙ kind))

  pub of_entry_one : (a b : DirEntry) (v w : NodeRev) → a.id ≡ b.id → OfEntry look a (Ok v) → OfEntry look b (Ok w) → v ≡ w
  of_entry_one a b v w id x y =
      let same = ok_same x.0 y.0 (of_id_one look b.id (Ok x.0) (Ok y.0) (subst (λ (i : NodeId). OfId look i (Ok x.0)) id x.1) y.1) in
      x.2.0 ∙ same ∙ sym y.2.0

  pub entry_id : (entry : DirEntry) (v : NodeRev) → OfEntry look entry (Ok v) → OfId look entry.id (Ok v)
  entry_id entry v of = subst (λ (x : NodeRev). OfId look entry.id (Ok x)) (sym of.2.0) of.1

  -- an entry of a directory is of no later revision
  pub entry_le : (dir : NodeRev) (name : PathName) (entry : DirEntry) → Names look dir name entry → rev_of_id entry.id ≤ own_rev dir
  entry_le dir name entry names = before_le (offset_of dir.id.place) entry.id.place (entry_before look dir name dir.text names.0 entry names.1 names.2)

-- ---- revision by revision

-- v stands in a tree before revision r
pub record StoodBefore (look : RevisionBytes) (r : ℕ) (v : NodeRev) : Type 0 where
  pub rev : ℕ
  pub path : Path
  pub before : rev < r
  pub stands : StandsAt look rev path v

-- of what stands in the tree of r: r wrote it, or it stood before; and where r wrote it, its predecessor stood before
pub record IsKnown (look : RevisionBytes) (r : ℕ) (v : NodeRev) : Type 0 where
  pub from : (own_rev v ≡ r) ⊎ StoodBefore look r v
  pub pred : own_rev v ≡ r → (u : NodeRev) → IsPred look v u → StoodBefore look r u

-- each child of what stands in the tree is had
abbrev pub HasChildren : RevisionBytes → ℕ → Type 0
HasChildren look r = (p : Path) (dir : NodeRev) → StandsAt look r p dir → dir.kind ≡ Dir → (name : PathName) → (o : Option NodeRev) × ChildOf look dir name (Ok o)

module _ (look : RevisionBytes) (r : ℕ) (tree : IsSoundTree look r) (had : (s : ℕ) → s < r → HasChildren look s) where
  sound : (p : Path) (v : NodeRev) → StandsAt look r p v → own_rev v ≡ r → IsSoundNode look r p v
  sound p v at own = tree.nodes p v (record { stands = at; own = own })

  -- what the predecessor of a directory named is had, and stood before
  pub was_there : (u : NodeRev) (name : PathName) (entry : DirEntry) → StoodBefore look r u → u.kind ≡ Dir → Names look u name entry → (w : NodeRev) × OfEntry look entry (Ok w) × StoodBefore look r w
  was_there u name entry s dir names = by c.0 c.1
    where
      c : (o : Option NodeRev) × ChildOf look u name (Ok o)
      c = had s.rev s.before s.path u s.stands dir name

      by : (o : Option NodeRev) → ChildOf look u name (Ok o) → (w : NodeRev) × OfEntry look entry (Ok w) × StoodBefore look r w
      by None child =
          let same = ok_same child.0 names.0 (entries_one look u (Ok child.0) (Ok names.0) child.1 names.1) in
          let is : named name child.0 ≡ Some entry = (λ i. named name (same i)) ∙ names.2 in
          none_named (named name child.0) is child.2
        where
          none_named : (q : Option DirEntry) → q ≡ Some entry → OfNamed look q (Ok None) → (w : NodeRev) × OfEntry look entry (Ok w) × StoodBefore look r w
          none_named None is of = absurd cc
          none_named (Some e) is of = absurd of
      by (Some w) child =
          let e = child_entry look u w name child in
          let same : e.0 ≡ entry = names_one look u name e.0 entry e.1 names in
          (w, subst (λ (x : DirEntry). OfEntry look x (Ok w)) same e.2, record { rev = s.rev; path = s.path ++ name ∷ []; before = s.before; stands = child_stands look s.rev u w s.path name s.stands dir child })

  -- the kind of the predecessor
  pub pred_kind : (p : Path) (v u : NodeRev) → StandsAt look r p v → own_rev v ≡ r → IsPred look v u → v.kind ≡ u.kind
  pred_kind p v u at own pred = let x = (sound p v at own).pred in by x.0 x.1
    where
      by : (o : Option NodeRev) → Precedes look v o → v.kind ≡ u.kind
      by None none = no_pred look v u pred none
      by (Some w) is = is.1.kind ∙ ap (λ (x : NodeRev). x.kind) (pred_same look v w u is.0 pred)

  module _ (p : Path) (name : PathName) (dir v : NodeRev) (at : StandsAt look r p dir) (kind : dir.kind ≡ Dir) (child : ChildOf look dir name (Ok (Some v))) (known : IsKnown look r dir) where
    here : StandsAt look r (p ++ name ∷ []) v
    here = child_stands look r dir v p name at kind child

    entry : (entry : DirEntry) × Names look dir name entry × OfEntry look entry (Ok v)
    entry = child_entry look dir v name child

    list : own_rev dir ≡ r → IsSoundEntry look r dir name entry.0
    list own =
        let has = (sound p dir at own).entries kind in
        let same = ok_same entry.1.0 has.0 (entries_one look dir (Ok entry.1.0) (Ok has.0) entry.1.1 has.1) in
        has.2 name entry.0 (sym (λ i. named name (same i)) ∙ entry.1.2)

    -- an older child of a new directory stood in the directory's predecessor
    older : own_rev dir ≡ r → own_rev v < r → StoodBefore look r v
    older own less =
        let rev = of_entry_rev look entry.0 v entry.2 in
        let b = (list own).older (omega (arith, rev, less)) in
        let was = b.1 in
        let w = was_there was.0 name b.0 (known.pred own was.0 was.1) (sym (pred_kind p dir was.0 at own was.1) ∙ kind) was.2 in
        let same : w.0 ≡ v = of_entry_one look b.0 entry.0 w.0 v b.2 w.1 entry.2 in
        subst (λ (x : NodeRev). StoodBefore look r x) same w.2

    -- the predecessor of a new child
    pred_of : own_rev dir ≡ r → own_rev v ≡ r → (u : NodeRev) → IsPred look v u → StoodBefore look r u
    pred_of own mine u pred = by v.copy_from refl
      where
        rev : own_rev v ≡ rev_of_id entry.0.id
        rev = of_entry_rev look entry.0 v entry.2

        by : (o : Option CopySource) → v.copy_from ≡ o → StoodBefore look r u
        by (Some from) is =
            let c = (sound (p ++ name ∷ []) v here mine).copy from is in
            let s = c.source in
            let same : u ≡ s.0 = pred_is look v u s.0 pred s.2 (stands_of_id look from.rev from.path s.0 s.1) in
            subst (λ (x : NodeRev). StoodBefore look r x) (sym same) (record { rev = from.rev; path = from.path; before = c.earlier; stands = s.1 })
        by None is =
            let n = (list own).newer (sym rev ∙ mine) in
            let same : n.0 ≡ v = of_entry_one look entry.0 entry.0 n.0 v refl n.1 entry.2 in
            let fits = n.2 (ap (λ (x : NodeRev). x.copy_from) same ∙ is) in
            let g = fits.goes_on pred.0 (ap (λ (x : NodeRev). x.predecessor) same ∙ pred.1) in
            let was = g.1 in
            let w = was_there was.0 name g.0 (known.pred own was.0 was.1) (sym (pred_kind p dir was.0 at own was.1) ∙ kind) was.2 in
            let read : OfId look pred.0 (Ok w.0) = subst (λ (i : NodeId). OfId look i (Ok w.0)) g.2 (entry_id look g.0 w.0 w.1) in
            let one : w.0 ≡ u = ok_same w.0 u (of_id_one look pred.0 (Ok w.0) (Ok u) read pred.2) in
            subst (λ (x : NodeRev). StoodBefore look r x) one w.2

    -- a child of an older directory stood below it
    below_older : StoodBefore look r dir → StoodBefore look r v
    below_older s = record { rev = s.rev; path = s.path ++ name ∷ []; before = s.before; stands = child_stands look s.rev dir v s.path name s.stands kind child }

    under : own_rev v ≤ own_rev dir
    under = (child_home look dir v name child).1

    most : own_rev dir ≤ r
    most = (stands_home look r p dir at).1

    known_child : IsKnown look r v
    known_child = by known.from
      where
        by : (own_rev dir ≡ r) ⊎ StoodBefore look r dir → IsKnown look r v
        by (inl own) = by_age (nat_lt (own_rev v) r) refl
          where
            by_age : (b : Bool) → nat_lt (own_rev v) r ≡ b → IsKnown look r v
            by_age true e = let less = is_less (own_rev v) r e in record { from = inr (older own less); pred = λ mine u pred. absurd (omega (arith, mine, less)) }
            by_age false e =
                let over = is_not_less (own_rev v) r e in
                let mine : own_rev v ≡ r = omega (arith, over, under, most) in
                record { from = inl mine; pred = λ same u pred. pred_of own mine u pred }
        by (inr s) =
            let below = below_older s in
            let own = (stands_home look below.rev below.path v below.stands).1 in
            let b = below.before in
            record { from = inr below; pred = λ mine u pred. absurd (omega (arith, own, b, mine)) }

  known_root : (v : NodeRev) → StandsAt look r [] v → IsKnown look r v
  known_root v at =
      let same : v ≡ at.0 = (let e = at.2 in cc) in
      let home = root_home look r at.0 at.1 in
      let root : RootOf look r (Ok v) = subst (λ (x : NodeRev). RootOf look r (Ok x)) (sym same) at.1 in
      let mine = tree.root in
      let one : mine.0 ≡ v = ok_same mine.0 v (root_of_one look r (Ok mine.0) (Ok v) mine.1 root) in
      record { from = inl (ap own_rev same ∙ home.1); pred = λ own u pred. by r mine.0 one mine.2.follows u pred }
    where
      by : (n : ℕ) (w : NodeRev) → w ≡ v → FollowsLast look n w → (u : NodeRev) → IsPred look v u → StoodBefore look n u
      by zero w e first u pred = no_pred look v u pred (ap (λ (x : NodeRev). x.predecessor) (sym e) ∙ first.pred)
      by (suc n) w e follows u pred =
          let last = follows.0 in
          let next : v.predecessor ≡ Some last.id = ap (λ (x : NodeRev). x.predecessor) (sym e) ∙ follows.2.pred in
          let same : u ≡ last = pred_is look v u last pred next (root_of_id look n last follows.1) in
          subst (λ (x : NodeRev). StoodBefore look (suc n) x) (sym same) (record { rev = n; path = []; before = omega arith; stands = (last, follows.1, refl) })

  pub known : (p : Path) (v : NodeRev) → StandsAt look r p v → IsKnown look r v
  known p v at = for_each look r (λ q x. IsKnown look r x) (λ q name dir x here kind child there k. known_child q name dir x here kind child k) known_root p v at

  -- ---- each child is had

  module _ (p : Path) (dir : NodeRev) (at : StandsAt look r p dir) (kind : dir.kind ≡ Dir) (name : PathName) where
    abbrev Had : Type 0
    Had = (o : Option NodeRev) × ChildOf look dir name (Ok o)

    new_entry : own_rev dir ≡ r → (entry : DirEntry) → Names look dir name entry → IsSoundEntry look r dir name entry → Had
    new_entry own e names is = by_age (nat_lt (rev_of_id e.id) r) refl
      where
        by_age : (b : Bool) → nat_lt (rev_of_id e.id) r ≡ b → Had
        by_age true less =
            let b = is.older (is_less (rev_of_id e.id) r less) in
            let was = b.1 in
            let w = was_there was.0 name b.0 ((known p dir at).pred own was.0 was.1) (sym (pred_kind p dir was.0 at own was.1) ∙ kind) was.2 in
            (Some w.0, entry_child look dir w.0 name e names (of_entry_as look b.0 e w.0 b.2 b.3 w.1))
        by_age false more =
            let over = is_not_less (rev_of_id e.id) r more in
            let le = entry_le look dir name e names in
            let n = is.newer (omega (arith, over, le, own)) in
            (Some n.0, entry_child look dir n.0 name e names n.1)

    new_dir : own_rev dir ≡ r → Had
    new_dir own = let has = (sound p dir at own).entries kind in by has.0 has.1 has.2 (named name has.0) refl
      where
        by : (entries : List DirEntry) → EntriesOf look dir (Ok entries) → ((x : PathName) (e : DirEntry) → named x entries ≡ Some e → IsSoundEntry look r dir x e) → (o : Option DirEntry) → named name entries ≡ o → Had
        by entries read each None is = (None, (entries, read, subst (λ (o : Option DirEntry). OfNamed look o (Ok None)) (sym is) refl))
        by entries read each (Some e) is = new_entry own e (entries, read, is) (each name e is)

    child_had : Had
    child_had = by (known p dir at).from
      where
        by : (own_rev dir ≡ r) ⊎ StoodBefore look r dir → Had
        by (inl own) = new_dir own
        by (inr s) = had s.rev s.before s.path dir s.stands kind name

-- ---- all revisions

module _ (look : RevisionBytes) (top : ℕ) (trees : (r : ℕ) → r ≤ top → IsSoundTree look r) where
  children_below : (n r : ℕ) → r < n → r ≤ top → HasChildren look r
  children_below zero r less le = absurd (omega (arith, less))
  children_below (suc n) r less le = λ p dir at kind name. child_had look r (trees r le) (λ s below. children_below n s (omega (arith, below, less)) (omega (arith, below, le))) p dir at kind name

  pub children : (r : ℕ) → r ≤ top → HasChildren look r
  children r le = children_below (suc r) r (omega arith) le

  pub known_at : (r : ℕ) → r ≤ top → (p : Path) (v : NodeRev) → StandsAt look r p v → IsKnown look r v
  known_at r le p v at = known look r (trees r le) (λ s below. children s (omega (arith, below, le))) p v at

  -- ---- each path meets something

  met_from : (r : ℕ) → r ≤ top → (front rest : Path) (v : NodeRev) → StandsAt look r front v → (met : Met) × MetFrom look v (length front) rest (Ok met)
  met_from r le front [] v at = (Stands v, refl)
  met_from r le front (name ∷ names) v at = by v.kind refl (λ u there. met_from r le (front ++ name ∷ []) names u there)
    where
      by : (kind : Kind) → v.kind ≡ kind → ((u : NodeRev) → StandsAt look r (front ++ name ∷ []) u → (met : Met) × MetFrom look u (length (front ++ name ∷ [])) names (Ok met)) → (met : Met) × InDirectory v.kind (length front) (ChildOf look v name) (λ w. MetFrom look w (suc (length front)) names) (Ok met)
      by File is on_down = (Blocked (length front), subst (λ (k : Kind). InDirectory k (length front) (ChildOf look v name) (λ w. MetFrom look w (suc (length front)) names) (Ok (Blocked (length front)))) (sym is) refl)
      by Dir is on_down =
          let c = children r le front v at is name in
          let on = further c.0 c.1 in
          (on.0, subst (λ (k : Kind). InDirectory k (length front) (ChildOf look v name) (λ w. MetFrom look w (suc (length front)) names) (Ok on.0)) (sym is) (c.0, c.1, on.1))
        where
          further : (o : Option NodeRev) → ChildOf look v name (Ok o) → (met : Met) × OrLacking (suc (length front)) (λ w. MetFrom look w (suc (length front)) names) o (Ok met)
          further None child = (Lacking (suc (length front)), refl)
          further (Some u) child =
              let there = child_stands look r v u front name at is child in
              let on = on_down u there in
              (on.0, subst (λ (n : ℕ). MetFrom look u n names (Ok on.0)) (length_push front name) on.1)

  pub met_at : (r : ℕ) → r ≤ top → (p : Path) → (met : Met) × MetAt look r p (Ok met)
  met_at r le p =
      let root = (trees r le).root in
      let on = met_from r le [] p root.0 (root.0, root.1, refl) in
      (on.0, (root.0, root.1, on.1))

  -- ---- each node-revision stood in the tree of the revision that wrote it

  origin_below : (n r : ℕ) (p : Path) (v : NodeRev) → r < n → r ≤ top → StandsAt look r p v → (q : Path) × StandsAt look (own_rev v) q v
  origin_below zero r p v less le at = absurd (omega (arith, less))
  origin_below (suc n) r p v less le at = by (known_at r le p v at).from (λ s q before there. origin_below n s q v (omega (arith, before, less)) (omega (arith, before, le)) there)
    where
      by : (own_rev v ≡ r) ⊎ StoodBefore look r v → ((s : ℕ) (q : Path) → s < r → StandsAt look s q v → (q : Path) × StandsAt look (own_rev v) q v) → (q : Path) × StandsAt look (own_rev v) q v
      by (inl own) down = (p, subst (λ (s : ℕ). StandsAt look s p v) (sym own) at)
      by (inr s) down = down s.rev s.path s.before s.stands

  pub origin : (r : ℕ) → r ≤ top → (p : Path) (v : NodeRev) → StandsAt look r p v → (q : Path) × StandsAt look (own_rev v) q v
  origin r le p v at = origin_below (suc r) r p v (omega arith) le at

  -- what the predecessor of a new directory named is its child
  pub was_named_child : (r : ℕ) → r ≤ top → (p : Path) (name : PathName) (dir u : NodeRev) (entry : DirEntry) (w : NodeRev) (id : NodeId)
      → StandsAt look r p dir → own_rev dir ≡ r → dir.kind ≡ Dir → IsPred look dir u → Names look u name entry → entry.id ≡ id → OfId look id (Ok w) → ChildOf look u name (Ok (Some w))
  was_named_child r le p name dir u entry w id at own kind pred names is of =
      let known = known_at r le p dir at in
      let had = λ (s : ℕ) (less : s < r). children s (omega (arith, less, le)) in
      let there = was_there look r (trees r le) had u name entry (known.pred own u pred) (sym (pred_kind look r (trees r le) had p dir u at own pred) ∙ kind) names in
      let read : OfId look id (Ok there.0) = subst (λ (i : NodeId). OfId look i (Ok there.0)) is (entry_id look entry there.0 there.1) in
      let same : there.0 ≡ w = ok_same there.0 w (of_id_one look id (Ok there.0) (Ok w) read of) in
      subst (λ (x : NodeRev). ChildOf look u name (Ok (Some x))) same (entry_child look u there.0 name entry names there.1)
