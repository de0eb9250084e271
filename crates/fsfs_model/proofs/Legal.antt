-- What commits add to a history makes a history, and a path's history ends.
use Rattle.std.proofs.Common.{◌≡◌, ℕ, zero, suc, ◌+◌, ◌-◌, ◌<◌, ◌≤◌, true, cond, List, [], ◌∷◌, ◌++◌, length, refl, sym, ◌∙◌, ap, subst, inl, inr, ◌⊎◌, Option, Some, None, arith, length-append}
use Rattle.std.proofs.lemmas.Bool.{cases_Bool, cases_lt}
use Rattle.std.specs.Prelude.{is_some, slice_get, nat_lt}
use Rattle.std.proofs.lemmas.Option.{slice_get_past}
use borrow.Author.Tests.{ltb-true}
use mathlib.Core.Bool.{false≢true}
use Rattle.std.specs.FinMap.{get}
use Rattle.fsfs_base.specs.Paths.{Path}
use Rattle.fsfs_tree.specs.Nodes.{Node, TreeFunction}
use Rattle.fsfs_model.specs.Flat.Landing.{land, NoClash}
use Rattle.fsfs_tree.specs.Histories.{IsRevision, AreRevisions, IsHistory}
use Rattle.fsfs_tree.specs.PathHistories.{history_within, points_at, go_on, leads_to}
use Rattle.fsfs_tree.specs.Revisions.{Revision, node_in, tree_of}
use Rattle.fsfs_model.specs.Flat.Transactions.{IsTransaction, Landed, Entry, IsEntry, IsNext, IsLegal}
use Rattle.fsfs_tree.specs.Dated.{last_of}
use Rattle.fsfs_model.specs.Laws.{In, LandingLeavesATree, CommitsMakeAHistory, PathHistoriesEnd}
use Rattle.fsfs_model.proofs.Directories.{tree_from}
use Rattle.fsfs_model.proofs.NextHistory.{whole, next_revision, at_most, source_before}
use Rattle.fsfs_model.proofs.PathHistories.{Falls, history_falls, path_history-step}

pub landing_leaves_a_tree : LandingLeavesATree
landing_leaves_a_tree = record {
  own = λ tree last b t marks is was. tree_from t (whole tree last b t marks is was).dirs;
  landed = λ tree last b h n t marks is was le ge clear. tree_from (land (tree b) (tree h) t marks n) (whole tree last h (land (tree b) (tree h) t marks n) marks is (Landed b h n t marks was le ge clear)).dirs;
}

-- ---- one more revision

got_before : (h : List Revision) (next : Revision) (r : ℕ) → r < length h → slice_get (h ++ next ∷ []) r ≡ slice_get h r
got_before [] next r lt = absurd (omega arith)
got_before (x ∷ h) next zero lt = refl
got_before (x ∷ h) next (suc r) lt = got_before h next r (omega arith)

got_last : (h : List Revision) (next : Revision) → slice_get (h ++ next ∷ []) (length h) ≡ Some next
got_last [] next = refl
got_last (x ∷ h) next = got_last h next

-- only the trees before a revision matter to it
follows : (tree other : ℕ → TreeFunction) (r : ℕ) (p s : TreeFunction) → IsRevision r tree p s → ((x : ℕ) → x < r → other x ≡ tree x) → IsRevision r other p s
follows tree other r p s is same = record {
  is_tree = is.is_tree;
  root = is.root;
  ordered = is.ordered;
  at_most = is.at_most;
  below = is.below;
  last_changed = is.last_changed;
  added = is.added;
  props_changed = is.props_changed;
  taken = is.taken;
  source = λ q f n from e h.
      let k = is.source q f n from e h in
      let o = is.ordered q n e in
      let m = is.at_most q n e in
      (k.0, subst (λ v. is_some (v f) ≡ true) (sym (same from (let lt = k.0 in omega (arith, lt, o.added, o.props_changed, m)))) k.1);
}

module _ (h : List Revision) (next : Revision) (last : ℕ) (counted : length h ≡ suc last) where
  abbrev pub longer : List Revision
  longer = h ++ next ∷ []

  before : (r : ℕ) → r < suc last → tree_of longer r ≡ tree_of h r
  before r lt = ap node_in (got_before h next r (omega (arith, counted, lt)))

  added : (p : Path) → tree_of longer (suc last) p ≡ get next.tree p
  added p = ap (λ k. node_in (slice_get longer k) p) (sym counted) ∙ ap (λ o. node_in o p) (got_last h next)

  pub one_more : AreRevisions (tree_of h) last → IsRevision (suc last) (tree_of h) (tree_of h last) (tree_of longer (suc last)) → AreRevisions (tree_of longer) (suc last)
  one_more is new = record {
    first = ap (λ t. t []) (before 0 (omega arith)) ∙ is.first;
    alone = λ x q. ap (λ t. t (x ∷ q)) (before 0 (omega arith)) ∙ is.alone x q;
    next = λ r lt. elim (lt_or_eq r last (omega (arith, lt))) [
      | inl less ↦
          let old = follows (tree_of h) (tree_of longer) (suc r) (tree_of h r) (tree_of h (suc r)) (is.next r less) (λ x l. before x (omega (arith, l, less))) in
          subst (λ s. IsRevision (suc r) (tree_of longer) (tree_of longer r) s) (sym (before (suc r) (omega (arith, less))))
          (subst (λ p. IsRevision (suc r) (tree_of longer) p (tree_of h (suc r))) (sym (before r (omega (arith, less)))) old)
      | inr e ↦ subst (λ k. IsRevision (suc k) (tree_of longer) (tree_of longer k) (tree_of longer (suc k))) (sym e)
          (subst (λ p. IsRevision (suc last) (tree_of longer) p (tree_of longer (suc last))) (sym (before last (omega arith)))
          (follows (tree_of h) (tree_of longer) (suc last) (tree_of h last) (tree_of longer (suc last)) new (λ x l. before x l)))
    ];
  }
    where
      lt_or_eq : (x y : ℕ) → x ≤ y → (x < y) ⊎ (x ≡ y)
      lt_or_eq x y h = grind arith

next_history : (h : List Revision) (e : Entry) (next : Revision) → IsHistory h → IsEntry h e → IsNext h e next → IsHistory (h ++ next ∷ [])
next_history h e next is was adds = record {
  last = suc last;
  counted = length-append h (next ∷ []) ∙ (let c = is.counted in omega (arith, c));
  revisions = one_more h next last is.counted is.revisions (subst (λ s. IsRevision (suc last) (tree_of h) (tree_of h last) s) new
      (next_revision (tree_of h) last e.base (get e.tree) e.marks is.revisions here (let b = adds.based in let c = is.counted in omega (arith, b, c)) clear));
}
  where
    last : ℕ
    last = is.last

    last_is : last_of h ≡ last
    last_is = ap (λ k. k - 1) is.counted ∙ omega arith

    here : IsTransaction (tree_of h) last e.base (get e.tree) e.marks
    here = subst (λ k. IsTransaction (tree_of h) k e.base (get e.tree) e.marks) last_is was.transaction

    clear : NoClash e.base (tree_of h e.base) (tree_of h last) (get e.tree) e.marks
    clear = subst (λ k. NoClash e.base (tree_of h e.base) (tree_of h k) (get e.tree) e.marks) last_is adds.clear

    new : land (tree_of h e.base) (tree_of h last) (get e.tree) e.marks (suc last) ≡ tree_of (h ++ next ∷ []) (suc last)
    new = λ i p. (ap (λ k. land (tree_of h e.base) (tree_of h k) (get e.tree) e.marks (suc last) p) (sym last_is)
        ∙ ap (λ n. land (tree_of h e.base) (tree_of h (last_of h)) (get e.tree) e.marks n p) (sym is.counted)
        ∙ sym (adds.tree p)
        ∙ sym (added h next last is.counted p)) i

legal_history : (h : List Revision) (es : List Entry) (now : List Revision) → IsHistory h → IsLegal h es now → IsHistory now
legal_history h [] now is e = subst IsHistory e is
legal_history h (e ∷ es) now is (was, next, adds, rest) = legal_history (h ++ next ∷ []) es now (next_history h e next is was adds) rest

pub commits_make_a_history : CommitsMakeAHistory
commits_make_a_history = record { next = next_history; legal = legal_history }

-- ---- the history of a path

module _ (h : List Revision) (is : IsHistory h) where
  beyond : (r : ℕ) (p : Path) → is.last < r → tree_of h r p ≡ None
  beyond r p lt = ap (λ o. node_in o p) (slice_get_past h r (let c = is.counted in omega (arith, c, lt)))

  within : (r : ℕ) (p : Path) → is_some (tree_of h r p) ≡ true → r ≤ is.last
  within r p some = elim (cases_lt is.last r) [ inr le ↦ le | inl lt ↦ absurd (false≢true (sym (ap is_some (beyond r p lt)) ∙ some)) ]

  falling : Falls (tree_of h)
  falling = history_falls (tree_of h) is.last is.revisions beyond

  -- a node stands in the tree of its last change, and of each revision since
  still : (r c : ℕ) (p : Path) (n : Node) → r ≤ is.last → tree_of h r p ≡ Some n → n.last_changed ≤ c → c ≤ r → tree_of h c p ≡ Some n
  still zero c p n le e lo hi = ap (λ k. tree_of h k p) (let z : c ≡ 0 = omega arith in z) ∙ e
  still (suc r) c p n le e lo hi = elim (lt_or_eq c (suc r) hi) [
    | inr same ↦ ap (λ k. tree_of h k p) same ∙ e
    | inl less ↦ still r c p n (omega arith) ((is.revisions.next r (omega arith)).last_changed p n e (omega arith)) lo (omega arith)
  ]
    where
      lt_or_eq : (x y : ℕ) → x ≤ y → (x < y) ⊎ (x ≡ y)
      lt_or_eq x y h = grind arith

  leads_on : (r : ℕ) (p : Path) (n : Node) (to : ℕ × Path) → r ≤ is.last → tree_of h r p ≡ Some n → leads_to p n ≡ Some to → is_some (tree_of h to.0 to.1) ≡ true
  leads_on r p n to le e h1 = elim (cases_Bool (nat_lt n.added n.last_changed)) [
    | inl w ↦ (let at : (n.last_changed - 1, p) ≡ to = pair _ _ (sym (ap (λ b. cond b (Some (n.last_changed - 1, p)) n.source) w) ∙ h1) in
        subst (λ v. is_some (tree_of h v.0 v.1) ≡ true) at (earlier r n.last_changed le (at_most (tree_of h) is.last r is.revisions le p n e) e (ltb-true n.added n.last_changed w) refl))
    | inr w ↦ (source_before (tree_of h) is.last r is.revisions le p n to.0 to.1 e (sym (ap (λ b. cond b (Some (n.last_changed - 1, p)) n.source) w) ∙ h1)).1
  ]
    where
      pair : (x y : ℕ × Path) → Some x ≡ Some y → x ≡ y
      pair x y e = cc

      earlier : (r c : ℕ) → r ≤ is.last → c ≤ r → tree_of h r p ≡ Some n → n.added < c → n.last_changed ≡ c → is_some (tree_of h (c - 1) p) ≡ true
      earlier r zero le at e lt same = absurd (omega arith)
      earlier r (suc c) le at e lt same =
          let s = still r (suc c) p n le e (omega arith) at in
          let m = (is.revisions.next c (omega arith)).added p n s lt in
          let k : suc c - 1 ≡ c = omega arith in
          ap (λ k. is_some (tree_of h k p)) k ∙ ap is_some m.1

  points_stand : (most r : ℕ) (p : Path) (point : ℕ × Path) → is_some (tree_of h r p) ≡ true → In (history_within most (tree_of h) r p) point → is_some (tree_of h point.0 point.1) ≡ true
  points_stand zero r p point some i = absurd i
  points_stand (suc most) r p point some i = by (λ to s j. points_stand most to.0 to.1 point s j) (tree_of h r p) refl i
    where
      by : ((to : ℕ × Path) → is_some (tree_of h to.0 to.1) ≡ true → In (history_within most (tree_of h) to.0 to.1) point → is_some (tree_of h point.0 point.1) ≡ true)
          → (o : Option Node) → tree_of h r p ≡ o → In (points_at (λ to. history_within most (tree_of h) to.0 to.1) p o) point → is_some (tree_of h point.0 point.1) ≡ true
      by rec None e j = absurd j
      by rec (Some n) e (inl here) =
          let le = within r p some in
          subst (λ v. is_some (tree_of h v.0 v.1) ≡ true) here (ap is_some (still r n.last_changed p n le e (omega arith) (at_most (tree_of h) is.last r is.revisions le p n e)))
      by rec (Some n) e (inr more) = on (leads_to p n) refl more
        where
          on : (o : Option (ℕ × Path)) → leads_to p n ≡ o → In (go_on (λ to. history_within most (tree_of h) to.0 to.1) o) point → is_some (tree_of h point.0 point.1) ≡ true
          on None k j = absurd j
          on (Some to) k j = rec to (leads_on r p n to (within r p some) e k) j

  pub path_histories_end : PathHistoriesEnd h
  path_histories_end = record {
    steps = path_history-step (tree_of h) falling;
    falls = λ r p n to e k. (falling r p n to e k, leads_on r p n to (within r p (ap is_some e)) e k);
    stands = λ r p point some i. points_stand (r + 1) r p point some i;
  }
