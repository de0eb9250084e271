-- The walk, with an entry more: it is an older one, or names again what was checked, or what is checked now.
use Rattle.std.proofs.Common.{◌≡◌, ◌≤◌, ◌<◌, ◌⊎◌, ◌+◌, ◌-◌, ◌++◌, ℕ, suc, true, List, [], ◌∷◌, length, take, refl, sym, ap, subst, ◌∙◌, inl, inr, arith}
use Rattle.std.specs.Prelude.{◌≢◌, Contains, Ok, Option, Some, None, slice_get}
use Rattle.std.proofs.lemmas.List.Elements.{Contains-append_left, Contains-push, Contains-push_cases}
use Rattle.fsfs_base.specs.Paths.{PathName, Path}
use Rattle.fsfs_base.specs.declared.kind.Kind.TheVariants.{Dir}
use Rattle.fsfs_noderev.specs.declared.node_id.NodeId.{NodeId}
use Rattle.fsfs_noderev.specs.declared.node_id.Part.{Part}
use Rattle.fsfs_noderev.specs.declared.node_rev.CopySource.{CopySource}
use Rattle.fsfs_noderev.specs.declared.node_rev.NodeRev.{NodeRev}
use Rattle.fsfs_revision.specs.Told.{RevisionBytes}
use Rattle.fsfs_revision.specs.Shows.Reading.{DirEntry, EntriesOf, OfEntry, ChildOf, RootOf, StandsAt, named}
use Rattle.fsfs_revision.specs.Shows.Chains.{own_rev, IsPred}
use Rattle.fsfs_revision.proofs.Earlier.{pred_same, no_pred}
use Rattle.fsfs_revision.proofs.Walks.{child_stands}
use Rattle.fsfs_dag.specs.TreeWalks.{Left, left}
use Rattle.fsfs_dag.specs.Views.{home_of}
use Rattle.fsfs_history.specs.KeptDirs.{by_name}
use Rattle.fsfs_sound.specs.Revisions.{AreSoundBefore}
use Rattle.fsfs_sound.specs.Rules.{HasProps, FitsDirectory}
use Rattle.fsfs_sound.specs.Written.{rev_of_id, IsNewAt, IsNewChild, WasNamed, Precedes}
use Rattle.fsfs_sound.proofs.Standing.{entry_child, entry_le, of_entry_rev}
use Rattle.fsfs_verify.specs.declared.above.Above.{Above}
use Rattle.fsfs_verify.specs.declared.links.Links.{Links}
use Rattle.fsfs_verify.specs.declared.nodes.Copied.{Copied}
use Rattle.fsfs_verify.specs.declared.nodes.NewNodes.{NewNodes}
use Rattle.fsfs_verify.specs.Edges.{IsSameTarget, GoesOnFromEntry, TakesEdge}
use Rattle.fsfs_verify.specs.LinksUp.{LinkValue, link_at, named_by}
use Rattle.fsfs_verify.specs.Steps.{Begins, TakesCopy, TakesContents}
use Rattle.fsfs_verify.specs.Walks as walks
use Rattle.fsfs_verify.specs.Walks.{IsListBefore, IsLeft, IsEntryLeft, IsStack, IsLinked, HasTakenPart, IsTaken, HasTaken, IsChecked, HasEarlierPred, IsWalk}
use Rattle.fsfs_verify.proofs.Decisions.{number_or}
use Rattle.fsfs_verify.proofs.EarlierPreds.{named_earlier}
use Rattle.fsfs_verify.proofs.EntryNames.{name_is}
use Rattle.fsfs_verify.proofs.Growing.{copied_more, checked_copy, text_of, IsGrown, grown}
use Rattle.fsfs_verify.proofs.Linking.{IsPut, put_some, put_other, linked_kept, linked_now, linked_more}
use Rattle.fsfs_verify.proofs.ListLemmas.{contains_first, contains_cons, get_kept, get_one}
use Rattle.fsfs_verify.proofs.Meeting.{drawn_kept, part_taken, met_edge, brings_copy, met_node}
use Rattle.fsfs_verify.proofs.Spots.{spot_one, below_root}
use Rattle.fsfs_verify.proofs.Stacks.{popped, linked_stack, shortened, left_shortened}

-- ---- what was taken stays so

module _ (look : RevisionBytes) (r : ℕ) (links new : Links) (done more : List NodeRev) (drawn also : List Part)
    (linked : (w d : NodeRev) (n : PathName) → IsLinked links w d n → IsLinked new w d n)
    (kept : (w : NodeRev) → Contains done w → Contains more w)
    (parts : (part : Part) → Contains drawn part → Contains also part) where
  part_more : (dir v : NodeRev) → HasTakenPart look r drawn dir v → HasTakenPart look r also dir v
  part_more dir v (walks.Kept old) = walks.Kept old
  part_more dir v (walks.DrawnFor fresh first suffix there) = walks.DrawnFor fresh first suffix (parts v.id.copy there)

  pub taken_more : (dir : NodeRev) (name : PathName) (entry : DirEntry) → IsTaken look r links done drawn dir name entry → IsTaken look r new more also dir name entry
  taken_more dir name entry (walks.Older before less was id kind) = walks.Older before less was id kind
  taken_more dir name entry (walks.Newer v of own there link fits) = walks.Newer v of own (kept v there) (linked dir v name link) (λ no_copy. (let f = fits no_copy in (f.0, part_more dir v f.1)))

-- ---- the directories above are shortened

module _ (look : RevisionBytes) (r : ℕ) (root : NodeRev) (depth : ℕ) (left : Left) (above : List Above) (links : Links) (copies : List Copied) (begun copied drawn : List Part) (done : List NodeRev)
    (w : IsWalk look r root left above links copies begun copied drawn done) (deep : 0 < depth)
    (low : (level : ℕ) (entry : DirEntry) → Contains left (level, entry) → (0 < level) × (level ≤ depth)) where
  pub walk_shortened : IsWalk look r root left (take depth above) links copies begun copied drawn done
  walk_shortened = record {
    top = w.top;
    checked = w.checked;
    entries = λ dir there kind. (let h = w.entries dir there kind in (h.0, h.1, λ name entry is. by dir name entry (h.2 name entry is)));
    first = (let f = w.first in (f.0, get_kept depth above 0 f.0 deep f.1, f.2));
    stack = shortened look depth left above links done w.stack low;
    links = w.links;
    copies = w.copies;
    met = w.met;
  }
    where
      by : (dir : NodeRev) (name : PathName) (entry : DirEntry) → IsTaken look r links done drawn dir name entry ⊎ IsLeft left above dir entry → IsTaken look r links done drawn dir name entry ⊎ IsLeft left (take depth above) dir entry
      by dir name entry (inl taken) = inl taken
      by dir name entry (inr h) = inr (left_shortened look depth left above links done w.stack low dir entry h)

-- ---- the next entry

module _ (look : RevisionBytes) (r : ℕ) (root : NodeRev) (level : ℕ) (entry : DirEntry) (rest : Left) (above : List Above) (links : Links) (copies : List Copied) (begun copied drawn : List Part) (done : List NodeRev)
    (w : IsWalk look r root ((level, entry) ∷ rest) above links copies begun copied drawn done) where
  pub here : IsEntryLeft look above level entry
  here = w.stack.entries level entry (contains_first (level, entry) rest)

  -- the directory that names it
  pub dir_there : Contains done here.place.dir.node × IsListBefore look here.place.dir.node here.place.before
  dir_there = w.stack.dirs (level - 1) here.place here.place_is

  pub dir_checked : IsChecked look r here.place.dir.node
  dir_checked = w.checked here.place.dir.node dir_there.0

  -- it is taken, and the others as before
  module _ (new : Links) (more : List NodeRev) (also : List Part) (taken : IsTaken look r new more also here.place.dir.node entry.name entry)
      (linked : (x d : NodeRev) (n : PathName) → IsLinked links x d n → IsLinked new x d n)
      (kept : (x : NodeRev) → Contains done x → Contains more x)
      (parts : (part : Part) → Contains drawn part → Contains also part) where
    pub entries_rest : (dir : NodeRev) → HasTaken look r ((level, entry) ∷ rest) above links done drawn dir → HasTaken look r rest above new more also dir
    entries_rest dir h = (h.0, h.1, λ name e is. by name e is (h.2 name e is))
      where
        at : (name : PathName) (e : DirEntry) → named name h.0 ≡ Some e → (l : IsLeft ((level, entry) ∷ rest) above dir e) → (let x : ℕ × DirEntry = (level, entry) in x ≡ (l.level, e)) ⊎ Contains rest (l.level, e) → IsTaken look r new more also dir name e ⊎ IsLeft rest above dir e
        at name e is l (inr there) = inr (record { level = l.level; waits = there; place = l.place; place_is = l.place_is; dir_is = l.dir_is })
        at name e is l (inl same) =
            let entry_is : entry ≡ e = ap (λ (p : ℕ × DirEntry). p.1) same in
            let level_is : level ≡ l.level = ap (λ (p : ℕ × DirEntry). p.0) same in
            let mine : slice_get above (l.level - 1) ≡ Some here.place = subst (λ (n : ℕ). slice_get above (n - 1) ≡ Some here.place) level_is here.place_is in
            let place_is : here.place ≡ l.place = get_one above (l.level - 1) here.place l.place mine l.place_is in
            let dir_is : here.place.dir.node ≡ dir = ap (λ (a : Above). a.dir.node) place_is ∙ l.dir_is in
            let name_of : entry.name ≡ name = ap (λ (x : DirEntry). x.name) entry_is ∙ name_is name h.0 e is in
            let x = subst (λ (d : NodeRev). IsTaken look r new more also d entry.name entry) dir_is taken in
            let y = subst (λ (n : PathName). IsTaken look r new more also dir n entry) name_of x in
            inl (subst (λ (d : DirEntry). IsTaken look r new more also dir name d) entry_is y)

        by : (name : PathName) (e : DirEntry) → named name h.0 ≡ Some e → IsTaken look r links done drawn dir name e ⊎ IsLeft ((level, entry) ∷ rest) above dir e → IsTaken look r new more also dir name e ⊎ IsLeft rest above dir e
        by name e is (inl old) = inl (taken_more look r links new done more drawn also linked kept parts dir name e old)
        by name e is (inr l) = at name e is l (contains_cons (level, entry) rest (l.level, e) l.waits)

  -- ---- an older entry, which was named so before

  pub walk_older : rev_of_id entry.id < r → IsSameTarget entry (by_name here.place.before entry.name) → IsWalk look r root rest above links copies begun copied drawn done
  walk_older older target = record {
    top = w.top;
    checked = w.checked;
    entries = λ dir there kind. entries_rest links done drawn (taken (by_name here.place.before entry.name) refl target) (λ x d n h. h) (λ x h. h) (λ part h. h) dir (w.entries dir there kind);
    first = w.first;
    stack = popped look level entry rest above links done w.stack;
    links = w.links;
    copies = w.copies;
    met = w.met;
  }
    where
      taken : (o : Option DirEntry) → by_name here.place.before entry.name ≡ o → IsSameTarget entry o → IsTaken look r links done drawn here.place.dir.node entry.name entry
      taken None is same = absurd same
      taken (Some before) is same = walks.Older before older ((dir_there.1 entry.name before).0 is) same.0 same.1

  -- ---- a new entry

  module _ (v : NodeRev) (of : OfEntry look entry (Ok v)) (since : r ≤ rev_of_id entry.id) where
    dir_path : Path
    dir_path = dir_checked.stands.0

    dir_new : IsNewAt look r dir_checked.stands.0 here.place.dir.node
    dir_new = dir_checked.stands.1

    pub child : ChildOf look here.place.dir.node entry.name (Ok (Some v))
    child = entry_child look here.place.dir.node v entry.name entry here.listed of

    pub own : own_rev v ≡ r
    own =
        let rev = of_entry_rev look entry v of in
        let le = entry_le look here.place.dir.node entry.name entry here.listed in
        let dir_own = dir_new.own in
        omega (arith, rev, le, dir_own, since)

    pub stands : StandsAt look r (dir_checked.stands.0 ++ entry.name ∷ []) v
    stands = child_stands look r here.place.dir.node v dir_checked.stands.0 entry.name dir_new.stands here.place.is_dir child

    pub new_at : IsNewAt look r (dir_checked.stands.0 ++ entry.name ∷ []) v
    new_at = record { stands = stands; own = own }

    pub new_child : IsNewChild look r dir_checked.stands.0 entry.name here.place.dir.node v
    new_child = record { above = dir_new; there = new_at }

    pub no_root : (home_of v).offset ≢ (home_of root).offset
    no_root = below_root look r root w.top.0 dir_checked.stands.0 here.place.dir.node v entry.name dir_new.stands child own

    -- its place is its own among what was checked
    pub same_spot : (x : NodeRev) → Contains done x → (home_of x).offset ≡ (home_of v).offset → x ≡ v
    same_spot x there same = let c = w.checked x there in spot_one look r c.stands.0 (dir_checked.stands.0 ++ entry.name ∷ []) x v c.stands.1 new_at same

    -- what it goes on from is what was named so before
    pub goes_on_there : GoesOnFromEntry (by_name here.place.before entry.name) v → (id : NodeId) → v.predecessor ≡ Some id → (e : DirEntry) × WasNamed look here.place.dir.node entry.name e × (e.id ≡ id)
    goes_on_there on id is = let g = on id is in (g.0, (dir_there.1 entry.name g.0).0 g.1, g.2)

    dir_kind : (u : NodeRev) → IsPred look here.place.dir.node u → u.kind ≡ Dir
    dir_kind u pred = by dir_checked.pred.0 dir_checked.pred.1
      where
        by : (o : Option NodeRev) → Precedes look here.place.dir.node o → u.kind ≡ Dir
        by None none = no_pred look here.place.dir.node u pred none
        by (Some x) is = ap (λ (y : NodeRev). y.kind) (pred_same look here.place.dir.node u x pred is.0) ∙ sym is.1.kind ∙ here.place.is_dir

    pub went_earlier : (props : RevisionBytes) → AreSoundBefore look props r → GoesOnFromEntry (by_name here.place.before entry.name) v → HasEarlierPred look r v
    went_earlier props sound on = named_earlier look props r sound here.place.dir.node v entry.name dir_checked.earlier dir_kind (goes_on_there on)

    module _ (now : List Part) (edge : TakesEdge look r copied here.place.dir.node v (by_name here.place.before entry.name) drawn now) where
      fits : v.copy_from ≡ None → FitsDirectory look here.place.dir.node entry.name v × HasTakenPart look r now here.place.dir.node v
      fits none = by edge
        where
          by : TakesEdge look r copied here.place.dir.node v (by_name here.place.before entry.name) drawn now → FitsDirectory look here.place.dir.node entry.name v × HasTakenPart look r now here.place.dir.node v
          by (inl copy) = absurd (copy.0 none)
          by (inr e) = (record { root = e.1.root; goes_on = goes_on_there e.1.goes_on }, part_taken look r copied here.place.dir.node v drawn now e.2)

      module _ (new : Links) (put : IsPut links new (home_of v).offset (home_of here.place.dir.node).offset entry.name) (more : List NodeRev)
          (kept : (x : NodeRev) → Contains done x → Contains more x) (cases : (x : NodeRev) → Contains more x → Contains done x ⊎ (v ≡ x)) (mine : Contains more v) where
        pub taken_now : IsTaken look r new more now here.place.dir.node entry.name entry
        taken_now = walks.Newer v of own mine (linked_now links new (home_of v).offset (home_of here.place.dir.node).offset entry.name put here.place.dir.node v refl refl) fits

        pub entries_now : (dir : NodeRev) → Contains done dir → dir.kind ≡ Dir → HasTaken look r rest above new more now dir
        entries_now dir there kind = entries_rest new more now taken_now (linked_kept links new (home_of v).offset (home_of here.place.dir.node).offset entry.name put) kept
            (drawn_kept look r copied here.place.dir.node v (by_name here.place.before entry.name) drawn now edge) dir (w.entries dir there kind)

        pub stack_now : IsStack look rest above new more
        stack_now = linked_stack look level entry rest above links done w.stack new (home_of v).offset here put more kept

        pub links_now : walks.AreLinked look root new more
        links_now = linked_more look root links new done more v here.place.dir.node entry.name w.links put kept cases mine
            (record { among = kept here.place.dir.node dir_there.0; is_dir = here.place.is_dir; entry = entry; listed = here.listed; read = of })
            no_root same_spot (λ link is from. w.stack.fresh level entry here.place (home_of v).offset link (contains_first (level, entry) rest) here.place_is is from)

      -- it was checked
      pub walk_again : HasEarlierPred look r v → (new : Links) → IsPut links new (home_of v).offset (home_of here.place.dir.node).offset entry.name → Contains done v → IsWalk look r root rest above new copies begun copied now done
      walk_again earlier new put there = record {
        top = w.top;
        checked = w.checked;
        entries = entries_now new put done (λ x h. h) (λ x h. inl h) there;
        first = w.first;
        stack = stack_now new put done (λ x h. h) (λ x h. inl h) there;
        links = links_now new put done (λ x h. h) (λ x h. inl h) there;
        copies = w.copies;
        met = met_edge look r begun copied drawn done w.met dir_checked.stands.0 entry.name here.place.dir.node v new_child earlier (by_name here.place.before entry.name) now edge;
      }

      -- it is checked now
      module _ (earlier : HasEarlierPred look r v) (new : Links) (put : IsPut links new (home_of v).offset (home_of here.place.dir.node).offset entry.name) (none : link_at links (home_of v).offset ≡ None)
          (pred : Option NodeRev) (precedes : Precedes look v pred) (old step : NewNodes) (begun_now copied_now : List Part)
          (left_is : left old.walk ≡ rest) (above_is : old.above.items ≡ above) (depth : level ≡ length above) (begins : Begins r v begun begun_now) (copying : TakesCopy look r now v copied copied_now copies step.copies.items)
          (props : HasProps look v) (contents : TakesContents look level v pred old step) where
        kept_done : (x : NodeRev) → Contains done x → Contains (done ++ v ∷ []) x
        kept_done x there = Contains-append_left done (v ∷ []) x there

        push_cases : (x : NodeRev) → Contains (done ++ v ∷ []) x → Contains done x ⊎ (v ≡ x)
        push_cases x there = Contains-push_cases done v x there

        not_done : Contains done v → ⊥
        not_done there = by (w.links.linked v there)
          where
            by : (v ≡ root) ⊎ ((link : LinkValue) × (link_at links (home_of v).offset ≡ Some link)) → ⊥
            by (inl same) = no_root (ap (λ (x : NodeRev). (home_of x).offset) same)
            by (inr l) = (let e = sym none ∙ l.1 in cc)

        done_apart : (x : NodeRev) → Contains done x → (home_of x).offset ≢ (home_of v).offset
        done_apart x there = λ same. not_done (subst (λ (y : NodeRev). Contains done y) (same_spot x there same) there)

        unlinked : (place : ℕ) (link : LinkValue) → link_at new place ≡ Some link → link.dir ≢ (home_of v).offset
        unlinked place link is = by (number_or place (home_of v).offset)
          where
            by : (place ≡ (home_of v).offset) ⊎ (place ≢ (home_of v).offset) → link.dir ≢ (home_of v).offset
            by (inl same) =
                let put_is = put_some links new (home_of v).offset (home_of here.place.dir.node).offset entry.name put place same in
                let first = ap (λ (o : Option LinkValue). let p : Option LinkValue = Some (named_by (home_of here.place.dir.node).offset entry.name o) in p) none in
                let both : (let o : Option LinkValue = Some link in o) ≡ Some (named_by (home_of here.place.dir.node).offset entry.name None) = sym is ∙ put_is ∙ first in
                let link_is : link ≡ named_by (home_of here.place.dir.node).offset entry.name None = cc in
                λ e. done_apart here.place.dir.node dir_there.0 (sym (ap (λ (l : LinkValue). l.dir) link_is) ∙ e)
            by (inr other) =
                let o = w.links.only place link (sym (put_other links new (home_of v).offset (home_of here.place.dir.node).offset entry.name put place other) ∙ is) in
                λ e. done_apart o.3.dir o.3.first.among (o.3.place ∙ e)

        grown_now : IsGrown look r root (left step.walk) step.above.items new (done ++ v ∷ []) now
        grown_now =
            grown look r root new now done v pred old step
            (subst (λ (a : List Above). IsStack look (left old.walk) a new (done ++ v ∷ [])) (sym above_is) (subst (λ (l : Left). IsStack look l above new (done ++ v ∷ [])) (sym left_is) (stack_now new put (done ++ v ∷ []) kept_done push_cases (Contains-push done v))))
            (λ dir there kind. subst (λ (a : List Above). HasTaken look r (left old.walk) a new (done ++ v ∷ []) now dir) (sym above_is) (subst (λ (l : Left). HasTaken look r l above new (done ++ v ∷ []) now dir) (sym left_is) (entries_now new put (done ++ v ∷ []) kept_done push_cases (Contains-push done v) dir there kind)))
            (inl (let f = w.first in (f.0, subst (λ (a : List Above). slice_get a 0 ≡ Some f.0) (sym above_is) f.1, f.2)))
            (λ i a is. done_apart a.dir.node (w.stack.dirs i a (subst (λ (xs : List Above). slice_get xs i ≡ Some a) above_is is)).0)
            unlinked precedes level (depth ∙ ap (λ (xs : List Above). length xs) (sym above_is)) contents

        checked_now : IsChecked look r v
        checked_now = record {
          stands = (dir_checked.stands.0 ++ entry.name ∷ [], new_at);
          pred = (pred, precedes);
          earlier = earlier;
          props = props;
          text = text_of look r level v pred old step contents;
          copy = checked_copy look r now copied copied_now v copies step.copies.items done copying;
        }

        pub walk_first : IsWalk look r root (left step.walk) step.above.items new step.copies.items begun_now copied_now now (done ++ v ∷ [])
        walk_first = record {
          top = (w.top.0, kept_done root w.top.1);
          checked = λ x there. each x (push_cases x there);
          entries = grown_now.entries;
          first = grown_now.first;
          stack = grown_now.stack;
          links = links_now new put (done ++ v ∷ []) kept_done push_cases (Contains-push done v);
          copies = copied_more look r now copied copied_now v copies step.copies.items done w.copies copying;
          met = met_node look r begun copied now done (met_edge look r begun copied drawn done w.met dir_checked.stands.0 entry.name here.place.dir.node v new_child earlier (by_name here.place.before entry.name) now edge)
              v begun_now copied_now begins (brings_copy look r now v copied copied_now copies step.copies.items copying);
        }
          where
            each : (x : NodeRev) → Contains done x ⊎ (v ≡ x) → IsChecked look r x
            each x (inl there) = w.checked x there
            each x (inr same) = subst (λ (y : NodeRev). IsChecked look r y) same checked_now
