-- The stack of what is left of a walk: an entry is taken, and a directory is entered.
use Rattle.std.proofs.Common.{◌≡◌, ◌≤◌, ◌<◌, ◌⊎◌, ◌+◌, ◌-◌, ◌++◌, ℕ, suc, true, false, List, [], ◌∷◌, length, take, refl, sym, ap, subst, ◌∙◌, inl, inr, arith}
use Rattle.std.specs.Prelude.{◌≢◌, Contains, Ok, Option, Some, None, slice_get}
use Rattle.std.proofs.lemmas.List.Elements.{Contains-append_left, Contains-append_right, Contains-append_cases, Contains-push}
use Rattle.std.proofs.lemmas.Option.{slice_get_within}
use Rattle.fsfs_base.specs.Paths.{PathName}
use Rattle.fsfs_base.specs.declared.kind.Kind.TheVariants.{Dir}
use Rattle.fsfs_noderev.specs.declared.node_rev.NodeRev.{NodeRev}
use Rattle.fsfs_revision.specs.Told.{RevisionBytes}
use Rattle.fsfs_revision.specs.Shows.Reading.{DirEntry, EntriesOf, named}
use Rattle.fsfs_dag.specs.TreeWalks.{Left, at_level}
use Rattle.fsfs_dag.specs.Views.{home_of}
use Rattle.fsfs_sound.specs.Written.{Names}
use Rattle.fsfs_verify.specs.declared.above.Above.{Above}
use Rattle.fsfs_verify.specs.declared.links.Links.{Links}
use Rattle.fsfs_verify.specs.LinksUp.{LinkValue, link_at, named_by}
use Rattle.fsfs_verify.specs.Walks.{AreBelow, IsListBefore, IsLeft, IsEntryLeft, IsStack}
use Rattle.fsfs_verify.proofs.Decisions.{number_or}
use Rattle.fsfs_verify.proofs.EntryNames.{name_among, own_name, own_names, level_entry, entry_level, apart_join}
use Rattle.fsfs_verify.proofs.Linking.{IsPut, put_some, put_other}
use Rattle.fsfs_verify.proofs.ListLemmas.{contains_first, contains_rest, contains_nil, contains_cons, get_push, get_last, get_push_cases, get_taken, get_kept, get_one}

-- ---- levels

-- what is left is on levels down to the depth
pub levels_below : (depth : ℕ) (left : Left) → AreBelow depth left → (level : ℕ) (entry : DirEntry) → Contains left (level, entry) → (0 < level) × (level ≤ depth)
levels_below depth [] below level entry there = absurd (contains_nil (level, entry) there)
levels_below depth (p ∷ rest) below level entry there = by (contains_cons p rest (level, entry) there) (levels_below p.0 rest below.2 level entry)
  where
    by : (p ≡ (level, entry)) ⊎ Contains rest (level, entry) → (Contains rest (level, entry) → (0 < level) × (level ≤ p.0)) → (0 < level) × (level ≤ depth)
    by (inl same) on = let is : p.0 ≡ level = ap (λ (x : ℕ × DirEntry). x.0) same in let low = below.0 in let high = below.1 in (omega (arith, is, low), omega (arith, is, high))
    by (inr there) on = let w = on there in let high = below.1 in let le = w.1 in (w.0, omega (arith, high, le))

-- ---- an entry more was taken

module _ (look : RevisionBytes) (level : ℕ) (entry : DirEntry) (rest : Left) (above : List Above) (links : Links) (done : List NodeRev) (s : IsStack look ((level, entry) ∷ rest) above links done) where
  pub popped : IsStack look rest above links done
  popped = record {
    dirs = s.dirs;
    other = s.other;
    entries = λ l e there. s.entries l e (contains_rest (level, entry) rest (l, e) there);
    fresh = λ l e a place link there. s.fresh l e a place link (contains_rest (level, entry) rest (l, e) there);
    apart = s.apart.1;
  }

  -- it was linked
  module _ (new : Links) (spot : ℕ) (here : IsEntryLeft look above level entry) (put : IsPut links new spot (home_of here.place.dir.node).offset entry.name) (more : List NodeRev) (kept : (w : NodeRev) → Contains done w → Contains more w) where
    abbrev above_place : ℕ
    above_place = (home_of here.place.dir.node).offset

    apart_from : (l : ℕ) (e : DirEntry) (a : Above) → Contains rest (l, e) → slice_get above (l - 1) ≡ Some a → above_place ≡ (home_of a.dir.node).offset → entry.name ≢ e.name
    apart_from l e a there is same =
        let low = here.below in
        let w = s.entries l e (contains_rest (level, entry) rest (l, e) there) in
        let high = w.below in
        let one = s.other (level - 1) (l - 1) here.place a here.place_is is same in
        s.apart.0 (l, e) there (omega (arith, low, high, one))

    fresh_more : (l : ℕ) (e : DirEntry) (a : Above) (place : ℕ) (link : LinkValue) → Contains rest (l, e) → slice_get above (l - 1) ≡ Some a → link_at new place ≡ Some link → link.dir ≡ (home_of a.dir.node).offset → link.name ≢ e.name
    fresh_more l e a place link there is linked from = by (number_or place spot)
      where
        at : (o : Option LinkValue) → link_at links spot ≡ o → named_by above_place entry.name o ≡ link → link.name ≢ e.name
        at None was same =
            let name : entry.name ≡ link.name = ap (λ (x : LinkValue). x.name) same in
            let place_is : above_place ≡ (home_of a.dir.node).offset = ap (λ (x : LinkValue). x.dir) same ∙ from in
            λ eq. apart_from l e a there is place_is (name ∙ eq)
        at (Some old) was same =
            let name : old.name ≡ link.name = ap (λ (x : LinkValue). x.name) same in
            let place_is : old.dir ≡ (home_of a.dir.node).offset = ap (λ (x : LinkValue). x.dir) same ∙ from in
            λ eq. s.fresh l e a spot old (contains_rest (level, entry) rest (l, e) there) is was place_is (name ∙ eq)

        by : (place ≡ spot) ⊎ (place ≢ spot) → link.name ≢ e.name
        by (inl same) =
            let both : (let o : Option LinkValue = Some link in o) ≡ Some (named_by above_place entry.name (link_at links spot)) = sym linked ∙ put_some links new spot above_place entry.name put place same in
            let is_so : named_by above_place entry.name (link_at links spot) ≡ link = cc in
            at (link_at links spot) refl is_so
        by (inr other) = s.fresh l e a place link (contains_rest (level, entry) rest (l, e) there) is (sym (put_other links new spot above_place entry.name put place other) ∙ linked) from

    pub linked_stack : IsStack look rest above new more
    linked_stack = record {
      dirs = λ i a is. (let w = s.dirs i a is in (kept a.dir.node w.0, w.1));
      other = s.other;
      entries = popped.entries;
      fresh = fresh_more;
      apart = s.apart.1;
    }

-- ---- levels above are left

module _ (look : RevisionBytes) (depth : ℕ) (left : Left) (above : List Above) (links : Links) (done : List NodeRev) (s : IsStack look left above links done)
    (low : (level : ℕ) (entry : DirEntry) → Contains left (level, entry) → (0 < level) × (level ≤ depth)) where
  kept_at : (level : ℕ) (entry : DirEntry) (a : Above) → Contains left (level, entry) → slice_get above (level - 1) ≡ Some a → slice_get (take depth above) (level - 1) ≡ Some a
  kept_at level entry a there is = let w = low level entry there in let lo = w.0 in let hi = w.1 in get_kept depth above (level - 1) a (omega (arith, lo, hi)) is

  pub shortened : IsStack look left (take depth above) links done
  shortened = record {
    dirs = λ i a is. s.dirs i a (get_taken depth above i a is);
    other = λ i j a b is also. s.other i j a b (get_taken depth above i a is) (get_taken depth above j b also);
    entries = λ l e there. (let w = s.entries l e there in record { below = w.below; place = w.place; place_is = kept_at l e w.place there w.place_is; listed = w.listed });
    fresh = λ l e a place link there is. s.fresh l e a place link there (get_taken depth above (l - 1) a is);
    apart = s.apart;
  }

  pub left_shortened : (dir : NodeRev) (entry : DirEntry) → IsLeft left above dir entry → IsLeft left (take depth above) dir entry
  left_shortened dir entry h = record { level = h.level; waits = h.waits; place = h.place; place_is = kept_at h.level entry h.place h.waits h.place_is; dir_is = h.dir_is }

-- ---- a directory is entered

module _ (look : RevisionBytes) (rest : Left) (above : List Above) (links : Links) (done : List NodeRev) (s : IsStack look rest above links done)
    (v : NodeRev) (entries : List DirEntry) (read : EntriesOf look v (Ok entries)) (last : Above) (last_is : last.dir.node ≡ v) (before : IsListBefore look v last.before)
    (there : Contains done v)
    (apart : (i : ℕ) (a : Above) → slice_get above i ≡ Some a → (home_of a.dir.node).offset ≢ (home_of v).offset)
    (unlinked : (place : ℕ) (link : LinkValue) → link_at links place ≡ Some link → link.dir ≢ (home_of v).offset) where
  abbrev level : ℕ
  level = suc (length above)

  offset_last : (home_of last.dir.node).offset ≡ (home_of v).offset
  offset_last = ap (λ (x : NodeRev). (home_of x).offset) last_is

  dirs_more : (i : ℕ) (a : Above) → slice_get (above ++ last ∷ []) i ≡ Some a → Contains done a.dir.node × IsListBefore look a.dir.node a.before
  dirs_more i a is = by (get_push_cases above last i a is)
    where
      mine : Contains done last.dir.node × IsListBefore look last.dir.node last.before
      mine = (subst (λ (x : NodeRev). Contains done x) (sym last_is) there, subst (λ (x : NodeRev). IsListBefore look x last.before) (sym last_is) before)

      by : (slice_get above i ≡ Some a) ⊎ ((i ≡ length above) × (last ≡ a)) → Contains done a.dir.node × IsListBefore look a.dir.node a.before
      by (inl old) = s.dirs i a old
      by (inr new) = subst (λ (x : Above). Contains done x.dir.node × IsListBefore look x.dir.node x.before) new.1 mine

  other_more : (i j : ℕ) (a b : Above) → slice_get (above ++ last ∷ []) i ≡ Some a → slice_get (above ++ last ∷ []) j ≡ Some b → (home_of a.dir.node).offset ≡ (home_of b.dir.node).offset → i ≡ j
  other_more i j a b is also same = by (get_push_cases above last i a is) (get_push_cases above last j b also)
    where
      offset_of : (x : Above) → last ≡ x → (home_of x.dir.node).offset ≡ (home_of v).offset
      offset_of x e = ap (λ (y : Above). (home_of y.dir.node).offset) (sym e) ∙ offset_last

      by : (slice_get above i ≡ Some a) ⊎ ((i ≡ length above) × (last ≡ a)) → (slice_get above j ≡ Some b) ⊎ ((j ≡ length above) × (last ≡ b)) → i ≡ j
      by (inl x) (inl y) = s.other i j a b x y same
      by (inl x) (inr y) = absurd (apart i a x (same ∙ offset_of b y.1))
      by (inr x) (inl y) = absurd (apart j b y (sym same ∙ offset_of a x.1))
      by (inr x) (inr y) = x.0 ∙ sym y.0

  old_level : (l : ℕ) (e : DirEntry) → Contains rest (l, e) → (0 < l) × (l - 1 < length above)
  old_level l e waits = let w = s.entries l e waits in (w.below, slice_get_within above (l - 1) w.place w.place_is)

  entries_more : (l : ℕ) (e : DirEntry) → Contains (at_level level entries ++ rest) (l, e) → IsEntryLeft look (above ++ last ∷ []) l e
  entries_more l e waits = by (Contains-append_cases (at_level level entries) rest (l, e) waits)
    where
      by : Contains (at_level level entries) (l, e) ⊎ Contains rest (l, e) → IsEntryLeft look (above ++ last ∷ []) l e
      by (inl new) =
          let w = level_entry level entries (l, e) new in
          let is : l ≡ suc (length above) = w.0 in
          let index : length above ≡ l - 1 = omega (arith, is) in
          record {
            below = omega (arith, is);
            place = last;
            place_is = subst (λ (n : ℕ). slice_get (above ++ last ∷ []) n ≡ Some last) index (get_last above last);
            listed = subst (λ (x : NodeRev). Names look x e.name e) (sym last_is) (entries, read, own_name look v entries read e w.1);
          }
      by (inr old) = let w = s.entries l e old in record { below = w.below; place = w.place; place_is = get_push above (last ∷ []) (l - 1) w.place w.place_is; listed = w.listed }

  fresh_also : (l : ℕ) (e : DirEntry) (a : Above) (place : ℕ) (link : LinkValue) → Contains (at_level level entries ++ rest) (l, e) → slice_get (above ++ last ∷ []) (l - 1) ≡ Some a → link_at links place ≡ Some link
      → link.dir ≡ (home_of a.dir.node).offset → link.name ≢ e.name
  fresh_also l e a place link waits is linked from = by (Contains-append_cases (at_level level entries) rest (l, e) waits) (get_push_cases above last (l - 1) a is)
    where
      mine : last ≡ a → link.name ≢ e.name
      mine same = absurd (unlinked place link linked (from ∙ ap (λ (y : Above). (home_of y.dir.node).offset) (sym same) ∙ offset_last))

      by : Contains (at_level level entries) (l, e) ⊎ Contains rest (l, e) → (slice_get above (l - 1) ≡ Some a) ⊎ ((l - 1 ≡ length above) × (last ≡ a)) → link.name ≢ e.name
      by x (inr y) = mine y.1
      by (inr x) (inl y) = s.fresh l e a place link x y linked from
      by (inl x) (inl y) =
          let one : l ≡ suc (length above) = (level_entry level entries (l, e) x).0 in
          let lt = slice_get_within above (l - 1) a y in
          absurd (omega (arith, one, lt))

  pub entered_stack : IsStack look (at_level level entries ++ rest) (above ++ last ∷ []) links done
  entered_stack = record {
    dirs = dirs_more;
    other = other_more;
    entries = entries_more;
    fresh = fresh_also;
    apart = apart_join (at_level level entries) rest (own_names look v level entries read) s.apart (λ p q x y one. (
        let new : p.0 ≡ suc (length above) = (level_entry level entries p x).0 in
        let old = old_level q.0 q.1 y in
        let lt = old.1 in
        omega (arith, new, lt, one)));
  }

  -- each entry of it is left
  pub entered_left : (name : PathName) (entry : DirEntry) → named name entries ≡ Some entry → IsLeft (at_level level entries ++ rest) (above ++ last ∷ []) v entry
  entered_left name entry is = record {
    level = level;
    waits = Contains-append_left (at_level level entries) rest (level, entry) (entry_level level entries entry (name_among name entries entry is));
    place = last;
    place_is = subst (λ (n : ℕ). slice_get (above ++ last ∷ []) n ≡ Some last) (let e : length above ≡ suc (length above) - 1 = omega arith in e) (get_last above last);
    dir_is = last_is;
  }

  pub left_below : (dir : NodeRev) (entry : DirEntry) → IsLeft rest above dir entry → IsLeft (at_level level entries ++ rest) (above ++ last ∷ []) dir entry
  left_below dir entry h = record {
    level = h.level;
    waits = Contains-append_right (at_level level entries) rest (h.level, entry) h.waits;
    place = h.place;
    place_is = get_push above (last ∷ []) (h.level - 1) h.place h.place_is;
    dir_is = h.dir_is;
  }
