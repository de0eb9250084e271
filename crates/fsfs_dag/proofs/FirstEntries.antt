-- Entries put to a list one after another, the first of each name.
use Rattle.std.proofs.Common.{◌≡◌, ◌∙◌, ◌+◌, ◌≤◌, arith, ℕ, length, Bool, true, false, cond, List, [], ◌∷◌, ◌++◌, Option, Some, None, refl, sym, ap, subst, Ordering, Less, Equal, Greater}
use Rattle.std.specs.Prelude.{is_some, if◌then◌else◌}
use Rattle.std.specs.List.{AllByRecursion}
use Rattle.std.specs.Ordering.{is_eq, match_ordering}
use Rattle.std.specs.BTreeMap.{insert_entry, is_at}
use Rattle.std.specs.Map.{lookup}
use Rattle.std.proofs.lemmas.List.Sums.{sum_by-append, sum_by-cons}
use Rattle.fsfs_base.specs.Paths.{PathName, same_name}
use Rattle.fsfs_base.proofs.PathLemmas.{same_name-refl, same_name-is}
use Rattle.fsfs_revision.specs.declared.damage.RevOffset.{RevOffset}
use Rattle.fsfs_revision.specs.Nodes.{is_revision_id}
use Rattle.fsfs_revision.specs.Shows.Reading.{Pairs, DirEntry, IsEntryValue, AreEntries, named}
use Rattle.fsfs_revision.specs.EntryRooms.{pair_room, pairs_room, entry_room, entries_room}
use Rattle.fsfs_revision.proofs.PairLookups.{text_cmp, equal_is, equal_of, twice, swapped}
use Rattle.fsfs_dag.proofs.EntryLists.{pushed, named_push}
use Rattle.fsfs_dag.specs.Entries.{IsFirstIn, ArePairs, HasFirsts, MayStand, ListsEntries}

-- ---- bytes

pub more_room : (es : List DirEntry) (e : DirEntry) → entries_room (es ++ e ∷ []) ≡ entries_room es + entry_room e
more_room es e = sum_by-append entry_room es (e ∷ []) ∙ omega arith

-- ---- one entry more at the end

stays_first : (es : List DirEntry) (e x : DirEntry) → IsFirstIn es x → IsFirstIn (es ++ e ∷ []) x
stays_first es e x h = named_push x.name es e ∙ ap (λ (o : Option DirEntry). pushed o e x.name) h

stay_first : (es : List DirEntry) (e : DirEntry) (xs : List DirEntry) → AllByRecursion (IsFirstIn es) xs → AllByRecursion (IsFirstIn (es ++ e ∷ [])) xs
stay_first es e [] h = tt
stay_first es e (x ∷ xs) h = (stays_first es e x h.0, stay_first es e xs h.1)

-- ---- a pair is found where its entry is

found : (name : PathName) (ps : Pairs) (xs : List DirEntry) → ArePairs ps xs → is_some (lookup (is_at (text_cmp name)) ps) ≡ is_some (named name xs)
found name [] [] w = refl
found name [] (x ∷ xs) w = absurd w
found name (p ∷ ps) [] w = absurd w
found name (p ∷ ps) (x ∷ xs) w = by (text_cmp name p.0) refl (same_name x.name name) refl (found name ps xs w.2)
  where
    by : (o : Ordering) → text_cmp name p.0 ≡ o → (b : Bool) → same_name x.name name ≡ b → is_some (lookup (is_at (text_cmp name)) ps) ≡ is_some (named name xs) → is_some (cond (is_eq o) (Some p.1) (lookup (is_at (text_cmp name)) ps)) ≡ is_some (cond b (Some x) (named name xs))
    by Equal is true h rest = refl
    by Equal is false h rest =
        let same : same_name x.name name ≡ true = subst (λ (z : List ℕ). same_name x.name z ≡ true) (sym (equal_is name p.0 is ∙ w.0)) (same_name-refl x.name) in
        let no : true ≡ false = sym same ∙ h in cc
    by Less is true h rest = let no : Equal ≡ Less = sym (equal_of name p.0 (sym (same_name-is x.name name h) ∙ sym w.0)) ∙ is in cc
    by Less is false h rest = rest
    by Greater is true h rest = let no : Equal ≡ Greater = sym (equal_of name p.0 (sym (same_name-is x.name name h) ∙ sym w.0)) ∙ is in cc
    by Greater is false h rest = rest

-- ---- a pair more

record IsPutIn (new : List DirEntry) (e : DirEntry) (xs : List DirEntry) (qs : Pairs) : Type 0 where
  sorted : List DirEntry
  are : ArePairs qs sorted
  same : (y : PathName) → named y sorted ≡ (if same_name e.name y then Some e else named y xs)
  first : AllByRecursion (IsFirstIn new) sorted

module _ (new : List DirEntry) (e : DirEntry) (value : List ℕ) (is_value : is_revision_id e.id ≡ true → IsEntryValue value e.kind e.id) (mine : IsFirstIn new e) where
  put_in : (ps : Pairs) (xs : List DirEntry) → ArePairs ps xs → AllByRecursion (IsFirstIn new) xs → IsPutIn new e xs (insert_entry text_cmp ps e.name value)
  put_in [] [] w f = record { sorted = e ∷ []; are = (refl, is_value, tt); same = λ y. refl; first = (mine, tt) }
  put_in [] (x ∷ xs) w f = absurd w
  put_in (p ∷ ps) [] w f = absurd w
  put_in (p ∷ ps) (x ∷ xs) w f = by (text_cmp e.name p.0) refl (put_in ps xs w.2 f.1)
    where
      by : (o : Ordering) → text_cmp e.name p.0 ≡ o → IsPutIn new e xs (insert_entry text_cmp ps e.name value)
          → IsPutIn new e (x ∷ xs) (match_ordering o ((e.name, value) ∷ p ∷ ps) ((p.0, value) ∷ ps) (p ∷ insert_entry text_cmp ps e.name value))
      by Less is r = record { sorted = e ∷ x ∷ xs; are = (refl, is_value, w); same = λ y. refl; first = (mine, f) }
      by Equal is r = record {
        sorted = e ∷ xs;
        are = (sym (equal_is e.name p.0 is), is_value, w.2);
        same = λ y. twice (same_name e.name y) (Some e) (Some x) (named y xs)
            ∙ ap (λ (z : List ℕ). cond (same_name e.name y) (Some e) (cond (same_name z y) (Some x) (named y xs))) (equal_is e.name p.0 is ∙ w.0);
        first = (mine, f.1);
      }
      by Greater is r = record {
        sorted = x ∷ r.sorted;
        are = (w.0, w.1, r.are);
        same = λ y. ap (λ (o : Option DirEntry). cond (same_name x.name y) (Some x) o) (r.same y)
            ∙ swapped (same_name x.name y) (same_name e.name y) (Some x) (Some e) (named y xs)
            (λ s t. let no : Equal ≡ Greater = sym (equal_of e.name p.0 (same_name-is e.name y t ∙ sym (same_name-is x.name y s) ∙ sym w.0)) ∙ is in cc);
        first = (f.0, r.first);
      }

-- it takes so many bytes more at most
put_room : (name value : List ℕ) (ps : Pairs) → pairs_room (insert_entry text_cmp ps name value) ≤ pairs_room ps + pair_room (name, value)
put_room name value [] = omega arith
put_room name value (p ∷ ps) = by (text_cmp name p.0) (put_room name value ps)
  where
    all : pairs_room (p ∷ ps) ≡ pair_room p + pairs_room ps
    all = sum_by-cons pair_room p ps

    by : (o : Ordering) → pairs_room (insert_entry text_cmp ps name value) ≤ pairs_room ps + pair_room (name, value)
        → pairs_room (match_ordering o ((name, value) ∷ p ∷ ps) ((p.0, value) ∷ ps) (p ∷ insert_entry text_cmp ps name value)) ≤ pairs_room (p ∷ ps) + pair_room (name, value)
    by Less rest = omega (arith, sum_by-cons pair_room (name, value) (p ∷ ps))
    by Equal rest = omega (arith, all, sum_by-cons pair_room (p.0, value) ps)
    by Greater rest = omega (arith, all, rest, sum_by-cons pair_room p (insert_entry text_cmp ps name value))

-- ---- the two ways of the loop

-- the name has an entry: nothing changes
pub kept_first : (es : List DirEntry) (e : DirEntry) (ps : Pairs) → HasFirsts es ps → is_some (lookup (is_at (text_cmp e.name)) ps) ≡ true → HasFirsts (es ++ e ∷ []) ps
kept_first es e ps w there =
    let here : is_some (named e.name es) ≡ true = ap is_some (sym (w.same e.name)) ∙ sym (found e.name ps w.sorted w.pairs_are) ∙ there in
    record {
      sorted = w.sorted;
      pairs_are = w.pairs_are;
      same = λ y. w.same y ∙ by y (named y es) refl (same_name e.name y) refl here ∙ sym (named_push y es e);
      first = stay_first es e w.sorted w.first;
      room = omega (arith, w.room, more_room es e);
    }
  where
    by : (y : PathName) (o : Option DirEntry) → named y es ≡ o → (b : Bool) → same_name e.name y ≡ b → is_some (named e.name es) ≡ true → named y es ≡ pushed (named y es) e y
    by y (Some x) is b h here = is ∙ sym (ap (λ (o : Option DirEntry). pushed o e y) is)
    by y None is true h here =
        let no : true ≡ false = sym here ∙ ap (λ (z : List ℕ). is_some (named z es)) (same_name-is e.name y h) ∙ ap is_some is in cc
    by y None is false h here = is ∙ sym (ap (λ (o : Option DirEntry). pushed o e y) is ∙ ap (λ (b : Bool). cond b (Some e) None) h)

-- the name has none: the entry is put
pub put_first_in : (es : List DirEntry) (e : DirEntry) (ps : Pairs) (value : List ℕ) → length value ≤ 117 → HasFirsts es ps → is_some (lookup (is_at (text_cmp e.name)) ps) ≡ false → (is_revision_id e.id ≡ true → IsEntryValue value e.kind e.id)
    → HasFirsts (es ++ e ∷ []) (insert_entry text_cmp ps e.name value)
put_first_in es e ps value short w gone is_value =
    let none : is_some (named e.name es) ≡ false = ap is_some (sym (w.same e.name)) ∙ sym (found e.name ps w.sorted w.pairs_are) ∙ gone in
    let r = put_in (es ++ e ∷ []) e value is_value (mine (named e.name es) refl none) ps w.sorted w.pairs_are (stay_first es e w.sorted w.first) in
    record {
      sorted = r.sorted;
      pairs_are = r.are;
      same = λ y. r.same y ∙ ap (λ (o : Option DirEntry). cond (same_name e.name y) (Some e) o) (w.same y) ∙ by y (named y es) refl (same_name e.name y) refl none ∙ sym (named_push y es e);
      first = r.first;
      room = omega (arith, w.room, more_room es e, put_room e.name value ps, short);
    }
  where
    mine : (o : Option DirEntry) → named e.name es ≡ o → is_some (named e.name es) ≡ false → IsFirstIn (es ++ e ∷ []) e
    mine None is none = named_push e.name es e ∙ ap (λ (o : Option DirEntry). pushed o e e.name) is ∙ ap (λ (b : Bool). cond b (Some e) None) (same_name-refl e.name)
    mine (Some x) is none = let no : true ≡ false = sym (ap is_some is) ∙ none in cc

    by : (y : PathName) (o : Option DirEntry) → named y es ≡ o → (b : Bool) → same_name e.name y ≡ b → is_some (named e.name es) ≡ false → cond (same_name e.name y) (Some e) (named y es) ≡ pushed (named y es) e y
    by y None is b h none = ap (λ (o : Option DirEntry). cond (same_name e.name y) (Some e) o) is ∙ sym (ap (λ (o : Option DirEntry). pushed o e y) is)
    by y (Some x) is true h none =
        let no : true ≡ false = sym (ap (λ (z : List ℕ). is_some (named z es)) (same_name-is e.name y h) ∙ ap is_some is) ∙ none in cc
    by y (Some x) is false h none = ap (λ (b : Bool). cond b (Some e) (named y es)) h ∙ is ∙ sym (ap (λ (o : Option DirEntry). pushed o e y) is)

pub firsts_none : HasFirsts [] []
firsts_none = record { sorted = []; pairs_are = tt; same = λ y. refl; first = tt; room = omega arith }

-- ---- as a directory's list

are_entries : (es : List DirEntry) (home : RevOffset) (ps : Pairs) (xs : List DirEntry) → ArePairs ps xs → AllByRecursion (IsFirstIn es) xs → ((name : PathName) (e : DirEntry) → named name es ≡ Some e → MayStand home e) → AreEntries home ps xs
are_entries es home [] [] w f h = tt
are_entries es home [] (x ∷ xs) w f h = absurd w
are_entries es home (p ∷ ps) [] w f h = absurd w
are_entries es home (p ∷ ps) (x ∷ xs) w f h =
    let s = h x.name x f.0 in
    (record { name = w.0; name_is = s.name_is; value_is = w.1 s.lasting; before = s.before }, are_entries es home ps xs w.2 f.1 h)

pub firsts_list : (es : List DirEntry) (ps : Pairs) → HasFirsts es ps → ListsEntries es ps
firsts_list es ps w = record { sorted = w.sorted; same = w.same; room = w.room; are = λ home h. are_entries es home ps w.sorted w.pairs_are w.first h }
