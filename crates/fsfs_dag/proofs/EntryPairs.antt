-- Names with values: what is found after a value is put or taken.
use Rattle.std.proofs.Common.{◌≡◌, ◌∙◌, ◌+◌, ℕ, Bool, true, false, cond, List, [], ◌∷◌, ◌++◌, Option, Some, None, refl, sym, ap, subst, Ordering, Less, Equal, Greater}
use Rattle.std.specs.Prelude.{is_some, if◌then◌else◌}
use Rattle.std.specs.List.{AllByRecursion}
use Rattle.std.specs.Ordering.{is_eq, match_ordering, ordering_reverse}
use Rattle.std.specs.Cmp.Lexicographic.{nat_list_cmp_total}
use Rattle.std.specs.BTreeMap.{insert_entry, is_at}
use Rattle.std.specs.Map.{lookup, remove_entry}
use Rattle.fsfs_base.specs.Paths.{PathName, same_name}
use Rattle.fsfs_base.proofs.PathLemmas.{same_name-is}
use Rattle.fsfs_layout.specs.Hash.Dump.{Ascending}
use Rattle.fsfs_revision.specs.Shows.Reading.{Pairs, DirEntry, named}
use Rattle.fsfs_revision.proofs.PairLookups.{text_cmp, swapped, tests_one, found_put}
use Rattle.fsfs_dag.proofs.EntryLists.{pushed, named_push}
use Rattle.fsfs_dag.specs.Entries.{IsEntryText, SaysEntry, LeadTo, HasTaken}

reversed : (x y : List ℕ) (o : Ordering) → text_cmp x y ≡ o → text_cmp y x ≡ ordering_reverse o
reversed x y o e = nat_list_cmp_total.antisymm y x ∙ ap ordering_reverse e

-- ---- a value taken, from pairs in the order of their names

gone_below : (ps : Pairs) (k : List ℕ) → AllByRecursion (λ x. text_cmp k x.0 ≡ Less) ps → lookup (is_at (text_cmp k)) ps ≡ None
gone_below [] k below = refl
gone_below (p ∷ ps) k below = ap (λ (o : Ordering). cond (is_eq o) (Some p.1) (lookup (is_at (text_cmp k)) ps)) below.0 ∙ gone_below ps k below.1

-- the pair of the name is the first
taken_here : (ps : Pairs) (p : List ℕ × List ℕ) (k q : List ℕ) → AllByRecursion (λ x. text_cmp p.0 x.0 ≡ Less) ps → k ≡ p.0
    → lookup (is_at (text_cmp q)) ps ≡ cond (same_name k q) None (cond (is_eq (text_cmp q p.0)) (Some p.1) (lookup (is_at (text_cmp q)) ps))
taken_here ps p k q below is = by (same_name k q) refl
  where
    by : (b : Bool) → same_name k q ≡ b → lookup (is_at (text_cmp q)) ps ≡ cond (same_name k q) None (cond (is_eq (text_cmp q p.0)) (Some p.1) (lookup (is_at (text_cmp q)) ps))
    by true h =
        subst (λ (z : List ℕ). lookup (is_at (text_cmp z)) ps ≡ None) (sym is ∙ same_name-is k q h) (gone_below ps p.0 below)
        ∙ ap (λ (b : Bool). cond b None (cond (is_eq (text_cmp q p.0)) (Some p.1) (lookup (is_at (text_cmp q)) ps))) (sym h)
    by false h =
        let other : is_eq (text_cmp q p.0) ≡ false = tests_one q p.0 ∙ ap (λ (z : List ℕ). same_name z q) (sym is) ∙ h in
        ap (λ (b : Bool). cond b (Some p.1) (lookup (is_at (text_cmp q)) ps)) (sym other)
        ∙ ap (λ (b : Bool). cond b None (cond (is_eq (text_cmp q p.0)) (Some p.1) (lookup (is_at (text_cmp q)) ps))) (sym h)

pub found_taken : (ps : Pairs) (k q : List ℕ) → Ascending ps → lookup (is_at (text_cmp q)) (remove_entry (is_at (text_cmp k)) ps) ≡ cond (same_name k q) None (lookup (is_at (text_cmp q)) ps)
found_taken [] k q order = none (same_name k q)
  where
    none : (b : Bool) → ◌≡◌ {A = Option (List ℕ)} None (cond b None None)
    none true = refl
    none false = refl
found_taken (p ∷ ps) k q order = by (is_eq (text_cmp k p.0)) refl (found_taken ps k q order.1)
  where
    by : (b : Bool) → is_eq (text_cmp k p.0) ≡ b → lookup (is_at (text_cmp q)) (remove_entry (is_at (text_cmp k)) ps) ≡ cond (same_name k q) None (lookup (is_at (text_cmp q)) ps)
        → lookup (is_at (text_cmp q)) (cond b ps (p ∷ remove_entry (is_at (text_cmp k)) ps)) ≡ cond (same_name k q) None (cond (is_eq (text_cmp q p.0)) (Some p.1) (lookup (is_at (text_cmp q)) ps))
    by true is rest = taken_here ps p k q order.0 (sym (same_name-is p.0 k (sym (tests_one k p.0) ∙ is)))
    by false is rest =
        ap (λ (o : Option (List ℕ)). cond (is_eq (text_cmp q p.0)) (Some p.1) o) rest
        ∙ swapped (is_eq (text_cmp q p.0)) (same_name k q) (Some p.1) None (lookup (is_at (text_cmp q)) ps)
        (λ s t. let no : true ≡ false = sym (tests_one k p.0 ∙ ap (λ (z : List ℕ). same_name p.0 z) (same_name-is k q t) ∙ sym (tests_one q p.0) ∙ s) ∙ is in cc)

-- ---- the order stays

below_put : (ps : Pairs) (a k v : List ℕ) → AllByRecursion (λ x. text_cmp a x.0 ≡ Less) ps → text_cmp a k ≡ Less → AllByRecursion (λ x. text_cmp a x.0 ≡ Less) (insert_entry text_cmp ps k v)
below_put [] a k v below lt = (lt, tt)
below_put (p ∷ ps) a k v below lt = by (text_cmp k p.0) (below_put ps a k v below.1 lt)
  where
    by : (o : Ordering) → AllByRecursion (λ x. text_cmp a x.0 ≡ Less) (insert_entry text_cmp ps k v)
        → AllByRecursion (λ x. text_cmp a x.0 ≡ Less) (match_ordering o ((k, v) ∷ p ∷ ps) ((p.0, v) ∷ ps) (p ∷ insert_entry text_cmp ps k v))
    by Less rest = (lt, below)
    by Equal rest = (below.0, below.1)
    by Greater rest = (below.0, rest)

below_all : (ps : Pairs) (a b : List ℕ) → text_cmp a b ≡ Less → AllByRecursion (λ x. text_cmp b x.0 ≡ Less) ps → AllByRecursion (λ x. text_cmp a x.0 ≡ Less) ps
below_all [] a b lt below = tt
below_all (p ∷ ps) a b lt below = (nat_list_cmp_total.trans a b p.0 lt below.0, below_all ps a b lt below.1)

pub ordered_put : (ps : Pairs) (k v : List ℕ) → Ascending ps → Ascending (insert_entry text_cmp ps k v)
ordered_put [] k v order = (tt, tt)
ordered_put (p ∷ ps) k v order = by (text_cmp k p.0) refl (ordered_put ps k v order.1)
  where
    by : (o : Ordering) → text_cmp k p.0 ≡ o → Ascending (insert_entry text_cmp ps k v) → Ascending (match_ordering o ((k, v) ∷ p ∷ ps) ((p.0, v) ∷ ps) (p ∷ insert_entry text_cmp ps k v))
    by Less is rest = ((is, below_all ps k p.0 is order.0), order)
    by Equal is rest = (order.0, order.1)
    by Greater is rest = (below_put ps p.0 k v order.0 (reversed k p.0 Greater is), rest)

below_taken : (ps : Pairs) (a k : List ℕ) → AllByRecursion (λ x. text_cmp a x.0 ≡ Less) ps → AllByRecursion (λ x. text_cmp a x.0 ≡ Less) (remove_entry (is_at (text_cmp k)) ps)
below_taken [] a k below = tt
below_taken (p ∷ ps) a k below = by (is_eq (text_cmp k p.0)) (below_taken ps a k below.1)
  where
    by : (b : Bool) → AllByRecursion (λ x. text_cmp a x.0 ≡ Less) (remove_entry (is_at (text_cmp k)) ps) → AllByRecursion (λ x. text_cmp a x.0 ≡ Less) (cond b ps (p ∷ remove_entry (is_at (text_cmp k)) ps))
    by true rest = below.1
    by false rest = (below.0, rest)

pub ordered_taken : (ps : Pairs) (k : List ℕ) → Ascending ps → Ascending (remove_entry (is_at (text_cmp k)) ps)
ordered_taken [] k order = tt
ordered_taken (p ∷ ps) k order = by (is_eq (text_cmp k p.0)) (ordered_taken ps k order.1)
  where
    by : (b : Bool) → Ascending (remove_entry (is_at (text_cmp k)) ps) → Ascending (cond b ps (p ∷ remove_entry (is_at (text_cmp k)) ps))
    by true rest = order.1
    by false rest = (below_taken ps p.0 k order.0, rest)

-- ---- entries

says_cond : (b : Bool) (x y : Option DirEntry) (v w : Option (List ℕ)) → SaysEntry x v → SaysEntry y w → SaysEntry (cond b x y) (cond b v w)
says_cond true x y v w f g = f
says_cond false x y v w f g = g

says_as : (x : Option DirEntry) (v w : Option (List ℕ)) → v ≡ w → SaysEntry x v → SaysEntry x w
says_as x v w e h = subst (λ (z : Option (List ℕ)). SaysEntry x z) e h

-- an entry put in place of the one of its name
pub lead_put : (old new : List DirEntry) (ps : Pairs) (entry : DirEntry) (value : List ℕ) → LeadTo old ps → IsEntryText value entry.kind entry.id → ((y : PathName) → named y new ≡ (if same_name entry.name y then Some entry else named y old))
    → LeadTo new (insert_entry text_cmp ps entry.name value)
lead_put old new ps entry value lead is more = λ y.
    let at = lookup (is_at (text_cmp y)) (insert_entry text_cmp ps entry.name value) in
    let there = says_cond (same_name entry.name y) (Some entry) (named y old) (Some value) (lookup (is_at (text_cmp y)) ps) (value, is, refl) (lead y) in
    subst (λ (x : Option DirEntry). SaysEntry x at) (sym (more y))
    (says_as (cond (same_name entry.name y) (Some entry) (named y old)) (cond (same_name entry.name y) (Some value) (lookup (is_at (text_cmp y)) ps)) at (sym (found_put ps entry.name value y)) there)

-- and the one of a name taken
pub lead_taken : (old new : List DirEntry) (ps : Pairs) (name : PathName) → Ascending ps → LeadTo old ps → HasTaken old name new → LeadTo new (remove_entry (is_at (text_cmp name)) ps)
lead_taken old new ps name order lead less = λ y.
    let at = lookup (is_at (text_cmp y)) (remove_entry (is_at (text_cmp name)) ps) in
    let there = says_cond (same_name name y) None (named y old) None (lookup (is_at (text_cmp y)) ps) refl (lead y) in
    subst (λ (x : Option DirEntry). SaysEntry x at) (sym (less y))
    (says_as (cond (same_name name y) None (named y old)) (cond (same_name name y) None (lookup (is_at (text_cmp y)) ps)) at (sym (found_taken ps name y order)) there)

-- ---- one entry more at the end of the list

-- where the name has a value it has an entry
has_entry : (x : Option DirEntry) (v : Option (List ℕ)) → SaysEntry x v → is_some v ≡ is_some x
has_entry None v h = ap is_some h
has_entry (Some e) v h = ap is_some h.2

-- the name has a value: nothing changes
pub lead_kept : (es : List DirEntry) (e : DirEntry) (ps : Pairs) → LeadTo es ps → is_some (lookup (is_at (text_cmp e.name)) ps) ≡ true → LeadTo (es ++ e ∷ []) ps
lead_kept es e ps lead there = λ y. subst (λ (x : Option DirEntry). SaysEntry x (lookup (is_at (text_cmp y)) ps)) (sym (same y (named y es) refl (same_name e.name y) refl)) (lead y)
  where
    here : is_some (named e.name es) ≡ true
    here = sym (has_entry (named e.name es) (lookup (is_at (text_cmp e.name)) ps) (lead e.name)) ∙ there

    same : (y : PathName) (o : Option DirEntry) → named y es ≡ o → (b : Bool) → same_name e.name y ≡ b → named y (es ++ e ∷ []) ≡ named y es
    same y (Some x) is b h = named_push y es e ∙ ap (λ (o : Option DirEntry). pushed o e y) is ∙ sym is
    same y None is true h = let no : true ≡ false = sym here ∙ ap (λ (z : List ℕ). is_some (named z es)) (same_name-is e.name y h) ∙ ap is_some is in cc
    same y None is false h = named_push y es e ∙ ap (λ (o : Option DirEntry). pushed o e y) is ∙ ap (λ (b : Bool). cond b (Some e) None) h ∙ sym is

-- the name has none: the entry's is put
pub lead_more : (es : List DirEntry) (e : DirEntry) (ps : Pairs) (value : List ℕ) → LeadTo es ps → is_some (lookup (is_at (text_cmp e.name)) ps) ≡ false → IsEntryText value e.kind e.id → LeadTo (es ++ e ∷ []) (insert_entry text_cmp ps e.name value)
lead_more es e ps value lead gone is = lead_put es (es ++ e ∷ []) ps e value lead is (λ y. more y (named y es) refl (same_name e.name y) refl)
  where
    none : is_some (named e.name es) ≡ false
    none = sym (has_entry (named e.name es) (lookup (is_at (text_cmp e.name)) ps) (lead e.name)) ∙ gone

    more : (y : PathName) (o : Option DirEntry) → named y es ≡ o → (b : Bool) → same_name e.name y ≡ b → named y (es ++ e ∷ []) ≡ cond (same_name e.name y) (Some e) (named y es)
    more y None at b h = named_push y es e ∙ ap (λ (o : Option DirEntry). pushed o e y) at ∙ sym (ap (λ (o : Option DirEntry). cond (same_name e.name y) (Some e) o) at)
    more y (Some x) at true h = let no : true ≡ false = sym (ap (λ (z : List ℕ). is_some (named z es)) (same_name-is e.name y h) ∙ ap is_some at) ∙ none in cc
    more y (Some x) at false h = named_push y es e ∙ ap (λ (o : Option DirEntry). pushed o e y) at ∙ sym (ap (λ (b : Bool). cond b (Some e) (named y es)) h ∙ at)

pub lead_none : LeadTo [] []
lead_none = λ y. refl
