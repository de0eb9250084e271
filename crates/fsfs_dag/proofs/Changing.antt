-- Lists that are changed behind one name, in a leaf and in a branch.
use Rattle.std.proofs.Common.{◌≡◌, ◌≤◌, ◌+◌, ℕ, Bool, true, false, not, ◌&&◌, cond, List, ◌∷◌, ◌++◌, length, refl, sym, ap, subst, ◌∙◌, arith}
use Rattle.std.specs.Prelude.{Option, Some, None, is_some}
use Rattle.std.proofs.lemmas.Bool.{and_parts}
use Rattle.std.proofs.lemmas.List.{length-append}
use Rattle.std.proofs.lemmas.List.Folds.{list_all-append}
use Rattle.std.proofs.lemmas.List.Filters.{length-filter_both}
use Rattle.fsfs_base.specs.Paths.{PathName, same_name}
use Rattle.fsfs_base.proofs.PathLemmas.{same_name-is, same_name-symm}
use Rattle.fsfs_revision.specs.Shows.Reading.{DirEntry, named}
use Rattle.fsfs_dag.specs.Listing.Lists.{IsPut, IsAmong, IsChangedList, IsSameList, kept_names, all_names, is_other, is_below, is_from}
use Rattle.fsfs_dag.proofs.Lists.{or_other, or_none, named_append, none_named, kept_named, kept_all, kept_is, count_others}

all_append : (is : PathName → Bool) (a b : List DirEntry) → all_names is (a ++ b) ≡ (all_names is a && all_names is b)
all_append is a b = list_all-append (λ (e : DirEntry). is e.name) a b

pub all_both : (is : PathName → Bool) (a b : List DirEntry) → all_names is a ≡ true → all_names is b ≡ true → all_names is (a ++ b) ≡ true
all_both is a b p q = all_append is a b ∙ (λ i. p i && q i)

pub all_parts : (is : PathName → Bool) (a b : List DirEntry) → all_names is (a ++ b) ≡ true → (all_names is a ≡ true) × (all_names is b ≡ true)
all_parts is a b h = and_parts (all_names is a) (all_names is b) (sym (all_append is a b) ∙ h)

-- ---- a leaf

-- another behind the name, anywhere among the others
pub put_in_leaf : (name : PathName) (es front back : List DirEntry) (e : DirEntry) → front ++ back ≡ kept_names (is_other name) es → e.name ≡ name → IsChangedList es (front ++ e ∷ back) name (Some e)
put_in_leaf name es front back e others is = record { put = put; keeps = keeps; count = count }
  where
    parts : (also : PathName → Bool) → all_names also (kept_names (is_other name) es) ≡ true → (all_names also front ≡ true) × (all_names also back ≡ true)
    parts also all = all_parts also front back (ap (λ (l : List DirEntry). all_names also l) others ∙ all)

    put : IsPut es name (Some e) (front ++ e ∷ back)
    put y = named_append y front (e ∷ back) ∙ by (same_name name y) refl
      where
        by : (b : Bool) → same_name name y ≡ b → or_other (named y front) (cond (same_name e.name y) (Some e) (named y back)) ≡ cond (same_name name y) (Some e) (named y es)
        by true same =
            let other : is_other name y ≡ false = ap (λ (b : Bool). not b) (same_name-symm y name ∙ same) in
            (λ i. or_other (none_named (is_other name) y front (parts (is_other name) (kept_is (is_other name) es)).0 other i) (cond (((ap (λ (x : PathName). same_name x y) is) ∙ same) i) (Some e) (named y back)))
            ∙ sym (ap (λ (b : Bool). cond b (Some e) (named y es)) same)
        by false same =
            ap (λ (b : Bool). or_other (named y front) (cond b (Some e) (named y back))) (ap (λ (x : PathName). same_name x y) is ∙ same)
            ∙ sym (named_append y front back) ∙ ap (λ (l : List DirEntry). named y l) others ∙ kept_named (is_other name) y es
            ∙ ap (λ (b : Bool). cond (not b) (named y es) None) (same_name-symm y name ∙ same)
            ∙ sym (ap (λ (b : Bool). cond b (Some e) (named y es)) same)

    keeps : (also : PathName → Bool) → all_names also es ≡ true → also name ≡ true → all_names also (front ++ e ∷ back) ≡ true
    keeps also all this = let two = parts also (kept_all (is_other name) also es all) in all_both also front (e ∷ back) two.0 (λ i. (ap also is ∙ this) i && two.1 i)

    count : length (front ++ e ∷ back) + cond (is_some (named name es)) 1 0 ≤ length es + 1
    count =
        let h = count_others name es in
        let g = length-append front (e ∷ back) in
        let f = length-append front back in
        let same = ap (λ (l : List DirEntry). length l) others in
        omega (arith, h, g, f, same)

-- none behind it
pub gone_in_leaf : (name : PathName) (es : List DirEntry) → IsChangedList es (kept_names (is_other name) es) name None
gone_in_leaf name es = record {
  put = λ y. kept_named (is_other name) y es ∙ by y (same_name name y) refl;
  keeps = λ also all this. kept_all (is_other name) also es all;
  count = (let h = count_others name es in omega (arith, h));
}
  where
    by : (y : PathName) (b : Bool) → same_name name y ≡ b → cond (not (same_name y name)) (named y es) None ≡ cond (same_name name y) None (named y es)
    by y true same = (λ i. cond (not ((same_name-symm y name ∙ same) i)) (named y es) None) ∙ sym (ap (λ (b : Bool). cond b None (named y es)) same)
    by y false same = (λ i. cond (not ((same_name-symm y name ∙ same) i)) (named y es) None) ∙ sym (ap (λ (b : Bool). cond b None (named y es)) same)

-- the entries in two parts
pub same_parts : (middle : PathName) (es : List DirEntry) → IsSameList es (kept_names (is_below middle) es ++ kept_names (is_from middle) es)
same_parts middle es = record { alike = alike; keeps = keeps; count = count }
  where
    Low : List DirEntry
    Low = kept_names (is_below middle) es

    High : List DirEntry
    High = kept_names (is_from middle) es

    alike : (y : PathName) → named y (Low ++ High) ≡ named y es
    alike y = named_append y Low High ∙ (λ i. or_other (kept_named (is_below middle) y es i) (kept_named (is_from middle) y es i)) ∙ by (is_below middle y)
      where
        by : (b : Bool) → or_other (cond b (named y es) None) (cond (not b) (named y es) None) ≡ named y es
        by true = or_none (named y es)
        by false = refl

    keeps : (also : PathName → Bool) → all_names also es ≡ true → all_names also (Low ++ High) ≡ true
    keeps also all = all_both also Low High (kept_all (is_below middle) also es all) (kept_all (is_from middle) also es all)

    count : length (Low ++ High) ≡ length es
    count = length-append Low High ∙ length-filter_both (λ (e : DirEntry). is_below middle e.name) (λ (e : DirEntry). is_from middle e.name) (λ e. refl) es

pub same_list : (es new : List DirEntry) → new ≡ es → IsSameList es new
same_list es new is = record {
  alike = λ y. ap (λ (l : List DirEntry). named y l) is;
  keeps = λ also all. ap (λ (l : List DirEntry). all_names also l) is ∙ all;
  count = ap (λ (l : List DirEntry). length l) is;
}

-- ---- a branch

-- a name whose hash is below the number is looked for on the low side
pub low_named : (middle : PathName) (y : PathName) (low high : List DirEntry) → all_names (is_from middle) high ≡ true → is_below middle y ≡ true → named y (low ++ high) ≡ named y low
low_named middle y low high all this = named_append y low high ∙ ap (λ (o : Option DirEntry). or_other (named y low) o) (none_named (is_from middle) y high all (ap not this)) ∙ or_none (named y low)

-- and any other on the high side
pub high_named : (middle : PathName) (y : PathName) (low high : List DirEntry) → all_names (is_below middle) low ≡ true → is_below middle y ≡ false → named y (low ++ high) ≡ named y high
high_named middle y low high all this = named_append y low high ∙ ap (λ (o : Option DirEntry). or_other o (named y high)) (none_named (is_below middle) y low all this)

module _ (middle : PathName) (name : PathName) (low high : List DirEntry) (e : Option DirEntry) (lows : all_names (is_below middle) low ≡ true) (highs : all_names (is_from middle) high ≡ true) where
  -- the low side is changed
  pub low_changed : (new : List DirEntry) → is_below middle name ≡ true → IsChangedList low new name e → IsChangedList (low ++ high) (new ++ high) name e
  low_changed new this c = record { put = put; keeps = keeps; count = count }
    where
      news : all_names (is_below middle) new ≡ true
      news = c.keeps (is_below middle) lows this

      put : IsPut (low ++ high) name e (new ++ high)
      put y = by (is_below middle y) refl
        where
          by : (b : Bool) → is_below middle y ≡ b → named y (new ++ high) ≡ cond (same_name name y) e (named y (low ++ high))
          by true is = low_named middle y new high highs is ∙ c.put y ∙ ap (λ (o : Option DirEntry). cond (same_name name y) e o) (sym (low_named middle y low high highs is))
          by false is = high_named middle y new high news is ∙ sym (high_named middle y low high lows is) ∙ sym (other (same_name name y) refl)
            where
              other : (s : Bool) → same_name name y ≡ s → cond (same_name name y) e (named y (low ++ high)) ≡ named y (low ++ high)
              other true same = let h : true ≡ false = sym this ∙ ap (is_below middle) (same_name-is name y same) ∙ is in absurd cc
              other false same = ap (λ (s : Bool). cond s e (named y (low ++ high))) same

      keeps : (also : PathName → Bool) → all_names also (low ++ high) ≡ true → also name ≡ true → all_names also (new ++ high) ≡ true
      keeps also all said = let parts = all_parts also low high all in all_both also new high (c.keeps also parts.0 said) parts.1

      count : length (new ++ high) + cond (is_some (named name (low ++ high))) 1 0 ≤ length (low ++ high) + cond (is_some e) 1 0
      count =
          let h = c.count in
          let g = length-append new high in
          let f = length-append low high in
          let same = ap {B = ℕ} (λ (o : Option DirEntry). cond (is_some o) 1 0) (low_named middle name low high highs this) in
          omega (arith, h, g, f, same)

  -- or the high side
  pub high_changed : (new : List DirEntry) → is_below middle name ≡ false → IsChangedList high new name e → IsChangedList (low ++ high) (low ++ new) name e
  high_changed new this c = record { put = put; keeps = keeps; count = count }
    where
      news : all_names (is_from middle) new ≡ true
      news = c.keeps (is_from middle) highs (ap not this)

      put : IsPut (low ++ high) name e (low ++ new)
      put y = by (is_below middle y) refl
        where
          by : (b : Bool) → is_below middle y ≡ b → named y (low ++ new) ≡ cond (same_name name y) e (named y (low ++ high))
          by false is = high_named middle y low new lows is ∙ c.put y ∙ ap (λ (o : Option DirEntry). cond (same_name name y) e o) (sym (high_named middle y low high lows is))
          by true is = low_named middle y low new news is ∙ sym (low_named middle y low high highs is) ∙ sym (other (same_name name y) refl)
            where
              other : (s : Bool) → same_name name y ≡ s → cond (same_name name y) e (named y (low ++ high)) ≡ named y (low ++ high)
              other true same = let h : false ≡ true = sym this ∙ ap (is_below middle) (same_name-is name y same) ∙ is in absurd cc
              other false same = ap (λ (s : Bool). cond s e (named y (low ++ high))) same

      keeps : (also : PathName → Bool) → all_names also (low ++ high) ≡ true → also name ≡ true → all_names also (low ++ new) ≡ true
      keeps also all said = let parts = all_parts also low high all in all_both also low new parts.0 (c.keeps also parts.1 said)

      count : length (low ++ new) + cond (is_some (named name (low ++ high))) 1 0 ≤ length (low ++ high) + cond (is_some e) 1 0
      count =
          let h = c.count in
          let g = length-append low new in
          let f = length-append low high in
          let same = ap {B = ℕ} (λ (o : Option DirEntry). cond (is_some o) 1 0) (high_named middle name low high lows this) in
          omega (arith, h, g, f, same)

-- ---- as they are made

pub leaf_gone : (name : PathName) (es all left : List DirEntry) → all ≡ es → left ≡ kept_names (is_other name) all → IsChangedList es left name None
leaf_gone name es all left same kept = subst (λ (l : List DirEntry). IsChangedList es l name None) (sym (kept ∙ ap (λ (l : List DirEntry). kept_names (is_other name) l) same)) (gone_in_leaf name es)

pub leaf_put : (name : PathName) (es all left new : List DirEntry) (e : DirEntry) → all ≡ es → left ≡ kept_names (is_other name) all → IsAmong left e new → e.name ≡ name → IsChangedList es new name (Some e)
leaf_put name es all left new e same kept among is =
    subst (λ (l : List DirEntry). IsChangedList es l name (Some e)) (sym among.is)
    (put_in_leaf name es among.front among.back e (among.parts ∙ kept ∙ ap (λ (l : List DirEntry). kept_names (is_other name) l) same) is)
