-- Each entry of a directory has a name of its own.
use Rattle.std.proofs.Common.{◌≡◌, ◌⊎◌, ◌++◌, ℕ, suc, Bool, true, false, cond, List, [], ◌∷◌, refl, sym, ap, subst, ◌∙◌, inl, inr, Less, Ordering}
use Rattle.std.specs.Prelude.{◌≢◌, Contains, Ok, Option, Some, None}
use Rattle.std.proofs.lemmas.List.Elements.{Contains-append_cases}
use Rattle.std.specs.List.{AllByRecursion}
use Rattle.std.specs.Ordering.{is_eq}
use Rattle.fsfs_base.specs.Paths.{PathName, same_name}
use Rattle.fsfs_base.proofs.PathLemmas.{same_name-refl, same_name-is, same_name-symm}
use Rattle.fsfs_layout.specs.Hash.Dump.{Ascending, put, put_all}
use Rattle.fsfs_noderev.specs.declared.rep.Contents.{Contents}
use Rattle.fsfs_noderev.specs.declared.rep.Contents.TheVariants as contents
use Rattle.fsfs_noderev.specs.declared.node_rev.NodeRev.{NodeRev}
use Rattle.fsfs_revision.specs.Told.{RevisionBytes}
use Rattle.fsfs_revision.specs.declared.damage.RevOffset.{RevOffset}
use Rattle.fsfs_revision.specs.Shows.Reading.{DirEntry, Pairs, AreEntries, EntriesAt, EntriesOf, OfContents, named, offset_of}
use Rattle.fsfs_revision.proofs.OneAnswer.{ok_same}
use Rattle.fsfs_revision.proofs.PairLookups.{text_cmp, tests_one}
use Rattle.fsfs_dag.proofs.EntryPairs.{ordered_put}
use Rattle.fsfs_dag.specs.TreeWalks.{Left, at_level}
use Rattle.fsfs_verify.specs.Walks.{AreApart}
use Rattle.fsfs_verify.proofs.ListLemmas.{contains_nil, contains_cons, contains_first, contains_rest}

-- ---- what is found by a name

pub name_is : (name : PathName) (es : List DirEntry) (e : DirEntry) → named name es ≡ Some e → e.name ≡ name
name_is name [] e is = absurd cc
name_is name (x ∷ es) e is = by (same_name x.name name) refl is (name_is name es e)
  where
    by : (b : Bool) → same_name x.name name ≡ b → cond b (Some x) (named name es) ≡ Some e → (named name es ≡ Some e → e.name ≡ name) → e.name ≡ name
    by true same got rest = let one : x ≡ e = cc in ap (λ (y : DirEntry). y.name) (sym one) ∙ same_name-is x.name name same
    by false other got rest = rest got

pub name_among : (name : PathName) (es : List DirEntry) (e : DirEntry) → named name es ≡ Some e → Contains es e
name_among name [] e is = absurd cc
name_among name (x ∷ es) e is = by (same_name x.name name) is (λ got. contains_rest x es e (name_among name es e got))
  where
    by : (b : Bool) → cond b (Some x) (named name es) ≡ Some e → (named name es ≡ Some e → Contains (x ∷ es) e) → Contains (x ∷ es) e
    by true got rest = let one : x ≡ e = cc in subst (λ (y : DirEntry). Contains (x ∷ es) y) one (contains_first x es)
    by false got rest = rest got

-- ---- the names rise

ordered_all : (es ps : Pairs) → Ascending ps → Ascending (put_all ps es)
ordered_all [] ps up = up
ordered_all (e ∷ es) ps up = ordered_all es (put ps e) (ordered_put ps e.0 e.1 up)

-- one name behind another is another
pub behind_other : (x y : PathName) → text_cmp x y ≡ Less → same_name y x ≡ false
behind_other x y less = sym (tests_one x y) ∙ ap is_eq less

-- ---- on a level

pub level_entry : (level : ℕ) (es : List DirEntry) (q : ℕ × DirEntry) → Contains (at_level level es) q → (q.0 ≡ level) × Contains es q.1
level_entry level [] q there = absurd (contains_nil q there)
level_entry level (f ∷ es) q there = by (contains_cons (level, f) (at_level level es) q there) (level_entry level es q)
  where
    by : (let x : ℕ × DirEntry = (level, f) in x ≡ q) ⊎ Contains (at_level level es) q → (Contains (at_level level es) q → (q.0 ≡ level) × Contains es q.1) → (q.0 ≡ level) × Contains (f ∷ es) q.1
    by (inl same) on = (ap (λ (x : ℕ × DirEntry). x.0) (sym same), subst (λ (x : ℕ × DirEntry). Contains (f ∷ es) x.1) same (contains_first f es))
    by (inr rest) on = let w = on rest in (w.0, contains_rest f es q.1 w.1)

pub entry_level : (level : ℕ) (es : List DirEntry) (e : DirEntry) → Contains es e → Contains (at_level level es) (level, e)
entry_level level [] e there = absurd (contains_nil e there)
entry_level level (f ∷ es) e there = by (contains_cons f es e there) (entry_level level es e)
  where
    by : (f ≡ e) ⊎ Contains es e → (Contains es e → Contains (at_level level es) (level, e)) → Contains (at_level level (f ∷ es)) (level, e)
    by (inl same) on = subst (λ (x : DirEntry). Contains (at_level level (f ∷ es)) (level, x)) same (contains_first (level, f) (at_level level es))
    by (inr rest) on = contains_rest (level, f) (at_level level es) (level, e) (on rest)

pub apart_join : (xs ys : Left) → AreApart xs → AreApart ys → ((p q : ℕ × DirEntry) → Contains xs p → Contains ys q → p.0 ≢ q.0) → AreApart (xs ++ ys)
apart_join [] ys a b other = b
apart_join (x ∷ xs) ys a b other = ((λ q there one. by q one (Contains-append_cases xs ys q there)), apart_join xs ys a.1 b (λ p q x y. other p q (contains_rest _ xs p x) y))
  where
    by : (q : ℕ × DirEntry) → x.0 ≡ q.0 → Contains xs q ⊎ Contains ys q → x.1.name ≢ q.1.name
    by q one (inl there) = a.0 q there one
    by q one (inr there) = absurd (other x q (contains_first x xs) there one)

module _ (home : RevOffset) where
  above_all : (x : PathName) (pairs : Pairs) (es : List DirEntry) → AllByRecursion (λ p. text_cmp x p.0 ≡ Less) pairs → AreEntries home pairs es → (e : DirEntry) → Contains es e → text_cmp x e.name ≡ Less
  above_all x [] [] below are e there = absurd (contains_nil e there)
  above_all x [] (f ∷ es) below are e there = absurd are
  above_all x (p ∷ pairs) [] below are e there = absurd are
  above_all x (p ∷ pairs) (f ∷ es) below are e there = by (contains_cons f es e there) (above_all x pairs es below.1 are.1 e)
    where
      by : (f ≡ e) ⊎ Contains es e → (Contains es e → text_cmp x e.name ≡ Less) → text_cmp x e.name ≡ Less
      by (inl same) on = subst (λ (n : PathName). text_cmp x n ≡ Less) (are.0.name ∙ ap (λ (y : DirEntry). y.name) same) below.0
      by (inr rest) on = on rest

  named_in : (pairs : Pairs) (es : List DirEntry) → Ascending pairs → AreEntries home pairs es → (e : DirEntry) → Contains es e → named e.name es ≡ Some e
  named_in [] [] up are e there = absurd (contains_nil e there)
  named_in [] (f ∷ es) up are e there = absurd are
  named_in (p ∷ pairs) [] up are e there = absurd are
  named_in (p ∷ pairs) (f ∷ es) up are e there = by (contains_cons f es e there) (named_in pairs es up.1 are.1 e)
    where
      by : (f ≡ e) ⊎ Contains es e → (Contains es e → named e.name es ≡ Some e) → named e.name (f ∷ es) ≡ Some e
      by (inl same) on = subst (λ (y : DirEntry). named y.name (f ∷ es) ≡ Some y) same (ap (λ (b : Bool). cond b (Some f) (named f.name es)) (same_name-refl f.name))
      by (inr rest) on =
          let less : text_cmp f.name e.name ≡ Less = subst (λ (n : PathName). text_cmp n e.name ≡ Less) are.0.name (above_all p.0 pairs es up.0 are.1 e rest) in
          let other : same_name f.name e.name ≡ false = same_name-symm f.name e.name ∙ behind_other f.name e.name less in
          ap (λ (b : Bool). cond b (Some f) (named e.name es)) other ∙ on rest

  apart_in : (level : ℕ) (pairs : Pairs) (es : List DirEntry) → Ascending pairs → AreEntries home pairs es → AreApart (at_level level es)
  apart_in level [] [] up are = tt
  apart_in level [] (f ∷ es) up are = absurd are
  apart_in level (p ∷ pairs) [] up are = absurd are
  apart_in level (p ∷ pairs) (f ∷ es) up are = (
    (λ q there one same. (
        let less : text_cmp f.name q.1.name ≡ Less = subst (λ (n : PathName). text_cmp n q.1.name ≡ Less) are.0.name (above_all p.0 pairs es up.0 are.1 q.1 (level_entry level es q there).1) in
        let no : same_name q.1.name f.name ≡ false = behind_other f.name q.1.name less in
        let yes : same_name q.1.name f.name ≡ true = subst (λ (n : PathName). same_name n f.name ≡ true) same (same_name-refl f.name) in
        let e : true ≡ false = sym yes ∙ no in
        cc)),
    apart_in level pairs es up.1 are.1,
  )

-- ---- a directory's entries

module _ (look : RevisionBytes) (v : NodeRev) where
  by_text : (o : Option Contents) (es : List DirEntry) → OfContents [] (EntriesAt look (offset_of v.id.place)) o (Ok es) → (pairs : Pairs) × Ascending pairs × AreEntries (offset_of v.id.place) pairs es
  by_text None es read = let none : es ≡ [] = ok_same es [] read in ([], tt, subst (λ (x : List DirEntry). AreEntries (offset_of v.id.place) [] x) (sym none) tt)
  by_text (Some contents.Own) es read = absurd read
  by_text (Some (contents.At rep)) es read =
      let dump = read.1.2 in
      (read.0, subst (λ (ps : Pairs). Ascending ps) (sym dump.value_is) (ordered_all dump.inner [] tt), read.2)

  pub own_name : (es : List DirEntry) → EntriesOf look v (Ok es) → (e : DirEntry) → Contains es e → named e.name es ≡ Some e
  own_name es read e there = let w = by_text v.text es read in named_in (offset_of v.id.place) w.0 es w.1 w.2 e there

  pub own_names : (level : ℕ) (es : List DirEntry) → EntriesOf look v (Ok es) → AreApart (at_level level es)
  own_names level es read = let w = by_text v.text es read in apart_in (offset_of v.id.place) level w.0 es w.1 w.2
