-- The names of a directory's entries rise by their bytes, so that each stands there once.
use Rattle.std.proofs.Common.{◌≡◌, ℕ, Bool, false, if◌then◌else◌, List, [], ◌∷◌, Option, Some, None, Ok, refl, sym, ap, subst, ◌∙◌, Ordering, Less, Equal, Greater}
use Rattle.std.proofs.lemmas.Bool.{false_from_ne_true}
use Rattle.std.specs.List.{AllByRecursion}
use Rattle.std.specs.Ordering.{ordering_reverse}
use Rattle.std.specs.Cmp.{tied_itself}
use Rattle.std.specs.Cmp.Lexicographic.{nat_list_cmp_total}
use Rattle.fsfs_base.specs.Paths.{PathName, name_cmp, same_name}
use Rattle.fsfs_base.proofs.PathLemmas.{same_name-refl, same_name-is}
use Rattle.fsfs_revision.specs.Told.{RevisionBytes}
use Rattle.fsfs_noderev.specs.declared.rep.Contents.{Contents}
use Rattle.fsfs_noderev.specs.declared.rep.Contents.TheVariants as contents
use Rattle.fsfs_noderev.specs.declared.node_rev.NodeRev.{NodeRev}
use Rattle.fsfs_revision.specs.declared.damage.RevOffset.{RevOffset}
use Rattle.fsfs_layout.specs.Hash.Dump.{put, put_all}
use Rattle.fsfs_revision.specs.Shows.Reading.{Pairs, DirEntry, named, AreEntries, OfContents, EntriesAt, EntriesOf, offset_of}
use Rattle.fsfs_revision.proofs.OneAnswer.{ok_same}

-- each name is before those behind it
abbrev pub NamesRise : List DirEntry → Type 0
NamesRise [] = Unit {0}
NamesRise (e ∷ es) = AllByRecursion (λ f. name_cmp e.name f.name ≡ Less) es × NamesRise es

-- ---- the keys of a dump

abbrev KeyIsBefore : List ℕ → Pairs → Type 0
KeyIsBefore k es = AllByRecursion (λ e. name_cmp k e.0 ≡ Less) es

abbrev KeysRise : Pairs → Type 0
KeysRise [] = Unit {0}
KeysRise (e ∷ es) = KeyIsBefore e.0 es × KeysRise es

before_later : (k l : List ℕ) (es : Pairs) → name_cmp k l ≡ Less → KeyIsBefore l es → KeyIsBefore k es
before_later k l [] lt h = tt
before_later k l (e ∷ es) lt h = (nat_list_cmp_total.trans k l e.0 lt h.0, before_later k l es lt h.1)

before_put : (j k v : List ℕ) (es : Pairs) → name_cmp j k ≡ Less → KeyIsBefore j es → KeyIsBefore j (put es (k, v))
before_put j k v [] lt h = (lt, tt)
before_put j k v (e ∷ es) lt h = by (name_cmp k e.0) refl (before_put j k v es lt h.1)
  where
    by : (o : Ordering) → name_cmp k e.0 ≡ o → KeyIsBefore j (put es (k, v)) → KeyIsBefore j (put (e ∷ es) (k, v))
    by Less is rest = rw is (lt, h)
    by Equal is rest = rw is h
    by Greater is rest = rw is (h.0, rest)

put_rises : (k v : List ℕ) (es : Pairs) → KeysRise es → KeysRise (put es (k, v))
put_rises k v [] h = (tt, tt)
put_rises k v (e ∷ es) h = by (name_cmp k e.0) refl (put_rises k v es h.1)
  where
    by : (o : Ordering) → name_cmp k e.0 ≡ o → KeysRise (put es (k, v)) → KeysRise (put (e ∷ es) (k, v))
    by Less is rest = rw is ((is, before_later k e.0 es is h.0), h)
    by Equal is rest = rw is h
    by Greater is rest = rw is (before_put e.0 k v es (nat_list_cmp_total.antisymm e.0 k ∙ ap ordering_reverse is) h.0, rest)

put_all_rises : (pairs es : Pairs) → KeysRise pairs → KeysRise (put_all pairs es)
put_all_rises pairs [] h = h
put_all_rises pairs (e ∷ es) h = put_all_rises (put pairs e) es (put_rises e.0 e.1 pairs h)

-- ---- the names of the entries

module _ (home : RevOffset) where
  name_is_before : (k : List ℕ) (e : DirEntry) (pairs : Pairs) (es : List DirEntry) → k ≡ e.name → AreEntries home pairs es → KeyIsBefore k pairs → AllByRecursion (λ f. name_cmp e.name f.name ≡ Less) es
  name_is_before k e [] [] same are h = tt
  name_is_before k e [] (f ∷ es) same are h = absurd are
  name_is_before k e (p ∷ pairs) [] same are h = absurd are
  name_is_before k e (p ∷ pairs) (f ∷ es) same are h = ((λ i. name_cmp (sym same i) (sym are.0.name i)) ∙ h.0, name_is_before k e pairs es same are.1 h.1)

  names_rise : (pairs : Pairs) (es : List DirEntry) → AreEntries home pairs es → KeysRise pairs → NamesRise es
  names_rise [] [] are h = tt
  names_rise [] (e ∷ es) are h = absurd are
  names_rise (p ∷ pairs) [] are h = absurd are
  names_rise (p ∷ pairs) (e ∷ es) are h = (name_is_before p.0 e pairs es are.0.name are.1 h.0, names_rise pairs es are.1 h.1)

contents_rise : (look : RevisionBytes) (home : RevOffset) (text : Option Contents) (es : List DirEntry) → OfContents [] (EntriesAt look home) text (Ok es) → NamesRise es
contents_rise look home None es of = subst NamesRise (sym (ok_same es [] of)) tt
contents_rise look home (Some contents.Own) es of = absurd of
contents_rise look home (Some (contents.At rep)) es of =
    let dump = of.1.2 in
    names_rise home of.0 es of.2 (subst KeysRise (sym dump.value_is) (put_all_rises [] dump.inner tt))

pub entries_rise : (look : RevisionBytes) (v : NodeRev) (es : List DirEntry) → EntriesOf look v (Ok es) → NamesRise es
entries_rise look v es of = contents_rise look (offset_of v.id.place) v.text es of

-- ---- each name leads to its entry

other_name : (a b : PathName) → name_cmp a b ≡ Less → same_name a b ≡ false
other_name a b lt = false_from_ne_true (same_name a b) (λ same.
    let tie : name_cmp a b ≡ Equal = subst (λ (x : PathName). name_cmp a x ≡ Equal) (same_name-is a b same) (tied_itself nat_list_cmp_total a) in
    let e : Less ≡ Equal = sym lt ∙ tie in
    cc)

named_behind : (e : DirEntry) (all es : List DirEntry) → AllByRecursion (λ f. name_cmp e.name f.name ≡ Less) es → AllByRecursion (λ f. named f.name all ≡ Some f) es → AllByRecursion (λ f. named f.name (e ∷ all) ≡ Some f) es
named_behind e all [] before each = tt
named_behind e all (f ∷ es) before each =
    (ap (λ (b : Bool). if b then Some e else named f.name all) (other_name e.name f.name before.0) ∙ each.0, named_behind e all es before.1 each.1)

pub each_named : (es : List DirEntry) → NamesRise es → AllByRecursion (λ e. named e.name es ≡ Some e) es
each_named [] rise = tt
each_named (e ∷ es) rise = (ap (λ (b : Bool). if b then Some e else named e.name es) (same_name-refl e.name), named_behind e es es rise.0 (each_named es rise.1))
