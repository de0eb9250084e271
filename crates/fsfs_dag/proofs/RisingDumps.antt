-- Entries written one after another, as long as their names rise.
use Rattle.std.proofs.Common.{◌≡◌, ◌∙◌, ℕ, false, cond, List, [], ◌∷◌, ◌++◌, Some, None, refl, sym, ap, subst, append_assoc, append-nil, Ordering, Less, Greater}
use Rattle.std.specs.Prelude.{is_some, codes}
use Rattle.std.specs.List.{AllByRecursion}
use Rattle.std.specs.Ordering.{is_eq, match_ordering, ordering_reverse}
use Rattle.std.specs.Cmp.Lexicographic.{nat_list_cmp_total}
use Rattle.std.specs.BTreeMap.{insert_entry, is_at}
use Rattle.std.specs.Map.{lookup}
use Rattle.fsfs_base.specs.Paths.{PathName}
use Rattle.fsfs_layout.specs.Hash.Dump.{Entries, Ascending}
use Rattle.fsfs_layout.proofs.OneText.{entries_one}
use Rattle.fsfs_layout.proofs.PutPairs.{put_all-ascending}
use Rattle.fsfs_layout.proofs.Rising.{Rise, rises_none, rises_more}
use Rattle.fsfs_revision.specs.Shows.Reading.{Pairs, DirEntry}
use Rattle.fsfs_revision.proofs.PairLookups.{text_cmp}
use Rattle.fsfs_dag.specs.Entries.{LeadTo, HasFirsts}
use Rattle.fsfs_dag.specs.EntryDumps.{IsListText, IsEntryAdded}
use Rattle.fsfs_dag.proofs.EntryPairs.{lead_none, lead_more}
use Rattle.fsfs_dag.proofs.FirstEntries.{firsts_none, firsts_list, put_first_in}

abbrev Named : Type 0
Named = List ℕ × List ℕ

-- ---- a pair above all others

reversed : (x y : List ℕ) → text_cmp x y ≡ Less → text_cmp y x ≡ Greater
reversed x y less = nat_list_cmp_total.antisymm y x ∙ ap ordering_reverse less

above : (k : List ℕ) (ps : Pairs) (x : Named) → AllByRecursion (λ p. text_cmp k p.0 ≡ Less) (ps ++ x ∷ []) → text_cmp k x.0 ≡ Less
above k [] x h = h.0
above k (p ∷ ps) x h = above k ps x h.1

before_last : (ps : Pairs) (x : Named) → Ascending (ps ++ x ∷ []) → AllByRecursion (λ p. text_cmp p.0 x.0 ≡ Less) ps
before_last [] x order = tt
before_last (p ∷ ps) x order = (above p.0 ps x order.0, before_last ps x order.1)

put_last : (ps : Pairs) (k v : List ℕ) → AllByRecursion (λ p. text_cmp p.0 k ≡ Less) ps → insert_entry text_cmp ps k v ≡ ps ++ (k, v) ∷ []
put_last [] k v below = refl
put_last (p ∷ ps) k v below =
    ap (λ (o : Ordering). match_ordering o ((k, v) ∷ p ∷ ps) ((p.0, v) ∷ ps) (p ∷ insert_entry text_cmp ps k v)) (reversed p.0 k below.0)
    ∙ ap (λ (qs : Pairs). p ∷ qs) (put_last ps k v below.1)

lacks : (ps : Pairs) (k : List ℕ) → AllByRecursion (λ p. text_cmp p.0 k ≡ Less) ps → lookup (is_at (text_cmp k)) ps ≡ None
lacks [] k below = refl
lacks (p ∷ ps) k below = ap (λ (o : Ordering). cond (is_eq o) (Some p.1) (lookup (is_at (text_cmp k)) ps)) (reversed p.0 k below.0) ∙ lacks ps k below.1

-- ---- the loop

-- the pairs of the entries so far were put, and rise up to the last name
pub record IsSoFar (es : List DirEntry) (last : PathName) (out : List ℕ) : Type 0 where
  pub pairs : Pairs
  pub rise : Rise last pairs
  pub begins : (tail : List ℕ) (rest : Pairs) → Entries tail rest → Entries (out ++ tail) (pairs ++ rest)
  pub lead : LeadTo es pairs
  pub firsts : HasFirsts es pairs

pub so_far_none : (last out : List ℕ) → out ≡ [] → IsSoFar [] last out
so_far_none last out none = record {
  pairs = [];
  rise = rises_none last;
  begins = λ tail rest w. subst (λ (t : List ℕ). Entries (t ++ tail) rest) (sym none) w;
  lead = lead_none;
  firsts = firsts_none;
}

pub so_far_more : (es : List DirEntry) (last out new : List ℕ) (e : DirEntry) → IsSoFar es last out → text_cmp last e.name ≡ Less → IsEntryAdded out new e → IsSoFar (es ++ e ∷ []) e.name new
so_far_more es last out new e so less added =
    let pair : Named = (e.name, added.value) in
    let rise = rises_more last so.pairs pair so.rise less in
    let below = before_last so.pairs pair rise.order in
    let gone : is_some (lookup (is_at (text_cmp e.name)) so.pairs) ≡ false = ap is_some (lacks so.pairs e.name below) in
    let put = put_last so.pairs e.name added.value below in
    record {
      pairs = so.pairs ++ pair ∷ [];
      rise = rise;
      begins = λ tail rest w.
          (let one : Entries (added.put.text ++ tail) (pair ∷ rest) = (added.put.text, tail, added.put.text_is, w, refl) in
          let texts : out ++ (added.put.text ++ tail) ≡ new ++ tail = sym (ap (λ (t : List ℕ). t ++ tail) added.put.parts ∙ append_assoc out added.put.text tail) in
          subst (λ (t : List ℕ). Entries t ((so.pairs ++ pair ∷ []) ++ rest)) texts
          (subst (λ (ps : Pairs). Entries (out ++ (added.put.text ++ tail)) ps) (sym (append_assoc so.pairs (pair ∷ []) rest)) (so.begins (added.put.text ++ tail) (pair ∷ rest) one)));
      lead = subst (λ (ps : Pairs). LeadTo (es ++ e ∷ []) ps) put (lead_more es e so.pairs added.value so.lead gone added.told);
      firsts = subst (λ (ps : Pairs). HasFirsts (es ++ e ∷ []) ps) put (put_first_in es e so.pairs added.value added.short so.firsts gone added.value_is);
    }

pub so_far_all : (es : List DirEntry) (last out text : List ℕ) → IsSoFar es last out → text ≡ out ++ codes "END\n" → IsListText es text
so_far_all es last out text so is =
    let whole : Entries (out ++ codes "END\n") (so.pairs ++ []) = so.begins (codes "END\n") [] (tt, refl) in
    let in_order : Entries text so.pairs = subst (λ (t : List ℕ). Entries t so.pairs) (sym is) (subst (λ (ps : Pairs). Entries (out ++ codes "END\n") ps) (append-nil so.pairs) whole) in
    record {
      pairs = so.pairs;
      text_is = entries_one text so.pairs in_order;
      in_order = in_order;
      dump = record { inner = so.pairs; inner_is = in_order; value_is = sym (put_all-ascending so.pairs so.rise.order) };
      lead = so.lead;
      lists = firsts_list es so.pairs so.firsts;
    }
