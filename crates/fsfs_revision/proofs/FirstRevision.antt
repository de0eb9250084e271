-- The bytes of revision 0 show `/`, and obey the rules of ids.
use Rattle.std.proofs.Common.{◌≡◌, ◌≤◌, ◌<◌, ℕ, zero, suc, Bool, true, false, ◌&&◌, not, List, [], ◌∷◌, ◌++◌, take, drop, Some, None, refl, sym, ap, subst, ◌∙◌, arith, inl}
use Rattle.std.specs.Prelude.{Ok, ◌==◌, codes}
use Rattle.std.specs.List.{slice_index}
use Rattle.std.proofs.lemmas.Bool.{and_parts, not-true}
use Rattle.std.proofs.lemmas.Str.{IsUtf8-from_ascii}
use Rattle.hex.specs.Hex.{decode_pairs}
use Rattle.md5.specs.Md5.{block_words, rounds, compress, hash_after, digest_bytes, md5}
use Rattle.fsfs_base.specs.Grammar.Reading.{text_at}
use Rattle.fsfs_base.specs.Grammar.Numeral.{IsNumeral, value_after, numeral_at, plain_at, number_at, digits_at}
use Rattle.fsfs_base.specs.Grammar.Cuts.{Lacks}
use Rattle.fsfs_base.specs.declared.grammar.base36.B36.{B36}
use Rattle.fsfs_base.proofs.Readers.{all_found}
use Rattle.fsfs_base.specs.Paths.{PathName, Path}
use Rattle.fsfs_tree.specs.Nodes.{empty_node}
use Rattle.fsfs_base.specs.declared.kind.Kind.TheVariants.{Dir}
use Rattle.fsfs_revision.specs.Told.{RevisionBytes}
use Rattle.fsfs_layout.specs.Hash.Dump.{IsDump}
use Rattle.fsfs_noderev.specs.Ids.{id_at, part_at, place_at, IsNumber64, part_value, Old}
use Rattle.fsfs_noderev.specs.Reps.{contents_at, rep_at, digests_at, digest_at}
use Rattle.fsfs_noderev.specs.Lines.{IsPair}
use Rattle.fsfs_noderev.specs.Fields.{IsIdText, AreContentsText, IsPathText, nothing}
use Rattle.fsfs_noderev.specs.NodeRevs.{Takes, IsNodeRev}
use Rattle.fsfs_noderev.specs.declared.node_id.NodeId.{NodeId}
use Rattle.fsfs_noderev.specs.declared.node_id.Part.TheVariants as part
use Rattle.fsfs_noderev.specs.declared.node_id.Place.TheVariants as place
use Rattle.fsfs_noderev.specs.declared.rep.Rep.{Rep}
use Rattle.fsfs_noderev.specs.declared.rep.Contents.TheVariants as contents
use Rattle.fsfs_noderev.specs.declared.fields.Fields.{Fields}
use Rattle.fsfs_noderev.specs.declared.node_rev.NodeRev.{NodeRev}
use Rattle.fsfs_noderev.specs.declared.node_rev.CopySource.{CopySource}
use Rattle.fsfs_noderev.proofs.IdTexts.{id_spells}
use Rattle.fsfs_noderev.proofs.RepTexts.{contents_spells}
use Rattle.fsfs_noderev.proofs.Lengths.{reads_back}
use Rattle.fsfs_revision.specs.Rep.Frames.{IsWhole}
use Rattle.fsfs_revision.specs.Trailers.{trailer_at, EndsWith}
use Rattle.fsfs_revision.specs.Damages.{RootIn}
use Rattle.fsfs_revision.specs.Damage.Damages.{place_of}
use Rattle.fsfs_revision.specs.Nodes.{IsNodeAt}
use Rattle.fsfs_revision.specs.declared.trailer.Trailer.{Trailer}
use Rattle.fsfs_revision.proofs.TrailerLemmas.{trailer_reads}
use Rattle.fsfs_revision.specs.Shows.Reading.{EntriesOf, ChildOf, Met, Stands, Lacking, MetAt, StandsAt}
use Rattle.fsfs_revision.specs.Shows.Chains.{own_rev, IsPred, First, copy_root_of, IsCopiedIn}
use Rattle.fsfs_revision.specs.Shows.Shown.{IsShown, IsShownAs, Shows}
use Rattle.fsfs_revision.specs.Shows.IdRules.{IsOf, IsChild, HasSuffix, IdRule}
use Rattle.fsfs_base.specs.FirstRevision.{first_bytes}
use Rattle.fsfs_revision.specs.Shows.FirstRevision.{first_tree}
use Rattle.fsfs_revision.proofs.OneWalk.{met_same, stands_same}

-- ---- bytes that lack one, by a test

abbrev pub is_free_of : ℕ → List ℕ → Bool
is_free_of c [] = true
is_free_of c (b ∷ bs) = not (b == c) && is_free_of c bs

lacks : (c : ℕ) (text : List ℕ) → is_free_of c text ≡ true → Lacks c text
lacks c [] e = tt
lacks c (b ∷ bs) e = let p = and_parts (not (b == c)) (is_free_of c bs) e in (not-true (b == c) p.0, lacks c bs p.1)

-- ---- the root's node-revision

abbrev pub zero_b36 : B36
zero_b36 = record { number = 0; small = omega arith }

abbrev pub root_id : NodeId
root_id = record { node = part.Old zero_b36; copy = part.Old zero_b36; place = place.At 0 17 }

abbrev root_rep : Rep
root_rep = record { rev = Some 0; offset = 0; length = 4; size = 4; md5 = record { bytes = 45 ∷ 41 ∷ 119 ∷ 209 ∷ 201 ∷ 111 ∷ 72 ∷ 122 ∷ 190 ∷ 74 ∷ 30 ∷ 32 ∷ 45 ∷ 208 ∷ 59 ∷ 78 ∷ [] }; unique = None }

abbrev pub root : NodeRev
root = record { id = root_id; kind = Dir; predecessor = None; count = 0; text = Some (contents.At root_rep); props = None; created_path = []; copy_from = None; copy_root = None; is_fresh_txn_root = false; mergeinfo_count = None; has_mergeinfo = false }

abbrev root_fields : Fields
root_fields = record nothing { id = Some root_id; kind = Some Dir; count = Some 0; text = Some (contents.At root_rep); created_path = Some [] }

id_is : IsIdText (codes "0.0.r0/17") root_id
unfolding id_at part_at place_at numeral_at plain_at
id_is = id_spells.found (codes "0.0.r0/17") _ refl

text_is : AreContentsText (codes "0 0 4 4 2d2977d1c96f487abe4a1e202dd03b4e") (contents.At root_rep)
unfolding contents_at rep_at digests_at digest_at numeral_at plain_at decode_pairs
text_is = contents_spells.found (codes "0 0 4 4 2d2977d1c96f487abe4a1e202dd03b4e") _ refl

slash_is_ascii : (i : ℕ) → slice_index (codes "/") i < 128
slash_is_ascii zero = omega arith
slash_is_ascii (suc i) = omega arith

pub path_is : IsPathText (codes "/") []
path_is = record { path_is = record { names = tt; deep = omega arith; fits = omega arith }; text_is = refl; utf8 = IsUtf8-from_ascii (codes "/") slash_is_ascii }

pub zero_digit : IsNumeral 10 (codes "0") 0
unfolding value_after
zero_digit = ((omega arith, tt), (λ e. refl), refl)

count_is : IsNumber64 (codes "0") 0
count_is = (zero_digit, omega arith)

abbrev root_lines : List (List ℕ × List ℕ)
root_lines = (codes "id", codes "0.0.r0/17") ∷ (codes "type", codes "dir") ∷ (codes "count", codes "0") ∷ (codes "text", codes "0 0 4 4 2d2977d1c96f487abe4a1e202dd03b4e") ∷ (codes "cpath", codes "/") ∷ []

pub pair_of : (name value : List ℕ) → (name ≡ [] → ⊥) → is_free_of 58 name ≡ true → is_free_of 10 name ≡ true → is_free_of 10 value ≡ true → IsPair (name, value)
pair_of name value filled a b c = record { filled = filled; colon = lacks 58 name a; name = lacks 10 name b; value = lacks 10 value c }

taken : Takes nothing root_lines root_fields
taken = (
  pair_of (codes "id") (codes "0.0.r0/17") (λ e. absurd cc) refl refl refl,
  _,
  (refl, root_id, id_is, refl),
  (
    pair_of (codes "type") (codes "dir") (λ e. absurd cc) refl refl refl,
    _,
    (refl, Dir, refl, refl),
    (
      pair_of (codes "count") (codes "0") (λ e. absurd cc) refl refl refl,
      _,
      (refl, 0, count_is, refl),
      (
        pair_of (codes "text") (codes "0 0 4 4 2d2977d1c96f487abe4a1e202dd03b4e") (λ e. absurd cc) refl refl refl,
        _,
        (refl, contents.At root_rep, text_is, refl),
        (
          pair_of (codes "cpath") (codes "/") (λ e. absurd cc) refl refl refl,
          _,
          (refl, [], path_is, refl),
          refl,
        ),
      ),
    ),
  ),
)

abbrev pub root_text : List ℕ
root_text = codes "id: 0.0.r0/17\ntype: dir\ncount: 0\ntext: 0 0 4 4 2d2977d1c96f487abe4a1e202dd03b4e\ncpath: /\n\n"

root_is : IsNodeRev root_text root
root_is = record {
  fields = root_fields;
  text_is = record { lines = root_lines; taken = taken; parts = refl };
  means = record { id = refl; kind = refl; predecessor = refl; count = refl; text = refl; props = refl; created_path = refl; copy_from = refl; copy_root = refl; fresh_txn_root = refl; mergeinfo_count = refl; mergeinfo_here = refl };
}

-- ---- the trailer, the root and its directory

abbrev pub trailer : Trailer
trailer = record { root = 17; changes = 107 }

pub trailer_is : trailer_at (codes "\n17 107\n") ≡ Ok (17, 107)
unfolding trailer_at text_at number_at digits_at
trailer_is = refl

abbrev pub trailer_ends : EndsWith 0 first_bytes trailer
trailer_ends = record {
  front = take 107 first_bytes;
  text = codes "\n17 107\n";
  text_is = all_found trailer_reads (codes "\n17 107\n") (17, 107) trailer_is;
  parts = refl;
  within = omega arith;
  root = omega arith;
  changes = omega arith;
}

pub root_node : IsNodeAt (place_of 0 17) (drop 17 first_bytes) root
root_node = ((reads_back 65536 root_text root root_is (omega arith) (codes "\n17 107\n"), refl), refl)

root_there : RootIn 0 first_bytes (Ok root)
root_there = (trailer, trailer_ends, (root, root_node, (refl, refl)))

digest_of_end : md5 (codes "END\n") ≡ 45 ∷ 41 ∷ 119 ∷ 209 ∷ 201 ∷ 111 ∷ 72 ∷ 122 ∷ 190 ∷ 74 ∷ 30 ∷ 32 ∷ 45 ∷ 208 ∷ 59 ∷ 78 ∷ []
unfolding block_words rounds compress hash_after digest_bytes md5
digest_of_end = refl

rep_whole : IsWhole root_rep first_bytes
rep_whole = record { framed = record { header = refl; trailer = refl }; agrees = record { size = λ filled. refl; md5 = sym digest_of_end; sha1 = tt } }

no_pairs : IsDump (codes "END\n") []
no_pairs = record { inner = []; inner_is = (tt, refl); value_is = refl }

-- ---- what is shown

module _ (look : RevisionBytes) (is : look 0 ≡ Ok first_bytes) where
  pub root_stands : StandsAt look 0 [] root
  root_stands = (root, (first_bytes, is, root_there), refl)

  no_entries : EntriesOf look root (Ok [])
  no_entries = ([], (codes "END\n", (first_bytes, is, (refl, rep_whole)), no_pairs), tt)

  no_child : (name : PathName) → ChildOf look root name (Ok None)
  no_child name = ([], no_entries, refl)

  none_below : (name : PathName) (names : Path) → MetAt look 0 (name ∷ names) (Ok (Lacking 1))
  none_below name names = (root, (first_bytes, is, root_there), (None, no_child name, refl))

  pub only_root : (q : NodeRev) → StandsAt look 0 [] q → q ≡ root
  only_root q at = stands_same look 0 [] q root at root_stands

  pub nothing_below : (name : PathName) (names : Path) (q : NodeRev) → StandsAt look 0 (name ∷ names) q → ⊥
  nothing_below name names q at = let e = met_same look 0 (name ∷ names) (Stands q) (Lacking 1) at (none_below name names) in absurd cc

  copied : IsCopiedIn look 0 [] 0
  copied = record {
    at_most = λ k q le at. let f : take k (let e : Path = [] in e) ≡ [] = none k in subst (λ (v : NodeRev). (copy_root_of v).0 ≤ 0) (sym (only_root q (subst (λ (p : Path). StandsAt look 0 p q) f at))) (omega arith);
    some = (0, root, omega arith, root_stands, refl);
  }
    where
      none : (k : ℕ) → take k (let e : Path = [] in e) ≡ []
      none zero = refl
      none (suc k) = refl

  shown : IsShown look 0 [] root (empty_node Dir)
  shown = record {
    kind = refl;
    text = refl;
    properties = refl;
    first = 0;
    chain = First root refl;
    copied = 0;
    copied_is = copied;
    added = refl;
    props_changed = refl;
    last_changed = refl;
    source = inl (refl, refl);
  }

  shows_each : (p : Path) → (met : Met) × MetAt look 0 p (Ok met) × IsShownAs look 0 p met (first_tree p)
  shows_each [] = (Stands root, root_stands, shown)
  shows_each (name ∷ names) = (Lacking 1, none_below name names, refl)

  pub first_shown : Shows look 0 first_tree
  first_shown = record { each = shows_each }

  -- ---- the rules of ids

  pub the_root : (r : ℕ) (p : Path) (v : NodeRev) → r ≤ 0 → StandsAt look r p v → v ≡ root
  the_root zero [] v le at = only_root v at
  the_root zero (name ∷ names) v le at = absurd (nothing_below name names v at)
  the_root (suc r) p v le at = absurd (omega (arith, le))

  of_root : (v : NodeRev) → IsOf look 0 v → v ≡ root
  of_root v w = the_root w.0 w.1 v w.2 w.3

  no_pred : (v u : NodeRev) → v ≡ root → IsPred look v u → ⊥
  no_pred v u e w = let f = ap (λ (x : NodeRev). x.predecessor) e in let g = sym f ∙ w.1 in absurd cc

  no_copy : (v : NodeRev) (from : CopySource) → v ≡ root → v.copy_from ≡ Some from → ⊥
  no_copy v from e w = let f = ap (λ (x : NodeRev). x.copy_from) e in let g = sym f ∙ w in absurd cc

  no_children : (r : ℕ) (p : Path) (name : PathName) (dir v : NodeRev) → IsChild look 0 r p name dir v → ⊥
  no_children r p name dir v w = by r p w.up_to w.there
    where
      by : (r : ℕ) (p : Path) → r ≤ 0 → StandsAt look r (p ++ name ∷ []) v → ⊥
      by zero [] le at = nothing_below name [] v at
      by zero (x ∷ p) le at = nothing_below x (p ++ name ∷ []) v at
      by (suc r) p le at = omega (arith, le)

  at_root : (P : NodeRev → Type 0) (v : NodeRev) → v ≡ root → P root → P v
  at_root P v e h = subst P (sym e) h

  pub first_rules : IdRule look 0
  first_rules = record {
    node = λ v u of pred. absurd (no_pred v u (of_root v of) pred);
    kind = λ v u of pred. absurd (no_pred v u (of_root v of) pred);
    count = λ v u of pred. absurd (no_pred v u (of_root v of) pred);
    root_id = λ r v le at. (
      at_root (λ v. part_value v.id.node ≡ Old 0) v (the_root r [] v le at) refl,
      at_root (λ v. part_value v.id.copy ≡ Old 0) v (the_root r [] v le at) refl,
      at_root (λ v. own_rev v ≡ r) v (the_root r [] v le at) (let e : 0 ≡ r = omega (arith, le) in e),
    );
    root_copy = λ r v le at. at_root (λ v. v.copy_from ≡ None) v (the_root r [] v le at) refl;
    root_next = λ r v u le a b. absurd (omega (arith, le));
    root_root = λ r v u le a b. absurd (omega (arith, le));
    first = λ v at. (
      at_root (λ v. v.predecessor ≡ None) v (only_root v at) refl,
      at_root (λ v. v.props ≡ None) v (only_root v at) refl,
      at_root (λ v. (copy_root_of v).0 ≡ 0) v (only_root v at) refl,
    );
    alone = λ name p v at. nothing_below name p v at;
    begins_once = λ v u a b n m e. at_root (λ v. v.id ≡ u.id) v (of_root v a) (at_root (λ u. root_id ≡ u.id) u (of_root u b) refl);
    begins_in = λ v of none. at_root (λ v. HasSuffix (own_rev v) v.id.node) v (of_root v of) tt;
    copy_there = λ v from of copy. absurd (no_copy v from (of_root v of) copy);
    copy_once = λ v from p of copy at. absurd (no_copy v from (of_root v of) copy);
    copy_root = λ v from of copy. absurd (no_copy v from (of_root v of) copy);
    copy_part = λ v from of copy. absurd (no_copy v from (of_root v of) copy);
    copy_own = λ v u from other a b copy also e. absurd (no_copy v from (of_root v a) copy);
    copy_source = λ v from of copy. absurd (no_copy v from (of_root v of) copy);
    root_of_new = λ r p name dir v child own copy none. absurd (no_children r p name dir v child);
    root_of_next = λ r p name dir v u child own copy pred. absurd (no_children r p name dir v child);
    copy_part_of = λ r p name dir v child own copy. absurd (no_children r p name dir v child);
    older = λ r p name dir v child less. absurd (no_children r p name dir v child);
    goes_on = λ r p name dir v w child own copy pred. absurd (no_children r p name dir v child);
    props = λ v u of pred older. absurd (no_pred v u (of_root v of) pred);
  }
