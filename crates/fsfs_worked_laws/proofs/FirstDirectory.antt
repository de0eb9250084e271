-- The bytes of a revision 1 that made `/a` show it.
use Rattle.std.proofs.Common.{◌≡◌, ◌≤◌, ◌<◌, ℕ, zero, suc, Bool, true, false, List, [], ◌∷◌, ◌++◌, take, drop, Option, Some, None, refl, sym, ap, subst, ◌∙◌, arith, inl, inr, ◌⊎◌}
use Rattle.std.specs.Prelude.{◌+◌, ◌-◌, ◌^◌, min, Ok, codes, if◌then◌else◌}
use Rattle.std.specs.List.{slice_index}
use Rattle.std.proofs.lemmas.Str.{IsUtf8-from_ascii}
use Rattle.hex.specs.Hex.{decode_pairs}
use Rattle.md5.specs.Md5.{block_words, rounds, compress, hash_after, digest_bytes, md5}
use Rattle.fsfs_base.specs.Grammar.Reading.{text_at, until_at}
use Rattle.fsfs_base.specs.Grammar.Numeral.{numeral_at, plain_at, number_at, digits_at}
use Rattle.fsfs_base.proofs.Readers.{all_found}
use Rattle.fsfs_base.specs.Paths.{PathName, Path, same_name}
use Rattle.fsfs_base.specs.PathTexts.{IsName}
use Rattle.fsfs_base.specs.declared.kind.Kind.TheVariants.{Dir}
use Rattle.fsfs_base.proofs.PathLemmas.{same_name-is}
use Rattle.fsfs_revision.specs.Told.{RevisionBytes}
use Rattle.fsfs_layout.specs.Hash.Dump.{IsDump}
use Rattle.fsfs_layout.specs.Hash.Reading.{field_at, entry_at, dump_at}
use Rattle.fsfs_layout.proofs.Dumps.{dump_reads}
use Rattle.fsfs_noderev.specs.Ids.{id_at, part_at, place_at, IsNumber64, part_value, Old}
use Rattle.fsfs_noderev.specs.Reps.{contents_at, rep_at, digests_at, digest_at}
use Rattle.fsfs_noderev.specs.Fields.{IsIdText, AreContentsText, IsPathText, IsRootText, nothing}
use Rattle.fsfs_noderev.specs.NodeRevs.{Takes, IsNodeRev}
use Rattle.fsfs_noderev.specs.declared.node_id.NodeId.{NodeId}
use Rattle.fsfs_noderev.specs.declared.node_id.Part.TheVariants as part
use Rattle.fsfs_noderev.specs.declared.node_id.Place.TheVariants as place
use Rattle.fsfs_noderev.specs.declared.rep.Rep.{Rep}
use Rattle.fsfs_noderev.specs.declared.rep.Contents.TheVariants as contents
use Rattle.fsfs_noderev.specs.declared.fields.Fields.{Fields}
use Rattle.fsfs_noderev.specs.declared.node_rev.CopyRoot.{CopyRoot}
use Rattle.fsfs_noderev.specs.declared.node_rev.CopySource.{CopySource}
use Rattle.fsfs_noderev.specs.declared.node_rev.NodeRev.{NodeRev}
use Rattle.fsfs_noderev.proofs.IdTexts.{id_spells}
use Rattle.fsfs_noderev.proofs.RepTexts.{contents_spells, number_spells}
use Rattle.fsfs_noderev.proofs.Lengths.{reads_back}
use Rattle.fsfs_revision.specs.Rep.Frames.{IsWhole}
use Rattle.fsfs_revision.specs.Trailers.{trailer_at, EndsWith}
use Rattle.fsfs_revision.specs.Damages.{RootIn}
use Rattle.fsfs_revision.specs.Damage.Damages.{place_of}
use Rattle.fsfs_revision.specs.Nodes.{IsNodeAt}
use Rattle.fsfs_revision.specs.declared.trailer.Trailer.{Trailer}
use Rattle.fsfs_revision.proofs.TrailerLemmas.{trailer_reads}
use Rattle.fsfs_revision.specs.Shows.Reading.{RootOf, Pairs, DirEntry, IsEntry, IsEntryName, OfId, OfNamed, EntriesOf, ChildOf, Met, Stands, Lacking, MetAt, StandsAt}
use Rattle.fsfs_revision.specs.Shows.Chains.{own_rev, IsPred, First, Goes, copy_root_of, IsCopiedIn}
use Rattle.fsfs_revision.specs.Shows.Shown.{IsShown, IsShownAs, Shows}
use Rattle.fsfs_revision.specs.Shows.IdRules.{IsOf, IsChild, HasSuffix, Directory, IdRule}
use Rattle.fsfs_base.specs.FirstRevision.{first_bytes}
use Rattle.fsfs_worked_laws.specs.FirstDirectory.{directory_bytes, a_name, changed_root, added_directory, directory_tree}
use Rattle.fsfs_revision.proofs.FirstRevision.{pair_of, zero_b36, path_is, zero_digit, root_node, nothing_below, the_root, first_rules, root_id as first_id, root as first_root}
use Rattle.fsfs_revision.proofs.OneAnswer.{ok_same}
use Rattle.fsfs_revision.proofs.OneWalk.{of_id_one, met_same, stands_same}

-- ---- fields

abbrev first_copy_root : CopyRoot
first_copy_root = record { rev = Some 0; path = [] }

copy_root_is : IsRootText (codes "0 /") first_copy_root
copy_root_is = (codes "0", codes "/", (zero_digit, omega arith), path_is, refl)

no_count : IsNumber64 (codes "0") 0
no_count = (zero_digit, omega arith)

one_count : IsNumber64 (codes "1") 1
unfolding numeral_at plain_at
one_count = number_spells.found (codes "1") 1 refl

a_is_ascii : (i : ℕ) → slice_index (codes "a") i < 128
a_is_ascii zero = omega arith
a_is_ascii (suc i) = omega arith

path_is_ascii : (i : ℕ) → slice_index (codes "/a") i < 128
path_is_ascii zero = omega arith
path_is_ascii (suc zero) = omega arith
path_is_ascii (suc (suc i)) = omega arith

a_is_name : IsName a_name
a_is_name = record { some = λ e. absurd cc; no_slash = (λ e. omega (arith, e), tt); no_control = refl; fits = omega arith; no_dots = refl }

a_is_entry_name : IsEntryName a_name
a_is_entry_name = record { name_is = a_is_name; utf8 = IsUtf8-from_ascii (codes "a") a_is_ascii }

a_path_is : IsPathText (codes "/a") (a_name ∷ [])
a_path_is = record { path_is = record { names = (a_is_name, tt); deep = omega arith; fits = omega arith }; text_is = refl; utf8 = IsUtf8-from_ascii (codes "/a") path_is_ascii }

-- ---- the node-revision of `/a`

abbrev pub a_id : NodeId
a_id = record { node = part.Made zero_b36 1; copy = part.Old zero_b36; place = place.At 1 0 }

a_id_is : IsIdText (codes "0-1.0.r1/0") a_id
unfolding id_at part_at place_at numeral_at plain_at
a_id_is = id_spells.found (codes "0-1.0.r1/0") _ refl

abbrev pub a_node : NodeRev
a_node = record { id = a_id; kind = Dir; predecessor = None; count = 0; text = None; props = None; created_path = a_name ∷ []; copy_from = None; copy_root = Some first_copy_root; is_fresh_txn_root = false; mergeinfo_count = None; has_mergeinfo = false }

abbrev a_fields : Fields
a_fields = record nothing { id = Some a_id; kind = Some Dir; count = Some 0; created_path = Some (a_name ∷ []); copy_root = Some first_copy_root }

abbrev a_lines : List (List ℕ × List ℕ)
a_lines = (codes "id", codes "0-1.0.r1/0") ∷ (codes "type", codes "dir") ∷ (codes "count", codes "0") ∷ (codes "cpath", codes "/a") ∷ (codes "copyroot", codes "0 /") ∷ []

a_taken : Takes nothing a_lines a_fields
a_taken = (
  pair_of (codes "id") (codes "0-1.0.r1/0") (λ e. absurd cc) refl refl refl,
  _,
  (refl, a_id, a_id_is, refl),
  (
    pair_of (codes "type") (codes "dir") (λ e. absurd cc) refl refl refl,
    _,
    (refl, Dir, refl, refl),
    (
      pair_of (codes "count") (codes "0") (λ e. absurd cc) refl refl refl,
      _,
      (refl, 0, no_count, refl),
      (
        pair_of (codes "cpath") (codes "/a") (λ e. absurd cc) refl refl refl,
        _,
        (refl, a_name ∷ [], a_path_is, refl),
        (
          pair_of (codes "copyroot") (codes "0 /") (λ e. absurd cc) refl refl refl,
          _,
          (refl, first_copy_root, copy_root_is, refl),
          refl,
        ),
      ),
    ),
  ),
)

abbrev a_text : List ℕ
a_text = codes "id: 0-1.0.r1/0\ntype: dir\ncount: 0\ncpath: /a\ncopyroot: 0 /\n\n"

a_is : IsNodeRev a_text a_node
a_is = record {
  fields = a_fields;
  text_is = record { lines = a_lines; taken = a_taken; parts = refl };
  means = record { id = refl; kind = refl; predecessor = refl; count = refl; text = refl; props = refl; created_path = refl; copy_from = refl; copy_root = refl; fresh_txn_root = refl; mergeinfo_count = refl; mergeinfo_here = refl };
}

a_there : IsNodeAt (place_of 1 0) (drop 0 directory_bytes) a_node
a_there = ((reads_back 65536 a_text a_node a_is (omega arith) (drop 59 directory_bytes), refl), refl)

-- ---- the root's node-revision

abbrev root_rep : Rep
root_rep = record { rev = Some 1; offset = 59; length = 30; size = 30; md5 = record { bytes = 99 ∷ 136 ∷ 12 ∷ 217 ∷ 222 ∷ 161 ∷ 199 ∷ 47 ∷ 120 ∷ 123 ∷ 230 ∷ 151 ∷ 234 ∷ 242 ∷ 247 ∷ 180 ∷ [] }; unique = None }

abbrev pub root_id : NodeId
root_id = record { node = part.Old zero_b36; copy = part.Old zero_b36; place = place.At 1 102 }

root_id_is : IsIdText (codes "0.0.r1/102") root_id
unfolding id_at part_at place_at numeral_at plain_at
root_id_is = id_spells.found (codes "0.0.r1/102") _ refl

first_id_is : IsIdText (codes "0.0.r0/17") first_id
unfolding id_at part_at place_at numeral_at plain_at
first_id_is = id_spells.found (codes "0.0.r0/17") _ refl

text_is : AreContentsText (codes "1 59 30 30 63880cd9dea1c72f787be697eaf2f7b4") (contents.At root_rep)
unfolding contents_at rep_at digests_at digest_at numeral_at plain_at decode_pairs
text_is = contents_spells.found (codes "1 59 30 30 63880cd9dea1c72f787be697eaf2f7b4") _ refl

abbrev pub root : NodeRev
root = record { id = root_id; kind = Dir; predecessor = Some first_id; count = 1; text = Some (contents.At root_rep); props = None; created_path = []; copy_from = None; copy_root = Some first_copy_root; is_fresh_txn_root = false; mergeinfo_count = None; has_mergeinfo = false }

abbrev root_fields : Fields
root_fields = record nothing { id = Some root_id; kind = Some Dir; predecessor = Some first_id; count = Some 1; text = Some (contents.At root_rep); created_path = Some []; copy_root = Some first_copy_root }

abbrev root_lines : List (List ℕ × List ℕ)
root_lines = (codes "id", codes "0.0.r1/102") ∷ (codes "type", codes "dir") ∷ (codes "pred", codes "0.0.r0/17") ∷ (codes "count", codes "1") ∷ (codes "text", codes "1 59 30 30 63880cd9dea1c72f787be697eaf2f7b4") ∷ (codes "cpath", codes "/") ∷ (codes "copyroot", codes "0 /") ∷ []

root_taken : Takes nothing root_lines root_fields
root_taken = (
  pair_of (codes "id") (codes "0.0.r1/102") (λ e. absurd cc) refl refl refl,
  _,
  (refl, root_id, root_id_is, refl),
  (
    pair_of (codes "type") (codes "dir") (λ e. absurd cc) refl refl refl,
    _,
    (refl, Dir, refl, refl),
    (
      pair_of (codes "pred") (codes "0.0.r0/17") (λ e. absurd cc) refl refl refl,
      _,
      (refl, first_id, first_id_is, refl),
      (
        pair_of (codes "count") (codes "1") (λ e. absurd cc) refl refl refl,
        _,
        (refl, 1, one_count, refl),
        (
          pair_of (codes "text") (codes "1 59 30 30 63880cd9dea1c72f787be697eaf2f7b4") (λ e. absurd cc) refl refl refl,
          _,
          (refl, contents.At root_rep, text_is, refl),
          (
            pair_of (codes "cpath") (codes "/") (λ e. absurd cc) refl refl refl,
            _,
            (refl, [], path_is, refl),
            (
              pair_of (codes "copyroot") (codes "0 /") (λ e. absurd cc) refl refl refl,
              _,
              (refl, first_copy_root, copy_root_is, refl),
              refl,
            ),
          ),
        ),
      ),
    ),
  ),
)

abbrev root_text : List ℕ
root_text = codes "id: 0.0.r1/102\ntype: dir\npred: 0.0.r0/17\ncount: 1\ntext: 1 59 30 30 63880cd9dea1c72f787be697eaf2f7b4\ncpath: /\ncopyroot: 0 /\n\n"

root_is : IsNodeRev root_text root
root_is = record {
  fields = root_fields;
  text_is = record { lines = root_lines; taken = root_taken; parts = refl };
  means = record { id = refl; kind = refl; predecessor = refl; count = refl; text = refl; props = refl; created_path = refl; copy_from = refl; copy_root = refl; fresh_txn_root = refl; mergeinfo_count = refl; mergeinfo_here = refl };
}

abbrev trailer : Trailer
trailer = record { root = 102; changes = 226 }

trailer_is : trailer_at (codes "\n102 226\n") ≡ Ok (102, 226)
unfolding trailer_at text_at number_at digits_at
trailer_is = refl

ends : EndsWith 0 directory_bytes trailer
ends = record {
  front = take 261 directory_bytes;
  text = codes "\n102 226\n";
  text_is = all_found trailer_reads (codes "\n102 226\n") (102, 226) trailer_is;
  parts = refl;
  within = omega arith;
  root = omega arith;
  changes = omega arith;
}

new_root_there : RootIn 1 directory_bytes (Ok root)
new_root_there = (trailer, ends, (root, ((reads_back 65536 root_text root root_is (omega arith) (drop 226 directory_bytes), refl), refl), (refl, refl)))

-- ---- the root's entries

abbrev dump_text : List ℕ
dump_text = codes "K 1\na\nV 14\ndir 0-1.0.r1/0\nEND\n"

digest_of_dump : md5 dump_text ≡ 99 ∷ 136 ∷ 12 ∷ 217 ∷ 222 ∷ 161 ∷ 199 ∷ 47 ∷ 120 ∷ 123 ∷ 230 ∷ 151 ∷ 234 ∷ 242 ∷ 247 ∷ 180 ∷ []
unfolding block_words rounds compress hash_after digest_bytes md5
digest_of_dump = refl

rep_whole : IsWhole root_rep directory_bytes
rep_whole = record { framed = record { header = refl; trailer = refl }; agrees = record { size = λ filled. refl; md5 = sym digest_of_dump; sha1 = tt } }

abbrev pairs : Pairs
pairs = (a_name, codes "dir 0-1.0.r1/0") ∷ []

dump_read : dump_at dump_text ≡ Ok pairs
unfolding dump_at entry_at field_at text_at number_at digits_at until_at
dump_read = refl

dump_is : IsDump dump_text pairs
dump_is = all_found dump_reads dump_text pairs dump_read

abbrev entry : DirEntry
entry = record { name = a_name; kind = Dir; id = a_id }

entry_is : IsEntry (place_of 1 102) (a_name, codes "dir 0-1.0.r1/0") entry
entry_is = record { name = refl; name_is = a_is_entry_name; value_is = record { id_text = codes "0-1.0.r1/0"; id_is = a_id_is; parts = refl; lasting = refl }; before = refl }

-- ---- what is shown

module _ (look : RevisionBytes) (zero_is : look 0 ≡ Ok first_bytes) (one_is : look 1 ≡ Ok directory_bytes) where
  root_read : RootOf look 1 (Ok root)
  root_read = (directory_bytes, one_is, new_root_there)

  root_stands : StandsAt look 1 [] root
  root_stands = (root, root_read, refl)

  root_entries : EntriesOf look root (Ok (entry ∷ []))
  root_entries = (pairs, (dump_text, (directory_bytes, one_is, (refl, rep_whole)), dump_is), (entry_is, tt))

  a_read : OfId look a_id (Ok a_node)
  a_read = (a_node, (directory_bytes, one_is, a_there), (refl, refl))

  first_read : OfId look first_id (Ok first_root)
  first_read = (first_root, (first_bytes, zero_is, root_node), (refl, refl))

  a_child : ChildOf look root a_name (Ok (Some a_node))
  a_child = (entry ∷ [], root_entries, (a_node, a_read, (refl, refl)))

  no_child : (name : PathName) → same_name a_name name ≡ false → ChildOf look root name (Ok None)
  no_child name other =
      (entry ∷ [], root_entries, subst (λ (o : Option DirEntry). OfNamed look o (Ok None)) (sym (ap (λ (b : Bool). if b then Some entry else None) other)) refl)

  a_stands : StandsAt look 1 (a_name ∷ []) a_node
  a_stands = (root, root_read, (Some a_node, a_child, refl))

  other_lacks : (name : PathName) (names : Path) → same_name a_name name ≡ false → MetAt look 1 (name ∷ names) (Ok (Lacking 1))
  other_lacks name names other = (root, root_read, (None, no_child name other, refl))

  below_lacks : (name : PathName) (names : Path) → MetAt look 1 (a_name ∷ name ∷ names) (Ok (Lacking 2))
  below_lacks name names = (root, root_read, (Some a_node, a_child, (None, ([], refl, refl), refl)))

  only_root : (q : NodeRev) → StandsAt look 1 [] q → q ≡ root
  only_root q at = stands_same look 1 [] q root at root_stands

  only_a : (q : NodeRev) → StandsAt look 1 (a_name ∷ []) q → q ≡ a_node
  only_a q at = stands_same look 1 (a_name ∷ []) q a_node at a_stands

  of_root : (q : NodeRev) → q ≡ root → (copy_root_of q).0 ≤ 0
  of_root q e = subst (λ (v : NodeRev). (copy_root_of v).0 ≤ 0) (sym e) (omega arith)

  of_a : (q : NodeRev) → q ≡ a_node → (copy_root_of q).0 ≤ 0
  of_a q e = subst (λ (v : NodeRev). (copy_root_of v).0 ≤ 0) (sym e) (omega arith)

  copied_root : IsCopiedIn look 1 [] 0
  copied_root = record { at_most = most; some = (0, root, omega arith, root_stands, refl) }
    where
      most : (k : ℕ) (q : NodeRev) → k ≤ 0 → StandsAt look 1 (take k (let e : Path = [] in e)) q → (copy_root_of q).0 ≤ 0
      most zero q le at = of_root q (only_root q at)
      most (suc k) q le at = absurd (omega (arith, le))

  copied_a : IsCopiedIn look 1 (a_name ∷ []) 0
  copied_a = record { at_most = most; some = (0, root, omega arith, root_stands, refl) }
    where
      most : (k : ℕ) (q : NodeRev) → k ≤ 1 → StandsAt look 1 (take k (a_name ∷ [])) q → (copy_root_of q).0 ≤ 0
      most zero q le at = of_root q (only_root q at)
      most (suc zero) q le at = of_a q (only_a q at)
      most (suc (suc k)) q le at = absurd (omega (arith, le))

  root_shown : IsShown look 1 [] root changed_root
  root_shown = record {
    kind = refl;
    text = refl;
    properties = refl;
    first = 0;
    chain = Goes root first_root first_id (Ok 0) refl first_read (First first_root refl);
    copied = 0;
    copied_is = copied_root;
    added = refl;
    props_changed = refl;
    last_changed = refl;
    source = inl (refl, refl);
  }

  a_shown : IsShown look 1 (a_name ∷ []) a_node added_directory
  a_shown = record {
    kind = refl;
    text = refl;
    properties = refl;
    first = 1;
    chain = First a_node refl;
    copied = 0;
    copied_is = copied_a;
    added = refl;
    props_changed = refl;
    last_changed = refl;
    source = inl (refl, refl);
  }

  abbrev IsShownThere : Path → Type 0
  IsShownThere p = (met : Met) × MetAt look 1 p (Ok met) × IsShownAs look 1 p met (directory_tree p)

  one_name : (name : PathName) (b : Bool) → same_name a_name name ≡ b → IsShownThere (name ∷ [])
  one_name name true same = subst (λ (n : PathName). IsShownThere (n ∷ [])) (same_name-is a_name name same) (Stands a_node, a_stands, a_shown)
  one_name name false other = (Lacking 1, other_lacks name [] other, ap (λ (b : Bool). if b then Some added_directory else None) other)

  more_names : (name next : PathName) (names : Path) (b : Bool) → same_name a_name name ≡ b → IsShownThere (name ∷ next ∷ names)
  more_names name next names true same = subst (λ (n : PathName). IsShownThere (n ∷ next ∷ names)) (same_name-is a_name name same) (Lacking 2, below_lacks next names, refl)
  more_names name next names false other = (Lacking 1, other_lacks name (next ∷ names) other, refl)

  shows_each : (p : Path) → IsShownThere p
  shows_each [] = (Stands root, root_stands, root_shown)
  shows_each (name ∷ []) = one_name name (same_name a_name name) refl
  shows_each (name ∷ next ∷ names) = more_names name next names (same_name a_name name) refl

  pub directory_shown : Shows look 1 directory_tree
  directory_shown = record { each = shows_each }

  -- ---- the rules of ids

  stands_below : (name next : PathName) (names : Path) (q : NodeRev) → StandsAt look 1 (name ∷ next ∷ names) q → ⊥
  stands_below name next names q at = by (same_name a_name name) refl
    where
      by : (b : Bool) → same_name a_name name ≡ b → ⊥
      by true same =
          let here : StandsAt look 1 (a_name ∷ next ∷ names) q = subst (λ (n : PathName). StandsAt look 1 (n ∷ next ∷ names) q) (sym (same_name-is a_name name same)) at in
          let e = met_same look 1 (a_name ∷ next ∷ names) (Stands q) (Lacking 2) here (below_lacks next names) in
          absurd cc
      by false other = let e = met_same look 1 (name ∷ next ∷ names) (Stands q) (Lacking 1) at (other_lacks name (next ∷ names) other) in absurd cc

  stands_at_name : (name : PathName) (q : NodeRev) → StandsAt look 1 (name ∷ []) q → q ≡ a_node
  stands_at_name name q at = by (same_name a_name name) refl
    where
      by : (b : Bool) → same_name a_name name ≡ b → q ≡ a_node
      by true same = only_a q (subst (λ (n : PathName). StandsAt look 1 (n ∷ []) q) (sym (same_name-is a_name name same)) at)
      by false other = let e = met_same look 1 (name ∷ []) (Stands q) (Lacking 1) at (other_lacks name [] other) in absurd cc

  -- the node-revisions of both trees
  abbrev IsAny : NodeRev → Type 0
  IsAny v = (v ≡ first_root) ⊎ ((v ≡ root) ⊎ (v ≡ a_node))

  any_at : (r : ℕ) (p : Path) (v : NodeRev) → r ≤ 1 → StandsAt look r p v → IsAny v
  any_at zero p v le at = inl (the_root look zero_is 0 p v (omega arith) at)
  any_at (suc zero) [] v le at = inr (inl (only_root v at))
  any_at (suc zero) (name ∷ []) v le at = inr (inr (stands_at_name name v at))
  any_at (suc zero) (name ∷ next ∷ names) v le at = absurd (stands_below name next names v at)
  any_at (suc (suc r)) p v le at = absurd (omega (arith, le))

  any_of : (v : NodeRev) → IsOf look 1 v → IsAny v
  any_of v w = any_at w.0 w.1 v w.2 w.3

  -- the root alone has a predecessor
  no_pred : (v u : NodeRev) (w : NodeRev) → v ≡ w → w.predecessor ≡ None → IsPred look v u → ⊥
  no_pred v u w same none pred = let f = ap (λ (x : NodeRev). x.predecessor) same ∙ none in let g = sym f ∙ pred.1 in absurd cc

  pred_of : (v u : NodeRev) → v ≡ root → IsPred look v u → u ≡ first_root
  pred_of v u same pred =
      let f : (let o : Option NodeId = Some first_id in o) ≡ Some pred.0 = sym (ap (λ (x : NodeRev). x.predecessor) same) ∙ pred.1 in
      let id : first_id ≡ pred.0 = cc in
      ok_same u first_root (of_id_one look first_id (Ok u) (Ok first_root) (subst (λ (i : NodeId). OfId look i (Ok u)) (sym id) pred.2) first_read)

  with_pred : (P : NodeRev → NodeRev → Type 0) → P root first_root → (v u : NodeRev) → IsAny v → IsPred look v u → P v u
  with_pred P h v u (inl is) pred = absurd (no_pred v u first_root is refl pred)
  with_pred P h v u (inr (inl is)) pred = subst (λ (x : NodeRev). P x u) (sym is) (subst (λ (y : NodeRev). P root y) (sym (pred_of v u is pred)) h)
  with_pred P h v u (inr (inr is)) pred = absurd (no_pred v u a_node is refl pred)

  no_copy : (v : NodeRev) (from : CopySource) → IsAny v → v.copy_from ≡ Some from → ⊥
  no_copy v from (inl is) copy = let f = sym (ap (λ (x : NodeRev). x.copy_from) is) ∙ copy in absurd cc
  no_copy v from (inr (inl is)) copy = let f = sym (ap (λ (x : NodeRev). x.copy_from) is) ∙ copy in absurd cc
  no_copy v from (inr (inr is)) copy = let f = sym (ap (λ (x : NodeRev). x.copy_from) is) ∙ copy in absurd cc

  of_roots : (P : ℕ → NodeRev → Type 0) → P 0 first_root → P 1 root → (r : ℕ) (v : NodeRev) → r ≤ 1 → StandsAt look r [] v → P r v
  of_roots P a b zero v le at = subst (P 0) (sym (the_root look zero_is 0 [] v (omega arith) at)) a
  of_roots P a b (suc zero) v le at = subst (P 1) (sym (only_root v at)) b
  of_roots P a b (suc (suc r)) v le at = absurd (omega (arith, le))

  of_both : (P : NodeRev → NodeRev → Type 0) → P root first_root → (r : ℕ) (v u : NodeRev) → suc r ≤ 1 → StandsAt look (suc r) [] v → StandsAt look r [] u → P v u
  of_both P h zero v u le at before = subst (λ (x : NodeRev). P x u) (sym (only_root v at)) (subst (λ (y : NodeRev). P root y) (sym (the_root look zero_is 0 [] u (omega arith) before)) h)
  of_both P h (suc r) v u le at before = absurd (omega (arith, le))

  -- one child in all
  abbrev IsTheChild : ℕ → NodeRev → NodeRev → Type 0
  IsTheChild r dir v = (r ≡ 1) × (dir ≡ root) × (v ≡ a_node)

  child_at : (r : ℕ) (p : Path) (name : PathName) (dir v : NodeRev) → r ≤ 1 → StandsAt look r p dir → StandsAt look r (p ++ name ∷ []) v → IsTheChild r dir v
  child_at zero [] name dir v le above at = absurd (nothing_below look zero_is name [] v at)
  child_at zero (x ∷ p) name dir v le above at = absurd (nothing_below look zero_is x (p ++ name ∷ []) v at)
  child_at (suc zero) [] name dir v le above at = (refl, only_root dir above, stands_at_name name v at)
  child_at (suc zero) (x ∷ []) name dir v le above at = absurd (stands_below x name [] v at)
  child_at (suc zero) (x ∷ y ∷ p) name dir v le above at = absurd (stands_below x y (p ++ name ∷ []) v at)
  child_at (suc (suc r)) p name dir v le above at = absurd (omega (arith, le))

  of_child : (P : ℕ → NodeRev → NodeRev → Type 0) → P 1 root a_node → (r : ℕ) (p : Path) (name : PathName) (dir v : NodeRev) → IsChild look 1 r p name dir v → P r dir v
  of_child P h r p name dir v w =
      let c = child_at r p name dir v w.up_to w.above w.there in
      subst (λ (n : ℕ). P n dir v) (sym c.0) (subst (λ (x : NodeRev). P 1 x v) (sym c.1) (subst (λ (x : NodeRev). P 1 root x) (sym c.2) h))

  no_pred_below : (r : ℕ) (p : Path) (name : PathName) (dir v u : NodeRev) → IsChild look 1 r p name dir v → IsPred look v u → ⊥
  no_pred_below r p name dir v u w pred = no_pred v u a_node (child_at r p name dir v w.up_to w.above w.there).2 refl pred

  abbrev BeginOnce : NodeRev → NodeRev → Type 0
  BeginOnce v u = v.predecessor ≡ None → u.predecessor ≡ None → v.id.node ≡ u.id.node → v.id ≡ u.id

  once : (v u : NodeRev) → IsAny v → IsAny u → BeginOnce v u
  once v u (inl a) (inl b) = subst (λ (x : NodeRev). BeginOnce x u) (sym a) (subst (λ (y : NodeRev). BeginOnce first_root y) (sym b) (λ none also same. refl))
  once v u (inl a) (inr (inl b)) = λ none also same. let f = sym (ap (λ (x : NodeRev). x.predecessor) b) ∙ also in absurd cc
  once v u (inl a) (inr (inr b)) = subst (λ (x : NodeRev). BeginOnce x u) (sym a) (subst (λ (y : NodeRev). BeginOnce first_root y) (sym b) (λ none also same. absurd cc))
  once v u (inr (inl a)) b = λ none also same. let f = sym (ap (λ (x : NodeRev). x.predecessor) a) ∙ none in absurd cc
  once v u (inr (inr a)) (inl b) = subst (λ (x : NodeRev). BeginOnce x u) (sym a) (subst (λ (y : NodeRev). BeginOnce a_node y) (sym b) (λ none also same. absurd cc))
  once v u (inr (inr a)) (inr (inl b)) = λ none also same. let f = sym (ap (λ (x : NodeRev). x.predecessor) b) ∙ also in absurd cc
  once v u (inr (inr a)) (inr (inr b)) = subst (λ (x : NodeRev). BeginOnce x u) (sym a) (subst (λ (y : NodeRev). BeginOnce a_node y) (sym b) (λ none also same. refl))

  abbrev BeginsIn : NodeRev → Type 0
  BeginsIn v = v.predecessor ≡ None → HasSuffix (own_rev v) v.id.node

  begins : (v : NodeRev) → IsAny v → BeginsIn v
  begins v (inl is) = subst BeginsIn (sym is) (λ none. tt)
  begins v (inr (inl is)) = subst BeginsIn (sym is) (λ none. absurd cc)
  begins v (inr (inr is)) = subst BeginsIn (sym is) (λ none. refl)

  pub directory_rules : IdRule look 1
  directory_rules = record {
    node = λ v u of pred. with_pred (λ v u. v.id.node ≡ u.id.node) refl v u (any_of v of) pred;
    kind = λ v u of pred. with_pred (λ v u. v.kind ≡ u.kind) refl v u (any_of v of) pred;
    count = λ v u of pred. with_pred (λ v u. v.count ≡ min (u.count + 1) (2 ^ 64 - 1)) refl v u (any_of v of) pred;
    root_id = of_roots (λ r v. (part_value v.id.node ≡ Old 0) × (part_value v.id.copy ≡ Old 0) × (own_rev v ≡ r)) (refl, refl, refl) (refl, refl, refl);
    root_copy = of_roots (λ r v. v.copy_from ≡ None) refl refl;
    root_next = of_both (λ v u. v.predecessor ≡ Some u.id) refl;
    root_root = of_both (λ v u. copy_root_of v ≡ copy_root_of u) refl;
    first = (first_rules look zero_is).first;
    alone = λ name p v at. nothing_below look zero_is name p v at;
    begins_once = λ v u a b none also same. once v u (any_of v a) (any_of u b) none also same;
    begins_in = λ v of none. begins v (any_of v of) none;
    copy_there = λ v from of copy. absurd (no_copy v from (any_of v of) copy);
    copy_once = λ v from p of copy at. absurd (no_copy v from (any_of v of) copy);
    copy_root = λ v from of copy. absurd (no_copy v from (any_of v of) copy);
    copy_part = λ v from of copy. absurd (no_copy v from (any_of v of) copy);
    copy_own = λ v u from other a b copy also same. absurd (no_copy v from (any_of v a) copy);
    copy_source = λ v from of copy. absurd (no_copy v from (any_of v of) copy);
    root_of_new = λ r p name dir v child own copy none. of_child (λ r dir v. copy_root_of v ≡ copy_root_of dir) refl r p name dir v child;
    root_of_next = λ r p name dir v u child own copy pred. absurd (no_pred_below r p name dir v u child pred);
    copy_part_of = λ r p name dir v child own copy. Directory (of_child (λ r dir v. v.id.copy ≡ dir.id.copy) refl r p name dir v child);
    older = λ r p name dir v child less. absurd (of_child (λ r dir v. own_rev v < own_rev dir → ⊥) (λ h. omega (arith, h)) r p name dir v child less);
    goes_on = λ r p name dir v w child own copy pred. absurd (no_pred_below r p name dir v w child pred);
    props = λ v u of pred none. with_pred (λ v u. v.props ≡ u.props) refl v u (any_of v of) pred;
  }
