-- Names of entries, parts of final ids, and what was put behind what.
use Rattle.std.proofs.Common.{◌≡◌, ◌∙◌, ◌+◌, ◌≤◌, ◌<◌, ℕ, Bool, true, false, ◌&&◌, cond, List, [], ◌∷◌, ◌++◌, map, length, Option, Some, None, refl, sym, ap, subst, append_assoc, arith}
use Rattle.std.specs.Prelude.{option_map}
use Rattle.std.specs.List.{AllByRecursion}
use Rattle.std.specs.String.{string_bytes}
use Rattle.std.specs.Str.{IsUtf8}
use Rattle.std.proofs.lemmas.Bool.{and_from}
use Rattle.std.proofs.lemmas.Bool.Decides.{nat_tests}
use Rattle.std.proofs.lemmas.List.{length-append}
use Rattle.std.proofs.lemmas.Str.{IsUtf8-string_bytes}
use Rattle.fsfs_base.specs.Paths.{PathName, Path, same_name}
use Rattle.fsfs_base.specs.PathTexts.{IsName}
use Rattle.fsfs_base.proofs.PathLemmas.{same_name-is}
use Rattle.fsfs_revision.specs.Damage.Damages.{place_of}
use Rattle.fsfs_noderev.specs.declared.node_id.NodeId.{NodeId}
use Rattle.fsfs_noderev.specs.declared.node_id.Part.{Part}
use Rattle.fsfs_noderev.specs.declared.node_id.Part.TheVariants as parts
use Rattle.fsfs_noderev.specs.declared.node_id.Place.{Place}
use Rattle.fsfs_noderev.specs.declared.node_id.Place.TheVariants as places
use Rattle.fsfs_noderev.specs.declared.rep.Contents.{Contents}
use Rattle.fsfs_noderev.specs.declared.rep.Contents.TheVariants as contents
use Rattle.fsfs_noderev.specs.declared.node_rev.NodeRev.{NodeRev}
use Rattle.fsfs_revision.specs.Nodes.{is_revision_id, is_lasting_part, is_revision_place, is_before, place_before}
use Rattle.fsfs_revision.specs.Shows.Reading.{Pairs, DirEntry, named, offset_of}
use Rattle.fsfs_revision.specs.Rep.Frames.{framed_text}
use Rattle.fsfs_dag.specs.declared.directory.DirEntry.{DirEntry as Listed}
use Rattle.fsfs_dag.specs.Views.{entry_value, entry_values}
use Rattle.fsfs_draft.specs.OwnSides.{in_txn}
use Rattle.fsfs_final.specs.Final.{final_part}
use Rattle.fsfs_layout.specs.Hash.Dump.{dump_text}
use Rattle.fsfs_final.specs.Pieces.Lists.{list_of, AreContentsPut}
use Rattle.fsfs_final.specs.Pieces.Naming.{FinalIds, final_entry}
use Rattle.fsfs_final.specs.Pieces.Nodes.{IsNodePut}
use Rattle.fsfs_final.proofs.NodeLaws.{grown}
use Rattle.fsfs_final.specs.Putting.{AreUtf8}
use Rattle.fsfs_final.specs.Laying.{IsTextKept}

-- ---- names

pub last_name : (p : Path) (name : PathName) → AllByRecursion IsName (p ++ name ∷ []) → IsName name
last_name [] name a = a.0
last_name (x ∷ p) name a = last_name p name a.1

pub named_name : (name : PathName) (es : List DirEntry) (e : DirEntry) → named name es ≡ Some e → e.name ≡ name
named_name name [] e h = absurd (let clash : None ≡ Some e = h in cc)
named_name name (x ∷ es) e h = by (same_name x.name name) refl h (λ k. named_name name es e k)
  where
    by : (b : Bool) → same_name x.name name ≡ b → cond b (Some x) (named name es) ≡ Some e → (named name es ≡ Some e → e.name ≡ name) → e.name ≡ name
    by true same g further = let is : x ≡ e = (let k = g in cc) in ap (λ (z : DirEntry). z.name) (sym is) ∙ same_name-is x.name name same
    by false same g further = further g

pub named_final : (ids : FinalIds) (dir : Path) (name : PathName) (es : List DirEntry) → named name (map (final_entry ids dir) es) ≡ option_map (final_entry ids dir) (named name es)
named_final ids dir name [] = refl
named_final ids dir name (x ∷ es) = by (same_name x.name name) (named_final ids dir name es)
  where
    by : (b : Bool) → named name (map (final_entry ids dir) es) ≡ option_map (final_entry ids dir) (named name es)
        → cond b (Some (final_entry ids dir x)) (named name (map (final_entry ids dir) es)) ≡ option_map (final_entry ids dir) (cond b (Some x) (named name es))
    by true rest = refl
    by false rest = rest

-- the names of entries are texts
pub names_utf8 : (es : List Listed) → AreUtf8 (entry_values es)
names_utf8 [] name e h = absurd (let clash : None ≡ Some e = h in cc)
names_utf8 (x ∷ es) name e h = by (same_name (string_bytes x.name) name) refl h (λ k. names_utf8 es name e k)
  where
    by : (b : Bool) → same_name (string_bytes x.name) name ≡ b → cond b (Some (entry_value x)) (named name (entry_values es)) ≡ Some e → (named name (entry_values es) ≡ Some e → IsUtf8 name) → IsUtf8 name
    by true same g further = subst IsUtf8 (same_name-is (string_bytes x.name) name same) (IsUtf8-string_bytes x.name)
    by false same g further = further g

-- ---- final ids

final_lasting : (n : ℕ) (part : Part) → is_lasting_part (final_part n part) ≡ true
final_lasting n (parts.New b) = refl
final_lasting n (parts.Old b) = refl
final_lasting n (parts.Made b rev) = refl

pub final_revision : (n off : ℕ) (id : NodeId) (a b : Part) → id.node ≡ final_part n a → id.copy ≡ final_part n b → id.place ≡ places.At n off → is_revision_id id ≡ true
final_revision n off id a b node copy place =
    (λ i. is_lasting_part (node i) && is_lasting_part (copy i) && is_revision_place (place i))
    ∙ and_from (is_lasting_part (final_part n a) && is_lasting_part (final_part n b)) true (and_from (is_lasting_part (final_part n a)) (is_lasting_part (final_part n b)) (final_lasting n a) (final_lasting n b)) refl

pub plain_place : (place : Place) → is_revision_place place ≡ true → in_txn place ≡ false
plain_place (places.At rev offset) h = refl
plain_place (places.In txn) h = absurd cc

-- ---- what stands before

earlier_rev : (rev n offset off : ℕ) → rev < n → is_before rev offset (place_of n off) ≡ true
earlier_rev rev n offset off lt = grind (arith, nat_tests)

pub earlier_offset : (n offset off : ℕ) → offset < off → is_before n offset (place_of n off) ≡ true
earlier_offset n offset off lt = grind (arith, nat_tests)

pub earlier_place : (n off : ℕ) (place : Place) → is_revision_place place ≡ true → (offset_of place).rev < n → place_before (place_of n off) place ≡ true
earlier_place n off (places.At rev offset) h lt = earlier_rev rev n offset off lt
earlier_place n off (places.In txn) h lt = absurd cc

-- a list takes some bytes
pub list_grows : (n start : ℕ) (old new : List ℕ) (c : Option Contents) (list : Option Pairs) (d : Option Contents) → AreContentsPut n start old new c list d → c ≡ Some contents.Own → length old < length new
list_grows n start old new None list d w is = absurd (let clash : None ≡ Some contents.Own = is in cc)
list_grows n start old new (Some (contents.At rep)) list d w is = absurd (let clash : Some (contents.At rep) ≡ Some contents.Own = is in cc)
list_grows n start old new (Some contents.Own) list d w is =
    let more : length new ≡ length old + length (framed_text (dump_text (list_of list))) = ap length w.2.added ∙ length-append old (framed_text (dump_text (list_of list))) in
    let some : 1 ≤ length (framed_text (dump_text (list_of list))) = some_text (dump_text (list_of list)) in
    omega (arith, more, some)
  where
    some_text : (text : List ℕ) → 1 ≤ length (framed_text text)
    some_text text = omega arith

pub text_kept : (n start : ℕ) (old new : List ℕ) (c : Option Contents) (list : Option Pairs) (d : Option Contents) → AreContentsPut n start old new c list d → IsTextKept n c d
text_kept n start old new None list d w = w.0
text_kept n start old new (Some contents.Own) list d w = tt
text_kept n start old new (Some (contents.At rep)) list d w = w.0

-- ---- a node-revision only adds bytes

module _ (n start : ℕ) (old new : List ℕ) (u : NodeRev) (entries props : Option Pairs) (v : NodeRev) (is : IsNodePut n start old new u entries props v) where
  texts : (more : List ℕ) × (is.mid ≡ old ++ more)
  texts = grown n start old is.mid u.text entries v.text is.text_put

  sets : (more : List ℕ) × (is.front ≡ is.mid ++ more)
  sets = grown n start is.mid is.front u.props props v.props is.props_put

  pub node_grown : (more : List ℕ) × (new ≡ old ++ more)
  node_grown = (
    (texts.0 ++ sets.0) ++ is.lines,
    is.added ∙ ap (λ (x : List ℕ). x ++ is.lines) (sets.1 ∙ ap (λ (x : List ℕ). x ++ sets.0) texts.1 ∙ append_assoc old texts.0 sets.0) ∙ append_assoc old (texts.0 ++ sets.0) is.lines,
  )

  pub mid_within : length is.mid ≤ length is.front
  mid_within = omega (arith, ap length sets.1, length-append is.mid sets.0)
