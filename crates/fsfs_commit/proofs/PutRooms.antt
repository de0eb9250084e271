-- How many bytes the node-revisions take that were put.
use Rattle.std.proofs.Common.{◌≡◌, ◌∙◌, ◌+◌, ◌≤◌, ◌<◌, ◌^◌, ℕ, List, [], ◌∷◌, map, length, Option, Some, None, refl, sym, ap, arith}
use Rattle.std.specs.Prelude.{sum_by}
use Rattle.std.proofs.lemmas.Fmt.{length-decimal-le}
use Rattle.std.proofs.lemmas.List.{length-append}
use Rattle.std.proofs.lemmas.List.Sums.{sum_by-cons}
use Rattle.fsfs_base.specs.Paths.{Path}
use Rattle.fsfs_base.specs.Grammar.Numeral.{IsNumber}
use Rattle.fsfs_base.proofs.Unique.{numeral_decimal}
use Rattle.fsfs_noderev.specs.declared.rep.Contents.{Contents}
use Rattle.fsfs_noderev.specs.declared.rep.Contents.TheVariants as contents
use Rattle.fsfs_layout.specs.Hash.Dump.{Field, Pair, Entries, dump_text}
use Rattle.fsfs_revision.specs.Shows.Reading.{Pairs, DirEntry}
use Rattle.fsfs_revision.specs.Rep.Frames.{framed_text}
use Rattle.fsfs_revision.specs.EntryRooms.{pair_room, pairs_room, entry_room, entries_room}
use Rattle.fsfs_draft.specs.Drafts.{Kept}
use Rattle.fsfs_final.specs.Pieces.Lists.{list_of, AreContentsPut}
use Rattle.fsfs_final.specs.Pieces.Naming.{FinalIds, final_entry}
use Rattle.fsfs_final.specs.Putting.{AreFinalPairs, ArePut}
use Rattle.fsfs_commit.specs.FinalRev.Rooms.{list_room, set_room, kept_room}

-- ---- dumps

number_most : (text : List ℕ) (n : ℕ) → IsNumber 10 18446744073709551615 10 text n → length text ≤ 21
number_most text n w =
    let small : n < 2 ^ 64 = let fits = w.fits in omega (arith, fits) in
    omega (arith, ap length w.parts, length-append w.digits (10 ∷ []), ap length (numeral_decimal w.digits n small w.numeral), length-decimal-le 20 n (omega arith) (omega (arith, small)) small)

field_most : (letter : ℕ) (text bytes : List ℕ) → Field letter text bytes → length text ≤ length bytes + 24
field_most letter text bytes w =
    omega (
      arith,
      ap length w.parts,
      length-append w.first w.second,
      ap length w.first_is,
      ap length w.second_is.parts,
      length-append w.second_is.first w.second_is.second,
      number_most w.second_is.first w.second_is.between w.second_is.first_is,
      ap length w.second_is.second_is.parts,
      length-append w.second_is.second_is.first w.second_is.second_is.second,
      ap length w.second_is.second_is.first_is.0,
      ap length w.second_is.second_is.second_is.value_is,
      ap length w.second_is.second_is.second_is.inner_is,
    )

pair_most : (text : List ℕ) (p : List ℕ × List ℕ) → Pair text p → length text ≤ pair_room p
pair_most text p w =
    omega (
      arith,
      ap length w.parts,
      length-append w.first w.second,
      field_most 75 w.first w.between w.first_is,
      field_most 86 w.second w.second_is.inner w.second_is.inner_is,
      ap (λ (q : List ℕ × List ℕ). length q.0) w.second_is.value_is,
      ap (λ (q : List ℕ × List ℕ). length q.1) w.second_is.value_is,
    )

dump_most : (text : List ℕ) (pairs : Pairs) → Entries text pairs → length text ≤ pairs_room pairs + 4
dump_most text [] w = omega (arith, ap length w.1)
dump_most text (p ∷ pairs) w = omega (arith, ap length w.4, length-append w.0 w.1, pair_most w.0 p w.2, dump_most w.1 pairs w.3, sum_by-cons pair_room p pairs)

-- ---- lists

framed_most : (pairs : Pairs) → Entries (dump_text pairs) pairs → length (framed_text (dump_text pairs)) ≤ pairs_room pairs + 17
framed_most pairs w = omega (arith, dump_most (dump_text pairs) pairs w, length-append (dump_text pairs) (69 ∷ 78 ∷ 68 ∷ 82 ∷ 69 ∷ 80 ∷ 10 ∷ []))

contents_most : (n start : ℕ) (old new : List ℕ) (c : Option Contents) (list : Option Pairs) (d : Option Contents) → AreContentsPut n start old new c list d → length new ≤ length old + pairs_room (list_of list) + 17
contents_most n start old new None list d w = omega (arith, ap length w.1)
contents_most n start old new (Some (contents.At rep)) list d w = omega (arith, ap length w.1)
contents_most n start old new (Some contents.Own) list d w = omega (arith, ap length w.2.added, length-append old (framed_text (dump_text (list_of list))), framed_most (list_of list) w.2.in_order)

final_room : (ids : FinalIds) (dir : Path) (entries : List DirEntry) → entries_room (map (final_entry ids dir) entries) ≡ entries_room entries
final_room ids dir [] = refl
final_room ids dir (e ∷ entries) = sum_by-cons entry_room (final_entry ids dir e) (map (final_entry ids dir) entries) ∙ ap (λ (n : ℕ). entry_room e + n) (final_room ids dir entries) ∙ sym (sum_by-cons entry_room e entries)

listed_most : (ids : FinalIds) (dir : Path) (o : Option (List DirEntry)) (list : Option Pairs) → AreFinalPairs ids dir o list → pairs_room (list_of list) + 17 ≤ list_room o
listed_most ids dir None None w = omega arith
listed_most ids dir None (Some pairs) w = absurd w
listed_most ids dir (Some entries) None w = absurd w
listed_most ids dir (Some entries) (Some pairs) w = omega (arith, w.0.room, final_room ids dir entries)

set_most : (o : Option Pairs) → pairs_room (list_of o) + 17 ≤ set_room o
set_most None = omega arith
set_most (Some pairs) = omega arith

-- ---- one after another

pub puts_most : (n start : ℕ) (ks : List Kept) (old : List ℕ) (ids : FinalIds) (new : List ℕ) (now : FinalIds) → ArePut n start ks old ids new now → length new ≤ length old + sum_by kept_room ks
puts_most n start [] old ids new now w = omega (arith, ap length w.0)
puts_most n start (k ∷ ks) old ids new now w =
    let put = w.2.put in
    let texts = contents_most n start old put.mid k.node.text w.2.list w.2.done.text put.text_put in
    let sets = contents_most n start put.mid put.front k.node.props k.props w.2.done.props put.props_put in
    omega (
      arith,
      texts,
      sets,
      listed_most ids k.node.created_path k.entries w.2.list w.2.listed,
      set_most k.props,
      ap length put.added,
      length-append put.front put.lines,
      put.short,
      puts_most n start ks w.0 w.1 new now w.3,
      sum_by-cons kept_room k ks,
    )
