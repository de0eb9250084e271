-- How long a node-revision's text is at most.
use Rattle.std.proofs.Common.{◌≡◌, ℕ, ◌+◌, ◌-◌, ◌*◌, ◌<◌, ◌≤◌, ◌^◌, Bool, true, false, List, [], ◌∷◌, ◌++◌, length, take, Option, Some, None, ap, ◌∙◌, arith}
use Rattle.std.specs.Prelude.{codes}
use Rattle.std.proofs.lemmas.List.{length-append}
use Rattle.std.proofs.lemmas.Fmt.{length-decimal-le}
use Rattle.std.proofs.Math.Seq.{take-append-add}
use Rattle.hex.proofs.HexLemmas.{length-encode_with}
use Rattle.hex.specs.Hex.{lower_digits}
use Rattle.fsfs_base.specs.Grammar.Relations.{Appends}
use Rattle.fsfs_base.specs.Grammar.Numeral.{IsPlain}
use Rattle.fsfs_base.specs.Grammar.Cuts.{IsCutOf}
use Rattle.fsfs_base.proofs.Unique.{numeral_decimal}
use Rattle.fsfs_base.proofs.Base36Texts.{numeral_base36, length-last_digits}
use Rattle.fsfs_base.specs.Fields.Digests.{IsDigestText}
use Rattle.fsfs_base.specs.Fields.TxnNames.{IsTxnName}
use Rattle.fsfs_base.specs.declared.kind.Kind.TheVariants as kinds
use Rattle.fsfs_base.specs.Fields.RevNums.{last_rev, IsRev}
use Rattle.fsfs_noderev.specs.Ids.{New, Old, Made, At, In, IsB36, IsNumber64, IsPart, IsPlace, id_value}
use Rattle.fsfs_noderev.specs.Reps.{IsRevOrNone, IsMarked, IsUnique, AreDigests, IsRep, AreContents, contents_value}
use Rattle.fsfs_noderev.specs.Reps as reps
use Rattle.fsfs_noderev.specs.Lines.{line}
use Rattle.fsfs_noderev.specs.Fields.{IsIdText, IsKindText, AreContentsText, IsPathText, IsSourceText, IsRootText}
use Rattle.fsfs_noderev.specs.NodeRevs.{IsNodeRev, IsRead}
use Rattle.fsfs_noderev.specs.Writing.{IsLineOf, IsOptional, IsFlag}
use Rattle.fsfs_noderev.specs.declared.node_rev.NodeRev.{NodeRev}

-- each text of G has so many bytes at most
abbrev pub AtMost : {X : Type 0} → ℕ → (List ℕ → X → Type 0) → Type 0
AtMost {X} n G = (text : List ℕ) (x : X) → G text x → length text ≤ n

pub cut_most : {X Y : Type 0} (G : List ℕ → X → Type 0) (H : List ℕ → Y → Type 0) (m n c : ℕ) → AtMost m G → AtMost n H → (text : List ℕ) (p : X × Y) → IsCutOf c G H text p → length text ≤ m + 1 + n
cut_most G H m n c first second text p w = omega (arith, ap length w.4, length-append w.0 (c ∷ w.1), first w.0 p.0 w.2, second w.1 p.1 w.3)

decimal_most : (limit : ℕ) → limit < 2 ^ 64 → AtMost 20 (IsPlain 10 limit)
decimal_most limit small text n w =
    let sized : n < 2 ^ 64 = omega (arith, w.1, small) in
    omega (arith, ap length (numeral_decimal text n sized w.0), length-decimal-le 20 n (omega arith) (omega (arith, sized)) sized)

pub rev_most : AtMost 20 IsRev
rev_most = decimal_most last_rev (omega arith)

number_most : AtMost 20 IsNumber64
number_most = decimal_most 18446744073709551615 (omega arith)

b36_most : AtMost 13 IsB36
b36_most text n w = omega (arith, ap length (numeral_base36 text n (omega (arith, w.1)) w.0), length-last_digits 13 n)

part_most : AtMost 34 IsPart
part_most text (New n) w = omega (arith, ap length w.2, b36_most w.0 n w.1)
part_most text (Old n) w = omega (arith, b36_most text n w)
part_most text (Made n rev) w = cut_most IsB36 IsRev 13 20 45 b36_most rev_most text (n, rev) w

txn_most : AtMost 34 IsTxnName
txn_most = cut_most IsRev IsB36 20 13 45 rev_most b36_most

place_most : AtMost 42 IsPlace
place_most text (At rev offset) w = omega (arith, ap length w.2, cut_most IsRev IsNumber64 20 20 47 rev_most number_most w.0 (rev, offset) w.1)
place_most text (In base n) w = omega (arith, ap length w.2, txn_most w.0 (base, n) w.1)

pub id_most : AtMost 112 IsIdText
id_most text id w =
    let v = id_value id in
    cut_most IsPart (IsCutOf 46 IsPart IsPlace) 34 77 46 part_most (cut_most IsPart IsPlace 34 42 46 part_most place_most) text (v.node, (v.copy, v.place)) w

kind_most : AtMost 4 IsKindText
kind_most text kinds.File w = omega (arith, ap length w)
kind_most text kinds.Dir w = omega (arith, ap length w)

rev_or_none_most : AtMost 20 IsRevOrNone
rev_or_none_most text None w = omega (arith, ap length w)
rev_or_none_most text (Some rev) w = rev_most text rev w

digest_most : (n : ℕ) → AtMost (2 * n) (IsDigestText n)
digest_most n text bytes w = omega (arith, ap length w.text_is, length-encode_with lower_digits bytes, w.size)

marked_most : AtMost 14 IsMarked
marked_most text n w = omega (arith, ap length w.2, b36_most w.0 n w.1)

unique_most : AtMost 90 IsUnique
unique_most text u w = cut_most (IsDigestText 20) (IsCutOf 47 IsTxnName IsMarked) 40 49 32 (digest_most 20) (cut_most IsTxnName IsMarked 34 14 47 txn_most marked_most) text (u.sha1, ((u.base, u.txn), u.number)) w

digests_most : AtMost 123 AreDigests
digests_most text (md5, None) w = omega (arith, digest_most 16 text md5 w)
digests_most text (md5, Some u) w = cut_most (IsDigestText 16) IsUnique 32 90 32 (digest_most 16) unique_most text (md5, u) w

rep_most : AtMost 207 IsRep
rep_most text r w =
    let one : AtMost 144 (IsCutOf 32 IsNumber64 AreDigests) = cut_most IsNumber64 AreDigests 20 123 32 number_most digests_most in
    let two : AtMost 165 (IsCutOf 32 IsNumber64 (IsCutOf 32 IsNumber64 AreDigests)) = cut_most IsNumber64 (IsCutOf 32 IsNumber64 AreDigests) 20 144 32 number_most one in
    let three : AtMost 186 (IsCutOf 32 IsNumber64 (IsCutOf 32 IsNumber64 (IsCutOf 32 IsNumber64 AreDigests))) = cut_most IsNumber64 (IsCutOf 32 IsNumber64 (IsCutOf 32 IsNumber64 AreDigests)) 20 165 32 number_most two in
    cut_most IsRevOrNone (IsCutOf 32 IsNumber64 (IsCutOf 32 IsNumber64 (IsCutOf 32 IsNumber64 AreDigests))) 20 186 32 rev_or_none_most three text (r.rev, (r.offset, (r.length, (r.size, (r.md5, r.unique))))) w

values_most : AtMost 207 AreContents
values_most text reps.Own w = omega (arith, ap length w)
values_most text (reps.At r) w = rep_most text r w

contents_most : AtMost 207 AreContentsText
contents_most text k w = values_most text (contents_value k) w

pub path_most : AtMost 4096 IsPathText
path_most text p w = omega (arith, ap length w.text_is, w.path_is.fits)

source_most : AtMost 4117 IsSourceText
source_most text s w = cut_most IsRev IsPathText 20 4096 32 rev_most path_most text (s.rev, s.path) w

root_most : AtMost 4117 IsRootText
root_most text r w = cut_most IsRevOrNone IsPathText 20 4096 32 rev_or_none_most path_most text (r.rev, r.path) w

-- ---- lines

length-line : (name value : List ℕ) → length (line (name, value)) ≡ length name + length value + 3
length-line name value =
    let all : length (name ++ 58 ∷ 32 ∷ value ++ 10 ∷ []) ≡ length name + length value + 3 = simp length-append (omega arith) in
    all

one : {X : Type 0} {a b : List ℕ} (name : List ℕ) (G : List ℕ → X → Type 0) (n : ℕ) (x : X) → AtMost n G → Appends (IsLineOf name G) a b x → length b ≤ length a + (length name + n + 3)
one {X} {a} {b} name G n x most w =
    let t = w.text_is in
    omega (arith, ap length w.parts, length-append a w.text, ap length t.2, length-line name t.0, most t.0 x t.1)

optional : {X : Type 0} {a b : List ℕ} (name : List ℕ) (G : List ℕ → X → Type 0) (n : ℕ) (o : Option X) → AtMost n G → Appends (IsOptional name G) a b o → length b ≤ length a + (length name + n + 3)
optional {X} {a} {b} name G n None most w = omega (arith, ap length w.parts, length-append a w.text, ap length w.text_is)
optional {X} {a} {b} name G n (Some x) most w = one name G n x most (record { text = w.text; text_is = w.text_is; parts = w.parts })

flag : {a b : List ℕ} (name : List ℕ) (f : Bool) → Appends (IsFlag name) a b f → length b ≤ length a + (length name + 1 + 3)
flag {a} {b} name false w = omega (arith, ap length w.parts, length-append a w.text, ap length w.text_is)
flag {a} {b} name true w = omega (arith, ap length w.parts, length-append a w.text, ap length w.text_is, length-line name (codes "y"))

-- the lines one after another
pub written_short : (n : NodeRev) {a0 a1 a2 a3 a4 a5 a6 a7 a8 a9 a10 a11 a12 out : List ℕ} → a0 ≡ []
    → Appends (IsLineOf (codes "id") IsIdText) a0 a1 n.id
    → Appends (IsLineOf (codes "type") IsKindText) a1 a2 n.kind
    → Appends (IsOptional (codes "pred") IsIdText) a2 a3 n.predecessor
    → Appends (IsLineOf (codes "count") IsNumber64) a3 a4 n.count
    → Appends (IsOptional (codes "text") AreContentsText) a4 a5 n.text
    → Appends (IsOptional (codes "props") AreContentsText) a5 a6 n.props
    → Appends (IsLineOf (codes "cpath") IsPathText) a6 a7 n.created_path
    → Appends (IsOptional (codes "copyfrom") IsSourceText) a7 a8 n.copy_from
    → Appends (IsOptional (codes "copyroot") IsRootText) a8 a9 n.copy_root
    → Appends (IsFlag (codes "is-fresh-txn-root")) a9 a10 n.is_fresh_txn_root
    → Appends (IsOptional (codes "minfo-cnt") IsNumber64) a10 a11 n.mergeinfo_count
    → Appends (IsFlag (codes "minfo-here")) a11 a12 n.has_mergeinfo
    → out ≡ a12 ++ 10 ∷ [] → length out ≤ 65536
written_short n {a0} {a1} {a2} {a3} {a4} {a5} {a6} {a7} {a8} {a9} {a10} {a11} {a12} {out} empty l1 l2 l3 l4 l5 l6 l7 l8 l9 l10 l11 l12 last =
    let k1 : length a1 ≤ length a0 + 117 = one (codes "id") IsIdText 112 n.id id_most l1 in
    let k2 : length a2 ≤ length a1 + 11 = one (codes "type") IsKindText 4 n.kind kind_most l2 in
    let k3 : length a3 ≤ length a2 + 119 = optional (codes "pred") IsIdText 112 n.predecessor id_most l3 in
    let k4 : length a4 ≤ length a3 + 28 = one (codes "count") IsNumber64 20 n.count number_most l4 in
    let k5 : length a5 ≤ length a4 + 214 = optional (codes "text") AreContentsText 207 n.text contents_most l5 in
    let k6 : length a6 ≤ length a5 + 215 = optional (codes "props") AreContentsText 207 n.props contents_most l6 in
    let k7 : length a7 ≤ length a6 + 4104 = one (codes "cpath") IsPathText 4096 n.created_path path_most l7 in
    let k8 : length a8 ≤ length a7 + 4128 = optional (codes "copyfrom") IsSourceText 4117 n.copy_from source_most l8 in
    let k9 : length a9 ≤ length a8 + 4128 = optional (codes "copyroot") IsRootText 4117 n.copy_root root_most l9 in
    let k10 : length a10 ≤ length a9 + 21 = flag (codes "is-fresh-txn-root") n.is_fresh_txn_root l10 in
    let k11 : length a11 ≤ length a10 + 32 = optional (codes "minfo-cnt") IsNumber64 20 n.mergeinfo_count number_most l11 in
    let k12 : length a12 ≤ length a11 + 14 = flag (codes "minfo-here") n.has_mergeinfo l12 in
    total (length a0) (length a1) (length a2) (length a3) (length a4) (length a5) (length a6) (length a7) (length a8) (length a9) (length a10) (length a11) (length a12) (length out) (ap length empty) k1 k2 k3 k4 k5 k6 k7 k8 k9 k10 k11 k12 (ap length last ∙ length-append a12 (10 ∷ []))
  where
    total : (x0 x1 x2 x3 x4 x5 x6 x7 x8 x9 x10 x11 x12 x : ℕ) → x0 ≡ 0 → x1 ≤ x0 + 117 → x2 ≤ x1 + 11 → x3 ≤ x2 + 119 → x4 ≤ x3 + 28 → x5 ≤ x4 + 214 → x6 ≤ x5 + 215 → x7 ≤ x6 + 4104 → x8 ≤ x7 + 4128 → x9 ≤ x8 + 4128 → x10 ≤ x9 + 21 → x11 ≤ x10 + 32 → x12 ≤ x11 + 14 → x ≡ x12 + 1 → x ≤ 65536
    total x0 x1 x2 x3 x4 x5 x6 x7 x8 x9 x10 x11 x12 x e k1 k2 k3 k4 k5 k6 k7 k8 k9 k10 k11 k12 last = omega arith

-- ---- what is written is read, whatever stands behind it

pub reads_back : (limit : ℕ) (text : List ℕ) (n : NodeRev) → IsNodeRev text n → length text ≤ limit → (rest : List ℕ) → IsRead (take limit (text ++ rest)) n
reads_back limit text n w short rest =
    let size : limit ≡ length text + (limit - length text) = omega arith in
    record {
      fields = w.fields;
      rest = take (limit - length text) rest;
      begins = record { front = text; text = w.text_is; parts = ap (λ (k : ℕ). take k (text ++ rest)) size ∙ take-append-add text rest (limit - length text) };
      means = w.means;
    }
