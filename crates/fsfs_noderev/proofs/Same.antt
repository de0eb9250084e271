-- Values that have the same numbers are the same.
use Rattle.std.proofs.Common.{◌≡◌, Option, Some, None, refl, ap}
use Rattle.std.specs.Prelude.{option_map}
use Rattle.fsfs_base.specs.declared.grammar.base36.B36.{B36}
use Rattle.fsfs_base.proofs.Base36Texts.{b36_same}
use Rattle.fsfs_base.specs.declared.fields.txn_name.TxnName.{TxnName}
use Rattle.fsfs_base.proofs.TxnNameTexts.{txn_same}
use Rattle.fsfs_noderev.specs.declared.node_id.Part.{Part}
use Rattle.fsfs_noderev.specs.declared.node_id.Part.TheVariants as part
use Rattle.fsfs_noderev.specs.declared.node_id.Place.{Place}
use Rattle.fsfs_noderev.specs.declared.node_id.Place.TheVariants as place
use Rattle.fsfs_noderev.specs.declared.node_id.NodeId.{NodeId}
use Rattle.fsfs_noderev.specs.declared.rep.Rep.{Rep}
use Rattle.fsfs_noderev.specs.declared.rep.Uniquifier.{Uniquifier}
use Rattle.fsfs_noderev.specs.declared.rep.Contents.{Contents}
use Rattle.fsfs_noderev.specs.declared.rep.Contents.TheVariants as contents
use Rattle.fsfs_noderev.specs.Ids.{IdValue, part_value, place_value, id_value}
use Rattle.fsfs_noderev.specs.Reps.{UniquifierValue, RepValue, unique_value, rep_value, contents_value}

part_same : (a b : Part) → part_value a ≡ part_value b → a ≡ b
part_same (part.New n) (part.New m) e = let f : n.number ≡ m.number = cc in ap (λ (x : B36). part.New x) (b36_same n m f)
part_same (part.New n) (part.Old m) e = absurd cc
part_same (part.New n) (part.Made m r) e = absurd cc
part_same (part.Old n) (part.New m) e = absurd cc
part_same (part.Old n) (part.Old m) e = let f : n.number ≡ m.number = cc in ap (λ (x : B36). part.Old x) (b36_same n m f)
part_same (part.Old n) (part.Made m r) e = absurd cc
part_same (part.Made n s) (part.New m) e = absurd cc
part_same (part.Made n s) (part.Old m) e = absurd cc
part_same (part.Made n s) (part.Made m r) e =
    let f : n.number ≡ m.number = cc in
    let g : s ≡ r = cc in
    λ i. part.Made (b36_same n m f i) (g i)

place_same : (a b : Place) → place_value a ≡ place_value b → a ≡ b
place_same (place.At r o) (place.At s p) e = let f : r ≡ s = cc in let g : o ≡ p = cc in λ i. place.At (f i) (g i)
place_same (place.At r o) (place.In t) e = absurd cc
place_same (place.In t) (place.At s p) e = absurd cc
place_same (place.In t) (place.In u) e =
    let f : t.base ≡ u.base = cc in
    let g : t.number.number ≡ u.number.number = cc in
    ap (λ (x : TxnName). place.In x) (txn_same t u f (b36_same t.number u.number g))

-- ids with the same numbers are the same
pub id_same : (a b : NodeId) → id_value a ≡ id_value b → a ≡ b
id_same a b e =
    let node = part_same a.node b.node (ap (λ (v : IdValue). v.node) e) in
    let copy = part_same a.copy b.copy (ap (λ (v : IdValue). v.copy) e) in
    let place = place_same a.place b.place (ap (λ (v : IdValue). v.place) e) in
    λ i. record { node = node i; copy = copy i; place = place i }

unique_same : (a b : Uniquifier) → unique_value a ≡ unique_value b → a ≡ b
unique_same a b e =
    let sha1 : a.sha1 ≡ b.sha1 = λ i. record { bytes = ap (λ (v : UniquifierValue). v.sha1) e i } in
    let txn = txn_same a.txn b.txn (ap (λ (v : UniquifierValue). v.base) e) (b36_same a.txn.number b.txn.number (ap (λ (v : UniquifierValue). v.txn) e)) in
    let number = b36_same a.number b.number (ap (λ (v : UniquifierValue). v.number) e) in
    λ i. record { sha1 = sha1 i; txn = txn i; number = number i }

uniques_same : (a b : Option Uniquifier) → option_map unique_value a ≡ option_map unique_value b → a ≡ b
uniques_same None None e = refl
uniques_same None (Some u) e = absurd cc
uniques_same (Some t) None e = absurd cc
uniques_same (Some t) (Some u) e = let f : unique_value t ≡ unique_value u = cc in ap (λ (x : Uniquifier). Some x) (unique_same t u f)

-- representations with the same fields are the same
pub rep_same : (a b : Rep) → rep_value a ≡ rep_value b → a ≡ b
rep_same a b e =
    let md5 : a.md5 ≡ b.md5 = λ i. record { bytes = ap (λ (v : RepValue). v.md5) e i } in
    let unique = uniques_same a.unique b.unique (ap (λ (v : RepValue). v.unique) e) in
    λ i. record { rev = ap (λ (v : RepValue). v.rev) e i; offset = ap (λ (v : RepValue). v.offset) e i; length = ap (λ (v : RepValue). v.length) e i; size = ap (λ (v : RepValue). v.size) e i; md5 = md5 i; unique = unique i }

pub contents_same : (a b : Contents) → contents_value a ≡ contents_value b → a ≡ b
contents_same contents.Own contents.Own e = refl
contents_same contents.Own (contents.At s) e = absurd cc
contents_same (contents.At r) contents.Own e = absurd cc
contents_same (contents.At r) (contents.At s) e = let f : rep_value r ≡ rep_value s = cc in ap (λ (x : Rep). contents.At x) (rep_same r s f)
