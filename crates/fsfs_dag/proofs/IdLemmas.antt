-- Ids that are the same by their numbers are the same, and the other way round.
use Rattle.std.proofs.Common.{◌≡◌, ℕ, true, false, refl, sym, ap, subst, ◌∙◌, arith, eq-eqb}
use Rattle.std.specs.Prelude.{◌==◌, ◌&&◌}
use Rattle.std.proofs.lemmas.Bool.Decides.{nat_tests}
use Rattle.fsfs_base.specs.declared.grammar.base36.B36.{B36}
use Rattle.fsfs_base.proofs.Base36Texts.{b36_same}
use Rattle.fsfs_base.specs.declared.fields.txn_name.TxnName.{TxnName}
use Rattle.fsfs_base.proofs.TxnNameTexts.{txn_same}
use Rattle.fsfs_noderev.specs.declared.node_id.Part.{Part}
use Rattle.fsfs_noderev.specs.declared.node_id.Part.TheVariants.{New, Old, Made}
use Rattle.fsfs_noderev.specs.declared.node_id.Place.{Place}
use Rattle.fsfs_noderev.specs.declared.node_id.Place.TheVariants.{At, In}
use Rattle.fsfs_noderev.specs.declared.node_id.NodeId.{NodeId}
use Rattle.fsfs_dag.specs.Same.{same_part, same_place, same_id}
use Rattle.std.proofs.lemmas.Bool.{and_from, and_parts}

pub equal : (m n : ℕ) → (m == n) ≡ true → m ≡ n
equal m n h = grind (arith, nat_tests)

pub part_true : (a b : Part) → same_part a b ≡ true → a ≡ b
part_true (New m) (New n) h = ap (λ (x : B36). New x) (b36_same m n (equal m.number n.number h))
part_true (New m) (Old n) h = absurd cc
part_true (New m) (Made n rev) h = absurd cc
part_true (Old m) (New n) h = absurd cc
part_true (Old m) (Old n) h = ap (λ (x : B36). Old x) (b36_same m n (equal m.number n.number h))
part_true (Old m) (Made n rev) h = absurd cc
part_true (Made m made) (New n) h = absurd cc
part_true (Made m made) (Old n) h = absurd cc
part_true (Made m made) (Made n rev) h =
    let two = and_parts (m.number == n.number) (made == rev) h in
    let number = b36_same m n (equal m.number n.number two.0) in
    let revision = equal made rev two.1 in
    λ i. Made (number i) (revision i)

place_true : (a b : Place) → same_place a b ≡ true → a ≡ b
place_true (At rev offset) (At other place) h =
    let two = and_parts (rev == other) (offset == place) h in
    let r = equal rev other two.0 in
    let o = equal offset place two.1 in
    λ i. At (r i) (o i)
place_true (At rev offset) (In txn) h = absurd cc
place_true (In txn) (At rev offset) h = absurd cc
place_true (In txn) (In other) h =
    let two = and_parts (txn.base == other.base) (txn.number.number == other.number.number) h in
    ap (λ (t : TxnName). In t) (txn_same txn other (equal txn.base other.base two.0) (b36_same txn.number other.number (equal txn.number.number other.number.number two.1)))

pub id_true : (a b : NodeId) → same_id a b ≡ true → a ≡ b
id_true a b h =
    let rest = and_parts (same_part a.node b.node && same_part a.copy b.copy) (same_place a.place b.place) h in
    let two = and_parts (same_part a.node b.node) (same_part a.copy b.copy) rest.0 in
    let node = part_true a.node b.node two.0 in
    let copy = part_true a.copy b.copy two.1 in
    let place = place_true a.place b.place rest.1 in
    λ i. record { node = node i; copy = copy i; place = place i }

pub itself : (n : ℕ) → (n == n) ≡ true
itself n = eq-eqb n n refl

pub part_self : (a : Part) → same_part a a ≡ true
part_self (New m) = itself m.number
part_self (Old m) = itself m.number
part_self (Made m made) = and_from (m.number == m.number) (made == made) (itself m.number) (itself made)

place_self : (a : Place) → same_place a a ≡ true
place_self (At rev offset) = and_from (rev == rev) (offset == offset) (itself rev) (itself offset)
place_self (In txn) = and_from (txn.base == txn.base) (txn.number.number == txn.number.number) (itself txn.base) (itself txn.number.number)

pub id_self : (a : NodeId) → same_id a a ≡ true
id_self a =
    and_from (same_part a.node a.node && same_part a.copy a.copy) (same_place a.place a.place) (and_from (same_part a.node a.node) (same_part a.copy a.copy) (part_self a.node) (part_self a.copy)) (place_self a.place)

pub id_false : (a b : NodeId) → same_id a b ≡ false → a ≡ b → ⊥
id_false a b h e =
    let t : same_id a b ≡ true = subst (λ (x : NodeId). same_id a x ≡ true) e (id_self a) in
    let clash : false ≡ true = sym h ∙ t in
    cc
