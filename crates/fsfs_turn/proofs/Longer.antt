-- What is of a first part of a history is of the whole.
use Rattle.std.proofs.Common.{◌≡◌, ◌<◌, ◌≤◌, ℕ, suc, zero, List, [], ◌∷◌, ◌++◌, length, sym, ap, refl, ◌∙◌, arith, length-append}
use Rattle.std.specs.Prelude.{slice_get}
use Rattle.std.specs.FinMap.{get}
use Rattle.fsfs_tree.specs.Revisions.{node_in, tree_of}
use Rattle.fsfs_tree.specs.Dated.{last_of}
use Rattle.fsfs_machine.specs.declared.machine.Recorded.{Recorded}
use Rattle.fsfs_machine.specs.declared.machine.Txn.{Txn}
use Rattle.fsfs_machine.specs.Machine.{revisions}
use Rattle.fsfs_machine.proofs.Growing.{goes_on, revisions_length}
use Rattle.fsfs_turn.specs.Views.{Begins, IsTxnOver}

got_first : (g more : List Recorded) (r : ℕ) → r < length g → slice_get (revisions (g ++ more)) r ≡ slice_get (revisions g) r
got_first [] more r less = absurd (omega (arith, less))
got_first (x ∷ g) more zero less = refl
got_first (x ∷ g) more (suc r) less = got_first g more r (omega (arith, less))

pub tree_first : (g h : List Recorded) (r : ℕ) → Begins h g → r < length g → tree_of (revisions g) r ≡ tree_of (revisions h) r
tree_first g h r b less = ap (λ o. node_in o) (sym (got_first g b.0 r less)) ∙ ap (λ l. tree_of (revisions l) r) (sym b.1)

-- a transaction over a first part is one over the whole
pub txn_later : (g h : List Recorded) (x : Txn) → Begins h g → 0 < length g → IsTxnOver g x → IsTxnOver h x
txn_later g h x b some over =
    let a : length (revisions g) ≡ length g = revisions_length g in
    let c : length (revisions h) ≡ length h = revisions_length h in
    goes_on (tree_of (revisions g)) (tree_of (revisions h)) (last_of (revisions g)) (last_of (revisions h)) (omega (arith, a, c, longer)) (λ r le. tree_first g h r b (omega (arith, le, a, some))) x.base (get x.tree) x.marks over
  where
    longer : length g ≤ length h
    longer = let e : length h ≡ length (g ++ b.0) = ap length b.1 in omega (arith, e, length-append g b.0)
