-- The items before the one that is refused.
use Rattle.std.proofs.Common.{◌≡◌, ℕ, ◌+◌, ◌≤◌, List, ◌++◌, length, take, refl, sym, ap, subst, ◌∙◌, arith}
use Rattle.std.specs.Prelude.{Result, Ok, Err, MatchResult}
use Rattle.std.proofs.lemmas.List.{length-append}
use Rattle.std.proofs.Math.Seq.{take-append_seam}
use Rattle.fsfs_revision.specs.declared.damage.DamageKind.TheVariants as what
use Rattle.fsfs_revision.specs.Damage.Damages.{place_of, damaged}
use Rattle.fsfs_noderev.specs.Changes.Texts.{HasNewPath, AreRevisionChanges, IsItemFault}
use Rattle.fsfs_noderev.specs.declared.changes.item.ChangeItem.{ChangeItem}
use Rattle.fsfs_stands.specs.Items.{IsRefusedItem}

module _ (bytes : List ℕ) (at : ℕ) (fault : IsItemFault HasNewPath bytes at) where
  pub fault_within : at ≤ length bytes
  fault_within = omega (arith, fault.place, ap length fault.parts, length-append fault.front fault.rest)

  front_is : take at bytes ≡ fault.front
  front_is = ap (λ (n : ℕ). take n bytes) fault.place ∙ ap (take (length fault.front)) fault.parts ∙ take-append_seam fault.front fault.rest

  -- the items of the bytes before it
  pub before_it : AreRevisionChanges (take at bytes) fault.earlier
  before_it = subst (λ (t : List ℕ). AreRevisionChanges t fault.earlier) (sym front_is) fault.before

  pub refused_item : (rev begins offset : ℕ) (items : List ChangeItem) → items ≡ fault.earlier → offset ≡ begins + at → IsRefusedItem rev (begins, bytes) items (damaged (place_of rev offset) what.Changes)
  refused_item rev begins offset items same is = record { at = at; fault = fault; earlier = sym same; wrong = ap (λ (n : ℕ). damaged (place_of rev n) what.Changes) is }
