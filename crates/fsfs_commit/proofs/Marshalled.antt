-- What was made of a transaction is what a commit wants: over the first part of what was seen, behind which the revision stands.
use Rattle.std.proofs.Common.{◌≡◌, ◌≤◌, ◌+◌, ℕ, List, [], ◌∷◌, ◌++◌, length, refl, sym, subst, ◌∙◌, arith, take}
use Rattle.std.specs.Prelude.{Option, IsSome, option_map}
use Rattle.std.proofs.lemmas.List.{length-take-le}
use Rattle.fsfs_base.specs.Files.{Files}
use Rattle.fsfs_disk.specs.Benches.{bytes_on}
use Rattle.fsfs_base.specs.Fields.RevNums.{last_rev}
use Rattle.fsfs_base.specs.declared.fields.txn_name.TxnName.{TxnName}
use Rattle.fsfs_tree.specs.Revisions.{Revision}
use Rattle.fsfs_tree.specs.Dated.{IsDated}
use Rattle.fsfs_model.specs.Flat.Transactions.{IsNext}
use Rattle.fsfs_draft.specs.Drafts.{Folder}
use Rattle.fsfs_machine.specs.declared.machine.Recorded.{Recorded}
use Rattle.fsfs_machine.specs.declared.machine.Txn.{Txn}
use Rattle.fsfs_machine.specs.Machine.{revisions, entry_of}
use Rattle.fsfs_turn.specs.Bytes.{BytesShow}
use Rattle.fsfs_commit.specs.Transaction.Meaning.{IsTxnOf, IsTextBehind, OfStage}
use Rattle.fsfs_commit.proofs.Coming.{next, is_next, next_shown}
use Rattle.fsfs_commit.proofs.Stages.{settled_in, behind}
use Rattle.fsfs_commit.specs.declared.transaction.txn_draft.Stage.{Stage}
use Rattle.fsfs_commit.specs.declared.transaction.txn_draft.Stage.TheVariants.{Open, Ended}

module _ (seen : List Recorded) (rev : ℕ) (long : rev ≤ length seen) (fits : rev ≤ last_rev) (x : Txn) (properties : List (List ℕ × List ℕ)) (dated : IsDated properties) (next_to : x.base + 1 ≡ rev) (shown : BytesShow (take rev seen))
    (name : TxnName) (base : ℕ) (settled : Folder) (is : IsTxnOf (take rev seen) name base settled x) (text : Option (List ℕ)) (made : IsTextBehind (take rev seen) settled x text) where
  here : IsTxnOf (take rev seen) name x.base settled x
  here = subst (λ b. IsTxnOf (take rev seen) name b settled x) (sym is.on) is

  part_long : length (take rev seen) ≡ x.base + 1
  part_long = length-take-le rev seen long ∙ sym next_to

  pub marshalled : (Holds : List ℕ → Type 0) (Numbered Written : Type 0) → Holds (settled.proto ++ made.behind) → Numbered → Written
      → (bytes : List ℕ) × (then : Revision) × Holds bytes × ((number : ℕ) → IsNext (revisions (take rev seen)) (entry_of number x properties) then) × BytesShow (take rev seen ++ record { revision = then; bytes = bytes } ∷ []) × Numbered × Written
  marshalled Holds Numbered Written holds numbered written = (
    settled.proto ++ made.behind,
    next (take rev seen) name x.base settled x here shown part_long settled.items made.behind properties dated made.final,
    holds,
    λ number. is_next (take rev seen) name x.base settled x here shown part_long settled.items made.behind properties dated made.final number (omega (arith, next_to, fits)),
    next_shown (take rev seen) name x.base settled x here shown part_long settled.items made.behind properties dated made.final,
    numbered,
    written,
  )

-- the same by the stage
pub stage_marshalled : {B : Type 0} {D : _} (contents : B → Option Files) → ((bench : B) → IsSome (contents bench)) → (s : Stage B D) (seen : List Recorded) (rev : ℕ) → rev ≤ length seen → rev ≤ last_rev → (x : Txn) (properties : List (List ℕ × List ℕ))
    → IsDated properties → x.base + 1 ≡ rev → BytesShow (take rev seen)
    → OfStage s (λ o. IsTxnOf (take rev seen) o.txn.own.txn o.txn.base (settled_in contents o) x × IsTextBehind (take rev seen) (settled_in contents o) x (option_map (λ t. t.items) o.text)) (λ e. ⊥)
    → (Numbered Written : Type 0) → Numbered → Written
    → (bytes : List ℕ) × (then : Revision) × OfStage s (λ o. behind contents bytes o) (λ e. bytes ≡ bytes_on (contents e.bench) e.file) × ((number : ℕ) → IsNext (revisions (take rev seen)) (entry_of number x properties) then) × BytesShow (take rev seen ++ record { revision = then; bytes = bytes } ∷ []) × Numbered × Written
stage_marshalled contents tells (Open o) seen rev long fits x properties dated next_to shown w Numbered Written numbered written =
    marshalled seen rev long fits x properties dated next_to shown o.txn.own.txn o.txn.base (settled_in contents o) w.0 (option_map (λ t. t.items) o.text) w.1 (λ bytes. behind contents bytes o) Numbered Written (w.1.behind, tells o.txn.own.bench, w.1.text_is, refl) numbered written
stage_marshalled contents tells (Ended e) seen rev long fits x properties dated next_to shown w Numbered Written numbered written = absurd w
