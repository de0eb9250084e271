-- What a draft tells, by its stage.
use Rattle.std.proofs.Common.{◌≡◌, ℕ, List, sym, subst}
use Rattle.std.specs.Prelude.{Option, option_map}
use Rattle.fsfs_base.specs.Files.{Files}
use Rattle.fsfs_draft.specs.Drafts.{Folder}
use Rattle.fsfs_txn_nodes.specs.Memory.Lists.{files_of}
use Rattle.fsfs_txn_nodes.specs.Memory.Views.{folder_of}
use Rattle.fsfs_machine.specs.declared.machine.Recorded.{Recorded}
use Rattle.fsfs_machine.specs.declared.machine.Txn.{Txn}
use Rattle.fsfs_commit.specs.declared.transaction.open_txn.OpenTxn.{OpenTxn}
use Rattle.fsfs_commit.specs.declared.transaction.ended_txn.EndedTxn.{EndedTxn}
use Rattle.fsfs_commit.specs.declared.transaction.txn_draft.Stage.{Stage}
use Rattle.fsfs_commit.specs.declared.transaction.txn_draft.Stage.TheVariants.{Open, Ended}
use Rattle.fsfs_commit.specs.Transaction.Meaning.{Means, HoldsBehind, IfOpen, OfStage}

-- what is settled of a transaction under way
abbrev pub settled_in : {B : Type 0} {D : _} → (B → Option Files) → OpenTxn B D → Folder
settled_in contents o = folder_of (files_of o.txn.own.settled) o.txn.own.settled_next o.txn.own.items.items (contents o.txn.own.bench) o.txn.own.proto

abbrev pub meaning : {B : Type 0} {D : _} → (B → Option Files) → List Recorded → Txn → OpenTxn B D → Type 0
meaning contents h x o = Means o.txn.spent h o.txn.own.txn o.txn.base (settled_in contents o) x

abbrev pub behind : {B : Type 0} {D : _} → (B → Option Files) → List ℕ → OpenTxn B D → Type 0
behind contents bytes o = HoldsBehind (contents o.txn.own.bench) (settled_in contents o).proto (option_map (λ t. t.items) o.text) bytes

pub if_open : {B : Type 0} {D : _} (s : Stage B D) (o : OpenTxn B D) (P : OpenTxn B D → Type 0) → s ≡ Open o → IfOpen s P → P o
if_open s o P e w = subst (λ z. IfOpen z P) e w

pub of_ended : {B : Type 0} {D : _} (s : Stage B D) (e : EndedTxn B) (P : OpenTxn B D → Type 0) (Q : EndedTxn B → Type 0) → s ≡ Ended e → OfStage s P Q → Q e
of_ended s e P Q is w = subst (λ z. OfStage z P Q) is w

pub of_open : {B : Type 0} {D : _} (s : Stage B D) (o : OpenTxn B D) (P : OpenTxn B D → Type 0) (Q : EndedTxn B → Type 0) → s ≡ Open o → OfStage s P Q → P o
of_open s o P Q is w = subst (λ z. OfStage z P Q) is w

-- where it is under way in no case, nothing is to be told
pub no_open : {B : Type 0} {D : _} (s : Stage B D) (P : OpenTxn B D → Type 0) → OfStage s (λ o. ⊥) (λ e. Unit {0}) → IfOpen s P
no_open (Open o) P w = absurd w
no_open (Ended e) P w = tt

pub of_stage_then : {B : Type 0} {D : _} (s : Stage B D) (P R : OpenTxn B D → Type 0) (Q S : EndedTxn B → Type 0) → ((o : OpenTxn B D) → P o → R o) → ((e : EndedTxn B) → Q e → S e) → OfStage s P Q → OfStage s R S
of_stage_then (Open o) P R Q S open_on ended_on w = open_on o w
of_stage_then (Ended e) P R Q S open_on ended_on w = ended_on e w
