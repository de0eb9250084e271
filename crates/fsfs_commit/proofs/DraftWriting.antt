-- Bytes written behind those of a file, and a transaction that nothing was done to.
use Rattle.std.proofs.Common.{◌≡◌, ◌∙◌, ℕ, List, ◌++◌, sym, ap, subst}
use Rattle.std.proofs.lemmas.Option.{same_Some}
use Rattle.std.specs.Prelude.{Option, Some, None, Result, Ok, Err, option_map, IsSome, IfSome, OnOk, OnErr}
use Rattle.fsfs_base.specs.Files.{Files}
use Rattle.fsfs_base.specs.declared.failed.Failed.{Failed}
use Rattle.fsfs_disk.specs.Benches.{appended, bytes_on}
use Rattle.fsfs_disk.proofs.BenchLemmas.{bytes_in-appended}
use Rattle.fsfs_draft.specs.Drafts.{Folder}
use Rattle.fsfs_base.specs.declared.fields.txn_name.TxnName.{TxnName}
use Rattle.fsfs_machine.specs.declared.machine.Recorded.{Recorded}
use Rattle.fsfs_machine.specs.declared.machine.Txn.{Txn}
use Rattle.fsfs_commit.specs.Transaction.Meaning.{IsTxnOf, Means}

pub written_behind : (old new : Option Files) (file text proto bytes : List ℕ) → IsSome old → new ≡ option_map (appended file text) old → bytes_on old file ≡ proto → bytes ≡ proto ++ text → bytes ≡ bytes_on new file
written_behind None new file text proto bytes some is same w = absurd cc
written_behind (Some m) new file text proto bytes some is same w = w ∙ ap (λ l. l ++ text) (sym same) ∙ sym (bytes_in-appended m file text) ∙ ap (λ o. bytes_on o file) (sym is)

-- what is said where a bench tells
pub where_told : {X : Type 0} (o : Option X) (P : Type 0) → IsSome o → IfSome o (λ m. P) → P
where_told None P some w = absurd cc
where_told (Some m) P some w = w

pub txn_as : (h : List Recorded) (n m : TxnName) (b d : ℕ) (f g : Folder) (x : Txn) → m ≡ n → d ≡ b → g ≡ f → IsTxnOf h n b f x → IsTxnOf h m d g x
txn_as h n m b d f g x name base folder is = subst (λ z. IsTxnOf h z d g x) (sym name) (subst (λ z. IsTxnOf h n z g x) (sym base) (subst (λ z. IsTxnOf h n b z x) (sym folder) is))

pub means_as : (s t : Option Failed) (h : List Recorded) (n m : TxnName) (b d : ℕ) (f g : Folder) (x : Txn) → t ≡ s → m ≡ n → d ≡ b → g ≡ f → Means s h n b f x → Means t h m d g x
means_as s t h n m b d f g x spent name base folder means = λ none. txn_as h n m b d f g x name base folder (means (sym spent ∙ none))

pub ok_then : {X E : Type 0} (r : Result X E) (P Q : Type 0) → (P → Q) → OnOk r P → OnOk r Q
ok_then (Ok x) P Q f p = f p
ok_then (Err e) P Q f p = tt

-- what was made last, where that is there
pub held_text : {V : Type 0} (items : V → List ℕ) (o : Option V) (v : V) (more : List ℕ) → o ≡ Some v → option_map items o ≡ Some more → items v ≡ more
held_text items o v more e w = same_Some (items v) more (sym (ap (option_map items) e) ∙ w)
