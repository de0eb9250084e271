-- A pack's label comes and goes: the labels of transactions stay.
use Rattle.std.proofs.Common.{◌≡◌, ℕ, List, [], ◌∷◌, ◌++◌, Bool, true, false, ⊎_elim, refl, ap, subst, ◌∙◌}
use Rattle.std.specs.Prelude.{◌==◌, Option, Some, None, Result, Ok, Err, IfOk, OnErr, option_map, if◌then◌else◌}
use Rattle.fsfs_disk.specs.Labels.{Label, Txn, Pack, HotCopy, txn_entries, with_label, without_label}
use Rattle.fsfs_turn.specs.Labels.{KeepsLabels, Relabels, MayRelabel, Drops}
use Rattle.fsfs_pack.specs.Packs.{KeepsTxns}

same_head : (x : List ℕ) (a b : List (List ℕ)) → a ≡ b → x ∷ a ≡ x ∷ b
same_head x a b e = ap (λ l. x ∷ l) e

-- with or without it
by_same : (k a : ℕ) (ls : List Label) (b : Bool) → txn_entries (without_label (Pack k) ls) ≡ txn_entries ls → txn_entries (if b then without_label (Pack k) ls else Pack a ∷ without_label (Pack k) ls) ≡ txn_entries ls
by_same k a ls true e = e
by_same k a ls false e = e

entries_without : (k : ℕ) (ls : List Label) → txn_entries (without_label (Pack k) ls) ≡ txn_entries ls
entries_without k [] = refl
entries_without k (Txn base number ∷ ls) = same_head _ (txn_entries (without_label (Pack k) ls)) (txn_entries ls) (entries_without k ls)
entries_without k (HotCopy ∷ ls) = entries_without k ls
entries_without k (Pack a ∷ ls) = by_same k a ls (a == k) (entries_without k ls)

entries_behind : (k : ℕ) (ls : List Label) → txn_entries (ls ++ Pack k ∷ []) ≡ txn_entries ls
entries_behind k [] = refl
entries_behind k (Txn base number ∷ ls) = same_head _ (txn_entries (ls ++ Pack k ∷ [])) (txn_entries ls) (entries_behind k ls)
entries_behind k (HotCopy ∷ ls) = entries_behind k ls
entries_behind k (Pack a ∷ ls) = entries_behind k ls

entries_with : (k : ℕ) (ls : List Label) → txn_entries (with_label (Pack k) ls) ≡ txn_entries ls
entries_with k ls = entries_behind k (without_label (Pack k) ls) ∙ entries_without k ls

in_option : (f : List Label → List Label) → ((ls : List Label) → txn_entries (f ls) ≡ txn_entries ls) → (o : Option (List Label)) → option_map txn_entries (option_map f o) ≡ option_map txn_entries o
in_option f same None = refl
in_option f same (Some ls) = ap (λ l. Some l) (same ls)

pub keeps_same : (bound : Bool) (old new : Option (List Label)) → KeepsLabels bound old new → KeepsTxns bound old new
keeps_same bound old new k = λ free. ap (option_map txn_entries) (k free)

pub keeps_then : (bound now : Bool) (old middle new : Option (List Label)) → now ≡ bound → KeepsTxns bound old middle → KeepsTxns now middle new → KeepsTxns bound old new
keeps_then bound now old middle new same a b = λ free. b (same ∙ free) ∙ a free

pub keeps_made : (bound : Bool) (k : ℕ) (label : Label) (old new : Option (List Label)) → label ≡ Pack k → Relabels bound (with_label label) old new → KeepsTxns bound old new
keeps_made bound k label old new is r = λ free. ap (option_map txn_entries) (r.made ∙ ap (λ l. option_map (with_label l) r.met) is) ∙ in_option (with_label (Pack k)) (entries_with k) r.met ∙ ap (option_map txn_entries) (r.is_met free)

keeps_may : (bound : Bool) (f : List Label → List Label) (old new : Option (List Label)) → ((ls : List Label) → txn_entries (f ls) ≡ txn_entries ls) → MayRelabel bound f old new → KeepsTxns bound old new
keeps_may bound f old new same r = λ free. ⊎_elim (λ (is : new ≡ r.met). ap (option_map txn_entries) is) (λ (is : new ≡ option_map f r.met). ap (option_map txn_entries) is ∙ in_option f same r.met) r.either ∙ ap (option_map txn_entries) (r.is_met free)

pub keeps_may_make : (bound : Bool) (k : ℕ) (label : Label) (old new : Option (List Label)) → label ≡ Pack k → MayRelabel bound (with_label label) old new → KeepsTxns bound old new
keeps_may_make bound k label old new is r = keeps_may bound (with_label (Pack k)) old new (entries_with k) (subst (λ l. MayRelabel bound (with_label l) old new) is r)

pub keeps_may_drop : (bound : Bool) (k : ℕ) (label : Label) (old new : Option (List Label)) → label ≡ Pack k → MayRelabel bound (without_label label) old new → KeepsTxns bound old new
keeps_may_drop bound k label old new is r = keeps_may bound (without_label (Pack k)) old new (entries_without k) (subst (λ l. MayRelabel bound (without_label l) old new) is r)

pub keeps_dropped : (bound : Bool) (k : ℕ) (label : Label) (there : Bool) (old new : Option (List Label)) → label ≡ Pack k → Drops bound label there old new → KeepsTxns bound old new
keeps_dropped bound k label there old new is r = λ free. ap (option_map txn_entries) (r.made ∙ ap (λ l. option_map (without_label l) r.met) is) ∙ in_option (without_label (Pack k)) (entries_without k) r.met ∙ ap (option_map txn_entries) (r.is_met free)

-- a bench was dropped, or that failed
pub keeps_drop : {E : Type 0} (result : Result Bool E) (bound : Bool) (k : ℕ) (label : Label) (old new : Option (List Label)) → label ≡ Pack k → IfOk result (λ there. Drops bound label there old new) → OnErr result (MayRelabel bound (without_label label) old new) → KeepsTxns bound old new
keeps_drop (Ok there) bound k label old new is dropped left = keeps_dropped bound k label there old new is dropped
keeps_drop (Err e) bound k label old new is dropped left = keeps_may_drop bound k label old new is left
