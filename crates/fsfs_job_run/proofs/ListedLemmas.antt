-- What jobs leave of the labels, one after another.
use Rattle.std.proofs.Common.{◌≡◌, ◌⊎◌, ◌≤◌, ◌+◌, ℕ, List, [], ◌∷◌, ◌++◌, Bool, true, false, cond, refl, sym, ap, subst, ◌∙◌, length-append, inl, inr, ⊎_elim, arith}
use Rattle.std.specs.Prelude.{◌||◌, Option, Some, None, IfSome, option_map}
use Rattle.fsfs_disk.specs.Labels.{Label, same_label, has_label, without_label, AreLeft}
use Rattle.fsfs_disk.proofs.LabelLemmas.{without-AreLeft, without_absent, left_itself, left_then}
use Rattle.fsfs_disk.specs.Transactions.Txns.{txn_label}
use Rattle.fsfs_job_run.specs.Serial.Listed.{without_txns, AreFrom, LeavesListed, AreUnlisted, NoneIsLeft, AllAreKept, ListingsGoOn}

-- ---- the laws

all_left : (txns : List (ℕ × ℕ)) (ls : List Label) → AreLeft ls (without_txns txns ls)
all_left [] ls = left_itself ls
all_left (txn ∷ txns) ls = left_then ls (without_label (txn_label txn) ls) (without_txns txns (without_label (txn_label txn) ls)) (without-AreLeft (txn_label txn) ls) (all_left txns (without_label (txn_label txn) ls))

pub none_is_left : NoneIsLeft
none_is_left least most None new lists = tt
none_is_left least most (Some ls) new lists = subst (λ o. IfSome o (AreLeft ls)) (sym lists.left) (all_left lists.begun ls)

stays : (txns : List (ℕ × ℕ)) (ls : List Label) → AreUnlisted txns (Some ls) → without_txns txns ls ≡ ls
stays [] ls none = refl
stays (txn ∷ txns) ls none = ap (without_txns txns) (without_absent (txn_label txn) ls none.0) ∙ stays txns ls none.1

stay : (txns : List (ℕ × ℕ)) (told : Option (List Label)) → AreUnlisted txns told → option_map (without_txns txns) told ≡ told
stay txns None none = refl
stay txns (Some ls) none = ap (λ (x : List Label). Some x) (stays txns ls none)

pub all_are_kept : AllAreKept
all_are_kept least most old new lists none = lists.left ∙ stay lists.begun old none

without_both : (txns more : List (ℕ × ℕ)) (ls : List Label) → without_txns more (without_txns txns ls) ≡ without_txns (txns ++ more) ls
without_both [] more ls = refl
without_both (txn ∷ txns) more ls = without_both txns more (without_label (txn_label txn) ls)

told_both : (txns more : List (ℕ × ℕ)) (told : Option (List Label)) → option_map (without_txns more) (option_map (without_txns txns) told) ≡ option_map (without_txns (txns ++ more)) told
told_both txns more None = refl
told_both txns more (Some ls) = ap (λ (x : List Label). Some x) (without_both txns more ls)

from_both : (least : ℕ) (txns more : List (ℕ × ℕ)) → AreFrom least txns → AreFrom least more → AreFrom least (txns ++ more)
from_both least [] more a b = b
from_both least (txn ∷ txns) more a b = (a.0, from_both least txns more a.1 b)

pub listings_go_on : ListingsGoOn
listings_go_on least m n old mid new first last = record {
  begun = first.begun ++ last.begun;
  names = from_both least first.begun last.begun first.names last.names;
  few = omega (arith, first.few, last.few, length-append first.begun last.begun);
  left = last.left ∙ ap (option_map (without_txns last.begun)) first.left ∙ told_both first.begun last.begun old;
}

-- ---- one job

-- it began none
pub none_begun : (least most : ℕ) (old new : Option (List Label)) → new ≡ old → LeavesListed least most old new
none_begun least most old new same = record { begun = []; few = omega arith; names = tt; left = same ∙ by old }
  where
    by : (told : Option (List Label)) → told ≡ option_map (without_txns []) told
    by None = refl
    by (Some ls) = refl

-- the label of one is gone
pub one_gone : (least : ℕ) (old new : Option (List Label)) (txn : ℕ × ℕ) → least ≤ txn.1 → new ≡ option_map (without_label (txn_label txn)) old → LeavesListed least 1 old new
one_gone least old new txn from gone = record { begun = txn ∷ []; few = omega arith; names = (from, tt); left = gone ∙ by old }
  where
    by : (told : Option (List Label)) → option_map (without_label (txn_label txn)) told ≡ option_map (without_txns (txn ∷ [])) told
    by None = refl
    by (Some ls) = refl

-- so many at most
pub more_begun : (least most all : ℕ) (old new : Option (List Label)) → most ≤ all → LeavesListed least most old new → LeavesListed least all old new
more_begun least most all old new less lists = record { begun = lists.begun; few = omega (arith, less, lists.few); names = lists.names; left = lists.left }

-- ---- or a call of the disk failed

pub failed_on : {A P Q : Type 0} → (P → Q) → A ⊎ P → A ⊎ Q
failed_on f w = ⊎_elim (λ a. inl a) (λ p. inr (f p)) w

pub lists_on : (P Q R : Type 0) (least m n : ℕ) (old mid new : Option (List Label)) → (P → R) → (Q → R) → LeavesListed least m old mid ⊎ P → LeavesListed least n mid new ⊎ Q → LeavesListed least (m + n) old new ⊎ R
lists_on P Q R least m n old mid new f g first last = ⊎_elim (λ a. ⊎_elim (λ b. inl (listings_go_on least m n old mid new a b)) (λ q. inr (g q)) last) (λ p. inr (f p)) first
