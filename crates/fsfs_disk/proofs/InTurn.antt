-- What is left as transactions are removed in turn.
use Rattle.std.proofs.Common.{◌≡◌, ◌⊎◌, ℕ, ◌+◌, ◌<◌, List, [], ◌∷◌, ◌++◌, length, map, take, drop, Bool, true, false, cond, inl, inr, ⊎_elim, refl, sym, ap, subst, ◌∙◌}
use Rattle.std.proofs.lemmas.List.{drop_more, map-append, take-append-drop, take-map, take_more}
use Rattle.std.proofs.lemmas.Option.{same_Some, none-some}
use Rattle.std.specs.Prelude.{◌||◌, slice_index_or, Option, Some, None, option_map, IfSome, IfOk, OnOk, OnErr, Result, Ok, Err}
use Rattle.fsfs_disk.specs.Labels.{Label, has_label, same_label, without_label}
use Rattle.fsfs_disk.specs.Trace.{Trace, DropLabel, files_now, labels_now, Attempts, Performs, PerformsIfThere, FailsAt}
use Rattle.fsfs_disk.specs.Crash.{AllImages, AllLabels, AreAll, Leaves, LeavesBoth}
use Rattle.fsfs_disk.proofs.CrashLemmas.{keeps_no_label, leaves_then, own_images, same_leaves}
use Rattle.fsfs_disk.proofs.LabelLemmas.{without_absent}
use Rattle.fsfs_disk.proofs.LeftLemmas.{amid_same, both_then, keeps_labels_at, same_both}
use Rattle.fsfs_base.specs.declared.fields.txn_name.TxnName.{TxnName}
use Rattle.fsfs_disk.specs.Transactions.Txns.{pair_of, txn_label}
use Rattle.fsfs_disk.specs.Transactions.Removals.{first_lacking, labels_left, HasLabels, IsImageOf, WasKept}

-- ---- one removal

labels_dropped : (l : Label) (old new : Option Trace) (there : Bool) → IfSome old (λ t. there ≡ has_label l (labels_now t)) → PerformsIfThere there (DropLabel l) old new → HasLabels (without_label l) old new
labels_dropped l None new true is performed = ap (λ o. option_map labels_now o) performed
labels_dropped l (Some t) new true is performed = ap (λ o. option_map labels_now o) performed
labels_dropped l None new false is same = ap (λ o. option_map labels_now o) same
labels_dropped l (Some t) new false is same = ap (λ o. option_map labels_now o) same ∙ ap (λ (ls : List Label). Some ls) (sym (without_absent l (labels_now t) (sym is)))

-- a removal that was done takes the label away
pub dropped : {E : Type 0} (l : Label) (old new : Option Trace) (result : Result Bool E) → IfSome old (λ t. IfOk result (λ there. there ≡ has_label l (labels_now t)))
    → IfOk result (λ there. PerformsIfThere there (DropLabel l) old new) → OnOk result (HasLabels (without_label l) old new)
dropped l None new (Ok there) is done = labels_dropped l None new there tt done
dropped l (Some t) new (Ok there) is done = labels_dropped l (Some t) new there is done
dropped l old new (Err e) is done = tt

labels_attempted : (l : Label) (old new : Option Trace) → Attempts (DropLabel l) old new → HasLabels (λ ls. ls) old new
labels_attempted l None new e = ap (λ o. option_map labels_now o) e
labels_attempted l (Some t) new e = ap (λ o. option_map labels_now o) e

labels_performed : (l : Label) (old new : Option Trace) → Performs (DropLabel l) old new → HasLabels (without_label l) old new
labels_performed l None new e = ap (λ o. option_map labels_now o) e
labels_performed l (Some t) new e = ap (λ o. option_map labels_now o) e

-- one that failed leaves it or not
pub labels_ended : (l : Label) (old new : Option Trace) → FailsAt (DropLabel l) old new → HasLabels (λ ls. ls) old new ⊎ HasLabels (without_label l) old new
labels_ended l old new ended = ⊎_elim (λ e. inl (ap (λ o. option_map labels_now o) e)) (λ w. ⊎_elim (λ e. inl (labels_attempted l old new e)) (λ e. inr (labels_performed l old new e)) w) ended

pub on_err : {T E P : Type 0} (result : Result T E) → P → OnErr result P
on_err (Ok x) p = tt
on_err (Err e) p = p

files_attempted : (l : Label) (old new : Option Trace) → Attempts (DropLabel l) old new → option_map files_now new ≡ option_map files_now old
files_attempted l None new e = ap (λ o. option_map files_now o) e
files_attempted l (Some t) new e = ap (λ o. option_map files_now o) e

files_performed : (l : Label) (old new : Option Trace) → Performs (DropLabel l) old new → option_map files_now new ≡ option_map files_now old
files_performed l None new e = ap (λ o. option_map files_now o) e
files_performed l (Some t) new e = ap (λ o. option_map files_now o) e

pub files_ended : (l : Label) (old new : Option Trace) → FailsAt (DropLabel l) old new → option_map files_now new ≡ option_map files_now old
files_ended l old new ended = ⊎_elim (λ e. ap (λ o. option_map files_now o) e) (λ w. ⊎_elim (files_attempted l old new) (files_performed l old new) w) ended

-- ---- several in turn: what stays, whatever was answered

pub record Stays (old new : Option Trace) : Type 0 where
  pub files : option_map files_now new ≡ option_map files_now old
  pub images : AllImages new (IsImageOf old)
  pub moments : Leaves old new (IsImageOf old)
  pub kept : AllLabels new (WasKept old)
  pub left : LeavesBoth old new (λ m ls. AreAll (WasKept old) ls)

pub old_kept : (old : Option Trace) → AllLabels old (WasKept old)
old_kept None = tt
old_kept (Some t) = λ l has. has

pub stays_itself : (old : Option Trace) → Stays old old
stays_itself old = record {
  files = refl;
  images = own_images old;
  moments = same_leaves old old (IsImageOf old) refl;
  kept = old_kept old;
  left = same_both old old (λ m ls. AreAll (WasKept old) ls) refl;
}

pub stays_more : (l : Label) (old mid new : Option Trace) → Stays old mid → FailsAt (DropLabel l) mid new → Stays old new
stays_more l old mid new s ended =
    let i = keeps_no_label l (IsImageOf old) mid new ended s.images in
    let k = keeps_labels_at (DropLabel l) (WasKept old) mid new ended (amid_same (DropLabel l) (WasKept old) (λ ls. refl)) s.kept in
    record {
      files = files_ended l mid new ended ∙ s.files;
      images = i.0;
      moments = leaves_then old mid new (IsImageOf old) s.moments i.1;
      kept = k.0;
      left = both_then old mid new (λ m ls. AreAll (WasKept old) ls) s.left k.1;
    }

-- ---- which were removed

lacking_append : (xs ys : List (ℕ × ℕ)) (ls : List Label) → first_lacking xs ls ≡ None → first_lacking (xs ++ ys) ls ≡ first_lacking ys (labels_left xs ls)
lacking_append [] ys ls none = refl
lacking_append (x ∷ xs) ys ls none = by_first (has_label (txn_label x) ls) (lacking_append xs ys (without_label (txn_label x) ls)) none
  where
    by_first : (b : Bool) → (first_lacking xs (without_label (txn_label x) ls) ≡ None → first_lacking (xs ++ ys) (without_label (txn_label x) ls) ≡ first_lacking ys (labels_left xs (without_label (txn_label x) ls)))
        → cond b (first_lacking xs (without_label (txn_label x) ls)) (Some x) ≡ None
        → cond b (first_lacking (xs ++ ys) (without_label (txn_label x) ls)) (Some x) ≡ first_lacking ys (cond b (labels_left xs (without_label (txn_label x) ls)) ls)
    by_first true more none = more none
    by_first false more none = absurd (none-some x (sym none))

left_append : (xs ys : List (ℕ × ℕ)) (ls : List Label) → first_lacking xs ls ≡ None → labels_left (xs ++ ys) ls ≡ labels_left ys (labels_left xs ls)
left_append [] ys ls none = refl
left_append (x ∷ xs) ys ls none = by_first (has_label (txn_label x) ls) (left_append xs ys (without_label (txn_label x) ls)) none
  where
    by_first : (b : Bool) → (first_lacking xs (without_label (txn_label x) ls) ≡ None → labels_left (xs ++ ys) (without_label (txn_label x) ls) ≡ labels_left ys (labels_left xs (without_label (txn_label x) ls)))
        → cond b (first_lacking xs (without_label (txn_label x) ls)) (Some x) ≡ None
        → cond b (labels_left (xs ++ ys) (without_label (txn_label x) ls)) ls ≡ labels_left ys (cond b (labels_left xs (without_label (txn_label x) ls)) ls)
    by_first true more none = more none
    by_first false more none = absurd (none-some x (sym none))

-- All of these were removed.
pub record AreRemoved (txns : List (ℕ × ℕ)) (old new : Option Trace) : Type 0 where
  pub labels : HasLabels (labels_left txns) old new
  pub all : IfSome old (λ t. first_lacking txns (labels_now t) ≡ None)

-- what a disk tells whose labels are made of others
told : (left : List Label → List Label) (t : Trace) (mid : Option Trace) → HasLabels left (Some t) mid → (u : Trace) × (mid ≡ Some u) × (labels_now u ≡ left (labels_now t))
told left t None has = absurd (none-some (left (labels_now t)) has)
told left t (Some u) has = (u, refl, same_Some (labels_now u) (left (labels_now t)) has)

-- the labels of a disk, with one call more
then : (f g : List Label → List Label) (old mid new : Option Trace) → HasLabels f old mid → HasLabels g mid new → HasLabels (λ ls. g (f ls)) old new
then f g None mid new a b = b ∙ nothing mid a
  where
    nothing : (o : Option Trace) → option_map labels_now o ≡ None → option_map (λ t. g (labels_now t)) o ≡ None
    nothing None e = refl
    nothing (Some u) e = absurd (none-some (labels_now u) (sym e))
then f g (Some t) mid new a b =
    let m = told f t mid a in
    b ∙ ap (λ o. option_map (λ (u : Trace). g (labels_now u)) o) m.1 ∙ ap (λ (ls : List Label). Some (g ls)) m.2

same_left : (f g : List Label → List Label) (old new : Option Trace) → IfSome old (λ t. f (labels_now t) ≡ g (labels_now t)) → HasLabels f old new → HasLabels g old new
same_left f g None new same has = has
same_left f g (Some t) new same has = has ∙ ap (λ (ls : List Label). Some ls) same

-- whether a label is kept after that
kept_then : (f : List Label → List Label) (l : Label) (there : Bool) (old mid : Option Trace) → HasLabels f old mid → IfSome mid (λ t. there ≡ has_label l (labels_now t)) → IfSome old (λ t. there ≡ has_label l (f (labels_now t)))
kept_then f l there None mid has is = tt
kept_then f l there (Some t) mid has is =
    let m = told f t mid has in
    let at : there ≡ has_label l (labels_now m.0) = subst (λ (o : Option Trace). IfSome o (λ u. there ≡ has_label l (labels_now u))) m.1 is in
    at ∙ ap (has_label l) m.2

-- one more was removed
pub removed_more : (txns : List (ℕ × ℕ)) (txn : ℕ × ℕ) (old mid new : Option Trace) → AreRemoved txns old mid → IfSome mid (λ t. true ≡ has_label (txn_label txn) (labels_now t)) → HasLabels (without_label (txn_label txn)) mid new → AreRemoved (txns ++ txn ∷ []) old new
removed_more txns txn old mid new r there done = record {
  labels = same_left (λ ls. without_label (txn_label txn) (labels_left txns ls)) (labels_left (txns ++ txn ∷ [])) old new (labels_of old r.all kept) (then (labels_left txns) (without_label (txn_label txn)) old mid new r.labels done);
  all = all_of old r.all kept;
}
  where
    kept : IfSome old (λ t. true ≡ has_label (txn_label txn) (labels_left txns (labels_now t)))
    kept = kept_then (labels_left txns) (txn_label txn) true old mid r.labels there

    labels_of : (o : Option Trace) → IfSome o (λ t. first_lacking txns (labels_now t) ≡ None) → IfSome o (λ t. true ≡ has_label (txn_label txn) (labels_left txns (labels_now t)))
        → IfSome o (λ t. without_label (txn_label txn) (labels_left txns (labels_now t)) ≡ labels_left (txns ++ txn ∷ []) (labels_now t))
    labels_of None none has = tt
    labels_of (Some t) none has =
        let ls = labels_left txns (labels_now t) in
        sym (left_append txns (txn ∷ []) (labels_now t) none ∙ ap (λ b. cond b (without_label (txn_label txn) ls) ls) (sym has))

    all_of : (o : Option Trace) → IfSome o (λ t. first_lacking txns (labels_now t) ≡ None) → IfSome o (λ t. true ≡ has_label (txn_label txn) (labels_left txns (labels_now t)))
        → IfSome o (λ t. first_lacking (txns ++ txn ∷ []) (labels_now t) ≡ None)
    all_of None none has = tt
    all_of (Some t) none has = lacking_append txns (txn ∷ []) (labels_now t) none ∙ ap (λ b. cond b None (Some txn)) (sym has)

-- the next is lacking
pub removed_upto : (txns : List (ℕ × ℕ)) (txn : ℕ × ℕ) (rest : List (ℕ × ℕ)) (old mid new : Option Trace) → AreRemoved txns old mid → IfSome mid (λ t. false ≡ has_label (txn_label txn) (labels_now t)) → HasLabels (without_label (txn_label txn)) mid new
    → HasLabels (labels_left (txns ++ txn ∷ rest)) old new × IfSome old (λ t. first_lacking (txns ++ txn ∷ rest) (labels_now t) ≡ Some txn)
removed_upto txns txn rest old mid new r there done = (
  same_left (λ ls. without_label (txn_label txn) (labels_left txns ls)) (labels_left (txns ++ txn ∷ rest)) old new (labels_of old r.all kept) (then (labels_left txns) (without_label (txn_label txn)) old mid new r.labels done),
  all_of old r.all kept,
)
  where
    kept : IfSome old (λ t. false ≡ has_label (txn_label txn) (labels_left txns (labels_now t)))
    kept = kept_then (labels_left txns) (txn_label txn) false old mid r.labels there

    labels_of : (o : Option Trace) → IfSome o (λ t. first_lacking txns (labels_now t) ≡ None) → IfSome o (λ t. false ≡ has_label (txn_label txn) (labels_left txns (labels_now t)))
        → IfSome o (λ t. without_label (txn_label txn) (labels_left txns (labels_now t)) ≡ labels_left (txns ++ txn ∷ rest) (labels_now t))
    labels_of None none has = tt
    labels_of (Some t) none has =
        let ls = labels_left txns (labels_now t) in
        without_absent (txn_label txn) ls (sym has)
        ∙ sym (left_append txns (txn ∷ rest) (labels_now t) none ∙ ap (λ b. cond b (labels_left rest (without_label (txn_label txn) ls)) ls) (sym has))

    all_of : (o : Option Trace) → IfSome o (λ t. first_lacking txns (labels_now t) ≡ None) → IfSome o (λ t. false ≡ has_label (txn_label txn) (labels_left txns (labels_now t)))
        → IfSome o (λ t. first_lacking (txns ++ txn ∷ rest) (labels_now t) ≡ Some txn)
    all_of None none has = tt
    all_of (Some t) none has =
        let ls = labels_left txns (labels_now t) in
        lacking_append txns (txn ∷ rest) (labels_now t) none ∙ ap (λ b. cond b (first_lacking rest (without_label (txn_label txn) ls)) (Some txn)) (sym has)

-- the disk failed at the next: it is removed or not
pub removed_some : (txns : List (ℕ × ℕ)) (txn : ℕ × ℕ) (old mid new : Option Trace) → AreRemoved txns old mid → HasLabels (λ ls. ls) mid new ⊎ HasLabels (without_label (txn_label txn)) mid new
    → HasLabels (labels_left txns) old new ⊎ HasLabels (labels_left (txns ++ txn ∷ [])) old new
removed_some txns txn old mid new r failed =
    ⊎_elim (λ same. inl (then (labels_left txns) (λ ls. ls) old mid new r.labels same))
    (λ gone. inr (same_left (λ ls. without_label (txn_label txn) (labels_left txns ls)) (labels_left (txns ++ txn ∷ [])) old new (labels_of old r.all) (then (labels_left txns) (without_label (txn_label txn)) old mid new r.labels gone))) failed
  where
    by_kept : (ls : List Label) (b : Bool) → has_label (txn_label txn) ls ≡ b → without_label (txn_label txn) ls ≡ cond b (without_label (txn_label txn) ls) ls
    by_kept ls true is = refl
    by_kept ls false is = without_absent (txn_label txn) ls is

    labels_of : (o : Option Trace) → IfSome o (λ t. first_lacking txns (labels_now t) ≡ None) → IfSome o (λ t. without_label (txn_label txn) (labels_left txns (labels_now t)) ≡ labels_left (txns ++ txn ∷ []) (labels_now t))
    labels_of None none = tt
    labels_of (Some t) none =
        let ls = labels_left txns (labels_now t) in
        by_kept ls (has_label (txn_label txn) ls) refl ∙ sym (left_append txns (txn ∷ []) (labels_now t) none)

-- ---- of the names that are given

abbrev pairs : List TxnName → List (ℕ × ℕ)
pairs names = map pair_of names

pub pairs_more : (names : List TxnName) (i : ℕ) (name : TxnName) → i < length names → name ≡ slice_index_or names i name → map pair_of (take (i + 1) names) ≡ map pair_of (take i names) ++ pair_of name ∷ []
pairs_more names i name lt is =
    ap pairs (take_more names i name lt ∙ ap (λ (x : TxnName). take i names ++ x ∷ []) (sym is))
    ∙ map-append pair_of (take i names) (name ∷ [])

pairs_cut : (names : List TxnName) (i : ℕ) (name : TxnName) → i < length names → name ≡ slice_index_or names i name → map pair_of names ≡ map pair_of (take i names) ++ pair_of name ∷ map pair_of (drop (i + 1) names)
pairs_cut names i name lt is =
    ap pairs (sym (take-append-drop i names) ∙ ap (λ (l : List TxnName). take i names ++ l) (drop_more names i name lt ∙ ap (λ (x : TxnName). x ∷ drop (i + 1) names) (sym is)))
    ∙ map-append pair_of (take i names) (name ∷ drop (i + 1) names)

module _ (names : List TxnName) (i : ℕ) (name : TxnName) (lt : i < length names) (is : name ≡ slice_index_or names i name) (old mid new : Option Trace) (r : AreRemoved (map pair_of (take i names)) old mid) where
  pub another_removed : IfSome mid (λ t. true ≡ has_label (txn_label (pair_of name)) (labels_now t)) → HasLabels (without_label (txn_label (pair_of name))) mid new → AreRemoved (map pair_of (take (i + 1) names)) old new
  another_removed there done = subst (λ (l : List (ℕ × ℕ)). AreRemoved l old new) (sym (pairs_more names i name lt is)) (removed_more (pairs (take i names)) (pair_of name) old mid new r there done)

  pub lacking_next : IfSome mid (λ t. false ≡ has_label (txn_label (pair_of name)) (labels_now t)) → HasLabels (without_label (txn_label (pair_of name))) mid new
      → HasLabels (labels_left (map pair_of names)) old new × IfSome old (λ t. first_lacking (map pair_of names) (labels_now t) ≡ Some (pair_of name))
  lacking_next there done =
      subst (λ (l : List (ℕ × ℕ)). HasLabels (labels_left l) old new × IfSome old (λ t. first_lacking l (labels_now t) ≡ Some (pair_of name))) (sym (pairs_cut names i name lt is))
      (removed_upto (pairs (take i names)) (pair_of name) (pairs (drop (i + 1) names)) old mid new r there done)

  pub failed_next : HasLabels (λ ls. ls) mid new ⊎ HasLabels (without_label (txn_label (pair_of name))) mid new → (n : ℕ) × HasLabels (labels_left (take n (map pair_of names))) old new
  failed_next failed =
      ⊎_elim (λ same. (i, subst (λ (l : List (ℕ × ℕ)). HasLabels (labels_left l) old new) (sym (take-map pair_of i names)) same))
      (λ gone. (i + 1, subst (λ (l : List (ℕ × ℕ)). HasLabels (labels_left l) old new) (sym (take-map pair_of (i + 1) names ∙ pairs_more names i name lt is)) gone))
      (removed_some (pairs (take i names)) (pair_of name) old mid new r failed)
