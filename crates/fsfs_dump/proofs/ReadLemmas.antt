-- The text of what is read in parts.
use Rattle.std.proofs.Common.{◌≡◌, ℕ, Bool, true, false, List, [], Option, Some, None, refl, sym, subst, inl, inr}
use Rattle.std.specs.Prelude.{Result, Ok, Err}
use Rattle.fsfs_base.specs.declared.action.Action.{Action}
use Rattle.fsfs_base.specs.declared.action.Action.TheVariants.{Add, Delete, Replace, Modify}
use Rattle.fsfs_revision.specs.declared.wrong.Wrong.{Wrong}
use Rattle.fsfs_revision.specs.declared.wrong.ReadError.{ReadError}
use Rattle.fsfs_revision.specs.declared.wrong.ReadError.TheVariants as reads
use Rattle.fsfs_revision.specs.Damage.Readings.{AndThen, Answers}
use Rattle.fsfs_revision.specs.Told.{RevisionBytes}
use Rattle.fsfs_noderev.specs.declared.changes.item.ChangeItem.{ChangeItem}
use Rattle.fsfs_stands.specs.declared.look_fault.LookFault.TheVariants as faults
use Rattle.fsfs_stands.specs.Texts.{End, Whole, Refused}
use Rattle.fsfs_stands.specs.ChangedTexts.{end_of}
use Rattle.fsfs_stands.specs.FileTexts.{IsWholeText}
use Rattle.fsfs_look.specs.Revprops.Texts.{ReadText}
use Rattle.fsfs_look.specs.Walks.{Walks}
use Rattle.fsfs_history.specs.Views.{EndsText}
use Rattle.fsfs_dump.specs.Records.{delete_record}
use Rattle.fsfs_dump.specs.Readings.{IfSet, ThereRecords, ActionRecords}
use Rattle.fsfs_dump.specs.Texts.{EndsAs, ItemsText}
use Rattle.fsfs_dump.specs.Views.{is_gone}
use Rattle.fsfs_dump.proofs.WalkLemmas.{Written, Answer, walks_end, walks_refused}

-- all of what is read
pub whole_read : (Q : Result (List ℕ) Wrong → Type 0) (whole : List ℕ) → Q (Ok whole) → (text : List ℕ) (end : End) → IsWholeText whole text end → ReadText Q text end
whole_read Q whole q text end h = inr (inl (subst (λ (t : List ℕ). Q (Ok t)) (sym h.0) q, h.1))

-- behind a first reading
pub behind_read : {X : Type 0} (R : Result X Wrong → Type 0) (S : X → Result (List ℕ) Wrong → Type 0) (x : X) → R (Ok x) → (text : List ℕ) (end : End) → ReadText (S x) text end → ReadText (AndThen R S) text end
behind_read R S x r text end (inl none) = inl none
behind_read R S x r text end (inr (inl (s, e))) = inr (inl ((x, r, s), e))
behind_read R S x r text end (inr (inr (w, s, none))) = inr (inr (w, inr (x, r, s), none))

-- what is wrong with a first reading
pub first_wrong : {X : Type 0} (R : Result X Wrong → Type 0) (S : X → Result (List ℕ) Wrong → Type 0) (w : Wrong) → R (Err w) → ReadText (AndThen R S) [] (Refused (faults.Wrong w))
first_wrong R S w r = inr (inr (w, inl r, (refl, refl)))

-- ---- what is read where it was set

pub not_set : {X Y : Type 0} (view : X → Y) (R : Result Y Wrong → Type 0) (set : Bool) → set ≡ false → IfSet set R (Ok None)
not_set view R true e = absurd cc
not_set view R false e = refl

pub is_set : {X Y : Type 0} (view : X → Y) (R : Result Y Wrong → Type 0) (set : Bool) (x : X) → set ≡ true → R (Ok (view x)) → IfSet set R (Ok (Some (view x)))
is_set view R true x e r = (view x, r, refl)
is_set view R false x e r = absurd cc

pub set_fails : {X Y Z : Type 0} (view : X → Y) (other : Z → Option Y) (R : Result Y Wrong → Type 0) (set : Bool) (e : ReadError) → set ≡ true → Answers view R (Err e) → Answers other (IfSet set R) (Err e)
set_fails view other R true (reads.Wrong w) is h = inl h
set_fails view other R true reads.OutOfMemory is h = tt
set_fails view other R true reads.DiskFault is h = tt
set_fails view other R false e is h = absurd cc

-- ---- by the action

pub there_records : (look : RevisionBytes) (rev : ℕ) (item : ChangeItem) (action : Action) → is_gone action ≡ false → (text : List ℕ) (end : End) → ReadText (ThereRecords look rev item action) text end → ReadText (ActionRecords look rev item action) text end
there_records look rev item Add other text end h = h
there_records look rev item Replace other text end h = h
there_records look rev item Modify other text end h = h
there_records look rev item Delete other text end h = absurd cc

pub gone_record : (look : RevisionBytes) (rev : ℕ) (item : ChangeItem) (action : Action) → is_gone action ≡ true → ActionRecords look rev item action (Ok (delete_record item.path))
gone_record look rev item Delete is = refl
gone_record look rev item Add is = absurd cc
gone_record look rev item Replace is = absurd cc
gone_record look rev item Modify is = absurd cc

-- ---- behind all items

pub items_end : (look : RevisionBytes) (rev : ℕ) (wrong : Option Wrong) (before : List ℕ) (told : Written) (r : Answer) → EndsText wrong r → Walks (ItemsText look rev (end_of wrong) []) before before told told r
items_end look rev None before told r e = subst (λ (x : Answer). Walks (EndsAs Whole) before before told told x) (sym e) (walks_end (EndsAs Whole) before told tt (inr (refl, refl)))
items_end look rev (Some w) before told r e =
    subst (λ (x : Answer). Walks (EndsAs (Refused (faults.Wrong w))) before before told told x) (sym e)
    (walks_refused (EndsAs (Refused (faults.Wrong w))) before told (faults.Wrong w) (inr (refl, refl)))
