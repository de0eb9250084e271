-- What a turn comes to: the state after it, in which the pass knows more, and what it leaves of the state for the other passes.
use Rattle.std.proofs.Common.{◌≡◌, ◌⊎◌, ℕ, suc, zero, List, [], ◌∷◌, length, refl, sym, ap, subst, ◌∙◌, inl, inr, ⊎_elim}
use Rattle.std.specs.Prelude.{Option, Some, Result, slice_get}
use Rattle.fsfs_layout.specs.declared.layout.Layout.{Layout}
use Rattle.fsfs_disk.specs.Trace.{Trace}
use Rattle.fsfs_base.specs.declared.places.place.DiskPlace.{DiskPlace}
use Rattle.fsfs_machine.specs.declared.machine.Section.{Section}
use Rattle.fsfs_machine.specs.declared.machine.Section.TheVariants.{CountRenamed}
use Rattle.fsfs_machine.specs.declared.machine.Lock.{Lock}
use Rattle.fsfs_machine.specs.declared.machine.Lock.TheVariants.{Held}
use Rattle.fsfs_machine.specs.declared.machine.Pass.{Pass}
use Rattle.fsfs_machine.specs.declared.machine.Went.{Went}
use Rattle.fsfs_machine.specs.declared.machine.Went.TheVariants.{Fine, Before, After, Torn}
use Rattle.fsfs_machine.specs.Machine.{World, at_place}
use Rattle.fsfs_machine.specs.Kept.{IsIn}
use Rattle.fsfs_machine.proofs.Whose.{length_at}
use Rattle.fsfs_machine.specs.Disk.{found}
use Rattle.fsfs_machine.specs.declared.contents.FileName.TheVariants.{Floor}
use Rattle.fsfs_turn.proofs.FloorsRise.{FloorGrows, floor_kept}
use Rattle.fsfs_turn.specs.Views.{IsFull, View, Sees, given_by, Answers}
use Rattle.fsfs_turn.specs.Past.{doubt, stuck_with, Safe}
use Rattle.fsfs_turn.specs.Standing.{IsStore, Knows}

-- the others stay at their places
pub at_other : {A : Type 0} (xs : List A) (p q : ℕ) (f : A → A) → (q ≡ p → ⊥) → slice_get (at_place xs p f) q ≡ slice_get xs q
at_other [] p q f apart = refl
at_other (x ∷ xs) zero zero f apart = absurd (apart refl)
at_other (x ∷ xs) zero (suc q) f apart = refl
at_other (x ∷ xs) (suc p) zero f apart = refl
at_other (x ∷ xs) (suc p) (suc q) f apart = at_other xs p q f (λ e. apart (ap (λ n. suc n) e))

-- the lock is as it was, or pass p held it and holds it still
abbrev pub StaysWith : ℕ → Lock → Lock → Type 0
StaysWith p before after = (after ≡ before) ⊎ ((s : Section) × (t : Section) × (before ≡ Held p s) × (after ≡ Held p t))

-- How a call of the disk by pass p changes the state, as the other passes see it: they are as they were, no revision is revealed, nobody
-- takes or gives the lock, only its holder raises the floor, and no name is forgotten.
pub record Leaves (p : ℕ) (w after : World) : Type 0 where
  pub passes : (q : ℕ) → (q ≡ p → ⊥) → slice_get after.passes q ≡ slice_get w.passes q
  pub count : length after.passes ≡ length w.passes
  pub history : after.history ≡ w.history
  pub young : after.young ≡ w.young
  pub floor : (after.floor ≡ w.floor) ⊎ ((s : Section) × (w.lock ≡ Held p s))
  pub shown : FloorGrows w.disk after.disk
  pub low : after.low ≡ w.low
  pub lock : StaysWith p w.lock after.lock
  pub given : (k : ℕ) → IsIn k w.given → IsIn k after.given
  -- where no name was left none is, and the number in `txn-current` is as it was, or the pass holds the lock
  pub full : IsFull w.disk → IsFull after.disk
  pub disk : (after.disk ≡ w.disk) ⊎ ((s : Section) × (w.lock ≡ Held p s))

-- The state after a turn of the pass that knew v: the store with this trace is in it, and of what the pass knows then P holds.
pub record IsAfter (layout : Layout) (low young : ℕ) (stuck : Option DiskPlace) (t : Trace) (w : World) (v : View) (P : View → Type 0) : Type 0 where
  pub world : World
  pub view : View
  pub store : IsStore layout low young stuck t world
  pub sees : Sees world view
  pub turned : P view
  -- it has seen the history as it is
  pub all : view.seen ≡ w.history
  pub safe : Safe layout view.since t view.opened world.history (doubt world.lock)
  pub leaves : Leaves v.number w world
  pub layout_is : view.layout ≡ v.layout
  pub since_is : view.since ≡ v.since
  pub opened_is : view.opened ≡ v.opened
  pub number_is : view.number ≡ v.number
  pub left_is : view.left ≡ v.left

-- what a call of the disk comes to, by what is told of the disk behind it and by its answer
abbrev pub Comes : {X E : Type 0} → Layout → ℕ → ℕ → Option DiskPlace → Option Trace → World → View → Result X E → (Went → View → Type 0) → Type 0
Comes layout low young stuck told w v result P = (new : Trace) × (went : Went) × (told ≡ Some new) × Answers result went × IsAfter layout low young stuck new w v (P went)

-- ---- what the others find

-- the names that were given
given_more : (s : Section) (went : Went) (k : ℕ) (given : List ℕ) → IsIn k given → IsIn k (given_by s went given)
given_more (CountRenamed x) Fine k given i = inr i
given_more (CountRenamed x) Before k given i = i
given_more (CountRenamed x) After k given i = i
given_more (CountRenamed x) (Torn any) k given i = i
given_more s went k given i = i

-- after a call of its section
pub section_leaves : (w after : World) (p : ℕ) (f : Pass → Pass) (s t : Section) (went : Went) → after.passes ≡ at_place w.passes p f → after.history ≡ w.history → after.young ≡ w.young → after.low ≡ w.low
    → w.lock ≡ Held p s → after.lock ≡ Held p t → after.given ≡ given_by s went w.given → (IsFull w.disk → IsFull after.disk) → FloorGrows w.disk after.disk → Leaves p w after
section_leaves w after p f s t went passes history young low held holds given full shown = record {
  passes = λ q apart. ap (λ xs. slice_get xs q) passes ∙ at_other w.passes p q f apart;
  count = ap length passes ∙ length_at w.passes p f;
  history = history;
  young = young;
  floor = inr (s, held);
  shown = shown;
  low = low;
  lock = inr (s, t, held, holds);
  given = λ k i. subst (λ ks. IsIn k ks) (sym given) (given_more s went k w.given i);
  full = full;
  disk = inr (s, held);
}

-- after a call that no section is about
pub pass_leaves : (w after : World) (p : ℕ) (f : Pass → Pass) → after.passes ≡ at_place w.passes p f → after.history ≡ w.history → after.young ≡ w.young → after.floor ≡ w.floor → after.low ≡ w.low → after.lock ≡ w.lock → after.given ≡ w.given → after.disk ≡ w.disk → Leaves p w after
pass_leaves w after p f passes history young floor low lock given disk = record {
  passes = λ q apart. ap (λ xs. slice_get xs q) passes ∙ at_other w.passes p q f apart;
  count = ap length passes ∙ length_at w.passes p f;
  history = history;
  young = young;
  floor = inl floor;
  shown = floor_kept w.disk after.disk (ap (λ d. found d Floor) disk);
  low = low;
  lock = inl lock;
  given = λ k i. subst (λ ks. IsIn k ks) (sym given) i;
  full = λ last. subst IsFull (sym disk) last;
  disk = inl disk;
}

-- ---- one pass

-- a lock that stays with its pass leaves in doubt what it left
pub stuck_stays : (p : ℕ) (before after : Lock) → StaysWith p before after → stuck_with after ≡ stuck_with before
stuck_stays p before after stays = ⊎_elim (λ same. ap (λ l. stuck_with l) same) (λ both. ap (λ l. stuck_with l) both.3 ∙ sym (ap (λ l. stuck_with l) both.2)) stays

-- where there is one pass, that is what it knows
pub known_after : (layout : Layout) (low young : ℕ) (stuck : Option DiskPlace) (new : Trace) (told : Option Trace) (w : World) (v : View) (P : View → Type 0) → told ≡ Some new → v.layout ≡ layout → v.number ≡ 0 → length w.passes ≡ 1 → stuck_with w.lock ≡ v.left
    → IsAfter layout low young stuck new w v P → (u : View) × Knows layout low young stuck told u × P u
known_after layout low young stuck new told w v P is layout_is number_is alone left_so a =
    (a.view, subst (λ o. Knows layout low young stuck o a.view) (sym is) (a.world, a.store, a.sees, a.layout_is ∙ layout_is, a.number_is ∙ number_is, a.safe, a.leaves.count ∙ alone, stuck_stays v.number w.lock a.world.lock a.leaves.lock ∙ left_so ∙ sym a.left_is), a.turned)

pub known_comes : {X E : Type 0} (layout : Layout) (low young : ℕ) (stuck : Option DiskPlace) (told : Option Trace) (w : World) (v : View) (result : Result X E) (P : Went → View → Type 0) → v.layout ≡ layout → v.number ≡ 0 → length w.passes ≡ 1 → stuck_with w.lock ≡ v.left
    → Comes layout low young stuck told w v result P → (u : View) × (went : Went) × Knows layout low young stuck told u × Answers result went × P went u
known_comes layout low young stuck told w v result P layout_is number_is alone left_so c =
    let k = known_after layout low young stuck c.0 told w v (P c.1) c.2 layout_is number_is alone left_so c.4 in
    (k.0, c.1, k.1, c.3, k.2)
