-- What a step comes to: the state after it, of which its pass knows more, and in which the others find what they knew.
use Rattle.std.proofs.Common.{◌≡◌, ◌⊎◌, ◌==◌, ℕ, length, true, false, cond, inl, inr, ⊎_elim, refl, sym, ap, ◌∙◌, arith}
use Rattle.std.specs.Prelude.{Option, Some, None, slice_get}
use Rattle.fsfs_layout.specs.declared.layout.Layout.{Layout}
use Rattle.fsfs_disk.specs.Trace.{Trace}
use Rattle.fsfs_base.specs.declared.places.place.DiskPlace.{DiskPlace}
use Rattle.fsfs_machine.specs.declared.machine.Section.{Section}
use Rattle.fsfs_machine.specs.declared.machine.Lock.{Lock}
use Rattle.fsfs_machine.specs.declared.machine.Lock.TheVariants.{Held}
use Rattle.fsfs_machine.specs.Machine.{World, held_by, stuck_place}
use Rattle.fsfs_machine.specs.Kept.{IsIn}
use Rattle.fsfs_turn.specs.Views.{View, IsFull, Sees, Begins}
use Rattle.fsfs_turn.specs.Past.{doubt, stuck_with, Safe}
use Rattle.fsfs_turn.specs.Standing.{IsStore, Knows}
use Rattle.fsfs_turn.proofs.FloorsRise.{FloorGrows}
use Rattle.fsfs_turn.proofs.Moments.{begins_itself}
use Rattle.fsfs_turn.proofs.TurnEnds.{StaysWith, Leaves, IsAfter}

-- How a step of pass p may change the state, as the other passes see it: they are as they were, nobody else takes or loses the lock, the
-- history may have more revisions, and no name is forgotten.
pub record Spares (p : ℕ) (w after : World) : Type 0 where
  pub passes : (q : ℕ) → (q ≡ p → ⊥) → slice_get after.passes q ≡ slice_get w.passes q
  pub count : length after.passes ≡ length w.passes
  pub grows : Begins after.history w.history
  pub locks : (q : ℕ) → (q ≡ p → ⊥) → held_by q after.lock ≡ held_by q w.lock
  -- while another holds the lock no revision comes
  pub still : (q : ℕ) (s : Section) → (q ≡ p → ⊥) → held_by q w.lock ≡ Some s → (after.young ≡ w.young) × (after.history ≡ w.history)
  -- nor does the floor move
  pub floor : (q : ℕ) (s : Section) → (q ≡ p → ⊥) → held_by q w.lock ≡ Some s → after.floor ≡ w.floor
  -- the floor that the disk shows doesn't fall
  pub shown : FloorGrows w.disk after.disk
  pub low : after.low ≡ w.low
  pub given : (k : ℕ) → IsIn k w.given → IsIn k after.given
  -- where no name was left none is
  pub full : IsFull w.disk → IsFull after.disk
  -- while another holds the lock the machine's files stay
  pub disk : (q : ℕ) (s : Section) → (q ≡ p → ⊥) → held_by q w.lock ≡ Some s → after.disk ≡ w.disk

-- The state after a step by which the pass that knew v knows u, and the lock is this: the store with this trace is in it.
pub record Moved (layout : Layout) (low young : ℕ) (t : Trace) (w : World) (v u : View) (lock : Lock) : Type 0 where
  pub world : World
  pub store : IsStore layout low young (stuck_place lock) t world
  pub lock_is : world.lock ≡ lock
  pub sees : Sees world u
  pub safe : Safe layout u.since t u.opened world.history (doubt world.lock)
  pub spares : Spares v.number w world
  pub layout_is : u.layout ≡ v.layout
  pub since_is : u.since ≡ v.since
  pub opened_is : u.opened ≡ v.opened
  pub number_is : u.number ≡ v.number

-- who doesn't hold the lock has no section
pub held_other : (p q : ℕ) (s : Section) → (q ≡ p → ⊥) → held_by q (Held p s) ≡ None
held_other p q s apart = elim (p == q) as (λ b. (p == q) ≡ b → cond b (Some s) None ≡ None) [
  | true ↦ λ t. absurd (apart (let same : q ≡ p = grind (arith, t) in same))
  | false ↦ λ t. refl
] refl

-- ---- a call of the disk

locks_stay : (p q : ℕ) (before after : Lock) → StaysWith p before after → (q ≡ p → ⊥) → held_by q after ≡ held_by q before
locks_stay p q before after stays apart = ⊎_elim
    (λ (same : after ≡ before). ap (λ l. held_by q l) same)
    (λ (both : (s : Section) × (t : Section) × (before ≡ Held p s) × (after ≡ Held p t)).
    (ap (λ l. held_by q l) both.3 ∙ held_other p q both.1 apart) ∙ sym (ap (λ l. held_by q l) both.2 ∙ held_other p q both.0 apart)) stays

disk_stays : (p q : ℕ) (w after : World) (s : Section) → (after.disk ≡ w.disk) ⊎ ((t : Section) × (w.lock ≡ Held p t)) → (q ≡ p → ⊥) → held_by q w.lock ≡ Some s → after.disk ≡ w.disk
disk_stays p q w after s (inl same) apart held = same
disk_stays p q w after s (inr holds) apart held = let none : held_by q w.lock ≡ None = ap (λ l. held_by q l) holds.1 ∙ held_other p q holds.0 apart in absurd cc

floor_stays : (p q : ℕ) (w after : World) (s : Section) → (after.floor ≡ w.floor) ⊎ ((t : Section) × (w.lock ≡ Held p t)) → (q ≡ p → ⊥) → held_by q w.lock ≡ Some s → after.floor ≡ w.floor
floor_stays p q w after s (inl same) apart held = same
floor_stays p q w after s (inr holds) apart held = let none : held_by q w.lock ≡ None = ap (λ l. held_by q l) holds.1 ∙ held_other p q holds.0 apart in absurd cc

call_spares : (p : ℕ) (w after : World) → Leaves p w after → Spares p w after
call_spares p w after l = record {
  passes = l.passes;
  count = l.count;
  grows = ((begins_itself w.history).0, l.history ∙ (begins_itself w.history).1);
  locks = λ q apart. locks_stay p q w.lock after.lock l.lock apart;
  still = λ q s apart held. (l.young, l.history);
  floor = λ q s apart held. floor_stays p q w after s l.floor apart held;
  shown = l.shown;
  low = l.low;
  given = l.given;
  full = l.full;
  disk = λ q s apart held. disk_stays p q w after s l.disk apart held;
}

pub call_moved : (layout : Layout) (low young : ℕ) (stuck : Option DiskPlace) (t : Trace) (w : World) (v : View) (P : View → Type 0) (a : IsAfter layout low young stuck t w v P) → Moved layout low young t w v a.view a.world.lock
call_moved layout low young stuck t w v P a = record {
  world = a.world;
  store = record { trace = a.store.trace; size = a.store.size; whole = a.store.whole; kept = a.store.kept; shown = a.store.shown; coming = a.store.coming; low_is = a.store.low_is; young_is = a.store.young_is; stuck_is = refl };
  lock_is = refl;
  sees = a.sees;
  safe = a.safe;
  spares = call_spares v.number w a.world a.leaves;
  layout_is = a.layout_is;
  since_is = a.since_is;
  opened_is = a.opened_is;
  number_is = a.number_is;
}

-- ---- one pass

-- where there is one pass, that is what it knows
pub known_moved : (layout : Layout) (low young : ℕ) (stuck : Option DiskPlace) (t : Trace) (w : World) (v u : View) (lock : Lock) → v.layout ≡ layout → v.number ≡ 0 → length w.passes ≡ 1 → stuck_place lock ≡ stuck → stuck_with lock ≡ u.left
    → Moved layout low young t w v u lock → Knows layout low young stuck (Some t) u
known_moved layout low young stuck t w v u lock layout_is number_is alone stuck_is left_is m =
    let s = m.store in
    (m.world, record { trace = s.trace; size = s.size; whole = s.whole; kept = s.kept; shown = s.shown; coming = s.coming; low_is = s.low_is; young_is = s.young_is; stuck_is = s.stuck_is ∙ stuck_is }, m.sees, m.layout_is ∙ layout_is, m.number_is ∙ number_is, m.safe, m.spares.count ∙ alone, ap (λ l. stuck_with l) m.lock_is ∙ left_is)
