-- Calls of a section, one after another.
use Rattle.std.proofs.Common.{◌≡◌, ◌≤◌, ℕ, List, [], ◌∷◌, ◌++◌, length, Bool, true, false, cond, refl, sym, ap, subst, ◌∙◌, arith}
use Rattle.std.proofs.lemmas.Option.{same_Some}
use Rattle.std.specs.Prelude.{Option, Some, None, Result, Ok, Err, OnOk, OnErr}
use Rattle.fsfs_base.specs.Failures.{HasCause, Rose}
use Rattle.fsfs_tree.specs.Revisions.{Revision}
use Rattle.fsfs_layout.specs.Layouts.{shard_size}
use Rattle.fsfs_layout.specs.Small.{IsRevLine}
use Rattle.fsfs_layout.specs.Hash.Dump.{IsDump}
use Rattle.fsfs_disk.specs.Trace.{Put}
use Rattle.fsfs_machine.specs.declared.machine.Coming.{Coming}
use Rattle.fsfs_machine.specs.declared.machine.Txn.{Txn}
use Rattle.fsfs_base.specs.declared.places.place.DiskPlace.TheVariants.{Commit}
use Rattle.fsfs_base.specs.declared.places.place.CommitPlace.{CommitPlace}
use Rattle.fsfs_base.specs.declared.places.place.CommitPlace.TheVariants.{PutRev, PutProps}
use Rattle.fsfs_machine.specs.declared.machine.Section.{Section}
use Rattle.fsfs_machine.specs.declared.machine.Section.TheVariants.{RevPut, Doubtful, FloorRenamed, Over, CurrentFirm}
use Rattle.fsfs_machine.specs.declared.machine.Outcome.TheVariants as outcome
use Rattle.fsfs_machine.specs.declared.machine.Went.{Went}
use Rattle.fsfs_machine.specs.declared.machine.Step.TheVariants as step
use Rattle.fsfs_machine.specs.Machine.{is_fine_in, answer, after, spoiled, reveals, with_next}
use Rattle.fsfs_machine.specs.Kept.{coming_in}
use Rattle.fsfs_turn.specs.Views.{View, IsDue, props_name, coming_at, firm_by, given_by, called_view, Called, Adopted, coming_of, LockGiven, outside, Revealed, MayGive}
use Rattle.fsfs_turn.specs.Courses.{Course, End, More}
use Rattle.fsfs_turn.proofs.Reading.{course_on}
use Rattle.fsfs_commit.specs.Courses.{IsMade, Reached, Failed, leaves_doubt, spoilt, Goes, Ended, Published, StoppedAt, ends_at}

-- with a revision to come no call tells another floor
firm_stays : (s : Section) (x : Coming) → coming_in s ≡ Some x → (went : Went) (size : ℕ) (firm : Option ℕ) → firm_by s went size firm ≡ firm
firm_stays FloorRenamed x next went size firm = absurd cc
firm_stays s x next went size firm = refl

-- a call of a section with a revision to come, and what it did
module _ (place : CommitPlace) (v : View) (s : Section) (x : Coming) (at : v.section ≡ Some s) (next : coming_in s ≡ Some x) (names : (went : Went) (given : List ℕ) → given_by s went given ≡ given) where
  plain : (went : Went) (u : View) → Called (Commit place) went v u → u ≡ called_view v.seen (Commit place) went s v
  plain went u c =
      let inside : c.inside ≡ s = same_Some c.inside s (sym c.was ∙ at) in
      let seen : u.seen ≡ v.seen = c.same x (ap (λ o. coming_at o) at ∙ next) in
      c.is ∙ ap (λ r. called_view u.seen (Commit place) went r v) inside ∙ ap (λ h. called_view h (Commit place) went s v) seen

  course : (went : Went) (u : View) → Called (Commit place) went v u → Course v u
  course went u c = More [] (step.Call v.number (Commit place) went) (answer went) v u u c.turned (End u)

  abbrev view_by : Bool → List ℕ → View
  view_by b given = record v { pass = record v.pass { seen = length v.seen; faults = cond b v.pass.faults (v.pass.faults ++ Commit place ∷ []) }; section = Some (cond b (after s) (spoiled s)); given = given }

  -- nor does it tell another firm floor
  plainly : (went : Went) (u : View) → Called (Commit place) went v u → u ≡ view_by (is_fine_in went) (given_by s went v.given)
  plainly went u c = plain went u c ∙ ap {A = Option ℕ} (λ o. record (view_by (is_fine_in went) (given_by s went v.given)) { firm = o }) (firm_stays s x next went (shard_size v.layout) v.firm)

  pub reached : (went : Went) (u : View) → is_fine_in went ≡ true → Called (Commit place) went v u → Reached (after s) v u
  reached went u fine c = record { is = plainly went u c ∙ ap (λ g. view_by (is_fine_in went) g) (names went v.given) ∙ ap (λ b. view_by b v.given) fine; course = course went u c }

  pub failed : (went : Went) (u : View) → is_fine_in went ≡ false → Called (Commit place) went v u → Failed place (spoiled s) v u
  failed went u ill c = record { is = plainly went u c ∙ ap (λ g. view_by (is_fine_in went) g) (names went v.given) ∙ ap (λ b. view_by b v.given) ill; course = course went u c }

  pub goes_done : (known : View → Type 0) → (u : View) × (went : Went) × known u × (is_fine_in went ≡ true) × Called (Commit place) went v u → Goes known (Ok tt) x (after s) v
  goes_done known c = record { done = (c.0, c.2, reached c.1 c.0 c.3 c.4); failed = tt }

  pub goes_failed : (known : View → Type 0) (to : Section) → spoilt x place ≡ spoiled s → (u : View) × (went : Went) × known u × (is_fine_in went ≡ false) × Called (Commit place) went v u → Goes known (Err place) x to v
  goes_failed known to same c = record { done = tt; failed = (c.0, c.2, subst (λ z. Failed place z v c.0) (sym same) (failed c.1 c.0 c.3 c.4)) }

-- one after another
pub reached_on : (s r : Section) (v m u : View) → Reached s v m → Reached r m u → Reached r v u
reached_on s r v m u a b = record { is = b.is ∙ ap {A = View} (λ z. record z { pass = record z.pass { seen = length z.seen }; section = Some r }) a.is; course = course_on v m u a.course b.course }

pub failed_on : (s r : Section) (place : CommitPlace) (v m u : View) → Reached s v m → Failed place r m u → Failed place r v u
failed_on s r place v m u a b = record { is = b.is ∙ ap {A = View} (λ z. record z { pass = record z.pass { seen = length z.seen; faults = z.pass.faults ++ Commit place ∷ [] }; section = Some r }) a.is; course = course_on v m u a.course b.course }

pub goes_on : (k l : View → Type 0) (result : Result (Unit {0}) CommitPlace) (x : Coming) (s r : Section) (v : View) → Goes k (Ok tt) x s v → ((m : View) → k m → Reached s v m → Goes l result x r m) → Goes l result x r v
goes_on k l (Ok done) x s r v a more = let b = more a.done.0 a.done.1 a.done.2 in record { done = (b.done.0, b.done.1, reached_on s r v a.done.0 b.done.0 a.done.2 b.done.2); failed = tt }
goes_on k l (Err place) x s r v a more = let b = more a.done.0 a.done.1 a.done.2 in record { done = tt; failed = (b.failed.0, b.failed.1, failed_on s (spoilt x place) place v a.done.0 b.failed.0 a.done.2 b.failed.2) }

-- a failure is one of the whole
pub goes_no_further : (k : View → Type 0) (place : CommitPlace) (x : Coming) (s r : Section) (v : View) → Goes k (Err place) x s v → Goes k (Err place) x r v
goes_no_further k place x s r v a = record { done = tt; failed = a.failed }

-- what is written stays so
pub made_on : (s : Section) (v m : View) (properties : List (List ℕ × List ℕ)) (rev : ℕ) (a b c d : List ℕ) → Reached s v m → IsMade v properties rev a b c d → IsMade m properties rev a b c d
made_on s v m properties rev a b c d r i = subst (λ z. IsMade z properties rev a b c d) (sym r.is) (record { number = i.number; rev_named = i.rev_named; props_named = i.props_named; dump = i.dump; line = i.line; fits = i.fits })

pub section_on : (s : Section) (v m : View) → Reached s v m → m.section ≡ Some s
section_on s v m r = ap {A = View} (λ z. z.section) r.is

-- the first call
module _ (txn : Txn) (properties : List (List ℕ × List ℕ)) (next : Revision) (bytes : List ℕ) (v : View) where
  abbrev pub x : Coming
  x = coming_of v txn properties next bytes

  abbrev adopting_by : Bool → View
  adopting_by b = record v { pass = record v.pass { seen = length v.seen; faults = cond b v.pass.faults (v.pass.faults ++ Commit PutRev ∷ []) }; section = Some (cond b (RevPut x) Over) }

  adopting_course : (went : Went) (u : View) → Adopted txn properties next bytes went v u → Course v u
  adopting_course went u c = More (txn ∷ []) (step.AdoptRev v.number 0 properties bytes went) (answer went) v u u c.turned (End u)

  pub adopts_done : (known : View → Type 0) → (u : View) × (went : Went) × known u × (is_fine_in went ≡ true) × Adopted txn properties next bytes went v u → Goes known (Ok tt) x (RevPut x) v
  adopts_done known c = record { done = (c.0, c.2, record { is = c.4.is ∙ ap adopting_by c.3; course = adopting_course c.1 c.0 c.4 }); failed = tt }

  pub adopts_failed : (known : View → Type 0) (to : Section) → (u : View) × (went : Went) × known u × (is_fine_in went ≡ false) × Adopted txn properties next bytes went v u → Goes known (Err PutRev) x to v
  adopts_failed known to c = record { done = tt; failed = (c.0, c.2, record { is = c.4.is ∙ ap adopting_by c.3; course = adopting_course c.1 c.0 c.4 }) }

  pub published : (m u : View) → Reached (CurrentFirm x) v m → Ended x m u → Published txn properties next bytes v u
  published m u a b = record { is = b.is ∙ ap {A = View} (λ z. record z { pass = reveals (length z.seen) z.pass; seen = with_next z.seen x; section = None; sure = false }) a.is; course = course_on v m u a.course b.course }

pub ended : (x : Coming) (v m u : View) → Revealed x v m → LockGiven (step.GiveLock m.number) m u → Ended x v u
ended x v m u a b = record { is = b.is ∙ ap {A = View} (λ z. outside z) a.is; course = More [] (step.Reveal v.number) outcome.Done v m u a.turned (More [] (step.GiveLock m.number) outcome.Done m u u b.turned (End u)) }

pub may_give : (x : Coming) (v m : View) → Revealed x v m → MayGive m
may_give x v m a = record { inside = Over; is = ap {A = View} (λ z. z.section) a.is; quiet = refl }

pub stopped : (place : CommitPlace) (x : Coming) (v m u : View) → Failed place (spoilt x place) v m → LockGiven (ends_at place m.number) m u → StoppedAt place x v u
stopped place x v m u a b = record { is = b.is ∙ ap {A = View} (λ z. outside z) a.is; before = m; course = a.course; last = subst (λ n. LockGiven (ends_at place n) m u) (ap {A = View} (λ z. z.number) a.is) b }

-- the lock after a fault
module _ (place : CommitPlace) (v : View) where
  abbrev given_by_doubt : Bool → View → Type 0
  given_by_doubt b u = LockGiven (cond b (step.StickLock v.number) (step.GiveLock v.number)) v u

  pub sticks_at : (known : View → Type 0) → leaves_doubt place ≡ true → (u : View) × known u × LockGiven (step.StickLock v.number) v u → (u : View) × known u × LockGiven (ends_at place v.number) v u
  sticks_at known e w = (w.0, w.1, subst (λ b. given_by_doubt b w.0) (sym e) w.2)

  pub gives_at : (known : View → Type 0) → leaves_doubt place ≡ false → (u : View) × known u × LockGiven (step.GiveLock v.number) v u → (u : View) × known u × LockGiven (ends_at place v.number) v u
  gives_at known e w = (w.0, w.1, subst (λ b. given_by_doubt b w.0) (sym e) w.2)

  pub is_in_doubt : (x : Coming) → leaves_doubt place ≡ true → v.section ≡ Some (spoilt x place) → v.section ≡ Some (Doubtful (Commit place) x)
  is_in_doubt x e at = at ∙ ap (λ b. Some (cond b (Doubtful (Commit place) x) Over)) e

  pub may_end : (x : Coming) → leaves_doubt place ≡ false → v.section ≡ Some (spoilt x place) → MayGive v
  may_end x e at = record { inside = Over; is = at ∙ ap (λ b. Some (cond b (Doubtful (Commit place) x) Over)) e; quiet = refl }

pub line_at : (rev : ℕ) (current bytes : List ℕ) (v : View) → bytes ≡ current → rev ≡ length v.seen → IsRevLine current rev → IsRevLine bytes (length v.seen)
line_at rev current bytes v same number line = subst (λ b. IsRevLine b (length v.seen)) (sym same) (subst (λ n. IsRevLine current n) number line)

pub section_failed : (place : CommitPlace) (s : Section) (v m : View) → Failed place s v m → m.section ≡ Some s
section_failed place s v m f = ap (λ z. z.section) f.is

-- what the landed revision's properties are
pub made_next : (v : View) (properties next : List (List ℕ × List ℕ)) (rev : ℕ) (a b c d : List ℕ) → next ≡ properties → IsMade v properties rev a b c d → IsMade v next rev a b c d
made_next v properties next rev a b c d same i = subst (λ l. IsMade v l rev a b c d) (sym same) i

pub props_due : (v : View) (x : Coming) (rev : ℕ) (a b p d bytes : List ℕ) → bytes ≡ p → v.section ≡ Some (RevPut x) → IsMade v x.revision.properties rev a b p d → IsDue v (Commit PutProps) (Put b bytes)
props_due v x rev a b p d bytes same at i = (x, at, i.props_named ∙ ap (λ r. props_name v r) i.number, subst (λ t. IsDump t x.revision.properties) (sym same) i.dump, i.fits)

-- the count of faults over two calls, of which the first was done
pub cause_on : {X E F : Type 0} {before middle now : ℕ} (result : Result X E) → HasCause {T = Unit {0}} {E = F} before middle (Ok tt) → middle ≤ now → OnOk result (now ≡ middle) → OnErr result (Rose middle now) → HasCause before now result
cause_on {X} {E} {F} {before} {middle} {now} result first later kept rose = record {
  later = omega (arith, first.later, later);
  kept = subst (λ b. OnOk result (now ≡ b)) first.kept kept;
  failed = subst (λ b. OnErr result (Rose b now)) first.kept rose;
}
