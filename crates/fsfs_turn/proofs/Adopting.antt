-- A commit's first call.
use Rattle.std.proofs.Common.{◌≡◌, ◌⊎◌, ◌<◌, ◌≤◌, ◌+◌, ◌^◌, ◌==◌, ℕ, List, [], ◌∷◌, length, true, false, cond, inl, ⊎_elim, refl, sym, ap, subst, ◌∙◌, arith, take}
use Rattle.std.specs.Prelude.{Option, Some, None, IfSome, OnOk, OnErr, Result, Ok, Err}
use Rattle.std.proofs.lemmas.List.{take_all, length-take}
use Rattle.fsfs_tree.specs.Revisions.{Revision}
use Rattle.fsfs_model.specs.Flat.Transactions.{IsNext}
use Rattle.fsfs_layout.specs.declared.layout.Layout.{Layout}
use Rattle.fsfs_disk.specs.Trace.{Trace, Operation, Done, Attempted, add_operation, change_of, files_after, ImageAfter, TornBy, Performs, FailsToPut, StaysAt}
use Rattle.fsfs_disk.specs.Trace as real
use Rattle.fsfs_machine.specs.declared.contents.FileName.TheVariants.{Rev}
use Rattle.fsfs_machine.specs.declared.contents.Contents.{Contents}
use Rattle.fsfs_machine.specs.declared.contents.Contents.TheVariants.{Junk}
use Rattle.fsfs_machine.specs.declared.contents.NameChange.TheVariants.{Put}
use Rattle.fsfs_machine.specs.declared.machine.Recorded.{Recorded}
use Rattle.fsfs_machine.specs.declared.machine.Coming.{Coming}
use Rattle.fsfs_machine.specs.declared.machine.Txn.{Txn}
use Rattle.fsfs_base.specs.declared.places.place.DiskPlace.{DiskPlace}
use Rattle.fsfs_base.specs.declared.places.place.DiskPlace.TheVariants.{Commit}
use Rattle.fsfs_base.specs.declared.places.place.CommitPlace.TheVariants.{PutRev}
use Rattle.fsfs_machine.specs.declared.machine.Section.TheVariants.{Begun, RevPut, Over}
use Rattle.fsfs_machine.specs.declared.machine.Lock.TheVariants.{Held}
use Rattle.fsfs_machine.specs.declared.machine.Went.{Went}
use Rattle.fsfs_machine.specs.declared.machine.Went.TheVariants.{Fine, Before, After, Torn}
use Rattle.fsfs_machine.specs.declared.machine.Step.TheVariants as step
use Rattle.fsfs_base.specs.Files.{Files}
use Rattle.fsfs_machine.specs.Disk.{Disk, IsImage}
use Rattle.fsfs_machine.specs.Machine.{World, did, either, answer, learns, disk_after, is_begun, has_begun_by, file_of, recorded, revisions, with_next, entry_of, Adopts, adopted, stuck_place}
use Rattle.fsfs_machine.specs.Kept.{Kept, IsIn, coming, one}
use Rattle.fsfs_machine.proofs.Steps.{step_keeps}
use Rattle.fsfs_images.specs.RealNames.{machine_name}
use Rattle.fsfs_images.specs.Shown.{IsTraceOf, Fits, Reads, AreRead, Putting, Adopting, Attempting}
use Rattle.fsfs_turn.specs.Bytes.{BytesShow}
use Rattle.fsfs_turn.specs.Views.{View, Sees, with_txns, rev_name, IsTxnOver, MayAdopt, coming_of, adopting_view, Adopted}
use Rattle.fsfs_turn.specs.Past.{doubt_in, doubt, IsPart, StoodFor, Safe}
use Rattle.fsfs_turn.specs.Standing.{no_others, IsStore}
use Rattle.fsfs_turn.proofs.Names.{found_apart, names_stay, none_drawn}
use Rattle.fsfs_turn.proofs.FloorsRise.{floor_kept, floor_apart}
use Rattle.fsfs_turn.proofs.TurnEnds.{section_leaves, IsAfter, Comes}
use Rattle.fsfs_turn.proofs.Stepping.{kept_bare, at_itself, held_here, lock_is}
use Rattle.fsfs_turn.proofs.Due.{junk, le, torn_put}
use Rattle.fsfs_images.proofs.Showing.{image_read}
use Rattle.fsfs_turn.proofs.Moments.{stood_for, safe_step}

use_of_one : (given : List ℕ) (name k : ℕ) → IsIn name given → (0 + (one name k + 0) + 0 ≤ 1) × (0 < 0 + (one name k + 0) + 0 → IsIn k given)
use_of_one given name k in_it = elim (name == k) as (λ b. (name == k) ≡ b → (0 + (cond b 1 0 + 0) + 0 ≤ 1) × (0 < 0 + (cond b 1 0 + 0) + 0 → IsIn k given)) [
  | true ↦ λ e. let same : name ≡ k = grind (arith, e) in (omega arith, λ less. subst (λ n. IsIn n given) same in_it)
  | false ↦ λ e. (omega arith, λ less. absurd (omega (arith, less)))
] refl

-- a transaction over the history is laid in, under a name that was given
pub kept_one : (w : World) (x : Txn) → Kept (with_txns [] w) → IsTxnOver w.history x → IsIn x.name w.given → Kept (with_txns (x ∷ []) w)
kept_one w x k over given = record {
  young = k.young;
  seen = k.seen;
  history = k.history;
  transactions = (over, tt);
  stands = k.stands;
  floor = k.floor;
  floors = k.floors;
  left = k.left;
  low = k.low;
  counts = k.counts;
  once = k.once;
  labels = (given, tt);
  named = tt;
  apart = λ n. use_of_one w.given x.name n given;
  benches = λ _. (inl refl, tt);
  knows = k.knows;
  next = k.next;
  whose = k.whose;
  holder = k.holder;
}

module _ (layout : Layout) (low young : ℕ) (stuck : Option DiskPlace) (old : Trace) (w : World) (v : View) (store : IsStore layout low young stuck old w) (sees : Sees w v) (layout_is : v.layout ≡ layout) (safe : Safe layout v.since old v.opened w.history (doubt w.lock))
    (txn : Txn) (properties : List (List ℕ × List ℕ)) (next : Revision) (bytes : List ℕ) (may : MayAdopt v txn properties next bytes) where
  -- it has seen all
  all : v.seen ≡ w.history
  all =
      let up : w.young + 1 ≡ length w.history = store.kept.young sees.up in
      let sure : w.young ≡ v.pass.least = sees.sure may.sure in
      let less : length v.seen ≡ length (take v.pass.seen w.history) = ap length sees.seen in
      sees.seen ∙ take_all v.pass.seen w.history (omega (arith, up, sure, less, length-take v.pass.seen w.history, may.seen))

  lock : w.lock ≡ Held v.number Begun
  lock = lock_is v.number w.lock Begun (sees.section ∙ may.begun)

  abbrev x : Coming
  x = coming_of v txn properties next bytes

  shown : BytesShow (with_next w.history x)
  shown = subst (λ h. BytesShow (with_next h x)) all may.shows

  next_is : IsNext (revisions w.history) (entry_of v.number txn properties) next
  next_is = subst (λ h. IsNext (revisions h) (entry_of v.number txn properties) next) all may.next_is

  abbrev laid : World
  laid = with_txns (txn ∷ []) w

  kept_laid : Kept laid
  kept_laid = kept_one w txn store.kept (subst (λ h. IsTxnOver h txn) all may.over) (sees.given txn.name may.given)

  abbrev after_it : Went → World
  after_it went = adopted laid v.number 0 txn.name went x

  happens : (went : Went) → Adopts laid v.number 0 properties bytes went (has_begun_by v.number w.lock) (did (after_it went) (answer went))
  happens went = subst (λ o. Adopts laid v.number 0 properties bytes went (is_begun o) (did (after_it went) (answer went))) (sym (sees.section ∙ may.begun))
      (inl (x, record { entry = refl; brought = refl; adds = (may.dated, next_is) }, refl))

  kept_after : (went : Went) → Kept (with_txns [] (after_it went))
  kept_after went = kept_bare (after_it went) (step_keeps laid (step.AdoptRev v.number 0 properties bytes went) (did (after_it went) (answer went)) (happens went) kept_laid).kept

  stood_after : (went : Went) (e : Disk) → IsImage (after_it went).disk e → StoodFor layout v.opened w.history (doubt_in (either went (RevPut x) Over)) e
  stood_after went = stood_for layout v.opened (with_txns [] (after_it went)) store.size store.whole (kept_after went) (le layout low young stuck old w v store sees layout_is safe)

  coming_then : (went : Went) → IfSome (coming (after_it went).lock) (λ y. BytesShow (with_next w.history y))
  coming_then Fine = shown
  coming_then Before = tt
  coming_then After = tt
  coming_then (Torn any) = tt

  adopts : (new : Trace) (went : Went) → IsTraceOf layout no_others new.first new.operations (disk_after went (Put (Rev (length w.history)) (file_of (recorded x))) w.disk)
      → Safe layout v.since new v.opened w.history (doubt_in (either went (RevPut x) Over))
      → IsAfter layout low young stuck new w v (λ u. Adopted txn properties next bytes went v u)
  adopts new went trace safe_then = record {
    world = after_it went;
    view = adopting_view went x v;
    store = now;
    sees = seen;
    turned = record {
      turned = record { world = w; kept = kept_laid; sees = sees; did = did (after_it went) (answer went); happens = happens went; answers = refl; after = kept_after went; leaves = seen };
      is = refl;
    };
    all = all;
    safe = safe_then;
    leaves = section_leaves w (after_it went) v.number (learns (length w.history) (Commit PutRev) went) Begun (either went (RevPut x) Over) went refl refl refl refl lock refl refl
        (λ last. (last.0, found_apart (Put (Rev (length w.history)) (file_of (recorded x))) went w.disk refl ∙ last.1, last.2))
        (floor_kept w.disk (disk_after went (Put (Rev (length w.history)) (file_of (recorded x))) w.disk) (floor_apart (Put (Rev (length w.history)) (file_of (recorded x))) went w.disk refl));
    layout_is = refl;
    since_is = refl;
    opened_is = refl;
    number_is = refl;
    left_is = refl;
  }
    where
      now : IsStore layout low young stuck new (after_it went)
      now = record {
        trace = trace;
        size = store.size;
        whole = store.whole;
        kept = kept_after went;
        shown = store.shown;
        coming = coming_then went;
        low_is = store.low_is;
        young_is = store.young_is;
        stuck_is = sym (ap stuck_place lock) ∙ store.stuck_is;
      }

      seen : Sees (after_it went) (adopting_view went x v)
      seen = record {
        pass = at_itself w.passes v.number (learns (length w.history) (Commit PutRev) went) v.pass sees.pass ∙ ap (λ h. Some (learns (length h) (Commit PutRev) went v.pass)) (sym all);
        seen = all ∙ sym (ap (λ h. take (length h) w.history) all ∙ take_all (length w.history) w.history (omega arith));
        section = held_here v.number (either went (RevPut x) Over);
        up = refl;
        sure = sees.sure;
        whole = λ y e. all;
        given = sees.given;
        opened = sees.opened;
        shown = sees.shown;
        names = names_stay v.full v.section (Some (either went (RevPut x) Over)) w.disk (disk_after went (Put (Rev (length w.history)) (file_of (recorded x))) w.disk) (none_drawn went (RevPut x) Over refl refl)
            (found_apart (Put (Rev (length w.history)) (file_of (recorded x))) went w.disk refl) sees.names;
        firm = λ s f at e. sees.firm Begun f may.begun e;
      }

  safe_here : Safe layout v.since old v.opened w.history None
  safe_here = subst (λ l. Safe layout v.since old v.opened w.history (doubt l)) lock safe

  doubtless : (went : Went) → doubt_in Over ≡ doubt_in (either went (RevPut x) Over)
  doubtless Fine = refl
  doubtless Before = refl
  doubtless After = refl
  doubtless (Torn any) = refl

  stood_over : (went : Went) (e : Disk) → StoodFor layout v.opened w.history (doubt_in Over) e → StoodFor layout v.opened w.history (doubt_in (either went (RevPut x) Over)) e
  stood_over went e s = subst (λ d. StoodFor layout v.opened w.history d e) (doubtless went) s

  part_here : (went : Went) (g : List Recorded) → IsPart w.history None g → IsPart w.history (doubt_in (either went (RevPut x) Over)) g
  part_here went g p = subst (λ d. IsPart w.history d g) (doubtless went) p

  -- how a commit's first call ends
  abbrev pub Ends : {X E : Type 0} → Option Trace → Result X E → Type 0
  Ends told result = Comes layout low young stuck told w v result (λ went u. Adopted txn properties next bytes went v u)

  pub adopt_comes : {X E : Type 0} (told : Option Trace) (name : List ℕ) (result : Result X E) → name ≡ rev_name v (length v.seen)
      → OnOk result (Performs (real.Put name bytes) (Some old) told) → OnErr result (FailsToPut name bytes (Some old) told)
      → Ends told result
  adopt_comes told name result named ok err = by_result result ok err
    where
      name_is : name ≡ machine_name layout (Rev (length w.history))
      name_is = named ∙ ap (λ k. machine_name k (Rev (length v.seen))) layout_is ∙ ap (λ h. machine_name layout (Rev (length h))) all

      fits : Fits (Rev (length w.history))
      fits = subst (λ h. length h < 2 ^ 32) all may.fits

      put : (any : List ℕ) (c : Contents) → Reads layout (Rev (length w.history)) any c → IsTraceOf layout no_others old.first (Done (real.Put name any) ∷ old.operations) (Put (Rev (length w.history)) c ∷ w.disk)
      put any c reads = subst (λ n. IsTraceOf layout no_others old.first (Done (real.Put n any) ∷ old.operations) (Put (Rev (length w.history)) c ∷ w.disk)) (sym name_is)
          (Putting old.operations w.disk (Rev (length w.history)) any c store.trace fits reads)

      safe_then : (op : Operation) (went : Went) → IsTraceOf layout no_others old.first (op ∷ old.operations) (disk_after went (Put (Rev (length w.history)) (file_of (recorded x))) w.disk)
          → ((m : Files) → (ImageAfter (change_of op) (files_after old.first old.operations) (real.IsImage old.first old.operations) m) ⊎ (TornBy (change_of op) (real.IsImage old.first old.operations) m) → (e : Disk) × IsImage (Put (Rev (length w.history)) Junk ∷ w.disk) e × AreRead layout m e)
          → Safe layout v.since (add_operation op old) v.opened w.history (doubt_in (either went (RevPut x) Over))
      safe_then op went trace middle =
          safe_step layout v.since v.opened w.history old op (disk_after went (Put (Rev (length w.history)) (file_of (recorded x))) w.disk) (Put (Rev (length w.history)) Junk ∷ w.disk) None (doubt_in (either went (RevPut x) Over))
          (image_read layout no_others old.first (op ∷ old.operations) (disk_after went (Put (Rev (length w.history)) (file_of (recorded x))) w.disk) trace) (stood_after went) middle (λ e i. stood_over went e (stood_after (Torn Junk) e i)) (part_here went) safe_here

      torn_here : (bytes : List ℕ) (m : Files) → (ImageAfter (real.Put name bytes) (files_after old.first old.operations) (real.IsImage old.first old.operations) m) ⊎ (TornBy (real.Put name bytes) (real.IsImage old.first old.operations) m) → (e : Disk) × IsImage (Put (Rev (length w.history)) Junk ∷ w.disk) e × AreRead layout m e
      torn_here bytes m c = torn_put layout low young stuck old w v store sees layout_is safe (Rev (length w.history)) name bytes name_is fits m c

      by_result : {X E : Type 0} (result : Result X E) → OnOk result (Performs (real.Put name bytes) (Some old) told) → OnErr result (FailsToPut name bytes (Some old) told)
          → Ends told result
      by_result (Ok r) ok err =
          let c = adopts (add_operation (Done (real.Put name bytes)) old) Fine (put bytes (file_of (recorded x)) refl) (safe_then (Done (real.Put name bytes)) Fine (put bytes (file_of (recorded x)) refl) (torn_here bytes)) in
          (add_operation (Done (real.Put name bytes)) old, Fine, ok, refl, c)
      by_result (Err e) ok err =
          ⊎_elim (λ same. (old, Before, same, refl, adopts old Before store.trace safe_here))
          (λ more. ⊎_elim (λ same. let c = adopts (add_operation (Attempted (real.Put name bytes)) old) Before (Attempting old.operations w.disk (real.Put name bytes) store.trace) (safe_then (Attempted (real.Put name bytes)) Before (Attempting old.operations w.disk (real.Put name bytes) store.trace) (torn_here bytes)) in (add_operation (Attempted (real.Put name bytes)) old, Before, same, refl, c))
          (λ torn. let c = adopts (add_operation (Done (real.Put name torn.0)) old) (Torn Junk) (put torn.0 Junk (junk layout (Rev (length w.history)) torn.0)) (safe_then (Done (real.Put name torn.0)) (Torn Junk) (put torn.0 Junk (junk layout (Rev (length w.history)) torn.0)) (torn_here torn.0)) in (add_operation (Done (real.Put name torn.0)) old, Torn Junk, torn.1, refl, c)) more) err

  pub adopt_fails : IsAfter layout low young stuck old w v (λ u. Adopted txn properties next bytes Before v u)
  adopt_fails = adopts old Before store.trace safe_here

  -- a bench's file gets the name by one change: the bytes are all there, or the name is as it was
  pub adopt_file_comes : {X E : Type 0} (A B : Type 0) (told : Option Trace) (name : List ℕ) (result : Result X E) → name ≡ rev_name v (length v.seen)
      → OnOk result (Performs (real.Adopt name bytes) (Some old) told) → OnErr result ((StaysAt (real.Adopt name bytes) (Some old) told × A) ⊎ (Performs (real.Adopt name bytes) (Some old) told × B))
      → Ends told result
  adopt_file_comes A B told name result named ok err = by_result result ok err
    where
      name_is : name ≡ machine_name layout (Rev (length w.history))
      name_is = named ∙ ap (λ k. machine_name k (Rev (length v.seen))) layout_is ∙ ap (λ h. machine_name layout (Rev (length h))) all

      fits : Fits (Rev (length w.history))
      fits = subst (λ h. length h < 2 ^ 32) all may.fits

      done : IsTraceOf layout no_others old.first (Done (real.Adopt name bytes) ∷ old.operations) (Put (Rev (length w.history)) (file_of (recorded x)) ∷ w.disk)
      done = subst (λ n. IsTraceOf layout no_others old.first (Done (real.Adopt n bytes) ∷ old.operations) (Put (Rev (length w.history)) (file_of (recorded x)) ∷ w.disk)) (sym name_is)
          (Adopting old.operations w.disk (Rev (length w.history)) bytes (file_of (recorded x)) store.trace fits refl)

      middle : (m : Files) → (ImageAfter (real.Adopt name bytes) (files_after old.first old.operations) (real.IsImage old.first old.operations) m) ⊎ (TornBy (real.Adopt name bytes) (real.IsImage old.first old.operations) m) → (e : Disk) × IsImage (Put (Rev (length w.history)) (file_of (recorded x)) ∷ w.disk) e × AreRead layout m e
      middle m c = ⊎_elim (λ i. image_read layout no_others old.first (Done (real.Adopt name bytes) ∷ old.operations) (Put (Rev (length w.history)) (file_of (recorded x)) ∷ w.disk) done m i) (λ t. absurd t) c

      safe_then : (op : Operation) (went : Went) → change_of op ≡ real.Adopt name bytes → IsTraceOf layout no_others old.first (op ∷ old.operations) (disk_after went (Put (Rev (length w.history)) (file_of (recorded x))) w.disk)
          → Safe layout v.since (add_operation op old) v.opened w.history (doubt_in (either went (RevPut x) Over))
      safe_then op went change trace =
          safe_step layout v.since v.opened w.history old op (disk_after went (Put (Rev (length w.history)) (file_of (recorded x))) w.disk) (Put (Rev (length w.history)) (file_of (recorded x)) ∷ w.disk) None (doubt_in (either went (RevPut x) Over))
          (image_read layout no_others old.first (op ∷ old.operations) (disk_after went (Put (Rev (length w.history)) (file_of (recorded x))) w.disk) trace) (stood_after went)
          (subst (λ k. (m : Files) → (ImageAfter k (files_after old.first old.operations) (real.IsImage old.first old.operations) m) ⊎ (TornBy k (real.IsImage old.first old.operations) m) → (e : Disk) × IsImage (Put (Rev (length w.history)) (file_of (recorded x)) ∷ w.disk) e × AreRead layout m e) (sym change) middle)
          (λ e i. stood_over went e (stood_after After e i)) (part_here went) safe_here

      tried : IsTraceOf layout no_others old.first (Attempted (real.Adopt name bytes) ∷ old.operations) w.disk
      tried = Attempting old.operations w.disk (real.Adopt name bytes) store.trace

      by_result : {X E : Type 0} (result : Result X E) → OnOk result (Performs (real.Adopt name bytes) (Some old) told) → OnErr result ((StaysAt (real.Adopt name bytes) (Some old) told × A) ⊎ (Performs (real.Adopt name bytes) (Some old) told × B))
          → Ends told result
      by_result (Ok r) ok err =
          (add_operation (Done (real.Adopt name bytes)) old, Fine, ok, refl, adopts (add_operation (Done (real.Adopt name bytes)) old) Fine done (safe_then (Done (real.Adopt name bytes)) Fine refl done))
      by_result (Err e) ok err =
          ⊎_elim
          (λ stays. ⊎_elim (λ same. (old, Before, same, refl, adopts old Before store.trace safe_here))
          (λ same. (add_operation (Attempted (real.Adopt name bytes)) old, Before, same, refl, adopts (add_operation (Attempted (real.Adopt name bytes)) old) Before tried (safe_then (Attempted (real.Adopt name bytes)) Before refl tried))) stays.0)
          (λ gone. (add_operation (Done (real.Adopt name bytes)) old, After, gone.0, refl, adopts (add_operation (Done (real.Adopt name bytes)) old) After done (safe_then (Done (real.Adopt name bytes)) After refl done))) err
