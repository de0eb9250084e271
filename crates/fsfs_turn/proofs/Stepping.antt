-- A call of a section is one step of the machine, and what the pass knows after it.
use Rattle.std.proofs.Common.{◌≡◌, ◌==◌, ◌+◌, ℕ, suc, zero, List, [], ◌∷◌, ◌++◌, length, Bool, true, false, cond, inl, inr, ⊎_elim, refl, sym, ap, subst, ◌∙◌, arith, take, drop}
use Rattle.std.specs.Prelude.{Option, Some, None, IfSome, slice_get}
use Rattle.std.proofs.lemmas.List.{take_all, take-append-drop}
use Rattle.fsfs_layout.specs.Layouts.{shard_size}
use Rattle.fsfs_layout.specs.declared.layout.Layout.{Layout}
use Rattle.fsfs_disk.specs.Trace.{Trace}
use Rattle.fsfs_machine.specs.declared.contents.NameChange.{NameChange}
use Rattle.fsfs_machine.specs.declared.machine.Coming.{Coming}
use Rattle.fsfs_machine.specs.declared.machine.Drawn.{Drawn}
use Rattle.fsfs_base.specs.declared.places.place.DiskPlace.{DiskPlace}
use Rattle.fsfs_machine.specs.declared.machine.Section.{Section}
use Rattle.fsfs_machine.specs.declared.machine.Section.TheVariants.{Begun, CountRead, CountPut, CountRenamed, RevPut, PropsPut, RevFirm, CurrentPut, CurrentRenamed, CurrentFirm, Doubtful, PackPut, ManifestPut, PackFirm, FloorPut, FloorRenamed, Packed, FloorDoubtful, Over}
use Rattle.fsfs_machine.specs.declared.machine.Lock.{Lock}
use Rattle.fsfs_machine.specs.declared.machine.Lock.TheVariants.{Free, Held, Stuck, Down, DownDoubtful, StuckFloor, DownFloor}
use Rattle.fsfs_machine.specs.declared.machine.Went.{Went}
use Rattle.fsfs_machine.specs.declared.machine.Went.TheVariants.{Fine, Before, After, Torn}
use Rattle.fsfs_machine.specs.declared.machine.Step.TheVariants as step
use Rattle.fsfs_machine.specs.Machine.{World, did, barred, either, answer, learns, disk_after, at_place, at_call, after, spoiled, gives, called, called_by, due, is_due, held_by, inside, with_next, stuck_place}
use Rattle.fsfs_machine.specs.Kept.{Kept, IsIn, coming_in, coming}
use Rattle.fsfs_machine.proofs.Steps.{step_keeps}
use Rattle.fsfs_images.specs.Shown.{IsTraceOf}
use Rattle.fsfs_turn.specs.Bytes.{BytesShow, AllShow}
use Rattle.fsfs_turn.specs.Views.{View, KnowsNames, Sees, with_txns, given_by, firm_by, called_view, Called}
use Rattle.fsfs_turn.specs.Past.{IsWhole, doubt_in, Safe}
pub use Rattle.fsfs_turn.specs.Found.{get_taken}
use Rattle.fsfs_turn.specs.Found.{whole_raised}
use Rattle.fsfs_turn.specs.Standing.{no_others, IsStore}
use Rattle.fsfs_turn.proofs.Names.{full_after, names_after}
use Rattle.fsfs_turn.proofs.FloorsRise.{floor_after}
use Rattle.fsfs_turn.proofs.TurnEnds.{section_leaves, IsAfter}

-- no transaction is laid in
pub kept_bare : (w : World) → Kept w → Kept (with_txns [] w)
kept_bare w k = record { young = k.young; seen = k.seen; history = k.history; transactions = tt; stands = k.stands; floor = k.floor; floors = k.floors; left = k.left; low = k.low; counts = k.counts; once = k.once; labels = tt; named = tt; apart = λ n. (omega arith, λ less. absurd (omega (arith, less))); benches = λ _. tt; knows = k.knows; next = k.next; whose = k.whose; holder = k.holder }

pub at_itself : {A : Type 0} (xs : List A) (p : ℕ) (f : A → A) (x : A) → slice_get xs p ≡ Some x → slice_get (at_place xs p f) p ≡ Some (f x)
at_itself [] p f x e = absurd cc
at_itself (y ∷ ys) zero f x e = let same : y ≡ x = cc in ap (λ z. Some (f z)) same
at_itself (y ∷ ys) (suc p) f x e = at_itself ys p f x e

pub held_here : (p : ℕ) (s : Section) → held_by p (Held p s) ≡ Some s
held_here p s = let e : (p == p) ≡ true = grind arith in ap (λ b. cond b (Some s) None) e

-- who has a section holds the lock
pub lock_is : (p : ℕ) (lock : Lock) (s : Section) → held_by p lock ≡ Some s → lock ≡ Held p s
lock_is p Free s e = absurd cc
lock_is p (Stuck place x) s e = absurd cc
lock_is p Down s e = absurd cc
lock_is p (DownDoubtful x) s e = absurd cc
lock_is p (StuckFloor place) s e = absurd cc
lock_is p DownFloor s e = absurd cc
lock_is p (Held q z) s e =
    elim (q == p) as (λ b. (q == p) ≡ b → cond b (Some z) None ≡ Some s → Held q z ≡ Held p s) [
      | true ↦ λ t e. let same : q ≡ p = grind (arith, t) in let inner : z ≡ s = cc in λ i. Held (same i) (inner i)
      | false ↦ λ t e. absurd cc
    ] refl e

pub take_drop : {A : Type 0} (n : ℕ) (xs : List A) → xs ≡ take n xs ++ drop n xs
take_drop n xs = sym (take-append-drop n xs)

abbrev pub named_by : Section → Went → List Drawn → List Drawn
named_by (CountRenamed x) Fine named = named ++ x ∷ []
named_by s went named = named

-- the floor that is firm after a call of a section
abbrev pub floor_by : Section → Went → ℕ → ℕ → ℕ
floor_by FloorRenamed Fine size floor = floor + size
floor_by s went size floor = floor

gives_is : (s : Section) (went : Went) (w : World) → gives s went w ≡ record w { given = given_by s went w.given; named = named_by s went w.named; floor = floor_by s went w.size w.floor }
gives_is (CountRenamed x) Fine w = refl
gives_is (CountRenamed x) Before w = refl
gives_is (CountRenamed x) After w = refl
gives_is (CountRenamed x) (Torn any) w = refl
gives_is FloorRenamed Fine w = refl
gives_is FloorRenamed Before w = refl
gives_is FloorRenamed After w = refl
gives_is FloorRenamed (Torn any) w = refl
gives_is s went w = refl

-- who knew the firm floor knows it then
firm_after : (s : Section) (went : Went) (size floor f : ℕ) (firm : Option ℕ) → ((g : ℕ) → firm ≡ Some g → floor ≡ g) → firm_by s went size firm ≡ Some f → floor_by s went size floor ≡ f
firm_after FloorRenamed Fine size floor f None known e = absurd cc
firm_after FloorRenamed Fine size floor f (Some g) known e = let same : g + size ≡ f = cc in ap (λ n. n + size) (known g refl) ∙ same
firm_after FloorRenamed Before size floor f firm known e = known f e
firm_after FloorRenamed After size floor f firm known e = known f e
firm_after FloorRenamed (Torn any) size floor f firm known e = known f e
firm_after s went size floor f firm known e = known f e

-- it is of whole shards
pub whole_after : (layout : Layout) (s : Section) (went : Went) (w : World) → w.size ≡ shard_size layout → IsWhole layout w.floor → IsWhole layout (floor_by s went w.size w.floor)
whole_after layout FloorRenamed Fine w size whole = whole_raised layout w size whole
whole_after layout FloorRenamed Before w size whole = whole
whole_after layout FloorRenamed After w size whole = whole
whole_after layout FloorRenamed (Torn any) w size whole = whole
whole_after layout s went w size whole = whole

in_given : (s : Section) (went : Went) (k : ℕ) (a b : List ℕ) → (IsIn k a → IsIn k b) → IsIn k (given_by s went a) → IsIn k (given_by s went b)
in_given (CountRenamed x) Fine k a b more i = ⊎_elim (λ e. inl e) (λ e. inr (more e)) i
in_given (CountRenamed x) Before k a b more i = more i
in_given (CountRenamed x) After k a b more i = more i
in_given (CountRenamed x) (Torn any) k a b more i = more i
in_given s went k a b more i = more i

coming_after : (s : Section) (P : Coming → Type 0) → IfSome (coming_in s) P → IfSome (coming_in (after s)) P
coming_after Begun P i = tt
coming_after (CountRead x) P i = tt
coming_after (CountPut x) P i = tt
coming_after (CountRenamed x) P i = tt
coming_after (RevPut x) P i = i
coming_after (PropsPut x) P i = i
coming_after (RevFirm x) P i = i
coming_after (CurrentPut x) P i = i
coming_after (CurrentRenamed x) P i = i
coming_after (CurrentFirm x) P i = tt
coming_after (Doubtful place x) P i = tt
coming_after PackPut P i = tt
coming_after ManifestPut P i = tt
coming_after PackFirm P i = tt
coming_after FloorPut P i = tt
coming_after FloorRenamed P i = tt
coming_after Packed P i = tt
coming_after (FloorDoubtful place) P i = tt
coming_after Over P i = tt

coming_spoiled : (s : Section) (P : Coming → Type 0) → IfSome (coming_in s) P → IfSome (coming_in (spoiled s)) P
coming_spoiled Begun P i = tt
coming_spoiled (CountRead x) P i = tt
coming_spoiled (CountPut x) P i = tt
coming_spoiled (CountRenamed x) P i = tt
coming_spoiled (RevPut x) P i = tt
coming_spoiled (PropsPut x) P i = tt
coming_spoiled (RevFirm x) P i = tt
coming_spoiled (CurrentPut x) P i = i
coming_spoiled (CurrentRenamed x) P i = i
coming_spoiled (CurrentFirm x) P i = tt
coming_spoiled (Doubtful place x) P i = tt
coming_spoiled PackPut P i = tt
coming_spoiled ManifestPut P i = tt
coming_spoiled PackFirm P i = tt
coming_spoiled FloorPut P i = tt
coming_spoiled FloorRenamed P i = tt
coming_spoiled Packed P i = tt
coming_spoiled (FloorDoubtful place) P i = tt
coming_spoiled Over P i = tt

coming_either : (went : Went) (s : Section) (P : Coming → Type 0) → IfSome (coming_in s) P → IfSome (coming_in (either went (after s) (spoiled s))) P
coming_either Fine s P i = coming_after s P i
coming_either Before s P i = coming_spoiled s P i
coming_either After s P i = coming_spoiled s P i
coming_either (Torn any) s P i = coming_spoiled s P i

-- the store after the call
abbrev pub called_store : World → ℕ → DiskPlace → Went → Section → NameChange → World
called_store w p place went s change =
    record w { given = given_by s went w.given; named = named_by s went w.named; floor = floor_by s went w.size w.floor; disk = disk_after went change w.disk; lock = Held p (either went (after s) (spoiled s)); passes = at_place w.passes p (learns (length w.history) place went) }

pub happens_so : (w : World) (p : ℕ) (place : DiskPlace) (went : Went) (s : Section) (change : NameChange) → held_by p w.lock ≡ Some s → is_due s place ≡ true → due w s ≡ Some change
    → did (called_store w p place went s change) (answer went) ≡ inside w (called w p place went) (held_by p w.lock)
happens_so w p place went s change held is change_is =
    sym (ap (λ o. inside w (called w p place went) o) held
    ∙ ap (λ b. cond b (called_by w p place went s (due w s)) (barred w)) is
    ∙ ap (λ o. called_by w p place went s o) change_is
    ∙ ap (λ z. did (at_call z p place change (after s) (spoiled s) went) (answer went)) (gives_is s went w))

-- transactions are no part of what is known
pub sees_bare : (w : World) (v : View) → Sees w v → Sees (with_txns [] w) v
sees_bare w v sees = record { pass = sees.pass; seen = sees.seen; section = sees.section; up = sees.up; sure = sees.sure; whole = sees.whole; given = sees.given; opened = sees.opened; shown = sees.shown; names = sees.names; firm = sees.firm }

sees_after : (w : World) (v : View) (place : DiskPlace) (went : Went) (s : Section) (change : NameChange) (named : List Drawn) → w.size ≡ shard_size v.layout → AllShow w.history → v.section ≡ Some s → due w s ≡ Some change → Sees w v
    → Sees (called_store w v.number place went s change) (called_view w.history place went s v)
sees_after w v place went s change named size shown at due_is sees = record {
  pass = at_itself w.passes v.number (learns (length w.history) place went) v.pass sees.pass;
  seen = sym (take_all (length w.history) w.history (omega arith));
  section = held_here v.number (either went (after s) (spoiled s));
  up = refl;
  sure = sees.sure;
  whole = λ x e. refl;
  given = λ k i. in_given s went k v.given w.given (sees.given k) i;
  opened = sees.opened;
  shown = shown;
  names = names_after v.full w s change went due_is (subst (λ o. KnowsNames v.full o w.disk) at sees.names);
  firm = λ t f inside known. ap (λ n. floor_by s went n w.floor) size ∙ firm_after s went (shard_size v.layout) w.floor f v.firm (λ g. sees.firm s g at) known;
}

pub kept_called : (w : World) (p : ℕ) (place : DiskPlace) (went : Went) (s : Section) (change : NameChange) → Kept (with_txns [] w) → held_by p w.lock ≡ Some s → is_due s place ≡ true → due w s ≡ Some change → Kept (with_txns [] (called_store (with_txns [] w) p place went s change))
kept_called w p place went s change kept held is change_is =
    kept_bare (called_store (with_txns [] w) p place went s change)
    (step_keeps (with_txns [] w) (step.Call p place went) (did (called_store (with_txns [] w) p place went s change) (answer went)) (happens_so (with_txns [] w) p place went s change held is change_is) kept).kept

-- what a call of a section comes to
pub call_turns : (layout : Layout) (low young : ℕ) (stuck : Option DiskPlace) (old new : Trace) (w : World) (v : View) (place : DiskPlace) (went : Went) (s : Section) (change : NameChange)
    → IsStore layout low young stuck old w → Sees w v → v.layout ≡ layout → v.section ≡ Some s → is_due s place ≡ true → due w s ≡ Some change
    → IsTraceOf layout no_others new.first new.operations (disk_after went change w.disk)
    → Safe layout v.since new v.opened w.history (doubt_in (either went (after s) (spoiled s)))
    → IsAfter layout low young stuck new w v (λ u. Called place went v u)
call_turns layout low young stuck old new w v place went s change store sees layout_is section is due_is trace safe = record {
  world = world;
  view = view;
  store = record {
    trace = trace;
    size = store.size;
    whole = whole_after layout s went w store.size store.whole;
    kept = kept;
    shown = store.shown;
    coming = coming_either went s (λ x. BytesShow (with_next w.history x)) (subst (λ l. IfSome (coming l) (λ x. BytesShow (with_next w.history x))) lock store.coming);
    low_is = store.low_is;
    young_is = store.young_is;
    stuck_is = sym (ap stuck_place lock) ∙ store.stuck_is;
  };
  sees = seen;
  turned = record {
    turned = record { world = w; kept = store.kept; sees = sees; did = did (called_store (with_txns [] w) v.number place went s change) (answer went); happens = happens; answers = refl; after = kept; leaves = seen };
    inside = s;
    was = section;
    is = refl;
    grows = (drop v.pass.seen w.history, take_drop v.pass.seen w.history ∙ ap (λ l. l ++ drop v.pass.seen w.history) (sym sees.seen));
    same = λ x e. sym (sees.whole x e);
  };
  all = refl;
  safe = safe;
  leaves = section_leaves w world v.number (learns (length w.history) place went) s (either went (after s) (spoiled s)) went refl refl refl refl lock refl refl (λ last. (full_after v.full w s change went due_is (subst (λ o. KnowsNames v.full o w.disk) section sees.names) last)) (floor_after (with_txns [] w) v.number s change went store.kept lock due_is);
  layout_is = refl;
  since_is = refl;
  opened_is = refl;
  number_is = refl;
  left_is = refl;
}
  where
    world : World
    world = called_store (with_txns [] w) v.number place went s change

    view : View
    view = called_view w.history place went s v

    lock : w.lock ≡ Held v.number s
    lock = lock_is v.number w.lock s (sees.section ∙ section)

    happens : did world (answer went) ≡ inside (with_txns [] w) (called (with_txns [] w) v.number place went) (held_by v.number w.lock)
    happens = happens_so (with_txns [] w) v.number place went s change (sees.section ∙ section) is due_is

    kept : Kept (with_txns [] world)
    kept = kept_called w v.number place went s change store.kept (sees.section ∙ section) is due_is

    seen : Sees world view
    seen = sees_after (with_txns [] w) v place went s change [] (store.size ∙ sym (ap shard_size layout_is)) store.shown section due_is (sees_bare w v sees)
