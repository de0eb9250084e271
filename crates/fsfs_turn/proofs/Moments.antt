-- What a crash at any moment since the opening might have left.
use Rattle.std.proofs.Common.{◌≡◌, ◌⊎◌, ◌≤◌, ◌+◌, ℕ, List, [], ◌∷◌, ◌++◌, length, true, inl, inr, ⊎_elim, refl, sym, ap, subst, ◌∙◌, arith, append_assoc, append-nil, length-append, take, drop}
use Rattle.std.specs.Prelude.{Option, Some, None}
use Rattle.fsfs_base.specs.Files.{Files}
use Rattle.fsfs_layout.specs.Layouts.{shard_size}
use Rattle.fsfs_layout.specs.declared.layout.Layout.{Layout}
use Rattle.fsfs_disk.specs.Trace.{Trace, Operation, change_of, files_after, ImageAfter, TornBy, add_operation}
use Rattle.fsfs_disk.specs.Trace as real
use Rattle.fsfs_machine.specs.declared.machine.Recorded.{Recorded}
use Rattle.fsfs_machine.specs.declared.machine.Coming.{Coming}
use Rattle.fsfs_base.specs.declared.places.place.DiskPlace.{DiskPlace}
use Rattle.fsfs_machine.specs.declared.machine.Section.{Section}
use Rattle.fsfs_machine.specs.declared.machine.Section.TheVariants.{Begun, CountRead, CountPut, CountRenamed, RevPut, PropsPut, RevFirm, CurrentPut, CurrentRenamed, CurrentFirm, Doubtful, PackPut, ManifestPut, PackFirm, FloorPut, FloorRenamed, Packed, FloorDoubtful, Over}
use Rattle.fsfs_machine.specs.declared.machine.Lock.{Lock}
use Rattle.fsfs_machine.specs.declared.machine.Lock.TheVariants.{Free, Held, Stuck, Down, DownDoubtful, StuckFloor, DownFloor}
use Rattle.fsfs_machine.specs.declared.machine.Went.{Went}
use Rattle.fsfs_machine.specs.declared.machine.Went.TheVariants.{Fine, Before, After, Torn}
use Rattle.fsfs_machine.specs.Disk.{Disk, IsImage}
use Rattle.fsfs_machine.specs.Machine.{World, either, after, spoiled, is_due, is_quiet, recorded, with_next}
use Rattle.fsfs_machine.specs.Kept.{Kept, StandsFor, StandsForEither, StandsIn, Stands}
use Rattle.fsfs_machine.proofs.Floors.{floor_of_image}
use Rattle.fsfs_images.specs.Shown.{AreRead}
use Rattle.fsfs_turn.specs.declared.since.Since.{Since}
use Rattle.fsfs_turn.specs.Views.{Begins}
use Rattle.fsfs_turn.specs.Past.{doubt_in, doubt, IsPart, IsWhole, IsPast, HasCounter, StoodFor, WasLeft, Safe}
use Rattle.fsfs_turn.specs.Found.{whole_raised}
use Rattle.fsfs_turn.proofs.Stepping.{take_drop}

-- ---- what an image now stands for

pub begins_itself : (h : List Recorded) → Begins h h
begins_itself h = ([], sym (append-nil h))

-- the first n of a history begin it
pub begins_take : (n : ℕ) (h : List Recorded) → Begins h (take n h)
begins_take n h = (drop n h, take_drop n h)

long : (h : List Recorded) (x : Coming) → length h ≤ length (with_next h x)
long h x = let e : length (with_next h x) ≡ length h + 1 = grind (arith, length-append) in omega (arith, e)

past_now : (size n f : ℕ) (h : List Recorded) (d : Option Coming) (e : Disk) → n ≤ length h → f ≤ length h → StandsFor size f e h → IsPast size n f h d e
past_now size n f h d e le floor s = (h, s, le, inl (begins_itself h), floor)

past_next : (size n f : ℕ) (h : List Recorded) (x : Coming) (e : Disk) → n ≤ length h → f ≤ length h → StandsFor size f e (with_next h x) → IsPast size n f h (Some x) e
past_next size n f h x e le floor s = (with_next h x, s, omega (arith, le, long h x), inr (x, refl, refl), omega (arith, floor, long h x))

past_either : (size n f : ℕ) (h : List Recorded) (x : Coming) (e : Disk) → n ≤ length h → f ≤ length h → StandsForEither size f e h x → IsPast size n f h (Some x) e
past_either size n f h x e le floor s = ⊎_elim (λ a. past_now size n f h (Some x) e le floor a) (λ a. past_next size n f h x e le floor a) s

past_in : (size n f : ℕ) (h : List Recorded) (s : Section) (e : Disk) → n ≤ length h → f ≤ length h → StandsIn size f h s e → IsPast size n f h (doubt_in s) e
past_in size n f h (RevFirm x) e le floor i = past_now size n f h None e le floor i.0
past_in size n f h (CurrentPut x) e le floor i = past_now size n f h None e le floor i.0
past_in size n f h (CurrentRenamed x) e le floor i = past_either size n f h x e le floor i.0
past_in size n f h (Doubtful place x) e le floor i = past_either size n f h x e le floor i.0
past_in size n f h (CurrentFirm x) e le floor i = past_next size n f h x e le floor i
past_in size n f h PackFirm e le floor i = past_now size n f h None e le floor i.0
past_in size n f h FloorPut e le floor i = past_now size n f h None e le floor i.0
past_in size n f h FloorRenamed e le floor i = past_now size n f h None e le floor i.0
past_in size n f h (FloorDoubtful place) e le floor i = past_now size n f h None e le floor i.0
past_in size n f h s e le floor i = past_now size n f h None e le floor i

past_of : (size n f : ℕ) (h : List Recorded) (lock : Lock) (e : Disk) → n ≤ length h → f ≤ length h → Stands size f h lock e → IsPast size n f h (doubt lock) e
past_of size n f h (Held p s) e le floor i = past_in size n f h s e le floor i
past_of size n f h (Stuck place x) e le floor i = past_either size n f h x e le floor i.0
past_of size n f h (DownDoubtful x) e le floor i = past_either size n f h x e le floor i
past_of size n f h (StuckFloor place) e le floor i = past_now size n f h None e le floor i.0
past_of size n f h DownFloor e le floor i = past_now size n f h None e le floor i.0
past_of size n f h Free e le floor i = past_now size n f h None e le floor i
past_of size n f h Down e le floor i = past_now size n f h None e le floor i

-- each image shows a number for the next transaction
counts_on : (w : World) → Kept w → (e : Disk) → IsImage w.disk e → HasCounter e
counts_on w kept e i = let c = kept.counts e i in (c.0, c.1)

-- EACH IMAGE STANDS, by the floor that it shows, for the history or for it with the revision in doubt, and shows that number
pub stood_for : (layout : Layout) (n : ℕ) (w : World) → w.size ≡ shard_size layout → IsWhole layout w.floor → Kept w → n ≤ length w.history → (e : Disk) → IsImage w.disk e → StoodFor layout n w.history (doubt w.lock) e
stood_for layout n w size_is whole kept le e i = ⊎_elim
    (λ is. (w.floor, whole, is, subst (λ k. IsPast k n w.floor w.history (doubt w.lock) e) size_is (past_of w.size n w.floor w.history w.lock e le kept.floor.most (kept.stands e i)), counts_on w kept e i))
    (λ next. (w.floor + w.size, whole_raised layout w size_is whole, next.0, subst (λ k. IsPast k n (w.floor + w.size) w.history (doubt w.lock) e) size_is (past_now w.size n (w.floor + w.size) w.history (doubt w.lock) e le next.2 next.1), counts_on w kept e i))
    (floor_of_image w kept e i)

-- ---- as the section goes on

-- the doubt of a section whose call is due, after that call
abbrev pub doubt_due : Section → Option Coming
doubt_due (CurrentPut x) = Some x
doubt_due (CurrentRenamed x) = Some x
doubt_due s = None

pub doubt_after : (s : Section) (went : Went) → doubt_in (either went (after s) (spoiled s)) ≡ doubt_due s
doubt_after Begun Fine = refl
doubt_after Begun Before = refl
doubt_after Begun After = refl
doubt_after Begun (Torn any) = refl
doubt_after (CountRead x) Fine = refl
doubt_after (CountRead x) Before = refl
doubt_after (CountRead x) After = refl
doubt_after (CountRead x) (Torn any) = refl
doubt_after (CountPut x) Fine = refl
doubt_after (CountPut x) Before = refl
doubt_after (CountPut x) After = refl
doubt_after (CountPut x) (Torn any) = refl
doubt_after (CountRenamed x) Fine = refl
doubt_after (CountRenamed x) Before = refl
doubt_after (CountRenamed x) After = refl
doubt_after (CountRenamed x) (Torn any) = refl
doubt_after (RevPut x) Fine = refl
doubt_after (RevPut x) Before = refl
doubt_after (RevPut x) After = refl
doubt_after (RevPut x) (Torn any) = refl
doubt_after (PropsPut x) Fine = refl
doubt_after (PropsPut x) Before = refl
doubt_after (PropsPut x) After = refl
doubt_after (PropsPut x) (Torn any) = refl
doubt_after (RevFirm x) Fine = refl
doubt_after (RevFirm x) Before = refl
doubt_after (RevFirm x) After = refl
doubt_after (RevFirm x) (Torn any) = refl
doubt_after (CurrentPut x) Fine = refl
doubt_after (CurrentPut x) Before = refl
doubt_after (CurrentPut x) After = refl
doubt_after (CurrentPut x) (Torn any) = refl
doubt_after (CurrentRenamed x) Fine = refl
doubt_after (CurrentRenamed x) Before = refl
doubt_after (CurrentRenamed x) After = refl
doubt_after (CurrentRenamed x) (Torn any) = refl
doubt_after (CurrentFirm x) Fine = refl
doubt_after (CurrentFirm x) Before = refl
doubt_after (CurrentFirm x) After = refl
doubt_after (CurrentFirm x) (Torn any) = refl
doubt_after (Doubtful place x) Fine = refl
doubt_after (Doubtful place x) Before = refl
doubt_after (Doubtful place x) After = refl
doubt_after (Doubtful place x) (Torn any) = refl
doubt_after PackPut Fine = refl
doubt_after PackPut Before = refl
doubt_after PackPut After = refl
doubt_after PackPut (Torn any) = refl
doubt_after ManifestPut Fine = refl
doubt_after ManifestPut Before = refl
doubt_after ManifestPut After = refl
doubt_after ManifestPut (Torn any) = refl
doubt_after PackFirm Fine = refl
doubt_after PackFirm Before = refl
doubt_after PackFirm After = refl
doubt_after PackFirm (Torn any) = refl
doubt_after FloorPut Fine = refl
doubt_after FloorPut Before = refl
doubt_after FloorPut After = refl
doubt_after FloorPut (Torn any) = refl
doubt_after FloorRenamed Fine = refl
doubt_after FloorRenamed Before = refl
doubt_after FloorRenamed After = refl
doubt_after FloorRenamed (Torn any) = refl
doubt_after Packed Fine = refl
doubt_after Packed Before = refl
doubt_after Packed After = refl
doubt_after Packed (Torn any) = refl
doubt_after (FloorDoubtful place) Fine = refl
doubt_after (FloorDoubtful place) Before = refl
doubt_after (FloorDoubtful place) After = refl
doubt_after (FloorDoubtful place) (Torn any) = refl
doubt_after Over Fine = refl
doubt_after Over Before = refl
doubt_after Over After = refl
doubt_after Over (Torn any) = refl

pub doubt_before : (s : Section) (place : DiskPlace) (x : Coming) → is_due s place ≡ true → doubt_in s ≡ Some x → doubt_due s ≡ Some x
doubt_before Begun place x due is = absurd cc
doubt_before (CountRead y) place x due is = absurd cc
doubt_before (CountPut y) place x due is = absurd cc
doubt_before (CountRenamed y) place x due is = absurd cc
doubt_before (RevPut y) place x due is = absurd cc
doubt_before (PropsPut y) place x due is = absurd cc
doubt_before (RevFirm y) place x due is = absurd cc
doubt_before (CurrentPut y) place x due is = absurd cc
doubt_before (CurrentRenamed y) place x due is = is
doubt_before (CurrentFirm y) place x due is = absurd cc
doubt_before (Doubtful at y) place x due is = absurd cc
doubt_before PackPut place x due is = absurd cc
doubt_before ManifestPut place x due is = absurd cc
doubt_before PackFirm place x due is = absurd cc
doubt_before FloorPut place x due is = absurd cc
doubt_before FloorRenamed place x due is = absurd cc
doubt_before Packed place x due is = absurd cc
doubt_before (FloorDoubtful at) place x due is = absurd cc
doubt_before Over place x due is = absurd cc

pub quiet_doubt : (s : Section) → is_quiet s ≡ true → doubt_in s ≡ None
quiet_doubt Begun quiet = refl
quiet_doubt (CountRead x) quiet = refl
quiet_doubt (CountPut x) quiet = refl
quiet_doubt (CountRenamed x) quiet = refl
quiet_doubt (RevPut x) quiet = refl
quiet_doubt (PropsPut x) quiet = refl
quiet_doubt (RevFirm x) quiet = refl
quiet_doubt (CurrentPut x) quiet = refl
quiet_doubt (CurrentRenamed x) quiet = absurd cc
quiet_doubt (CurrentFirm x) quiet = absurd cc
quiet_doubt (Doubtful place x) quiet = absurd cc
quiet_doubt PackPut quiet = refl
quiet_doubt ManifestPut quiet = refl
quiet_doubt PackFirm quiet = refl
quiet_doubt FloorPut quiet = refl
quiet_doubt FloorRenamed quiet = refl
quiet_doubt Packed quiet = refl
quiet_doubt (FloorDoubtful place) quiet = refl
quiet_doubt Over quiet = refl

-- where more is in doubt, or a part of more
pub stood_more : (layout : Layout) (n : ℕ) (h k : List Recorded) (d b : Option Coming) (e : Disk) → ((g : List Recorded) → IsPart h d g → IsPart k b g) → StoodFor layout n h d e → StoodFor layout n k b e
stood_more layout n h k d b e more s = let p = s.3 in (s.0, s.1, s.2, (p.0, p.1, p.2, more p.0 p.3, p.4), s.4)

pub safe_more : (layout : Layout) (since : Since) (n : ℕ) (t : Trace) (h k : List Recorded) (d b : Option Coming) → ((g : List Recorded) → IsPart h d g → IsPart k b g) → Safe layout since t n h d → Safe layout since t n k b
safe_more layout since n t h k d b more safe m i = let s = safe m i in (s.0, s.1, stood_more layout n h k d b s.0 more s.2)

-- the revision in doubt is in the history now
pub part_revealed : (h : List Recorded) (x : Coming) (g : List Recorded) → IsPart h (Some x) g → IsPart (with_next h x) None g
part_revealed h x g p = ⊎_elim
    (λ (b : Begins h g). inl (b.0 ++ recorded x ∷ [], ap (λ l. l ++ recorded x ∷ []) b.1 ∙ append_assoc g b.0 (recorded x ∷ [])))
    (λ (y : (z : Coming) × (Some x ≡ Some z) × (g ≡ with_next h z)). let same : x ≡ y.0 = cc_some x y.0 y.1 in inl ([], ap (λ z. with_next h z) same ∙ sym y.2 ∙ sym (append-nil g))) p
  where
    cc_some : (a b : Coming) → Some a ≡ Some b → a ≡ b
    cc_some a b e = cc

pub part_due : (h : List Recorded) (s : Section) (place : DiskPlace) (went : Went) (g : List Recorded) → is_due s place ≡ true → IsPart h (doubt_in s) g → IsPart h (doubt_in (either went (after s) (spoiled s))) g
part_due h s place went g due p = ⊎_elim (λ b. inl b) (λ y. inr (y.0, doubt_after s went ∙ doubt_before s place y.0 due y.1, y.2)) p

-- an operation on the disk: its images now, those in its middle, and those before
pub safe_step : (layout : Layout) (since : Since) (n : ℕ) (h : List Recorded) (old : Trace) (op : Operation) (now then : Disk) (d b : Option Coming)
    → ((m : Files) → real.IsImage old.first (op ∷ old.operations) m → (e : Disk) × IsImage now e × AreRead layout m e)
    → ((e : Disk) → IsImage now e → StoodFor layout n h b e)
    → ((m : Files) → (ImageAfter (change_of op) (files_after old.first old.operations) (real.IsImage old.first old.operations) m) ⊎ (TornBy (change_of op) (real.IsImage old.first old.operations) m) → (e : Disk) × IsImage then e × AreRead layout m e)
    → ((e : Disk) → IsImage then e → StoodFor layout n h b e)
    → ((g : List Recorded) → IsPart h d g → IsPart h b g)
    → Safe layout since old n h d → Safe layout since (add_operation op old) n h b
safe_step layout since n h old op now then d b images stood middle stood_mid more safe m i =
    ⊎_elim (λ a. let r = images m a in (r.0, r.2, stood r.0 r.1))
    (λ c. ⊎_elim (λ a. from_mid (inl a)) (λ t. ⊎_elim (λ k. from_mid (inr k)) (λ before. safe_more layout since n old h h d b more safe m before) t) c.1) i
  where
    from_mid : (ImageAfter (change_of op) (files_after old.first old.operations) (real.IsImage old.first old.operations) m) ⊎ (TornBy (change_of op) (real.IsImage old.first old.operations) m) → WasLeft layout n h b m
    from_mid c = let r = middle m c in (r.0, r.2, stood_mid r.0 r.1)

-- a call that failed before it reached the disk
pub safe_not : (layout : Layout) (since : Since) (n : ℕ) (old : Trace) (w : World) (s : Section) (place : DiskPlace) (went : Went) → is_due s place ≡ true → Safe layout since old n w.history (doubt_in s) → Safe layout since old n w.history (doubt_in (either went (after s) (spoiled s)))
safe_not layout since n old w s place went due safe = safe_more layout since n old w.history w.history (doubt_in s) (doubt_in (either went (after s) (spoiled s))) (λ g q. part_due w.history s place went g due q) safe
