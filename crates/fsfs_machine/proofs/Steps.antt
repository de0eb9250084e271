-- Each step keeps it.
use Rattle.std.proofs.Common.{◌≡◌, ◌<◌, ◌≤◌, ◌+◌, ◌-◌, ◌==◌, ℕ, suc, List, [], ◌∷◌, ◌++◌, length, Bool, true, false, cond, inl, inr, ⊎_elim, refl, sym, ap, subst, ◌∙◌, arith, length-append}
use Rattle.std.proofs.lemmas.Bool.{and_parts, both_ways}
use Rattle.std.specs.Prelude.{Option, Some, None, slice_get, nat_lt, nat_le, max, not, ◌&&◌}
use Rattle.std.specs.FinMap.{FinMap, get}
use Rattle.fsfs_model.specs.declared.flat.edit.Edit.{Edit}
use Rattle.fsfs_base.specs.Paths.{Path, path_cmp}
use Rattle.fsfs_tree.specs.Nodes.{Node}
use Rattle.fsfs_model.specs.Flat.Edits.{accepts, applied, mark_of, within_limits}
use Rattle.fsfs_model.specs.Flat.Landing.{land, NoClash}
use Rattle.fsfs_tree.specs.Revisions.{Revision, tree_of}
use Rattle.fsfs_tree.specs.Histories.{IsHistory}
use Rattle.fsfs_model.specs.Flat.Transactions.{Entry, IsTransaction, Edited, Landed, IsEntry, IsNext}
use Rattle.fsfs_tree.specs.Dated.{last_of}
use Rattle.fsfs_machine.specs.declared.contents.FileName.TheVariants.{Counter, Floor, Rev, Props}
use Rattle.fsfs_machine.specs.declared.contents.Contents.{Contents}
use Rattle.fsfs_machine.specs.declared.contents.Contents.TheVariants.{RevFile, PropsFile, Number, PackFile, ManifestFile, Junk}
use Rattle.fsfs_machine.specs.declared.contents.NameChange.{NameChange}
use Rattle.fsfs_machine.specs.declared.contents.NameChange.TheVariants.{Remove}
use Rattle.fsfs_machine.specs.declared.machine.Recorded.{Recorded}
use Rattle.fsfs_machine.specs.declared.machine.Txn.{Txn}
use Rattle.fsfs_machine.specs.declared.machine.Coming.{Coming}
use Rattle.fsfs_base.specs.declared.places.place.DiskPlace.{DiskPlace}
use Rattle.fsfs_base.specs.declared.places.place.DiskPlace.TheVariants.{Read, Begin, Commit}
use Rattle.fsfs_base.specs.declared.places.place.BeginPlace.TheVariants as begin
use Rattle.fsfs_base.specs.declared.places.place.CommitPlace.TheVariants.{PutRev}
use Rattle.fsfs_base.specs.declared.places.place.DiskPlace.TheVariants as place
use Rattle.fsfs_machine.specs.declared.machine.Drawn.{Drawn}
use Rattle.fsfs_machine.specs.declared.machine.Pass.{Pass}
use Rattle.fsfs_machine.specs.declared.machine.Section.{Section}
use Rattle.fsfs_machine.specs.declared.machine.Section.TheVariants.{Begun, CountRead, CountPut, CountRenamed, RevPut, PropsPut, RevFirm, CurrentPut, CurrentFirm, Doubtful, PackPut, ManifestPut, PackFirm, FloorPut, FloorRenamed, Packed, FloorDoubtful, Over}
use Rattle.fsfs_machine.specs.declared.machine.Lock.{Lock}
use Rattle.fsfs_machine.specs.declared.machine.Lock.TheVariants.{Free, Held, Stuck, Down, DownDoubtful, StuckFloor, DownFloor}
use Rattle.fsfs_machine.specs.declared.machine.Went.{Went}
use Rattle.fsfs_machine.specs.declared.machine.Went.TheVariants.{Fine, Before, After, Torn}
use Rattle.fsfs_machine.specs.declared.machine.Outcome.TheVariants as outcome
use Rattle.fsfs_machine.specs.declared.machine.Step.{Step}
use Rattle.fsfs_machine.specs.declared.machine.Step.TheVariants as step
use Rattle.fsfs_machine.specs.Disk.{Disk, found, shown}
use Rattle.fsfs_machine.specs.Machine.{World, Did, did, barred, either, answer, learns, labelled, unlabelled, begun_txn, is_outside, made, purged, purged_spent, listed, label_dropped, due, gives as gives_name, called_by, called, recorded, revisions, with_next, at_place, is_up, is_due, file_of, inside, held_by, is_begun, has_begun_by, number_of, count_read, last_name, counted, drawn, entry_of, IsComing, adopted, AdoptsTxn, Adopts, without_place, edited, EditsIf, Edits, merged, MergesIf, Merges, let_go, stuck_at, reveals, revealed, taken, looked, is_known, range_of, turned, has_read, properties_in, has_read_props, raised, sees_floor, floor_read, ends, named, split_off, joined, join_with, is_there, Happens, old_removed, at_call}
use Rattle.fsfs_machine.specs.Kept.{StandsFor, StandsIn, AllBelow, Follows, IsSeen, AreSeen, AreTransactions, Whose, IsHolder, Kept, Names, IsIn, AllGiven, AreNamed, AreApart, HaveLabels, StepsKeep, FloorBy, most_floor, may_rise}
use Rattle.fsfs_machine.proofs.Ends.{next_is_history, ends_keeps, crash_keeps, open_down_keeps}
use Rattle.fsfs_machine.proofs.KeptParts.{no_less, not_so, seen_at, Steady, steady, keeps_lock, keeps_passes, keeps_txns, keeps_turn}
use Rattle.fsfs_machine.proofs.Moves.{Moves, stays, moved, along, if_moves, unless_up}
use Rattle.fsfs_machine.proofs.Answering.{gives, seen_of}
use Rattle.fsfs_machine.proofs.Images.{Each, read_is_image}
use Rattle.fsfs_machine.proofs.Standing.{shown_again, past_rev, same_number, left_past, left_next}
use Rattle.fsfs_machine.proofs.Benches.{apart_at, apart_spent, apart_purged, apart_dropped, apart_made, have_without_place, have_at, have_purged, have_dropped, have_made}
use Rattle.fsfs_machine.proofs.Given.{given_labelled, given_unlabelled, named_more, named_without, named_at}
use Rattle.fsfs_machine.proofs.Growing.{transactions_append, transactions_go_on, transactions_at, transaction_at, transactions_without, revisions_length, revisions_next}
use Rattle.fsfs_machine.proofs.Keeps.{keeps_put, keeps_called, removed_keeps, begun_is}
use Rattle.fsfs_machine.proofs.Whose.{length_at, there_at, whose_at, whose_next, whose_split}

-- what is done with a section of the pass that holds the lock
keeps_inside : (w : World) (p : ℕ) (f : Section → Did) (lock : Lock) → w.lock ≡ lock → Kept w
    → ((s : Section) → Kept (record w { lock = Held p s }) → Moves w (f s).world) → Moves w (inside w f (held_by p lock)).world
keeps_inside w p f Free is k h = stays w k
keeps_inside w p f (Stuck place x) is k h = stays w k
keeps_inside w p f Down is k h = stays w k
keeps_inside w p f (DownDoubtful x) is k h = stays w k
keeps_inside w p f (StuckFloor place) is k h = stays w k
keeps_inside w p f DownFloor is k h = stays w k
keeps_inside w p f (Held q s) is k h =
    elim (q == p) as (λ b. (q == p) ≡ b → Moves w (inside w f (cond b (Some s) None)).world) [
      | true ↦ λ e. let same : q ≡ p = grind (arith, e) in h s (subst (λ l. Kept (record w { lock = l })) (is ∙ ap (λ n. Held n s) same) k)
      | false ↦ λ e. stays w k
    ] refl

history_gives : (s : Section) (went : Went) (w : World) → (gives_name s went w).history ≡ w.history
history_gives (CountRenamed x) Fine w = refl
history_gives (CountRenamed x) Before w = refl
history_gives (CountRenamed x) After w = refl
history_gives (CountRenamed x) (Torn any) w = refl
history_gives FloorRenamed Fine w = refl
history_gives FloorRenamed Before w = refl
history_gives FloorRenamed After w = refl
history_gives FloorRenamed (Torn any) w = refl
history_gives s went w = refl

history_called : (w : World) (p : ℕ) (place : DiskPlace) (went : Went) (s : Section) (o : Option NameChange) → (called_by w p place went s o).world.history ≡ w.history
history_called w p place went s None = refl
history_called w p place went s (Some change) = history_gives s went w

names_called : (w : World) (p : ℕ) (place : DiskPlace) (went : Went) (s : Section) (o : Option NameChange) → Kept (record w { lock = Held p s }) → Names w.given (called_by w p place went s o).world.given
names_called w p place went s None k = inl refl
names_called w p place Fine (CountRenamed x) (Some change) k = inr (x.name, k.knows.1, refl)
names_called w p place Before (CountRenamed x) (Some change) k = inl refl
names_called w p place After (CountRenamed x) (Some change) k = inl refl
names_called w p place (Torn any) (CountRenamed x) (Some change) k = inl refl
names_called w p place Fine FloorRenamed (Some change) k = inl refl
names_called w p place Before FloorRenamed (Some change) k = inl refl
names_called w p place After FloorRenamed (Some change) k = inl refl
names_called w p place (Torn any) FloorRenamed (Some change) k = inl refl
names_called w p place went s (Some change) k = inl refl

called_keeps : (w : World) (p : ℕ) (place : DiskPlace) (went : Went) (s : Section) → Kept w → Kept (record w { lock = Held p s }) → Moves w (called w p place went s).world
called_keeps w p place went s k at = elim (is_due s place) as (λ b. Moves w (cond b (called_by w p place went s (due w s)) (barred w)).world) [
  | true ↦ record { kept = ⊎_elim (λ a. a) (λ e. subst (λ v. Kept v) (sym e) k) (keeps_called w p place went s at); grows = inl (history_called w p place went s (due w s)); names = names_called w p place went s (due w s) at }
  | false ↦ stays w k
]

-- the first call of a begin
count_keeps : (w : World) (p b : ℕ) (went : Went) (k : ℕ) → found w.disk Counter ≡ Some (Number k) → b < length w.history → Kept (record w { lock = Held p Begun }) → Kept (count_read w p b went k)
count_keeps w p b went k is less at = by_end went
  where
    read : (j : ℕ) × (found w.disk Counter ≡ Some (Number j)) × AllBelow j w.given
    read = at.counts w.disk (read_is_image w.disk)

    below : AllBelow k w.given
    below = subst (λ n. AllBelow n w.given) (same_number (found w.disk Counter) read.0 k read.1 is) read.2

    held : Each w.disk (Steady false w)
    held = steady (record w { lock = Held p Begun }) at

    by_end : (went : Went) → Kept (count_read w p b went k)
    by_end Fine = keeps_turn w p (Begin begin.Read) Fine Begun (CountRead (record { name = k; next = k + 1; base = b })) w.disk at tt (omega arith) (λ u. not_so u) at.stands held (less, below, refl) tt
    by_end Before = keeps_turn w p (Begin begin.Read) Before Begun Over w.disk at tt (omega arith) (λ u. not_so u) at.stands held tt tt
    by_end After = keeps_turn w p (Begin begin.Read) After Begun Over w.disk at tt (omega arith) (λ u. not_so u) at.stands held tt tt
    by_end (Torn any) = keeps_turn w p (Begin begin.Read) (Torn any) Begun Over w.disk at tt (omega arith) (λ u. not_so u) at.stands held tt tt

counted_keeps : (w : World) (p b : ℕ) (went : Went) (o : Option Contents) → found w.disk Counter ≡ o → Kept w → Kept (record w { lock = Held p Begun }) → Moves w (counted w p b went (number_of o)).world
counted_keeps w p b went None is k at = stays w k
counted_keeps w p b went (Some (Number n)) is k at =
    elim (nat_lt b (length w.history) && nat_lt n last_name) as (λ t. (nat_lt b (length w.history) && nat_lt n last_name) ≡ t → Moves w (cond t (did (count_read w p b went n) (answer went)) (barred w)).world) [
      | true ↦ λ e. let f : nat_lt b (length w.history) ≡ true = (and_parts _ _ e).0 in let less : b < length w.history = grind (arith, f) in
          moved w (count_read w p b went n) (count_keeps w p b went n is less at) refl refl
      | false ↦ λ e. stays w k
    ] refl
counted_keeps w p b went (Some (RevFile tree changes bytes)) is k at = stays w k
counted_keeps w p b went (Some (PropsFile props)) is k at = stays w k
counted_keeps w p b went (Some Junk) is k at = stays w k
counted_keeps w p b went (Some (PackFile offsets parts)) is k at = stays w k
counted_keeps w p b went (Some (ManifestFile offsets)) is k at = stays w k

drawn_keeps : (w : World) (p b : ℕ) (went : Went) (s : Section) → Kept w → Kept (record w { lock = Held p s }) → Moves w (drawn w p b went s).world
drawn_keeps w p b went Begun k at = counted_keeps w p b went (found w.disk Counter) refl k at
drawn_keeps w p b went s k at = stays w k

-- the first call of a commit
adopted_keeps : (w : World) (p t : ℕ) (txn : Txn) (e : Entry) (bytes : List ℕ) (went : Went) (x : Coming)
    → IsTransaction (tree_of (revisions w.history)) (last_of (revisions w.history)) e.base (get e.tree) e.marks
    → slice_get w.txns t ≡ Some txn → e.pass ≡ p → IsComing w.history e bytes x → Kept (record w { lock = Held p Begun }) → Kept (adopted w p t txn.name went x)
adopted_keeps w p t txn e bytes went x was there mine is at =
    let less : World = record w { txns = without_place w.txns t; spent = w.spent ++ txn.name ∷ [] } in
    let k : Kept (record less { lock = Held p Begun }) = keeps_txns (record w { lock = Held p Begun }) w.labels w.named (without_place w.txns t) (w.spent ++ txn.name ∷ []) at at.labels at.named
    (transactions_without (revisions w.history) w.txns t at.transactions) (apart_spent w.given w.named w.txns w.spent t txn there at.apart) (λ up. have_without_place w.labels w.txns t (at.benches refl)) in
    let follows : Follows w.history x = subst (λ z. IsEntry (revisions w.history) z × IsNext (revisions w.history) z x.revision) (sym is.entry) (record { transaction = was; dated = is.adds.0 }, is.adds.1) in
    keeps_put less p (Commit PutRev) Begun (Rev (length w.history)) (file_of (recorded x)) (RevPut x) went k (ap (λ z. z.pass) is.entry ∙ mine)
    refl refl (λ u. not_so u) (λ m i. i) (λ m any i. past_rev w.size w.floor m w.history any i) (λ m i. i) (λ m any i. (i.0, i.1, left_past w.low m w.history any i.2)) (shown_again w.size w.floor w.disk (length w.history) (file_of (recorded x)) at.floor.most) follows

adopts_txn_keep : (w : World) (p t : ℕ) (properties : List (List ℕ × List ℕ)) (bytes : List ℕ) (went : Went) (o : Option Txn) (d : Did) → slice_get w.txns t ≡ o
    → Kept w → Kept (record w { lock = Held p Begun }) → AdoptsTxn w p t properties bytes went o d → Moves w d.world
adopts_txn_keep w p t properties bytes went None d is k at e = subst (λ z. Moves w z.world) (sym e) (stays w k)
adopts_txn_keep w p t properties bytes went (Some txn) d is k at e = ⊎_elim
    (λ a. subst (λ z. Moves w z.world) (sym a.2) (moved w (adopted w p t txn.name went a.0) (adopted_keeps w p t txn (entry_of p txn properties) bytes went a.0 (transaction_at (revisions w.history) w.txns t txn is k.transactions) is refl a.1 at) refl refl))
    (λ b. subst (λ z. Moves w z.world) (sym b.1) (stays w k)) e

begun_section : (s : Section) → is_begun (Some s) ≡ true → s ≡ Begun
begun_section Begun e = refl
begun_section s e = let f : false ≡ true = e in absurd cc

held_begun : (p : ℕ) (lock : Lock) → has_begun_by p lock ≡ true → lock ≡ Held p Begun
held_begun p (Held q s) e = elim (q == p) as (λ b. (q == p) ≡ b → is_begun (cond b (Some s) None) ≡ true → Held q s ≡ Held p Begun) [
  | true ↦ λ t f. let same : q ≡ p = grind (arith, t) in let at : s ≡ Begun = begun_section s f in ap (λ n. Held n s) same ∙ ap (λ z. Held p z) at
  | false ↦ λ t f. let g : false ≡ true = f in absurd cc
] refl e
held_begun p lock e = let f : false ≡ true = e in absurd cc

adopts_keep : (w : World) (p t : ℕ) (properties : List (List ℕ × List ℕ)) (bytes : List ℕ) (went : Went) (b : Bool) (d : Did) → has_begun_by p w.lock ≡ b → Kept w
    → Adopts w p t properties bytes went b d → Moves w d.world
adopts_keep w p t properties bytes went false d is k e = subst (λ z. Moves w z.world) (sym e) (stays w k)
adopts_keep w p t properties bytes went true d is k e =
    adopts_txn_keep w p t properties bytes went (slice_get w.txns t) d refl k (subst (λ l. Kept (record w { lock = l })) (held_begun p w.lock is) k) e

-- edits and merges
with_txns : (w : World) (txns : List Txn) → AreTransactions (revisions w.history) txns → AreApart w.given w.named txns w.spent → (is_up w.lock ≡ true → HaveLabels w.labels txns) → Kept w → Moves w (record w { txns = txns })
with_txns w txns t apart benches k = moved w (record w { txns = txns }) (keeps_txns w w.labels w.named txns w.spent k k.labels k.named t apart benches) refl refl

edits_if_keep : (w : World) (t : ℕ) (edit : Edit) (x : Txn) (b : Bool) (d : Did) → slice_get w.txns t ≡ Some x
    → (accepts edit (tree_of (revisions w.history)) (last_of (revisions w.history)) (get x.tree) && within_limits edit x.tree) ≡ b → Kept w → EditsIf w t edit x b d → Moves w d.world
edits_if_keep w t edit x false d is ok k e = subst (λ z. Moves w z.world) (sym e) (stays w k)
edits_if_keep w t edit x true d is ok k e =
    let h : List Revision = revisions w.history in
    let was : IsTransaction (tree_of h) (last_of h) x.base (get x.tree) x.marks = transaction_at h w.txns t x is k.transactions in
    let fun : get e.0 ≡ applied edit (tree_of h) (get x.tree) = (λ i q. e.1 q i) in
    let new : IsTransaction (tree_of h) (last_of h) x.base (get e.0) (x.marks ++ mark_of edit (tree_of h) (get x.tree) ∷ []) =
    subst (λ f. IsTransaction (tree_of h) (last_of h) x.base f (x.marks ++ mark_of edit (tree_of h) (get x.tree) ∷ [])) (sym fun)
    (Edited x.base (get x.tree) x.marks edit was (and_parts _ _ ok).0) in
    subst (λ z. Moves w z.world) (sym e.2) (with_txns w (at_place w.txns t (edited e.0 (mark_of edit (tree_of (revisions w.history)) (get x.tree)))) (transactions_at h w.txns t x (edited e.0 (mark_of edit (tree_of (revisions w.history)) (get x.tree))) is new k.transactions)
    (apart_at w.given w.named w.txns w.spent t (edited e.0 (mark_of edit (tree_of (revisions w.history)) (get x.tree))) (λ y. refl) k.apart) (λ up. have_at w.labels w.txns t (edited e.0 (mark_of edit (tree_of (revisions w.history)) (get x.tree))) (λ y. refl) (k.benches up)) k)

edits_keep : (w : World) (t : ℕ) (edit : Edit) (o : Option Txn) (d : Did) → slice_get w.txns t ≡ o → Kept w → Edits w t edit o d → Moves w d.world
edits_keep w t edit None d is k e = subst (λ z. Moves w z.world) (sym e) (stays w k)
edits_keep w t edit (Some x) d is k e = edits_if_keep w t edit x _ d is refl k e

merges_if_keep : (w : World) (t head : ℕ) (x : Txn) (b : Bool) (d : Did) → slice_get w.txns t ≡ Some x
    → (nat_le x.base head && nat_lt head (length w.history)) ≡ b → Kept w → MergesIf w t head x b d → Moves w d.world
merges_if_keep w t head x false d is ok k e = subst (λ z. Moves w z.world) (sym e) (stays w k)
merges_if_keep w t head x true d is ok k e = ⊎_elim on_clear (λ c. subst (λ z. Moves w z.world) (sym c.2) (stays w k)) e
  where
    h : List Revision
    h = revisions w.history

    was : IsTransaction (tree_of h) (last_of h) x.base (get x.tree) x.marks
    was = transaction_at h w.txns t x is k.transactions

    up : x.base ≤ head
    up = let f : nat_le x.base head ≡ true = (and_parts (nat_le x.base head) (nat_lt head (length w.history)) ok).0 in grind (arith, f)

    in_range : head ≤ last_of h
    in_range = let f : nat_lt head (length w.history) ≡ true = (and_parts (nat_le x.base head) (nat_lt head (length w.history)) ok).1 in let less : head < length w.history = grind (arith, f) in omega (arith, less, revisions_length w.history)

    on_clear : NoClash x.base (tree_of h x.base) (tree_of h head) (get x.tree) x.marks
        × (tree : FinMap path_cmp Node)
        × ((q : Path) → get tree q ≡ land (tree_of h x.base) (tree_of h head) (get x.tree) x.marks head q)
        × (d ≡ did (record w { txns = at_place w.txns t (merged tree head) }) outcome.Done) → Moves w d.world
    on_clear a =
        let fun : get a.1 ≡ land (tree_of h x.base) (tree_of h head) (get x.tree) x.marks head = (λ i q. a.2 q i) in
        let new : IsTransaction (tree_of h) (last_of h) head (get a.1) x.marks =
        subst (λ f. IsTransaction (tree_of h) (last_of h) head f x.marks) (sym fun) (Landed x.base head head (get x.tree) x.marks was up in_range a.0) in
        subst (λ z. Moves w z.world) (sym a.3) (with_txns w (at_place w.txns t (merged a.1 head)) (transactions_at h w.txns t x (merged a.1 head) is new k.transactions)
        (apart_at w.given w.named w.txns w.spent t (merged a.1 head) (λ y. refl) k.apart) (λ up. have_at w.labels w.txns t (merged a.1 head) (λ y. refl) (k.benches up)) k)

merges_keep : (w : World) (t head : ℕ) (o : Option Txn) (d : Did) → slice_get w.txns t ≡ o → Kept w → Merges w t head o d → Moves w d.world
merges_keep w t head None d is k e = subst (λ z. Moves w z.world) (sym e) (stays w k)
merges_keep w t head (Some x) d is k e = merges_if_keep w t head x _ d is refl k e

-- the words
with_passes : (w : World) (passes : List Pass) → AreSeen (length w.history) w.low (most_floor (may_rise w.lock) w.size w.floor) passes → Whose w.opening w.history w.since passes → IsHolder (length passes) w.lock → Kept w → Moves w (record w { passes = passes })
with_passes w passes s whose holder k = moved w (record w { passes = passes }) (keeps_passes w passes k s whose holder) refl refl

-- the holder is there still, where there are no fewer passes
holder_stays : (n m : ℕ) (lock : Lock) → n ≤ m → IsHolder n lock → IsHolder m lock
holder_stays n m (Held p s) le h = let less : p < n = h.0 in (omega (arith, less, le), h.1)
holder_stays n m lock le h = tt

-- one pass learns something, and has no more revisions of its own
with_pass : (w : World) (p : ℕ) (f : Pass → Pass) → ((x : Pass) → IsSeen (length w.history) w.low (most_floor (may_rise w.lock) w.size w.floor) x → IsSeen (length w.history) w.low (most_floor (may_rise w.lock) w.size w.floor) (f x)) → ((x : Pass) → (f x).mine ≡ x.mine)
    → Kept w → Moves w (record w { passes = at_place w.passes p f })
with_pass w p f seen same k =
    let e : length (at_place w.passes p f) ≡ length w.passes = length_at w.passes p f in
    with_passes w (at_place w.passes p f) (seen_at (length w.history) w.low (most_floor (may_rise w.lock) w.size w.floor) w.passes p f seen k.seen) (whose_at w.opening w.history w.since w.passes p f same k.whose)
    (holder_stays (length w.passes) (length (at_place w.passes p f)) w.lock (omega (arith, e)) k.holder) k

taken_keeps : (w : World) (p : ℕ) (lock : Lock) → p < length w.passes → w.lock ≡ lock → Kept (record w { lock = lock }) → Kept w → Moves w (taken w p lock).world
taken_keeps w p Free there is at k = moved w (record w { lock = Held p Begun }) (keeps_lock w Free (Held p Begun) at (λ up. refl) refl (λ u. not_so u) (λ m s. s) tt tt (there, tt)) refl refl
taken_keeps w p (Stuck place x) there is at k = with_pass w p (λ y. record y { stuck = Some place }) (λ y s. record { seen = s.seen; least = s.least; mine = s.mine; least_floor = s.least_floor; floor = s.floor }) (λ y. refl) k
taken_keeps w p (StuckFloor place) there is at k = with_pass w p (λ y. record y { stuck = Some place }) (λ y s. record { seen = s.seen; least = s.least; mine = s.mine; least_floor = s.least_floor; floor = s.floor }) (λ y. refl) k
taken_keeps w p lock there is at k = stays w k

lock_keeps : (w : World) (p : ℕ) (b : Bool) → is_there w p ≡ b → Kept w → Moves w (cond b (taken w p w.lock) (barred w)).world
lock_keeps w p true is k = taken_keeps w p w.lock (let there : p < length w.passes = grind (arith, is) in there) refl k k
lock_keeps w p false is k = stays w k

freed : (w : World) (p : ℕ) (s : Section) → Kept (record w { lock = Held p s }) → false ≡ may_rise (Held p s) → ((m : Disk) → StandsIn w.size w.floor w.history s m → StandsFor w.size w.floor m w.history) → Moves w (record w { lock = Free })
freed w p s at calm plain = moved w (record w { lock = Free }) (keeps_lock w (Held p s) Free at (λ up. refl) calm (λ u. not_so u) plain tt tt tt) refl refl

let_go_keeps : (w : World) (p : ℕ) (s : Section) → Kept w → Kept (record w { lock = Held p s }) → Moves w (let_go w s).world
let_go_keeps w p Begun k at = freed w p Begun at refl (λ m i. i)
let_go_keeps w p (CountRead x) k at = freed w p (CountRead x) at refl (λ m i. i)
let_go_keeps w p (CountPut x) k at = freed w p (CountPut x) at refl (λ m i. i)
let_go_keeps w p (CountRenamed x) k at = freed w p (CountRenamed x) at refl (λ m i. i)
let_go_keeps w p (RevPut x) k at = freed w p (RevPut x) at refl (λ m i. i)
let_go_keeps w p (PropsPut x) k at = freed w p (PropsPut x) at refl (λ m i. i)
let_go_keeps w p (RevFirm x) k at = freed w p (RevFirm x) at refl (λ m i. i.0)
let_go_keeps w p (CurrentPut x) k at = freed w p (CurrentPut x) at refl (λ m i. i.0)
let_go_keeps w p Over k at = freed w p Over at refl (λ m i. i)
let_go_keeps w p PackPut k at = freed w p PackPut at refl (λ m i. i)
let_go_keeps w p ManifestPut k at = freed w p ManifestPut at refl (λ m i. i)
let_go_keeps w p PackFirm k at = freed w p PackFirm at refl (λ m i. i.0)
let_go_keeps w p FloorPut k at = freed w p FloorPut at refl (λ m i. i.0)
let_go_keeps w p Packed k at = freed w p Packed at refl (λ m i. i)
let_go_keeps w p s k at = stays w k

stuck_keeps : (w : World) (p : ℕ) (s : Section) → Kept w → Kept (record w { lock = Held p s }) → Moves w (stuck_at w s).world
stuck_keeps w p (Doubtful place x) k at = moved w (record w { lock = Stuck place x }) (keeps_lock w (Held p (Doubtful place x)) (Stuck place x) at (λ up. refl) refl (λ u. not_so u) (λ m s. s) tt at.next tt) refl refl
stuck_keeps w p (FloorDoubtful place) k at = moved w (record w { lock = StuckFloor place }) (keeps_lock w (Held p (FloorDoubtful place)) (StuckFloor place) at (λ up. refl) refl (λ u. u) (λ m s. s) tt tt tt) refl refl
stuck_keeps w p s k at = stays w k

seen_more : (n m l f : ℕ) (xs : List Pass) → n ≤ m → AreSeen n l f xs → AreSeen m l f xs
seen_more n m l f [] le s = tt
seen_more n m l f (x ∷ xs) le s = let one : IsSeen n l f x = s.0 in (record { seen = omega (arith, le, one.seen); least = omega (arith, le, one.least); mine = one.mine; least_floor = one.least_floor; floor = one.floor }, seen_more n m l f xs le s.1)

below_append : (xs : List ℕ) (a n : ℕ) → AllBelow n xs → a < n → AllBelow n (xs ++ a ∷ [])
below_append [] a n s less = (less, tt)
below_append (x ∷ xs) a n s less = (s.0, below_append xs a n s.1 less)

some_revision : (h : List Recorded) → IsHistory (revisions h) → 0 < length (revisions h)
some_revision h is = let e : length (revisions h) ≡ suc is.last = is.counted in omega (arith, e)

revealed_keeps : (w : World) (p : ℕ) (s : Section) → Kept w → Kept (record w { lock = Held p s }) → Moves w (revealed w p s).world
revealed_keeps w p (CurrentFirm x) k at =
    let n : ℕ = length w.history in
    let more : length (with_next w.history x) ≡ length w.history + 1 = length-append w.history (recorded x ∷ []) in
    let old : AreSeen (length (with_next w.history x)) w.low w.floor w.passes = seen_more (length w.history) (length (with_next w.history x)) w.low w.floor w.passes (omega (arith, more)) at.seen in
    record {
      kept = record {
        young = λ up. sym more;
        seen = seen_at (length (with_next w.history x)) w.low w.floor w.passes p (reveals (length w.history)) (λ y s. record {
          seen = omega (arith, more);
          least = s.least;
          mine = below_append y.mine (length w.history) (length w.history + 1) (no_less y.mine y.seen (length w.history + 1) (omega (arith, more, s.seen)) s.mine) (omega arith);
          least_floor = s.least_floor;
          floor = s.floor;
        }) old;
        history = next_is_history w.history x at.history at.next;
        transactions = subst (λ z. AreTransactions z w.txns) (sym (revisions_next w.history x)) (transactions_go_on (revisions w.history) x.revision w.txns (some_revision w.history at.history) at.transactions);
        stands = at.stands;
        floor = record { some = at.floor.some; shards = at.floor.shards; whole = at.floor.whole; most = omega (arith, more, at.floor.most); next = λ u. not_so u };
        floors = at.floors;
        left = λ m i. left_next w.low w.size w.floor m w.history x at.floor.most (at.stands m i).0 (at.left m i);
        low = at.low;
        counts = at.counts;
        once = at.once;
        labels = at.labels;
        named = named_more (length w.history) (length (with_next w.history x)) w.given w.named (omega (arith, more)) at.named;
        apart = at.apart;
        benches = at.benches;
        knows = tt;
        next = tt;
        whose = whose_next w.opening w.history w.since w.passes p x at.holder.1 at.holder.0 at.next at.whose;
        holder = (there_at w.passes p p (reveals (length w.history)) at.holder.0, tt);
      };
      grows = inr (x, at.next, refl);
      names = inl refl;
    }
revealed_keeps w p s k at = stays w k

look_keeps : (w : World) (p : ℕ) (b : Bool) → (is_there w p && is_up w.lock) ≡ b → Kept w → Moves w (cond b (looked w p) (barred w)).world
look_keeps w p false is k = stays w k
look_keeps w p true is k = let last : w.young + 1 ≡ length w.history = k.young (and_parts (is_there w p) (is_up w.lock) is).1 in
    with_pass w p (λ x. record x { least = w.young }) (λ x s. record { seen = s.seen; least = omega (arith, last); mine = s.mine; least_floor = s.least_floor; floor = s.floor }) (λ x. refl) k

seen_append : (n l f : ℕ) (xs : List Pass) (x : Pass) → AreSeen n l f xs → IsSeen n l f x → AreSeen n l f (xs ++ x ∷ [])
seen_append n l f [] x s a = (a, tt)
seen_append n l f (y ∷ ys) x s a = (s.0, seen_append n l f ys x s.1 a)

-- a turn of the disk that changes nothing
turn_keeps : (w : World) (p : ℕ) (place : DiskPlace) (went : Went) → Kept w → Moves w (turned w p place went)
turn_keeps w p place went k = with_pass w p (learns (length w.history) place went) (λ x s. record { seen = omega arith; least = s.least; mine = no_less x.mine x.seen (length w.history) s.seen s.mine; least_floor = s.least_floor; floor = s.floor }) (λ x. refl) k

read_keeps : (w : World) (p r offset size : ℕ) (went : Went) (o : Option Pass) → Kept w → Moves w (has_read w p r offset size went o).world
read_keeps w p r offset size went None k = stays w k
read_keeps w p r offset size went (Some x) k = elim (is_known x r) as (λ b. Moves w (cond b (did (turned w p Read went) (either went (range_of offset size (shown w.size x.floor w.disk r)) outcome.Failed)) (barred w)).world) [
  | true ↦ turn_keeps w p Read went k
  | false ↦ stays w k
]

props_keep : (w : World) (p r : ℕ) (went : Went) (o : Option Pass) → Kept w → Moves w (has_read_props w p r went o).world
props_keep w p r went None k = stays w k
props_keep w p r went (Some x) k = elim (is_known x r) as (λ b. Moves w (cond b (did (turned w p Read went) (either went (properties_in (found w.disk (Props r))) outcome.Failed)) (barred w)).world) [
  | true ↦ turn_keeps w p Read went k
  | false ↦ stays w k
]

floor_raised : (size f x : ℕ) (b : Bool) (d : Disk) → FloorBy b size f d → x ≤ most_floor b size f → raised (number_of (found d Floor)) x ≤ most_floor b size f
floor_raised size f x true d k le = ⊎_elim (λ e. subst (λ o. raised (number_of o) x ≤ f + size) (sym e) (let most : max x f ≤ f + size = omega (arith, le) in most)) (λ e. subst (λ o. raised (number_of o) x ≤ f + size) (sym e) (let most : max x (f + size) ≤ f + size = omega (arith, le) in most)) k
floor_raised size f x false d e le = subst (λ o. raised (number_of o) x ≤ f) (sym e) (let most : max x f ≤ f = omega (arith, le) in most)

floor_read_keeps : (w : World) (p : ℕ) (went : Went) (o : Option Pass) → Kept w → Moves w (floor_read w p went o).world
floor_read_keeps w p went None k = stays w k
floor_read_keeps w p went (Some x) k =
    with_pass w p (sees_floor (length w.history) went (number_of (found w.disk Floor)))
    (λ y s. record { seen = omega arith; least = s.least; mine = no_less y.mine y.seen (length w.history) s.seen s.mine; least_floor = low_end went y s.least_floor; floor = by_end went y s.floor }) (λ y. refl) k
  where
    by_end : (went : Went) (y : Pass) → y.floor ≤ most_floor (may_rise w.lock) w.size w.floor → (sees_floor (length w.history) went (number_of (found w.disk Floor)) y).floor ≤ most_floor (may_rise w.lock) w.size w.floor
    by_end Fine y le = floor_raised w.size w.floor y.floor (may_rise w.lock) w.disk (k.floors w.disk (read_is_image w.disk)) le
    by_end Before y le = le
    by_end After y le = le
    by_end (Torn any) y le = le

    low_raised : (o : Option ℕ) (y : ℕ) → w.low ≤ y → w.low ≤ raised o y
    low_raised None y le = le
    low_raised (Some n) y le = let most : w.low ≤ max y n = omega (arith, le) in most

    low_end : (went : Went) (y : Pass) → w.low ≤ y.floor → w.low ≤ (sees_floor (length w.history) went (number_of (found w.disk Floor)) y).floor
    low_end Fine y le = low_raised (number_of (found w.disk Floor)) y.floor le
    low_end Before y le = le
    low_end After y le = le
    low_end (Torn any) y le = le

split_keeps : (w : World) (p : ℕ) (o : Option Pass) → slice_get w.passes p ≡ o → Kept w → Moves w (split_off w o).world
split_keeps w p None e k = stays w k
split_keeps w p (Some x) e k = let s : IsSeen (length w.history) w.low (most_floor (may_rise w.lock) w.size w.floor) x = seen_of (length w.history) w.low (most_floor (may_rise w.lock) w.size w.floor) w.passes p x k.seen e in
    let longer : length (w.passes ++ record x { mine = []; faults = [] } ∷ []) ≡ length w.passes + 1 = length-append w.passes (record x { mine = []; faults = [] } ∷ []) in
    with_passes w (w.passes ++ record x { mine = []; faults = [] } ∷ []) (seen_append (length w.history) w.low (most_floor (may_rise w.lock) w.size w.floor) w.passes (record x { mine = []; faults = [] }) k.seen (record { seen = s.seen; least = s.least; mine = tt; least_floor = s.least_floor; floor = s.floor }))
    (whose_split w.opening w.history w.since w.passes (record x { mine = []; faults = [] }) refl k.whose)
    (holder_stays (length w.passes) (length (w.passes ++ record x { mine = []; faults = [] } ∷ [])) w.lock (omega (arith, longer)) k.holder) k

join_keeps : (w : World) (p q : ℕ) (o : Option Pass) → slice_get w.passes q ≡ o → Kept w → Moves w (join_with w p o).world
join_keeps w p q None e k = stays w k
join_keeps w p q (Some y) e k = let s : IsSeen (length w.history) w.low (most_floor (may_rise w.lock) w.size w.floor) y = seen_of (length w.history) w.low (most_floor (may_rise w.lock) w.size w.floor) w.passes q y k.seen e in
    with_pass w p (joined y) (λ x t. record {
      seen = omega (arith, t.seen, s.seen);
      least = omega (arith, t.least, s.least);
      mine = no_less x.mine x.seen (max x.seen y.seen) (omega arith) t.mine;
      least_floor = omega (arith, t.least_floor, s.least_floor);
      floor = omega (arith, t.floor, s.floor);
    }) (λ x. refl) k

-- labels
with_labels : (w : World) (labels : List ℕ) → AllGiven w.given labels → (is_up w.lock ≡ true → HaveLabels labels w.txns) → Kept w → Moves w (record w { labels = labels })
with_labels w labels given benches k = moved w (record w { labels = labels }) (keeps_txns w labels w.named w.txns w.spent k given k.named k.transactions k.apart benches) refl refl

label_keeps : (w : World) (name : ℕ) (went : Went) (b : Bool) → is_up w.lock ≡ b → Kept w → Moves w (cond b (barred w) (label_dropped w name went)).world
label_keeps w name went true is k = stays w k
label_keeps w name went false is k = with_labels w (unlabelled went name w.labels) (given_unlabelled w.given w.labels went name k.labels) (λ up. absurd (both_ways (is_up w.lock) is up)) k

-- the same with other transactions, and a pass's turn after it
with_parts : (w : World) (labels : List ℕ) (named : List Drawn) (txns : List Txn) (spent : List ℕ) (p : ℕ) (at : DiskPlace) (went : Went) → AllGiven w.given labels → AreNamed (length w.history) w.given named
    → AreTransactions (revisions w.history) txns → AreApart w.given named txns spent → (is_up w.lock ≡ true → HaveLabels labels txns) → Kept w → Moves w (turned (record w { labels = labels; named = named; txns = txns; spent = spent }) p at went)
with_parts w labels named txns spent p at went given are t apart benches k =
    let v : World = record w { labels = labels; named = named; txns = txns; spent = spent } in
    let turned_keeps = turn_keeps v p at went (keeps_txns w labels named txns spent k given are t apart benches) in
    record { kept = turned_keeps.kept; grows = inl refl; names = inl refl }

made_txns : (w : World) (went : Went) (x : Drawn) → x.base < length w.history → AreTransactions (revisions w.history) w.txns → AreTransactions (revisions w.history) (either went (w.txns ++ begun_txn w.history x ∷ []) w.txns)
made_txns w Fine x less t = transactions_append (revisions w.history) w.txns (begun_txn w.history x ∷ []) t (begun_is w.history x less, tt)
made_txns w Before x less t = t
made_txns w After x less t = t
made_txns w (Torn any) x less t = t

made_keeps : (w : World) (p n : ℕ) (went : Went) (o : Option Drawn) → slice_get w.named n ≡ o → Kept w → Moves w (made w p n went o).world
made_keeps w p n went None is k = stays w k
made_keeps w p n went (Some x) is k =
    let at : (x.base < length w.history) × IsIn x.name w.given = named_at (length w.history) w.given w.named n x is k.named in
    with_parts w (labelled went x.name w.labels) (without_place w.named n) (either went (w.txns ++ begun_txn w.history x ∷ []) w.txns) (either went w.spent (w.spent ++ x.name ∷ [])) p place.MakeBench went
    (given_labelled w.given w.labels went x.name at.1 k.labels) (named_without (length w.history) w.given w.named n k.named) (made_txns w went x at.0 k.transactions)
    (apart_made w.history w.given w.named w.txns w.spent n x went is k.apart) (λ up. have_made w.history w.labels w.txns x went (k.benches up)) k

purged_keeps : (w : World) (p t : ℕ) (went : Went) (o : Option Txn) → slice_get w.txns t ≡ o → Kept w → Moves w (purged w p t went o).world
purged_keeps w p t went None is k = stays w k
purged_keeps w p t went (Some x) is k = with_parts w (unlabelled went x.name w.labels) w.named (without_place w.txns t) w.spent p place.Remove went
    (given_unlabelled w.given w.labels went x.name k.labels) k.named (transactions_without (revisions w.history) w.txns t k.transactions)
    (apart_purged w.given w.named w.txns w.spent t x is k.apart) (λ up. have_purged w.given w.named w.txns w.spent w.labels t x went is k.apart (k.benches up)) k

purged_spent_keeps : (w : World) (p n : ℕ) (went : Went) (o : Option ℕ) → slice_get w.spent n ≡ o → Kept w → Moves w (purged_spent w p n went o).world
purged_spent_keeps w p n went None is k = stays w k
purged_spent_keeps w p n went (Some name) is k = with_parts w (unlabelled went name w.labels) w.named w.txns (without_place w.spent n) p place.Remove went
    (given_unlabelled w.given w.labels went name k.labels) k.named k.transactions
    (apart_dropped w.given w.named w.txns w.spent n name is k.apart) (λ up. have_dropped w.given w.named w.txns w.spent w.labels n name went is k.apart (k.benches up)) k

-- a packed revision's own file
old_keeps : (w : World) (p r : ℕ) (went : Went) (s : Section) → Kept w → Kept (record w { lock = Held p s }) → Moves w (old_removed w p r went s).world
old_keeps w p r went Packed k at = elim (nat_lt r w.floor) as (λ b. nat_lt r w.floor ≡ b → Moves w (cond b (did (at_call w p place.Remove (Remove (Rev r)) Packed Packed went) (answer went)) (barred w)).world) [
  | true ↦ λ e. let less : r < w.floor = grind (arith, e) in moved w (at_call w p place.Remove (Remove (Rev r)) Packed Packed went) (removed_keeps w p r went less at) refl refl
  | false ↦ λ e. stays w k
] refl
old_keeps w p r went s k at = stays w k

pub step_moves : (w : World) (s : Step) (d : Did) → Happens w s d → Kept w → Moves w d.world
step_moves w (step.TakeLock p) d is k = along w d _ is (lock_keeps w p (is_there w p) refl k)
step_moves w (step.GiveLock p) d is k = along w d _ is (keeps_inside w p (let_go w) w.lock refl k (λ s at. let_go_keeps w p s k at))
step_moves w (step.StickLock p) d is k = along w d _ is (keeps_inside w p (stuck_at w) w.lock refl k (λ s at. stuck_keeps w p s k at))
step_moves w (step.Draw p b went) d is k = along w d _ is (keeps_inside w p (drawn w p b went) w.lock refl k (λ s at. drawn_keeps w p b went s k at))
step_moves w (step.AdoptRev p t properties bytes went) d is k = adopts_keep w p t properties bytes went (has_begun_by p w.lock) d refl k is
step_moves w (step.Call p place went) d is k = along w d _ is (keeps_inside w p (called w p place went) w.lock refl k (λ s at. called_keeps w p place went s k at))
step_moves w (step.RemoveOld p r went) d is k = along w d _ is (keeps_inside w p (old_removed w p r went) w.lock refl k (λ s at. old_keeps w p r went s k at))
step_moves w (step.Beside p at went) d is k = along w d _ is (if_moves w (is_there w p) (did (turned w p at went) (answer went)) k (turn_keeps w p at went k))
step_moves w (step.Reveal p) d is k = along w d _ is (keeps_inside w p (revealed w p) w.lock refl k (λ s at. revealed_keeps w p s k at))
step_moves w (step.Look p) d is k = along w d _ is (look_keeps w p (is_there w p && is_up w.lock) refl k)
step_moves w (step.Read p r offset size went) d is k = along w d _ is (read_keeps w p r offset size went (slice_get w.passes p) k)
step_moves w (step.ReadProps p r went) d is k = along w d _ is (props_keep w p r went (slice_get w.passes p) k)
step_moves w (step.ReadFloor p went) d is k = along w d _ is (floor_read_keeps w p went (slice_get w.passes p) k)
step_moves w (step.Split p) d is k = along w d _ is (split_keeps w p (slice_get w.passes p) refl k)
step_moves w (step.Join p q) d is k = along w d _ is (if_moves w (is_there w p && not (p == q)) (join_with w p (slice_get w.passes q)) k (join_keeps w p q (slice_get w.passes q) refl k))
step_moves w (step.Edit t edit) d is k = edits_keep w t edit (slice_get w.txns t) d refl k is
step_moves w (step.Merge t head) d is k = merges_keep w t head (slice_get w.txns t) d refl k is
step_moves w step.Close d is k = along w d _ is (if_moves w (is_up w.lock) (did (ends w) outcome.Done) k (ends_keeps w w.disk w.labels k k.stands k.counts k.floors k.left k.labels))
step_moves w (step.MakeBench p n went) d is k = along w d _ is (if_moves w (is_there w p && is_outside p w.lock) (made w p n went (slice_get w.named n)) k (made_keeps w p n went (slice_get w.named n) refl k))
step_moves w (step.ListTxns p went) d is k = along w d _ is (if_moves w (is_there w p) (did (turned w p place.List went) (listed w went)) k (turn_keeps w p place.List went k))
step_moves w (step.Purge p t went) d is k = along w d _ is (if_moves w (is_there w p && is_outside p w.lock) (purged w p t went (slice_get w.txns t)) k (purged_keeps w p t went (slice_get w.txns t) refl k))
step_moves w (step.PurgeSpent p n went) d is k = along w d _ is (if_moves w (is_there w p && is_outside p w.lock) (purged_spent w p n went (slice_get w.spent n)) k (purged_spent_keeps w p n went (slice_get w.spent n) refl k))
step_moves w (step.ListLabels went) d is k = along w d _ is (unless_up w (is_up w.lock) (did w (listed w went)) k (stays w k))
step_moves w (step.DropLabel name went) d is k = along w d _ is (label_keeps w name went (is_up w.lock) refl k)
step_moves w (step.Crash picks labels) d is k = along w d _ is (crash_keeps w picks labels k)
step_moves w (step.Open went) d is k = along w d _ is (open_down_keeps w went w.lock refl k)

pub step_keeps : StepsKeep
step_keeps w s d is k = let m = step_moves w s d is k in record { kept = m.kept; grows = m.grows; names = m.names; gives = gives w s d is k }
