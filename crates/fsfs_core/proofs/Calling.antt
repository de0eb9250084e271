-- A call of a section goes on where it was due; an edit is found where its transaction stands.
use Rattle.std.proofs.Common.{◌≡◌, ◌<◌, ◌≤◌, ℕ, List, [], ◌∷◌, ◌++◌, length, Bool, true, false, cond, inl, inr, refl, sym, ap, subst, ◌∙◌, arith}
use Rattle.std.proofs.lemmas.Option.{same_Some, slice_get_past, slice_get_within, MatchOption-at_none, MatchOption-at_some}
use Rattle.std.proofs.lemmas.Bool.{and_from}
use Rattle.std.specs.Prelude.{Option, Some, None, slice_get, Result, Ok, Err, IfOk, IfSome, MatchOption, MatchResult, is_some, nat_le, nat_lt, ◌==◌, ◌&&◌, if◌then◌else◌, ◌↔◌}
use Rattle.std.specs.FinMap.{FinMap, get}
use Rattle.jiff_core.specs.declared.civil.datetime.DateTime.{DateTime}
use Rattle.std.specs.Map.{lookup}
use Rattle.std.specs.BTreeMap.{is_at}
use Rattle.std.specs.Cmp.Lexicographic.{slice_cmp}
use Rattle.std.specs.Ordering.{nat_cmp}
use Rattle.fsfs_base.specs.Fields.Dates.{IsDateText}
use Rattle.fsfs_model.specs.declared.flat.edit.Edit.{Edit}
use Rattle.fsfs_model.specs.declared.flat.mark.Mark.{Mark}
use Rattle.fsfs_base.specs.Paths.{Path, path_cmp}
use Rattle.fsfs_tree.specs.Nodes.{Node}
use Rattle.fsfs_model.specs.Flat.Edits.{applied, mark_of}
use Rattle.fsfs_model.specs.Flat.Landing.{land, NoClash, IsFirstClash}
use Rattle.fsfs_tree.specs.Revisions.{Revision, tree_of}
use Rattle.fsfs_tree.specs.Dated.{IsDated, date_name}
use Rattle.fsfs_model.specs.Flat.Transactions.{IsNext}
use Rattle.fsfs_machine.specs.declared.contents.NameChange.{NameChange}
use Rattle.fsfs_machine.specs.declared.contents.FileName.TheVariants.{Rev}
use Rattle.fsfs_machine.specs.declared.contents.NameChange.TheVariants.{Put}
use Rattle.fsfs_machine.specs.declared.machine.Coming.{Coming}
use Rattle.fsfs_base.specs.declared.places.place.DiskPlace.{DiskPlace}
use Rattle.fsfs_base.specs.declared.places.place.DiskPlace.TheVariants.{Commit}
use Rattle.fsfs_base.specs.declared.places.place.CommitPlace.TheVariants.{PutRev}
use Rattle.fsfs_machine.specs.declared.machine.Recorded.{Recorded}
use Rattle.fsfs_machine.specs.declared.machine.Txn.{Txn}
use Rattle.fsfs_machine.specs.declared.machine.Section.{Section}
use Rattle.fsfs_machine.specs.declared.machine.Section.TheVariants.{Begun, CountRead, CountPut, CountRenamed, RevPut, PropsPut, RevFirm, CurrentPut, CurrentRenamed, CurrentFirm, Doubtful, PackPut, ManifestPut, PackFirm, FloorPut, FloorRenamed, Packed, FloorDoubtful, Over}
use Rattle.fsfs_machine.specs.declared.machine.Lock.{Lock}
use Rattle.fsfs_machine.specs.declared.machine.Lock.TheVariants.{Free, Held, Stuck, Down, DownDoubtful, StuckFloor, DownFloor}
use Rattle.fsfs_machine.specs.declared.machine.Went.{Went}
use Rattle.fsfs_machine.specs.declared.machine.Went.TheVariants.{Fine, Before, After, Torn}
use Rattle.fsfs_machine.specs.declared.machine.Outcome.{Outcome}
use Rattle.fsfs_machine.specs.declared.machine.Outcome.TheVariants as outcome
use Rattle.fsfs_machine.specs.Machine.{World, did, barred, at_place, held_by, inside, is_due, due, called_by, called, edited, EditsIf, Edits, merged, MergesIf, Merges, revisions, recorded, file_of, at_call, answer, without_place, entry_of, Adds, AdoptsTxn}
use Rattle.fsfs_core.specs.Commits.{is_accepted, GivesEdit, AddsNext, IsUsed}
use Rattle.fsfs_machine.proofs.Growing.{revisions_length}

free_due : (w : World) (s : Section) → due (record w { lock = Free }) s ≡ due w s
free_due w Begun = refl
free_due w (CountRead x) = refl
free_due w (CountPut x) = refl
free_due w (CountRenamed x) = refl
free_due w (RevPut x) = refl
free_due w (PropsPut x) = refl
free_due w (RevFirm x) = refl
free_due w (CurrentPut x) = refl
free_due w (CurrentRenamed x) = refl
free_due w (CurrentFirm x) = refl
free_due w (Doubtful place x) = refl
free_due w PackPut = refl
free_due w ManifestPut = refl
free_due w PackFirm = refl
free_due w FloorPut = refl
free_due w FloorRenamed = refl
free_due w Packed = refl
free_due w (FloorDoubtful place) = refl
free_due w Over = refl

free_call : (w : World) (p : ℕ) (place : DiskPlace) (went : Went) (s : Section) (change : NameChange) → called_by (record w { lock = Free }) p place went s (Some change) ≡ called_by w p place went s (Some change)
free_call w p place Fine (CountRenamed x) change = refl
free_call w p place Before (CountRenamed x) change = refl
free_call w p place After (CountRenamed x) change = refl
free_call w p place (Torn any) (CountRenamed x) change = refl
free_call w p place Fine FloorRenamed change = refl
free_call w p place Before FloorRenamed change = refl
free_call w p place After FloorRenamed change = refl
free_call w p place (Torn any) FloorRenamed change = refl
free_call w p place went s change = refl

-- the change of the call, where its place is the one that is due
abbrev pub due_at : World → Section → DiskPlace → Option NameChange
due_at w s place = if is_due s place then due w s else None

at_place_due : (w : World) (p : ℕ) (place : DiskPlace) (went : Went) (s : Section) (b : Bool) (o : Option NameChange) → called_by w p place went s (if b then o else None) ≡ (if b then called_by w p place went s o else barred w)
at_place_due w p place went s true o = refl
at_place_due w p place went s false o = refl

free_at : (w : World) (s : Section) (place : DiskPlace) → due_at (record w { lock = Free }) s place ≡ due_at w s place
free_at w s place = ap (λ o. cond (is_due s place) o None) (free_due w s)

-- what the call does is what is done with that change
called_at : (w u : World) (p : ℕ) (place : DiskPlace) (went : Went) (s : Section) (o : Option NameChange) → held_by p w.lock ≡ Some s → u ≡ record w { lock = Free }
    → o ≡ due_at u s place → called_by w p place went s o ≡ inside w (called w p place went) (held_by p w.lock)
called_at w u p place went s o held is found =
    ap (λ z. called_by w p place went s z) (found ∙ ap (λ z. due_at z s place) is ∙ free_at w s place)
    ∙ at_place_due w p place went s (is_due s place) (due w s)
    ∙ sym (ap (λ z. inside w (called w p place went) z) held)

pub call_goes_on : {E : Type 0} (r : Result Outcome E) (w u v : World) (p : ℕ) (place : DiskPlace) (went : Went) (s : Section) (o : Option NameChange) (change : NameChange) → held_by p w.lock ≡ Some s → u ≡ record w { lock = Free }
    → o ≡ Some change → o ≡ due_at u s place
    → IfOk r (λ a. did v a ≡ called_by u p place went s (Some change)) → IfOk r (λ a. did v a ≡ inside w (called w p place went) (held_by p w.lock))
call_goes_on (Ok a) w u v p place went s o change held is some found e =
    e ∙ ap (λ z. called_by z p place went s (Some change)) is ∙ free_call w p place went s change ∙ called_at w u p place went s (Some change) held is (sym some ∙ found)
call_goes_on (Err x) w u v p place went s o change held is some found e = tt

-- the lock of the pass that holds it
held_lock : (p : ℕ) (lock : Lock) (s : Section) → held_by p lock ≡ Some s → lock ≡ Held p s
held_lock p Free s e = let bad : ◌≡◌ {A = Option Section} None (Some s) = e in cc
held_lock p (Held q x) s e =
    elim (q == p) as (λ b. (q == p) ≡ b → cond b (Some x) None ≡ Some s → Held q x ≡ Held p s) [
      | true ↦ λ same is. let n : q ≡ p = grind (arith, same) in let y : x ≡ s = same_Some x s is in λ i. Held (n i) (y i)
      | false ↦ λ same is. let bad : ◌≡◌ {A = Option Section} None (Some s) = is in cc
    ] refl e
held_lock p (Stuck place x) s e = let bad : ◌≡◌ {A = Option Section} None (Some s) = e in cc
held_lock p Down s e = let bad : ◌≡◌ {A = Option Section} None (Some s) = e in cc
held_lock p (DownDoubtful x) s e = let bad : ◌≡◌ {A = Option Section} None (Some s) = e in cc
held_lock p (StuckFloor place) s e = let bad : ◌≡◌ {A = Option Section} None (Some s) = e in cc
held_lock p DownFloor s e = let bad : ◌≡◌ {A = Option Section} None (Some s) = e in cc

-- with the section put back, the state is the one from before
put_back : (w u : World) (p : ℕ) (s : Section) → held_by p w.lock ≡ Some s → u ≡ record w { lock = Free } → record u { lock = Held p s } ≡ w
put_back w u p s held is = ap (λ (z : World). record z { lock = Held p s }) is ∙ ap (λ l. record w { lock = l }) (sym (held_lock p w.lock s held))

-- where another call is due, or none, the call is barred
pub call_is_barred : (w u : World) (p : ℕ) (place : DiskPlace) (went : Went) (s : Section) (o : Option NameChange) → held_by p w.lock ≡ Some s → u ≡ record w { lock = Free }
    → o ≡ None → o ≡ due_at u s place → did (record u { lock = Held p s }) outcome.Barred ≡ inside w (called w p place went) (held_by p w.lock)
call_is_barred w u p place went s o held is none found =
    ap (λ (v : World). did v outcome.Barred) (put_back w u p s held is) ∙ called_at w u p place went s None held is (sym none ∙ found)

pub edit_refused : (w : World) (t : ℕ) (edit : Edit) (x : Txn) (h : List Revision) (o : Option (FinMap path_cmp Node × Mark)) → slice_get w.txns t ≡ Some x → h ≡ revisions w.history
    → o ≡ None → GivesEdit edit h x.tree o → Edits w t edit (slice_get w.txns t) (did w outcome.Barred)
edit_refused w t edit x h o there here none gives =
    subst (λ o. Edits w t edit o (did w outcome.Barred)) (sym there)
    (subst (λ b. EditsIf w t edit x b (did w outcome.Barred)) (sym (MatchOption-at_none _ _ none gives) ∙ ap (λ z. is_accepted edit z x.tree) here) refl)

pub edit_found : (w v : World) (t : ℕ) (edit : Edit) (x : Txn) (h : List Revision) (o : Option (FinMap path_cmp Node × Mark)) (after : FinMap path_cmp Node × Mark) → slice_get w.txns t ≡ Some x → h ≡ revisions w.history
    → o ≡ Some after → GivesEdit edit h x.tree o → v ≡ record w { txns = at_place w.txns t (edited after.0 after.1) }
    → Edits w t edit (slice_get w.txns t) (did v outcome.Done)
edit_found w v t edit x h o after there here found gives v_is =
    let m = MatchOption-at_some _ _ after found gives in
    subst (λ o. Edits w t edit o (did v outcome.Done)) (sym there)
    (subst (λ b. EditsIf w t edit x b (did v outcome.Done)) (sym m.0 ∙ ap (λ z. is_accepted edit z x.tree) here) (
      after.0,
      (λ q. subst (λ z. get after.0 q ≡ applied edit (tree_of z) (get x.tree) q) here (m.1 q)),
      ap (λ z. did z outcome.Done) v_is ∙ ap (λ m. did (record w { txns = at_place w.txns t (edited after.0 m) }) outcome.Done) (m.2 ∙ ap (λ z. mark_of edit (tree_of z) (get x.tree)) here),
    ))

in_range : (w : World) (a head : ℕ) → a ≤ head → head < length (revisions w.history) → (nat_le a head && nat_lt head (length w.history)) ≡ true
in_range w a head le less = let e : length (revisions w.history) ≡ length w.history = revisions_length w.history in
    let f : nat_le a head ≡ true = grind (arith, le) in
    let more : head < length w.history = omega (arith, e, less) in
    let g : nat_lt head (length w.history) ≡ true = grind (arith, more) in
    and_from _ _ f g

-- what landing a transaction on a head gives
abbrev pub Lands : Txn → FinMap path_cmp Node → FinMap path_cmp Node → ℕ → Result (FinMap path_cmp Node) Path → Type 0
Lands x base tip n landed = MatchResult landed
    (λ tree. NoClash x.base (get base) (get tip) (get x.tree) x.marks × ((q : Path) → get tree q ≡ land (get base) (get tip) (get x.tree) x.marks n q))
    (λ path. IsFirstClash x.base (get base) (get tip) (get x.tree) x.marks path)

pub merge_landed : (w v : World) (t head : ℕ) (x : Txn) (h : List Revision) (base tip tree : FinMap path_cmp Node) (landed : Result (FinMap path_cmp Node) Path) → slice_get w.txns t ≡ Some x → h ≡ revisions w.history
    → x.base ≤ head → head < length h → get base ≡ tree_of h x.base → get tip ≡ tree_of h head
    → landed ≡ Ok tree → Lands x base tip head landed
    → v ≡ record w { txns = at_place w.txns t (merged tree head) }
    → Merges w t head (slice_get w.txns t) (did v outcome.Done)
merge_landed w v t head x h base tip tree landed there here le less base_is tip_is e lands v_is =
    let b : get base ≡ tree_of (revisions w.history) x.base = base_is ∙ ap (λ z. tree_of z x.base) here in
    let s : get tip ≡ tree_of (revisions w.history) head = tip_is ∙ ap (λ z. tree_of z head) here in
    let k : Lands x base tip head (Ok tree) = subst (λ r. Lands x base tip head r) e lands in
    subst (λ o. Merges w t head o (did v outcome.Done)) (sym there)
    (subst (λ c. MergesIf w t head x c (did v outcome.Done)) (sym (in_range w x.base head le (subst (λ z. head < length z) here less)))
    (inl (
      subst (λ f. NoClash x.base (tree_of (revisions w.history) x.base) f (get x.tree) x.marks) s
          (subst (λ f. NoClash x.base f (get tip) (get x.tree) x.marks) b k.0),
      tree,
      (λ q. subst (λ f. get tree q ≡ land (tree_of (revisions w.history) x.base) f (get x.tree) x.marks head q) s
          (subst (λ f. get tree q ≡ land f (get tip) (get x.tree) x.marks head q) b (k.1 q))),
      ap (λ z. did z outcome.Done) v_is,
    )))

pub merge_clash : (w : World) (t head : ℕ) (x : Txn) (h : List Revision) (base tip : FinMap path_cmp Node) (path : Path) (landed : Result (FinMap path_cmp Node) Path) → slice_get w.txns t ≡ Some x → h ≡ revisions w.history
    → x.base ≤ head → head < length h → get base ≡ tree_of h x.base → get tip ≡ tree_of h head
    → landed ≡ Err path → Lands x base tip head landed
    → Merges w t head (slice_get w.txns t) (did w (outcome.Conflict path))
merge_clash w t head x h base tip path landed there here le less base_is tip_is e lands =
    let b : get base ≡ tree_of (revisions w.history) x.base = base_is ∙ ap (λ z. tree_of z x.base) here in
    let s : get tip ≡ tree_of (revisions w.history) head = tip_is ∙ ap (λ z. tree_of z head) here in
    let k : Lands x base tip head (Err path) = subst (λ r. Lands x base tip head r) e lands in
    subst (λ o. Merges w t head o (did w (outcome.Conflict path))) (sym there)
    (subst (λ c. MergesIf w t head x c (did w (outcome.Conflict path))) (sym (in_range w x.base head le (subst (λ z. head < length z) here less)))
    (inr (
      path,
      subst (λ f. IsFirstClash x.base (tree_of (revisions w.history) x.base) f (get x.tree) x.marks path) s
          (subst (λ f. IsFirstClash x.base f (get tip) (get x.tree) x.marks path) b k),
      refl,
    )))

-- a date among the properties, as it is read
pub dated_by : (properties : List (List ℕ × List ℕ)) (text : List ℕ) (o : Option DateTime) (b : Bool) → Some text ≡ lookup (is_at (slice_cmp nat_cmp date_name)) properties
    → IfSome o (IsDateText text) → ((date : DateTime) → IsDateText text date → o ≡ Some date) → b ≡ is_some o → (b ≡ true) ↔ IsDated properties
dated_by properties text (Some date) b at found only is = ((λ t value e. let same : text ≡ value = (let f : Some text ≡ Some value = at ∙ e in cc) in (date, subst (λ v. IsDateText v date) same found)), (λ d. is))
dated_by properties text None b at found only is = ((λ t. let f : true ≡ false = sym t ∙ is in absurd cc), (λ d. let k = d text (sym at) in let f : None ≡ Some k.0 = only k.0 k.1 in absurd cc))

-- the revision that a commit would add, or none
abbrev pub Finds : List Revision → ℕ → Txn → List (List ℕ × List ℕ) → Option Revision → Type 0
Finds h p x properties o = MatchOption o ((next : Revision) → IsDated properties → IsNext h (entry_of p x properties) next → ⊥) (λ next. IsDated properties × IsNext h (entry_of p x properties) next)

pub next_at : {E : Type 0} (r : Result (Option Revision) E) (h : List Recorded) (read : List Revision) (p t : ℕ) (txns : List Txn) (x : Txn) (properties : List (List ℕ × List ℕ)) → slice_get txns t ≡ Some x → read ≡ revisions h
    → IfOk r (λ o. Finds read p x properties o) → IfOk r (λ o. AddsNext h p (slice_get txns t) properties o)
next_at (Err _) h read p t txns x properties there here found = tt
next_at (Ok None) h read p t txns x properties there here found =
    subst (λ z. AddsNext h p z properties None) (sym there) (λ next adds. found next adds.0 (subst (λ z. IsNext z (entry_of p x properties) next) (sym here) adds.1))
next_at (Ok (Some next)) h read p t txns x properties there here found =
    subst (λ z. AddsNext h p z properties (Some next)) (sym there) (found.0, subst (λ z. IsNext z (entry_of p x properties) next) here found.1)

next_within_at : (h : List Recorded) (p t : ℕ) (txns : List Txn) (z : Option Txn) (properties : List (List ℕ × List ℕ)) (o : Option Revision) (next : Revision) → slice_get txns t ≡ z → o ≡ Some next → AddsNext h p z properties o → t < length txns
next_within_at h p t txns None properties o next there is adds = let f : None ≡ Some next = sym adds ∙ is in absurd cc
next_within_at h p t txns (Some x) properties o next there is adds = slice_get_within txns t x there

pub next_within : (h : List Recorded) (p t : ℕ) (txns : List Txn) (properties : List (List ℕ × List ℕ)) (o : Option Revision) (next : Revision) → o ≡ Some next → AddsNext h p (slice_get txns t) properties o → t < length txns
next_within h p t txns properties o next = next_within_at h p t txns (slice_get txns t) properties o next refl

pub adopts_none : (w : World) (p t : ℕ) (properties : List (List ℕ × List ℕ)) (bytes : List ℕ) (went : Went) (z : Option Txn) (o : Option Revision)
    → o ≡ None → AddsNext w.history p z properties o → AdoptsTxn w p t properties bytes went z (did w outcome.Barred)
adopts_none w p t properties bytes went None o none adds = refl
adopts_none w p t properties bytes went (Some x) o none adds = inr (MatchOption-at_none _ _ none adds, refl)

pub adopts_some : {E : Type 0} (r : Result Outcome E) (w u v : World) (p t : ℕ) (properties : List (List ℕ × List ℕ)) (bytes : List ℕ) (went : Went) (z : Option Txn) (o : Option Revision) (next : Revision) (coming : Coming)
    → o ≡ Some next → AddsNext w.history p z properties o → IsUsed w p t properties next bytes z coming u
    → IfOk r (λ a. did v a ≡ did (at_call u p (Commit PutRev) (Put (Rev (length u.history)) (file_of (recorded coming))) (RevPut coming) Over went) (answer went))
    → IfOk r (λ a. AdoptsTxn w p t properties bytes went z (did v a))
adopts_some (Err _) w u v p t properties bytes went z o next coming found adds used e = tt
adopts_some (Ok a) w u v p t properties bytes went None o next coming found adds used e = absurd used
adopts_some (Ok a) w u v p t properties bytes went (Some x) o next coming found adds used e =
    inl (
      coming,
      record {
        entry = ap (λ (c : Coming). c.entry) used.0;
        brought = ap (λ (c : Coming). c.bytes) used.0;
        adds = subst (λ n. Adds w.history (entry_of p x properties) n) (sym (ap (λ (c : Coming). c.revision) used.0)) (MatchOption-at_some _ _ next found adds);
      },
      e ∙ ap (λ s. did (at_call s p (Commit PutRev) (Put (Rev (length s.history)) (file_of (recorded coming))) (RevPut coming) Over went) (answer went)) used.1,
    )
