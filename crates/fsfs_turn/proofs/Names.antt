-- What a step leaves of the number in `txn-current`.
use Rattle.std.proofs.Common.{◌≡◌, ◌<◌, ◌+◌, ◌/◌, ℕ, ◌∷◌, length, Bool, true, false, cond, sym, ap, subst, ◌∙◌, refl, arith}
use Rattle.std.specs.Prelude.{Option, Some, None, nat_le}
use Rattle.fsfs_machine.specs.declared.contents.Contents.{Contents}
use Rattle.fsfs_machine.specs.declared.contents.Contents.TheVariants.{Number, PropsFile}
use Rattle.fsfs_machine.specs.declared.contents.FileName.{FileName}
use Rattle.fsfs_machine.specs.declared.contents.FileName.TheVariants.{Counter, CounterNext, Current, CurrentNext, Floor, FloorNext, Props, Pack, Manifest}
use Rattle.fsfs_machine.specs.declared.contents.NameChange.{NameChange}
use Rattle.fsfs_machine.specs.declared.contents.NameChange.TheVariants.{Put, Rename, Remove, Firm}
use Rattle.fsfs_machine.specs.Disk.{Disk, found, same_name}
use Rattle.fsfs_machine.specs.declared.machine.Drawn.{Drawn}
use Rattle.fsfs_machine.specs.declared.machine.Section.{Section}
use Rattle.fsfs_machine.specs.declared.machine.Section.TheVariants.{Begun, CountRead, CountPut, CountRenamed, RevPut, PropsPut, RevFirm, CurrentPut, CurrentRenamed, CurrentFirm, Doubtful, PackPut, ManifestPut, PackFirm, FloorPut, FloorRenamed, Packed, FloorDoubtful, Over}
use Rattle.fsfs_machine.specs.declared.machine.Went.{Went}
use Rattle.fsfs_machine.specs.declared.machine.Went.TheVariants.{Fine, Before, After, Torn}
use Rattle.fsfs_machine.specs.Machine.{World, either, disk_after, after, spoiled, due, rename_of, last_name, next_parts, pack_of, manifest_of}
use Rattle.fsfs_turn.specs.Views.{IsFull, KnowsNames, drawing_at}

-- it stands as it did, and the section has read none
pub names_stay : (full : Bool) (s t : Option Section) (d e : Disk) → drawing_at t ≡ None → found e Counter ≡ found d Counter → KnowsNames full s d → KnowsNames full t e
names_stay full s t d e none same k = record { full = λ is. let f = k.full is in (f.0, same ∙ f.1, f.2); drawing = λ x is. let no : Some x ≡ None = sym is ∙ none in absurd cc }

-- no more is met than that it is the last
pub names_full : (s : Option Section) (d : Disk) (full : Bool) → IsFull d → KnowsNames full s d → KnowsNames true s d
names_full s d full last k = record { full = λ is. last; drawing = k.drawing }

-- ---- a call of a section

-- a change of other files
abbrev pub IsApart : NameChange → Type 0
IsApart (Put n c) = same_name n Counter ≡ false
IsApart (Rename from to c) = (same_name to Counter ≡ false) × (same_name from Counter ≡ false)
IsApart (Remove n) = same_name n Counter ≡ false
IsApart Firm = Unit {0}

found_put : (n : FileName) (c : Contents) (d : Disk) → same_name n Counter ≡ false → found (Put n c ∷ d) Counter ≡ found d Counter
found_put n c d e = ap (λ b. cond b (Some c) (found d Counter)) e

found_rename : (from to : FileName) (c : Contents) (d : Disk) → same_name to Counter ≡ false → same_name from Counter ≡ false → found (Rename from to c ∷ d) Counter ≡ found d Counter
found_rename from to c d e f = ap (λ b. cond b (Some c) (cond (same_name from Counter) None (found d Counter))) e ∙ ap (λ b. cond b None (found d Counter)) f

pub found_apart : (change : NameChange) (went : Went) (d : Disk) → IsApart change → found (disk_after went change d) Counter ≡ found d Counter
found_apart (Put n c) Fine d e = found_put n c d e
found_apart (Put n c) Before d e = refl
found_apart (Put n c) After d e = found_put n c d e
found_apart (Put n c) (Torn any) d e = found_put n any d e
found_apart (Rename from to c) Fine d e = found_rename from to c d e.0 e.1
found_apart (Rename from to c) Before d e = refl
found_apart (Rename from to c) After d e = found_rename from to c d e.0 e.1
found_apart (Rename from to c) (Torn any) d e = refl
found_apart (Remove n) Fine d e = ap (λ b. cond b None (found d Counter)) e
found_apart (Remove n) Before d e = refl
found_apart (Remove n) After d e = ap (λ b. cond b None (found d Counter)) e
found_apart (Remove n) (Torn any) d e = refl
found_apart Firm Fine d e = refl
found_apart Firm Before d e = refl
found_apart Firm After d e = refl
found_apart Firm (Torn any) d e = refl

-- a section that reads no number
pub none_drawn : (went : Went) (fine ill : Section) → drawing_at (Some fine) ≡ None → drawing_at (Some ill) ≡ None → drawing_at (Some (either went fine ill)) ≡ None
none_drawn Fine fine ill a b = a
none_drawn Before fine ill a b = b
none_drawn After fine ill a b = b
none_drawn (Torn any) fine ill a b = b

-- a number is the last, or a name comes behind it
not_both : {P : Type 0} (d : Disk) (x : Drawn) → IsFull d → (found d Counter ≡ Some (Number x.name)) × (x.name < last_name) → P
not_both d x full k =
    let same : Some (Number full.0) ≡ Some (Number x.name) = sym full.1 ∙ k.0 in
    let one : full.0 ≡ x.name = cc in
    absurd (omega (arith, one, full.2, k.1))

module _ (full : Bool) (d : Disk) where
  -- behind a change of other files
  beside : (s t : Section) (change : NameChange) (went : Went) → drawing_at (Some t) ≡ None → IsApart change → KnowsNames full (Some s) d → KnowsNames full (Some t) (disk_after went change d)
  beside s t change went none apart k = names_stay full (Some s) (Some t) d (disk_after went change d) none (found_apart change went d apart) k

  -- the next number was put beside
  read_on : (x : Drawn) (went : Went) → KnowsNames full (Some (CountRead x)) d → KnowsNames full (Some (either went (CountPut x) Over)) (disk_after went (Put CounterNext (Number x.next)) d)
  read_on x Fine k = record { full = k.full; drawing = k.drawing }
  read_on x Before k = beside (CountRead x) Over (Put CounterNext (Number x.next)) Before refl refl k
  read_on x After k = beside (CountRead x) Over (Put CounterNext (Number x.next)) After refl refl k
  read_on x (Torn any) k = beside (CountRead x) Over (Put CounterNext (Number x.next)) (Torn any) refl refl k

  -- it took the place, where it was not the last
  put_on : (x : Drawn) (went : Went) (e : Disk) → KnowsNames full (Some (CountPut x)) d → KnowsNames full (Some (either went (CountRenamed x) Over)) e
  put_on x went e k = record { full = λ is. not_both d x (k.full is) (k.drawing x refl); drawing = λ y is. let no : Some y ≡ None = sym is ∙ none_drawn went (CountRenamed x) Over refl refl in absurd cc }

  renamed_on : (s t : Section) (from to : FileName) (change : NameChange) (went : Went) (o : Option Contents) → drawing_at (Some t) ≡ None → same_name to Counter ≡ false → same_name from Counter ≡ false → rename_of from to o ≡ Some change
      → KnowsNames full (Some s) d → KnowsNames full (Some t) (disk_after went change d)
  renamed_on s t from to change went None none a b is k = absurd cc
  renamed_on s t from to change went (Some c) none a b is k =
      let same : Rename from to c ≡ change = cc in
      subst (λ z. KnowsNames full (Some t) (disk_after went z d)) same (beside s t (Rename from to c) went none (a, b) k)

  -- a pack's first call, where its shard is full
  pack_on : (s : Section) (is_full : Bool) (shard : ℕ) (c : Contents) (change : NameChange) (went : Went) → cond is_full (Some (Put (Pack shard) c)) None ≡ Some change → KnowsNames full (Some s) d → KnowsNames full (Some (either went PackPut Over)) (disk_after went change d)
  pack_on s false shard c change went is k = absurd cc
  pack_on s true shard c change went is k =
      let same : Put (Pack shard) c ≡ change = cc in
      subst (λ z. KnowsNames full (Some (either went PackPut Over)) (disk_after went z d)) same (beside s (either went PackPut Over) (Put (Pack shard) c) went (none_drawn went PackPut Over refl refl) refl k)

-- a call that is due in the section
pub names_after : (full : Bool) (w : World) (s : Section) (change : NameChange) (went : Went) → due w s ≡ Some change → KnowsNames full (Some s) w.disk → KnowsNames full (Some (either went (after s) (spoiled s))) (disk_after went change w.disk)
names_after full w Begun change went is k = pack_on full w.disk Begun (nat_le (w.floor + w.size) (length w.history)) (w.floor / w.size) (pack_of (next_parts w)) change went is k
names_after full w (CountRead x) change went is k = let same : Put CounterNext (Number x.next) ≡ change = cc in subst (λ z. KnowsNames full (Some (either went (CountPut x) Over)) (disk_after went z w.disk)) same (read_on full w.disk x went k)
names_after full w (CountPut x) change went is k = put_on full w.disk x went (disk_after went change w.disk) k
names_after full w (CountRenamed x) change went is k = let same : Firm ≡ change = cc in subst (λ z. KnowsNames full (Some (either went Over Over)) (disk_after went z w.disk)) same (beside full w.disk (CountRenamed x) (either went Over Over) Firm went (none_drawn went Over Over refl refl) tt k)
names_after full w (RevPut x) change went is k =
    let put : Put (Props (length w.history)) (PropsFile x.revision.properties) ≡ change = cc in
    subst (λ z. KnowsNames full (Some (either went (PropsPut x) Over)) (disk_after went z w.disk)) put (beside full w.disk (RevPut x) (either went (PropsPut x) Over) (Put (Props (length w.history)) (PropsFile x.revision.properties)) went (none_drawn went (PropsPut x) Over refl refl) refl k)
names_after full w (PropsPut x) change went is k = let same : Firm ≡ change = cc in subst (λ z. KnowsNames full (Some (either went (RevFirm x) Over)) (disk_after went z w.disk)) same (beside full w.disk (PropsPut x) (either went (RevFirm x) Over) Firm went (none_drawn went (RevFirm x) Over refl refl) tt k)
names_after full w (RevFirm x) change went is k =
    let put : Put CurrentNext (Number (length w.history)) ≡ change = cc in
    subst (λ z. KnowsNames full (Some (either went (CurrentPut x) Over)) (disk_after went z w.disk)) put (beside full w.disk (RevFirm x) (either went (CurrentPut x) Over) (Put CurrentNext (Number (length w.history))) went (none_drawn went (CurrentPut x) Over refl refl) refl k)
names_after full w (CurrentPut x) change went is k =
    renamed_on full w.disk (CurrentPut x) (either went (CurrentRenamed x) (spoiled (CurrentPut x))) CurrentNext Current change went (found w.disk CurrentNext) (none_drawn went (CurrentRenamed x) (spoiled (CurrentPut x)) refl refl) refl refl is k
names_after full w (CurrentRenamed x) change went is k =
    let same : Firm ≡ change = cc in
    subst (λ z. KnowsNames full (Some (either went (CurrentFirm x) (spoiled (CurrentRenamed x)))) (disk_after went z w.disk)) same (beside full w.disk (CurrentRenamed x) (either went (CurrentFirm x) (spoiled (CurrentRenamed x))) Firm went (none_drawn went (CurrentFirm x) (spoiled (CurrentRenamed x)) refl refl) tt k)
names_after full w (CurrentFirm x) change went is k = absurd cc
names_after full w (Doubtful place x) change went is k = absurd cc
names_after full w PackPut change went is k =
    let put : Put (Manifest (w.floor / w.size)) (manifest_of (next_parts w)) ≡ change = cc in
    subst (λ z. KnowsNames full (Some (either went ManifestPut Over)) (disk_after went z w.disk)) put (beside full w.disk PackPut (either went ManifestPut Over) (Put (Manifest (w.floor / w.size)) (manifest_of (next_parts w))) went (none_drawn went ManifestPut Over refl refl) refl k)
names_after full w ManifestPut change went is k = let same : Firm ≡ change = cc in subst (λ z. KnowsNames full (Some (either went PackFirm Over)) (disk_after went z w.disk)) same (beside full w.disk ManifestPut (either went PackFirm Over) Firm went (none_drawn went PackFirm Over refl refl) tt k)
names_after full w PackFirm change went is k =
    let put : Put FloorNext (Number (w.floor + w.size)) ≡ change = cc in
    subst (λ z. KnowsNames full (Some (either went FloorPut Over)) (disk_after went z w.disk)) put (beside full w.disk PackFirm (either went FloorPut Over) (Put FloorNext (Number (w.floor + w.size))) went (none_drawn went FloorPut Over refl refl) refl k)
names_after full w FloorPut change went is k =
    renamed_on full w.disk FloorPut (either went FloorRenamed (spoiled FloorPut)) FloorNext Floor change went (found w.disk FloorNext) (none_drawn went FloorRenamed (spoiled FloorPut) refl refl) refl refl is k
names_after full w FloorRenamed change went is k =
    let same : Firm ≡ change = cc in
    subst (λ z. KnowsNames full (Some (either went Packed (spoiled FloorRenamed))) (disk_after went z w.disk)) same (beside full w.disk FloorRenamed (either went Packed (spoiled FloorRenamed)) Firm went (none_drawn went Packed (spoiled FloorRenamed) refl refl) tt k)
names_after full w Packed change went is k = pack_on full w.disk Packed (nat_le (w.floor + w.size) (length w.history)) (w.floor / w.size) (pack_of (next_parts w)) change went is k
names_after full w (FloorDoubtful place) change went is k = absurd cc
names_after full w Over change went is k = absurd cc

-- so the last number stays there, whoever knows it
pub full_after : (full : Bool) (w : World) (s : Section) (change : NameChange) (went : Went) → due w s ≡ Some change → KnowsNames full (Some s) w.disk → IsFull w.disk → IsFull (disk_after went change w.disk)
full_after full w s change went is k last = (names_after true w s change went is (names_full (Some s) w.disk full last k)).full refl
