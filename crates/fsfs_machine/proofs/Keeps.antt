-- Each call of a section keeps it.
use Rattle.std.proofs.Common.{◌≡◌, ◌⊎◌, ◌<◌, ◌≤◌, ◌+◌, ◌/◌, ℕ, suc, zero, List, [], ◌∷◌, length, Bool, true, false, cond, inl, inr, ⊎_elim, refl, sym, ap, subst, ◌∙◌, arith}
use Rattle.std.specs.Prelude.{Option, Some, None, IfSome, slice_get, nat_le}
use Rattle.std.specs.FinMap.{get}
use Rattle.fsfs_tree.specs.Revisions.{tree_of}
use Rattle.fsfs_model.specs.Flat.Transactions.{IsTransaction, Begun as BegunTxn}
use Rattle.fsfs_tree.specs.Dated.{last_of}
use Rattle.fsfs_machine.specs.declared.contents.FileName.{FileName}
use Rattle.fsfs_machine.specs.declared.contents.FileName.TheVariants.{Current, CurrentNext, Counter, CounterNext, Floor, FloorNext, Rev, Props, Pack, Manifest}
use Rattle.fsfs_machine.specs.declared.contents.Contents.{Contents}
use Rattle.fsfs_machine.specs.declared.contents.Contents.TheVariants.{PropsFile, Number}
use Rattle.fsfs_machine.specs.declared.contents.NameChange.{NameChange}
use Rattle.fsfs_machine.specs.declared.contents.NameChange.TheVariants.{Put, Rename, Remove, Firm}
use Rattle.fsfs_machine.specs.declared.machine.Recorded.{Recorded}
use Rattle.fsfs_machine.specs.declared.machine.Coming.{Coming}
use Rattle.fsfs_machine.specs.declared.machine.Drawn.{Drawn}
use Rattle.fsfs_base.specs.declared.places.place.DiskPlace.{DiskPlace}
use Rattle.fsfs_base.specs.declared.places.place.DiskPlace.TheVariants.{Commit}
use Rattle.fsfs_base.specs.declared.places.place.DiskPlace.TheVariants as place
use Rattle.fsfs_base.specs.declared.places.place.PackPlace.TheVariants as pack
use Rattle.fsfs_base.specs.declared.places.place.CommitPlace.TheVariants.{RenameCurrent, FirmCurrent}
use Rattle.fsfs_machine.specs.declared.machine.Section.{Section}
use Rattle.fsfs_machine.specs.declared.machine.Section.TheVariants.{Begun, CountRead, CountPut, CountRenamed, RevPut, PropsPut, RevFirm, CurrentPut, CurrentRenamed, CurrentFirm, Doubtful, PackPut, ManifestPut, PackFirm, FloorPut, FloorRenamed, Packed, FloorDoubtful, Over}
use Rattle.fsfs_machine.specs.declared.machine.Lock.TheVariants.{Held}
use Rattle.fsfs_machine.specs.declared.machine.Went.{Went}
use Rattle.fsfs_machine.specs.declared.machine.Went.TheVariants.{Fine, Before, After, Torn}
use Rattle.fsfs_machine.specs.Disk.{Disk, found, IsImage}
use Rattle.fsfs_machine.specs.Machine.{World, disk_after, learns, at_call, rename_of, due, after, spoiled, called_by, revisions, with_next, begun_txn, tree_in, pack_of, manifest_of, next_parts}
use Rattle.fsfs_machine.specs.Kept.{StandsFor, StandsIn, CountsOn, Knows, coming_in, Follows, Carries, FloorIs, AreLeft, most_floor, rises, packs, Kept}
use Rattle.fsfs_machine.proofs.KeptParts.{no_less, learnt, not_so, next_floor, Steady, steady, keeps_turn}
use Rattle.fsfs_machine.proofs.Images.{Each, each_put, each_rename, each_remove, each_firm, read_is_image}
use Rattle.fsfs_machine.proofs.Standing.{same_again, past_props, stands_next, not_alone, past_pack, past_manifest, past_remove, floor_rises, left_removed}
use Rattle.fsfs_machine.proofs.Growing.{revisions_length}
use Rattle.fsfs_machine.proofs.Benches.{apart_given}
use Rattle.fsfs_machine.proofs.Given.{given_more, named_append, named_given}
use Rattle.fsfs_machine.proofs.Whose.{there_at, whose_at}

-- the holder's call, from what its ends leave
pub keeps_call : (w : World) (p : ℕ) (place : DiskPlace) (s : Section) (change : NameChange) (after spoiled : Section) (went : Went)
    → Kept (record w { lock = Held p s })
    → Carries p after
    → Carries p spoiled
    → most_floor (rises s) w.size w.floor ≤ most_floor (rises after) w.size w.floor
    → most_floor (rises s) w.size w.floor ≤ most_floor (rises spoiled) w.size w.floor
    → (packs after ≡ true → w.floor + w.size ≤ length w.history)
    → (packs spoiled ≡ true → w.floor + w.size ≤ length w.history)
    → Each (change ∷ w.disk) (StandsIn w.size w.floor w.history after)
    → Each (change ∷ w.disk) (Steady (rises after) w)
    → Knows w.size w.floor w.history w.given after (change ∷ w.disk)
    → IfSome (coming_in after) (Follows w.history)
    → Each (disk_after went change w.disk) (StandsIn w.size w.floor w.history spoiled)
    → Each (disk_after went change w.disk) (Steady (rises spoiled) w)
    → ((d : Disk) → Knows w.size w.floor w.history w.given spoiled d)
    → IfSome (coming_in spoiled) (Follows w.history)
    → Kept (at_call w p place change after spoiled went)
keeps_call w p place s change after spoiled went k carries ill_carries top ill_top full ill_full stands counts knows next ill ill_counts ill_knows ill_next = by_end went ill ill_counts
  where
    by_end : (went : Went) → Each (disk_after went change w.disk) (StandsIn w.size w.floor w.history spoiled) → Each (disk_after went change w.disk) (Steady (rises spoiled) w) → Kept (at_call w p place change after spoiled went)
    by_end Fine ill ill_counts = keeps_turn w p place Fine s after (change ∷ w.disk) k carries top full stands counts knows next
    by_end Before ill ill_counts = keeps_turn w p place Before s spoiled (disk_after Before change w.disk) k ill_carries ill_top ill_full ill ill_counts (ill_knows _) ill_next
    by_end After ill ill_counts = keeps_turn w p place After s spoiled (disk_after After change w.disk) k ill_carries ill_top ill_full ill ill_counts (ill_knows _) ill_next
    by_end (Torn any) ill ill_counts = keeps_turn w p place (Torn any) s spoiled (disk_after (Torn any) change w.disk) k ill_carries ill_top ill_full ill ill_counts (ill_knows _) ill_next

-- what a failed call leaves
pub each_failed : (went : Went) (change : NameChange) (d : Disk) (P : Disk → Type 0) → Each d P → Each (change ∷ d) P → ((n : FileName) (c any : Contents) → change ≡ Put n c → Each (Put n any ∷ d) P) → Each (disk_after went change d) P
each_failed Fine change d P before after torn = after
each_failed Before change d P before after torn = before
each_failed After change d P before after torn = after
each_failed (Torn any) (Put n c) d P before after torn = torn n c any refl
each_failed (Torn any) (Rename from to c) d P before after torn = before
each_failed (Torn any) (Remove n) d P before after torn = before
each_failed (Torn any) Firm d P before after torn = before

-- where no floor may rise the greatest floor is that which is firm
top_of : (b : Bool) (size f : ℕ) → b ≡ false → most_floor b size f ≡ f
top_of b size f is = ap (λ c. most_floor c size f) is

-- Each put leaves what stands as it is.
pub keeps_put : (w : World) (p : ℕ) (place : DiskPlace) (s : Section) (n : FileName) (c : Contents) (after : Section) (went : Went)
    → Kept (record w { lock = Held p s })
    → Carries p after
    → rises s ≡ false
    → rises after ≡ false
    → (packs after ≡ true → w.floor + w.size ≤ length w.history)
    → ((m : Disk) → StandsIn w.size w.floor w.history s m → StandsIn w.size w.floor w.history after m)
    → ((m : Disk) (any : Contents) → StandsIn w.size w.floor w.history s m → StandsIn w.size w.floor w.history after (Put n any ∷ m))
    → ((m : Disk) → StandsIn w.size w.floor w.history after m → StandsFor w.size w.floor m w.history)
    → ((m : Disk) (any : Contents) → Steady false w m → Steady false w (Put n any ∷ m))
    → Knows w.size w.floor w.history w.given after (Put n c ∷ w.disk)
    → IfSome (coming_in after) (Follows w.history)
    → Kept (at_call w p place (Put n c) after Over went)
keeps_put w p place s n c after went k carries calm calm_after full stay bears plain counts knows next =
    let stands : (any : Contents) → Each (Put n any ∷ w.disk) (StandsIn w.size w.floor w.history after) = λ any. each_put n any w.disk (StandsIn w.size w.floor w.history s) (StandsIn w.size w.floor w.history after) k.stands stay (λ m i. bears m any i) in
    let flat : Each w.disk (Steady false w) = subst (λ b. Each w.disk (Steady b w)) calm (steady (record w { lock = Held p s }) k) in
    let count : (any : Contents) → Each (Put n any ∷ w.disk) (Steady false w) = λ any. each_put n any w.disk (Steady false w) (Steady false w) flat (λ m i. i) (λ m i. counts m any i) in
    let was = top_of (rises s) w.size w.floor calm in
    let is = top_of (rises after) w.size w.floor calm_after in
    keeps_call w p place s (Put n c) after Over went k carries tt (omega (arith, was, is)) (omega (arith, was)) full (λ u. not_so u)
    (stands c) (subst (λ b. Each (Put n c ∷ w.disk) (Steady b w)) (sym calm_after) (count c)) knows next
    (each_failed went (Put n c) w.disk (λ m. StandsFor w.size w.floor m w.history) (λ m i. plain m (stay m (k.stands m i))) (λ m i. plain m (stands c m i)) (λ n' c' any e m i. plain m (stands any m (other n' c' any e m i))))
    (each_failed went (Put n c) w.disk (Steady false w) flat (count c) (λ n' c' any e m i. count any m (other n' c' any e m i)))
    (λ d. tt) tt
  where
    name_of : NameChange → FileName
    name_of (Put n c) = n
    name_of (Rename from to c) = from
    name_of (Remove n) = n
    name_of Firm = Current

    other : (n' : FileName) (c' any : Contents) → Put n c ≡ Put n' c' → (m : Disk) → IsImage (Put n' any ∷ w.disk) m → IsImage (Put n any ∷ w.disk) m
    other n' c' any e m i = subst (λ x. IsImage (Put x any ∷ w.disk) m) (sym (ap name_of e)) i

pub keeps_rename : (w : World) (p : ℕ) (place : DiskPlace) (s : Section) (from to : FileName) (c : Contents) (after spoiled : Section) (went : Went)
    → Kept (record w { lock = Held p s })
    → Carries p after
    → Carries p spoiled
    → most_floor (rises s) w.size w.floor ≤ most_floor (rises after) w.size w.floor
    → most_floor (rises s) w.size w.floor ≤ most_floor (rises spoiled) w.size w.floor
    → (packs after ≡ true → w.floor + w.size ≤ length w.history)
    → (packs spoiled ≡ true → w.floor + w.size ≤ length w.history)
    → ((m : Disk) → StandsIn w.size w.floor w.history s m → StandsIn w.size w.floor w.history after m)
    → ((m : Disk) → StandsIn w.size w.floor w.history s m → StandsIn w.size w.floor w.history after (Rename from to c ∷ m))
    → ((m : Disk) → StandsIn w.size w.floor w.history after m → StandsIn w.size w.floor w.history spoiled m)
    → ((m : Disk) → Steady (rises s) w m → Steady (rises after) w m)
    → ((m : Disk) → Steady (rises s) w m → Steady (rises after) w (Rename from to c ∷ m))
    → ((m : Disk) → Steady (rises after) w m → Steady (rises spoiled) w m)
    → Knows w.size w.floor w.history w.given after (Rename from to c ∷ w.disk)
    → IfSome (coming_in after) (Follows w.history)
    → ((d : Disk) → Knows w.size w.floor w.history w.given spoiled d)
    → IfSome (coming_in spoiled) (Follows w.history)
    → Kept (at_call w p place (Rename from to c) after spoiled went)
keeps_rename w p place s from to c after spoiled went k carries ill_carries top ill_top full ill_full stay bears ill same counts ill_same knows next ill_knows ill_next =
    let stands : Each (Rename from to c ∷ w.disk) (StandsIn w.size w.floor w.history after) = each_rename from to c w.disk (StandsIn w.size w.floor w.history s) (StandsIn w.size w.floor w.history after) k.stands stay bears in
    let held : Each w.disk (Steady (rises s) w) = steady (record w { lock = Held p s }) k in
    let count : Each (Rename from to c ∷ w.disk) (Steady (rises after) w) = each_rename from to c w.disk (Steady (rises s) w) (Steady (rises after) w) held same counts in
    keeps_call w p place s (Rename from to c) after spoiled went k carries ill_carries top ill_top full ill_full stands count knows next
    (each_failed went (Rename from to c) w.disk (StandsIn w.size w.floor w.history spoiled) (λ m i. ill m (stay m (k.stands m i))) (λ m i. ill m (stands m i)) (λ n' c' any e. absurd (no n' c' e)))
    (each_failed went (Rename from to c) w.disk (Steady (rises spoiled) w) (λ m i. ill_same m (same m (held m i))) (λ m i. ill_same m (count m i)) (λ n' c' any e. absurd (no n' c' e)))
    ill_knows ill_next
  where
    no : (n' : FileName) (c' : Contents) → Rename from to c ≡ Put n' c' → ⊥
    no n' c' e = cc

pub keeps_firm : (w : World) (p : ℕ) (place : DiskPlace) (s : Section) (after spoiled : Section) (went : Went)
    → Kept (record w { lock = Held p s })
    → Carries p after
    → Carries p spoiled
    → most_floor (rises s) w.size w.floor ≤ most_floor (rises after) w.size w.floor
    → most_floor (rises s) w.size w.floor ≤ most_floor (rises spoiled) w.size w.floor
    → (packs after ≡ true → w.floor + w.size ≤ length w.history)
    → (packs spoiled ≡ true → w.floor + w.size ≤ length w.history)
    → ((m : Disk) → Steady (rises s) w m → Steady (rises spoiled) w m)
    → Steady (rises after) w (Firm ∷ w.disk)
    → Steady (rises spoiled) w (Firm ∷ w.disk)
    → ((m : Disk) → StandsIn w.size w.floor w.history s m → StandsIn w.size w.floor w.history spoiled m)
    → IfSome (coming_in after) (Follows w.history)
    → ((d : Disk) → Knows w.size w.floor w.history w.given spoiled d)
    → IfSome (coming_in spoiled) (Follows w.history)
    → StandsIn w.size w.floor w.history after (Firm ∷ w.disk)
    → StandsIn w.size w.floor w.history spoiled (Firm ∷ w.disk)
    → Knows w.size w.floor w.history w.given after (Firm ∷ w.disk)
    → Kept (at_call w p place Firm after spoiled went)
keeps_firm w p place s after spoiled went k carries ill_carries top ill_top full ill_full ill_same firm_same firm_ill_same ill next ill_knows ill_next firm_now firm_ill firm_knows =
    let stands : Each (Firm ∷ w.disk) (StandsIn w.size w.floor w.history after) = each_firm w.disk (StandsIn w.size w.floor w.history after) firm_now in
    let held : Each w.disk (Steady (rises s) w) = steady (record w { lock = Held p s }) k in
    keeps_call w p place s Firm after spoiled went k carries ill_carries top ill_top full ill_full stands (each_firm w.disk (Steady (rises after) w) firm_same) firm_knows next
    (each_failed went Firm w.disk (StandsIn w.size w.floor w.history spoiled) (λ m i. ill m (k.stands m i)) (each_firm w.disk (StandsIn w.size w.floor w.history spoiled) firm_ill) (λ n' c' any e. absurd (no n' c' e)))
    (each_failed went Firm w.disk (Steady (rises spoiled) w) (λ m i. ill_same m (held m i)) (each_firm w.disk (Steady (rises spoiled) w) firm_ill_same) (λ n' c' any e. absurd (no n' c' e)))
    ill_knows ill_next
  where
    no : (n' : FileName) (c' : Contents) → Firm ≡ Put n' c' → ⊥
    no n' c' e = cc

-- the tree of a revision that there is
pub tree_at : (h : List Recorded) (b : ℕ) → b < length h → get (tree_in (slice_get (revisions h) b)) ≡ tree_of (revisions h) b
tree_at [] b less = absurd (omega (arith, less))
tree_at (x ∷ h) zero less = refl
tree_at (x ∷ h) (suc b) less = tree_at h b (omega (arith, less))

pub begun_is : (h : List Recorded) (x : Drawn) → x.base < length h → IsTransaction (tree_of (revisions h)) (last_of (revisions h)) x.base (get (begun_txn h x).tree) []
begun_is h x less =
    let e : length (revisions h) ≡ length h = revisions_length h in
    subst (λ t. IsTransaction (tree_of (revisions h)) (last_of (revisions h)) x.base t []) (sym (tree_at h x.base less)) (BegunTxn x.base (omega (arith, e, less)))

pub keeps_given : (w : World) (p : ℕ) (place : DiskPlace) (x : Drawn) (went : Went) → Kept (record w { lock = Held p (CountRenamed x) }) → Kept (called_by w p place went (CountRenamed x) (Some Firm)).world
keeps_given w p place x Fine kept = let next : x.next ≡ x.name + 1 = kept.knows.2 in record {
  young = kept.young;
  seen = learnt (length w.history) w.low w.floor w.passes p place Fine kept.seen;
  history = kept.history;
  transactions = kept.transactions;
  stands = each_firm w.disk (λ m. StandsFor w.size w.floor m w.history) (kept.stands w.disk (read_is_image w.disk));
  floor = kept.floor;
  floors = each_firm w.disk (FloorIs w.floor) (kept.floors w.disk (read_is_image w.disk));
  left = each_firm w.disk (AreLeft w.low w.history) (kept.left w.disk (read_is_image w.disk));
  low = kept.low;
  counts = each_firm w.disk (CountsOn (x.name ∷ w.given)) (x.next, kept.knows.3, (omega (arith, next), no_less w.given x.name x.next (omega (arith, next)) kept.knows.1));
  once = (kept.knows.1, kept.once);
  labels = given_more w.given w.labels x.name kept.labels;
  apart = apart_given w.given w.named w.txns w.spent x kept.knows.1 kept.apart;
  benches = kept.benches;
  named = named_append (length w.history) (x.name ∷ w.given) w.named (x ∷ []) (named_given (length w.history) w.given w.named x.name kept.named) ((kept.knows.0, inl refl), tt);
  knows = tt;
  next = tt;
  whose = whose_at w.opening w.history w.since w.passes p (learns (length w.history) place Fine) (λ x. refl) kept.whose;
  holder = (there_at w.passes p p (learns (length w.history) place Fine) kept.holder.0, tt);
}
keeps_given w p place x Before kept = keeps_firm w p place (CountRenamed x) Over Over Before kept tt tt (omega arith) (omega arith) (λ u. not_so u) (λ u. not_so u) (λ m i. i) (steady (record w { lock = Held p (CountRenamed x) }) kept w.disk (read_is_image w.disk)) (steady (record w { lock = Held p (CountRenamed x) }) kept w.disk (read_is_image w.disk)) (λ m i. i) tt (λ d. tt) tt (kept.stands w.disk (read_is_image w.disk)) (kept.stands w.disk (read_is_image w.disk)) tt
keeps_given w p place x After kept = keeps_firm w p place (CountRenamed x) Over Over After kept tt tt (omega arith) (omega arith) (λ u. not_so u) (λ u. not_so u) (λ m i. i) (steady (record w { lock = Held p (CountRenamed x) }) kept w.disk (read_is_image w.disk)) (steady (record w { lock = Held p (CountRenamed x) }) kept w.disk (read_is_image w.disk)) (λ m i. i) tt (λ d. tt) tt (kept.stands w.disk (read_is_image w.disk)) (kept.stands w.disk (read_is_image w.disk)) tt
keeps_given w p place x (Torn any) kept = keeps_firm w p place (CountRenamed x) Over Over (Torn any) kept tt tt (omega arith) (omega arith) (λ u. not_so u) (λ u. not_so u) (λ m i. i) (steady (record w { lock = Held p (CountRenamed x) }) kept w.disk (read_is_image w.disk)) (steady (record w { lock = Held p (CountRenamed x) }) kept w.disk (read_is_image w.disk)) (λ m i. i) tt (λ d. tt) tt (kept.stands w.disk (read_is_image w.disk)) (kept.stands w.disk (read_is_image w.disk)) tt

pub keeps_count_rename : (w : World) (p : ℕ) (place : DiskPlace) (x : Drawn) (went : Went) (o : Option Contents) → found w.disk CounterNext ≡ o
    → Kept (record w { lock = Held p (CountPut x) }) → Kept (called_by w p place went (CountPut x) (rename_of CounterNext Counter o)).world
keeps_count_rename w p place x went None is kept = let e : None ≡ Some (Number x.next) = sym is ∙ kept.knows.3 in absurd cc
keeps_count_rename w p place x went (Some c) is kept =
    let same : Some c ≡ Some (Number x.next) = sym is ∙ kept.knows.3 in
    let next : x.next ≡ x.name + 1 = kept.knows.2 in
    keeps_rename w p place (CountPut x) CounterNext Counter c (CountRenamed x) Over went kept tt tt (omega arith) (omega arith) (λ u. not_so u) (λ u. not_so u) (λ m i. i) (λ m i. i) (λ m i. i)
    (λ m i. i) (λ m i. ((x.next, same, no_less w.given x.name x.next (omega (arith, next)) kept.knows.1), i.1, i.2)) (λ m i. i) (kept.knows.0, kept.knows.1, kept.knows.2, same) tt (λ d. tt) tt

pub keeps_current_rename : (w : World) (p : ℕ) (place : DiskPlace) (x : Coming) (went : Went) (o : Option Contents) → found w.disk CurrentNext ≡ o
    → Kept (record w { lock = Held p (CurrentPut x) }) → Kept (called_by w p place went (CurrentPut x) (rename_of CurrentNext Current o)).world
keeps_current_rename w p place x went None is kept = let e : None ≡ Some (Number (length w.history)) = sym is ∙ kept.knows in absurd cc
keeps_current_rename w p place x went (Some c) is kept =
    let same : Some c ≡ Some (Number (length w.history)) = sym is ∙ kept.knows in
    keeps_rename w p place (CurrentPut x) CurrentNext Current c (CurrentRenamed x) (Doubtful (Commit RenameCurrent) x) went kept kept.holder.1 kept.holder.1
    (omega arith) (omega arith) (λ u. not_so u) (λ u. not_so u) (λ m i. (inl i.0, i.1)) (λ m i. (inr (stands_next w.size w.floor (Rename CurrentNext Current c ∷ m) w.history x i.0.0 i.1 same), i.1)) (λ m i. i)
    (λ m i. i) (λ m i. i) (λ m i. i) same kept.next (λ d. tt) kept.next

-- where `current` names it, the files stand for the history with the revision to come
pub settled : (w : World) (p : ℕ) (x : Coming) → Kept (record w { lock = Held p (CurrentRenamed x) }) → StandsFor w.size w.floor w.disk (with_next w.history x)
settled w p x kept = ⊎_elim (λ a. absurd (not_alone w.size w.floor w.disk w.history kept.knows a)) (λ b. b) (kept.stands w.disk (read_is_image w.disk)).0

-- ---- a pack's calls

pack_put : (w : World) (p : ℕ) (place : DiskPlace) (s : Section) (went : Went) → Kept (record w { lock = Held p s }) → rises s ≡ false → ((m : Disk) → StandsIn w.size w.floor w.history s m → StandsFor w.size w.floor m w.history)
    → w.floor + w.size ≤ length w.history → Kept (at_call w p place (Put (Pack (w.floor / w.size)) (pack_of (next_parts w))) PackPut Over went)
pack_put w p place s went kept calm plain full = keeps_put w p place s (Pack (w.floor / w.size)) (pack_of (next_parts w)) PackPut went kept tt calm refl (λ u. full)
    plain (λ m any i. past_pack w.size w.floor kept.floor.shards m w.history any kept.floor.some kept.floor.whole (plain m i)) (λ m i. i) (λ m any i. i)
    (same_again (w.floor / w.size) (pack_of (next_parts w)) (found w.disk (Pack (w.floor / w.size)))) tt

failed_firm : (w : World) (p : ℕ) (at : DiskPlace) (went : Went) → Kept (record w { lock = Held p FloorRenamed }) → Kept (at_call w p at Firm (FloorDoubtful (place.Pack pack.FirmFloor)) (FloorDoubtful (place.Pack pack.FirmFloor)) went)
failed_firm w p at went kept =
    let held : Steady true w w.disk = steady (record w { lock = Held p FloorRenamed }) kept w.disk (read_is_image w.disk) in
    let s = kept.stands w.disk (read_is_image w.disk) in
    keeps_firm w p at FloorRenamed (FloorDoubtful (place.Pack pack.FirmFloor)) (FloorDoubtful (place.Pack pack.FirmFloor)) went kept tt tt
    (omega arith) (omega arith) (λ u. kept.floor.next refl) (λ u. kept.floor.next refl) (λ m i. i) held held (λ m i. i) tt (λ d. tt) tt s s tt

-- the floor is raised
raised_keeps : (w : World) (p : ℕ) (place : DiskPlace) (went : Went) → Kept (record w { lock = Held p FloorRenamed }) → Kept (called_by w p place went FloorRenamed (Some Firm)).world
raised_keeps w p place Fine kept = let s = kept.stands w.disk (read_is_image w.disk) in record {
  young = kept.young;
  seen = learnt (length w.history) w.low (w.floor + w.size) w.passes p place Fine kept.seen;
  history = kept.history;
  transactions = kept.transactions;
  stands = each_firm w.disk (λ m. StandsFor w.size (w.floor + w.size) m w.history) (floor_rises w.size w.floor kept.floor.shards w.disk w.history kept.floor.some kept.floor.whole s.1 s.0);
  floor = next_floor w.size w.floor (length w.history) true kept.floor refl;
  floors = each_firm w.disk (FloorIs (w.floor + w.size)) kept.knows;
  left = each_firm w.disk (AreLeft w.low w.history) (kept.left w.disk (read_is_image w.disk));
  low = (let le : w.low ≤ w.floor = kept.low in omega (arith, le));
  counts = each_firm w.disk (CountsOn w.given) (kept.counts w.disk (read_is_image w.disk));
  once = kept.once;
  labels = kept.labels;
  named = kept.named;
  apart = kept.apart;
  benches = kept.benches;
  knows = tt;
  next = tt;
  whose = whose_at w.opening w.history w.since w.passes p (learns (length w.history) place Fine) (λ x. refl) kept.whose;
  holder = (there_at w.passes p p (learns (length w.history) place Fine) kept.holder.0, tt);
}
raised_keeps w p at Before kept = failed_firm w p at Before kept
raised_keeps w p at After kept = failed_firm w p at After kept
raised_keeps w p at (Torn any) kept = failed_firm w p at (Torn any) kept

floor_rename_keeps : (w : World) (p : ℕ) (at : DiskPlace) (went : Went) (o : Option Contents) → found w.disk FloorNext ≡ o
    → Kept (record w { lock = Held p FloorPut }) → Kept (called_by w p at went FloorPut (rename_of FloorNext Floor o)).world
floor_rename_keeps w p at went None is kept = let e : None ≡ Some (Number (w.floor + w.size)) = sym is ∙ kept.knows in absurd cc
floor_rename_keeps w p at went (Some c) is kept =
    let same : Some c ≡ Some (Number (w.floor + w.size)) = sym is ∙ kept.knows in
    keeps_rename w p at FloorPut FloorNext Floor c FloorRenamed (FloorDoubtful (place.Pack pack.RenameFloor)) went kept tt tt
    (omega arith) (omega arith) (λ u. kept.floor.next refl) (λ u. kept.floor.next refl) (λ m i. i) (λ m i. i) (λ m i. i)
    (λ m i. (i.0, inl i.1, i.2)) (λ m i. (i.0, inr same, i.2)) (λ m i. i) same tt (λ d. tt) tt

first_keeps : (w : World) (p : ℕ) (at : DiskPlace) (went : Went) (s : Section) (b : Bool) → nat_le (w.floor + w.size) (length w.history) ≡ b → Kept (record w { lock = Held p s }) → rises s ≡ false
    → ((m : Disk) → StandsIn w.size w.floor w.history s m → StandsFor w.size w.floor m w.history)
    → ((c : NameChange) → (called_by w p at went s (Some c)).world ≡ at_call w p at c PackPut Over went)
    → (Kept (called_by w p at went s (cond b (Some (Put (Pack (w.floor / w.size)) (pack_of (next_parts w)))) None)).world) ⊎ ((called_by w p at went s (cond b (Some (Put (Pack (w.floor / w.size)) (pack_of (next_parts w)))) None)).world ≡ w)
first_keeps w p at went s true is kept calm plain same =
    let full : w.floor + w.size ≤ length w.history = grind (arith, is) in
    inl (subst (λ v. Kept v) (sym (same (Put (Pack (w.floor / w.size)) (pack_of (next_parts w))))) (pack_put w p at s went kept calm plain full))
first_keeps w p at went s false is kept calm plain same = inr refl

-- the own file of a revision that is packed goes
pub removed_keeps : (w : World) (p r : ℕ) (went : Went) → r < w.floor → Kept (record w { lock = Held p Packed }) → Kept (at_call w p place.Remove (Remove (Rev r)) Packed Packed went)
removed_keeps w p r went less kept =
    let held : Each w.disk (Steady false w) = steady (record w { lock = Held p Packed }) kept in
    let stands : Each (Remove (Rev r) ∷ w.disk) (λ m. StandsFor w.size w.floor m w.history) = each_remove (Rev r) w.disk (λ m. StandsFor w.size w.floor m w.history) (λ m. StandsFor w.size w.floor m w.history) kept.stands (λ m i. i) (λ m i. past_remove w.size w.floor m w.history r less i) in
    let same : Each (Remove (Rev r) ∷ w.disk) (Steady false w) = each_remove (Rev r) w.disk (Steady false w) (Steady false w) held (λ m i. i) (λ m i. (i.0, i.1, left_removed w.low m w.history r i.2)) in
    keeps_call w p place.Remove Packed (Remove (Rev r)) Packed Packed went kept tt tt (omega arith) (omega arith) (λ u. not_so u) (λ u. not_so u) stands same tt tt
    (each_failed went (Remove (Rev r)) w.disk (λ m. StandsFor w.size w.floor m w.history) kept.stands stands (λ n c any e. absurd (no n c e)))
    (each_failed went (Remove (Rev r)) w.disk (Steady false w) held same (λ n c any e. absurd (no n c e)))
    (λ d. tt) tt
  where
    no : (n : FileName) (c : Contents) → Remove (Rev r) ≡ Put n c → ⊥
    no n c e = cc

pub keeps_called : (w : World) (p : ℕ) (place : DiskPlace) (went : Went) (s : Section) → Kept (record w { lock = Held p s }) → Kept (called_by w p place went s (due w s)).world ⊎ ((called_by w p place went s (due w s)).world ≡ w)
keeps_called w p place went (CountRead x) kept = inl (keeps_put w p place (CountRead x) CounterNext (Number x.next) (CountPut x) went kept tt refl refl (λ u. not_so u) (λ m i. i) (λ m any i. i) (λ m i. i) (λ m any i. i) (kept.knows.0, kept.knows.1, kept.knows.2, refl) tt)
keeps_called w p place went (CountPut x) kept = inl (keeps_count_rename w p place x went (found w.disk CounterNext) refl kept)
keeps_called w p place went (CountRenamed x) kept = inl (keeps_given w p place x went kept)
keeps_called w p place went (RevPut x) kept = inl (keeps_put w p place (RevPut x) (Props (length w.history)) (PropsFile x.revision.properties) (PropsPut x) went kept kept.holder.1
    refl refl (λ u. not_so u) (λ m i. i) (λ m any i. past_props w.size w.floor m w.history any i) (λ m i. i) (λ m any i. i) (kept.knows, same_again (length w.history) (PropsFile x.revision.properties) (found w.disk (Props (length w.history)))) kept.next)
keeps_called w p place went (PropsPut x) kept = inl (keeps_firm w p place (PropsPut x) (RevFirm x) Over went kept kept.holder.1 tt (omega arith) (omega arith) (λ u. not_so u) (λ u. not_so u) (λ m i. i) (steady (record w { lock = Held p (PropsPut x) }) kept w.disk (read_is_image w.disk)) (steady (record w { lock = Held p (PropsPut x) }) kept w.disk (read_is_image w.disk)) (λ m i. i) kept.next (λ d. tt) tt
    (kept.stands w.disk (read_is_image w.disk), kept.knows) (kept.stands w.disk (read_is_image w.disk)) tt)
keeps_called w p place went (RevFirm x) kept = inl (keeps_put w p place (RevFirm x) CurrentNext (Number (length w.history)) (CurrentPut x) went kept kept.holder.1 refl refl (λ u. not_so u) (λ m i. i) (λ m any i. i) (λ m i. i.0) (λ m any i. i) refl kept.next)
keeps_called w p place went (CurrentPut x) kept = inl (keeps_current_rename w p place x went (found w.disk CurrentNext) refl kept)
keeps_called w p place went (CurrentRenamed x) kept = inl (keeps_firm w p place (CurrentRenamed x) (CurrentFirm x) (Doubtful (Commit FirmCurrent) x) went kept kept.holder.1 kept.holder.1 (omega arith) (omega arith) (λ u. not_so u) (λ u. not_so u) (λ m i. i) (steady (record w { lock = Held p (CurrentRenamed x) }) kept w.disk (read_is_image w.disk)) (steady (record w { lock = Held p (CurrentRenamed x) }) kept w.disk (read_is_image w.disk)) (λ m i. i) kept.next (λ d. tt) kept.next
    (settled w p x kept) (kept.stands w.disk (read_is_image w.disk)) tt)
keeps_called w p at went Begun kept = first_keeps w p at went Begun (nat_le (w.floor + w.size) (length w.history)) refl kept refl (λ m i. i) (λ c. refl)
keeps_called w p place went (CurrentFirm x) kept = inr refl
keeps_called w p place went (Doubtful place' x) kept = inr refl
keeps_called w p place went Over kept = inr refl
keeps_called w p at went PackPut kept = inl (keeps_put w p at PackPut (Manifest (w.floor / w.size)) (manifest_of (next_parts w)) ManifestPut went kept tt refl refl (λ u. kept.floor.next refl)
    (λ m i. i) (λ m any i. past_manifest w.size w.floor kept.floor.shards m w.history any kept.floor.some kept.floor.whole i) (λ m i. i) (λ m any i. i)
    (kept.knows, same_again (w.floor / w.size) (manifest_of (next_parts w)) (found w.disk (Manifest (w.floor / w.size)))) tt)
keeps_called w p at went ManifestPut kept =
    let held : Steady false w w.disk = steady (record w { lock = Held p ManifestPut }) kept w.disk (read_is_image w.disk) in
    inl (keeps_firm w p at ManifestPut PackFirm Over went kept tt tt (omega arith) (omega arith) (λ u. kept.floor.next refl) (λ u. not_so u) (λ m i. i) held held (λ m i. i) tt (λ d. tt) tt
    (kept.stands w.disk (read_is_image w.disk), kept.knows) (kept.stands w.disk (read_is_image w.disk)) tt)
keeps_called w p at went PackFirm kept = inl (keeps_put w p at PackFirm FloorNext (Number (w.floor + w.size)) FloorPut went kept tt refl refl (λ u. kept.floor.next refl) (λ m i. i) (λ m any i. i) (λ m i. i.0) (λ m any i. i) refl tt)
keeps_called w p at went FloorPut kept = inl (floor_rename_keeps w p at went (found w.disk FloorNext) refl kept)
keeps_called w p at went FloorRenamed kept = inl (raised_keeps w p at went kept)
keeps_called w p at went Packed kept = first_keeps w p at went Packed (nat_le (w.floor + w.size) (length w.history)) refl kept refl (λ m i. i) (λ c. refl)
keeps_called w p at went (FloorDoubtful place') kept = inr refl
