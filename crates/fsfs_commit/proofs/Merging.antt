-- A merge over what a pass has seen.
use Rattle.std.proofs.Common.{◌≡◌, ◌<◌, ◌≤◌, ◌+◌, ℕ, suc, zero, List, [], ◌∷◌, ◌++◌, length, true, false, refl, sym, ap, subst, ◌∙◌, arith, take, append-nil}
use Rattle.std.specs.Prelude.{Option, Some, None, Result, Ok, Err, is_some}
use Rattle.std.specs.FinMap.{get}
use Rattle.fsfs_base.specs.Paths.{Path}
use Rattle.fsfs_base.specs.Counts.{Rose}
use Rattle.fsfs_base.specs.declared.failed.Failed.{Failed}
use Rattle.fsfs_revision.specs.Told.{Told, Knows}
use Rattle.fsfs_base.specs.declared.fields.txn_name.TxnName.{TxnName}
use Rattle.fsfs_tree.specs.Revisions.{tree_of}
use Rattle.fsfs_model.specs.Flat.Landing.{IsFirstClash}
use Rattle.fsfs_revision.specs.Ancestry.Trees.{ShowTrees}
use Rattle.fsfs_draft.specs.Drafts.{Folder}
use Rattle.fsfs_merge.specs.declared.land.Outcome.{Outcome}
use Rattle.fsfs_merge.specs.declared.land.Outcome.TheVariants as outcomes
use Rattle.fsfs_draft.specs.declared.error.EditError.TheVariants as edits
use Rattle.fsfs_txn.specs.declared.txn_error.TxnError.{TxnError}
use Rattle.fsfs_txn.specs.declared.txn_error.TxnError.TheVariants as txns
use Rattle.fsfs_txn.specs.Spending.{IfStays, IsSpentAfter, HasDiskCause, HasBenchCause}
use Rattle.fsfs_txn.specs.Standing.{Stands}
use Rattle.fsfs_txn.specs.Merging.{IsMerging, MeetsMerging}
use Rattle.fsfs_machine.specs.declared.machine.Recorded.{Recorded}
use Rattle.fsfs_machine.specs.declared.machine.Txn.{Txn}
use Rattle.fsfs_machine.specs.declared.machine.Outcome.TheVariants as outcome
use Rattle.fsfs_machine.specs.declared.machine.Step.TheVariants as step
use Rattle.fsfs_machine.specs.declared.machine.Went.{Went}
use Rattle.fsfs_machine.specs.Machine.{revisions, either}
use Rattle.fsfs_turn.specs.Bytes.{bytes_of, AllShow}
use Rattle.fsfs_turn.specs.Views.{View, Begins, Turned}
use Rattle.fsfs_turn.specs.Learning.{PropsRead}
use Rattle.fsfs_turn.specs.Courses.{End, More, ReadOnly}
use Rattle.fsfs_turn.proofs.Longer.{tree_first}
use Rattle.fsfs_noderev.specs.declared.changes.item.ChangeItem.{ChangeItem}
use Rattle.fsfs_noderev.specs.declared.limits.limit.PathLimit.{PathLimit}
use Rattle.fsfs_commit.specs.FinalRev.Texts.{IsRefused, HasPathPast}
use Rattle.fsfs_commit.specs.declared.final_rev.error.FinalError.{FinalError}
use Rattle.fsfs_commit.specs.declared.final_rev.error.FinalError.TheVariants as finals
use Rattle.fsfs_commit.specs.Works.{LandedOn}
use Rattle.fsfs_turn.proofs.Doubts.{read_doubtless}
use Rattle.fsfs_turn.proofs.Moments.{begins_take}
use Rattle.fsfs_commit.specs.Transaction.Meaning.{IsTxnOf}
use Rattle.fsfs_commit.specs.declared.transaction.refusal.CommitRefusal.{CommitRefusal}
use Rattle.fsfs_commit.specs.Transaction.Findings.{Finds, SpentByBench, IfBench, Blames}
use Rattle.fsfs_commit.specs.Transaction.Refusals.{of_txn, of_final, IsClashAt, IsDiskFault, Refuses}
use Rattle.fsfs_commit.specs.Transaction.SeenLemmas.{bytes_same, shown_trees}
use Rattle.fsfs_commit.proofs.Landing.{part_long, part_last, landed, landed_means, landed_on}

-- ---- what only reading tells

pub reads_once : (r : ℕ) (x : Recorded) (went : Went) (v u : View) → PropsRead r x went v u → ReadOnly v u
reads_once r x went v u t = record {
  is = t.is ∙ (λ i. record v { pass = record v.pass { seen = ap {A = View} (λ z. z.pass.seen) (sym t.is) i; faults = ap {A = View} (λ z. z.pass.faults) (sym t.is) i; floor = ap {A = View} (λ z. z.pass.floor) (sym t.is) i }; seen = u.seen; firm = ap {A = View} (λ z. z.firm) (sym t.is) i });
  grows = t.grows;
  firm = λ f e. ap {A = View} (λ z. z.firm) t.is ∙ e;
  doubtless = read_doubtless r x went v u t;
  shown = t.shown;
  within = λ sure le. t.within sure;
  course = More [] (step.ReadProps v.number r went) (either went (outcome.Properties x.revision.properties) outcome.Failed) v u u turned (End u);
}
  where
    turned : Turned [] (step.ReadProps v.number r went) (either went (outcome.Properties x.revision.properties) outcome.Failed) v u
    turned = record { world = t.turned.world; kept = t.turned.kept; sees = t.turned.sees; did = t.turned.did; happens = t.turned.happens; answers = t.turned.answers; after = t.turned.after; leaves = t.turned.leaves }

-- ---- the first part that ends with the head, where no more was seen before

take_over : {X : Type 0} (n : ℕ) (v more : List X) → length v ≤ n → (rest : List X) × (take n (v ++ more) ≡ v ++ rest)
take_over n [] more le = (take n more, refl)
take_over zero (x ∷ v) more le = absurd (omega (arith, le))
take_over (suc n) (x ∷ v) more le = let w = take_over n v more (omega (arith, le)) in (w.0, ap (λ l. x ∷ l) w.1)

pub begins_part : (n : ℕ) (g h : List Recorded) → Begins h g → length g ≤ n → Begins (take n h) g
begins_part n g h b le = let w = take_over n g b.0 le in (w.0, ap (λ l. take n l) b.1 ∙ w.1)

pub whole_part : (n : ℕ) (h : List Recorded) → length h ≤ n → Begins (take n h) h
whole_part n h le = begins_part n h h ([], sym (append-nil h)) le

-- ---- the merge

module _ (v : View) (head : ℕ) (less : head < length v.seen) (name : TxnName) (base : ℕ) (settled after : Folder) (x : Txn) (low : base < head) (is : IsTxnOf (take (head + 1) v.seen) name base settled x) (shown : AllShow v.seen) (told : Told) (tells : (r : ℕ) → r ≤ head → r < length v.seen → told r ≡ Some (bytes_of v.seen r)) where
  abbrev part : List Recorded
  part = take (head + 1) v.seen

  same_tree : (r : ℕ) → r ≤ head → tree_of (revisions part) r ≡ tree_of (revisions v.seen) r
  same_tree r le = tree_first part v.seen r (begins_take (head + 1) v.seen) (omega (arith, le, part_long head v.seen less))

  knows : Knows told head (bytes_of part)
  knows r le = tells r le (omega (arith, le, less)) ∙ ap (λ read. Some read) (sym (bytes_same part v.seen r (begins_take (head + 1) v.seen) (omega (arith, le, part_long head v.seen less))))

  shows : ShowTrees (bytes_of part) head (tree_of (revisions part))
  shows = subst (λ top. ShowTrees (bytes_of part) top (tree_of (revisions part))) (part_last head v.seen less) (shown_trees part (omega (arith, part_long head v.seen less)) (shown (head + 1) (omega arith)))

  stands : Stands (bytes_of part) (tree_of (revisions part)) head base name settled (get x.tree) x.marks
  stands = subst (λ top. Stands (bytes_of part) (tree_of (revisions part)) top base name settled (get x.tree) x.marks) (part_last head v.seen less) is.stands

  merging : (result : Result Outcome TxnError) → MeetsMerging told base head name settled after result → IsMerging IfStays (bytes_of part) (tree_of (revisions part)) head base head name (get x.tree) x.marks settled after result
  merging result meets = meets (bytes_of part) (tree_of (revisions part)) head (get x.tree) x.marks knows shows low (omega arith) stands

  module _ (result : Result Outcome TxnError) (meets : MeetsMerging told base head name settled after result) where
    abbrev Says : Result Outcome TxnError → Type 0
    Says r = IsMerging IfStays (bytes_of part) (tree_of (revisions part)) head base head name (get x.tree) x.marks settled after r

    pub is_landed : result ≡ Ok outcomes.Landed → LandedOn head v.seen x (landed head v.seen less name base settled x low is) × IsTxnOf (take (head + 1) v.seen) name head after (landed head v.seen less name base settled x low is)
    is_landed e = let w = subst (λ r. Says r) e (merging result meets) in (landed_on head v.seen less name base settled x low is after w.1 w.0, landed_means head v.seen less name base settled x low is after w.1 w.0)

    pub is_clash : (path : Path) → result ≡ Ok (outcomes.Clash path) → IsClashAt path head v.seen x × (after ≡ settled)
    is_clash path e =
        let w = subst (λ r. Says r) e (merging result meets) in (
          record {
            later = omega (arith, is.on, low);
            there = less;
            first = subst (λ b. IsFirstClash b (tree_of (revisions v.seen) b) (tree_of (revisions v.seen) head) (get x.tree) x.marks path) (sym is.on)
                (subst (λ a. IsFirstClash base a (tree_of (revisions v.seen) head) (get x.tree) x.marks path) (same_tree base (omega (arith, low))) (subst (λ s. IsFirstClash base (tree_of (revisions part) base) s (get x.tree) x.marks path) (same_tree head (omega arith)) w.0));
          },
          w.1,
        )

    pub has_failed : (error : TxnError) → result ≡ Err error → IfStays error (after ≡ settled)
    has_failed error e = subst (λ r. Says r) e (merging result meets)

-- a failure that leaves the transaction is no clash, no damage, and no want of a part
pub no_clash : (error : TxnError) (P : Type 0) (head : ℕ) (h : List Recorded) (x : Txn) → IfStays error P → Refuses (of_txn error) head h x
no_clash (txns.Spent first) P head h x stays = tt
no_clash (txns.Fault edits.OutOfMemory) P head h x stays = tt
no_clash (txns.Fault edits.DiskFault) P head h x stays = tt
no_clash (txns.Fault edits.BenchFault) P head h x stays = tt
no_clash (txns.Fault (edits.Wrong w)) P head h x stays = absurd stays
no_clash (txns.Fault edits.Lacking) P head h x stays = absurd stays

-- what is made of a transaction on the youngest revision lacks nothing
no_clash_made : (error : FinalError) (Past : PathLimit → Type 0) (head : ℕ) (h : List Recorded) (x : Txn) → IsRefused ⊥ Past error → Refuses (of_final error) head h x
no_clash_made finals.OutOfMemory Past head h x refused = tt
no_clash_made finals.SinkFault Past head h x refused = tt
no_clash_made finals.Lacking Past head h x refused = absurd refused
no_clash_made (finals.PastLimit limit) Past head h x refused = tt

pub made_refuses : (error : FinalError) (why : CommitRefusal) (Past : PathLimit → Type 0) (head : ℕ) (h : List Recorded) (x : Txn) → why ≡ of_final error → IsRefused ⊥ Past error → Refuses why head h x
made_refuses error why Past head h x same refused = subst (λ z. Refuses z head h x) (sym same) (no_clash_made error Past head h x refused)

-- ---- what the transaction holds then

pub some_failed : (before now : ℕ) → Rose before now → 0 < now
some_failed before now rose = omega (arith, rose)

error_found : {X : Type 0} (error : TxnError) (old new : Option Failed) (before now : ℕ) (f : Folder) → IsSpentAfter {T = X} old new (Err error) → HasBenchCause {T = X} before now (Err error) → Finds now new f (of_txn error)
error_found (txns.Spent first) old new before now f spent cause = ap (λ o. is_some o) (spent.1 ∙ spent.0)
error_found (txns.Fault edits.OutOfMemory) old new before now f spent cause = tt
error_found (txns.Fault edits.DiskFault) old new before now f spent cause = tt
error_found (txns.Fault edits.BenchFault) old new before now f spent cause = some_failed before now cause.failed
error_found (txns.Fault (edits.Wrong w)) old new before now f spent cause = tt
error_found (txns.Fault edits.Lacking) old new before now f spent cause = tt

-- of a merge that failed
pub merge_found : {X : Type 0} (error : TxnError) (r : Result X TxnError) (why : CommitRefusal) (old new : Option Failed) (before now : ℕ) (f : Folder) → r ≡ Err error → why ≡ of_txn error → IsSpentAfter old new r → HasBenchCause before now r → Finds now new f why
merge_found error r why old new before now f is same spent cause =
    subst (λ z. Finds now new f z) (sym same) (error_found error old new before now f (subst (λ z. IsSpentAfter old new z) is spent) (subst (λ z. HasBenchCause before now z) is cause))

final_found : (error : FinalError) (faults : ℕ) (spent : Option Failed) (f : Folder) → IsRefused (Unit {0}) (HasPathPast f f.items) error → Finds faults spent f (of_final error)
final_found finals.OutOfMemory faults spent f refused = tt
final_found finals.SinkFault faults spent f refused = absurd refused
final_found finals.Lacking faults spent f refused = tt
final_found (finals.PastLimit limit) faults spent f refused = refused

-- of a text that was not made
pub made_found : (error : FinalError) (why : CommitRefusal) (faults : ℕ) (spent : Option Failed) (f g : Folder) (items : List ChangeItem) → why ≡ of_final error → g ≡ f → items ≡ f.items → IsRefused (Unit {0}) (HasPathPast g items) error → Finds faults spent f why
made_found error why faults spent f g items same folder here refused =
    subst (λ z. Finds faults spent f z) (sym same) (final_found error faults spent f (subst (λ l. IsRefused (Unit {0}) (HasPathPast f l) error) here (subst (λ z. IsRefused (Unit {0}) (HasPathPast z items) error) folder refused)))

-- ---- what it says of its bench

-- one that is not used up
pub unspent_lives : (spent : Option Failed) (faults : ℕ) → spent ≡ None → SpentByBench faults spent
unspent_lives spent faults none some = let no : false ≡ true = sym (ap (λ o. is_some o) none) ∙ some in absurd cc

error_blamed : {X : Type 0} (error : TxnError) (old new : Option Failed) (before now : ℕ) → IsSpentAfter {T = X} old new (Err error) → HasBenchCause {T = X} before now (Err error) → SpentByBench before old → Blames now new (of_txn error)
error_blamed (txns.Spent first) old new before now spent cause by =
    let failed : 0 < now = omega (arith, by (ap (λ o. is_some o) spent.0), cause.failed) in
    (λ some. failed, failed)
error_blamed (txns.Fault edits.OutOfMemory) old new before now spent cause by = (unspent_lives new now spent.1, tt)
error_blamed (txns.Fault edits.DiskFault) old new before now spent cause by = (unspent_lives new now spent.1, tt)
error_blamed (txns.Fault edits.BenchFault) old new before now spent cause by =
    let failed = some_failed before now cause.failed in
    (λ some. failed, failed)
error_blamed (txns.Fault (edits.Wrong w)) old new before now spent cause by = (unspent_lives new now spent.1, tt)
error_blamed (txns.Fault edits.Lacking) old new before now spent cause by = (unspent_lives new now spent.1, tt)

-- a merge that failed
pub merge_blamed : {X : Type 0} (error : TxnError) (r : Result X TxnError) (why : CommitRefusal) (old new : Option Failed) (before now : ℕ) → r ≡ Err error → why ≡ of_txn error → IsSpentAfter old new r → HasBenchCause before now r → SpentByBench before old → Blames now new why
merge_blamed error r why old new before now is same spent cause by =
    subst (λ z. Blames now new z) (sym same) (error_blamed error old new before now (subst (λ z. IsSpentAfter old new z) is spent) (subst (λ z. HasBenchCause before now z) is cause) by)

-- and one that is done
pub merge_lives : {X : Type 0} (done : X) (r : Result X TxnError) (old new : Option Failed) (now : ℕ) → r ≡ Ok done → IsSpentAfter old new r → SpentByBench now new
merge_lives done r old new now is spent = unspent_lives new now (subst (λ z. IsSpentAfter old new z) is spent).1

final_blamed : (error : FinalError) (Past : PathLimit → Type 0) (P : Type 0) → IsRefused (Unit {0}) Past error → IfBench (of_final error) P
final_blamed finals.OutOfMemory Past P refused = tt
final_blamed finals.SinkFault Past P refused = absurd refused
final_blamed finals.Lacking Past P refused = tt
final_blamed (finals.PastLimit limit) Past P refused = tt

-- a text that was not made
pub made_blamed : (error : FinalError) (why : CommitRefusal) (Past : PathLimit → Type 0) (faults : ℕ) (spent : Option Failed) → why ≡ of_final error → IsRefused (Unit {0}) Past error → spent ≡ None → Blames faults spent why
made_blamed error why Past faults spent same refused none = (unspent_lives spent faults none, subst (λ z. IfBench z (0 < faults)) (sym same) (final_blamed error Past (0 < faults) refused))

not_none : (o : Option Failed) (first : Failed) → o ≡ Some first → o ≡ None → ⊥
not_none o first e none = let same : Some first ≡ None = sym e ∙ none in cc

-- a failure that doesn't spend the transaction leaves it
pub stays_after : (error : TxnError) (old new : Option Failed) (P : Type 0) → IsSpentAfter {T = Outcome} old new (Err error) → IfStays error P → new ≡ None → P
stays_after (txns.Spent first) old new P after stays none = absurd stays
stays_after (txns.Fault edits.OutOfMemory) old new P after stays none = stays
stays_after (txns.Fault edits.DiskFault) old new P after stays none = stays
stays_after (txns.Fault edits.BenchFault) old new P after stays none = absurd (not_none new (record {}) after.1 none)
stays_after (txns.Fault (edits.Wrong w)) old new P after stays none = absurd stays
stays_after (txns.Fault edits.Lacking) old new P after stays none = absurd stays

-- ---- the count of faults

-- a refusal for a failed call of the disk is of a merge by which the count rose
pub merge_rose : {X : Type 0} (error : TxnError) (r : Result X TxnError) (before now : ℕ) → r ≡ Err error → HasDiskCause before now r → IsDiskFault (of_txn error) → Rose before now
merge_rose (txns.Spent first) r before now is cause fault = absurd fault
merge_rose (txns.Fault edits.OutOfMemory) r before now is cause fault = absurd fault
merge_rose (txns.Fault edits.DiskFault) r before now is cause fault = (subst (λ z. HasDiskCause before now z) is cause).failed
merge_rose (txns.Fault edits.BenchFault) r before now is cause fault = absurd fault
merge_rose (txns.Fault (edits.Wrong wrong)) r before now is cause fault = absurd fault
merge_rose (txns.Fault edits.Lacking) r before now is cause fault = absurd fault

-- what is made takes no call of the disk
pub made_none : (error : FinalError) → IsDiskFault (of_final error) → ⊥
made_none finals.OutOfMemory fault = fault
made_none finals.SinkFault fault = fault
made_none finals.Lacking fault = fault
made_none (finals.PastLimit limit) fault = fault
