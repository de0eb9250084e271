-- What a listing and a removal of transactions did, as the top call tells it.
use Rattle.std.proofs.Common.{◌≡◌, ℕ, List, [], ◌∷◌, take, Bool, true, false, cond, inl, inr, ⊎_elim, refl, sym, ap, subst, ◌∙◌}
use Rattle.std.proofs.lemmas.Option.{same_Some, none-some}
use Rattle.std.specs.Prelude.{◌||◌, Option, Some, None, IfSome, IfErr, option_map, Result, Ok, Err}
use Rattle.fsfs_base.specs.Failures.{Rose}
use Rattle.fsfs_disk.specs.Labels.{Label, Txn, Pack, HotCopy, has_label, without_label}
use Rattle.fsfs_disk.specs.Trace.{Trace, FirmNames, Done, Attempted, add_operation, files_now, labels_now, FailsAt}
use Rattle.fsfs_disk.specs.Crash.{AllImages, AreAll, Leaves, LeavesBoth}
use Rattle.fsfs_disk.proofs.CrashLemmas.{keeps_firm, leaves_then, leaves_with, own_images, same_leaves}
use Rattle.fsfs_disk.proofs.LeftLemmas.{amid_same, both_then, keeps_labels_at, same_both, both_with}
use Rattle.fsfs_layout.specs.Opening.{small_texts, IsOpened}
use Rattle.fsfs_layout.specs.declared.opened.Opened.{Opened}
use Rattle.fsfs_cli.specs.CommandFaults.{fault_from_open}
use Rattle.fsfs_cli.specs.declared.faults.fault.Fault.{Fault}
use Rattle.fsfs_base.specs.declared.places.open_fault.OpenFault.{OpenFault}
use Rattle.fsfs_create.specs.OpenFaults.{OpensBecause}
use Rattle.fsfs_create.specs.Deciding.{Decides}
use Rattle.fsfs_disk.specs.Transactions.Txns.{txn_label, AreTxns}
use Rattle.fsfs_disk.specs.Transactions.Removals.{first_lacking, labels_left, HasLabels, IfFailed, IsImageOf, Removes, WasKept, HasSameLabels}
use Rattle.fsfs_disk.proofs.InTurn.{old_kept}
use Rattle.fsfs_disk.specs.declared.transactions.removing.RemovalFault.{RemovalFault}
use Rattle.fsfs_disk.specs.declared.transactions.removing.RemovalFault.TheVariants.{NoTxn, Failed}
use Rattle.fsfs_top.specs.TxnAnswers.{same_txn, has_txn, without_txn, first_missing}
use Rattle.fsfs_workers.specs.Openings.{OpensAs, DoesNotOpen}
use Rattle.fsfs_top.specs.Scenes.{HostScene, Scene, SinkScene}
use Rattle.fsfs_top.specs.Transactions.{txns_of, Lists, ListsOpened, ListsTxns, removal_fault, IfRemovalFails, RemovesOpened, RemovesTxns, LeavesRemoval}
use Rattle.fsfs_top.proofs.CreationTold.{path_cases}
use Rattle.fsfs_top.proofs.FilesDecide.{does_not_open}
use Rattle.fsfs_top.proofs.LooksPrint.{counted_cause}

-- ---- the transactions among labels

has_same : (txn : ℕ × ℕ) (ls : List Label) → has_label (txn_label txn) ls ≡ has_txn txn (txns_of ls)
has_same txn [] = refl
has_same txn (Txn base number ∷ ls) = ap (λ b. same_txn (base, number) txn || b) (has_same txn ls)
has_same txn (Pack shard ∷ ls) = has_same txn ls
has_same txn (HotCopy ∷ ls) = has_same txn ls

without_same : (txn : ℕ × ℕ) (ls : List Label) → txns_of (without_label (txn_label txn) ls) ≡ without_txn txn (txns_of ls)
without_same txn [] = refl
without_same txn (Txn base number ∷ ls) = by_test (same_txn (base, number) txn) (without_same txn ls)
  where
    by_test : (b : Bool) → txns_of (without_label (txn_label txn) ls) ≡ without_txn txn (txns_of ls)
        → txns_of (cond b (without_label (txn_label txn) ls) (Txn base number ∷ without_label (txn_label txn) ls)) ≡ cond b (without_txn txn (txns_of ls)) ((base, number) ∷ without_txn txn (txns_of ls))
    by_test true e = e
    by_test false e = ap (λ (l : List (ℕ × ℕ)). (base, number) ∷ l) e
without_same txn (Pack shard ∷ ls) = without_same txn ls
without_same txn (HotCopy ∷ ls) = without_same txn ls

pub first_same : (txns : List (ℕ × ℕ)) (ls : List Label) → first_lacking txns ls ≡ first_missing txns (txns_of ls)
first_same [] ls = refl
first_same (txn ∷ txns) ls =
    ap (λ b. cond b (first_lacking txns (without_label (txn_label txn) ls)) (Some txn)) (has_same txn ls)
    ∙ ap (λ (o : Option (ℕ × ℕ)). cond (has_txn txn (txns_of ls)) o (Some txn)) (first_same txns (without_label (txn_label txn) ls) ∙ ap (first_missing txns) (without_same txn ls))

-- ---- names that are made firm

pub labels_firm : (old new : Option Trace) → FailsAt FirmNames old new → HasSameLabels old new
labels_firm old new at = ⊎_elim (λ e. ap (option_map labels_now) e) (λ d. ⊎_elim (λ e. ap (option_map labels_now) e ∙ unchanged old) (λ e. ap (option_map labels_now) e ∙ done old) d) at where
  unchanged : (o : Option Trace) → option_map labels_now (option_map (add_operation (Attempted FirmNames)) o) ≡ option_map labels_now o
  unchanged None = refl
  unchanged (Some t) = refl

  done : (o : Option Trace) → option_map labels_now (option_map (add_operation (Done FirmNames)) o) ≡ option_map labels_now o
  done None = refl
  done (Some t) = refl

-- what is told of the labels of one disk is told of the same labels
moved_labels : (P : List Label → Type 0) (old mid : Option Trace) → HasSameLabels old mid → IfSome mid (λ t. P (labels_now t)) → IfSome old (λ t. P (labels_now t))
moved_labels P None mid same h = tt
moved_labels P (Some t) None same h = absurd (none-some (labels_now t) same)
moved_labels P (Some t) (Some u) same h = subst P (same_Some (labels_now u) (labels_now t) same) h

moved_from : (f : List Label → List Label) (old mid new : Option Trace) → HasSameLabels old mid → HasLabels f mid new → HasLabels f old new
moved_from f old mid new same has = has ∙ mapped mid ∙ ap (option_map f) same ∙ sym (mapped old) where
  mapped : (o : Option Trace) → option_map (λ t. f (labels_now t)) o ≡ option_map f (option_map labels_now o)
  mapped None = refl
  mapped (Some t) = refl

-- ---- a listing

pub listed_now : (rose disk : Type 0) (old mid : Option Trace) (s r : SinkScene) (fault : Option Fault) → (rose → disk) → HasSameLabels old mid → Lists rose mid s r fault → Lists disk old s r fault
listed_now rose disk old mid s r fault counted same (inl (e, d, kept)) = inl (e, counted d, kept)
listed_now rose disk old mid s r fault counted same (inr (inl memory)) = inr (inl memory)
listed_now rose disk old mid s r fault counted same (inr (inr (names, are, line))) = inr (inr (names, moved_labels (λ ls. AreTxns ls names) old mid same are, line))

-- an opening that was refused
pub listing_refused : (rose : Type 0) (told : Option Trace) (s : SinkScene) (why : OpenFault) (fault : Fault) → fault ≡ fault_from_open why → OpensBecause rose told why → IfSome told (λ t. Decides (small_texts (files_now t)) (Err why)) → ListsOpened rose told s s (Some fault)
listing_refused rose told s why fault from because decides = inl (why, ap (λ (f : Fault). Some f) from, because, does_not_open told why decides, refl)

-- the same, of the disk that a host had
pub lists_told : (rose : Type 0) (repos : List ℕ) (a b : Scene) (told : Option Trace) (fault : Option Fault) → told ≡ a.host.disk_at repos → (rose → Rose a.host.disk_faults b.host.disk_faults) → ListsOpened rose told a.out b.out fault → ListsTxns repos a b fault
lists_told rose repos a b told fault same counted (inl (why, e, because, unopened, kept)) =
    inl (inr (why, e, subst (λ (x : Option Trace). OpensBecause (Rose a.host.disk_faults b.host.disk_faults) x why) same (counted_cause rose (Rose a.host.disk_faults b.host.disk_faults) told why counted because), subst (λ (x : Option Trace). DoesNotOpen x why) same unopened, kept))
lists_told rose repos a b told fault same counted (inr (o, opens, lists)) =
    inr (o, subst (λ (x : Option Trace). OpensAs x o) same opens, subst (λ (x : Option Trace). Lists (Rose a.host.disk_faults b.host.disk_faults) x a.out b.out fault) same (listed_now rose (Rose a.host.disk_faults b.host.disk_faults) told told a.out b.out fault counted refl lists))

-- ---- a removal

removes_from : (txns : List (ℕ × ℕ)) (old mid new : Option Trace) (result : Result (Unit {0}) RemovalFault) → HasSameLabels old mid → Removes txns mid new result → Removes txns old new result
removes_from txns old mid new (Ok done) same (labels, first) = (moved_from (labels_left txns) old mid new same labels, moved_labels (λ ls. first_lacking txns ls ≡ None) old mid same first)
removes_from txns old mid new (Err (NoTxn name)) same (labels, first) = (moved_from (labels_left txns) old mid new same labels, moved_labels (λ ls. first_lacking txns ls ≡ Some (name.base, name.number.number)) old mid same first)
removes_from txns old mid new (Err Failed) same (n, labels) = (n, moved_from (labels_left (take n txns)) old mid new same labels)

pub removal_done : (disk : Type 0) (txns : List (ℕ × ℕ)) (old mid new : Option Trace) (o : Opened) (result : Result (Unit {0}) RemovalFault) (fault : Option Fault) → IfSome old (λ t. IsOpened (small_texts (files_now t)) o) → HasSameLabels old mid
    → Removes txns mid new result → fault ≡ removal_fault result → IfRemovalFails disk result → RemovesOpened disk txns old new fault
removal_done disk txns old mid new o result fault opens same removes is fails = inr (o, opens, (result, removes_from txns old mid new result same removes, is, fails))

pub removal_refused : (disk : Type 0) (txns : List (ℕ × ℕ)) (old new : Option Trace) (why : OpenFault) (fault : Fault) → fault ≡ fault_from_open why → OpensBecause disk old why → IfSome old (λ t. Decides (small_texts (files_now t)) (Err why)) → HasSameLabels old new
    → RemovesOpened disk txns old new (Some fault)
removal_refused disk txns old new why fault from because decides same = inl (why, ap (λ (f : Fault). Some f) from, because, does_not_open old why decides, same)

counted_removal : (rose disk : Type 0) (result : Result (Unit {0}) RemovalFault) → (rose → disk) → IfRemovalFails rose result → IfRemovalFails disk result
counted_removal rose disk (Ok done) counted h = h
counted_removal rose disk (Err (NoTxn name)) counted h = h
counted_removal rose disk (Err Failed) counted h = counted h

-- of the disk that a host had
pub removes_told : (rose : Type 0) (repos : List ℕ) (txns : List (ℕ × ℕ)) (a b : HostScene) (old new : Option Trace) (fault : Option Fault) → old ≡ a.disk_at repos → b.disk_at repos ≡ new → (rose → Rose a.disk_faults b.disk_faults) → RemovesOpened rose txns old new fault → RemovesTxns repos txns a b fault
removes_told rose repos txns a b old new fault was is counted removes =
    let Here : Option Trace → Option Trace → Type 0 = λ x y. RemovesOpened (Rose a.disk_faults b.disk_faults) txns x y fault in
    inr (subst (λ (x : Option Trace). Here x (b.disk_at repos)) was (subst (λ (y : Option Trace). Here old y) (sym is) (recounted removes)))
  where
    recounted : RemovesOpened rose txns old new fault → RemovesOpened (Rose a.disk_faults b.disk_faults) txns old new fault
    recounted (inl (why, e, because, unopened, same)) = inl (why, e, counted_cause rose (Rose a.disk_faults b.disk_faults) old why counted because, unopened, same)
    recounted (inr (o, opens, (result, r, e, fails))) = inr (o, opens, (result, r, e, counted_removal rose (Rose a.disk_faults b.disk_faults) result counted fails))

-- ---- what a crash leaves

images_over : (old mid new : Option Trace) → AllImages mid (IsImageOf old) → Leaves mid new (IsImageOf mid) → Leaves mid new (IsImageOf old)
images_over old None new all leaves = tt
images_over old (Some u) new all leaves = leaves_with (Some u) new (IsImageOf (Some u)) (IsImageOf old) (λ m is. all m (is u refl)) leaves

kept_over : (old mid : Option Trace) → HasSameLabels old mid → (l : Label) → WasKept mid l → WasKept old l
kept_over old mid same l kept = moved_labels (λ ls. has_label l ls ≡ true) old mid same kept

pub removal_images : (old mid new : Option Trace) → FailsAt FirmNames old mid → Leaves mid new (IsImageOf mid) → Leaves old new (IsImageOf old)
removal_images old mid new firm leaves =
    let k = keeps_firm (IsImageOf old) old mid firm (own_images old) in
    leaves_then old mid new (IsImageOf old) k.1 (images_over old mid new k.0 leaves)

pub removal_labels : (old mid new : Option Trace) → FailsAt FirmNames old mid → LeavesBoth mid new (λ m ls. AreAll (WasKept mid) ls) → LeavesBoth old new (λ m ls. AreAll (WasKept old) ls)
removal_labels old mid new firm leaves =
    let k = keeps_labels_at FirmNames (WasKept old) old mid firm (amid_same FirmNames (WasKept old) (λ ls. refl)) (old_kept old) in
    both_then old mid new (λ m ls. AreAll (WasKept old) ls) k.1
    (both_with mid new (λ m ls. AreAll (WasKept mid) ls) (λ m ls. AreAll (WasKept old) ls) (λ m ls all l has. kept_over old mid (labels_firm old mid firm) l (all l has)) leaves)

-- where the repository was not opened
pub removal_unopened : (old mid : Option Trace) → FailsAt FirmNames old mid → LeavesRemoval old mid
removal_unopened old mid firm = (removal_images old mid mid firm (same_leaves mid mid (IsImageOf mid) refl), removal_labels old mid mid firm (same_both mid mid (λ m ls. AreAll (WasKept mid) ls) refl))

-- or not mounted
pub removal_unmounted : (old new : Option Trace) → new ≡ old → LeavesRemoval old new
removal_unmounted old new e = (same_leaves old new (IsImageOf old) e, same_both old new (λ m ls. AreAll (WasKept old) ls) e)

pub removal_fails : (rose disk same : Type 0) (result : Result (Unit {0}) RemovalFault) → (rose → disk) → IfErr result (IfFailed rose same) → IfRemovalFails disk result
removal_fails rose disk same (Ok done) counted h = tt
removal_fails rose disk same (Err (NoTxn name)) counted h = tt
removal_fails rose disk same (Err Failed) counted h = counted h

-- the labels are the same at this path and at every other
pub same_labels : (old new : List ℕ → Option Trace) (repos path : List ℕ) → HasSameLabels (old repos) (new repos) → ((p : List ℕ) → (p ≡ repos → ⊥) → new p ≡ old p) → HasSameLabels (old path) (new path)
same_labels old new repos path same others = ⊎_elim (λ is. subst (λ p. HasSameLabels (old p) (new p)) (sym is) same) (λ apart. ap (option_map labels_now) (others path apart)) (path_cases path repos)
