-- Which calls are quiet, and that quiet calls follow one another.
use Rattle.std.proofs.Common.{◌≡◌, ◌⊎◌, ℕ, List, [], ◌∷◌, ◌++◌, true, ⊎_elim, refl, sym, ap, subst, ◌∙◌}
use Rattle.std.proofs.lemmas.Bool.{and_from}
use Rattle.std.proofs.lemmas.Option.{none-some}
use Rattle.std.specs.Prelude.{Option, Some, None}
use Rattle.fsfs_folders.specs.System.CallRecord.{CallRecord, Append, SyncFile, FailSync, SyncFolder, add_call, Does}
use Rattle.fsfs_folders.specs.System.Remains.{of_names, of_folders}
use Rattle.fsfs_folders.proofs.PathLemmas.{has_tail}
use Rattle.fsfs_folders.proofs.LeftLemmas.{firm_more}
use Rattle.fsfs_folders.specs.Told.{is_in_bench}
use Rattle.fsfs_folders.specs.Keeping.{keeps, is_newest, are_names_firm}
use Rattle.fsfs_folders.specs.Quiet.{GoesOnQuietly, IsQuiet, IsSynced}

pub quiet_none : (old : Option CallRecord) → IsQuiet old old
quiet_none None = refl
quiet_none (Some r) = record { keeping = λ k. k; told = refl; names = refl; firm = λ folders f. f; settled = λ f. f }

pub quiet_then : (a b c : Option CallRecord) → IsQuiet a b → IsQuiet b c → IsQuiet a c
quiet_then None b c f g = none b f g
  where
    none : (b : Option CallRecord) → b ≡ None → IsQuiet b c → c ≡ None
    none None e h = h
    none (Some r) e h = absurd (none-some r (sym e))
quiet_then (Some r) None c f g = absurd f
quiet_then (Some r) (Some s) None f g = absurd g
quiet_then (Some r) (Some s) (Some t) f g = record {
  keeping = λ k. g.keeping (f.keeping k);
  told = g.told ∙ f.told;
  names = g.names ∙ f.names;
  firm = λ folders h. g.firm folders (f.firm folders h);
  settled = λ h. g.settled (f.settled h);
}

sync_quiet : (folder : List ℕ) (r : CallRecord) → GoesOnQuietly r (add_call (SyncFolder folder) r)
sync_quiet folder r = record {
  keeping = λ k. and_from (keeps r.first r.calls) true k refl;
  told = refl;
  names = refl;
  firm = λ folders h. firm_more (of_names is_in_bench) folders (folder ∷ folders) r.calls (λ q e. has_tail folder q folders e) h;
  settled = λ h. firm_more (of_folders is_in_bench) [] (folder ∷ []) r.calls (λ q e. has_tail folder q [] e) h;
}

pub quiet_sync : (folder : List ℕ) (old new : Option CallRecord) → Does (SyncFolder folder) old new → IsQuiet old new
quiet_sync folder None new e = e
quiet_sync folder (Some r) new e = subst (λ n. IsQuiet (Some r) n) (sym e) (sync_quiet folder r)

pub quiet_append : (number : ℕ) (bytes : List ℕ) (r : CallRecord) (new : Option CallRecord)
    → is_newest r.first r.calls number ≡ true → Does (Append number bytes) (Some r) new → IsQuiet (Some r) new
quiet_append number bytes r new newest e = subst (λ n. IsQuiet (Some r) n) (sym e) (record {
  keeping = λ k. and_from (keeps r.first r.calls) (is_newest r.first r.calls number) k newest;
  told = refl;
  names = refl;
  firm = λ folders h. h;
  settled = λ h. h;
})

pub quiet_file : (number : ℕ) (old new : Option CallRecord) → Does (SyncFile number) old new → IsQuiet old new
quiet_file number None new e = e
quiet_file number (Some r) new e = subst (λ n. IsQuiet (Some r) n) (sym e) (record {
  keeping = λ k. and_from (keeps r.first r.calls) true k refl;
  told = refl;
  names = refl;
  firm = λ folders h. h;
  settled = λ h. h;
})

pub quiet_fail : (number : ℕ) (old new : Option CallRecord) → Does (FailSync number) old new → IsQuiet old new
quiet_fail number None new e = e
quiet_fail number (Some r) new e = subst (λ n. IsQuiet (Some r) n) (sym e) (record {
  keeping = λ k. and_from (keeps r.first r.calls) true k refl;
  told = refl;
  names = refl;
  firm = λ folders h. h;
  settled = λ h. h;
})

pub synced_none : (old : Option CallRecord) → IsSynced [] old old
synced_none None = tt
synced_none (Some r) = λ more h. h

concat_one : (folders : List (List ℕ)) (folder : List ℕ) (more : List (List ℕ)) → (folders ++ folder ∷ []) ++ more ≡ folders ++ folder ∷ more
concat_one [] folder more = refl
concat_one (f ∷ folders) folder more = ap (λ fs. f ∷ fs) (concat_one folders folder more)

-- a folder more
pub synced_then : (folders : List (List ℕ)) (folder : List ℕ) (a b c : Option CallRecord)
    → IsSynced folders a b → Does (SyncFolder folder) b c → IsSynced (folders ++ folder ∷ []) a c
synced_then folders folder None b c s e = tt
synced_then folders folder (Some r) None c s e = absurd s
synced_then folders folder (Some r) (Some t) c s e = subst (λ n. IsSynced (folders ++ folder ∷ []) (Some r) n) (sym e)
    (λ more h. s (folder ∷ more) (subst (λ fs. are_names_firm fs r.calls ≡ true) (concat_one folders folder more) h))

-- a folder more was synced
pub sync_more : (done : List (List ℕ)) (folder : List ℕ) (a b c : Option CallRecord) → IsQuiet a b → IsSynced done a b → Does (SyncFolder folder) b c → IsQuiet a c × IsSynced (done ++ folder ∷ []) a c
sync_more done folder a b c q s e = (quiet_then a b c q (quiet_sync folder b c e), synced_then done folder a b c s e)

pub sync_failed : (folder : List ℕ) (a b c : Option CallRecord) → IsQuiet a b → (c ≡ b) ⊎ Does (SyncFolder folder) b c → IsQuiet a c
sync_failed folder a b c q failed = ⊎_elim (λ same. subst (λ o. IsQuiet a o) (sym same) q) (λ did. quiet_then a b c q (quiet_sync folder b c did)) failed
