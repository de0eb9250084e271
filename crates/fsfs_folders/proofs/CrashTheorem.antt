-- Whatever the system may leave after calls that keep to the rules shows one of the images that the disk tells.
use Rattle.std.proofs.Common.{◌≡◌, ℕ, List, [], ◌∷◌, true, false, cond, ⊎_elim, refl, sym, ap, subst, ◌∙◌, arith}
use Rattle.std.proofs.lemmas.Bool.{cases_Bool, and_parts, eqb-true}
use Rattle.std.proofs.lemmas.Option.{none-some}
use Rattle.std.specs.Prelude.{length, Option, Some, None, option_map, IfSome}
use Rattle.std.specs.FinMap.{get}
use Rattle.fsfs_base.specs.Files.{Files}
use Rattle.fsfs_disk.specs.Trace.{Operation, Done, Put, Rename, Remove, IsImage, files_now}
use Rattle.fsfs_folders.specs.System.CallRecord as system
use Rattle.fsfs_folders.specs.System.CallRecord.{Call, Named, MakeFolder, DropFolder, Create, Take, Append, SyncFile, FailSync, SyncFolder, Firmed, Beginning, CallRecord, Standing, contents_now, names_now, file_count}
use Rattle.fsfs_folders.specs.System.Remains.{AreNamesLeft, AreBytesLeft, IsLeft}
use Rattle.fsfs_folders.proofs.NameLemmas.{given_apart}
use Rattle.fsfs_folders.proofs.LeftLemmas.{now_is_left, number_within}
use Rattle.fsfs_folders.specs.Told.{is_apart, shown, AreShown, bytes_after, bytes_at, operations_of, trace_of, ShowsFiles, LeavesImages}
use Rattle.fsfs_folders.specs.LabelPaths.{label_at}
use Rattle.fsfs_folders.specs.Keeping.{keeps, is_newest, is_place, is_whole, may_call}
use Rattle.fsfs_folders.proofs.ShownLemmas.{apart_from_beside, shown_beside, shown_plain}
use Rattle.fsfs_folders.proofs.Held.{Holds, held_first, held_append, held_sync, held_fail_sync, held_sync_folder, held_firmed, held_kept, held_dropped}
use Rattle.fsfs_folders.proofs.HeldNames.{held_folder, held_create, held_remove_beside, held_remove, held_put, held_rename, moved_at, naming_from, IsNaming}
use Rattle.fsfs_folders.proofs.HeldParts.{held_drop, held_take}

-- the newest file has no name of the repository
pub newest_unseen : (first : Beginning) (synced : List (List ℕ)) (calls : List Call) (number : ℕ) → keeps first calls ≡ true → is_newest first calls number ≡ true
    → (left : Standing) (q : List ℕ) (k : ℕ) → AreNamesLeft first synced calls left → is_apart q ≡ false → left.files q ≡ Some k → (k ≡ number → ⊥)
newest_unseen first synced [] number kept newest left q k are plain e same = let h : false ≡ true = newest in cc
newest_unseen first synced (Named (MakeFolder path) ∷ calls) number kept newest left q k are plain e same = let h : false ≡ true = newest in cc
newest_unseen first synced (Named (DropFolder path) ∷ calls) number kept newest left q k are plain e same = let h : false ≡ true = newest in cc
newest_unseen first synced (Named (Take path contents) ∷ calls) number kept newest left q k are plain e same = let h : false ≡ true = newest in cc
newest_unseen first synced (Named (Create path) ∷ calls) number kept newest left q k are plain e same =
    let is : number ≡ file_count first calls = eqb-true number (file_count first calls) newest in
    ⊎_elim (λ was. omega (arith, same, is, number_within first synced calls left q k was.1 e))
    (λ done. omega (
      arith,
      same,
      is,
      number_within first synced calls done.0 q k done.1
          (sym (given_apart path (Some (file_count first calls)) done.0.files q (apart_from_beside path q (and_parts (keeps first calls) (is_apart path) kept).1 plain)) ∙ sym (ap (λ (n : Standing). n.files q) done.2) ∙ e),
    )) are
newest_unseen first synced (Named (system.Rename from to) ∷ calls) number kept newest left q k are plain e same = let h : false ≡ true = newest in cc
newest_unseen first synced (Named (system.Remove path) ∷ calls) number kept newest left q k are plain e same = let h : false ≡ true = newest in cc
newest_unseen first synced (Append other bytes ∷ calls) number kept newest left q k are plain e same = newest_unseen first synced calls number (and_parts (keeps first calls) (may_call first calls (Append other bytes)) kept).0 newest left q k are plain e same
newest_unseen first synced (SyncFile other ∷ calls) number kept newest left q k are plain e same = newest_unseen first synced calls number (and_parts (keeps first calls) (may_call first calls (SyncFile other)) kept).0 newest left q k are plain e same
newest_unseen first synced (FailSync other ∷ calls) number kept newest left q k are plain e same = newest_unseen first synced calls number (and_parts (keeps first calls) (may_call first calls (FailSync other)) kept).0 newest left q k are plain e same
newest_unseen first synced (SyncFolder folder ∷ calls) number kept newest left q k are plain e same = newest_unseen first (folder ∷ synced) calls number (and_parts (keeps first calls) (may_call first calls (SyncFolder folder)) kept).0 newest left q k are plain e same
newest_unseen first synced (Firmed ∷ calls) number kept newest left q k are plain e same = newest_unseen first synced calls number (and_parts (keeps first calls) (may_call first calls Firmed) kept).0 newest left q k are plain e same

-- what holds after all calls that keep to the rules
pub holds : (first : Beginning) (calls : List Call) → keeps first calls ≡ true → Holds first calls (operations_of first calls)
holds first [] kept = held_first first kept
holds first (call ∷ calls) kept =
    let parts : (keeps first calls ≡ true) × (may_call first calls call ≡ true) = and_parts (keeps first calls) (may_call first calls call) kept in
    step call parts.0 parts.1 (holds first calls parts.0)
  where
    named : (from to : List ℕ) (operations : List Operation) → IsNaming first calls from to → Holds first calls operations
        → Holds first (Named (system.Rename from to) ∷ calls) (Done (cond (is_apart from) (Put to (bytes_at first calls from)) (Rename from to)) ∷ operations)
    named from to operations naming held =
        ⊎_elim (λ beside. subst (λ b. Holds first (Named (system.Rename from to) ∷ calls) (Done (cond b (Put to (bytes_at first calls from)) (Rename from to)) ∷ operations)) (sym beside)
        (subst (λ x. Holds first (Named (system.Rename from to) ∷ calls) (Done (Put to x) ∷ operations)) (sym (moved_at first calls operations from to naming held)) (held_put first calls operations from to naming held beside)))
        (λ plain. subst (λ b. Holds first (Named (system.Rename from to) ∷ calls) (Done (cond b (Put to (bytes_at first calls from)) (Rename from to)) ∷ operations)) (sym plain)
        (held_rename first calls operations from to naming held plain)) (cases_Bool (is_apart from))

    unnamed : (path : List ℕ) (operations : List Operation) → Holds first calls operations
        → Holds first (Named (system.Remove path) ∷ calls) (cond (is_apart path) operations (Done (Remove path) ∷ operations))
    unnamed path operations held =
        ⊎_elim (λ beside. subst (λ b. Holds first (Named (system.Remove path) ∷ calls) (cond b operations (Done (Remove path) ∷ operations))) (sym beside) (held_remove_beside first calls operations path beside held))
        (λ plain. subst (λ b. Holds first (Named (system.Remove path) ∷ calls) (cond b operations (Done (Remove path) ∷ operations))) (sym plain) (held_remove first calls operations path plain held)) (cases_Bool (is_apart path))

    step : (call : Call) → keeps first calls ≡ true → may_call first calls call ≡ true → Holds first calls (operations_of first calls) → Holds first (call ∷ calls) (operations_of first (call ∷ calls))
    step (Named (MakeFolder path)) kept may held = held_kept first (Named (MakeFolder path) ∷ calls) (operations_of first calls) (label_at path) (held_folder first calls (operations_of first calls) path held)
    step (Named (DropFolder path)) kept may held = held_dropped first (Named (DropFolder path) ∷ calls) (operations_of first calls) (label_at path) (held_drop first calls (operations_of first calls) path held may)
    step (Named (Take path contents)) kept may held =
        let parts : (is_place first calls path ≡ true) × (is_whole contents ≡ true) = and_parts (is_place first calls path) (is_whole contents) may in
        held_take first calls (operations_of first calls) path held contents parts.0 parts.1
    step (Named (Create path)) kept may held = held_create first calls (operations_of first calls) path may held
    step (Named (system.Rename from to)) kept may held = named from to (operations_of first calls) (naming_from first calls from to may) held
    step (Named (system.Remove path)) kept may held = unnamed path (operations_of first calls) held
    step (Append number bytes) kept may held = held_append first calls (operations_of first calls) number bytes (newest_unseen first [] calls number kept may) (now_is_left first [] calls) held
    step (SyncFile number) kept may held = held_sync first calls (operations_of first calls) number held
    step (FailSync number) kept may held = held_fail_sync first calls (operations_of first calls) number held
    step (SyncFolder folder) kept may held = held_sync_folder first calls (operations_of first calls) folder held
    step Firmed kept may held = held_firmed first calls (operations_of first calls) may held

-- the files that are shown now are those of the trace
pub now_told : (r : CallRecord) → keeps r.first r.calls ≡ true → AreShown (bytes_after r.first r.calls) (names_now r) (files_now (trace_of r))
now_told r kept = (holds r.first r.calls kept).now

-- what a crash leaves shows an image of the trace
pub left_is_image : (r : CallRecord) → keeps r.first r.calls ≡ true → (names : Standing) (bytes : ℕ → List ℕ) (m : Files) → IsLeft r names bytes → ShowsFiles names bytes m → IsImage (trace_of r).first (trace_of r).operations m
left_is_image r keep names bytes m left shows =
    held.image names m left.named (λ q. ⊎_elim (hidden q) (there q) (cases_Bool (is_apart q)))
  where
    held : Holds r.first r.calls (operations_of r.first r.calls)
    held = holds r.first r.calls keep

    hidden : (q : List ℕ) → is_apart q ≡ true → get m q ≡ shown (bytes_after r.first r.calls) names q
    hidden q beside = none (get m q) refl ∙ sym (shown_beside (bytes_after r.first r.calls) names q beside)
      where
        none : (o : Option (List ℕ)) → get m q ≡ o → get m q ≡ None
        none None e = e
        none (Some file) e = let h : true ≡ false = sym beside ∙ (shows.only q file e).0 in cc

    kept : (c : system.Contents) (b : List ℕ) → c.firm ≡ length c.bytes → AreBytesLeft c b → b ≡ c.bytes
    kept c b firm left = ⊎_elim (λ e. e) (λ torn. absurd (omega (arith, firm, torn.0))) left

    there : (q : List ℕ) → is_apart q ≡ false → get m q ≡ shown (bytes_after r.first r.calls) names q
    there q plain = by_file (names.files q) refl ∙ sym (shown_plain (bytes_after r.first r.calls) names q plain)
      where
        absent : (o : Option (List ℕ)) → get m q ≡ o → names.files q ≡ None → get m q ≡ None
        absent None e lacks = e
        absent (Some file) e lacks = absurd (none-some _ (sym lacks ∙ (shows.only q file e).1.1))

        by_file : (o : Option ℕ) → names.files q ≡ o → get m q ≡ option_map (bytes_after r.first r.calls) (names.files q)
        by_file None e = absent (get m q) refl e ∙ sym (ap (λ f. option_map (bytes_after r.first r.calls) f) e)
        by_file (Some k) e = shows.there q k plain e (held.rooted names q k left.named plain e)
            ∙ ap (λ b. Some b) (kept (contents_now r k) (bytes k) (held.firm names q k left.named plain e) (left.each k)) ∙ sym (ap (λ f. option_map (bytes_after r.first r.calls) f) e)

-- the same of calls that may tell nothing
pub leaves_images : (calls : Option CallRecord) → IfSome calls (λ r. keeps r.first r.calls ≡ true) → IfSome calls (λ r. LeavesImages r)
leaves_images None kept = tt
leaves_images (Some r) kept = left_is_image r kept
