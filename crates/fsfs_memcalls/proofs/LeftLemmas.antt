-- What is picked is what a crash may leave.
use Rattle.std.proofs.Common.{◌≡◌, ℕ, List, [], ◌∷◌, length, take, Bool, true, false, inl, inr, ⊎_elim, refl, sym}
use Rattle.std.proofs.lemmas.Bool.{cases_lt}
use Rattle.std.proofs.lemmas.List.{append-nil, take_all}
use Rattle.std.specs.Prelude.{◌||◌, drop}
use Rattle.fsfs_folders.specs.System.CallRecord.{NameCall, Call, Named, Append, SyncFile, FailSync, SyncFolder, Firmed, Beginning, CallRecord, Contents, Standing, file_count, renamed_by, names_after, contents_now}
use Rattle.fsfs_folders.specs.System.Remains.{AreNamesLeft, AreBytesLeft, IsLeft, are_synced, folders_of}
use Rattle.fsfs_memcalls.specs.Left.{first_pick, kept_by, chosen, left_names, left_bytes, picked_names, picked_bytes}

named_left : (first : Beginning) (synced : List (List ℕ)) (change : NameCall) (calls : List Call) (pick : Bool) (was : Standing) → AreNamesLeft first synced calls was
    → AreNamesLeft first synced (Named change ∷ calls) (chosen (pick || are_synced synced (folders_of change)) (renamed_by change (file_count first calls) (names_after first calls) was) was)
named_left first synced change calls pick was left = go (pick || are_synced synced (folders_of change)) refl
  where
    none : (a b : Bool) → (a || b) ≡ false → b ≡ false
    none true b e = cc
    none false b e = e

    go : (b : Bool) → (pick || are_synced synced (folders_of change)) ≡ b → AreNamesLeft first synced (Named change ∷ calls) (chosen b (renamed_by change (file_count first calls) (names_after first calls) was) was)
    go true e = inr (was, left, refl)
    go false e = inl (none pick (are_synced synced (folders_of change)) e, left)

-- the names that are left where the picked changes are kept are such as a crash may leave
picked_are_left : (first : Beginning) (synced : List (List ℕ)) (calls : List Call) (pick : List Bool) → AreNamesLeft first synced calls (left_names first calls (kept_by synced calls pick))
picked_are_left first synced [] pick = refl
picked_are_left first synced (Named change ∷ calls) pick =
    named_left first synced change calls (first_pick pick) (left_names first calls (kept_by synced calls (drop 1 pick))) (picked_are_left first synced calls (drop 1 pick))
picked_are_left first synced (Append number bytes ∷ calls) pick = picked_are_left first synced calls (drop 1 pick)
picked_are_left first synced (SyncFile number ∷ calls) pick = picked_are_left first synced calls (drop 1 pick)
picked_are_left first synced (FailSync number ∷ calls) pick = picked_are_left first synced calls (drop 1 pick)
picked_are_left first synced (SyncFolder folder ∷ calls) pick = picked_are_left first (folder ∷ synced) calls (drop 1 pick)
picked_are_left first synced (Firmed ∷ calls) pick = picked_are_left first synced calls (drop 1 pick)

-- the firm bytes are such as a crash may leave
firm_are_left : (file : Contents) → AreBytesLeft file (take file.firm file.bytes)
firm_are_left file = ⊎_elim (λ short. inr (short, ([], sym (append-nil (take file.firm file.bytes))))) (λ whole. inl (take_all file.firm file.bytes whole)) (cases_lt file.firm (length file.bytes))

bytes_are_left : (all : Bool) (file : Contents) → AreBytesLeft file (left_bytes all file)
bytes_are_left true file = inl refl
bytes_are_left false file = firm_are_left file

pub picked_is_left : (pick : List Bool) (all : Bool) (r : CallRecord) → IsLeft r (picked_names pick r) (picked_bytes all r)
picked_is_left pick all r = record {
  named = picked_are_left r.first [] r.calls pick;
  each = λ number. bytes_are_left all (contents_now r number);
}
