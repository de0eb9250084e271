-- What a file has that was made, written and synced beside, and what is told of changes of names.
use Rattle.std.proofs.Common.{◌≡◌, ◌⊎◌, ℕ, List, [], ◌∷◌, ◌++◌, Bool, true, false, cond, inl, inr, ⊎_elim, refl, sym, ap, subst, ◌∙◌, arith}
use Rattle.std.proofs.lemmas.Bool.{and_from, eq-eqb, le-leb, not_from_false}
use Rattle.std.proofs.lemmas.Option.{none-some}
use Rattle.std.specs.Prelude.{◌≤◌, ◌^◌, ◌||◌, ◌&&◌, ◌==◌, not, nat_le, length, Option, Some, None, option_map, unwrap_or, IfSome, IsSome, is_some, Result, Ok, Err, OnOk, OnErr}
use Rattle.fsfs_disk.specs.Trace.{Trace, Operation, Done, Put, NameChange, Rename, Remove, FirmNames, Performs, IsThere, IsSize, file_at, add_operation}
use Rattle.fsfs_folders.specs.System.Paths.{has_path, folder_of}
use Rattle.fsfs_folders.specs.System.CallRecord as system
use Rattle.fsfs_folders.specs.System.CallRecord.{CallRecord, Call, Named, NameCall, Create, SyncFile, FailSync, Firmed, Standing, Contents, add_call, Makes, MayMake, Does, Allows, names_now, names_after, contents_now, contents_after, new_number, no_contents, more_bytes, made_firm, given, is_reachable}
use Rattle.fsfs_folders.proofs.NameLemmas.{given_at}
use Rattle.fsfs_folders.proofs.PathLemmas.{or_right}
use Rattle.fsfs_folders.specs.Told.{is_apart, shown, trace_of, operations_of, files_of, labels_of, bytes_at, bytes_after}
use Rattle.fsfs_folders.specs.Keeping.{keeps, is_newest, are_names_firm, are_folders_firm, is_place, is_whole, is_whole_file, is_naming, is_sound}
use Rattle.fsfs_folders.specs.Quiet.{IsQuiet, MakesQuietly}
use Rattle.fsfs_folders.specs.Writing.{joined, with_pieces, Writes, WritesSome}
use Rattle.fsfs_folders.specs.Standing.{told, IsWritten, IsWholeAt, bytes_under}
use Rattle.fsfs_folders.proofs.ShownLemmas.{shown_beside, shown_plain}
use Rattle.fsfs_folders.proofs.CrashTheorem.{now_told}
use Rattle.fsfs_folders.proofs.QuietLemmas.{quiet_none, quiet_then, quiet_append, quiet_file, quiet_fail}
use Rattle.fsfs_folders.proofs.WritingLemmas.{pieces_names, pieces_bytes}
use Rattle.fsfs_folders.proofs.SoundLemmas.{sound_parts, sound_of, sound_quiet, sound_created, told_quiet, told_created}

abbrev made_file : List ℕ → CallRecord → CallRecord
made_file path r = add_call (Named (Create path)) r

-- bytes at the end of the newest file are quiet
pieces_quiet : (number : ℕ) (pieces : List (List ℕ)) (r : CallRecord) → is_newest r.first r.calls number ≡ true
    → IsQuiet (Some r) (Some (with_pieces number pieces r)) × (is_newest (with_pieces number pieces r).first (with_pieces number pieces r).calls number ≡ true)
pieces_quiet number [] r newest = (quiet_none (Some r), newest)
pieces_quiet number (piece ∷ pieces) r newest =
    let before : IsQuiet (Some r) (Some (with_pieces number pieces r)) × (is_newest (with_pieces number pieces r).first (with_pieces number pieces r).calls number ≡ true) = pieces_quiet number pieces r newest in (
      quiet_then (Some r) (Some (with_pieces number pieces r)) (Some (with_pieces number (piece ∷ pieces) r)) before.0
          (quiet_append number piece (with_pieces number pieces r) (Some (with_pieces number (piece ∷ pieces) r)) before.1 refl),
      before.1,
    )

quiet_none_of : (b : Option CallRecord) → b ≡ None → IsQuiet None b
quiet_none_of b e = e

-- a file that was made just now may be written
pub made_quiet : (path bytes : List ℕ) (number : ℕ) (a b c : Option CallRecord) → Makes (Create path) a b → IfSome a (λ r. number ≡ new_number r) → Writes number bytes b c → IsQuiet b c
made_quiet path bytes number None b c makes is wrote = subst (λ o. IsQuiet o c) (sym makes) (quiet_none_of c (wrote.2 ∙ ap (λ o. option_map (with_pieces number wrote.0) o) makes))
made_quiet path bytes number (Some r) b c makes is wrote =
    subst (λ o. IsQuiet o c) (sym makes.1) (subst (λ o. IsQuiet (Some (made_file path r)) o) (sym (wrote.2 ∙ ap (λ o. option_map (with_pieces number wrote.0) o) makes.1))
    (pieces_quiet number wrote.0 (made_file path r) (eq-eqb number (new_number r) is)).0)

pub made_quiet_some : (path : List ℕ) (most number : ℕ) (a b c : Option CallRecord) → Makes (Create path) a b → IfSome a (λ r. number ≡ new_number r) → WritesSome number most b c → IsQuiet b c
made_quiet_some path most number a b c makes is wrote = made_quiet path wrote.0 number a b c makes is wrote.2

pub made_err : (path : List ℕ) (a b : Option CallRecord) → MayMake (Create path) a b → MakesQuietly path a b
made_err path a b may = (b, may, quiet_none b)

pub made_wrote_err : (path : List ℕ) (most number : ℕ) (a b c : Option CallRecord) → Makes (Create path) a b → IfSome a (λ r. number ≡ new_number r) → WritesSome number most b c → MakesQuietly path a c
made_wrote_err path most number a b c makes is wrote = (b, inr makes, made_quiet_some path most number a b c makes is wrote)

pub made_synced : {T E : Type 0} (result : Result T E) (path bytes : List ℕ) (number : ℕ) (a b c d : Option CallRecord) → Makes (Create path) a b → IfSome a (λ r. number ≡ new_number r) → Writes number bytes b c
    → OnOk result (Does (SyncFile number) c d) → OnErr result ((d ≡ c) ⊎ Does (FailSync number) c d) → MakesQuietly path a d
made_synced (Ok x) path bytes number a b c d makes is wrote done failed = (b, inr makes, quiet_then b c d (made_quiet path bytes number a b c makes is wrote) (quiet_file number c d done))
made_synced (Err e) path bytes number a b c d makes is wrote done failed =
    (b, inr makes, ⊎_elim (λ same. subst (λ o. IsQuiet b o) (sym same) (made_quiet path bytes number a b c makes is wrote)) (λ does. quiet_then b c d (made_quiet path bytes number a b c makes is wrote) (quiet_fail number c d does)) failed)

-- made, written and synced
pub written_beside : (path bytes : List ℕ) (number : ℕ) (a b c d : Option CallRecord) → Makes (Create path) a b → IfSome a (λ r. number ≡ new_number r)
    → Writes number bytes b c → Does (SyncFile number) c d → IfSome d (λ s. IsWritten s path bytes)
written_beside path bytes number None b c d makes is wrote does =
    subst (λ n. IfSome n (λ s. IsWritten s path bytes)) (sym (does ∙ ap (λ o. option_map (add_call (SyncFile number)) o) (wrote.2 ∙ ap (λ o. option_map (with_pieces number wrote.0) o) makes))) tt
written_beside path bytes number (Some r) b c d makes is wrote does =
    subst (λ n. IfSome n (λ s. IsWritten s path bytes)) (sym (does ∙ ap (λ o. option_map (add_call (SyncFile number)) o) (wrote.2 ∙ ap (λ o. option_map (with_pieces number wrote.0) o) makes.1))) (record {
      number = number;
      has = ap (λ (n : Standing). n.files path) (pieces_names number wrote.0 (made_file path r)) ∙ has;
      whole = ap (λ (c : Contents). c.bytes) synced;
      firm = ap (λ (c : Contents). c.firm) synced ∙ sym (ap (λ (c : Contents). length c.bytes) synced);
    })
  where
    written : CallRecord
    written = with_pieces number wrote.0 (made_file path r)

    empty : contents_now (made_file path r) number ≡ no_contents
    empty = ap (λ b. cond b no_contents (contents_now r number)) (eq-eqb number (new_number r) is)

    has : (names_now (made_file path r)).files path ≡ Some number
    has = given_at path (Some (new_number r)) (names_now r).files ∙ ap (λ n. Some n) (sym is)

    held : contents_now written number ≡ record no_contents { bytes = bytes }
    held = pieces_bytes number wrote.0 (made_file path r) ∙ ap (λ (c : Contents). more_bytes (joined wrote.0) c) empty ∙ ap {B = Contents} (λ x. record no_contents { bytes = x }) wrote.1

    synced : contents_now (add_call (SyncFile number) written) number ≡ made_firm (record no_contents { bytes = bytes })
    synced = ap (λ b. cond b (made_firm (contents_now written number)) (contents_now written number)) (eq-eqb number number refl) ∙ ap made_firm held

-- the bytes that stand there
pub written_bytes : (calls : Option CallRecord) (path bytes : List ℕ) → IfSome calls (λ r. IsWritten r path bytes) → (r : CallRecord) → calls ≡ Some r → bytes_under calls path ≡ bytes
written_bytes None path bytes w r e = absurd (none-some r e)
written_bytes (Some s) path bytes w r e = ap (λ o. unwrap_or (option_map (bytes_after s.first s.calls) o) []) w.has ∙ w.whole

-- a path may get a file, where the folders are firm
pub may_place : (path : List ℕ) (r : CallRecord) (changed : List (List ℕ)) (settled : Bool) → is_apart path ≡ false → settled ≡ true → is_sound (Some r) changed settled ≡ true
    → is_reachable (names_now r).folders path ≡ true → is_place r.first r.calls path ≡ true
may_place path r changed settled plain is_settled sound above =
    and_from (not (is_apart path)) (are_folders_firm r.calls && is_reachable (names_now r).folders path) (not_from_false (is_apart path) plain)
    (and_from (are_folders_firm r.calls) (is_reachable (names_now r).folders path) ((sound_parts r changed settled sound).2 is_settled) above)

-- a file that was written beside may get its name
pub may_give : (beside path : List ℕ) (calls : Option CallRecord) (changed : List (List ℕ)) (settled : Bool) → is_apart path ≡ false → settled ≡ true
    → is_sound calls changed settled ≡ true → IfSome calls (λ r. IsWholeAt r beside) → IfSome calls (λ r. Allows (names_now r) (system.Rename beside path) → is_naming r.first r.calls beside path ≡ true)
may_give beside path None changed settled plain is_settled sound whole = tt
may_give beside path (Some r) changed settled plain is_settled sound whole = λ allows.
    and_from (is_place r.first r.calls path) (is_some ((names_now r).files beside) && (not (is_apart beside) || is_whole_file r.first r.calls ((names_now r).files beside)))
    (may_place path r changed settled plain is_settled sound allows.0)
    (and_from (is_some ((names_now r).files beside)) (not (is_apart beside) || is_whole_file r.first r.calls ((names_now r).files beside)) allows.1
    (or_right (not (is_apart beside)) (is_whole_file r.first r.calls ((names_now r).files beside)) (ap (λ o. is_whole_file r.first r.calls o) whole.1 ∙ whole.2)))

pub on_ok : {T E : Type 0} {P Q : Type 0} (r : Result T E) → (P → Q) → OnOk r P → OnOk r Q
on_ok (Ok x) f p = f p
on_ok (Err e) f p = p

-- which files the disk tells
file_told : (r : CallRecord) (changed : List (List ℕ)) (settled : Bool) (path : List ℕ) → is_sound (Some r) changed settled ≡ true → file_at (trace_of r) path ≡ shown (bytes_after r.first r.calls) (names_now r) path
file_told r changed settled path sound = now_told r (sound_parts r changed settled sound).0 path

pub none_beside : (path : List ℕ) (calls : Option CallRecord) (changed : List (List ℕ)) (settled : Bool) → is_sound calls changed settled ≡ true → is_apart path ≡ true
    → IfSome (told calls) (λ t. IsThere (file_at t path) false)
none_beside path None changed settled sound beside = tt
none_beside path (Some r) changed settled sound beside =
    subst (λ f. IsThere f false) (sym (file_told r changed settled path sound ∙ shown_beside (bytes_after r.first r.calls) (names_now r) path beside)) refl

pub none_absent : (path : List ℕ) (calls : Option CallRecord) (changed : List (List ℕ)) (settled : Bool) → is_sound calls changed settled ≡ true → is_apart path ≡ false
    → IfSome calls (λ r. (names_now r).files path ≡ None) → IfSome (told calls) (λ t. IsThere (file_at t path) false)
none_absent path None changed settled sound plain absent = tt
none_absent path (Some r) changed settled sound plain absent =
    subst (λ f. IsThere f false) (sym (file_told r changed settled path sound ∙ shown_plain (bytes_after r.first r.calls) (names_now r) path plain ∙ ap (λ o. option_map (bytes_after r.first r.calls) o) absent)) refl

pub there_gone : (path : List ℕ) (old new : Option CallRecord) (changed : List (List ℕ)) (settled : Bool) → is_sound old changed settled ≡ true → is_apart path ≡ false
    → Makes (system.Remove path) old new → IfSome (told old) (λ t. IsThere (file_at t path) true)
there_gone path None new changed settled sound plain makes = tt
there_gone path (Some r) new changed settled sound plain makes =
    subst (λ f. IsThere f true) (sym (file_told r changed settled path sound ∙ shown_plain (bytes_after r.first r.calls) (names_now r) path plain)) (mapped_there ((names_now r).files path) makes.0)
  where
    mapped_there : (o : Option ℕ) → IsSome o → IsThere (option_map (bytes_after r.first r.calls) o) true
    mapped_there None e = let h : false ≡ true = e in cc
    mapped_there (Some n) e = refl

pub if_given : (P : CallRecord → Type 0) (Q : Type 0) (calls : Option CallRecord) → IfSome calls (λ r. Q → P r) → Q → IfSome calls P
if_given P Q None h q = tt
if_given P Q (Some r) h q = h q

pub put_told : (path bytes beside : List ℕ) (old mid new : Option CallRecord) → told mid ≡ told old → IfSome mid (λ r. IsWritten r beside bytes)
    → Performs (Put path (bytes_under mid beside)) (told mid) (told new) → Performs (Put path bytes) (told old) (told new)
put_told path bytes beside old None new e w p = p ∙ ap (λ t. option_map (add_operation (Done (Put path bytes))) t) e
put_told path bytes beside old (Some r) new e w p =
    subst (λ b. told new ≡ option_map (add_operation (Done (Put path b))) (told (Some r))) (written_bytes (Some r) beside bytes w r refl) p
    ∙ ap (λ t. option_map (add_operation (Done (Put path bytes))) t) e

pub put_fails : (path bytes beside : List ℕ) (old mid new : Option CallRecord) → told mid ≡ told old → IfSome mid (λ r. IsWritten r beside bytes)
    → (told new ≡ told mid) ⊎ Performs (Put path (bytes_under mid beside)) (told mid) (told new) → (told new ≡ told old) ⊎ Performs (Put path bytes) (told old) (told new)
put_fails path bytes beside old mid new e w failed = ⊎_elim (λ s. inl (s ∙ e)) (λ p. inr (put_told path bytes beside old mid new e w p)) failed

-- the length of a file
pub size_told : (path : List ℕ) (calls : Option CallRecord) (changed : List (List ℕ)) (settled : Bool) (number n : ℕ) → is_sound calls changed settled ≡ true → is_apart path ≡ false
    → IfSome calls (λ r. (names_now r).files path ≡ Some number) → IfSome calls (λ r. n ≡ length (contents_now r number).bytes) → IfSome (told calls) (λ t. IsSize (file_at t path) (Some n))
size_told path None changed settled number n sound plain has is = tt
size_told path (Some r) changed settled number n sound plain has is =
    ap (λ k. Some k) is
    ∙ sym (ap (λ f. option_map (λ (bytes : List ℕ). length bytes) f) (file_told r changed settled path sound ∙ shown_plain (bytes_after r.first r.calls) (names_now r) path plain ∙ ap (λ o. option_map (bytes_after r.first r.calls) o) has))
