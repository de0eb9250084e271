-- What a bench tells after one of its files has changed.
use Rattle.std.proofs.Common.{◌≡◌, ◌⊎◌, ℕ, List, [], ◌∷◌, ◌++◌, Bool, true, false, cond, inl, inr, ⊎_elim, refl, sym, ap, subst, ◌∙◌, arith}
use Rattle.std.proofs.lemmas.Option.{same_Some, none-some}
use Rattle.std.specs.Prelude.{◌≤◌, ◌^◌, length, Option, Some, None, option_map, unwrap_or, IfSome, is_some, is_err, Result, Ok, Err, IfOk, OnOk, OnErr}
use Rattle.std.specs.FinMap.{get}
use Rattle.fsfs_base.specs.Files.{Files, same_text}
use Rattle.fsfs_base.proofs.FileLemmas.{same_files}
use Rattle.fsfs_disk.specs.Benches.{with_file, appended, written, removed, bytes_in, bytes_on, Spoils}
use Rattle.fsfs_disk.specs.Trace.{IsThere}
use Rattle.fsfs_folders.specs.System.Listing.{is_entry}
use Rattle.fsfs_folders.specs.System.CallRecord.{CallRecord, Contents, no_contents, more_bytes, made_firm, made_lost, names_now, contents_now}
use Rattle.fsfs_folders.proofs.PathLemmas.{same_itself}
use Rattle.fsfs_folders.specs.SameText.{text_cases}
use Rattle.fsfs_folders.specs.BenchFiles.{file_held, file_or_new, bytes_of, files_held, bench_told, firm_part, firm_held, Follows, Sets, SetsAny, AreShort, AreKept}
use Rattle.fsfs_folders.specs.Writing.{bytes_there}
use Rattle.fsfs_folders.specs.Laws.{get_with}
use Rattle.fsfs_folders.proofs.HeldFiles.{files_told, held_outside}

chosen : (b : Bool) (file was : Option Contents) → bytes_of (cond b file was) ≡ cond b (bytes_of file) (bytes_of was)
chosen true file was = refl
chosen false file was = refl

-- the files are as before but for this one
pub sets_files : (name : List ℕ) (file : Option Contents) (r s : CallRecord) → ((q : List ℕ) → file_held s q ≡ cond (same_text q name) file (file_held r q)) → files_held s ≡ with_file name (bytes_of file) (files_held r)
sets_files name file r s sets = same_files (files_held s) (with_file name (bytes_of file) (files_held r)) (λ q.
    files_told s q ∙ ap bytes_of (sets q) ∙ chosen (same_text q name) file (file_held r q)
    ∙ ap (λ x. cond (same_text q name) (bytes_of file) x) (sym (files_told r q)) ∙ sym (get_with (files_held r) name (bytes_of file) q))

-- by another word for the same file
pub sets_as : (name : List ℕ) (f g : CallRecord → Option Contents) (old new : Option CallRecord) → ((r : CallRecord) → old ≡ Some r → f r ≡ g r) → Sets name f old new → Sets name g old new
sets_as name f g None new same sets = sets
sets_as name f g (Some r) None same sets = sets
sets_as name f g (Some r) (Some s) same sets = λ q. sets q ∙ ap (λ x. cond (same_text q name) x (file_held r q)) (same r refl)

pub sets_then : (name : List ℕ) (f g h : CallRecord → Option Contents) (a b c : Option CallRecord) → Sets name f a b → Sets name g b c → ((r s : CallRecord) → a ≡ Some r → b ≡ Some s → g s ≡ h r) → Sets name h a c
sets_then name f g h None b c one two same = subst (λ o. Sets name g o c) one two
sets_then name f g h (Some r) None c one two same = absurd one
sets_then name f g h (Some r) (Some s) None one two same = absurd two
sets_then name f g h (Some r) (Some s) (Some t) one two same = λ q.
    two q ∙ ap (λ x. cond (same_text q name) (g s) x) (one q) ∙ twice (same_text q name) (g s) (f r) (file_held r q) ∙ ap (λ x. cond (same_text q name) x (file_held r q)) (same r s refl refl)
  where
    twice : (b : Bool) (x y z : Option Contents) → cond b x (cond b y z) ≡ cond b x z
    twice true x y z = refl
    twice false x y z = refl

-- nothing changed
pub sets_same : (name : List ℕ) (old : Option CallRecord) → Sets name (λ r. file_held r name) old old
sets_same name None = refl
sets_same name (Some r) = λ q. ⊎_elim (λ s. ap (λ x. file_held r x) s.0 ∙ sym (ap (λ b. cond b (file_held r name) (file_held r q)) s.1)) (λ o. sym (ap (λ b. cond b (file_held r name) (file_held r q)) o.1)) (text_cases q name)

pub sets_at : (name : List ℕ) (f : CallRecord → Option Contents) (r s : CallRecord) → Sets name f (Some r) (Some s) → file_held s name ≡ f r
sets_at name f r s sets = sets name ∙ ap (λ b. cond b (f r) (file_held r name)) (same_itself name)

or_new : (o : Option Contents) → unwrap_or (bytes_of o) [] ≡ (unwrap_or o no_contents).bytes
or_new None = refl
or_new (Some file) = refl

-- the bytes of a file that may be new
pub bytes_or_new : (r : CallRecord) (name : List ℕ) → bytes_in (files_held r) name ≡ (file_or_new r name).bytes
bytes_or_new r name = ap (λ o. unwrap_or o []) (files_told r name) ∙ or_new (file_held r name)

pub appended_told : (name bytes : List ℕ) (old new : Option CallRecord) → Sets name (λ r. Some (more_bytes bytes (file_or_new r name))) old new → bench_told new ≡ option_map (appended name bytes) (bench_told old)
appended_told name bytes None new sets = ap bench_told sets
appended_told name bytes (Some r) None sets = absurd sets
appended_told name bytes (Some r) (Some s) sets = ap {B = Option Files} (λ m. Some m)
    (sets_files name (Some (more_bytes bytes (file_or_new r name))) r s sets ∙ ap (λ b. with_file name (Some (b ++ bytes)) (files_held r)) (sym (bytes_or_new r name)))

pub written_told : (name bytes : List ℕ) (old new : Option CallRecord) → Sets name (λ r. Some (more_bytes bytes no_contents)) old new → bench_told new ≡ option_map (written name bytes) (bench_told old)
written_told name bytes None new sets = ap bench_told sets
written_told name bytes (Some r) None sets = absurd sets
written_told name bytes (Some r) (Some s) sets = ap {B = Option Files} (λ m. Some m) (sets_files name (Some (more_bytes bytes no_contents)) r s sets)

pub removed_told : (name : List ℕ) (old new : Option CallRecord) → Sets name (λ r. None) old new → bench_told new ≡ option_map (removed name) (bench_told old)
removed_told name None new sets = ap bench_told sets
removed_told name (Some r) None sets = absurd sets
removed_told name (Some r) (Some s) sets = ap {B = Option Files} (λ m. Some m) (sets_files name None r s sets)

pub spoils_told : (name : List ℕ) (old new : Option CallRecord) → SetsAny name old new → Spoils name (bench_told old) (bench_told new)
spoils_told name old new (inl same) = inl (ap bench_told same)
spoils_told name old new (inr sets) = set old new sets.0 sets.2
  where
    set : (old new : Option CallRecord) (any : CallRecord → Option Contents) → Sets name any old new → Spoils name (bench_told old) (bench_told new)
    set None new any sets = inl (ap bench_told sets)
    set (Some r) None any sets = absurd sets
    set (Some r) (Some s) any sets = inr (bytes_of (any r), ap {B = Option Files} (λ m. Some m) (sets_files name (any r) r s sets))

-- how far the other files are firm
pub firm_others : (name : List ℕ) (f : CallRecord → Option Contents) (old new : Option CallRecord) → Sets name f old new → (q : List ℕ) → (q ≡ name → ⊥) → firm_held new q ≡ firm_held old q
firm_others name f None new sets q other = ap (λ o. firm_held o q) sets
firm_others name f (Some r) None sets q other = absurd sets
firm_others name f (Some r) (Some s) sets q other =
    ⊎_elim (λ t. absurd (other t.0)) (λ o. ap firm_part (sets q ∙ ap (λ b. cond b (f r) (file_held r q)) o.1)) (text_cases q name)

-- and this one
pub firm_here : (name : List ℕ) (f : CallRecord → Option Contents) (n : ℕ) (old new : Option CallRecord) → Sets name f old new → (old ≡ None → 0 ≡ n) → ((r : CallRecord) → old ≡ Some r → firm_part (f r) ≡ n) → firm_held new name ≡ n
firm_here name f n None new sets none some = ap (λ o. firm_held o name) sets ∙ none refl
firm_here name f n (Some r) None sets none some = absurd sets
firm_here name f n (Some r) (Some s) sets none some = ap firm_part (sets_at name f r s sets) ∙ some r refl

firm_or_new : (o : Option Contents) → (unwrap_or o no_contents).firm ≡ firm_part o
firm_or_new None = refl
firm_or_new (Some file) = refl

pub firm_appended : (name bytes : List ℕ) (old new : Option CallRecord) → Sets name (λ r. Some (more_bytes bytes (file_or_new r name))) old new → firm_held new name ≡ firm_held old name
firm_appended name bytes old new sets =
    firm_here name (λ r. Some (more_bytes bytes (file_or_new r name))) (firm_held old name) old new sets (λ e. sym (ap (λ o. firm_held o name) e)) (λ r e. firm_or_new (file_held r name) ∙ sym (ap (λ o. firm_held o name) e))

pub firm_zero : (name : List ℕ) (f : CallRecord → Option Contents) (old new : Option CallRecord) → Sets name f old new → ((r : CallRecord) → firm_part (f r) ≡ 0) → firm_held new name ≡ 0
firm_zero name f old new sets zero = firm_here name f 0 old new sets (λ e. refl) (λ r e. zero r)

-- the files of a bench are short still, and lost only where some were
module _ (name : List ℕ) (f : CallRecord → Option Contents) where
  at_name : (P : Contents → Type 0) (old new : Option CallRecord) → Sets name f old new → ((r : CallRecord) → old ≡ Some r → (file : Contents) → f r ≡ Some file → P file)
      → ((r : CallRecord) → old ≡ Some r → (q : List ℕ) (file : Contents) → file_held r q ≡ Some file → P file)
      → (s : CallRecord) → new ≡ Some s → (q : List ℕ) (file : Contents) → file_held s q ≡ Some file → P file
  at_name P None new sets mine before s is q file e = absurd (none-some s (sym sets ∙ is))
  at_name P (Some r) None sets mine before s is q file e = absurd sets
  at_name P (Some r) (Some t) sets mine before s is q file e =
      let now : cond (same_text q name) (f r) (file_held r q) ≡ Some file = sym (sets q) ∙ ap (λ x. file_held x q) (same_Some t s is) ∙ e in
      ⊎_elim (λ k. mine r refl file (sym (ap (λ b. cond b (f r) (file_held r q)) k.1) ∙ now)) (λ o. before r refl q file (sym (ap (λ b. cond b (f r) (file_held r q)) o.1) ∙ now)) (text_cases q name)

  pub short_still : (old new : Option CallRecord) → Sets name f old new → ((r : CallRecord) → old ≡ Some r → (file : Contents) → f r ≡ Some file → length file.bytes ≤ 2 ^ 62) → AreShort old → AreShort new
  short_still old new sets mine before = at_name (λ (file : Contents). length file.bytes ≤ 2 ^ 62) old new sets mine before

  pub kept_still : (old new : Option CallRecord) → Sets name f old new → ((r : CallRecord) → old ≡ Some r → (file : Contents) → f r ≡ Some file → file.is_lost ≡ false) → AreKept old → AreKept new
  kept_still old new sets mine before = at_name (λ (file : Contents). file.is_lost ≡ false) old new sets mine before

-- a file that may be new isn't lost where none is
pub kept_or_new : (calls : Option CallRecord) → AreKept calls → (r : CallRecord) → calls ≡ Some r → (name : List ℕ) → (file_or_new r name).is_lost ≡ false
kept_or_new calls kept r is name = by_file (file_held r name) refl
  where
    by_file : (o : Option Contents) → file_held r name ≡ o → (unwrap_or (file_held r name) no_contents).is_lost ≡ false
    by_file None e = ap (λ (o : Option Contents). (unwrap_or o no_contents).is_lost) e
    by_file (Some file) e = ap (λ (o : Option Contents). (unwrap_or o no_contents).is_lost) e ∙ kept r is name file e

-- how far the others are firm after any change
pub any_others : (name : List ℕ) (old new : Option CallRecord) → SetsAny name old new → (q : List ℕ) → (q ≡ name → ⊥) → firm_held new q ≡ firm_held old q
any_others name old new (inl same) q other = ap (λ o. firm_held o q) same
any_others name old new (inr sets) q other = firm_others name sets.0 old new sets.2 q other

pub any_short : (name : List ℕ) (old new : Option CallRecord) → SetsAny name old new → AreShort old → AreShort new
any_short name old new (inl same) before = subst AreShort (sym same) before
any_short name old new (inr any) before = short_still name any.0 old new any.2 (λ r is file e. (any.1 r is file e).short) before

pub any_kept : (name : List ℕ) (old new : Option CallRecord) → SetsAny name old new → AreKept old → AreKept new
any_kept name old new (inl same) before = subst AreKept (sym same) before
any_kept name old new (inr any) before = kept_still name any.0 old new any.2 (λ r is file e. (any.1 r is file e).kept (kept_or_new old before r is name)) before

pub any_none : (name : List ℕ) (old new : Option CallRecord) → Sets name (λ r. None) old new → SetsAny name old new
any_none name old new sets = inr ((λ r. None), (λ r is file e. absurd (none-some file e)), sets)

pub firm_written : (name bytes : List ℕ) (old new : Option CallRecord) → Sets name (λ r. Some (more_bytes bytes no_contents)) old new → firm_held new name ≡ 0
firm_written name bytes old new sets = firm_zero name (λ r. Some (more_bytes bytes no_contents)) old new sets (λ r. refl)

pub firm_removed : (name : List ℕ) (old new : Option CallRecord) → Sets name (λ r. None) old new → firm_held new name ≡ 0
firm_removed name old new sets = firm_zero name (λ r. None) old new sets (λ r. refl)

pub there_told : {E : Type 0} (result : Result Bool E) (name : List ℕ) (old : Option CallRecord) → IfOk result (λ there. IfSome old (λ r. there ≡ is_some (file_held r name))) → IfOk result (λ there. IfSome (bench_told old) (λ m. IsThere (get m name) there))
there_told (Ok there) name None is = tt
there_told (Ok there) name (Some r) is = subst (λ f. IsThere f there) (sym (files_told r name)) (by_file (file_held r name) is)
  where
    by_file : (o : Option Contents) → there ≡ is_some o → IsThere (bytes_of o) there
    by_file None e = e
    by_file (Some file) e = e
there_told (Err e) name old is = tt

-- what is told of a file by what stands under its name
pub held_there : (P : Option (List ℕ) → Type 0) (path name : List ℕ) (calls : Option CallRecord) → is_entry name ≡ true → path ≡ name → IfSome calls (λ r. P (bytes_there r path)) → IfSome (bench_told calls) (λ m. P (get m name))
held_there P path name None entry same there = tt
held_there P path name (Some r) entry same there = subst P (ap (λ p. bytes_there r p) same ∙ by_number ((names_now r).files name) ∙ sym (files_told r name ∙ ap (λ b. bytes_of (cond b (option_map (contents_now r) ((names_now r).files name)) None)) entry)) there
  where
    by_number : (o : Option ℕ) → option_map (λ n. (contents_now r n).bytes) o ≡ bytes_of (option_map (contents_now r) o)
    by_number None = refl
    by_number (Some n) = refl

pub held_apart : (P : Option (List ℕ) → Type 0) (name : List ℕ) (calls : Option CallRecord) → is_entry name ≡ false → P None → IfSome (bench_told calls) (λ m. P (get m name))
held_apart P name None other none = tt
held_apart P name (Some r) other none = subst P (sym (files_told r name ∙ ap bytes_of (held_outside r name other))) none

-- a sync that was done
same_bytes : (file : Option Contents) → bytes_of (option_map made_firm file) ≡ bytes_of file
same_bytes None = refl
same_bytes (Some c) = refl

lost_bytes : (file : Option Contents) → bytes_of (option_map made_lost file) ≡ bytes_of file
lost_bytes None = refl
lost_bytes (Some c) = refl

unchanged : (r : CallRecord) (name : List ℕ) → with_file name (bytes_of (file_held r name)) (files_held r) ≡ files_held r
unchanged r name = same_files (with_file name (bytes_of (file_held r name)) (files_held r)) (files_held r) (λ q.
    get_with (files_held r) name (bytes_of (file_held r name)) q
    ∙ ⊎_elim (λ s. ap (λ b. cond b (bytes_of (file_held r name)) (get (files_held r) q)) s.1 ∙ sym (files_told r name) ∙ ap (λ x. get (files_held r) x) (sym s.0))
    (λ o. ap (λ b. cond b (bytes_of (file_held r name)) (get (files_held r) q)) o.1) (text_cases q name))

pub synced_told : (name : List ℕ) (old new : Option CallRecord) → Sets name (λ r. option_map made_firm (file_held r name)) old new → bench_told new ≡ bench_told old
synced_told name None new sets = ap bench_told sets
synced_told name (Some r) None sets = absurd sets
synced_told name (Some r) (Some s) sets = ap {B = Option Files} (λ m. Some m) (sets_files name (option_map made_firm (file_held r name)) r s sets ∙ ap (λ b. with_file name b (files_held r)) (same_bytes (file_held r name)) ∙ unchanged r name)

lost_told : (name : List ℕ) (old new : Option CallRecord) → Sets name (λ r. option_map made_lost (file_held r name)) old new → bench_told new ≡ bench_told old
lost_told name None new sets = ap bench_told sets
lost_told name (Some r) None sets = absurd sets
lost_told name (Some r) (Some s) sets = ap {B = Option Files} (λ m. Some m) (sets_files name (option_map made_lost (file_held r name)) r s sets ∙ ap (λ b. with_file name b (files_held r)) (lost_bytes (file_held r name)) ∙ unchanged r name)

module _ {T E : Type 0} (result : Result T E) (name : List ℕ) (old new : Option CallRecord) where
  abbrev IsDone : Type 0
  IsDone = OnOk result (Sets name (λ r. option_map made_firm (file_held r name)) old new)

  abbrev IsFailed : Type 0
  IsFailed = OnErr result ((new ≡ old) ⊎ Sets name (λ r. option_map made_lost (file_held r name)) old new)

pub sync_spoils : {T E : Type 0} (result : Result T E) (name : List ℕ) (old new : Option CallRecord) → IsFailed result name old new → OnErr result (Spoils name (bench_told old) (bench_told new))
sync_spoils (Ok x) name old new failed = tt
sync_spoils (Err e) name old new failed = ⊎_elim (λ same. inl (ap bench_told same)) (λ sets. inl (lost_told name old new sets)) failed

pub sync_others : {T E : Type 0} (result : Result T E) (name : List ℕ) (old new : Option CallRecord) → IsDone result name old new → IsFailed result name old new → (q : List ℕ) → (q ≡ name → ⊥) → firm_held new q ≡ firm_held old q
sync_others (Ok x) name old new done failed q other = firm_others name (λ r. option_map made_firm (file_held r name)) old new done q other
sync_others (Err e) name old new done failed q other = ⊎_elim (λ same. ap (λ o. firm_held o q) same) (λ sets. firm_others name (λ r. option_map made_lost (file_held r name)) old new sets q other) failed

firm_length : (file : Option Contents) → ((c : Contents) → file ≡ Some c → c.is_lost ≡ false) → firm_part (option_map made_firm file) ≡ length (unwrap_or (bytes_of file) [])
firm_length None kept = refl
firm_length (Some c) kept = ap (λ b. cond b c.firm (length c.bytes)) (kept c refl)

pub sync_firm : (name : List ℕ) (old new : Option CallRecord) → AreKept old → Sets name (λ r. option_map made_firm (file_held r name)) old new → firm_held new name ≡ length (bytes_on (bench_told old) name)
sync_firm name None new kept sets = ap (λ o. firm_held o name) sets
sync_firm name (Some r) None kept sets = absurd sets
sync_firm name (Some r) (Some s) kept sets = ap firm_part (sets_at name (λ r. option_map made_firm (file_held r name)) r s sets) ∙ firm_length (file_held r name) (λ c is. kept r refl name c is) ∙ ap (λ o. length (unwrap_or o [])) (sym (files_told r name))

short_firm : (file : Option Contents) (c : Contents) → option_map made_firm file ≡ Some c → ((b : Contents) → file ≡ Some b → length b.bytes ≤ 2 ^ 62) → length c.bytes ≤ 2 ^ 62
short_firm None c e short = absurd (none-some c e)
short_firm (Some b) c e short = subst (λ (x : Contents). length x.bytes ≤ 2 ^ 62) (same_Some (made_firm b) c e) (short b refl)

short_lost : (file : Option Contents) (c : Contents) → option_map made_lost file ≡ Some c → ((b : Contents) → file ≡ Some b → length b.bytes ≤ 2 ^ 62) → length c.bytes ≤ 2 ^ 62
short_lost None c e short = absurd (none-some c e)
short_lost (Some b) c e short = subst (λ (x : Contents). length x.bytes ≤ 2 ^ 62) (same_Some (made_lost b) c e) (short b refl)

kept_firm : (file : Option Contents) (c : Contents) → option_map made_firm file ≡ Some c → ((b : Contents) → file ≡ Some b → b.is_lost ≡ false) → c.is_lost ≡ false
kept_firm None c e kept = absurd (none-some c e)
kept_firm (Some b) c e kept = ap (λ (x : Contents). x.is_lost) (sym (same_Some (made_firm b) c e)) ∙ kept b refl

pub sync_short : {T E : Type 0} (result : Result T E) (name : List ℕ) (old new : Option CallRecord) → IsDone result name old new → IsFailed result name old new → AreShort old → AreShort new
sync_short (Ok x) name old new done failed short =
    short_still name (λ r. option_map made_firm (file_held r name)) old new done (λ r is file e. short_firm (file_held r name) file e (λ b h. short r is name b h)) short
sync_short (Err e) name old new done failed short = ⊎_elim (λ same. subst AreShort (sym same) short)
    (λ sets. short_still name (λ r. option_map made_lost (file_held r name)) old new sets (λ r is file e. short_lost (file_held r name) file e (λ b h. short r is name b h)) short) failed

pub sync_kept : {T E : Type 0} (result : Result T E) (name : List ℕ) (old new : Option CallRecord) → IsDone result name old new → is_err result ≡ false → AreKept old → AreKept new
sync_kept (Ok x) name old new done ok kept =
    kept_still name (λ r. option_map made_firm (file_held r name)) old new done (λ r is file e. kept_firm (file_held r name) file e (λ b h. kept r is name b h)) kept
sync_kept (Err e) name old new done ok kept = let h : true ≡ false = ok in cc
