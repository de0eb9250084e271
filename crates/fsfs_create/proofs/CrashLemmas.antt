-- What a crash leaves at each call of a creation.
use Rattle.std.proofs.Common.{◌≡◌, ◌⊎◌, ℕ, List, [], ◌∷◌, ◌++◌, Bool, true, false, inl, inr, ⊎_elim, refl, sym, ap, subst, ◌∙◌}
use Rattle.std.specs.Prelude.{Option, Some, None, option_map, IfSome, codes, not, ◌&&◌}
use Rattle.std.specs.Ordering.{nat_cmp, is_eq}
use Rattle.std.specs.Cmp.Lexicographic.{slice_cmp}
use Rattle.std.specs.FinMap.{get, insert, remove}
use Rattle.fsfs_base.specs.Files.{Files, NamedFile, renamed}
use Rattle.fsfs_base.specs.Fields.Dates.{IsDateAt}
use Rattle.fsfs_base.proofs.FileLemmas.{get_new, get_kept, apart_by, remove-insert_same}
use Rattle.fsfs_disk.specs.Trace.{Trace, Put, Rename, FirmNames, Done, IsImage, add_operation, files_now, Performs, FailsAt, FailsToPut}
use Rattle.fsfs_disk.specs.Crash.{AllImages, IsFirm, Leaves, KeepsImages}
use Rattle.fsfs_disk.proofs.CrashLemmas.{leaves_at, leaves_then, leaves_with, keeps_then, keeps_put, keeps_failed_put, keeps_firm, same_keeps, same_leaves, firm_after, Stable}
use Rattle.fsfs_layout.specs.CreatedFiles.{format_text, unpublished_files, created_over}
use Rattle.fsfs_create.specs.Creation.{after_puts, after_firm, after_next, after_rename, after_publishing, after_creation, StopsInPuts, StopsPublishing, StopsAt, IsUnpublished, IsNoneOrWhole}
use Rattle.fsfs_base.specs.declared.places.place.CreatePlace.{CreatePlace}
use Rattle.fsfs_base.specs.declared.places.place.CreatePlace.TheVariants as place
use Rattle.fsfs_create.proofs.CreatedFilesLemmas.{files_now-after_publishing, files_now-after_creation}
use Rattle.fsfs_layout.proofs.NamedFiles.{lacks, first_apart, lacks_rest}

-- another file makes no repository
unpublished_put : (name : List ℕ) → (name ≡ codes "db/format" → ⊥) → (m : Files) (any : List ℕ) → IsUnpublished m → IsUnpublished (insert m name any)
unpublished_put name apart m any none = get_kept m name any (codes "db/format") (λ e. apart (sym e)) ∙ none

-- the name under which db/format is written first is another
next_apart : codes "db/format-next" ≡ codes "db/format" → ⊥
next_apart = apart_by (codes "db/format-next") (codes "db/format") refl

keeps_puts : (files : List NamedFile) (old new : Option Trace) → lacks (codes "db/format") files ≡ true → new ≡ option_map (after_puts files) old → KeepsImages old new IsUnpublished
keeps_puts files None new lack is = same_keeps None new IsUnpublished is
keeps_puts [] (Some t) new lack is = same_keeps (Some t) new IsUnpublished is
keeps_puts (file ∷ files) (Some t) new lack is =
    let mid : Option Trace = Some (add_operation (Done (Put file.0 file.1)) t) in
    keeps_then (Some t) mid new IsUnpublished
    (keeps_put file.0 file.1 IsUnpublished (Some t) mid (unpublished_put file.0 (first_apart (codes "db/format") file files lack)) refl)
    (keeps_puts files mid new (lacks_rest (codes "db/format") file files lack) is)

both_of : (a b c : Bool) → (not a && b) ≡ true → c ≡ true → (not a && c) ≡ true
both_of true b c h k = cc
both_of false b c h k = k

lacks_before : (name : List ℕ) (before : List NamedFile) (file : NamedFile) (rest : List NamedFile) → lacks name (before ++ file ∷ rest) ≡ true → (lacks name before ≡ true) × (file.0 ≡ name → ⊥)
lacks_before name [] file rest lack = (refl, first_apart name file rest lack)
lacks_before name (f ∷ before) file rest lack = both (lacks_before name before file rest (lacks_rest name f (before ++ file ∷ rest) lack)) where
  both : (lacks name before ≡ true) × (file.0 ≡ name → ⊥) → (lacks name (f ∷ before) ≡ true) × (file.0 ≡ name → ⊥)
  both h = (both_of (is_eq (slice_cmp nat_cmp f.0 name)) (lacks name (before ++ file ∷ rest)) (lacks name before) lack h.0, h.1)

keeps_stopped_puts : (files : List NamedFile) (old new : Option Trace) → lacks (codes "db/format") files ≡ true → StopsInPuts files old new → KeepsImages old new IsUnpublished
keeps_stopped_puts files old new lack (before, file, rest, parts, failed) =
    let mid : Option Trace = option_map (after_puts before) old in
    let apart = lacks_before (codes "db/format") before file rest (subst (λ fs. lacks (codes "db/format") fs ≡ true) parts lack) in
    keeps_then old mid new IsUnpublished (keeps_puts before old mid apart.0 refl)
    (keeps_failed_put file.0 file.1 IsUnpublished mid new (unpublished_put file.0 apart.1) failed)

-- no repository, or the files that publishing makes of those from before
abbrev Publishes : List ℕ → Option Trace → Files → Type 0
Publishes format old m = IsUnpublished m ⊎ IfSome old (λ t. m ≡ files_now (after_publishing format t))

leaves_next : (format : List ℕ) (old new : Option Trace) → FailsToPut (codes "db/format-next") format old new → AllImages old IsUnpublished → Leaves old new (Publishes format old)
leaves_next format old new put all =
    leaves_with old new IsUnpublished (Publishes format old) (λ m h. inl h)
    (keeps_failed_put (codes "db/format-next") format IsUnpublished old new (unpublished_put (codes "db/format-next") next_apart) put all).1

-- what the renaming makes of an image
renamed_image : (t : Trace) (format : List ℕ) (was m : Files) → (was ≡ files_now t) ⊎ ((x : Files) × (x ≡ files_now t) × (was ≡ insert x (codes "db/format-next") format))
    → m ≡ renamed was (codes "db/format-next") (codes "db/format") (get (insert (files_now t) (codes "db/format-next") format) (codes "db/format-next"))
    → m ≡ insert (remove (files_now t) (codes "db/format-next")) (codes "db/format") format
renamed_image t format was m from is =
    is ∙ ap (λ o. renamed was (codes "db/format-next") (codes "db/format") o) (get_new (files_now t) (codes "db/format-next") format)
    ∙ ap (λ n. insert n (codes "db/format") format)
    (⊎_elim (λ e. ap (λ x. remove x (codes "db/format-next")) e)
    (λ w. ap (λ x. remove x (codes "db/format-next")) (w.2 ∙ ap (λ x. insert x (codes "db/format-next") format) w.1) ∙ remove-insert_same (files_now t) (codes "db/format-next") format) from)

leaves_rename : (format : List ℕ) (old new : Option Trace) → FailsAt (Rename (codes "db/format-next") (codes "db/format")) (option_map (after_next format) old) new
    → IsFirm old → AllImages old IsUnpublished → Leaves old new (Publishes format old)
leaves_rename format None new at firm all = tt
leaves_rename format (Some t) new at firm all =
    leaves_then (Some t) (Some (after_next format t)) new (Publishes format (Some t))
    (leaves_next format (Some t) (Some (after_next format t)) (inr (inr (format, refl))) all)
    (leaves_at (Rename (codes "db/format-next") (codes "db/format")) (Publishes format (Some t)) (Some (after_next format t)) new at
    (λ u is. subst (Stable (Rename (codes "db/format-next") (codes "db/format")) (Publishes format (Some t))) (some_is (after_next format t) u is)
    (λ m left. ⊎_elim (λ l. inl (put_image m l)) (λ w. inr (renamed_image t format w.0 m (image w.0 w.1) w.2 ∙ sym (files_now-after_publishing format t))) left, λ m torn. absurd torn)))
  where
    some_is : (u v : Trace) → ◌≡◌ {A = Option Trace} (Some u) (Some v) → u ≡ v
    some_is u v e = cc

    put_image : (m : Files) → IsImage t.first (Done (Put (codes "db/format-next") format) ∷ t.operations) m → IsUnpublished m
    put_image m left = ⊎_elim (all m) (λ w. ap (λ x. get x (codes "db/format")) w.2 ∙ unpublished_put (codes "db/format-next") next_apart w.0 format (all w.0 w.1)) left

    image : (was : Files) → IsImage t.first (Done (Put (codes "db/format-next") format) ∷ t.operations) was → (was ≡ files_now t) ⊎ ((x : Files) × (x ≡ files_now t) × (was ≡ insert x (codes "db/format-next") format))
    image was left = ⊎_elim (λ l. inl (firm was l)) (λ w. inr (w.0, firm w.0 w.1, w.2)) left

leaves_last : (format : List ℕ) (old new : Option Trace) → FailsAt FirmNames (option_map (after_rename format) old) new
    → IsFirm old → AllImages old IsUnpublished → Leaves old new (Publishes format old)
leaves_last format None new at firm all = tt
leaves_last format (Some t) new at firm all =
    leaves_then (Some t) (Some (after_rename format t)) new (Publishes format (Some t))
    (leaves_rename format (Some t) (Some (after_rename format t)) (inr (inr refl)) firm all)
    (leaves_at FirmNames (Publishes format (Some t)) (Some (after_rename format t)) new at
    (λ u is. (λ m left. inr (left ∙ ap files_now (some_is u (after_rename format t) (sym is))), λ m torn. absurd torn)))
  where
    some_is : (u v : Trace) → ◌≡◌ {A = Option Trace} (Some u) (Some v) → u ≡ v
    some_is u v e = cc

leaves_publishing : (call : CreatePlace) (format : List ℕ) (old new : Option Trace) → StopsPublishing call format old new → IsFirm old → AllImages old IsUnpublished → Leaves old new (Publishes format old)
leaves_publishing place.Put format old new at firm all = leaves_next format old new at all
leaves_publishing place.Firm format old new at firm all = absurd at
leaves_publishing place.Rename format old new at firm all = leaves_rename format old new at firm all
leaves_publishing place.Last format old new at firm all = leaves_last format old new at firm all

-- no repository, or the files that a creation makes of those from before
abbrev pub CreatesFiles : List NamedFile → List ℕ → Option Trace → Files → Type 0
CreatesFiles files format old m = IsUnpublished m ⊎ IfSome old (λ t. m ≡ files_now (after_creation files format t))

unwritten : (files : List NamedFile) (format : List ℕ) (old new : Option Trace) → KeepsImages old new IsUnpublished → AllImages old IsUnpublished → Leaves old new (CreatesFiles files format old)
unwritten files format old new keeps all = leaves_with old new IsUnpublished (CreatesFiles files format old) (λ m h. inl h) (keeps all).1

keeps_firm_files : (files : List NamedFile) (old new : Option Trace) → lacks (codes "db/format") files ≡ true → FailsAt FirmNames (option_map (after_puts files) old) new → KeepsImages old new IsUnpublished
keeps_firm_files files old new lack at =
    keeps_then old (option_map (after_puts files) old) new IsUnpublished (keeps_puts files old (option_map (after_puts files) old) lack refl)
    (keeps_firm IsUnpublished (option_map (after_puts files) old) new at)

firm_done : (files : List NamedFile) (old : Option Trace) → Performs FirmNames (option_map (after_puts files) old) (option_map (after_firm files) old)
firm_done files None = refl
firm_done files (Some t) = refl

publishes_created : (files : List NamedFile) (format : List ℕ) (old : Option Trace) (m : Files) → Publishes format (option_map (after_firm files) old) m → CreatesFiles files format old m
publishes_created files format None m h = ⊎_elim (λ u. inl u) (λ w. inr tt) h
publishes_created files format (Some t) m h = ⊎_elim (λ u. inl u) (λ w. inr w) h

-- what publishing leaves, once the files are firm
leaves_from_firm : (files : List NamedFile) (format : List ℕ) (old new : Option Trace) → lacks (codes "db/format") files ≡ true → AllImages old IsUnpublished
    → ((firm : Option Trace) → firm ≡ option_map (after_firm files) old → IsFirm firm → AllImages firm IsUnpublished → Leaves firm new (Publishes format firm))
    → Leaves old new (CreatesFiles files format old)
leaves_from_firm files format old new lack all go =
    let firm : Option Trace = option_map (after_firm files) old in
    let keeps = keeps_firm_files files old firm lack (inr (inr (firm_done files old))) in
    leaves_then old firm new (CreatesFiles files format old) (unwritten files format old firm keeps all)
    (leaves_with firm new (Publishes format firm) (CreatesFiles files format old) (publishes_created files format old)
    (go firm refl (firm_after (option_map (after_puts files) old) firm (firm_done files old)) (keeps all).0))

-- what a creation that failed leaves at each moment
pub leaves_stopped : (call : CreatePlace) (files : List NamedFile) (format : List ℕ) (old new : Option Trace) → lacks (codes "db/format") files ≡ true → StopsAt call files format old new
    → AllImages old IsUnpublished → Leaves old new (CreatesFiles files format old)
leaves_stopped place.Put files format old new lack at all =
    ⊎_elim (λ e. same_leaves old new (CreatesFiles files format old) e)
    (λ puts. ⊎_elim (λ s. unwritten files format old new (keeps_stopped_puts files old new lack s) all)
    (λ p. leaves_from_firm files format old new lack all (λ firm is f a. leaves_publishing place.Put format firm new (subst (λ o. StopsPublishing place.Put format o new) (sym is) p) f a)) puts) at
leaves_stopped place.Firm files format old new lack at all = unwritten files format old new (keeps_firm_files files old new lack at) all
leaves_stopped place.Rename files format old new lack at all =
    leaves_from_firm files format old new lack all (λ firm is f a. leaves_publishing place.Rename format firm new (subst (λ o. StopsPublishing place.Rename format o new) (sym is) at) f a)
leaves_stopped place.Last files format old new lack at all =
    leaves_from_firm files format old new lack all (λ firm is f a. leaves_publishing place.Last format firm new (subst (λ o. StopsPublishing place.Last format o new) (sym is) at) f a)

pub last_done : (files : List NamedFile) (format : List ℕ) (old new firm : Option Trace) → new ≡ option_map (after_creation files format) old → firm ≡ option_map (after_firm files) old → Performs FirmNames (option_map (after_rename format) firm) new
last_done files format None new firm is at = is ∙ ap (λ o. option_map (add_operation (Done FirmNames)) (option_map (after_rename format) o)) (sym at)
last_done files format (Some t) new firm is at = is ∙ ap (λ o. option_map (add_operation (Done FirmNames)) (option_map (after_rename format) o)) (sym at)

-- and one that was done
pub leaves_done : (files : List NamedFile) (format : List ℕ) (old new : Option Trace) → lacks (codes "db/format") files ≡ true → new ≡ option_map (after_creation files format) old
    → AllImages old IsUnpublished → Leaves old new (CreatesFiles files format old)
leaves_done files format old new lack is all =
    leaves_from_firm files format old new lack all (λ firm at f a. leaves_last format firm new (inr (inr (last_done files format old new firm is at))) f a)

whole_image : (shard : ℕ) (identifier date : List ℕ) (old : Option Trace) (m : Files) → IfSome old (λ t. m ≡ files_now (after_creation (unpublished_files identifier date) (format_text shard) t)) → IfSome old (λ t. m ≡ created_over shard identifier date (files_now t))
whole_image shard identifier date None m is = tt
whole_image shard identifier date (Some t) m is = is ∙ files_now-after_creation shard identifier date t

-- the files of a creation are those of the whole repository
pub leaves_whole : (shard : ℕ) (identifier date : List ℕ) (moment : ℕ) (old new : Option Trace) → IsDateAt moment date → Leaves old new (CreatesFiles (unpublished_files identifier date) (format_text shard) old) → Leaves old new (IsNoneOrWhole shard identifier moment old)
leaves_whole shard identifier date moment old new dated leaves =
    leaves_with old new (CreatesFiles (unpublished_files identifier date) (format_text shard) old) (IsNoneOrWhole shard identifier moment old)
    (λ m h. ⊎_elim (λ u. inl u) (λ w. inr (date, dated, whole_image shard identifier date old m w)) h) leaves

-- how a creation ended, of the very files of a new repository
pub ended_so : (shard : ℕ) (identifier date : List ℕ) (files : List NamedFile) (format : List ℕ) (old same new : Option Trace) → files ≡ unpublished_files identifier date → format ≡ format_text shard → same ≡ old
    → new ≡ option_map (after_creation files format) same → new ≡ option_map (after_creation (unpublished_files identifier date) (format_text shard)) old
ended_so shard identifier date files format old same new f t s is = is ∙ (λ i. option_map (after_creation (f i) (t i)) (s i))

-- and where one stopped, of the very files of a new repository
pub stopped_so : (call : CreatePlace) (shard : ℕ) (identifier date : List ℕ) (files : List NamedFile) (format : List ℕ) (old same new : Option Trace) → files ≡ unpublished_files identifier date → format ≡ format_text shard → same ≡ old
    → StopsAt call files format same new → StopsAt call (unpublished_files identifier date) (format_text shard) old new
stopped_so call shard identifier date files format old same new f t s at =
    subst (λ o. StopsAt call (unpublished_files identifier date) (format_text shard) o new) s
    (subst (λ x. StopsAt call (unpublished_files identifier date) x same new) t (subst (λ x. StopsAt call x format same new) f at))
