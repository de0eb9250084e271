-- What the writing of a new repository makes of the files.
use Rattle.std.proofs.Common.{◌≡◌, ℕ, List, [], ◌∷◌, ◌++◌, true, refl, sym, ap, subst, ◌∙◌}
use Rattle.std.specs.Prelude.{Option, Some, None, IfSome, option_map, codes, length, is_some}
use Rattle.std.specs.FinMap.{insert, remove}
use Rattle.fsfs_base.specs.Files.{Files, NamedFile, lay_over}
use Rattle.fsfs_base.proofs.FileLemmas.{insert-remove, renamed_put}
use Rattle.fsfs_disk.specs.Trace.{Trace, files_now, file_at, IsSize}
use Rattle.fsfs_layout.specs.CreatedFiles.{format_text, unpublished_files, created_over}
use Rattle.fsfs_layout.proofs.NamedFiles.{lacks, first_apart, lacks_rest}
use Rattle.fsfs_create.specs.Creation.{after_puts, after_publishing, after_creation, IsNoRepository, HasRepository}

files_now-after_puts : (files : List NamedFile) (t : Trace) → files_now (after_puts files t) ≡ lay_over files (files_now t)
files_now-after_puts [] t = refl
files_now-after_puts (file ∷ files) t = files_now-after_puts files _

lay_over-append : (files : List NamedFile) (name bytes : List ℕ) (m : Files) → lay_over (files ++ (name, bytes) ∷ []) m ≡ insert (lay_over files m) name bytes
lay_over-append [] name bytes m = refl
lay_over-append (file ∷ files) name bytes m = lay_over-append files name bytes (insert m file.0 file.1)

lay_over-remove : (files : List NamedFile) (m : Files) (name : List ℕ) → lacks name files ≡ true → lay_over files (remove m name) ≡ remove (lay_over files m) name
lay_over-remove [] m name h = refl
lay_over-remove (file ∷ files) m name h =
    ap (λ x. lay_over files x) (insert-remove m file.0 file.1 name (first_apart name file files h))
    ∙ lay_over-remove files (insert m file.0 file.1) name (lacks_rest name file files h)

pub files_now-after_publishing : (format : List ℕ) (t : Trace) → files_now (after_publishing format t) ≡ insert (remove (files_now t) (codes "db/format-next")) (codes "db/format") format
files_now-after_publishing format t = renamed_put (files_now t) (codes "db/format-next") (codes "db/format") format

no_next : (identifier date : List ℕ) → lacks (codes "db/format-next") (unpublished_files identifier date) ≡ true
no_next identifier date = refl

-- none of the files that are written first makes a repository
pub no_format : (identifier date : List ℕ) → lacks (codes "db/format") (unpublished_files identifier date) ≡ true
no_format identifier date = refl

pub files_now-after_creation : (shard : ℕ) (identifier date : List ℕ) (t : Trace) → files_now (after_creation (unpublished_files identifier date) (format_text shard) t) ≡ created_over shard identifier date (files_now t)
files_now-after_creation shard identifier date t =
    files_now-after_publishing (format_text shard) (after_puts (unpublished_files identifier date) t)
    ∙ ap (λ m. insert (remove m (codes "db/format-next")) (codes "db/format") (format_text shard)) (files_now-after_puts (unpublished_files identifier date) t)
    ∙ ap (λ m. insert m (codes "db/format") (format_text shard)) (sym (lay_over-remove (unpublished_files identifier date) (files_now t) (codes "db/format-next") (no_next identifier date)))
    ∙ sym (lay_over-append (unpublished_files identifier date) (codes "db/format") (format_text shard) (remove (files_now t) (codes "db/format-next")))

pub created_files_now : (shard : ℕ) (identifier date : List ℕ) (old new : Option Trace) → new ≡ option_map (after_creation (unpublished_files identifier date) (format_text shard)) old
    → option_map files_now new ≡ option_map (created_over shard identifier date) (option_map files_now old)
created_files_now shard identifier date None new is = ap (option_map files_now) is
created_files_now shard identifier date (Some t) new is = ap (option_map files_now) is ∙ ap (λ m. Some m) (files_now-after_creation shard identifier date t)

no_bytes : (file : Option (List ℕ)) (found : Option ℕ) → found ≡ None → IsSize file found → file ≡ None
no_bytes None found none size = refl
no_bytes (Some bytes) found none size = let h : None ≡ Some (length bytes) = sym none ∙ size in cc

-- a file that has no size isn't there
pub not_there : (old : Option Trace) (name : List ℕ) (found : Option ℕ) → name ≡ codes "db/format" → found ≡ None → IfSome old (λ t. IsSize (file_at t name) found) → IsNoRepository old
not_there None name found same none size = tt
not_there (Some t) name found same none size = subst (λ k. file_at t k ≡ None) same (no_bytes (file_at t name) found none size)

-- there is a repository or none
pub not_both : (old : Option Trace) (t : Trace) → IsNoRepository old → old ≡ Some t → HasRepository t → ⊥
not_both old t absent is here = no_some (file_at t (codes "db/format")) (subst IsNoRepository is absent) here where
  no_some : (file : Option (List ℕ)) → file ≡ None → is_some file ≡ true → ⊥
  no_some None e h = cc
  no_some (Some bytes) e h = cc
