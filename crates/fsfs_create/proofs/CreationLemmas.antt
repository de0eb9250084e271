-- The course of a creation, call by call.
use Rattle.std.proofs.Common.{◌≡◌, ℕ, ◌+◌, ◌<◌, List, [], ◌∷◌, ◌++◌, length, drop, take, map, refl, sym, ap, ◌∙◌, add-one}
use Rattle.std.proofs.lemmas.List.{take-append-drop, map-append}
use Rattle.std.specs.Prelude.{Option, Some, None, option_map, slice_index_or}
use Rattle.std.proofs.Math.Seq.{drop-cons, take-suc}
use Rattle.fsfs_base.specs.Files.{NamedFile}
use Rattle.fsfs_disk.specs.Trace.{Trace, add_operation, Performs}
use Rattle.fsfs_disk.specs.Trace.Operation.{Done}
use Rattle.fsfs_disk.specs.Trace.NameChange.{Put}
use Rattle.fsfs_create.specs.NewFiles.{named}
use Rattle.fsfs_create.specs.Creation.{after_puts}
use Rattle.fsfs_create.specs.declared.initial.NewFile.{NewFile}

pub after_puts-append : (files : List NamedFile) (file : NamedFile) (t : Trace) → after_puts (files ++ file ∷ []) t ≡ add_operation (Done (Put file.0 file.1)) (after_puts files t)
after_puts-append [] file t = refl
after_puts-append (f ∷ files) file t = after_puts-append files file (add_operation (Done (Put f.0 f.1)) t)

-- one file more
pub puts_more : (files : List NamedFile) (file : NamedFile) (old mid new : Option Trace) → mid ≡ option_map (after_puts files) old → Performs (Put file.0 file.1) mid new → new ≡ option_map (after_puts (files ++ file ∷ [])) old
puts_more files file None mid new is performed = performed ∙ ap (option_map (add_operation (Done (Put file.0 file.1)))) is
puts_more files file (Some t) mid new is performed =
    performed ∙ ap (option_map (add_operation (Done (Put file.0 file.1)))) is ∙ ap (λ u. Some u) (sym (after_puts-append files file t))

-- the file at i, and those behind it
drop_at : (files : List NewFile) (i : ℕ) (file : NewFile) → i < length files → file ≡ slice_index_or files i file → drop i files ≡ file ∷ drop (i + 1) files
drop_at files i file lt is = drop-cons files i file lt ∙ (λ j. sym is j ∷ drop (sym (add-one i) j) files)

-- the file at i, and those before and behind it
pub parts_at : (files : List NewFile) (i : ℕ) (file : NewFile) → i < length files → file ≡ slice_index_or files i file → map named files ≡ map named (take i files) ++ named file ∷ map named (drop (i + 1) files)
parts_at files i file lt is =
    ap (map named) (sym (take-append-drop i files)) ∙ map-append named (take i files) (drop i files)
    ∙ ap (λ rest. map named (take i files) ++ map named rest) (drop_at files i file lt is)

pub taken_more : (files : List NewFile) (i : ℕ) (file : NewFile) → i < length files → file ≡ slice_index_or files i file → map named (take (i + 1) files) ≡ map named (take i files) ++ named file ∷ []
taken_more files i file lt is =
    ap (λ n. map named (take n files)) (add-one i) ∙ ap (map named) (take-suc files i file lt) ∙ map-append named (take i files) (slice_index_or files i file ∷ [])
    ∙ ap (λ f. map named (take i files) ++ named f ∷ []) (sym is)
