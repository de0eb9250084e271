use Rattle.std.proofs.Common.{◌≡◌, ℕ, List, Bor, [], ◌∷◌, ◌++◌, map, sym, ap, ◌∙◌, append_assoc}
use Rattle.std.proofs.lemmas.List.{map-append, append-nil}
use Rattle.std.specs.FinMap.{entries}
use Rattle.fsfs_base.specs.Files.{NamedFile}
use Rattle.fsfs_memory.specs.Memdisk.MemFiles.{content, named_files}
use Rattle.fsfs_memory.proofs.EntryLemmas.{entries-files_by}
use Rattle.fsfs_memory.proofs.memdisk.files.MemFiles.list.Goals as goal

abbrev shown : Bor (List ℕ) × Bor (List ℕ) → NamedFile
shown file = (file.0.now, file.1.now)

-- the file at hand goes from those that are to come to those of the list
listed : (files : List (Bor (List ℕ) × Bor (List ℕ))) (file : Bor (List ℕ) × Bor (List ℕ)) (to_come : List NamedFile) → map shown (files ++ file ∷ []) ++ to_come ≡ map shown files ++ (shown file ∷ to_come)
listed files file to_come = ap (λ xs. xs ++ to_come) (map-append shown files (file ∷ [])) ∙ append_assoc (map shown files) (shown file ∷ []) to_come

pub loop-name-preserved : goal.loop-name-preserved
loop-name-preserved c =
    let to_come = named_files content c.next.new.self in
    let bytes = c.as_slice.ensures.value ∙ ap (λ v. v.items) c.deref.ensures in
    ap (λ files. map shown files ++ to_come) c.in_ok-push.ensures.items
    ∙ listed c.loop-name.files.items (c.as_str.result, c.as_slice.result) to_come
    ∙ (λ i. map shown c.loop-name.files.items ++ ((c.as_str.ensures.text i, bytes i) ∷ to_come))
    ∙ ap (λ rest. map shown c.loop-name.files.items ++ named_files content rest) (sym c.in-Some.ensures.steps)
    ∙ c.loop-name.invariant

pub returns : goal.returns
returns c =
    sym (append-nil (map shown c.loop-name.files.items))
    ∙ ap (λ rest. map shown c.loop-name.files.items ++ named_files content rest) (sym c.in-None.ensures.steps.0)
    ∙ c.loop-name.invariant
    ∙ ap (λ rest. named_files content rest) (c.into_iter-name-iterator.ensures.into_iter_gives ∙ c.iter-name-items.ensures.rest)
    ∙ sym (entries-files_by content c.self.inside.by_name.entries c.iter-name-items.ensures.ordered)
    ∙ ap (λ files. entries files) c.self.view_is
