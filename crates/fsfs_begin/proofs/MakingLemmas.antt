-- What making a bench leaves, from what each of its calls did.
use Rattle.std.proofs.Common.{◌≡◌, ◌≤◌, ℕ, List, [], refl, ap, ◌∙◌, arith}
use Rattle.std.specs.Prelude.{Option, Some, None, option_map, codes}
use Rattle.std.specs.FinMap.{empty}
use Rattle.fsfs_base.specs.Failures.{Rose}
use Rattle.fsfs_base.specs.Files.{Files}
use Rattle.fsfs_disk.specs.Benches.{written}
use Rattle.fsfs_disk.specs.Trace.{Trace}
use Rattle.fsfs_noderev.specs.declared.node_id.NodeId.{NodeId}
use Rattle.fsfs_txn_files.specs.FileNames.{file_name}
use Rattle.fsfs_txn_files.specs.declared.folder_file.FolderFile.TheVariants.{Node}
use Rattle.fsfs_begin.specs.Benches.{first_files, with_first_files}

-- ---- the first files

pub all_written : (id : NodeId) (root props ids items texts node : List ℕ) (a b c d e f : Option Files) → props ≡ codes "props" → ids ≡ codes "next-ids" → items ≡ codes "changes" → texts ≡ codes "rev" → node ≡ file_name (Node id)
    → b ≡ option_map (written props (codes "END\n")) a → c ≡ option_map (written ids (codes "0 0\n")) b → d ≡ option_map (written items []) c → e ≡ option_map (written texts []) d → f ≡ option_map (written node root) e
    → f ≡ option_map (with_first_files id root) a
all_written id root props ids items texts node a b c d e f is_props is_ids is_items is_texts is_node first second third fourth last =
    let at_node : Option Files → Option Files = λ o. option_map (written (file_name (Node id)) root) o in
    let at_texts : Option Files → Option Files = λ o. at_node (option_map (written (codes "rev") []) o) in
    let at_items : Option Files → Option Files = λ o. at_texts (option_map (written (codes "changes") []) o) in
    let at_ids : Option Files → Option Files = λ o. at_items (option_map (written (codes "next-ids") (codes "0 0\n")) o) in
    last
    ∙ ap (λ (n : List ℕ). option_map (written n root) e) is_node
    ∙ ap at_node (fourth ∙ ap (λ (n : List ℕ). option_map (written n []) d) is_texts)
    ∙ ap at_texts (third ∙ ap (λ (n : List ℕ). option_map (written n []) c) is_items)
    ∙ ap at_items (second ∙ ap (λ (n : List ℕ). option_map (written n (codes "0 0\n")) b) is_ids)
    ∙ ap at_ids (first ∙ ap (λ (n : List ℕ). option_map (written n (codes "END\n")) a) is_props)
    ∙ by_old a
  where
    by_old : (o : Option Files)
        → option_map (written (file_name (Node id)) root) (option_map (written (codes "rev") []) (option_map (written (codes "changes") []) (option_map (written (codes "next-ids") (codes "0 0\n")) (option_map (written (codes "props") (codes "END\n")) o))))
        ≡ option_map (with_first_files id root) o
    by_old None = refl
    by_old (Some m) = refl

-- in a bench that was empty
pub filled : (id : NodeId) (root : List ℕ) (told : Option Trace) (a b : Option Files) → a ≡ option_map (λ _. empty) told → b ≡ option_map (with_first_files id root) a → b ≡ option_map (λ _. first_files id root) told
filled id root told a b new files = files ∙ ap (λ o. option_map (with_first_files id root) o) new ∙ by_told told
  where
    by_told : (o : Option Trace) → option_map (with_first_files id root) (option_map (λ _. empty) o) ≡ option_map (λ _. first_files id root) o
    by_told None = refl
    by_told (Some t) = refl

-- ---- the counts of faults

pub rose_before : (old mid new : ℕ) → Rose old mid → mid ≤ new → Rose old new
rose_before old mid new rose later = omega (arith, rose, later)
