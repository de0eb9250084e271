-- The first files of a transaction tell the folder that it begins with.
use Rattle.std.proofs.Common.{◌≡◌, ◌∙◌, ℕ, List, [], Option, Some, None, sym, subst, refl, arith}
use Rattle.std.specs.Prelude.{IfSome, option_map, codes}
use Rattle.std.specs.FinMap.{get, insert, empty}
use Rattle.fsfs_base.specs.Files.{Files}
use Rattle.fsfs_base.proofs.FileLemmas.{get_new, get_kept}
use Rattle.fsfs_disk.specs.Benches.{bytes_on}
use Rattle.fsfs_noderev.specs.Ids.{PartValue, part_value}
use Rattle.fsfs_noderev.specs.declared.node_id.NodeId.{NodeId}
use Rattle.fsfs_noderev.specs.declared.node_rev.NodeRev.{NodeRev}
use Rattle.fsfs_txn_files.specs.FileNames.{node_name, file_name}
use Rattle.fsfs_txn_files.specs.Texts.{IsNodeFile}
use Rattle.fsfs_txn_files.specs.declared.folder_file.FolderFile.TheVariants.{Node}
use Rattle.fsfs_txn_files.proofs.NameLemmas.{apart_at}
use Rattle.fsfs_txn_nodes.specs.TxnFolder.Folders.{TellsFolder}
use Rattle.fsfs_txn_nodes.specs.TxnFolder.Telling.{FitsNode, root_folder}
use Rattle.fsfs_txn_nodes.proofs.StepLemmas.{changes_tell}
use Rattle.fsfs_txn_nodes.specs.Memory.Views.{begun_folder}
use Rattle.fsfs_txn_nodes.specs.Memory.Written.{HasTold}
use Rattle.fsfs_begin.specs.Benches.{first_files, TellsRoot}

-- ---- the first files

abbrev properties : Files
properties = insert empty (codes "props") (codes "END\n")

abbrev numbers : Files
numbers = insert properties (codes "next-ids") (codes "0 0\n")

abbrev items : Files
items = insert numbers (codes "changes") []

abbrev texts : Files
texts = insert items (codes "rev") []

next_not_node : (a b : PartValue) → codes "next-ids" ≡ node_name a b → ⊥
next_not_node a b e = apart_at 1 101 111 (codes "next-ids") (node_name a b) refl refl (λ h. omega (arith, h)) e

changes_not_node : (a b : PartValue) → codes "changes" ≡ node_name a b → ⊥
changes_not_node a b e = apart_at 0 99 110 (codes "changes") (node_name a b) refl refl (λ h. omega (arith, h)) e

next_not_texts : codes "next-ids" ≡ codes "rev" → ⊥
next_not_texts e = apart_at 0 110 114 (codes "next-ids") (codes "rev") refl refl (λ h. omega (arith, h)) e

changes_not_texts : codes "changes" ≡ codes "rev" → ⊥
changes_not_texts e = apart_at 0 99 114 (codes "changes") (codes "rev") refl refl (λ h. omega (arith, h)) e

next_not_changes : codes "next-ids" ≡ codes "changes" → ⊥
next_not_changes e = apart_at 0 110 99 (codes "next-ids") (codes "changes") refl refl (λ h. omega (arith, h)) e

at_next : (id : NodeId) (text : List ℕ) → get (first_files id text) (codes "next-ids") ≡ Some (codes "0 0\n")
at_next id text =
    get_kept texts (file_name (Node id)) text (codes "next-ids") (next_not_node (part_value id.node) (part_value id.copy))
    ∙ get_kept items (codes "rev") [] (codes "next-ids") next_not_texts
    ∙ get_kept numbers (codes "changes") [] (codes "next-ids") next_not_changes
    ∙ get_new properties (codes "next-ids") (codes "0 0\n")

at_changes : (id : NodeId) (text : List ℕ) → get (first_files id text) (codes "changes") ≡ Some []
at_changes id text =
    get_kept texts (file_name (Node id)) text (codes "changes") (changes_not_node (part_value id.node) (part_value id.copy))
    ∙ get_kept items (codes "rev") [] (codes "changes") changes_not_texts
    ∙ get_new numbers (codes "changes") []

told_by : {A : Type 0} (root : NodeRev) (text proto : List ℕ) (o : Option A) → FitsNode root.id → IsNodeFile root text → IfSome (option_map (λ _. first_files root.id text) o) (λ m. TellsFolder m (root_folder root proto))
told_by root text proto None fits is = tt
told_by root text proto (Some a) fits is =
    changes_tell.begun (first_files root.id text) root text proto fits is (get_new texts (file_name (Node root.id)) text) (at_next root.id text) (at_changes root.id text)

pub first_tell : {A : Type 0} (root : NodeRev) (text : List ℕ) (told : Option A) (held : Option Files) → FitsNode root.id → IsNodeFile root text → held ≡ option_map (λ _. first_files root.id text) told → TellsRoot root held
first_tell root text told held fits is holds = λ proto. subst (λ (o : Option Files). IfSome o (λ m. TellsFolder m (root_folder root proto))) (sym holds) (told_by root text proto told fits is)

-- ---- held in memory

pub held_told : (faults : ℕ) (bench : Option Files) (root : NodeRev) (proto : List ℕ) → TellsRoot root bench → HasTold faults bench (begun_folder root bench proto)
held_told faults bench root proto tells = λ none. tells (bytes_on bench proto)
