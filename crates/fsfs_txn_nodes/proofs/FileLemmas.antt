-- What a change leaves of the folder's files.
use Rattle.std.proofs.Common.{◌≡◌, ◌∙◌, ℕ, Bool, true, false, ◌&&◌, cond, List, [], ◌++◌, Option, Some, None, get_or, refl, sym, ap, subst, arith}
use Rattle.std.specs.Prelude.{codes, unwrap_or}
use Rattle.std.specs.FinMap.{get}
use Rattle.std.proofs.lemmas.List.{append-nil}
use Rattle.std.proofs.lemmas.Bool.{and_parts, and_from}
use Rattle.std.proofs.lemmas.Option.{same_Some}
use Rattle.fsfs_base.specs.Files.{Files}
use Rattle.fsfs_base.proofs.FileLemmas.{get_new, get_kept}
use Rattle.fsfs_disk.specs.Benches.{bytes_in}
use Rattle.fsfs_noderev.specs.Ids.{PartValue, part_value}
use Rattle.fsfs_noderev.specs.declared.node_id.NodeId.{NodeId}
use Rattle.fsfs_revision.specs.Shows.Reading.{Pairs, DirEntry}
use Rattle.fsfs_draft.specs.Drafts.{Kept, Folder}
use Rattle.fsfs_draft.specs.Steps.{same_value}
use Rattle.fsfs_draft.proofs.Files.{same_value-is, same_value-refl}
use Rattle.fsfs_txn_files.specs.FileNames.{node_name, children_name, props_name, file_name, FitsId}
use Rattle.fsfs_txn_files.specs.Changes.{with_text, changed, IsChange}
use Rattle.fsfs_txn_files.specs.declared.change.FileChange.{FileChange}
use Rattle.fsfs_txn_files.specs.declared.change.How.{How}
use Rattle.fsfs_txn_files.specs.declared.change.How.TheVariants.{Whole, AtEnd}
use Rattle.fsfs_txn_files.specs.declared.folder_file.FolderFile.{FolderFile}
use Rattle.fsfs_txn_files.specs.declared.folder_file.FolderFile.TheVariants.{Node, Children, Props}
use Rattle.fsfs_txn_files.proofs.NameLemmas.{IsEnding, node_parts, nothing, children, props, apart_at}
use Rattle.fsfs_txn_nodes.specs.TxnFolder.Folders.{HasFile, TellsEntries, TellsProps, TellsKept, TellsFolder}
use Rattle.fsfs_txn_nodes.specs.TxnFolder.Telling.{FitsNode, put_kept}

-- ---- one change

with_other : (how : How) (name text q : List ℕ) (m : Files) → (q ≡ name → ⊥) → get (with_text how name text m) q ≡ get m q
with_other Whole name text q m apart = get_kept m name text q apart
with_other AtEnd name text q m apart = get_kept m name (bytes_in m name ++ text) q apart

pub changed_other : (c : FileChange) (file : FolderFile) (how : How) (Form : List ℕ → Type 0) (q : List ℕ) (m : Files) → IsChange c file how Form → (q ≡ file_name file → ⊥) → get (changed c m) q ≡ get m q
changed_other c file how Form q m is apart = with_other c.how (file_name c.file) c.text.items q m (λ e. apart (e ∙ ap file_name is.file_is))

pub changed_whole : (c : FileChange) (file : FolderFile) (Form : List ℕ → Type 0) (m : Files) → IsChange c file Whole Form → HasFile (changed c m) (file_name file) Form
changed_whole c file Form m is =
    (c.text.items, (λ i. get (with_text (is.how_is i) (file_name (is.file_is i)) c.text.items m) (file_name file)) ∙ get_new m (file_name file) c.text.items, is.text_is)

pub changed_end : (c : FileChange) (file : FolderFile) (Form : List ℕ → Type 0) (m : Files) (before : List ℕ) → IsChange c file AtEnd Form → get m (file_name file) ≡ Some before → get (changed c m) (file_name file) ≡ Some (before ++ c.text.items)
changed_end c file Form m before is there =
    (λ i. get (with_text (is.how_is i) (file_name (is.file_is i)) c.text.items m) (file_name file))
    ∙ get_new m (file_name file) (bytes_in m (file_name file) ++ c.text.items)
    ∙ ap (λ (o : Option (List ℕ)). Some (unwrap_or o [] ++ c.text.items)) there

pub file_same : (m n : Files) (name : List ℕ) (Form : List ℕ → Type 0) → get n name ≡ get m name → HasFile m name Form → HasFile n name Form
file_same m n name Form same h = (h.0, same ∙ h.1, h.2)

pub entries_same : (m n : Files) (name : List ℕ) (o : Option (List DirEntry)) → get n name ≡ get m name → TellsEntries m name o → TellsEntries n name o
entries_same m n name None same h = tt
entries_same m n name (Some es) same h = (h.0, same ∙ h.1, h.2)

pub props_same : (m n : Files) (name : List ℕ) (o : Option Pairs) → get n name ≡ get m name → TellsProps m name o → TellsProps n name o
props_same m n name None same h = tt
props_same m n name (Some ps) same h = (h.0, same ∙ h.1, h.2)

-- ---- the names of one node-revision's files

module _ (a b : PartValue) (fits : FitsId a b) where
  pub children_not_node : children_name a b ≡ node_name a b → ⊥
  children_not_node e = let no = (node_parts a b a b (codes ".children") [] fits fits children nothing (e ∙ sym (append-nil (node_name a b)))).2 in absurd cc

  pub props_not_node : props_name a b ≡ node_name a b → ⊥
  props_not_node e = let no = (node_parts a b a b (codes ".props") [] fits fits props nothing (e ∙ sym (append-nil (node_name a b)))).2 in absurd cc

  pub children_not_props : children_name a b ≡ props_name a b → ⊥
  children_not_props e =
      let no = (node_parts a b a b (codes ".children") (codes ".props") fits fits children props e).2 in
      let at : 99 ≡ 112 = ap (λ (z : List ℕ). get_or z 1 0) no in absurd (omega (arith, at))

-- no file of these parts
abbrev pub IsAway : PartValue → PartValue → List ℕ → Type 0
IsAway a b q = (s : List ℕ) → IsEnding s → q ≡ node_name a b ++ s → ⊥

pub next_away : (a b : PartValue) → IsAway a b (codes "next-ids")
next_away a b = λ s es e. apart_at 1 101 111 (codes "next-ids") (node_name a b ++ s) refl refl (λ h. omega (arith, h)) e

pub changes_away : (a b : PartValue) → IsAway a b (codes "changes")
changes_away a b = λ s es e. apart_at 0 99 110 (codes "changes") (node_name a b ++ s) refl refl (λ h. omega (arith, h)) e

key_away : (a b c d : PartValue) → FitsId a b → FitsId c d → (a ≡ c → b ≡ d → ⊥) → (s : List ℕ) → IsEnding s → IsAway a b (node_name c d ++ s)
key_away a b c d fab fcd apart s es = λ t et e. let p = node_parts c d a b s t fcd fab es et e in apart (sym p.0) (sym p.1)

-- a file of these parts
abbrev pub IsOf : NodeId → FolderFile → Type 0
IsOf id file = (s : List ℕ) × IsEnding s × (file_name file ≡ node_name (part_value id.node) (part_value id.copy) ++ s)

pub of_node : (id : NodeId) → IsOf id (Node id)
of_node id = ([], nothing, sym (append-nil (node_name (part_value id.node) (part_value id.copy))))

pub of_children : (id : NodeId) → IsOf id (Children id)
of_children id = (codes ".children", children, refl)

pub of_props : (id : NodeId) → IsOf id (Props id)
of_props id = (codes ".props", props, refl)

pub away_changed : (c : FileChange) (file : FolderFile) (how : How) (Form : List ℕ → Type 0) (id : NodeId) (q : List ℕ) (m : Files) → IsChange c file how Form → IsOf id file → IsAway (part_value id.node) (part_value id.copy) q → get (changed c m) q ≡ get m q
away_changed c file how Form id q m is of away = changed_other c file how Form q m is (λ e. away of.0 of.1 (e ∙ of.2))

-- ---- the files of all node-revisions

abbrev SameOf : Files → Files → PartValue → PartValue → Type 0
SameOf m n a b = (s : List ℕ) → IsEnding s → get n (node_name a b ++ s) ≡ get m (node_name a b ++ s)

kept_same : (m n : Files) (a b : PartValue) (k : Kept) → SameOf m n a b → TellsKept m a b k → TellsKept n a b k
kept_same m n a b k same w =
    let itself : get n (node_name a b) ≡ get m (node_name a b) = subst (λ (q : List ℕ). get n q ≡ get m q) (append-nil (node_name a b)) (same [] nothing) in
    record {
      itself = (w.itself.0, itself ∙ w.itself.1, w.itself.2);
      children = entries_same m n (children_name a b) k.entries (same (codes ".children") children) w.children;
      properties = props_same m n (props_name a b) k.props (same (codes ".props") props) w.properties;
    }

abbrev pub Each : Files → Folder → Type 0
Each m f = (node copy : PartValue) (k : Kept) → f.nodes node copy ≡ Some k → FitsId node copy × TellsKept m node copy k

pub each_same : (m n : Files) (f : Folder) → ((a b : PartValue) → SameOf m n a b) → Each m f → Each n f
each_same m n f same each = λ node copy k here. let w = each node copy k here in (w.0, kept_same m n node copy k (same node copy) w.1)

-- those of one are changed
pub kept_put : (m n : Files) (f : Folder) (id : NodeId) (k : Kept) → TellsFolder m f → FitsNode id → TellsKept n (part_value id.node) (part_value id.copy) k
    → ((q : List ℕ) → IsAway (part_value id.node) (part_value id.copy) q → get n q ≡ get m q) → TellsFolder n (put_kept f id k)
kept_put m n f id k told fits now same = record {
  each = λ node copy l here. by node copy l (same_value (part_value id.node) node && same_value (part_value id.copy) copy) refl here;
  next = file_same m n (codes "next-ids") _ (same (codes "next-ids") (next_away (part_value id.node) (part_value id.copy))) told.next;
  changes = file_same m n (codes "changes") _ (same (codes "changes") (changes_away (part_value id.node) (part_value id.copy))) told.changes;
}
  where
    other : (node copy : PartValue) → (same_value (part_value id.node) node && same_value (part_value id.copy) copy) ≡ false → part_value id.node ≡ node → part_value id.copy ≡ copy → ⊥
    other node copy unlike e d =
        let both = and_from _ _ (subst (λ (v : PartValue). same_value (part_value id.node) v ≡ true) e (same_value-refl (part_value id.node)))
        (subst (λ (v : PartValue). same_value (part_value id.copy) v ≡ true) d (same_value-refl (part_value id.copy))) in
        let clash : true ≡ false = sym both ∙ unlike in absurd cc

    by : (node copy : PartValue) (l : Kept) (b : Bool) → (same_value (part_value id.node) node && same_value (part_value id.copy) copy) ≡ b
        → cond (same_value (part_value id.node) node && same_value (part_value id.copy) copy) (Some k) (f.nodes node copy) ≡ Some l → FitsId node copy × TellsKept n node copy l
    by node copy l true is here =
        let both = and_parts (same_value (part_value id.node) node) (same_value (part_value id.copy) copy) is in
        let one : k ≡ l = same_Some k l (sym (ap (λ (t : Bool). cond t (Some k) (f.nodes node copy)) is) ∙ here) in
        let first : part_value id.node ≡ node = same_value-is (part_value id.node) node both.0 in
        let second : part_value id.copy ≡ copy = same_value-is (part_value id.copy) copy both.1 in
        subst (λ (z : Kept). FitsId node copy × TellsKept n node copy z) one
        (subst (λ (p : PartValue × PartValue). FitsId p.0 p.1 × TellsKept n p.0 p.1 k) (λ i. (first i, second i)) (fits, now))
    by node copy l false is here =
        let w = told.each node copy l (sym (ap (λ (t : Bool). cond t (Some k) (f.nodes node copy)) is) ∙ here) in
        (w.0, kept_same m n node copy l (λ s es. same (node_name node copy ++ s) (key_away (part_value id.node) (part_value id.copy) node copy fits w.0 (other node copy is) s es)) w.1)
