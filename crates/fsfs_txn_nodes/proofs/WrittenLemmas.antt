-- What the bench tells, as steps are taken and settled.
use Rattle.std.proofs.Common.{◌≡◌, ◌≢◌, ◌≤◌, ℕ, List, [], ◌∷◌, ◌++◌, refl, sym, ap, subst, ◌∙◌, arith}
use Rattle.std.specs.Prelude.{Option, Some, None, option_map, unwrap_or, Result, Ok, Err, IfSome, IfOk, IfErr, codes}
use Rattle.std.specs.FinMap.{get}
use Rattle.std.proofs.lemmas.List.{append-nil}
use Rattle.std.proofs.Math.Logic.{∥∥₁_elim, ∥∥₁_map, ∥∥₁_prop}
use Rattle.fsfs_base.specs.Counts.{Rose}
use Rattle.fsfs_base.specs.Failures.{HasCause}
use Rattle.fsfs_base.specs.Files.{Files as BenchFiles}
use Rattle.fsfs_base.proofs.FileLemmas.{get_kept}
use Rattle.fsfs_disk.specs.Benches.{appended, bytes_in, bytes_on}
use Rattle.fsfs_noderev.specs.Ids.{PartValue, part_value}
use Rattle.fsfs_noderev.specs.declared.node_id.NodeId.{NodeId}
use Rattle.fsfs_noderev.specs.declared.node_rev.NodeRev.{NodeRev}
use Rattle.fsfs_noderev.specs.declared.rep.Rep.{Rep}
use Rattle.fsfs_layout.specs.declared.small_files.next_ids_file.NextIds.{NextIds}
use Rattle.fsfs_noderev.specs.declared.changes.item.ChangeItem.{ChangeItem}
use Rattle.fsfs_draft.specs.Drafts.{Kept, Folder}
use Rattle.fsfs_draft.specs.Steps.{Files, with_kept}
use Rattle.fsfs_draft.specs.Views.{new_kept}
use Rattle.fsfs_txn_files.specs.declared.proto_rev.text_error.TextError.{TextError}
use Rattle.fsfs_txn_files.specs.declared.proto_rev.text_error.TextError.TheVariants.{SourceFault, TextTooLong, Checksum, BenchFault}
use Rattle.fsfs_txn_files.specs.ProtoRev.Causes.{IfBench}
use Rattle.fsfs_txn_files.specs.ProtoRev.Texts.{IsPut, IsLeft}
use Rattle.fsfs_base.specs.declared.fields.txn_name.TxnName.{TxnName}
use Rattle.fsfs_base.specs.declared.fields.digest.HexDigest.{HexDigest}
use Rattle.fsfs_base.specs.declared.grammar.base36.B36.{B36}
use Rattle.fsfs_txn_files.specs.FileNames.{file_name, node_name}
use Rattle.fsfs_txn_files.specs.Changes.{changed, changed_all}
use Rattle.fsfs_txn_files.specs.declared.change.FileChange.{FileChange}
use Rattle.fsfs_txn_files.specs.declared.folder_file.FolderFile.{FolderFile}
use Rattle.fsfs_txn_files.specs.declared.folder_file.FolderFile.TheVariants.{NextIds as NextIdsFile, Changes, Node, Children, Props}
use Rattle.fsfs_txn_files.proofs.NameLemmas.{apart_at}
use Rattle.fsfs_txn_nodes.specs.TxnFolder.Folders.{TellsFolder}
use Rattle.fsfs_txn_nodes.proofs.FileLemmas.{changed_other, file_same, each_same}
use Rattle.fsfs_txn_nodes.proofs.Writing.{changed-both}
use Rattle.fsfs_txn_nodes.specs.declared.memory.edit_steps.Step.{Step}
use Rattle.fsfs_txn_nodes.specs.Memory.Lists.{with_steps}
use Rattle.fsfs_txn_nodes.specs.Memory.Views.{begun_folder}
use Rattle.fsfs_txn_nodes.specs.Memory.Written.{filed, HasTold, LeadTo}
use Rattle.fsfs_revision.specs.Rep.Frames.{framed_text}

-- ---- a file that is none of those that tell

-- no file that the folder tells itself by has this name
record IsApart (name : List ℕ) : Type 0 where
  pub next : codes "next-ids" ≢ name
  pub changes : codes "changes" ≢ name
  pub nodes : (node copy : PartValue) (ending : List ℕ) → node_name node copy ++ ending ≢ name

rev_apart : IsApart (codes "rev")
rev_apart = record {
  next = λ e. apart_at 0 110 114 (codes "next-ids") (codes "rev") refl refl (λ h. omega (arith, h)) e;
  changes = λ e. apart_at 0 99 114 (codes "changes") (codes "rev") refl refl (λ h. omega (arith, h)) e;
  nodes = λ node copy ending e. apart_at 0 110 114 (node_name node copy ++ ending) (codes "rev") refl refl (λ h. omega (arith, h)) e;
}

apart_by : (name : List ℕ) → name ≡ codes "rev" → IsApart name
apart_by name named = subst (λ (n : List ℕ). IsApart n) (sym named) rev_apart

file_apart : (name : List ℕ) (file : FolderFile) → IsApart name → file_name file ≡ name → ⊥
file_apart name NextIdsFile apart e = apart.next e
file_apart name Changes apart e = apart.changes e
file_apart name (Node id) apart e = apart.nodes (part_value id.node) (part_value id.copy) [] (append-nil (node_name (part_value id.node) (part_value id.copy)) ∙ e)
file_apart name (Children id) apart e = apart.nodes (part_value id.node) (part_value id.copy) (codes ".children") e
file_apart name (Props id) apart e = apart.nodes (part_value id.node) (part_value id.copy) (codes ".props") e

-- changes leave it
file_kept : (name : List ℕ) → IsApart name → (cs : List FileChange) (m : BenchFiles) → get (changed_all cs m) name ≡ get m name
file_kept name apart [] m = refl
file_kept name apart (c ∷ cs) m =
    file_kept name apart cs (changed c m)
    ∙ changed_other c c.file c.how (λ (text : List ℕ). text ≡ text) name m (record { file_is = refl; how_is = refl; text_is = refl }) (λ e. file_apart name c.file apart (sym e))

pub proto_kept : (name : List ℕ) → name ≡ codes "rev" → (old new : Option BenchFiles) (steps last : List FileChange) → new ≡ option_map (changed_all last) (option_map (changed_all steps) old) → bytes_on new name ≡ bytes_on old name
proto_kept name named old new steps last is = ap (λ (o : Option BenchFiles). bytes_on o name) is ∙ by (apart_by name named) old
  where
    by : IsApart name → (o : Option BenchFiles) → bytes_on (option_map (changed_all last) (option_map (changed_all steps) o)) name ≡ bytes_on o name
    by away None = refl
    by away (Some m) = ap (λ (o : Option (List ℕ)). unwrap_or o []) (file_kept name away last (changed_all steps m) ∙ file_kept name away steps m)

-- and it is left by what tells
told_beside : (name bytes : List ℕ) (m : BenchFiles) (f : Folder) → IsApart name → TellsFolder m f → TellsFolder (appended name bytes m) f
told_beside name bytes m f apart told = record {
  each = each_same m (appended name bytes m) f (λ a b s es. get_kept m name (bytes_in m name ++ bytes) (node_name a b ++ s) (apart.nodes a b s)) told.each;
  next = file_same m (appended name bytes m) (codes "next-ids") _ (get_kept m name (bytes_in m name ++ bytes) (codes "next-ids") apart.next) told.next;
  changes = file_same m (appended name bytes m) (codes "changes") _ (get_kept m name (bytes_in m name ++ bytes) (codes "changes") apart.changes) told.changes;
}

-- ---- a bench that failed

pub lost_told : (before now : ℕ) (bench : Option BenchFiles) (f : Folder) → Rose before now → ∥ HasTold now bench f ∥₁
lost_told before now bench f rose = ∣ (λ none. absurd (omega (arith, rose, none))) ∣₁

-- ---- a bench that was read

pub read_told : {T E : Type 0} (before now : ℕ) (old new : Option BenchFiles) (f : Folder) (result : Result T E) → new ≡ old → HasCause before now result → ∥ HasTold before old f ∥₁ → ∥ HasTold now new f ∥₁
read_told before now old new f result same cause told = ∥∥₁_map told (λ t none. subst (λ (o : Option BenchFiles). IfSome o (λ m. TellsFolder m f)) (sym same) (t (let later = cause.later in omega (arith, later, none))))

-- ---- texts

beside_told : (before now : ℕ) (old new : Option BenchFiles) (name more : List ℕ) (f : Folder) → before ≤ now → new ≡ option_map (appended name more) old → IsApart name → HasTold before old f → HasTold now new f
beside_told before now old new name more f later is apart told = λ none. subst (λ (o : Option BenchFiles). IfSome o (λ m. TellsFolder m f)) (sym is) (by old (told (omega (arith, later, none))))
  where
    by : (o : Option BenchFiles) → IfSome o (λ m. TellsFolder m f) → IfSome (option_map (appended name more) o) (λ m. TellsFolder m f)
    by None t = tt
    by (Some m) t = told_beside name more m f apart t

pub text_told : (before now : ℕ) (old new : Option BenchFiles) (name more : List ℕ) (f : Folder) → before ≤ now → new ≡ option_map (appended name more) old → name ≡ codes "rev" → ∥ HasTold before old f ∥₁ → ∥ HasTold now new f ∥₁
text_told before now old new name more f later is named told = ∥∥₁_map told (λ t. beside_told before now old new name more f later is (apart_by name named) t)

pub left_told : (before now : ℕ) (old new : Option BenchFiles) (name : List ℕ) (f : Folder) (e : TextError) → before ≤ now → IfBench e (Rose before now) → IsLeft old new name e → name ≡ codes "rev" → ∥ HasTold before old f ∥₁ → ∥ HasTold now new f ∥₁
left_told before now old new name f SourceFault later rose left named told = text_told before now old new name left.0 f later left.1 named told
left_told before now old new name f TextTooLong later rose left named told = text_told before now old new name left.0 f later left.1 named told
left_told before now old new name f (Checksum kept found) later rose left named told = text_told before now old new name left.0 f later left.1 named told
left_told before now old new name f BenchFault later rose left named told = lost_told before now new f rose

pub append_told : (before now : ℕ) (old new : Option BenchFiles) (name : List ℕ) (f : Folder) (from to : Option (List ℕ)) (expect : Option (HexDigest 16)) (txn : TxnName) (number : B36) (result : Result Rep TextError) → before ≤ now → IfErr result (λ e. IfBench e (Rose before now))
    → IfOk result (IsPut old new from to name expect txn number) → IfErr result (IsLeft old new name) → name ≡ codes "rev" → ∥ HasTold before old f ∥₁ → ∥ HasTold now new f ∥₁
append_told before now old new name f from to expect txn number (Ok rep) later rose put left named told = text_told before now old new name (framed_text put.text) f later put.files named told
append_told before now old new name f from to expect txn number (Err e) later rose put left named told = left_told before now old new name f e later rose left named told

-- ---- the beginning

pub begun_told : (faults : ℕ) (bench : Option BenchFiles) (root : NodeRev) (proto : List ℕ) (files : Files) (items : List ChangeItem) → files ≡ with_kept root.id (new_kept root) (λ node copy. None) → items ≡ []
    → HasTold faults bench (begun_folder root bench proto) → ∥ HasTold faults bench (record { nodes = files; next_node = 0; next_copy = 0; items = items; proto = [] }) ∥₁
begun_told faults bench root proto files items is none told =
    ∣ (λ sound. by bench (told sound)) ∣₁
  where
    same : (m : BenchFiles) (rest : List ℕ) → TellsFolder m (record (begun_folder root None []) { proto = rest }) → TellsFolder m (record { nodes = files; next_node = 0; next_copy = 0; items = items; proto = [] })
    same m rest t = subst (λ (f : Folder). TellsFolder m f) (λ i. record { nodes = sym is i; next_node = 0; next_copy = 0; items = sym none i; proto = [] }) (record { each = t.each; next = t.next; changes = t.changes })

    by : (o : Option BenchFiles) → IfSome o (λ m. TellsFolder m (begun_folder root bench proto)) → IfSome o (λ m. TellsFolder m (record { nodes = files; next_node = 0; next_copy = 0; items = items; proto = [] }))
    by None t = tt
    by (Some m) t = same m (bytes_on bench proto) t

-- before the first step
pub begun_ready : (changes : List FileChange) (steps : List Step) (files : Files) (items : List ChangeItem) → changes ≡ [] → steps ≡ []
    → ∥ LeadTo changes (record { nodes = files; next_node = 0; next_copy = 0; items = items; proto = [] }) (record { nodes = with_steps steps files; next_node = 0; next_copy = 0; items = items; proto = [] }) ∥₁
begun_ready changes steps files items nothing none =
    ∣ (λ m told. subst (λ (p : List FileChange × List Step). TellsFolder (changed_all p.0 m) (record { nodes = with_steps p.1 files; next_node = 0; next_copy = 0; items = items; proto = [] })) (λ i. (sym nothing i, sym none i)) told) ∣₁

-- ---- steps

-- no step, and nothing to write
pub none_ready : (changes : List FileChange) (steps : List Step) (files : Files) (next : NextIds) (items : List ChangeItem) → changes ≡ [] → steps ≡ [] → ∥ LeadTo changes (filed files next items) (filed (with_steps steps files) next items) ∥₁
none_ready changes steps files next items nothing none =
    ∣ (λ m told. subst (λ (p : List FileChange × List Step). TellsFolder (changed_all p.0 m) (filed (with_steps p.1 files) next items)) (λ i. (sym nothing i, sym none i)) told) ∣₁

-- steps more, and what they write
pub more_ready : (changes more all : List FileChange) (ss new : List Step) (base after : Files) (next : NextIds) (items : List ChangeItem) → all ≡ changes ++ more → with_steps new base ≡ after
    → LeadTo more (filed (with_steps ss base) next items) (filed after next items)
    → ∥ LeadTo changes (filed base next items) (filed (with_steps ss base) next items) ∥₁ → ∥ LeadTo all (filed base next items) (filed (with_steps new base) next items) ∥₁
more_ready changes more all ss new base after next items all_is steps_is leads ready = ∥∥₁_map ready (λ lead m told.
    subst (λ (files : Files). TellsFolder (changed_all all m) (filed files next items)) (sym steps_is)
    (subst (λ (n : BenchFiles). TellsFolder n (filed after next items)) (sym (ap (λ (l : List FileChange). changed_all l m) all_is ∙ changed-both changes more m))
    (leads (changed_all changes m) (lead m told))))

-- the same steps and changes, of the same files
pub same_ready : (changes all : List FileChange) (ss new : List Step) (base files : Files) (next : NextIds) (items more : List ChangeItem) → all ≡ changes → new ≡ ss → files ≡ base → more ≡ items
    → ∥ LeadTo changes (filed base next items) (filed (with_steps ss base) next items) ∥₁ → ∥ LeadTo all (filed files next more) (filed (with_steps new files) next more) ∥₁
same_ready changes all ss new base files next items more changes_are steps_are files_are items_are ready =
    subst (λ (p : (List FileChange × List Step) × (Files × List ChangeItem)). ∥ LeadTo p.0.0 (filed p.1.0 next p.1.1) (filed (with_steps p.0.1 p.1.0) next p.1.1) ∥₁)
    (λ i. ((sym changes_are i, sym steps_are i), (sym files_are i, sym items_are i))) ready

-- ---- the end of an edit

pub same_told : (faults : ℕ) (bench : Option BenchFiles) (base files : Files) (next : NextIds) (items more : List ChangeItem) → files ≡ base → more ≡ items → ∥ HasTold faults bench (filed base next items) ∥₁ → ∥ HasTold faults bench (filed files next more) ∥₁
same_told faults bench base files next items more files_are items_are told =
    subst (λ (p : Files × List ChangeItem). ∥ HasTold faults bench (filed p.0 next p.1) ∥₁) (λ i. (sym files_are i, sym items_are i)) told

pub end_told : (before now : ℕ) (old new : Option BenchFiles) (steps last : List FileChange) (base cur end : Folder) → now ≡ before → new ≡ option_map (changed_all last) (option_map (changed_all steps) old) → LeadTo last cur end
    → ∥ LeadTo steps base cur ∥₁ → ∥ HasTold before old base ∥₁ → ∥ HasTold now new end ∥₁
end_told before now old new steps last base cur end same is ends ready told = ∥∥₁_elim ready ∥∥₁_prop (λ lead. ∥∥₁_map told (λ t sound.
    subst (λ (o : Option BenchFiles). IfSome o (λ m. TellsFolder m end)) (sym is) (by lead old (t (sym same ∙ sound)))))
  where
    by : LeadTo steps base cur → (o : Option BenchFiles) → IfSome o (λ m. TellsFolder m base) → IfSome (option_map (changed_all last) (option_map (changed_all steps) o)) (λ m. TellsFolder m end)
    by lead None t = tt
    by lead (Some m) t = ends (changed_all steps m) (lead m t)
