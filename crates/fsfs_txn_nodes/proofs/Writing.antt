-- The changes that a step makes ready tell what the folder holds then.
use Rattle.std.proofs.Common.{◌≡◌, ◌∙◌, true, List, [], ◌∷◌, ◌++◌, Option, Some, None, refl, sym, ap, subst}
use Rattle.fsfs_base.specs.Files.{Files}
use Rattle.fsfs_noderev.specs.declared.node_id.NodeId.{NodeId}
use Rattle.fsfs_noderev.specs.declared.node_rev.NodeRev.{NodeRev}
use Rattle.fsfs_layout.specs.Small.{IsNextIds}
use Rattle.fsfs_layout.specs.declared.small_files.next_ids_file.NextIds.{NextIds as NextNumbers}
use Rattle.fsfs_noderev.specs.Changes.Items.{IsItem}
use Rattle.fsfs_noderev.specs.declared.changes.item.ChangeItem.{ChangeItem}
use Rattle.fsfs_revision.specs.Shows.Reading.{Pairs, DirEntry}
use Rattle.fsfs_draft.specs.Drafts.{Kept, Folder}
use Rattle.fsfs_draft.specs.Steps.{kept_at, with_kept, same_key}
use Rattle.fsfs_draft.proofs.Files.{same_files, other_files}
use Rattle.fsfs_draft.specs.Views.{new_kept}
use Rattle.fsfs_draft.specs.Items.{with_item}
use Rattle.fsfs_txn_files.specs.Texts.{IsNodeFile, ArePropsOf}
use Rattle.fsfs_txn_files.specs.Children.{IsWholeList}
use Rattle.fsfs_txn_files.specs.Changes.{changed_all, IsChange}
use Rattle.fsfs_txn_files.specs.declared.change.FileChange.{FileChange}
use Rattle.fsfs_txn_files.specs.declared.change.How.TheVariants.{Whole, AtEnd}
use Rattle.fsfs_txn_files.specs.declared.folder_file.FolderFile.TheVariants.{NextIds, Changes, Node, Children, Props}
use Rattle.fsfs_txn_nodes.specs.TxnFolder.Folders.{TellsFolder}
use Rattle.fsfs_txn_nodes.specs.TxnFolder.Telling.{FitsNode, IsRecord, put_kept}
use Rattle.fsfs_txn_nodes.specs.TxnFolder.Written.{IsListFirst, IsNodeLast, Same, Other, TellsNew, TellsEntry, TellsChild, TellsMerged, TellsText, TellsPropsSet, TellsNext, TellsSettled, with_next}
use Rattle.fsfs_txn_nodes.proofs.StepLemmas.{changes_tell}

-- one after another
pub one_file : (none files : List FileChange) (c : FileChange) → none ≡ [] → files ≡ none ++ c ∷ [] → files ≡ c ∷ []
one_file none files c is push = push ∙ ap (λ (l : List FileChange). l ++ c ∷ []) is

pub two_files : (none first files : List FileChange) (b c : FileChange) → none ≡ [] → first ≡ none ++ b ∷ [] → files ≡ first ++ c ∷ [] → files ≡ b ∷ c ∷ []
two_files none first files b c is one two = two ∙ ap (λ (l : List FileChange). l ++ c ∷ []) (one_file none first b is one)

as_files : (files made : List FileChange) (f : Folder) (m : Files) → files ≡ made → TellsFolder (changed_all made m) f → TellsFolder (changed_all files m) f
as_files files made f m is told = subst (λ (l : List FileChange). TellsFolder (changed_all l m) f) (sym is) told

pub tells_new : (node : NodeRev) (c : FileChange) (files : List FileChange) → FitsNode node.id → IsChange c (Node node.id) Whole (IsNodeFile node) → files ≡ c ∷ [] → TellsNew node files
tells_new node c files fits is all = λ m f told.
    as_files files (c ∷ []) _ m all (changes_tell.new m f node.id (record { node = node; entries = None; props = None }) c told fits refl refl is)

pub tells_text : (id : NodeId) (node : NodeRev) (c : FileChange) (files : List FileChange) → IsChange c (Node id) Whole (IsNodeFile node) → files ≡ c ∷ [] → TellsText id node files
tells_text id node c files is all = λ m f k told here. as_files files (c ∷ []) _ m all (changes_tell.text m f id k (record k { node = node }) c told here is refl refl)

-- where a list goes first, it is the one that there was not
tells_entry_by : (id : NodeId) (k : Kept) (entries : List DirEntry) (node : NodeRev) (IsNew : List DirEntry → List DirEntry → Type 0) (own : Option (List DirEntry)) (one : FileChange) (first last files : List FileChange) → k.entries ≡ own
    → ((old new : List DirEntry) → IsNew old new → IsRecord one id old new) → IsNodeLast id k.node node last → IsListFirst id own entries first → files ≡ (first ++ one ∷ []) ++ last
    → TellsEntry id k entries node IsNew files
tells_entry_by id k entries node IsNew None one first last files own_is record_is (Other itself unlike node_is ends) begins all = λ m f new told here those is.
    let list : files ≡ begins.0 ∷ one ∷ itself ∷ [] = all ∙ (λ i. (begins.2 i ++ one ∷ []) ++ ends i) in
    as_files files (begins.0 ∷ one ∷ itself ∷ []) _ m list
    (changes_tell.opened m f id k (record { node = node; entries = Some new; props = k.props }) entries new begins.0 one itself told here begins.1 (record_is entries new is) node_is refl refl)
tells_entry_by id k entries node IsNew None one first last files own_is record_is (Same as_was ends) begins all = λ m f new told here those is.
    let list : files ≡ begins.0 ∷ one ∷ [] = all ∙ (λ i. (begins.2 i ++ one ∷ []) ++ ends i) in
    as_files files (begins.0 ∷ one ∷ []) _ m list
    (changes_tell.opened_only m f id k (record { node = node; entries = Some new; props = k.props }) entries new begins.0 one told here begins.1 (record_is entries new is) as_was refl refl)
tells_entry_by id k entries node IsNew (Some own) one first last files own_is record_is (Other itself unlike node_is ends) begins all = λ m f new told here those is.
    let list : files ≡ one ∷ itself ∷ [] = all ∙ (λ i. (begins i ++ one ∷ []) ++ ends i) in
    as_files files (one ∷ itself ∷ []) _ m list
    (changes_tell.further m f id k (record { node = node; entries = Some new; props = k.props }) entries new one itself told here (own_is ∙ ap Some (sym (those own own_is))) (record_is entries new is) node_is refl refl)
tells_entry_by id k entries node IsNew (Some own) one first last files own_is record_is (Same as_was ends) begins all = λ m f new told here those is.
    let list : files ≡ one ∷ [] = all ∙ (λ i. (begins i ++ one ∷ []) ++ ends i) in
    as_files files (one ∷ []) _ m list
    (changes_tell.further_only m f id k (record { node = node; entries = Some new; props = k.props }) entries new one told here (own_is ∙ ap Some (sym (those own own_is))) (record_is entries new is) as_was refl refl)

pub tells_entry : (id : NodeId) (k : Kept) (entries : List DirEntry) (node : NodeRev) (IsNew : List DirEntry → List DirEntry → Type 0) (one : FileChange) (first second last files : List FileChange)
    → ((old new : List DirEntry) → IsNew old new → IsRecord one id old new) → IsNodeLast id k.node node last → IsListFirst id k.entries entries first → second ≡ first ++ one ∷ [] → files ≡ second ++ last
    → TellsEntry id k entries node IsNew files
tells_entry id k entries node IsNew one first second last files record_is node_is begins push append =
    tells_entry_by id k entries node IsNew k.entries one first last files refl record_is node_is begins (append ∙ ap (λ (l : List FileChange). l ++ last) push)

-- changes after others
pub changed-both : (cs ds : List FileChange) (m : Files) → changed_all (cs ++ ds) m ≡ changed_all ds (changed_all cs m)
changed-both [] ds m = refl
changed-both (c ∷ cs) ds m = changed-both cs ds (changed_all (c ∷ []) m)

pub tells_child : (id : NodeId) (k : Kept) (entries : List DirEntry) (node child : NodeRev) (IsNew : List DirEntry → List DirEntry → Type 0) (made put files : List FileChange) → files ≡ made ++ put → TellsNew child made → TellsEntry id k entries node IsNew put
    → TellsChild id k entries node child IsNew files
tells_child id k entries node child IsNew made put files all first second = λ m f new told here free those is.
    let apart : same_key child.id id ≡ true → ⊥ = λ same. (let clash : None ≡ Some k = sym free ∙ same_files f.nodes child.id id same ∙ here in absurd cc) in
    let there : kept_at (with_kept child.id (new_kept child) f.nodes) id ≡ Some k = other_files child.id id (new_kept child) f.nodes apart ∙ here in
    subst (λ (n : Files). TellsFolder n (put_kept (put_kept f child.id (new_kept child)) id (record { node = node; entries = Some new; props = k.props })))
    (sym (ap (λ (l : List FileChange). changed_all l m) all ∙ changed-both made put m))
    (second (changed_all made m) (put_kept f child.id (new_kept child)) new (first m f told) there those is)

pub tells_merged : (id : NodeId) (entries all : List DirEntry) (node : NodeRev) (list itself : FileChange) (files : List FileChange) → all ≡ entries → IsChange list (Children id) Whole (IsWholeList all) → IsChange itself (Node id) Whole (IsNodeFile node) → files ≡ list ∷ itself ∷ []
    → TellsMerged id entries node files
tells_merged id entries all node list itself files same list_is node_is are = λ m f k told here.
    as_files files (list ∷ itself ∷ []) _ m are
    (changes_tell.merged m f id k (record { node = node; entries = Some entries; props = k.props }) entries list itself told here (subst (λ (es : List DirEntry). IsChange list (Children id) Whole (IsWholeList es)) same list_is) node_is refl refl)

pub tells_props : (id : NodeId) (node : NodeRev) (pairs : Pairs) (list itself : FileChange) (files : List FileChange) → IsChange list (Props id) Whole (ArePropsOf pairs) → IsChange itself (Node id) Whole (IsNodeFile node) → files ≡ list ∷ itself ∷ []
    → TellsPropsSet id node pairs files
tells_props id node pairs list itself files list_is node_is all = λ m f k told here.
    as_files files (list ∷ itself ∷ []) _ m all (changes_tell.properties m f id k (record k { node = node; props = Some pairs }) pairs list itself told here list_is node_is refl refl)

pub tells_next : (next : NextNumbers) (c : FileChange) (files : List FileChange) → IsChange c NextIds Whole (λ text. IsNextIds text (next.node.number, next.copy.number)) → files ≡ c ∷ [] → TellsNext next files
tells_next next c files is all = λ m f told. as_files files (c ∷ []) _ m all (changes_tell.drawn m f next.node.number next.copy.number c told is)

changed-append : (cs : List FileChange) (c : FileChange) (f : Folder) (m : Files) → TellsFolder (changed_all (c ∷ []) (changed_all cs m)) f → TellsFolder (changed_all (cs ++ c ∷ []) m) f
changed-append [] c f m told = told
changed-append (d ∷ cs) c f m told = changed-append cs c f (changed_all (d ∷ []) m) told

pub tells_settled : (next : NextNumbers) (item : ChangeItem) (c : FileChange) (first files : List FileChange) → TellsNext next first → IsChange c Changes AtEnd (λ text. IsItem text item) → files ≡ first ++ c ∷ [] → TellsSettled next item files
tells_settled next item c first files drawn is all = λ m f told.
    as_files files (first ++ c ∷ []) _ m all (changed-append first c (with_item (with_next next f) item) m (changes_tell.item (changed_all first m) (with_next next f) item c (drawn m f told) is))
