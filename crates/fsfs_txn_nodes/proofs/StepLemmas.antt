-- The changes of files that go with a step of an edit.
use Rattle.std.proofs.Common.{◌≡◌, ◌∙◌, ℕ, List, [], ◌∷◌, ◌++◌, Option, Some, None, refl, sym, subst, arith}
use Rattle.std.specs.Prelude.{codes}
use Rattle.std.specs.FinMap.{get}
use Rattle.fsfs_base.specs.Files.{Files}
use Rattle.fsfs_base.specs.Grammar.Base36.{last_digits}
use Rattle.fsfs_base.proofs.Numerals.{number_some}
use Rattle.fsfs_noderev.specs.Ids.{PartValue, Old, part_value}
use Rattle.fsfs_noderev.specs.declared.node_id.NodeId.{NodeId}
use Rattle.fsfs_noderev.specs.declared.node_rev.NodeRev.{NodeRev}
use Rattle.fsfs_layout.specs.Small.{IsNextIds}
use Rattle.fsfs_noderev.specs.Changes.Items.{IsItem}
use Rattle.fsfs_noderev.specs.Changes.Texts.{IsAny}
use Rattle.fsfs_noderev.specs.declared.changes.item.ChangeItem.{ChangeItem}
use Rattle.fsfs_noderev.proofs.ItemLists.{items_push}
use Rattle.fsfs_revision.specs.Shows.Reading.{Pairs, DirEntry}
use Rattle.fsfs_draft.specs.Drafts.{Kept, Folder}
use Rattle.fsfs_draft.specs.Steps.{kept_at}
use Rattle.fsfs_draft.specs.Items.{with_item}
use Rattle.fsfs_draft.specs.Views.{new_kept}
use Rattle.fsfs_txn_files.specs.FileNames.{node_name, children_name, props_name, file_name}
use Rattle.fsfs_txn_files.specs.Texts.{IsNodeFile, ArePropsOf}
use Rattle.fsfs_txn_files.specs.Children.{IsWholeList, IsPutRecord, IsTakenRecord, Tells}
use Rattle.fsfs_txn_files.specs.Changes.{changed, changed_all, IsChange}
use Rattle.fsfs_txn_files.specs.declared.change.FileChange.{FileChange}
use Rattle.fsfs_txn_files.specs.declared.change.How.TheVariants.{Whole, AtEnd}
use Rattle.fsfs_txn_files.specs.declared.folder_file.FolderFile.TheVariants.{NextIds, Changes, Node, Children, Props}
use Rattle.fsfs_txn_files.proofs.NameLemmas.{apart_at}
use Rattle.fsfs_txn_files.proofs.TailLemmas.{tell}
use Rattle.fsfs_txn_nodes.specs.TxnFolder.Folders.{HasFile, TellsEntries, TellsProps, TellsFolder}
use Rattle.fsfs_txn_nodes.specs.TxnFolder.Telling.{FitsNode, IsNodeChange, IsRecord, Put, Taken, put_kept, root_folder, ChangesTell}
use Rattle.fsfs_txn_nodes.proofs.FileLemmas.{changed_other, changed_whole, changed_end, file_same, entries_same, props_same, children_not_node, props_not_node, children_not_props, IsAway, of_node, of_children, of_props, away_changed, each_same, kept_put}

abbrev node_of : NodeId → PartValue
node_of id = part_value id.node

abbrev copy_of : NodeId → PartValue
copy_of id = part_value id.copy

no_entries : (m : Files) (name : List ℕ) (o : Option (List DirEntry)) → o ≡ None → TellsEntries m name o
no_entries m name o none = subst (λ (z : Option (List DirEntry)). TellsEntries m name z) (sym none) tt

no_props : (m : Files) (name : List ℕ) (o : Option Pairs) → o ≡ None → TellsProps m name o
no_props m name o none = subst (λ (z : Option Pairs). TellsProps m name z) (sym none) tt

-- ---- a record at the end of a directory's list

record_told : (c : FileChange) (dir : NodeId) (old new : List DirEntry) (m : Files) → IsRecord c dir old new → HasFile m (children_name (node_of dir) (copy_of dir)) (λ b. Tells b old)
    → HasFile (changed c m) (children_name (node_of dir) (copy_of dir)) (λ b. Tells b new)
record_told c dir old new m (Put name kind id is has) h =
    (h.0 ++ c.text.items, changed_end c (Children dir) (IsPutRecord name kind id) m h.0 is h.1, tell.put h.0 c.text.items old new name kind id h.2 is.text_is has)
record_told c dir old new m (Taken name is has) h =
    (h.0 ++ c.text.items, changed_end c (Children dir) (IsTakenRecord name) m h.0 is h.1, tell.taken h.0 c.text.items old new name h.2 is.text_is has)

record_other : (c : FileChange) (dir : NodeId) (old new : List DirEntry) (q : List ℕ) (m : Files) → IsRecord c dir old new → (q ≡ children_name (node_of dir) (copy_of dir) → ⊥) → get (changed c m) q ≡ get m q
record_other c dir old new q m (Put name kind id is has) apart = changed_other c (Children dir) AtEnd (IsPutRecord name kind id) q m is apart
record_other c dir old new q m (Taken name is has) apart = changed_other c (Children dir) AtEnd (IsTakenRecord name) q m is apart

record_away : (c : FileChange) (dir : NodeId) (old new : List DirEntry) (q : List ℕ) (m : Files) → IsRecord c dir old new → IsAway (node_of dir) (copy_of dir) q → get (changed c m) q ≡ get m q
record_away c dir old new q m (Put name kind id is has) away = away_changed c (Children dir) AtEnd (IsPutRecord name kind id) dir q m is (of_children dir) away
record_away c dir old new q m (Taken name is has) away = away_changed c (Children dir) AtEnd (IsTakenRecord name) dir q m is (of_children dir) away

whole_told : (c : FileChange) (dir : NodeId) (entries : List DirEntry) (m : Files) → IsChange c (Children dir) Whole (IsWholeList entries) → HasFile (changed c m) (children_name (node_of dir) (copy_of dir)) (λ b. Tells b entries)
whole_told c dir entries m is = let w = changed_whole c (Children dir) (IsWholeList entries) m is in (w.0, w.1, tell.whole entries w.0 w.2)

-- ---- the node-revision itself, the last of a step's changes

node_told : (m n : Files) (f : Folder) (id : NodeId) (k : Kept) (c : FileChange) → TellsFolder m f → FitsNode id → IsNodeChange c id k
    → TellsEntries n (children_name (node_of id) (copy_of id)) k.entries → TellsProps n (props_name (node_of id) (copy_of id)) k.props
    → ((q : List ℕ) → IsAway (node_of id) (copy_of id) q → get n q ≡ get m q) → TellsFolder (changed c n) (put_kept f id k)
node_told m n f id k c told fits is entries properties same =
    kept_put m (changed c n) f id k told fits
    (record {
      itself = changed_whole c (Node id) (IsNodeFile k.node) n is;
      children = entries_same n (changed c n) (children_name (node_of id) (copy_of id)) k.entries (changed_other c (Node id) Whole (IsNodeFile k.node) (children_name (node_of id) (copy_of id)) n is (children_not_node (node_of id) (copy_of id) fits)) entries;
      properties = props_same n (changed c n) (props_name (node_of id) (copy_of id)) k.props (changed_other c (Node id) Whole (IsNodeFile k.node) (props_name (node_of id) (copy_of id)) n is (props_not_node (node_of id) (copy_of id) fits)) properties;
    })
    (λ q away. away_changed c (Node id) Whole (IsNodeFile k.node) id q n is (of_node id) away ∙ same q away)

told_new : (m : Files) (f : Folder) (id : NodeId) (k : Kept) (c : FileChange) → TellsFolder m f → FitsNode id → k.entries ≡ None → k.props ≡ None → IsNodeChange c id k → TellsFolder (changed c m) (put_kept f id k)
told_new m f id k c told fits none bare is =
    node_told m m f id k c told fits is (no_entries m (children_name (node_of id) (copy_of id)) k.entries none) (no_props m (props_name (node_of id) (copy_of id)) k.props bare) (λ q away. refl)

-- the properties that it has, in files where their file is as it was
had_props : (m n : Files) (f : Folder) (id : NodeId) (k now : Kept) → TellsFolder m f → kept_at f.nodes id ≡ Some k → now.props ≡ k.props → get n (props_name (node_of id) (copy_of id)) ≡ get m (props_name (node_of id) (copy_of id))
    → TellsProps n (props_name (node_of id) (copy_of id)) now.props
had_props m n f id k now told here are same =
    subst (λ (z : Option Pairs). TellsProps n (props_name (node_of id) (copy_of id)) z) (sym are) (props_same m n (props_name (node_of id) (copy_of id)) k.props same (told.each (node_of id) (copy_of id) k here).1.properties)

had_entries : (m n : Files) (f : Folder) (id : NodeId) (k now : Kept) → TellsFolder m f → kept_at f.nodes id ≡ Some k → now.entries ≡ k.entries → get n (children_name (node_of id) (copy_of id)) ≡ get m (children_name (node_of id) (copy_of id))
    → TellsEntries n (children_name (node_of id) (copy_of id)) now.entries
had_entries m n f id k now told here are same =
    subst (λ (z : Option (List DirEntry)). TellsEntries n (children_name (node_of id) (copy_of id)) z) (sym are) (entries_same m n (children_name (node_of id) (copy_of id)) k.entries same (told.each (node_of id) (copy_of id) k here).1.children)

has_entries : (n : Files) (id : NodeId) (entries : List DirEntry) (o : Option (List DirEntry)) → o ≡ Some entries → HasFile n (children_name (node_of id) (copy_of id)) (λ b. Tells b entries) → TellsEntries n (children_name (node_of id) (copy_of id)) o
has_entries n id entries o is h = subst (λ (z : Option (List DirEntry)). TellsEntries n (children_name (node_of id) (copy_of id)) z) (sym is) h

told_opened : (m : Files) (f : Folder) (id : NodeId) (k now : Kept) (old new : List DirEntry) (list one node : FileChange) → TellsFolder m f → kept_at f.nodes id ≡ Some k
    → IsChange list (Children id) Whole (IsWholeList old) → IsRecord one id old new → IsNodeChange node id now → now.entries ≡ Some new → now.props ≡ k.props → TellsFolder (changed_all (list ∷ one ∷ node ∷ []) m) (put_kept f id now)
told_opened m f id k now old new list one node told here is_list is_one is_node has are =
    let fits = (told.each (node_of id) (copy_of id) k here).0 in
    let apart = λ (e : props_name (node_of id) (copy_of id) ≡ children_name (node_of id) (copy_of id)). children_not_props (node_of id) (copy_of id) fits (sym e) in
    let n = changed one (changed list m) in
    node_told m n f id now node told fits is_node
    (has_entries n id new now.entries has (record_told one id old new (changed list m) is_one (whole_told list id old m is_list)))
    (had_props m n f id k now told here are (record_other one id old new (props_name (node_of id) (copy_of id)) (changed list m) is_one apart ∙ changed_other list (Children id) Whole (IsWholeList old) (props_name (node_of id) (copy_of id)) m is_list apart))
    (λ q away. record_away one id old new q (changed list m) is_one away ∙ away_changed list (Children id) Whole (IsWholeList old) id q m is_list (of_children id) away)

told_further : (m : Files) (f : Folder) (id : NodeId) (k now : Kept) (old new : List DirEntry) (one node : FileChange) → TellsFolder m f → kept_at f.nodes id ≡ Some k → k.entries ≡ Some old
    → IsRecord one id old new → IsNodeChange node id now → now.entries ≡ Some new → now.props ≡ k.props → TellsFolder (changed_all (one ∷ node ∷ []) m) (put_kept f id now)
told_further m f id k now old new one node told here had is_one is_node has are =
    let w = told.each (node_of id) (copy_of id) k here in
    let apart = λ (e : props_name (node_of id) (copy_of id) ≡ children_name (node_of id) (copy_of id)). children_not_props (node_of id) (copy_of id) w.0 (sym e) in
    let before : TellsEntries m (children_name (node_of id) (copy_of id)) (Some old) = subst (λ (z : Option (List DirEntry)). TellsEntries m (children_name (node_of id) (copy_of id)) z) had w.1.children in
    node_told m (changed one m) f id now node told w.0 is_node
    (has_entries (changed one m) id new now.entries has (record_told one id old new m is_one before))
    (had_props m (changed one m) f id k now told here are (record_other one id old new (props_name (node_of id) (copy_of id)) m is_one apart))
    (λ q away. record_away one id old new q m is_one away)

-- ---- a node-revision that is as it was, whose file is left

left_told : (m n : Files) (f : Folder) (id : NodeId) (k now : Kept) → TellsFolder m f → kept_at f.nodes id ≡ Some k → now.node ≡ k.node → get n (node_name (node_of id) (copy_of id)) ≡ get m (node_name (node_of id) (copy_of id))
    → TellsEntries n (children_name (node_of id) (copy_of id)) now.entries → TellsProps n (props_name (node_of id) (copy_of id)) now.props → ((q : List ℕ) → IsAway (node_of id) (copy_of id) q → get n q ≡ get m q) → TellsFolder n (put_kept f id now)
left_told m n f id k now told here are same entries properties away =
    let w = told.each (node_of id) (copy_of id) k here in
    kept_put m n f id now told w.0
    (record {
      itself = subst (λ (v : NodeRev). HasFile n (node_name (node_of id) (copy_of id)) (IsNodeFile v)) (sym are) (file_same m n (node_name (node_of id) (copy_of id)) (IsNodeFile k.node) same w.1.itself);
      children = entries;
      properties = properties;
    })
    away

told_opened_only : (m : Files) (f : Folder) (id : NodeId) (k now : Kept) (old new : List DirEntry) (list one : FileChange) → TellsFolder m f → kept_at f.nodes id ≡ Some k
    → IsChange list (Children id) Whole (IsWholeList old) → IsRecord one id old new → now.node ≡ k.node → now.entries ≡ Some new → now.props ≡ k.props → TellsFolder (changed_all (list ∷ one ∷ []) m) (put_kept f id now)
told_opened_only m f id k now old new list one told here is_list is_one same has are =
    let fits = (told.each (node_of id) (copy_of id) k here).0 in
    let from_props = λ (e : props_name (node_of id) (copy_of id) ≡ children_name (node_of id) (copy_of id)). children_not_props (node_of id) (copy_of id) fits (sym e) in
    let from_node = λ (e : node_name (node_of id) (copy_of id) ≡ children_name (node_of id) (copy_of id)). children_not_node (node_of id) (copy_of id) fits (sym e) in
    let n = changed one (changed list m) in
    left_told m n f id k now told here same
    (record_other one id old new (node_name (node_of id) (copy_of id)) (changed list m) is_one from_node ∙ changed_other list (Children id) Whole (IsWholeList old) (node_name (node_of id) (copy_of id)) m is_list from_node)
    (has_entries n id new now.entries has (record_told one id old new (changed list m) is_one (whole_told list id old m is_list)))
    (had_props m n f id k now told here are (record_other one id old new (props_name (node_of id) (copy_of id)) (changed list m) is_one from_props ∙ changed_other list (Children id) Whole (IsWholeList old) (props_name (node_of id) (copy_of id)) m is_list from_props))
    (λ q away. record_away one id old new q (changed list m) is_one away ∙ away_changed list (Children id) Whole (IsWholeList old) id q m is_list (of_children id) away)

told_further_only : (m : Files) (f : Folder) (id : NodeId) (k now : Kept) (old new : List DirEntry) (one : FileChange) → TellsFolder m f → kept_at f.nodes id ≡ Some k → k.entries ≡ Some old
    → IsRecord one id old new → now.node ≡ k.node → now.entries ≡ Some new → now.props ≡ k.props → TellsFolder (changed one m) (put_kept f id now)
told_further_only m f id k now old new one told here had is_one same has are =
    let w = told.each (node_of id) (copy_of id) k here in
    let from_props = λ (e : props_name (node_of id) (copy_of id) ≡ children_name (node_of id) (copy_of id)). children_not_props (node_of id) (copy_of id) w.0 (sym e) in
    let from_node = λ (e : node_name (node_of id) (copy_of id) ≡ children_name (node_of id) (copy_of id)). children_not_node (node_of id) (copy_of id) w.0 (sym e) in
    let before : TellsEntries m (children_name (node_of id) (copy_of id)) (Some old) = subst (λ (z : Option (List DirEntry)). TellsEntries m (children_name (node_of id) (copy_of id)) z) had w.1.children in
    left_told m (changed one m) f id k now told here same
    (record_other one id old new (node_name (node_of id) (copy_of id)) m is_one from_node)
    (has_entries (changed one m) id new now.entries has (record_told one id old new m is_one before))
    (had_props m (changed one m) f id k now told here are (record_other one id old new (props_name (node_of id) (copy_of id)) m is_one from_props))
    (λ q away. record_away one id old new q m is_one away)

-- ---- other steps

told_merged : (m : Files) (f : Folder) (id : NodeId) (k now : Kept) (entries : List DirEntry) (list node : FileChange) → TellsFolder m f → kept_at f.nodes id ≡ Some k
    → IsChange list (Children id) Whole (IsWholeList entries) → IsNodeChange node id now → now.entries ≡ Some entries → now.props ≡ k.props → TellsFolder (changed_all (list ∷ node ∷ []) m) (put_kept f id now)
told_merged m f id k now entries list node told here is_list is_node has are =
    let fits = (told.each (node_of id) (copy_of id) k here).0 in
    let apart = λ (e : props_name (node_of id) (copy_of id) ≡ children_name (node_of id) (copy_of id)). children_not_props (node_of id) (copy_of id) fits (sym e) in
    node_told m (changed list m) f id now node told fits is_node
    (has_entries (changed list m) id entries now.entries has (whole_told list id entries m is_list))
    (had_props m (changed list m) f id k now told here are (changed_other list (Children id) Whole (IsWholeList entries) (props_name (node_of id) (copy_of id)) m is_list apart))
    (λ q away. away_changed list (Children id) Whole (IsWholeList entries) id q m is_list (of_children id) away)

told_text : (m : Files) (f : Folder) (id : NodeId) (k now : Kept) (node : FileChange) → TellsFolder m f → kept_at f.nodes id ≡ Some k → IsNodeChange node id now → now.entries ≡ k.entries → now.props ≡ k.props
    → TellsFolder (changed node m) (put_kept f id now)
told_text m f id k now node told here is_node has are =
    node_told m m f id now node told (told.each (node_of id) (copy_of id) k here).0 is_node (had_entries m m f id k now told here has refl) (had_props m m f id k now told here are refl) (λ q away. refl)

told_properties : (m : Files) (f : Folder) (id : NodeId) (k now : Kept) (pairs : Pairs) (list node : FileChange) → TellsFolder m f → kept_at f.nodes id ≡ Some k
    → IsChange list (Props id) Whole (ArePropsOf pairs) → IsNodeChange node id now → now.entries ≡ k.entries → now.props ≡ Some pairs → TellsFolder (changed_all (list ∷ node ∷ []) m) (put_kept f id now)
told_properties m f id k now pairs list node told here is_list is_node has are =
    let fits = (told.each (node_of id) (copy_of id) k here).0 in
    let n = changed list m in
    node_told m n f id now node told fits is_node
    (had_entries m n f id k now told here has (changed_other list (Props id) Whole (ArePropsOf pairs) (children_name (node_of id) (copy_of id)) m is_list (children_not_props (node_of id) (copy_of id) fits)))
    (subst (λ (z : Option Pairs). TellsProps n (props_name (node_of id) (copy_of id)) z) (sym are) (changed_whole list (Props id) (ArePropsOf pairs) m is_list))
    (λ q away. away_changed list (Props id) Whole (ArePropsOf pairs) id q m is_list (of_props id) away)

-- ---- files that the folder has once

not_next : (a b : PartValue) (s : List ℕ) → node_name a b ++ s ≡ codes "next-ids" → ⊥
not_next a b s e = apart_at 1 111 101 (node_name a b ++ s) (codes "next-ids") refl refl (λ h. omega (arith, h)) e

not_changes : (a b : PartValue) (s : List ℕ) → node_name a b ++ s ≡ codes "changes" → ⊥
not_changes a b s e = apart_at 0 110 99 (node_name a b ++ s) (codes "changes") refl refl (λ h. omega (arith, h)) e

told_drawn : (m : Files) (f : Folder) (node copy : ℕ) (c : FileChange) → TellsFolder m f → IsChange c NextIds Whole (λ text. IsNextIds text (node, copy)) → TellsFolder (changed c m) (record f { next_node = node; next_copy = copy })
told_drawn m f node copy c told is = record {
  each = each_same m (changed c m) f (λ a b s es. changed_other c NextIds Whole (λ text. IsNextIds text (node, copy)) (node_name a b ++ s) m is (not_next a b s)) told.each;
  next = changed_whole c NextIds (λ text. IsNextIds text (node, copy)) m is;
  changes = file_same m (changed c m) (codes "changes") _
      (changed_other c NextIds Whole (λ text. IsNextIds text (node, copy)) (codes "changes") m is (λ e. apart_at 0 99 110 (codes "changes") (codes "next-ids") refl refl (λ h. omega (arith, h)) e)) told.changes;
}

told_item : (m : Files) (f : Folder) (it : ChangeItem) (c : FileChange) → TellsFolder m f → IsChange c Changes AtEnd (λ text. IsItem text it) → TellsFolder (changed c m) (with_item f it)
told_item m f it c told is =
    let h = told.changes in record {
      each = each_same m (changed c m) f (λ a b s es. changed_other c Changes AtEnd (λ text. IsItem text it) (node_name a b ++ s) m is (not_changes a b s)) told.each;
      next = file_same m (changed c m) (codes "next-ids") _
          (changed_other c Changes AtEnd (λ text. IsItem text it) (codes "next-ids") m is (λ e. apart_at 0 110 99 (codes "next-ids") (codes "changes") refl refl (λ h. omega (arith, h)) e)) told.next;
      changes = (h.0 ++ c.text.items, changed_end c Changes (λ text. IsItem text it) m h.0 is h.1, items_push IsAny [] h.0 c.text.items f.items it h.2 is.text_is tt);
    }

-- ---- the first files

zero_name : node_name (Old 0) (Old 0) ≡ codes "node.0.0"
unfolding last_digits
zero_name = refl

zero_ids : IsNextIds (codes "0 0\n") (0, 0)
zero_ids = record {
  first = codes "0 ";
  second = codes "0\n";
  between = 0;
  first_is = number_some 36 170581728179578208255 32 48 (omega arith) (omega arith);
  second_is = record { inner = 0; inner_is = number_some 36 170581728179578208255 10 48 (omega arith) (omega arith); value_is = refl };
  parts = refl;
}

abbrev no_folder : List ℕ → Folder
no_folder proto = record { nodes = λ node copy. None; next_node = 0; next_copy = 0; items = []; proto = proto }

told_begun : (m : Files) (root : NodeRev) (text proto : List ℕ) → FitsNode root.id → IsNodeFile root text
    → get m (file_name (Node root.id)) ≡ Some text → get m (codes "next-ids") ≡ Some (codes "0 0\n") → get m (codes "changes") ≡ Some [] → TellsFolder m (root_folder root proto)
told_begun m root text proto fits is itself next changes =
    kept_put m m (no_folder proto) root.id (new_kept root)
    (record { each = λ node copy k here. absurd cc; next = (codes "0 0\n", next, zero_ids); changes = ([], changes, refl) })
    fits
    (record { itself = (text, itself, is); children = tt; properties = tt })
    (λ q away. refl)

first_name : (id : NodeId) → part_value id.node ≡ Old 0 → part_value id.copy ≡ Old 0 → file_name (Node id) ≡ codes "node.0.0"
first_name id e d = (λ i. node_name (e i) (d i)) ∙ zero_name

pub changes_tell : ChangesTell
changes_tell = record {
  begun = told_begun;
  first = first_name;
  new = told_new;
  opened = told_opened;
  further = told_further;
  opened_only = told_opened_only;
  further_only = told_further_only;
  merged = told_merged;
  text = told_text;
  properties = told_properties;
  drawn = told_drawn;
  item = told_item;
}
