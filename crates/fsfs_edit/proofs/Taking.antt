-- A delete in an own directory of a draft.
use Rattle.std.proofs.Common.{◌≡◌, ◌≤◌, ℕ, Bool, true, false, ◌&&◌, cond, List, [], ◌∷◌, ◌++◌, refl, sym, ap, subst, ◌∙◌}
use Rattle.std.specs.Prelude.{Option, Some, None}
use Rattle.std.proofs.lemmas.Bool.{and_parts}
use Rattle.fsfs_base.specs.Paths.{PathName, Path}
use Rattle.fsfs_tree.specs.Nodes.{TreeFunction}
use Rattle.fsfs_base.specs.declared.kind.Kind.TheVariants.{Dir}
use Rattle.fsfs_base.proofs.PathLemmas.{same_name-refl}
use Rattle.fsfs_base.specs.declared.fields.txn_name.TxnName.{TxnName}
use Rattle.fsfs_revision.specs.Told.{RevisionBytes}
use Rattle.fsfs_noderev.specs.Ids.{PartValue, part_value}
use Rattle.fsfs_noderev.specs.declared.node_id.NodeId.{NodeId}
use Rattle.fsfs_noderev.specs.declared.node_rev.NodeRev.{NodeRev}
use Rattle.fsfs_revision.specs.Shows.Reading.{DirEntry, named, StandsAt}
use Rattle.fsfs_draft.specs.Own.{OwnNode, Own, opened}
use Rattle.fsfs_draft.specs.Rules.{IsEntryOf, stands_under, stands_at}
use Rattle.fsfs_draft.specs.Drafts.{Kept, Folder, IsItemOf, kept_of, HasContent, IsBelow, IsDraft, ShowTrees}
use Rattle.fsfs_draft.specs.Steps.{same_value, Files, with_kept, kept_at, EntriesHere}
use Rattle.fsfs_draft.proofs.Files.{same_value-is, put_files, other_files}
use Rattle.fsfs_draft.specs.Views.{opened_kept}
use Rattle.fsfs_draft.specs.Taken.{IsEntryTaken}
use Rattle.fsfs_edit.specs.DagEdits.Taken.{Takes}
use Rattle.fsfs_model.specs.declared.flat.mark.Mark.{Mark}
use Rattle.fsfs_model.specs.declared.flat.mark.What.TheVariants as whats
use Rattle.fsfs_noderev.specs.declared.changes.item.ChangeItem.{ChangeItem}
use Rattle.fsfs_draft.specs.Laying.{IsLaying, Step}
use Rattle.fsfs_draft.specs.Edits.{IsDelete}
use Rattle.fsfs_draft.proofs.EditLaw.{edits_keep_drafts}
use Rattle.fsfs_draft.specs.Items.{with_item}

module _ (look : RevisionBytes) (top base : ℕ) (trees : ℕ → TreeFunction) (shown : ShowTrees look top trees) (le : base ≤ top) (txn : TxnName) (f : Folder) (own : Own) (draft : IsDraft look top base txn f own)
    (p : Path) (d : OwnNode) (here : own p ≡ Some d) (dir : d.node.kind ≡ Dir) (name : PathName) (entries : List DirEntry) (listed : EntriesHere look (kept_of d) entries) where
  abbrev StandsBelow : Path → NodeRev → Type 0
  StandsBelow q v = stands_under look (Some d) (λ r u. stands_at look p own (StandsAt look base) r u) q v

  module _ (after : Folder) (changed : IsEntryTaken f after d.node.id entries name) where
    k_is : changed.k ≡ kept_of d
    k_is = let both : Some changed.k ≡ Some (kept_of d) = sym changed.here ∙ draft.kept p d here in cc

    abbrev Put : Files
    Put = with_kept d.node.id (kept_of (opened d changed.new)) f.nodes

    after_is : after ≡ record f { nodes = Put }
    after_is = changed.after_is ∙ (λ i. record f { nodes = with_kept d.node.id (opened_kept (k_is i) changed.new) f.nodes })

    files : (k : NodeId) → kept_at after.nodes k ≡ kept_at Put k
    files k = ap (λ (g : Folder). kept_at g.nodes k) after_is

    all_drawn : (a b : PartValue) (k : Kept) → after.nodes a b ≡ Some k → IsBelow after.next_node a × IsBelow after.next_copy b
    all_drawn a b k is = subst (λ (g : Folder). IsBelow g.next_node a × IsBelow g.next_copy b) (sym after_is) (first (same_value (part_value d.node.id.node) a && same_value (part_value d.node.id.copy) b) refl)
      where
        of_dir : IsBelow f.next_node (part_value d.node.id.node) × IsBelow f.next_copy (part_value d.node.id.copy)
        of_dir = draft.drawn (part_value d.node.id.node) (part_value d.node.id.copy) (kept_of d) (draft.kept p d here)

        first : (c : Bool) → (same_value (part_value d.node.id.node) a && same_value (part_value d.node.id.copy) b) ≡ c → IsBelow f.next_node a × IsBelow f.next_copy b
        first true same =
            let both = and_parts (same_value (part_value d.node.id.node) a) (same_value (part_value d.node.id.copy) b) same in
            (subst (λ (v : PartValue). IsBelow f.next_node v) (same_value-is (part_value d.node.id.node) a both.0) of_dir.0, subst (λ (v : PartValue). IsBelow f.next_copy v) (same_value-is (part_value d.node.id.copy) b both.1) of_dir.1)
        first false not_same = draft.drawn a b k (sym (ap (λ (g : Folder). g.nodes a b) after_is ∙ ap (λ c. cond c (Some (kept_of (opened d changed.new))) (f.nodes a b)) not_same) ∙ is)

    this : named name changed.new ≡ None
    this = changed.taken name ∙ ap (λ b. cond b None (named name entries)) (same_name-refl name)

    laying : (items : List ChangeItem) → IsLaying look top base txn f own p d name entries changed.new None (record after { items = items })
    laying items = record {
      others = λ y differs. changed.taken y ∙ ap (λ b. cond b None (named y entries)) differs;
      entry = subst (λ (o : Option DirEntry). IsEntryOf (λ u. StandsBelow (name ∷ []) u) o None) (sym this) tt;
      each = λ v is. absurd cc;
      directory = files d.node.id ∙ put_files d.node.id (kept_of (opened d changed.new)) f.nodes;
      stay = λ k kept is not_same. files k ∙ other_files d.node.id k (kept_of (opened d changed.new)) f.nodes not_same ∙ is;
      drawn = all_drawn;
      contents = λ v h. subst (λ (t : List ℕ). HasContent look t v) (sym (ap (λ (g : Folder). g.proto) after_is)) h;
    }

    items_are : after.items ≡ f.items
    items_are = ap (λ (g : Folder). g.items) after_is

    abbrev step : (item : ChangeItem) → Step look trees top base txn
    step item = record {
      before = f;
      own = own;
      path = p;
      directory = d;
      name = name;
      entries = entries;
      new = changed.new;
      laid = None;
      after = with_item after item;
      shown = shown;
      within = le;
      draft = draft;
      is_directory = record { here = here; kind = dir; listed = listed };
      laying = laying (after.items ++ item ∷ []);
    }

    take : (item : ChangeItem) (m : Mark) → m.path ≡ p ++ name ∷ [] → m.what ≡ whats.Gone → IsItemOf item m → IsDelete (step item) m
    take item m path what says = record {
      laid = refl;
      lacks = this;
      path = path;
      what = what;
      marked = record { item = item; says = says; items = ap (λ (is : List ChangeItem). is ++ item ∷ []) items_are };
    }

    pub taken_leaves : Takes look trees top base txn f own p name after
    taken_leaves = λ tree marks first item m edited opened path what says. edits_keep_drafts.delete look trees top base txn (step item) tree marks first m edited opened (take item m path what says)
