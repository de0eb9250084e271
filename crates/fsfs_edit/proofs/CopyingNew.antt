-- A copy in an own directory of a draft.
use Rattle.std.proofs.Common.{◌≡◌, ◌≤◌, ◌<◌, ◌+◌, ℕ, Bool, true, false, ◌&&◌, cond, List, [], ◌∷◌, ◌++◌, refl, sym, ap, subst, ◌∙◌, arith, append-nil}
use Rattle.std.specs.Prelude.{Option, Some, None, Result, Ok, Err, IfOk, IfErr}
use Rattle.std.proofs.lemmas.Bool.{and_parts}
use Rattle.fsfs_base.specs.Paths.{PathName, Path}
use Rattle.fsfs_tree.specs.Nodes.{Node, TreeFunction}
use Rattle.fsfs_base.specs.declared.kind.Kind.{Kind}
use Rattle.fsfs_base.specs.declared.kind.Kind.TheVariants.{File, Dir}
use Rattle.fsfs_base.proofs.PathLemmas.{same_name-refl}
use Rattle.fsfs_base.specs.declared.fields.txn_name.TxnName.{TxnName}
use Rattle.fsfs_revision.specs.Told.{RevisionBytes}
use Rattle.fsfs_noderev.specs.Ids.{PartValue, part_value}
use Rattle.fsfs_noderev.specs.declared.node_id.Part.{Part}
use Rattle.fsfs_noderev.specs.declared.node_id.NodeId.{NodeId}
use Rattle.fsfs_noderev.specs.declared.rep.Contents.{Contents}
use Rattle.fsfs_noderev.specs.declared.node_rev.NodeRev.{NodeRev}
use Rattle.fsfs_revision.specs.Shows.Reading.{DirEntry, named, OfId, PairsAt, OfContents, StandsAt}
use Rattle.fsfs_revision.specs.Shows.Shown.{IsTextOf}
use Rattle.fsfs_draft.specs.Own.{OwnNode, Own, opened}
use Rattle.fsfs_draft.specs.Rules.{Copied, IsEntryOf, stands_under, stands_at}
use Rattle.fsfs_draft.specs.Drafts.{Kept, Folder, IsItemOf, kept_of, IsLasting, Lasting, IsDraftText, HasContent, IsBelow, IsDraft, ShowTrees}
use Rattle.fsfs_draft.specs.Steps.{same_value, Files, with_kept, kept_at, EntriesHere}
use Rattle.fsfs_draft.proofs.Files.{same_value-is, same_files, put_files, other_files}
use Rattle.fsfs_draft.specs.Laying.{stands_in, IsLaid, IsLaying, IsDrawnFor, Step}
use Rattle.fsfs_draft.proofs.Bases.{copy_agrees}
use Rattle.fsfs_draft.proofs.Changing.{below_more, of_id_lasting, lasting_text, is_lasting, same_text}
use Rattle.fsfs_draft.specs.Agreeing.{IsContentOf}
use Rattle.fsfs_model.specs.Flat.Edits.{copied_node}
use Rattle.fsfs_noderev.specs.declared.node_rev.CopySource.{CopySource}
use Rattle.fsfs_revision.specs.Nodes.{is_lasting_part, is_of_revision}
use Rattle.fsfs_model.specs.declared.flat.mark.Mark.{Mark}
use Rattle.fsfs_model.specs.declared.flat.mark.What.TheVariants as whats
use Rattle.fsfs_noderev.specs.declared.changes.item.ChangeItem.{ChangeItem}
use Rattle.fsfs_draft.specs.Sides.{HasFiles}
use Rattle.fsfs_draft.specs.Edits.{IsCopy}
use Rattle.fsfs_draft.proofs.EditLaw.{edits_keep_drafts}
use Rattle.fsfs_draft.specs.Errors.{IsWant}
use Rattle.fsfs_draft.specs.Items.{with_item, IsFileAt}
use Rattle.fsfs_draft.specs.Views.{new_kept, opened_kept}
use Rattle.fsfs_edit.specs.DagEdits.Mutable.{drawn, IsAmiss}
use Rattle.fsfs_edit.specs.DagEdits.Copied.{IsCopyNode, IsCopyPut, LeavesCopy}
use Rattle.fsfs_draft.specs.declared.error.EditError.{EditError}
use Rattle.fsfs_draft.specs.declared.error.EditError.TheVariants as errors
use Rattle.fsfs_draft.proofs.OwnEntries.{lasting_id, AreLasting, lasting_parts}
use Rattle.fsfs_edit.proofs.Making.{part_below, not_drawn, not_amiss}

module _ (look : RevisionBytes) (top base : ℕ) (trees : ℕ → TreeFunction) (shown : ShowTrees look top trees) (le : base ≤ top) (txn : TxnName) (f : Folder) (own : Own) (draft : IsDraft look top base txn f own)
    (p : Path) (d : OwnNode) (here : own p ≡ Some d) (dir : d.node.kind ≡ Dir) (name : PathName) (entries : List DirEntry) (listed : EntriesHere look (kept_of d) entries) (none : named name entries ≡ None) (u : NodeRev) (from : CopySource) (from_le : from.rev ≤ top) (source : StandsAt look from.rev from.path u) where
  abbrev StandsBelow : Path → NodeRev → Type 0
  StandsBelow q v = stands_under look (Some d) (λ r u. stands_at look p own (StandsAt look base) r u) q v

  module _ (after : Folder) (id : NodeId) (changed : IsCopyPut f after txn d.node.id entries name u from id) where
    abbrev W : NodeRev
    W = changed.child

    k_is : changed.k ≡ kept_of d
    k_is = let both : Some changed.k ≡ Some (kept_of d) = sym changed.here ∙ draft.kept p d here in cc

    is_new : IsCopyNode txn d.node u W from name
    is_new = subst (λ (k : Kept). IsCopyNode txn k.node u W from name) k_is changed.copy

    read : OfId look u.id (Ok u)
    read = (copy_agrees look from.rev (trees from.rev) (shown from.rev from_le) top from_le from.path).read [] u (subst (λ (t : Path). StandsAt look from.rev t u) (sym (append-nil from.path)) source)

    node : (n : Node) × (copied_node from.rev (from.path ++ []) (trees from.rev (from.path ++ [])) ≡ Some n) × IsContentOf look u n
    node = (copy_agrees look from.rev (trees from.rev) (shown from.rev from_le) top from_le from.path).shown [] u (subst (λ (t : Path). StandsAt look from.rev t u) (sym (append-nil from.path)) source)

    lasting : is_of_revision u ≡ true
    lasting = of_id_lasting look u.id u read

    u_parts : AreLasting u.id
    u_parts = lasting_parts u.id (lasting_id u lasting)

    abbrev Put : Files
    Put = with_kept d.node.id (kept_of (opened d changed.new)) (with_kept W.id (record { node = W; entries = None; props = None }) f.nodes)

    after_is : after ≡ record (drawn f) { nodes = Put }
    after_is = changed.after_is ∙ (λ i. record (drawn f) { nodes = with_kept d.node.id (opened_kept (k_is i) changed.new) (with_kept W.id (new_kept W) f.nodes) })

    files : (k : NodeId) → kept_at after.nodes k ≡ kept_at Put k
    files k = ap (λ (g : Folder). kept_at g.nodes k) after_is

    abbrev V : OwnNode
    V = record { node = W; entries = None; props = None; shown = node.0 }

    text_of : (k : Kind) → IsTextOf look k u node.0.text → IsDraftText look after.proto k V node.0.text
    text_of File h = (refl, Lasting (subst (λ (o : Option Contents). IsLasting o) (sym is_new.text) (is_lasting u.text (lasting_text u lasting))) (same_text look W u node.0.text is_new.text h))
    text_of Dir h = h

    laid : (items : List ChangeItem) → IsLaid look top txn (stands_in look base own p d) d name (record after { items = items }) V
    laid items = record {
      comes = Copied u from is_new.copy_from from_le source (record { predecessor = is_new.predecessor; node = is_new.node; kind = is_new.kind; count = is_new.count }) (record { entries = λ no_file is. is_new.text; props = λ no_file. is_new.props }) is_new.root (f.next_copy, changed.part);
      no_entries = refl;
      path = is_new.path;
      place = is_new.place;
      content = record {
        kind = node.2.kind ∙ sym is_new.kind;
        text = subst (λ (k : Kind). IsDraftText look after.proto k V node.0.text) (sym is_new.kind) (text_of u.kind node.2.text);
        properties = subst (λ (o : Option Contents). OfContents [] (PairsAt look) o (Ok node.0.properties)) (sym is_new.props) node.2.properties;
      };
      kept = files W.id ∙ other_files d.node.id W.id (kept_of (opened d changed.new)) (with_kept W.id (new_kept W) f.nodes) (λ s. (let g = sym (same_files f.nodes d.node.id W.id s ∙ changed.free) ∙ draft.kept p d here in absurd cc)) ∙ put_files W.id (new_kept W) f.nodes;
    }

    all_drawn : (a b : PartValue) (k : Kept) → after.nodes a b ≡ Some k → IsBelow after.next_node a × IsBelow after.next_copy b
    all_drawn a b k is = subst (λ (g : Folder). IsBelow g.next_node a × IsBelow g.next_copy b) (sym after_is) (first (same_value (part_value d.node.id.node) a && same_value (part_value d.node.id.copy) b) refl)
      where
        Below : PartValue → PartValue → Type 0
        Below m n = IsBelow f.next_node m × IsBelow (f.next_copy + 1) n

        up : (m n : PartValue) → IsBelow f.next_node m × IsBelow f.next_copy n → Below m n
        up m n h = (h.0, below_more f.next_copy (f.next_copy + 1) n (omega arith) h.1)

        moved : (i : NodeId) → (same_value (part_value i.node) a && same_value (part_value i.copy) b) ≡ true → Below (part_value i.node) (part_value i.copy) → Below a b
        moved i same h =
            let both = and_parts (same_value (part_value i.node) a) (same_value (part_value i.copy) b) same in
            (subst (λ (v : PartValue). IsBelow f.next_node v) (same_value-is (part_value i.node) a both.0) h.0, subst (λ (v : PartValue). IsBelow (f.next_copy + 1) v) (same_value-is (part_value i.copy) b both.1) h.1)

        of_dir : Below (part_value d.node.id.node) (part_value d.node.id.copy)
        of_dir = up _ _ (draft.drawn (part_value d.node.id.node) (part_value d.node.id.copy) (kept_of d) (draft.kept p d here))

        of_new : Below (part_value W.id.node) (part_value W.id.copy)
        of_new = (part_below f.next_node W.id.node (subst (λ (c : Part). is_lasting_part c ≡ true) (sym is_new.node) u_parts.node), subst (λ (v : PartValue). IsBelow (f.next_copy + 1) v) (sym changed.part) (let h : f.next_copy < f.next_copy + 1 = omega arith in h))

        third : (same_value (part_value d.node.id.node) a && same_value (part_value d.node.id.copy) b) ≡ false → (same_value (part_value W.id.node) a && same_value (part_value W.id.copy) b) ≡ false → f.nodes a b ≡ Some k
        third first_no second_no = sym (ap (λ (g : Folder). g.nodes a b) after_is ∙ (λ i. cond (first_no i) (Some (kept_of (opened d changed.new))) (cond (second_no i) (Some (new_kept W)) (f.nodes a b)))) ∙ is

        second : (c : Bool) → (same_value (part_value W.id.node) a && same_value (part_value W.id.copy) b) ≡ c → (same_value (part_value d.node.id.node) a && same_value (part_value d.node.id.copy) b) ≡ false → Below a b
        second true same first_no = moved W.id same of_new
        second false second_no first_no = up a b (draft.drawn a b k (third first_no second_no))

        first : (c : Bool) → (same_value (part_value d.node.id.node) a && same_value (part_value d.node.id.copy) b) ≡ c → Below a b
        first true same = moved d.node.id same of_dir
        first false first_no = second (same_value (part_value W.id.node) a && same_value (part_value W.id.copy) b) refl first_no

    this : named name changed.new ≡ Some (record { name = name; kind = u.kind; id = W.id })
    this = changed.replaced name ∙ ap (λ b. cond b (Some (record { name = name; kind = u.kind; id = W.id })) (named name entries)) (same_name-refl name)

    laying : (items : List ChangeItem) → IsLaying look top base txn f own p d name entries changed.new (Some V) (record after { items = items })
    laying items = record {
      others = λ y differs. changed.replaced y ∙ ap (λ b. cond b (Some (record { name = name; kind = u.kind; id = W.id })) (named y entries)) differs;
      entry = subst (λ (o : Option DirEntry). IsEntryOf (λ u. StandsBelow (name ∷ []) u) o (Some (W.id, W.kind))) (sym this) (refl, sym is_new.kind);
      each = λ v is. subst (λ (x : OwnNode). IsLaid look top txn (stands_in look base own p d) d name (record after { items = items }) x) (let e : V ≡ v = cc in e) (laid items);
      directory = files d.node.id ∙ put_files d.node.id (kept_of (opened d changed.new)) (with_kept W.id (new_kept W) f.nodes);
      stay = λ k kept is not_same. files k ∙ other_files d.node.id k (kept_of (opened d changed.new)) (with_kept W.id (new_kept W) f.nodes) not_same
          ∙ other_files W.id k (new_kept W) f.nodes (λ s. (let g = sym changed.free ∙ same_files f.nodes W.id k s ∙ is in absurd cc)) ∙ is;
      drawn = all_drawn;
      contents = λ v h. subst (λ (t : List ℕ). HasContent look t v) (sym (ap (λ (g : Folder). g.proto) after_is)) h;
    }

    items_are : after.items ≡ f.items
    items_are = ap (λ (g : Folder). g.items) after_is

    abbrev step : (item : ChangeItem) → Step look trees top base txn
    step item = record {
      before = f;
      own = own;
      path = p;
      directory = d;
      name = name;
      entries = entries;
      new = changed.new;
      laid = Some V;
      after = with_item after item;
      shown = shown;
      within = le;
      draft = draft;
      is_directory = record { here = here; kind = dir; listed = listed };
      laying = laying (after.items ++ item ∷ []);
    }

    no_predecessor : {A : Type 0} → W.predecessor ≡ None → A
    no_predecessor is_none = let e = sym is_new.predecessor ∙ is_none in absurd cc

    files_of : HasFiles V
    files_of = record { list = λ es is. absurd cc; set = λ pairs is. absurd cc; no_list = λ k is_none without. no_predecessor is_none; no_set = λ is_none without. no_predecessor is_none }

    copy_drawn : (q : Path) (w : OwnNode) → own q ≡ Some w → w.node.id.copy ≡ W.id.copy → ⊥
    copy_drawn q w at same = not_drawn f.next_copy (part_value w.node.id.copy) (ap part_value same ∙ changed.part) (draft.drawn (part_value w.node.id.node) (part_value w.node.id.copy) (kept_of w) (draft.kept q w at)).1

    drawn_for : IsDrawnFor own d V
    drawn_for = record { made = λ is_none q w at same. no_predecessor is_none; copied = λ other is q w at same. copy_drawn q w at same; other = λ plain q c other at copy same. (let g = sym is_new.copy_from ∙ plain in absurd cc) }

    put : (item : ChangeItem) (m : Mark) → m.path ≡ p ++ name ∷ [] → m.what ≡ whats.Make (Some (from.rev, from.path)) → IsItemOf item m → IsCopy (step item) V from m
    put item m path what says = record {
      laid = refl;
      copy = is_new.copy_from;
      shown = sym node.1 ∙ ap (λ (r : Path). copied_node from.rev r (trees from.rev r)) (append-nil from.path);
      lacks = none;
      files = files_of;
      drawn = drawn_for;
      path = path;
      what = what;
      marked = record { item = item; says = says; items = ap (λ (is : List ChangeItem). is ++ item ∷ []) items_are };
    }

    file_at : IsFileAt after (p ++ name ∷ []) id
    file_at = record {
      k = kept_of V;
      here = ap (λ (i : NodeId). kept_at after.nodes i) (sym changed.id_is) ∙ (laid []).kept;
      path_is = is_new.path ∙ ap (λ (t : Path). t ++ name ∷ []) (draft.paths p d here);
    }

    copy_leaves : LeavesCopy look trees top base txn f own p name from after (Ok id)
    copy_leaves = (λ tree marks first item m edited opened path what says. edits_keep_drafts.copy look trees top base txn (step item) tree marks first V from m edited opened (put item m path what says), file_at)

  pub copying_leaves : (after : Folder) (result : Result NodeId EditError) → IfOk result (IsCopyPut f after txn d.node.id entries name u from) → IfErr result (λ x. IsWant x (IsAmiss f d.node.id u.id)) → LeavesCopy look trees top base txn f own p name from after result
  copying_leaves after (Ok id) changed cause = copy_leaves after id changed
  copying_leaves after (Err errors.BenchFault) changed cause = absurd cause
  copying_leaves after (Err errors.OutOfMemory) changed cause = tt
  copying_leaves after (Err errors.DiskFault) changed cause = absurd cause
  copying_leaves after (Err (errors.Wrong w)) changed cause = absurd cause
  copying_leaves after (Err errors.Lacking) changed cause = not_amiss look top base trees shown le txn f own draft p d here dir u cause
