-- A text or a property put at what an edit opened.
use Rattle.std.proofs.Common.{◌≡◌, ◌≤◌, ℕ, Bool, true, false, ◌&&◌, cond, List, [], ◌∷◌, ◌++◌, refl, sym, ap, subst, ◌∙◌}
use Rattle.std.specs.Prelude.{Option, Some, None, not, Ok, Vec}
use Rattle.std.specs.Global.{Global}
use Rattle.std.proofs.lemmas.Bool.{and_parts}
use Rattle.fsfs_base.specs.Paths.{Path}
use Rattle.fsfs_base.specs.declared.kind.Kind.{Kind}
use Rattle.fsfs_base.specs.declared.kind.Kind.TheVariants.{File, Dir}
use Rattle.fsfs_tree.specs.Nodes.{Node, TreeFunction, Content, Bytes}
use Rattle.fsfs_model.specs.Flat.Edits.{is_dir, is_file_node, kind_of_node, changed_props, bytes_of, mark_of}
use Rattle.fsfs_model.specs.declared.flat.edit.Edit.TheVariants.{PutText, SetProp}
use Rattle.fsfs_model.specs.declared.flat.mark.Mark.{Mark}
use Rattle.fsfs_model.specs.declared.flat.mark.What.TheVariants as whats
use Rattle.fsfs_base.specs.declared.fields.txn_name.TxnName.{TxnName}
use Rattle.fsfs_revision.specs.Told.{RevisionBytes}
use Rattle.fsfs_noderev.specs.Ids.{PartValue, part_value}
use Rattle.fsfs_noderev.specs.declared.node_id.NodeId.{NodeId}
use Rattle.fsfs_noderev.specs.declared.rep.Rep.{Rep}
use Rattle.fsfs_noderev.specs.declared.rep.Contents.{Contents}
use Rattle.fsfs_noderev.specs.declared.rep.Contents.TheVariants as contents
use Rattle.fsfs_noderev.specs.declared.node_rev.NodeRev.{NodeRev}
use Rattle.fsfs_noderev.specs.declared.changes.item.ChangeItem.{ChangeItem}
use Rattle.fsfs_revision.specs.Shows.Reading.{Pairs, PairsAt, OfContents}
use Rattle.fsfs_draft.specs.Own.{OwnNode}
use Rattle.fsfs_draft.specs.Drafts.{Kept, Folder, IsItemOf, pair_of, kept_of, IsLasting, IsFileText, Lasting, Put, IsDraftText, AreDraftProps, HasContent, IsBelow, ShowTrees}
use Rattle.fsfs_draft.specs.Steps.{same_value, with_kept, kept_at}
use Rattle.fsfs_draft.specs.Sides.{HasFiles}
use Rattle.fsfs_draft.specs.Setting.{IsSet, IsSetting, Setting}
use Rattle.fsfs_draft.specs.Edits.{IsEdited, IsMarked, IsDraftAfter}
use Rattle.fsfs_draft.proofs.Files.{same_value-is, put_files, other_files}
use Rattle.fsfs_draft.proofs.Changing.{same_text}
use Rattle.fsfs_draft.proofs.EditLaw.{edits_keep_drafts}
use Rattle.fsfs_draft.specs.Items.{with_item}
use Rattle.fsfs_draft.specs.Properties.{OfKeptProps}
use Rattle.fsfs_draft.specs.Views.{text_kept, props_kept, text_put, props_put}
use Rattle.fsfs_draft.specs.Walks.{HasKind}
use Rattle.fsfs_edit.specs.Items.{IsModifyOf, ModifiesItem}
use Rattle.fsfs_edit.specs.Texts.{IsProtoText, IsTextSet}
use Rattle.fsfs_edit.specs.Properties.{IsPropertyIn}
use Rattle.fsfs_edit.specs.Ways.{IsOpenedAt}
use Rattle.fsfs_edit.proofs.MakingAt.{kind_some}
use Rattle.fsfs_edit.proofs.OwnProps.{props_here}
use Rattle.fsfs_edit.proofs.Whole.{kind_is, file_of}

file_node : (o : Option Node) → HasKind o File → is_file_node o ≡ true
file_node None h = absurd h
file_node (Some n) h = ap (λ (k : Kind). not (is_dir k)) h

-- what a node-revision with the same properties has
same_props : (look : RevisionBytes) (o : Option Pairs) (a b : NodeRev) (pairs : Pairs) → b.props ≡ a.props → AreDraftProps look a o pairs → AreDraftProps look b o pairs
same_props look None a b pairs e h = subst (λ (c : Option Contents). OfContents [] (PairsAt look) c (Ok pairs)) (sym e) h
same_props look (Some own) a b pairs e h = h

-- the text of what has the same representation
same_file : (look : RevisionBytes) (proto : List ℕ) (a b : NodeRev) (text : Content) → b.text ≡ a.text → IsFileText look proto a text → IsFileText look proto b text
same_file look proto a b text e (Lasting lasts is) = Lasting (subst (λ (c : Option Contents). IsLasting c) (sym e) lasts) (same_text look b a text e is)
same_file look proto a b text e (Put rep bytes is none read same) = Put rep bytes (e ∙ is) none read same

module _ (look : RevisionBytes) (trees : ℕ → TreeFunction) (top base : ℕ) (shown : ShowTrees look top trees) (le : base ≤ top) (txn : TxnName) (f : Folder) (tree : TreeFunction) (marks : List Mark) (d : IsDraftAfter look trees top base txn f tree marks)
    (p : Path) (kind : Kind) (mid : Folder) (id : NodeId) (o : IsOpenedAt look trees top base txn marks tree d.0.shows.own p kind mid id) (has : HasKind (tree p) kind) where
  edited : IsEdited look trees top base txn marks d.0.shows.own
  edited = record { folder = f; draft = d.0.shows.is_draft; made = d.1; says = d.0.says }

  pub kept_there : kept_at mid.nodes id ≡ Some (kept_of o.v)
  kept_there = ap (λ (i : NodeId). kept_at mid.nodes i) (sym o.id_is) ∙ o.opened.draft.kept p o.v o.here

  pub files : HasFiles o.v
  files = o.opened.files p o.v o.here

  content : HasContent look mid.proto o.v
  content = o.opened.draft.contents p o.v o.here

  same_kind : kind_of_node (tree p) ≡ kind
  same_kind = kind_is (tree p) kind has

  abbrev Put_at : Kept → Folder
  Put_at k = record mid { nodes = with_kept o.v.node.id k mid.nodes }

  -- the item names the file
  changed_item : (after : Folder) (k : Kept) → after ≡ Put_at k → k.node.created_path ≡ o.v.node.created_path → (text props : Bool) (item : ChangeItem) → IsModifyOf item id kind p text props → ModifiesItem (with_item after item) kind p text props
  changed_item after k after_is path text props item is = record {
    front = after.items;
    item = item;
    items = refl;
    is = record { id_is = refl; action = is.action; kind_is = is.kind_is; text_is = is.text_is; props_is = is.props_is; path_is = is.path_is; source_is = is.source_is };
    file = file_of after p id item is.id_is (record {
      k = k;
      here = ap (λ (i : NodeId). kept_at after.nodes i) (sym o.id_is) ∙ ap (λ (g : Folder). kept_at g.nodes o.v.node.id) after_is ∙ put_files o.v.node.id k mid.nodes;
      path_is = path ∙ o.opened.draft.paths p o.v o.here;
    });
  }

  module _ (w : OwnNode) (set : IsSet o.v w) (shows : HasContent look mid.proto w) (after : Folder) (after_is : after ≡ Put_at (kept_of w)) where
    proto_is : after.proto ≡ mid.proto
    proto_is = ap (λ (g : Folder). g.proto) after_is

    files_are : (i : NodeId) → kept_at after.nodes i ≡ kept_at (with_kept o.v.node.id (kept_of w) mid.nodes) i
    files_are i = ap (λ (g : Folder). kept_at g.nodes i) after_is

    all_drawn : (a b : PartValue) (k : Kept) → after.nodes a b ≡ Some k → IsBelow after.next_node a × IsBelow after.next_copy b
    all_drawn a b k is = subst (λ (g : Folder). IsBelow g.next_node a × IsBelow g.next_copy b) (sym after_is) (first (same_value (part_value o.v.node.id.node) a && same_value (part_value o.v.node.id.copy) b) refl)
      where
        first : (c : Bool) → (same_value (part_value o.v.node.id.node) a && same_value (part_value o.v.node.id.copy) b) ≡ c → IsBelow mid.next_node a × IsBelow mid.next_copy b
        first true same =
            let both = and_parts (same_value (part_value o.v.node.id.node) a) (same_value (part_value o.v.node.id.copy) b) same in
            let old = o.opened.draft.drawn (part_value o.v.node.id.node) (part_value o.v.node.id.copy) (kept_of o.v) (o.opened.draft.kept p o.v o.here) in
            (subst (λ (v : PartValue). IsBelow mid.next_node v) (same_value-is (part_value o.v.node.id.node) a both.0) old.0, subst (λ (v : PartValue). IsBelow mid.next_copy v) (same_value-is (part_value o.v.node.id.copy) b both.1) old.1)
        first false not_same = o.opened.draft.drawn a b k (sym (ap (λ (g : Folder). g.nodes a b) after_is ∙ ap (λ c. cond c (Some (kept_of w)) (mid.nodes a b)) not_same) ∙ is)

    setting : (item : ChangeItem) → IsSetting look mid o.v w (with_item after item)
    setting item = record {
      content = subst (λ (t : List ℕ). HasContent look t w) (sym proto_is) shows;
      kept = files_are w.node.id ∙ ap (λ (i : NodeId). kept_at (with_kept o.v.node.id (kept_of w) mid.nodes) i) set.id ∙ put_files o.v.node.id (kept_of w) mid.nodes;
      stay = λ i k is not_same. files_are i ∙ other_files o.v.node.id i (kept_of w) mid.nodes not_same ∙ is;
      drawn = all_drawn;
      contents = λ a h. subst (λ (t : List ℕ). HasContent look t a) (sym proto_is) h;
    }

    abbrev change : (item : ChangeItem) → Setting look trees top base txn
    change item = record {
      before = mid;
      own = o.now;
      path = p;
      was = o.v;
      is = w;
      after = with_item after item;
      shown = shown;
      within = le;
      draft = o.opened.draft;
      here = o.here;
      set = set;
      setting = setting item;
    }

    marked : (item : ChangeItem) (m : Mark) → IsItemOf item m → IsMarked mid (with_item after item) m
    marked item m says = record { item = item; says = says; items = ap (λ (g : Folder). g.items ++ item ∷ []) after_is }

  -- ---- a text

  module _ (file : kind ≡ File) (rep : Rep) (after : Folder) (put : (k : Kept) → kept_at mid.nodes id ≡ Some k → after ≡ text_put mid id k rep) (item : ChangeItem) (is : IsModifyOf item id kind p true false) where
    is_file : o.v.node.kind ≡ File
    is_file = o.kind_is ∙ file

    text_after : after ≡ Put_at (text_kept (kept_of o.v) rep)
    text_after = put (kept_of o.v) kept_there ∙ (λ i. record mid { nodes = with_kept (sym o.id_is i) (text_kept (kept_of o.v) rep) mid.nodes })

    no_entries : o.v.entries ≡ None
    no_entries = (subst (λ (k : Kind). IsDraftText look mid.proto k o.v o.v.shown.text) is_file content.text).0

    module _ (text : List ℕ) (of : IsProtoText mid.proto rep text) where
      abbrev Texted : OwnNode
      Texted = record o.v { node = record o.v.node { text = Some (contents.At rep) }; shown = record o.v.shown { text = Bytes text } }

      text_is_set : IsSet o.v Texted
      text_is_set = record { id = refl; kind = refl; predecessor = refl; count = refl; copy_from = refl; path = refl; root = refl; entries = refl; text = λ dir. (let e = sym dir ∙ is_file in absurd cc); props = λ none. (none, refl) }

      text_content : HasContent look mid.proto Texted
      text_content = record {
        kind = content.kind;
        text = subst (λ (k : Kind). IsDraftText look mid.proto k Texted (Bytes text)) (sym is_file) (no_entries, Put rep text refl of.no_rev of.read refl);
        properties = same_props look o.v.props o.v.node Texted.node o.v.shown.properties refl content.properties;
      }

      text_files : HasFiles Texted
      text_files = record { list = λ es some. (let e = sym no_entries ∙ some in absurd cc); set = files.set; no_list = λ dir. (let e = sym dir ∙ is_file in absurd cc); no_set = files.no_set }

      text_says : IsItemOf item (record { path = p; kind = kind_of_node (tree p); what = whats.Text })
      text_says = record { path = is.path_is; kind = is.kind_is ∙ ap (λ (k : Kind). Some k) (sym same_kind); action = is.action; text = is.text_is; props = is.props_is; source = ap pair_of is.source_is }

    pub text_set : (proto : List ℕ) → mid.proto ≡ proto → (settled : Folder) → settled ≡ with_item after item → IsTextSet look trees top base txn tree marks proto p rep settled
    text_set proto same settled done = subst (λ (g : Folder). IsTextSet look trees top base txn tree marks proto p rep g) (sym done) (record {
      item = subst (λ (k : Kind). ModifiesItem (with_item after item) k p true false) file (changed_item after (text_kept (kept_of o.v) rep) text_after refl true false item is);
      done = λ text given. (let of : IsProtoText mid.proto rep text.items = subst (λ (t : List ℕ). IsProtoText t rep text.items) (sym same) given in record {
        accepted = file_node (tree p) (subst (λ (k : Kind). HasKind (tree p) k) file has);
        draft = edits_keep_drafts.text look trees top base txn (change (Texted text.items of) (text_is_set text.items of) (text_content text.items of) after text_after item) tree marks d.0.shows.own text.items (mark_of (PutText p text) trees tree) edited o.opened (record {
          shown = refl;
          same_props = refl;
          files = text_files text.items of;
          path = refl;
          what = refl;
          marked = marked (Texted text.items of) (text_is_set text.items of) (text_content text.items of) after text_after item (mark_of (PutText p text) trees tree) (text_says text.items of);
        });
      });
    })

  -- ---- a property

  module _ (name : List ℕ) (value : Option (Vec ℕ Global)) (pairs : Pairs) (read : OfKeptProps look (kept_of o.v) (Ok pairs)) (new : Pairs) (new_is : new ≡ changed_props name (bytes_of value) pairs) (after : Folder)
      (put : (k : Kept) → kept_at mid.nodes id ≡ Some k → after ≡ props_put mid id k new) (item : ChangeItem) (is : IsModifyOf item id kind p false true) where
    props_after : after ≡ Put_at (props_kept (kept_of o.v) new)
    props_after = put (kept_of o.v) kept_there ∙ (λ i. record mid { nodes = with_kept (sym o.id_is i) (props_kept (kept_of o.v) new) mid.nodes })

    shown_is : new ≡ changed_props name (bytes_of value) o.v.shown.properties
    shown_is = new_is ∙ ap (λ (ps : Pairs). changed_props name (bytes_of value) ps) (props_here look top base trees shown le txn mid o.now o.opened.draft p o.v o.here files pairs read)

    abbrev Changed : OwnNode
    Changed = record o.v { node = record o.v.node { props = Some contents.Own; is_fresh_txn_root = false }; props = Some new; shown = record o.v.shown { properties = new } }

    props_is_set : IsSet o.v Changed
    props_is_set = record { id = refl; kind = refl; predecessor = refl; count = refl; copy_from = refl; path = refl; root = refl; entries = refl; text = λ dir. refl; props = λ none. absurd cc }

    text_there : (k : Kind) → IsDraftText look mid.proto k o.v o.v.shown.text → IsDraftText look mid.proto k Changed o.v.shown.text
    text_there File h = (h.0, same_file look mid.proto o.v.node Changed.node o.v.shown.text refl h.1)
    text_there Dir h = h

    props_content : HasContent look mid.proto Changed
    props_content = record { kind = content.kind; text = text_there o.v.node.kind content.text; properties = refl }

    props_files : HasFiles Changed
    props_files = record { list = files.list; set = λ ps some. refl; no_list = files.no_list; no_set = λ lacks none. absurd cc }

    props_says : IsItemOf item (record { path = p; kind = kind_of_node (tree p); what = whats.Prop })
    props_says = record { path = is.path_is; kind = is.kind_is ∙ ap (λ (k : Kind). Some k) (sym same_kind); action = is.action; text = is.text_is; props = is.props_is; source = ap pair_of is.source_is }

    pub property_set : (settled : Folder) → settled ≡ with_item after item → IsPropertyIn look trees top base txn tree marks p name value settled
    property_set settled done = subst (λ (g : Folder). IsPropertyIn look trees top base txn tree marks p name value g) (sym done) (
      record {
        accepted = kind_some (tree p) kind has;
        draft = edits_keep_drafts.prop look trees top base txn (change Changed props_is_set props_content after props_after item) tree marks d.0.shows.own name (bytes_of value) (mark_of (SetProp p name value) trees tree) edited o.opened (record {
          shown = λ i. record o.v.shown { properties = shown_is i };
          own_props = refl;
          files = props_files;
          path = refl;
          what = refl;
          marked = marked Changed props_is_set props_content after props_after item (mark_of (SetProp p name value) trees tree) props_says;
        });
      },
      subst (λ (k : Kind). ModifiesItem (with_item after item) k p false true) (sym same_kind) (changed_item after (props_kept (kept_of o.v) new) props_after refl false true item is),
    )
