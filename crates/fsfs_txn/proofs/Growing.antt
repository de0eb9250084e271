-- A draft over a prototype file that got longer.
use Rattle.std.proofs.Common.{◌≡◌, ◌+◌, ◌++◌, [], ℕ, List, sym, ap, subst, ◌∙◌, append-nil, arith}
use Rattle.fsfs_base.specs.Paths.{Path}
use Rattle.fsfs_base.specs.declared.kind.Kind.{Kind}
use Rattle.fsfs_base.specs.declared.kind.Kind.TheVariants.{File, Dir}
use Rattle.fsfs_tree.specs.Nodes.{TreeFunction, Content}
use Rattle.fsfs_model.specs.declared.flat.mark.Mark.{Mark}
use Rattle.fsfs_base.specs.declared.fields.txn_name.TxnName.{TxnName}
use Rattle.fsfs_revision.specs.Told.{RevisionBytes}
use Rattle.fsfs_noderev.specs.Ids.{PartValue, New, Old, Made}
use Rattle.fsfs_noderev.specs.declared.node_id.NodeId.{NodeId}
use Rattle.fsfs_noderev.specs.declared.node_rev.NodeRev.{NodeRev}
use Rattle.fsfs_txn_files.proofs.Longer.{stays}
use Rattle.fsfs_draft.specs.Own.{OwnNode, Own}
use Rattle.fsfs_draft.specs.Drafts.{Folder, IsBelow, IsFileText, Lasting, Put, IsDraftText, HasContent, IsDraft}
use Rattle.fsfs_draft.specs.Edits.{IsDraftAfter}
use Rattle.fsfs_edit.specs.Ways.{IsOpenedAt}
use Rattle.fsfs_txn_nodes.specs.Memory.Texts.{longer}
use Rattle.fsfs_txn.specs.Opened.Growing.{grown, IsLonger, DraftsGrow}

file_longer : (look : RevisionBytes) (proto more : List ℕ) (v : NodeRev) (text : Content) → IsFileText look proto v text → IsFileText look (proto ++ more) v text
file_longer look proto more v text (Lasting lasts is) = Lasting lasts is
file_longer look proto more v text (Put rep bytes is none read same) = Put rep bytes is none (stays rep proto more bytes read) same

text_longer : (look : RevisionBytes) (proto more : List ℕ) (kind : Kind) (v : OwnNode) (text : Content) → IsDraftText look proto kind v text → IsDraftText look (proto ++ more) kind v text
text_longer look proto more File v text h = (h.0, file_longer look proto more v.node text h.1)
text_longer look proto more Dir v text h = h

content_longer : (look : RevisionBytes) (proto more : List ℕ) (v : OwnNode) → HasContent look proto v → HasContent look (proto ++ more) v
content_longer look proto more v h = record { kind = h.kind; text = text_longer look proto more v.node.kind v v.shown.text h.text; properties = h.properties }

below_more : (next drawn : ℕ) (part : PartValue) → IsBelow next part → IsBelow (next + drawn) part
below_more next drawn (New n) h = omega (arith, h)
below_more next drawn (Old n) h = tt
below_more next drawn (Made n rev) h = tt

pub grown_draft : (look : RevisionBytes) (top base : ℕ) (txn : TxnName) (f : Folder) (own : Own) (drawn : ℕ) (more : List ℕ) → IsDraft look top base txn f own → IsDraft look top base txn (grown f drawn more) own
grown_draft look top base txn f own drawn more d = record {
  root = d.root;
  root_is = d.root_is;
  root_id = d.root_id;
  paths = d.paths;
  places = d.places;
  kept = d.kept;
  drawn = λ node copy k is. (below_more f.next_node drawn node (d.drawn node copy k is).0, (d.drawn node copy k is).1);
  rules = d.rules;
  contents = λ p v is. content_longer look f.proto more v (d.contents p v is);
}

-- in the course of an edit
pub grown_opened : (look : RevisionBytes) (trees : ℕ → TreeFunction) (top base : ℕ) (txn : TxnName) (marks : List Mark) (tree : TreeFunction) (first : Own) (p : Path) (kind : Kind) (f : Folder) (id : NodeId) (drawn : ℕ) (more : List ℕ)
    → IsOpenedAt look trees top base txn marks tree first p kind f id → IsOpenedAt look trees top base txn marks tree first p kind (grown f drawn more) id
grown_opened look trees top base txn marks tree first p kind f id drawn more o = record {
  now = o.now;
  opened = record {
    draft = grown_draft look top base txn f o.now drawn more o.opened.draft;
    each = o.opened.each;
    items = o.opened.items;
    files = o.opened.files;
    once = o.opened.once;
    sources = o.opened.sources;
    made = o.opened.made;
    opened = o.opened.opened;
  };
  v = o.v;
  here = o.here;
  id_is = o.id_is;
  kind_is = o.kind_is;
}

-- as `longer`, where no number was drawn
longer_draft : (look : RevisionBytes) (top base : ℕ) (txn : TxnName) (f : Folder) (own : Own) (more : List ℕ) → IsDraft look top base txn f own → IsDraft look top base txn (longer f more) own
longer_draft look top base txn f own more d = record {
  root = d.root;
  root_is = d.root_is;
  root_id = d.root_id;
  paths = d.paths;
  places = d.places;
  kept = d.kept;
  drawn = d.drawn;
  rules = d.rules;
  contents = λ p v is. content_longer look f.proto more v (d.contents p v is);
}

pub drafts_grow : DraftsGrow
drafts_grow look trees top base txn before after tree marks is d = subst (λ (f : Folder). IsDraftAfter look trees top base txn f tree marks) (sym is.1) (
  record {
    shows = record { own = d.0.shows.own; is_draft = longer_draft look top base txn before d.0.shows.own is.0 d.0.shows.is_draft; each = d.0.shows.each; items = d.0.shows.items };
    files = d.0.files;
    once = d.0.once;
    says = d.0.says;
    sources = d.0.sources;
  },
  d.1,
)

-- no bytes more
pub not_longer : (before after : Folder) → after ≡ before → IsLonger before after
not_longer before after is = ([], is ∙ ap (λ (t : List ℕ). record before { proto = t }) (sym (append-nil before.proto)))
