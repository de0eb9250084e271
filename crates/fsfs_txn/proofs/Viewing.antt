-- The properties of what stands at a path of a draft, as they are read, and what stands there.
use Rattle.std.proofs.Common.{◌≡◌, ◌≤◌, ℕ, List, [], refl, sym, ap, subst, ◌∙◌, append-nil}
use Rattle.std.specs.Prelude.{Option, Some, None, option_map, true, Result, Ok, Err}
use Rattle.std.proofs.lemmas.Option.{same_Some}
use Rattle.fsfs_base.specs.Paths.{Path}
use Rattle.fsfs_base.specs.declared.kind.Kind.{Kind}
use Rattle.fsfs_base.specs.declared.kind.Kind.TheVariants.{File, Dir}
use Rattle.fsfs_tree.specs.Nodes.{Node, TreeFunction, Content}
use Rattle.fsfs_tree.specs.Trees.{IsTree}
use Rattle.fsfs_model.specs.declared.flat.mark.Mark.{Mark}
use Rattle.fsfs_base.specs.declared.fields.txn_name.TxnName.{TxnName}
use Rattle.fsfs_revision.specs.Told.{Told, RevisionBytes}
use Rattle.fsfs_noderev.specs.declared.node_id.NodeId.{NodeId}
use Rattle.fsfs_noderev.specs.declared.node_rev.NodeRev.{NodeRev}
use Rattle.fsfs_revision.specs.declared.wrong.ReadError.{ReadError}
use Rattle.fsfs_revision.specs.declared.wrong.ReadError.TheVariants as reads
use Rattle.fsfs_revision.specs.Damage.Readings.{Answers}
use Rattle.fsfs_revision.proofs.OneAnswer.{ok_same}
use Rattle.fsfs_revision.specs.Shows.Reading.{Pairs, PropsOf, StandsAt}
use Rattle.fsfs_revision.proofs.OneWalk.{props_one}
use Rattle.fsfs_draft.specs.Own.{OwnNode, Own, draft_tree, shared_under, shared_at}
use Rattle.fsfs_draft.specs.Rules.{stands_under, stands_at}
use Rattle.fsfs_draft.specs.Drafts.{Folder, kept_of, IsLasting, IsFileText, Lasting, Put, IsDraftText, IsDraft, ShowTrees, bare}
use Rattle.fsfs_draft.proofs.Changing.{of_id_lasting, is_lasting, lasting_text as lasting_rep}
use Rattle.fsfs_revision.specs.Nodes.{is_of_revision}
use Rattle.fsfs_noderev.specs.declared.rep.Rep.{Rep}
use Rattle.fsfs_noderev.specs.declared.rep.Contents.{Contents}
use Rattle.fsfs_noderev.specs.declared.rep.Contents.TheVariants as contents
use Rattle.fsfs_revision.specs.Shows.Shown.{IsTextOf}
use Rattle.fsfs_draft.specs.Steps.{kept_at}
use Rattle.fsfs_draft.specs.Sides.{HasFiles}
use Rattle.fsfs_draft.specs.Edits.{IsDraftAfter}
use Rattle.fsfs_draft.specs.Agreeing.{Agrees}
use Rattle.fsfs_draft.proofs.Here.{agrees_below}
use Rattle.fsfs_draft.proofs.OwnShown.{own_shown}
use Rattle.fsfs_draft.specs.Errors.{of_read, IsFailure}
use Rattle.fsfs_draft.specs.Properties.{OfKeptProps}
use Rattle.fsfs_draft.specs.Walks.{IsRootId, IsLastingAt, HasKind, IsFound}
use Rattle.fsfs_draft.specs.declared.error.EditError.{EditError}
use Rattle.fsfs_draft.specs.declared.walk.Child.{Child}
use Rattle.fsfs_draft.specs.declared.walk.Found.{Found}
use Rattle.fsfs_draft.specs.declared.walk.Found.TheVariants as founds
use Rattle.fsfs_edit.proofs.OwnProps.{props_here, props_never}
use Rattle.fsfs_edit.proofs.Reaching as reaching
use Rattle.fsfs_txn.specs.declared.getting.NodeView.{NodeView}
use Rattle.fsfs_txn.specs.declared.getting.Got.{Got}
use Rattle.fsfs_txn.specs.Getting.{HasProps, IsView, Gets}
use Rattle.fsfs_txn.specs.GettingTexts.{rep_of, IsRepText, HasText, GetsText}

-- ---- texts

at_rep : (o : Option Contents) → IsLasting o → o ≡ option_map (λ r. contents.At r) (rep_of File o)
at_rep None lasts = refl
at_rep (Some contents.Own) lasts = absurd lasts
at_rep (Some (contents.At rep)) lasts = refl

file_rep : (look : RevisionBytes) (proto : List ℕ) (v : NodeRev) (text : Content) → IsFileText look proto v text → v.text ≡ option_map (λ r. contents.At r) (rep_of File v.text)
file_rep look proto v text (Lasting lasts is) = at_rep v.text lasts
file_rep look proto v text (Put rep bytes is none read same) = is ∙ sym (ap (λ (o : Option Contents). option_map (λ r. contents.At r) (rep_of File o)) is)

rep_text : (look : RevisionBytes) (proto : List ℕ) (d : OwnNode) (kind : Kind) (text : Content) → IsDraftText look proto kind d text → IsRepText look proto kind (rep_of kind d.node.text) text
rep_text look proto d File text h = (d.node, file_rep look proto d.node text h.1, h.1)
rep_text look proto d Dir text h = (refl, h)

shown_text : (look : RevisionBytes) (proto : List ℕ) (u : NodeRev) → is_of_revision u ≡ true → (kind : Kind) (text : Content) → IsTextOf look kind u text → IsRepText look proto kind (rep_of kind u.text) text
shown_text look proto u lasts File text h = let l = is_lasting u.text (lasting_rep u lasts) in (u, at_rep u.text l, Lasting l h)
shown_text look proto u lasts Dir text h = (refl, h)

-- ---- an own node-revision

module _ (look : RevisionBytes) (top base : ℕ) (trees : ℕ → TreeFunction) (shown : ShowTrees look top trees) (le : base ≤ top) (txn : TxnName) (f : Folder) (own : Own) (draft : IsDraft look top base txn f own)
    (p : Path) (d : OwnNode) (here : own p ≡ Some d) where
  pub there : (id : NodeId) → d.node.id ≡ id → kept_at f.nodes id ≡ Some (kept_of d)
  there id same = ap (λ (i : NodeId). kept_at f.nodes i) (sym same) ∙ draft.kept p d here

  module _ (files : HasFiles d) where
    pub own_props : (pairs : Pairs) → OfKeptProps look (kept_of d) (Ok pairs) → HasProps (draft_tree trees own (trees base) p) pairs
    own_props pairs of = subst (λ (o : Option Node). HasProps o pairs) (sym (own_shown look top base trees shown le txn f own draft p d here)) (props_here look top base trees shown le txn f own draft p d here files pairs of)

    pub own_fails : (e : ReadError) → Answers (λ (pairs : Pairs). pairs) (OfKeptProps look (kept_of d)) (Err e) → IsFailure (of_read e)
    own_fails reads.OutOfMemory h = tt
    own_fails reads.DiskFault h = tt
    own_fails (reads.Wrong w) h = props_never look top base trees shown le txn f own draft p d here files w h

  -- its text
  pub own_text : HasText look f.proto (draft_tree trees own (trees base) p) (rep_of d.node.kind d.node.text)
  own_text =
      let content = draft.contents p d here in
      subst (λ (o : Option Node). HasText look f.proto o (rep_of d.node.kind d.node.text)) (sym (own_shown look top base trees shown le txn f own draft p d here))
      (subst (λ (k : Kind). IsRepText look f.proto k (rep_of d.node.kind d.node.text) d.shown.text) (sym content.kind) (rep_text look f.proto d d.node.kind d.shown.text content.text))

-- ---- a node-revision of a revision

module _ (look : RevisionBytes) (top base : ℕ) (trees : ℕ → TreeFunction) (shown : ShowTrees look top trees) (le : base ≤ top) (txn : TxnName) (f : Folder) (own : Own) (draft : IsDraft look top base txn f own)
    (path : Path) (u : NodeRev) (at : IsLastingAt look trees base own path u) where
  abbrev Shared : TreeFunction
  Shared = shared_under trees (Some at.d) (shared_at trees at.p own (trees base))

  agrees : Agrees look top (λ q v. stands_under look (Some at.d) (λ r w. stands_at look at.p own (StandsAt look base) r w) q v) Shared
  agrees = agrees_below look top base trees shown le txn f own draft at.p at.d at.here

  record IsNodeHere : Type 0 where
    pub n : Node
    pub here : draft_tree trees own (trees base) path ≡ Some n
    pub kind : n.kind ≡ u.kind
    pub text : IsTextOf look u.kind u n.text
    pub properties : PropsOf look u (Ok n.properties)

  node_here : IsNodeHere
  node_here =
      let n = agrees.shown at.q u at.stands in
      record {
        n = n.0;
        here = ap (λ (t : Path). draft_tree trees own (trees base) t) (sym (append-nil path)) ∙ at.tree [] ∙ ap (λ (t : Path). Shared t) (append-nil at.q) ∙ n.1;
        kind = n.2.kind;
        text = n.2.text;
        properties = n.2.properties;
      }

  pub lasting_props : (pairs : Pairs) → PropsOf look u (Ok pairs) → HasProps (draft_tree trees own (trees base) path) pairs
  lasting_props pairs of =
      let n = node_here in
      subst (λ (o : Option Node). HasProps o pairs) (sym n.here) (ok_same pairs n.n.properties (props_one look u (Ok pairs) (Ok n.n.properties) of n.properties))

  pub lasting_fails : (e : ReadError) → Answers (λ (pairs : Pairs). pairs) (PropsOf look u) (Err e) → IsFailure (of_read e)
  lasting_fails reads.OutOfMemory h = tt
  lasting_fails reads.DiskFault h = tt
  lasting_fails (reads.Wrong w) h = let e = props_one look u (Ok node_here.n.properties) (Err w) node_here.properties h in cc

  pub lasting_text : HasText look f.proto (draft_tree trees own (trees base) path) (rep_of u.kind u.text)
  lasting_text =
      let n = node_here in
      subst (λ (o : Option Node). HasText look f.proto o (rep_of u.kind u.text)) (sym n.here)
      (subst (λ (k : Kind). IsRepText look f.proto k (rep_of u.kind u.text) n.n.text) (sym n.kind) (shown_text look f.proto u (of_id_lasting look u.id u (agrees.read at.q u at.stands)) u.kind n.n.text n.text))

-- ---- what stands at a path

pub view_of : (o : Option Node) (kind : Kind) (pairs : Pairs) (view : NodeView) → HasKind o kind → HasProps o pairs → view.kind ≡ kind → view.props ≡ pairs → IsView o view
view_of None kind pairs view has props k ps = absurd has
view_of (Some n) kind pairs view has props k ps = (k ∙ sym has, ps ∙ props)

pub bare_view : (a b : Option Node) (view : NodeView) → bare a ≡ bare b → IsView a view → IsView b view
bare_view None b view e is = absurd is
bare_view (Some m) None view e is = absurd cc
bare_view (Some m) (Some n) view e is =
    let same = same_Some (record m { added = 0; props_changed = 0; last_changed = 0 }) (record n { added = 0; props_changed = 0; last_changed = 0 }) e in
    (is.0 ∙ ap (λ (z : Node). z.kind) same, is.1 ∙ ap (λ (z : Node). z.properties) same)

module _ (look : RevisionBytes) (trees : ℕ → TreeFunction) (top base : ℕ) (shown : ShowTrees look top trees) (le : base ≤ top) (txn : TxnName) (f : Folder) (tree : TreeFunction) (marks : List Mark) (is_tree : IsTree tree)
    (d : IsDraftAfter look trees top base txn f tree marks) (path : Path) where
  abbrev First : Own
  First = d.0.shows.own

  -- a walk from the root
  pub walked : (id : NodeId) (result : Result Found EditError) → IsRootId txn id
      → ((nodes : Own) (v : OwnNode) → IsDraft look top base txn f nodes → nodes [] ≡ Some v → v.node.id ≡ id → v.node.kind ≡ Dir → IsFound look trees base nodes path result) → IsFound look trees base First path result
  walked id result is found = found First (reaching.root look trees top base shown le txn f tree marks is_tree d) d.0.shows.is_draft (reaching.root_here look trees top base shown le txn f tree marks is_tree d)
      (reaching.root_same look trees top base shown le txn f tree marks is_tree d id is) (reaching.root_kind look trees top base shown le txn f tree marks is_tree d)

  pub seen : (child : Child) (pairs : Pairs) (text : Option Rep) → IsFound look trees base First path (Ok (founds.Node child)) → HasProps (draft_tree trees First (trees base) path) pairs → IsView (tree path) (record { kind = child.kind; props = pairs; text = text })
  seen child pairs text found props =
      let view : NodeView = record { kind = child.kind; props = pairs; text = text } in
      bare_view (draft_tree trees First (trees base) path) (tree path) view (sym (d.0.shows.each path)) (view_of (draft_tree trees First (trees base) path) child.kind pairs view found.1 props refl refl)

pub same_got : (told : Told) (t u : TxnName) (f h : Folder) (p : Path) (r : Result Got EditError) → t ≡ u → f ≡ h → Gets told t f p r → Gets told u h p r
same_got told t u f h p r txn folder gets = subst (λ (x : Folder). Gets told u x p r) folder (subst (λ (x : TxnName). Gets told x f p r) txn gets)

-- the text is that of the same node but for its numbers
pub bare_text : (look : RevisionBytes) (proto : List ℕ) (a b : Option Node) (rep : Option Rep) → bare a ≡ bare b → HasText look proto a rep → HasText look proto b rep
bare_text look proto None b rep e is = absurd is
bare_text look proto (Some m) None rep e is = absurd cc
bare_text look proto (Some m) (Some n) rep e is =
    let same = same_Some (record m { added = 0; props_changed = 0; last_changed = 0 }) (record n { added = 0; props_changed = 0; last_changed = 0 }) e in
    subst (λ (k : Kind). IsRepText look proto k rep n.text) (ap (λ (z : Node). z.kind) same) (subst (λ (t : Content). IsRepText look proto m.kind rep t) (ap (λ (z : Node). z.text) same) is)

pub same_got_text : (told : Told) (t u : TxnName) (f h : Folder) (p : Path) (r : Result Got EditError) → t ≡ u → f ≡ h → GetsText told t f p r → GetsText told u h p r
same_got_text told t u f h p r txn folder gets = subst (λ (x : Folder). GetsText told u x p r) folder (subst (λ (x : TxnName). GetsText told x f p r) txn gets)
