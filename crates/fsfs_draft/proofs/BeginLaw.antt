-- A transaction that has just begun is a draft.
use Rattle.std.proofs.Common.{◌≡◌, ◌≤◌, ℕ, not, Bool, true, false, List, [], ◌∷◌, refl, sym, ap, subst, ◌∙◌, arith}
use Rattle.std.specs.Prelude.{Ok, Option, Some, None, is_some, nat_lt, if◌then◌else◌}
use Rattle.std.proofs.lemmas.Bool.Decides.{nat_tests}
use Rattle.fsfs_base.specs.Paths.{Path}
use Rattle.fsfs_tree.specs.Nodes.{Node, TreeFunction, Content, Bytes}
use Rattle.fsfs_base.specs.declared.kind.Kind.{Kind}
use Rattle.fsfs_base.specs.declared.kind.Kind.TheVariants.{File, Dir}
use Rattle.fsfs_model.specs.Flat.Marks.{effects}
use Rattle.fsfs_base.specs.declared.fields.txn_name.TxnName.{TxnName}
use Rattle.fsfs_revision.specs.Told.{RevisionBytes}
use Rattle.fsfs_noderev.specs.Ids.{part_value}
use Rattle.fsfs_noderev.specs.declared.rep.Contents.{Contents}
use Rattle.fsfs_noderev.specs.declared.node_id.NodeId.{NodeId}
use Rattle.fsfs_noderev.specs.declared.node_rev.CopySource.{CopySource}
use Rattle.fsfs_noderev.specs.declared.node_rev.NodeRev.{NodeRev}
use Rattle.fsfs_revision.specs.Shows.Reading.{DirEntry, OfContents, PairsAt, StandsAt}
use Rattle.fsfs_revision.specs.Shows.Chains.{own_rev}
use Rattle.fsfs_revision.specs.Shows.Shown.{IsTextOf}
use Rattle.fsfs_revision.proofs.TreeLaw.{sound}
use Rattle.fsfs_draft.specs.Own.{OwnNode, below, alone}
use Rattle.fsfs_draft.specs.Rules.{lasting_root, at_top, Directory, Change}
use Rattle.fsfs_draft.specs.Drafts.{Folder, IsDraftText, HasContent, IsDraft, AreDraftProps, ShowTrees}
use Rattle.fsfs_draft.specs.Sides.{HasFiles, OwnFiles, DrawnOnce, goes_on_here, held, AreMarksOf, source_here, OwnSources}
use Rattle.fsfs_draft.specs.Beginning.{IsBegun, BegunDrafts}
use Rattle.fsfs_draft.proofs.Bases.{revision_agrees}
use Rattle.fsfs_draft.proofs.RuleLemmas.{alone_rules}
use Rattle.fsfs_draft.proofs.HangLaw.{some_same}
use Rattle.fsfs_draft.proofs.SideLaw.{none_held}
use Rattle.std.proofs.lemmas.Bool.{and_from}

-- of one own node-revision
one_of : (v : OwnNode) (P : Path → OwnNode → Type 0) → P [] v → (p : Path) (a : OwnNode) → alone v p ≡ Some a → P p a
one_of v P h [] a e = let same : v ≡ a = cc in subst (P []) same h
one_of v P h (x ∷ p) a e = absurd cc

module _ (look : RevisionBytes) (top base : ℕ) (trees : ℕ → TreeFunction) (shown : ShowTrees look top trees) (le : base ≤ top) (txn : TxnName) (f : Folder) (x : NodeRev) (v : OwnNode) (is : IsBegun look base trees txn f x v) where
  has_pred : is_some v.node.predecessor ≡ true
  has_pred = ap (λ (o : Option NodeId). is_some o) is.on.predecessor

  no_pred : v.node.predecessor ≡ None → ⊥
  no_pred none = let e = sym none ∙ is.on.predecessor in absurd cc

  copied : (from : CopySource) → v.node.copy_from ≡ Some from → ⊥
  copied from e = let g = sym e ∙ is.no_copy in absurd cc

  goes : goes_on_here (Some v) ≡ true
  goes = and_from _ _ (ap (λ (c : Option CopySource). not (is_some c)) is.no_copy) has_pred

  content : HasContent look f.proto v
  content =
      let w = (revision_agrees look base (trees base) (shown base le) top le).shown [] x is.stands in
      let one : w.0 ≡ v.shown = some_same (trees base []) w.0 v.shown w.1 is.shown in
      let r = (sound look base (trees base) (shown base le)).is_tree.root in
      let dir : v.shown.kind ≡ Dir = ap (λ (z : Node). z.kind) (some_same (trees base []) v.shown r.0 is.shown r.1) ∙ r.2 in
      let kind : v.shown.kind ≡ v.node.kind = ap (λ (z : Node). z.kind) (sym one) ∙ w.2.kind ∙ sym is.on.kind in
      record {
        kind = kind;
        text = subst (λ (k : Kind). IsDraftText look f.proto k v v.shown.text) (sym (sym kind ∙ dir)) (ap (λ (z : Node). z.text) (sym one) ∙ no_text x.kind w.0.text (sym w.2.kind ∙ ap (λ (z : Node). z.kind) one ∙ dir) w.2.text);
        properties = subst (λ (o : Option (List (List ℕ × List ℕ))). AreDraftProps look v.node o v.shown.properties) (sym is.props)
            (subst (λ (c : Option Contents). OfContents [] (PairsAt look) c (Ok v.shown.properties)) (sym is.set) (subst (λ (z : Node). OfContents [] (PairsAt look) x.props (Ok z.properties)) one w.2.properties));
      }
    where
      no_text : (k : Kind) (text : Content) → k ≡ Dir → IsTextOf look k x text → text ≡ Bytes []
      no_text Dir text e h = h
      no_text File text e h = absurd cc

  begun : IsDraft look top base txn f (alone v)
  begun = record {
    root = v;
    root_is = refl;
    root_id = (ap part_value is.on.node ∙ is.ids.0, ap part_value is.copy ∙ is.ids.1, is.no_copy);
    paths = one_of v (λ p a. a.node.created_path ≡ p) is.path;
    places = one_of v (λ p a. a.node.id.place ≡ Rattle.fsfs_noderev.specs.declared.node_id.Place.TheVariants.In txn) is.place;
    kept = one_of v (λ p a. f.nodes (part_value a.node.id.node) (part_value a.node.id.copy) ≡ Some (Rattle.fsfs_draft.specs.Drafts.kept_of a)) is.kept;
    drawn = is.drawn;
    rules = alone_rules look top v at_top (StandsAt look base) is.entries
        (Change x is.stands is.no_copy is.on (record { entries = λ none dir. is.text; props = λ none. is.set }) (is.root ∙ sym (ap (λ (b : Bool). if b then (Some 0, []) else lasting_root x) none)) (Directory (ap part_value is.copy ∙ is.ids.1)));
    contents = one_of v (λ p a. HasContent look f.proto a) content;
  }
    where
      none : nat_lt (own_rev x) 0 ≡ false
      none = grind (arith, nat_tests)

  files : OwnFiles (alone v)
  files = one_of v (λ p a. HasFiles a) (record {
    list = λ entries e. (let g = sym e ∙ is.entries in absurd cc);
    set = λ pairs e. (let g = sym e ∙ is.props in absurd cc);
    no_list = λ dir none e. absurd (no_pred none);
    no_set = λ none e. absurd (no_pred none);
  })

  once : DrawnOnce (alone v)
  once = record {
    made = λ p q a c e g none other same. absurd (one_of v (λ p a. a.node.predecessor ≡ None → ⊥) no_pred p a e none);
    copied = λ p q a c from to e g copy other same. absurd (one_of v (λ p a. (from : CopySource) → a.node.copy_from ≡ Some from → ⊥) copied p a e from copy);
    apart = λ p q name dir a c from e g no_copy k copy same. absurd (one_of v (λ p a. (from : CopySource) → a.node.copy_from ≡ Some from → ⊥) copied q c k from copy);
  }

  holds : (p : Path) → held (alone v) p ≡ true
  holds [] = goes
  holds (y ∷ p) = and_from _ _ goes (and_from _ _ (ap (λ (o : Option (List DirEntry)). Rattle.fsfs_draft.specs.Own.has_entry o y) is.entries) (none_held look top (below y (alone v)) (λ q. refl) p))

  marks : AreMarksOf (trees base) [] (alone v)
  marks = record {
    deleted = λ p some. sym (ap not (holds p));
    touched = touched;
    props = props;
  }
    where
      touched : (p : Path) → is_some (trees base p) ≡ true → held (alone v) p ≡ true → (effects [] p).touched ≡ is_some (alone v p)
      touched [] some h = refl
      touched (y ∷ p) some h = refl

      props : (p : Path) (a : OwnNode) → is_some (trees base p) ≡ true → held (alone v) p ≡ true → alone v p ≡ Some a → (effects [] p).props_changed ≡ is_some a.props
      props [] a some h e = let same : v ≡ a = cc in sym (ap (λ (o : Option (List (List ℕ × List ℕ))). is_some o) (ap (λ (z : OwnNode). z.props) (sym same) ∙ is.props))
      props (y ∷ p) a some h e = absurd cc

  sources : OwnSources trees (trees base) (alone v)
  sources [] a e = let same : v ≡ a = cc in subst (λ (z : OwnNode). z.shown.source ≡ source_here z.node.copy_from z.node.predecessor (trees base [])) same (by v.node.copy_from v.node.predecessor (trees base []) is.no_copy has_pred is.shown)
    where
      by : (c : Option CopySource) (o : Option NodeId) (s : Option Node) → c ≡ None → is_some o ≡ true → s ≡ Some v.shown → v.shown.source ≡ source_here c o s
      by None (Some i) (Some n) c o s = let one : n ≡ v.shown = cc in ap (λ (z : Node). z.source) (sym one)
      by None (Some i) None c o s = absurd cc
      by None None s c o e = absurd cc
      by (Some from) o s c e g = absurd cc
  sources (y ∷ p) a e = absurd cc

pub begun_drafts : BegunDrafts
begun_drafts look top base trees shown le txn f x v is = (begun look top base trees shown le txn f x v is, files look top base trees shown le txn f x v is, once look top base trees shown le txn f x v is, marks look top base trees shown le txn f x v is, sources look top base trees shown le txn f x v is)
