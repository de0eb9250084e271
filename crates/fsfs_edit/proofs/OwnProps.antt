-- The properties of an own node-revision of a draft, as they are read.
use Rattle.std.proofs.Common.{◌≡◌, ◌≤◌, ℕ, [], refl, sym, subst, ◌∙◌, append-nil, inl, inr}
use Rattle.std.specs.Prelude.{Option, Some, None, Ok, Err}
use Rattle.fsfs_base.specs.Paths.{Path}
use Rattle.fsfs_tree.specs.Nodes.{TreeFunction}
use Rattle.fsfs_base.specs.declared.fields.txn_name.TxnName.{TxnName}
use Rattle.fsfs_revision.specs.Told.{RevisionBytes}
use Rattle.fsfs_noderev.specs.declared.node_id.NodeId.{NodeId}
use Rattle.fsfs_noderev.specs.declared.rep.Contents.{Contents}
use Rattle.fsfs_noderev.specs.declared.node_rev.CopySource.{CopySource}
use Rattle.fsfs_noderev.specs.declared.node_rev.NodeRev.{NodeRev}
use Rattle.fsfs_revision.specs.declared.wrong.Wrong.{Wrong}
use Rattle.fsfs_revision.proofs.OneAnswer.{ok_same}
use Rattle.fsfs_revision.specs.Shows.Reading.{Pairs, OfId, PairsAt, OfContents, PropsOf, StandsAt, offset_of}
use Rattle.fsfs_revision.proofs.OneWalk.{props_one, of_id_one}
use Rattle.fsfs_draft.specs.Own.{OwnNode, Own, shared_under, shared_at}
use Rattle.fsfs_draft.specs.Rules.{Above, Keeps, ComesBy, Change, Copied, Made, stands_from, stands_under, above_at, stands_at, at_top}
use Rattle.fsfs_draft.specs.Drafts.{Folder, kept_of, AreDraftProps, IsDraft, ShowTrees}
use Rattle.fsfs_draft.specs.Agreeing.{Agrees}
use Rattle.fsfs_draft.specs.Sides.{HasFiles}
use Rattle.fsfs_draft.proofs.Here.{rule_here, agrees_below}
use Rattle.fsfs_draft.specs.Entries.{IsWithin}
use Rattle.fsfs_draft.specs.Properties.{OfSetProps, OfKeptProps}

-- what an own node-revision goes on from stands below it, and has the properties that it does not set
keeps_from : (look : RevisionBytes) (top : ℕ) (v : OwnNode) (above : Above) (S : Path → NodeRev → Type 0) (id : NodeId) → ComesBy look top S above v → v.node.predecessor ≡ Some id → (u : NodeRev) × stands_under look (Some v) S [] u × (u.id ≡ id) × Keeps v u
keeps_from look top v above S id (Change u at no_copy goes keeps root part) is =
    (u, subst (λ (o : Option NodeId). stands_from look v.node.copy_from o S [] u) (sym goes.predecessor) (subst (λ (c : Option CopySource). stands_from look c (Some u.id) S [] u) (sym no_copy) at), (let e = sym goes.predecessor ∙ is in cc), keeps)
keeps_from look top v above S id (Copied u from copy le at goes keeps root part) is =
    (u, subst (λ (c : Option CopySource). stands_from look c v.node.predecessor S [] u) (sym copy) (subst (λ (p : Path). StandsAt look from.rev p u) (sym (append-nil from.path)) at), (let e = sym goes.predecessor ∙ is in cc), keeps)
keeps_from look top v above S id (Made no_copy no_pred count root copy part) is = let e = sym no_pred ∙ is in absurd cc

module _ (look : RevisionBytes) (top base : ℕ) (trees : ℕ → TreeFunction) (shown : ShowTrees look top trees) (le : base ≤ top) (txn : TxnName) (f : Folder) (own : Own) (draft : IsDraft look top base txn f own)
    (p : Path) (d : OwnNode) (here : own p ≡ Some d) (files : HasFiles d) where
  abbrev Upper : Above
  Upper = above_at p own at_top

  abbrev StandsHere : Path → NodeRev → Type 0
  StandsHere q v = stands_at look p own (StandsAt look base) q v

  abbrev StandsBelow : Path → NodeRev → Type 0
  StandsBelow q v = stands_under look (Some d) StandsHere q v

  agrees : Agrees look top StandsBelow (shared_under trees (Some d) (shared_at trees p own (trees base)))
  agrees = agrees_below look top base trees shown le txn f own draft p d here

  from_id : (id : NodeId) → d.node.predecessor ≡ Some id → (u : NodeRev) × OfId look id (Ok u) × Keeps d u × ((offset_of id.place).rev ≤ top)
  from_id id is =
      let u = keeps_from look top d Upper StandsHere id (rule_here look top base trees shown le txn f own draft p d here).0 is in
      (u.0, subst (λ (i : NodeId). OfId look i (Ok u.0)) u.2 (agrees.read [] u.0 u.1), u.3, subst (λ (i : NodeId). (offset_of i.place).rev ≤ top) u.2 (agrees.within [] u.0 u.1))

  content : AreDraftProps look d.node d.props d.shown.properties
  content = (draft.contents p d here).properties

  -- what it goes on from is of a revision that is told
  pub own_within : IsWithin top d.node.predecessor
  own_within = by d.node.predecessor refl
    where
      by : (o : Option NodeId) → d.node.predecessor ≡ o → IsWithin top o
      by None is = tt
      by (Some id) is = (from_id id is).3

  unset : d.props ≡ None → PropsOf look d.node (Ok d.shown.properties)
  unset none = subst (λ (o : Option Pairs). AreDraftProps look d.node o d.shown.properties) none content

  unset_of : (u : NodeRev) → Keeps d u → d.props ≡ None → PropsOf look u (Ok d.shown.properties)
  unset_of u keeps none = subst (λ (c : Option Contents). OfContents [] (PairsAt look) c (Ok d.shown.properties)) (keeps.props none) (unset none)

  -- its properties as they are read are its properties
  pub props_here : (pairs : Pairs) → OfKeptProps look (kept_of d) (Ok pairs) → pairs ≡ d.shown.properties
  props_here pairs of = by d.props d.node.predecessor refl refl of
    where
      by : (o : Option Pairs) (b : Option NodeId) → d.props ≡ o → d.node.predecessor ≡ b → OfSetProps look o b (Ok pairs) → pairs ≡ d.shown.properties
      by (Some set) b is pred of = ok_same pairs set of ∙ sym (subst (λ (o : Option Pairs). AreDraftProps look d.node o d.shown.properties) is content)
      by None None is pred of = ok_same pairs [] of ∙ sym (ok_same d.shown.properties [] (subst (λ (c : Option Contents). OfContents [] (PairsAt look) c (Ok d.shown.properties)) (files.no_set pred is) (unset is)))
      by None (Some id) is pred of =
          let u = from_id id pred in
          let same : of.0 ≡ u.0 = ok_same of.0 u.0 (of_id_one look id (Ok of.0) (Ok u.0) of.1 u.1) in
          ok_same pairs d.shown.properties (props_one look u.0 (Ok pairs) (Ok d.shown.properties) (subst (λ (x : NodeRev). PropsOf look x (Ok pairs)) same of.2) (unset_of u.0 u.2 is))

  -- and nothing is wrong with them
  pub props_never : (w : Wrong) → OfKeptProps look (kept_of d) (Err w) → ⊥
  props_never w of = by d.props d.node.predecessor refl refl of
    where
      by : (o : Option Pairs) (b : Option NodeId) → d.props ≡ o → d.node.predecessor ≡ b → OfSetProps look o b (Err w) → ⊥
      by (Some set) b is pred of = cc
      by None None is pred of = cc
      by None (Some id) is pred (inl of) = let u = from_id id pred in let e = of_id_one look id (Ok u.0) (Err w) u.1 of in cc
      by None (Some id) is pred (inr of) =
          let u = from_id id pred in
          let same : of.0 ≡ u.0 = ok_same of.0 u.0 (of_id_one look id (Ok of.0) (Ok u.0) of.1 u.1) in
          let e = props_one look u.0 (Ok d.shown.properties) (Err w) (unset_of u.0 u.2 is) (subst (λ (x : NodeRev). PropsOf look x (Err w)) same of.2) in
          cc
