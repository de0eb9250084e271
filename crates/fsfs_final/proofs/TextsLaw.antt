-- The text of a whole draft's own node-revision stands before what is put.
use Rattle.std.proofs.Common.{◌≡◌, ◌∙◌, ◌≤◌, ◌<◌, ℕ, suc, List, [], length, Option, Some, None, refl, sym, ap, subst, lit<, arith, inl, inr}
use Rattle.std.specs.Prelude.{Ok, Err, unwrap_or}
use Rattle.std.proofs.lemmas.Bool.{cases_lt}
use Rattle.fsfs_base.specs.Paths.{Path}
use Rattle.fsfs_base.specs.declared.kind.Kind.{Kind}
use Rattle.fsfs_base.specs.declared.kind.Kind.TheVariants.{File, Dir}
use Rattle.fsfs_base.specs.declared.fields.txn_name.TxnName.{TxnName}
use Rattle.fsfs_tree.specs.Nodes.{TreeFunction, Content, Bytes, Closed}
use Rattle.fsfs_model.specs.declared.flat.mark.Mark.{Mark}
use Rattle.fsfs_revision.specs.Told.{RevisionBytes}
use Rattle.fsfs_revision.specs.Damage.Damages.{place_of}
use Rattle.fsfs_revision.specs.declared.wrong.Wrong.TheVariants as wrongs
use Rattle.fsfs_noderev.specs.declared.rep.Rep.{Rep}
use Rattle.fsfs_noderev.specs.declared.rep.Contents.{Contents}
use Rattle.fsfs_noderev.specs.declared.rep.Contents.TheVariants as contents
use Rattle.fsfs_noderev.specs.declared.node_rev.NodeRev.{NodeRev}
use Rattle.fsfs_revision.specs.Rep.Headers.{plain_line}
use Rattle.fsfs_revision.specs.Rep.Frames.{rev_of, RepIn}
use Rattle.fsfs_revision.proofs.HeaderLemmas.{stands_fits}
use Rattle.fsfs_revision.specs.Shows.Reading.{OfContents, RepAt, offset_of, DirEntry}
use Rattle.fsfs_revision.specs.Shows.Shown.{IsTextOf}
use Rattle.fsfs_revision.proofs.TreeLaw.{stands_home}
use Rattle.fsfs_draft.specs.Own.{OwnNode, Own}
use Rattle.fsfs_draft.specs.Drafts.{Folder, IsLasting, IsFileText, Lasting, Put, IsDraftText, ShowTrees}
use Rattle.fsfs_draft.specs.OwnSides.{NodesAt}
use Rattle.fsfs_draft.specs.Met.{draft_nodes, AreNodes}
use Rattle.fsfs_draft.specs.Staying.{IsYoungest}
use Rattle.fsfs_draft.specs.Whole.{IsDraftOf}
use Rattle.fsfs_draft.specs.NodeDrafts as nodewise
use Rattle.fsfs_draft.proofs.HangLaw as hanging
use Rattle.fsfs_draft.proofs.WholeLaw.{drafts_are_handed}
use Rattle.fsfs_final.proofs.OrderLaw.{pred_or}
use Rattle.fsfs_final.proofs.Stays.{ready}
use Rattle.fsfs_final.specs.Pieces.Nodes.{IsRepBefore, HasTextBefore, DraftTextsStandBefore}
use Rattle.fsfs_final.proofs.PropsLaw.{before_rev}
use Rattle.fsfs_final.proofs.NodeLaws.{props_text}

module _ (look : RevisionBytes) (trees : ℕ → TreeFunction) (top : ℕ) (nodes : ℕ → NodesAt) (txn : TxnName) (f : Folder) (tree : TreeFunction) (marks : List Mark) (shows : ShowTrees look top trees) (are : AreNodes look top nodes)
    (youngest : IsYoungest look top) (d : IsDraftOf look trees top top txn f tree marks) where
  abbrev own : Own
  own = d.shows.own

  abbrev met : NodesAt
  met = draft_nodes nodes own (nodes top)

  abbrev Stands : Option Contents → Type 0
  Stands c = HasTextBefore (suc top) (length f.proto) c

  le : top ≤ top
  le = omega arith

  hangs : nodewise.IsDraft look top top met
  hangs = (drafts_are_handed.handed look trees top top nodes txn f tree marks shows are le d).hangs

  -- ---- a file's

  -- what has bytes is of no later revision
  told : (rev : ℕ) (bytes : List ℕ) → look rev ≡ Ok bytes → rev < suc top
  told rev bytes e = elim (cases_lt top rev) [
    | inl later ↦ absurd (youngest rev bytes later e)
    | inr low ↦ omega arith
  ]

  low : (rep : Rep) (rev : ℕ) (bytes : List ℕ) → rep.rev ≡ Some rev → look (rev_of rep) ≡ Ok bytes → IsRepBefore (suc top) (length f.proto) rep.rev rep.offset
  low rep rev bytes e t =
      subst (λ (o : Option ℕ). IsRepBefore (suc top) (length f.proto) o rep.offset) (sym e) (told rev bytes (subst (λ (r : ℕ). look r ≡ Ok bytes) (ap (λ (o : Option ℕ). unwrap_or o 0) e) t))

  abbrev ReadsAs : Option Contents → Content → Type 0
  ReadsAs c (Bytes bytes) = OfContents [] (RepAt look) c (Ok bytes)
  ReadsAs c (Closed rev offset) = OfContents [] (RepAt look) c (Err (wrongs.Delta (place_of rev offset)))

  reads : (v : NodeRev) (text : Content) → IsTextOf look File v text → ReadsAs v.text text
  reads v (Bytes bytes) is = is
  reads v (Closed rev offset) is = is

  lasting : (c : Option Contents) (text : Content) → IsLasting c → ReadsAs c text → Stands c
  lasting None text l r = tt
  lasting (Some contents.Own) text l r = tt
  lasting (Some (contents.At rep)) (Bytes bytes) l r = low rep l.0 r.0 l.1 r.1
  lasting (Some (contents.At rep)) (Closed rev offset) l (inl w) = absurd (let other = w.2 in cc)
  lasting (Some (contents.At rep)) (Closed rev offset) l (inr w) = low rep l.0 w.0 l.1 w.1

  put : (rep : Rep) (bytes : List ℕ) → rep.rev ≡ None → RepIn rep f.proto (Ok bytes) → IsRepBefore (suc top) (length f.proto) rep.rev rep.offset
  put rep bytes none r =
      subst (λ (o : Option ℕ). IsRepBefore (suc top) (length f.proto) o rep.offset) (sym none) (omega (arith, stands_fits plain_line rep.offset f.proto (lit< tt) r.1.framed.header))

  file : (v : NodeRev) (text : Content) → IsFileText look f.proto v text → Stands v.text
  file v text (Lasting l r) = lasting v.text text l (reads v text r)
  file v text (Put rep bytes is none r same) = subst (λ (c : Option Contents). Stands c) (sym is) (put rep bytes none r)

  -- ---- a directory's

  module _ (p : Path) (v : OwnNode) (here : own p ≡ Some v) where
    inherited : v.node.kind ≡ Dir → v.entries ≡ None → Stands v.node.text
    inherited is none = elim (pred_or v.node.predecessor) [
      | inl first ↦ subst (λ (c : Option Contents). Stands c) (sym ((d.files p v here).no_list is first none)) tt
      | inr id ↦
          let mine = hanging.is_mine look top top trees nodes shows are le txn f own d.shows.is_draft p v here in
          let at = hanging.met_own look top top trees nodes shows are le txn f own d.shows.is_draft p v here in
          let r = ready look top top met le hangs p v.node at mine (λ lacks. (let g = sym lacks ∙ id.1 in cc)) in
          let keeps = (hanging.goes look top top trees nodes shows are le txn f own d.shows.is_draft p v here r.0 r.1).1 in
          let home = stands_home look r.2.0 r.2.1 r.0 r.2.3 in
          subst (λ (c : Option Contents). Stands c) (sym (keeps.entries none is))
          (props_text (suc top) (length f.proto) r.0.text (before_rev (suc top) (offset_of r.0.id.place) r.0.text home.0.text (omega (arith, home.1, r.2.2))))
    ]

    list : (o : Option (List DirEntry)) → v.entries ≡ o → v.node.kind ≡ Dir → Stands v.node.text
    list None e is = inherited is e
    list (Some entries) e is = subst (λ (c : Option Contents). Stands c) (sym ((d.files p v here).list entries e)) tt

    by : (k : Kind) → v.node.kind ≡ k → IsDraftText look f.proto k v v.shown.text → Stands v.node.text
    by File is t = file v.node v.shown.text t.1
    by Dir is t = list v.entries refl is

    pub stands : Stands v.node.text
    stands = by v.node.kind refl (d.shows.is_draft.contents p v here).text

pub draft_texts_stand_before : DraftTextsStandBefore
draft_texts_stand_before look trees top nodes txn f tree marks shows are youngest d p v here = stands look trees top nodes txn f tree marks shows are youngest d p v here
