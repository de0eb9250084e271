-- The bytes that a whole draft was laid in hold it, and what is the transaction's own reads as its tree has it.
use Rattle.std.proofs.Common.{◌≡◌, ◌∙◌, ◌≤◌, ℕ, suc, true, ◌&&◌, List, [], ◌∷◌, ◌++◌, Option, Some, None, refl, sym, ap, subst, arith, append_assoc, append-nil}
use Rattle.std.specs.Prelude.{Ok, unwrap_or}
use Rattle.std.proofs.lemmas.Bool.Decides.{nat_tests}
use Rattle.fsfs_base.specs.Paths.{PathName, Path}
use Rattle.fsfs_base.specs.declared.kind.Kind.{Kind}
use Rattle.fsfs_base.specs.declared.kind.Kind.TheVariants.{File, Dir}
use Rattle.fsfs_base.specs.declared.fields.txn_name.TxnName.{TxnName}
use Rattle.fsfs_tree.specs.Nodes.{Node, TreeFunction, Content}
use Rattle.fsfs_revision.specs.Told.{RevisionBytes}
use Rattle.fsfs_revision.specs.Damage.Damages.{place_of}
use Rattle.fsfs_noderev.specs.declared.changes.item.ChangeItem.{ChangeItem}
use Rattle.fsfs_noderev.specs.declared.node_id.Place.{Place}
use Rattle.fsfs_noderev.specs.declared.node_id.Place.TheVariants as places
use Rattle.fsfs_noderev.specs.declared.rep.Rep.{Rep}
use Rattle.fsfs_noderev.specs.declared.rep.Contents.{Contents}
use Rattle.fsfs_noderev.specs.declared.rep.Contents.TheVariants as contents
use Rattle.fsfs_noderev.specs.declared.node_rev.NodeRev.{NodeRev}
use Rattle.fsfs_layout.specs.Hash.Dump.{dump_text}
use Rattle.fsfs_revision.specs.Rep.Frames.{RepIn}
use Rattle.fsfs_txn_files.proofs.Longer.{stays}
use Rattle.fsfs_revision.specs.Nodes.{has_revision_rep, is_own_place, is_directory}
use Rattle.fsfs_revision.specs.Shows.Reading.{Pairs, OfContents, RepAt, PairsAt, PropsOf, StandsAt}
use Rattle.fsfs_revision.specs.Shows.Shown.{IsTextOf}
use Rattle.fsfs_revision.proofs.OneWalk.{stands_same}
use Rattle.fsfs_revision.proofs.TreeLaw.{root_home}
use Rattle.fsfs_revision.proofs.Walks.{child_stands}
use Rattle.fsfs_revision.proofs.Earlier.{stands_of_id}
use Rattle.fsfs_draft.specs.Own.{OwnNode, Own, draft_tree}
use Rattle.fsfs_draft.specs.Drafts.{Folder, IsLasting, IsFileText, Lasting, Put, IsDraftText, AreDraftProps, HasContent, IsDraft, ShowTrees, bare}
use Rattle.fsfs_draft.specs.Sides.{OwnFiles}
use Rattle.fsfs_draft.specs.OwnSides.{NodesAt}
use Rattle.fsfs_draft.specs.Met.{draft_nodes, AreNodes}
use Rattle.fsfs_draft.specs.NodeDrafts.{IsOwn}
use Rattle.fsfs_draft.specs.NodeDrafts as nodewise
use Rattle.fsfs_draft.proofs.Changing.{same_text}
use Rattle.fsfs_draft.proofs.HangLaw as hanging
use Rattle.fsfs_draft.proofs.HangLaw.{some_same}
use Rattle.fsfs_draft.proofs.OwnShown.{own_shown}
use Rattle.fsfs_final.specs.Bytes.{Listed, HoldsDraft}
use Rattle.fsfs_final.specs.Contents.{ReadsAs, OwnContents}
use Rattle.fsfs_final.specs.Directories.{ReadsAsDraft}
use Rattle.fsfs_final.specs.Final.{IsFinal}
use Rattle.fsfs_final.specs.Laid.{Laid}
use Rattle.fsfs_final.proofs.Held.{held_drafts_are_read}
use Rattle.fsfs_final.proofs.LaidLaw.{loop_laws}
use Rattle.fsfs_final.specs.Pieces.Endings.{IsEnded}
use Rattle.fsfs_final.specs.Pieces.Lists.{in_revision}
use Rattle.fsfs_final.specs.Pieces.Naming.{FinalIds}
use Rattle.fsfs_final.specs.Pieces.Nodes.{HasList}
use Rattle.fsfs_final.proofs.OwnChildren.{above_own}
use Rattle.fsfs_final.specs.Laying.{IsTextKept, IsPut, AreLaid}
use Rattle.fsfs_commit.specs.FinalRev.FinalBytes.{IsFinalBytes}
use Rattle.fsfs_commit.proofs.Bare.{same_bare}
use Rattle.fsfs_commit.proofs.Holding as holding
use Rattle.fsfs_commit.proofs.Holding.{lasting_kept}

own_root : (n off : ℕ) (place : Place) (k : Kind) → place ≡ places.At n off → k ≡ Dir → (is_own_place (place_of n off) place && is_directory k) ≡ true
own_root n off place k at dir = (λ i. is_own_place (place_of n off) (at i) && is_directory (dir i)) ∙ here n off
  where
    here : (n off : ℕ) → (is_own_place (place_of n off) (places.At n off) && is_directory Dir) ≡ true
    here n off = grind (arith, nat_tests)

has_lasting_rep : (c : Option Contents) → IsLasting c → has_revision_rep c ≡ true
has_lasting_rep None l = refl
has_lasting_rep (Some contents.Own) l = absurd l
has_lasting_rep (Some (contents.At rep)) l = ap (λ (r : Option ℕ). has_revision_rep (Some (contents.At (record rep { rev = r })))) l.1

-- a representation of the prototype file, in the revision
moved_rep : (n : ℕ) (rep : Rep) (bytes text : List ℕ) → RepIn rep bytes (Ok text) → RepIn (in_revision n rep) bytes (Ok text)
moved_rep n rep bytes text r = (
  r.0,
  record {
    framed = record { header = r.1.framed.header; trailer = r.1.framed.trailer };
    agrees = record { size = r.1.agrees.size; md5 = r.1.agrees.md5; sha1 = r.1.agrees.sha1 };
  },
)

module _ (look : RevisionBytes) (trees : ℕ → TreeFunction) (top : ℕ) (nodes : ℕ → NodesAt) (shown : ShowTrees look top trees) (are : AreNodes look top nodes) (txn : TxnName) (f : Folder) (own : Own) (draft : IsDraft look top top txn f own)
    (files : OwnFiles own) (hangs : nodewise.IsDraft look top top (draft_nodes nodes own (nodes top))) (bytes : List ℕ) (laid : Laid) (ids : FinalIds) (all : AreLaid (suc top) bytes own [] laid ids)
    (more : List ℕ) (told : look (suc top) ≡ Ok bytes) (parts : bytes ≡ f.proto ++ more) where
  abbrev met : NodesAt
  met = draft_nodes nodes own (nodes top)

  abbrev n : ℕ
  n = suc top

  le : top ≤ top
  le = omega arith

  abbrev pub done : Path → NodeRev
  done p = holding.done look trees top nodes shown are txn f own draft files hangs bytes laid ids all p

  abbrev pub off : Path → ℕ
  off p = holding.off look trees top nodes shown are txn f own draft files hangs bytes laid ids all p

  abbrev put : (p : Path) (v : OwnNode) → own p ≡ Some v → IsPut n bytes laid ids p v
  put p v here = holding.put look trees top nodes shown are txn f own draft files hangs bytes laid ids all p v here

  done_is : (p : Path) (v : OwnNode) (here : own p ≡ Some v) → done p ≡ (put p v here).done
  done_is p v here = holding.done_is look trees top nodes shown are txn f own draft files hangs bytes laid ids all p v here

  off_is : (p : Path) (v : OwnNode) (here : own p ≡ Some v) → off p ≡ (put p v here).off
  off_is p v here = holding.off_is look trees top nodes shown are txn f own draft files hangs bytes laid ids all p v here

  pub mine_at : (p : Path) (u : NodeRev) → met p ≡ Some u → IsOwn u → (d : OwnNode) × (own p ≡ Some d) × (d.node ≡ u)
  mine_at p u e mine = hanging.mine_at look top top trees nodes shown are le txn f own draft p u e mine

  own_met : (p : Path) (v : OwnNode) → own p ≡ Some v → met p ≡ Some v.node
  own_met p v here = hanging.met_own look top top trees nodes shown are le txn f own draft p v here

  own_mine : (p : Path) (v : OwnNode) → own p ≡ Some v → IsOwn v.node
  own_mine p v here = hanging.is_mine look top top trees nodes shown are le txn f own draft p v here

  place_at : (p : Path) (v : OwnNode) → own p ≡ Some v → (done p).id.place ≡ places.At n (off p)
  place_at p v here = ap (λ (y : NodeRev). y.id.place) (done_is p v here) ∙ (put p v here).place ∙ ap (λ (o : ℕ). places.At n o) (sym (off_is p v here))

  final_at : (p : Path) (v : OwnNode) → own p ≡ Some v → IsFinal n v.node (done p)
  final_at p v here = subst (λ (y : NodeRev). IsFinal n v.node y) (sym (done_is p v here)) (put p v here).final

  -- the root goes on from a directory
  root_dir : draft.root.node.kind ≡ Dir
  root_dir =
      let r = hangs.root in
      let same : r.0 ≡ draft.root.node = some_same (met []) r.0 draft.root.node r.2 (own_met [] draft.root draft.root_is) in
      let kind = (hangs.pred [] r.0 r.1 r.2 r.4 (r.1.id, r.5, stands_of_id look top [] r.1 r.3)).1 in
      let at = r.3 in
      let home = root_home look top at.0 at.1 in
      let is_root_node : at.0 ≡ r.1 = (let e = at.2 in cc) in
      ap (λ (y : NodeRev). y.kind) (sym same) ∙ kind ∙ ap (λ (y : NodeRev). y.kind) (sym is_root_node) ∙ home.2

  module _ (items : List ChangeItem) (end : IsEnded bytes (off []) items) where
    holds : HoldsDraft look n bytes met done off
    holds = loop_laws.held look n bytes met done off laid told all.is_laid (record {
      trailer = end.has.trailer;
      ends = end.has.ends;
      root_at = end.root_is;
      root_is = own_root n (off []) (done []).id.place (done []).kind (place_at [] draft.root draft.root_is) ((final_at [] draft.root draft.root_is).kind ∙ root_dir);
      all = λ p u e mine. (let d = mine_at p u e mine in (
        (put p d.0 d.1).at ∙ (λ i. Some (sym (off_is p d.0 d.1) i, sym (done_is p d.0 d.1) i)),
        subst (λ (x : NodeRev). IsFinal n x (done p)) d.2 (final_at p d.0 d.1),
        place_at p d.0 d.1,
      ));
      list = λ p u e mine dir. (let d = mine_at p u e mine in
          subst (λ (x : NodeRev). Listed look n bytes met done p x) d.2
          (holding.dir_listed look trees top nodes shown are txn f own draft files hangs bytes laid ids all p d.0 d.1 (ap (λ (x : NodeRev). x.kind) d.2 ∙ dir)));
    })

    reads : ReadsAsDraft look n met done
    reads = held_drafts_are_read look top n bytes met done off hangs holds

    -- ---- what was put stands at its path

    root_stands : StandsAt look n [] (done [])
    root_stands = (done [], reads.root, refl)

    dir_of : (p : Path) (name : PathName) (d v : OwnNode) → own p ≡ Some d → own (p ++ name ∷ []) ≡ Some v → d.node.kind ≡ Dir
    dir_of p name d v here at =
        let a = hangs.above p name v.node (own_met (p ++ name ∷ []) v at) in
        ap (λ (x : NodeRev). x.kind) (some_same (met p) d.node a.0 (own_met p d here) a.1) ∙ a.2

    child_here : (p : Path) (name : PathName) (d v : OwnNode) → own p ≡ Some d → own (p ++ name ∷ []) ≡ Some v → StandsAt look n p (done p) → StandsAt look n (p ++ name ∷ []) (done (p ++ name ∷ []))
    child_here p name d v here at up =
        child_stands look n (done p) (done (p ++ name ∷ [])) p name up ((final_at p d here).kind ∙ dir_of p name d v here at)
        (reads.mine p name d.node v.node (own_met p d here) (own_mine p d here) (own_met (p ++ name ∷ []) v at) (own_mine (p ++ name ∷ []) v at))

    all_stand : (rest p : Path) (d v : OwnNode) → own p ≡ Some d → own (p ++ rest) ≡ Some v → StandsAt look n p (done p) → StandsAt look n (p ++ rest) (done (p ++ rest))
    all_stand [] p d v here at up = subst (λ (q : Path). StandsAt look n q (done q)) (sym (append-nil p)) up
    all_stand (x ∷ rest) p d v here at up =
        let further : own ((p ++ x ∷ []) ++ rest) ≡ Some v = ap own (append_assoc p (x ∷ []) rest) ∙ at in
        let c = above_own look top top trees shown le txn f own draft (p ++ x ∷ []) rest v further in
        subst (λ (q : Path). StandsAt look n q (done q)) (append_assoc p (x ∷ []) rest) (all_stand rest (p ++ x ∷ []) c.0 v c.1 further (child_here p x d c.0 here c.1 up))

    stands_done : (p : Path) (v : OwnNode) (w : NodeRev) → own p ≡ Some v → StandsAt look n p w → done p ≡ w
    stands_done p v w here at = stands_same look n p (done p) w (all_stand p [] draft.root v draft.root_is here root_stands) at

    -- by its id in the revision
    pub id_there : (p : Path) (v : OwnNode) (w : NodeRev) → own p ≡ Some v → StandsAt look n p w → ids p ≡ Some w.id
    id_there p v w here at = (put p v here).id_is ∙ ap (λ (y : NodeRev). Some y.id) (sym (done_is p v here) ∙ stands_done p v w here at)

    -- ---- its texts and properties

    rep_there : (rep : Rep) (text : List ℕ) → rep.rev ≡ Some n → RepIn rep bytes (Ok text) → RepAt look rep (Ok text)
    rep_there rep text rev r = (bytes, ap (λ (o : Option ℕ). look (unwrap_or o 0)) rev ∙ told, r)

    list_read : (c : Option Contents) (pairs : Pairs) → HasList n bytes c pairs → OfContents [] (PairsAt look) c (Ok pairs)
    list_read c pairs h =
        subst (λ (x : Option Contents). OfContents [] (PairsAt look) x (Ok pairs)) (sym h.there)
        (dump_text pairs, rep_there h.rep (dump_text pairs) h.rev_is (loop_laws.rep_read bytes h.rep (dump_text pairs) h.framed), h.dump)

    module _ (p : Path) (v : OwnNode) (here : own p ≡ Some v) where
      abbrev w : NodeRev
      w = (put p v here).done

      file_text : (text : Content) → IsFileText look f.proto v.node text → IsTextOf look File w text
      file_text text (Lasting l r) =
          same_text look w v.node text (lasting_kept n v.node.text w.text (has_lasting_rep v.node.text l) (put p v here).text) r
      file_text text (Put rep old is none r same) =
          let kept : w.text ≡ Some (contents.At (in_revision n rep)) = subst (λ (c : Option Contents). IsTextKept n c w.text) is (put p v here).text in
          let rev : (in_revision n rep).rev ≡ Some n = ap (λ (o : Option ℕ). Some (unwrap_or o n)) none in
          let in_bytes : RepIn rep bytes (Ok old) = subst (λ (b : List ℕ). RepIn rep b (Ok old)) (sym parts) (stays rep f.proto more old r) in
          subst (λ (t : Content). IsTextOf look File w t) (sym same)
          (subst (λ (c : Option Contents). OfContents [] (RepAt look) c (Ok old)) (sym kept) (rep_there (in_revision n rep) old rev (moved_rep n rep bytes old in_bytes)))

      props_read : (o : Option Pairs) (properties : Pairs) → v.props ≡ o → AreDraftProps look v.node o properties → PropsOf look w (Ok properties)
      props_read (Some pairs) properties e same = subst (λ (x : Pairs). PropsOf look w (Ok x)) (sym same) (list_read w.props pairs ((put p v here).set pairs e))
      props_read None properties e r =
          subst (λ (c : Option Contents). OfContents [] (PairsAt look) c (Ok properties)) (sym ((put p v here).final.other_props (λ own_set. not_own v.node.props r own_set))) r
        where
          not_own : (c : Option Contents) → OfContents [] (PairsAt look) c (Ok properties) → c ≡ Some contents.Own → ⊥
          not_own None r is = cc
          not_own (Some contents.Own) r is = r
          not_own (Some (contents.At rep)) r is = cc

      text_read : (k : Kind) (text : Content) → k ≡ File → IsDraftText look f.proto k v text → IsTextOf look File w text
      text_read File text is t = file_text text t.1
      text_read Dir text is t = absurd cc

      reads_shown : ReadsAs look w v.shown
      reads_shown =
          let c : HasContent look f.proto v = draft.contents p v here in (
            λ file. subst (λ (k : Kind). IsTextOf look k w v.shown.text) (sym ((put p v here).final.kind ∙ sym c.kind ∙ file)) (text_read v.node.kind v.shown.text (sym c.kind ∙ file) c.text),
            props_read v.props v.shown.properties refl c.properties,
          )

      reads_as : (m : Node) → bare (Some m) ≡ bare (Some v.shown) → ReadsAs look w m
      reads_as m e =
          let s = same_bare m v.shown e in (
            λ file. subst (λ (t : Content). IsTextOf look w.kind w t) (sym s.1) (reads_shown.0 (sym s.0 ∙ file)),
            subst (λ (x : Pairs). PropsOf look w (Ok x)) (sym s.2) reads_shown.1,
          )

    module _ (tree : TreeFunction) (each : (p : Path) → bare (tree p) ≡ bare (draft_tree trees own (trees top) p)) where
      contents_read : OwnContents look n tree met
      contents_read p u v m e mine at is =
          let d = mine_at p u e mine in
          let there : bare (Some m) ≡ bare (Some d.0.shown) = ap bare (sym is) ∙ each p ∙ ap bare (own_shown look top top trees shown le txn f own draft p d.0 d.1) in
          subst (λ (x : NodeRev). ReadsAs look x m) (sym (done_is p d.0 d.1) ∙ stands_done p d.0 v d.1 at) (reads_as p d.0 d.1 m there)

      pub final : IsFinalBytes look n bytes met tree
      final = record { done = done; off = off; holds = holds; contents = contents_read }
