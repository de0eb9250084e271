-- A whole draft's own node-revisions that are laid: the lists of its directories, and the representations that it goes on from.
use Rattle.std.proofs.Common.{◌≡◌, ◌∙◌, ◌≤◌, ◌<◌, ℕ, suc, Bool, true, false, cond, List, [], ◌∷◌, ◌++◌, Option, Some, None, refl, sym, ap, subst, inl, inr, arith}
use Rattle.std.specs.Prelude.{is_some, unwrap_or, Ok}
use Rattle.std.proofs.lemmas.Bool.Decides.{nat_tests}
use Rattle.std.proofs.lemmas.Bool.{cases_Bool}
use Rattle.fsfs_base.specs.Paths.{PathName, Path}
use Rattle.fsfs_base.specs.declared.kind.Kind.TheVariants.{Dir}
use Rattle.fsfs_base.specs.declared.fields.txn_name.TxnName.{TxnName}
use Rattle.fsfs_tree.specs.Nodes.{TreeFunction}
use Rattle.fsfs_revision.specs.Told.{RevisionBytes}
use Rattle.fsfs_revision.specs.Damage.Damages.{place_of}
use Rattle.fsfs_noderev.specs.declared.node_id.NodeId.{NodeId}
use Rattle.fsfs_noderev.specs.declared.rep.Rep.{Rep}
use Rattle.fsfs_noderev.specs.declared.rep.Contents.{Contents}
use Rattle.fsfs_noderev.specs.declared.rep.Contents.TheVariants as contents
use Rattle.fsfs_noderev.specs.declared.node_rev.NodeRev.{NodeRev}
use Rattle.fsfs_layout.specs.Hash.Dump.{dump_text}
use Rattle.fsfs_revision.specs.Nodes.{is_before, is_revision_id, has_revision_rep, is_some_rev}
use Rattle.fsfs_revision.specs.Shows.Reading.{DirEntry, AreEntries, ChildOf, StandsAt, named, offset_of}
use Rattle.fsfs_revision.specs.Shows.Chains.{own_rev, IsPred}
use Rattle.fsfs_revision.proofs.TreeLaw.{stands_home}
use Rattle.fsfs_revision.proofs.Earlier.{stands_of_id, pred_same}
use Rattle.fsfs_draft.specs.Own.{OwnNode, Own, has_entry}
use Rattle.fsfs_draft.specs.Rules.{head_at, IsEntryOf, at_top, above_at, stands_at}
use Rattle.fsfs_draft.specs.Drafts.{Folder, IsDraft, ShowTrees}
use Rattle.fsfs_draft.specs.Sides.{OwnFiles}
use Rattle.fsfs_draft.specs.OwnSides.{NodesAt, in_txn}
use Rattle.fsfs_draft.specs.Met.{draft_nodes, nodes_from, nodes_at, AreNodes}
use Rattle.fsfs_draft.specs.NodeDrafts.{IsOwn}
use Rattle.fsfs_draft.specs.NodeDrafts as nodewise
use Rattle.fsfs_draft.proofs.AllLaw.{met_inherited}
use Rattle.fsfs_draft.proofs.Changing.{of_id_lasting, lasting_text}
use Rattle.fsfs_draft.proofs.HangLaw as hanging
use Rattle.fsfs_draft.proofs.Here.{from_nothing}
use Rattle.fsfs_draft.proofs.HangLaw.{some_same}
use Rattle.fsfs_draft.proofs.Placing as placing
use Rattle.fsfs_draft.proofs.OwnEntries.{lasting_id}
use Rattle.fsfs_final.specs.Bytes.{LeadsTo, Lists, Listed, Written, Inherited, Bare}
use Rattle.fsfs_final.specs.Laid.{Laid}
use Rattle.fsfs_final.proofs.LaidLaw.{loop_laws}
use Rattle.fsfs_final.proofs.Stays.{ready}
use Rattle.fsfs_final.specs.Pieces.Naming.{FinalIds}
use Rattle.fsfs_final.proofs.OwnChildren.{Below, not_of_revision, heads, bare_dir}
use Rattle.fsfs_final.specs.Laying.{LeadsOn, LeadAlike, IsListPut, IsTextKept, IsPut, AreLaid}
use Rattle.fsfs_commit.proofs.Totals.{has_child}
use Rattle.fsfs_final.proofs.NodeLaws.{same_rep}

-- ---- what is laid at a path

abbrev pub node_in : NodeRev → Option (ℕ × NodeRev) → NodeRev
node_in other None = other
node_in other (Some at) = at.1

abbrev pub off_in : Option (ℕ × NodeRev) → ℕ
off_in None = 0
off_in (Some at) = at.0

-- what stands in a revision is kept as it is
pub lasting_kept : (n : ℕ) (c d : Option Contents) → has_revision_rep c ≡ true → IsTextKept n c d → d ≡ c
lasting_kept n None d h w = w
lasting_kept n (Some contents.Own) d h w = absurd cc
lasting_kept n (Some (contents.At rep)) d h w = by rep.rev refl h
  where
    by : (o : Option ℕ) → rep.rev ≡ o → is_some_rev o ≡ true → d ≡ Some (contents.At rep)
    by None e g = absurd cc
    by (Some rev) e g = w ∙ ap (λ (r : Rep). Some (contents.At r)) (same_rep n rep rev e)

earlier : (n off rev offset : ℕ) → rev < n → is_before rev offset (place_of n off) ≡ true
earlier n off rev offset lt = grind (arith, nat_tests)

alike_none : (laid : Laid) (p : Path) (name : PathName) (a b : Option DirEntry) → LeadAlike laid p name a b → a ≡ None → b ≡ None
alike_none laid p name None None h e = refl
alike_none laid p name None (Some y) h e = absurd h
alike_none laid p name (Some x) b h e = absurd cc

alike_some : (laid : Laid) (p : Path) (name : PathName) (a b : Option DirEntry) (x : DirEntry) → LeadAlike laid p name a b → a ≡ Some x → (now : DirEntry) × (b ≡ Some now) × LeadsOn laid p name x now
alike_some laid p name None b x h e = absurd cc
alike_some laid p name (Some y) None x h e = absurd h
alike_some laid p name (Some y) (Some now) x h e = let same : y ≡ x = (let g = e in cc) in (now, refl, subst (λ (z : DirEntry). LeadsOn laid p name z now) same h)

module _ (look : RevisionBytes) (trees : ℕ → TreeFunction) (top : ℕ) (nodes : ℕ → NodesAt) (shown : ShowTrees look top trees) (are : AreNodes look top nodes) (txn : TxnName) (f : Folder) (own : Own) (draft : IsDraft look top top txn f own)
    (files : OwnFiles own) (hangs : nodewise.IsDraft look top top (draft_nodes nodes own (nodes top))) (bytes : List ℕ) (laid : Laid) (ids : FinalIds) (all : AreLaid (suc top) bytes own [] laid ids) where
  abbrev met : NodesAt
  met = draft_nodes nodes own (nodes top)

  abbrev n : ℕ
  n = suc top

  le : top ≤ top
  le = omega arith

  abbrev pub done : Path → NodeRev
  done p = node_in draft.root.node (laid p)

  abbrev pub off : Path → ℕ
  off p = off_in (laid p)

  pub put : (p : Path) (v : OwnNode) → own p ≡ Some v → IsPut n bytes laid ids p v
  put p v here = all.each p v here refl

  pub done_is : (p : Path) (v : OwnNode) (here : own p ≡ Some v) → done p ≡ (put p v here).done
  done_is p v here = ap (node_in draft.root.node) (put p v here).at

  pub off_is : (p : Path) (v : OwnNode) (here : own p ≡ Some v) → off p ≡ (put p v here).off
  off_is p v here = ap off_in (put p v here).at

  pub mine_at : (p : Path) (u : NodeRev) → met p ≡ Some u → IsOwn u → (d : OwnNode) × (own p ≡ Some d) × (d.node ≡ u)
  mine_at p u e mine = hanging.mine_at look top top trees nodes shown are le txn f own draft p u e mine

  module _ (p : Path) (v : OwnNode) (here : own p ≡ Some v) where
    mine : IsOwn v.node
    mine = hanging.is_mine look top top trees nodes shown are le txn f own draft p v here

    at_met : met p ≡ Some v.node
    at_met = hanging.met_own look top top trees nodes shown are le txn f own draft p v here

    abbrev Stands : PathName → NodeRev → Type 0
    Stands name u = Below look top top trees shown le txn f own draft p v here name u

    -- what stands there where nothing is the transaction's own
    shared : (name : PathName) (u : NodeRev) → own (p ++ name ∷ []) ≡ None → has_entry v.entries name ≡ true → Stands name u → met (p ++ name ∷ []) ≡ Some u
    shared name u none has at =
        placing.met_shared look top top trees nodes shown are le txn f own draft p v here name [] none
        ∙ ap (λ (b : Bool). cond b (placing.nodes_below look top top trees nodes shown are le txn f own draft p v (name ∷ [])) None) has
        ∙ ((hanging.hangs look top top trees nodes shown are le txn f own draft p v here).are (name ∷ []) u).1 at

    -- ---- a list of its own

    module _ (entries : List DirEntry) (listed : v.entries ≡ Some entries) where
      entry_of : (name : PathName) → IsEntryOf (Stands name) (named name entries) (head_at (own (p ++ name ∷ [])))
      entry_of name = heads look top top trees shown le txn f own draft p v here entries listed name

      has_is : (name : PathName) (o : Option DirEntry) → named name entries ≡ o → has_entry v.entries name ≡ is_some o
      has_is name o e = ap (λ (x : Option (List DirEntry)). has_entry x name) listed ∙ ap (λ (x : Option DirEntry). is_some x) e

      record Entry (name : PathName) (w : NodeRev) : Type 0 where
        entry : DirEntry
        found : named name entries ≡ Some entry
        id : entry.id ≡ w.id
        kind : entry.kind ≡ w.kind

      met_entry : (name : PathName) (w : NodeRev) → met (p ++ name ∷ []) ≡ Some w → Entry name w
      met_entry name w m = by (own (p ++ name ∷ [])) refl (named name entries) refl
        where
          by : (o : Option OwnNode) → own (p ++ name ∷ []) ≡ o → (x : Option DirEntry) → named name entries ≡ x → Entry name w
          by (Some z) there x is =
              let same : z.node ≡ w = some_same (met (p ++ name ∷ [])) z.node w (hanging.met_own look top top trees nodes shown are le txn f own draft (p ++ name ∷ []) z there) m in
              mine_entry x is (subst (λ (y : Option DirEntry). IsEntryOf (Stands name) y (head_at (Some z))) is (subst (λ (y : Option OwnNode). IsEntryOf (Stands name) (named name entries) (head_at y)) there (entry_of name))) same
            where
              mine_entry : (x : Option DirEntry) → named name entries ≡ x → IsEntryOf (Stands name) x (head_at (Some z)) → z.node ≡ w → Entry name w
              mine_entry None is h same = absurd h
              mine_entry (Some e) is h same = record { entry = e; found = is; id = h.0 ∙ ap (λ (y : NodeRev). y.id) same; kind = h.1 ∙ ap (λ (y : NodeRev). y.kind) same }
          by None there None is =
              let none : met (p ++ name ∷ []) ≡ None = placing.met_shared look top top trees nodes shown are le txn f own draft p v here name [] there
              ∙ ap (λ (b : Bool). cond b (placing.nodes_below look top top trees nodes shown are le txn f own draft p v (name ∷ [])) None) (has_is name None is) in
              absurd (let clash : None ≡ Some w = sym none ∙ m in cc)
          by None there (Some e) is =
              let h = subst (λ (y : Option DirEntry). IsEntryOf (Stands name) y (head_at None)) is (subst (λ (y : Option OwnNode). IsEntryOf (Stands name) (named name entries) (head_at y)) there (entry_of name)) in
              let same : h.0 ≡ w = some_same (met (p ++ name ∷ [])) h.0 w (shared name h.0 there (has_is name (Some e) is) h.1) m in
              record { entry = e; found = is; id = h.2 ∙ ap (λ (y : NodeRev). y.id) same; kind = h.3 ∙ ap (λ (y : NodeRev). y.kind) same }

      none_entry : (name : PathName) → met (p ++ name ∷ []) ≡ None → named name entries ≡ None
      none_entry name none = by (named name entries) refl (own (p ++ name ∷ [])) refl
        where
          by : (x : Option DirEntry) → named name entries ≡ x → (o : Option OwnNode) → own (p ++ name ∷ []) ≡ o → named name entries ≡ None
          by None is o there = is
          by (Some e) is (Some z) there =
              absurd (let clash : None ≡ Some z.node = sym none ∙ hanging.met_own look top top trees nodes shown are le txn f own draft (p ++ name ∷ []) z there in cc)
          by (Some e) is None there =
              let h = subst (λ (y : Option DirEntry). IsEntryOf (Stands name) y (head_at None)) is (subst (λ (y : Option OwnNode). IsEntryOf (Stands name) (named name entries) (head_at y)) there (entry_of name)) in
              absurd (let clash : None ≡ Some h.0 = sym none ∙ shared name h.0 there (has_is name (Some e) is) h.1 in cc)

      list : IsListPut n bytes laid p entries (put p v here).done
      list = (put p v here).list entries listed

      listed_mine : (name : PathName) (w : NodeRev) → met (p ++ name ∷ []) ≡ Some w → IsOwn w → LeadsTo name list.sorted (done (p ++ name ∷ [])).id w.kind
      listed_mine name w m own_w =
          let e = met_entry name w m in
          let a = alike_some laid p name (named name entries) (named name list.sorted) e.entry (list.alike name) e.found in
          let z = mine_at (p ++ name ∷ []) w m own_w in
          let own_id : is_revision_id e.entry.id ≡ false = ap is_revision_id (e.id ∙ ap (λ (y : NodeRev). y.id) (sym z.2)) ∙ not_of_revision z.0.node.id txn (draft.places (p ++ name ∷ []) z.0 z.1) in
          let to = a.2.mine own_id in
          (a.0, a.1, to.3 ∙ ap (λ (y : NodeRev). y.id) (sym (ap (node_in draft.root.node) to.2)), a.2.kind ∙ e.kind)

      listed_lasting : (name : PathName) (w : NodeRev) → met (p ++ name ∷ []) ≡ Some w → in_txn w.id.place ≡ false → LeadsTo name list.sorted w.id w.kind
      listed_lasting name w m plain =
          let e = met_entry name w m in
          let a = alike_some laid p name (named name entries) (named name list.sorted) e.entry (list.alike name) e.found in
          let s = hangs.lasting (p ++ name ∷ []) w m plain in
          let last : is_revision_id w.id ≡ true = lasting_id w (of_id_lasting look w.id w (stands_of_id look s.0 s.1 w s.3)) in
          (a.0, a.1, a.2.lasting (ap is_revision_id e.id ∙ last) ∙ e.id, a.2.kind ∙ e.kind)

      lists : Lists met done p list.sorted
      lists = record {
        none = λ name none. alike_none laid p name (named name entries) (named name list.sorted) (list.alike name) (none_entry name none);
        mine = listed_mine;
        lasting = listed_lasting;
      }

      pub written : Listed look n bytes met done p v.node
      written =
          Written list.has.rep (dump_text list.pairs) list.pairs list.sorted
          (ap (λ (y : NodeRev). y.text) (done_is p v here) ∙ list.has.there)
          (ap (λ (r : Option ℕ). unwrap_or r 0) list.has.rev_is)
          (loop_laws.rep_read bytes list.has.rep (dump_text list.pairs) list.has.framed)
          list.has.dump
          (subst (λ (y : NodeRev). AreEntries (offset_of y.id.place) list.pairs list.sorted) (sym (done_is p v here)) list.are)
          lists

    -- ---- no list of its own

    module _ (none : v.entries ≡ None) (dir : v.node.kind ≡ Dir) where
      no_own : (name : PathName) → own (p ++ name ∷ []) ≡ None
      no_own name = bare_dir look top top trees shown le txn f own draft p v here none name

      has : (name : PathName) → has_entry v.entries name ≡ true
      has name = ap (λ (o : Option (List DirEntry)). has_entry o name) none

      pub bare : v.node.predecessor ≡ None → Listed look n bytes met done p v.node
      bare first = Bare text nothing
        where
          text : (done p).text ≡ None
          text = ap (λ (y : NodeRev). y.text) (done_is p v here) ∙ subst (λ (c : Option Contents). IsTextKept n c (put p v here).done.text) ((files p v here).no_list dir first none) (put p v here).text

          no_copy : v.node.copy_from ≡ None
          no_copy = from_nothing look top v (above_at p own at_top) (λ r w. stands_at look p own (StandsAt look top) r w) (placing.comes look top top trees nodes shown are le txn f own draft p v here) first

          nothing : (name : PathName) → met (p ++ name ∷ []) ≡ None
          nothing name =
              placing.met_shared look top top trees nodes shown are le txn f own draft p v here name [] (no_own name)
              ∙ ap (λ (b : Bool). cond b (placing.nodes_below look top top trees nodes shown are le txn f own draft p v (name ∷ [])) None) (has name)
              ∙ (λ i. nodes_from nodes (no_copy i) (first i) (nodes_at nodes p own (nodes top)) (name ∷ []))

      pub inherited : (id : NodeId) → v.node.predecessor ≡ Some id → Listed look n bytes met done p v.node
      inherited id is =
          let r = ready look top top met le hangs p v.node at_met mine (λ lacks. (let g = sym lacks ∙ is in cc)) in
          let goes = hanging.goes look top top trees nodes shown are le txn f own draft p v here r.0 r.1 in
          let home = stands_home look r.2.0 r.2.1 r.0 r.2.3 in
          let w_dir : r.0.kind ≡ Dir = sym goes.0.kind ∙ dir in
          let same_text : v.node.text ≡ r.0.text = goes.1.entries none dir in
          let kept : (put p v here).done.text ≡ r.0.text = lasting_kept n r.0.text (put p v here).done.text (lasting_text r.0 (of_id_lasting look r.0.id r.0 (stands_of_id look r.2.0 r.2.1 r.0 r.2.3)))
          (subst (λ (c : Option Contents). IsTextKept n c (put p v here).done.text) same_text (put p v here).text) in
          let low : own_rev r.0 < n = omega (arith, home.1, r.2.2) in
          let place : offset_of (done p).id.place ≡ place_of n (put p v here).off = ap (λ (y : NodeRev). offset_of y.id.place) (done_is p v here) ∙ ap offset_of (put p v here).place in
          Inherited r.0 r.1 w_dir (ap (λ (y : NodeRev). y.text) (done_is p v here) ∙ kept)
          (ap (is_before (offset_of r.0.id.place).rev (offset_of r.0.id.place).offset) place ∙ earlier n (put p v here).off (offset_of r.0.id.place).rev (offset_of r.0.id.place).offset low)
          (λ name lacks. (let c = has_child look r.2.0 (trees r.2.0) r.2.1 r.0 name (shown r.2.0 r.2.2) r.2.3 w_dir in absent r.0 r.1 w_dir name lacks c.0 c.1))
          (λ name x m. (let plain = plain_below name x m in let o = hangs.older p name v.node x at_met mine m plain in
          (plain, subst (λ (y : NodeRev). ChildOf look y name (Ok (Some x))) (pred_same look v.node o.0 r.0 o.1 r.1) o.2)))
        where
          absent : (w : NodeRev) → IsPred look v.node w → w.kind ≡ Dir → (name : PathName) → met (p ++ name ∷ []) ≡ None → (o : Option NodeRev) → ChildOf look w name (Ok o) → ChildOf look w name (Ok None)
          absent w pred kind name lacks None c = c
          absent w pred kind name lacks (Some x) c =
              absurd (let clash : None ≡ Some x = sym lacks ∙ met_inherited look top top trees nodes shown are le txn f own draft p name v w x here (no_own name) (has name) pred kind c in cc)

          plain_below : (name : PathName) (x : NodeRev) → met (p ++ name ∷ []) ≡ Some x → in_txn x.id.place ≡ false
          plain_below name x m = elim (cases_Bool (in_txn x.id.place)) [
            | inl own_x ↦ absurd (let z = mine_at (p ++ name ∷ []) x m own_x in let clash : None ≡ Some z.0 = sym (no_own name) ∙ z.1 in cc)
            | inr plain ↦ plain
          ]

    pub dir_listed : v.node.kind ≡ Dir → Listed look n bytes met done p v.node
    dir_listed dir = by v.entries v.node.predecessor refl refl
      where
        by : (o : Option (List DirEntry)) (id : Option NodeId) → v.entries ≡ o → v.node.predecessor ≡ id → Listed look n bytes met done p v.node
        by (Some entries) id is pred = written entries is
        by None None is pred = bare is dir pred
        by None (Some id) is pred = inherited is dir id pred
