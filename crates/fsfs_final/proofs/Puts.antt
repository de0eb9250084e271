-- One of a whole draft's own node-revisions is put, behind what is in it.
use Rattle.std.proofs.Common.{◌≡◌, ◌∙◌, ◌+◌, ◌≤◌, ◌<◌, ℕ, suc, Bool, true, false, cond, List, [], ◌∷◌, ◌++◌, map, length, Option, Some, None, refl, sym, ap, subst, arith}
use Rattle.std.specs.Prelude.{option_map, is_some, unwrap_or, if◌then◌else◌}
use Rattle.std.proofs.lemmas.List.{length-append}
use Rattle.std.proofs.lemmas.Bool.{false_from_ne_true}
use Rattle.fsfs_base.specs.Paths.{PathName, Path, same_path}
use Rattle.fsfs_base.proofs.PathLemmas.{same_path-is, same_path-refl}
use Rattle.fsfs_base.specs.declared.fields.txn_name.TxnName.{TxnName}
use Rattle.fsfs_tree.specs.Nodes.{TreeFunction}
use Rattle.fsfs_model.specs.declared.flat.mark.Mark.{Mark}
use Rattle.fsfs_revision.specs.Told.{RevisionBytes}
use Rattle.fsfs_revision.specs.declared.damage.RevOffset.{RevOffset}
use Rattle.fsfs_revision.specs.Damage.Damages.{place_of}
use Rattle.fsfs_noderev.specs.declared.node_id.NodeId.{NodeId}
use Rattle.fsfs_noderev.specs.declared.node_id.Place.{Place}
use Rattle.fsfs_noderev.specs.declared.node_id.Place.TheVariants as places
use Rattle.fsfs_noderev.specs.declared.rep.Contents.{Contents}
use Rattle.fsfs_noderev.specs.declared.rep.Contents.TheVariants as contents
use Rattle.fsfs_noderev.specs.declared.node_rev.NodeRev.{NodeRev}
use Rattle.fsfs_layout.specs.Hash.Dump.{dump_text}
use Rattle.fsfs_revision.specs.Nodes.{is_revision_id, is_revision_place, place_before}
use Rattle.fsfs_revision.specs.Shows.Reading.{Pairs, DirEntry, IsEntryName, named, offset_of}
use Rattle.fsfs_revision.proofs.TreeLaw.{stands_home}
use Rattle.fsfs_draft.specs.Own.{OwnNode, Own, has_entry}
use Rattle.fsfs_draft.specs.Rules.{head_at, IsEntryOf}
use Rattle.fsfs_draft.specs.Drafts.{Kept, Folder, kept_of, IsDraft}
use Rattle.fsfs_draft.specs.OwnSides.{NodesAt}
use Rattle.fsfs_draft.specs.Met.{draft_nodes}
use Rattle.fsfs_draft.specs.NodeDrafts.{IsOwn}
use Rattle.fsfs_draft.specs.NodeDrafts as nodewise
use Rattle.fsfs_draft.proofs.HangLaw as hanging
use Rattle.fsfs_draft.proofs.Placing as placing
use Rattle.fsfs_draft.proofs.WholeLaw.{drafts_are_handed}
use Rattle.fsfs_draft.proofs.OwnEntries.{lasting_parts}
use Rattle.fsfs_final.specs.Laid.{Laid, with_laid, IsFramed}
use Rattle.fsfs_final.proofs.LaidLaw.{loop_laws}
use Rattle.fsfs_final.specs.Pieces.Lists.{list_of}
use Rattle.fsfs_final.specs.Pieces.Naming.{FinalIds, final_id, final_entry}
use Rattle.fsfs_final.specs.Pieces.Nodes.{HasTextBefore, HasList, IsNodeLaid}
use Rattle.fsfs_final.proofs.ListLaws.{behind, put_behind}
use Rattle.fsfs_final.proofs.NodeLaws.{put_nodes_are_laid}
use Rattle.fsfs_final.proofs.TextsLaw.{draft_texts_stand_before}
use Rattle.fsfs_final.specs.Order.Orders.{path_of, is_in}
use Rattle.fsfs_final.specs.Order.Children.{id_named}
use Rattle.fsfs_final.proofs.OrderLists.{differ, not_itself, in_front, in_none, out_of}
use Rattle.fsfs_final.proofs.OwnChildren.{Below, not_of_revision, heads, lasting, child_own}
use Rattle.fsfs_final.proofs.Walking.{parent_in}
use Rattle.fsfs_final.specs.Putting.{AreUtf8, AreFinalPairs, IsNextPut}
use Rattle.fsfs_final.specs.Laying.{IsCommittable, LeadAlike, IsListPut, IsPut, AreLaid}
use Rattle.fsfs_final.proofs.ReadNames.{read_name}
use Rattle.fsfs_final.proofs.NameLemmas.{last_name, named_name, named_final, final_revision, plain_place, earlier_offset, earlier_place, list_grows, text_kept, node_grown, mid_within}
use Rattle.fsfs_dag.specs.Entries.{MayStand, ListsEntries}

-- the pairs of a list that was made
record IsListed (ids : FinalIds) (dir : Path) (entries : List DirEntry) (list : Option Pairs) : Type 0 where
  pairs : Pairs
  is : list ≡ Some pairs
  lists : ListsEntries (map (final_entry ids dir) entries) pairs
  utf8 : AreUtf8 entries

listed_in : (ids : FinalIds) (dir : Path) (o : Option (List DirEntry)) (entries : List DirEntry) (list : Option Pairs) → o ≡ Some entries → AreFinalPairs ids dir o list → IsListed ids dir entries list
listed_in ids dir None entries list is w = absurd (let clash : None ≡ Some entries = is in cc)
listed_in ids dir (Some es) entries None is w = absurd w
listed_in ids dir (Some es) entries (Some pairs) is w =
    let same : es ≡ entries = (let g = is in cc) in
    record {
      pairs = pairs;
      is = refl;
      lists = subst (λ (x : List DirEntry). ListsEntries (map (final_entry ids dir) x) pairs) same w.0;
      utf8 = subst AreUtf8 same w.1;
    }

module _ (look : RevisionBytes) (trees : ℕ → TreeFunction) (top : ℕ) (nodes : ℕ → NodesAt) (txn : TxnName) (f : Folder) (tree : TreeFunction) (marks : List Mark) (is : IsCommittable look trees top nodes txn f tree marks) where
  abbrev pub own : Own
  own = is.draft.shows.own

  abbrev met : NodesAt
  met = draft_nodes nodes own (nodes top)

  abbrev draft : IsDraft look top top txn f own
  draft = is.draft.shows.is_draft

  abbrev n : ℕ
  n = suc top

  le : top ≤ top
  le = omega arith

  hangs : nodewise.IsDraft look top top met
  hangs = (drafts_are_handed.handed look trees top top nodes txn f tree marks is.shows is.are le is.draft).hangs

  -- ---- in an own directory

  module _ (p : Path) (v : OwnNode) (here : own p ≡ Some v) where
    mine : IsOwn v.node
    mine = hanging.is_mine look top top trees nodes is.shows is.are le txn f own draft p v here

    at_met : met p ≡ Some v.node
    at_met = hanging.met_own look top top trees nodes is.shows is.are le txn f own draft p v here

    -- what an id of a revision leads to
    record LastsAt (name : PathName) (e : DirEntry) : Type 0 where
      node : NodeRev
      id : e.id ≡ node.id
      met_is : met (p ++ name ∷ []) ≡ Some node
      lasts : is_revision_id node.id ≡ true

    lasts_at : (entries : List DirEntry) → v.entries ≡ Some entries → (name : PathName) (e : DirEntry) → named name entries ≡ Some e → is_revision_id e.id ≡ true → LastsAt name e
    lasts_at entries listed name e found last =
        by (own (p ++ name ∷ [])) refl
        (subst (λ (o : Option DirEntry). IsEntryOf (Below look top top trees is.shows le txn f own draft p v here name) o (head_at (own (p ++ name ∷ [])))) found (heads look top top trees is.shows le txn f own draft p v here entries listed name))
      where
        has : has_entry v.entries name ≡ true
        has = ap (λ (o : Option (List DirEntry)). has_entry o name) listed ∙ ap (λ (o : Option DirEntry). is_some o) found

        by : (o : Option OwnNode) → own (p ++ name ∷ []) ≡ o → IsEntryOf (Below look top top trees is.shows le txn f own draft p v here name) (Some e) (head_at o) → LastsAt name e
        by (Some w) there h =
            absurd (differ (is_revision_id e.id) last (ap is_revision_id h.0 ∙ not_of_revision w.node.id txn (draft.places (p ++ name ∷ []) w there)))
        by None there h = record {
          node = h.0;
          id = h.2;
          met_is = placing.met_shared look top top trees nodes is.shows is.are le txn f own draft p v here name [] there
              ∙ ap (λ (b : Bool). cond b (placing.nodes_below look top top trees nodes is.shows is.are le txn f own draft p v (name ∷ [])) None) has
              ∙ ((hanging.hangs look top top trees nodes is.shows is.are le txn f own draft p v here).are (name ∷ []) h.0).1 h.1;
          lasts = lasting look top top trees is.shows le txn f own draft p v here name h.0 h.1;
        }

    lasting_place : (name : PathName) (e : DirEntry) → LastsAt name e → is_revision_place e.id.place ≡ true
    lasting_place name e l = (lasting_parts e.id (ap is_revision_id l.id ∙ l.lasts)).place

    lasting_name : (name : PathName) (e : DirEntry) → LastsAt name e → IsEntryName name
    lasting_name name e l =
        let o = hangs.older p name v.node l.node at_met mine l.met_is (plain_place l.node.id.place (lasting_parts l.node.id l.lasts).place) in
        read_name look o.0 l.node name o.2

    lasting_before : (name : PathName) (e : DirEntry) → LastsAt name e → (off : ℕ) → place_before (place_of n off) e.id.place ≡ true
    lasting_before name e l off =
        let s = hangs.lasting (p ++ name ∷ []) l.node l.met_is (plain_place l.node.id.place (lasting_parts l.node.id l.lasts).place) in
        let home = stands_home look s.0 s.1 l.node s.3 in
        earlier_place n off e.id.place (lasting_place name e l) (subst (λ (x : NodeId). (offset_of x.place).rev < n) (sym l.id) (omega (arith, home.1, s.2)))

  -- ---- it is put

  module _ (v : OwnNode) (ks : List Kept) (old new : List ℕ) (laid : Laid) (ids now : FinalIds) (here : own v.node.created_path ≡ Some v)
      (w : AreLaid n (f.proto ++ old) own (kept_of v ∷ ks) laid ids) (step : IsNextPut n (length f.proto) old new (kept_of v) ids now) where
    abbrev p : Path
    p = v.node.created_path

    text_before : HasTextBefore n (length f.proto) v.node.text
    text_before = draft_texts_stand_before look trees top nodes txn f tree marks is.shows is.are is.youngest is.draft p v here

    node : IsNodeLaid n (f.proto ++ new) laid p v.node step.list v.props step.done
    node = put_nodes_are_laid look top (length f.proto) met p f.proto old new laid v.node step.done step.list v.props hangs (at_met p v here) (mine p v here) refl text_before w.is_laid step.put

    abbrev laid_now : Laid
    laid_now = with_laid laid p node.off step.done

    more : (more : List ℕ) × (new ≡ old ++ more)
    more = node_grown n (length f.proto) old new v.node step.list v.props step.done step.put

    list_stays : (d : Option Contents) (pairs : Pairs) → HasList n (f.proto ++ old) d pairs → HasList n (f.proto ++ new) d pairs
    list_stays d pairs h = record {
      rep = h.rep;
      there = h.there;
      rev_is = h.rev_is;
      framed = subst (λ (x : List ℕ). IsFramed x h.rep (dump_text pairs)) (put_behind f.proto old new more.0 more.1) (loop_laws.framed_stays (f.proto ++ old) more.0 h.rep (dump_text pairs) h.framed);
      dump = h.dump;
    }

    -- what is laid elsewhere
    laid_other : (q : Path) → (p ≡ q → ⊥) → laid_now q ≡ laid q
    laid_other q other = ap (λ (b : Bool). if b then Some (node.off, step.done) else laid q) (false_from_ne_true (same_path q p) (λ e. other (sym (same_path-is q p e))))

    ids_other : (q : Path) → (p ≡ q → ⊥) → now q ≡ ids q
    ids_other q other = step.noted q ∙ ap (λ (b : Bool). if b then Some step.done.id else ids q) (false_from_ne_true (same_path p q) (λ e. other (same_path-is p q e)))

    laid_here : laid_now p ≡ Some (node.off, step.done)
    laid_here = ap (λ (b : Bool). if b then Some (node.off, step.done) else laid p) (same_path-refl p)

    ids_here : now p ≡ Some step.done.id
    ids_here = step.noted p ∙ ap (λ (b : Bool). if b then Some step.done.id else ids p) (same_path-refl p)

    -- ---- the others stay

    module _ (q : Path) (z : OwnNode) (out : is_in (kept_of v ∷ ks) q ≡ false) (was : IsPut n (f.proto ++ old) laid ids q z) where
      not_above : (name : PathName) → p ≡ q ++ name ∷ [] → ⊥
      not_above name e = differ (is_in (kept_of v ∷ ks) q) (parent_in own (kept_of v ∷ ks) w.order q name (in_front (kept_of v) ks (q ++ name ∷ []) e)) out

      leads_stay : (name : PathName) (a b : Option DirEntry) → LeadAlike laid q name a b → LeadAlike laid_now q name a b
      leads_stay name None None h = tt
      leads_stay name None (Some y) h = absurd h
      leads_stay name (Some x) None h = absurd h
      leads_stay name (Some x) (Some y) h = record {
        kind = h.kind;
        lasting = h.lasting;
        mine = λ own_id. (let m = h.mine own_id in (m.0, m.1, laid_other (q ++ name ∷ []) (not_above name) ∙ m.2, m.3));
      }

      entries_stay : (entries : List DirEntry) → IsListPut n (f.proto ++ old) laid q entries was.done → IsListPut n (f.proto ++ new) laid_now q entries was.done
      entries_stay entries l = record {
        pairs = l.pairs;
        has = list_stays was.done.text l.pairs l.has;
        sorted = l.sorted;
        are = l.are;
        alike = λ name. leads_stay name (named name entries) (named name l.sorted) (l.alike name);
      }

      other_path : p ≡ q → ⊥
      other_path = (in_none (kept_of v) ks q out).0

      stays : IsPut n (f.proto ++ new) laid_now now q z
      stays = record {
        off = was.off;
        done = was.done;
        path = was.path;
        at = laid_other q other_path ∙ was.at;
        id_is = ids_other q other_path ∙ was.id_is;
        place = was.place;
        final = was.final;
        text = was.text;
        list = λ entries e. entries_stay entries (was.list entries e);
        set = λ pairs e. list_stays was.done.props pairs (was.set pairs e);
      }

    -- ---- what is in it was put before

    child_out : (name : PathName) → is_in (kept_of v ∷ ks) (p ++ name ∷ []) ≡ false
    child_out name =
        out_of (kept_of v) ks (p ++ name ∷ []) (not_itself p name)
        (false_from_ne_true (is_in ks (p ++ name ∷ [])) (λ h. differ (is_in ks p) (parent_in own ks w.order.3 p name h) w.order.1))

    child_put : (name : PathName) (z : OwnNode) → own (p ++ name ∷ []) ≡ Some z → IsPut n (f.proto ++ old) laid ids (p ++ name ∷ []) z
    child_put name z at = w.each (p ++ name ∷ []) z at (child_out name)

    -- ---- its list

    module _ (entries : List DirEntry) (listed : v.entries ≡ Some entries) where
      own_text : v.node.text ≡ Some contents.Own
      own_text = (is.draft.files p v here).list entries listed

      l : IsListed ids p entries step.list
      l = listed_in ids p v.entries entries step.list listed step.listed

      off_is : node.off ≡ length f.proto + length step.put.front
      off_is =
          let both : places.At n node.off ≡ places.At n (length f.proto + length step.put.front) = sym node.place ∙ ap (λ (x : NodeRev). x.id.place) step.put.finished in
          cc

      child_before : (name : PathName) (z : OwnNode) (c : IsPut n (f.proto ++ old) laid ids (p ++ name ∷ []) z) → c.off < node.off
      child_before name z c =
          let placed = w.is_laid.placed (p ++ name ∷ []) c.off c.done c.at in
          let low : c.off ≤ length (f.proto ++ old) = omega (arith, ap length placed.parts, length-append placed.front (placed.text ++ placed.back), placed.at) in
          let grows = list_grows n (length f.proto) old step.put.mid v.node.text step.list step.done.text step.put.text_put own_text in
          let within = mid_within n (length f.proto) old new v.node step.list v.props step.done step.put in
          omega (arith, low, behind (length f.proto) f.proto old refl, grows, within, off_is)

      home : offset_of step.done.id.place ≡ place_of n node.off
      home = ap offset_of node.place

      -- an entry of the transaction's own
      record OwnAt (name : PathName) (e : DirEntry) : Type 0 where
        node_at : OwnNode
        there : own (p ++ name ∷ []) ≡ Some node_at
        put : IsPut n (f.proto ++ old) laid ids (p ++ name ∷ []) node_at
        id : final_id ids p e ≡ put.done.id

      own_at : (name : PathName) (e : DirEntry) → named name entries ≡ Some e → is_revision_id e.id ≡ false → OwnAt name e
      own_at name e found mine_id =
          let named_id : id_named v.entries name ≡ Some e.id = ap (λ (o : Option (List DirEntry)). id_named o name) listed ∙ ap (option_map (λ (x : DirEntry). x.id)) found in
          let c = child_own look top top trees is.shows le txn f own draft p v here name e.id named_id mine_id in
          let put = child_put name c.0 c.1 in
          record {
            node_at = c.0;
            there = c.1;
            put = put;
            id = ap (λ (b : Bool). if b then e.id else unwrap_or (ids (p ++ e.name ∷ [])) e.id) mine_id
                ∙ ap (λ (m : PathName). unwrap_or (ids (p ++ m ∷ [])) e.id) (named_name name entries e found)
                ∙ ap (λ (o : Option NodeId). unwrap_or o e.id) put.id_is;
          }

      lasting_id_is : (e : DirEntry) → is_revision_id e.id ≡ true → final_id ids p e ≡ e.id
      lasting_id_is e last = ap (λ (b : Bool). if b then e.id else unwrap_or (ids (p ++ e.name ∷ [])) e.id) last

      may_stand_at : (name : PathName) (e : DirEntry) → named name entries ≡ Some e → (b : Bool) → is_revision_id e.id ≡ b → MayStand (place_of n node.off) (final_entry ids p e)
      may_stand_at name e found true last =
          let s = lasts_at p v here entries listed name e found last in
          record {
            name_is = subst IsEntryName (sym (named_name name entries e found)) (lasting_name p v here name e s);
            lasting = ap is_revision_id (lasting_id_is e last) ∙ last;
            before = ap (λ (x : NodeId). place_before (place_of n node.off) x.place) (lasting_id_is e last) ∙ lasting_before p v here name e s node.off;
          }
      may_stand_at name e found false mine_id =
          let c = own_at name e found mine_id in
          let fin = c.put.final in
          record {
            name_is = subst IsEntryName (sym (named_name name entries e found)) (record { name_is = last_name p name c.put.path.names; utf8 = l.utf8 name e found });
            lasting = ap is_revision_id c.id ∙ final_revision n c.put.off c.put.done.id c.node_at.node.id.node c.node_at.node.id.copy fin.node fin.copy c.put.place;
            before = ap (λ (x : NodeId). place_before (place_of n node.off) x.place) c.id
                ∙ ap (λ (x : Place). place_before (place_of n node.off) x) c.put.place
                ∙ earlier_offset n c.put.off node.off (child_before name c.node_at c.put);
          }

      may_stand : (name : PathName) (x : DirEntry) → named name (map (final_entry ids p) entries) ≡ Some x → MayStand (offset_of step.done.id.place) x
      may_stand name x found = by (named name entries) refl (sym (named_final ids p name entries) ∙ found)
        where
          by : (o : Option DirEntry) → named name entries ≡ o → option_map (final_entry ids p) o ≡ Some x → MayStand (offset_of step.done.id.place) x
          by None e g = absurd (let clash : None ≡ Some x = g in cc)
          by (Some y) e g =
              let same : final_entry ids p y ≡ x = (let k = g in cc) in
              subst (λ (z : DirEntry). MayStand (offset_of step.done.id.place) z) same
              (subst (λ (o : RevOffset). MayStand o (final_entry ids p y)) (sym home) (may_stand_at name y e (is_revision_id y.id) refl))

      leads : (name : PathName) (o : Option DirEntry) → named name entries ≡ o → LeadAlike laid_now p name o (option_map (final_entry ids p) o)
      leads name None e = tt
      leads name (Some y) e = record {
        kind = refl;
        lasting = lasting_id_is y;
        mine = λ own_id. (let c = own_at name y e own_id in (c.put.off, c.put.done, laid_other (p ++ name ∷ []) (not_itself p name) ∙ c.put.at, c.id));
      }

      list_put : IsListPut n (f.proto ++ new) laid_now p entries step.done
      list_put = record {
        pairs = l.pairs;
        has = subst (λ (o : Option Pairs). HasList n (f.proto ++ new) step.done.text (list_of o)) l.is (node.lists own_text);
        sorted = l.lists.sorted;
        are = l.lists.are (offset_of step.done.id.place) may_stand;
        alike = λ name. subst (λ (o : Option DirEntry). LeadAlike laid_now p name (named name entries) o) (sym (l.lists.same name ∙ named_final ids p name entries)) (leads name (named name entries) refl);
      }

    put_here : IsPut n (f.proto ++ new) laid_now now p v
    put_here = record {
      off = node.off;
      done = step.done;
      path = step.within.created_path;
      at = laid_here;
      id_is = ids_here;
      place = node.place;
      final = node.final;
      text = text_kept n (length f.proto) old step.put.mid v.node.text step.list step.done.text step.put.text_put;
      list = list_put;
      set = λ pairs e. subst (λ (o : Option Pairs). HasList n (f.proto ++ new) step.done.props (list_of o)) e (node.sets ((is.draft.files p v here).set pairs e));
    }

    put_at : (q : Path) (z : OwnNode) → own q ≡ Some z → is_in ks q ≡ false → (b : Bool) → same_path p q ≡ b → IsPut n (f.proto ++ new) laid_now now q z
    put_at q z at out true same =
        let e : p ≡ q = same_path-is p q same in
        let both : Some v ≡ Some z = sym here ∙ ap own e ∙ at in
        let is_v : v ≡ z = (let g = both in cc) in
        subst (λ (x : OwnNode). IsPut n (f.proto ++ new) laid_now now q x) is_v (subst (λ (x : Path). IsPut n (f.proto ++ new) laid_now now x v) e put_here)
    put_at q z at out false same =
        let still = out_of (kept_of v) ks q (λ e. differ (same_path p q) (subst (λ (x : Path). same_path p x ≡ true) e (same_path-refl p)) same) out in
        stays q z still (w.each q z at still)

    laid_on : AreLaid n (f.proto ++ new) own ks laid_now now
    laid_on = record {
      is_laid = node.placed;
      order = w.order.3;
      each = λ q z at out. put_at q z at out (same_path p q) refl;
    }

  pub puts_on : (k : Kept) (ks : List Kept) (old new : List ℕ) (laid : Laid) (ids now : FinalIds) → AreLaid n (f.proto ++ old) own (k ∷ ks) laid ids → IsNextPut n (length f.proto) old new k ids now
      → (later : Laid) × AreLaid n (f.proto ++ new) own ks later now
  puts_on k ks old new laid ids now w step =
      let v = w.order.0.0 in
      let same : kept_of v ≡ k = w.order.0.2 in
      let here : own v.node.created_path ≡ Some v = ap (λ (x : Kept). own (path_of x)) same ∙ w.order.0.1 in
      let w_v : AreLaid n (f.proto ++ old) own (kept_of v ∷ ks) laid ids = subst (λ (x : Kept). AreLaid n (f.proto ++ old) own (x ∷ ks) laid ids) (sym same) w in
      let step_v : IsNextPut n (length f.proto) old new (kept_of v) ids now = subst (λ (x : Kept). IsNextPut n (length f.proto) old new x ids now) (sym same) step in
      (laid_now v ks old new laid ids now here w_v step_v, laid_on v ks old new laid ids now here w_v step_v)
