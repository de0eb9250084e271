-- The text behind the prototype file: a whole transaction that was put, its changed paths and the trailer.
use Rattle.std.proofs.Common.{◌≡◌, ◌∙◌, ◌+◌, ◌≤◌, ◌<◌, ℕ, suc, Bool, cond, List, [], ◌∷◌, ◌++◌, length, Option, Some, None, refl, sym, ap, subst, arith}
use Rattle.std.specs.Prelude.{Ok}
use Rattle.std.proofs.lemmas.List.{length-append}
use Rattle.std.proofs.lemmas.Option.{same_Some}
use Rattle.fsfs_base.specs.Paths.{Path}
use Rattle.fsfs_base.specs.declared.fields.txn_name.TxnName.{TxnName}
use Rattle.fsfs_tree.specs.Nodes.{TreeFunction, Content}
use Rattle.fsfs_model.specs.declared.flat.mark.Mark.{Mark}
use Rattle.fsfs_model.specs.Flat.Landing.{land}
use Rattle.fsfs_revision.specs.Told.{RevisionBytes}
use Rattle.fsfs_revision.specs.Ancestry.Bounded.{AreSameUpTo}
use Rattle.fsfs_revision.specs.Ancestry.Trees as trees_shown
use Rattle.fsfs_revision.proofs.Bounded.{back_same, stands_same_bytes, shows_same}
use Rattle.fsfs_revision.proofs.BoundedIds.{ids_same}
use Rattle.fsfs_revision.proofs.Revisions.{shown_revisions}
use Rattle.fsfs_noderev.specs.declared.changes.item.ChangeItem.{ChangeItem}
use Rattle.fsfs_noderev.specs.declared.node_id.NodeId.{NodeId}
use Rattle.fsfs_noderev.specs.declared.node_rev.NodeRev.{NodeRev}
use Rattle.fsfs_noderev.specs.declared.rep.Contents.{Contents}
use Rattle.fsfs_layout.specs.Hash.Dump.{dump_text}
use Rattle.fsfs_revision.specs.Shows.Reading.{Pairs, StandsAt, PropsOf}
use Rattle.fsfs_revision.specs.Shows.Shown.{IsTextOf, Shows}
use Rattle.fsfs_revision.specs.Shows.Chains.{own_rev}
use Rattle.fsfs_revision.proofs.TreeLaw.{stands_home}
use Rattle.fsfs_draft.specs.Own.{OwnNode, Own, draft_tree}
use Rattle.fsfs_draft.specs.Drafts.{Kept, Folder, IsDraft, ShowTrees, AreItemsOf, bare}
use Rattle.fsfs_draft.specs.OwnSides.{NodesAt}
use Rattle.fsfs_draft.specs.Met.{draft_nodes, AreNodes}
use Rattle.fsfs_draft.specs.NodeDrafts as nodewise
use Rattle.fsfs_draft.specs.Draws.{DrawsTree}
use Rattle.fsfs_draft.specs.Whole.{IsHanded}
use Rattle.fsfs_draft.proofs.AllLaw.{met_below}
use Rattle.fsfs_draft.proofs.HangLaw as hanging
use Rattle.fsfs_draft.proofs.HangLaw.{drafts_hang}
use Rattle.fsfs_draft.proofs.Placing as placing
use Rattle.fsfs_draft.proofs.StayLaw.{drafts_stay}
use Rattle.fsfs_draft.proofs.WholeLaw.{drafts_are_handed}
use Rattle.fsfs_merge.proofs.Sides.{self}
use Rattle.fsfs_merge.proofs.NodesOf.{nodes_of, are_nodes}
use Rattle.fsfs_final.specs.Contents.{LastingContents}
use Rattle.fsfs_final.specs.Directories.{HasAllBelow}
use Rattle.fsfs_final.specs.Final.{Finished, AsItWas, Done, IsWritten}
use Rattle.fsfs_final.specs.FittingChanges.{ChangesFit}
use Rattle.fsfs_final.specs.Laid.{Laid}
use Rattle.fsfs_final.specs.Shown.{ReadsContents}
use Rattle.fsfs_final.proofs.ChangesLaw.{changes_fit}
use Rattle.fsfs_final.proofs.ContentsLaw.{content_laws}
use Rattle.fsfs_final.proofs.Held.{held_drafts_are_read}
use Rattle.fsfs_final.proofs.KeepsIds.{written_keeps_ids}
use Rattle.fsfs_final.proofs.LaidLaw.{loop_laws, some_text}
use Rattle.fsfs_final.proofs.ShowsLanded.{written_shows_landing}
use Rattle.fsfs_final.proofs.Written.{directories_are_enough}
use Rattle.fsfs_final.specs.Pieces.Endings.{IsEndPut, IsEnded}
use Rattle.fsfs_final.specs.Pieces.Naming.{FinalIds}
use Rattle.fsfs_final.specs.Pieces.Nodes.{HasList}
use Rattle.fsfs_final.proofs.EndLaws.{put_ends_are_read}
use Rattle.fsfs_final.proofs.ListLaws.{behind, put_behind}
use Rattle.fsfs_final.specs.Order.Orders.{IsOrder}
use Rattle.fsfs_final.specs.Putting.{ArePut, no_ids}
use Rattle.fsfs_final.specs.Laying.{IsCommittable, IsPut, AreLaid}
use Rattle.fsfs_final.proofs.Turns.{puts_lay}
use Rattle.fsfs_commit.specs.FinalRev.FinalBytes.{IsFinalBytes, IsNextRevision}
use Rattle.fsfs_commit.specs.FinalRev.Items.{AreFinalItems}
use Rattle.fsfs_commit.specs.FinalRev.Texts.{IsHandedOver, IsFinalText, offset_in, root_at}
use Rattle.fsfs_commit.proofs.Bare.{same_bare}
use Rattle.fsfs_commit.proofs.Held as held
use Rattle.fsfs_commit.proofs.Holding.{off_in}
use Rattle.fsfs_commit.proofs.OnlyPut.{own_of_id}
use Rattle.fsfs_commit.proofs.Telling as telling

-- ---- what is laid stays laid

list_longer : (n : ℕ) (bytes more : List ℕ) (c : Option Contents) (pairs : Pairs) → HasList n bytes c pairs → HasList n (bytes ++ more) c pairs
list_longer n bytes more c pairs h = record {
  rep = h.rep;
  there = h.there;
  rev_is = h.rev_is;
  framed = loop_laws.framed_stays bytes more h.rep (dump_text pairs) h.framed;
  dump = h.dump;
}

put_longer : (n : ℕ) (bytes more : List ℕ) (laid : Laid) (ids : FinalIds) (p : Path) (v : OwnNode) → IsPut n bytes laid ids p v → IsPut n (bytes ++ more) laid ids p v
put_longer n bytes more laid ids p v is = record {
  off = is.off;
  done = is.done;
  path = is.path;
  at = is.at;
  id_is = is.id_is;
  place = is.place;
  final = is.final;
  text = is.text;
  list = λ entries e. (let l = is.list entries e in
      record { pairs = l.pairs; has = list_longer n bytes more is.done.text l.pairs l.has; sorted = l.sorted; are = l.are; alike = l.alike });
  set = λ pairs e. list_longer n bytes more is.done.props pairs (is.set pairs e);
}

laid_longer : (n : ℕ) (bytes more : List ℕ) (own : Own) (left : List Kept) (laid : Laid) (ids : FinalIds) → AreLaid n bytes own left laid ids → AreLaid n (bytes ++ more) own left laid ids
laid_longer n bytes more own left laid ids all = record {
  is_laid = loop_laws.stays n bytes more laid all.is_laid;
  order = all.order;
  each = λ p v here out. put_longer n bytes more laid ids p v (all.each p v here out);
}

-- ---- a transaction over bytes with one revision more

module _ (look : RevisionBytes) (trees : ℕ → TreeFunction) (top : ℕ) (txn : TxnName) (f : Folder) (tree : TreeFunction) (marks : List Mark) (rev start : ℕ) (items : List ChangeItem)
    (is : IsHandedOver look trees top txn f tree marks rev start items) where
  abbrev pub own : Own
  own = is.draft.shows.own

  abbrev draft : IsDraft look top top txn f own
  draft = is.draft.shows.is_draft

  abbrev nodes : ℕ → NodesAt
  nodes = nodes_of look top trees is.shows.each

  abbrev met : NodesAt
  met = draft_nodes nodes own (nodes top)

  le : top ≤ top
  le = omega arith

  abbrev committable : IsCommittable look trees top nodes txn f tree marks
  committable = record { shows = is.shows.each; youngest = is.youngest; are = are_nodes look top trees is.shows.each; draft = is.draft }

  handed : IsHanded look trees top top nodes own tree marks
  handed = drafts_are_handed.handed look trees top top nodes txn f tree marks is.shows.each committable.are le is.draft

  -- what was put
  module _ (ks : List Kept) (out : List ℕ) (ids : FinalIds) (order : IsOrder own ks) (put : ArePut (suc top) (length f.proto) ks [] no_ids out ids) where
    laid : (laid : Laid) × AreLaid (suc top) (f.proto ++ out) own [] laid ids
    laid = puts_lay look trees top nodes txn f tree marks committable ks [] out ids order put

    root : IsPut (suc top) (f.proto ++ out) laid.0 ids [] draft.root
    root = laid.1.each [] draft.root draft.root_is refl

    root_is : root_at (ids []) ≡ Some root.off
    root_is = ap root_at root.id_is ∙ ap offset_in root.place

    -- it has the root's id
    pub root_there : root_at (ids []) ≡ None → ⊥
    root_there none = let clash : None ≡ Some root.off = sym none ∙ root_is in cc

    module _ (text : List ℕ) (told : List ChangeItem) (offset : ℕ) (root_found : root_at (ids []) ≡ Some offset) (end : IsEndPut (length f.proto) out text offset told) (are_items : AreFinalItems txn items ids told) where
      at_root : offset ≡ root.off
      at_root = same_Some offset root.off (sym root_found ∙ root_is)

      offset_is : offset ≡ off_in (laid.0 [])
      offset_is = at_root ∙ sym (ap off_in root.at)

      root_within : offset < length f.proto + length out
      root_within =
          let placed = laid.1.is_laid.placed [] root.off root.done root.at in
          let some = some_text placed.text root.done placed.holds.is in
          omega (arith, at_root, behind (length f.proto) f.proto out refl, ap length placed.parts, length-append placed.front (placed.text ++ placed.back), length-append placed.text placed.back, placed.at, some)

      ended : IsEnded (f.proto ++ text) offset told
      ended = put_ends_are_read (length f.proto) offset f.proto out text told end refl root_within

      whole : (f.proto ++ out) ++ (end.text ++ end.line) ≡ f.proto ++ text
      whole = put_behind f.proto out text (end.text ++ end.line) end.added

      all_laid : AreLaid (suc top) (f.proto ++ text) own [] laid.0 ids
      all_laid = subst (λ (x : List ℕ). AreLaid (suc top) x own [] laid.0 ids) whole (laid_longer (suc top) (f.proto ++ out) (end.text ++ end.line) own [] laid.0 ids laid.1)

      module _ (other : RevisionBytes) (same : AreSameUpTo top look other) (now : other (suc top) ≡ Ok (f.proto ++ text)) where
        shown : ShowTrees other top trees
        shown r low = shows_same r look other (λ s below. same s (omega (arith, below, low))) (trees r) (is.shows.each r low)

        back : AreSameUpTo top other look
        back = back_same top look other same

        are : AreNodes other top nodes
        are r low = record {
          each = λ p v. ((λ e. stands_same_bytes top look other same r low p v (((committable.are r low).each p v).0 e)), (λ at. ((committable.are r low).each p v).1 (stands_same_bytes top other look back r low p v at)));
        }

        trees_there : trees_shown.ShowTrees other top trees
        trees_there = record { each = shown; ids = ids_same top look other same is.shows.ids }

        draft_there : IsDraft other top top txn f own
        draft_there = drafts_stay.draft look other trees trees top top top txn f own (record { youngest = is.youngest; above = le; same = same; same_trees = λ r low. refl }) le draft

        hangs : nodewise.IsDraft other top top met
        hangs = drafts_hang other top top trees nodes shown are le txn f own draft_there is.draft.files is.draft.once

        last : IsEnded (f.proto ++ text) (off_in (laid.0 [])) told
        last = subst (λ (o : ℕ). IsEnded (f.proto ++ text) o told) offset_is ended

        final : IsFinalBytes other (suc top) (f.proto ++ text) met tree
        final = held.final other trees top nodes shown are txn f own draft_there is.draft.files hangs (f.proto ++ text) laid.0 ids all_laid text now refl told last tree is.draft.shows.each

        id_there : (p : Path) (v : OwnNode) (w : NodeRev) → own p ≡ Some v → StandsAt other (suc top) p w → ids p ≡ Some w.id
        id_there p v w here at = held.id_there other trees top nodes shown are txn f own draft_there is.draft.files hangs (f.proto ++ text) laid.0 ids all_laid text now refl told last p v w here at

        -- ---- the tree

        -- what is below a directory of a revision is met
        below : HasAllBelow other met
        below p name d v here plain kind child = met_below other top top trees nodes shown are le txn f own draft_there p name d v here plain child kind

        -- what is of a revision reads as the transaction's tree has it
        lasting : LastingContents other tree met
        lasting p u n here plain stands =
            let l = hanging.lasts other top top trees nodes shown are le txn f own draft_there p u here plain in
            let k = (hanging.hangs other top top trees nodes shown are le txn f own draft_there l.a l.d l.here).agrees.shown (l.x ∷ l.rest) u l.stands in
            let there : draft_tree trees own (trees top) p ≡ Some k.0
            = ap (draft_tree trees own (trees top)) l.path
            ∙ placing.shown_shared other top top trees nodes shown are le txn f own draft_there l.a l.d l.here l.x l.rest l.none
            ∙ ap (λ (b : Bool). cond b (placing.tree_below other top top trees nodes shown are le txn f own draft_there l.a l.d (l.x ∷ l.rest)) None) l.has
            ∙ k.1 in
            let alike = same_bare n k.0 (sym (ap bare stands) ∙ is.draft.shows.each p ∙ ap bare there) in (
              λ file. subst (λ (c : Content). IsTextOf other u.kind u c) (sym alike.1) k.2.text,
              subst (λ (c : List (List ℕ × List ℕ)). PropsOf other u (Ok c)) (sym alike.2) k.2.properties,
            )

        written : IsWritten other (suc top) met
        written = directories_are_enough other top trees met final.done trees_there hangs below (held_drafts_are_read other top (suc top) (f.proto ++ text) met final.done final.off hangs final.holds)

        draws : DrawsTree (suc top) (trees top) tree marks met
        draws = handed.draws (suc top) (omega arith)

        contents : ReadsContents other (suc top) (land (trees top) (trees top) tree marks (suc top))
        contents = content_laws.read other top trees tree marks met trees_there is.edits draws written lasting final.contents

        landed : Shows other (suc top) (land (trees top) (trees top) tree marks (suc top))
        landed = written_shows_landing other top trees tree marks (nodes top) met trees_there is.edits (are top le) handed.side hangs draws written contents

        -- ---- the changed paths

        fit : ChangesFit other (suc top) marks
        fit =
            let revisions = shown_revisions other top trees trees_there in
            changes_fit other top trees top tree marks revisions is.edits le (self trees top top top tree marks revisions is.edits le le).clear landed

        known : (p : Path) (id : NodeId) (v : NodeRev) → ids p ≡ Some id → StandsAt other (suc top) p v → id ≡ v.id
        known p id v e at =
            let w = own_of_id own (suc top) (length f.proto) ks out ids order.order put p id e in
            same_Some id v.id (sym e ∙ id_there p w.0 v w.1 at)

        -- what is of the revision is the transaction's own
        here : (p : Path) (v : NodeRev) → StandsAt other (suc top) p v → own_rev v ≡ suc top → ids p ≡ Some v.id
        here p v at new = let w = written.only p v at in by w.0 w.1 w.2
          where
            by : (u : NodeRev) → met p ≡ Some u → Finished (suc top) u v → ids p ≡ Some v.id
            by u e (AsItWas plain as_it_was) =
                let l = hangs.lasting p u e plain in
                let home = stands_home other l.0 l.1 u l.3 in
                let low : own_rev u ≤ top = omega (arith, home.1, l.2) in
                let late : own_rev u ≡ suc top = ap own_rev (sym as_it_was) ∙ new in
                absurd (omega (arith, low, late))
            by u e (Done mine done) =
                let d = held.mine_at other trees top nodes shown are txn f own draft_there is.draft.files hangs (f.proto ++ text) laid.0 ids all_laid text now refl p u e mine in
                id_there p d.0 v d.1 at

        of_marks : AreItemsOf items marks
        of_marks = subst (λ (l : List ChangeItem). AreItemsOf l marks) (sym is.items_are) is.draft.shows.items

        next_there : IsNextRevision other trees top tree marks items (f.proto ++ text)
        next_there = record {
          shows = landed;
          ids = written_keeps_ids other top met trees_there.ids hangs written;
          tells = telling.tells txn items ids told are_items marks of_marks other (suc top) (f.proto ++ text) last.has fit known here;
          changes = telling.changes_are txn items ids told are_items marks of_marks other (suc top) (f.proto ++ text) last.has fit known;
        }

      pub text_final : IsFinalText look trees top f.proto tree marks items text
      text_final other same now = next_there other same now

-- the parts as they were put, with the numbers that were handed over
pub put_as : (rev start n long : ℕ) (ks : List Kept) (old out : List ℕ) (ids : FinalIds) → rev ≡ n → start ≡ long → old ≡ [] → ArePut rev start ks old no_ids out ids → ArePut n long ks [] no_ids out ids
put_as rev start n long ks old out ids r s e put =
    subst (λ (k : ℕ). ArePut k long ks [] no_ids out ids) r (subst (λ (k : ℕ). ArePut rev k ks [] no_ids out ids) s (subst (λ (l : List ℕ). ArePut rev start ks l no_ids out ids) e put))
