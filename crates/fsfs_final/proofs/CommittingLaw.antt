-- The whole chain of a commit.
use Rattle.fsfs_revision.proofs.Revisions.{shown_revisions}
use Rattle.std.proofs.Common.{◌≡◌, ◌∙◌, ◌≤◌, ◌<◌, ℕ, suc, Bool, true, false, ◌&&◌, List, [], ◌∷◌, ◌++◌, Option, Some, refl, sym, subst, arith}
use Rattle.std.specs.Prelude.{Ok, is_some, nat_le}
use Rattle.std.proofs.lemmas.Bool.{leb-true, and_from, and_parts, both_ways}
use Rattle.std.proofs.lemmas.Bool.Decides.{nat_tests}
use Rattle.fsfs_base.specs.Paths.{Path, covers}
use Rattle.fsfs_tree.specs.Nodes.{Node, TreeFunction}
use Rattle.fsfs_model.specs.declared.flat.mark.Mark.{Mark}
use Rattle.fsfs_model.specs.declared.flat.mark.What.TheVariants.{Make}
use Rattle.fsfs_model.specs.declared.flat.edit.Edit.{Edit}
use Rattle.fsfs_model.specs.declared.flat.edit.Edit.TheVariants.{MakeDir, MakeFile, Delete, Copy, PutText, SetProp}
use Rattle.fsfs_model.specs.Flat.Edits.{accepts, applied, mark_of, can_make, with_copy, kind_of_node}
use Rattle.fsfs_model.specs.Flat.Landing.{NoClash, land, reached}
use Rattle.fsfs_model.specs.Flat.Transactions.{IsTransaction, Begun, Edited, Landed}
use Rattle.fsfs_base.proofs.PathLemmas.{covers-trans, covers-longer}
use Rattle.fsfs_revision.specs.Told.{RevisionBytes}
use Rattle.fsfs_noderev.specs.declared.node_rev.NodeRev.{NodeRev}
use Rattle.fsfs_revision.specs.Shows.Reading.{StandsAt}
use Rattle.fsfs_revision.proofs.Walks.{child_stands}
use Rattle.fsfs_revision.specs.Ancestry.Trees.{ShowTrees}
use Rattle.fsfs_revision.specs.Ancestry.Bounded.{AreSameUpTo}
use Rattle.fsfs_revision.proofs.Behind.{shown_there}
use Rattle.fsfs_revision.proofs.Bounded.{back_same, stands_same_bytes, child_same, text_shown, props_same}
use Rattle.fsfs_revision.specs.Shows.Chains.{own_rev}
use Rattle.fsfs_revision.proofs.TreeLaw.{stands_home}
use Rattle.fsfs_merge.specs.declared.sight.Sight.{Sight}
use Rattle.fsfs_merge.specs.Walks.{merges, stays, down}
use Rattle.fsfs_draft.specs.OwnSides.{NodesAt, in_txn, AreNodesOf}
use Rattle.fsfs_merge.specs.MergeLaws.{IsMerge, is_merged, landed_nodes}
use Rattle.fsfs_merge.proofs.MergeLaw.{Way, Through, Stopped, way, keep, take_head, own_of, side}
use Rattle.fsfs_merge.proofs.Sides.{self}
use Rattle.fsfs_draft.specs.NodeDrafts.{IsDraft}
use Rattle.fsfs_final.specs.Directories.{HasAllBelow}
use Rattle.fsfs_final.specs.Begun.{IsFirstRoot, begun}
use Rattle.fsfs_final.specs.Bytes.{HoldsDraft}
use Rattle.fsfs_final.specs.Contents.{ReadsAs, LastingContents, OwnContents}
use Rattle.fsfs_final.specs.FittingChanges.{ChangesFit}
use Rattle.fsfs_final.specs.Commits.{with_next}
use Rattle.fsfs_final.specs.Committing.{HasDraft, Committing}
use Rattle.fsfs_draft.specs.Draws.{DrawsTree}
use Rattle.fsfs_final.proofs.Stays.{drafts_stay}
use Rattle.fsfs_final.proofs.BegunLaw.{begun_is_a_draft}
use Rattle.fsfs_merge.proofs.LandedDraft as drafted
use Rattle.fsfs_merge.proofs.LandedDraft.{merge_keeps_drafts}
use Rattle.fsfs_merge.proofs.LandedTree.{merge_keeps_trees}
use Rattle.fsfs_final.proofs.ContentsLaw.{content_laws}
use Rattle.fsfs_final.proofs.Written.{directories_are_enough}
use Rattle.fsfs_final.proofs.Held.{held_drafts_are_read}
use Rattle.fsfs_final.proofs.Commit.{commits_add_revisions}
use Rattle.fsfs_final.proofs.ChangesLaw.{changes_fit}
use Rattle.fsfs_final.proofs.ShowsLanded.{written_shows_landing}
use Rattle.fsfs_draft.proofs.HangLaw.{some_same}

module _ (look : RevisionBytes) (top : ℕ) (tree : ℕ → TreeFunction) (b h : ℕ) (t : TreeFunction) (marks : List Mark) (base head own : NodesAt) (see : Path → Sight)
    (is : IsMerge look top tree b h t marks base head own see) (clear : NoClash b (tree b) (tree h) t marks) (draft : IsDraft look top b own) (below : HasAllBelow look own) where
  pub all_below : HasAllBelow look (landed_nodes see head own)
  all_below p name d v e plain kind child = by (way see p)
    where
      longer : covers p (p ++ name ∷ []) ≡ true
      longer = covers-longer p (name ∷ [])

      taken : (q : Path) → covers q p ≡ true → reached (down see) q ≡ true → merges (see q) ≡ false → is_merged see p ≡ false → (s : Bool) → stays (see q) ≡ s → landed_nodes see head own (p ++ name ∷ []) ≡ Some v
      taken q c r m n true s =
          let c' = covers-trans q p (p ++ name ∷ []) c longer in
          let here = keep look top tree b h t marks base head own see is 0 clear p (own_of look top tree b h t marks base head own see is 0 clear p q c r m true s) n in
          let there = keep look top tree b h t marks base head own see is 0 clear (p ++ name ∷ []) (own_of look top tree b h t marks base head own see is 0 clear (p ++ name ∷ []) q c' r m true s)
          (drafted.not_merged look top tree b h t marks base head own see is clear draft q (p ++ name ∷ []) c' m) in
          there ∙ below p name d v (sym here ∙ e) plain kind child
      taken q c r m n false s =
          let c' = covers-trans q p (p ++ name ∷ []) c longer in
          let here = take_head look top tree b h t marks base head own see is 0 clear p (own_of look top tree b h t marks base head own see is 0 clear p q c r m false s) in
          let there = take_head look top tree b h t marks base head own see is 0 clear (p ++ name ∷ []) (own_of look top tree b h t marks base head own see is 0 clear (p ++ name ∷ []) q c' r m false s) in
          there ∙ (is.head_nodes.each (p ++ name ∷ []) v).1 (child_stands look h d v p name ((is.head_nodes.each p d).0 (sym here ∙ e)) kind child)

      by : Way see p → landed_nodes see head own (p ++ name ∷ []) ≡ Some v
      by (Through r m) =
          let w = drafted.merged look top tree b h t marks base head own see is clear draft p r m in
          let same = some_same (landed_nodes see head own p) (drafted.Linked w.v w.y) d w.now_is e in
          absurd (both_ways _ plain (subst (λ (z : NodeRev). in_txn z.id.place ≡ true) same w.linked.own))
      by (Stopped q c r m n) = taken q c r m n (stays (see q)) refl

merged : (look : RevisionBytes) (top : ℕ) (tree : ℕ → TreeFunction) (b h n k : ℕ) (t : TreeFunction) (marks : List Mark) (base head own : NodesAt) (see : Path → Sight)
    → IsMerge look top tree b h t marks base head own see → b < h → NoClash b (tree b) (tree h) t marks → HasDraft look top n b tree t marks base own
    → HasDraft look top n h tree (land (tree b) (tree h) t marks k) marks head (landed_nodes see head own)
merged look top tree b h n k t marks base head own see is less clear has = record {
  transaction = Landed b h k t marks has.transaction (omega (arith, less)) is.within clear;
  base_nodes = is.head_nodes;
  side = side look top tree b h t marks base head own see is 0 clear;
  draft = merge_keeps_drafts look top tree b h t marks base head own see is less clear has.draft;
  draws = merge_keeps_trees look top tree b h n k t marks base head own see is clear has.draft has.draws;
  contents = content_laws.merged look top tree b h k t marks base head own see is clear has.draws.kinds has.contents;
  below = all_below look top tree b h t marks base head own see is clear has.draft has.below;
}

adds : (look : RevisionBytes) (top : ℕ) (tree : ℕ → TreeFunction) (t : TreeFunction) (marks : List Mark) (base own : NodesAt) (bytes : List ℕ) (done : Path → NodeRev) (off : Path → ℕ)
    → ShowTrees look top tree → HasDraft look top (suc top) top tree t marks base own → HoldsDraft look (suc top) bytes own done off → OwnContents look (suc top) t own
    → ShowTrees look (suc top) (with_next tree top (land (tree top) (tree top) t marks (suc top))) × ChangesFit look (suc top) marks
adds look top tree t marks base own bytes done off shows has holds mine =
    let reads = held_drafts_are_read look top (suc top) bytes own done off has.draft holds in
    let written = directories_are_enough look top tree own done shows has.draft has.below reads in
    let contents = content_laws.read look top tree t marks own shows has.transaction has.draws written has.contents mine in
    let le : top ≤ top = omega arith in
    let clear = (self tree top top top t marks (shown_revisions look top tree shows) has.transaction le le).clear in (
      commits_add_revisions.plain look top tree t marks base own shows has.transaction has.base_nodes has.side has.draft has.draws written contents,
      changes_fit look top tree top t marks (shown_revisions look top tree shows) has.transaction le clear
          (written_shows_landing look top tree t marks base own shows has.transaction has.base_nodes has.side has.draft has.draws written contents),
    )

module _ (look : RevisionBytes) (top : ℕ) (tree : ℕ → TreeFunction) (b n : ℕ) (base : NodesAt) (x v : NodeRev)
    (shows : ShowTrees look top tree) (le : b ≤ top) (are : AreNodesOf look b base) (at : StandsAt look b [] x) (first : IsFirstRoot top x v) where
  root_own : (u : NodeRev) → Some v ≡ Some u → in_txn u.id.place ≡ false → ⊥
  root_own u e plain = both_ways _ plain (subst (λ (z : NodeRev). in_txn z.id.place ≡ true) (some_same (Some v) v u refl e) first.next.own)

  contents : LastingContents look (tree b) (begun base v)
  contents [] u m e plain f = absurd (root_own u e plain)
  contents (y ∷ p) u m e plain f =
      let s = shown_there look b (tree b) (shows.each b le) (y ∷ p) u ((are.each (y ∷ p) u).0 e) in
      let same : s.0 ≡ m = (let g = sym s.1 ∙ f in cc) in
      subst (λ (z : Node). ReadsAs look u z) same (λ k. s.2.text, s.2.properties)

  below : HasAllBelow look (begun base v)
  below [] name d u e plain kind child = absurd (root_own d e plain)
  below (y ∷ p) name d u e plain kind child = (are.each ((y ∷ p) ++ name ∷ []) u).1 (child_stands look b d u (y ∷ p) name ((are.each (y ∷ p) d).0 e) kind child)

  begins : HasDraft look top n b tree (tree b) [] base (begun base v)
  begins = record {
    transaction = Begun b le;
    base_nodes = are;
    side = begun_is_a_draft.side look top tree b base x v shows le are at first;
    draft = begun_is_a_draft.draft look top tree b base x v shows le are at first;
    draws = begun_is_a_draft.draws look top tree b n base x v shows le are at first;
    contents = contents;
    below = below;
  }

-- ---- while others commit

known : (tree : ℕ → TreeFunction) (last b : ℕ) (t : TreeFunction) (marks : List Mark) → IsTransaction tree last b t marks → b ≤ last
known tree last _ _ _ (Begun b le) = le
known tree last _ _ _ (Edited b t before edit was h) = known tree last b t before was
known tree last _ _ _ (Landed b h n t marks was le ge clear) = ge

test_le : (r m : ℕ) → r ≤ m → nat_le r m ≡ true
test_le r m le = grind (arith, nat_tests)

stay_edit : (tree next : ℕ → TreeFunction) (last more b : ℕ) (t : TreeFunction) (before : List Mark) → ((r : ℕ) → r ≤ last → next r ≡ tree r) → last ≤ more → IsTransaction next more b t before
    → (edit : Edit) → accepts edit tree last t ≡ true → IsTransaction next more b (applied edit tree t) (before ++ mark_of edit tree t ∷ [])
stay_edit tree next last more b t before same up was (MakeDir path) h = Edited b t before (MakeDir path) was h
stay_edit tree next last more b t before same up was (MakeFile path) h = Edited b t before (MakeFile path) was h
stay_edit tree next last more b t before same up was (Delete path) h = Edited b t before (Delete path) was h
stay_edit tree next last more b t before same up was (PutText path text) h = Edited b t before (PutText path text) was h
stay_edit tree next last more b t before same up was (SetProp path name value) h = Edited b t before (SetProp path name value) was h
stay_edit tree next last more b t before same up was (Copy rev from to) h =
    let ends = and_parts (can_make t to && nat_le rev last) (is_some (tree rev from)) h in
    let front = and_parts (can_make t to) (nat_le rev last) ends.0 in
    let le : rev ≤ last = leb-true rev last front.1 in
    let e : next rev ≡ tree rev = same rev le in
    let there : is_some (next rev from) ≡ true = subst (λ (z : TreeFunction). is_some (z from) ≡ true) (sym e) ends.1 in
    let can : can_make t to ≡ true = front.0 in
    let ok : accepts (Copy rev from to) next more t ≡ true = and_from _ _ (and_from _ _ can (test_le rev more (omega (arith, le, up)))) there in
    subst (λ (z : TreeFunction). IsTransaction next more b (with_copy t rev z from to) (before ++ record { path = to; kind = kind_of_node (z from); what = Make (Some (rev, from)) } ∷ [])) e
    (Edited b t before (Copy rev from to) was ok)

stay_txn : (tree next : ℕ → TreeFunction) (last more b : ℕ) (t : TreeFunction) (marks : List Mark) → ((r : ℕ) → r ≤ last → next r ≡ tree r) → last ≤ more → IsTransaction tree last b t marks → IsTransaction next more b t marks
stay_txn tree next last more _ _ _ same up (Begun b le) = subst (λ (z : TreeFunction). IsTransaction next more b z []) (same b le) (Begun b (omega (arith, le, up)))
stay_txn tree next last more _ _ _ same up (Edited b t before edit was h) = stay_edit tree next last more b t before same up (stay_txn tree next last more b t before same up was) edit h
stay_txn tree next last more _ _ _ same up (Landed b h n t marks was le ge clear) =
    let low : b ≤ last = omega (arith, le, ge) in
    let now : NoClash b (next b) (next h) t marks
    = subst (λ (z : TreeFunction). NoClash b z (next h) t marks) (sym (same b low)) (subst (λ (z : TreeFunction). NoClash b (tree b) z t marks) (sym (same h ge)) clear) in
    subst (λ (z : TreeFunction). IsTransaction next more h (land z (tree h) t marks n) marks) (same b low)
    (subst (λ (z : TreeFunction). IsTransaction next more h (land (next b) z t marks n) marks) (same h ge)
    (Landed b h n t marks (stay_txn tree next last more b t marks same up was) le (omega (arith, ge, up)) now))

stays_so : (look other : RevisionBytes) (top more n b : ℕ) (tree next : ℕ → TreeFunction) (t : TreeFunction) (marks : List Mark) (base own : NodesAt)
    → AreSameUpTo top look other → ((r : ℕ) → r ≤ top → next r ≡ tree r) → top ≤ more → HasDraft look top n b tree t marks base own → HasDraft other more n b next t marks base own
stays_so look other top more n b tree next t marks base own same trees up has =
    let low = known tree top b t marks has.transaction in
    let back = back_same top look other same in
    record {
      transaction = stay_txn tree next top more b t marks trees up has.transaction;
      base_nodes = record { each = λ p v. ((λ e. stands_same_bytes top look other same b low p v ((has.base_nodes.each p v).0 e)), (λ at. (has.base_nodes.each p v).1 (stands_same_bytes top other look back b low p v at))) };
      side = has.side;
      draft = drafts_stay look other top more b own same up low has.draft;
      draws = subst (λ (z : TreeFunction). DrawsTree n z t marks own) (sym (trees b low)) has.draws;
      contents = λ p u m e plain f.
          let l = has.draft.lasting p u e plain in
          let home = stands_home look l.0 l.1 u l.3 in
          let le : own_rev u ≤ top = omega (arith, home.1, l.2) in
          let w = has.contents p u m e plain f in
          ((λ k. text_shown top look other same u.kind u m.text home.0 le (w.0 k)), props_same top look other same u home.0 le (Ok m.properties) w.1);
      below = λ p name d v e plain kind child.
          let l = has.draft.lasting p d e plain in
          let home = stands_home look l.0 l.1 d l.3 in
          has.below p name d v e plain kind (child_same top other look back d name home.0 (omega (arith, home.1, l.2)) (Ok (Some v)) child);
    }

pub committing : Committing
committing = record { begins = begins; stays = stays_so; merged = merged; adds = adds }
