-- What the new revision's node-revisions read as, from what the draft's do.
use Rattle.fsfs_revision.proofs.Revisions.{shown_revisions}
use Rattle.std.proofs.Common.{◌≡◌, ◌∙◌, ◌≤◌, ℕ, suc, Bool, true, false, cond, if◌then◌else◌, not, List, [], ◌++◌, Option, Some, None, refl, sym, ap, subst, arith, inl, inr}
use Rattle.std.specs.Prelude.{Ok, is_some}
use mathlib.Core.Bool.{false≢true}
use Rattle.fsfs_model.specs.declared.flat.edit.Edit.{Edit}
use Rattle.fsfs_model.specs.declared.flat.edit.Edit.TheVariants.{MakeDir, MakeFile, Delete, Copy, PutText, SetProp}
use Rattle.fsfs_model.specs.declared.flat.mark.Mark.{Mark}
use Rattle.fsfs_base.specs.declared.kind.Kind.{Kind}
use Rattle.fsfs_base.specs.declared.kind.Kind.TheVariants.{File, Dir}
use Rattle.fsfs_base.specs.Paths.{Path, covers, same_path}
use Rattle.fsfs_tree.specs.Nodes.{Node, TreeFunction, Bytes, empty_node}
use Rattle.fsfs_model.specs.Flat.Marks.{effects}
use Rattle.fsfs_model.specs.Flat.Edits.{accepts, applied, with_text, with_prop, bytes_of, copied_node, rest_after, is_file_node}
use Rattle.fsfs_model.specs.Flat.Landing.{NoClash, land}
use Rattle.fsfs_model.specs.Flat.Transactions.{IsTransaction, Begun, Edited, Landed}
use Rattle.fsfs_revision.specs.Told.{RevisionBytes}
use Rattle.fsfs_model.proofs.Origins.{Origin, Head, Changed, Own, origin}
use Rattle.fsfs_model.proofs.NextHistory.{whole}
use Rattle.std.proofs.lemmas.Bool.{leb-true, and_parts, both_ways}
use Rattle.fsfs_noderev.specs.declared.node_id.NodeId.{NodeId}
use Rattle.fsfs_noderev.specs.declared.rep.Contents.{Contents}
use Rattle.fsfs_noderev.specs.declared.node_rev.NodeRev.{NodeRev}
use Rattle.fsfs_revision.specs.Shows.Reading.{StandsAt, PropsOf}
use Rattle.fsfs_revision.specs.Shows.Shown.{IsTextOf, Shows}
use Rattle.fsfs_revision.specs.Ancestry.Trees.{ShowTrees}
use Rattle.fsfs_revision.proofs.Behind.{shown_there}
use Rattle.fsfs_merge.specs.Laws.{AreSame, IsSameNode}
use Rattle.fsfs_merge.specs.declared.sight.Sight.{Sight}
use Rattle.fsfs_merge.specs.Walks.{is_own, merged, merges}
use Rattle.fsfs_draft.specs.OwnSides.{NodesAt, in_txn}
use Rattle.fsfs_merge.specs.MergeLaws.{IsMerge, is_merged, relinked, landed_nodes}
use Rattle.fsfs_merge.proofs.MergeLaw.{merging_is_by_ids}
use Rattle.fsfs_merge.proofs.MergedLaw.{kept_props}
use Rattle.fsfs_merge.proofs.Sides.{self}
use Rattle.fsfs_merge.proofs.Texts.{keeps_texts}
use Rattle.fsfs_final.specs.Final.{Finished, AsItWas, Done, IsWritten}
use Rattle.fsfs_draft.specs.Draws.{DrawsTree}
use Rattle.fsfs_final.specs.Shown.{ReadsContents}
use Rattle.fsfs_final.specs.Contents.{HasBareDirs, TransactionsHaveBareDirs, ReadsAs, LastingContents, OwnContents, ContentLaws}
use Rattle.fsfs_draft.proofs.HangLaw.{some_same}

no_node : {A : Type 0} (n : Node) → None ≡ Some n → A
no_node n e = absurd (false≢true (ap is_some e))

file_dir : {A : Type 0} → File ≡ Dir → A
file_dir e = absurd cc

-- ---- directories have no text

abbrev Bare : Option Node → Type 0
Bare o = (n : Node) → o ≡ Some n → n.kind ≡ Dir → n.text ≡ Bytes []

bare_none : Bare None
bare_none n e k = no_node n e

bare_new : (kind : Kind) → Bare (Some (empty_node kind))
bare_new kind n e k = let same : empty_node kind ≡ n = cc in sym (ap (λ (x : Node). x.text) same)

bare_copy : (rev : ℕ) (from : Path) (o : Option Node) → Bare o → Bare (copied_node rev from o)
bare_copy rev from None was n e k = no_node n e
bare_copy rev from (Some x) was n e k =
    let same : record x { source = Some (rev, from) } ≡ n = cc in
    sym (ap (λ (z : Node). z.text) same) ∙ was x refl (ap (λ (z : Node). z.kind) same ∙ k)

bare_text : (text : List ℕ) (o : Option Node) → is_file_node o ≡ true → Bare (with_text text o)
bare_text text None h n e k = no_node n e
bare_text text (Some x) h n e k =
    let same : record x { text = Bytes text } ≡ n = cc in
    by x.kind (ap (λ (z : Node). z.kind) same ∙ k) h
  where
    by : (kind : Kind) → kind ≡ Dir → not (Rattle.fsfs_model.specs.Flat.Edits.is_dir kind) ≡ true → n.text ≡ Bytes []
    by Dir e h = absurd (false≢true h)
    by File e h = file_dir e

bare_prop : (name : List ℕ) (value : Option (List ℕ)) (o : Option Node) → Bare o → Bare (with_prop name value o)
bare_prop name value None was n e k = no_node n e
bare_prop name value (Some x) was n e k =
    let same : record x { properties = Rattle.fsfs_model.specs.Flat.Edits.changed_props name value x.properties } ≡ n = cc in
    sym (ap (λ (z : Node). z.text) same) ∙ was x refl (ap (λ (z : Node). z.kind) same ∙ k)

bare_if : (b : Bool) (x y : Option Node) → Bare x → Bare y → Bare (cond b x y)
bare_if true x y f g = f
bare_if false x y f g = g

bare_edit : (tree : ℕ → TreeFunction) (last : ℕ) (t : TreeFunction) → ((r : ℕ) → r ≤ last → HasBareDirs (tree r)) → HasBareDirs t → (edit : Edit) → accepts edit tree last t ≡ true → HasBareDirs (applied edit tree t)
bare_edit tree last t all was (MakeDir path) h p = bare_if (same_path p path) (Some (empty_node Dir)) (t p) (bare_new Dir) (was p)
bare_edit tree last t all was (MakeFile path) h p = bare_if (same_path p path) (Some (empty_node File)) (t p) (bare_new File) (was p)
bare_edit tree last t all was (Delete path) h p = bare_if (covers path p) None (t p) bare_none (was p)
bare_edit tree last t all was (Copy rev from to) h p =
    bare_if (covers to p) (copied_node rev (from ++ rest_after to p) (tree rev (from ++ rest_after to p))) (t p)
    (bare_copy rev (from ++ rest_after to p) (tree rev (from ++ rest_after to p)) (all rev (leb-true rev last ((and_parts _ _ ((and_parts _ _ h).0)).1)) (from ++ rest_after to p))) (was p)
bare_edit tree last t all was (PutText path text) h p = bare_if (same_path p path) (with_text text.items (t path)) (t p) (bare_text text.items (t path) h) (was p)
bare_edit tree last t all was (SetProp path name value) h p = bare_if (same_path p path) (with_prop name (bytes_of value) (t path)) (t p) (bare_prop name (bytes_of value) (t path) (was path)) (was p)

bare : TransactionsHaveBareDirs
bare tree last _ _ _ is all (Begun b le) = all b le
bare tree last _ _ _ is all (Edited b t before edit was h) = bare_edit tree last t all (bare tree last b t before is all was) edit h
bare tree last _ _ _ is all (Landed b h n t marks was le ge clear) = landed (bare tree last b t marks is all was)
  where
    landed : HasBareDirs t → HasBareDirs (land (tree b) (tree h) t marks n)
    landed own p y e k = by (origin n (effects marks p) (tree b p) (tree h p) (t p) y e)
      where
        by : Origin n (effects marks p) (tree b p) (tree h p) (t p) y → y.text ≡ Bytes []
        by (Head x f alt s) = s.text ∙ all h ge p x f (sym s.kind ∙ k)
        by (Changed x f a d r s) = s.text ∙ own p x f (sym s.kind ∙ k)
        by (Own x f alt c1 c2 c3 s) = s.text ∙ own p x f (sym s.kind ∙ k)

-- what the bytes show has none
shown_bare : (look : RevisionBytes) (r : ℕ) (tree : TreeFunction) → Shows look r tree → HasBareDirs tree
shown_bare look r tree shows p n e k = let w = shows.each p in by w.0 w.1 w.2
  where
    text : (kind : Kind) (v : NodeRev) → kind ≡ Dir → IsTextOf look kind v n.text → n.text ≡ Bytes []
    text Dir v e h = h
    text File v e h = file_dir e

    by : (m : Rattle.fsfs_revision.specs.Shows.Reading.Met) → Rattle.fsfs_revision.specs.Shows.Reading.MetAt look r p (Ok m) → Rattle.fsfs_revision.specs.Shows.Shown.IsShownAs look r p m (tree p) → n.text ≡ Bytes []
    by (Rattle.fsfs_revision.specs.Shows.Reading.Stands v) at is =
        let s = shown_there look r tree shows p v at in
        let same : s.0 ≡ n = some_same (tree p) s.0 n s.1 e in
        text v.kind v (sym s.2.kind ∙ ap (λ (x : Node). x.kind) same ∙ k) (subst (λ (x : Node). IsTextOf look v.kind v x.text) same s.2.text)
    by (Rattle.fsfs_revision.specs.Shows.Reading.Lacking d) at is = no_node n (sym is ∙ e)
    by (Rattle.fsfs_revision.specs.Shows.Reading.Blocked d) at is = no_node n (sym is ∙ e)

-- ---- the new revision

-- contents of y are those of m
record SameContents (m y : Node) : Type 0 where
  kind : y.kind ≡ m.kind
  text : y.text ≡ m.text
  properties : y.properties ≡ m.properties

reads_same : (look : RevisionBytes) (v : NodeRev) (m y : Node) → SameContents m y → ReadsAs look v m → ReadsAs look v y
reads_same look v m y same (text, props) =
    (λ k. subst (λ x. IsTextOf look v.kind v x) (sym same.text) (text (sym same.kind ∙ k)), subst (λ x. PropsOf look v (Ok x)) (sym same.properties) props)

module _ (look : RevisionBytes) (top : ℕ) (tree : ℕ → TreeFunction) (t : TreeFunction) (marks : List Mark) (own : NodesAt) (shows : ShowTrees look top tree) (was : IsTransaction tree top top t marks)
    (draws : DrawsTree (suc top) (tree top) t marks own) (written : IsWritten look (suc top) own) (lasting : LastingContents look t own) (mine : OwnContents look (suc top) t own) where
  abbrev landed : TreeFunction
  landed = land (tree top) (tree top) t marks (suc top)

  same : (p : Path) (m y : Node) → t p ≡ Some m → landed p ≡ Some y → SameContents m y
  same p m y e f = by (origin (suc top) (effects marks p) (tree top p) (tree top p) (t p) y f)
    where
      its : (x : Node) → t p ≡ Some x → Rattle.fsfs_model.proofs.Origins.IsSameNode y x → SameContents m y
      its x g s =
          let k : x ≡ m = some_same (t p) x m g e in
          record { kind = s.kind ∙ ap (λ (z : Node). z.kind) k; text = s.text ∙ ap (λ (z : Node). z.text) k; properties = s.properties ∙ ap (λ (z : Node). z.properties) k }

      by : Origin (suc top) (effects marks p) (tree top p) (tree top p) (t p) y → SameContents m y
      by (Changed x g a d r s) = its x g s
      by (Own x g alt c1 c2 c3 s) = its x g s
      by (Head x g (inr lack) s) = absurd (both_ways _ lack.1 (ap is_some e))
      by (Head x g (inl w) s) =
          let kept = (whole tree top top t marks (shown_revisions look top tree shows) was).keeps.same p x g w.1 in
          let k : kept.0 ≡ m = some_same (t p) kept.0 m kept.1 e in
          let texts : m.text ≡ x.text = keeps_texts tree top top t marks (shown_revisions look top tree shows) was p x m g e w.1 w.2 in
          record {
            kind = s.kind ∙ sym kept.2.kind ∙ ap (λ (z : Node). z.kind) k;
            text = s.text ∙ sym texts;
            properties = s.properties ∙ sym (kept.2.properties (kept_props marks p w.2)) ∙ ap (λ (z : Node). z.properties) k;
          }

  bare_landed : HasBareDirs landed
  bare_landed =
      let le : top ≤ top = omega arith in
      let clear = (self tree top top top t marks (shown_revisions look top tree shows) was le le).clear in
      bare tree top top landed marks (shown_revisions look top tree shows) (λ r le. shown_bare look r (tree r) (shows.each r le)) (Landed top top (suc top) t marks was le le clear)

  text_as : (v : NodeRev) (p : Path) (y : Node) → landed p ≡ Some y → y.kind ≡ v.kind → ReadsAs look v y → IsTextOf look v.kind v y.text
  text_as v p y e k reads = by v.kind refl
    where
      by : (kind : Kind) → v.kind ≡ kind → IsTextOf look v.kind v y.text
      by File f = reads.0 (k ∙ f)
      by Dir f = subst (λ (z : Kind). IsTextOf look z v y.text) (sym f) (bare_landed p y e (k ∙ f))

  some_tree : (p : Path) (u : NodeRev) → own p ≡ Some u → (m : Node) × (t p ≡ Some m)
  some_tree p u e = Rattle.fsfs_model.proofs.LandedContents.there (t p) (sym (draws.paths.there p) ∙ ap is_some e)

  reads_at : (p : Path) (v : NodeRev) (y : Node) → StandsAt look (suc top) p v → landed p ≡ Some y → ReadsAs look v y × (y.kind ≡ v.kind)
  reads_at p v y at e =
      let w = written.only p v at in
      let m = some_tree p w.0 w.1 in
      let s = same p m.0 y m.1 e in
      by w.0 w.1 m.0 m.1 s w.2
    where
      by : (u : NodeRev) → own p ≡ Some u → (m : Node) → t p ≡ Some m → SameContents m y → Finished (suc top) u v → ReadsAs look v y × (y.kind ≡ v.kind)
      by u f m g s (AsItWas plain is) =
          (reads_same look v m y s (subst (λ (z : NodeRev). ReadsAs look z m) (sym is) (lasting p u m f plain g)), s.kind ∙ draws.kinds p u m f g ∙ sym (ap (λ (z : NodeRev). z.kind) is))
      by u f m g s (Done its final) = (reads_same look v m y s (mine p u v m f its at g), s.kind ∙ draws.kinds p u m f g ∙ sym final.kind)

  contents : ReadsContents look (suc top) landed
  contents = record {
    text = λ p v y at e. let r = reads_at p v y at e in text_as v p y e r.1 r.0;
    props = λ p v y at e. (reads_at p v y at e).0.1;
  }

-- ---- a merge

merges_all : (s : Sight) → merges s ≡ true → (s.in_base ≡ true) × (s.goes_on ≡ true)
merges_all s m = ((and_parts _ _ ((and_parts _ _ ((and_parts _ _ m).0)).0)).0, (and_parts _ _ m).1)

none_rev : {A : Type 0} (u : NodeRev) → None ≡ Some u → A
none_rev u e = absurd (false≢true (ap is_some e))

module _ (look : RevisionBytes) (top : ℕ) (tree : ℕ → TreeFunction) (b h n : ℕ) (t : TreeFunction) (marks : List Mark) (base head own : NodesAt) (see : Path → Sight)
    (is : IsMerge look top tree b h t marks base head own see) (clear : NoClash b (tree b) (tree h) t marks)
    (kinds : (p : Path) (u : NodeRev) (m : Node) → own p ≡ Some u → t p ≡ Some m → m.kind ≡ u.kind) (lasting : LastingContents look t own) where
  reads_as_same : (v : NodeRev) (m y : Node) → IsSameNode m y → ReadsAs look v m → ReadsAs look v y
  reads_as_same v m y same (text, props) =
      (λ k. let f : m.kind ≡ File = same.kind ∙ k in subst (λ x. IsTextOf look v.kind v x) (same.text f) (text f), subst (λ x. PropsOf look v (Ok x)) same.properties props)

  -- where a directory is merged the draft has one
  merged_dir : (p : Path) (v : NodeRev) → merges (see p) ≡ true → own p ≡ Some v → v.kind ≡ Dir
  merged_dir p v m e = by (base p) refl
    where
      goes : (see p).goes_on ≡ true
      goes = (merges_all (see p) m).1

      by : (o : Option NodeRev) → base p ≡ o → v.kind ≡ Dir
      by None f = absurd (false≢true (sym ((is.sights p).in_base ∙ ap is_some f) ∙ (and_parts _ _ ((and_parts _ _ ((and_parts _ _ m).0)).0)).0))
      by (Some a) f =
          let g = ((is.sights p).goes_on a f).0 goes in
          let same : g.1 ≡ v = (let k = sym g.3 ∙ e in cc) in
          sym (ap (λ (z : NodeRev). z.kind) same) ∙ g.4.own_dir

  at_own : (p : Path) (u : NodeRev) (m y : Node) → t p ≡ Some m → IsSameNode m y → relinked (is_merged see p) (head p) (own p) ≡ Some u → in_txn u.id.place ≡ false → ReadsAs look u y
  at_own p u m y g same e plain = by (is_merged see p) refl (head p) (own p) refl e
    where
      id_in : Option NodeRev → NodeId
      id_in None = u.id
      id_in (Some w) = w.id

      props_in : Option NodeRev → Option Contents
      props_in None = None
      props_in (Some w) = w.props

      linked : (v : NodeRev) → own p ≡ Some v → merges (see p) ≡ true → v.id ≡ u.id → v.props ≡ u.props → ReadsAs look u y
      linked v k f ids props =
          let old = lasting p v m k (ap (λ z. in_txn z.place) ids ∙ plain) g in (
            λ file. file_dir (sym file ∙ sym same.kind ∙ kinds p v m k g ∙ merged_dir p v f k),
            subst (λ z. Rattle.fsfs_revision.specs.Shows.Reading.OfContents [] (Rattle.fsfs_revision.specs.Shows.Reading.PairsAt look) z (Ok y.properties)) props (subst (λ x. PropsOf look v (Ok x)) same.properties old.1),
          )

      by : (c : Bool) → is_merged see p ≡ c → (s o : Option NodeRev) → own p ≡ o → relinked c s o ≡ Some u → ReadsAs look u y
      by false f s o k e = reads_as_same u m y same (lasting p u m (k ∙ e) plain g)
      by true f None None k e = none_rev u e
      by true f (Some z) None k e = none_rev u e
      by true f None (Some v) k e = linked v k ((and_parts _ _ f).1) (ap id_in e) (ap props_in e)
      by true f (Some z) (Some v) k e = linked v k ((and_parts _ _ f).1) (ap id_in e) (ap props_in e)

  at_head : (p : Path) (u : NodeRev) (y : Node) → AreSame (tree h p) (Some y) → head p ≡ Some u → ReadsAs look u y
  at_head p u y same e =
      let s = shown_there look h (tree h) (is.shows.each h is.within) p u ((is.head_nodes.each p u).0 e) in
      reads_as_same u s.0 y (subst (λ o. AreSame o (Some y)) s.1 same) (λ k. s.2.text, s.2.properties)

  kept : LastingContents look (land (tree b) (tree h) t marks n) (landed_nodes see head own)
  kept p u y e plain f = by (is_own see p) refl
    where
      all : AreSame (merged see (tree h) t p) (land (tree b) (tree h) t marks n p)
      all = (merging_is_by_ids.landing look top tree b h n t marks base head own see is clear).2 p

      here : AreSame (merged see (tree h) t p) (Some y)
      here = subst (λ o. AreSame (merged see (tree h) t p) o) f all

      some_of : (o : Option Node) → t p ≡ o → AreSame o (Some y) → (m : Node) × (t p ≡ Some m) × IsSameNode m y
      some_of None g w = absurd w
      some_of (Some m) g w = (m, g, w)

      by : (c : Bool) → is_own see p ≡ c → ReadsAs look u y
      by true o =
          let m = some_of (t p) refl (subst (λ (c : Bool). AreSame (cond c (t p) (tree h p)) (Some y)) o here) in
          at_own p u m.0 y m.1 m.2 ((λ i. if (sym o) i then relinked (is_merged see p) (head p) (own p) else head p) ∙ e) plain
      by false o = at_head p u y (subst (λ (c : Bool). AreSame (cond c (t p) (tree h p)) (Some y)) o here) ((λ i. if (sym o) i then relinked (is_merged see p) (head p) (own p) else head p) ∙ e)

pub content_laws : ContentLaws
content_laws = record { bare = bare; read = contents; merged = kept }
