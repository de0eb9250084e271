-- What is committed is shown as the next revision.
use Rattle.std.proofs.Common.{◌≡◌, ◌≤◌, ◌⊎◌, ℕ, zero, suc, List, [], ◌∷◌, ◌++◌, length, refl, sym, ap, subst, ◌∙◌, inl, inr, arith}
use Rattle.std.specs.Prelude.{Option, Some, None, slice_get}
use Rattle.std.proofs.lemmas.List.{length-append}
use Rattle.std.proofs.lemmas.Option.{slice_get_cases}
use Rattle.std.specs.FinMap.{get}
use Rattle.fsfs_base.specs.Paths.{Path}
use Rattle.fsfs_tree.specs.Nodes.{TreeFunction}
use Rattle.fsfs_tree.specs.Revisions.{Revision, node_in, tree_of}
use Rattle.fsfs_tree.specs.Dated.{last_of, IsDated}
use Rattle.fsfs_model.specs.Flat.Landing.{land}
use Rattle.fsfs_model.specs.Flat.Transactions.{Entry, IsEntry, IsNext, IsTransaction}
use Rattle.fsfs_revision.specs.Told.{RevisionBytes}
use Rattle.fsfs_revision.specs.Shows.Shown.{Shows}
use Rattle.fsfs_revision.specs.Shows.IdRules.{IdRule}
use Rattle.fsfs_revision.specs.Ancestry.Trees.{ShowTrees}
use Rattle.fsfs_stands.specs.History.{ShowsRevision, ShowsHistory}
use Rattle.fsfs_draft.specs.Draws.{DrawsTree}
use Rattle.fsfs_final.specs.Final.{IsWritten}
use Rattle.fsfs_final.specs.Shown.{ReadsContents}
use Rattle.fsfs_final.proofs.KeepsIds.{written_keeps_ids}
use Rattle.fsfs_final.proofs.ShowsLanded.{written_shows_landing}
use Rattle.fsfs_final.proofs.Commit.{shows_as}
use Rattle.fsfs_final.specs.NextShown.{IsWrittenAs, NextIsShown}

-- the last one, or one of those before
pub got_more : (h : List Revision) (next : Revision) (r : ℕ) (x : Revision) → slice_get (h ++ next ∷ []) r ≡ Some x → (slice_get h r ≡ Some x) ⊎ ((r ≡ length h) × (next ≡ x))
got_more [] next zero x e = inr (refl, let f : Some next ≡ Some x = e in cc)
got_more [] next (suc r) x e = let f : None ≡ Some x = e in absurd cc
got_more (z ∷ h) next zero x e = inl e
got_more (z ∷ h) next (suc r) x e = elim (got_more h next r x e) [
  | inl a ↦ inl a
  | inr b ↦ inr (ap (λ n. suc n) b.0, b.1)
]

module _ (look props : RevisionBytes) (h : List Revision) (e : Entry) (next : Revision) (shows : ShowsHistory look props h) (entry : IsEntry h e) (is : IsNext h e next) where
  pub count : length h ≡ suc (last_of h)
  count = let based = is.based in omega (arith, based)

  there : (r : ℕ) → r ≤ last_of h → (revision : Revision) × (slice_get h r ≡ Some revision)
  there r le = elim ((slice_get_cases h r).1) [
    | inl x ↦ (x.0, x.2)
    | inr past ↦ (let over = past.0 in absurd (omega (arith, over, le, count)))
  ]

  pub trees : ShowTrees look (last_of h) (tree_of h)
  trees = record {
    each = λ r le.
        (let x = there r le in
        let same : tree_of h r ≡ get x.0.tree = ap (λ (o : Option Revision). node_in o) x.1 in
        subst (λ (t : TreeFunction). Shows look r t) (sym same) (shows.each r x.0 x.1).tree);
    ids = shows.ids;
  }

  pub was : e.base ≡ last_of h → IsTransaction (tree_of h) (last_of h) (last_of h) (get e.tree) e.marks
  was youngest = subst (λ (b : ℕ). IsTransaction (tree_of h) (last_of h) b (get e.tree) e.marks) youngest entry.transaction

  module _ (w : IsWrittenAs look props h e next) where
    abbrev Landing : ℕ → TreeFunction
    Landing n = land (tree_of h (last_of h)) (tree_of h (last_of h)) (get e.tree) e.marks n

    shown : Shows look (length h) (Landing (length h))
    shown = subst (λ (n : ℕ). Shows look n (Landing n)) (sym count)
        (written_shows_landing look (last_of h) (tree_of h) (get e.tree) e.marks w.base w.own trees (was w.youngest) w.nodes w.side w.draft (subst (λ (n : ℕ). DrawsTree n (tree_of h (last_of h)) (get e.tree) e.marks w.own) count w.draws)
        (subst (λ (n : ℕ). IsWritten look n w.own) count w.written) (subst (λ (n : ℕ). ReadsContents look n (Landing n)) count w.contents))

    tree_is : (p : Path) → Landing (length h) p ≡ get next.tree p
    tree_is p = sym (is.tree p ∙ ap (λ (b : ℕ). land (tree_of h b) (tree_of h (last_of h)) (get e.tree) e.marks (length h) p) w.youngest)

    last : ShowsRevision look props (length h) next
    last = record {
      bytes = w.bytes;
      bytes_are = w.bytes_are;
      tree = shows_as look (length h) (Landing (length h)) (get next.tree) tree_is shown;
      changes = w.changes;
      file = w.file;
      file_is = w.file_is;
      properties = w.properties;
      dated = subst IsDated (sym is.properties) entry.dated;
    }

    each : (r : ℕ) (revision : Revision) → slice_get (h ++ next ∷ []) r ≡ Some revision → ShowsRevision look props r revision
    each r revision got = elim (got_more h next r revision got) [
      | inl before ↦ shows.each r revision before
      | inr now ↦ subst (λ (x : ℕ). ShowsRevision look props x revision) (sym now.0) (subst (λ (x : Revision). ShowsRevision look props (length h) x) now.1 last)
    ]

    ids : IdRule look (last_of (h ++ next ∷ []))
    ids =
        let long = length-append h (next ∷ []) in
        let top : suc (last_of h) ≡ last_of (h ++ next ∷ []) = omega (arith, long, count) in
        subst (λ (n : ℕ). IdRule look n) top (written_keeps_ids look (last_of h) w.own shows.ids w.draft (subst (λ (n : ℕ). IsWritten look n w.own) count w.written))

pub next_is_shown : NextIsShown
next_is_shown look props h e next shows entry is w = record { each = each look props h e next shows entry is w; ids = ids look props h e next shows entry is w }
