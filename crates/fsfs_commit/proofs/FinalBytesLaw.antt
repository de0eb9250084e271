-- A transaction's bytes behind the history's: they show the next revision.
use Rattle.std.proofs.Common.{◌≡◌, ◌∙◌, ℕ, suc, List, [], ◌∷◌, ◌++◌, length, sym, ap, subst, inl, inr, arith}
use Rattle.std.specs.Prelude.{Some, slice_get}
use Rattle.std.specs.FinMap.{get}
use Rattle.std.proofs.lemmas.List.{length-append}
use Rattle.fsfs_base.specs.Paths.{Path}
use Rattle.fsfs_tree.specs.Revisions.{Revision, tree_of}
use Rattle.fsfs_tree.specs.Dated.{last_of, IsDated}
use Rattle.fsfs_model.specs.Flat.Landing.{land}
use Rattle.fsfs_model.specs.Flat.Transactions.{Entry, IsEntry, IsNext}
use Rattle.fsfs_revision.specs.Told.{RevisionBytes}
use Rattle.fsfs_revision.specs.Shows.IdRules.{IdRule}
use Rattle.fsfs_stands.specs.History.{ShowsRevision, ShowsHistory}
use Rattle.fsfs_final.proofs.Commit.{shows_as}
use Rattle.fsfs_final.proofs.NextShownLaw.{count, got_more}
use Rattle.fsfs_commit.specs.FinalRev.FinalBytes.{IsCommittedAs, FinalBytesAreEnough}

module _ (look props : RevisionBytes) (h : List Revision) (e : Entry) (next : Revision) (shows : ShowsHistory look props h) (entry : IsEntry h e) (is : IsNext h e next) (w : IsCommittedAs look props h e next) where
  abbrev top : ℕ
  top = last_of h

  long : length h ≡ suc top
  long = count look props h e next shows entry is

  tree_is : (p : Path) → land (tree_of h top) (tree_of h top) (get e.tree) e.marks (suc top) p ≡ get next.tree p
  tree_is p =
      ap (λ (n : ℕ). land (tree_of h top) (tree_of h top) (get e.tree) e.marks n p) (sym long)
      ∙ sym (is.tree p ∙ ap (λ (b : ℕ). land (tree_of h b) (tree_of h top) (get e.tree) e.marks (length h) p) w.youngest)

  last : ShowsRevision look props (suc top) next
  last = record {
    bytes = w.bytes;
    bytes_are = w.bytes_are;
    tree = shows_as look (suc top) (land (tree_of h top) (tree_of h top) (get e.tree) e.marks (suc top)) (get next.tree) tree_is w.next_is.shows;
    changes = w.next_is.changes next.changes is.changes;
    file = w.file;
    file_is = w.file_is;
    properties = w.properties;
    dated = subst IsDated (sym is.properties) entry.dated;
  }

  each : (r : ℕ) (revision : Revision) → slice_get (h ++ next ∷ []) r ≡ Some revision → ShowsRevision look props r revision
  each r revision got = elim (got_more h next r revision got) [
    | inl before ↦ shows.each r revision before
    | inr now ↦ subst (λ (x : ℕ). ShowsRevision look props x revision) (sym (now.0 ∙ long)) (subst (λ (x : Revision). ShowsRevision look props (suc top) x) now.1 last)
  ]

  ids : IdRule look (last_of (h ++ next ∷ []))
  ids =
      let more = length-append h (next ∷ []) in
      let later : suc top ≡ last_of (h ++ next ∷ []) = omega (arith, more, long) in
      subst (λ (n : ℕ). IdRule look n) later w.next_is.ids

pub final_bytes_are_enough : FinalBytesAreEnough
final_bytes_are_enough look props h e next shows entry is w = record { each = each look props h e next shows entry is w; ids = ids look props h e next shows entry is w }
