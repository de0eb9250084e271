-- The revision that a transaction on the youngest revision becomes, with the bytes that were made.
use Rattle.std.proofs.Common.{◌≡◌, ◌⊎◌, ◌<◌, ◌≤◌, ◌+◌, ℕ, suc, zero, List, [], ◌∷◌, ◌++◌, length, inl, inr, refl, sym, ap, subst, ◌∙◌, arith, length-append}
use Rattle.std.specs.Prelude.{Some, None, slice_get}
use Rattle.std.specs.FinMap.{get}
use Rattle.fsfs_base.specs.Fields.RevNums.{last_rev}
use Rattle.fsfs_base.specs.declared.fields.txn_name.TxnName.{TxnName}
use Rattle.fsfs_tree.specs.Nodes.{TreeFunction}
use Rattle.fsfs_tree.specs.Revisions.{Revision, tree_of}
use Rattle.fsfs_tree.specs.Dated.{IsDated, last_of}
use Rattle.fsfs_model.specs.declared.flat.mark.Mark.{Mark}
use Rattle.fsfs_model.specs.Flat.Landing.{land, NoClash}
use Rattle.fsfs_model.specs.Flat.Transactions.{IsTransaction, IsNext}
use Rattle.fsfs_tree.specs.Histories.{AreRevisions}
use Rattle.fsfs_revision.specs.Told.{RevisionBytes}
use Rattle.fsfs_revision.specs.Ancestry.Trees.{ShowTrees}
use Rattle.fsfs_draft.specs.Staying.{IsYoungest}
use Rattle.fsfs_draft.specs.Whole.{IsDraftOf}
use Rattle.fsfs_revision.proofs.Revisions.{shown_revisions}
use Rattle.fsfs_revision.specs.Shows.IdRules.{IdRule}
use Rattle.fsfs_noderev.specs.declared.changes.item.ChangeItem.{ChangeItem}
use Rattle.fsfs_draft.specs.Drafts.{Folder}
use Rattle.fsfs_merge.proofs.Sides as sides
use Rattle.fsfs_final.proofs.Commit.{shows_as}
use Rattle.fsfs_commit.specs.FinalRev.FinalBytes.{IsNextRevision}
use Rattle.fsfs_commit.specs.FinalRev.Texts.{IsHandedOver, IsFinalText}
use Rattle.fsfs_machine.specs.declared.machine.Recorded.{Recorded}
use Rattle.fsfs_machine.specs.declared.machine.Txn.{Txn}
use Rattle.fsfs_machine.specs.Machine.{revisions, entry_of}
use Rattle.fsfs_machine.proofs.Growing.{revisions_length}
use Rattle.fsfs_turn.specs.Bytes.{bytes_beside, bytes_of, ShowsOne, BytesShow}
use Rattle.fsfs_turn.specs.Views.{Begins}
use Rattle.fsfs_commit.specs.Transaction.Meaning.{IsTxnOf}
use Rattle.fsfs_commit.specs.Transaction.SeenLemmas.{is_youngest, bytes_same, shown_trees, shown_still}
use Rattle.fsfs_commit.proofs.Filled.{folded_changes, folded_changes_are}
use Rattle.fsfs_commit.proofs.Landing.{landed_map, landed_map_is}

-- the last one, or one of those before
one_of : (h : List Recorded) (y : Recorded) (r : ℕ) (x : Recorded) → slice_get (h ++ y ∷ []) r ≡ Some x → (slice_get h r ≡ Some x) ⊎ ((r ≡ length h) × (y ≡ x))
one_of [] y zero x e = inr (refl, let f : Some y ≡ Some x = e in cc)
one_of [] y (suc r) x e = let f : None ≡ Some x = e in absurd cc
one_of (z ∷ h) y zero x e = inl e
one_of (z ∷ h) y (suc r) x e = elim (one_of h y r x e) [
  | inl a ↦ inl a
  | inr b ↦ inr (ap (λ n. suc n) b.0, b.1)
]

at_end : (h : List Recorded) (y : Recorded) → slice_get (h ++ y ∷ []) (length h) ≡ Some y
at_end [] y = refl
at_end (x ∷ h) y = at_end h y

-- ---- the same under other names

pub handed_as : (look : RevisionBytes) (trees : ℕ → TreeFunction) (top : ℕ) (n m : TxnName) (f g : Folder) (tree : TreeFunction) (marks : List Mark) (rev start : ℕ) (items : List ChangeItem) → m ≡ n → g ≡ f
    → IsHandedOver look trees top n f tree marks rev start items → IsHandedOver look trees top m g tree marks rev start items
handed_as look trees top n m f g tree marks rev start items name folder handed =
    subst (λ z. IsHandedOver look trees top z g tree marks rev start items) (sym name) (subst (λ z. IsHandedOver look trees top n z tree marks rev start items) (sym folder) handed)

pub final_as : (look : RevisionBytes) (trees : ℕ → TreeFunction) (a b : ℕ) (p q : List ℕ) (tree : TreeFunction) (marks : List Mark) (items others : List ChangeItem) (text : List ℕ) → b ≡ a → q ≡ p → others ≡ items
    → IsFinalText look trees a p tree marks items text → IsFinalText look trees b q tree marks others text
final_as look trees a b p q tree marks items others text top proto same final =
    subst (λ z. IsFinalText look trees z q tree marks others text) (sym top)
    (subst (λ z. IsFinalText look trees a z tree marks others text) (sym proto) (subst (λ z. IsFinalText look trees a p tree marks z text) (sym same) final))

-- ---- what it becomes

module _ (h : List Recorded) (name : TxnName) (base : ℕ) (settled : Folder) (x : Txn) (is : IsTxnOf h name base settled x) (shown : BytesShow h) (long : length h ≡ base + 1) where
  last : last_of (revisions h) ≡ base
  last = let a : length (revisions h) ≡ length h = revisions_length h in omega (arith, a, long)

  some : 0 < length h
  some = omega (arith, long)

  edits_here : IsTransaction (tree_of (revisions h)) base base (get x.tree) x.marks
  edits_here = subst (λ top. IsTransaction (tree_of (revisions h)) top base (get x.tree) x.marks) last is.stands.edits

  -- ---- what is handed over

  pub handed : (rev start : ℕ) (items : List ChangeItem) → rev ≡ base + 1 → start ≡ length settled.proto → items ≡ settled.items → IsHandedOver (bytes_of h) (tree_of (revisions h)) base name settled (get x.tree) x.marks rev start items
  handed rev start items e length_is items_are = record {
    shows = subst (λ top. ShowTrees (bytes_of h) top (tree_of (revisions h))) last (shown_trees h some shown);
    youngest = subst (λ top. IsYoungest (bytes_of h) top) last (is_youngest h);
    edits = edits_here;
    draft = subst (λ top. IsDraftOf (bytes_of h) (tree_of (revisions h)) top base name settled (get x.tree) x.marks) last is.stands.shows.0;
    rev_is = omega (arith, e);
    start_is = length_is;
    items_are = items_are;
  }

  -- ---- what comes of it

  module _ (items : List ChangeItem) (text : List ℕ) (properties : List (List ℕ × List ℕ)) (dated : IsDated properties) (final : IsFinalText (bytes_of h) (tree_of (revisions h)) base settled.proto (get x.tree) x.marks items text) where
    abbrev pub bytes : List ℕ
    bytes = settled.proto ++ text

    abbrev pub next : Revision
    next = record { tree = landed_map h base base x.tree x.marks (suc base); changes = folded_changes x.marks; properties = properties }

    abbrev coming : Recorded
    coming = record { revision = next; bytes = bytes }

    abbrev longer : List Recorded
    longer = h ++ coming ∷ []

    begins : Begins longer h
    begins = (coming ∷ [], refl)

    says : IsNextRevision (bytes_of longer) (tree_of (revisions h)) base (get x.tree) x.marks items bytes
    says = final (bytes_of longer) (λ s le. bytes_same h longer s begins (omega (arith, le, long)))
        (ap (λ n. bytes_of longer n) (let e : suc base ≡ length h = omega (arith, long) in e) ∙ ap (λ o. bytes_beside (length h) o) (at_end h coming))

    -- nothing clashes with the base itself
    clear : NoClash base (tree_of (revisions h) base) (tree_of (revisions h) base) (get x.tree) x.marks
    clear = (sides.self (tree_of (revisions h)) base base base (get x.tree) x.marks (subst (λ top. AreRevisions (tree_of (revisions h)) top) last (shown_revisions (bytes_of h) (last_of (revisions h)) (tree_of (revisions h)) (shown_trees h some shown)))
        edits_here (omega arith) (omega arith)).clear

    pub is_next : (number : ℕ) → suc base ≤ last_rev → IsNext (revisions h) (entry_of number x properties) next
    is_next number fits = record {
      based = omega (arith, is.on, is.based, revisions_length h);
      clear = subst (λ b. NoClash b (tree_of (revisions h) b) (tree_of (revisions h) (last_of (revisions h))) (get x.tree) x.marks) (sym is.on)
          (subst (λ r. NoClash base (tree_of (revisions h) base) (tree_of (revisions h) r) (get x.tree) x.marks) (sym last) clear);
      limit = omega (arith, fits, long, revisions_length h);
      tree = λ p. landed_map_is h base base x.tree x.marks (suc base) p
          ∙ ap (λ b. land (tree_of (revisions h) b) (tree_of (revisions h) base) (get x.tree) x.marks (suc base) p) (sym is.on)
          ∙ ap (λ r. land (tree_of (revisions h) x.base) (tree_of (revisions h) r) (get x.tree) x.marks (suc base) p) (sym last)
          ∙ ap (λ n. land (tree_of (revisions h) x.base) (tree_of (revisions h) (last_of (revisions h))) (get x.tree) x.marks n p) (let a : length (revisions h) ≡ length h = revisions_length h in let e : suc base ≡ length (revisions h) = omega (arith, long, a) in e);
      changes = folded_changes_are x.marks;
      properties = refl;
    }

    one : ShowsOne (bytes_of longer) (suc base) coming
    one = record {
      tree = shows_as (bytes_of longer) (suc base) (land (tree_of (revisions h) base) (tree_of (revisions h) base) (get x.tree) x.marks (suc base)) (get next.tree) (λ p. sym (landed_map_is h base base x.tree x.marks (suc base) p)) says.shows;
      changes = says.changes next.changes (folded_changes_are x.marks);
      dated = dated;
    }

    each : (r : ℕ) (y : Recorded) → slice_get longer r ≡ Some y → ShowsOne (bytes_of longer) r y
    each r y at = elim (one_of h coming r y at) [
      | inl before ↦ shown_still h longer r y begins before (shown.each r y before)
      | inr now ↦ subst (λ n. ShowsOne (bytes_of longer) n y) (let e : suc base ≡ r = omega (arith, now.0, long) in e) (subst (λ z. ShowsOne (bytes_of longer) (suc base) z) now.1 one)
    ]

    pub next_shown : BytesShow longer
    next_shown = record {
      each = each;
      ids = subst (λ n. IdRule (bytes_of longer) n) (let a : length (revisions longer) ≡ length longer = revisions_length longer in let b : length longer ≡ length h + 1 = length-append h (coming ∷ []) in let e : suc base ≡ last_of (revisions longer) = omega (arith, a, b, long) in e) says.ids;
    }
