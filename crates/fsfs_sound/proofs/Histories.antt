-- Where each revision keeps the rules by itself, all of them show a history.
use Rattle.std.proofs.Common.{◌≡◌, ◌≤◌, ◌<◌, ◌⊎◌, ◌++◌, ℕ, zero, suc, true, false, List, [], ◌∷◌, refl, sym, ap, subst, ◌∙◌, inl, inr, length, length-append, arith}
use Rattle.std.specs.Prelude.{Ok, Option, Some, None, slice_get}
use Rattle.std.proofs.lemmas.Option.{same_Some, slice_get_within}
use Rattle.std.specs.FinMap.{FinMap, get}
use Rattle.fsfs_base.specs.Paths.{Path, path_cmp}
use Rattle.fsfs_tree.specs.Nodes.{Node, TreeFunction}
use Rattle.fsfs_tree.specs.Revisions.{Revision}
use Rattle.fsfs_tree.specs.Dated.{last_of}
use Rattle.fsfs_revision.specs.Told.{RevisionBytes}
use Rattle.fsfs_revision.specs.Shows.Reading.{Met, Stands, Lacking, Blocked, MetAt}
use Rattle.fsfs_revision.specs.Shows.IdRules.{IdRule}
use Rattle.fsfs_revision.specs.Shows.Shown.{Shows, IsShownAs}
use Rattle.fsfs_stands.specs.History.{ShowsRevision, ShowsHistory}
use Rattle.fsfs_sound.specs.OpenTexts.{IsOpenText, HasOpenTexts}
use Rattle.fsfs_sound.specs.Revisions.{IsSoundTree, IsSoundRevision}
use Rattle.fsfs_sound.specs.Laws.{ShowsOpenHistory, SoundRevisionsShowAHistory}
use Rattle.fsfs_sound.proofs.Changed.{sound_changes}
use Rattle.fsfs_sound.proofs.Finite.{all_paths}
use Rattle.fsfs_sound.proofs.Ids.{ids}
use Rattle.fsfs_sound.proofs.Maps.{IsWithin, map_of}
use Rattle.fsfs_sound.proofs.Shown.{node_of, tree_at, shows, open_at}
use Rattle.fsfs_sound.proofs.Standing.{met_at}

-- what is shown as a tree is shown as one that is the same at each path
shows_same : (look : RevisionBytes) (r : ℕ) (s t : TreeFunction) → ((p : Path) → t p ≡ s p) → Shows look r s → Shows look r t
shows_same look r s t same shown = record { each = λ p. (let w = shown.each p in (w.0, w.1, subst (λ (o : Option Node). IsShownAs look r p w.0 o) (sym (same p)) w.2)) }

module _ (look props : RevisionBytes) (top : ℕ) (all : (r : ℕ) → r ≤ top → IsSoundRevision look props r) where
  trees : (r : ℕ) → r ≤ top → IsSoundTree look r
  trees r le = (all r le).tree

  -- ---- a revision

  module _ (r : ℕ) (le : r ≤ top) where
    within : IsWithin (all_paths look top trees r le).0 (tree_at look top trees r le)
    within p out = by (met_at look top trees r le p).0 (met_at look top trees r le p).1
      where
        by : (met : Met) (at : MetAt look r p (Ok met)) → node_of look top trees r le p met at ≡ None
        by (Stands v) at = let e : true ≡ false = sym ((all_paths look top trees r le).1 p v at) ∙ out in absurd cc
        by (Lacking names) at = refl
        by (Blocked names) at = refl

    tree : (m : FinMap path_cmp Node) × ((p : Path) → get m p ≡ tree_at look top trees r le p)
    tree = map_of (tree_at look top trees r le) (all_paths look top trees r le).0 within

    bytes : (bytes : List ℕ) × (look r ≡ Ok bytes)
    bytes = (let root = (trees r le).root.1 in (root.0, root.1))

    record Made : Type 0 where
      revision : Revision
      shown : ShowsRevision look props r revision
      open_texts : (p : Path) (n : Node) → get revision.tree p ≡ Some n → IsOpenText n.text

    made : Made
    made =
        let changes = sound_changes look top trees r le bytes.0 bytes.1 (all r le).items in
        let file = (all r le).file in
        let read = file.1 in
        record {
          revision = record { tree = tree.0; changes = changes.0; properties = file.0 };
          shown = record {
            bytes = bytes.0;
            bytes_are = bytes.1;
            tree = shows_same look r (tree_at look top trees r le) (get tree.0) tree.1 (shows look top trees r le);
            changes = changes.1;
            file = read.0;
            file_is = read.1;
            properties = read.2;
            dated = file.2;
          };
          open_texts = λ p n is. open_at look top trees r le p n (sym (tree.1 p) ∙ is);
        }

  -- ---- all of them

  one_less : (n : ℕ) → suc n ≤ suc top → n ≤ suc top
  one_less n le = omega (arith, le)

  not_past : (n : ℕ) → suc n ≤ suc top → n ≤ top
  not_past n le = omega (arith, le)

  abbrev upto : (n : ℕ) → n ≤ suc top → List Revision
  upto zero le = []
  upto (suc n) le = upto n (one_less n le) ++ (made n (not_past n le)).revision ∷ []

  upto_length : (n : ℕ) (le : n ≤ suc top) → length (upto n le) ≡ n
  upto_length zero le = refl
  upto_length (suc n) le = more (upto n (one_less n le)) (made n (not_past n le)).revision (upto_length n (one_less n le))
    where
      more : (h : List Revision) (x : Revision) → length h ≡ n → length (h ++ x ∷ []) ≡ suc n
      more h x e = length-append h (x ∷ []) ∙ omega (arith, e)

  -- the last of a list that one more was put behind, or one before it
  at_last : (h : List Revision) (x : Revision) (r : ℕ) (y : Revision) → slice_get (h ++ x ∷ []) r ≡ Some y → ((r < length h) × (slice_get h r ≡ Some y)) ⊎ ((r ≡ length h) × (x ≡ y))
  at_last [] x zero y is = inr (refl, same_Some x y is)
  at_last [] x (suc r) y is = absurd (let e : None ≡ Some y = is in cc)
  at_last (z ∷ h) x zero y is = inl (omega arith, is)
  at_last (z ∷ h) x (suc r) y is = by (at_last h x r y is)
    where
      by : ((r < length h) × (slice_get h r ≡ Some y)) ⊎ ((r ≡ length h) × (x ≡ y)) → ((suc r < length (z ∷ h)) × (slice_get (z ∷ h) (suc r) ≡ Some y)) ⊎ ((suc r ≡ length (z ∷ h)) × (x ≡ y))
      by (inl w) = let less = w.0 in inl (omega (arith, less), w.1)
      by (inr w) = let same = w.0 in inr (omega (arith, same), w.1)

  abbrev IsMade : ℕ → Revision → Type 0
  IsMade r revision = (up : r ≤ top) × ((made r up).revision ≡ revision)

  is_made : (n : ℕ) (le : n ≤ suc top) (r : ℕ) (revision : Revision) → slice_get (upto n le) r ≡ Some revision → IsMade r revision
  is_made zero le r revision is = absurd (let e = slice_get_within [] r revision is in omega (arith, e))
  is_made (suc n) le r revision is = by (upto n (one_less n le)) (made n (not_past n le)).revision (upto_length n (one_less n le)) (at_last (upto n (one_less n le)) (made n (not_past n le)).revision r revision is) (λ there. is_made n (one_less n le) r revision there) (λ same. (not_past n le, same))
    where
      by : (h : List Revision) (x : Revision) → length h ≡ n → ((r < length h) × (slice_get h r ≡ Some revision)) ⊎ ((r ≡ length h) × (x ≡ revision)) → (slice_get h r ≡ Some revision → IsMade r revision) → (x ≡ revision → IsMade n revision) → IsMade r revision
      by h x long (inl w) down here = down w.1
      by h x long (inr w) down here = let same : n ≡ r = sym (w.0 ∙ long) in subst (λ (k : ℕ). IsMade k revision) same (here w.1)

  abbrev history : List Revision
  history = upto (suc top) (omega arith)

  last_is : last_of history ≡ top
  last_is = let e = upto_length (suc top) (omega arith) in omega (arith, e)

  shown_history : ShowsHistory look props history
  shown_history = record {
    each = λ r revision is.
        (let m = is_made (suc top) (omega arith) r revision is in
        subst (λ (x : Revision). ShowsRevision look props r x) m.1 (made r m.0).shown);
    ids = subst (λ (n : ℕ). IdRule look n) (sym last_is) (ids look top trees);
  }

  open_history : HasOpenTexts history
  open_history r revision p n is at =
      let m = is_made (suc top) (omega arith) r revision is in
      (made r m.0).open_texts p n (ap (λ (x : Revision). get x.tree p) m.1 ∙ at)

  open_shown : ShowsOpenHistory look props top
  open_shown = record { history = history; count = upto_length (suc top) (omega arith); shown = shown_history; open_texts = open_history }

pub sound_history : SoundRevisionsShowAHistory
sound_history look props top all = open_shown look props top all
