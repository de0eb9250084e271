-- Labels of a disk are read as the machine's.
use Rattle.std.proofs.Common.{◌≡◌, ℕ, List, [], ◌∷◌, Bool, true, false, cond, refl, sym, ap, ◌∙◌, eq-eqb}
use Rattle.std.proofs.lemmas.Bool.{eqb-true, false_from_ne_true}
use Rattle.std.specs.Prelude.{◌==◌, ◌&&◌, ◌||◌, not}
use Rattle.fsfs_disk.specs.Labels.{Label, same_label, AreLeft}
use Rattle.fsfs_disk.specs.Labels as held
use Rattle.fsfs_disk.proofs.LabelLemmas.{same_either, other_either, has-with_label, has-without_label}
use Rattle.fsfs_machine.specs.Machine.{has_label, without, labels_left, label_where}
use Rattle.fsfs_images.specs.Shown.{AreLabelNames, ShowsLabels, LabelsAreShown}

-- which of the machine's labels are left after one was dropped
has-without : (k q : ℕ) (xs : List ℕ) → has_label q (without k xs) ≡ (not (k == q) && has_label q xs)
has-without k q [] = by_test (k == q) where
  by_test : (b : Bool) → false ≡ (not b && false)
  by_test true = refl
  by_test false = refl
has-without k q (x ∷ xs) = by_test (x == k) (has-without k q xs) refl where
  by_test : (b : Bool) → has_label q (without k xs) ≡ (not (k == q) && has_label q xs) → (x == k) ≡ b → has_label q (cond b (without k xs) (x ∷ without k xs)) ≡ (not (k == q) && (x == q || has_label q xs))
  by_test true rest is = rest ∙ same_either (k == q) (has_label q xs) ∙ ap (λ y. not (k == q) && (y == q || has_label q xs)) (sym (eqb-true x k is))
  by_test false rest is =
      ap (λ b. x == q || b) rest
      ∙ other_either (x == q) (k == q) (has_label q xs)
      (λ e. false_from_ne_true (k == q) (λ t. let h : true ≡ false = sym (eq-eqb x k (eqb-true x q e ∙ sym (eqb-true k q t))) ∙ is in cc))

picked_first : (a h f g : Bool) → (a ≡ true → f ≡ g) → cond f (a || (h && g)) (h && g) ≡ ((a || h) && g)
picked_first true h true true is = refl
picked_first true h true false is = let e : true ≡ false = is refl in cc
picked_first true h false true is = let e : false ≡ true = is refl in cc
picked_first true true false false is = refl
picked_first true false false false is = refl
picked_first false h true g is = refl
picked_first false h false g is = refl

-- the picks of those labels that have f
picks_of : (ℕ → Bool) → List ℕ → List Bool
picks_of f [] = []
picks_of f (x ∷ xs) = f x ∷ picks_of f xs

has-where : (b : Bool) (q x : ℕ) (xs : List ℕ) → has_label q (label_where b x xs) ≡ cond b (x == q || has_label q xs) (has_label q xs)
has-where true q x xs = refl
has-where false q x xs = refl

has-picked : (f : ℕ → Bool) (q : ℕ) (xs : List ℕ) → has_label q (labels_left (picks_of f xs) xs) ≡ (has_label q xs && f q)
unfolding picks_of
has-picked f q [] = refl
has-picked f q (x ∷ xs) =
    has-where (f x) q x (labels_left (picks_of f xs) xs)
    ∙ ap (λ h. cond (f x) (x == q || h) h) (has-picked f q xs)
    ∙ picked_first (x == q) (has_label q xs) (f x) (f q) (λ e. ap f (eqb-true x q e))

and_left : (a b : Bool) → (b ≡ true → a ≡ true) → b ≡ (a && b)
and_left a true is = sym (ap (λ x. x && true) (is refl))
and_left true false is = refl
and_left false false is = refl

module _ (names : ℕ → Label) (apart : AreLabelNames names) where
  kept : (ls : List Label) (labels : List ℕ) (k : ℕ) → ShowsLabels names ls labels → ShowsLabels names (held.with_label (names k) ls) (k ∷ labels)
  kept ls labels k shows q = has-with_label (names k) (names q) ls ∙ (λ i. apart k q i || shows q i)

  dropped : (ls : List Label) (labels : List ℕ) (k : ℕ) → ShowsLabels names ls labels → ShowsLabels names (held.without_label (names k) ls) (without k labels)
  dropped ls labels k shows q = has-without_label (names k) (names q) ls ∙ (λ i. not (apart k q i) && shows q i) ∙ sym (has-without k q labels)

  other_kept : (ls : List Label) (labels : List ℕ) (l : Label) → ((k : ℕ) → same_label l (names k) ≡ false) → ShowsLabels names ls labels → ShowsLabels names (held.with_label l ls) labels
  other_kept ls labels l other shows q = has-with_label l (names q) ls ∙ (λ i. other q i || shows q i)

  other_dropped : (ls : List Label) (labels : List ℕ) (l : Label) → ((k : ℕ) → same_label l (names k) ≡ false) → ShowsLabels names ls labels → ShowsLabels names (held.without_label l ls) labels
  other_dropped ls labels l other shows q = has-without_label l (names q) ls ∙ (λ i. not (other q i) && shows q i)

  still_shown : (ls rest : List Label) (labels : List ℕ) → AreLeft ls rest → ShowsLabels names ls labels → (picks : List Bool) × ShowsLabels names rest (labels_left picks labels)
  still_shown ls rest labels are shows =
      let f : ℕ → Bool = λ x. held.has_label (names x) rest in
      (picks_of f labels, λ q. and_left (has_label q labels) (f q) (λ e. sym (shows q) ∙ are (names q) e) ∙ sym (has-picked f q labels))

  pub labels_are_shown : LabelsAreShown names
  labels_are_shown = record { kept = kept; dropped = dropped; other_kept = other_kept; other_dropped = other_dropped; left = still_shown }
