-- What is told of paths, as their places are made, emptied and filled.
use Rattle.std.proofs.Common.{◌≡◌, ◌≢◌, ℕ, List, cond, sym, ap, ⊎_elim, ◌∙◌}
use Rattle.std.specs.Prelude.{Option, Some, None}
use Rattle.std.specs.Str.{bytes_eq}
use Rattle.std.proofs.lemmas.Bool.{false_from_ne_true}
use Rattle.std.proofs.lemmas.Slice.Eq.{bytes_eq-Decides}
use Rattle.fsfs_disk.specs.Trace.{Trace}
use Rattle.fsfs_folders.specs.System.CallRecord.{CallRecord}
use Rattle.fsfs_folders.specs.SameText.{text_cases}
use Rattle.fsfs_folders.specs.Standing.{told}
use Rattle.fsfs_mount.specs.Places.{held_in, Sets, told_at}

module _ {A : Type 0} (old new : List ℕ → Option (Option A)) (path : List ℕ) (place : Option A) (sets : Sets old new path place) where
  pub set_here : new path ≡ Some place
  set_here = sets path ∙ ap (λ b. cond b (Some place) (old path)) ((bytes_eq-Decides path path).1 (λ i. path))

  pub set_elsewhere : (p : List ℕ) → p ≢ path → new p ≡ old p
  set_elsewhere p apart = sets p ∙ ap (λ b. cond b (Some place) (old p)) (false_from_ne_true (bytes_eq path p) (λ e. apart (sym ((bytes_eq-Decides path p).0 e))))

module _ {A : Type 0} (record_of : A → Option CallRecord) (old new : List ℕ → Option (Option A)) (first later : List ℕ → Option CallRecord) (path : List ℕ)
    (kept : (p : List ℕ) → later p ≡ first p) where
  -- of the other paths
  pub others_tell : (place : Option A) → Sets old new path place → (p : List ℕ) → p ≢ path → told_at record_of (new p) (later p) ≡ told_at record_of (old p) (first p)
  others_tell place sets p apart = ap (λ o. told_at record_of o (later p)) (set_elsewhere old new path place sets p apart) ∙ ap (λ r. told_at record_of (old p) r) (kept p)

  -- where nothing changed
  pub same_tell : ((p : List ℕ) → new p ≡ old p) → (p : List ℕ) → told_at record_of (new p) (later p) ≡ told_at record_of (old p) (first p)
  same_tell same p = ap (λ o. told_at record_of o (later p)) (same p) ∙ ap (λ r. told_at record_of (old p) r) (kept p)

  -- of the path, where its place holds something now
  pub here_tells : (held : A) → Sets old new path (Some held) → told_at record_of (new path) (later path) ≡ told (record_of held)
  here_tells held sets = ap (λ o. told_at record_of o (later path)) (set_here old new path (Some held) sets)

  -- of all paths, where a place was made
  pub made_tells : (held : A) → old path ≡ None → Sets old new path (Some held) → told (record_of held) ≡ told (first path)
      → (p : List ℕ) → told_at record_of (new p) (later p) ≡ told_at record_of (old p) (first p)
  made_tells held none sets begins p =
      let before : (q : List ℕ) → Option Trace = λ q. told_at record_of (old q) (first q) in
      let after : (q : List ℕ) → Option Trace = λ q. told_at record_of (new q) (later q) in
      ⊎_elim (λ s. ap after s.0 ∙ here_tells held sets ∙ begins ∙ sym (ap (λ o. told_at record_of o (first path)) none) ∙ ap before (sym s.0))
      (λ o. others_tell (Some held) sets p o.0) (text_cases p path)
