-- What a check of a copy part answers, as one of an edge.
use Rattle.std.proofs.Common.{◌≡◌, ℕ, Bool, true, false, List, refl, sym, ap, ◌∙◌, inl, inr}
use Rattle.std.specs.Prelude.{◌≢◌, is_some, Option, Some, None, Result, Ok, Err}
use Rattle.fsfs_noderev.specs.declared.node_id.Part.{Part}
use Rattle.fsfs_noderev.specs.declared.node_rev.NodeRev.{NodeRev}
use Rattle.fsfs_revision.specs.Told.{RevisionBytes}
use Rattle.fsfs_revision.specs.declared.wrong.ReadError.{ReadError}
use Rattle.fsfs_revision.specs.Shows.Reading.{DirEntry}
use Rattle.fsfs_verify.specs.declared.parts.Parts.{Parts}
use Rattle.fsfs_verify.specs.Brought.{Brought}
use Rattle.fsfs_verify.specs.Copies.{TakesPart, IsWrongPart}
use Rattle.fsfs_verify.specs.Edges.{FitsEdge, TakesEdge, IsWrongEdge}
use Rattle.fsfs_verify.specs.Finds.{Finds}
use Rattle.fsfs_verify.proofs.Findings.{wrong_from}

pub some_not_none : {X : Type 0} (o : Option X) → is_some o ≡ true → o ≢ None
some_not_none o some none = let e : false ≡ true = ap is_some (sym none) ∙ some in cc

pub none_from : {X : Type 0} (o : Option X) → is_some o ≡ false → o ≡ None
none_from None e = refl
none_from (Some x) e = absurd cc

module _ (look : RevisionBytes) (rev : ℕ) (begun copied drawn : List Part) (new : Parts) (dir v : NodeRev) (before : Option DirEntry) (none : v.copy_from ≡ None) (fit : FitsEdge look dir v before) where
  pub edge_found : (result : Result (Unit {0}) ReadError) → Finds (λ _. (now : List Part) × TakesPart look rev copied dir v drawn now × Brought rev new begun copied now) (IsWrongPart look rev copied dir v) result
      → Finds (λ _. (now : List Part) × TakesEdge look rev copied dir v before drawn now × Brought rev new begun copied now) (IsWrongEdge look rev copied dir v before) result
  edge_found (Ok x) h = (h.0, inr (none, fit, h.1), h.2)
  edge_found (Err e) h = wrong_from (IsWrongPart look rev copied dir v) (IsWrongEdge look rev copied dir v before) e (λ w p. (none, inr p)) h
