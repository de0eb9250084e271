-- Changes made one after another.
use Rattle.std.proofs.Common.{◌≡◌, ◌∙◌, ◌+◌, ◌<◌, ℕ, length, take, drop, get_or, List, [], ◌∷◌, ◌++◌, Option, Some, None, refl, sym, ap, subst, append_assoc}
use Rattle.std.specs.Prelude.{option_map}
use Rattle.std.proofs.lemmas.List.{take_more, take-append-drop}
use Rattle.fsfs_base.specs.Files.{Files}
use Rattle.fsfs_base.specs.Grammar.Relations.{Appends}
use Rattle.fsfs_txn_files.specs.Changes.{changed, changed_all, IsStoppedAt, IsStopped}
use Rattle.fsfs_txn_files.specs.declared.change.FileChange.{FileChange}
use Rattle.fsfs_txn_files.specs.declared.write_error.FileFault.{FileFault}

-- what was written at the end of nothing is all
pub alone : {X : Type 0} (G : List ℕ → X → Type 0) (old new : List ℕ) (x : X) → old ≡ [] → Appends G old new x → G new x
alone G old new x none w = subst (λ (t : List ℕ). G t x) (sym (w.parts ∙ ap (λ (o : List ℕ). o ++ w.text) none)) w.text_is

-- ---- several

pub none_made : (old : Option Files) → old ≡ option_map (changed_all []) old
none_made None = refl
none_made (Some m) = refl

changed-push : (cs : List FileChange) (c : FileChange) (m : Files) → changed_all (cs ++ c ∷ []) m ≡ changed c (changed_all cs m)
changed-push [] c m = refl
changed-push (d ∷ cs) c m = changed-push cs c (changed d m)

one_more : (cs : List FileChange) (c : FileChange) (old : Option Files) → option_map (changed c) (option_map (changed_all cs) old) ≡ option_map (changed_all (cs ++ c ∷ [])) old
one_more cs c None = refl
one_more cs c (Some m) = ap (λ (n : Files). Some n) (sym (changed-push cs c m))

taken_more : (cs : List FileChange) (k : ℕ) (c : FileChange) → k < length cs → c ≡ get_or cs k c → take (k + 1) cs ≡ take k cs ++ c ∷ []
taken_more cs k c lt is = take_more cs k c lt ∙ ap (λ (x : FileChange). take k cs ++ x ∷ []) (sym is)

pub made_more : (cs : List FileChange) (k : ℕ) (c : FileChange) (old mid new : Option Files) → k < length cs → c ≡ get_or cs k c → mid ≡ option_map (changed_all (take k cs)) old → new ≡ option_map (changed c) mid
    → new ≡ option_map (changed_all (take (k + 1) cs)) old
made_more cs k c old mid new lt is so next =
    next ∙ ap (λ (o : Option Files). option_map (changed c) o) so ∙ one_more (take k cs) c old ∙ ap (λ (l : List FileChange). option_map (changed_all l) old) (sym (taken_more cs k c lt is))

pub stopped : (cs : List FileChange) (k : ℕ) (c : FileChange) (old mid new : Option Files) (fault : FileFault) → k < length cs → c ≡ get_or cs k c → mid ≡ option_map (changed_all (take k cs)) old → IsStoppedAt c.file mid new fault
    → IsStopped cs old new fault
stopped cs k c old mid new fault lt is so at = record {
  made = take k cs;
  next = c;
  rest = drop (k + 1) cs;
  all = sym (take-append-drop (k + 1) cs) ∙ ap (λ (l : List FileChange). l ++ drop (k + 1) cs) (taken_more cs k c lt is) ∙ append_assoc (take k cs) (c ∷ []) (drop (k + 1) cs);
  at = subst (λ (o : Option Files). IsStoppedAt c.file o new fault) so at;
}
