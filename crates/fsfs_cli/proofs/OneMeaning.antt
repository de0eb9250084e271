-- Words ask for one task, and those that ask for one are refused for want of memory alone.
use Rattle.std.proofs.Common.{◌≡◌, ℕ, List, refl, sym, ap, subst, ◌∙◌}
use Rattle.std.proofs.lemmas.Option.{same_Some, none-some}
use Rattle.std.specs.Prelude.{Option, Some}
use Rattle.fsfs_cli.specs.Readings.{IsPathGiven, Means, Asks, Refuses}
use Rattle.fsfs_cli.specs.Words.{Asked, asked}
use Rattle.fsfs_cli.specs.declared.faults.words_fault.WordsFault.{WordsFault}
use Rattle.fsfs_cli.specs.declared.faults.words_fault.WordsFault.TheVariants.{Usage, BadPath, Memory}
use Rattle.fsfs_cli.specs.declared.request.Task.{Task}
use Rattle.fsfs_cli.specs.declared.tool.Tool.{Tool}
use Rattle.fsfs_cli.proofs.PathWords.{one_path_given, path_not_bad}

one_meaning : (a : Asked) (r s : List ℕ) (x y : Task) → Means a r x → Means a s y → (r ≡ s) × (x ≡ y)
one_meaning a r s x y (first, (p, given, t)) (second, (q, also, u)) = (first ∙ sym second, t ∙ (ap a.task (one_path_given a.path p q given also) ∙ sym u))

pub one_task : (tool : Tool) (words : List (List ℕ)) (r s : List ℕ) (x y : Task) → Asks tool words r x → Asks tool words s y → (r ≡ s) × (x ≡ y)
one_task tool words r s x y (a, is, m) (b, also, n) = one_meaning b r s x y (subst (λ (k : Asked). Means k r x) (same_Some a b (sym is ∙ also)) m) n

pub refused_for_memory : (tool : Tool) (words : List (List ℕ)) (repos : List ℕ) (task : Task) (fault : WordsFault) → Asks tool words repos task → Refuses (asked tool words) fault → fault ≡ Memory
refused_for_memory tool words repos task Usage (a, is, m) none = absurd (none-some a (sym none ∙ is))
refused_for_memory tool words repos task (BadPath bad) (a, is, (same, (path, given, t))) (b, also, (word, w, wrong)) =
    let named : a.path ≡ Some word = ap (λ (k : Asked). k.path) (same_Some a b (sym is ∙ also)) ∙ w in
    absurd (path_not_bad word path bad.at bad.why (subst (λ (o : Option (List ℕ)). IsPathGiven o path) named given) wrong)
refused_for_memory tool words repos task Memory (a, is, m) none = refl
