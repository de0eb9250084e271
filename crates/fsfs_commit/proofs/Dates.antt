-- A date that was set among the properties has its form.
use Rattle.std.proofs.Common.{◌≡◌, ◌∙◌, ℕ, List, cond, sym, ap, subst}
use Rattle.std.specs.Prelude.{Some}
use Rattle.std.specs.Map.{lookup}
use Rattle.std.specs.BTreeMap.{is_at}
use Rattle.std.specs.Cmp.Lexicographic.{slice_cmp}
use Rattle.std.specs.Ordering.{nat_cmp}
use Rattle.fsfs_base.proofs.PathLemmas.{same_name-refl}
use Rattle.fsfs_base.specs.Fields.Dates.{IsDateText}
use Rattle.fsfs_tree.specs.Dated.{date_name, IsDated}
use Rattle.fsfs_commit.specs.Transaction.Dating.{IsDatedAt}
use Rattle.fsfs_revision.proofs.PairLookups.{found_put}

pub dated_form : (micros : ℕ) (old new : List (List ℕ × List ℕ)) → IsDatedAt micros old new → IsDated new
dated_form micros old new is value found =
    let here : lookup (is_at (slice_cmp nat_cmp date_name)) new ≡ Some is.0 =
    ap (λ l. lookup (is_at (slice_cmp nat_cmp date_name)) l) is.2 ∙ found_put old date_name is.0 date_name ∙ ap (λ b. cond b (Some is.0) (lookup (is_at (slice_cmp nat_cmp date_name)) old)) (same_name-refl date_name) in
    let same : is.0 ≡ value = (let e : Some is.0 ≡ Some value = sym here ∙ found in cc) in
    (is.1.0, subst (λ t. IsDateText t is.1.0) same is.1.2)
