use Rattle.std.proofs.Common.{◌≡◌, ◌==◌, ℕ, true, false, List, [], ◌∷◌, length, Ok, refl, sym, ap, subst, ◌∙◌, inl, inr, rules}
use Rattle.std.proofs.lemmas.List.{nil_from_length}
use Rattle.std.proofs.lemmas.Result.{err_from_is_err_and}
use Rattle.std.specs.Prelude.{Vec}
use Rattle.std.specs.declared.alloc.Global.{Global}
use Rattle.fsfs_revision.specs.Shows.Reading.{DirEntry as EntryValue, EntriesOf}
use Rattle.fsfs_revision.proofs.OneAnswer.{ok_same}
use Rattle.fsfs_revision.proofs.OneEntry.{entries_one}
use Rattle.fsfs_dag.specs.declared.directory.DirEntry.{DirEntry}
use Rattle.fsfs_dag.specs.Views.{entry_values}
use Rattle.fsfs_verify.specs.Roots.{IsWrongFirst}
use Rattle.fsfs_verify.proofs.Findings.{wrong_as}
use Rattle.fsfs_verify.proofs.roots.check_first.Goals as goal

pub returns-in_err-below-clause-told : goal.returns-in_err-below-clause-told
returns-in_err-below-clause-told g c = λ look knows.
    let v = c.args.root.now.node in
    let p = err_from_is_err_and c.from_residual.result c.from_residual.ensures.1 in
    rw (p.1, p.2) (wrong_as (λ (found : Vec DirEntry Global). entry_values found.items) (EntriesOf look v) (IsWrongFirst look v) c.in_err-below.field-0.0 (λ w h. inl h) (c.in_err-below.ensures.told look knows))

pub returns-then-not-is_new-clause-told : goal.returns-then-not-is_new-clause-told
returns-then-not-is_new-clause-told g c = λ look knows.
    rw c.breaks_rule.ensures (inr (entry_values c.in_ok-below.below.items, c.in_ok-below.ensures.told look knows, (λ first. c.is_new.ensures.other c.if-not-is_new.true (first.pred, first.props, first.copied)), refl))

pub returns-then-is_empty-clause-told : goal.returns-then-is_empty-clause-told
returns-then-is_empty-clause-told g c = λ look knows.
    let new = c.is_new.ensures.yes c.if-not-is_new.false in
    let none : c.in_ok-below.below.items ≡ [] = nil_from_length c.in_ok-below.below.items (search rules) in
    record { pred = new.0; props = new.1; copied = new.2; empty = subst (λ (es : List EntryValue). EntriesOf look c.args.root.now.node (Ok es)) (ap entry_values none) (c.in_ok-below.ensures.told look knows) }

no_values : (entries : List DirEntry) → entry_values entries ≡ [] → entries ≡ []
no_values [] none = refl
no_values (e ∷ entries) none = absurd cc

pub returns-clause-told : goal.returns-clause-told
returns-clause-told g c = λ look knows.
    let v = c.args.root.now.node in
    let below = c.in_ok-below.below in
    let told = c.in_ok-below.ensures.told look knows in
    rw c.breaks_rule-else-is_empty.ensures (inr (
      entry_values below.items,
      told,
      (λ first. (
          let same = ok_same (entry_values below.items) [] (entries_one look v (Ok (entry_values below.items)) (Ok []) told first.empty) in
          let zero : below.len ≡ 0 = below.ok.0 ∙ ap (λ (es : List DirEntry). length es) (no_values below.items same) in
          let more : true ≡ false = subst (λ (n : ℕ). (n == 0) ≡ false) zero (sym c.is_empty.ensures ∙ c.if-is_empty.false) in
          absurd cc)),
      refl,
    ))
