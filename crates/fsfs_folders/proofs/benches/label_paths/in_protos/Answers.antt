use Rattle.std.proofs.Common.{◌≡◌, rules, List, ℕ, ◌++◌, sym, ap, ◌∙◌}
use Rattle.std.specs.Prelude.{codes}
use Rattle.fsfs_folders.proofs.benches.label_paths.in_protos.Goals as goal

pub returns-in-Some : goal.returns-in-Some
returns-in-Some c =
    let cut = c.in-Some.ensures.cases in
    sym c.as_str.ensures.text ∙ cut.1.1 ∙ ap (λ (t : List ℕ). codes "db/txn-protorevs/" ++ t) (sym cut.2 ∙ sym c.new.ensures)
