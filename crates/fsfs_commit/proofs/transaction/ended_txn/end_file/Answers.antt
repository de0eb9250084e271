use Rattle.std.proofs.Common.{◌≡◌, ◌∙◌, List, ℕ, sym, ap, subst}
use Rattle.std.specs.Prelude.{Option, Some, None, option_map, length, IsSome, IfSome, is_some}
use Rattle.std.specs.FinMap.{get}
use Rattle.fsfs_base.specs.Files.{Files}
use Rattle.fsfs_disk.specs.Benches.{appended, bytes_on}
use Rattle.fsfs_disk.proofs.BenchLemmas.{firm_file, get-appended}
use Rattle.fsfs_commit.proofs.transaction.ended_txn.end_file.Goals as goal

is_there : (old new : Option Files) (file text : List ℕ) → new ≡ option_map (appended file text) old → IfSome new (λ m. IsSome (get m file))
is_there None new file text is = subst (λ o. IfSome o (λ m. IsSome (get m file))) (sym is) tt
is_there (Some m) new file text is = subst (λ o. IfSome o (λ m. IsSome (get m file))) (sym is) (ap (λ o. is_some o) (get-appended m file text))

pub returns-in-Ok-firm-clause-written : goal.returns-in-Ok-firm-clause-written
returns-in-Ok-firm-clause-written g c = c.in-Ok-firm.ensures.ok ∙ c.in-Ok.ensures.ok

pub returns-in-Ok-firm-clause-firm : goal.returns-in-Ok-firm-clause-firm
returns-in-Ok-firm-clause-firm g c =
    firm_file _ c.args.file.now _ (is_there _ _ c.args.file.now c.args.text.now (c.in-Ok-firm.ensures.ok ∙ c.in-Ok.ensures.ok)) (c.in-Ok-firm.ensures.firm ∙ ap (λ o. length (bytes_on o c.args.file.now)) (sym c.in-Ok-firm.ensures.ok))
