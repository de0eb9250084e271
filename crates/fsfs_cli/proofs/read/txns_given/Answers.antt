use Rattle.std.proofs.Common.{◌≡◌, ◌∙◌, ℕ, List, [], map, ap, subst, codes}
use Rattle.std.specs.Prelude.{Option, Some, None, unwrap_or}
use Rattle.clap.specs.Words.{all_of, found_of, rows_of}
use Rattle.clap.proofs.WalkLemmas.{raw_values-rows}
use Rattle.fsfs_cli.specs.Grammars.{txns_named}
use Rattle.fsfs_cli.specs.Readings.{Finds}
use Rattle.fsfs_cli.proofs.read.txns_given.Goals as goal

pub returns-in-Some : goal.returns-in-Some
returns-in-Some c =
    let given : ◌≡◌ {A = Option (List (List ℕ))} (Some (map (λ word. word.now) c.in-Some.words.now)) (all_of (codes "TXN") (rows_of (found_of c.args.matches.now))) = c.in-Some.ensures ∙ raw_values-rows (found_of c.args.matches.now) (codes "TXN") in
    subst (λ (o : Option (List (ℕ × ℕ))). Finds {A = List (ℕ × ℕ)} o (λ names. names) c.read_txns.result) (ap (λ (o : Option (List (List ℕ))). txns_named (unwrap_or o [])) given) c.read_txns.ensures

pub returns-in-None : goal.returns-in-None
returns-in-None c =
    let given : ◌≡◌ {A = Option (List (List ℕ))} None (all_of (codes "TXN") (rows_of (found_of c.args.matches.now))) = c.in-None.ensures ∙ raw_values-rows (found_of c.args.matches.now) (codes "TXN") in
    subst (λ (o : Option (List (ℕ × ℕ))). Finds {A = List (ℕ × ℕ)} o (λ names. names) c.read_txns-in-None.result) (ap (λ (o : Option (List (List ℕ))). txns_named (unwrap_or o [])) given) c.read_txns-in-None.ensures
