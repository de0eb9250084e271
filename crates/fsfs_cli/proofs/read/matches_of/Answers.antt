use Rattle.std.proofs.Common.{◌≡◌, sym, map, string_bytes, ◌⊎◌, subst}
use Rattle.std.specs.Prelude.{Err}
use Rattle.clap.specs.Words.{app_of, found_of, rows_of, fault_of, IsAmong}
use Rattle.clap.specs.declared.error.kind.ErrorKind.TheVariants as kind
use Rattle.clap.specs.declared.parser.matches.ArgMatches.{ArgMatches}
use Rattle.fsfs_cli.specs.Words.{taken}
use Rattle.fsfs_cli.specs.Readings.{Finds}
use Rattle.fsfs_cli.proofs.TakenLemmas.{taken_some, refused_kind, is_simple_too}
use Rattle.fsfs_cli.proofs.read.matches_of.Goals.{in-OutOfMemory, in_default}
use Rattle.fsfs_cli.proofs.read.matches_of.Goals as goal

pub returns-in-Ok-clause-found : goal.returns-in-Ok-clause-found
returns-in-Ok-clause-found c =
    taken_some (app_of c.args.command) (map string_bytes c.args.words.now) (rows_of (found_of c.in-Ok.matches)) (c.in-Ok.ensures.kinds c.requires) (c.in-Ok.ensures.matches (is_simple_too (app_of c.args.command) c.requires)).0

pub returns-after-kind-clause-found : goal.returns-after-kind-clause-found
returns-after-kind-clause-found c =
    let app = app_of c.args.command in
    let words = map string_bytes c.args.words.now in
    elim c.match-kind.branch [
      | in-OutOfMemory w ↦ subst (λ fault. Finds {A = ArgMatches} (taken app words) (λ m. rows_of (found_of m)) (Err fault)) (sym w.result-is) tt
      | in_default w ↦
          let none = refused_kind app words c.kind.result (subst (λ k. (k ≡ kind.OutOfMemory) ⊎ IsAmong k (fault_of app words)) (sym c.kind.ensures) (c.in-Err.ensures.kinds c.requires)) w.in_default.not-OutOfMemory in
          subst (λ fault. Finds {A = ArgMatches} (taken app words) (λ m. rows_of (found_of m)) (Err fault)) (sym w.result-is) none
    ]
