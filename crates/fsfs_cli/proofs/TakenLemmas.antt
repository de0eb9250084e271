-- What clap answers, and what it finds in the words.
use Rattle.std.proofs.Common.{◌≡◌, ℕ, List, [], ◌∷◌, Bool, true, false, cond, ◌⊎◌, inl, inr, refl, sym, ap, ◌∙◌, arith}
use Rattle.std.proofs.lemmas.Bool.{and_parts}
use Rattle.std.specs.Prelude.{Some, None, codes}
use Rattle.clap.specs.Words.{App, Row, fault_of, matches_of, is_simple, is_simple_and_free, IsAmong, Kinds}
use Rattle.clap.specs.Faults.{is_free_app}
use Rattle.clap.specs.Simple.{built}
use Rattle.clap.specs.Walk.{is_empty}
use Rattle.clap.specs.declared.error.kind.ErrorKind.{ErrorKind}
use Rattle.clap.specs.declared.error.kind.ErrorKind.TheVariants as kind
use Rattle.clap.proofs.OnLiterals.{clap_on_literals}
use Rattle.fsfs_cli.specs.Commands.{create_app, jobs_app, lstxns_app, rmtxns_app, youngest_app, uuid_app, revision_app, tree_app, history_app, cat_app}
use Rattle.fsfs_cli.specs.Words.{taken}

pub is_simple_too : (app : App) → is_simple_and_free app ≡ true → is_simple app ≡ true
is_simple_too app h = (and_parts (is_simple app) (is_free_app (built app)) h).0

pub taken_some : (app : App) (words : List (List ℕ)) (rows : List Row) → fault_of app words ≡ [] → rows ≡ matches_of app words → taken app words ≡ Some rows
unfolding taken
taken_some app words rows none is = ap (λ (kinds : Kinds). cond (is_empty kinds) (Some (matches_of app words)) None) none ∙ ap (λ (r : List Row). Some r) (sym is)

not_empty : (k : ErrorKind) (kinds : Kinds) → IsAmong k kinds → is_empty kinds ≡ false
not_empty k [] h = absurd h
not_empty k (x ∷ xs) h = grind arith

pub not_taken : (app : App) (words : List (List ℕ)) (k : ErrorKind) → IsAmong k (fault_of app words) → taken app words ≡ None
unfolding taken
not_taken app words k among = ap (λ (b : Bool). cond b (Some (matches_of app words)) None) (not_empty k (fault_of app words) among)

-- an error of another kind than memory says that the words aren't taken
pub refused_kind : (app : App) (words : List (List ℕ)) (k : ErrorKind) → (k ≡ kind.OutOfMemory) ⊎ IsAmong k (fault_of app words) → (k ≡ kind.OutOfMemory → ⊥) → taken app words ≡ None
refused_kind app words k (inl e) not = absurd (not e)
refused_kind app words k (inr among) not = not_taken app words k among
