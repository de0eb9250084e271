-- From what is found among the words to what they ask for.
use Rattle.std.proofs.Common.{◌≡◌, ℕ, List, sym, ap, subst, ◌∙◌, option_map, option_and_then}
use Rattle.std.specs.Prelude.{Option, Some, None, Result, Ok, Err}
use Rattle.clap.specs.Words.{App, Row}
use Rattle.fsfs_base.specs.Paths.{Path}
use Rattle.fsfs_cli.specs.Words.{Asked, taken}
use Rattle.fsfs_cli.specs.declared.request.Request.{Request}
use Rattle.fsfs_cli.specs.Readings.{Refuses, Reads, GivesPath, IsPathGiven}
use Rattle.fsfs_cli.specs.declared.faults.words_fault.WordsFault.{WordsFault}
use Rattle.fsfs_cli.specs.declared.faults.words_fault.WordsFault.TheVariants.{Usage, BadPath, Memory}

-- the words of a command are taken, and its number is in its grammar
pub asked_with : {N : Type 0} (app : App) (words : List (List ℕ)) (rows : List Row) (asks : List Row → N → Asked) (number : List Row → Option N) (n : N) → taken app words ≡ Some rows → number rows ≡ Some n
    → option_and_then (λ r. option_map (asks r) (number r)) (taken app words) ≡ Some (asks rows n)
asked_with app words rows asks number n t v = ap (option_and_then (λ r. option_map (asks r) (number r))) t ∙ ap (option_map (asks rows)) v

-- a word that means no path is refused
pub bad_given : (asked : Option Asked) (a : Asked) (given : Option (List ℕ)) (fault : WordsFault) → asked ≡ Some a → a.path ≡ given → GivesPath given (Err fault) → Refuses asked fault
bad_given asked a None fault is p h = subst (λ (f : WordsFault). Refuses asked f) (sym h) tt
bad_given asked a (Some word) Usage is p h = absurd h
bad_given asked a (Some word) (BadPath bad) is p h = (a, is, (word, p, h))
bad_given asked a (Some word) Memory is p h = tt

pub good_given : (given : Option (List ℕ)) (path : Path) → GivesPath given (Ok path) → IsPathGiven given path
good_given None path h = h
good_given (Some word) path h = h

pub reads_fault : (asked : Option Asked) (r : Result Request WordsFault) (e fault : WordsFault) → r ≡ Err e → e ≡ fault → Refuses asked fault → Reads asked r
reads_fault asked r e fault is same h = subst (λ (x : Result Request WordsFault). Reads asked x) (sym (is ∙ ap (λ (f : WordsFault). Err f) same)) h
