-- Commands as they are built for clap, and the arguments of which a parse has a value.
use Rattle.std.specs.Prelude.{◌≡◌, ℕ, List, [], false, true, is_some}
use Rattle.clap.specs.Built.{AddsArg, AddsInTurn, IsParsedFrom, IsPlainArg, TakesValue}
use Rattle.clap.specs.Facts.{args_of, groups_of}
use Rattle.clap.specs.Words.{first_of, found_of, rows_of}
use Rattle.clap.specs.declared.builder.arg.Arg.{Arg}
use Rattle.clap.specs.declared.builder.command.Command.{Command}
use Rattle.clap.specs.declared.builder.command.Command.TheViews.{out-Command}
use Rattle.clap.specs.declared.parser.matches.ArgMatches.{ArgMatches}

-- an argument of this id, which has no rule on others
pub record Fits (name : List ℕ) (a : Arg) : Type 0 where
  pub id : a.id.now ≡ name
  pub plain : IsPlainArg a
  pub global : a.global ≡ false

-- one that has to be there, with a value
pub record NeedsValue (name : List ℕ) (a : Arg) : Type 0 where
  pub fits : Fits name a
  pub value : TakesValue a

-- a command that these arguments were added to in turn, and no others
pub record IsChain (xs : List Arg) (c : Command) : Type 0 where
  pub start : Command
  pub args : args_of start ≡ []
  pub groups : groups_of start ≡ []
  pub globals : (out-Command start).has_globals ≡ false
  pub negates : (out-Command start).subcommand_negates_reqs ≡ false
  pub adds : AddsInTurn AddsArg start xs c

-- wherever the command takes words, this argument has a value
abbrev pub HasValue : List ℕ → Command → Type 0
HasValue name c = (m : ArgMatches) → IsParsedFrom c m → is_some (first_of name (rows_of (found_of m))) ≡ true
