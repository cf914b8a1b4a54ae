-- What the command line's arguments take.
use Rattle.std.specs.Prelude.{◌≡◌, ◌<◌, ℕ, List, [], Some, true, false, length, codes}
use Rattle.std.specs.List.{slice_index_or}
use Rattle.std.specs.Str.{bytes_eq}
use Rattle.lit_desk.specs.declared.limits.TheConstants.{MOST_SEATS}
use Rattle.lit_paths.specs.declared.limits.TheConstants.{CHOICE_LIMIT}
use Rattle.clap.specs.Words.{args_of, groups_of}
use Rattle.clap.specs.Built.{NamesNoGroup}
use Rattle.clap.specs.declared.builder.arg.Arg.{Arg}
use Rattle.clap.specs.declared.builder.command.Command.{Command}
use Rattle.clap.specs.declared.builder.command.Command.TheViews.{out-Command}
use Rattle.clap.specs.declared.builder.value_parser.ValueParser.TheVariants as parsers

-- the argument has this name, and takes a number from the one to the other
pub record ReadsNumber (argument : Arg) (name : List ℕ) (low high : ℕ) : Type 0 where
  pub id : argument.id.now ≡ name
  pub parser : argument.value_parser ≡ Some (parsers.Unsigned low high)

-- of the command's arguments one alone has this name, and it takes a number from the one to the other
pub record TakesNumber (command : Command) (name : List ℕ) (low high : ℕ) : Type 0 where
  pub place : ℕ
  pub is_there : place < length (args_of command)
  pub reads : (none : Arg) → ReadsNumber (slice_index_or (args_of command) place none) name low high
  pub alone : (other : ℕ) (none : Arg) → other < length (args_of command)
      → bytes_eq (slice_index_or (args_of command) other none).id.now name ≡ true → other ≡ place

-- the command takes a number of workers and a number of choices, within their limits, and has no groups of arguments
pub record IsCommand (command : Command) : Type 0 where
  pub no_groups : groups_of command ≡ []
  pub ungrouped : NamesNoGroup command
  pub local : (out-Command command).has_globals ≡ false
  pub workers : TakesNumber command (codes "workers") 1 MOST_SEATS
  pub cut : TakesNumber command (codes "cut") 1 CHOICE_LIMIT
