-- What the words of the command line ask for, as `clap` reads them.
use Rattle.std.specs.Prelude.{◌≡◌, ◌≢◌, ◌&&◌, ◌||◌, ℕ, Bool, true, false, List, [], ◌∷◌}
use Rattle.std.specs.Prelude.{Option, Some, is_some, option_map, if◌then◌else◌, codes}
use Rattle.std.specs.Option.{option_map_or}
use Rattle.std.specs.Str.{bytes_eq}
use Rattle.clap.specs.Words.{App, IsAmong, Kinds, Row, Rule, Text, fault_of, first_of, matches_of, new_app, new_rule, with_rule}
use Rattle.clap.specs.Simple.{on_top}
use Rattle.clap.specs.Kinds.{or_else}
use Rattle.clap.specs.declared.builder.action.ArgAction.TheVariants.{Set, SetTrue}
use Rattle.clap.specs.declared.builder.value_parser.ValueParser.TheVariants as parsers
use Rattle.clap.specs.declared.error.kind.ErrorKind.{ErrorKind}
use Rattle.clap.specs.declared.error.kind.ErrorKind.TheVariants as kinds
use Rattle.lit_desk.specs.declared.limits.TheConstants.{MOST_SEATS}
use Rattle.lit_paths.specs.declared.limits.TheConstants.{CHOICE_LIMIT}
use Rattle.lit_command_line.specs.declared.command_line.Line.{Line}

-- a flag with a value, a flag with none, and the file
abbrev pub valued_flag : Text → Rule
valued_flag name = record (new_rule name) { long = Some name; value_names = 1; action = Some Set }

abbrev pub bare_flag : Text → Rule
bare_flag name = record (new_rule name) { long = Some name; action = Some SetTrue }

abbrev pub number_flag : Text → ℕ → Rule
number_flag name most = record (valued_flag name) { parser = Some (parsers.Unsigned 1 most) }

abbrev pub file_argument : Rule
file_argument = record (new_rule (codes "file")) { value_names = 1; action = Some Set }

-- the command, with a version and all that it takes
abbrev pub with_version : App → App
with_version a = on_top (λ s. record s { has_version = true }) a

abbrev pub jslit_command : App
jslit_command =
    with_rule (with_rule (with_rule (with_rule (with_rule (with_version (new_app (codes "jslit")))
    (number_flag (codes "workers") MOST_SEATS)) (number_flag (codes "cut") CHOICE_LIMIT)) (bare_flag (codes "quick")))
    (valued_flag (codes "schedule"))) file_argument

-- whether the flags that were read ask for the quick report, and whether one of them is a flag of a report
abbrev pub is_quick : List Row → Bool
is_quick rows = option_map_or (λ text. bytes_eq text (codes "true")) (first_of (codes "quick") rows) false

abbrev pub names_report : List Row → Bool
names_report rows = is_some (first_of (codes "workers") rows) || (is_some (first_of (codes "cut") rows) || is_quick rows)

-- a schedule stands with a flag of a report
abbrev pub is_excluded : List Row → Bool
is_excluded rows = is_some (first_of (codes "schedule") rows) && names_report rows

-- the same of the words
abbrev pub quick_in : List Text → Bool
quick_in words = is_quick (matches_of jslit_command words)

abbrev pub schedule_in : List Text → Option Text
schedule_in words = first_of (codes "schedule") (matches_of jslit_command words)

abbrev pub file_in : List Text → Option Text
file_in words = first_of (codes "file") (matches_of jslit_command words)

-- what the words are refused for, or answered with help or the version; they ask for a run exactly where that is nothing
abbrev pub faults_of : List Text → Kinds
faults_of words =
    or_else (fault_of jslit_command words) (if is_excluded (matches_of jslit_command words) then kinds.ArgumentConflict ∷ [] else [])

abbrev pub AsksHelp : List Text → Type 0
AsksHelp words = IsAmong kinds.DisplayHelp (faults_of words)

abbrev pub AsksVersion : List Text → Type 0
AsksVersion words = IsAmong kinds.DisplayVersion (faults_of words)

abbrev pub AsksRun : List Text → Type 0
AsksRun words = faults_of words ≡ []

abbrev pub IsRefused : List Text → Type 0
IsRefused words = (kind : ErrorKind) × IsAmong kind (faults_of words) × (kind ≢ kinds.DisplayHelp) × (kind ≢ kinds.DisplayVersion)

-- the line is that of these words
pub record IsAsked (words : List Text) (line : Line) : Type 0 where
  pub run : AsksRun words
  pub quick : line.options.quick ≡ quick_in words
  pub schedule : option_map (λ s. s.now) line.schedule ≡ schedule_in words
  pub file : option_map (λ s. s.now) line.file ≡ file_in words
