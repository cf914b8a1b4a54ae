-- What a search for the first choice of a class says.
use Rattle.std.specs.Prelude.{ℕ, Option, MatchOption, length}
use Rattle.lit_syntax.specs.Syntax.{Litmus}
use Rattle.lit_paths.specs.Choice.{choices_of}
use Rattle.lit_valid.specs.declared.class.Class.{Class}
use Rattle.lit_search.specs.FirstOfClass.{HasNoneOf, IsFirstOf}
use Rattle.lit_search.specs.Report.{in_range}

-- of all choices the first of the class, or none is
abbrev pub IsFirstChoice : Litmus → Class → Option ℕ → Type 0
IsFirstChoice t class first =
    MatchOption first (HasNoneOf t class (in_range 0 (length (choices_of t)))) (IsFirstOf t class (in_range 0 (length (choices_of t))))
