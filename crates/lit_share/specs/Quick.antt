-- The quick answer on a test (this project's own): of each class of outcomes the least choice, with its least memory-order.
use Rattle.std.specs.Prelude.{length, Option, Some, None}
use Rattle.lit_syntax.specs.Syntax.{Litmus}
use Rattle.lit_paths.specs.Choice.{choices_of}
use Rattle.lit_valid.specs.declared.class.Class.{Class}
use Rattle.lit_search.specs.declared.found.Example.{Example}
use Rattle.lit_search.specs.FirstOfClass.{HasNoneOf, IsFirstOf}
use Rattle.lit_valid.specs.Gives.{HasLeastOrder}
use Rattle.lit_search.specs.Report.{in_range}

-- Of all choices the first with a valid execution whose outcome is in the class, with its least memory-order; or none has one.
abbrev pub IsQuickAnswer : Litmus → Class → Option Example → Type 0
IsQuickAnswer t class None = HasNoneOf t class (in_range 0 (length (choices_of t)))
IsQuickAnswer t class (Some example) =
    IsFirstOf t class (in_range 0 (length (choices_of t))) example.choice × HasLeastOrder t example.choice example.order.items
