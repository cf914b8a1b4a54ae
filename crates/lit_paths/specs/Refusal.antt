-- When a test is refused: its events, its combinations or its choices are too many (this project's own).
use Rattle.std.specs.Prelude.{ℕ, ◌<◌, ◌≤◌, All, Any, List, length, map}
use Rattle.std.specs.List.{flat_map}
use Rattle.lit_syntax.specs.Syntax.{Litmus}
use Rattle.lit_paths.specs.declared.limits.TheConstants.{ACCESS_LIMIT, COMBINATION_LIMIT, CHOICE_LIMIT}
use Rattle.lit_paths.specs.declared.event.Event.{Event}
use Rattle.lit_paths.specs.declared.fault.PlanFault.{PlanFault}
use Rattle.lit_paths.specs.declared.fault.PlanFault.TheVariants.{TooManyEvents, TooManyPaths, TooManyChoices, OutOfMemory}
use Rattle.lit_paths.specs.Path.{Path}
use Rattle.lit_paths.specs.Choice.{combinations_of, choices_of}

-- the events of the accesses on a combination of paths: agents in order
abbrev pub accesses_on : List Path → List Event
accesses_on paths = flat_map (λ events. events) (map (λ path. path.events) paths)

-- no combination of paths has more access events than are allowed
abbrev pub HasFewEvents : Litmus → Type 0
HasFewEvents t = All (λ paths. length (accesses_on paths) ≤ ACCESS_LIMIT) (combinations_of t)

-- when a test is refused: of several refusals the first decides
abbrev pub IsRefusal : Litmus → PlanFault → Type 0
IsRefusal t TooManyEvents = Any (λ paths. ACCESS_LIMIT < length (accesses_on paths)) (combinations_of t)
IsRefusal t TooManyPaths = HasFewEvents t × (COMBINATION_LIMIT < length (combinations_of t))
IsRefusal t TooManyChoices = HasFewEvents t × (length (combinations_of t) ≤ COMBINATION_LIMIT) × (CHOICE_LIMIT < length (choices_of t))
IsRefusal t OutOfMemory = ⊥
