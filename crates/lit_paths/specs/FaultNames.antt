-- The limit that a test exceeds, as it is shown (this project's own).
use Rattle.std.specs.Prelude.{ℕ, List, codes}
use Rattle.lit_paths.specs.declared.fault.PlanFault.{PlanFault}
use Rattle.lit_paths.specs.declared.fault.PlanFault.TheVariants as limits

-- the limit that a test exceeds, by its number and its name
abbrev pub limit_text : PlanFault → List ℕ
limit_text limits.TooManyPaths = codes "13 too_many_paths"
limit_text limits.TooManyEvents = codes "14 too_many_events"
limit_text limits.TooManyChoices = codes "15 too_many_choices"
limit_text limits.OutOfMemory = codes "out_of_memory"
