-- Observed values: what registers have at the end of a combination's paths, by the sources of a part (this project's own).
use Rattle.std.specs.Prelude.{ℕ, Option, Some, None, List, map, slice_index_or}
use Rattle.lit_syntax.specs.Syntax.{Litmus}
use Rattle.lit_paths.specs.Outcome.{names_of}
use Rattle.lit_paths.specs.Plan.{first_event, path_in}
use Rattle.lit_rel.specs.Broken.{number_on}
use Rattle.lit_rel.specs.Part.{PartModel, part_events}
use Rattle.lit_rel.specs.ReadsFrom.{value_of}

-- the number of the read that a register, named by agent and register, observes
abbrev pub observed_read : Litmus → ℕ → ℕ × ℕ → Option ℕ
observed_read t c name = number_on (first_event t c name.0) (slice_index_or (path_in t c name.0).last name.1 None)

-- the value of a read by the sources given, or 0 where there is none
abbrev pub observed_value : PartModel → Option ℕ → ℕ
observed_value part None = 0
observed_value part (Some r) = value_of (part_events part) part.sources r

-- the outcome by the sources given
abbrev pub part_outcome : PartModel → List ℕ
part_outcome part = map (λ name. observed_value part (observed_read part.test part.combination name)) (names_of part.test)
