-- Which reads are asked about: those whose values decide whether the guards of the paths hold and whether the outcome meets the condition
-- (this project's own).
use Rattle.std.specs.Prelude.{ℕ, ◌==◌, ◌&&◌, ◌||◌, Bool, false, Option, None, Some, List, length}
use Rattle.std.specs.List.{list_any, range_with_len}
use Rattle.lit_syntax.specs.Syntax.{Litmus}
use Rattle.lit_paths.specs.declared.path.Tested.{Tested}
use Rattle.lit_paths.specs.Outcome.{asks, names_of}
use Rattle.lit_paths.specs.Plan.{first_event, path_in}
use Rattle.lit_rel.specs.Broken.{number_on}
use Rattle.lit_valid.specs.PartOutcome.{observed_read}

-- whether it is this number
abbrev pub is_number : Option ℕ → ℕ → Bool
is_number None r = false
is_number (Some n) r = n == r

-- whether one of these guards, on a path whose first event has this number, is on read r
abbrev pub is_tested_by : List Tested → ℕ → ℕ → Bool
is_tested_by guards first r = list_any (λ guard. is_number (number_on first guard.on) r) guards

-- whether a guard of an agent's path is on read r; that of a compareExchange is on its own read
abbrev pub is_tested_of : Litmus → ℕ → ℕ → ℕ → Bool
is_tested_of t c r agent = is_tested_by (path_in t c agent).tests (first_event t c agent) r

abbrev pub is_tested : Litmus → ℕ → ℕ → Bool
is_tested t c r = list_any (is_tested_of t c r) (range_with_len 0 (length t.agents))

-- whether the condition names this register, and read r is the last one into it
abbrev pub is_named_as : Litmus → ℕ → ℕ → ℕ × ℕ → Bool
is_named_as t c r name = asks t.check name.0 name.1 && is_number (observed_read t c name) r

abbrev pub is_named : Litmus → ℕ → ℕ → Bool
is_named t c r = list_any (is_named_as t c r) (names_of t)

-- whether read r is asked about, by a guard or by the condition
abbrev pub is_asked : Litmus → ℕ → ℕ → Bool
is_asked t c r = is_tested t c r || is_named t c r
