-- How many choices the combinations of a test have.
use Rattle.std.specs.Prelude.{ℕ, ◌+◌, List, map}
use Rattle.std.specs.List.{range_with_len}
use Rattle.lit_syntax.specs.Syntax.{Litmus}
use Rattle.lit_paths.specs.Plan.{choices_before}

-- the running totals of choices, up to each of the first `count` combinations
abbrev pub totals_below : Litmus → ℕ → List ℕ
totals_below t count = map (λ c. choices_before t (c + 1)) (range_with_len 0 count)
