-- The sources of a choice, or of its first byte reads, with the numbers of the choices that begin with them.
use Rattle.std.specs.Prelude.{◌≡◌, ◌<◌, ◌≤◌, ◌+◌, ℕ, length, slice_index_or, take}
use Rattle.lit_syntax.specs.Syntax.{Litmus}
use Rattle.lit_paths.specs.ByteReads.{byte_reads}
use Rattle.lit_paths.specs.Numbers.{AreNumbered, ways_from}
use Rattle.lit_paths.specs.Plan.{events_in}
use Rattle.lit_report.specs.declared.choice_sources.ChoiceSources.{ChoiceSources}

-- The k-th number is that of the first choice on combination c that has the first k + 1 sources.
pub record HoldsSources (t : Litmus) (c : ℕ) (cached : ChoiceSources) : Type 0 where
  pub one_each : length cached.lows.items ≡ length cached.sources.items
  pub few : length cached.sources.items ≤ length (byte_reads (events_in t c))
  pub numbered : (k : ℕ) → k < length cached.lows.items
      → AreNumbered t c (take (k + 1) cached.sources.items) (slice_index_or cached.lows.items k 0) (ways_from (events_in t c) (k + 1))
