-- The invariant of an entered combination of a test's plan.
use Rattle.std.specs.Prelude.{◌≡◌, ℕ, ◌+◌, ◌<◌, ◌≤◌, length, map}
use Rattle.lit_syntax.specs.Syntax.{Litmus}
use Rattle.lit_paths.specs.declared.limits.TheConstants.{CHOICE_LIMIT}
use Rattle.lit_paths.specs.declared.combination.Combination.TheInside.{Inside}
use Rattle.lit_paths.specs.declared.combination.Formed.{Formed}
use Rattle.lit_paths.specs.ByteReads.{byte_reads, pair_of}
use Rattle.lit_paths.specs.Choice.{product, combinations_of}
use Rattle.lit_paths.specs.Plan.{choices_before, AreEventsIn}
use Rattle.lit_paths.specs.Internal.CandidateLists.{candidate_lists, ways_after}
use Rattle.lit_paths.specs.Internal.Combining.{AreCombinationPaths}
use Rattle.lit_paths.specs.Internal.Walks.{IsInLimits}

-- the paths and events of a combination with `total` choices, its byte reads with the candidates of each, and in how many
-- ways sources can be chosen for the byte reads after each
pub record IsFormed (t : Litmus) (c total : ℕ) (formed : Formed) : Type 0 where
  pub combination_paths : AreCombinationPaths t c formed.combination_paths
  pub sound : AreEventsIn t.bytes formed.combination_paths.events.items
  pub all_reads : map pair_of formed.reads.items ≡ byte_reads formed.combination_paths.events.items
  pub all_candidates : map (λ list. list.items) formed.ways.candidates.items
      ≡ candidate_lists formed.combination_paths.events.items formed.reads.items
  pub all_later : formed.ways.later.items ≡ ways_after (candidate_lists formed.combination_paths.events.items formed.reads.items)
  pub whole : total ≡ length (product (candidate_lists formed.combination_paths.events.items formed.reads.items))

-- what is computed of the combination, and how many choices come before it
pub record IsEntered (x : Inside) : Type 0 where
  pub limits : IsInLimits x.paths.now
  pub known : x.number < length (combinations_of x.paths.now)
  pub formed : IsFormed x.paths.now x.number x.total x.formed
  pub before : x.first ≡ choices_before x.paths.now x.number
  pub few : x.first + x.total ≤ CHOICE_LIMIT
