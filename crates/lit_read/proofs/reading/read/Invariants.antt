use Rattle.std.proofs.Common.{length, ◌+◌, unwrap_or}
use Rattle.std.specs.Option.{option_map}
use Rattle.lit_read.specs.Internal.Views.{state_view}
use Rattle.lit_read.proofs.Progress.{Progress}
use Rattle.lit_read.proofs.reading.read.Given as goal

abbrev pub invariant-loop-rest : goal.invariant-loop-rest
invariant-loop-rest l = Progress l.text l.number (state_view l.draft) (option_map (λ x. x.now) l.rest)

abbrev pub decreases-loop-rest : goal.decreases-loop-rest
decreases-loop-rest l = unwrap_or (option_map (λ x. length x.now + 1) l.rest) 0
