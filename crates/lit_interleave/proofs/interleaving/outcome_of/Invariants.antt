use Rattle.lit_interleave.proofs.Words.{[], map, slice_index, slice_index_or, take, ◌≡◌}
use Rattle.lit_interleave.proofs.interleaving.outcome_of.Given as goal

abbrev pub invariant-loop-name : goal.invariant-loop-name
invariant-loop-name l = l.outcome.items ≡ map (λ name. slice_index (slice_index_or (map (λ runner. runner.registers) l.runners) name.0 []) name.1) (take l.name-index l.name-items)
