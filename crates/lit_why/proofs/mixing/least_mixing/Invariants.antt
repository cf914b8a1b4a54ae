use Rattle.lit_why.proofs.MixingLemmas.{HasNoneBefore}
use Rattle.lit_why.proofs.mixing.least_mixing.Given as goal

abbrev pub invariant-loop-combination : goal.invariant-loop-combination
invariant-loop-combination l = HasNoneBefore l.plan l.goal l.combination
