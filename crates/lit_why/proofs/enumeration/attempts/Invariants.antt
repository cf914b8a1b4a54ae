use Rattle.std.proofs.Common.{[]}
use Rattle.lit_why.specs.Internal.Added.{Adds}
use Rattle.lit_why.proofs.AttemptLemmas.{IsLeastTryBefore}
use Rattle.lit_why.proofs.enumeration.attempts.Given as goal

abbrev pub invariant-loop-combination : goal.invariant-loop-combination
invariant-loop-combination l = Adds l.plan l.most (IsLeastTryBefore l.plan l.class l.combination) [] l.found.items
