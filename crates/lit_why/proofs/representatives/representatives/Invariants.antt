use Rattle.lit_why.specs.Internal.Trials.{IsRepresentative}
use Rattle.lit_why.proofs.DomainLemmas.{AreFirstBy}
use Rattle.lit_why.proofs.representatives.representatives.Given as goal

abbrev pub invariant-loop-place : goal.invariant-loop-place
invariant-loop-place l = AreFirstBy l.combination (IsRepresentative l.combination) l.domains l.place
