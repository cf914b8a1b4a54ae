use Rattle.lit_paths.specs.Members.{IsCandidate}
use Rattle.lit_solve.specs.Box.{events_on}
use Rattle.lit_why.proofs.DomainLemmas.{AreFirstBy}
use Rattle.lit_why.proofs.domains.all_candidates.Given as goal

abbrev pub invariant-loop-place : goal.invariant-loop-place
invariant-loop-place l = AreFirstBy l.combination (λ p w. IsCandidate (events_on l.combination) p.0 p.1 w) l.domains l.place
