use Rattle.lit_solve.proofs.CandidateLemmas.{HasFirst}
use Rattle.lit_solve.proofs.domains.candidates_of.Given as goal

abbrev pub invariant-loop-event : goal.invariant-loop-event
invariant-loop-event l = HasFirst l.candidates l.event-items l.event-index
