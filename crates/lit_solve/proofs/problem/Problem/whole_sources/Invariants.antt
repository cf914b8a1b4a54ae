use Rattle.lit_solve.proofs.Words.{box_of, byte_read_at, events_on, GivenIn, HasEvent, ReadsWholeBy, ℕ}
use Rattle.lit_solve.proofs.problem.Problem.whole_sources.Given as goal

abbrev pub invariant-loop-other : goal.invariant-loop-other
invariant-loop-other l =
    (u : ℕ) → HasEvent l.whole u → ReadsWholeBy (events_on l.self) (GivenIn (box_of l.self l.frame)) (byte_read_at (events_on l.self) l.place).0 u
