use Rattle.lit_solve.proofs.BoxesLemmas.{AreFirstDomains}
use Rattle.lit_solve.proofs.boxes.Boxes.put.Given as goal

abbrev pub invariant-loop-place : goal.invariant-loop-place
invariant-loop-place l = AreFirstDomains l.self l.i l.domains l.place
