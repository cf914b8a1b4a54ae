use Rattle.lit_solve.proofs.Words.{arith, box_of, Holds}
use Rattle.lit_solve.proofs.CompletionLemmas.{coherent_by_order, no_cycle_by_order}
use Rattle.lit_solve.proofs.problem.Problem.is_disordered.Goals as goal

pub returns-then-has_cycle : goal.returns-then-has_cycle
returns-then-has_cycle c _ x is =
    let box = box_of c.args.self.now c.args.frame.now in
    let cycle = c.has_cycle.ensures.0 c.if-has_cycle.true in
    no_cycle_by_order box x is c.laws_below.ensures c.requires.contained.is_box cycle.0 (c.requires.sound.ordered cycle.0 cycle.0 cycle.1)

pub returns-then-not-has_coherent : goal.returns-then-not-has_coherent
returns-then-not-has_coherent c _ x is =
    let box = box_of c.args.self.now c.args.frame.now in
    coherent_by_order box x is (Holds c.args.ordered.now.rows) c.requires.sound.ordered c.loop-place.place
    (omega (arith, c.reads-place-end.ensures.value, c.loop-place-test.true)) (c.has_coherent.ensures c.if-not-has_coherent.true)
