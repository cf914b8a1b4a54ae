use Rattle.lit_solve.proofs.Words.{arith, box_of, cases_eq, inr, split_less}
use Rattle.lit_solve.proofs.BranchingLemmas.{idle_at}
use Rattle.lit_solve.proofs.FrameLemmas.{not_true}
use Rattle.lit_solve.proofs.PruningLemmas.{source_known}
use Rattle.lit_solve.proofs.problem.Problem.can_force.Goals as goal

pub has_effect-requires-clause-source : goal.has_effect-requires-clause-source
has_effect-requires-clause-source c =
    source_known (box_of c.args.self.now c.args.frame.now) c.requires.contained.is_box c.args.place c.in-Some.source c.requires.place
    (c.loop-source.invariant.within c.in-Some.source c.in-Some.ensures.there)

pub loop-source-smaller : goal.loop-source-smaller
loop-source-smaller c = split_less c.loop-source.left c.in-Some.source c.in-Some.others c.in-Some.ensures

pub loop-source-preserved : goal.loop-source-preserved
loop-source-preserved c = grind (arith, cases_eq, not_true)

pub returns-clause-leaf : goal.returns-clause-leaf
returns-clause-leaf c _ =
    inr (idle_at (box_of c.args.self.now c.args.frame.now) c.args.place c.byte_read-read.result.read c.byte_read-read.result.byte
    c.byte_read-read.ensures.at (λ w there. c.loop-source.invariant.idle w there (c.in_default.ensures w)))
