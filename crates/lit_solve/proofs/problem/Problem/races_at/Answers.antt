use Rattle.lit_solve.proofs.Words.{arith, box_of, false≢true, split_less}
use Rattle.lit_solve.proofs.PruningLemmas.{source_known}
use Rattle.lit_solve.proofs.RacingLemmas.{may_have_source, read_number}
use Rattle.lit_solve.proofs.ReadByteLemmas.{vain_more}
use Rattle.lit_solve.proofs.problem.Problem.races_at.Goals as goal
use Rattle.lit_solve.proofs.problem.Problem.races_at.Goals.{else-are_apart-via-then-are_apart+else-may_have}
use Rattle.lit_solve.proofs.problem.Problem.races_at.Goals.{else-are_apart-via-else-are_apart}

pub are_apart-requires-clause-second : goal.are_apart-requires-clause-second
are_apart-requires-clause-second c =
    source_known (box_of c.args.self.now c.args.frame.now) c.requires.contained.is_box c.args.place c.in-Some.source c.requires.place
    (c.loop-source.invariant.left c.in-Some.source c.in-Some.ensures.there)

pub returns-then-may_have : goal.returns-then-may_have
returns-then-may_have c = grind (arith, read_number)

pub loop-source-smaller : goal.loop-source-smaller
loop-source-smaller c = split_less c.loop-source.left c.in-Some.source c.in-Some.others c.in-Some.ensures

pub loop-source-preserved : goal.loop-source-preserved
loop-source-preserved c = grind (arith, false≢true, read_number, vain_more)

pub returns : goal.returns
returns c = (
  (λ never. absurd (false≢true never)),
  (λ race. absurd (c.loop-source.invariant.in_vain race.source (may_have_source _ c.args.filling c.args.place race.source race.may_have)
      (c.in_default.ensures race.source) (race.may_have, race.apart))),
)
