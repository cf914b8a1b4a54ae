use Rattle.lit_solve.proofs.Words.{box_of, refl}
use Rattle.lit_solve.proofs.PruningLemmas.{source_known}
use Rattle.lit_solve.proofs.SearchingLemmas.{left_less}
use Rattle.lit_solve.proofs.problem.Problem.bytes_at.Goals as goal

pub storing_same-group-requires-clause-source : goal.storing_same-group-requires-clause-source
storing_same-group-requires-clause-source c =
    source_known (box_of c.args.self.now c.args.frame.now) c.requires.contained.is_box c.args.place c.in-Some.source c.requires.place
    (c.loop-source.invariant c.in-Some.source c.in-Some.ensures.there)

pub storing_same-group-requires-clause-known : goal.storing_same-group-requires-clause-known
storing_same-group-requires-clause-known c w there =
    source_known (box_of c.args.self.now c.args.frame.now) c.requires.contained.is_box c.args.place w c.requires.place
    (c.loop-source.invariant w there)

pub loop-source-smaller : goal.loop-source-smaller
loop-source-smaller c =
    left_less c.loop-source.left c.in-Some.source c.in-Some._others c.storing_same-group.result c.difference-left.result c.in-Some.ensures
    c.difference-left.ensures ((c.storing_same-group.ensures c.in-Some.source).1 (c.in-Some.ensures.there, refl))

pub loop-source-preserved : goal.loop-source-preserved
loop-source-preserved c w there = c.loop-source.invariant w ((c.difference-left.ensures w).0 there).0
