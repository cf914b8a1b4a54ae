use Rattle.lit_solve.proofs.Words.{arith, box_of, common_steps}
use Rattle.lit_solve.proofs.FrameLemmas.{contained_with, not_true, synchronized_apart, synchronized_at, synchronized_before}
use Rattle.lit_solve.proofs.problem.Problem.put_synchronized.Goals as goal

pub returns-then-not-can_synchronize-clause-there : goal.returns-then-not-can_synchronize-clause-there
returns-then-not-can_synchronize-clause-there c =
    grind (arith, common_steps, not_true, synchronized_apart, c.byte_read-read.ensures.at, c.can_synchronize.ensures)

pub returns-clause-contained : goal.returns-clause-contained
returns-clause-contained c =
    contained_with (box_of c.args.self.now c.args.frame.now) c.args.frame.now _ c.in-Some.source c.byte_read-read.result.read c.requires.contained
    (synchronized_before (box_of c.args.self.now c.args.frame.now) c.args.place c.byte_read-read.result.read c.byte_read-read.result.byte
    c.in-Some.source c.byte_read-read.ensures.at c.in-Some.ensures.0
    (c.can_synchronize.ensures.0 c.if-not-can_synchronize.false))
    (record { len = c.close_with.ensures.len; pairs = c.close_with.ensures.pairs; transitive = c.close_with.ensures.transitive })
    (record { len = c.close_with-2.ensures.len; pairs = c.close_with-2.ensures.pairs; transitive = c.close_with-2.ensures.transitive })

pub returns-clause-there : goal.returns-clause-there
returns-clause-there c =
    grind (arith, common_steps, synchronized_at, c.byte_read-read.ensures.at, c.close_with.ensures.pairs)

pub returns-then-holds-clause-there : goal.returns-then-holds-clause-there
returns-then-holds-clause-there c = grind (arith, common_steps, synchronized_at, c.byte_read-read.ensures.at, c.holds.ensures)
