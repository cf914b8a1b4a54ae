use Rattle.std.proofs.Common.{arith, ap, ◌∙◌}
use Rattle.lit_syntax.specs.Litmus.{statement_of, statements_of}
use Rattle.lit_syntax.proofs.TreeViews.{if_views}
use Rattle.lit_paths.specs.Internal.Walks.{many_accesses, longest, statement_longest}
use Rattle.lit_paths.proofs.Counts.{measured_more, measured_end}
use Rattle.lit_paths.proofs.path.counting.+longest_walks.Goals as goal

pub longest_walk-overflow_add-count : goal.longest_walk-overflow_add-count
longest_walk-overflow_add-count t c = omega (arith, c.loop-statement.invariant.0, c.longest_statement_walk.ensures)

pub longest_walk-loop-statement-preserved : goal.longest_walk-loop-statement-preserved
longest_walk-loop-statement-preserved t c = (
  omega (arith, c.min-count.ensures),
  measured_more many_accesses c.args.body.now c.loop-statement.statement-index c.statement-item.result c.loop-statement.count c.longest_statement_walk.result c.min-count.result
      c.loop-statement-test.true c.statement-item.is c.longest_statement_walk.ensures c.min-count.ensures c.loop-statement.invariant.1,
)

pub longest_walk-returns : goal.longest_walk-returns
longest_walk-returns t c = measured_end many_accesses c.args.body.now c.loop-statement.statement-index c.loop-statement.count c.loop-statement-test.false c.loop-statement.invariant.0 c.loop-statement.invariant.1

pub longest_statement_walk-returns-in-If : goal.longest_statement_walk-returns-in-If
longest_statement_walk-returns-in-If t c =
    let same = ap statement_of c.in-If.is ∙ if_views c.in-If.reg c.in-If.equal c.in-If.value c.in-If.body c.in-If.other in
    omega (
      arith,
      ap statement_longest same,
      c.max.ensures,
      c.longest_walk.ensures,
      c.longest_walk-in-If.ensures,
      ap (λ xs. longest (statements_of xs)) c.deref.ensures.value,
      ap (λ xs. longest (statements_of xs)) c.deref-in-If.ensures.value,
    )
