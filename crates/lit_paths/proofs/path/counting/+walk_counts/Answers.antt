use Rattle.std.proofs.Common.{arith, ap, ◌∙◌, length, mul-le-mul, ◌≤◌}
use Rattle.lit_syntax.specs.Litmus.{statement_of, statements_of}
use Rattle.lit_syntax.proofs.TreeViews.{if_views}
use Rattle.lit_paths.specs.Path.{statement_walks, walks_of}
use Rattle.lit_paths.specs.Internal.Walks.{many_walks}
use Rattle.lit_paths.proofs.Walks.{length-walks-if}
use Rattle.lit_paths.proofs.Counts.{counted_none, counted_more, counted_end}
use Rattle.lit_paths.proofs.path.counting.+walk_counts.Goals as goal

pub walk_count-loop-statement-init : goal.walk_count-loop-statement-init
walk_count-loop-statement-init t c = counted_none many_walks c.args.body.now (omega arith)

pub walk_count-overflow_mul-count : goal.walk_count-overflow_mul-count
walk_count-overflow_mul-count t c =
    let few : c.loop-statement.count ≤ many_walks = c.loop-statement.invariant.few in
    let less : c.statement_walk_count.result ≤ many_walks = omega (arith, c.statement_walk_count.ensures) in
    omega (arith, mul-le-mul few less)

pub walk_count-loop-statement-preserved : goal.walk_count-loop-statement-preserved
walk_count-loop-statement-preserved t c =
    counted_more many_walks c.args.body.now c.loop-statement.statement-index c.statement-item.result c.loop-statement.count c.statement_walk_count.result c.min-count.result
    (omega arith) c.loop-statement-test.true c.statement-item.is c.statement_walk_count.ensures c.min-count.ensures c.loop-statement.invariant

pub walk_count-returns : goal.walk_count-returns
walk_count-returns t c = counted_end many_walks c.args.body.now c.loop-statement.statement-index c.loop-statement.count c.loop-statement-test.false c.loop-statement.invariant

pub statement_walk_count-returns-in-If : goal.statement_walk_count-returns-in-If
statement_walk_count-returns-in-If t c =
    let same = ap statement_of c.in-If.is ∙ if_views c.in-If.reg c.in-If.equal c.in-If.value c.in-If.body c.in-If.other in
    let both = ap (λ s. length (statement_walks s)) same ∙ length-walks-if c.in-If.reg c.in-If.equal c.in-If.value (statements_of c.in-If.body.items) (statements_of c.in-If.other.items) in
    omega (
      arith,
      both,
      c.min.ensures,
      c.walk_count.ensures,
      c.walk_count-in-If.ensures,
      ap (λ xs. length (walks_of (statements_of xs))) c.deref.ensures.value,
      ap (λ xs. length (walks_of (statements_of xs))) c.deref-in-If.ensures.value,
    )
