use Rattle.std.proofs.Common.{◌-◌, ◌^◌, arith, ap}
use Rattle.lit_syntax.specs.Litmus.{statement_of, statements_of}
use Rattle.lit_syntax.specs.StatementOrder.{count_with_parts, statement_count}
use Rattle.lit_syntax.proofs.TreeViews.{if_views}
use Rattle.lit_syntax.proofs.CountLemmas.{counted_more, counted_end}
use Rattle.lit_syntax.proofs.counts.+counting.Goals as goal

pub count_with_parts-returns-in-If : goal.count_with_parts-returns-in-If
count_with_parts-returns-in-If t c =
    omega (
      arith,
      ap (λ s. count_with_parts (statement_of s)) c.in-If.is,
      ap count_with_parts (if_views c.in-If.reg c.in-If.equal c.in-If.value c.in-If.body c.in-If.other),
      ap (λ xs. statement_count (statements_of xs)) c.deref.ensures.value,
      ap (λ xs. statement_count (statements_of xs)) c.deref-in-If.ensures.value,
      c.statement_count.ensures,
      c.statement_count-in-If.ensures,
      c.saturating_add.ensures,
      c.saturating_add-in-If.ensures,
    )

pub statement_count-loop-stmt-init : goal.statement_count-loop-stmt-init
statement_count-loop-stmt-init t c = record { few = omega arith; whole = omega arith }

pub statement_count-loop-stmt-preserved : goal.statement_count-loop-stmt-preserved
statement_count-loop-stmt-preserved t c =
    counted_more (2 ^ 64 - 1) c.args.body.now c.loop-stmt.stmt-index c.stmt-item.result c.loop-stmt.count c.count_with_parts.result c.saturating_add-count.result
    c.loop-stmt-test.true c.stmt-item.is c.count_with_parts.ensures c.saturating_add-count.ensures c.loop-stmt.invariant

pub statement_count-returns : goal.statement_count-returns
statement_count-returns t c = counted_end (2 ^ 64 - 1) c.args.body.now c.loop-stmt.stmt-index c.loop-stmt.count c.loop-stmt-test.false c.loop-stmt.invariant
