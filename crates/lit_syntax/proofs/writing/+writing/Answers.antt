use Rattle.std.proofs.Common.{◌≡◌, Bool, ◌||◌, ap, sym, ◌∙◌}
use Rattle.lit_syntax.specs.Syntax.{Statement, statement_writes, writes}
use Rattle.lit_syntax.specs.Litmus.{statement_of, statements_of}
use Rattle.lit_syntax.proofs.TreeViews.{if_views, written_here}
use Rattle.lit_syntax.proofs.writing.+writing.Goals as goal

pub statement_writes-returns-then-writes : goal.statement_writes-returns-then-writes
statement_writes-returns-then-writes t c =
    let body : writes (statements_of c.in-If.body.items) c.args.reg ≡ c.writes.result = rw (← c.deref.ensures.value) (sym c.writes.ensures) in
    c.if-writes.true
    ∙ sym (ap (λ s. statement_writes (statement_of s) c.args.reg) c.in-If.is ∙ ap (λ (s : Statement). statement_writes s c.args.reg) (if_views c.in-If.reg c.in-If.equal c.in-If.value c.in-If.body c.in-If.other)
    ∙ ap (λ (b : Bool). b || writes (statements_of c.in-If.other.items) c.args.reg) (body ∙ c.if-writes.true))

pub statement_writes-returns-else-writes : goal.statement_writes-returns-else-writes
statement_writes-returns-else-writes t c =
    let body : writes (statements_of c.in-If.body.items) c.args.reg ≡ c.writes.result = rw (← c.deref.ensures.value) (sym c.writes.ensures) in
    let other : writes (statements_of c.in-If.other.items) c.args.reg ≡ c.writes-else-writes.result = rw (← c.deref-else-writes.ensures.value) (sym c.writes-else-writes.ensures) in
    sym (ap (λ s. statement_writes (statement_of s) c.args.reg) c.in-If.is ∙ ap (λ (s : Statement). statement_writes s c.args.reg) (if_views c.in-If.reg c.in-If.equal c.in-If.value c.in-If.body c.in-If.other)
    ∙ ap (λ (b : Bool). b || writes (statements_of c.in-If.other.items) c.args.reg) (body ∙ c.if-writes.false) ∙ other)

pub writes-returns-then-statement_writes : goal.writes-returns-then-statement_writes
writes-returns-then-statement_writes t c =
    (written_here c.args.body.now c.loop-stmt.stmt-index c.stmt-item.result c.args.reg c.statement_writes.result c.loop-stmt-test.true c.stmt-item.is c.statement_writes.ensures c.loop-stmt.invariant).0 c.if-statement_writes.true

pub writes-loop-stmt-preserved : goal.writes-loop-stmt-preserved
writes-loop-stmt-preserved t c =
    (written_here c.args.body.now c.loop-stmt.stmt-index c.stmt-item.result c.args.reg c.statement_writes.result c.loop-stmt-test.true c.stmt-item.is c.statement_writes.ensures c.loop-stmt.invariant).1 c.if-statement_writes.false
