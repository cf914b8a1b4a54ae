use Rattle.std.proofs.Common.{◌≡◌, ◌+◌, ◌++◌, ℕ, List, arith, ap, sym, ◌∙◌}
use Rattle.lit_syntax.specs.Litmus.{statement_of, statements_of}
use Rattle.lit_syntax.specs.StatementOrder.{count_with_parts, statement_count}
use Rattle.lit_syntax.proofs.TreeViews.{if_views}
use Rattle.lit_paths.specs.declared.path.Tested.{Tested}
use Rattle.lit_paths.specs.Internal.Makers.{makers_by_guards}
use Rattle.lit_paths.specs.Internal.Walks.{longest}
use Rattle.lit_paths.proofs.Stepping.{IsIf, if_known, size_of, size_of-item, size_of-parts}
use Rattle.lit_paths.proofs.MakerSteps.{finding_begins, finding_more, finding_ends, is_next, found-then, found-else}
use Rattle.lit_paths.proofs.path.makers.+finding.Goals as goal

pub find_makers-loop-statement-init : goal.find_makers-loop-statement-init
find_makers-loop-statement-init t c = finding_begins c.args.body.now c.args.first c.args.guards.now c.args.makers.now.items

pub find_makers-find_makers_at-left-requires : goal.find_makers-find_makers_at-left-requires
find_makers-find_makers_at-left-requires t c =
    let next = is_next c.args.body.now c.loop-statement.statement-index c.statement-item.result c.loop-statement-test.true c.statement-item.is in (
      omega (arith, size_of-item c.args.body.now c.loop-statement.statement-index c.statement-item.result c.loop-statement-test.true c.statement-item.is),
      (
        omega (arith, next.long, c.loop-statement.invariant.room, c.requires.room),
        omega (arith, next.count, c.loop-statement.invariant.count, c.requires.fits),
      ),
    )

pub find_makers-overflow_add-number : goal.find_makers-overflow_add-number
find_makers-overflow_add-number t c =
    let next = is_next c.args.body.now c.loop-statement.statement-index c.statement-item.result c.loop-statement-test.true c.statement-item.is in
    omega (arith, next.count, c.loop-statement.invariant.count, c.requires.fits, c.count_with_parts-number.ensures)

pub find_makers-loop-statement-preserved : goal.find_makers-loop-statement-preserved
find_makers-loop-statement-preserved t c =
    let next = is_next c.args.body.now c.loop-statement.statement-index c.statement-item.result c.loop-statement-test.true c.statement-item.is in
    let number : c.loop-statement.number + c.count_with_parts-number.result ≡ c.loop-statement.number + count_with_parts (statement_of c.statement-item.result) =
    omega (arith, next.count, c.loop-statement.invariant.count, c.requires.fits, c.count_with_parts-number.ensures) in
    finding_more c.args.body.now c.args.first c.args.guards.now c.args.makers.now.items c.loop-statement.statement-index c.loop-statement.number c.loop-statement.left.now c.loop-statement.makers.items c.statement-item.result
    _ c.find_makers_at-left.result.now c.find_makers_at-left.new.makers.items
    c.loop-statement-test.true c.statement-item.is c.find_makers_at-left.ensures.makers c.find_makers_at-left.ensures.left number c.loop-statement.invariant

pub find_makers-returns-clause-makers : goal.find_makers-returns-clause-makers
find_makers-returns-clause-makers t c =
    (finding_ends c.args.body.now c.args.first c.args.guards.now c.args.makers.now.items c.loop-statement.statement-index c.loop-statement.number c.loop-statement.left.now c.loop-statement.makers.items
    c.loop-statement-test.false c.loop-statement.invariant).0

pub find_makers-returns-clause-left : goal.find_makers-returns-clause-left
find_makers-returns-clause-left t c =
    (finding_ends c.args.body.now c.args.first c.args.guards.now c.args.makers.now.items c.loop-statement.statement-index c.loop-statement.number c.loop-statement.left.now c.loop-statement.makers.items
    c.loop-statement-test.false c.loop-statement.invariant).1

pub find_makers_at-find_makers-requires : goal.find_makers_at-find_makers-requires
find_makers_at-find_makers-requires t c =
    let known : IsIf (statement_of c.args.statement.now) c.in-If.reg c.in-If.equal c.in-If.value (statements_of c.in-If.body.items) (statements_of c.in-If.other.items) =
    if_known _ _ _ _ _ _ (ap statement_of c.in-If.is ∙ if_views c.in-If.reg c.in-If.equal c.in-If.value c.in-If.body c.in-If.other) in
    let same = ap statements_of c.deref.ensures.value in (
      omega (arith, size_of-parts _ _ _ _ _ _ known, ap size_of same),
      (
        omega (arith, known.long, ap longest same, c.requires.room),
        omega (arith, ap count_with_parts known.is, ap statement_count same, c.requires.fits),
      ),
    )

pub find_makers_at-overflow_add-number-else-holds_where-2 : goal.find_makers_at-overflow_add-number-else-holds_where-2
find_makers_at-overflow_add-number-else-holds_where-2 t c =
    let known : IsIf (statement_of c.args.statement.now) c.in-If.reg c.in-If.equal c.in-If.value (statements_of c.in-If.body.items) (statements_of c.in-If.other.items) =
    if_known _ _ _ _ _ _ (ap statement_of c.in-If.is ∙ if_views c.in-If.reg c.in-If.equal c.in-If.value c.in-If.body c.in-If.other) in
    let counted = ap statements_of c.deref-else-holds_where.ensures.value in
    omega (arith, ap count_with_parts known.is, ap statement_count counted, c.statement_count.ensures, c.requires.fits)

pub find_makers_at-find_makers-requires-else-holds_where : goal.find_makers_at-find_makers-requires-else-holds_where
find_makers_at-find_makers-requires-else-holds_where t c =
    let known : IsIf (statement_of c.args.statement.now) c.in-If.reg c.in-If.equal c.in-If.value (statements_of c.in-If.body.items) (statements_of c.in-If.other.items) =
    if_known _ _ _ _ _ _ (ap statement_of c.in-If.is ∙ if_views c.in-If.reg c.in-If.equal c.in-If.value c.in-If.body c.in-If.other) in
    let counted = ap statements_of c.deref-else-holds_where.ensures.value in
    let same = ap statements_of c.deref-else-holds_where-2.ensures.value in (
      omega (arith, size_of-parts _ _ _ _ _ _ known, ap size_of same),
      (
        omega (arith, known.long, ap longest same, c.requires.room),
        omega (arith, ap count_with_parts known.is, ap statement_count counted, ap statement_count same, c.statement_count.ensures, c.requires.fits),
      ),
    )

pub find_makers_at-returns-then-holds_where-clause-makers : goal.find_makers_at-returns-then-holds_where-clause-makers
find_makers_at-returns-then-holds_where-clause-makers t c =
    let same = ap statements_of c.deref.ensures.value in
    let is = ap statement_of c.in-If.is ∙ if_views c.in-If.reg c.in-If.equal c.in-If.value c.in-If.body c.in-If.other in
    let found = found-then c.args.number _ _ _ _ _ _ c.args.guards.now c.guards_behind-left.result.now _ _ is c.asks_equal.ensures c.holds_where.ensures c.guards_behind-left.ensures c.if-holds_where.true in
    c.find_makers.ensures.makers ∙ ap (λ ss. c.args.makers.now.items ++ (makers_by_guards (c.args.number + 1) ss c.guards_behind-left.result.now).0) same
    ∙ ap (λ (p : List ℕ × List Tested). c.args.makers.now.items ++ p.0) (sym found)

pub find_makers_at-returns-then-holds_where-clause-left : goal.find_makers_at-returns-then-holds_where-clause-left
find_makers_at-returns-then-holds_where-clause-left t c =
    let same = ap statements_of c.deref.ensures.value in
    let is = ap statement_of c.in-If.is ∙ if_views c.in-If.reg c.in-If.equal c.in-If.value c.in-If.body c.in-If.other in
    let found = found-then c.args.number _ _ _ _ _ _ c.args.guards.now c.guards_behind-left.result.now _ _ is c.asks_equal.ensures c.holds_where.ensures c.guards_behind-left.ensures c.if-holds_where.true in
    c.find_makers.ensures.left ∙ ap (λ ss. (makers_by_guards (c.args.number + 1) ss c.guards_behind-left.result.now).1) same
    ∙ ap (λ (p : List ℕ × List Tested). p.1) (sym found)

pub find_makers_at-returns-else-holds_where-clause-makers : goal.find_makers_at-returns-else-holds_where-clause-makers
find_makers_at-returns-else-holds_where-clause-makers t c =
    let counted = ap statements_of c.deref-else-holds_where.ensures.value in
    let same = ap statements_of c.deref-else-holds_where-2.ensures.value in
    let is = ap statement_of c.in-If.is ∙ if_views c.in-If.reg c.in-If.equal c.in-If.value c.in-If.body c.in-If.other in
    let next : c.args.number + 1 + c.statement_count.result ≡ c.args.number + 1 + statement_count (statements_of c.in-If.body.items) =
    omega (arith, ap count_with_parts is, ap statement_count counted, c.statement_count.ensures, c.requires.fits) in
    let found = found-else c.args.number _ _ _ _ _ _ _ c.args.guards.now c.guards_behind-left.result.now _ _ is c.asks_equal.ensures c.holds_where.ensures c.guards_behind-left.ensures c.if-holds_where.false next in
    c.find_makers-else-holds_where.ensures.makers
    ∙ ap (λ ss. c.args.makers.now.items ++ (makers_by_guards (c.args.number + 1 + c.statement_count.result) ss c.guards_behind-left.result.now).0) same
    ∙ ap (λ (p : List ℕ × List Tested). c.args.makers.now.items ++ p.0) (sym found)

pub find_makers_at-returns-else-holds_where-clause-left : goal.find_makers_at-returns-else-holds_where-clause-left
find_makers_at-returns-else-holds_where-clause-left t c =
    let counted = ap statements_of c.deref-else-holds_where.ensures.value in
    let same = ap statements_of c.deref-else-holds_where-2.ensures.value in
    let is = ap statement_of c.in-If.is ∙ if_views c.in-If.reg c.in-If.equal c.in-If.value c.in-If.body c.in-If.other in
    let next : c.args.number + 1 + c.statement_count.result ≡ c.args.number + 1 + statement_count (statements_of c.in-If.body.items) =
    omega (arith, ap count_with_parts is, ap statement_count counted, c.statement_count.ensures, c.requires.fits) in
    let found = found-else c.args.number _ _ _ _ _ _ _ c.args.guards.now c.guards_behind-left.result.now _ _ is c.asks_equal.ensures c.holds_where.ensures c.guards_behind-left.ensures c.if-holds_where.false next in
    c.find_makers-else-holds_where.ensures.left ∙ ap (λ ss. (makers_by_guards (c.args.number + 1 + c.statement_count.result) ss c.guards_behind-left.result.now).1) same
    ∙ ap (λ (p : List ℕ × List Tested). p.1) (sym found)
