use Rattle.std.proofs.Common.{arith, ap, sym, ◌∙◌, ◌-◌, length, not, subst, ℕ}
use Rattle.std.proofs.lemmas.Result.{IfOk-weaker}
use Rattle.lit_syntax.specs.Litmus.{statement_of, statements_of}
use Rattle.lit_syntax.proofs.TreeViews.{if_views}
use Rattle.lit_paths.specs.Path.{walks_of}
use Rattle.lit_paths.specs.PathModel.{PathModel}
use Rattle.lit_paths.specs.declared.limits.TheConstants.{COMBINATION_LIMIT}
use Rattle.lit_paths.specs.Internal.PathSteps.{with_guard, with_steps}
use Rattle.lit_paths.specs.Internal.Walks.{AreSaid, longest, walk_at}
use Rattle.lit_paths.proofs.Stepping.{IsIf, if_known, said-then, said-else, walked-then, walked-else, here-on_way, on_way_more, AreSaid-left, size_of, size_of-item, size_of-parts}
use Rattle.lit_paths.proofs.path.walking.+walks.Goals as goal

pub meet-walk-requires : goal.meet-walk-requires
meet-walk-requires t c =
    let known : IsIf (statement_of c.args.statement.now) c.in-If.reg c.in-If.equal c.in-If.value (statements_of c.in-If.body.items) (statements_of c.in-If.other.items) =
    if_known _ _ _ _ _ _ (ap statement_of c.in-If.is ∙ if_views c.in-If.reg c.in-If.equal c.in-If.value c.in-If.body c.in-If.other) in
    let same = ap statements_of c.deref-then-number-first_else.ensures.value in
    let counted = ap statements_of c.deref.ensures.value in (
      omega (arith, size_of-parts _ _ _ _ _ _ known, ap size_of same),
      (
        subst AreSaid (sym same) (said-then _ _ _ _ _ _ known c.requires.said),
        (
          omega (arith, known.count, ap (λ ss. length (walks_of ss)) same, c.requires.few),
          (
            omega (arith, known.count, ap (λ ss. length (walks_of ss)) same, ap (λ ss. length (walks_of ss)) counted, c.walk_count-first_else.ensures, c.if-number-first_else.true),
            omega (arith, known.long, ap longest same, ap (λ (path : PathModel). length path.events) c.in_ok-add_guard-in-If.ensures, c.requires.room),
          ),
        ),
      ),
    )

pub meet-walk-requires-else-number-first_else : goal.meet-walk-requires-else-number-first_else
meet-walk-requires-else-number-first_else t c =
    let known : IsIf (statement_of c.args.statement.now) c.in-If.reg c.in-If.equal c.in-If.value (statements_of c.in-If.body.items) (statements_of c.in-If.other.items) =
    if_known _ _ _ _ _ _ (ap statement_of c.in-If.is ∙ if_views c.in-If.reg c.in-If.equal c.in-If.value c.in-If.body c.in-If.other) in
    let same = ap statements_of c.deref-else-number-first_else.ensures.value in
    let counted = ap statements_of c.deref.ensures.value in (
      omega (arith, size_of-parts _ _ _ _ _ _ known, ap size_of same),
      (
        subst AreSaid (sym same) (said-else _ _ _ _ _ _ known c.requires.said),
        (
          omega (arith, known.count, ap (λ ss. length (walks_of ss)) same, c.requires.few),
          (
            omega (arith, known.count, c.requires.known, c.requires.few, ap (λ ss. length (walks_of ss)) same, ap (λ ss. length (walks_of ss)) counted, c.walk_count-first_else.ensures, c.if-number-first_else.false),
            omega (arith, known.long, ap longest same, ap (λ (path : PathModel). length path.events) c.in_ok-add_guard-in-If-2.ensures, c.requires.room),
          ),
        ),
      ),
    )

pub meet-returns-in_ok-add_guard-in-If-clause-walked : goal.meet-returns-in_ok-add_guard-in-If-clause-walked
meet-returns-in_ok-add_guard-in-If-clause-walked t c =
    let known : IsIf (statement_of c.args.statement.now) c.in-If.reg c.in-If.equal c.in-If.value (statements_of c.in-If.body.items) (statements_of c.in-If.other.items) =
    if_known _ _ _ _ _ _ (ap statement_of c.in-If.is ∙ if_views c.in-If.reg c.in-If.equal c.in-If.value c.in-If.body c.in-If.other) in
    let same = ap statements_of c.deref-then-number-first_else.ensures.value in
    let counted = ap statements_of c.deref.ensures.value in
    IfOk-weaker c.walk.result _ _
    (λ done walked. walked-then c.args.owner _ _ _ _ _ _ c.args.number c.args.path.now c.add_guard.new.self c.walk.new.path known
    (omega (arith, known.count, ap (λ ss. length (walks_of ss)) same, ap (λ ss. length (walks_of ss)) counted, c.walk_count-first_else.ensures, c.if-number-first_else.true))
    (c.in_ok-add_guard-in-If.ensures ∙ ap (λ o. with_guard c.args.path.now (record { on = o; equal = c.in-If.equal; value = c.in-If.value })) c.last-on.ensures)
    (walked ∙ ap (λ ss. with_steps c.args.owner c.add_guard.new.self (walk_at ss c.args.number)) same))
    c.walk.ensures.walked

pub meet-returns-in_ok-add_guard-in-If-clause-short : goal.meet-returns-in_ok-add_guard-in-If-clause-short
meet-returns-in_ok-add_guard-in-If-clause-short t c =
    let known : IsIf (statement_of c.args.statement.now) c.in-If.reg c.in-If.equal c.in-If.value (statements_of c.in-If.body.items) (statements_of c.in-If.other.items) =
    if_known _ _ _ _ _ _ (ap statement_of c.in-If.is ∙ if_views c.in-If.reg c.in-If.equal c.in-If.value c.in-If.body c.in-If.other) in
    let same = ap statements_of c.deref-then-number-first_else.ensures.value in
    IfOk-weaker c.walk.result _ _
    (λ done short. omega (arith, short, known.long, ap longest same, ap (λ (path : PathModel). length path.events) c.in_ok-add_guard-in-If.ensures))
    c.walk.ensures.short

pub meet-returns-in_ok-add_guard-in-If-2-clause-walked : goal.meet-returns-in_ok-add_guard-in-If-2-clause-walked
meet-returns-in_ok-add_guard-in-If-2-clause-walked t c =
    let known : IsIf (statement_of c.args.statement.now) c.in-If.reg c.in-If.equal c.in-If.value (statements_of c.in-If.body.items) (statements_of c.in-If.other.items) =
    if_known _ _ _ _ _ _ (ap statement_of c.in-If.is ∙ if_views c.in-If.reg c.in-If.equal c.in-If.value c.in-If.body c.in-If.other) in
    let same = ap statements_of c.deref-else-number-first_else.ensures.value in
    let counted = ap statements_of c.deref.ensures.value in
    let left : ℕ = c.args.number - c.walk_count-first_else.result in
    IfOk-weaker c.walk-else-number-first_else.result _ _
    (λ done walked. walked-else c.args.owner _ _ _ _ _ _ c.args.number left c.args.path.now c.add_guard-else-number-first_else.new.self c.walk-else-number-first_else.new.path known
    (omega (arith, known.count, c.requires.few, ap (λ ss. length (walks_of ss)) counted, c.walk_count-first_else.ensures, c.if-number-first_else.false))
    (omega (arith, known.count, c.requires.known, c.requires.few, ap (λ ss. length (walks_of ss)) counted, c.walk_count-first_else.ensures, c.if-number-first_else.false))
    (c.in_ok-add_guard-in-If-2.ensures ∙ ap (λ o. with_guard c.args.path.now (record { on = o; equal = not c.in-If.equal; value = c.in-If.value })) c.last-on.ensures)
    (walked ∙ ap (λ ss. with_steps c.args.owner c.add_guard-else-number-first_else.new.self (walk_at ss left)) same))
    c.walk-else-number-first_else.ensures.walked

pub meet-returns-in_ok-add_guard-in-If-2-clause-short : goal.meet-returns-in_ok-add_guard-in-If-2-clause-short
meet-returns-in_ok-add_guard-in-If-2-clause-short t c =
    let known : IsIf (statement_of c.args.statement.now) c.in-If.reg c.in-If.equal c.in-If.value (statements_of c.in-If.body.items) (statements_of c.in-If.other.items) =
    if_known _ _ _ _ _ _ (ap statement_of c.in-If.is ∙ if_views c.in-If.reg c.in-If.equal c.in-If.value c.in-If.body c.in-If.other) in
    let same = ap statements_of c.deref-else-number-first_else.ensures.value in
    IfOk-weaker c.walk-else-number-first_else.result _ _
    (λ done short. omega (arith, short, known.long, ap longest same, ap (λ (path : PathModel). length path.events) c.in_ok-add_guard-in-If-2.ensures))
    c.walk-else-number-first_else.ensures.short

pub walk-nonzero_div-left : goal.walk-nonzero_div-left
walk-nonzero_div-left t c =
    (here-on_way c.args.owner c.args.body.now c.args.number c.args.path.now c.loop-statement.statement-index c.loop-statement.left c.loop-statement.later c.statement_walk_count-later.result COMBINATION_LIMIT c.loop-statement.path c.statement-item.result
    c.loop-statement-test.true c.statement-item.is c.requires.few c.statement_walk_count-later.ensures c.loop-statement.invariant.1 c.loop-statement.invariant.0).some

pub walk-meet-requires : goal.walk-meet-requires
walk-meet-requires t c =
    let at = here-on_way c.args.owner c.args.body.now c.args.number c.args.path.now c.loop-statement.statement-index c.loop-statement.left c.loop-statement.later c.statement_walk_count-later.result COMBINATION_LIMIT c.loop-statement.path c.statement-item.result
    c.loop-statement-test.true c.statement-item.is c.requires.few c.statement_walk_count-later.ensures c.loop-statement.invariant.1 c.loop-statement.invariant.0 in (
      omega (arith, size_of-item c.args.body.now c.loop-statement.statement-index c.statement-item.result c.loop-statement-test.true c.statement-item.is),
      (
        AreSaid-left c.args.body.now c.loop-statement.statement-index c.statement-item.result c.loop-statement-test.true c.statement-item.is c.requires.said,
        (at.few, (at.index, omega (arith, at.long, c.loop-statement.invariant.0.room, c.requires.room))),
      ),
    )

pub walk-nonzero_rem-left : goal.walk-nonzero_rem-left
walk-nonzero_rem-left t c =
    (here-on_way c.args.owner c.args.body.now c.args.number c.args.path.now c.loop-statement.statement-index c.loop-statement.left c.loop-statement.later c.statement_walk_count-later.result COMBINATION_LIMIT c.loop-statement.path c.statement-item.result
    c.loop-statement-test.true c.statement-item.is c.requires.few c.statement_walk_count-later.ensures c.loop-statement.invariant.1 c.loop-statement.invariant.0).some

pub walk-loop-statement-preserved : goal.walk-loop-statement-preserved
walk-loop-statement-preserved t c =
    let at = here-on_way c.args.owner c.args.body.now c.args.number c.args.path.now c.loop-statement.statement-index c.loop-statement.left c.loop-statement.later c.statement_walk_count-later.result COMBINATION_LIMIT c.loop-statement.path c.statement-item.result
    c.loop-statement-test.true c.statement-item.is c.requires.few c.statement_walk_count-later.ensures c.loop-statement.invariant.1 c.loop-statement.invariant.0 in (
      on_way_more c.args.owner c.args.body.now c.args.number c.args.path.now c.loop-statement.statement-index c.loop-statement.left _ COMBINATION_LIMIT c.loop-statement.path _ c.statement-item.result
          c.loop-statement-test.true c.statement-item.is at c.in_ok-meet.ensures.walked c.in_ok-meet.ensures.short c.loop-statement.invariant.0,
      at.later_is,
    )
