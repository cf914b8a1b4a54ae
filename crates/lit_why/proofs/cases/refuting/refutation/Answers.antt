use Rattle.std.proofs.lemmas.Bool.{false≢true}
use Rattle.std.proofs.Common.{length, sym, ◌∙◌}
use Rattle.lit_rel.specs.Between.{Forbids}
use Rattle.lit_rel.specs.Rows.{Holds, rows_len}
use Rattle.lit_solve.specs.Box.{box_events, box_with}
use Rattle.lit_solve.specs.Given.{HappensBeforeIn, IsForbiddenIn}
use Rattle.lit_why.proofs.CaseLemmas.{order_by}
use Rattle.lit_why.proofs.UnrefutedLemmas.{one_whole, unrefuted}
use Rattle.lit_why.proofs.cases.refuting.refutation.Goals as goal

pub returns-else-has_order : goal.returns-else-has_order
returns-else-has_order c orders =
    let box = box_with c.args.problem.now c.args.domains.now in
    let relations = c.relations_of-relations.result in
    false≢true (sym c.if-has_order.false ∙ c.has_order.ensures.1 (order_by (rows_len relations.before.rows) (length (box_events box))
    (Holds relations.before.rows) (HappensBeforeIn box) (Forbids c.between_of-between.result) (IsForbiddenIn box)
    c.relations_of-relations.ensures.before_len
    (λ e d h. (c.relations_of-relations.ensures.before e d).0 h) (λ w r v f. (c.between_of-between.ensures.triples w r v).0 f) orders))

pub returns-then-has_order : goal.returns-then-has_order
returns-then-has_order c =
    let box = box_with c.args.problem.now c.args.domains.now in
    let relations = c.relations_of-relations.result in
    let same = c.relations_of-relations.ensures.before in
    unrefuted box (λ e h. c.in_default.ensures e ((same e e).1 h)) c.in_default-incoherent_given.ensures
    (one_whole box (Holds relations.reads) c.relations_of-relations.ensures.reads
    (rw (c.events-events.ensures.value, c.combination.ensures) at c.in_default-first_torn.ensures))
    (order_by (length (box_events box)) (rows_len relations.before.rows) (HappensBeforeIn box) (Holds relations.before.rows)
    (IsForbiddenIn box) (Forbids c.between_of-between.result) (sym c.relations_of-relations.ensures.before_len)
    (λ e d h. (same e d).1 h) (λ w r v f. (c.between_of-between.ensures.triples w r v).1 f) (c.has_order.ensures.0 c.if-has_order.true))
