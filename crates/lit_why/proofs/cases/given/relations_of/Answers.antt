use Rattle.std.proofs.Common.{◌∙◌}
use Rattle.lit_solve.specs.Box.{box_with}
use Rattle.lit_why.proofs.RelationLemmas.{relations_are}
use Rattle.lit_why.proofs.cases.given.relations_of.Goals as goal

pub returns : goal.returns
returns c =
    relations_are (box_with c.args.problem.now c.args.domains.now)
    (record { reads = c.reads_of-reads.result; synchronizes = c.synchronizes_of-synchronizes.result; before = c.closed-before.result })
    c.steps_of.result c.reads_of-reads.ensures.pairs
    (rw (c.events-events.ensures.value, c.combination.ensures) at c.synchronizes_of-synchronizes.ensures.pairs)
    (rw (c.events-events.ensures.value, c.combination.ensures) at c.steps_of.ensures.pairs) c.closed-before.ensures.pairs
    c.reads_of-reads.ensures.len
    (rw (c.events-events.ensures.value, c.combination.ensures) at c.synchronizes_of-synchronizes.ensures.len)
    (c.closed-before.ensures.len ∙ (rw (c.events-events.ensures.value, c.combination.ensures) at c.steps_of.ensures.len))
