use Rattle.lit_rel.specs.Between.{Forbids}
use Rattle.lit_rel.specs.Rows.{Holds}
use Rattle.lit_solve.specs.Box.{box_with}
use Rattle.lit_solve.proofs.FrameLemmas.{forbidden_more}
use Rattle.lit_why.proofs.cases.given.forbid.Goals as goal

pub returns-in-Some-clause-triples : goal.returns-in-Some-clause-triples
returns-in-Some-clause-triples c =
    forbidden_more (box_with c.args.problem.now c.args.domains.now) (Holds c.args.relations.now.before.rows)
    (λ a d h. (c.requires.relations.before a d).0 h) (λ a d h. (c.requires.relations.before a d).1 h)
    c.args.place c.byte_read-read.result.read c.byte_read-read.result.byte c.in-Some.source c.byte_read-read.ensures.at
    c.in-Some.ensures.0 (Forbids c.args.between.now) (Forbids c.forbid.new.self) c.args.between.now.len c.others_between-others.result
    c.requires.len
    (rw (c.events-events.ensures.value, c.combination.ensures) at c.others_between-others.ensures) c.forbid.ensures.triples
