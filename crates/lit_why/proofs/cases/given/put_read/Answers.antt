use Rattle.lit_solve.specs.Box.{box_with}
use Rattle.lit_rel.specs.Rows.{Holds}
use Rattle.lit_why.proofs.RelationLemmas.{given_more}
use Rattle.lit_why.proofs.cases.given.put_read.Goals as goal

pub returns-in-Some-clause-pairs : goal.returns-in-Some-clause-pairs
returns-in-Some-clause-pairs c =
    given_more (box_with c.args.problem.now c.args.domains.now) c.args.place c.byte_read.result.read c.byte_read.result.byte
    c.in-Some.source c.byte_read.ensures.at c.in-Some.ensures.0 (Holds c.args.rows.now) (Holds c.put.new.self)
    (rw c.from-read.ensures at c.put.ensures.pairs)
