use Rattle.lit_solve.proofs.Words.{arith}
use Rattle.lit_solve.proofs.problem.Problem.given.Goals as goal

pub returns : goal.returns
returns c =
    let candidate = c.requires.contained.is_box.candidates c.args.place c.byte_read-read.result.read c.byte_read-read.result.byte c.in_ok-source.source
    c.byte_read-read.ensures.at c.in_ok-source.ensures.0 in
    (record { there = c.in_ok-source.ensures.0; alone = c.in_ok-source.ensures.1 }, candidate.known, omega (arith, candidate.known))
