use Rattle.lit_solve.proofs.Words.{box_of, byte_reads, events_on, slice_get_within}
use Rattle.lit_solve.proofs.DisjunctionLemmas.{given_sound}
use Rattle.lit_solve.proofs.problem.Problem.step.Goals as goal

pub returns-in-Open : goal.returns-in-Open
returns-in-Open c = record {
  known = slice_get_within (byte_reads (events_on c.args.self.now)) c.in-Open.place (c.in-Open.ensures.read, c.in-Open.ensures.byte) c.in-Open.ensures.is_read;
  several = c.in-Open.ensures;
}

pub put_all_ordered-requires-clause-sound : goal.put_all_ordered-requires-clause-sound
put_all_ordered-requires-clause-sound c =
    given_sound (box_of c.args.self.now c.args.frame.now) c.args.frame.now c.requires.exact.contained
