use Rattle.lit_solve.proofs.Words.{◌<◌, arith, Box, box_of, byte_reads, events_on, length}
use Rattle.lit_solve.proofs.DescendingLemmas.{alone_below_stays, alone_more, lowest_on}
use Rattle.lit_solve.proofs.problem.Problem.descend.Goals as goal

pub loop-place-preserved-in-Some : goal.loop-place-preserved-in-Some
loop-place-preserved-in-Some c = record {
  fixpoint = c.loop-place.invariant.fixpoint;
  alone = alone_more (box_of c.args.self.now c.loop-place.frame) c.loop-place.place c.loop-place.invariant.alone (c.in-Some._source, c.in-Some.ensures.0);
  lowest = c.loop-place.invariant.lowest;
  known = c.loop-place.invariant.known;
}

pub loop-place-preserved : goal.loop-place-preserved
loop-place-preserved c = record {
  fixpoint = (c.take_least.ensures.fixpoint c.if-not-take_least.false);
  alone =
      alone_more now c.loop-place.place
      (alone_below_stays now was c.loop-place.place (c.take_least.ensures.lowest c.if-not-take_least.false).within (c.take_least.ensures.fixpoint c.if-not-take_least.false).exact.contained.some
      (omega (arith, below)) c.loop-place.invariant.alone) (c.take_least.ensures.alone c.if-not-take_least.false);
  lowest =
      lowest_on (box_of c.args.self.now c.args.frame.now) was now c.args.goal c.loop-place.place c.loop-place.invariant.lowest
      (c.take_least.ensures.lowest c.if-not-take_least.false) c.loop-place.invariant.alone below;
  known = c.take_least.ensures.found c.if-not-take_least.false;
}
  where
    was : Box
    was = box_of c.args.self.now c.loop-place.frame

    now : Box
    now = box_of c.args.self.now c.take_least.new.frame

    below : c.loop-place.place < length (byte_reads (events_on c.args.self.now))
    below = omega (arith, c.loop-place-test.true, c.reads-place-end.ensures.value)
