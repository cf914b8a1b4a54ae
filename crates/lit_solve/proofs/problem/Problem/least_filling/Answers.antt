use Rattle.lit_solve.proofs.Words.{◌<◌, Any, AreAloneBelow, arith, Box, box_events, box_with, byte_reads, events_on, IsLeastMemoryOrder}
use Rattle.lit_solve.proofs.Words.{length, List, subst, ℕ, ◌≡◌}
use Rattle.lit_solve.proofs.DescendingLemmas.{alone_below_stays, alone_more, lowest_on}
use Rattle.lit_solve.proofs.IndependentLemmas.{independent_solution}
use Rattle.lit_solve.proofs.LeastLemmas.{completion_found, not_less}
use Rattle.lit_solve.proofs.problem.Problem.least_filling.Goals as goal

pub loop-place-preserved : goal.loop-place-preserved
loop-place-preserved c = record {
  independent = c.give_least.ensures.independent;
  alone =
      alone_more now c.loop-place.place
      (alone_below_stays now was c.loop-place.place c.give_least.ensures.lowest.within c.give_least.ensures.independent.some (omega (arith, below))
      c.loop-place.invariant.alone) c.give_least.ensures.alone;
  lowest =
      lowest_on (box_with c.args.self.now c.args.domains.now) was now Any c.loop-place.place c.loop-place.invariant.lowest c.give_least.ensures.lowest
      c.loop-place.invariant.alone below;
}
  where
    was : Box
    was = box_with c.args.self.now c.loop-place.down

    now : Box
    now = box_with c.args.self.now c.give_least.new.domains

    below : c.loop-place.place < length (byte_reads (events_on c.args.self.now))
    below = omega (arith, c.loop-place-test.true, c.reads-place-end.ensures.value)

pub returns : goal.returns
returns c =
    let old = box_with c.args.self.now c.args.domains.now in
    let new = box_with c.args.self.now c.loop-place.down in
    let is = c.loop-place.invariant in
    let end : c.loop-place.place ≡ length (byte_reads (events_on c.args.self.now)) = omega (arith, c.loop-place-test.false, c.reads-place-end.ensures.value) in
    let alone = subst (AreAloneBelow new) end is.alone in
    let found = independent_solution new is.independent (c.leaves_are_filled_read_by_read.ensures new) in
    let sources = c.sources_of.result.items in
    let long = c.sources_of.ensures.one_each in
    let lies = c.sources_of.ensures.within in
    let some = completion_found old new Any is.lowest alone found sources long lies in
    let least = not_less old new Any is.lowest alone found sources long lies in
    record {
      completes = some;
      least = λ x completes. least x (record { completes = completes; meets = tt });
      ordered = λ order least_order. record {
        execution = some.0;
        solves = record { completes = some.1; meets = tt };
        same = some.2;
        least = least;
        ordered = subst (λ (s : List ℕ). IsLeastMemoryOrder (box_events old) s order) some.2 (least_order some.0 some.1);
      };
    }
