use Rattle.lit_solve.proofs.Words.{◌<◌, ap, arith, box_of, EventSet, false≢true, HasEvent, IsContained, length, not, size_of, slice_set}
use Rattle.lit_solve.proofs.Words.{subst, sym, ◌∙◌}
use Rattle.lit_solve.proofs.DomainLemmas.{domain_here, frame_at, pruned_at, pruned_contained, prunes, none_if_empty, size_less}
use Rattle.lit_solve.proofs.OpeningLemmas.{fixpoint_below_still, fixpoint_more}
use Rattle.lit_solve.proofs.PruningLemmas.{some_exactly}
use Rattle.lit_solve.proofs.problem.Problem.prune_at.Goals as goal

pub returns-then-is_empty-clause-none : goal.returns-then-is_empty-clause-none
returns-then-is_empty-clause-none c =
    let box = box_of c.args.self.now c.args.frame.now in
    none_if_empty box c.args.place c.unpruned-left.result (omega arith) c.requires.contained.is_box c.events-events.ensures.sound
    (c.completions_have_no_prunable_source.ensures box) c.requires.place c.unpruned-left.ensures.prunable
    (c.is_empty.ensures.0 c.if-is_empty.true)

contained : (c : goal.Else-is_within)
    → IsContained (pruned_at (box_of c.args.self.now c.args.frame.now) c.args.place c.unpruned-left.result)
    (frame_at c.args.frame.now c.args.place c.unpruned-left.result)
contained c =
    let some = (some_exactly c.unpruned-left.result c.is_empty.result c.is_empty.ensures).0 (ap not c.if-is_empty.false) in
    pruned_contained (box_of c.args.self.now c.args.frame.now) c.args.place c.unpruned-left.result (omega arith)
    c.unpruned-left.ensures.within c.args.frame.now c.requires.contained some

pub forces-forces-requires-clause-contained : goal.forces-forces-requires-clause-contained
forces-forces-requires-clause-contained c = contained c

pub returns-clause-contained : goal.returns-clause-contained
returns-clause-contained c = contained c.before

pub returns-then-is_within-clause-fixpoint : goal.returns-then-is_within-clause-fixpoint
returns-then-is_within-clause-fixpoint c _ was =
    fixpoint_more (box_of c.args.self.now c.args.frame.now) c.args.frame.now c.args.place was
    (λ w there. c.unpruned-left.ensures.coherent w (c.is_within.ensures.0 c.if-is_within.true w there))

pub returns-clause-fixpoint : goal.returns-clause-fixpoint
returns-clause-fixpoint c idle was =
    let box = box_of c.args.self.now c.args.frame.now in
    let place = c.args.place in
    let left = c.unpruned-left.result in
    let room : place < length box.domains = omega arith in
    fixpoint_more (pruned_at box place left) (frame_at c.args.frame.now place left) place
    (fixpoint_below_still box c.args.frame.now was.exact place left room c.unpruned-left.ensures.within (contained c.before)
    (c.forces-forces.ensures idle) place was)
    (λ w there. c.unpruned-left.ensures.coherent w (subst (λ (set : EventSet). HasEvent set w) (domain_here box place left room) there))

pub returns-clause-prunes : goal.returns-clause-prunes
returns-clause-prunes c =
    let box = box_of c.args.self.now c.args.frame.now in
    prunes box c.args.place c.unpruned-left.result (omega arith) c.requires.contained.is_box c.events-events.ensures.sound
    (c.completions_have_no_prunable_source.ensures box) c.requires.place c.unpruned-left.ensures.prunable c.unpruned-left.ensures.within

smaller : (c : goal.Else-is_within)
    → size_of (slice_set c.args.frame.now.domains c.args.place c.unpruned-left.result) < size_of c.args.frame.now.domains
smaller c =
    size_less (box_of c.args.self.now c.args.frame.now) c.args.place c.unpruned-left.result (omega arith) c.unpruned-left.ensures.within
    (λ all. false≢true (sym c.if-is_within.false ∙ c.is_within.ensures.1 all))

pub returns-clause-less : goal.returns-clause-less
returns-clause-less c _ = smaller c.before

pub returns-clause-size : goal.returns-clause-size
returns-clause-size c = omega (arith, smaller c.before)
