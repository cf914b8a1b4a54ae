use Rattle.lit_solve.proofs.Words.{◌<◌, ap, arith, Box, box_of, EventSet, Frame, IsContained, IsRestricted, IsFixpoint, length, not, refl, size_of}
use Rattle.lit_solve.proofs.Words.{slice_set, subst, sym, ℕ, ◌≤◌}
use Rattle.lit_solve.proofs.DomainLemmas.{frame_at, pruned_at, pruned_contained, none_at, size_less}
use Rattle.lit_solve.proofs.FrameLemmas.{not_true}
use Rattle.lit_solve.proofs.PruningLemmas.{some_exactly}
use Rattle.lit_solve.proofs.OpeningLemmas.{completion_taken, restricted_on, fixpoint_still, source_taken}
use Rattle.lit_solve.proofs.problem.Problem.restrict.Goals as goal
use Rattle.lit_solve.proofs.problem.Problem.restrict.Goals.{else-forces-via-then-forces+else-not-propagate, else-forces-via-else-forces}

pub returns-then-is_empty-clause-none : goal.returns-then-is_empty-clause-none
returns-then-is_empty-clause-none c _ x is takes =
    let box = box_of c.args.self.now c.args.frame.now in
    none_at box c.args.place c.intersection-left.result (omega arith) c.requires.place x is
    (source_taken box c.args.place c.args.set c.intersection-left.result (omega arith) c.intersection-left.ensures x is takes)
    (c.is_empty.ensures.0 c.if-is_empty.true)

contained : (c : goal.Else-is_empty)
    → IsContained (pruned_at (box_of c.args.self.now c.args.frame.now) c.args.place c.intersection-left.result)
    (frame_at c.args.frame.now c.args.place c.intersection-left.result)
contained c =
    let box = box_of c.args.self.now c.args.frame.now in
    let some = (some_exactly c.intersection-left.result c.is_empty.result c.is_empty.ensures).0 (ap not c.if-is_empty.false) in
    pruned_contained box c.args.place c.intersection-left.result (omega arith) (λ w there. ((c.intersection-left.ensures w).0 there).0)
    c.args.frame.now c.requires.fixpoint.exact.contained some

pub forces-requires-clause-contained : goal.forces-requires-clause-contained
forces-requires-clause-contained c = contained c

pub propagate-requires : goal.propagate-requires
propagate-requires c = contained c.before.before.before

pub returns-then-not-propagate-clause-none : goal.returns-then-not-propagate-clause-none
returns-then-not-propagate-clause-none c _ x is takes =
    c.propagate.ensures.none c.if-not-propagate.true x (completion_taken (box_of c.args.self.now c.args.frame.now) c.args.place c.args.set
    c.intersection-left.result (omega arith) c.intersection-left.ensures x is takes)

-- the frame is at a fixpoint once more, propagated or not
record IsFixpointAgain (old : Box) (place : ℕ) (set : EventSet) (size : ℕ) (new : Box) (frame : Frame) : Type 0 where
  fixpoint : IsFixpoint new frame
  restricted : IsRestricted old place set new
  small : size_of frame.domains ≤ size

again : (c : goal.Joined-else-forces)
    → IsFixpointAgain (box_of c.args.self.now c.args.frame.now) c.args.place c.args.set (size_of (slice_set c.args.frame.now.domains c.args.place c.intersection-left.result))
    (box_of c.args.self.now c.else-forces.frame) c.else-forces.frame
again c =
    let box = box_of c.args.self.now c.args.frame.now in
    let place = c.args.place in
    let left = c.intersection-left in
    let room : place < length box.domains = omega arith in
    let FixpointAgain : Frame → Type 0 = λ frame. IsFixpointAgain box place c.args.set (size_of (slice_set c.args.frame.now.domains place left.result)) (box_of c.args.self.now frame) frame in
    let on = restricted_on box place c.args.set left.result room left.ensures in
    elim c.else-forces.branch [
      | else-forces-via-then-forces+else-not-propagate w ↦
          let done = w.if-not-propagate.false in
          subst FixpointAgain (sym w.frame-is) record {
            fixpoint = w.propagate.ensures.fixpoint done;
            restricted = on (box_of c.args.self.now w.propagate.new.frame) (w.propagate.ensures.prunes done);
            small = w.propagate.ensures.size done;
          }
      | else-forces-via-else-forces w ↦
          subst FixpointAgain (sym w.frame-is) record {
            fixpoint = fixpoint_still box c.args.frame.now c.requires.fixpoint.exact place left.result room (λ w h. ((left.ensures w).0 h).0)
                (contained c.before.before) (c.forces.ensures w.if-forces.false) c.requires.fixpoint;
            restricted = on (pruned_at box place left.result) record { within = record { test = refl; combination = refl; domains = λ k v there. there }; retained = λ x is. is };
            small = omega arith;
          }
    ]

pub can_fill-requires-clause-is_box : goal.can_fill-requires-clause-is_box
can_fill-requires-clause-is_box c = (again c).fixpoint.exact.contained.is_box

pub can_fill-requires-clause-some : goal.can_fill-requires-clause-some
can_fill-requires-clause-some c = (again c).fixpoint.exact.contained.some

pub returns-clause-fixpoint : goal.returns-clause-fixpoint
returns-clause-fixpoint c _ = (again c.before).fixpoint

pub returns-clause-restricted : goal.returns-clause-restricted
returns-clause-restricted c _ = (again c.before).restricted

pub returns-clause-less : goal.returns-clause-less
returns-clause-less c _ not_all =
    let box = box_of c.args.self.now c.args.frame.now in
    let less = size_less box c.args.place c.intersection-left.result (omega arith) (λ w there. ((c.intersection-left.ensures w).0 there).0)
    (λ all. not_all (λ w there. ((c.intersection-left.ensures w).0 (all w there)).1)) in
    omega (arith, less, (again c.before).small)

-- a completion of the restricted box would fill the read
pub returns-clause-none : goal.returns-clause-none
returns-clause-none c failed x is takes =
    let fixpoint_again = again c.before in
    let now = box_of c.args.self.now c.else-forces.frame in
    let fills = c.completions_fill_each_read.ensures now x c.byte_read-read.result.read fixpoint_again.fixpoint.exact.contained.is_box
    (fixpoint_again.restricted.retained x is takes) c.byte_read-read.ensures.read in
    not_true c.can_fill.result failed (c.can_fill.ensures.1 fills)
