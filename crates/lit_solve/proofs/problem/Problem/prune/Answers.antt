use Rattle.lit_solve.proofs.Words.{◌<◌, arith, Bool, box_of, byte_reads, events_on, false, IsTrue, or_parts, refl}
use Rattle.lit_solve.proofs.Words.{slice_get_within, true, ◌∙◌, ◌||◌, ◌≤◌, ℕ}
use Rattle.lit_solve.proofs.DomainLemmas.{prunes_on}
use Rattle.lit_solve.proofs.problem.Problem.prune.Goals as goal

-- the first or the second step removes something
less_by : (a b : Bool) (first was now : ℕ) → IsTrue (a || b) → (IsTrue a → was < first) → was ≤ first → (IsTrue b → now < was) → now ≤ was
    → now < first
less_by true b first was now _ less some _ more = omega (arith, less refl)
less_by false b first was now is _ some less _ = omega (arith, less is)

pub loop-place-preserved : goal.loop-place-preserved
loop-place-preserved c =
    let was = c.loop-place.invariant in
    let step = c.in_ok-forces.ensures in
    let forces = c.in_ok-forces.field-0 in
    record {
      before = step.before ∙ was.before;
      contained = step.contained;
      prunes = prunes_on (box_of c.args.self.now c.args.frame.now) (box_of c.args.self.now c.loop-place.frame)
          (box_of c.args.self.now c.prune_at.new.frame) was.prunes step.prunes;
      fixpoint = λ none. let parts = or_parts c.loop-place.forces forces none in step.fixpoint parts.1 (was.fixpoint parts.0);
      less = λ some. less_by c.loop-place.forces forces _ _ _ some was.less was.size step.less step.size;
      size = omega (arith, step.size, was.size);
    }

pub returns-clause-fixpoint : goal.returns-clause-fixpoint
returns-clause-fixpoint c none =
    let fixpoint = c.loop-place.invariant.fixpoint none in
    record {
      exact = fixpoint.exact;
      acyclic = fixpoint.acyclic;
      coherent = λ k r b w at there.
          fixpoint.coherent k r b w (omega (arith, slice_get_within (byte_reads (events_on c.args.self.now)) k (r, b) at)) at there;
    }
