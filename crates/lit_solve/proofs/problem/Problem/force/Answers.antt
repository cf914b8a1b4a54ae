use Rattle.lit_solve.proofs.Words.{arith, box_of, EventSet, Forbids, Holds, IsForcedIn, List, refl, subst, ℕ}
use Rattle.lit_order.specs.Forcing.{HasForcedCycle}
use Rattle.lit_solve.proofs.FrameLemmas.{forced_exact, forced_sound, forced_whole, not_true}
use Rattle.lit_solve.proofs.problem.Problem.force.Goals as goal

pub returns-clause-fixpoint : goal.returns-clause-fixpoint
returns-clause-fixpoint c done =
    let now = c.synchronize.new.frame in
    let box = box_of c.args.self.now now in
    let forbidden = Forbids c.put_between.new.between in
    let is = c.synchronize.ensures in
    let triples = c.put_between.ensures.triples in
    let acyclic : ¬ HasForcedCycle (Holds now.forced.rows) forbidden = λ cycle. c.force.ensures.cycle.1 cycle done in
    record {
      exact = forced_exact box now _ is.contained is.exact forbidden triples acyclic refl c.force.ensures.len (c.force.ensures.pairs done);
      acyclic = λ e f. acyclic (e, forced_whole box now now is.contained is.exact forbidden triples acyclic e e f);
      coherent = λ k r b w below at there. absurd (omega (arith, below));
    }

pub returns-clause-cycle : goal.returns-clause-cycle
returns-clause-cycle c failed =
    let forced_cycle = c.force.ensures.cycle.0 (not_true c.force.result failed) in
    subst (λ (domains : List EventSet). (x : ℕ)
    × IsForcedIn (record { test = c.args.self.now.0; combination = c.args.self.now.1; domains = domains }) x x) c.synchronize.ensures.domains (
      forced_cycle.0,
      forced_sound (box_of c.args.self.now c.synchronize.new.frame) c.synchronize.new.frame c.synchronize.new.frame
          c.synchronize.ensures.contained c.synchronize.ensures.exact (Forbids c.put_between.new.between) c.put_between.ensures.triples forced_cycle.0 forced_cycle.0
          forced_cycle.1,
    )
