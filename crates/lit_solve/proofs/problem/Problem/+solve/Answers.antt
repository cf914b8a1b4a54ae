use Rattle.lit_solve.proofs.Words.{◌<◌, ◌∙◌, box_of, Execution, IsSolution, size_of, subst, TakesFrom, ℕ}
use Rattle.lit_solve.proofs.PruningLemmas.{source_known}
use Rattle.lit_solve.proofs.SearchingLemmas.{left_less, left_over, not_all, solution_in, solution_out, takes_some}
use Rattle.lit_solve.proofs.problem.Problem.+solve.Goals as goal
use Rattle.lit_solve.proofs.problem.Problem.+solve.Goals.{else-restrict-via-then-restrict+else-solve, else-restrict-via-else-restrict}

pub part-part-requires-clause-known : goal.part-part-requires-clause-known
part-part-requires-clause-known t c w there =
    source_known (box_of c.args.self.now c.args.frame.now) c.requires.exact.contained.is_box c.in-Branched.branch.place w c.in-Branched.ensures.known
    (c.loop-source.invariant.within w there)

pub solve-requires : goal.solve-requires
solve-requires t c = (
  subst (λ (n : ℕ). size_of c.restrict.new.frame.domains < n) c.decreases
      (c.restrict.ensures.less c.if-restrict.true
      (not_all (box_of c.args.self.now c.args.frame.now) c.in-Branched.branch c.in-Branched.ensures c.in-Some.source
      (c.loop-source.invariant.within c.in-Some.source c.in-Some.ensures.there) c.part-part.result c.part-part.ensures.apart)),
  c.restrict.ensures.fixpoint c.if-restrict.true,
)

pub returns-then-solve-clause-found : goal.returns-then-solve-clause-found
returns-then-solve-clause-found t c _ =
    let found = c.solve.ensures.found c.if-solve.true in (
      found.0,
      solution_out (box_of c.args.self.now c.restrict.new.frame) (box_of c.args.self.now c.args.frame.now) c.args.goal
          (c.restrict.ensures.restricted c.if-restrict.true).within found.0 found.1,
      found.2,
    )

pub loop-source-smaller : goal.loop-source-smaller
loop-source-smaller t c =
    left_less c.loop-source.left c.in-Some.source c.in-Some._others c.part-part.result c.difference-left.result c.in-Some.ensures
    c.difference-left.ensures c.part-part.ensures.there

pub loop-source-preserved : goal.loop-source-preserved
loop-source-preserved t c = record {
  within = λ w there. c.loop-source.invariant.within w ((c.difference-left.ensures w).0 there).0;
  same = elim c.else-restrict.branch [
    | else-restrict-via-then-restrict+else-solve w ↦ w.leaf-is ∙ (w.solve.ensures.same w.if-solve.false ∙ c.loop-source.invariant.same)
    | else-restrict-via-else-restrict w ↦ w.leaf-is ∙ c.loop-source.invariant.same
  ];
  taken =
      left_over (box_of c.args.self.now c.args.frame.now) c.args.goal c.in-Branched.branch.place c.loop-source.left c.part-part.result
      c.difference-left.result c.difference-left.ensures in_vain c.loop-source.invariant.taken;
}
  where
    in_vain : (x : Execution) → IsSolution (box_of c.args.self.now c.args.frame.now) c.args.goal x → TakesFrom x c.in-Branched.branch.place c.part-part.result → ⊥
    in_vain x is takes =
        elim c.else-restrict.branch [
          | else-restrict-via-then-restrict+else-solve w ↦
              w.solve.ensures.none w.if-solve.false (
                x,
                solution_in (box_of c.args.self.now c.args.frame.now) (box_of c.args.self.now c.restrict.new.frame) c.args.goal
                    c.in-Branched.branch.place c.part-part.result (c.restrict.ensures.restricted w.if-restrict.true) x is takes,
              )
          | else-restrict-via-else-restrict w ↦ c.restrict.ensures.none w.if-restrict.false x is.completes takes
        ]

pub returns-clause-none : goal.returns-clause-none
returns-clause-none t c _ found =
    let some = takes_some (box_of c.args.self.now c.args.frame.now) c.args.goal c.in-Branched.branch.place c.in-Branched.ensures.known found.0 found.1 in
    c.in_default.ensures some.0 (c.loop-source.invariant.taken found.0 found.1 some.0 some.1)
