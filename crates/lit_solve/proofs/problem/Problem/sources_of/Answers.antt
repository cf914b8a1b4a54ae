use Rattle.lit_solve.proofs.Words.{◌++◌, ◌<◌, [], ap, arith, Box, box_with, events_on, HasSource, length, length-append, LiesIn, List}
use Rattle.lit_solve.proofs.Words.{subst, sym, ℕ, ◌∙◌, ◌∷◌, ◌≡◌}
use Rattle.lit_solve.proofs.LeastLemmas.{lies_more}
use Rattle.lit_solve.proofs.PruningLemmas.{source_known}
use Rattle.lit_solve.proofs.problem.Problem.sources_of.Goals as goal
use Rattle.lit_solve.proofs.problem.Problem.sources_of.Goals.{in-Some, in_default}

pub overflow_cast-source : goal.overflow_cast-source
overflow_cast-source c =
    let known : c.in-Some.source < length (events_on c.args.self.now) =
    source_known (box_with c.args.self.now c.args.domains.now) c.requires.is_box c.loop-place.place c.in-Some.source
    (omega (arith, c.loop-place-test.true, c.reads-place-end.ensures.value)) c.in-Some.ensures.0 in
    omega arith

pub loop-place-preserved : goal.loop-place-preserved
loop-place-preserved c =
    let box : Box = box_with c.args.self.now c.args.domains.now in
    let was : List ℕ = c.loop-place.sources.items in
    elim c.match-only_one.branch [
      | in-Some w ↦
          let items : c.match-only_one.sources.items ≡ was ++ w.in-Some.source ∷ [] = ap (λ v. v.items) w.sources-is ∙ w.push.ensures.items in
          record {
            count = omega (arith, ap length items, length-append was (w.in-Some.source ∷ []), c.loop-place.invariant.count);
            within = subst (λ (given : List ℕ). LiesIn box given) (sym items)
                (lies_more box was w.in-Some.source c.loop-place.invariant.within
                (subst (λ (n : ℕ). HasSource box n w.in-Some.source) (sym c.loop-place.invariant.count) w.in-Some.ensures.0));
          }
      | in_default w ↦
          let one = c.requires.alone c.loop-place.place (omega (arith, c.loop-place-test.true, c.reads-place-end.ensures.value)) in
          absurd (w.in_default.ensures one.0 one.1.there one.1.alone)
    ]
