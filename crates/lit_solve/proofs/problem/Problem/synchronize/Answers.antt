use Rattle.lit_solve.proofs.Words.{◌<◌, ap, arith, Box, box_of, EventSet, Holds, inl, inr, IsSynchronizedAt, List, subst, sym, ℕ, ◌∙◌, ◌≡◌}
use Rattle.lit_solve.proofs.Words.{◌⊎◌}
use Rattle.lit_solve.proofs.FrameLemmas.{before_exact, below_or_last, synchronized_stays}
use Rattle.lit_solve.proofs.problem.Problem.synchronize.Goals as goal

pub loop-place-preserved : goal.loop-place-preserved
loop-place-preserved c = record {
  domains = c.put_synchronized.ensures.domains ∙ c.loop-place.invariant.domains;
  contained = c.put_synchronized.ensures.contained;
  there = λ k below. by k (below_or_last k c.loop-place.place below);
}
  where
    was : Box
    was = box_of c.args.self.now c.loop-place.frame

    now : Box
    now = box_of c.args.self.now c.put_synchronized.new.frame

    same : was ≡ now
    same = ap (λ (domains : List EventSet). record { test = c.args.self.now.0; combination = c.args.self.now.1; domains = domains }) (sym c.put_synchronized.ensures.domains)

    by : (k : ℕ) → (k < c.loop-place.place) ⊎ (k ≡ c.loop-place.place) → IsSynchronizedAt now (Holds c.put_synchronized.new.frame.happens_before.rows) k
    by k (inl below) = synchronized_stays was now (Holds c.loop-place.frame.happens_before.rows) (Holds c.put_synchronized.new.frame.happens_before.rows) k same c.put_synchronized.ensures.grows (c.loop-place.invariant.there k below)
    by k (inr last) = subst (λ (i : ℕ). IsSynchronizedAt now (Holds c.put_synchronized.new.frame.happens_before.rows) i) (sym last) c.put_synchronized.ensures.there

pub returns-clause-exact : goal.returns-clause-exact
returns-clause-exact c =
    before_exact (box_of c.args.self.now c.loop-place.frame) c.loop-place.frame c.loop-place.invariant.contained
    (λ k below. c.loop-place.invariant.there k (omega (arith, below, c.loop-place-test.false, c.reads-place-end.ensures.value)))
