use Rattle.lit_solve.proofs.Words.{arith, below_more, box_of, false≢true, Holds, inl, inr, MayHave, RacesAt, refl, sym, ◌∙◌}
use Rattle.lit_solve.proofs.RacingLemmas.{races_iff}
use Rattle.lit_solve.proofs.problem.Problem.races.Goals as goal

pub returns-then-races_at : goal.returns-then-races_at
returns-then-races_at c = (
  (λ _. (races_iff (box_of c.args.self.now c.args.frame.now) (Holds c.args.before.now) c.args.filling).1
      (inl (
        c.loop-place.place,
        omega (arith, c.reads-place-end.ensures.value, c.loop-place-test.true),
        c.races_at.ensures.0
            c.if-races_at.true,
      ))),
  (λ _. refl),
)

pub loop-place-preserved : goal.loop-place-preserved
loop-place-preserved c =
    below_more (λ k. ¬ RacesAt (box_of c.args.self.now c.args.frame.now) (Holds c.args.before.now)
    (MayHave (box_of c.args.self.now c.args.frame.now) c.args.filling) k) c.loop-place.place c.loop-place.invariant
    (λ race. false≢true (sym c.if-races_at.false ∙ c.races_at.ensures.1 race))

pub returns : goal.returns
returns c =
    let iff = races_iff (box_of c.args.self.now c.args.frame.now) (Holds c.args.before.now) c.args.filling in (
      (λ h. iff.1 (inr (c.has_racing_writes.ensures.0 h))),
      (λ h. elim (iff.0 h) [
        | inl (k, inside, race) ↦ absurd
            (c.loop-place.invariant k (omega (arith, inside, c.reads-place-end.ensures.value, c.loop-place-test.false)) race)
        | inr writes ↦
            c.has_racing_writes.ensures.1 writes
      ]),
    )
