use Rattle.std.proofs.Common.{◌≡◌, ℕ, List, length, arith, ap, inl, inr, subst}
use Rattle.std.proofs.lemmas.Bool.{cases_lt}
use Rattle.lit_paths.specs.declared.event.Event.{Event}
use Rattle.lit_solve.specs.Box.{events_on}
use Rattle.lit_why.specs.LeastMixing.{GivesOn, IsFirstOn}
use Rattle.lit_why.proofs.UnmixingLemmas.{first_stays}
use Rattle.lit_why.proofs.unmixing.unmix.Goals as goal

pub loop-read-init : goal.loop-read-init
loop-read-init c = record { after = c.requires.least; first = λ q less. absurd (omega (arith, less)) }

pub loop-read-preserved : goal.loop-read-preserved
loop-read-preserved c =
    let p = c.args.problem.now in
    let read = c.loop-read.read in
    let sources = c.loop-read.least.sources.items in
    let others = c.first_on-least.result.sources.items in
    record {
      after = c.first_on-least.ensures.after;
      first = λ q less. elim (cases_lt q read) [
        | inl earlier ↦
            first_stays (events_on p) (GivesOn p.0 c.args.goal p.1) q read sources others earlier c.first_on-least.ensures.agrees
            (c.loop-read.invariant.first q earlier)
        | inr last ↦
            subst (λ (r : ℕ). IsFirstOn (events_on p) (GivesOn p.0 c.args.goal p.1) others r) (omega (arith, less, last))
            c.first_on-least.ensures.first
      ];
    }

pub returns : goal.returns
returns c =
    let same : length c.events-read-end.result.now ≡ length (events_on c.args.problem.now) =
    ap (λ (es : List Event). length es) (rw c.combination.ensures at c.events-read-end.ensures.value) in
    record {
      mixes_least = record {
        among = c.loop-read.invariant.after.gives;
        first = λ r known. c.loop-read.invariant.first r (omega (arith, known, same, c.loop-read-test.false));
      };
      ordered = c.loop-read.invariant.after.ordered;
    }
