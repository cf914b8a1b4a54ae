use Rattle.lit_solve.proofs.Words.{box_of, byte_read_at, CanSynchronize, cases_eq, Event, event_at, events_on, HasEvent, HasSource, Holds, inl, inr}
use Rattle.lit_solve.proofs.Words.{List, Rows, split_less, subst, sym, ℕ, ◌≡◌, ◌≢◌, ◌⊎◌}
use Rattle.lit_solve.proofs.RacingLemmas.{read_number}
use Rattle.lit_solve.proofs.problem.Problem.before_each.Goals as goal

-- what is wanted of an event and a source of the read
abbrev Precedes : List Event → Rows → (r e w : ℕ) → Type 0
Precedes events rows r e w = CanSynchronize (event_at events w) (event_at events r) × (Holds rows e w ⊎ (e ≡ w))

pub loop-source-smaller : goal.loop-source-smaller
loop-source-smaller c = split_less c.loop-source.left c.in-Some.source c.in-Some.others c.in-Some.ensures

pub loop-source-preserved : goal.loop-source-preserved
loop-source-preserved c = record {
  left = λ w h. c.loop-source.invariant.left w ((c.in-Some.ensures.rest w).0 h).0;
  known = λ e h. c.loop-source.invariant.known e ((c.intersection-before.ensures e).0 h).0;
  before = λ e w h there gone. by e w h there gone (cases_eq w c.in-Some.source);
}
  where
    is_read : c.from-read.result ≡ (byte_read_at (events_on c.args.self.now) c.args.place).0
    is_read = read_number (events_on c.args.self.now) c.args.place c.byte_read.result c.from-read.result c.from-read.ensures c.byte_read.ensures.at

    can : CanSynchronize (event_at (events_on c.args.self.now) c.in-Some.source) (event_at (events_on c.args.self.now) (byte_read_at (events_on c.args.self.now) c.args.place).0)
    can = subst (λ (r : ℕ). CanSynchronize (event_at (events_on c.args.self.now) c.in-Some.source) (event_at (events_on c.args.self.now) r)) is_read
        ((c.synchronizing.ensures c.in-Some.source).0 (c.is_within.ensures.0 c.if-not-is_within.false c.in-Some.source
        (c.loop-source.invariant.left c.in-Some.source c.in-Some.ensures.there))).1

    either : (e : ℕ) → HasEvent c.successors.result e ⊎ (e ≡ c.in-Some.source) → Holds c.args.ordered.now.rows e c.in-Some.source ⊎ (e ≡ c.in-Some.source)
    either e (inl h) = inl ((c.args.ordered.now.same.pairs e c.in-Some.source).0 ((c.successors.ensures e).0 h))
    either e (inr same) = inr same

    by : (e w : ℕ) → HasEvent c.intersection-before.result e → HasSource (box_of c.args.self.now c.args.frame.now) c.args.place w
        → ¬ HasEvent c.in-Some.others w → (w ≡ c.in-Some.source) ⊎ (w ≢ c.in-Some.source)
        → Precedes (events_on c.args.self.now) c.args.ordered.now.rows (byte_read_at (events_on c.args.self.now) c.args.place).0 e w
    by e w h there gone (inl same) =
        subst (λ (v : ℕ). Precedes (events_on c.args.self.now) c.args.ordered.now.rows (byte_read_at (events_on c.args.self.now) c.args.place).0 e v) (sym same)
        (can, either e ((c.with.ensures e).0 ((c.intersection-before.ensures e).0 h).1))
    by e w h there gone (inr other) =
        c.loop-source.invariant.before e w ((c.intersection-before.ensures e).0 h).0 there (λ yet. gone ((c.in-Some.ensures.rest w).1 (yet, other)))

pub returns-clause-before : goal.returns-clause-before
returns-clause-before c e w h there = c.loop-source.invariant.before e w h there (c.in_default.ensures w)
