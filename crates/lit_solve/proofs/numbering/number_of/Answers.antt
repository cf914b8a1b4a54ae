use Rattle.lit_solve.proofs.Words.{◌+◌, ◌∙◌, ◌≡◌, ap, arith, byte_reads, choices_before, digits_below, events_in, HasSources, length}
use Rattle.lit_solve.proofs.Words.{subst, sym, ℕ}
use Rattle.lit_solve.proofs.NumberLemmas.{digits_more, whole_has, whole_within}
use Rattle.lit_solve.proofs.numbering.number_of.Goals as goal
use Rattle.lit_solve.proofs.numbering.number_of.Goals.{After-loop-place}

pub loop-place-preserved : goal.loop-place-preserved
loop-place-preserved c =
    let more = digits_more (events_in c.args.combination.now.0 c.args.combination.now.1) c.args.sources.now c.loop-place.place in
    omega (arith, more, c.digit_of-number.ensures.value, c.loop-place.invariant)

is_number : (c : After-loop-place) → choices_before c.args.combination.now.0 c.args.combination.now.1
    + digits_below (events_in c.args.combination.now.0 c.args.combination.now.1) c.args.sources.now
    (length (byte_reads (events_in c.args.combination.now.0 c.args.combination.now.1))) ≡ c.loop-place.number
is_number c =
    let events = events_in c.args.combination.now.0 c.args.combination.now.1 in
    let end : c.loop-place.place ≡ length (byte_reads events) = omega (arith, c.loop-place-test.false, c.loop-place.auto.place-end, c.requires.one_each) in
    sym (c.loop-place.invariant
    ∙ ap (λ (k : ℕ). choices_before c.args.combination.now.0 c.args.combination.now.1 + digits_below events c.args.sources.now k) end)

pub returns-clause-high : goal.returns-clause-high
returns-clause-high c =
    let below = whole_within c.args.combination.now.0 c.args.combination.now.1 c.first_of-number.ensures.numbers c.args.sources.now c.requires in
    omega (arith, below, is_number c)

pub returns-clause-has : goal.returns-clause-has
returns-clause-has c =
    let is = is_number c in
    let below = whole_within c.args.combination.now.0 c.args.combination.now.1 c.first_of-number.ensures.numbers c.args.sources.now c.requires in
    subst (λ (n : ℕ). HasSources c.args.combination.now.0 n c.args.sources.now) is
    (whole_has c.args.combination.now.0 c.args.combination.now.1 c.first_of-number.ensures.numbers c.args.sources.now c.requires
    (c.first_of-number.ensures.of _ (omega arith) below))
