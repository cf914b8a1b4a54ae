use Rattle.lit_solve.proofs.Words.{◌*◌, ◌+◌, ◌≡◌, ◌≤◌, arith, choices_before, digits_below, events_in, get_or, List, slice_get, Some, subst}
use Rattle.lit_solve.proofs.Words.{sym, ℕ}
use Rattle.lit_solve.proofs.NumberLemmas.{candidate_there, digit_within}
use Rattle.lit_solve.proofs.numbering.digit_of.Goals as goal
use Rattle.lit_solve.proofs.numbering.digit_of.Goals.{After-ways_after}

pub place_of-index-requires : goal.place_of-index-requires
place_of-index-requires c =
    subst (λ (ws : List ℕ). (i : ℕ) × (slice_get ws i ≡ Some (get_or c.args.sources.now c.args.place 0))) (sym c.candidates.ensures.value)
    (candidate_there (events_in c.args.combination.now.0 c.args.combination.now.1) c.args.sources.now c.args.place c.requires.sources c.requires.place)

-- the sum up to this digit is within the combination's numbers
within : (c : After-ways_after) → (choices_before c.args.combination.now.0 c.args.combination.now.1
    + digits_below (events_in c.args.combination.now.0 c.args.combination.now.1) c.args.sources.now c.args.place)
    + c.place_of-index.result * c.ways_after.result ≤ choices_before c.args.combination.now.0 (c.args.combination.now.1 + 1)
within c =
    digit_within c.args.combination.now.0 c.args.combination.now.1 c.first_of-first.ensures.numbers c.args.sources.now c.requires.sources
    c.args.place c.requires.place c.place_of-index.result c.ways_after.result c.candidates.result.now c.place_of-index.ensures.value
    c.candidates.ensures.value c.ways_after.ensures.value

pub overflow_mul-result : goal.overflow_mul-result
overflow_mul-result c = let below = within c in omega (arith, below, c.first_of-first.ensures.few)

pub returns-clause-few : goal.returns-clause-few
returns-clause-few c = let below = within (goal.at.returns-clause-few c).After-ways_after in omega (arith, below, c.first_of-first.ensures.few)
