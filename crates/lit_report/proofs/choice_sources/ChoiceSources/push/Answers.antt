use Rattle.std.proofs.Common.{◌≡◌, arith, get_or, List, Some, subst, sym, ℕ}
use Rattle.std.specs.Prelude.{slice_get}
use Rattle.std.proofs.lemmas.Option.{slice_get-get_or}
use Rattle.lit_paths.specs.Numbers.{IsBegunBy}
use Rattle.lit_report.proofs.ChoiceNumbers.{begun_more, digit_within, holds_more, numbered_more, numbers_by_first}
use Rattle.lit_report.proofs.choice_sources.ChoiceSources.push.Goals as goal
use Rattle.lit_report.proofs.choice_sources.ChoiceSources.push.Goals.{After-push-2}

pub digits-init : goal.digits-init
digits-init c = record {
  low = omega arith;
  at_least = ((c.low-low.ensures c.args.choice).0 c.requires.begun).0;
  small = omega arith;
}

pub bounds-candidates-digit : goal.bounds-candidates-digit
bounds-candidates-digit c =
    digit_within _ _ (numbers_by_first _ _ _ c.choices_have_numbers.ensures c.first-first.ensures.value c.first-first.ensures.known) _
    c.len-place.result c.low-low.result c.digits.low c.digits.digit c.ways_after-ways.result c.args.choice c.candidates.result.now
    c.len-place.ensures.value c.ways_after-ways.ensures.value c.candidates.ensures.value c.low-low.ensures c.requires.begun c.requires.few
    c.digits.invariant.low c.digits.invariant.at_least c.digits-test.false

-- the source appended is the candidate of this digit
here : (c : After-push-2) → slice_get c.candidates.result.now c.digits.digit ≡ Some (get_or c.candidates.result.now c.digits.digit 0)
here c =
    slice_get-get_or c.candidates.result.now _ 0 (digit_within _ _ (numbers_by_first _ _ _ c.choices_have_numbers.ensures c.first-first.ensures.value c.first-first.ensures.known) _
    c.len-place.result c.low-low.result c.digits.low c.digits.digit c.ways_after-ways.result c.args.choice c.candidates.result.now
    c.len-place.ensures.value c.ways_after-ways.ensures.value c.candidates.ensures.value c.low-low.ensures c.requires.begun c.requires.few
    c.digits.invariant.low c.digits.invariant.at_least c.digits-test.false)

pub returns-clause-holds : goal.returns-clause-holds
returns-clause-holds c =
    holds_more _ _ _ _ c.requires.holds _ _ c.requires.few c.push.ensures.items c.push-2.ensures.items
    (numbered_more _ _ (numbers_by_first _ _ _ c.choices_have_numbers.ensures c.first-first.ensures.value c.first-first.ensures.known) _
    c.len-place.result c.low-low.result c.digits.low c.digits.digit c.ways_after-ways.result c.args.choice c.candidates.result.now
    c.len-place.ensures.value c.ways_after-ways.ensures.value c.candidates.ensures.value c.low-low.ensures c.requires.begun c.requires.few
    c.digits.invariant.low c.digits.invariant.at_least c.digits-test.false _ (here c))

pub returns-clause-begun : goal.returns-clause-begun
returns-clause-begun c =
    subst (λ (given : List ℕ). IsBegunBy c.args.combination.now.0 c.args.combination.now.1 given c.args.choice) (sym c.push.ensures.items)
    (begun_more _ _ (numbers_by_first _ _ _ c.choices_have_numbers.ensures c.first-first.ensures.value c.first-first.ensures.known) _
    c.len-place.result c.low-low.result c.digits.low c.digits.digit c.ways_after-ways.result c.args.choice c.candidates.result.now
    c.len-place.ensures.value c.ways_after-ways.ensures.value c.candidates.ensures.value c.low-low.ensures c.requires.begun c.requires.few
    c.digits.invariant.low c.digits.invariant.at_least c.digits-test.false _ (here c))
