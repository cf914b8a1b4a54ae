use Rattle.std.proofs.Common.{◌≡◌, ◌∙◌, ap, arith, length, List, subst, sym, ℕ}
use Rattle.std.proofs.lemmas.List.{length-map, length-take-le}
use Rattle.lit_paths.specs.ByteReads.{byte_reads, pair_of}
use Rattle.lit_paths.specs.Numbers.{IsBegunBy}
use Rattle.lit_paths.specs.Plan.{IsOfCombination, events_in}
use Rattle.lit_paths.proofs.ChoiceNumbers.{known_by_first}
use Rattle.lit_report.proofs.ChoiceNumbers.{holds_first, whole_has, whole_sourced}
use Rattle.lit_report.proofs.choice_sources.ChoiceSources.find.Goals as goal
use Rattle.lit_report.proofs.choice_sources.ChoiceSources.find.Goals.{After-loop-place}

pub loop-place-init : goal.loop-place-init
loop-place-init c = record {
  holds = holds_first _ _ c.shared-shared.result _ _ c.requires.holds c.shared-shared.ensures.few c.truncate.ensures.items c.truncate-2.ensures.items;
  begun = subst (λ (given : List ℕ). IsBegunBy c.args.combination.now.0 c.args.combination.now.1 given c.args.choice) (sym c.truncate.ensures.items)
      c.shared-shared.ensures.begun;
  place = ap length c.truncate.ensures.items ∙ length-take-le c.shared-shared.result _ c.shared-shared.ensures.few;
}

whole : (c : After-loop-place)
    → length c.loop-place.self.sources.items ≡ length (byte_reads (events_in c.args.combination.now.0 c.args.combination.now.1))
whole c =
    let all = ap length c.byte_reads-place-end.ensures in
    let same = length-map c.byte_reads-place-end.result.now pair_of in
    omega (arith, all, same, c.loop-place.invariant.place, c.loop-place.invariant.holds.few, c.loop-place-test.false)

of : (c : After-loop-place) → IsOfCombination c.args.combination.now.0 c.args.choice c.args.combination.now.1
of c =
    c.choices_are_on_combinations.ensures _ _ _ (known_by_first _ _ _ c.first-first.ensures.value c.first-first.ensures.known)
    c.requires.low c.requires.high

pub returns-clause-listed : goal.returns-clause-listed
returns-clause-listed c = whole_has _ _ _ _ (of c) c.loop-place.invariant.begun (whole c)

pub returns-clause-of : goal.returns-clause-of
returns-clause-of c = of c

pub returns-clause-sourced : goal.returns-clause-sourced
returns-clause-sourced c = whole_sourced _ _ _ _ (of c) c.loop-place.invariant.begun (whole c)
