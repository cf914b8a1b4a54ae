use Rattle.std.proofs.Common.{◌-◌, ◌<◌, List, ℕ, ap, arith, get_or}
use Rattle.std.proofs.lemmas.Bool.Decides.{nat_tests}
use Rattle.lit_report.proofs.ChoiceNumbers.{reached}
use Rattle.lit_report.proofs.choice_sources.ChoiceSources.reaches.Goals as goal

pub returns-then-low-choice : goal.returns-then-low-choice
returns-then-low-choice c is =
    let low = get_or c.as_slice.result.now c.args.place 0 in
    let less : c.args.choice - low < c.ways_after.result = grind (arith, nat_tests) in
    reached _ _ c.args.place c.args.choice low c.ways_after.result _ c.requires.holds c.requires.place
    (ap (λ (ls : List ℕ). get_or ls c.args.place 0) c.as_slice.ensures.value) c.ways_after.ensures.value c.if-low-choice.true less
