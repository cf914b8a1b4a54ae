use Rattle.std.proofs.Common.{refl}
use Rattle.lit_report.proofs.ChoiceNumbers.{begun_none, numbers_by_first}
use Rattle.lit_report.proofs.choice_sources.ChoiceSources.shared.Goals as goal

pub returns-then-reaches-clause-begun : goal.returns-then-reaches-clause-begun
returns-then-reaches-clause-begun c = c.if-reaches.ensures refl

pub returns-clause-begun : goal.returns-clause-begun
returns-clause-begun c =
    begun_none _ _ _ (numbers_by_first _ _ _ c.choices_have_numbers.ensures c.first-first.ensures.value c.first-first.ensures.known)
    c.requires.low c.requires.high
