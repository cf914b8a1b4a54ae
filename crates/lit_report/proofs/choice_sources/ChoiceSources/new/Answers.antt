use Rattle.lit_report.proofs.ChoiceNumbers.{holds_none}
use Rattle.lit_report.proofs.choice_sources.ChoiceSources.new.Goals as goal

pub returns : goal.returns
returns c t n = holds_none t n _ c.new.ensures c.new-2.ensures
