use Rattle.std.proofs.Common.{◌∙◌, codes, ap, arith}
use Rattle.lit_paths.specs.FaultNames.{limit_text}
use Rattle.lit_json.proofs.FaultLemmas.{teen}
use Rattle.lit_json.proofs.faults.plan_parts.Goals as goal

pub returns-in-TooManyPaths-clause-named : goal.returns-in-TooManyPaths-clause-named
returns-in-TooManyPaths-clause-named c = ap limit_text c.in-TooManyPaths.is ∙ teen 3 (omega arith) (codes "too_many_paths")

pub returns-in-TooManyEvents-clause-named : goal.returns-in-TooManyEvents-clause-named
returns-in-TooManyEvents-clause-named c = ap limit_text c.in-TooManyEvents.is ∙ teen 4 (omega arith) (codes "too_many_events")

pub returns-in-TooManyChoices-clause-named : goal.returns-in-TooManyChoices-clause-named
returns-in-TooManyChoices-clause-named c = ap limit_text c.in-TooManyChoices.is ∙ teen 5 (omega arith) (codes "too_many_choices")
