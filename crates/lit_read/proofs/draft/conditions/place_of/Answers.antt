use Rattle.std.proofs.Common.{ap, sym, is_some, ◌∙◌}
use Rattle.lit_read.proofs.DraftLemmas.{place_is, place_absent}
use Rattle.lit_read.proofs.draft.conditions.place_of.Goals as goal

pub returns-in-Some-clause-value : goal.returns-in-Some-clause-value
returns-in-Some-clause-value c = place_is c.args.name.now c.args.agents.now.entries c.in-Some.place (sym c.in-Some.ensures.index)

pub returns-in-None-clause-value : goal.returns-in-None-clause-value
returns-in-None-clause-value c = c.len.ensures.len ∙ place_absent c.args.name.now c.args.agents.now.entries (sym (ap is_some c.in-None.ensures.value))
