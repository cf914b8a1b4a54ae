use Rattle.std.proofs.Common.{ap, ◌∙◌}
use Rattle.lit_syntax.specs.Litmus.{agents_view}
use Rattle.lit_read.proofs.DraftLemmas.{new_last}
use Rattle.lit_read.proofs.draft.with_last.Goals as goal

pub returns : goal.returns
returns c = ap agents_view c.in_ok-insert.ensures.entries ∙ new_last c.args.agents.entries c.args.agent c.args.body c.requires
