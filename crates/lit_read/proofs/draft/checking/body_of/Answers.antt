use Rattle.std.proofs.Common.{ap, sym, is_some, ◌∙◌}
use Rattle.lit_syntax.specs.Litmus.{statements_of}
use Rattle.lit_read.proofs.DraftLemmas.{body_is, body_absent}
use Rattle.lit_read.proofs.draft.checking.body_of.Goals as goal

pub returns-in_err-body-clause-absent : goal.returns-in_err-body-clause-absent
returns-in_err-body-clause-absent c = rw c.from_residual.ensures (body_absent c.args.name.now c.args.agents.now.entries (sym (ap is_some c.in_err-body.ensures.value)))

pub returns-clause-found : goal.returns-clause-found
returns-clause-found c = ap statements_of c.as_slice.ensures.value ∙ body_is c.args.name.now c.args.agents.now.entries c.in_ok-body.body.now (sym c.in_ok-body.ensures.value)
