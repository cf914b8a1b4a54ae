use Rattle.std.proofs.Common.{ap, sym, ◌∙◌, Ok}
use Rattle.std.specs.Prelude.{string_bytes}
use Rattle.lit_syntax.specs.Syntax.{Statements}
use Rattle.lit_syntax.specs.Litmus.{statements_of, agents_view}
use Rattle.lit_read.specs.Internal.State.{Open}
use Rattle.lit_read.proofs.CheckSteps.{views}
use Rattle.lit_read.proofs.DraftLemmas.{statements_pushed}
use Rattle.lit_read.proofs.draft.Open.with_statement.Goals as goal

pub returns : goal.returns
returns c =
    ap (λ (body : Statements). Ok (Open (string_bytes c.args.self.name) c.args.self.bytes (agents_view c.args.self.agents.entries) (string_bytes c.args.self.agent) (views c.args.self.ifs.items) body))
    (sym (ap statements_of c.in_ok-push.ensures.items ∙ statements_pushed c.args.self.body.items c.args.stmt))
