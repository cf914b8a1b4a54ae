use Rattle.std.proofs.Common.{ap, ◌∙◌}
use Rattle.std.specs.Str.{bytes_eq}
use Rattle.std.specs.Prelude.{string_bytes}
use Rattle.lit_syntax.specs.Litmus.{statements_of}
use Rattle.lit_read.proofs.DraftLemmas.{taken_before, taken_here}
use Rattle.lit_read.proofs.draft.Open.has_agent.Goals as goal

pub returns-then-contains_key : goal.returns-then-contains_key
returns-then-contains_key c =
    let so_far = c.args.self.now in
    taken_before c.args.name.now so_far.agents.entries (string_bytes so_far.agent) (statements_of so_far.body.items) c.contains_key.result c.contains_key.ensures c.if-contains_key.true

pub returns-else-contains_key : goal.returns-else-contains_key
returns-else-contains_key c =
    let so_far = c.args.self.now in
    taken_here c.args.name.now so_far.agents.entries (string_bytes so_far.agent) (statements_of so_far.body.items) c.contains_key.result c.eq.result c.contains_key.ensures c.if-contains_key.false (c.eq.ensures ∙ ap (bytes_eq c.args.name.now) c.as_str.ensures.value)
