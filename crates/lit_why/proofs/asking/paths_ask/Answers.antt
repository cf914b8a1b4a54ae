use Rattle.std.proofs.Common.{◌≡◌, ap, arith, below_more, false, length, sym, true, ◌∙◌}
use Rattle.lit_syntax.specs.Syntax.{Litmus}
use Rattle.lit_why.specs.Asked.{is_tested_by, is_tested_of}
use Rattle.lit_why.proofs.AskedLemmas.{tested_by_agent, tested_by_none}
use Rattle.lit_why.proofs.asking.paths_ask.Goals as goal

pub returns-then-guards_ask : goal.returns-then-guards_ask
returns-then-guards_ask c =
    let p = c.args.combination.now in
    let is : is_tested_by c.tests-guards.result.now c.first_event.result c.args.read ≡ true =
    sym c.guards_ask.ensures ∙ c.if-guards_ask.true in
    let known : c.agents-agent-end.result ≡ length p.0.agents =
    c.agents-agent-end.ensures.value ∙ ap (λ (t : Litmus). length t.agents) c.test.ensures in
    sym (tested_by_agent p.0 p.1 c.args.read c.loop-agent.agent (omega (arith, known, c.loop-agent-test.true))
    (rw (c.tests-guards.ensures, c.path.ensures.exact, c.first_event.ensures) at is))

pub loop-agent-preserved : goal.loop-agent-preserved
loop-agent-preserved c =
    let p = c.args.combination.now in
    let is : is_tested_by c.tests-guards.result.now c.first_event.result c.args.read ≡ false =
    sym c.guards_ask.ensures ∙ c.if-guards_ask.false in
    below_more (λ i. is_tested_of p.0 p.1 c.args.read i ≡ false) c.loop-agent.agent c.loop-agent.invariant
    (rw (c.tests-guards.ensures, c.path.ensures.exact, c.first_event.ensures) at is)

pub returns : goal.returns
returns c =
    let p = c.args.combination.now in
    let known : c.agents-agent-end.result ≡ length p.0.agents =
    c.agents-agent-end.ensures.value ∙ ap (λ (t : Litmus). length t.agents) c.test.ensures in
    sym (tested_by_none p.0 p.1 c.args.read (λ i below. c.loop-agent.invariant i (omega (arith, below, known, c.loop-agent-test.false))))
