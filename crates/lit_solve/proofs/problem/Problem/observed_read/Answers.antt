use Rattle.lit_solve.proofs.Words.{◌+◌, ◌<◌, ap, ap₂, arith, does_read, event_at, events_on, first_event, IsTrue, length, Litmus, None}
use Rattle.lit_solve.proofs.Words.{number_on, Option, slice_index_or, subst, sym, ℕ, ◌∙◌, ◌≡◌}
use Rattle.lit_solve.proofs.RegisterLemmas.{observed_reads, none_beyond, none_without_agent}
use Rattle.lit_solve.proofs.problem.Problem.observed_read.Goals.{then-agent-agents-via-then-agent-agents, then-agent-agents-via-else-agent-agents+then-from-ge-REGISTERS}
use Rattle.lit_solve.proofs.problem.Problem.observed_read.Goals as goal

pub returns-then-agent-agents-clause-value : goal.returns-then-agent-agents-clause-value
returns-then-agent-agents-clause-value c =
    let test = c.args.self.now.0 in
    let number = c.args.self.now.1 in
    let on = λ (last : Option ℕ). number_on (first_event test number c.args.agent) last in
    let count : c.agents.result ≡ length test.agents = c.agents.ensures.value ∙ ap (λ (t : Litmus). length t.agents) c.test.ensures
    ∙ ap (λ (p : Litmus × ℕ). length p.0.agents) c.self.view_is in
    elim c.then-agent-agents.branch [
      | then-agent-agents-via-then-agent-agents w ↦
          sym (ap on (none_without_agent test number c.args.agent c.args.reg (omega (arith, w.if-agent-agents.true, c.from-agent.ensures, count))))
      | then-agent-agents-via-else-agent-agents+then-from-ge-REGISTERS w ↦
          sym (ap on (none_beyond test number c.args.agent c.args.reg (omega (arith, w.if-from-ge-REGISTERS.true, w.from.ensures))))
    ]

pub returns-clause-reads : goal.returns-clause-reads
returns-clause-reads c =
    let e = c.self.inside.combination in
    let agent = c.from-agent.result in
    let at = sym (c.last.ensures ∙ ap (λ p. slice_index_or p.last c.args.reg None) c.path.ensures.exact) ∙ c.in_ok-place.was in
    let is = observed_reads e.0 e.1 agent c.args.reg c.in_ok-place.place c.path.ensures.walk (omega (arith, c.if-from-ge-REGISTERS.false, c.from.ensures)) at in
    let sum : first_event e.0 e.1 agent + c.in_ok-place.place ≡ c.from-2.result + c.from-3.result = ap₂ (λ (a b : ℕ). a + b)
    (sym (c.from-2.ensures ∙ c.first_event.ensures)) (sym c.from-3.ensures) in
    subst (λ (p : Litmus × ℕ). (c.from-2.result + c.from-3.result < length (events_on p))
    × IsTrue (does_read (event_at (events_on p) (c.from-2.result + c.from-3.result)).kind)) c.self.view_is
    (subst (λ (n : ℕ). (n < length (events_on e)) × IsTrue (does_read (event_at (events_on e) n).kind)) sum is)
