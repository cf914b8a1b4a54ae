use Rattle.std.proofs.Common.{◌≡◌, ℕ, ◌++◌, List, length, sym, ap, subst, ◌∙◌, arith, append-nil}
use Rattle.std.specs.Prelude.{All}
use Rattle.std.proofs.lemmas.List.{drop_all}
use Rattle.lit_syntax.specs.Syntax.{Agent}
use Rattle.lit_paths.specs.Outcome.{names_from, names_of}
use Rattle.lit_paths.proofs.OutcomeRegisterSteps.{IsWithin, names_from-within}
use Rattle.lit_paths.proofs.registers.written_names.Goals as goal

pub returns-clause-known : goal.returns-clause-known
returns-clause-known c =
    let agents = c.args.test.now.agents in
    let names = c.loop-agent.names.items in
    let all : names ≡ names_of c.args.test.now =
    sym (append-nil names)
    ∙ ap (λ (rest : List Agent). names ++ names_from c.loop-agent.agent rest) (sym (drop_all c.loop-agent.agent agents (omega (arith, c.loop-agent-test.false, c.agents-agent-end.ensures.value))))
    ∙ c.loop-agent.invariant.names in
    let P : List (ℕ × ℕ) → Type 0 = All (IsWithin (length agents)) in
    subst P (sym all) (names_from-within agents)
