use Rattle.std.proofs.Common.{arith, ap, sym, subst, ◌∙◌, ℕ}
use Rattle.lit_syntax.specs.Syntax.{Litmus, agent_of}
use Rattle.lit_paths.specs.PathModel.{path_model}
use Rattle.lit_paths.specs.Plan.{path_in, walk_in, IsWalkIn}
use Rattle.lit_paths.specs.Internal.Combining.{walk_number}
use Rattle.lit_paths.specs.Internal.Walks.{walk_at}
use Rattle.lit_paths.proofs.Combined.{walk_number-known}
use Rattle.lit_paths.proofs.CombinedPaths.{walk_in-numbered}
use Rattle.lit_paths.proofs.Entered.{saved_length, saved_at, agent_here}
use Rattle.lit_paths.proofs.PlanFacts.{walk_in-known}
use Rattle.lit_paths.proofs.combination.Combination.path.Goals as goal

pub bounds-as_slice-agent : goal.bounds-as_slice-agent
bounds-as_slice-agent c =
    saved_length (walk_number c.self.inside.paths.now c.self.inside.number) _ _ _ c.self.view_is _ c.args.agent (c.as_slice.ensures.value ∙ c.self.invariant.formed.combination_paths.numbers) c.requires

pub path-requires-clause-number : goal.path-requires-clause-number
path-requires-clause-number c =
    omega (
      arith,
      c.from.ensures,
      saved_at (walk_number c.self.inside.paths.now c.self.inside.number) _ _ _ c.self.view_is _ c.args.agent (c.as_slice.ensures.value ∙ c.self.invariant.formed.combination_paths.numbers) c.requires,
      walk_number-known c.self.inside.paths.now c.self.inside.number c.args.agent,
    )

pub returns-clause-exact : goal.returns-clause-exact
returns-clause-exact c =
    let t = c.self.inside.paths.now in
    let inside = agent_here _ _ _ c.self.view_is c.args.agent c.requires in
    let number = c.from.ensures ∙ saved_at (walk_number t c.self.inside.number) _ _ _ c.self.view_is _ c.args.agent (c.as_slice.ensures.value ∙ c.self.invariant.formed.combination_paths.numbers) c.requires in
    c.path.ensures ∙ ap (λ n. path_model c.args.agent (walk_at (agent_of t c.args.agent).body n)) number
    ∙ ap (path_model c.args.agent) (sym (walk_in-numbered t c.self.inside.number c.args.agent c.self.invariant.known inside))
    ∙ ap (λ p. path_in p.0 p.1 c.args.agent) c.self.view_is

pub returns-clause-walk : goal.returns-clause-walk
returns-clause-walk c =
    subst (λ (p : Litmus × ℕ). IsWalkIn p.0 p.1 c.args.agent (walk_in p.0 p.1 c.args.agent)) c.self.view_is
    (walk_in-known c.self.inside.paths.now c.self.inside.number c.args.agent c.self.invariant.limits.litmus c.self.invariant.known (agent_here _ _ _ c.self.view_is c.args.agent c.requires))
