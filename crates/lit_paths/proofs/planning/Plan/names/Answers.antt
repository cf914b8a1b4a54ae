use Rattle.std.proofs.Common.{ℕ, List, length, sym, ap, subst, ◌∙◌}
use Rattle.std.specs.Prelude.{All}
use Rattle.lit_paths.specs.Outcome.{names_of}
use Rattle.lit_paths.proofs.OutcomeRegisterSteps.{IsWithin, names_from-within}
use Rattle.lit_paths.proofs.planning.Plan.names.Goals as goal

pub returns-clause-known : goal.returns-clause-known
returns-clause-known c =
    let P : List (ℕ × ℕ) → Type 0 = All (IsWithin (length c.args.self.now.agents)) in
    subst P (sym (c.as_slice.ensures.value ∙ c.self.invariant.all_names ∙ ap names_of c.self.view_is)) (names_from-within c.args.self.now.agents)
