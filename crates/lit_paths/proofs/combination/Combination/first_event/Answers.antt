use Rattle.std.proofs.Common.{ap, ◌∙◌}
use Rattle.lit_paths.specs.Plan.{first_event}
use Rattle.lit_paths.proofs.Entered.{saved_length, saved_at}
use Rattle.lit_paths.proofs.combination.Combination.first_event.Goals as goal

pub bounds-as_slice-agent : goal.bounds-as_slice-agent
bounds-as_slice-agent c =
    saved_length (first_event c.self.inside.paths.now c.self.inside.number) _ _ _ c.self.view_is _ c.args.agent (c.as_slice.ensures.value ∙ c.self.invariant.formed.combination_paths.firsts) c.requires

pub returns : goal.returns
returns c =
    saved_at (first_event c.self.inside.paths.now c.self.inside.number) _ _ _ c.self.view_is _ c.args.agent (c.as_slice.ensures.value ∙ c.self.invariant.formed.combination_paths.firsts) c.requires
    ∙ ap (λ p. first_event p.0 p.1 c.args.agent) c.self.view_is
