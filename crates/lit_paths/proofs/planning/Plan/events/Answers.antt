use Rattle.std.proofs.Common.{arith, ap, ◌∙◌, length, subst}
use Rattle.lit_syntax.specs.Syntax.{Litmus}
use Rattle.lit_paths.specs.Choice.{combinations_of}
use Rattle.lit_paths.specs.Plan.{events_in, AreEventsIn}
use Rattle.lit_paths.proofs.CombinedPaths.{count_of-combinations}
use Rattle.lit_paths.proofs.planning.Plan.events.Goals as goal

pub join-requires : goal.join-requires
join-requires c = omega (arith, c.requires, ap (λ t. length (combinations_of t)) c.self.view_is, count_of-combinations c.self.inside.paths)

pub returns-clause-value : goal.returns-clause-value
returns-clause-value c = c.join.ensures.combination_paths.events ∙ ap (λ t. events_in t c.args.combination) c.self.view_is

pub returns-clause-sound : goal.returns-clause-sound
returns-clause-sound c = subst (λ (t : Litmus). AreEventsIn t.bytes c.join.new.combination_paths.events.items) c.self.view_is c.join.ensures.sound
