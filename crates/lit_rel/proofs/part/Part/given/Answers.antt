use Rattle.lit_rel.proofs.PartLemmas.{small_events}
use Rattle.lit_rel.proofs.part.Part.given.Goals as goal

pub returns-clause-small : goal.returns-clause-small
returns-clause-small c = small_events _ _ c.events.ensures.sound
