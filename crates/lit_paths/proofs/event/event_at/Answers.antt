use Rattle.std.proofs.lemmas.List.{get_or_default}
use Rattle.lit_paths.proofs.event.event_at.Goals as goal

pub returns : goal.returns
returns c = get_or_default c.args.events.now c.args.number _ _ c.requires
