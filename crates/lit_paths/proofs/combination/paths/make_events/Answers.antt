use Rattle.std.proofs.Common.{arith, le_trans}
use Rattle.lit_paths.proofs.EventLists.{init_events_room, init_events_step}
use Rattle.lit_paths.proofs.combination.paths.make_events.Goals as goal

pub push-requires : goal.push-requires
push-requires c = (omega arith, init_events_room c.loop-byte.byte c.args.bytes _ _ c.loop-byte.invariant c.loop-byte-test.true (le_trans c.requires (omega arith)))

pub loop-byte-preserved : goal.loop-byte-preserved
loop-byte-preserved c = init_events_step c.loop-byte.byte _ _ c.loop-byte.invariant c.push.ensures.items
