use Rattle.std.proofs.Common.{◌+◌, ◌≤◌, subst}
use Rattle.std.proofs.lemmas.List.{get_or_default}
use Rattle.lit_paths.specs.declared.event.Event.{Event}
use Rattle.lit_paths.proofs.ByteReads.{reads_room, byte_reads_step}
use Rattle.lit_paths.proofs.byte_reads.find_byte_reads.Goals as goal

pub push_bytes-requires : goal.push_bytes-requires
push_bytes-requires c = record {
  room = reads_room c.args.events.now c.loop-number.number _ _ c.loop-number.reads.items c.loop-number-test.true c.loop-number.invariant c.requires.room;
  range = subst (λ (e : Event). e.first + e.size ≤ 256) (get_or_default c.args.events.now c.loop-number.number _ _ c.loop-number-test.true) (c.requires.ranges c.loop-number.number c.loop-number-test.true);
}

pub loop-number-preserved : goal.loop-number-preserved
loop-number-preserved c = byte_reads_step c.args.events.now c.loop-number.number _ _ _ c.loop-number-test.true c.push_bytes.ensures c.loop-number.invariant
