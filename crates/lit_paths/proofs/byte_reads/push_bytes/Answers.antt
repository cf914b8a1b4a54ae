use Rattle.std.proofs.Common.{sym, ◌∙◌, arith, refl}
use Rattle.lit_paths.proofs.ByteReads.{push_room, push_step}
use Rattle.lit_paths.proofs.byte_reads.push_bytes.Goals as goal

pub push-requires : goal.push-requires
push-requires c =
    (omega arith, push_room c.args.number c.args.event.now c.loop-k.k _ _ _ (sym c.does_read.ensures ∙ c.if-does_read.true) c.requires.room c.loop-k.invariant c.loop-k-test.true)

pub loop-k-preserved : goal.loop-k-preserved
loop-k-preserved c = push_step c.args.number c.args.event.now c.loop-k.k _ _ _ _ c.loop-k.invariant c.push.ensures.items refl
