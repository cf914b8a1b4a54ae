use Rattle.lit_read.proofs.showing.statements.put_load.Goals as goal

pub returns-then-atomic : goal.returns-then-atomic
returns-then-atomic c = rw (c.if-atomic.true, ← c.array_name.ensures) c.write.ensures.bytes
