use Rattle.lit_read.proofs.showing.statements.put_exchange.Goals as goal

pub returns : goal.returns
returns c = rw (← c.array_name.ensures) c.write.ensures.bytes
