use Rattle.lit_rel.proofs.part.Part.happens_before.Goals as goal

pub returns-clause-pairs : goal.returns-clause-pairs
returns-clause-pairs c e d = rw (← c.self.view_is) (c.self.invariant.at_all.before.pairs e d)
