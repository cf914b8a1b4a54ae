use Rattle.lit_rel.proofs.part.Part.broken.Goals as goal

pub returns : goal.returns
returns c = rw (← c.self.view_is) c.self.invariant.at_all.broken
