use Rattle.lit_rel.proofs.part.Part.len.Goals as goal

pub returns-clause-candidates : goal.returns-clause-candidates
returns-clause-candidates c = rw (← c.self.view_is) c.self.invariant.candidates

pub returns-clause-all : goal.returns-clause-all
returns-clause-all c complete = record { one_each = complete; each = returns-clause-candidates c }
