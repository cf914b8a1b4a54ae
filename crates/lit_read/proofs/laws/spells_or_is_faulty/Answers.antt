use Rattle.lit_read.proofs.laws.spells_or_is_faulty.Goals as goal

pub returns : goal.returns
returns c = λ text t kind line spells. spells.faultless kind line
