use Rattle.lit_solve.proofs.Words.{arith}
use Rattle.lit_solve.proofs.BoxesLemmas.{domain_exact}
use Rattle.lit_solve.proofs.boxes.Boxes.domain.Goals as goal

pub returns : goal.returns
returns c = grind (arith, domain_exact)
