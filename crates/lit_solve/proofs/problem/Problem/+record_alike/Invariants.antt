use Rattle.lit_solve.proofs.Words.{size_of}
use Rattle.lit_solve.proofs.problem.Problem.+record_alike.Given as goal

abbrev pub decreases-record_alike : goal.decreases-record_alike
decreases-record_alike g l = size_of l.frame.now.domains
