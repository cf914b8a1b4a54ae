use Rattle.lit_solve.proofs.Words.{arith}
use Rattle.lit_solve.proofs.PruningLemmas.{some_exactly}
use Rattle.lit_solve.proofs.effect.has_peer_beside.Goals as goal

pub returns-then-is_seq_cst : goal.returns-then-is_seq_cst
returns-then-is_seq_cst c =
    grind (arith, some_exactly c.difference.result c.is_empty.result c.is_empty.ensures, c.difference.ensures, c.successors.ensures, c.requires.peers.pairs, c.is_seq_cst.ensures)
