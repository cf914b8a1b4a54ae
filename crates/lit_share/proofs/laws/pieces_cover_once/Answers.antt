use Rattle.lit_share.proofs.Cutting.{piece_at}
use Rattle.lit_share.proofs.laws.pieces_cover_once.Goals as goal

pub returns-clause-all : goal.returns-clause-all
returns-clause-all c = piece_at
