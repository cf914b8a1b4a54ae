use Rattle.lit_solve.proofs.DataRaceLemmas.{race_found, race_given}
use Rattle.lit_solve.proofs.laws.leaves_race_as_reads_are_filled.Goals as goal

pub returns : goal.returns
returns c box is_box leaf coherent some = (
  (λ h. race_given box c.laws_below.ensures is_box h.0 h.1.completes h.1.meets),
  race_found box c.laws_below.ensures is_box leaf coherent some.0 some.1.completes,
)
