use Rattle.lit_solve.proofs.DataRaceLemmas.{race_given, race_unordered}
use Rattle.lit_solve.proofs.laws.boxes_bound_races.Goals as goal

pub returns : goal.returns
returns c = record {
  filled = λ box x is_box is race. race_given box c.laws_below.ensures is_box x is race;
  may = λ box x is_box is race. race_unordered box c.laws_below.ensures is_box x is race;
}
