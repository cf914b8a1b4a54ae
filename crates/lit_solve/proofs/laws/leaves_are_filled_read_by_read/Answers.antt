use Rattle.lit_solve.proofs.Words.{IsFilled, List, subst, ℕ}
use Rattle.lit_solve.proofs.FillLemmas.{completion_of_filled, filled_by, order_given, unwritten_true}
use Rattle.lit_solve.proofs.laws.leaves_are_filled_read_by_read.Goals as goal

pub returns : goal.returns
returns c box sources is_box leaf coherent no_cycle lie = (
  (λ h. (
    (λ r known. subst (λ (ws : List ℕ). IsFilled box r ws) h.2 (filled_by box h.0 h.1 c.laws_below.ensures is_box r)),
    unwritten_true box h.0 h.1 c.laws_below.ensures is_box,
    order_given box h.0 h.1,
  )),
  (λ h. completion_of_filled box sources lie leaf c.laws_below.ensures is_box coherent no_cycle h.0 h.1 h.2),
)
