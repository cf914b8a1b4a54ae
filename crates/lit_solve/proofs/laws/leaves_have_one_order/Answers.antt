use Rattle.lit_solve.proofs.Words.{Event, IsMemoryOrder, List, subst, sym}
use Rattle.lit_solve.proofs.CompletionLemmas.{events_same, order_here}
use Rattle.lit_solve.proofs.FillLemmas.{order_back_in, order_in, sources_lie}
use Rattle.lit_solve.proofs.laws.leaves_have_one_order.Goals as goal

pub returns : goal.returns
returns c box x order is_box leaf is = (
  (λ o. order_in box x.sources (sources_lie box x is) order (order_here box x is order o)),
  (λ o. subst (λ (es : List Event). IsMemoryOrder es x.sources order) (sym (events_same box x is))
      (order_back_in box x.sources (sources_lie box x is) leaf order o)),
)
