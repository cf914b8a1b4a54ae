use Rattle.std.proofs.Common.{inl, inr}
use Rattle.lit_why.proofs.RefusalLemmas.{refused}
use Rattle.lit_why.proofs.laws.refused_parts_have_no_completion.Goals as goal

pub returns : goal.returns
returns c part refusal entered are h completion =
    elim (refused part are refusal h) [
      | inl broken ↦ c.broken_parts_have_no_completion.ensures part completion.0 entered broken completion.1
      | inr whole ↦ let order = (c.whole_parts_are_decided_by_orders.ensures part entered are whole.0).0 completion in whole.1 order.0 order.1
    ]
