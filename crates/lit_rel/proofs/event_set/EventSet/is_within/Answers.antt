use Rattle.std.proofs.Common.{eq-eqb, eqb-true, bit_or, arith}
use Rattle.lit_rel.proofs.SetLemmas.{bits, or_from_within}
use Rattle.lit_rel.proofs.event_set.EventSet.is_within.Goals as goal

pub returns : goal.returns
returns c =
    let a = c.args.self.bits in
    let b = c.args.other.bits in
    ((λ h e. let joined = eqb-true (bit_or a b) b h in grind (arith, bits)), (λ within. eq-eqb (bit_or a b) b (or_from_within a b within)))
