use Rattle.std.proofs.Common.{arith, w64}
use Rattle.std.proofs.lemmas.Nat.Bits.{bit_at-trailing_zeros}
use Rattle.lit_rel.proofs.SetLemmas.{bits}
use Rattle.lit_rel.proofs.event_set.EventSet.split_first.Goals as goal

pub returns : goal.returns
returns c =
    let lowest = bit_at-trailing_zeros w64 c.args.self.bits (omega arith) (omega arith) in
    record { there = lowest.1; least = λ e below. grind (arith, lowest.2 e below); rest = λ e. grind (arith, bits) }
