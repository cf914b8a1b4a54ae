use Rattle.std.proofs.Common.{eq-eqb, eqb-true, arith}
use Rattle.lit_rel.proofs.SetLemmas.{bits, zero_from_none}
use Rattle.lit_rel.proofs.event_set.EventSet.is_empty.Goals as goal

pub returns : goal.returns
returns c = ((λ h e. let none = eqb-true c.args.self.bits 0 h in rw none (grind (arith, bits))), (λ none. eq-eqb c.args.self.bits 0 (zero_from_none c.args.self.bits none)))
