use Rattle.std.proofs.Common.{ap, replicate}
use Rattle.lit_paths.specs.declared.limits.TheConstants.{EVENT_LIMIT}
use Rattle.lit_rel.proofs.SetLemmas.{AreEmpty-replicate, AreWithin-none, HasEvent-none}
use Rattle.lit_rel.proofs.rows.Rows.new.Goals as goal

pub invariant_of-result : goal.invariant_of-result
invariant_of-result c = record {
  in_limit = c.requires;
  within = AreWithin-none c.args.len (replicate EVENT_LIMIT c.new.result) (AreEmpty-replicate EVENT_LIMIT c.new.result (ap (λ s. s.bits) c.new.ensures.value));
}

pub returns-clause-empty : goal.returns-clause-empty
returns-clause-empty c a d h =
    HasEvent-none (replicate EVENT_LIMIT c.new.result) (AreEmpty-replicate EVENT_LIMIT c.new.result (ap (λ s. s.bits) c.new.ensures.value)) a d h.marked
