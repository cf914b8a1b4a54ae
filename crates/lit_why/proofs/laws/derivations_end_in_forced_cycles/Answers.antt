use Rattle.lit_rel.specs.Forbidden.{IsForbidden}
use Rattle.lit_rel.specs.HappensBefore.{HappensBefore}
use Rattle.lit_why.proofs.DerivationLemmas.{ends_forced}
use Rattle.lit_why.proofs.laws.derivations_end_in_forced_cycles.Goals as goal

pub returns : goal.returns
returns c events sources lines derives =
    ends_forced (HappensBefore events sources) (IsForbidden events sources) (λ w r v f. (f.between.not_source, f.between.not_read)) lines derives.follows derives.ends
