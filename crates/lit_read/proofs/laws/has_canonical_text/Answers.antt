use Rattle.lit_read.specs.Canonical.{canonical_forms}
use Rattle.lit_read.proofs.CanonicalRun.{canonical_have, its_forms, only_its_forms}
use Rattle.lit_read.proofs.laws.has_canonical_text.Goals as goal

pub returns-clause-lines : goal.returns-clause-lines
returns-clause-lines c = canonical_have

pub returns-clause-its : goal.returns-clause-its
returns-clause-its c = λ t is. (canonical_forms t, canonical_have t is, its_forms t is)

pub returns-clause-only : goal.returns-clause-only
returns-clause-only c = λ t u forms is have other. only_its_forms t u forms is have other
