use Rattle.lit_read.proofs.CanonicalForms.{canonical_are}
use Rattle.lit_read.specs.Canonical.{canonical_forms}
use Rattle.lit_read.proofs.TestForms.{one_test_of}
use Rattle.lit_read.proofs.laws.has_canonical_forms.Goals as goal

pub returns-clause-its : goal.returns-clause-its
returns-clause-its c = canonical_are

pub returns-clause-only : goal.returns-clause-only
returns-clause-only c = λ t u is other. one_test_of (canonical_forms t) u t other (canonical_are t is)
