use Rattle.std.proofs.Common.{drop}
use Rattle.lit_rel.proofs.ValueLemmas.{IsComposed, stored}
use Rattle.lit_rel.proofs.given.Given.value.Given as goal

abbrev pub invariant-loop-place : goal.invariant-loop-place
invariant-loop-place l = IsComposed l.value (stored l.self.events.now l.read (drop l.place l.self.bytes.now))
