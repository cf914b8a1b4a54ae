use Rattle.std.proofs.Common.{◌≡◌, ◌++◌, drop, string_bytes}
use Rattle.lit_read.specs.Canonical.{agents_forms}
use Rattle.lit_read.specs.CanonicalText.{forms_text}
use Rattle.lit_read.proofs.showing.put_agents.Given as goal

abbrev pub invariant-loop-agent : goal.invariant-loop-agent
invariant-loop-agent l = string_bytes l.out ++ forms_text (agents_forms (drop l.agent l.test.agents)) ≡ string_bytes l.fn.out ++ forms_text (agents_forms l.test.agents)
