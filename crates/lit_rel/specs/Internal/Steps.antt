-- The steps of happens-before that no source decides.
use Rattle.std.specs.Prelude.{◌⊎◌, ℕ, List}
use Rattle.lit_paths.specs.declared.event.Event.{Event}
use Rattle.lit_rel.specs.AgentOrder.{IsAgentOrdered}
use Rattle.lit_rel.specs.HappensBefore.{IsMadeBefore}

-- such a step: agent-order, or the making of a byte
abbrev pub IsFixedStep : List Event → ℕ → ℕ → Type 0
IsFixedStep events e d = IsAgentOrdered events e d ⊎ IsMadeBefore events e d
