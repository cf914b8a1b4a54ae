-- Sequential executions (this project's own): each read takes what was written last before it in one order.
use Rattle.std.specs.Prelude.{ℕ, IsTrue, List, length}
use Rattle.lit_paths.specs.declared.event.Event.{Event}
use Rattle.lit_paths.specs.Event.{HasByte, does_write, event_at}
use Rattle.lit_rel.specs.AgentOrder.{IsAgentOrdered}
use Rattle.lit_rel.specs.HappensBefore.{IsMadeBefore}
use Rattle.lit_rel.specs.ReadsFrom.{ReadsByteFrom}
use Rattle.lit_order.specs.MemoryOrder.{IsListOfAll, StandsBefore}

-- w stands before read r, and no event that writes byte b stands between them
pub record IsLastWrite (events : List Event) (order : List ℕ) (r b w : ℕ) : Type 0 where
  pub earlier : StandsBefore order w r
  pub last : (v : ℕ) → IsTrue (does_write (event_at events v).kind) → HasByte (event_at events v) b → StandsBefore order w v
      → StandsBefore order v r → ⊥

-- A list of all events that respects agent-order, and in which each byte is made before all else that is done to it, and is
-- read from what wrote it last.
pub record IsSequential (events : List Event) (sources order : List ℕ) : Type 0 where
  pub complete : IsListOfAll (length events) order
  pub agents : (e d : ℕ) → IsAgentOrdered events e d → StandsBefore order e d
  pub makes : (e d : ℕ) → IsMadeBefore events e d → StandsBefore order e d
  pub reads : (r b w : ℕ) → ReadsByteFrom events sources r b w → IsLastWrite events order r b w
