-- Agents as data, one after the other.
use Rattle.std.proofs.Common.{◌≡◌, ℕ, List, [], ◌∷◌, drop, refl, ap}
use Rattle.serde_json.specs.Data.{Data, Items, item}
use Rattle.serde_json.specs.View.{items_of}
use Rattle.lit_syntax.specs.Syntax.{Agent}
use Rattle.lit_syntax.specs.StatementOrder.{statement_count}
use Rattle.lit_json.specs.StatementData.{agent_data, agents_data}

-- agents as data, the first of which begins with the first of these lines
abbrev pub agents_told : List ℕ → List Agent → List Data
agents_told lines [] = []
agents_told lines (agent ∷ others) = agent_data lines agent ∷ agents_told (drop (statement_count agent.body) lines) others

pub all_agents_told : (lines : List ℕ) (agents : List Agent) → items_of (agents_told lines agents) ≡ agents_data lines agents
all_agents_told lines [] = refl
all_agents_told lines (agent ∷ others) =
    ap (λ (ds : Items). item (agent_data lines agent) ds) (all_agents_told (drop (statement_count agent.body) lines) others)
