-- Schedules as text (this project's own): the names of agents, in the order of their turns, joined by commas.
use Rattle.std.specs.Prelude.{◌≡◌, ◌<◌, ℕ, List, [], ◌∷◌, ◌++◌, All, length, codes}
use Rattle.lit_syntax.specs.Syntax.{Litmus, agent_of}

-- the names of these agents, with a comma between two
abbrev pub schedule_text : Litmus → List ℕ → List ℕ
schedule_text t [] = []
schedule_text t (agent ∷ []) = (agent_of t agent).name
schedule_text t (agent ∷ next ∷ agents) = (agent_of t agent).name ++ codes "," ++ schedule_text t (next ∷ agents)

-- the text names these agents of a test
pub record NamesAgents (t : Litmus) (text agents : List ℕ) : Type 0 where
  pub known : All (λ agent. agent < length t.agents) agents
  pub is : text ≡ schedule_text t agents

-- it names no agents of the test: a member of it is no agent's name
abbrev pub NamesNoAgents : Litmus → List ℕ → Type 0
NamesNoAgents t text = (agents : List ℕ) → ¬ NamesAgents t text agents
