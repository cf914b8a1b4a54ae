-- The walks of the agents in a combination, by its number.
use Rattle.std.specs.Prelude.{◌≡◌, ℕ, ◌+◌, ◌/◌, ◌%◌, List, [], ◌∷◌, length, map, drop}
use Rattle.std.specs.List.{range_with_len}
use Rattle.lit_syntax.specs.Syntax.{Litmus, Agent, Statements, agent_of}
use Rattle.lit_paths.specs.declared.combination.paths.CombinationPaths.{CombinationPaths}
use Rattle.lit_paths.specs.Path.{Step, walks_of}
use Rattle.lit_paths.specs.PathModel.{PathModel, path_model}
use Rattle.lit_paths.specs.Plan.{events_in, first_event}
use Rattle.lit_paths.specs.Internal.Walks.{walk_at, count_of}

-- the paths of an agent, by rising decisions
abbrev pub path_models : ℕ → Statements → List PathModel
path_models owner body = map (path_model owner) (walks_of body)

-- the paths of each agent, of which the first has this number
abbrev pub all_path_models : ℕ → List Agent → List (List PathModel)
all_path_models n [] = []
all_path_models n (a ∷ agents) = path_models n a.body ∷ all_path_models (n + 1) agents

-- the number of an agent's walk in a combination: the last agent's walks change first
abbrev pub walk_number : Litmus → ℕ → ℕ → ℕ
walk_number t c agent = c / count_of (drop (agent + 1) t.agents) % length (walks_of (agent_of t agent).body)

abbrev pub numbered_walk : Litmus → ℕ → ℕ → List Step
numbered_walk t c agent = walk_at (agent_of t agent).body (walk_number t c agent)

-- the paths of a combination, and its events
pub record AreCombinationPaths (t : Litmus) (c : ℕ) (combination_paths : CombinationPaths) : Type 0 where
  pub numbers : combination_paths.numbers.items ≡ map (walk_number t c) (range_with_len 0 (length t.agents))
  pub firsts : combination_paths.firsts.items ≡ map (first_event t c) (range_with_len 0 (length t.agents))
  pub events : combination_paths.events.items ≡ events_in t c
