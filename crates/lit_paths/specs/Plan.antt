-- What a plan says of a test: the combinations of paths and the events of each, when planning fails, and which
-- combination a choice is of (this project's own).
use Rattle.std.specs.Prelude.{◌≡◌, ◌≢◌, ◌⊎◌, ℕ, ◌+◌, ◌<◌, ◌≤◌, All, IsSome, List, []}
use Rattle.std.specs.Prelude.{length, map, take, Some, slice_get, slice_index_or}
use Rattle.std.specs.List.{flat_map}
use Rattle.lit_syntax.specs.Syntax.{Litmus, AreStatementsIn, agent_of}
use Rattle.lit_paths.specs.declared.limits.TheConstants.{ACCESS_LIMIT, EVENT_LIMIT, BYTE_READ_LIMIT, COMBINATION_LIMIT}
use Rattle.lit_paths.specs.declared.event.Event.{Event}
use Rattle.lit_paths.specs.declared.event.Order3.TheVariants.{Init}
use Rattle.lit_paths.specs.declared.path.Tested.{Tested}
use Rattle.lit_paths.specs.declared.fault.PlanFault.{PlanFault}
use Rattle.lit_paths.specs.declared.fault.PlanFault.TheVariants.{TooManyEvents, TooManyPaths, TooManyChoices, OutOfMemory}
use Rattle.lit_paths.specs.Event.{event_at, init_event}
use Rattle.lit_paths.specs.Path.{Path, Step, walks_of, decisions_on, path_on}
use Rattle.lit_paths.specs.Members.{IsWalk, AreSources}
use Rattle.lit_paths.specs.Refusal.{accesses_on, HasFewEvents, IsRefusal}
use Rattle.lit_paths.specs.PathModel.{PathModel, IsReadAt, last_read, guards_on, path_model}
use Rattle.lit_paths.specs.Run.{run_path}
use Rattle.lit_paths.specs.ByteReads.{byte_reads}
use Rattle.lit_paths.specs.Choice.{Choice, events_of, product, choices_on, combinations_of, choices_of}
use Rattle.lit_paths.specs.Execution.{Execution, execution_choice, IsCandidateExecution}

-- The test is refused, or memory ran out. The first two refusals come before any growth.
abbrev pub IsPlanFault : Litmus → PlanFault → Type 0
IsPlanFault t TooManyEvents = IsRefusal t TooManyEvents
IsPlanFault t TooManyPaths = IsRefusal t TooManyPaths
IsPlanFault t TooManyChoices = IsRefusal t TooManyChoices
IsPlanFault t OutOfMemory = HasFewEvents t × (length (combinations_of t) ≤ COMBINATION_LIMIT)

-- the combination of paths with a number
abbrev pub combination_at : Litmus → ℕ → List Path
combination_at t c = slice_index_or (combinations_of t) c []

-- all events of the combination of paths with a number
abbrev pub events_in : Litmus → ℕ → List Event
events_in t c = events_of t.bytes (map (λ path. path.events) (combination_at t c))

-- the walks of the agents on the combination of paths with a number
abbrev pub walks_in : Litmus → ℕ → List (List Step)
walks_in t c = slice_index_or (product (map (λ agent. walks_of agent.body) t.agents)) c []

abbrev pub walk_in : (t : Litmus) → (c agent : ℕ) → List Step
walk_in t c agent = slice_index_or (walks_in t c) agent []

-- the path of an agent in a combination: its events, its guards, and what its registers hold at the end
abbrev pub path_in : (t : Litmus) → (c agent : ℕ) → PathModel
path_in t c agent = path_model agent (walk_in t c agent)

-- the number of the first event of an agent in a combination
abbrev pub first_event : (t : Litmus) → (c agent : ℕ) → ℕ
first_event t c agent = t.bytes + length (accesses_on (take agent (combination_at t c)))

-- how many choices the combinations before one have
abbrev pub choices_before : Litmus → ℕ → ℕ
choices_before t c = length (flat_map (choices_on t.bytes) (take c (combinations_of t)))

-- the choice with a number has these sources
pub record HasSources (t : Litmus) (n : ℕ) (sources : List ℕ) : Type 0 where
  pub choice : Choice
  pub listed : slice_get (choices_of t) n ≡ Some choice
  pub same : choice.sources ≡ sources

-- Choice n is one of those of combination c, and the runs of its executions are on the combination's paths.
pub record IsOfCombination (t : Litmus) (n c : ℕ) : Type 0 where
  pub choice : Choice
  pub listed : slice_get (choices_of t) n ≡ Some choice
  pub known : c < length (combinations_of t)
  pub decided : map (λ path. path.decisions) (combination_at t c) ≡ choice.decisions
  pub sourced : AreSources (events_in t c) choice.sources
  pub on_paths : (x : Execution) → IsCandidateExecution t x → slice_get (choices_of t) n ≡ Some (execution_choice x)
      → map run_path x.runs ≡ combination_at t c

-- The events of a combination, in a block of `bytes` bytes: first one event for each byte, which makes it, and then
-- accesses that lie in the block.
pub record AreEventsIn (bytes : ℕ) (events : List Event) : Type 0 where
  pub few : length events ≤ EVENT_LIMIT
  pub few_reads : length (byte_reads events) ≤ BYTE_READ_LIMIT
  pub few_accesses : length events ≤ bytes + ACCESS_LIMIT
  pub made : bytes ≤ length events
  pub making : (b : ℕ) → b < bytes → event_at events b ≡ init_event b
  pub sized : (n : ℕ) → n < length events
      → ((event_at events n).size ≡ 1) ⊎ (((event_at events n).size ≡ 2) ⊎ ((event_at events n).size ≡ 4))
  pub in_block : (n : ℕ) → n < length events → (event_at events n).first + (event_at events n).size ≤ bytes
  pub payload : (n : ℕ) → n < length events → All (λ b. b < 256) (event_at events n).payload
  pub owned : (n : ℕ) → bytes ≤ n → n < length events → IsSome (event_at events n).owner
  pub accessed : (n : ℕ) → bytes ≤ n → n < length events → (event_at events n).order ≢ Init
  pub placed : (e d : ℕ) → e < length events → d < length events → (event_at events e).owner ≡ (event_at events d).owner
      → (event_at events e).place < (event_at events d).place → e < d

-- These steps are the walk of an agent on the path that it has in combination c. Each of its events, by its place, is
-- one of the combination's; it has one guard for each decision; and its guards and registers refer to events that read.
pub record IsWalkIn (t : Litmus) (c agent : ℕ) (steps : List Step) : Type 0 where
  pub said : AreStatementsIn t.bytes (agent_of t agent).body
  pub walked : IsWalk (agent_of t agent).body steps
  pub listed : slice_get (combination_at t c) agent ≡ Some (path_on agent steps)
  pub one_guard_each : length (guards_on steps) ≡ length (decisions_on steps)
  pub guards_reads : (k place : ℕ) (test : Tested) → slice_get (guards_on steps) k ≡ Some test → test.on ≡ Some place
      → IsReadAt (path_on agent steps).events place
  pub holds_reads : (r place : ℕ) → last_read steps r ≡ Some place → IsReadAt (path_on agent steps).events place
  pub within : first_event t c agent + length (path_on agent steps).events ≤ length (events_in t c)
  pub numbered : (place : ℕ) → place < length (path_on agent steps).events
      → event_at (events_in t c) (first_event t c agent + place) ≡ event_at (path_on agent steps).events place
