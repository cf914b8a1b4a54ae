-- The combination of paths with a number, and its events.
use Rattle.std.proofs.Common.{◌≡◌, ℕ, zero, suc, ◌+◌, ◌*◌, ◌/◌, ◌%◌, ◌<◌, ◌≤◌, List, [], ◌∷◌, ◌++◌, length, map, flat_map, drop, take, get_or, slice_get, Some, arith, refl, sym, ap, ap₂, ◌∙◌, subst, add-one, ⊎_elim, append_assoc, append-nil, length-append}
use Rattle.std.proofs.lemmas.List.{length-map, map_more, take_all, drop_more}
use Rattle.std.proofs.lemmas.Option.{slice_get-get_or, get_or_from_slice_get}
use Rattle.std.specs.List.{range_with_len}
use Rattle.std.proofs.lemmas.List.FromFn.{map-range_with_len_more}
use Rattle.lit_syntax.specs.Syntax.{Litmus, Agent, Statement, Statements, Load, Store, Exchange, CompareExchange, If, End, Then, agent_of}
use Rattle.lit_paths.specs.declared.event.Event.{Event}
use Rattle.lit_paths.specs.Event.{init_events}
use Rattle.lit_paths.specs.Path.{Path, Step, walks_of, path_on, events_on}
use Rattle.lit_paths.specs.Members.{IsStatementWalk, IsWalk}
use Rattle.lit_paths.specs.Choice.{product, combinations_of}
use Rattle.lit_paths.specs.PathModel.{PathModel, path_model}
use Rattle.lit_paths.specs.Plan.{combination_at, events_in, walks_in, walk_in, path_in, first_event}
use Rattle.lit_paths.specs.Internal.Walks.{longest, statement_longest, longest_of, count_of, walk_at}
use Rattle.lit_paths.specs.Internal.Combining.{walk_number, numbered_walk}
use Rattle.lit_paths.proofs.Products.{length-product}
use Rattle.lit_paths.proofs.Digits.{later_ways, digit}
use Rattle.lit_paths.proofs.Rising.{slice_get-map-found}
use Rattle.lit_paths.proofs.Walks.{walks_of-known}
use Rattle.lit_paths.proofs.PathLists.{combinations_of-known, paths_of, paths_of_agents, agent_paths, slice_get-agent_paths}
use Rattle.lit_paths.proofs.EventLists.{length-init_events}
use Rattle.lit_paths.proofs.Combined.{walk_number-known, next_number}

-- ---- how many combinations
pub count_of-product : (n : ℕ) (agents : List Agent) → length (product (paths_of_agents n agents)) ≡ count_of agents
count_of-product n [] = refl
count_of-product n (a ∷ agents) =
    length-product (paths_of n a.body) (paths_of_agents (n + 1) agents)
    ∙ ap (λ m. m * length (product (paths_of_agents (n + 1) agents))) (length-map (walks_of a.body) (path_on n))
    ∙ ap (λ m. length (walks_of a.body) * m) (count_of-product (n + 1) agents)

pub count_of-combinations : (t : Litmus) → length (combinations_of t) ≡ count_of t.agents
count_of-combinations t = count_of-product 0 t.agents

later_paths : (n : ℕ) (agents : List Agent) (k : ℕ) → length (product (drop k (paths_of_agents n agents))) ≡ count_of (drop k agents)
later_paths n agents zero = count_of-product n agents
later_paths n [] (suc k) = refl
later_paths n (a ∷ agents) (suc k) = later_paths (n + 1) agents k

-- ---- the walks of a combination
abbrev bodies_walks : List Agent → List (List (List Step))
bodies_walks agents = map (λ agent. walks_of agent.body) agents

later_walks : (agents : List Agent) (k : ℕ) → length (product (drop k (bodies_walks agents))) ≡ count_of (drop k agents)
later_walks [] zero = refl
later_walks [] (suc k) = refl
later_walks (a ∷ agents) zero = length-product (walks_of a.body) (bodies_walks agents) ∙ ap (λ m. length (walks_of a.body) * m) (later_walks agents zero)
later_walks (a ∷ agents) (suc k) = later_walks agents k

bodies_walks-at : (agents : List Agent) (i : ℕ) (d : Agent) → i < length agents → slice_get (bodies_walks agents) i ≡ Some (walks_of (get_or agents i d).body)
bodies_walks-at [] i d inside = absurd (omega (arith, inside))
bodies_walks-at (a ∷ agents) zero d inside = refl
bodies_walks-at (a ∷ agents) (suc i) d inside = bodies_walks-at agents i d (omega (arith, inside))

-- the walk of an agent has its number among those of the agent
pub walk_in-numbered : (t : Litmus) (c i : ℕ) → c < length (combinations_of t) → i < length t.agents → walk_in t c i ≡ numbered_walk t c i
walk_in-numbered t c i known inside =
    let all : List (List (List Step)) = bodies_walks t.agents in
    let body : Statements = (agent_of t i).body in
    let within : c < length (product all) = omega (arith, known, count_of-combinations t, later_walks t.agents 0) in
    let later : later_ways all i ≡ count_of (drop (i + 1) t.agents) = later_walks t.agents (suc i) ∙ ap (λ k. count_of (drop k t.agents)) (sym (add-one i)) in
    get_or_from_slice_get (walks_in t c) i (numbered_walk t c i) []
    (digit all c i (walks_in t c) (walks_of body) (slice_get-get_or (product all) c [] within) (bodies_walks-at t.agents i _ inside)
    ∙ ap (λ n. slice_get (walks_of body) (c / n % length (walks_of body))) later
    ∙ slice_get-get_or (walks_of body) (walk_number t c i) [] (walk_number-known t c i))

pub walk_in-walks : (t : Litmus) (c i : ℕ) → c < length (combinations_of t) → i < length t.agents → IsWalk (agent_of t i).body (walk_in t c i)
walk_in-walks t c i known inside =
    subst (λ (steps : List Step). IsWalk (agent_of t i).body steps) (sym (walk_in-numbered t c i known inside))
    (walks_of-known (agent_of t i).body (walk_number t c i) (numbered_walk t c i) (slice_get-get_or (walks_of (agent_of t i).body) (walk_number t c i) [] (walk_number-known t c i)))

-- ---- the paths of a combination
pub path_at : (t : Litmus) (c i : ℕ) → c < length (combinations_of t) → i < length t.agents → slice_get (combination_at t c) i ≡ Some (path_on i (walk_in t c i))
path_at t c i known inside =
    let body : Statements = (agent_of t i).body in
    let later : later_ways (paths_of_agents 0 t.agents) i ≡ count_of (drop (i + 1) t.agents) = later_paths 0 t.agents (suc i) ∙ ap (λ k. count_of (drop k t.agents)) (sym (add-one i)) in
    let index : (c / later_ways (paths_of_agents 0 t.agents) i) % length (agent_paths t i) ≡ walk_number t c i =
    ap (λ n. (c / n) % length (agent_paths t i)) later ∙ ap (λ n. c / count_of (drop (i + 1) t.agents) % n) (length-map (walks_of body) (path_on i)) in
    digit (paths_of_agents 0 t.agents) c i (combination_at t c) (agent_paths t i) (slice_get-get_or (combinations_of t) c [] known) (slice_get-agent_paths t i inside)
    ∙ ap (λ n. slice_get (agent_paths t i) n) index
    ∙ slice_get-map-found (path_on i) (walks_of body) (walk_number t c i) (numbered_walk t c i) (slice_get-get_or (walks_of body) (walk_number t c i) [] (walk_number-known t c i))
    ∙ ap (λ steps. Some (path_on i steps)) (sym (walk_in-numbered t c i known inside))

-- ---- the events
-- the accesses of the first agents, as many as given
abbrev pub accesses_before : Litmus → ℕ → ℕ → List Event
accesses_before t c zero = []
accesses_before t c (suc i) = accesses_before t c i ++ (path_in t c i).events

flat_map_pushed : (ess : List (List Event)) (es : List Event) → flat_map (λ x. x) (ess ++ es ∷ []) ≡ flat_map (λ x. x) ess ++ es
flat_map_pushed [] es = append-nil es
flat_map_pushed (ds ∷ ess) es = ap (λ xs. ds ++ xs) (flat_map_pushed ess es) ∙ sym (append_assoc ds (flat_map (λ x. x) ess) es)

pub first_accesses : (t : Litmus) (c i : ℕ) → c < length (combinations_of t) → length (combination_at t c) ≡ length t.agents → i ≤ length t.agents
    → flat_map (λ es. es) (map (λ path. path.events) (take i (combination_at t c))) ≡ accesses_before t c i
first_accesses t c zero known long le = refl
first_accesses t c (suc i) known long le =
    let inside : i < length t.agents = omega (arith, le) in
    let events : Path → List Event = λ path. path.events in
    let path : Path = path_on i (walk_in t c i) in
    ap (λ k. flat_map (λ es. es) (map events (take k (combination_at t c)))) (sym (add-one i))
    ∙ ap (λ ess. flat_map (λ es. es) ess) (map_more events (combination_at t c) i path (omega (arith, inside, long)))
    ∙ flat_map_pushed (map events (take i (combination_at t c))) (events (get_or (combination_at t c) i path))
    ∙ ap (λ (p : Path). flat_map (λ es. es) (map events (take i (combination_at t c))) ++ p.events) (get_or_from_slice_get (combination_at t c) i path path (path_at t c i known inside))
    ∙ ap (λ xs. xs ++ path.events) (first_accesses t c i known long (omega (arith, le)))

pub length-combination : (t : Litmus) (c : ℕ) → c < length (combinations_of t) → length (combination_at t c) ≡ length t.agents
length-combination t c known =
    (combinations_of-known t c (combination_at t c) (slice_get-get_or (combinations_of t) c [] known)).one_each

pub accesses_of-combination : (t : Litmus) (c : ℕ) → c < length (combinations_of t)
    → flat_map (λ es. es) (map (λ path. path.events) (combination_at t c)) ≡ accesses_before t c (length t.agents)
accesses_of-combination t c known =
    let long = length-combination t c known in
    ap (λ (ps : List Path). flat_map (λ es. es) (map (λ path. path.events) ps)) (sym (take_all (length t.agents) (combination_at t c) (omega (arith, long))))
    ∙ first_accesses t c (length t.agents) known long (omega arith)

-- ---- how many
mutual
  statement-longest : (s : Statement) (owner place : ℕ) (steps rest : List Step) (n : ℕ) → IsStatementWalk s steps
      → ((p : ℕ) → length (events_on owner p rest) ≤ n) → length (events_on owner place (steps ++ rest)) ≤ statement_longest s + n
  statement-longest (Load reg window index atomic) owner place steps rest n is few =
      omega (arith, ap (λ (l : List Step). length (events_on owner place (l ++ rest))) is, few (place + 1))
  statement-longest (Store window index value atomic) owner place steps rest n is few =
      omega (arith, ap (λ (l : List Step). length (events_on owner place (l ++ rest))) is, few (place + 1))
  statement-longest (Exchange reg window index value) owner place steps rest n is few =
      omega (arith, ap (λ (l : List Step). length (events_on owner place (l ++ rest))) is, few (place + 1))
  statement-longest (CompareExchange reg window index expected value) owner place steps rest n is few =
      omega (arith, ap (λ (l : List Step). length (events_on owner place (l ++ rest))) is.1, few (place + 1))
  statement-longest (If reg equal value body other) owner place steps rest n is few =
      ⊎_elim
      (λ arm. omega (arith, ap (λ (l : List Step). length (events_on owner place (l ++ rest))) arm.1, walk-longest body owner place arm.0 rest n arm.2 few))
      (λ arm. omega (arith, ap (λ (l : List Step). length (events_on owner place (l ++ rest))) arm.1, walk-longest other owner place arm.0 rest n arm.2 few))
      is

  pub walk-longest : (ss : Statements) (owner place : ℕ) (steps rest : List Step) (n : ℕ) → IsWalk ss steps
      → ((p : ℕ) → length (events_on owner p rest) ≤ n) → length (events_on owner place (steps ++ rest)) ≤ longest ss + n
  walk-longest End owner place steps rest n is few =
      omega (arith, ap (λ (l : List Step). length (events_on owner place (l ++ rest))) is, few place)
  walk-longest (Then s ss) owner place steps rest n is few =
      let later : (p : ℕ) → length (events_on owner p (is.1 ++ rest)) ≤ longest ss + n = λ p. walk-longest ss owner p is.1 rest n is.4 few in
      omega (
        arith,
        ap (λ (l : List Step). length (events_on owner place (l ++ rest))) is.2,
        ap (λ (l : List Step). length (events_on owner place l)) (append_assoc is.0 is.1 rest),
        statement-longest s owner place is.0 (is.1 ++ rest) (longest ss + n) is.3 later,
      )

pub events-longest : (ss : Statements) (owner place : ℕ) (steps : List Step) → IsWalk ss steps → length (events_on owner place steps) ≤ longest ss
events-longest ss owner place steps is =
    let none : List Step = [] in
    omega (
      arith,
      walk-longest ss owner place steps none 0 is (λ p. let le : length (events_on owner p none) ≤ 0 = omega arith in le),
      ap (λ (l : List Step). length (events_on owner place l)) (append-nil steps),
    )

-- how many accesses the first i agents have, with the most that the others may have
pub length-accesses_before : (t : Litmus) (c i : ℕ) → c < length (combinations_of t) → i ≤ length t.agents → length (accesses_before t c i) + longest_of (drop i t.agents) ≤ longest_of t.agents
length-accesses_before t c zero known le = omega arith
length-accesses_before t c (suc i) known le =
    let inside : i < length t.agents = omega (arith, le) in
    let here : length (path_in t c i).events ≤ longest (agent_of t i).body = events-longest (agent_of t i).body i 0 (walk_in t c i) (walk_in-walks t c i known inside) in
    let split : longest_of (drop i t.agents) ≡ longest (agent_of t i).body + longest_of (drop (suc i) t.agents) =
    ap longest_of (drop_more t.agents i _ inside) ∙ ap (λ k. longest (agent_of t i).body + longest_of (drop k t.agents)) (add-one i) in
    omega (arith, length-accesses_before t c i known (omega (arith, le)), here, split, length-append (accesses_before t c i) (path_in t c i).events)

pub events_whole : (t : Litmus) (c i : ℕ) (events : List Event) → c < length (combinations_of t) → i ≡ length t.agents → events ≡ init_events t.bytes ++ accesses_before t c i → events ≡ events_in t c
events_whole t c i events known at is =
    is ∙ ap (λ k. init_events t.bytes ++ accesses_before t c k) at ∙ ap (λ xs. init_events t.bytes ++ xs) (sym (accesses_of-combination t c known))

-- ---- joining the paths, agent after agent
pub record AreFirstPaths (t : Litmus) (c i : ℕ) (later : ℕ) (numbers firsts : List ℕ) (events : List Event) : Type 0 where
  pub behind : later ≡ count_of (drop i t.agents)
  pub all_numbers : numbers ≡ map (walk_number t c) (range_with_len 0 i)
  pub all_firsts : firsts ≡ map (first_event t c) (range_with_len 0 i)
  pub all_events : events ≡ init_events t.bytes ++ accesses_before t c i

-- the number of an agent's first event
pub first_counted : (t : Litmus) (c i : ℕ) (events : List Event) → c < length (combinations_of t) → i < length t.agents → events ≡ init_events t.bytes ++ accesses_before t c i
    → length events ≡ first_event t c i
first_counted t c i events known inside is =
    ap (λ (es : List Event). length es) is ∙ length-append (init_events t.bytes) (accesses_before t c i)
    ∙ ap (λ n. n + length (accesses_before t c i)) (length-init_events t.bytes)
    ∙ ap (λ (es : List Event). t.bytes + length es) (sym (first_accesses t c i known (length-combination t c known) (omega (arith, inside))))

-- what joining one agent more does
pub record IsNextPath (t : Litmus) (c i count later left number first : ℕ) (now : List Event) (path : PathModel) (new : List Event) : Type 0 where
  pub known : c < length (combinations_of t)
  pub inside : i < length t.agents
  pub counted : count ≡ length (walks_of (agent_of t i).body)
  pub left_is : left ≡ later / count
  pub number_is : number ≡ c / left % count
  pub first_is : first ≡ length now
  pub path_is : path ≡ path_model i (walk_at (agent_of t i).body number)
  pub pushed : new ≡ now ++ path.events

pub joined_none : (t : Litmus) (c : ℕ) (later : ℕ) (numbers firsts : List ℕ) (made : List Event) → later ≡ count_of t.agents → numbers ≡ [] → firsts ≡ [] → made ≡ init_events t.bytes
    → AreFirstPaths t c 0 later numbers firsts made
joined_none t c later numbers firsts made counted a b is = record { behind = counted; all_numbers = a; all_firsts = b; all_events = is ∙ sym (append-nil (init_events t.bytes)) }

pub numbered_is : (t : Litmus) (c i count later left : ℕ) (numbers firsts : List ℕ) (now : List Event) → i < length t.agents → count ≡ length (walks_of (agent_of t i).body) → left ≡ later / count
    → AreFirstPaths t c i later numbers firsts now → (left ≡ count_of (drop (i + 1) t.agents)) × (c / left % count ≡ walk_number t c i)
numbered_is t c i count later left numbers firsts now inside counted is combination_paths = next_number t c i count later left inside counted combination_paths.behind is

pub next_path_is : (t : Litmus) (c i count later left number first : ℕ) (numbers firsts : List ℕ) (now new : List Event) (path : PathModel)
    → IsNextPath t c i count later left number first now path new → AreFirstPaths t c i later numbers firsts now → path ≡ path_in t c i
next_path_is t c i count later left number first numbers firsts now new path next combination_paths =
    let number_is : number ≡ walk_number t c i = next.number_is ∙ (next_number t c i count later left next.inside next.counted combination_paths.behind next.left_is).1 in
    next.path_is ∙ ap (λ n. path_model i (walk_at (agent_of t i).body n)) number_is ∙ ap (path_model i) (sym (walk_in-numbered t c i next.known next.inside))

pub joined_more : (t : Litmus) (c i count later left number first : ℕ) (numbers firsts more_numbers more_firsts : List ℕ) (now new : List Event) (path : PathModel)
    → IsNextPath t c i count later left number first now path new → more_numbers ≡ numbers ++ number ∷ [] → more_firsts ≡ firsts ++ first ∷ []
    → AreFirstPaths t c i later numbers firsts now → AreFirstPaths t c (i + 1) left more_numbers more_firsts new
joined_more t c i count later left number first numbers firsts more_numbers more_firsts now new path next put_number put_first combination_paths =
    let numbered : (left ≡ count_of (drop (i + 1) t.agents)) × (c / left % count ≡ walk_number t c i) = next_number t c i count later left next.inside next.counted combination_paths.behind next.left_is in
    let at : 0 + i ≡ i = omega arith in
    record {
      behind = numbered.0;
      all_numbers = put_number ∙ ap₂ (λ (ns : List ℕ) (n : ℕ). ns ++ n ∷ []) combination_paths.all_numbers (next.number_is ∙ numbered.1) ∙ sym (map-range_with_len_more (walk_number t c) 0 i i at);
      all_firsts = put_first ∙ ap₂ (λ (ns : List ℕ) (n : ℕ). ns ++ n ∷ []) combination_paths.all_firsts (next.first_is ∙ first_counted t c i now next.known next.inside combination_paths.all_events)
          ∙ sym (map-range_with_len_more (first_event t c) 0 i i at);
      all_events = next.pushed ∙ ap (λ (es : List Event). es ++ path.events) combination_paths.all_events
          ∙ append_assoc (init_events t.bytes) (accesses_before t c i) path.events
          ∙ ap (λ (p : PathModel). init_events t.bytes ++ (accesses_before t c i ++ p.events)) (next_path_is t c i count later left number first numbers firsts now new path next combination_paths)
          ∙ ap (λ k. init_events t.bytes ++ accesses_before t c k) (sym (add-one i));
    }

-- room for the events of one agent more
pub accesses_room : (t : Litmus) (c i limit : ℕ) (now : List Event) (path : PathModel) → c < length (combinations_of t) → i < length t.agents → now ≡ init_events t.bytes ++ accesses_before t c i
    → path ≡ path_in t c i → t.bytes + longest_of t.agents ≤ limit → length now + length path.events ≤ limit
accesses_room t c i limit now path known inside is same few =
    omega (
      arith,
      length-accesses_before t c (suc i) known (omega (arith, inside)),
      few,
      ap (λ (es : List Event). length es) is,
      ap (λ (x : PathModel). length x.events) same,
      length-append (init_events t.bytes) (accesses_before t c i),
      length-init_events t.bytes,
      length-append (accesses_before t c i) (path_in t c i).events,
    )
