-- The list of an agent's paths has exactly its paths, by rising decisions, and so has the list of combinations.
use Rattle.std.proofs.Common.{◌≡◌, ◌↔◌, ℕ, zero, suc, ◌+◌, ◌<◌, List, [], ◌∷◌, length, map, get_or, slice_get, Some, arith, refl, sym, ap, ◌∙◌, subst}
use Rattle.std.specs.Prelude.{Contains}
use Rattle.std.specs.List.{enumerate_from}
use Rattle.std.specs.Cmp.Lexicographic.{slice_cmp}
use Rattle.std.specs.Ordering.{nat_cmp, ordering_then}
use Rattle.std.specs.declared.cmp.Ordering.{Ordering}
use Rattle.std.specs.declared.cmp.Ordering.TheVariants.{Less, Equal}
use Rattle.std.proofs.lemmas.Option.{slice_get_within, slice_get-get_or, get_or_from_slice_get}
use Rattle.lit_syntax.specs.Syntax.{Agent, Statements, Litmus, agent_of}
use Rattle.lit_paths.specs.Path.{Path, Step, path_on, walks_of, decisions_on}
use Rattle.lit_paths.specs.Members.{IsPath, IsWalk, AreCombined, ListsCombinations}
use Rattle.lit_paths.specs.Choice.{combinations_of}
use Rattle.lit_paths.specs.Run.{Run, IsRun, run_path}
use Rattle.lit_paths.proofs.Products.{product-known, product-found}
use Rattle.lit_paths.proofs.Rising.{Rises, slice_get-map-known, slice_get-map-found, map-rises, nat_cmp-same, slice_cmp-same, product-rises}
use Rattle.lit_paths.proofs.Walks.{WalkBefore, walks_of-known, walks_of-found, walks_of-rise, walk-decided, parts-less}

-- ---- what a list contains, by its place
pub contained-at : {A : Type 0} (xs : List A) (x : A) → Contains xs x → (k : ℕ) × (slice_get xs k ≡ Some x)
contained-at xs x h = (h.0, slice_get-get_or xs h.0 x h.1 ∙ ap (λ y. Some y) h.2)

pub at-contained : {A : Type 0} (xs : List A) (k : ℕ) (x : A) → slice_get xs k ≡ Some x → Contains xs x
at-contained xs k x at = (k, slice_get_within xs k x at, get_or_from_slice_get xs k x x at)

-- ---- walks and paths
pub walks_of-iff : (ss : Statements) (steps : List Step) → Contains (walks_of ss) steps ↔ IsWalk ss steps
walks_of-iff ss steps = (
  λ h. let at = contained-at (walks_of ss) steps h in walks_of-known ss at.0 steps at.1,
  λ walked. let found = walks_of-found ss steps walked in at-contained (walks_of ss) found.0 steps found.1,
)

-- the path that a run is on
abbrev pub run-path : (owner : ℕ) (ss : Statements) (run : Run) → IsRun owner ss run → IsPath owner ss (run_path run)
run-path owner ss run is = record { steps = is.steps; walked = (walks_of-iff ss is.steps).0 is.walked; taken = is.taken }

-- all paths of an agent, by rising decisions
abbrev pub paths_of : ℕ → Statements → List Path
paths_of owner body = map (path_on owner) (walks_of body)

pub paths_of-known : (owner : ℕ) (ss : Statements) (k : ℕ) (path : Path) → slice_get (paths_of owner ss) k ≡ Some path → IsPath owner ss path
paths_of-known owner ss k path at =
    let from = slice_get-map-known (path_on owner) (walks_of ss) k path at in
    record { steps = from.0; walked = walks_of-known ss k from.0 from.1; taken = from.2 }

pub paths_of-found : (owner : ℕ) (ss : Statements) (path : Path) → IsPath owner ss path → (k : ℕ) × (slice_get (paths_of owner ss) k ≡ Some path)
paths_of-found owner ss path is =
    let found = walks_of-found ss is.steps is.walked in
    (found.0, slice_get-map-found (path_on owner) (walks_of ss) found.0 is.steps found.1 ∙ ap (λ p. Some p) is.taken)

-- paths are compared by their decisions
abbrev pub path_cmp : Path → Path → Ordering
path_cmp p q = slice_cmp nat_cmp p.decisions q.decisions

pub path_cmp-same : (p : Path) → path_cmp p p ≡ Equal
path_cmp-same p = slice_cmp-same nat_cmp nat_cmp-same p.decisions

pub paths_of-rise : (owner : ℕ) (ss : Statements) → Rises path_cmp (paths_of owner ss)
paths_of-rise owner ss =
    map-rises WalkBefore (λ p q. path_cmp p q ≡ Less) (path_on owner) (walks_of ss)
    (λ a b before. parts-less (decisions_on a) (decisions_on b) before) (walks_of-rise ss)

-- the decisions of a path determine its events
pub IsPath-only : (owner : ℕ) (ss : Statements) (path other : Path) → IsPath owner ss path → IsPath owner ss other → path.decisions ≡ other.decisions → path ≡ other
IsPath-only owner ss path other first second same =
    let steps : first.steps ≡ second.steps = walk-decided ss first.steps second.steps first.walked second.walked
    (ap (λ (p : Path). p.decisions) first.taken ∙ same ∙ sym (ap (λ (p : Path). p.decisions) second.taken)) in
    sym first.taken ∙ ap (path_on owner) steps ∙ second.taken

-- ---- the paths of all agents, of which the first has this number
abbrev pub paths_of_agents : ℕ → List Agent → List (List Path)
paths_of_agents n agents = map (λ agent. paths_of agent.0 agent.1.body) (enumerate_from n agents)

pub length-paths_of_agents : (n : ℕ) (agents : List Agent) → length (paths_of_agents n agents) ≡ length agents
length-paths_of_agents n [] = refl
length-paths_of_agents n (a ∷ agents) = omega (arith, length-paths_of_agents (n + 1) agents)

pub slice_get-paths_of_agents : (n : ℕ) (agents : List Agent) (i : ℕ) (d : Agent) → i < length agents
    → slice_get (paths_of_agents n agents) i ≡ Some (paths_of (n + i) (get_or agents i d).body)
slice_get-paths_of_agents n [] i d inside = absurd (omega (arith, inside))
slice_get-paths_of_agents n (a ∷ agents) zero d inside = ap (λ m. Some (paths_of m a.body)) (let e : n ≡ n + 0 = omega arith in e)
slice_get-paths_of_agents n (a ∷ agents) (suc i) d inside =
    slice_get-paths_of_agents (n + 1) agents i d (omega (arith, inside)) ∙ ap (λ m. Some (paths_of m (get_or agents i d).body)) (let e : (n + 1) + i ≡ n + suc i = omega arith in e)

-- the paths of an agent of a test
abbrev pub agent_paths : Litmus → ℕ → List Path
agent_paths t i = paths_of i (agent_of t i).body

pub slice_get-agent_paths : (t : Litmus) (i : ℕ) → i < length t.agents → slice_get (paths_of_agents 0 t.agents) i ≡ Some (agent_paths t i)
slice_get-agent_paths t i inside =
    slice_get-paths_of_agents 0 t.agents i _ inside ∙ ap (λ m. Some (paths_of m (agent_of t i).body)) (let e : 0 + i ≡ i = omega arith in e)

-- ---- the combinations are exactly what is combined of paths
pub combinations_of-known : (t : Litmus) (n : ℕ) (paths : List Path) → slice_get (combinations_of t) n ≡ Some paths → AreCombined t paths
combinations_of-known t n paths at =
    let takes = product-known (paths_of_agents 0 t.agents) n paths at in
    record {
      one_each = takes.one_each ∙ length-paths_of_agents 0 t.agents;
      each = λ i path here.
          let inside : i < length t.agents = omega (arith, slice_get_within paths i path here, takes.one_each, length-paths_of_agents 0 t.agents) in
          let found = takes.each i (agent_paths t i) path (slice_get-agent_paths t i inside) here in
          paths_of-known i (agent_of t i).body found.0 path found.1;
    }

pub combinations_of-found : (t : Litmus) (paths : List Path) → AreCombined t paths → (n : ℕ) × (slice_get (combinations_of t) n ≡ Some paths)
combinations_of-found t paths are =
    product-found (paths_of_agents 0 t.agents) paths (record {
      one_each = are.one_each ∙ sym (length-paths_of_agents 0 t.agents);
      each = λ i ps path list here.
          let inside : i < length t.agents = omega (arith, slice_get_within paths i path here, are.one_each) in
          let found = paths_of-found i (agent_of t i).body path (are.each i path here) in
          let same : Some (agent_paths t i) ≡ Some ps = sym (slice_get-agent_paths t i inside) ∙ list in
          let is : agent_paths t i ≡ ps = cc in
          (found.0, sym (ap (λ (l : List Path). slice_get l found.0) is) ∙ found.1);
    })

slice_cmp-map : {A B : Type 0} (cmp : B → B → Ordering) (f : A → B) (xs ys : List A) → slice_cmp cmp (map f xs) (map f ys) ≡ slice_cmp (λ x y. cmp (f x) (f y)) xs ys
slice_cmp-map cmp f [] [] = refl
slice_cmp-map cmp f [] (y ∷ ys) = refl
slice_cmp-map cmp f (x ∷ xs) [] = refl
slice_cmp-map cmp f (x ∷ xs) (y ∷ ys) = ap (λ (o : Ordering). ordering_then (cmp (f x) (f y)) o) (slice_cmp-map cmp f xs ys)

pub combinations_of-rise : (t : Litmus) (i j : ℕ) (a b : List Path) → i < j → slice_get (combinations_of t) i ≡ Some a → slice_get (combinations_of t) j ≡ Some b
    → slice_cmp (slice_cmp nat_cmp) (map (λ path. path.decisions) a) (map (λ path. path.decisions) b) ≡ Less
combinations_of-rise t i j a b less here there =
    slice_cmp-map (slice_cmp nat_cmp) (λ (path : Path). path.decisions) a b
    ∙ product-rises path_cmp path_cmp-same (paths_of_agents 0 t.agents)
    (λ k list at.
    let inside : k < length t.agents = omega (arith, slice_get_within (paths_of_agents 0 t.agents) k list at, length-paths_of_agents 0 t.agents) in
    let same : Some (agent_paths t k) ≡ Some list = sym (slice_get-agent_paths t k inside) ∙ at in
    let is : agent_paths t k ≡ list = cc in
    subst (λ (l : List Path). Rises path_cmp l) is (paths_of-rise k (agent_of t k).body))
    i j a b less here there

pub lists_combinations : (t : Litmus) → ListsCombinations t
lists_combinations t = record { only = combinations_of-known t; all = combinations_of-found t; rising = combinations_of-rise t }
