-- The paths of each agent, one more at a time.
use Rattle.std.proofs.Common.{◌≡◌, ℕ, zero, suc, ◌+◌, ◌<◌, ◌≤◌, List, [], ◌∷◌, ◌++◌, length, map, take, get_or, arith, sym, ap, ◌∙◌, mul-le-mul}
use Rattle.std.proofs.lemmas.List.{map_more, take_all}
use Rattle.std.proofs.lemmas.Option.{slice_get-get_or}
use Rattle.lit_syntax.specs.Syntax.{Statements, Agent, Litmus, IsLitmus, agent_of}
use Rattle.lit_paths.specs.Path.{walks_of}
use Rattle.lit_paths.specs.PathModel.{PathModel, path_model}
use Rattle.lit_paths.specs.Internal.PathSteps.{empty_path, with_steps}
use Rattle.lit_paths.specs.Internal.Combining.{path_models, all_path_models}
use Rattle.lit_paths.specs.Internal.Walks.{AreSaid, longest, longest_of, count_of, walk_at}
use Rattle.lit_paths.proofs.PathSteps.{with_steps-model, walk-registers}
use Rattle.lit_paths.proofs.Walks.{walks_of-known, walks_of-some}

-- the first n paths of an agent
abbrev pub AreFirst : ℕ → Statements → ℕ → List PathModel → Type 0
AreFirst owner ss n paths = paths ≡ map (path_model owner) (take n (walks_of ss))

pub first_more : (owner : ℕ) (ss : Statements) (n : ℕ) (paths new : List PathModel) (path : PathModel) → AreSaid ss → n < length (walks_of ss) → AreFirst owner ss n paths
    → new ≡ paths ++ path ∷ [] → path ≡ with_steps owner empty_path (walk_at ss n) → AreFirst owner ss (n + 1) new
first_more owner ss n paths new path said inside are pushed walked =
    let registers = walk-registers said.0 ss (walk_at ss n) said.2 (walks_of-known ss n (walk_at ss n) (slice_get-get_or (walks_of ss) n [] inside)) in
    pushed ∙ ap (λ (ps : List PathModel). ps ++ path ∷ []) are
    ∙ ap (λ (p : PathModel). map (path_model owner) (take n (walks_of ss)) ++ p ∷ []) (walked ∙ with_steps-model owner (walk_at ss n) registers)
    ∙ sym (map_more (path_model owner) (walks_of ss) n [] inside)

pub first_all : (owner : ℕ) (ss : Statements) (n : ℕ) (paths : List PathModel) → length (walks_of ss) ≤ n → AreFirst owner ss n paths → paths ≡ path_models owner ss
first_all owner ss n paths past are = are ∙ ap (λ ws. map (path_model owner) ws) (take_all n (walks_of ss) past)

all_path_models_more : (n : ℕ) (agents : List Agent) (i : ℕ) (d : Agent) → i < length agents
    → all_path_models n (take (i + 1) agents) ≡ all_path_models n (take i agents) ++ path_models (n + i) (get_or agents i d).body ∷ []
all_path_models_more n [] i d inside = absurd (omega (arith, inside))
all_path_models_more n (a ∷ agents) zero d inside = ap (λ m. path_models m a.body ∷ []) (let e : n ≡ n + 0 = omega arith in e)
all_path_models_more n (a ∷ agents) (suc i) d inside =
    let at : suc i + 1 ≡ suc (i + 1) = omega arith in
    ap (λ m. all_path_models n (take m (a ∷ agents))) at
    ∙ ap (λ (ls : List (List PathModel)). path_models n a.body ∷ ls) (all_path_models_more (n + 1) agents i d (omega (arith, inside)))
    ∙ ap (λ m. path_models n a.body ∷ all_path_models (n + 1) (take i agents) ++ path_models m (get_or agents i d).body ∷ []) (let e : (n + 1) + i ≡ n + suc i = omega arith in e)

-- ---- limits of one agent
pub longest-agent : (agents : List Agent) (i : ℕ) (d : Agent) → i < length agents → longest (get_or agents i d).body ≤ longest_of agents
longest-agent [] i d inside = absurd (omega (arith, inside))
longest-agent (a ∷ agents) zero d inside = omega arith
longest-agent (a ∷ agents) (suc i) d inside = omega (arith, longest-agent agents i d (omega (arith, inside)))

pub count_of-some : (agents : List Agent) → 1 ≤ count_of agents
count_of-some [] = omega arith
count_of-some (a ∷ agents) = omega (arith, mul-le-mul (walks_of-some a.body) (count_of-some agents))

pub count-agent : (agents : List Agent) (i : ℕ) (d : Agent) → i < length agents → length (walks_of (get_or agents i d).body) ≤ count_of agents
count-agent [] i d inside = absurd (omega (arith, inside))
count-agent (a ∷ agents) zero d inside = omega (arith, mul-le-mul (let le : length (walks_of a.body) ≤ length (walks_of a.body) = omega arith in le) (count_of-some agents))
count-agent (a ∷ agents) (suc i) d inside =
    omega (arith, count-agent agents i d (omega (arith, inside)), mul-le-mul (walks_of-some a.body) (let le : count_of agents ≤ count_of agents = omega arith in le))

pub AreSaid-agent : (t : Litmus) (i : ℕ) → IsLitmus t → i < length t.agents → AreSaid (agent_of t i).body
AreSaid-agent t i litmus inside = (t.bytes, litmus.block, litmus.bodies i inside)

-- ---- the same of a test
pub longest-agent_of : (t : Litmus) (i : ℕ) → i < length t.agents → longest (agent_of t i).body ≤ longest_of t.agents
longest-agent_of t i inside = longest-agent t.agents i _ inside

pub count-agent_of : (t : Litmus) (i : ℕ) → i < length t.agents → length (walks_of (agent_of t i).body) ≤ count_of t.agents
count-agent_of t i inside = count-agent t.agents i _ inside

pub all_path_models_next : (t : Litmus) (i : ℕ) → i < length t.agents
    → all_path_models 0 (take (i + 1) t.agents) ≡ all_path_models 0 (take i t.agents) ++ path_models i (agent_of t i).body ∷ []
all_path_models_next t i inside =
    all_path_models_more 0 t.agents i _ inside
    ∙ ap (λ m. all_path_models 0 (take i t.agents) ++ path_models m (agent_of t i).body ∷ []) (let e : 0 + i ≡ i = omega arith in e)
