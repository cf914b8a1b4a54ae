-- The paths of a combination, agent by agent.
use Rattle.std.proofs.Common.{◌≡◌, ℕ, zero, suc, ◌+◌, ◌*◌, ◌/◌, ◌%◌, ◌<◌, ◌≤◌, List, [], ◌∷◌, length, map, drop, get_or, subst, arith, refl, sym, ap, ◌∙◌, mul_assoc, mul-le-mul}
use Rattle.std.specs.Global.{Vec}
use Rattle.std.proofs.lemmas.List.{drop_more, get_or-map, get_or_default, length-map}
use Rattle.lit_syntax.specs.Syntax.{Litmus, Agent, agent_of}
use Rattle.lit_paths.specs.declared.planning.agent_paths.AgentPaths.TheInside.{Inside}
use Rattle.lit_paths.specs.Internal.AllPaths.{AreAllPaths}
use Rattle.lit_paths.specs.Path.{walks_of}
use Rattle.lit_paths.specs.PathModel.{PathModel, path_model}
use Rattle.lit_paths.specs.Internal.Walks.{count_of, walk_at}
use Rattle.lit_paths.specs.Internal.Combining.{path_models, all_path_models, walk_number}
use Rattle.lit_paths.proofs.Products.{next_places}
use Rattle.lit_paths.proofs.Walks.{walks_of-some}
use Rattle.lit_paths.proofs.AgentPaths.{count_of-some}

length-all_path_models : (n : ℕ) (agents : List Agent) → length (all_path_models n agents) ≡ length agents
length-all_path_models n [] = refl
length-all_path_models n (a ∷ agents) = omega (arith, length-all_path_models (n + 1) agents)

all_path_models-at : (n : ℕ) (agents : List Agent) (i : ℕ) (d : Agent) (e : List PathModel) → i < length agents
    → get_or (all_path_models n agents) i e ≡ path_models (n + i) (get_or agents i d).body
all_path_models-at n [] i d e inside = absurd (omega (arith, inside))
all_path_models-at n (a ∷ agents) zero d e inside = ap (λ m. path_models m a.body) (let s : n ≡ n + 0 = omega arith in s)
all_path_models-at n (a ∷ agents) (suc i) d e inside =
    all_path_models-at (n + 1) agents i d e (omega (arith, inside)) ∙ ap (λ m. path_models m (get_or agents i d).body) (let s : (n + 1) + i ≡ n + suc i = omega arith in s)

-- the list of an agent's paths
pub record IsListOf (t : Litmus) (i : ℕ) (paths : List PathModel) : Type 0 where
  pub models : paths ≡ path_models i (agent_of t i).body
  pub count : length paths ≡ length (walks_of (agent_of t i).body)

-- the lists of all agents
abbrev pub AreLists : Litmus → List (Vec PathModel) → Type 0
AreLists t lists = map (λ paths. paths.items) lists ≡ all_path_models 0 t.agents

pub length-lists : (t : Litmus) (lists : List (Vec PathModel)) → AreLists t lists → length lists ≡ length t.agents
length-lists t lists are = sym (length-map lists (λ paths. paths.items)) ∙ ap (λ ls. length ls) are ∙ length-all_path_models 0 t.agents

pub list_at : (t : Litmus) (lists : List (Vec PathModel)) (i : ℕ) (v : Vec PathModel) → AreLists t lists → i < length t.agents → v ≡ get_or lists i v → IsListOf t i v.items
list_at t lists i v are inside at =
    let none : List PathModel = [] in
    let items : Vec PathModel → List PathModel = λ paths. paths.items in
    let models : v.items ≡ path_models i (agent_of t i).body =
    ap items at ∙ sym (get_or-map items lists i v none (omega (arith, inside, length-lists t lists are))) ∙ ap (λ ls. get_or ls i none) are
    ∙ all_path_models-at 0 t.agents i (agent_of t i) none inside ∙ same inside in
    record { models = models; count = ap (λ l. length l) models ∙ length-map (walks_of (agent_of t i).body) (path_model i) }
  where
    same : i < length t.agents → path_models (0 + i) (get_or t.agents i (agent_of t i)).body ≡ path_models i (agent_of t i).body
    same h = ap (λ m. path_models m (get_or t.agents i (agent_of t i)).body) (let e : 0 + i ≡ i = omega arith in e)
        ∙ ap (λ (a : Agent). path_models i a.body) (get_or_default t.agents i (agent_of t i) _ h)

-- the same of the saved paths of a test
pub lists_here : (p : Inside) → AreAllPaths p → (t : Litmus) → p.test.now ≡ t → length p.lists.items ≡ length t.agents
lists_here p is t view = length-lists p.test.now p.lists.items is.all ∙ ap (λ (s : Litmus). length s.agents) view

pub list_here : (p : Inside) → AreAllPaths p → (t : Litmus) → p.test.now ≡ t → (i : ℕ) (v : Vec PathModel) → i < length t.agents → v ≡ get_or p.lists.items i v → IsListOf t i v.items
list_here p is t view i v inside at =
    subst (λ (s : Litmus). IsListOf s i v.items) view (list_at p.test.now p.lists.items i v is.all (omega (arith, inside, ap (λ (s : Litmus). length s.agents) view)) at)

-- ---- how many combinations there are
pub count_of-drop : (agents : List Agent) (i : ℕ) (d : Agent) → i < length agents → count_of (drop i agents) ≡ length (walks_of (get_or agents i d).body) * count_of (drop (i + 1) agents)
count_of-drop agents i d inside = ap count_of (drop_more agents i d inside)

pub count_of-left : (t : Litmus) (i : ℕ) → i < length t.agents → count_of (drop i t.agents) ≡ length (walks_of (agent_of t i).body) * count_of (drop (i + 1) t.agents)
count_of-left t i inside = count_of-drop t.agents i _ inside

pub later_step : (t : Litmus) (i count ways all : ℕ) → i < length t.agents → ways ≡ length (walks_of (agent_of t i).body) → count * count_of (drop i t.agents) ≡ all
    → (count * ways) * count_of (drop (i + 1) t.agents) ≡ all
later_step t i count ways all inside is before =
    mul_assoc count ways (count_of (drop (i + 1) t.agents)) ∙ ap (λ w. count * (w * count_of (drop (i + 1) t.agents))) is ∙ ap (λ n. count * n) (sym (count_of-left t i inside)) ∙ before

pub later_fits : (t : Litmus) (i count ways all : ℕ) → i < length t.agents → ways ≡ length (walks_of (agent_of t i).body) → count * count_of (drop i t.agents) ≡ all → count * ways ≤ all
later_fits t i count ways all inside is before =
    omega (
      arith,
      later_step t i count ways all inside is before,
      mul-le-mul (let le : count * ways ≤ count * ways = omega arith in le) (count_of-some (drop (i + 1) t.agents)),
    )

-- ---- the path of an agent
pub walk_number-known : (t : Litmus) (c i : ℕ) → walk_number t c i < length (walks_of (agent_of t i).body)
walk_number-known t c i = let some : 0 < length (walks_of (agent_of t i).body) = omega (arith, walks_of-some (agent_of t i).body) in omega (arith, some)

-- the path with a number
pub path_numbered : (t : Litmus) (i number : ℕ) (paths : List PathModel) (d : PathModel) → IsListOf t i paths → number < length (walks_of (agent_of t i).body)
    → get_or paths number d ≡ path_model i (walk_at (agent_of t i).body number)
path_numbered t i number paths d is known =
    ap (λ ps. get_or ps number d) is.models ∙ get_or-map (path_model i) (walks_of (agent_of t i).body) number [] d known

-- ---- the paths of a combination, one agent more
pub next_number : (t : Litmus) (c i count later left : ℕ) → i < length t.agents → count ≡ length (walks_of (agent_of t i).body) → later ≡ count_of (drop i t.agents) → left ≡ later / count
    → (left ≡ count_of (drop (i + 1) t.agents)) × (c / left % count ≡ walk_number t c i)
next_number t c i count later left inside counted behind is =
    let rest : ℕ = count_of (drop (i + 1) t.agents) in
    let whole : later ≡ count * rest = behind ∙ count_of-left t i inside ∙ ap (λ n. n * rest) (sym counted) in
    let some : 0 < later = omega (arith, behind, count_of-some (drop i t.agents)) in
    let next : left ≡ rest = is ∙ next_places later count rest 0 whole some in
    (next, ap (λ n. c / n % count) next ∙ ap (λ n. c / rest % n) counted)
