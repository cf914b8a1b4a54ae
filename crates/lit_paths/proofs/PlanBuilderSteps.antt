-- Counting over the agents of a test, and what the counts say of its combinations.
use Rattle.std.proofs.Common.{◌≡◌, ◌⊎◌, ℕ, zero, suc, ◌+◌, ◌*◌, ◌<◌, ◌≤◌, true, false, List, [], ◌∷◌, ◌++◌, length, drop, get_or, slice_get, Some, arith, refl, sym, ap, ◌∙◌, subst, min, inl, inr, ⊎_elim, append_assoc, append-nil, length-append, mul-le-mul}
use Rattle.std.specs.Prelude.{MatchOption, Option, None, Any}
use Rattle.std.proofs.lemmas.Bool.{cases_lt}
use Rattle.std.proofs.lemmas.List.{drop_more, drop_all}
use Rattle.std.proofs.lemmas.Option.{slice_get_within, slice_get-get_or, get_or_from_slice_get}
use Rattle.lit_syntax.specs.Syntax.{Litmus, Agent, Statement, Statements, Load, Store, Exchange, CompareExchange, If, End, Then, agent_of}
use Rattle.lit_paths.specs.declared.limits.TheConstants.{ACCESS_LIMIT, COMBINATION_LIMIT, CHOICE_LIMIT}
use Rattle.lit_paths.specs.declared.fault.PlanFault.{PlanFault}
use Rattle.lit_paths.specs.declared.fault.PlanFault.TheVariants.{OutOfMemory, TooManyChoices}
use Rattle.lit_paths.specs.Path.{Path, Step, LoadMet, StoreMet, ExchangeMet, CompareExchangeMet, IfMet, walks_of, events_on, path_on}
use Rattle.lit_paths.specs.Members.{IsStatementWalk, IsWalk, IsPath}
use Rattle.lit_paths.specs.Choice.{combinations_of, choices_of}
use Rattle.lit_paths.specs.Plan.{IsPlanFault}
use Rattle.lit_paths.specs.Refusal.{accesses_on, HasFewEvents}
use Rattle.lit_paths.specs.Internal.Walks.{longest, statement_longest, longest_of, count_of}
use Rattle.lit_paths.proofs.Walks.{walks_of-some}
use Rattle.lit_paths.proofs.PathLists.{combinations_of-known, combinations_of-found}
use Rattle.lit_paths.proofs.AgentPaths.{count_of-some}
use Rattle.lit_paths.proofs.Counts.{capped_factor}
use Rattle.lit_paths.proofs.Combined.{count_of-left}
use Rattle.lit_paths.proofs.CombinedPaths.{events-longest}

-- ---- the loops over the agents
pub longest_of-left : (t : Litmus) (i : ℕ) → i < length t.agents → longest_of (drop i t.agents) ≡ longest (agent_of t i).body + longest_of (drop (i + 1) t.agents)
longest_of-left t i inside = ap longest_of (drop_more t.agents i _ inside)

abbrev pub IsSummed : ℕ → Litmus → ℕ → ℕ → Type 0
IsSummed k t i count = (count ≤ k) × (min (count + longest_of (drop i t.agents)) k ≡ min (longest_of t.agents) k)

pub summed_more : (k : ℕ) (t : Litmus) (i count way next : ℕ) → i < length t.agents → way ≡ min (longest (agent_of t i).body) k → next ≡ min (count + way) k
    → IsSummed k t i count → IsSummed k t (i + 1) next
summed_more k t i count way next inside measured put before =
    (omega (arith, put), omega (arith, longest_of-left t i inside, measured, put, before.1))

pub summed_end : (k : ℕ) (t : Litmus) (i count : ℕ) → length t.agents ≤ i → IsSummed k t i count → count ≡ min (longest_of t.agents) k
summed_end k t i count past is =
    let none : longest_of (drop i t.agents) ≡ 0 = ap longest_of (drop_all i t.agents past) in
    omega (arith, none, is.0, is.1)

pub record IsMultiplied (k : ℕ) (t : Litmus) (i count : ℕ) : Type 0 where
  pub some : 1 ≤ count
  pub few : count ≤ k
  pub whole : min (count * count_of (drop i t.agents)) k ≡ min (count_of t.agents) k

pub multiplied_none : (k : ℕ) (t : Litmus) → 1 ≤ k → IsMultiplied k t 0 1
multiplied_none k t one = record { some = omega arith; few = one; whole = ap (λ n. min n k) (omega arith) }

pub multiplied_more : (k : ℕ) (t : Litmus) (i count ways next : ℕ) → 1 ≤ k → i < length t.agents → ways ≡ min (length (walks_of (agent_of t i).body)) k → next ≡ min (count * ways) k
    → IsMultiplied k t i count → IsMultiplied k t (i + 1) next
multiplied_more k t i count ways next one inside counted put before =
    let s : ℕ = length (walks_of (agent_of t i).body) in
    let rest : ℕ = count_of (drop (i + 1) t.agents) in
    let some : 1 ≤ s = walks_of-some (agent_of t i).body in
    let put_more : next ≡ min (count * min s k) k = put ∙ ap (λ w. min (count * w) k) counted in
    let up : 1 * 1 ≤ count * min s k = mul-le-mul before.some (let le : 1 ≤ min s k = omega (arith, some, one) in le) in
    record {
      some = omega (arith, put_more, up, one);
      few = omega (arith, put_more);
      whole = ap (λ n. min (n * rest) k) put_more ∙ capped_factor k count s rest before.some some (count_of-some (drop (i + 1) t.agents))
          ∙ ap (λ n. min (count * n) k) (sym (count_of-left t i inside)) ∙ before.whole;
    }

pub multiplied_end : (k : ℕ) (t : Litmus) (i count : ℕ) → length t.agents ≤ i → IsMultiplied k t i count → count ≡ min (count_of t.agents) k
multiplied_end k t i count past is =
    let one : count_of (drop i t.agents) ≡ 1 = ap count_of (drop_all i t.agents past) in
    let whole : min (count * 1) k ≡ min (count_of t.agents) k = ap (λ n. min (count * n) k) (sym one) ∙ is.whole in
    omega (arith, whole, is.few)

-- ---- the longest walks are walks
pub record IsLongest (owner : ℕ) (ss : Statements) : Type 0 where
  pub steps : List Step
  pub walked : IsWalk ss steps
  pub long : (place : ℕ) (rest : List Step) (n : ℕ) → ((p : ℕ) → n ≤ length (events_on owner p rest)) → longest ss + n ≤ length (events_on owner place (steps ++ rest))

pub record IsLongestWay (owner : ℕ) (s : Statement) : Type 0 where
  pub steps : List Step
  pub walked : IsStatementWalk s steps
  pub long : (place : ℕ) (rest : List Step) (n : ℕ) → ((p : ℕ) → n ≤ length (events_on owner p rest)) → statement_longest s + n ≤ length (events_on owner place (steps ++ rest))

mutual
  longest_way : (owner : ℕ) (s : Statement) → IsLongestWay owner s
  longest_way owner (Load reg window index atomic) = record { steps = LoadMet reg window index atomic ∷ []; walked = refl; long = λ place rest n more. omega (arith, more (place + 1)) }
  longest_way owner (Store window index value atomic) = record { steps = StoreMet window index value atomic ∷ []; walked = refl; long = λ place rest n more. omega (arith, more (place + 1)) }
  longest_way owner (Exchange reg window index value) = record { steps = ExchangeMet reg window index value ∷ []; walked = refl; long = λ place rest n more. omega (arith, more (place + 1)) }
  longest_way owner (CompareExchange reg window index expected value) =
      record { steps = CompareExchangeMet reg window index expected value true ∷ []; walked = (true, refl); long = λ place rest n more. omega (arith, more (place + 1)) }
  longest_way owner (If reg equal value body other) =
      let first = longest_walk owner body in
      let second = longest_walk owner other in
      ⊎_elim
      (λ less. record {
        steps = IfMet reg equal value false ∷ second.steps;
        walked = inr (second.steps, refl, second.walked);
        long = λ place rest n more. omega (arith, second.long place rest n more, less);
      })
      (λ more_or_same. record {
        steps = IfMet reg equal value true ∷ first.steps;
        walked = inl (first.steps, refl, first.walked);
        long = λ place rest n more. omega (arith, first.long place rest n more, more_or_same);
      })
      (cases_lt (longest body) (longest other))

  longest_walk : (owner : ℕ) (ss : Statements) → IsLongest owner ss
  longest_walk owner End = record { steps = []; walked = refl; long = λ place rest n more. omega (arith, more place) }
  longest_walk owner (Then s ss) =
      let first = longest_way owner s in
      let later = longest_walk owner ss in
      record {
        steps = first.steps ++ later.steps;
        walked = (first.steps, later.steps, refl, first.walked, later.walked);
        long = λ place rest n more.
            omega (
              arith,
              first.long place (later.steps ++ rest) (longest ss + n) (λ p. later.long p rest n more),
              ap (λ (l : List Step). length (events_on owner place l)) (append_assoc first.steps later.steps rest),
            );
      }

abbrev nobody : Agent
nobody = record { name = []; body = End }

-- a path for each of these agents, of which the first has this number
abbrev AreFrom : ℕ → List Agent → List Path → Type 0
AreFrom n [] paths = paths ≡ []
AreFrom n (a ∷ agents) [] = ⊥
AreFrom n (a ∷ agents) (p ∷ paths) = IsPath n a.body p × AreFrom (n + 1) agents paths

longest_paths : (n : ℕ) (agents : List Agent) → (paths : List Path) × AreFrom n agents paths × (longest_of agents ≤ length (accesses_on paths))
longest_paths n [] = ([], refl, omega arith)
longest_paths n (a ∷ agents) =
    let here = longest_walk n a.body in
    let none : List Step = [] in
    let path : Path = path_on n here.steps in
    let later = longest_paths (n + 1) agents in
    let long : longest a.body + 0 ≤ length (events_on n 0 (here.steps ++ none)) = here.long 0 none 0 (λ p. omega arith) in (
      path ∷ later.0,
      (record { steps = here.steps; walked = here.walked; taken = refl }, later.1),
      omega (arith, long, ap (λ (l : List Step). length (events_on n 0 l)) (append-nil here.steps), later.2, length-append path.events (accesses_on later.0)),
    )

from_combined : (n : ℕ) (agents : List Agent) (d : Agent) (paths : List Path) → AreFrom n agents paths
    → (length paths ≡ length agents) × ((i : ℕ) (path : Path) → slice_get paths i ≡ Some path → IsPath (n + i) (get_or agents i d).body path)
from_combined n [] d paths are = (ap (λ (ps : List Path). length ps) are, λ i path at. absurd (omega (arith, slice_get_within paths i path at, ap (λ (ps : List Path). length ps) are)))
from_combined n (a ∷ agents) d [] are = absurd are
from_combined n (a ∷ agents) d (p ∷ paths) are =
    let later = from_combined (n + 1) agents d paths are.1 in (
      omega (arith, later.0),
      λ i. elim i as (λ k. (path : Path) → slice_get (p ∷ paths) k ≡ Some path → IsPath (n + k) (get_or (a ∷ agents) k d).body path) [
        | zero ↦ λ path at.
            let same : p ≡ path = cc in
            subst (λ (q : Path). IsPath (n + 0) a.body q) same (subst (λ m. IsPath m a.body p) (let e : n ≡ n + 0 = omega arith in e) are.0)
        | suc k ↦ λ path at. subst (λ m. IsPath m (get_or agents k d).body path) (let e : (n + 1) + k ≡ n + suc k = omega arith in e) (later.1 k path at)
      ],
    )

pub too_many_events : (t : Litmus) → ACCESS_LIMIT < longest_of t.agents → Any (λ paths. ACCESS_LIMIT < length (accesses_on paths)) (combinations_of t)
too_many_events t many =
    let found = longest_paths 0 t.agents in
    let are = from_combined 0 t.agents nobody found.0 found.1 in
    let listed = combinations_of-found t found.0 (record {
      one_each = are.0;
      each = λ i path at. subst (λ m. IsPath m (agent_of t i).body path) (let e : 0 + i ≡ i = omega arith in e) (are.1 i path at);
    }) in (
      listed.0,
      found.0,
      slice_get_within (combinations_of t) listed.0 found.0 listed.1,
      get_or_from_slice_get (combinations_of t) listed.0 found.0 found.0 listed.1,
      omega (arith, many, found.2),
    )

-- ---- and no walk is longer
accesses_few : (n : ℕ) (agents : List Agent) (d : Agent) (paths : List Path) → length paths ≡ length agents
    → ((i : ℕ) (path : Path) → slice_get paths i ≡ Some path → IsPath (n + i) (get_or agents i d).body path) → length (accesses_on paths) ≤ longest_of agents
accesses_few n [] d [] same each = omega arith
accesses_few n [] d (p ∷ paths) same each = absurd (omega (arith, same))
accesses_few n (a ∷ agents) d [] same each = absurd (omega (arith, same))
accesses_few n (a ∷ agents) d (p ∷ paths) same each =
    let first : IsPath (n + 0) a.body p = each 0 p refl in
    let short : length p.events ≤ longest a.body =
    omega (arith, events-longest a.body (n + 0) 0 first.steps first.walked, ap (λ (q : Path). length q.events) first.taken) in
    let later = accesses_few (n + 1) agents d paths (omega (arith, same))
    (λ i path at. subst (λ m. IsPath m (get_or agents i d).body path) (let e : n + suc i ≡ (n + 1) + i = omega arith in e) (each (suc i) path at)) in
    omega (arith, short, later, length-append p.events (accesses_on paths))

pub few_events : (t : Litmus) → longest_of t.agents ≤ ACCESS_LIMIT → HasFewEvents t
few_events t few c d inside =
    let paths : List Path = get_or (combinations_of t) c d in
    let combined = combinations_of-known t c paths (slice_get-get_or (combinations_of t) c d inside) in
    omega (
      arith,
      few,
      accesses_few 0 t.agents nobody paths combined.one_each
          (λ i path at. subst (λ m. IsPath m (agent_of t i).body path) (let e : i ≡ 0 + i = omega arith in e) (combined.each i path at)),
    )

-- ---- how many choices a combination has
pub match_count : (r : Option ℕ) (k n m : ℕ) → n ≡ m → MatchOption r (k < n) (λ total. (total ≡ n) × (1 ≤ total) × (total ≤ k)) → MatchOption r (k < m) (λ total. (total ≡ m) × (total ≤ k))
match_count None k n m same h = omega (arith, h, same)
match_count (Some x) k n m same h = (h.0 ∙ same, h.2)

pub not_more : (k n : ℕ) → ((k < n) → ⊥) → n ≤ k
not_more k n h = ⊎_elim (λ more. absurd (h more)) (λ less. less) (cases_lt k n)

pub made_fault : (t : Litmus) (fault : PlanFault) → longest_of t.agents ≤ ACCESS_LIMIT → length (combinations_of t) ≤ COMBINATION_LIMIT
    → (fault ≡ OutOfMemory) ⊎ ((fault ≡ TooManyChoices) × (CHOICE_LIMIT < length (choices_of t))) → IsPlanFault t fault
made_fault t fault short few h =
    ⊎_elim
    (λ memory. subst (λ (f : PlanFault). IsPlanFault t f) (sym memory) (few_events t short, few))
    (λ many. subst (λ (f : PlanFault). IsPlanFault t f) (sym many.0) (few_events t short, few, many.1))
    h
