-- The outcome of an execution: the last value of each register that is written anywhere in its agent's text, and the
-- value of the condition on it (this project's own).
use Rattle.std.specs.Prelude.{ℕ, ◌==◌, Bool, true, false, cond, not, ◌&&◌, ◌||◌, List}
use Rattle.std.specs.Prelude.{[], ◌∷◌, map, filter, slice_index, slice_index_or}
use Rattle.std.specs.List.{enumerate_from, flat_map, range_with_len, zip}
use Rattle.lit_syntax.specs.declared.limits.TheConstants.{REGISTERS}
use Rattle.lit_syntax.specs.Syntax.{Litmus, Agent, writes, Condition, Conditions, Any, All, Not, Is, NoMore, Also}

-- the registers that the agent with number n writes, rising, each with that number
abbrev pub names_in : ℕ → Agent → List (ℕ × ℕ)
names_in n agent = map (λ reg. (n, reg)) (filter (writes agent.body) (range_with_len 0 REGISTERS))

-- the registers of an outcome, as agent and register: agents in order, registers rising
abbrev pub names_of : Litmus → List (ℕ × ℕ)
names_of t = flat_map (λ agent. names_in agent.0 agent.1) (enumerate_from 0 t.agents)

-- those of agents of which the first has number n
abbrev pub names_from : ℕ → List Agent → List (ℕ × ℕ)
names_from n agents = flat_map (λ agent. names_in agent.0 agent.1) (enumerate_from n agents)

-- the outcome where each agent's registers hold these values at the end
abbrev pub outcome_of : Litmus → List (List ℕ) → List ℕ
outcome_of t registers = map (λ name. slice_index (slice_index_or registers name.0 []) name.1) (names_of t)

-- the value of a register in an outcome, given as pairs of a register and a value
abbrev pub value_in : List ((ℕ × ℕ) × ℕ) → ℕ → ℕ → ℕ
value_in [] agent reg = 0
value_in (p ∷ ps) agent reg = cond ((p.0.0 == agent) && (p.0.1 == reg)) p.1 (value_in ps agent reg)

-- whether a condition holds of these pairs
abbrev mutual
  pub holds : List ((ℕ × ℕ) × ℕ) → Condition → Bool
  holds values (Any cs) = any_holds values cs
  holds values (All cs) = all_hold values cs
  holds values (Not c) = not (holds values c)
  holds values (Is agent reg true value) = value_in values agent reg == value
  holds values (Is agent reg false value) = not (value_in values agent reg == value)

  -- whether one of these holds
  pub any_holds : List ((ℕ × ℕ) × ℕ) → Conditions → Bool
  any_holds values NoMore = false
  any_holds values (Also c cs) = holds values c || any_holds values cs

  -- whether each of these holds
  pub all_hold : List ((ℕ × ℕ) × ℕ) → Conditions → Bool
  all_hold values NoMore = true
  all_hold values (Also c cs) = holds values c && all_hold values cs

-- whether an outcome meets the test's condition
abbrev pub meets : Litmus → List ℕ → Bool
meets t outcome = holds (zip (names_of t) outcome) t.check

-- whether a condition looks at a register of an agent
abbrev mutual
  pub asks : Condition → ℕ → ℕ → Bool
  asks (Any cs) agent reg = some_asks cs agent reg
  asks (All cs) agent reg = some_asks cs agent reg
  asks (Not c) agent reg = asks c agent reg
  asks (Is of r equal value) agent reg = (of == agent) && (r == reg)

  pub some_asks : Conditions → ℕ → ℕ → Bool
  some_asks NoMore agent reg = false
  some_asks (Also c cs) agent reg = asks c agent reg || some_asks cs agent reg
