-- Interleavings (this project's own): the agents of a test carry out their statements in turns, each access at once and
-- on the bytes of the block themselves. A schedule is a list of agents, by their numbers.
use Rattle.std.specs.Prelude.{ℕ, ◌+◌, ◌==◌, if◌then◌else◌, List, [], ◌∷◌, ◌++◌, length, map}
use Rattle.std.specs.Prelude.{take, drop, replicate, slice_index, slice_index_or, slice_set}
use Rattle.std.specs.List.{range_with_len}
use Rattle.lit_syntax.specs.declared.limits.TheConstants.{REGISTERS}
use Rattle.lit_syntax.specs.Syntax.{Window, window_size, Statement, Statements, Load, Store}
use Rattle.lit_syntax.specs.Syntax.{Exchange, CompareExchange, If, End, Then, Agent, Litmus}
use Rattle.lit_paths.specs.Outcome.{outcome_of}
use Rattle.lit_paths.specs.Path.{first_byte, payload_of}
use Rattle.lit_paths.specs.Run.{compares}
use Rattle.lit_rel.specs.ReadsFrom.{composed}

-- ---- the block
-- the number that an access finds in its bytes, the lowest first
abbrev pub number_in : List ℕ → Window → ℕ → ℕ
number_in block window index = composed (take (window_size window) (drop (first_byte window index) block))

-- the block after an access put a number into its bytes
abbrev pub with_number : List ℕ → Window → ℕ → ℕ → List ℕ
with_number block window index value =
    take (first_byte window index) block
    ++ (take (window_size window) (payload_of value) ++ drop (first_byte window index + window_size window) block)

-- ---- what a statement does
-- the block's bytes, and the values of an agent's registers
pub record Contents : Type 0 where
  pub block : List ℕ
  pub registers : List ℕ

-- after a statement, or statements, were carried out to the end
abbrev mutual
  pub after_statement : Statement → Contents → Contents
  after_statement (Load reg window index atomic) c =
      record { block = c.block; registers = slice_set c.registers reg (number_in c.block window index) }
  after_statement (Store window index value atomic) c = record { block = with_number c.block window index value; registers = c.registers }
  after_statement (Exchange reg window index value) c =
      record { block = with_number c.block window index value; registers = slice_set c.registers reg (number_in c.block window index) }
  after_statement (CompareExchange reg window index expected value) c =
      record {
        block = if number_in c.block window index == expected then with_number c.block window index value else c.block;
        registers = slice_set c.registers reg (number_in c.block window index);
      }
  after_statement (If reg equal value body other) c =
      if compares equal (slice_index c.registers reg) value then after body c else after other c

  pub after : Statements → Contents → Contents
  after End c = c
  after (Then s ss) c = after ss (after_statement s c)

-- ---- the next access
-- statements, and then others
abbrev pub joined_statements : Statements → Statements → Statements
joined_statements End others = others
joined_statements (Then s ss) others = Then s (joined_statements ss others)

-- statements whose first one is an access, and then others; where there are none, these instead
abbrev pub access_or : Statements → (others instead : Statements) → Statements
access_or End others instead = instead
access_or (Then s ss) others instead = Then s (joined_statements ss others)

-- The remaining statements from the next access on, by the values of registers: these decide each `if` before it, and the part chosen
-- takes its place. Where no access follows, none remain.
abbrev mutual
  pub from_access_in : List ℕ → Statement → Statements
  from_access_in registers (Load reg window index atomic) = Then (Load reg window index atomic) End
  from_access_in registers (Store window index value atomic) = Then (Store window index value atomic) End
  from_access_in registers (Exchange reg window index value) = Then (Exchange reg window index value) End
  from_access_in registers (CompareExchange reg window index expected value) = Then (CompareExchange reg window index expected value) End
  from_access_in registers (If reg equal value body other) =
      if compares equal (slice_index registers reg) value then from_access registers body else from_access registers other

  pub from_access : List ℕ → Statements → Statements
  from_access registers End = End
  from_access registers (Then s ss) = access_or (from_access_in registers s) ss (from_access registers ss)

-- ---- turns
-- how far an agent has come: its remaining statements, and the values of its registers
pub record Progress : Type 0 where
  pub left : Statements
  pub registers : List ℕ

-- between two turns: the block's bytes, and how far each agent has come
pub record Moment : Type 0 where
  pub block : List ℕ
  pub agents : List Progress

-- how far the agent with a number has come; past the last one, one that has ended
abbrev pub progress_of : Moment → ℕ → Progress
progress_of m agent = slice_index_or m.agents agent (record { left = End; registers = [] })

-- what an agent finds
abbrev pub found_by : Moment → ℕ → Contents
found_by m agent = record { block = m.block; registers = (progress_of m agent).registers }

-- after an agent made these contents, and has these statements left
abbrev pub left_behind : Moment → ℕ → Statements → Contents → Moment
left_behind m agent left c = record { block = c.block; agents = slice_set m.agents agent (record { left = left; registers = c.registers }) }

-- of statements whose first one is an access, that is carried out and the others are left; of none, none is left
abbrev pub accessed : Statements → Contents → Statements × Contents
accessed End c = (End, c)
accessed (Then s ss) c = (ss, after_statement s c)

-- A turn of an agent: its statements up to and including the next access. Where it has no access left, it ends.
abbrev pub after_turn : Moment → ℕ → Moment
after_turn m agent =
    left_behind m agent (accessed (from_access (progress_of m agent).registers (progress_of m agent).left) (found_by m agent)).0
    (accessed (from_access (progress_of m agent).registers (progress_of m agent).left) (found_by m agent)).1

-- an agent carries out all that it has left
abbrev pub after_end : Moment → ℕ → Moment
after_end m agent = left_behind m agent End (after (progress_of m agent).left (found_by m agent))

-- one after the other, for these agents
abbrev pub after_each : (Moment → ℕ → Moment) → Moment → List ℕ → Moment
after_each step m [] = m
after_each step m (agent ∷ agents) = after_each step (step m agent) agents

-- ---- interleavings
-- before the first statement: the block's bytes and the registers are 0
abbrev pub beginning : Litmus → Moment
beginning t = record {
  block = replicate t.bytes 0;
  agents = map (λ (agent : Agent). record { left = agent.body; registers = replicate REGISTERS 0 }) t.agents;
}

-- the turns of a schedule, and then what is left of each agent, in order
abbrev pub ending : Litmus → List ℕ → Moment
ending t schedule = after_each after_end (after_each after_turn (beginning t) schedule) (range_with_len 0 (length t.agents))

-- the outcome of a schedule
abbrev pub interleaved : Litmus → List ℕ → List ℕ
interleaved t schedule = outcome_of t (map (λ (p : Progress). p.registers) (ending t schedule).agents)
